use Rattle.std.proofs.Common.{arith, ◌++◌, ◌∷◌, ◌∙◌}
use Rattle.std.specs.Prelude.{decimal}
use Rattle.store_map.specs.Triples.{placement_text, found_text, triple_text}
use Rattle.transcript_read.specs.Values.{IsTriple}
use Rattle.transcript_read.proofs.PartLaws.{long_lacks, placement_lacks, behind_field, triple_parts, unread_by}
use Rattle.transcript_read.proofs.triple.TripleField.read.Goals as goal

pub first_field-requires : goal.first_field-requires
first_field-requires c = λ n long. long_lacks 47 n (omega arith) long

pub first_field-requires-2 : goal.first_field-requires-2
first_field-requires-2 c = λ p is. placement_lacks 47 p (omega arith) is

pub returns-in_err-placed : goal.returns-in_err-placed
returns-in_err-placed c =
    unread_by IsTriple triple_text c.args.text.now c.from_residual-in_err-placed.result c.in_err-placed.field-0.0 c.from_residual-in_err-placed.ensures.1
    c.in_err-placed.ensures.refused (λ none t is e.
    none t.placed (found_text t.found) is.1
    (behind_field 47 (decimal c.in_ok-server.server) c.in_ok-server.rest.now c.args.text.now (decimal t.server) (placement_text t.placed ++ 47 ∷ found_text t.found)
    (long_lacks 47 c.in_ok-server.server (omega arith) c.in_ok-server.ensures.value) (long_lacks 47 t.server (omega arith) is.0) c.in_ok-server.ensures.found (e ∙ triple_parts t)))

pub returns-in_err-found : goal.returns-in_err-found
returns-in_err-found c =
    unread_by IsTriple triple_text c.args.text.now c.from_residual-in_err-found.result c.in_err-found.field-0.0 c.from_residual-in_err-found.ensures.1
    c.in_err-found.ensures (λ none t is e.
    none t.found is.2
    (behind_field 47 (placement_text c.in_ok-placed.placed) c.in_ok-placed.rest.now c.in_ok-server.rest.now (placement_text t.placed) (found_text t.found)
    (placement_lacks 47 c.in_ok-placed.placed (omega arith) c.in_ok-placed.ensures.value) (placement_lacks 47 t.placed (omega arith) is.1) c.in_ok-placed.ensures.found
    (behind_field 47 (decimal c.in_ok-server.server) c.in_ok-server.rest.now c.args.text.now (decimal t.server) (placement_text t.placed ++ 47 ∷ found_text t.found)
    (long_lacks 47 c.in_ok-server.server (omega arith) c.in_ok-server.ensures.value) (long_lacks 47 t.server (omega arith) is.0) c.in_ok-server.ensures.found (e ∙ triple_parts t))))

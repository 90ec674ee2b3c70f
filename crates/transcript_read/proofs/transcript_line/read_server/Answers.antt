use Rattle.std.proofs.Common.{arith, ◌++◌, ◌∷◌}
use Rattle.std.specs.Prelude.{decimal}
use Rattle.transcript_read.specs.Forms.{IsServerLine}
use Rattle.transcript_read.specs.Bodies.{server_body}
use Rattle.transcript_read.proofs.PartLaws.{behind_field, unread_by, long_lacks, short_lacks}
use Rattle.transcript_read.proofs.transcript_line.read_server.Goals as goal

pub first_field-requires : goal.first_field-requires
first_field-requires c =
    λ n short. short_lacks 32 n (omega arith) short

pub first_field-requires-2 : goal.first_field-requires-2
first_field-requires-2 c =
    λ n long. long_lacks 32 n (omega arith) long

pub first_field-requires-3 : goal.first_field-requires-3
first_field-requires-3 c =
    λ n long. long_lacks 32 n (omega arith) long

pub returns-in_err-taken : goal.returns-in_err-taken
returns-in_err-taken c =
    unread_by IsServerLine server_body c.args.text.now c.from_residual-in_err-taken.result c.in_err-taken.field-0.0 c.from_residual-in_err-taken.ensures.1 c.in_err-taken.ensures.refused (λ none line is e. none line.taken (decimal line.held ++ 32 ∷ decimal line.epoch) is.1 (behind_field 32 (decimal c.in_ok-server.server) c.in_ok-server.rest.now c.args.text.now (decimal line.server) (decimal line.taken ++ 32 ∷ (decimal line.held ++ 32 ∷ decimal line.epoch)) (short_lacks 32 c.in_ok-server.server (omega arith) c.in_ok-server.ensures.value) (short_lacks 32 line.server (omega arith) is.0) c.in_ok-server.ensures.found e))

pub returns-in_err-held : goal.returns-in_err-held
returns-in_err-held c =
    unread_by IsServerLine server_body c.args.text.now c.from_residual-in_err-held.result c.in_err-held.field-0.0 c.from_residual-in_err-held.ensures.1 c.in_err-held.ensures.refused (λ none line is e. none line.held (decimal line.epoch) is.2 (behind_field 32 (decimal c.in_ok-taken.taken) c.in_ok-taken.rest.now c.in_ok-server.rest.now (decimal line.taken) (decimal line.held ++ 32 ∷ decimal line.epoch) (long_lacks 32 c.in_ok-taken.taken (omega arith) c.in_ok-taken.ensures.value) (long_lacks 32 line.taken (omega arith) is.1) c.in_ok-taken.ensures.found (behind_field 32 (decimal c.in_ok-server.server) c.in_ok-server.rest.now c.args.text.now (decimal line.server) (decimal line.taken ++ 32 ∷ (decimal line.held ++ 32 ∷ decimal line.epoch)) (short_lacks 32 c.in_ok-server.server (omega arith) c.in_ok-server.ensures.value) (short_lacks 32 line.server (omega arith) is.0) c.in_ok-server.ensures.found e)))

pub returns-in_err-epoch : goal.returns-in_err-epoch
returns-in_err-epoch c =
    unread_by IsServerLine server_body c.args.text.now c.from_residual-in_err-epoch.result c.in_err-epoch.field-0.0 c.from_residual-in_err-epoch.ensures.1 c.in_err-epoch.ensures (λ none line is e. none line.epoch is.3 (behind_field 32 (decimal c.in_ok-held.held) c.in_ok-held.rest.now c.in_ok-taken.rest.now (decimal line.held) (decimal line.epoch) (long_lacks 32 c.in_ok-held.held (omega arith) c.in_ok-held.ensures.value) (long_lacks 32 line.held (omega arith) is.2) c.in_ok-held.ensures.found (behind_field 32 (decimal c.in_ok-taken.taken) c.in_ok-taken.rest.now c.in_ok-server.rest.now (decimal line.taken) (decimal line.held ++ 32 ∷ decimal line.epoch) (long_lacks 32 c.in_ok-taken.taken (omega arith) c.in_ok-taken.ensures.value) (long_lacks 32 line.taken (omega arith) is.1) c.in_ok-taken.ensures.found (behind_field 32 (decimal c.in_ok-server.server) c.in_ok-server.rest.now c.args.text.now (decimal line.server) (decimal line.taken ++ 32 ∷ (decimal line.held ++ 32 ∷ decimal line.epoch)) (short_lacks 32 c.in_ok-server.server (omega arith) c.in_ok-server.ensures.value) (short_lacks 32 line.server (omega arith) is.0) c.in_ok-server.ensures.found e))))

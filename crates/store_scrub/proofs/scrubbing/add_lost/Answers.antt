use Rattle.std.proofs.Common.{◌≡◌, ℕ, Bool, not, List, [], ◌∷◌, ◌++◌, length, map, filter, ap, ◌∙◌, arith}
use Rattle.std.specs.List.{range_with_len}
use Rattle.std.proofs.lemmas.List.{map-append, length-map}
use Rattle.store_core.specs.Directory.{Directory}
use Rattle.session_rules.specs.declared.session_answer.LostChunk.{LostChunk as Lost}
use Rattle.session_rules.specs.Scrubs.{holds_version}
use Rattle.chunk_server.specs.Core.{core_of}
use Rattle.store_scrub.specs.Lost.{lost_in, places_with}
use Rattle.store_scrub.specs.declared.report.LostChunk.{LostChunk}
use Rattle.store_scrub.proofs.Loops.{number_kept, number_left, lacks_at}
use Rattle.store_scrub.proofs.scrubbing.add_lost.Goals as goal
use Rattle.store_scrub.proofs.scrubbing.add_lost.Goals.{then-lacks+in_ok-copy+in_ok-push, else-lacks}

pub loop-number-preserved : goal.loop-number-preserved
loop-number-preserved c = λ (d : Directory).
    let lost : ℕ → Lost = λ server. record { name = c.args.name.now; stripe = c.args.stripe; server = server } in
    let lack : ℕ → Bool = λ server. not (holds_version (places_with d c.args.servers.now) c.args.version.0 server) in
    let named : List ℕ → Lost = λ name. record { name = name; stripe = c.args.stripe; server = c.loop-number.number } in
    let here : lack c.loop-number.number ≡ c.lacks.result =
    lacks_at c.args.servers.now c.loop-number.number c.index-servers-number.result c.args.version.0 c.lacks.result c.loop-number-test.true c.index-servers-number.is c.lacks.ensures
    in
    elim c.if-lacks.branch [
      | then-lacks+in_ok-copy+in_ok-push w ↦
          let pushed : LostChunk = record { name = w.in_ok-copy.field-0; stripe = c.args.stripe; server = c.loop-number.number } in
          number_kept lost lack (map lost_in c.args.lost.now.items) (map lost_in c.loop-number.lost.items) _ c.loop-number.number (c.loop-number.invariant d) (here ∙ w.if-lacks.true)
          (ap (λ v. map lost_in v.items) w.lost-is ∙ ap (map lost_in) w.in_ok-push.ensures.items ∙ map-append lost_in c.loop-number.lost.items (pushed ∷ [])
          ∙ ap (λ name. map lost_in c.loop-number.lost.items ++ named name ∷ []) w.in_ok-copy.ensures)
      | else-lacks w ↦
          number_left lost lack (map lost_in c.args.lost.now.items) (map lost_in c.loop-number.lost.items) _ c.loop-number.number (c.loop-number.invariant d) (here ∙ w.if-lacks.false)
          (ap (λ v. map lost_in v.items) w.lost-is)
    ]

pub returns : goal.returns
returns c = λ (d : Directory).
    let lost : ℕ → Lost = λ server. record { name = c.args.name.now; stripe = c.args.stripe; server = server } in
    let lack : ℕ → Bool = λ server. not (holds_version (places_with d c.args.servers.now) c.args.version.0 server) in
    let all : c.loop-number.number ≡ length (map core_of c.args.servers.now) =
    let count = length-map c.args.servers.now core_of in omega (arith, c.loop-number-test.false, c.loop-number.auto.number-end, count)
    in
    c.loop-number.invariant d ∙ ap (λ n. map lost_in c.args.lost.now.items ++ map lost (filter lack (range_with_len 0 n))) all

use Rattle.std.proofs.Common.{◌≡◌, ℕ, ◌+◌, ◌<◌, List, [], None, length, map, ap, subst, sym, ◌∙◌, arith}
use Rattle.std.proofs.lemmas.List.{length-map}
use Rattle.clay_grid.specs.Shape.{Shape, chunk_count}
use Rattle.run_laws.specs.States.{prepare_all_state}
use Rattle.write_course.specs.States.{Settled, prepares_or_commits, state_by}
use Rattle.write_course.specs.Writings.{versions_of}
use Rattle.write_course.proofs.Transitions.{begins}
use Rattle.write_course.proofs.writing.Writing.new.Goals as goal

pub returns-clause-state : goal.returns-clause-state
returns-clause-state c =
    let g : Shape = c.args.opening.geometry in
    let versions : List ℕ = versions_of c.args.stamps.items in
    let settled : Settled = record { point = 0; at = 0; server = 0 } in
    let some : 0 < chunk_count c.args.opening.geometry = subst (λ (g : Shape). 0 < chunk_count g) c.geometry.ensures (omega (arith, c.n.ensures.geometry.limits.data_chunks)) in
    let doing_is : c.prepares_or_commits-doing.result ≡ prepares_or_commits 0 (length (versions_of c.args.stamps.items))
    = c.prepares_or_commits-doing.ensures ∙ ap (prepares_or_commits 0) (c.len.ensures ∙ c.args.stamps.ok.0 ∙ sym (length-map c.args.stamps.items (λ stamp. stamp.version))) in
    let rows_are : map (λ row. row.items) c.new.result.items ≡ [] = ap (map (λ row. row.items)) c.new.ensures.items in
    let first : c.args.first + 0 ≡ c.args.first = omega arith in
    (λ i. state_by (doing_is i) g c.args.first versions (record { rows = rows_are i; work = None }) settled)
    ∙ begins g c.args.first versions some [] settled
    ∙ ap (λ n. prepare_all_state g versions n versions []) first

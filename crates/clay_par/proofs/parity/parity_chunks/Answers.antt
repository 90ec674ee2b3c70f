use Rattle.std.proofs.Common.{◌≡◌, length, ◌∙◌, arith}
use Rattle.rayon.proofs.ListFacts.{IfOk-then}
use Rattle.clay_grid.specs.Shape.{row_count}
use Rattle.clay_par.specs.Groups.{IsRow}
use Rattle.clay_par.proofs.Makes.{made_each, made_count}
use Rattle.clay_par.proofs.parity.parity_chunks.Goals as goal

pub returns-clause-rows : goal.returns-clause-rows
returns-clause-rows g c = IfOk-then c.all_made.result _ _ c.all_made.ensures (λ chunks are x hx.
    let shape = c.args.g in
    let results = c.in_ok-rows.rows.items in
    let counted : length chunks.items ≡ row_count shape = made_count results chunks.items are ∙ c.in_ok-rows.ensures.count in
    made_each (λ k l. IsRow shape c.args.groups.now k l) results chunks.items are (λ k d hk. c.in_ok-rows.ensures.each k d (omega (arith, hk, counted))) x (omega (arith, hx, counted)))

use Rattle.std.proofs.Common.{◌≡◌, ◌≤◌, ◌↔◌, true, not, eqb, List, Bool, length, refl, ap, subst, ◌∙◌}
use Rattle.std.proofs.lemmas.List.{length-map}
use Rattle.clay_grid.specs.Shape.{chunk_count}
use Rattle.lost_layers.specs.Without.{gone_count}
use Rattle.lost_read.specs.There.{gone_with}
use Rattle.lost_read.proofs.Marked.{few_by_fault}
use Rattle.lost_read.proofs.there.are_few.Goals as goal

pub returns-in-Ok : goal.returns-in-Ok
unfolding gone_with
returns-in-Ok c = (λ _. subst (λ l. gone_count c.args.g c.args.run l ≤ c.args.g.parity_count) c.mark_there.ensures c.in-Ok.ensures.readable.few, λ _. refl)

pub returns-in-Err : goal.returns-in-Err
unfolding gone_with
returns-in-Err c =
    let there : List Bool = c.mark_there.new.there in
    let marks : length there ≡ chunk_count c.args.g = ap length c.mark_there.ensures ∙ length-map c.args.present.now (λ mark. not (eqb mark 0)) ∙ c.requires.marks in
    subst (λ l. (not c.is_too_few.result ≡ true) ↔ (gone_count c.args.g c.args.run l ≤ c.args.g.parity_count)) c.mark_there.ensures
    (few_by_fault c.args.g c.args.run there c.in-Err.fault c.is_too_few.result c.requires.run marks c.in-Err.ensures.refused c.is_too_few.ensures)

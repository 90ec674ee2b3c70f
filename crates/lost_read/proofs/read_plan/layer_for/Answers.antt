use Rattle.std.proofs.Common.{subst, sym, ◌∙◌}
use Rattle.clay_model.specs.Partners.{ArePartners}
use Rattle.lost_read.proofs.ReadLaws.{mate_solved}
use Rattle.lost_read.proofs.read_plan.layer_for.Goals as goal

pub returns-clause-solved : goal.returns-clause-solved
returns-clause-solved c =
    let placed = c.args.placed.now in
    let is = c.requires.placed in
    let p = c.partner_of.result in
    (mate_solved placed.g placed.run c.args.z p.node p.layer is.geometry is.run c.requires.layer c.requires.wanted
    (subst (λ v. ArePartners placed.g v c.args.z p.node p.layer) is.node c.partner_of.ensures.partners) c.partner_of.ensures.in_layers (sym c.is_solved.ensures ∙ c.if-is_solved.false)).solved

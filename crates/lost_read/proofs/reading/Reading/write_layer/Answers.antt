use Rattle.std.proofs.Common.{true, subst, sym, ap, ◌∙◌}
use Rattle.clay_model.specs.Partners.{ArePartners}
use Rattle.code_laws.proofs.Vertices.{alone_value}
use Rattle.lost_layers.specs.LostLayers.{is_unknown}
use Rattle.lost_layers.proofs.PieceLaws.{lost_unknown}
use Rattle.lost_read.proofs.ReadLaws.{alone_solved}
use Rattle.lost_read.proofs.reading.Reading.write_layer.Goals as goal

pub solve-requires-clause-solved : goal.solve-requires-clause-solved
solve-requires-clause-solved c =
    let placed = c.args.self.now.plan.now.placed in
    let is = c.requires.reading.planned.placed_is in
    let p = c.partner_of-mate.result in
    alone_solved placed.g placed.run c.args.z p.node p.layer is.geometry is.run c.requires.layer c.requires.wanted
    (subst (λ v. ArePartners placed.g v c.args.z p.node p.layer) is.node c.partner_of-mate.ensures.partners) c.partner_of-mate.ensures.in_layers (c.if-mate-placed.true ∙ is.node)

pub solve-requires-clause-unknown : goal.solve-requires-clause-unknown
solve-requires-clause-unknown c =
    let placed = c.args.self.now.plan.now.placed in
    ap (is_unknown placed.g placed.run c.args.z) c.requires.reading.planned.placed_is.node ∙ lost_unknown placed.g placed.run c.args.z

pub returns-then-mate-placed : goal.returns-then-mate-placed
returns-then-mate-placed c =
    let placed = c.args.self.now.plan.now.placed in
    let p = c.partner_of-mate.result in
    λ word fits b h.
    c.solve.ensures word fits b h
    ∙ sym (alone_value placed.g placed.node c.args.z p.node p.layer c.partner_of-mate.ensures.partners word fits.codeword b c.if-mate-placed.true)

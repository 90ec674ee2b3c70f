use Rattle.std.proofs.Common.{◌<◌, length, subst, sym, ap, ◌∙◌, arith, bit_xor}
use Rattle.clay_field.specs.Field.{product, quotient}
use Rattle.clay_model.specs.Partners.{ArePartners}
use Rattle.code_laws.specs.Solved.{coupled_byte}
use Rattle.code_laws.proofs.Vertices.{coupled_from_partner}
use Rattle.lost_layers.specs.LostLayers.{is_unknown}
use Rattle.lost_layers.proofs.PieceLaws.{lost_unknown}
use Rattle.lost_read.proofs.ReadLaws.{mate_read, mate_solved, crossed_mate}
use Rattle.lost_read.proofs.reading.Reading.write_paired.Goals as goal

pub piece-theirs-requires-clause-read : goal.piece-theirs-requires-clause-read
piece-theirs-requires-clause-read c =
    let placed = c.args.self.now.plan.now.placed in
    let is = c.requires.reading.planned.placed_is in
    let mate = c.args.mate in
    mate_read placed.g placed.run c.args.z mate.node mate.layer is.geometry is.run c.requires.layer c.requires.wanted
    (subst (λ v. ArePartners placed.g v c.args.z mate.node mate.layer) is.node c.requires.mate.partners) c.requires.mate.in_layers (λ e. c.requires.other (e ∙ sym is.node))

pub solve-requires-clause-unknown : goal.solve-requires-clause-unknown
solve-requires-clause-unknown c =
    let placed = c.args.self.now.plan.now.placed in
    ap (is_unknown placed.g placed.run c.args.z) c.requires.reading.planned.placed_is.node ∙ lost_unknown placed.g placed.run c.args.z

pub solve-requires-else-is_solved-clause-solved : goal.solve-requires-else-is_solved-clause-solved
solve-requires-else-is_solved-clause-solved c =
    let placed = c.args.self.now.plan.now.placed in
    let is = c.requires.reading.planned.placed_is in
    let mate = c.args.mate in
    (mate_solved placed.g placed.run c.args.z mate.node mate.layer is.geometry is.run c.requires.layer c.requires.wanted
    (subst (λ v. ArePartners placed.g v c.args.z mate.node mate.layer) is.node c.requires.mate.partners) c.requires.mate.in_layers (sym c.is_solved.ensures ∙ c.if-is_solved.false)).solved

pub solve-requires-else-is_solved-clause-unknown : goal.solve-requires-else-is_solved-clause-unknown
solve-requires-else-is_solved-clause-unknown c =
    let placed = c.args.self.now.plan.now.placed in
    let is = c.requires.reading.planned.placed_is in
    let mate = c.args.mate in
    (mate_solved placed.g placed.run c.args.z mate.node mate.layer is.geometry is.run c.requires.layer c.requires.wanted
    (subst (λ v. ArePartners placed.g v c.args.z mate.node mate.layer) is.node c.requires.mate.partners) c.requires.mate.in_layers (sym c.is_solved.ensures ∙ c.if-is_solved.false)).unknown

pub returns-then-is_solved : goal.returns-then-is_solved
returns-then-is_solved c =
    let placed = c.args.self.now.plan.now.placed in
    let mate = c.args.mate in
    λ word fits b h.
    let long : b < length c.uncouple.new.out = omega arith in
    c.uncouple.ensures b long
    ∙ (λ k. bit_xor (c.solve.ensures word fits b h k) (product 2 (c.piece-theirs.ensures.value word fits b h k)))
    ∙ sym (coupled_from_partner placed.g placed.node c.args.z mate.node mate.layer c.requires.mate.partners word fits.codeword b c.requires.other)

pub returns-else-is_solved : goal.returns-else-is_solved
returns-else-is_solved c =
    let placed = c.args.self.now.plan.now.placed in
    let is = c.requires.reading.planned.placed_is in
    let mate = c.args.mate in
    λ word fits b h.
    let long : b < length c.cross.new.out = omega arith in
    c.cross.ensures b long
    ∙ (λ k. quotient (bit_xor (c.solve-else-is_solved.ensures word fits b h k) (c.piece-theirs.ensures.value word fits b h k)) 2)
    ∙ sym (crossed_mate placed.g placed.run c.args.z mate.node mate.layer is.geometry is.run c.requires.layer c.requires.wanted
    (subst (λ v. ArePartners placed.g v c.args.z mate.node mate.layer) is.node c.requires.mate.partners) c.requires.mate.in_layers word fits.codeword b (λ e. c.requires.other (e ∙ sym is.node)))
    ∙ ap (λ v. coupled_byte placed.g word b v c.args.z) (sym is.node)

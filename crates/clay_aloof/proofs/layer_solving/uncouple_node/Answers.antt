use Rattle.std.proofs.Common.{◌≡◌, ◌<◌, true, false, length, get_or, sym, ◌∙◌, inl, arith, bit_xor}
use Rattle.std.proofs.lemmas.List.{get_or_read}
use Rattle.clay_field.specs.Field.{product}
use Rattle.clay_aloof.specs.Solved.{IsIn}
use Rattle.clay_aloof.proofs.Vertices.{lower_score, paired_value, value_from_partner}
use Rattle.clay_aloof.proofs.layer_solving.uncouple_node.Goals as goal

pub solved_piece-requires-clause-holds : goal.solved_piece-requires-clause-holds
solved_piece-requires-clause-holds c =
    let g = c.args.g in
    let p = c.args.partner in
    let erased = c.args.plan.now.erased.items in
    let within : p.node < length erased = omega (arith, c.requires.in_grid, c.requires.plan.nodes) in
    let gone : get_or erased p.node false ≡ true = sym (get_or_read erased p.node c.index.result.now within c.index.ensures false) ∙ c.if-index.true in
    let pair = c.requires.partners in
    c.requires.lower p.layer (c.requires.plan.partners c.args.node c.args.z p.node p.layer c.requires.there pair c.requires.in_layers c.requires.listed)
    (inl (lower_score g c.args.node c.args.z p.node p.layer pair erased c.requires.there gone))

pub returns-then-index : goal.returns-then-index
returns-then-index c =
    let g = c.args.g in
    let p = c.args.partner in
    record {
      at = λ code fits b h.
          let long : b < length c.uncouple_from.new.out = omega arith in
          c.uncouple_from.ensures b long
          ∙ (λ k. bit_xor (product 5 ((c.piece-own.ensures.bytes b h ∙ fits.agrees c.args.node c.args.z b c.requires.node c.requires.there c.requires.listed h) k)) (product 2 (c.solved_piece.ensures.value.at code fits b h k)))
          ∙ sym (value_from_partner g c.args.node c.args.z p.node p.layer c.requires.partners code fits.bytes b c.requires.other);
    }

pub returns-else-index : goal.returns-else-index
returns-else-index c =
    let g = c.args.g in
    let p = c.args.partner in
    let erased = c.args.plan.now.erased.items in
    let pair = c.requires.partners in
    let within : p.node < length erased = omega (arith, c.requires.in_grid, c.requires.plan.nodes) in
    let there : get_or erased p.node false ≡ false = sym (get_or_read erased p.node c.index.result.now within c.index.ensures false) ∙ c.if-index.false in
    let listed : IsIn c.args.plan.now.layers.items p.layer =
    c.requires.plan.partners c.args.node c.args.z p.node p.layer c.requires.there pair c.requires.in_layers c.requires.listed in
    record {
      at = λ code fits b h.
          let long : b < length c.uncouple.new.out = omega arith in
          c.uncouple.ensures b long
          ∙ (λ k. bit_xor ((c.piece-own.ensures.bytes b h ∙ fits.agrees c.args.node c.args.z b c.requires.node c.requires.there c.requires.listed h) k)
          (product 2 ((c.piece.ensures.bytes b h ∙ fits.agrees p.node p.layer b c.requires.in_grid there listed h) k)))
          ∙ sym (paired_value g c.args.node c.args.z p.node p.layer pair code fits.bytes b c.requires.other);
    }

use Rattle.std.proofs.Common.{◌<◌, length, get_or, sym, ap, ◌∙◌, arith, bit_xor}
use Rattle.clay_field.specs.Field.{product, quotient}
use Rattle.code_laws.proofs.Vertices.{alone_value, coupled_from_pair}
use Rattle.lost_read.specs.MissingReadings.{run_of}
use Rattle.lost_read.proofs.MissingReadLaws.{node_here, node_unknown, mate_layer_solved, own_from_missing, own_alone}
use Rattle.lost_read.proofs.missing_reading.Reading.write_layer.Goals as goal

pub value-requires-clause-node : goal.value-requires-clause-node
value-requires-clause-node c =
    node_here c.args.self.now c.requires.reading

pub value-requires-clause-unknown : goal.value-requires-clause-unknown
value-requires-clause-unknown c =
    node_unknown c.args.self.now c.requires.reading

pub value-requires-clause-solved : goal.value-requires-clause-solved
value-requires-clause-solved c =
    own_alone c.args.self.now c.requires.reading c.args.z c.partner_of-mate.result c.requires.layer c.requires.wanted (record { partners = c.partner_of-mate.ensures.partners; in_grid = c.partner_of-mate.ensures.in_grid; in_layers = c.partner_of-mate.ensures.in_layers }) c.if-mate-node.true

pub value-requires-clause-holds : goal.value-requires-clause-holds
value-requires-clause-holds c =
    c.requires.values c.args.z c.requires.layer (own_alone c.args.self.now c.requires.reading c.args.z c.partner_of-mate.result c.requires.layer c.requires.wanted (record { partners = c.partner_of-mate.ensures.partners; in_grid = c.partner_of-mate.ensures.in_grid; in_layers = c.partner_of-mate.ensures.in_layers }) c.if-mate-node.true)

pub value-own-requires-clause-node : goal.value-own-requires-clause-node
value-own-requires-clause-node c =
    node_here c.args.self.now c.requires.reading

pub value-own-requires-clause-unknown : goal.value-own-requires-clause-unknown
value-own-requires-clause-unknown c =
    node_unknown c.args.self.now c.requires.reading

pub value-own-requires-clause-solved : goal.value-own-requires-clause-solved
value-own-requires-clause-solved c =
    own_from_missing c.args.self.now c.requires.reading c.args.z c.partner_of-mate.result c.requires.layer c.requires.wanted (record { partners = c.partner_of-mate.ensures.partners; in_grid = c.partner_of-mate.ensures.in_grid; in_layers = c.partner_of-mate.ensures.in_layers }) (sym c.is_missing.ensures ∙ c.if-is_missing.true)

pub value-own-requires-clause-holds : goal.value-own-requires-clause-holds
value-own-requires-clause-holds c =
    c.requires.values c.args.z c.requires.layer (own_from_missing c.args.self.now c.requires.reading c.args.z c.partner_of-mate.result c.requires.layer c.requires.wanted (record { partners = c.partner_of-mate.ensures.partners; in_grid = c.partner_of-mate.ensures.in_grid; in_layers = c.partner_of-mate.ensures.in_layers }) (sym c.is_missing.ensures ∙ c.if-is_missing.true))

pub value-theirs-requires-clause-unknown : goal.value-theirs-requires-clause-unknown
value-theirs-requires-clause-unknown c =
    c.requires.reading.run.erased.missing c.partner_of-mate.result.node (sym c.is_missing.ensures ∙ c.if-is_missing.true)

pub value-theirs-requires-clause-solved : goal.value-theirs-requires-clause-solved
value-theirs-requires-clause-solved c =
    mate_layer_solved c.args.self.now c.requires.reading c.args.z c.partner_of-mate.result c.requires.layer c.requires.wanted (record { partners = c.partner_of-mate.ensures.partners; in_grid = c.partner_of-mate.ensures.in_grid; in_layers = c.partner_of-mate.ensures.in_layers }) (c.requires.reading.run.erased.missing c.partner_of-mate.result.node (sym c.is_missing.ensures ∙ c.if-is_missing.true))

pub value-theirs-requires-clause-holds : goal.value-theirs-requires-clause-holds
value-theirs-requires-clause-holds c =
    c.requires.values c.partner_of-mate.result.layer c.partner_of-mate.ensures.in_layers (mate_layer_solved c.args.self.now c.requires.reading c.args.z c.partner_of-mate.result c.requires.layer c.requires.wanted (record { partners = c.partner_of-mate.ensures.partners; in_grid = c.partner_of-mate.ensures.in_grid; in_layers = c.partner_of-mate.ensures.in_layers }) (c.requires.reading.run.erased.missing c.partner_of-mate.result.node (sym c.is_missing.ensures ∙ c.if-is_missing.true)))

pub write_paired-requires-clause-there : goal.write_paired-requires-clause-there
write_paired-requires-clause-there c =
    sym c.is_missing.ensures ∙ c.if-is_missing.false

pub returns-then-mate-node : goal.returns-then-mate-node
returns-then-mate-node c =
    let node = c.args.self.now.run.now.placed.node in
    let p = c.partner_of-mate.result in
    λ word fits b h.
    ap (λ l. get_or l b 0) c.copy_from_slice.ensures.after
    ∙ c.value.ensures.value word fits b h
    ∙ sym (alone_value (run_of c.args.self.now).g node c.args.z p.node p.layer c.partner_of-mate.ensures.partners word fits.codeword b c.if-mate-node.true)

pub returns-then-is_missing : goal.returns-then-is_missing
returns-then-is_missing c =
    let node = c.args.self.now.run.now.placed.node in
    let p = c.partner_of-mate.result in
    λ word fits b h.
    let long : b < length c.couple.new.out = omega arith in
    c.couple.ensures b long
    ∙ (λ k. quotient (bit_xor (c.value-own.ensures.value word fits b h k) (product 2 (c.value-theirs.ensures.value word fits b h k))) 5)
    ∙ sym (coupled_from_pair (run_of c.args.self.now).g node c.args.z p.node p.layer c.partner_of-mate.ensures.partners word fits.codeword b c.if-mate-node.false)

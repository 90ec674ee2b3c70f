use Rattle.std.proofs.Common.{◌<◌, length, sym, ◌∙◌, arith, bit_xor}
use Rattle.clay_field.specs.Field.{product, quotient}
use Rattle.code_laws.proofs.Vertices.{coupled_from_partner}
use Rattle.lost_read.specs.MissingReadings.{run_of}
use Rattle.lost_read.proofs.MissingReadLaws.{node_here, node_unknown, mate_layer_solved, mate_read, own_from_known, crossed}
use Rattle.lost_read.proofs.missing_reading.Reading.write_paired.Goals as goal

pub piece-theirs-requires-clause-read : goal.piece-theirs-requires-clause-read
piece-theirs-requires-clause-read c = mate_read c.args.self.now c.requires.reading c.args.z c.args.mate c.requires.layer c.requires.wanted c.requires.mate c.requires.there

pub value-solved-requires-clause-solved : goal.value-solved-requires-clause-solved
value-solved-requires-clause-solved c =
    mate_layer_solved c.args.self.now c.requires.reading c.args.z c.args.mate c.requires.layer c.requires.wanted c.requires.mate (sym c.is_unknown.ensures ∙ c.if-is_unknown.true)

pub value-solved-requires-clause-holds : goal.value-solved-requires-clause-holds
value-solved-requires-clause-holds c =
    c.requires.values c.args.mate.layer c.requires.mate.in_layers
    (mate_layer_solved c.args.self.now c.requires.reading c.args.z c.args.mate c.requires.layer c.requires.wanted c.requires.mate (sym c.is_unknown.ensures ∙ c.if-is_unknown.true))

pub value-requires-clause-node : goal.value-requires-clause-node
value-requires-clause-node c = node_here c.args.self.now c.requires.reading

pub value-requires-clause-unknown : goal.value-requires-clause-unknown
value-requires-clause-unknown c = node_unknown c.args.self.now c.requires.reading

pub value-requires-clause-solved : goal.value-requires-clause-solved
value-requires-clause-solved c =
    own_from_known c.args.self.now c.requires.reading c.args.z c.args.mate c.requires.layer c.requires.wanted c.requires.mate (sym c.is_unknown.ensures ∙ c.if-is_unknown.false)

pub value-requires-clause-holds : goal.value-requires-clause-holds
value-requires-clause-holds c =
    c.requires.values c.args.z c.requires.layer
    (own_from_known c.args.self.now c.requires.reading c.args.z c.args.mate c.requires.layer c.requires.wanted c.requires.mate (sym c.is_unknown.ensures ∙ c.if-is_unknown.false))

pub returns-then-is_unknown : goal.returns-then-is_unknown
returns-then-is_unknown c =
    λ word fits b h.
    let long : b < length c.cross.new.out = omega arith in
    c.cross.ensures b long
    ∙ (λ k. quotient (bit_xor (c.value-solved.ensures.value word fits b h k) (c.piece-theirs.ensures.value word fits b h k)) 2)
    ∙ sym (crossed c.args.self.now c.requires.reading c.args.z c.args.mate c.requires.layer c.requires.wanted c.requires.mate word fits.codeword b c.requires.other)

pub returns-else-is_unknown : goal.returns-else-is_unknown
returns-else-is_unknown c =
    let node = c.args.self.now.run.now.placed.node in
    let mate = c.args.mate in
    λ word fits b h.
    let long : b < length c.uncouple.new.out = omega arith in
    c.uncouple.ensures b long
    ∙ (λ k. bit_xor (c.value.ensures.value word fits b h k) (product 2 (c.piece-theirs.ensures.value word fits b h k)))
    ∙ sym (coupled_from_partner (run_of c.args.self.now).g node c.args.z mate.node mate.layer c.requires.mate.partners word fits.codeword b c.requires.other)

use Rattle.std.proofs.Common.{◌≡◌, ◌<◌, true, false, length, sym, ◌∙◌, arith, bit_xor}
use Rattle.clay_field.specs.Field.{product}
use Rattle.code_laws.proofs.Vertices.{lower_score, paired_value, value_from_partner}
use Rattle.lost_layers.proofs.PieceLaws.{some_rows}
use Rattle.lost_layers.specs.ErasedLayers.{is_solved}
use Rattle.lost_layers.specs.Erased.{is_unknown}
use Rattle.lost_layers.proofs.ErasedDetermining.{own_piece}
use Rattle.lost_read.specs.MissingReadings.{run_of}
use Rattle.lost_read.proofs.MissingReadLaws.{lower_solved, theirs_read}
use Rattle.lost_read.proofs.missing_reading.Reading.uncouple_node.Goals as goal

pub piece-own-requires-clause-read : goal.piece-own-requires-clause-read
piece-own-requires-clause-read c =
    let e = run_of c.args.self.now in
    own_piece e (some_rows e.g c.requires.reading.run.placed.geometry) c.args.layer c.args.node c.requires.solved c.requires.known

pub value-requires-clause-solved : goal.value-requires-clause-solved
value-requires-clause-solved c =
    let e = run_of c.args.self.now in
    let p = c.args.partner in
    lower_solved e c.args.node c.args.layer p.node p.layer (some_rows e.g c.requires.reading.run.placed.geometry) c.requires.node c.requires.layer c.requires.partners c.requires.in_layers
    c.requires.solved c.requires.known (sym c.is_unknown.ensures ∙ c.if-is_unknown.true)

pub value-requires-clause-holds : goal.value-requires-clause-holds
value-requires-clause-holds c =
    let e = run_of c.args.self.now in
    let p = c.args.partner in
    let gone : is_unknown e p.node ≡ true = sym c.is_unknown.ensures ∙ c.if-is_unknown.true in
    let solved : is_solved e p.layer ≡ true =
    lower_solved e c.args.node c.args.layer p.node p.layer (some_rows e.g c.requires.reading.run.placed.geometry) c.requires.node c.requires.layer c.requires.partners c.requires.in_layers
    c.requires.solved c.requires.known gone in
    c.requires.lower p.layer c.requires.in_layers solved (lower_score e.g c.args.node c.args.layer p.node p.layer c.requires.partners e.unknown c.requires.known gone)

pub piece-requires-clause-read : goal.piece-requires-clause-read
piece-requires-clause-read c =
    let e = run_of c.args.self.now in
    let p = c.args.partner in
    theirs_read e c.args.node c.args.layer p.node p.layer (some_rows e.g c.requires.reading.run.placed.geometry) c.requires.node c.requires.layer c.requires.partners c.requires.in_layers
    c.requires.solved c.requires.known (sym c.is_unknown.ensures ∙ c.if-is_unknown.false)

pub returns-then-is_unknown : goal.returns-then-is_unknown
returns-then-is_unknown c =
    let g = (run_of c.args.self.now).g in
    let p = c.args.partner in
    λ word fits b h.
    let long : b < length c.uncouple_from.new.out = omega arith in
    c.uncouple_from.ensures b long
    ∙ (λ k. bit_xor (product 5 (c.piece-own.ensures.value word fits b h k)) (product 2 (c.value.ensures.value word fits b h k)))
    ∙ sym (value_from_partner g c.args.node c.args.layer p.node p.layer c.requires.partners word fits.codeword b c.requires.other)

pub returns-else-is_unknown : goal.returns-else-is_unknown
returns-else-is_unknown c =
    let g = (run_of c.args.self.now).g in
    let p = c.args.partner in
    λ word fits b h.
    let long : b < length c.uncouple.new.out = omega arith in
    c.uncouple.ensures b long
    ∙ (λ k. bit_xor (c.piece-own.ensures.value word fits b h k) (product 2 (c.piece.ensures.value word fits b h k)))
    ∙ sym (paired_value g c.args.node c.args.layer p.node p.layer c.requires.partners word fits.codeword b c.requires.other)

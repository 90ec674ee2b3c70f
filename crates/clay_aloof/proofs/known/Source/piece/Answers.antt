use Rattle.std.proofs.Common.{◌+◌, ◌*◌, ◌≤◌, length, IfSome, sym, subst, ap, ◌∙◌}
use Rattle.clay_aloof.specs.Known.{part_byte, source_byte, HasRoom}
use Rattle.clay_aloof.proofs.KnownBytes.{zero_byte}
use Rattle.clay_aloof.proofs.known.Source.piece.Goals as goal

pub whole_piece-requires : goal.whole_piece-requires
whole_piece-requires c = subst (λ s. HasRoom c.args.g s c.args.chunk c.args.place) c.in-Whole.is c.requires.room

pub get-requires-clause-room : goal.get-requires-clause-room
get-requires-clause-room c = (subst (λ s. HasRoom c.args.g s c.args.chunk c.args.place) c.in-Shown.is c.requires.room).0

pub get-requires-clause-number : goal.get-requires-clause-number
get-requires-clause-number c = (subst (λ s. HasRoom c.args.g s c.args.chunk c.args.place) c.in-Shown.is c.requires.room).1

pub part_piece-requires : goal.part_piece-requires
part_piece-requires c =
    let g = c.args.g in
    let room = subst (λ s. HasRoom g s c.args.chunk c.args.place) c.in-Shown.is c.requires.room in
    subst (λ o. IfSome o (λ part. c.args.place * g.width + g.width ≤ length part)) c.in-Some.ensures room.2

pub returns-in-Whole-clause-bytes : goal.returns-in-Whole-clause-bytes
returns-in-Whole-clause-bytes c = λ b hb. c.whole_piece.ensures.bytes b hb ∙ sym (ap (λ s. source_byte c.args.g s c.args.chunk c.args.place b) c.in-Whole.is)

pub returns-in-Some-clause-bytes : goal.returns-in-Some-clause-bytes
returns-in-Some-clause-bytes c = λ b hb.
    c.part_piece.ensures.bytes b hb
    ∙ sym (ap (λ s. source_byte c.args.g s c.args.chunk c.args.place b) c.in-Shown.is ∙ ap (λ o. part_byte c.args.g.width o c.args.place b) c.in-Some.ensures)

pub returns-in-None-clause-bytes : goal.returns-in-None-clause-bytes
returns-in-None-clause-bytes c = λ b hb.
    zero_byte c.args.g.width b c.args.zeros.now c.requires.zeros hb
    ∙ sym (ap (λ s. source_byte c.args.g s c.args.chunk c.args.place b) c.in-Shown.is ∙ ap (λ o. part_byte c.args.g.width o c.args.place b) c.in-None.ensures)

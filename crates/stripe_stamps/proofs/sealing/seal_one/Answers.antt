use Rattle.std.proofs.Common.{ℕ, ◌+◌, length, ap, sym, subst, IfSome, Option, arith, ◌∙◌}
use denote.Ref.{Bor}
use Rattle.version_seal.specs.Entry.{StampOf, IsBaseIn}
use Rattle.version_seal.specs.Room.{HasRoom}
use Rattle.version_seal.specs.Sealer.{SealerOf}
use Rattle.dir_parts.specs.OpenPass.{Open}
use Rattle.stripe_stamps.specs.Sealed.{base_stamp}
use Rattle.stripe_stamps.proofs.StampLists.{base_is, some_read}
use Rattle.stripe_stamps.proofs.sealing.seal_one.Goals as goal

pub seal-requires-clause-its : goal.seal-requires-clause-its
seal-requires-clause-its c = ap (λ (s : SealerOf). s.home) c.requires.sealer

pub seal-requires-clause-room : goal.seal-requires-clause-room
seal-requires-clause-room c = subst (λ (s : SealerOf). HasRoom c.args.drawing.now.book.now s.next c.args.room.now) (sym c.requires.sealer) c.requires.room

pub seal-requires-clause-base : goal.seal-requires-clause-base
seal-requires-clause-base c =
    let book = c.args.drawing.now.book.now in
    let at : ℕ = length c.args.stamps.now + c.args.place in
    let stripe : ℕ = c.args.drawing.now.first + c.args.place in
    subst (λ (s : SealerOf). IfSome c.base_stamp-base.result (λ (b : Bor StampOf). IsBaseIn book s.next stripe b.now)) (sym c.requires.sealer)
    (some_read (λ (r : Bor StampOf). r.now) (IsBaseIn book at stripe) c.base_stamp-base.result
    (subst (λ (o : Option StampOf). IfSome o (IsBaseIn book at stripe))
    (sym (c.base_stamp-base.ensures ∙ ap (λ pins. base_stamp c.args.stamps.now pins stripe) (c.deref.ensures.value ∙ ap (λ (o : Open). o.pass.pinned) c.pass.view_is)))
    (base_is book c.args.stamps.now c.requires.stamps c.args.drawing.now.pass.now.pass.pinned c.requires.bases stripe at (omega arith))))

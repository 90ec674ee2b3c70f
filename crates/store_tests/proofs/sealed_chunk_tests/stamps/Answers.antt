use Rattle.std.proofs.Common.{All, ap, subst, sym}
use Rattle.std.proofs.lemmas.List.Elements.{All-push}
use Rattle.version_seal.specs.Entry.{StampOf}
use Rattle.version_seal.specs.Sealer.{SealerOf}
use Rattle.store_tests.specs.Small.{IsStripeOf}
use Rattle.store_tests.proofs.sealed_chunk_tests.stamps.Goals as goal

pub loop-sealed-preserved : goal.loop-sealed-preserved
loop-sealed-preserved c =
    let P : StampOf → Type 0 = IsStripeOf c.args.book.now in
    let one : P c.in_ok-stamp.field-0 = record { home = c.in_ok-stamp.ensures.stamp.home; content = c.in_ok-stamp.ensures.stamp.content } in
    record {
      stamps = subst (All P) (sym c.in_ok-push.ensures.items) (All-push P c.loop-sealed.stamps.items c.in_ok-stamp.field-0 c.loop-sealed.invariant.stamps one);
      sealer = ap (λ (s : SealerOf). s.home) c.in_ok-stamp.ensures.on;
    }

use Rattle.std.proofs.Common.{ℕ, ◌+◌, ◌∷◌, [], ◌++◌, map, option_map, ap, sym, ◌∙◌, arith}
use Rattle.std.proofs.lemmas.List.{map-append}
use Rattle.std.specs.List.{range_with_len}
use denote.Ref.{Bor}
use Rattle.version_seal.specs.Entry.{StampOf, RequestOf}
use Rattle.dir_parts.proofs.Growing.{range-snoc}
use Rattle.version_seal.specs.Sealer.{sealer_at}
use Rattle.stripe_stamps.specs.Sealed.{drawn_stamp}
use Rattle.stripe_stamps.proofs.sealing.seal_all.Goals as goal

pub loop-i-preserved : goal.loop-i-preserved
loop-i-preserved c =
    let one : ℕ → StampOf = drawn_stamp c.args.drawing.now.book.now c.args.stamps.now c.args.drawing.now.pass.now.pass c.args.drawing.now.first (option_map (λ (r : Bor RequestOf). r.now) c.args.drawing.now.request) in
    record {
      items =
          c.push_reserved.ensures.items ∙ ap (λ l. l ++ c.in-Ok-seal_one.stamp ∷ []) c.loop-i.invariant.items
          ∙ ap (λ stamp. map one (range_with_len 0 c.loop-i.i) ++ stamp ∷ []) c.in-Ok-seal_one.ensures.stamp
          ∙ sym (ap (map one) (range-snoc 0 c.loop-i.i) ∙ map-append one (range_with_len 0 c.loop-i.i) ((0 + c.loop-i.i) ∷ []) ∙ ap (λ n. map one (range_with_len 0 c.loop-i.i) ++ one n ∷ []) (omega arith));
      len = omega (arith, c.push_reserved.ensures.len, c.loop-i.invariant.len);
      room = c.push_reserved.ensures.capacity ∙ c.loop-i.invariant.room;
      sealer = c.in-Ok-seal_one.ensures.on ∙ ap (sealer_at c.args.drawing.now.book.now) (omega arith);
    }

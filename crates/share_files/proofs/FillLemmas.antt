-- What one more read adds to the bytes that stand in a buffer.
use Rattle.std.proofs.Common.{◌≡◌, ◌≤◌, ◌+◌, ◌-◌, ℕ, Option, List, ◌++◌, length, take, sym, ap, ◌∙◌, arith, length-append}
use Rattle.std.proofs.Math.Seq.{take-append-add}
use Rattle.std.proofs.lemmas.List.{length-take-le, take-append-le}
use borrow.Rule.Slice.PartMut.{put_mid, post_of}
use Rattle.clay_bytes.specs.Stream.{Gives}
use Rattle.clay_bytes.proofs.StreamLemmas.{gives-then, and-more}

-- n bytes stand in the part of the buffer behind the first ones
module _ (at n : ℕ) (buf new : List ℕ) (within : at ≤ length buf) where
  pub more_within : n ≤ length new → at + n ≤ length (put_mid at (length buf - at) buf new)
  more_within fits =
      omega (
        arith,
        length-append (take at buf) (new ++ post_of at (length buf - at) buf),
        length-append new
            (post_of at (length buf - at) buf),
        length-take-le at buf within,
      )

  more_taken : n ≤ length new → take (at + n) (put_mid at (length buf - at) buf new) ≡ take at buf ++ take n new
  more_taken fits =
      ap (λ m. take (m + n) (take at buf ++ (new ++ post_of at (length buf - at) buf))) (sym (length-take-le at buf within))
      ∙ take-append-add (take at buf) (new ++ post_of at (length buf - at) buf) n
      ∙ ap (λ l. take at buf ++ l) (take-append-le n new (post_of at (length buf - at) buf) fits)

  pub more_given : (a b c : Option (List ℕ)) → n ≤ length new → Gives a (take at buf) b → Gives b (take n new) c →
      Gives a (take (at + n) (put_mid at (length buf - at) buf new)) c
  more_given a b c fits g h = gives-then a b c (take at buf) (take n new) (take (at + n) (put_mid at (length buf - at) buf new)) g h (more_taken fits)

  pub more_heard : (a b c : List ℕ) → n ≤ length new → b ≡ a ++ take at buf → c ≡ b ++ take n new →
      c ≡ a ++ take (at + n) (put_mid at (length buf - at) buf new)
  more_heard a b c fits g h = and-more a b c (take at buf) (take n new) (take (at + n) (put_mid at (length buf - at) buf new)) g h (more_taken fits)

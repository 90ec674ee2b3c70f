-- What one more read adds to the bytes that stand in a buffer.
use Rattle.std.proofs.Common.{◌≡◌, ◌≤◌, ◌<◌, ◌+◌, ◌-◌, ℕ, Option, None, Some, List, [], ◌++◌, length, take, sym, ap, ◌∙◌, append-nil, arith, length-append}
use Rattle.std.proofs.Math.Seq.{take-append-add}
use Rattle.std.proofs.lemmas.List.{length-take-le, take-append-le, take_at}
use borrow.Rule.Slice.PartMut.{put_mid, post_of}
use Rattle.clay_bytes.specs.Stream.{Gives, Same, HandsOut}
use Rattle.clay_bytes.proofs.StreamLemmas.{gives-then, and-more}
use Rattle.frame_bytes.specs.Filling.{GivesFewer, HandsOutFewer}

gives-same : (a b c : Option (List ℕ)) (xs : List ℕ) → Gives a xs b → Same b c → Gives a xs c
gives-same None b c xs g s = tt
gives-same (Some bytes) None c xs g s = absurd g
gives-same (Some bytes) (Some more) None xs g s = absurd s
gives-same (Some bytes) (Some more) (Some rest) xs g s = g ∙ ap (λ l. xs ++ l) (sym s)

-- n bytes stand in the part of the buffer behind the first ones
module _ (at n : ℕ) (buf new : List ℕ) (within : at ≤ length buf) where
  pub first_kept : at ≤ length (put_mid at (length buf - at) buf new)
  first_kept = omega (arith, length-append (take at buf) (new ++ post_of at (length buf - at) buf), length-take-le at buf within)

  pub more_within : n ≤ length new → at + n ≤ length (put_mid at (length buf - at) buf new)
  more_within fits =
      omega (
        arith,
        length-append (take at buf) (new ++ post_of at (length buf - at) buf),
        length-append new
            (post_of at (length buf - at) buf),
        length-take-le at buf within,
      )

  pub more_taken : n ≤ length new → take (at + n) (put_mid at (length buf - at) buf new) ≡ take at buf ++ take n new
  more_taken fits =
      ap (λ m. take (m + n) (take at buf ++ (new ++ post_of at (length buf - at) buf))) (sym (length-take-le at buf within))
      ∙ take-append-add (take at buf) (new ++ post_of at (length buf - at) buf) n
      ∙ ap (λ l. take at buf ++ l) (take-append-le n new (post_of at (length buf - at) buf) fits)

  pub more_given : (a b c : Option (List ℕ)) → n ≤ length new → Gives a (take at buf) b → Gives b (take n new) c →
      Gives a (take (at + n) (put_mid at (length buf - at) buf new)) c
  more_given a b c fits g h = gives-then a b c (take at buf) (take n new) (take (at + n) (put_mid at (length buf - at) buf new)) g h (more_taken fits)

  pub more_heard : (a b c : List ℕ) → n ≤ length new → b ≡ a ++ take at buf → c ≡ b ++ take n new →
      c ≡ a ++ take (at + n) (put_mid at (length buf - at) buf new)
  more_heard a b c fits g h = and-more a b c (take at buf) (take n new) (take (at + n) (put_mid at (length buf - at) buf new)) g h (more_taken fits)

-- the first bytes stay, whatever stands behind them
same_taken : (at : ℕ) (buf new : List ℕ) → at ≤ length buf → take at (put_mid at (length buf - at) buf new) ≡ take at buf
same_taken at buf new within = take_at (take at buf) (new ++ post_of at (length buf - at) buf) at (omega (arith, length-take-le at buf within))

-- a read that gave none handed out none
pub none_heard : (at : ℕ) (buf new : List ℕ) (a b c : List ℕ) (o p q : Option (List ℕ)) → at ≤ length buf → b ≡ a ++ take at buf → c ≡ b ++ [] →
    Gives o (take at buf) p → Gives p [] q → HandsOut a o (take at (put_mid at (length buf - at) buf new)) c q
none_heard at buf new a b c o p q within g h given none = (
  h ∙ append-nil b ∙ g ∙ ap (λ l. a ++ l) (sym (same_taken at buf new within)),
  gives-then o p q (take at buf) [] (take at (put_mid at (length buf - at) buf new)) given none (same_taken at buf new within ∙ sym (append-nil (take at buf))),
)

-- a read that failed handed out none
pub cut_heard : (at : ℕ) (buf new : List ℕ) (a b c : List ℕ) (o p q : Option (List ℕ)) → at ≤ length buf → 0 < length new → b ≡ a ++ take at buf → c ≡ b →
    Gives o (take at buf) p → Same p q → HandsOutFewer a o (length (put_mid at (length buf - at) buf new)) c q
cut_heard at buf new a b c o p q within some g h given same =
    let kept : at + 1 ≤ length (put_mid at (length buf - at) buf new) = more_within at 1 buf new within some in
    (take at buf, omega (arith, length-take-le at buf within, kept), (h ∙ g, gives-same o p q (take at buf) given same))

-- a read that failed gave none
pub cut_there : (at : ℕ) (buf new : List ℕ) (a b c : Option (List ℕ)) → at ≤ length buf → 0 < length new → Gives a (take at buf) b → Same b c →
    GivesFewer a (length (put_mid at (length buf - at) buf new)) c
cut_there at buf new a b c within some g s =
    let kept : at + 1 ≤ length (put_mid at (length buf - at) buf new) = more_within at 1 buf new within some in
    (take at buf, omega (arith, length-take-le at buf within, kept), gives-same a b c (take at buf) g s)

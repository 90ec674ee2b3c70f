-- Bytes and their positions.
use Rattle.std.proofs.Common.{◌≡◌, ◌≤◌, ◌<◌, ◌+◌, ◌-◌, ℕ, List, [], ◌∷◌, ◌++◌, length, take, drop, Some, slice_get, slice_range, refl, sym, ◌∙◌, ap, arith, append-nil, length-append, add-zero, suc, zero}
use Rattle.std.specs.Prelude.{All}
use Rattle.std.proofs.Math.Seq.{take-append-add}
use Rattle.std.proofs.lemmas.List.{length-take-le, take-append-le, append_assoc, drop_more, drop_at, take_all}
use Rattle.clay_bytes.proofs.StreamLemmas.{take-slice}
use Rattle.std.proofs.lemmas.List.Elements.{All-head, All-tail, All-same, All-drop}
use Rattle.std.proofs.lemmas.Option.{slice_get_within, get_or_from_slice_get}
use borrow.Rule.Slice.PartMut.{put_mid, post_of}
use Rattle.file_bytes.specs.Places.{Placed, placed, placed_from, ends_after}
use Rattle.file_bytes.specs.Logs.{numbers_of, placed_of}

-- the numbers of a log tell the log
pub log_told : (ps : List Placed) → placed_of (numbers_of ps) ≡ ps
log_told [] = refl
log_told (p ∷ ps) = ap (λ rest. placed p.at p.byte ∷ rest) (log_told ps)

-- bytes behind bytes
pub placed_more : (at : ℕ) (xs ys : List ℕ) → placed_from at (xs ++ ys) ≡ placed_from at xs ++ placed_from (at + length xs) ys
placed_more at [] ys = ap (λ n. placed_from n ys) (sym (add-zero at))
placed_more at (x ∷ xs) ys =
    let shifted : at + 1 + length xs ≡ at + length (x ∷ xs) = omega arith in
    ap (λ rest. placed at x ∷ rest) (placed_more (at + 1) xs ys ∙ ap (λ n. placed_from (at + 1) xs ++ placed_from n ys) shifted)

-- a log goes on by bytes, and then by those behind them
pub and_more : (a b c : List Placed) (at : ℕ) (xs ys zs : List ℕ) → b ≡ a ++ placed_from at xs → c ≡ b ++ placed_from (at + length xs) ys →
    zs ≡ xs ++ ys → c ≡ a ++ placed_from at zs
and_more a b c at xs ys zs g h e =
    h ∙ ap (λ l. l ++ placed_from (at + length xs) ys) g ∙ append_assoc a (placed_from at xs) (placed_from (at + length xs) ys)
    ∙ ap (λ l. a ++ l) (sym (placed_more at xs ys)) ∙ ap (λ l. a ++ placed_from at l) (sym e)

-- n bytes stand in the part of the buffer behind the first ones
module _ (done n : ℕ) (buf new : List ℕ) (within : done ≤ length buf) where
  pub more_within : n ≤ length new → done + n ≤ length (put_mid done (length buf - done) buf new)
  more_within fits =
      omega (
        arith,
        length-append (take done buf) (new ++ post_of done (length buf - done) buf),
        length-append new
            (post_of done (length buf - done) buf),
        length-take-le done buf within,
      )

  pub more_taken : n ≤ length new → take (done + n) (put_mid done (length buf - done) buf new) ≡ take done buf ++ take n new
  more_taken fits =
      ap (λ m. take (m + n) (take done buf ++ (new ++ post_of done (length buf - done) buf))) (sym (length-take-le done buf within))
      ∙ take-append-add (take done buf) (new ++ post_of done (length buf - done) buf) n
      ∙ ap (λ l. take done buf ++ l) (take-append-le n new (post_of done (length buf - done) buf) fits)

  pub more_given : (at : ℕ) (a b c : List Placed) → n ≤ length new → b ≡ a ++ placed_from at (take done buf) → c ≡ b ++ placed_from (at + done) (take n new) →
      c ≡ a ++ placed_from at (take (done + n) (put_mid done (length buf - done) buf new))
  more_given at a b c fits g h =
      and_more a b c at (take done buf) (take n new) (take (done + n) (put_mid done (length buf - done) buf new)) g
      (h ∙ ap (λ m. b ++ placed_from (at + m) (take n new)) (sym (length-take-le done buf within))) (more_taken fits)

-- the bytes that a file shows at positions in a row are its own
pub shown_bytes : (file : List ℕ) (at : ℕ) (bytes : List ℕ) → All (λ p. slice_get file p.at ≡ Some p.byte) (placed_from at bytes) →
    bytes ≡ take (length bytes) (drop at file)
shown_bytes file at [] h = refl
shown_bytes file at (b ∷ bytes) h =
    let one : slice_get file at ≡ Some b = All-head (λ p. slice_get file p.at ≡ Some p.byte) (placed at b) (placed_from (at + 1) bytes) h in
    let inside : at < length file = slice_get_within file at b one in
    let rest : bytes ≡ take (length bytes) (drop (at + 1) file) =
    shown_bytes file (at + 1) bytes (All-tail (λ p. slice_get file p.at ≡ Some p.byte) (placed at b) (placed_from (at + 1) bytes) h) in
    sym (
    ap (λ l. take (suc (length bytes)) l) (drop_more file at b inside)
    ∙ ap (λ x. x ∷ take (length bytes) (drop (at + 1) file)) (get_or_from_slice_get file at b b one)
    ∙ ap (λ l. b ∷ l) (sym rest)
    )

-- what stands behind the bytes of a log
pub all_behind : {X : Type 0} (P : X → Type 0) (xs ys zs : List X) → zs ≡ xs ++ ys → All P zs → All P ys
all_behind P xs ys zs e h = All-same P ys (drop (length xs) zs) (sym (ap (λ l. drop (length xs) l) e ∙ drop_at xs ys (length xs) refl)) (All-drop P (length xs) zs h)

-- a source that handed out these bytes as the file has them handed out the file's
pub shown_row : (file : List ℕ) (old new : List Placed) (at : ℕ) (bytes : List ℕ) → new ≡ old ++ placed_from at bytes →
    All (λ p. slice_get file p.at ≡ Some p.byte) new → bytes ≡ slice_range file at (at + length bytes)
shown_row file old new at bytes e h =
    let long : length bytes ≡ at + length bytes - at = omega arith in
    shown_bytes file at bytes (all_behind (λ p. slice_get file p.at ≡ Some p.byte) old (placed_from at bytes) new e h)
    ∙ ap (λ n. take n (drop at file)) long

-- nothing more was handed out
pub none_more : (a b c : List Placed) (at place : ℕ) (xs : List ℕ) → b ≡ a ++ placed_from at xs → c ≡ b ++ placed_from place [] → c ≡ a ++ placed_from at xs
none_more a b c at place xs g h = h ∙ append-nil b ∙ g

-- a read that gave some bytes told no end
pub none_ended : (ends : List ℕ) (at n : ℕ) → 0 < n → ends_after ends at n ≡ ends
none_ended ends at zero some = absurd (omega (arith, some))
none_ended ends at (suc n) some = refl

-- the bytes of a list by its length
pub full_row : (a b : List Placed) (at done : ℕ) (bytes : List ℕ) → length bytes ≤ done → b ≡ a ++ placed_from at (take done bytes) → b ≡ a ++ placed_from at bytes
full_row a b at done bytes all e = e ∙ ap (λ l. a ++ placed_from at l) (take_all done bytes all)

-- n bytes of the slice behind the first ones
pub more_put : (done n : ℕ) (bytes : List ℕ) → done ≤ length bytes → (at : ℕ) (a b c : List Placed) → b ≡ a ++ placed_from at (take done bytes) →
    c ≡ b ++ placed_from (at + done) (take n (take (length bytes - done) (drop done bytes))) → c ≡ a ++ placed_from at (take (done + n) bytes)
more_put done n bytes within at a b c g h =
    and_more a b c at (take done bytes) (take n (take (length bytes - done) (drop done bytes))) (take (done + n) bytes) g
    (h ∙ ap (λ m. b ++ placed_from (at + m) (take n (take (length bytes - done) (drop done bytes)))) (sym (length-take-le done bytes within)))
    (take-slice done n bytes)

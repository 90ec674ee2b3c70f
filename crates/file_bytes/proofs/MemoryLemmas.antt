-- Bytes of a file in memory: those that are read, and those that a piece is laid over.
use Rattle.std.proofs.Common.{◌≡◌, ◌≤◌, ◌<◌, ◌+◌, ◌-◌, ◌⊎◌, inl, inr, ℕ, List, [], ◌∷◌, ◌++◌, length, take, drop, replicate, get_or, Some, slice_get, refl, sym, ◌∙◌, ap, subst, arith, append-nil, length-append, length-take, length-drop, suc, zero}
use Rattle.std.specs.Prelude.{All}
use Rattle.std.proofs.Math.Seq.{take-append-add}
use Rattle.std.proofs.lemmas.List.{append_assoc, take-append-le, take-replicate, take_all, take_at, drop_all, drop_more, length-replicate, replicate_more}
use Rattle.std.proofs.lemmas.List.Elements.{All-nil, All-cons, All-same, All-append, All-push}
use Rattle.std.proofs.lemmas.Option.{slice_get-get_or}
use borrow.Rule.Slice.PartMut.{post_of, Post-is}
use Rattle.file_bytes.specs.Places.{Placed, placed, placed_from, ends_after, Shows}
use Rattle.file_bytes.specs.Laid.{front, laid_at}

-- a file shows its own bytes
own_shown : (file : List ℕ) (at n : ℕ) → at + n ≤ length file → All (λ p. slice_get file p.at ≡ Some p.byte) (placed_from at (take n (drop at file)))
own_shown file at zero within = All-nil (λ (p : Placed). slice_get file p.at ≡ Some p.byte)
own_shown file at (suc n) within =
    let inside : at < length file = omega arith in
    let next : at + 1 + n ≤ length file = omega arith in
    All-same (λ p. slice_get file p.at ≡ Some p.byte) _ _ (ap (λ l. placed_from at (take (suc n) l)) (drop_more file at 0 inside))
    (
    All-cons (λ p. slice_get file p.at ≡ Some p.byte) (placed at (get_or file at 0)) (placed_from (at + 1) (take n (drop (at + 1) file)))
    (slice_get-get_or file at 0 inside)
    (own_shown file (at + 1) n next)
    )

-- a read of a file's bytes shows the file as those before did
pub shows_more : (file : List ℕ) (given : List Placed) (ends : List ℕ) (at n : ℕ) (buf : List ℕ) → take n buf ≡ take n (drop at file) →
    (0 < n → at + n ≤ length file) → (n ≡ 0 → length file ≤ at) → Shows file given ends → Shows file (given ++ placed_from at (take n buf)) (ends_after ends at n)
shows_more file given ends at zero buf copied inside end s = record {
  bytes = All-same (λ p. slice_get file p.at ≡ Some p.byte) (given ++ []) given (append-nil given) s.bytes;
  end = All-push (λ place. length file ≤ place) ends at s.end (end refl);
}
shows_more file given ends at (suc n) buf copied inside end s =
    let some : 0 < suc n = omega arith in record {
      bytes =
          All-append (λ p. slice_get file p.at ≡ Some p.byte) given (placed_from at (take (suc n) buf)) s.bytes
          (All-same (λ p. slice_get file p.at ≡ Some p.byte) _ _ (ap (λ l. placed_from at l) copied) (own_shown file at (suc n) (inside some)));
      end = s.end;
    }

-- the same of a read of bytes that are the file's
pub shows_read : (items file : List ℕ) → file ≡ items → (given now : List Placed) (ends told : List ℕ) (at n : ℕ) (buf : List ℕ) →
    take n buf ≡ take n (drop at file) → (0 < n → at + n ≤ length file) → (n ≡ 0 → length file ≤ at) → now ≡ given ++ placed_from at (take n buf) →
    told ≡ ends_after ends at n → Shows items given ends → Shows items now told
shows_read items file same given now ends told at n buf copied inside end e f s =
    let P : List ℕ → Type 0 = λ l. at + n ≤ length l in
    let Q : List ℕ → Type 0 = λ l. length l ≤ at in
    let after : Shows items (given ++ placed_from at (take n buf)) (ends_after ends at n) =
    shows_more items given ends at n buf (copied ∙ ap (λ l. take n (drop at l)) same) (λ some. subst P same (inside some)) (λ none. subst Q same (end none)) s in
    record {
      bytes = All-same (λ p. slice_get items p.at ≡ Some p.byte) now (given ++ placed_from at (take n buf)) e after.bytes;
      end = All-same (λ place. length items ≤ place) told (ends_after ends at n) f after.end;
    }

-- one zero more
pub zeros_more : (old items new : List ℕ) → length old ≤ length items → items ≡ old ++ replicate {A = ℕ} (length items - length old) 0 → new ≡ items ++ 0 ∷ [] →
    new ≡ old ++ replicate {A = ℕ} (length new - length old) 0
zeros_more old items new longer e pushed =
    let one : length new ≡ length items + 1 = ap (λ l. length l) pushed ∙ length-append items (0 ∷ []) in
    let count : length items - length old + 1 ≡ length new - length old = omega (arith, one, longer) in
    pushed ∙ ap (λ l. l ++ 0 ∷ []) e ∙ append_assoc old (replicate {A = ℕ} (length items - length old) 0) (0 ∷ [])
    ∙ ap (λ l. old ++ l) (replicate_more (length items - length old) 0)
    ∙ ap (λ n. old ++ replicate {A = ℕ} n 0) count

fronts : (place k : ℕ) (items : List ℕ) → (place ≤ length items) ⊎ ((length items ≤ place) × (place - length items ≤ k)) →
    take place (items ++ replicate {A = ℕ} k 0) ≡ front place items
fronts place k items (inl within) =
    let none : place - length items ≡ 0 = omega arith in
    take-append-le place items (replicate {A = ℕ} k 0) within
    ∙ sym (ap (λ n. take place items ++ replicate {A = ℕ} n 0) none ∙ append-nil (take place items))
fronts place k items (inr (past, enough)) =
    let split : place ≡ length items + (place - length items) = omega arith in
    ap (λ n. take n (items ++ replicate {A = ℕ} k 0)) split
    ∙ take-append-add items (replicate {A = ℕ} k 0) (place - length items)
    ∙ ap (λ l. items ++ l) (take-replicate (place - length items) k 0 enough)
    ∙ ap (λ l. l ++ replicate {A = ℕ} (place - length items) 0) (sym (take_all place items past))

behinds : (size : ℕ) (items : List ℕ) → (size ≤ length items) ⊎ (length items ≤ size) →
    drop size (items ++ replicate {A = ℕ} (size - length items) 0) ≡ drop size items
behinds size items (inl within) =
    let none : size - length items ≡ 0 = omega arith in
    ap (λ n. drop size (items ++ replicate {A = ℕ} n 0)) none ∙ ap (λ l. drop size l) (append-nil items)
behinds size items (inr past) =
    drop_all size (items ++ replicate {A = ℕ} (size - length items) 0)
    (omega (arith, length-append items (replicate {A = ℕ} (size - length items) 0), length-replicate {A = ℕ} (size - length items) 0))
    ∙ sym (drop_all size items past)

-- a piece over bytes that were filled up
pub filled_laid : (place : ℕ) (piece items filled : List ℕ) → filled ≡ items ++ replicate {A = ℕ} (place + length piece - length items) 0 →
    take place filled ++ (piece ++ drop (place + length piece) filled) ≡ laid_at place piece items
filled_laid place piece items filled e =
    let ways : (place ≤ length items) ⊎ ((length items ≤ place) × (place - length items ≤ place + length piece - length items)) = grind arith in
    let ends : (place + length piece ≤ length items) ⊎ (length items ≤ place + length piece) = grind arith in
    ap (λ l. take place l ++ (piece ++ drop (place + length piece) l)) e
    ∙ ap (λ l. l ++ (piece ++ drop (place + length piece) (items ++ replicate {A = ℕ} (place + length piece - length items) 0)))
    (fronts place (place + length piece - length items) items ways)
    ∙ ap (λ l. front place items ++ (piece ++ l)) (behinds (place + length piece) items ends)

-- the same as the vector's elements are written back
pub lay_back : (place : ℕ) (piece items filled shown copied : List ℕ) (len : ℕ) → shown ≡ filled → copied ≡ piece →
    filled ≡ items ++ replicate {A = ℕ} (place + length piece - length items) 0 → len ≡ length filled →
    take len (take place shown ++ (copied ++ post_of place (place + length piece - place) shown)
    ++ drop (length (take place shown ++ (copied ++ post_of place (place + length piece - place) shown))) filled)
    ≡ laid_at place piece items
lay_back place piece items filled shown copied len e f g h =
    let after : ℕ = place + length piece in
    let long : length filled ≡ length items + (after - length items) =
    ap (λ l. length l) g ∙ length-append items (replicate {A = ℕ} (after - length items) 0)
    ∙ ap (λ n. length items + n) (length-replicate {A = ℕ} (after - length items) 0) in
    let back : length (take place filled ++ (piece ++ drop after filled)) ≡ len =
    omega (arith, h, long, length-append (take place filled) (piece ++ drop after filled), length-append piece (drop after filled), length-take place filled, length-drop after filled) in
    let first : take place shown ++ (copied ++ post_of place (after - place) shown) ≡ take place filled ++ (piece ++ drop after filled) =
    ap (λ l. take place l ++ (copied ++ post_of place (after - place) l)) e
    ∙ ap (λ l. take place filled ++ (l ++ post_of place (after - place) filled)) f
    ∙ ap (λ l. take place filled ++ (piece ++ l)) (Post-is place after filled (omega arith)) in
    ap (λ l. take len (l ++ drop (length l) filled)) first
    ∙ take_at (take place filled ++ (piece ++ drop after filled)) (drop (length (take place filled ++ (piece ++ drop after filled))) filled) len back
    ∙ filled_laid place piece items filled g

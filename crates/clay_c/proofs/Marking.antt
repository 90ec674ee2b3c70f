-- The marks of the chunks that help, and their parts.
use Rattle.std.proofs.Common.{◌≡◌, ℕ, zero, suc, subst, ◌+◌, ◌*◌, ◌<◌, ◌≤◌, Bool, true, false, cond, not, eqb, List, length, get_or, Option, Some, None, is_none, is_some, refl, sym, ap, ◌∙◌, inl, inr, arith, mul-le-mul_right}
use Rattle.std.proofs.lemmas.Bool.{cases_eq, eq-eqb, ne_eqb, cond-true}
use Rattle.std.proofs.lemmas.List.FromFn.{length-map-range_with_len, get_or-map-range_with_len}
use mir.Val.{bool_byte}
use Rattle.clay_grid.specs.Score.{count_below}
use Rattle.clay_grid.proofs.Counting.{count_below_same, count_below-le}
use Rattle.clay_model.proofs.SumLaws.{one_if}
use Rattle.lane_repair.specs.Views.{laid_pieces, EndWithin}
use Rattle.clay_aloof.specs.Shape.{AloofShape, all_chunks}
use Rattle.clay_aloof.specs.Repair.{part_bytes}
use Rattle.clay_aloof.specs.Pieces.{ArePieces, IsRebuiltFrom}
use Rattle.clay_c.specs.Pieces.{piece_at}
use Rattle.clay_c.specs.Helpers.{is_marked, MarksFit, marked_parts, starts_marked, RebuildsAloof}
use Rattle.clay_c.proofs.Shown.{pieces_shown, starts_end, pieces_long}

-- ---- how many have a mark

count_next : (n : ℕ) (f : ℕ → Bool) → count_below n f + one_if (f n) ≡ count_below (n + 1) f
count_next n f = let next : suc n ≡ n + 1 = omega arith in ap (λ k. count_below k f) next

-- a mark as a number
bit_of : (b : Bool) → bool_byte b ≡ one_if b
bit_of true = refl
bit_of false = refl

pub mark_counts : (marks : List ℕ) (c count bit : ℕ) → count ≡ count_below c (is_marked marks) → bit ≡ bool_byte (is_marked marks c) → count + bit ≡ count_below (c + 1) (is_marked marks)
mark_counts marks c count bit before is = (λ k. before k + (is ∙ bit_of (is_marked marks c)) k) ∙ count_next c (is_marked marks)

pub marks_below : (marks : List ℕ) (c count bit : ℕ) → count ≡ count_below c (is_marked marks) → bit ≡ bool_byte (is_marked marks c) → count + bit ≤ c + 1
marks_below marks c count bit before is =
    let most : count_below (c + 1) (is_marked marks) ≤ c + 1 = count_below-le (c + 1) (is_marked marks) in
    subst (λ n. n ≤ c + 1) (sym (mark_counts marks c count bit before is)) most

pub count_before : (n c : ℕ) (f : ℕ → Bool) → c < n → f c ≡ true → count_below c f + 1 ≤ count_below n f
count_before zero c f h passes = absurd (omega arith)
count_before (suc n) c f h passes =
    elim (cases_eq c n) [
      | inl same ↦
          let one : one_if (f n) ≡ 1 = ap one_if (ap f (sym same) ∙ passes) in
          let here : count_below c f ≡ count_below n f = ap (λ v. count_below v f) same in
          omega arith
      | inr other ↦ let rest : count_below c f + 1 ≤ count_below n f = count_before n c f (omega (arith, other, h)) passes in omega arith
    ]

-- the part of a chunk with a mark is there
pub part_room : (marks : List ℕ) (n c len long : ℕ) → c < n → eqb (get_or marks c 0) 0 ≡ false → count_below n (is_marked marks) * len ≤ long → (count_below c (is_marked marks) + 1) * len ≤ long
part_room marks n c len long h there room =
    let before : count_below c (is_marked marks) + 1 ≤ count_below n (is_marked marks) = count_before n c (is_marked marks) h (ap not there) in
    let all : (count_below c (is_marked marks) + 1) * len ≤ count_below n (is_marked marks) * len = mul-le-mul_right len before in
    omega (arith, all, room)

-- ---- their parts

pub none_cond : (b : Bool) (l : List ℕ) → is_none (cond b None (Some l)) ≡ b
none_cond true l = refl
none_cond false l = refl

some_cond : (b : Bool) (l : List ℕ) → is_some (cond b None (Some l)) ≡ not b
some_cond true l = refl
some_cond false l = refl

module _ (a : AloofShape) (marks bytes : List ℕ) where
  entry : (c : ℕ) → c < all_chunks a → get_or (marked_parts a marks bytes) c None ≡ cond (eqb (get_or marks c 0) 0) None (Some (piece_at (part_bytes a) bytes (count_below c (is_marked marks))))
  entry c h =
      get_or-map-range_with_len (λ k. cond (eqb (get_or marks k 0) 0) None (Some (piece_at (part_bytes a) bytes (count_below k (is_marked marks))))) 0 (all_chunks a) c c None h (omega arith)

  fits : count_below (all_chunks a) (is_marked marks) * part_bytes a ≤ length bytes → (c : ℕ) → c < all_chunks a → eqb (get_or marks c 0) 0 ≡ false → count_below c (is_marked marks) * part_bytes a + part_bytes a ≤ length bytes
  fits room c h there =
      let all : (count_below c (is_marked marks) + 1) * part_bytes a ≤ length bytes = part_room marks (all_chunks a) c (part_bytes a) (length bytes) h there room in
      let split : (count_below c (is_marked marks) + 1) * part_bytes a ≡ count_below c (is_marked marks) * part_bytes a + part_bytes a = omega arith in
      omega (arith, all, split)

  pub are_pieces : (lost : ℕ) → lost < all_chunks a → MarksFit a lost marks → count_below (all_chunks a) (is_marked marks) * part_bytes a ≤ length bytes → ArePieces a lost (marked_parts a marks bytes)
  are_pieces lost inside fit room =
      let piece : ℕ → List ℕ = λ c. piece_at (part_bytes a) bytes (count_below c (is_marked marks)) in
      record {
        chunk = inside;
        fit = record {
          count = length-map-range_with_len (λ c. cond (eqb (get_or marks c 0) 0) None (Some (piece c))) 0 (all_chunks a);
          none = entry lost inside ∙ cond-true (eqb (get_or marks lost 0) 0) None (Some (piece lost)) (eq-eqb (get_or marks lost 0) 0 fit.none);
          helpers = count_below_same (all_chunks a) (λ c. is_some (get_or (marked_parts a marks bytes) c None)) (is_marked marks)
              (λ c h. ap is_some (entry c h) ∙ some_cond (eqb (get_or marks c 0) 0) (piece c))
              ∙ fit.helpers;
          column = λ c h other same. ap is_none (entry c h) ∙ none_cond (eqb (get_or marks c 0) 0) (piece c) ∙ ne_eqb (get_or marks c 0) 0 (fit.column c h other same);
        };
        lengths = pieces_long bytes (part_bytes a) (λ c. eqb (get_or marks c 0) 0) (λ c. count_below c (is_marked marks)) (all_chunks a) (fits room);
      }

  module _ (starts : List (Option ℕ)) (len : ℕ) where
    pub marked_laid : starts ≡ starts_marked marks (part_bytes a) (all_chunks a) → len ≡ part_bytes a → laid_pieces bytes starts len ≡ marked_parts a marks bytes
    marked_laid are size =
        (λ i. laid_pieces bytes (are i) (size i)) ∙ pieces_shown bytes (part_bytes a) (λ c. eqb (get_or marks c 0) 0) (λ c. count_below c (is_marked marks)) (all_chunks a)

    pub marked_end : starts ≡ starts_marked marks (part_bytes a) (all_chunks a) → len ≡ part_bytes a → count_below (all_chunks a) (is_marked marks) * part_bytes a ≤ length bytes → EndWithin bytes starts len
    marked_end are size room =
        subst (λ l. EndWithin bytes starts l) (sym size) (subst (λ s. EndWithin bytes s (part_bytes a)) (sym are)
        (starts_end bytes (part_bytes a) (λ c. eqb (get_or marks c 0) 0) (λ c. count_below c (is_marked marks)) (all_chunks a) (fits room)))

-- the chunk that is rebuilt from them
pub rebuilds : (a : AloofShape) (lost : ℕ) (marks bytes chunk : List ℕ) → IsRebuiltFrom a lost (marked_parts a marks bytes) chunk → RebuildsAloof a lost marks bytes chunk
rebuilds a lost marks bytes chunk built = record {
  word = built.word;
  gives = record { codeword = built.has_parts.codeword; agrees = built.has_parts.agrees };
  value = built.value;
  only = λ other gives. built.only other (record { codeword = gives.codeword; agrees = gives.agrees });
}

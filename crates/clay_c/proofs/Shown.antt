-- The pieces that a list of starts shows of a caller's bytes.
use Rattle.std.proofs.Common.{◌≡◌, ◌≢◌, ℕ, ◌+◌, ◌-◌, ◌*◌, ◌<◌, ◌≤◌, Bool, true, false, cond, eqb, nat_lt, List, [], ◌∷◌, ◌++◌, map, length, slice_range, All, Option, Some, None, is_none, IfSome, refl, sym, subst, ap, ◌∙◌, arith, inl, inr}
use Rattle.std.specs.Option.{option_map}
use Rattle.std.specs.List.{range_with_len}
use Rattle.std.proofs.lemmas.Bool.{cases_lt, cond-true, cond-false, lt-ltb, le-ltb, eq-eqb, ne_eqb, true≢false}
use Rattle.std.proofs.lemmas.List.Edits.{length-between}
use Rattle.std.proofs.lemmas.List.FromFn.{length-map-range_with_len, get_or-map-range_with_len, map-range_with_len_more}
use Rattle.clay_grid.specs.Shape.{Shape, chunk_count}
use Rattle.clay_model.specs.RepairParts.{part_length}
use Rattle.code_laws.proofs.Pieces.{piece_fits}
use Rattle.lane_repair.specs.Views.{laid_pieces, EndWithin, ArePieces}
use Rattle.clay_c.specs.Pieces.{piece_at, starts_of}
use Rattle.clay_c.specs.Calls.{place_among_others, parts_of}

-- one more start
pub starts_more : (f : ℕ → Option ℕ) (starts : List (Option ℕ)) (o : Option ℕ) (c : ℕ) → o ≡ f c → starts ≡ map f (range_with_len 0 c) → starts ++ o ∷ [] ≡ map f (range_with_len 0 (c + 1))
starts_more f starts o c is before = (λ i. before i ++ is i ∷ []) ∙ sym (map-range_with_len_more f 0 c c (omega arith))

module _ (bytes : List ℕ) (len : ℕ) (gone : ℕ → Bool) (place : ℕ → ℕ) where
  shown_piece : (b : Bool) (c : ℕ) → option_map (λ start. slice_range bytes start (start + len)) (cond b None (Some (place c * len))) ≡ cond b None (Some (piece_at len bytes (place c)))
  shown_piece true c = refl
  shown_piece false c = refl

  shown_pieces : (cs : List ℕ) → laid_pieces bytes (map (λ c. cond (gone c) None (Some (place c * len))) cs) len ≡ map (λ c. cond (gone c) None (Some (piece_at len bytes (place c)))) cs
  shown_pieces [] = refl
  shown_pieces (c ∷ cs) = λ i. shown_piece (gone c) c i ∷ shown_pieces cs i

  -- the pieces at the places of those that aren't gone
  pub pieces_shown : (count : ℕ) → laid_pieces bytes (starts_of gone place len count) len ≡ map (λ c. cond (gone c) None (Some (piece_at len bytes (place c)))) (range_with_len 0 count)
  pieces_shown count = shown_pieces (range_with_len 0 count)

  ends : (b : Bool) (c : ℕ) → (b ≡ false → place c * len + len ≤ length bytes) → IfSome (cond b None (Some (place c * len))) (λ start. start + len ≤ length bytes)
  ends true c fits = tt
  ends false c fits = fits refl

  pub starts_end : (count : ℕ) → ((c : ℕ) → c < count → gone c ≡ false → place c * len + len ≤ length bytes) → EndWithin bytes (starts_of gone place len count) len
  starts_end count fits = λ c d h.
      let f : ℕ → Option ℕ = λ c. cond (gone c) None (Some (place c * len)) in
      let below : c < count = subst (λ n. c < n) (length-map-range_with_len f 0 count) h in
      subst (λ o. IfSome o (λ start. start + len ≤ length bytes)) (sym (get_or-map-range_with_len f 0 count c c d below (omega arith))) (ends (gone c) c (fits c below))

  long : (b : Bool) (c : ℕ) → (b ≡ false → place c * len + len ≤ length bytes) → IfSome (cond b None (Some (piece_at len bytes (place c)))) (λ piece. length piece ≡ len)
  long true c fits = tt
  long false c fits = let whole : place c * len + len - place c * len ≡ len = omega arith in length-between bytes (place c * len) (place c * len + len) (fits refl) ∙ whole

  pub pieces_long : (count : ℕ) → ((c : ℕ) → c < count → gone c ≡ false → place c * len + len ≤ length bytes)
      → All (λ o. IfSome o (λ piece. length piece ≡ len)) (map (λ c. cond (gone c) None (Some (piece_at len bytes (place c)))) (range_with_len 0 count))
  pieces_long count fits = λ c d h.
      let f : ℕ → Option (List ℕ) = λ c. cond (gone c) None (Some (piece_at len bytes (place c))) in
      let below : c < count = subst (λ n. c < n) (length-map-range_with_len f 0 count) h in
      subst (λ o. IfSome o (λ piece. length piece ≡ len)) (sym (get_or-map-range_with_len f 0 count c c d below (omega arith))) (long (gone c) c (fits c below))

there : (b : Bool) (l : List ℕ) → b ≡ false → is_none (cond b None (Some l)) ≡ false
there b l h = ap (λ v. is_none (cond v None (Some l))) h

-- ---- the parts of all but a lost chunk

cond_le : (b : Bool) (c : ℕ) → cond b c (c - 1) ≤ c
cond_le true c = omega arith
cond_le false c = omega arith

pub place_le : (lost c : ℕ) → place_among_others lost c ≤ c
place_le lost c = cond_le (nat_lt c lost) c

pub place_below : (lost c n : ℕ) → lost < n → c < n → c ≢ lost → place_among_others lost c < n - 1
place_below lost c n inside below other = elim (cases_lt c lost) [
  | inl early ↦ subst (λ p. p < n - 1) (sym (cond-true (nat_lt c lost) c (c - 1) (lt-ltb c lost early))) (omega (arith, early, inside))
  | inr late ↦ subst (λ p. p < n - 1) (sym (cond-false (nat_lt c lost) c (c - 1) (le-ltb c lost late))) (omega (arith, late, below, other))
]

module _ (g : Shape) (lost : ℕ) (bytes : List ℕ) where
  part_fits : lost < chunk_count g → length bytes ≡ (chunk_count g - 1) * part_length g → (c : ℕ) → c < chunk_count g → eqb c lost ≡ false → place_among_others lost c * part_length g + part_length g ≤ length bytes
  part_fits inside long c below other =
      let apart : c ≢ lost = λ same. true≢false (sym (eq-eqb c lost same) ∙ other) in
      subst (λ n. place_among_others lost c * part_length g + part_length g ≤ n) (sym long)
      (piece_fits (place_among_others lost c) (chunk_count g - 1) (part_length g) (place_below lost c (chunk_count g) inside below apart))

  module _ (starts : List (Option ℕ)) (len : ℕ) where
    pub parts_laid : starts ≡ starts_of (λ c. eqb c lost) (place_among_others lost) (part_length g) (chunk_count g) → len ≡ part_length g → laid_pieces bytes starts len ≡ parts_of g lost bytes
    parts_laid are size = (λ i. laid_pieces bytes (are i) (size i)) ∙ pieces_shown bytes (part_length g) (λ c. eqb c lost) (place_among_others lost) (chunk_count g)

    pub parts_end : lost < chunk_count g → starts ≡ starts_of (λ c. eqb c lost) (place_among_others lost) (part_length g) (chunk_count g) → len ≡ part_length g → length bytes ≡ (chunk_count g - 1) * part_length g
        → EndWithin bytes starts len
    parts_end inside are size long =
        subst (λ l. EndWithin bytes starts l) (sym size) (subst (λ s. EndWithin bytes s (part_length g)) (sym are)
        (starts_end bytes (part_length g) (λ c. eqb c lost) (place_among_others lost) (chunk_count g) (part_fits inside long)))

    pub are_laid_parts : lost < chunk_count g → starts ≡ starts_of (λ c. eqb c lost) (place_among_others lost) (part_length g) (chunk_count g) → len ≡ part_length g → length bytes ≡ (chunk_count g - 1) * part_length g
        → ArePieces g lost (laid_pieces bytes starts len)
    are_laid_parts inside are size long =
        let f : ℕ → Option (List ℕ) = λ c. cond (eqb c lost) None (Some (piece_at (part_length g) bytes (place_among_others lost c))) in
        subst (ArePieces g lost) (sym (parts_laid are size)) (record {
          chunk = inside;
          count = length-map-range_with_len f 0 (chunk_count g);
          others = λ c below other.
              ap is_none (get_or-map-range_with_len f 0 (chunk_count g) c c None below (omega arith)) ∙ there (eqb c lost) (piece_at (part_length g) bytes (place_among_others lost c)) (ne_eqb c lost other);
          lengths = pieces_long bytes (part_length g) (λ c. eqb c lost) (place_among_others lost) (chunk_count g) (part_fits inside long);
        })

-- Chunks that are written to their places, and what stays of the others.
use Rattle.std.proofs.Common.{◌≡◌, ◌≢◌, ℕ, zero, suc, subst, ◌+◌, ◌*◌, ◌/◌, ◌%◌, ◌<◌, Bool, true, List, [], ◌∷◌, length, get_or, take, drop, filter, count_by, Option, Some, None, is_none, Vec, Global, inl, inr, refl, sym, ap, ◌∙◌, arith}
use Rattle.std.proofs.lemmas.Bool.{true≢false, cases_lt, cases_eq}
use Rattle.std.proofs.lemmas.Nat.{mod_below, div_below, div-add-mod'}
use Rattle.std.proofs.lemmas.List.{get_or-take, get_or-drop}
use Rattle.std.proofs.lemmas.List.Sums.{length-filter}
use borrow.Rule.Slice.PartMut.{put_mid}
use Rattle.clay_grid.specs.Shape.{Shape, chunk_count, layer_count, chunk_length}
use Rattle.code_laws.proofs.Pieces.{piece_fits, place_below, put_mid_before, put_mid_past, put_mid_within}
use Rattle.clay_model.specs.Left.{parts}
use Rattle.lane_repair.specs.Pieces.{HoldsByte}
use Rattle.clay_lanes.specs.Places.{HoldsPlace, KeepsPlaces, FillsGone, AreFilled, AreFilledFrom}
use Rattle.clay_lanes.proofs.Shown.{none_at, bytes_of, fits_of}

pub places_stay : (g : Shape) (fits : List (List ℕ) → Type 0) (gone : ℕ → Bool) (xs : List ℕ) → KeepsPlaces g fits gone xs xs
places_stay g fits gone xs = record { right = λ c p hc hp h. h; there = λ c p hc hp h. refl }

pub places_then : (g : Shape) (fits : List (List ℕ) → Type 0) (gone : ℕ → Bool) (xs ys zs : List ℕ) → KeepsPlaces g fits gone xs ys → KeepsPlaces g fits gone ys zs → KeepsPlaces g fits gone xs zs
places_then g fits gone xs ys zs a b = record {
  right = λ c p hc hp h. b.right c p hc hp (a.right c p hc hp h);
  there = λ c p hc hp h. b.there c p hc hp h ∙ a.there c p hc hp h;
}

-- the piece from a on is chunk c's place, and another chunk's byte stays
other_place : (n len c a k : ℕ) (xs ys : List ℕ) → a ≡ c * len → k ≡ len → c < n → length xs ≡ n * len → length ys ≡ len
    → (i p : ℕ) → i ≢ c → i < n → p < len → get_or (put_mid a k xs ys) (i * len + p) 0 ≡ get_or xs (i * len + p) 0
other_place n len c a k xs ys start size inside all long i p differ hi hp =
    let fits = piece_fits c n len inside in
    elim (cases_lt i c) [
      | inl early ↦
          let before = place_below i c len p early hp in
          put_mid_before a k xs ys (i * len + p) (omega (arith, start, fits, all)) (omega (arith, start, before))
      | inr late ↦
          let past : c < i = omega (arith, late, differ) in
          let after = piece_fits c i len past in
          put_mid_past a k xs ys (i * len + p) (omega (arith, start, size, fits, all)) (long ∙ sym size) (omega (arith, start, size, after))
    ]

module _ (g : Shape) (fits : List (List ℕ) → Type 0) (gone : ℕ → Bool) (c a k : ℕ) (xs ys : List ℕ) (start : a ≡ c * chunk_length g) (size : k ≡ chunk_length g)
    (inside : c < chunk_count g) (all : length xs ≡ chunk_count g * chunk_length g) (long : length ys ≡ chunk_length g) where
  -- a byte of the piece that was there
  byte_of : (p : ℕ) → p < chunk_length g → HoldsPlace g fits c xs p → HoldsByte fits c (take k (drop a xs)) p
  byte_of p hp h = record {
    at = λ word fit.
        get_or-take k (drop a xs) p 0 (omega (arith, size, hp))
        ∙ get_or-drop a xs p 0
        ∙ ap (λ s. get_or xs (s + p) 0) start
        ∙ h.at word fit;
  }

  pub place_written : (p : ℕ) → p < chunk_length g → HoldsByte fits c ys p → HoldsPlace g fits c (put_mid a k xs ys) p
  place_written p hp h =
      let room = piece_fits c (chunk_count g) (chunk_length g) inside in
      record {
        at = λ word fit.
            ap (λ s. get_or (put_mid a k xs ys) (s + p) 0) (sym start)
            ∙ put_mid_within a k xs ys p (omega (arith, start, room, all)) (omega (arith, long, hp))
            ∙ h.at word fit;
      }

  pub places_kept : gone c ≡ true → ((p : ℕ) → HoldsByte fits c (take k (drop a xs)) p → HoldsByte fits c ys p) → KeepsPlaces g fits gone xs (put_mid a k xs ys)
  places_kept none kept = record {
    right = λ i p hi hp h. elim (cases_eq i c) [
      | inl same ↦
          subst (λ n. HoldsPlace g fits n (put_mid a k xs ys) p) (sym same)
          (place_written p hp (kept p (byte_of p hp (subst (λ n. HoldsPlace g fits n xs p) same h))))
      | inr differ ↦ record { at = λ word fit. other_place (chunk_count g) (chunk_length g) c a k xs ys start size inside all long i p differ hi hp ∙ h.at word fit }
    ];
    there = λ i p hi hp some.
        other_place (chunk_count g) (chunk_length g) c a k xs ys start size inside all long i p (λ e. some (ap gone e ∙ none)) hi hp;
  }

none_missing : (have : List (Option (Vec ℕ Global))) → length (filter is_none have) ≡ 0 → (c : ℕ) → c < length have → is_none (get_or have c None) ≡ true → ⊥
none_missing [] none c h gone = omega (arith, h)
none_missing (None ∷ have) none c h gone = omega (arith, none)
none_missing (Some v ∷ have) none zero h gone = true≢false (sym gone)
none_missing (Some v ∷ have) none (suc c) h gone = none_missing have none c (omega (arith, h)) gone

-- where no chunk is missing nothing is to be written
pub filled_already : (g : Shape) (have : List (Option (Vec ℕ Global))) (xs : List ℕ) → length have ≡ chunk_count g → count_by is_none have ≡ 0 → AreFilled g have xs xs
filled_already g have xs count none = record {
  missing = λ c p hc hp gone. absurd (none_missing have (length-filter is_none have ∙ none) c (omega (arith, hc, count)) gone);
  there = λ c p hc hp some. refl;
}

-- all positions of each subchunk are written
pub filled_whole : (g : Shape) (fits : List (List ℕ) → Type 0) (gone : ℕ → Bool) (xs ys : List ℕ) → 0 < g.width
    → ((c : ℕ) → c < chunk_count g → gone c ≡ true → (z b : ℕ) → z < layer_count g → b < g.width → HoldsPlace g fits c ys (z * g.width + b))
    → KeepsPlaces g fits gone xs ys → FillsGone g fits gone xs ys
filled_whole g fits gone xs ys wide written kept = record {
  missing = λ c p hc hp none.
      subst (HoldsPlace g fits c ys) (div-add-mod' p g.width)
      (written c hc none (p / g.width) (p % g.width) (div_below p g.width (layer_count g) wide hp) (mod_below p g.width wide));
  there = kept.there;
}

-- what is filled for chunks that a view shows is for vectors
pub filled_apart : (g : Shape) (have : List (Option (Vec ℕ Global))) (old new : List ℕ) → AreFilledFrom g (parts have) old new → AreFilled g have old new
filled_apart g have old new is = record {
  missing = λ c p hc hp none. record { at = λ word fit. (is.missing c p hc hp (none_at bytes_of have c ∙ none)).at word (fits_of g have word fit) };
  there = λ c p hc hp some. is.there c p hc hp (λ none. some (sym (none_at bytes_of have c) ∙ none));
}

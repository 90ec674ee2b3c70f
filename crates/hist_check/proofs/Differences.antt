-- The first place at which the lines of objects differ from others, place by place.
use Rattle.std.proofs.Common.{◌≡◌, ℕ, ◌+◌, ◌<◌, ◌≤◌, Bool, true, false, cond, List, [], ◌∷◌, length, get_or, drop, map, refl, sym, ap, ◌∙◌, Option, None, Some}
use Rattle.std.specs.Prelude.{slice_get}
use Rattle.std.proofs.lemmas.List.{drop_more, drop_all, drop-map}
use Rattle.std.proofs.lemmas.Option.{slice_get_within, get_or_from_slice_get}
use Rattle.store_map.specs.declared.line.LLine.{LLine}
use Rattle.hist_rules.specs.declared.verdict.Verdict.{Verdict}
use Rattle.hist_rules.specs.declared.verdict.Verdict.TheVariants.{BadObject}
use Rattle.hist_rules.specs.ObjectsListed.{same_line, first_difference}
use Rattle.hist_tables.proofs.Ors.{not_none}

abbrev Object : Type 0
Object = List ℕ × List ℕ

abbrev pub line_of : Object → LLine
line_of object = record { name = object.0; length = length object.1 }

read_first : {X : Type 0} (xs : List X) (i : ℕ) (x : X) → i < length xs → x ≡ get_or xs i x → drop i xs ≡ x ∷ drop (i + 1) xs
read_first xs i x within is = drop_more xs i x within ∙ ap (λ y. y ∷ drop (i + 1) xs) (sym is)

got_first : {X : Type 0} (xs : List X) (i : ℕ) (x : X) → slice_get xs i ≡ Some x → drop i xs ≡ x ∷ drop (i + 1) xs
got_first xs i x got = read_first xs i x (slice_get_within xs i x got) (sym (get_or_from_slice_get xs i x x got))

wanted_first : (objects : List Object) (i : ℕ) (object : Object) → slice_get objects i ≡ Some object
    → drop i (map line_of objects) ≡ line_of object ∷ drop (i + 1) (map line_of objects)
wanted_first objects i object got =
    drop-map line_of i objects ∙ ap (map line_of) (got_first objects i object got) ∙ ap (λ (rest : List LLine). line_of object ∷ rest) (sym (drop-map line_of (i + 1) objects))

wanted_past : (objects : List Object) (i : ℕ) → length objects ≤ i → drop i (map line_of objects) ≡ []
wanted_past objects i past = drop-map line_of i objects ∙ ap (map line_of) (drop_all i objects past)

skipped : (b : Bool) (fault : Verdict) (rest : Option Verdict) → cond b None (Some fault) ≡ None → cond b rest (Some fault) ≡ rest
skipped true fault rest e = refl
skipped false fault rest e = not_none e

stopped : (b : Bool) (fault found : Verdict) (rest : Option Verdict) → cond b None (Some fault) ≡ Some found → cond b rest (Some fault) ≡ Some found
stopped true fault found rest e = not_none (sym e)
stopped false fault found rest e = e

module _ (objects : List Object) (lines : List LLine) (i : ℕ) (whole : Option Verdict) (so_far : first_difference (drop i (map line_of objects)) (drop i lines) ≡ whole) where
  module _ (line : LLine) (within : i < length lines) (is : line ≡ get_or lines i line) where
    pub line_superfluous : length objects ≤ i → Some (BadObject None (Some line)) ≡ whole
    line_superfluous past =
        sym (ap (λ (wanted : List LLine). first_difference wanted (drop i lines)) (wanted_past objects i past) ∙ ap (first_difference []) (read_first lines i line within is)) ∙ so_far

    module _ (object : Object) (got : slice_get objects i ≡ Some object) where
      both : first_difference (drop i (map line_of objects)) (drop i lines)
          ≡ first_difference (line_of object ∷ drop (i + 1) (map line_of objects)) (line ∷ drop (i + 1) lines)
      both =
          ap (λ (wanted : List LLine). first_difference wanted (drop i lines)) (wanted_first objects i object got)
          ∙ ap (first_difference (line_of object ∷ drop (i + 1) (map line_of objects))) (read_first lines i line within is)

      pub object_fits : first_difference (line_of object ∷ []) (line ∷ []) ≡ None → first_difference (drop (i + 1) (map line_of objects)) (drop (i + 1) lines) ≡ whole
      object_fits none =
          sym (both ∙ skipped (same_line (line_of object) line) _ (first_difference (drop (i + 1) (map line_of objects)) (drop (i + 1) lines)) none) ∙ so_far

      pub object_differs : (found : Verdict) → first_difference (line_of object ∷ []) (line ∷ []) ≡ Some found → Some found ≡ whole
      object_differs found some =
          sym (both ∙ stopped (same_line (line_of object) line) _ found (first_difference (drop (i + 1) (map line_of objects)) (drop (i + 1) lines)) some) ∙ so_far

  module _ (past : length lines ≤ i) where
    pub object_unlisted : (object : Object) (n : ℕ) → n ≡ i → slice_get objects n ≡ Some object → (fault : Verdict)
        → fault ≡ BadObject (Some (line_of object)) None → Some fault ≡ whole
    object_unlisted object n here got fault is =
        ap (λ (found : Verdict). Some found) is
        ∙ sym (ap (λ (wanted : List LLine). first_difference wanted (drop i lines)) (wanted_first objects i object (ap (slice_get objects) (sym here) ∙ got))
        ∙ ap (first_difference (line_of object ∷ drop (i + 1) (map line_of objects))) (drop_all i lines past)) ∙ so_far

    pub nothing_left : length objects ≤ i → None ≡ whole
    nothing_left end =
        sym (ap (λ (wanted : List LLine). first_difference wanted (drop i lines)) (wanted_past objects i end) ∙ ap (first_difference []) (drop_all i lines past)) ∙ so_far

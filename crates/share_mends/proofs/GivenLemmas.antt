-- What sources handed out at the places in some ranges.
use Rattle.std.proofs.Common.{◌≡◌, ℕ, zero, suc, ◌+◌, ◌-◌, ◌<◌, ◌≤◌, List, [], ◌∷◌, ◌++◌, length, get_or, take, drop, map, Some, slice_get, refl, sym, subst, ap, ◌∙◌, arith, append-nil, append_assoc, length-append, length-drop}
use Rattle.std.specs.Prelude.{All, min}
use Rattle.std.specs.List.{range_with_len}
use Rattle.std.proofs.lemmas.List.{map-append, length-take, drop_more, take_at}
use Rattle.std.proofs.lemmas.List.Concat.{flat_map-append}
use Rattle.std.proofs.lemmas.List.FromFn.{length-range_with_len, get_or-range_with_len}
use Rattle.std.proofs.lemmas.List.Elements.{All-nil, All-cons, All-head, All-tail, All-same, All-append, All-take, All-from_get_or, All-get_or}
use Rattle.std.proofs.lemmas.Option.{slice_get_within, get_or_from_slice_get}
use Rattle.file_bytes.specs.Places.{Placed, placed_from, Shows}
use Rattle.file_bytes.proofs.PlaceLemmas.{all_behind}
use Rattle.share_format.specs.Mend.{Range, range_of, bytes_in}
use Rattle.share_mends.specs.Places.{places_in, GivesAt, GivesJust}

-- ---- what is handed out

at_placed : (place : ℕ) (bytes : List ℕ) → map (λ (p : Placed). p.at) (placed_from place bytes) ≡ range_with_len place (length bytes)
at_placed place [] = refl
at_placed place (byte ∷ bytes) = ap (λ l. place ∷ l) (at_placed (place + 1) bytes)

are_placed : (place : ℕ) (bytes : List ℕ) → map (λ (p : Placed). p.byte) (placed_from place bytes) ≡ bytes
are_placed place [] = refl
are_placed place (byte ∷ bytes) = ap (λ l. byte ∷ l) (are_placed (place + 1) bytes)

pub gives_none : (given : List Placed) → GivesAt given [] [] given
gives_none given = record { more = []; gives = sym (append-nil given); at = refl; are = refl }

pub gives_then : (a b c : List Placed) (first second : List Range) (bytes others : List ℕ) → GivesAt a first bytes b → GivesAt b second others c → GivesAt a (first ++ second) (bytes ++ others) c
gives_then a b c first second bytes others one two = record {
  more = one.more ++ two.more;
  gives = two.gives ∙ ap (λ l. l ++ two.more) one.gives ∙ append_assoc a one.more two.more;
  at =
      map-append (λ (p : Placed). p.at) one.more two.more
      ∙ (λ i. one.at i ++ two.at i)
      ∙ sym (flat_map-append (λ (range : Range). range_with_len range.start range.size) first second);
  are = map-append (λ (p : Placed). p.byte) one.more two.more ∙ (λ i. one.are i ++ two.are i);
}

pub gives_one : (a b : List Placed) (place size : ℕ) (bytes : List ℕ) → length bytes ≡ size → b ≡ a ++ placed_from place bytes → GivesAt a (range_of place size ∷ []) bytes b
gives_one a b place size bytes long gives = record {
  more = placed_from place bytes;
  gives = gives;
  at = at_placed place bytes ∙ ap (range_with_len place) long ∙ sym (append-nil (range_with_len place size));
  are = are_placed place bytes;
}

pub gives_same : (a b : List Placed) (ranges others : List Range) (bytes : List ℕ) → places_in ranges ≡ places_in others → GivesAt a ranges bytes b → GivesAt a others bytes b
gives_same a b ranges others bytes same gives = record { more = gives.more; gives = gives.gives; at = gives.at ∙ same; are = gives.are }

pub just_then : (a b c : List Placed) (first second : List Range) → GivesJust a first b → GivesJust b second c → GivesJust a (first ++ second) c
just_then a b c first second one two = record {
  bytes = one.bytes ++ two.bytes;
  gives = gives_then a b c first second one.bytes two.bytes one.gives two.gives;
}

-- ---- what it shows

all_left : {X : Type 0} (P : X → Type 0) (xs ys : List X) → All P (xs ++ ys) → All P xs
all_left P xs ys h = All-same P xs (take (length xs) (xs ++ ys)) (sym (take_at xs ys (length xs) refl)) (All-take P (length xs) (xs ++ ys) h)

-- a file that is shown was shown before
pub shown_before : (file : List ℕ) (old now : List Placed) (ranges : List Range) (bytes ends told : List ℕ) → GivesAt old ranges bytes now → told ≡ ends → Shows file now told → Shows file old ends
shown_before file old now ranges bytes ends told gives same shows = record {
  bytes = all_left (λ p. slice_get file p.at ≡ Some p.byte) old gives.more (All-same (λ p. slice_get file p.at ≡ Some p.byte) (old ++ gives.more) now (sym gives.gives) shows.bytes);
  end = All-same (λ place. length file ≤ place) ends told (sym same) shows.end;
}

abbrev pub byte_in : List ℕ → ℕ → ℕ
byte_in file place = get_or file place 0

module _ (file : List ℕ) where
  abbrev IsShown : Placed → Type 0
  IsShown p = slice_get file p.at ≡ Some p.byte

  abbrev IsInside : ℕ → Type 0
  IsInside place = place < length file

  told : (more : List Placed) → All IsShown more → map (λ (p : Placed). p.byte) more ≡ map (byte_in file) (map (λ (p : Placed). p.at) more)
  told [] shown = refl
  told (p ∷ more) shown =
      let first : get_or file p.at 0 ≡ p.byte = get_or_from_slice_get file p.at p.byte 0 (All-head IsShown p more shown) in
      let rest = told more (All-tail IsShown p more shown) in
      λ i. sym first i ∷ rest i

  inside : (more : List Placed) → All IsShown more → All IsInside (map (λ (p : Placed). p.at) more)
  inside [] shown = All-nil IsInside
  inside (p ∷ more) shown =
      All-cons IsInside p.at (map (λ (q : Placed). q.at) more) (slice_get_within file p.at p.byte (All-head IsShown p more shown)) (inside more (All-tail IsShown p more shown))

  row : (place n : ℕ) → All IsInside (range_with_len place n) → map (byte_in file) (range_with_len place n) ≡ take n (drop place file)
  row place zero within = refl
  row place (suc n) within =
      let here : place < length file = All-head IsInside place (range_with_len (place + 1) n) within in
      ap (λ l. get_or file place 0 ∷ l) (row (place + 1) n (All-tail IsInside place (range_with_len (place + 1) n) within))
      ∙ sym (ap (take (suc n)) (drop_more file place 0 here))

  rows : (ranges : List Range) → All IsInside (places_in ranges) → map (byte_in file) (places_in ranges) ≡ bytes_in ranges file
  rows [] within = refl
  rows (range ∷ ranges) within =
      let one : List ℕ = range_with_len range.start range.size in
      let first = row range.start range.size (all_left IsInside one (places_in ranges) within) in
      let rest = rows ranges (all_behind IsInside one (places_in ranges) (one ++ places_in ranges) refl within) in
      map-append (byte_in file) one (places_in ranges) ∙ (λ i. first i ++ rest i)

  -- the bytes are those of each file that is shown
  pub bytes_shown : (old now : List Placed) (ranges : List Range) (bytes ends : List ℕ) → GivesAt old ranges bytes now → Shows file now ends → bytes ≡ bytes_in ranges file
  bytes_shown old now ranges bytes ends gives shows =
      let shown : All IsShown gives.more = all_behind IsShown old gives.more now gives.gives shows.bytes in
      sym gives.are ∙ told gives.more shown ∙ ap (map (byte_in file)) gives.at
      ∙ rows ranges (All-same IsInside (places_in ranges) (map (λ (p : Placed). p.at) gives.more) (sym gives.at) (inside gives.more shown))

  -- ---- files that are long enough

  in_row : (place n : ℕ) → length (take n (drop place file)) ≤ n
  in_row place n =
      let is : length (take n (drop place file)) ≡ min n (length (drop place file)) = length-take n (drop place file) in
      omega (arith, is)

  in_rows : (ranges : List Range) → length (bytes_in ranges file) ≤ length (places_in ranges)
  in_rows [] = omega arith
  in_rows (range ∷ ranges) =
      let first : length (take range.size (drop range.start file)) ≤ range.size = in_row range.start range.size in
      let rest : length (bytes_in ranges file) ≤ length (places_in ranges) = in_rows ranges in
      let count : length (range_with_len range.start range.size) ≡ range.size = length-range_with_len range.start range.size in
      omega (
        arith,
        first,
        rest,
        count,
        length-append (take range.size (drop range.start file)) (bytes_in ranges file),
        length-append (range_with_len range.start range.size) (places_in ranges),
      )

  full_row : (place n : ℕ) → length (take n (drop place file)) ≡ n → All IsInside (range_with_len place n)
  full_row place n full =
      All-from_get_or IsInside (range_with_len place n) 0 (λ i less.
      let count : length (range_with_len place n) ≡ n = length-range_with_len place n in
      let low : i < n = omega (arith, count, less) in
      let is : length (take n (drop place file)) ≡ min n (length (drop place file)) = length-take n (drop place file) in
      let left : length (drop place file) ≡ length file - place = length-drop place file in
      let there : place + i < length file = omega (arith, is, left, full, low) in
      subst IsInside (sym (get_or-range_with_len place n i 0 low)) there)

  full_rows : (ranges : List Range) → length (bytes_in ranges file) ≡ length (places_in ranges) → All IsInside (places_in ranges)
  full_rows [] full = All-nil IsInside
  full_rows (range ∷ ranges) full =
      let piece : List ℕ = take range.size (drop range.start file) in
      let one : List ℕ = range_with_len range.start range.size in
      let first : length piece ≤ range.size = in_row range.start range.size in
      let rest : length (bytes_in ranges file) ≤ length (places_in ranges) = in_rows ranges in
      let count : length one ≡ range.size = length-range_with_len range.start range.size in
      let both : length piece + length (bytes_in ranges file) ≡ length one + length (places_in ranges) =
      sym (length-append piece (bytes_in ranges file)) ∙ full ∙ length-append one (places_in ranges) in
      let here : length piece ≡ range.size = omega (arith, first, rest, count, both) in
      let there : length (bytes_in ranges file) ≡ length (places_in ranges) = omega (arith, first, rest, count, both) in
      All-append IsInside one (places_in ranges) (full_row range.start range.size here) (full_rows ranges there)

  -- one that ends before the end of a range isn't
  pub ends_before : (before behind : List Range) (range : Range) (ranges : List Range) → places_in ranges ≡ places_in (before ++ (range ∷ behind)) → 0 < range.size
      → length file < range.start + range.size → length (bytes_in ranges file) ≡ length (places_in ranges) → ⊥
  ends_before before behind range ranges same some past full =
      let one : List ℕ = range_with_len range.start range.size in
      let last : ℕ = range.size - 1 in
      let all : places_in ranges ≡ places_in before ++ (one ++ places_in behind) = same ∙ flat_map-append (λ (r : Range). range_with_len r.start r.size) before (range ∷ behind) in
      let others : All IsInside (one ++ places_in behind) = all_behind IsInside (places_in before) (one ++ places_in behind) (places_in ranges) all (full_rows ranges full) in
      let count : length one ≡ range.size = length-range_with_len range.start range.size in
      let low : last < range.size = omega (arith, some) in
      let found : get_or one last 0 ≡ range.start + last = get_or-range_with_len range.start range.size last 0 low in
      let there : get_or one last 0 < length file = All-get_or IsInside one last 0 (omega (arith, count, low)) (all_left IsInside one (places_in behind) others) in
      omega (arith, found, there, past, some)

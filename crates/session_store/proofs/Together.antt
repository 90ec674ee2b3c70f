-- A walk over lost chunks by their stripes, where those of one stripe stand together.
use Rattle.std.proofs.Common.{◌≡◌, ℕ, zero, suc, ◌+◌, ◌-◌, ◌<◌, ◌≤◌, Bool, true, false, cond, ◌&&◌, nat_eq, nat_le, bytes_eq, List, [], ◌∷◌, ◌++◌, length, map, filter, take, drop, get_or, slice_get, Some, refl, sym, ap, subst, ◌∙◌, arith}
use Rattle.std.specs.Bool.{⊤}
use Rattle.std.specs.List.{AllByRecursion, prefix_len}
use Rattle.std.proofs.Math.Seq.{take-add}
use Rattle.std.proofs.lemmas.Bool.{true≢false, eqb-true, eq-eqb, le-leb, lt-leb}
use Rattle.std.proofs.lemmas.List.{append-nil, drop-drop, length-drop, map-append, take-append-drop, take_all, take_more}
use Rattle.std.proofs.lemmas.List.Elements.{filter-append, filter_agree}
use Rattle.std.proofs.lemmas.List.Folds.{length-prefix_len}
use Rattle.std.proofs.lemmas.List.Sums.{prefix_len-drop_yes, prefix_len-drop_no, prefix_len-drop_all, prefix_len-le-length}
use Rattle.std.proofs.lemmas.Option.{none-some, same_Some}
use Rattle.run_laws.proofs.SoundHistory.{same_name}
use Rattle.store_map.specs.declared.call.Rebuild.{Rebuild as RebuildCall}
use Rattle.session_rules.specs.declared.session_answer.LostChunk.{LostChunk}
use Rattle.session_rules.specs.AloneHeals.{rebuild_of}
use Rattle.session_rules.proofs.Pairs.{every_append, every_kept, every_weaker, same_bytes}
use Rattle.session_store.specs.LostStripes.{is_beside, beside, AreFirst, StandTogether}
use Rattle.session_store.proofs.Lists.{got}
use Rattle.session_store.proofs.HealingStripes.{count_append}

-- ---- chunks of one stripe have one test
and_both : (a b : Bool) → (a && b) ≡ true → (a ≡ true) × (b ≡ true)
and_both true b e = (refl, e)
and_both false b e = absurd (true≢false (sym e))

same_test : (chunk other : LostChunk) → is_beside chunk other ≡ true → (c : LostChunk) → is_beside chunk c ≡ is_beside other c
same_test chunk other is c =
    let both = and_both (nat_eq other.stripe chunk.stripe) (bytes_eq other.name chunk.name) is in
    let stripe : other.stripe ≡ chunk.stripe = eqb-true other.stripe chunk.stripe both.0 in
    let name : other.name ≡ chunk.name = same_name other.name chunk.name both.1 in
    λ i. nat_eq c.stripe (sym stripe i) && bytes_eq c.name (sym name i)

beside_itself : (chunk : LostChunk) → is_beside chunk chunk ≡ true
beside_itself chunk = (λ i. eq-eqb chunk.stripe chunk.stripe refl i && bytes_eq chunk.name chunk.name) ∙ same_bytes chunk.name

-- where the one isn't beside the other, the other isn't beside the one
not_beside : (chunk other : LostChunk) → is_beside chunk other ≡ false → is_beside other chunk ≡ false
not_beside chunk other is = by (is_beside other chunk) refl
  where
    by : (b : Bool) → is_beside other chunk ≡ b → b ≡ false
    by true e = absurd (true≢false (sym (beside_itself other) ∙ same_test other chunk e other ∙ is))
    by false e = refl

same_count : (chunk other : LostChunk) → is_beside chunk other ≡ true → (lost : List LostChunk) → beside lost chunk ≡ beside lost other
same_count chunk other is lost = ap (λ (l : List LostChunk). length l) (filter_agree (is_beside chunk) (is_beside other) (same_test chunk other is) lost)

-- none of the second list is of a stripe of the first
abbrev pub AreOthers : List LostChunk → List LostChunk → Type 0
AreOthers done rest = AllByRecursion (λ chunk. beside rest chunk ≡ 0) done

suc_of : (n : ℕ) → 1 + n ≡ suc n
suc_of n = omega arith

-- ---- the chunks of a chunk's stripe are a list's first ones
-- the same, along the list
abbrev AreAhead : LostChunk → List LostChunk → Type 0
AreAhead chunk [] = ⊤
AreAhead chunk (other ∷ lost) = cond (is_beside chunk other) (AreAhead chunk lost) (beside lost chunk ≡ 0)

kept_passes : (chunk other : LostChunk) (kept rest : List LostChunk) → AllByRecursion (λ c. is_beside chunk c ≡ true) kept → kept ≡ other ∷ rest → is_beside chunk other ≡ true
kept_passes chunk other kept rest all is = (subst (λ l. AllByRecursion (λ c. is_beside chunk c ≡ true) l) is all).0

none_of_stripe : (chunk other : LostChunk) (lost kept : List LostChunk) → AllByRecursion (λ c. is_beside chunk c ≡ true) kept → is_beside chunk other ≡ false → kept ≡ take (length kept) (other ∷ lost) → length kept ≡ 0
none_of_stripe chunk other lost [] all apart first = refl
none_of_stripe chunk other lost (c ∷ kept) all apart first = absurd (true≢false (sym (kept_passes chunk other (c ∷ kept) (take (length kept) lost) all first) ∙ apart))

ahead_of : (chunk : LostChunk) (lost : List LostChunk) → AreFirst chunk lost → AreAhead chunk lost
ahead_of chunk [] first = tt
ahead_of chunk (other ∷ lost) first = by (is_beside chunk other) refl first (ahead_of chunk lost)
  where
    by : (b : Bool) → is_beside chunk other ≡ b → cond b (other ∷ filter (is_beside chunk) lost) (filter (is_beside chunk) lost) ≡ take (length (cond b (other ∷ filter (is_beside chunk) lost) (filter (is_beside chunk) lost))) (other ∷ lost) → (AreFirst chunk lost → AreAhead chunk lost) → cond b (AreAhead chunk lost) (beside lost chunk ≡ 0)
    by true is first rest = rest (ap (drop 1) first)
    by false is first rest = none_of_stripe chunk other lost (filter (is_beside chunk) lost) (every_kept (is_beside chunk) lost) is first

empty_if : (l : List LostChunk) → length l ≡ 0 → l ≡ []
empty_if [] none = refl
empty_if (c ∷ l) none = absurd (omega (arith, none))

first_if : (chunk : LostChunk) (lost : List LostChunk) → AreAhead chunk lost → AreFirst chunk lost
first_if chunk [] ahead = refl
first_if chunk (other ∷ lost) ahead = by (is_beside chunk other) ahead (first_if chunk lost)
  where
    by : (b : Bool) → cond b (AreAhead chunk lost) (beside lost chunk ≡ 0) → (AreAhead chunk lost → AreFirst chunk lost) → cond b (other ∷ filter (is_beside chunk) lost) (filter (is_beside chunk) lost) ≡ take (length (cond b (other ∷ filter (is_beside chunk) lost) (filter (is_beside chunk) lost))) (other ∷ lost)
    by true ahead rest = ap (λ l. other ∷ l) (rest ahead)
    by false none rest = empty_if (filter (is_beside chunk) lost) none ∙ ap (λ n. take n (other ∷ lost)) (sym none)

-- ---- the chunks of the first stripe of a list
module _ (first : LostChunk) where
  abbrev here : List LostChunk → ℕ
  here lost = prefix_len (is_beside first) lost

  all_beside : (lost : List LostChunk) → AllByRecursion (λ chunk. is_beside first chunk ≡ true) (take (here lost) lost)
  all_beside [] = tt
  all_beside (chunk ∷ lost) = by (is_beside first chunk) refl (all_beside lost)
    where
      by : (b : Bool) → is_beside first chunk ≡ b → AllByRecursion (λ chunk. is_beside first chunk ≡ true) (take (here lost) lost) →
          AllByRecursion (λ chunk. is_beside first chunk ≡ true) (take (cond b (1 + here lost) 0) (chunk ∷ lost))
      by true is rest = subst (λ n. AllByRecursion (λ chunk. is_beside first chunk ≡ true) (take n (chunk ∷ lost))) (sym (suc_of (here lost))) (is, rest)
      by false is rest = tt

  none_behind : (lost : List LostChunk) → AreAhead first lost → beside (drop (here lost) lost) first ≡ 0
  none_behind [] are = refl
  none_behind (chunk ∷ lost) are = by (is_beside first chunk) refl are (none_behind lost)
    where
      by : (b : Bool) → is_beside first chunk ≡ b → cond b (AreAhead first lost) (beside lost first ≡ 0) → (AreAhead first lost → beside (drop (here lost) lost) first ≡ 0) → beside (drop (cond b (1 + here lost) 0) (chunk ∷ lost)) first ≡ 0
      by true is are rest = subst (λ n. beside (drop n (chunk ∷ lost)) first ≡ 0) (sym (suc_of (here lost))) (rest are)
      by false is none rest = ap (λ b. length (cond b (chunk ∷ filter (is_beside first) lost) (filter (is_beside first) lost))) is ∙ none

  all_counted : (lost : List LostChunk) → AllByRecursion (λ chunk. is_beside first chunk ≡ true) lost → beside lost first ≡ length lost
  all_counted [] all = refl
  all_counted (chunk ∷ lost) all = ap (λ b. length (cond b (chunk ∷ filter (is_beside first) lost) (filter (is_beside first) lost))) all.0 ∙ ap suc (all_counted lost all.1)

  -- one that isn't among the rest isn't of the stripe that the rest begins with
  apart_first : (chunk : LostChunk) (rest : List LostChunk) → beside (first ∷ rest) chunk ≡ 0 → is_beside first chunk ≡ false
  apart_first chunk rest none = not_beside chunk first (by (is_beside chunk first) none)
    where
      by : (b : Bool) → length (cond b (first ∷ filter (is_beside chunk) rest) (filter (is_beside chunk) rest)) ≡ 0 → b ≡ false
      by true e = absurd (omega (arith, e))
      by false e = refl

  none_before : (done rest : List LostChunk) → AreOthers done (first ∷ rest) → beside done first ≡ 0
  none_before [] rest others = refl
  none_before (chunk ∷ done) rest others =
      ap (λ b. length (cond b (chunk ∷ filter (is_beside first) done) (filter (is_beside first) done))) (apart_first chunk rest others.0) ∙ none_before done rest others.1

  -- ---- a test of their count chooses all of them, or none
  chosen : (lost : List LostChunk) (most count : ℕ) → beside lost first ≡ count → (stripe : List LostChunk) → AllByRecursion (λ chunk. is_beside first chunk ≡ true) stripe →
      filter (λ chunk. nat_le (beside lost chunk) most) stripe ≡ cond (nat_le count most) stripe []
  chosen lost most count is stripe all = by (nat_le count most) refl stripe all
    where
      test : (chunk : LostChunk) → is_beside first chunk ≡ true → nat_le (beside lost chunk) most ≡ nat_le count most
      test chunk its = ap (λ n. nat_le n most) (sym (same_count first chunk its lost) ∙ is)

      by : (b : Bool) → nat_le count most ≡ b → (stripe : List LostChunk) → AllByRecursion (λ chunk. is_beside first chunk ≡ true) stripe → filter (λ chunk. nat_le (beside lost chunk) most) stripe ≡ cond b stripe []
      by true few [] all = refl
      by false few [] all = refl
      by true few (chunk ∷ stripe) all =
          let here : nat_le (beside lost chunk) most ≡ true = test chunk all.0 ∙ few in
          λ i. cond (here i) (chunk ∷ by true few stripe all.1 i) (by true few stripe all.1 i)
      by false few (chunk ∷ stripe) all =
          let here : nat_le (beside lost chunk) most ≡ false = test chunk all.0 ∙ few in
          λ i. cond (here i) (chunk ∷ by false few stripe all.1 i) (by false few stripe all.1 i)

-- ---- what stands at a place, and behind it
pub at_place : (lost : List LostChunk) (place : ℕ) → place < length lost → (chunk : LostChunk) × (slice_get lost place ≡ Some chunk)
at_place [] place less = absurd (omega (arith, less))
at_place (chunk ∷ lost) zero less = (chunk, refl)
at_place (chunk ∷ lost) (suc place) less = at_place lost place (omega (arith, less))

pub rebuilt_more : (stripe : List LostChunk) (i : ℕ) (chunk : LostChunk) → i < length stripe → chunk ≡ get_or stripe i chunk → map rebuild_of (take (i + 1) stripe) ≡ map rebuild_of (take i stripe) ++ rebuild_of chunk ∷ []
rebuilt_more stripe i chunk less read =
    ap (map rebuild_of) (take_more stripe i chunk less ∙ ap (λ (c : LostChunk). take i stripe ++ c ∷ []) (sym read)) ∙ map-append rebuild_of (take i stripe) (chunk ∷ [])

-- a stripe's chunks come to the rest if they are at most so many, and none of them otherwise
module _ (chunks : List RebuildCall) (stripe : List LostChunk) (most : ℕ) where
  pub all_added : (now : List RebuildCall) (i : ℕ) → length stripe ≤ most → length stripe ≤ i → now ≡ chunks ++ map rebuild_of (take i stripe) → now ≡ chunks ++ map rebuild_of (cond (nat_le (length stripe) most) stripe [])
  all_added now i few all is =
      is ∙ ap (λ l. chunks ++ map rebuild_of l) (take_all i stripe all) ∙ ap (λ b. chunks ++ map rebuild_of (cond b stripe [])) (sym (le-leb (length stripe) most few))

  pub none_added : most < length stripe → chunks ≡ chunks ++ map rebuild_of (cond (nat_le (length stripe) most) stripe [])
  none_added many = sym (append-nil chunks) ∙ ap (λ b. chunks ++ map rebuild_of (cond b stripe [])) (sym (lt-leb (length stripe) most many))

pub together_behind : (place : ℕ) (lost : List LostChunk) → StandTogether lost → StandTogether (drop place lost)
together_behind zero lost together = together
together_behind (suc place) [] together = tt
together_behind (suc place) (chunk ∷ lost) together = together_behind place lost together.1

from_place : (lost : List LostChunk) (place : ℕ) (chunk : LostChunk) → slice_get lost place ≡ Some chunk → (rest : List LostChunk) × (drop place lost ≡ chunk ∷ rest)
from_place [] place chunk is = absurd (none-some chunk is)
from_place (x ∷ lost) zero chunk is = (lost, ap (λ (c : LostChunk). c ∷ lost) (same_Some x chunk is))
from_place (x ∷ lost) (suc place) chunk is = from_place lost place chunk is

-- ---- one stripe further
module _ (lost : List LostChunk) (most start : ℕ) (first : LostChunk) (together : StandTogether lost) (at : slice_get lost start ≡ Some first) (others : AreOthers (take start lost) (drop start lost)) where
  abbrev rest : List LostChunk
  rest = (from_place lost start first at).0

  is : drop start lost ≡ first ∷ rest
  is = (from_place lost start first at).1

  abbrev count : ℕ
  count = prefix_len (is_beside first) (drop start lost)

  abbrev stripe : List LostChunk
  stripe = take count (drop start lost)

  abbrev later : List LostChunk
  later = drop count (drop start lost)

  pub some_here : 0 < count
  some_here =
      let one : count ≡ cond (is_beside first first) (1 + prefix_len (is_beside first) rest) 0 = ap (λ l. prefix_len (is_beside first) l) is in
      let more : cond (is_beside first first) (1 + prefix_len (is_beside first) rest) 0 ≡ 1 + prefix_len (is_beside first) rest = ap (λ b. cond b (1 + prefix_len (is_beside first) rest) 0) (beside_itself first) in
      omega (arith, one, more)

  none_later : beside later first ≡ 0
  none_later =
      none_behind first (drop start lost)
      (subst (λ l. AreAhead first l) (sym is)
      (subst (λ b. cond b (AreAhead first rest) (beside rest first ≡ 0)) (sym (beside_itself first)) (ahead_of first rest (subst StandTogether is (together_behind start lost together)).0)))

  all_here : AllByRecursion (λ chunk. is_beside first chunk ≡ true) stripe
  all_here = all_beside first (drop start lost)

  -- as many are lost of the stripe as stand here
  counted : beside lost first ≡ count
  counted =
      let parts : beside lost first ≡ beside (take start lost ++ (stripe ++ later)) first =
      ap (λ l. beside l first) (sym (take-append-drop start lost) ∙ ap (λ l. take start lost ++ l) (sym (take-append-drop count (drop start lost))))
      in
      let three : beside (take start lost ++ (stripe ++ later)) first ≡ beside (take start lost) first + (beside stripe first + beside later first) =
      count_append (is_beside first) (take start lost) (stripe ++ later) ∙ ap (λ n. beside (take start lost) first + n) (count_append (is_beside first) stripe later)
      in
      let before : beside (take start lost) first ≡ 0 = none_before first (take start lost) rest (subst (λ l. AreOthers (take start lost) l) is others) in
      let here : beside stripe first ≡ count = all_counted first stripe all_here ∙ length-prefix_len (is_beside first) (drop start lost) in
      let behind = none_later in
      omega (arith, parts, three, before, here, behind)

  pub chosen_stripe : filter (λ chunk. nat_le (beside lost chunk) most) (take (start + count) lost) ≡ filter (λ chunk. nat_le (beside lost chunk) most) (take start lost) ++ cond (nat_le count most) stripe []
  chosen_stripe =
      ap (filter (λ chunk. nat_le (beside lost chunk) most)) (take-add start count lost) ∙ filter-append (λ chunk. nat_le (beside lost chunk) most) (take start lost) stripe
      ∙ ap (λ l. filter (λ chunk. nat_le (beside lost chunk) most) (take start lost) ++ l) (chosen first lost most count counted stripe all_here)

  pub next_others : AreOthers (take (start + count) lost) (drop (start + count) lost)
  next_others =
      subst (λ l. AreOthers (take (start + count) lost) l) (drop-drop count start lost)
      (subst (λ l. AreOthers l later) (sym (take-add start count lost))
      (every_append (λ chunk. beside later chunk ≡ 0) (take start lost) stripe
      (every_weaker (λ chunk. beside (drop start lost) chunk ≡ 0) (λ chunk. beside later chunk ≡ 0) fewer (take start lost) others)
      (every_weaker (λ chunk. is_beside first chunk ≡ true) (λ chunk. beside later chunk ≡ 0) (λ chunk its. sym (same_count first chunk its later) ∙ none_later) stripe all_here)))
    where
      fewer : (chunk : LostChunk) → beside (drop start lost) chunk ≡ 0 → beside later chunk ≡ 0
      fewer chunk none =
          let both : beside (drop start lost) chunk ≡ beside stripe chunk + beside later chunk = ap (λ l. beside l chunk) (sym (take-append-drop count (drop start lost))) ∙ count_append (is_beside chunk) stripe later in
          omega (arith, none, both)

  -- the chunks that were chosen so far, and those of this stripe if they are at most so many
  pub next_chosen : (limit end : ℕ) (chunks now : List RebuildCall) → limit ≡ most → end ≡ start + count → chunks ≡ map rebuild_of (filter (λ chunk. nat_le (beside lost chunk) most) (take start lost)) →
      now ≡ chunks ++ map rebuild_of (cond (nat_le (length (take (end - start) (drop start lost))) limit) (take (end - start) (drop start lost)) []) →
      now ≡ map rebuild_of (filter (λ chunk. nat_le (beside lost chunk) most) (take end lost))
  next_chosen limit end chunks now bound at so_far more =
      let so_many : end - start ≡ count = omega (arith, at) in
      let its : cond (nat_le (length (take (end - start) (drop start lost))) limit) (take (end - start) (drop start lost)) [] ≡ cond (nat_le count most) stripe [] =
      (λ i. cond (nat_le (length (take (so_many i) (drop start lost))) (bound i)) (take (so_many i) (drop start lost)) [])
      ∙ ap (λ n. cond (nat_le n most) stripe []) (length-prefix_len (is_beside first) (drop start lost))
      in
      more ∙ (λ i. so_far i ++ map rebuild_of (its i)) ∙ sym (map-append rebuild_of (filter (λ chunk. nat_le (beside lost chunk) most) (take start lost)) (cond (nat_le count most) stripe []))
      ∙ ap (map rebuild_of) (sym chosen_stripe) ∙ ap (λ n. map rebuild_of (filter (λ chunk. nat_le (beside lost chunk) most) (take n lost))) (sym at)

-- ---- where a stripe ends
module _ (lost : List LostChunk) (start : ℕ) (chunk : LostChunk) (less : start < length lost) (read : chunk ≡ get_or lost start chunk) where
  -- the chunk at a place is of its own stripe
  pub goes_further : 0 < prefix_len (is_beside chunk) (drop start lost)
  goes_further =
      let one : prefix_len (is_beside chunk) (drop start lost) ≡ 1 + prefix_len (is_beside chunk) (drop (start + 1) lost) =
      prefix_len-drop_yes (is_beside chunk) lost start chunk less (ap (is_beside chunk) (sym read) ∙ beside_itself chunk)
      in
      omega (arith, one)

  pub same_prefix : (other : LostChunk) → slice_get lost start ≡ Some other → prefix_len (is_beside other) (drop start lost) ≡ prefix_len (is_beside chunk) (drop start lost)
  same_prefix other there = ap (λ (c : LostChunk). prefix_len (is_beside c) (drop start lost)) (sym (same_Some chunk other (sym (got lost start chunk less read) ∙ there)))

  -- it ends before a chunk of another stripe, or with the list
  module _ (end : ℕ) (from : start ≤ end) (so_far : prefix_len (is_beside chunk) (drop start lost) ≡ (end - start) + prefix_len (is_beside chunk) (drop end lost)) (other : LostChunk) (there : slice_get lost start ≡ Some other) where
    pub ends_before : (next : LostChunk) → end < length lost → next ≡ get_or lost end next → is_beside chunk next ≡ false → end ≡ start + prefix_len (is_beside other) (drop start lost)
    ends_before next within found apart =
        let none : prefix_len (is_beside chunk) (drop end lost) ≡ 0 = prefix_len-drop_no (is_beside chunk) lost end next within (ap (is_beside chunk) (sym found) ∙ apart) in
        let same = same_prefix other there in
        omega (arith, from, so_far, none, same)

    pub ends_last : length lost ≤ end → length lost ≡ start + prefix_len (is_beside other) (drop start lost)
    ends_last over =
        let none : prefix_len (is_beside chunk) (drop end lost) ≡ 0 = prefix_len-drop_all (is_beside chunk) lost end over in
        let few : prefix_len (is_beside chunk) (drop start lost) ≤ length (drop start lost) = prefix_len-le-length (is_beside chunk) (drop start lost) in
        let left : length (drop start lost) ≡ length lost - start = length-drop start lost in
        let same = same_prefix other there in
        omega (arith, less, from, over, so_far, none, few, left, same)

-- ---- lists that stand one behind the other
none_first : (chunk : LostChunk) (lost : List LostChunk) → beside lost chunk ≡ 0 → AreAhead chunk lost
none_first chunk [] none = tt
none_first chunk (other ∷ lost) none = by (is_beside chunk other) none
  where
    by : (b : Bool) → length (cond b (other ∷ filter (is_beside chunk) lost) (filter (is_beside chunk) lost)) ≡ 0 → cond b (AreAhead chunk lost) (beside lost chunk ≡ 0)
    by true e = absurd (omega (arith, e))
    by false e = e

first_append : (chunk : LostChunk) (xs ys : List LostChunk) → AreAhead chunk xs → beside ys chunk ≡ 0 → AreAhead chunk (xs ++ ys)
first_append chunk [] ys are none = none_first chunk ys none
first_append chunk (x ∷ xs) ys are none = by (is_beside chunk x) are (λ behind. first_append chunk xs ys behind none)
  where
    by : (b : Bool) → cond b (AreAhead chunk xs) (beside xs chunk ≡ 0) → (AreAhead chunk xs → AreAhead chunk (xs ++ ys)) → cond b (AreAhead chunk (xs ++ ys)) (beside (xs ++ ys) chunk ≡ 0)
    by true behind rest = rest behind
    by false none_too rest = let both = count_append (is_beside chunk) xs ys in omega (arith, both, none, none_too)

pub together_append : (xs ys : List LostChunk) → StandTogether xs → StandTogether ys → AreOthers xs ys → StandTogether (xs ++ ys)
together_append [] ys first second others = second
together_append (x ∷ xs) ys first second others = (first_if x (xs ++ ys) (first_append x xs ys (ahead_of x xs first.0) others.0), together_append xs ys first.1 second others.1)

-- chunks of one stripe
pub together_stripe : (name : List ℕ) (number : ℕ) (servers : List ℕ) → StandTogether (map (λ server. record { name = name; stripe = number; server = server }) servers)
together_stripe name number [] = tt
together_stripe name number (server ∷ servers) = (first_if (record { name = name; stripe = number; server = server }) (map (λ server. record { name = name; stripe = number; server = server }) servers) (all_first servers), together_stripe name number servers)
  where
    all_first : (others : List ℕ) → AreAhead (record { name = name; stripe = number; server = server }) (map (λ server. record { name = name; stripe = number; server = server }) others)
    all_first [] = tt
    all_first (other ∷ others) =
        subst (λ b. cond b (AreAhead (record { name = name; stripe = number; server = server }) (map (λ server. record { name = name; stripe = number; server = server }) others)) (beside (map (λ server. record { name = name; stripe = number; server = server }) others) (record { name = name; stripe = number; server = server }) ≡ 0))
        (sym (beside_itself (record { name = name; stripe = number; server = server }))) (all_first others)

-- What the versions keep where one of them changes.
use Rattle.std.proofs.Common.{◌≡◌, ◌⊎◌, ℕ, zero, suc, ◌+◌, ◌-◌, ◌<◌, ◌≤◌, Bool, true, false, ◌&&◌, not, nat_eq, fold, List, [], ◌∷◌, length, map, get_or, slice_get, is_some, cond, Option, None, Some, refl, sym, ap, subst, ◌∙◌, inl, inr, arith}
use Rattle.std.proofs.lemmas.Option.{same_Some, none-some, slice_get_cases, slice_get_past}
use Rattle.std.proofs.lemmas.Bool.{false≢true, eqb-true, cases_eq}
use Rattle.std.proofs.lemmas.List.Sorted.{IsPermutation-trans, IsPermutation-sym, IsPermutation-cons, length_permutation}
use Rattle.std.specs.List.Sorted.{IsPermutation}
use Rattle.std.proofs.Math.Bool.{beq}
use Rattle.std.proofs.lemmas.List.Sums.{sum_by-cons}
use Rattle.std.specs.Option.{option_and_then}
use Rattle.store_map.specs.declared.placement.Placement.{Placement}
use Rattle.store_core.specs.Lists.{change_at}
use Rattle.store_core.specs.Directory.{Version, Pin, Standing as CoreStanding}
use Rattle.store_core.specs.Placements.{placed_anew}
use Rattle.store_core.specs.Look.{set_standing}
use Rattle.store_core.specs.Lookups.{holds_standing, is_superseded_standing}
use Rattle.version_table.specs.Places.{places}
use Rattle.version_table.specs.Told.{Entry}
use Rattle.version_table.specs.Rows.{is_superseded, is_unswept, is_garbage, kept_at, kept_of, unswept_count}
use Rattle.version_table.specs.RowSteps.{turned}
use Rattle.version_table.specs.Table.{standing_in, version_in}
use Rattle.version_table.specs.Known.{is_known, is_unswept_standing}
use Rattle.version_table.specs.Counts.{one_if}
use Rattle.version_table.specs.TableSteps.{placed_anew_by}
use Rattle.version_table.specs.declared.told_versions.Standing.{Standing}
use Rattle.version_table.specs.declared.told_versions.Standing.TheVariants as standing
pub use Rattle.version_table.proofs.Changes.{change_at-set, length-change_at, change_here, slice_get-change_at, change_at-past}
use Rattle.version_table.proofs.Changes.{change_at-none}
use Rattle.dir_parts.proofs.Entries.{slice_get-map, slice_get-map_none}
use Rattle.version_table.proofs.RowSteps.{kept_unswept, garbage_unswept}
use Rattle.version_table.proofs.Places.{places-same, places-more}

-- the same test in both words
pub superseded_same : (s : Standing) → is_superseded_standing (standing_in s) ≡ is_superseded s
superseded_same standing.Drawn = refl
superseded_same standing.Current = refl
superseded_same standing.Superseded = refl
superseded_same standing.Taken = refl
superseded_same standing.Swept = refl

-- a version is known where something is kept of it
unswept_same : (s : Standing) → is_unswept_standing (standing_in s) ≡ is_unswept s
unswept_same standing.Drawn = refl
unswept_same standing.Current = refl
unswept_same standing.Superseded = refl
unswept_same standing.Taken = refl
unswept_same standing.Swept = refl

pub known_kept : (entries : List Entry) (number : ℕ) → is_some (kept_at entries number) ≡ is_known (map version_in entries) number
known_kept entries number = by (slice_get entries number) refl
  where
    by : (o : Option Entry) → slice_get entries number ≡ o → is_some (kept_at entries number) ≡ is_known (map version_in entries) number
    by (Some e) there =
        ap (λ o. is_some (option_and_then kept_of o)) there ∙ kept_unswept e ∙ sym (unswept_same e.standing)
        ∙ ap (holds_standing is_unswept_standing) (sym (slice_get-map version_in entries number e there))
    by None past =
        ap (λ o. is_some (option_and_then kept_of o)) past ∙ ap (holds_standing is_unswept_standing) (sym (slice_get-map_none version_in entries number past))

-- garbage stays garbage where it is superseded, and where it loses a pin
pub marked_stays : (x : Entry) → is_garbage x ≡ true → is_garbage (record x { standing = standing.Superseded }) ≡ true
marked_stays x h = by (is_superseded x.standing) (nat_eq x.pins 0) h
  where
    by : (a b : Bool) → (a && b) ≡ true → b ≡ true
    by true b h = h
    by false b h = absurd (false≢true h)

-- no more is garbage than isn't swept
pub garbage-unswept : (n : ℕ) (entries : List Entry) → length (places is_garbage n entries) ≤ unswept_count entries
garbage-unswept n [] = omega arith
garbage-unswept n (e ∷ entries) =
    let all : unswept_count (e ∷ entries) ≡ one_if (is_unswept e.standing) + unswept_count entries = sum_by-cons (λ (x : Entry). one_if (is_unswept x.standing)) e entries in
    by (is_garbage e) refl all (garbage-unswept (n + 1) entries)
  where
    by : (b : Bool) → is_garbage e ≡ b → unswept_count (e ∷ entries) ≡ one_if (is_unswept e.standing) + unswept_count entries → length (places is_garbage (n + 1) entries) ≤ unswept_count entries
        → length (cond {A = List ℕ} b (n ∷ places is_garbage (n + 1) entries) (places is_garbage (n + 1) entries)) ≤ unswept_count (e ∷ entries)
    by false is all rest = omega (arith, all, rest)
    by true is all rest =
        let one : one_if (is_unswept e.standing) ≡ 1 = ap one_if (garbage_unswept e is) in
        omega (arith, all, rest, one)

module _ (f : Entry → Entry) (items : List ℕ) (entries : List Entry) (i : ℕ) (x : Entry) (there : slice_get entries i ≡ Some x) (held : IsPermutation items (places is_garbage 0 entries)) where
  -- the heap holds the garbage as before
  pub held_same : is_garbage (f x) ≡ is_garbage x → IsPermutation items (places is_garbage 0 (change_at i f entries))
  held_same same = subst (IsPermutation items) (sym (places-same is_garbage f 0 i entries x there same)) held

  -- with one number more
  more : is_garbage x ≡ false → is_garbage (f x) ≡ true → IsPermutation (i ∷ places is_garbage 0 entries) (places is_garbage 0 (change_at i f entries))
  more before after =
      let first : 0 + i ≡ i = omega arith in
      subst (λ (k : ℕ). IsPermutation (k ∷ places is_garbage 0 entries) (places is_garbage 0 (change_at i f entries))) first (places-more is_garbage f 0 i entries x there before after)

  pub held_more : (new : List ℕ) → is_garbage x ≡ false → is_garbage (f x) ≡ true → IsPermutation (i ∷ items) new → IsPermutation new (places is_garbage 0 (change_at i f entries))
  held_more new before after pushed =
      IsPermutation-trans new (i ∷ items) (places is_garbage 0 (change_at i f entries)) (IsPermutation-sym (i ∷ items) new pushed)
      (IsPermutation-trans (i ∷ items) (i ∷ places is_garbage 0 entries) (places is_garbage 0 (change_at i f entries)) (IsPermutation-cons i items (places is_garbage 0 entries) held) (more before after))

  -- there was room for it
  pub has_room : is_garbage x ≡ false → is_garbage (f x) ≡ true → length items < unswept_count (change_at i f entries)
  has_room before after =
      let a : length (places is_garbage 0 entries) ≡ length items = length_permutation items (places is_garbage 0 entries) held in
      let b : length (places is_garbage 0 (change_at i f entries)) ≡ suc (length (places is_garbage 0 entries)) = length_permutation (i ∷ places is_garbage 0 entries) (places is_garbage 0 (change_at i f entries)) (more before after) in
      omega (arith, a, b, garbage-unswept 0 (change_at i f entries))

same_both : (was is : Bool) → not (beq is was) ≡ false → is ≡ was
same_both true true h = refl
same_both true false h = absurd (false≢true (sym h))
same_both false true h = absurd (false≢true (sym h))
same_both false false h = refl

-- what was no garbage and is
is_turned : (was is : Bool) → not (beq is was) ≡ true → (was ≡ true → is ≡ true) → (was ≡ false) × (is ≡ true)
is_turned true true apart stays = absurd (false≢true apart)
is_turned true false apart stays = absurd (false≢true (stays refl))
is_turned false true apart stays = (refl, refl)
is_turned false false apart stays = absurd (false≢true apart)

-- a version that turns into garbage
record Turns (f : Entry → Entry) (old : List Entry) (i : ℕ) : Type 0 where
  entry : Entry
  there : slice_get old i ≡ Some entry
  was : is_garbage entry ≡ false
  is : is_garbage (f entry) ≡ true

-- one version that is changed, and whether that turned it
module _ (f : Entry → Entry) (old new : List Entry) (i : ℕ) (after : new ≡ change_at i f old) (b : Bool) (told : b ≡ turned f (slice_get old i)) (items : List ℕ) (held : IsPermutation items (places is_garbage 0 old)) where
  pub kept_same : b ≡ false → IsPermutation items (places is_garbage 0 new)
  kept_same not_turned = subst (λ (l : List Entry). IsPermutation items (places is_garbage 0 l)) (sym after) (by (slice_get old i) refl)
    where
      by : (o : Option Entry) → slice_get old i ≡ o → IsPermutation items (places is_garbage 0 (change_at i f old))
      by (Some x) there = held_same f items old i x there held (same_both (is_garbage x) (is_garbage (f x)) (sym (told ∙ ap (turned f) there) ∙ not_turned))
      by None past = subst (λ (l : List Entry). IsPermutation items (places is_garbage 0 l)) (sym (change_at-none i f old past)) held

  module _ (stays : (x : Entry) → is_garbage x ≡ true → is_garbage (f x) ≡ true) (is_turned_now : b ≡ true) where
    it_turns : Turns f old i
    it_turns = by (slice_get old i) refl
      where
        by : (o : Option Entry) → slice_get old i ≡ o → Turns f old i
        by None past = absurd (false≢true (sym (told ∙ ap (turned f) past) ∙ is_turned_now))
        by (Some x) there =
            let both : (is_garbage x ≡ false) × (is_garbage (f x) ≡ true) = is_turned (is_garbage x) (is_garbage (f x)) (sym (told ∙ ap (turned f) there) ∙ is_turned_now) (stays x) in
            record { entry = x; there = there; was = both.0; is = both.1 }

    pub kept_more : (pushed : List ℕ) → IsPermutation (i ∷ items) pushed → IsPermutation pushed (places is_garbage 0 new)
    kept_more pushed p =
        subst (λ (l : List Entry). IsPermutation pushed (places is_garbage 0 l)) (sym after)
        (held_more f items old i it_turns.entry it_turns.there held pushed it_turns.was it_turns.is p)

    pub room_left : length items < unswept_count new
    room_left = subst (λ (l : List Entry). length items < unswept_count l) (sym after) (has_room f items old i it_turns.entry it_turns.there held it_turns.was it_turns.is)

-- a pin less
pub unpinned_stays : (x : Entry) → is_garbage x ≡ true → is_garbage (record x { pins = x.pins - 1 }) ≡ true
unpinned_stays x h = by (is_superseded x.standing) x.pins h
  where
    by : (b : Bool) (n : ℕ) → (b && nat_eq n 0) ≡ true → (b && nat_eq (n - 1) 0) ≡ true
    by false n h = absurd (false≢true h)
    by true zero h = refl
    by true (suc n) h = absurd (let never : suc n ≡ 0 = eqb-true (suc n) 0 h in omega (arith, never))

-- a version that isn't superseded and isn't afterwards
pub placed_same : (f : Entry → Entry) (old new : List Entry) (i : ℕ) → new ≡ change_at i f old → holds_standing is_superseded_standing (slice_get (map version_in old) i) ≡ false
    → ((x : Entry) → is_garbage (f x) ≡ false) → (items : List ℕ) → IsPermutation items (places is_garbage 0 old) → IsPermutation items (places is_garbage 0 new)
placed_same f old new i after other never items held = subst (λ (l : List Entry). IsPermutation items (places is_garbage 0 l)) (sym after) (by (slice_get old i) refl)
  where
    by : (o : Option Entry) → slice_get old i ≡ o → IsPermutation items (places is_garbage 0 (change_at i f old))
    by None past = subst (λ (l : List Entry). IsPermutation items (places is_garbage 0 l)) (sym (change_at-none i f old past)) held
    by (Some x) there =
        let read : slice_get (map version_in old) i ≡ Some (version_in x) = slice_get-map version_in old i x there in
        let stands : is_superseded x.standing ≡ false = sym (superseded_same x.standing) ∙ ap (holds_standing is_superseded_standing) (sym read) ∙ other in
        let was : is_garbage x ≡ false = ap (λ b. b && nat_eq x.pins 0) stands in
        held_same f items old i x there held (never x ∙ sym was)

-- a change that turns nothing
pub same_garbage : (f : Entry → Entry) → ((x : Entry) → is_garbage (f x) ≡ is_garbage x) → (old new : List Entry) (i : ℕ) → new ≡ change_at i f old → (items : List ℕ) → IsPermutation items (places is_garbage 0 old)
    → IsPermutation items (places is_garbage 0 new)
same_garbage f same old new i after items held = subst (λ (l : List Entry). IsPermutation items (places is_garbage 0 l)) (sym after) (by (slice_get old i) refl)
  where
    by : (o : Option Entry) → slice_get old i ≡ o → IsPermutation items (places is_garbage 0 (change_at i f old))
    by None past = subst (λ (l : List Entry). IsPermutation items (places is_garbage 0 l)) (sym (change_at-none i f old past)) held
    by (Some x) there = held_same f items old i x there held (same x)

-- how often a version is pinned
pub pins_read : (entries : List Entry) (i : ℕ) (x : Entry) → slice_get entries i ≡ Some x → get_or (map (λ (entry : Entry). entry.pins) entries) i 0 ≡ x.pins
pins_read [] i x there = absurd (none-some x there)
pins_read (e ∷ entries) zero x there = ap (λ (y : Entry). y.pins) (same_Some e x there)
pins_read (e ∷ entries) (suc i) x there = pins_read entries i x there

-- ---- lengths
pub length-fold : {X Y : Type 0} (f : List X → Y → List X) → ((xs : List X) (y : Y) → length (f xs y) ≡ length xs) → (xs : List X) (ys : List Y) → length (fold f xs ys) ≡ length xs
length-fold f keeps xs [] = refl
length-fold f keeps xs (y ∷ ys) = length-fold f keeps (f xs y) ys ∙ keeps xs y

pub length-set_standing : (standing : CoreStanding) (numbers : List ℕ) (versions : List Version) → length (set_standing standing numbers versions) ≡ length versions
length-set_standing standing numbers versions =
    length-fold (λ vs number. change_at number (λ version. record version { standing = standing }) vs) (λ vs number. length-change_at number _ vs) versions numbers

-- a version that becomes current isn't superseded, and no other becomes so
pub still_other : (m n : ℕ) (row : List Placement) (versions : List Version) → holds_standing is_superseded_standing (slice_get versions n) ≡ false
    → holds_standing is_superseded_standing (slice_get (change_at m (λ version. record version { placed = row; standing = CoreStanding.Current }) versions) n) ≡ false
still_other m n row versions other = by (cases_eq n m)
  where
    put : Version → Version
    put v = record v { placed = row; standing = CoreStanding.Current }

    by : (n ≡ m) ⊎ (n ≡ m → ⊥) → holds_standing is_superseded_standing (slice_get (change_at m put versions) n) ≡ false
    by (inr apart) = ap (holds_standing is_superseded_standing) (slice_get-change_at m n put versions apart) ∙ other
    by (inl same) = subst (λ (k : ℕ). holds_standing is_superseded_standing (slice_get (change_at k put versions) n) ≡ false) same (here (slice_get_cases versions n).1)
      where
        here : ((v : Version) × (n < length versions) × (slice_get versions n ≡ Some v) × (get_or versions n v ≡ v)) ⊎ ((length versions ≤ n) × (slice_get versions n ≡ None))
            → holds_standing is_superseded_standing (slice_get (change_at n put versions) n) ≡ false
        here (inl k) = ap (holds_standing is_superseded_standing) (change_here n put versions k.0 k.2)
        here (inr k) = ap (holds_standing is_superseded_standing) (slice_get_past (change_at n put versions) n (let past : length versions ≤ n = k.0 in omega (arith, past, length-change_at n put versions)))

pub length-placed_anew : (server epoch : ℕ) (pins : List Pin) (versions : List Version) → length (placed_anew_by server epoch pins versions) ≡ length versions
length-placed_anew server epoch pins versions =
    length-fold (λ vs (pin : Pin). change_at pin.version (λ version. record version { placed = change_at server (placed_anew epoch) version.placed }) vs) (λ vs pin. length-change_at pin.version _ vs) versions pins

-- a count that gains one at most
pub more_here : (m v : ℕ) (counts : List ℕ) → get_or (change_at m (λ n. n + 1) counts) v 0 ≤ get_or counts v 0 + 1
more_here m v [] = omega arith
more_here zero zero (n ∷ counts) = omega arith
more_here zero (suc v) (n ∷ counts) = omega arith
more_here (suc m) zero (n ∷ counts) = omega arith
more_here (suc m) (suc v) (n ∷ counts) = more_here m v counts

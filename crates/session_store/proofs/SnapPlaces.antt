-- Where the chunks of a snapshot's objects were placed.
use Rattle.std.proofs.Common.{◌≡◌, ℕ, suc, ◌+◌, ◌<◌, true, nat_eq, List, [], ◌∷◌, length, map, get_or, slice_get, All, refl, sym, ap, ◌∙◌, arith}
use Rattle.std.specs.List.{AllByRecursion, range_with_len}
use Rattle.std.proofs.lemmas.Bool.{or_left, or_right, eq-eqb}
use Rattle.std.proofs.lemmas.List.Elements.{All-head, All-tail}
use Rattle.std.proofs.lemmas.Option.{same_Some}
use Rattle.std.proofs.lemmas.Simd.{map-map}
use Rattle.clay_grid.specs.Shape.{Shape, stripe_length}
use Rattle.store_map.specs.Laws.{names_of}
use Rattle.store_map.specs.Limits.{stripes_met}
use Rattle.store_map.specs.declared.placement.Placement.{Placement}
use Rattle.store_map.specs.declared.placement.Placement.TheVariants as placement
use Rattle.store_core.specs.Directory.{Object, Directory}
use Rattle.store_core.specs.Lists.{is_among}
use Rattle.store_core.specs.Look.{placed_of, seen_at, stripes_between}
use Rattle.store_core.specs.Lookups.{find_object}
use Rattle.store_core.specs.Step.{Places}
use Rattle.store_core.specs.Told.{Seen as CoreSeen}
use Rattle.call_steps.specs.declared.seen.Seen.{Seen}
use Rattle.stripe_stamps.specs.SeenStripes.{seen_in}
use Rattle.stripe_stamps.specs.Sealed.{Sealed}
use Rattle.session_rules.specs.State.{Chunk, Numbering, Snapshot, State}
use Rattle.session_rules.specs.Seen.{version_of, all_numbers, live_numbers, IsSeenAs}
use Rattle.session_rules.proofs.LooksMade.{InDirectory}
use Rattle.session_rules.proofs.Readers.{among_first, among_later}
use Rattle.snapshot_view.specs.LookSteps.{IsAsFound}
use Rattle.snapshot_view.specs.Snapshots.{KeptOf}
use Rattle.snapshot_view.proofs.Standing.{numbers_there}
use Rattle.session_store.specs.Standing.{placed_in}

abbrev first_name : List ℕ → List (List ℕ) → List ℕ
first_name other [] = other
first_name other (name ∷ names) = name

abbrev later_names : List (List ℕ) → List (List ℕ)
later_names [] = []
later_names (name ∷ names) = names

-- a list read place by place
row : {X : Type 0} (f : ℕ → X) (vs : List ℕ) (v : ℕ → ℕ) (a : ℕ) → ((j : ℕ) → v (a + j) ≡ get_or vs j 0) → map (λ i. f (v i)) (range_with_len a (length vs)) ≡ map f vs
row f [] v a same = refl
row {X = X} f (x ∷ vs) v a same =
    let none : a ≡ a + 0 = omega arith in
    ap (λ w. f w ∷ map (λ i. f (v i)) (range_with_len (a + 1) (length vs))) (ap v none ∙ same 0)
    ∙ ap (λ (xs : List X). f x ∷ xs) (row f vs v (a + 1) (λ j. let next : a + 1 + j ≡ a + suc j = omega arith in ap v next ∙ same (suc j)))

module _ (g : Shape) (max : ℕ) (stands : List ℕ) (p : Places) (s : State) (h : IsSeenAs g max stands p s) (before : Sealed) (core : before.core ≡ p.directory) (some : 0 < stripe_length before.core.shape) (kept : Snapshot) (stripes_are : kept.stripes ≡ s.stripes) where
  abbrev placed_at : ℕ → List Placement
  placed_at n = map (λ epoch. placement.At epoch) (placed_in kept n)

  abbrev placed_by : ℕ → List Placement
  placed_by version = placed_of (slice_get before.core.versions version)

  numbers_placed : (ns : List ℕ) → ((n : ℕ) → is_among n ns ≡ true → is_among n (live_numbers s) ≡ true) → map (λ n. placed_by (version_of stands n)) ns ≡ map placed_at ns
  numbers_placed [] live = refl
  numbers_placed (n ∷ ns) live =
      ap (λ (l : List Placement). l ∷ map (λ n. placed_by (version_of stands n)) ns)
      (ap (λ (d : Directory). placed_of (slice_get d.versions (version_of stands n))) core
      ∙ (h.stripes n (live n (or_left (nat_eq n n) (is_among n ns) (eq-eqb n n refl)))).placed
      ∙ sym (map-map (λ epoch. placement.At epoch) (λ (chunk : Chunk). chunk.placed) (get_or s.stripes n []))
      ∙ ap (λ stripes. map (λ epoch. placement.At epoch) (map (λ (chunk : Chunk). chunk.placed) (get_or stripes n []))) (sym stripes_are))
      ∙ ap (λ (ls : List (List Placement)). placed_at n ∷ ls) (numbers_placed ns (λ m e. live m (or_right (nat_eq m n) (is_among m ns) e)))

  module _ (one : KeptOf) (object : List ℕ × List ℕ) (name : one.name ≡ object.0) (found : IsAsFound before one) (its : InDirectory g stands p.directory.objects object)
      (live : (n : ℕ) → is_among n object.1 ≡ true → is_among n (live_numbers s) ≡ true) where
    same_object : found.object ≡ its.there
    same_object =
        same_Some found.object its.there
        (sym found.found ∙ ap (λ n. find_object n before.core.objects) name ∙ ap (λ (d : Directory). find_object object.0 d.objects) core ∙ its.found)

    shape : before.core.shape ≡ g
    shape = ap (λ (d : Directory). d.shape) core ∙ h.shape

    one_placed : map (λ (seen : Seen). seen.placed.items) one.stripes ≡ map placed_at object.1
    one_placed =
        sym (map-map (λ (seen : CoreSeen). seen.placed) seen_in one.stripes)
        ∙ ap (map (λ (seen : CoreSeen). seen.placed)) (found.stripes ∙ ap (λ (o : Object). map (seen_at before.core o) (stripes_between before.core.shape 0 o.length)) same_object)
        ∙ map-map (λ (seen : CoreSeen). seen.placed) (seen_at before.core its.there) (stripes_between before.core.shape 0 its.there.length)
        ∙ ap (map (λ i. placed_by (get_or its.there.versions i 0)))
        (numbers_there before.core.shape some its.there.length (length its.there.versions) (its.count ∙ ap (λ g. stripes_met (stripe_length g) 0 its.there.length) (sym shape)))
        ∙ row placed_by its.there.versions (λ i. get_or its.there.versions i 0) 0 (λ j. let same : 0 + j ≡ j = omega arith in ap (λ i. get_or its.there.versions i 0) same)
        ∙ ap (map placed_by) its.versions
        ∙ map-map placed_by (version_of stands) object.1
        ∙ numbers_placed object.1 live

  pub all_placed : (objects : List KeptOf) (numbers : Numbering) → map (λ (object : KeptOf). object.name) objects ≡ names_of numbers → All (IsAsFound before) objects →
      AllByRecursion (InDirectory g stands p.directory.objects) numbers → ((n : ℕ) → is_among n (all_numbers numbers) ≡ true → is_among n (live_numbers s) ≡ true) →
      map (λ (object : KeptOf). map (λ (seen : Seen). seen.placed.items) object.stripes) objects ≡ map (λ (object : List ℕ × List ℕ). map placed_at object.1) numbers
  all_placed [] [] names found its live = refl
  all_placed [] (object ∷ numbers) names found its live = absurd (cc (names))
  all_placed (one ∷ objects) [] names found its live = absurd (cc (names))
  all_placed (one ∷ objects) (object ∷ numbers) names found its live =
      ap (λ (l : List (List Placement)). l ∷ map (λ (object : KeptOf). map (λ (seen : Seen). seen.placed.items) object.stripes) objects)
      (one_placed one object (ap (first_name []) names) (All-head (IsAsFound before) one objects found) its.0 (λ n e. live n (among_first object numbers n e)))
      ∙ ap (λ (ls : List (List (List Placement))). map placed_at object.1 ∷ ls)
      (all_placed objects numbers (ap later_names names) (All-tail (IsAsFound before) one objects found) its.1 (λ n e. live n (among_later object numbers n e)))

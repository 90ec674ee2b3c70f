-- A call asks servers a bounded number of times.
use Rattle.std.proofs.Common.{◌≡◌, ℕ, zero, suc, ◌+◌, ◌*◌, ◌<◌, ◌≤◌, Bool, true, false, cond, not, ◌||◌, nat_lt, nat_eq, List, [], ◌∷◌, ◌++◌, length, map, filter, refl, sym, ap, subst, ◌∙◌, inl, inr, arith, length-append, true≢false}
use Rattle.std.proofs.lemmas.Bool.{eq-eqb, cases_eq, cond_both}
use Rattle.std.proofs.lemmas.List.{length-map}
use Rattle.std.proofs.lemmas.List.FromFn.{length-range_with_len}
use Rattle.std.specs.List.{range_with_len}
use Rattle.store_core.specs.Placements.{skipped_from, skipped_count}
use Rattle.clay_grid.specs.Shape.{Shape, chunk_count}
use Rattle.clay_grid.specs.Score.{count_below}
use Rattle.clay_grid.proofs.Counting.{count_below-le, count_below-add}
use Rattle.clay_grid.proofs.Rising.{length-filter_range}
use Rattle.store_map.specs.declared.placement.Found.TheVariants as found
use Rattle.store_map.specs.declared.placement.Placement.{Placement}
use Rattle.store_core.specs.Lists.{is_among, places_of}
use Rattle.store_core.specs.Told.{Seen, Lost, Told}
use Rattle.store_core.specs.Act.{Outcome, Act}
use Rattle.store_core.specs.Gathering.{Gathering, Part, servers_but, lost_at, unless_too_many, fetching_whole, recovering, fetching_repair, making, looking}
use Rattle.store_core.specs.GatheringParts.{chunks_in_range, after_data, fetching_data, gather_part, gather_chunk, ending}
use Rattle.store_core.specs.Put.{settling, committing, preparing, preparing_all}
use Rattle.run_laws.specs.AskLaws.{IsAsking, IsPreparing, IsSettling, AsksFewTimes}

-- ---- counting
abbrev one_if : Bool → ℕ
one_if b = cond b 1 0

pub among_filter : (p : ℕ → Bool) (a k i : ℕ) → a ≤ i → i < a + k → p i ≡ true → is_among i (filter p (range_with_len a k)) ≡ true
among_filter p a zero i low high e = absurd (omega (arith, low, high))
among_filter p a (suc k) i low high e = elim (cases_eq i a) as (λ _. is_among i (cond (p a) (a ∷ filter p (range_with_len (a + 1) k)) (filter p (range_with_len (a + 1) k))) ≡ true) [
  | inl same ↦ at_first same
  | inr apart ↦ by (p a) (among_filter p (a + 1) k i (omega (arith, low, apart)) (omega (arith, high)) e)
]
  where
    at_first : i ≡ a → is_among i (cond (p a) (a ∷ filter p (range_with_len (a + 1) k)) (filter p (range_with_len (a + 1) k))) ≡ true
    at_first same =
        let here : p a ≡ true = ap p (sym same) ∙ e in
        ap (λ b. is_among i (cond b (a ∷ filter p (range_with_len (a + 1) k)) (filter p (range_with_len (a + 1) k)))) here
        ∙ ap (λ b. b || is_among i (filter p (range_with_len (a + 1) k))) (eq-eqb i a same)

    or_true : (b : Bool) → (b || true) ≡ true
    or_true true = refl
    or_true false = refl

    by : (b : Bool) → is_among i (filter p (range_with_len (a + 1) k)) ≡ true
        → is_among i (cond b (a ∷ filter p (range_with_len (a + 1) k)) (filter p (range_with_len (a + 1) k))) ≡ true
    by true h = ap (λ x. nat_eq i a || x) h ∙ or_true (nat_eq i a)
    by false h = h

one_of_two : (p q : Bool) → (p ≡ true → q ≡ true) → one_if (not q) + one_if p ≤ 1
one_of_two true true h = omega arith
one_of_two true false h = absurd (true≢false (sym (h refl)))
one_of_two false true h = omega arith
one_of_two false false h = omega arith

disjoint : (n : ℕ) (p q : ℕ → Bool) → ((i : ℕ) → i < n → p i ≡ true → q i ≡ true) → count_below n (λ i. not (q i)) + count_below n p ≤ n
disjoint zero p q h = omega arith
disjoint (suc n) p q h =
    let rest : count_below n (λ i. not (q i)) + count_below n p ≤ n = disjoint n p q (λ i below e. h i (omega (arith, below)) e) in
    let last : one_if (not (q n)) + one_if (p n) ≤ 1 = one_of_two (p n) (q n) (λ e. h n (omega arith) e) in
    let x : ℕ = one_if (not (q n)) in
    let y : ℕ = one_if (p n) in
    omega (arith, rest, last)

-- some of the first k numbers, and all others below k + m
some_and_others : (k m : ℕ) (p : ℕ → Bool)
    → length (filter p (range_with_len 0 k)) + count_below (k + m) (λ i. not (is_among i (filter p (range_with_len 0 k)))) ≤ k + m
some_and_others k m p =
    let chosen : List ℕ = filter p (range_with_len 0 k) in
    let counted : length chosen ≡ count_below k p = length-filter_range p k in
    let parted : count_below (k + m) (λ i. not (is_among i chosen)) ≡ count_below k (λ i. not (is_among i chosen)) + count_below m (λ i. not (is_among (k + i) chosen)) =
    count_below-add k m (λ i. not (is_among i chosen)) in
    let low : count_below k (λ i. not (is_among i chosen)) + count_below k p ≤ k =
    disjoint k p (λ i. is_among i chosen) (λ i below e. among_filter p 0 k i (omega arith) (omega (arith, below)) e) in
    let high : count_below m (λ i. not (is_among (k + i) chosen)) ≤ m = count_below-le m (λ i. not (is_among (k + i) chosen)) in
    omega (arith, counted, parted, low, high)

not_itself : (n t : ℕ) → t < n → count_below n (λ i. not (is_among i (t ∷ []))) + 1 ≤ n
not_itself n t below =
    let only : count_below n (λ i. not (is_among i (t ∷ []))) + count_below n (λ i. nat_eq i t) ≤ n =
    disjoint n (λ i. nat_eq i t) (λ i. is_among i (t ∷ [])) (λ i _ e. ap (λ b. b || false) e) in
    let one : 1 ≤ count_below n (λ i. nat_eq i t) = at_least n below in
    omega (arith, only, one)
  where
    at_least : (n : ℕ) → t < n → 1 ≤ count_below n (λ i. nat_eq i t)
    at_least zero h = absurd (omega (arith, h))
    at_least (suc n) h = elim (cases_eq n t) as (λ _. 1 ≤ count_below n (λ i. nat_eq i t) + one_if (nat_eq n t)) [
      | inl same ↦ (let e : one_if (nat_eq n t) ≡ 1 = ap one_if (eq-eqb n t same) in let x : ℕ = one_if (nat_eq n t) in omega (arith, e))
      | inr apart ↦ (let rest : 1 ≤ count_below n (λ i. nat_eq i t) = at_least n (omega (arith, h, apart)) in let x : ℕ = one_if (nat_eq n t) in omega (arith, rest))
    ]

module _ (g : Shape) (seen : Seen) where
  pub count_others : (asked : List ℕ) → length (servers_but g seen asked) ≡ count_below (chunk_count g) (λ i. not (is_among i asked))
  count_others asked = length-filter_range (λ i. not (is_among i asked)) (chunk_count g)

  at_most_all : (asked : List ℕ) → length (servers_but g seen asked) ≤ chunk_count g
  at_most_all asked =
      let e : length (servers_but g seen asked) ≡ count_below (chunk_count g) (λ i. not (is_among i asked)) = count_others asked in
      let h : count_below (chunk_count g) (λ i. not (is_among i asked)) ≤ chunk_count g = count_below-le (chunk_count g) (λ i. not (is_among i asked)) in
      omega (arith, e, h)

  pub all_but_one : (target : ℕ) → target < chunk_count g → length (servers_but g seen (target ∷ [])) + 1 ≤ chunk_count g
  all_but_one target below =
      let e : length (servers_but g seen (target ∷ [])) ≡ count_below (chunk_count g) (λ i. not (is_among i (target ∷ []))) = count_others (target ∷ []) in
      let h : count_below (chunk_count g) (λ i. not (is_among i (target ∷ []))) + 1 ≤ chunk_count g = not_itself (chunk_count g) target below in
      omega (arith, e, h)

  -- ---- each stage asks each of its servers once
  unless_asks : (missing : List Lost) (told : List Told) (otherwise : Gathering) → IsAsking (unless_too_many g seen missing told otherwise) → IsAsking otherwise
  unless_asks missing told otherwise h = by (nat_lt g.parity_count (length missing)) h
    where
      by : (b : Bool) → IsAsking (cond b (Gathering.TooMany missing told) otherwise) → IsAsking otherwise
      by true h = absurd h
      by false h = h

  whole_asks : (servers : List ℕ) (wanted : ℕ) (missing : List Lost) (told : List Told) → IsAsking (fetching_whole g seen servers wanted missing told) → length told < length servers
  whole_asks servers zero missing told h = absurd h
  whole_asks [] (suc wanted) missing told h = absurd h
  whole_asks (server ∷ more) (suc wanted) missing [] h = omega arith
  whole_asks (server ∷ more) (suc wanted) missing (Told.Given layers ∷ told) h =
      let rest : length told < length more = whole_asks more wanted missing told h in omega (arith, rest)
  whole_asks (server ∷ more) (suc wanted) missing (Told.Missing epoch ∷ told) h =
      let marked : List Lost = missing ++ lost_at g seen server epoch ∷ [] in
      let rest : length told < length more = whole_asks more (suc wanted) marked told (unless_asks marked told _ h) in omega (arith, rest)
  whole_asks (server ∷ more) (suc wanted) missing (answer ∷ told) h = absurd h

  recovering_asks : (missing : List Lost) (told : List Told) → IsAsking (recovering g seen missing told) → length told < chunk_count g
  recovering_asks missing told h =
      let servers : List ℕ = map (λ (lost : Lost). lost.server) missing in
      let asked : length told < length (servers_but g seen servers) = whole_asks (servers_but g seen servers) g.data_count missing told h in
      let most : length (servers_but g seen servers) ≤ chunk_count g = at_most_all servers in
      omega (arith, asked, most)

  repair_asks : (servers : List ℕ) (lost : Lost) (told : List Told) → IsAsking (fetching_repair g seen servers lost told) → length told < length servers + chunk_count g
  repair_asks [] lost told h = absurd h
  repair_asks (server ∷ more) lost [] h = omega arith
  repair_asks (server ∷ more) lost (Told.Given layers ∷ told) h =
      let rest : length told < length more + chunk_count g = repair_asks more lost told h in omega (arith, rest)
  repair_asks (server ∷ more) lost (Told.Missing epoch ∷ told) h =
      let marked : List Lost = lost ∷ lost_at g seen server epoch ∷ [] in
      let rest : length told < chunk_count g = recovering_asks marked told (unless_asks marked told _ h) in omega (arith, rest)
  repair_asks (server ∷ more) lost (answer ∷ told) h = absurd h

  -- where the first marked server leaves at most so many others
  module _ (others : ℕ) where
    making_asks : (lost : Lost) (more : List Lost) (told : List Told) → length (servers_but g seen (lost.server ∷ [])) ≤ others
        → IsAsking (making g seen (lost ∷ more) told) → length told < others + chunk_count g
    making_asks lost [] told most h =
        let asked : length told < length (servers_but g seen (lost.server ∷ [])) + chunk_count g = repair_asks (servers_but g seen (lost.server ∷ [])) lost told h in
        omega (arith, asked, most)
    making_asks lost (other ∷ more) told most h =
        let asked : length told < chunk_count g = recovering_asks (lost ∷ other ∷ more) told h in omega (arith, asked)

    looking_asks : (servers : List ℕ) (lost : Lost) (more : List Lost) (told : List Told) → length (servers_but g seen (lost.server ∷ [])) ≤ others
        → IsAsking (looking g seen servers (lost ∷ more) told) → length told < length servers + (others + chunk_count g)
    looking_asks [] lost more told most h =
        let asked : length told < others + chunk_count g = making_asks lost more told most h in omega (arith, asked)
    looking_asks (server ∷ rest) lost more [] most h = omega arith
    looking_asks (server ∷ rest) lost more (Told.Here ∷ told) most h =
        let asked : length told < length rest + (others + chunk_count g) = looking_asks rest lost more told most h in omega (arith, asked)
    looking_asks (server ∷ rest) lost more (Told.Missing epoch ∷ told) most h =
        let marked : List Lost = more ++ lost_at g seen server epoch ∷ [] in
        let asked : length told < length rest + (others + chunk_count g) = looking_asks rest lost marked told most (unless_asks (lost ∷ marked) told _ h) in
        omega (arith, asked)
    looking_asks (server ∷ rest) lost more (answer ∷ told) most h = absurd h

module _ (g : Shape) (part : Part) where
  abbrev unasked : List ℕ
  unasked = servers_but g part.seen (chunks_in_range g part.start part.end)

  after_data_asks : (missing : List Lost) (told : List Told) → IsAsking (after_data g part missing told) → length told < length unasked + (chunk_count g + chunk_count g)
  after_data_asks [] told h = absurd h
  after_data_asks (lost ∷ more) told h = looking_asks g part.seen (chunk_count g) unasked lost more told (at_most_all g part.seen (lost.server ∷ [])) h

  data_asks : (servers : List ℕ) (missing : List Lost) (told : List Told) → IsAsking (fetching_data g part servers missing told)
      → length told < length servers + (length unasked + (chunk_count g + chunk_count g))
  data_asks [] missing told h =
      let asked : length told < length unasked + (chunk_count g + chunk_count g) = after_data_asks missing told h in omega (arith, asked)
  data_asks (server ∷ more) missing [] h = omega arith
  data_asks (server ∷ more) missing (Told.Given layers ∷ told) h =
      let asked : length told < length more + (length unasked + (chunk_count g + chunk_count g)) = data_asks more missing told h in omega (arith, asked)
  data_asks (server ∷ more) missing (Told.Missing epoch ∷ told) h =
      let marked : List Lost = missing ++ lost_at g part.seen server epoch ∷ [] in
      let asked : length told < length more + (length unasked + (chunk_count g + chunk_count g)) = data_asks more marked told (unless_asks g part.seen marked told _ h) in
      omega (arith, asked)
  data_asks (server ∷ more) missing (answer ∷ told) h = absurd h

  pub part_asks : (told : List Told) → IsAsking (gather_part g part told) → length told < 3 * chunk_count g
  part_asks told h =
      let chunks : List ℕ = chunks_in_range g part.start part.end in
      let asked : length told < length chunks + (length unasked + (chunk_count g + chunk_count g)) = data_asks chunks [] told h in
      let e : length unasked ≡ count_below (chunk_count g) (λ i. not (is_among i chunks)) = count_others g part.seen chunks in
      let all : length chunks + count_below (chunk_count g) (λ i. not (is_among i chunks)) ≤ chunk_count g = some_and_others g.data_count g.parity_count _ in
      omega (arith, asked, e, all)

pub chunk_asks : (g : Shape) (seen : Seen) (target : ℕ) (told : List Told) → target < chunk_count g → IsAsking (gather_chunk g seen target told) → length told + 1 < 3 * chunk_count g
chunk_asks g seen target [] below h = omega (arith, all_but_one g seen target below, below)
chunk_asks g seen target (Told.Here ∷ told) below h = absurd h
chunk_asks g seen target (Told.Missing (found.Absent epoch) ∷ told) below h =
    let others : ℕ = length (servers_but g seen (target ∷ [])) in
    let most : others + 1 ≤ chunk_count g = all_but_one g seen target below in
    let asked : length told < others + (others + chunk_count g) =
    looking_asks g seen others (servers_but g seen (target ∷ [])) (lost_at g seen target (found.Absent epoch)) [] told (omega arith) h in
    omega (arith, most, asked)
chunk_asks g seen target (Told.Missing (found.Away downs) ∷ told) below h = absurd h
chunk_asks g seen target (answer ∷ told) below h = absurd h

-- ---- prepares and settles
abbrev pub place_for : ℕ → ℕ → ℕ × ℕ
place_for version server = (server, version)

pub count_places : (n : ℕ) (versions : List ℕ) → length (places_of n versions) ≡ length versions * n
count_places n [] = omega arith
count_places n (version ∷ versions) =
    let rest : length (places_of n versions) ≡ length versions * n = count_places n versions in
    let row : List (ℕ × ℕ) = map (place_for version) (range_with_len 0 n) in
    let here : length row ≡ n = length-map (range_with_len 0 n) (place_for version) ∙ length-range_with_len 0 n in
    let both : length (places_of n (version ∷ versions)) ≡ length row + length (places_of n versions) = length-append row (places_of n versions) in
    let more : suc (length versions) * n ≡ length versions * n + n = omega arith in
    omega (arith, rest, here, both, more)

ending_is_no_prepare : (outcome : Outcome) (told : List Told) → IsPreparing (ending outcome told) → ⊥
ending_is_no_prepare outcome [] h = h
ending_is_no_prepare outcome (Told.Ended ∷ told) h = h
ending_is_no_prepare outcome (Told.Reaped point ∷ told) h = h
ending_is_no_prepare outcome (_ ∷ told) h = ending_is_no_prepare Outcome.NoMemory told h

commit_is_no_prepare : (placed : List (List Placement)) (told : List Told) → IsPreparing (committing placed told) → ⊥
commit_is_no_prepare placed [] h = h
commit_is_no_prepare placed (Told.Reaped point ∷ told) h = h
commit_is_no_prepare placed (_ ∷ told) h = ending_is_no_prepare Outcome.NoMemory told h

prepare_asks : (g : Shape) (stripe version more : ℕ) (next : List Placement → List Told → Act) → ((row : List Placement) (told : List Told) → IsPreparing (next row told) → length told < more)
    → (servers : List ℕ) (row : List Placement) (told : List Told) → IsPreparing (preparing g stripe version next servers row told) → length told < length servers + more
prepare_asks g stripe version more next later [] row told h = let rest : length told < more = later row told h in omega (arith, rest)
prepare_asks g stripe version more next later (server ∷ servers) row [] h = omega arith
prepare_asks g stripe version more next later (server ∷ servers) row (Told.Prepared last ∷ told) h =
    let now : List Placement = row ++ last ∷ [] in
    let outcome : Outcome = Outcome.Unavailable stripe (skipped_from 0 now) in
    let rest : length told < length servers + more =
    cond_both {A = Act} (nat_lt g.parity_count (skipped_count now)) (ending outcome told) (preparing g stripe version next servers now told)
    (λ act. IsPreparing act → length told < length servers + more) (λ _ k. absurd (ending_is_no_prepare outcome told k))
    (λ _. prepare_asks g stripe version more next later servers now told) h in
    omega (arith, rest)
prepare_asks g stripe version more next later (server ∷ servers) row (_ ∷ told) h = absurd (ending_is_no_prepare Outcome.NoMemory told h)

prepares_ask : (g : Shape) (stripe : ℕ) (versions : List ℕ) (placed : List (List Placement)) (told : List Told)
    → IsPreparing (preparing_all g stripe versions placed told) → length told < length versions * chunk_count g
prepares_ask g stripe [] placed told h = absurd (commit_is_no_prepare placed told h)
prepares_ask g stripe (version ∷ versions) placed told h =
    let n : ℕ = chunk_count g in
    let row : length (range_with_len 0 n) ≡ n = length-range_with_len 0 n in
    let most : length told < length (range_with_len 0 n) + length versions * n =
    prepare_asks g stripe version (length versions * n) (λ row. preparing_all g (stripe + 1) versions (placed ++ row ∷ []))
    (λ row. prepares_ask g (stripe + 1) versions (placed ++ row ∷ [])) (range_with_len 0 n) [] told h in
    let more : suc (length versions) * n ≡ length versions * n + n = omega arith in
    omega (arith, row, most, more)

settle_asks : (point : ℕ) (places : List (ℕ × ℕ)) (told : List Told) → IsSettling (settling point places told) → length told < length places
settle_asks point [] told h = absurd h
settle_asks point (place ∷ places) [] h = omega arith
settle_asks point (place ∷ places) (_ ∷ told) h =
    let rest : length told < length places = settle_asks point places told h in omega (arith, rest)

pub asks_few_times : AsksFewTimes
asks_few_times =
    record {
      part = part_asks;
      chunk = chunk_asks;
      prepares = λ g stripe versions told h. prepares_ask g stripe versions [] told h;
      settles = λ g point versions told h.
          (let asked : length told < length (places_of (chunk_count g) versions) = settle_asks point (places_of (chunk_count g) versions) told h in
          subst (λ n. length told < n) (count_places (chunk_count g) versions) asked);
    }

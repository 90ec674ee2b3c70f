-- A rebuild that finds its target's chunk alone missing and places it makes 2n + 3 steps.
use Rattle.std.proofs.Common.{◌≡◌, ℕ, zero, suc, ◌+◌, ◌*◌, ◌<◌, ◌≤◌, Bool, false, cond, ◌||◌, not, List, [], ◌∷◌, ◌++◌, length, sym, ap, subst, ◌∙◌, ◌⊎◌, inl, inr, arith, length-append}
use Rattle.std.proofs.lemmas.Bool.{ne_eqb, cases_eq}
use Rattle.clay_grid.specs.Score.{count_below}
use Rattle.clay_grid.specs.Shape.{Shape, chunk_count}
use Rattle.store_map.specs.declared.placement.Found.TheVariants as found
use Rattle.store_core.specs.Gathering.{Gathering, servers_but, lost_at, fetching_repair, looking}
use Rattle.store_core.specs.GatheringParts.{gather_chunk}
use Rattle.store_core.specs.Lists.{is_among}
use Rattle.store_core.specs.NextAct.{Job}
use Rattle.store_core.specs.Note.{Kind}
use Rattle.store_core.specs.Told.{Told, Seen, Lost}
use Rattle.run_laws.specs.GatherLaws.{reasons_of}
use Rattle.run_laws.specs.Orders.{ConfirmedInOrder}
use Rattle.run_laws.specs.RebuildSteps.{RebuildsMakeSteps}
use Rattle.run_laws.proofs.Asks.{all_but_one, count_others}
use Rattle.run_laws.proofs.Orders.{calls_keep_order}

-- ---- the others are all but one
abbrev one_if : Bool → ℕ
one_if b = cond b 1 0

abbrev but : ℕ → ℕ → Bool
but t i = not (is_among i (t ∷ []))

-- the numbers below n but t, and t
counted : (n t : ℕ) → n ≤ count_below n (but t) + 1
counted zero t = omega arith
counted (suc n) t = by (counted n t) (cases_eq n t)
  where
    below : (k : ℕ) → k ≤ t → k ≤ count_below k (but t)
    below zero low = omega arith
    below (suc k) low =
        let rest : k ≤ count_below k (but t) = below k (omega (arith, low)) in
        let e : one_if (but t k) ≡ 1 = ap (λ b. one_if (not (b || false))) (ne_eqb k t (λ same. omega (arith, same, low))) in
        let x : ℕ = one_if (but t k) in
        omega (arith, rest, e)

    by : n ≤ count_below n (but t) + 1 → (n ≡ t) ⊎ (n ≡ t → ⊥) → suc n ≤ count_below n (but t) + one_if (but t n) + 1
    by rest (inl same) = let all : n ≤ count_below n (but t) = below n (omega (arith, same)) in let x : ℕ = one_if (but t n) in omega (arith, all)
    by rest (inr apart) =
        let e : one_if (but t n) ≡ 1 = ap (λ b. one_if (not (b || false))) (ne_eqb n t apart) in
        let x : ℕ = one_if (but t n) in
        omega (arith, rest, e)

-- ---- a gathering in which no more servers lack their chunk
HasThem : Gathering → Type 0
HasThem (Gathering.HasBytes told) = Unit {0}
HasThem _ = ⊥

has_them : (result : Gathering) → result ≡ Gathering.HasBytes [] → HasThem result
unfolding HasThem
has_them result e = subst HasThem (sym e) tt

rest_of : Gathering → List Told
rest_of (Gathering.HasBytes told) = told
rest_of _ = []

module _ (g : Shape) (seen : Seen) (lost : Lost) where
  -- one answer of each server that is asked for its repair layers
  fetched : (servers : List ℕ) (told : List Told) → fetching_repair g seen servers lost told ≡ Gathering.HasBytes [] → length (reasons_of told) ≡ 0 → length told ≡ length servers
  unfolding HasThem rest_of
  fetched [] told e none = ap (λ result. length (rest_of result)) e
  fetched (server ∷ more) [] e none = absurd (has_them (fetching_repair g seen (server ∷ more) lost []) e)
  fetched (server ∷ more) (Told.Given layers ∷ told) e none = ap suc (fetched more told e none)
  fetched (server ∷ more) (Told.Missing why ∷ told) e none = absurd (omega (arith, none))
  fetched (server ∷ more) (answer ∷ told) e none = absurd (has_them (Gathering.Short told) e)

  -- and one of each that is asked whether it has its chunk
  looked : (servers : List ℕ) (told : List Told) → looking g seen servers (lost ∷ []) told ≡ Gathering.HasBytes [] → length (reasons_of told) ≡ 0
      → length told ≡ length servers + length (servers_but g seen (lost.server ∷ []))
  unfolding HasThem
  looked [] told e none = let all : length told ≡ length (servers_but g seen (lost.server ∷ [])) = fetched (servers_but g seen (lost.server ∷ [])) told e none in omega (arith, all)
  looked (server ∷ more) [] e none = absurd (has_them (looking g seen (server ∷ more) (lost ∷ []) []) e)
  looked (server ∷ more) (Told.Here ∷ told) e none =
      let rest : length told ≡ length more + length (servers_but g seen (lost.server ∷ [])) = looked more told e none in
      omega (arith, rest)
  looked (server ∷ more) (Told.Missing why ∷ told) e none = absurd (omega (arith, none))
  looked (server ∷ more) (answer ∷ told) e none = absurd (has_them (Gathering.Short told) e)

module _ (g : Shape) (seen : Seen) (target : ℕ) (below : target < chunk_count g) where
  others_are : length (servers_but g seen (target ∷ [])) + 1 ≡ chunk_count g
  others_are =
      let few : length (servers_but g seen (target ∷ [])) + 1 ≤ chunk_count g = all_but_one g seen target below in
      let count : length (servers_but g seen (target ∷ [])) ≡ count_below (chunk_count g) (but target) = count_others g seen (target ∷ []) in
      let many : chunk_count g ≤ count_below (chunk_count g) (but target) + 1 = counted (chunk_count g) target in
      omega (arith, few, count, many)

  -- a question to each server, and a fetch from each but the target
  gathered : (told : List Told) → gather_chunk g seen target told ≡ Gathering.HasBytes [] → length (reasons_of told) ≡ 1 → length told + 1 ≡ 2 * chunk_count g
  unfolding HasThem
  gathered [] e one = absurd (has_them (gather_chunk g seen target []) e)
  gathered (Told.Here ∷ told) e one = absurd (has_them (Gathering.AtTarget told) e)
  gathered (Told.Missing (found.Absent epoch) ∷ told) e one =
      let all : length told ≡ length (servers_but g seen (target ∷ [])) + length (servers_but g seen (target ∷ [])) =
      looked g seen (lost_at g seen target (found.Absent epoch)) (servers_but g seen (target ∷ [])) told e (omega (arith, one)) in
      let others : length (servers_but g seen (target ∷ [])) + 1 ≡ chunk_count g = others_are in
      omega (arith, all, others)
  gathered (Told.Missing (found.Away downs) ∷ told) e one = absurd (has_them (Gathering.TargetAway downs told) e)
  gathered (answer ∷ told) e one = absurd (has_them (Gathering.Short told) e)

-- ---- the whole rebuild
reasons_append : (front rest : List Told) → length (reasons_of (front ++ rest)) ≡ length (reasons_of front) + length (reasons_of rest)
reasons_append [] rest = omega arith
reasons_append (Told.Missing why ∷ front) rest = let more : length (reasons_of (front ++ rest)) ≡ length (reasons_of front) + length (reasons_of rest) = reasons_append front rest in omega (arith, more)
reasons_append (answer ∷ front) rest = reasons_append front rest

pub rebuilds_make_steps : (g : Shape) (max tries : ℕ) (job : Job) → RebuildsMakeSteps g max tries job
rebuilds_make_steps g max tries job answers below told ends one = counted_so order.3
  where
    order : (job.note.kind ≡ Kind.Rebuild) × (version : ℕ) × (epoch : ℕ) × ConfirmedInOrder g job version answers (Told.Placed epoch ∷ Told.Ended ∷ [])
    order = (calls_keep_order g max tries job).rebuilt answers told ends

    last : List Told
    last = Told.Current ∷ Told.Placed order.2 ∷ Told.Ended ∷ []

    counted_so : ConfirmedInOrder g job order.1 answers (Told.Placed order.2 ∷ Told.Ended ∷ []) → length answers ≡ 2 * chunk_count g + 3
    counted_so c =
        let size : length answers ≡ suc (length (c.gathered ++ last)) = ap length c.answers_are in
        let parts : length (c.gathered ++ last) ≡ length c.gathered + 3 = length-append c.gathered last in
        let reasons : 1 ≡ length (reasons_of (c.gathered ++ last)) = sym one ∙ ap (λ l. length (reasons_of l)) c.answers_are in
        let apart : length (reasons_of (c.gathered ++ last)) ≡ length (reasons_of c.gathered) + 0 = reasons_append c.gathered last in
        let all : length c.gathered + 1 ≡ 2 * chunk_count g = gathered g c.seen job.target below c.gathered c.comes_to (omega (arith, reasons, apart)) in
        omega (arith, size, parts, all)

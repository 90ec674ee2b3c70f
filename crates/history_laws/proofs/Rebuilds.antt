-- What a rebuild took whose target's chunk alone was missing.
use Rattle.std.proofs.Common.{◌≡◌, ℕ, suc, ◌+◌, ◌-◌, ◌*◌, ◌/◌, ◌%◌, ◌^◌, ◌<◌, ◌≤◌, Bool, false, ◌||◌, not, nat_eq, List, [], ◌∷◌, ◌++◌, length, filter, count_by, fold, replicate, get_or, inr, refl, sym, ap, subst, ◌∙◌, arith}
use Rattle.clay_grid.specs.Limits.{IsGeometry}
use Rattle.std.proofs.lemmas.Bool.{eq-eqb, ne_eqb}
use Rattle.std.proofs.lemmas.List.{length-replicate}
use Rattle.std.proofs.lemmas.List.Sums.{length-filter, count_by-le-length}
use Rattle.std.proofs.lemmas.List.FromFn.{length-range_with_len}
use Rattle.std.proofs.Math.Nat.{pow-suc, mul-div_cancel}
use Rattle.clay_grid.specs.Layers.{layer_of}
use Rattle.clay_grid.specs.Repair.{all_layers, repair_layers_of}
use Rattle.clay_grid.proofs.LimitLaws.{node_of_chunk-lt}
use Rattle.clay_grid.proofs.RepairLaws.{length-repair_layers_of}
use Rattle.clay_grid.specs.Shape.{Shape, chunk_count, row_count, column_count, layer_count, node_of_chunk}
use Rattle.store_map.specs.Limits.{size_of, tries_of}
use Rattle.store_map.specs.declared.placement.Found.{Found}
use Rattle.store_map.specs.declared.placement.Found.TheVariants as found
use Rattle.store_core.specs.Act.{Act, DirectoryStep, ServerStep, Outcome}
use Rattle.store_core.specs.Gathering.{Gathering, servers_but, lost_at, fetching_repair, looking}
use Rattle.store_core.specs.GatheringParts.{ending, act_of, gather_chunk}
use Rattle.store_core.specs.Lists.{change_at, is_among}
use Rattle.store_core.specs.NextAct.{Job, next_by, next_act}
use Rattle.store_core.specs.Note.{Note, Kind}
use Rattle.store_core.specs.Rebuild.{placing, installing, confirming, rebuilding, next_rebuild}
use Rattle.store_core.specs.Server.{raised_by}
use Rattle.store_core.specs.Step.{take_from}
use Rattle.store_core.specs.Tell.{in_one, cut_chunk, tell_by, tell}
use Rattle.store_core.specs.Told.{Told, Seen, Lost}
use Rattle.run_laws.specs.Answers.{DirectoryAnswers, ServerAnswers, Answers}
use Rattle.store_core.specs.Bounds.{touched_count}
use Rattle.run_laws.specs.CallLeft.{pin_bound}
use Rattle.store_core.specs.Tell.{is_versions, is_changed, cut_rebuild}
use Rattle.run_laws.specs.ToldInSteps.{HasStep, IsToldNext, AreToldSince}
use Rattle.history_laws.specs.TakesOfCalls.{taken_since, taken_by, IsExact, AreExactSince, missing_count}
use Rattle.history_laws.specs.LeastTakes.{TookLeast, RebuildsTakeLeast}
use Rattle.history_laws.proofs.Cells.{taken_from, cell_stays, cell_changes, zero_cell}

-- ---- what one answer takes
-- a gathering that isn't done
abbrev pub NotDone : Gathering → Type 0
NotDone (Gathering.HasBytes rest) = ⊥
NotDone gathered = Unit {0}

-- what a gathering takes by an answer
abbrev pub took : Gathering → Told → List ℕ → List ℕ
took (Gathering.Asks server step) (Told.Given count) takes = change_at server (raised_by count) takes
took gathered answer takes = takes

-- as many as were asked for
abbrev pub ExactAsk : Gathering → Told → Type 0
ExactAsk (Gathering.Asks server step) answer = IsExact (Act.AtServer server step) answer
ExactAsk gathered answer = Unit {0}

-- no server is missing
abbrev pub NotMissing : Told → Type 0
NotMissing (Told.Missing found) = ⊥
NotMissing answer = Unit {0}

-- the repair layers of the target's chunk
abbrev pub each : Shape → ℕ → ℕ → ℕ
each g target = raised_by (length (repair_layers_of g target))

-- the servers but the target
abbrev pub others : Shape → Seen → ℕ → List ℕ
others g seen target = servers_but g seen (target ∷ [])

module _ (g : Shape) (seen : Seen) (target : ℕ) (found : Found) (zeros : List ℕ) where
  abbrev pub lost : Lost
  lost = lost_at g seen target found

  -- what was taken while the repair layers are fetched from these servers, after what was taken before
  abbrev pub Fetched : List ℕ → List Told → List ℕ → List ℕ → Type 0
  Fetched [] rest before takes = takes ≡ before
  Fetched (server ∷ more) [] before takes = takes ≡ before
  Fetched (server ∷ more) (Told.Given count ∷ rest) before takes = Fetched more rest (change_at server (each g target) before) takes
  Fetched (server ∷ more) (Told.Missing gone ∷ rest) before takes = ⊥
  Fetched (server ∷ more) (answer ∷ rest) before takes = Unit {0}

  -- and before, while these are asked whether they have their chunk
  abbrev pub Looked : List ℕ → List Told → List ℕ → Type 0
  Looked [] rest takes = Fetched (others g seen target) rest zeros takes
  Looked (server ∷ more) [] takes = takes ≡ zeros
  Looked (server ∷ more) (Told.Here ∷ rest) takes = Looked more rest takes
  Looked (server ∷ more) (Told.Missing gone ∷ rest) takes = ⊥
  Looked (server ∷ more) (answer ∷ rest) takes = Unit {0}

  -- ---- one answer more
  first_fetched : (more before takes : List ℕ) → takes ≡ before → Fetched more [] before takes
  first_fetched [] before takes e = e
  first_fetched (server ∷ more) before takes e = e

  push_fetched : (servers : List ℕ) (rest : List Told) (before takes : List ℕ) (answer : Told) → NotDone (fetching_repair g seen servers lost rest) → Fetched servers rest before takes → NotMissing answer
      → ExactAsk (fetching_repair g seen servers lost rest) answer → Fetched servers (rest ++ answer ∷ []) before (took (fetching_repair g seen servers lost rest) answer takes)
  push_fetched [] rest before takes answer going h some exact = absurd going
  push_fetched (server ∷ more) [] before takes (Told.Given count) going h some exact =
      first_fetched more (change_at server (each g target) before) (change_at server (raised_by count) takes) (ap (λ n. change_at server (raised_by n) takes) exact ∙ ap (change_at server (each g target)) h)
  push_fetched (server ∷ more) [] before takes (Told.Missing gone) going h some exact = absurd some
  push_fetched (server ∷ more) [] before takes answer going h some exact = tt
  push_fetched (server ∷ more) (Told.Given count ∷ rest) before takes answer going h some exact = push_fetched more rest (change_at server (each g target) before) takes answer going h some exact
  push_fetched (server ∷ more) (Told.Missing gone ∷ rest) before takes answer going h some exact = absurd h
  push_fetched (server ∷ more) (first ∷ rest) before takes answer going h some exact = tt

  first_looked : (more takes : List ℕ) → takes ≡ zeros → Looked more [] takes
  first_looked [] takes e = first_fetched (others g seen target) zeros takes e
  first_looked (server ∷ more) takes e = e

  push_looked : (servers : List ℕ) (rest : List Told) (takes : List ℕ) (answer : Told) → NotDone (looking g seen servers (lost ∷ []) rest) → Looked servers rest takes → NotMissing answer
      → ExactAsk (looking g seen servers (lost ∷ []) rest) answer → Looked servers (rest ++ answer ∷ []) (took (looking g seen servers (lost ∷ []) rest) answer takes)
  push_looked [] rest takes answer going h some exact = push_fetched (others g seen target) rest zeros takes answer going h some exact
  push_looked (server ∷ more) [] takes Told.Here going h some exact = first_looked more takes h
  push_looked (server ∷ more) [] takes (Told.Missing gone) going h some exact = absurd some
  push_looked (server ∷ more) [] takes answer going h some exact = tt
  push_looked (server ∷ more) (Told.Here ∷ rest) takes answer going h some exact = push_looked more rest takes answer going h some exact
  push_looked (server ∷ more) (Told.Missing gone ∷ rest) takes answer going h some exact = absurd h
  push_looked (server ∷ more) (first ∷ rest) takes answer going h some exact = tt

  -- ---- once the parts are there
  abbrev pub all_taken : List ℕ
  all_taken = taken_from (λ _. each g target) (others g seen target) zeros

  asks_not : (server : ℕ) (step : ServerStep) (rest : List Told) → Gathering.Asks server step ≡ Gathering.HasBytes rest → ⊥
  asks_not server step rest e = subst NotDone e tt

  short_not : (told rest : List Told) → Gathering.Short told ≡ Gathering.HasBytes rest → ⊥
  short_not told rest e = subst NotDone e tt

  done_fetched : (servers : List ℕ) (rest last : List Told) (before takes : List ℕ) → fetching_repair g seen servers lost rest ≡ Gathering.HasBytes last → Fetched servers rest before takes → takes ≡ taken_from (λ _. each g target) servers before
  done_fetched [] rest last before takes e h = h
  done_fetched (server ∷ more) [] last before takes e h = absurd (asks_not server (ServerStep.Fetch seen.version (repair_layers_of g target)) last e)
  done_fetched (server ∷ more) (Told.Given count ∷ rest) last before takes e h = done_fetched more rest last (change_at server (each g target) before) takes e h
  done_fetched (server ∷ more) (Told.Missing gone ∷ rest) last before takes e h = absurd h
  done_fetched (server ∷ more) (first ∷ rest) last before takes e h = absurd (short_not rest last e)

  done_looked : (servers : List ℕ) (rest last : List Told) (takes : List ℕ) → looking g seen servers (lost ∷ []) rest ≡ Gathering.HasBytes last → Looked servers rest takes → takes ≡ all_taken
  done_looked [] rest last takes e h = done_fetched (others g seen target) rest last zeros takes e h
  done_looked (server ∷ more) [] last takes e h = absurd (asks_not server (ServerStep.Has seen.version) last e)
  done_looked (server ∷ more) (Told.Here ∷ rest) last takes e h = done_looked more rest last takes e h
  done_looked (server ∷ more) (Told.Missing gone ∷ rest) last takes e h = absurd h
  done_looked (server ∷ more) (first ∷ rest) last takes e h = absurd (short_not rest last e)

-- ---- answers that take nothing
-- neither given nor missing
abbrev pub IsPlain : Told → Type 0
IsPlain (Told.Given count) = ⊥
IsPlain (Told.Missing found) = ⊥
IsPlain answer = Unit {0}

pub takes_stay : (act : Act) (answer : Told) (takes : List ℕ) → IsPlain answer → take_from act answer takes ≡ takes
takes_stay (Act.AtServer server step) (Told.Given count) takes plain = absurd plain
takes_stay (Act.AtServer server step) answer takes plain = refl
takes_stay (Act.AtDirectory step) answer takes plain = refl
takes_stay (Act.Finish outcome) answer takes plain = refl

-- none of these acts asks for a chunk
abbrev pub AsksNone : Act → Type 0
AsksNone (Act.AtServer server (ServerStep.Has version)) = ⊥
AsksNone (Act.AtServer server (ServerStep.Fetch version layers)) = ⊥
AsksNone act = Unit {0}

pub ending_none : (outcome : Outcome) (told : List Told) → AsksNone (ending outcome told)
ending_none outcome [] = tt
ending_none outcome (Told.Ended ∷ told) = tt
ending_none outcome (Told.Reaped point ∷ told) = tt
ending_none outcome (answer ∷ told) = ending_none Outcome.NoMemory told

placing_none : (target epoch : ℕ) (told : List Told) → AsksNone (placing target epoch told)
placing_none target epoch [] = tt
placing_none target epoch (Told.Ended ∷ told) = tt
placing_none target epoch (Told.Reaped point ∷ told) = tt
placing_none target epoch (answer ∷ told) = ending_none Outcome.NoMemory told

installing_none : (seen : Seen) (target : ℕ) (told : List Told) → AsksNone (installing seen target told)
installing_none seen target [] = tt
installing_none seen target (Told.Placed epoch ∷ told) = placing_none target epoch told
installing_none seen target (Told.AlreadyThere ∷ told) = ending_none Outcome.Here told
installing_none seen target (Told.Away downs ∷ told) = ending_none (Outcome.Away downs) told
installing_none seen target (answer ∷ told) = ending_none Outcome.NoMemory told

confirming_none : (seen : Seen) (target : ℕ) (told : List Told) → AsksNone (confirming seen target told)
confirming_none seen target [] = tt
confirming_none seen target (Told.Current ∷ told) = installing_none seen target told
confirming_none seen target (Told.Superseded newer ∷ told) = tt
confirming_none seen target (Told.Reaped point ∷ told) = tt
confirming_none seen target (answer ∷ told) = ending_none Outcome.NoMemory told

-- an answer to an act
abbrev pub Fits : ℕ → ℕ → Act → Told → Type 0
Fits pins touched act Told.Short = HasStep act
Fits pins touched act answer = Answers pins touched act answer

plain_there : (pins touched : ℕ) (step : DirectoryStep) (answer : Told) → DirectoryAnswers pins touched step answer → IsPlain answer
plain_there pins touched DirectoryStep.Draw (Told.Given count) fits = fits
plain_there pins touched DirectoryStep.Draw (Told.Missing gone) fits = fits
plain_there pins touched (DirectoryStep.Look note) (Told.Given count) fits = fits
plain_there pins touched (DirectoryStep.Look note) (Told.Missing gone) fits = fits
plain_there pins touched step (Told.Given count) fits = fits
plain_there pins touched step (Told.Missing gone) fits = fits
plain_there pins touched step answer fits = tt

plain_at : (server : ℕ) (step : ServerStep) (answer : Told) → AsksNone (Act.AtServer server step) → ServerAnswers step answer → IsPlain answer
plain_at server (ServerStep.Has version) answer none fits = absurd none
plain_at server (ServerStep.Fetch version layers) answer none fits = absurd none
plain_at server step (Told.Given count) none fits = fits
plain_at server step (Told.Missing gone) none fits = fits
plain_at server step answer none fits = tt

pub fits_plain : (pins touched : ℕ) (act : Act) (answer : Told) → AsksNone act → Fits pins touched act answer → IsPlain answer
fits_plain pins touched act Told.Short none fits = tt
fits_plain pins touched (Act.AtDirectory step) answer none fits = plain_there pins touched step answer fits
fits_plain pins touched (Act.AtServer server step) answer none fits = plain_at server step answer none fits
fits_plain pins touched (Act.Finish outcome) answer none fits = absurd fits

-- ---- what a rebuild took, by what is kept of its answers and how many of them told of a missing chunk
module _ (g : Shape) (target : ℕ) where
  abbrev pub nothing : List ℕ
  nothing = replicate (chunk_count g) 0

  abbrev pub OfTarget : Seen → List Told → ℕ → List ℕ → Type 0
  OfTarget seen [] count takes = (count ≡ 0) × (takes ≡ nothing)
  OfTarget seen (Told.Missing (found.Absent epoch) ∷ rest) count takes = (1 ≤ count) × (count ≡ 1 → Looked g seen target (found.Absent epoch) nothing (others g seen target) rest takes)
  OfTarget seen (answer ∷ rest) count takes = Unit {0}

  pub record Going (seen : Seen) (told : List Told) (count : ℕ) (takes : List ℕ) : Type 0 where
    pub going : NotDone (gather_chunk g seen target told)
    pub so : OfTarget seen told count takes

  abbrev pub ChunkTaken : Seen → List Told → ℕ → List ℕ → Type 0
  ChunkTaken seen (Told.Gathered ∷ told) count takes = count ≡ 1 → takes ≡ taken_from (λ _. each g target) (others g seen target) nothing
  ChunkTaken seen told count takes = Going seen told count takes

  abbrev pub RebuildTaken : List Told → ℕ → List ℕ → Type 0
  RebuildTaken [] count takes = (count ≡ 0) × (takes ≡ nothing)
  RebuildTaken (Told.PinnedStripe seen ∷ told) count takes = ChunkTaken seen told count takes
  RebuildTaken (answer ∷ told) count takes = Unit {0}

  -- one more that tells of a missing chunk
  abbrev pub counted : Told → ℕ → ℕ
  counted (Told.Missing gone) count = suc count
  counted answer count = count

  -- ---- one answer more to the gathering
  stays : (pins touched : ℕ) (outcome : Outcome) (rest : List Told) (answer : Told) (takes : List ℕ) → Fits pins touched (ending outcome rest) answer → take_from (ending outcome rest) answer takes ≡ takes
  stays pins touched outcome rest answer takes fits = takes_stay (ending outcome rest) answer takes (fits_plain pins touched (ending outcome rest) answer (ending_none outcome rest) fits)

  one_told : (answer : Told) (count : ℕ) → 1 ≤ count → counted answer count ≡ 1 → NotMissing answer × (count ≡ 1)
  one_told (Told.Missing gone) count some e = absurd (omega (arith, some, e))
  one_told answer count some e = (tt, e)

  plain_count : (answer : Told) (count : ℕ) → IsPlain answer → counted answer count ≡ count
  plain_count (Told.Given given) count plain = refl
  plain_count (Told.Missing gone) count plain = absurd plain
  plain_count answer count plain = refl

  some_told : (answer : Told) (count : ℕ) → 1 ≤ count → 1 ≤ counted answer count
  some_told (Told.Missing gone) count some = omega (arith, some)
  some_told answer count some = some

  module _ (pins touched : ℕ) (seen : Seen) where
    -- what the gathering's next act takes
    act_took : (gathered : Gathering) (answer : Told) (takes : List ℕ) → NotDone gathered → Fits pins touched (act_of seen.stripe (confirming seen target) gathered) answer
        → take_from (act_of seen.stripe (confirming seen target) gathered) answer takes ≡ took gathered answer takes
    act_took (Gathering.HasBytes rest) answer takes going fits = absurd going
    act_took (Gathering.Asks server step) (Told.Given count) takes going fits = refl
    act_took (Gathering.Asks server step) answer takes going fits = refl
    act_took (Gathering.TooMany missing rest) answer takes going fits = stays pins touched (Outcome.Unavailable seen.stripe missing) rest answer takes fits
    act_took (Gathering.AtTarget rest) answer takes going fits = stays pins touched Outcome.Here rest answer takes fits
    act_took (Gathering.TargetAway downs rest) answer takes going fits = stays pins touched (Outcome.Away downs) rest answer takes fits
    act_took (Gathering.Short rest) answer takes going fits = stays pins touched Outcome.NoMemory rest answer takes fits

    act_exact : (gathered : Gathering) (answer : Told) → NotDone gathered → IsExact (act_of seen.stripe (confirming seen target) gathered) answer → ExactAsk gathered answer
    act_exact (Gathering.HasBytes rest) answer going exact = absurd going
    act_exact (Gathering.Asks server step) answer going exact = exact
    act_exact (Gathering.TooMany missing rest) answer going exact = tt
    act_exact (Gathering.AtTarget rest) answer going exact = tt
    act_exact (Gathering.TargetAway downs rest) answer going exact = tt
    act_exact (Gathering.Short rest) answer going exact = tt

    -- after the target told that it lacks its chunk
    module _ (epoch : ℕ) where
      abbrev lacks : Found
      lacks = found.Absent epoch

      abbrev looks : List Told → Gathering
      looks rest = looking g seen (others g seen target) (lost_at g seen target (found.Absent epoch) ∷ []) rest

      abbrev act_now : List Told → Act
      act_now rest = act_of seen.stripe (confirming seen target) (looks rest)

      absent_push : (rest : List Told) (count : ℕ) (takes : List ℕ) (answer : Told) → Going seen (Told.Missing (found.Absent epoch) ∷ rest) count takes
          → Fits pins touched (act_now rest) answer → IsExact (act_now rest) answer
          → ChunkTaken seen (in_one (λ more. more) (looks (rest ++ answer ∷ [])) (Told.Missing (found.Absent epoch) ∷ (rest ++ answer ∷ []))) (counted answer count) (take_from (act_now rest) answer takes)
      absent_push rest count takes answer h fits exact = by (looks (rest ++ answer ∷ [])) refl
        where
          now : counted answer count ≡ 1 → Looked g seen target lacks nothing (others g seen target) (rest ++ answer ∷ []) (take_from (act_now rest) answer takes)
          now e =
              let one : NotMissing answer × (count ≡ 1) = one_told answer count h.so.0 e in
              subst (Looked g seen target lacks nothing (others g seen target) (rest ++ answer ∷ [])) (sym (act_took (looks rest) answer takes h.going fits))
              (push_looked g seen target lacks nothing (others g seen target) rest takes answer h.going (h.so.1 one.1) one.0 (act_exact (looks rest) answer h.going exact))

          goes_on : (r : Gathering) → looks (rest ++ answer ∷ []) ≡ r → NotDone r → Going seen (Told.Missing (found.Absent epoch) ∷ (rest ++ answer ∷ [])) (counted answer count) (take_from (act_now rest) answer takes)
          goes_on r e going = record { going = subst NotDone (sym e) going; so = (some_told answer count h.so.0, now) }

          by : (r : Gathering) → looks (rest ++ answer ∷ []) ≡ r
              → ChunkTaken seen (in_one (λ more. more) r (Told.Missing (found.Absent epoch) ∷ (rest ++ answer ∷ []))) (counted answer count) (take_from (act_now rest) answer takes)
          by (Gathering.HasBytes last) e =
              λ one. done_looked g seen target lacks nothing (others g seen target) (rest ++ answer ∷ []) last (take_from (act_now rest) answer takes) e (now one)
          by (Gathering.Asks server step) e = goes_on (Gathering.Asks server step) e tt
          by (Gathering.TooMany missing last) e = goes_on (Gathering.TooMany missing last) e tt
          by (Gathering.AtTarget last) e = goes_on (Gathering.AtTarget last) e tt
          by (Gathering.TargetAway downs last) e = goes_on (Gathering.TargetAway downs last) e tt
          by (Gathering.Short last) e = goes_on (Gathering.Short last) e tt

    -- after its parts are there no chunk is asked for
    gathered_push : (more : List Told) (count : ℕ) (takes : List ℕ) (answer : Told) → ChunkTaken seen (Told.Gathered ∷ more) count takes → Fits pins touched (confirming seen target more) answer
        → ChunkTaken seen (Told.Gathered ∷ (more ++ answer ∷ [])) (counted answer count) (take_from (confirming seen target more) answer takes)
    gathered_push more count takes answer h fits one =
        let plain : IsPlain answer = fits_plain pins touched (confirming seen target more) answer (confirming_none seen target more) fits in
        takes_stay (confirming seen target more) answer takes plain ∙ h (sym (plain_count answer count plain) ∙ one)

  module _ (pins touched : ℕ) (seen : Seen) where
    chunk_push : (told : List Told) (count : ℕ) (takes : List ℕ) (answer : Told) → ChunkTaken seen told count takes → Fits pins touched (rebuilding g seen target told) answer → IsExact (rebuilding g seen target told) answer
        → ChunkTaken seen (cut_chunk g seen target (told ++ answer ∷ [])) (counted answer count) (take_from (rebuilding g seen target told) answer takes)
    chunk_push (Told.Gathered ∷ more) count takes answer h fits exact = gathered_push pins touched seen more count takes answer h fits
    chunk_push (Told.Missing (found.Absent epoch) ∷ rest) count takes answer h fits exact = absent_push pins touched seen epoch rest count takes answer h fits exact
    chunk_push (Told.Missing (found.Away downs) ∷ rest) count takes answer h fits exact = record { going = tt; so = tt }
    chunk_push (first ∷ rest) count takes answer h fits exact = record { going = tt; so = tt }
    chunk_push [] count takes (Told.Missing (found.Absent epoch)) h fits exact = begun (looking g seen (others g seen target) (lost_at g seen target (found.Absent epoch) ∷ []) []) refl
      where
        now : Looked g seen target (found.Absent epoch) nothing (others g seen target) [] takes
        now = first_looked g seen target (found.Absent epoch) nothing (others g seen target) takes h.so.1

        goes_on : (r : Gathering) → looking g seen (others g seen target) (lost_at g seen target (found.Absent epoch) ∷ []) [] ≡ r → NotDone r → Going seen (Told.Missing (found.Absent epoch) ∷ []) (suc count) takes
        goes_on r e going = record { going = subst NotDone (sym e) going; so = (omega arith, λ one. now) }

        begun : (r : Gathering) → looking g seen (others g seen target) (lost_at g seen target (found.Absent epoch) ∷ []) [] ≡ r
            → ChunkTaken seen (in_one (λ more. more) r (Told.Missing (found.Absent epoch) ∷ [])) (suc count) takes
        begun (Gathering.HasBytes last) e = λ one. done_looked g seen target (found.Absent epoch) nothing (others g seen target) [] last takes e now
        begun (Gathering.Asks server step) e = goes_on (Gathering.Asks server step) e tt
        begun (Gathering.TooMany missing last) e = goes_on (Gathering.TooMany missing last) e tt
        begun (Gathering.AtTarget last) e = goes_on (Gathering.AtTarget last) e tt
        begun (Gathering.TargetAway downs last) e = goes_on (Gathering.TargetAway downs last) e tt
        begun (Gathering.Short last) e = goes_on (Gathering.Short last) e tt
    chunk_push [] count takes (Told.Missing (found.Away downs)) h fits exact = record { going = tt; so = tt }
    chunk_push [] count takes Told.Gathered h fits exact = absurd fits
    chunk_push [] count takes answer h fits exact = record { going = tt; so = tt }

    -- a rebuild's first answer is a look's
    new_chunk : (count : ℕ) (takes : List ℕ) → count ≡ 0 → takes ≡ nothing → ChunkTaken seen (cut_chunk g seen target []) count takes
    new_chunk count takes none no_takes = record { going = tt; so = (none, no_takes) }

-- ---- one answer more to the rebuild
module _ (g : Shape) (job : Job) (pins touched : ℕ) where
  -- what is kept after a commit or a change isn't a rebuild's
  versions_none : (told : List Told) (point : ℕ) (count : ℕ) (takes : List ℕ) → RebuildTaken g job.target (filter is_versions told ++ Told.Done point ∷ []) count takes
  versions_none [] point count takes = tt
  versions_none (Told.Versions versions ∷ told) point count takes = tt
  versions_none (first ∷ told) point count takes = versions_none told point count takes

  changed_none : (told : List Told) (base newer : ℕ) (count : ℕ) (takes : List ℕ) → RebuildTaken g job.target (filter is_changed told ++ Told.Changed base newer ∷ []) count takes
  changed_none [] base newer count takes = tt
  changed_none (Told.Changed old new ∷ told) base newer count takes = tt
  changed_none (first ∷ told) base newer count takes = changed_none told base newer count takes

  abbrev act_by : List Told → Act
  act_by told = next_rebuild g job.note job.target told

  abbrev Pushed : List Told → Told → List Told → ℕ → List ℕ → Type 0
  Pushed told answer now count takes = RebuildTaken g job.target now (counted g job.target answer count) (take_from (act_by told) answer takes)

  cut_push : (told : List Told) (answer : Told) (count : ℕ) (takes : List ℕ) → RebuildTaken g job.target told count takes → Fits pins touched (act_by told) answer → IsExact (act_by told) answer
      → Pushed told answer (cut_rebuild g job.target (told ++ answer ∷ [])) count takes
  cut_push [] (Told.PinnedStripe seen) count takes h fits exact = new_chunk g job.target pins touched seen count takes h.0 h.1
  cut_push [] answer count takes h fits exact = tt
  cut_push (Told.PinnedStripe seen ∷ told) answer count takes h fits exact = chunk_push g job.target pins touched seen told count takes answer h fits exact
  cut_push (first ∷ told) answer count takes h fits exact = tt

  push : (told : List Told) (answer : Told) (count : ℕ) (takes : List ℕ) → RebuildTaken g job.target told count takes → Fits pins touched (act_by told) answer → IsExact (act_by told) answer
      → Pushed told answer (tell_by Kind.Rebuild g job told answer) count takes
  push told (Told.Done point) count takes h fits exact = versions_none told point count (take_from (act_by told) (Told.Done point) takes)
  push told (Told.Changed base newer) count takes h fits exact = changed_none told base newer count (take_from (act_by told) (Told.Changed base newer) takes)
  push told answer count takes h fits exact = cut_push told answer count takes h fits exact

-- ---- all answers
module _ (g : Shape) (most tries : ℕ) (job : Job) (rebuild : job.note.kind ≡ Kind.Rebuild) where
  abbrev pins : ℕ
  pins = pin_bound g most job.note

  abbrev touches : ℕ
  touches = touched_count g job.note

  fits_next : (told : List Told) (answer : Told) → IsToldNext g most tries job told answer → Fits pins touches (next_act g tries job told) answer
  fits_next told Told.Short h = h
  fits_next told answer h = h.0

  push_kind : (told : List Told) (answer : Told) (count : ℕ) (takes : List ℕ) → RebuildTaken g job.target told count takes → IsToldNext g most tries job told answer → IsExact (next_act g tries job told) answer
      → RebuildTaken g job.target (tell g job told answer) (counted g job.target answer count) (take_from (next_act g tries job told) answer takes)
  push_kind told answer count takes h next exact =
      subst (λ (k : Kind). RebuildTaken g job.target (tell_by k g job told answer) (counted g job.target answer count) (take_from (next_by k g tries job told) answer takes)) (sym rebuild)
      (push g job pins touches told answer count takes h (subst (λ (k : Kind). Fits pins touches (next_by k g tries job told) answer) rebuild (fits_next told answer next))
      (subst (λ (k : Kind). IsExact (next_by k g tries job told) answer) rebuild exact))

  counts : (answer : Told) (more : List Told) (count : ℕ) → counted g job.target answer count + missing_count more ≡ count + missing_count (answer ∷ more)
  counts (Told.Missing gone) more count = let n : ℕ = missing_count more in let same : suc count + n ≡ count + suc n = omega arith in same
  counts answer more count = refl

  pushed_since : (told answers : List Told) (count : ℕ) (takes : List ℕ) → RebuildTaken g job.target told count takes → AreToldSince g most tries job told answers → AreExactSince g tries job told answers
      → RebuildTaken g job.target (fold (tell g job) told answers) (count + missing_count answers) (taken_since g tries job told takes answers)
  pushed_since told [] count takes h so exact = subst (λ n. RebuildTaken g job.target told n takes) (let same : count ≡ count + 0 = omega arith in same) h
  pushed_since told (answer ∷ more) count takes h so exact =
      subst (λ n. RebuildTaken g job.target (fold (tell g job) told (answer ∷ more)) n (taken_since g tries job told takes (answer ∷ more))) (counts answer more count)
      (pushed_since (tell g job told answer) more (counted g job.target answer count) (take_from (next_act g tries job told) answer takes) (push_kind told answer count takes h so.0 exact.0) so.1 exact.1)

-- ---- the end
abbrev IsRebuilt : Act → Type 0
IsRebuilt (Act.Finish Outcome.Rebuilt) = Unit {0}
IsRebuilt act = ⊥

abbrev NotRebuilt : Outcome → Type 0
NotRebuilt Outcome.Rebuilt = ⊥
NotRebuilt outcome = Unit {0}

ending_other : (outcome : Outcome) (told : List Told) → NotRebuilt outcome → IsRebuilt (ending outcome told) → ⊥
ending_other outcome [] other h = h
ending_other Outcome.Rebuilt (Told.Ended ∷ told) other h = other
ending_other outcome (Told.Ended ∷ told) other h = h
ending_other outcome (Told.Reaped point ∷ told) other h = h
ending_other outcome (answer ∷ told) other h = ending_other Outcome.NoMemory told tt h

module _ (g : Shape) (note : Note) (target : ℕ) where
  act_other : (seen : Seen) (gathered : Gathering) → NotDone gathered → IsRebuilt (act_of seen.stripe (confirming seen target) gathered) → ⊥
  act_other seen (Gathering.HasBytes rest) going h = going
  act_other seen (Gathering.Asks server step) going h = h
  act_other seen (Gathering.TooMany missing rest) going h = ending_other (Outcome.Unavailable seen.stripe missing) rest tt h
  act_other seen (Gathering.AtTarget rest) going h = ending_other Outcome.Here rest tt h
  act_other seen (Gathering.TargetAway downs rest) going h = ending_other (Outcome.Away downs) rest tt h
  act_other seen (Gathering.Short rest) going h = ending_other Outcome.NoMemory rest tt h

  all_taken_at_end : (told : List Told) (count : ℕ) (takes : List ℕ) → RebuildTaken g target told count takes → IsRebuilt (next_rebuild g note target told) → count ≡ 1
      → (seen : Seen) × (takes ≡ taken_from (λ _. each g target) (others g seen target) (nothing g target))
  all_taken_at_end [] count takes h rebuilt one = absurd rebuilt
  all_taken_at_end (Told.NoSuch ∷ told) count takes h rebuilt one = absurd rebuilt
  all_taken_at_end (Told.PinnedStripe seen ∷ Told.Gathered ∷ told) count takes h rebuilt one = (seen, h one)
  all_taken_at_end (Told.PinnedStripe seen ∷ []) count takes h rebuilt one = absurd rebuilt
  all_taken_at_end (Told.PinnedStripe seen ∷ first ∷ told) count takes h rebuilt one = absurd (act_other seen (gather_chunk g seen target (first ∷ told)) h.going rebuilt)
  all_taken_at_end (first ∷ told) count takes h rebuilt one = absurd rebuilt

-- ---- how much that is
module _ (g : Shape) (geometry : IsGeometry g) (target : ℕ) (within : target < chunk_count g) where
  abbrev layers : ℕ
  layers = length (repair_layers_of g target)

  few_layers : layers ≤ layer_count g
  few_layers =
      let count : layers ≡ count_by (λ z. nat_eq (get_or (layer_of g z) (node_of_chunk g target / row_count g) 0) (node_of_chunk g target % row_count g)) (all_layers g) = length-filter _ (all_layers g) in
      let most : count_by (λ z. nat_eq (get_or (layer_of g z) (node_of_chunk g target / row_count g) 0) (node_of_chunk g target % row_count g)) (all_layers g) ≤ length (all_layers g) = count_by-le-length _ (all_layers g) in
      let all : length (all_layers g) ≡ layer_count g = length-range_with_len 0 (layer_count g) in
      omega (arith, count, most, all)

  -- one part in as many as there are rows
  layers_are : layers ≡ row_count g ^ (column_count g - 1)
  layers_are =
      let rows : 0 < row_count g = omega (arith, geometry.limits.parity_chunks.0) in
      let columns : suc (column_count g - 1) ≡ column_count g = omega (arith, geometry.columns.0) in
      let whole : layers * row_count g ≡ row_count g ^ (column_count g - 1) * row_count g =
      length-repair_layers_of g target rows (node_of_chunk-lt g target geometry within) ∙ ap (λ n. row_count g ^ n) (sym columns) ∙ pow-suc (row_count g) (column_count g - 1) in
      sym (mul-div_cancel layers rows) ∙ ap (λ n. n / row_count g) whole ∙ mul-div_cancel (row_count g ^ (column_count g - 1)) rows

  module _ (seen : Seen) where
    abbrev is_other : ℕ → Bool
    is_other server = not (is_among server (target ∷ []))

    zeros_length : length (nothing g target) ≡ chunk_count g
    zeros_length = length-replicate (chunk_count g) 0

    least : TookLeast g target (taken_from (λ _. each g target) (others g seen target) (nothing g target))
    least =
        record {
          none =
              cell_stays (λ _. each g target) is_other 0 (chunk_count g) target (nothing g target) (inr (ap (λ b. not (b || false)) (eq-eqb target target refl))) ∙ zero_cell (chunk_count g) target;
          others = λ server low differ.
              cell_changes (λ _. each g target) is_other 0 (chunk_count g) server (nothing g target) (omega arith) (omega (arith, low)) (subst (λ n. server < n) (sym zeros_length) low)
              (ap (λ b. not (b || false)) (ne_eqb server target differ))
              ∙ ap (each g target) (zero_cell (chunk_count g) server) ∙ raised ∙ layers_are;
        }
      where
        raised : raised_by layers 0 ≡ layers
        raised =
            let all : layers ≤ layer_count g = few_layers in
            let most : layer_count g ≤ 1024 = geometry.limits.layers in
            omega (arith, all, most)

pub rebuilds_take_least : RebuildsTakeLeast
rebuilds_take_least script geometry job rebuild within answers log ends one =
    let g : Shape = script.geometry in
    let tries : ℕ = tries_of script in
    let kept : List Told = fold (tell g job) [] answers in
    let taken : List ℕ = taken_by g tries job answers in
    let so : RebuildTaken g job.target kept (missing_count answers) taken =
    subst (λ n. RebuildTaken g job.target kept n taken) (let n : ℕ = missing_count answers in let same : 0 + n ≡ n = omega arith in same)
    (pushed_since g (size_of script) tries job rebuild [] answers 0 (nothing g job.target) (refl, refl) log.are_told log.exact) in
    let rebuilt : IsRebuilt (next_rebuild g job.note job.target kept) =
    subst (λ (k : Kind). IsRebuilt (next_by k g tries job kept)) rebuild (subst IsRebuilt (sym ends) tt) in
    let all : (seen : Seen) × (taken ≡ taken_from (λ _. each g job.target) (others g seen job.target) (nothing g job.target)) =
    all_taken_at_end g job.note job.target kept (missing_count answers) taken so rebuilt one in
    subst (TookLeast g job.target) (sym all.1) (least g geometry job.target within all.0)

-- A call that nothing hindered isn't refused, by what is known of each refusal: its cause, and what it names of servers.
-- A refusal names one server more than there are parity chunks, all different, and each told its call so at a moment of the trace, so a
-- bound on servers that did excludes the line; the other causes are in what was told. That each step of a call is its next act is one
-- induction beside that on causes. A call at its bound of steps is over, since one more answer would be one too many. A rebuild is proved
-- to prepare nothing, so its law has no premise on that.
use Rattle.std.proofs.Common.{◌≡◌, ◌≢◌, inl, inr, ℕ, ◌+◌, ◌<◌, ◌≤◌, Bool, true, false, List, [], ◌∷◌, length, map, Contains, All, AllPairs, Some, sym, ap, subst, ◌∙◌, arith, true≢false}
use Rattle.std.specs.Bool.{⊤}
use Rattle.std.proofs.lemmas.List.{length-map}
use Rattle.std.proofs.lemmas.List.Elements.{All-nil, All-cons, All-map, All-weaker, All-contains}
use Rattle.std.proofs.lemmas.List.Kept.{AllPairs-cons}
use Rattle.std.proofs.lemmas.Option.{none-some, same_Some}
use Rattle.clay_grid.specs.Shape.{Shape}
use Rattle.store_map.specs.Limits.{size_of, tries_of}
use Rattle.store_map.specs.declared.placement.Found.TheVariants as found
use Rattle.store_map.specs.declared.placement.Placement.{Placement}
use Rattle.store_map.specs.declared.placement.Placement.TheVariants as placement
use Rattle.store_map.specs.declared.script.Script.{Script}
use Rattle.store_map.specs.declared.call_name.ClientCall.{ClientCall}
use Rattle.store_map.specs.declared.call_name.RepairCall.{RepairCall}
use Rattle.store_map.specs.declared.call_name.CallName.{CallName}
use Rattle.store_map.specs.declared.call_name.CallName.TheVariants as name
use Rattle.store_map.specs.declared.cause.Triple.{Triple}
use Rattle.store_map.specs.declared.cause.Cause.TheVariants as cause
use Rattle.store_map.specs.declared.cause.RepairResult.TheVariants as result
use Rattle.store_map.specs.declared.line.XLine.{XLine}
use Rattle.store_map.specs.declared.line.RLine.{RLine}
use Rattle.store_map.specs.declared.transcript.Transcript.{Transcript}
use Rattle.store_core.specs.Act.{Act, ServerStep, Outcome}
use Rattle.store_core.specs.NextAct.{Job}
use Rattle.store_core.specs.Outcomes.{triple_of, cause_of, result_of}
use Rattle.store_core.specs.Placements.{skipped_from}
use Rattle.store_core.specs.Told.{Told, Seen, Lost}
use Rattle.run_laws.specs.CauseLaws.{changes_of, IsToldAway}
use Rattle.run_laws.specs.Losses.{IsLost}
use Rattle.run_laws.specs.OutcomeLaws.{HasCauseInSteps}
use Rattle.run_laws.specs.StepLaws.{HasTarget}
use Rattle.run_laws.specs.ToldInSteps.{AreTold}
use Rattle.run_laws.proofs.Gatherings.{gatherings_end}
use Rattle.history_laws.proofs.OrderLists.{no_pairs, map_pairs}
use Rattle.history_laws.specs.LineCauses.{job_of_call, WasCaused, LinesAreCaused}
use Rattle.history_laws.specs.LossesInTime.{WereMissing, NamesLosses, ResultNamesLosses, HasLossesInTime}
use Rattle.history_laws.specs.LostChunks.{TellsPlacement, WasLost, WasSkipped}
use Rattle.history_laws.specs.Trace.{Made}
use Rattle.history_laws.specs.Over.{answers_to}
use Rattle.history_laws.specs.Unhindered.{LacksChunk, SkipsChunk, IsUnhindered, CouldWrite, AtMost, TargetWasAway, HasItsPlace}
use Rattle.history_laws.specs.Answered.{IsRefused, HasResult, IsDone}
use Rattle.history_laws.proofs.ListsTold.{told_in}

-- ---- the servers that a refusal names are different ones
abbrev Differ : Lost → Lost → Type 0
Differ one other = one.server ≢ other.server

-- those that were away, by number
above : (from : ℕ) (row : List Placement) → All (λ (lost : Lost). from ≤ lost.server) (skipped_from from row)
above from [] = All-nil (λ (lost : Lost). from ≤ lost.server)
above from (placement.At epoch ∷ row) =
    All-weaker (λ (lost : Lost). from + 1 ≤ lost.server) (λ (lost : Lost). from ≤ lost.server) (λ lost h. omega (arith, h)) (skipped_from (from + 1) row) (above (from + 1) row)
above from (placement.Skipped downs ∷ row) =
    All-cons (λ (lost : Lost). from ≤ lost.server) (record { server = from; placed = placement.Skipped downs; found = found.Away downs }) (skipped_from (from + 1) row) (omega arith)
    (All-weaker (λ (lost : Lost). from + 1 ≤ lost.server) (λ (lost : Lost). from ≤ lost.server) (λ lost h. omega (arith, h)) (skipped_from (from + 1) row) (above (from + 1) row))

skips_differ : (from : ℕ) (row : List Placement) → AllPairs Differ (skipped_from from row)
skips_differ from [] = no_pairs Differ
skips_differ from (placement.At epoch ∷ row) = skips_differ (from + 1) row
skips_differ from (placement.Skipped downs ∷ row) =
    AllPairs-cons Differ (record { server = from; placed = placement.Skipped downs; found = found.Away downs }) (skipped_from (from + 1) row)
    (All-weaker (λ (lost : Lost). from + 1 ≤ lost.server) (λ (lost : Lost). from ≢ lost.server) (λ lost h same. absurd (omega (arith, h, same))) (skipped_from (from + 1) row) (above (from + 1) row))
    (skips_differ (from + 1) row)

-- of any loss that a call was told of
losses_differ : (g : Shape) (job : Job) → HasTarget g job → (looked : Told) (stripe : ℕ) (missing : List Lost) (told : List Told) → IsLost g job looked stripe missing told → AllPairs Differ missing
losses_differ g job target (Told.PinnedStripe seen) stripe missing told h = (gatherings_end.chunk_apart g seen job.target told [] missing (target h.rebuilds) h.comes_to).differ
losses_differ g job target (Told.Versions versions) stripe missing told h = subst (AllPairs Differ) (sym h.skipped) (skips_differ 0 h.row)
losses_differ g job target looked stripe missing told h = (gatherings_end.part_apart g h.part told [] missing h.comes_to).differ

servers_differ : (missing : List Lost) → AllPairs Differ missing → AllPairs (λ one other. one ≢ other) (map (λ (lost : Triple). lost.server) (map triple_of missing))
servers_differ missing differ =
    map_pairs (λ (one other : Triple). one.server ≢ other.server) (λ one other. one ≢ other) (λ (lost : Triple). lost.server) (map triple_of missing) (λ one other h. h)
    (map_pairs Differ (λ (one other : Triple). one.server ≢ other.server) triple_of missing (λ one other h. h) differ)

-- ---- too many missing
-- a server that tells that it was away was asked to prepare
abbrev is_at : Placement → Bool
is_at (placement.At epoch) = true
is_at (placement.Skipped downs) = false

skip_told : (version : ℕ) (step : ServerStep) (answer : Told) (downs : ℕ) → TellsPlacement version step answer (placement.Skipped downs) → (step ≡ ServerStep.Prepare version) × (answer ≡ Told.Prepared (placement.Skipped downs))
skip_told version (ServerStep.Prepare other) (Told.Prepared told) downs h = (ap ServerStep.Prepare h.0, ap Told.Prepared h.1)
skip_told version (ServerStep.Install other) (Told.Placed epoch) downs h = absurd (true≢false (ap is_at h.1))
skip_told version step answer downs h = absurd h

module _ (script : Script) (trace : List Made) (call : CallName) (free : IsUnhindered script trace call) where
  lacks : (seen : Seen) (lost : Triple) → WasLost trace call seen lost → LacksChunk trace call seen.version lost.server
  lacks seen lost h =
      record { before = h.0.before; made = h.0.made; after = h.0.after; split = h.0.split; is = (h.0.is.0, h.0.is.1, (lost.found, h.0.is.2)) }

  skips : (version : ℕ) (lost : Triple) → WasSkipped trace call version lost → SkipsChunk trace call version lost.server
  skips version lost h =
      let asked : (h.3.is.1.0 ≡ ServerStep.Prepare version) × (h.3.made.answer ≡ Told.Prepared (placement.Skipped h.0)) = skip_told version h.3.is.1.0 h.3.made.answer h.0 h.3.is.1.2 in
      record { before = h.3.before; made = h.3.made; after = h.3.after; split = h.3.split; is = (h.3.is.0, h.3.is.1.1 ∙ ap (Act.AtServer lost.server) asked.0, (h.0, asked.1)) }

  too_many : ((version : ℕ) → AtMost script.geometry.parity_count (SkipsChunk trace call version)) → (stripe : ℕ) (missing : List Lost) → length missing ≡ script.geometry.parity_count + 1 → AllPairs Differ missing → WereMissing trace call stripe (map triple_of missing) → ⊥
  too_many prepared stripe missing count differ were =
      by were
    where
      more : length (map (λ (lost : Triple). lost.server) (map triple_of missing)) ≤ script.geometry.parity_count → ⊥
      more few =
          let size : length (map (λ (lost : Triple). lost.server) (map triple_of missing)) ≡ length (map triple_of missing) = length-map (map triple_of missing) (λ (lost : Triple). lost.server) in
          let same : length (map triple_of missing) ≡ length missing = length-map missing triple_of in
          absurd (omega (arith, few, size, same, count))

      by : WereMissing trace call stripe (map triple_of missing) → ⊥
      by (inl lost) =
          more (free.gathered lost.0.version (map (λ (l : Triple). l.server) (map triple_of missing)) (servers_differ missing differ)
          (All-map (LacksChunk trace call lost.0.version) (λ (l : Triple). l.server) (map triple_of missing)
          (All-weaker (WasLost trace call lost.0) (λ (l : Triple). LacksChunk trace call lost.0.version l.server) (lacks lost.0) (map triple_of missing) lost.2)))
      by (inr skipped) =
          more (prepared skipped.0 (map (λ (l : Triple). l.server) (map triple_of missing)) (servers_differ missing differ)
          (All-map (SkipsChunk trace call skipped.0) (λ (l : Triple). l.server) (map triple_of missing)
          (All-weaker (WasSkipped trace call skipped.0) (λ (l : Triple). SkipsChunk trace call skipped.0 l.server) (skips skipped.0) (map triple_of missing) skipped.1)))

-- ---- by lines
module _ (script : Script) (trace : List Made) (t : Transcript) (targets : (call : CallName) (job : Job) → job_of_call script call ≡ Some job → HasTarget script.geometry job) (losses : HasLossesInTime trace t)
    (causes : LinesAreCaused script trace t) where
  module _ (call : CallName) (free : IsUnhindered script trace call) where
    -- the servers of a loss that the call was told of are named by no line
    told_of_loss : ((version : ℕ) → AtMost script.geometry.parity_count (SkipsChunk trace call version)) → (job : Job) → job_of_call script call ≡ Some job → (stripe : ℕ) (missing : List Lost) → HasCauseInSteps script.geometry (tries_of script) job (Outcome.Unavailable stripe missing) (answers_to call trace)
        → WereMissing trace call stripe (map triple_of missing) → ⊥
    told_of_loss prepared job is stripe missing h were =
        too_many script trace call free prepared stripe missing h.0.0 (losses_differ script.geometry job (targets call job is) h.1.looked stripe missing h.1.told h.1.lost) were

  -- a client's call
  module _ (call : ClientCall) (free : IsUnhindered script trace (name.Client call)) where
    pub not_refused : CouldWrite script trace (name.Client call) → IsRefused t call → ⊥
    not_refused writes refused = by caused.outcome caused.shows caused.caused
      where
        line : XLine
        line = record { call = call; cause = refused.0 }

        caused : WasCaused script trace (name.Client call) (λ outcome. cause_of outcome ≡ Some refused.0)
        caused = All-contains (λ (l : XLine). WasCaused script trace (name.Client l.call) (λ outcome. cause_of outcome ≡ Some l.cause)) t.refused (record { call = call; cause = refused.0 }) causes.refused refused.1

        too_few : (pairs changes : List (ℕ × ℕ)) → pairs ≡ changes → length pairs ≡ tries_of script → length changes < tries_of script → ⊥
        too_few pairs changes same all few = let n : length pairs ≡ length changes = ap length same in absurd (omega (arith, n, all, few))

        by : (outcome : Outcome) → cause_of outcome ≡ Some refused.0 → HasCauseInSteps script.geometry (tries_of script) caused.job outcome (answers_to (name.Client call) trace) → ⊥
        by (Outcome.Unavailable stripe missing) shows h =
            let there : Contains t.refused (record { call = call; cause = cause.Unavailable stripe (map triple_of missing) }) =
            subst (λ c. Contains t.refused (record { call = call; cause = c })) (sym (same_Some (cause.Unavailable stripe (map triple_of missing)) refused.0 shows)) refused.1 in
            told_of_loss (name.Client call) free writes.prepared caused.job caused.is_call stripe missing h
            (All-contains (λ (l : XLine). NamesLosses trace (name.Client l.call) l.cause) t.refused (record { call = call; cause = cause.Unavailable stripe (map triple_of missing) }) losses.refused there)
        by (Outcome.Contended pairs) shows h = too_few pairs (changes_of (answers_to (name.Client call) trace)) h.0 h.1 writes.tries
        by (Outcome.Reaped point) shows h = free.kept point (told_in (answers_to (name.Client call) trace) (Told.Reaped point) h)
        by Outcome.NoMemory shows h = free.memory (told_in (answers_to (name.Client call) trace) Told.Short h)
        by outcome shows h = none-some refused.0 shows

  -- a rebuild
  module _ (call : RepairCall) (free : IsUnhindered script trace (name.Repairer call)) where
    pub is_done : HasItsPlace script trace (name.Repairer call)
        → ((job : Job) → job_of_call script (name.Repairer call) ≡ Some job → AreTold script.geometry (size_of script) (tries_of script) job (answers_to (name.Repairer call) trace) → (downs : ℕ) → IsToldAway downs (answers_to (name.Repairer call) trace) → TargetWasAway script trace (name.Repairer call))
        → ((job : Job) → job_of_call script (name.Repairer call) ≡ Some job → (version : ℕ) → AtMost script.geometry.parity_count (SkipsChunk trace (name.Repairer call) version)) → HasResult (λ what. ⊤) t call → HasResult IsDone t call
    is_done place told prepared has = (has.0, by caused.outcome caused.shows caused.caused, has.2)
      where
        caused : WasCaused script trace (name.Repairer call) (λ outcome. result_of outcome ≡ Some has.0)
        caused = All-contains (λ (l : RLine). WasCaused script trace (name.Repairer l.call) (λ outcome. result_of outcome ≡ Some l.result)) t.repairs (record { call = call; result = has.0 }) causes.repairs has.2

        by : (outcome : Outcome) → result_of outcome ≡ Some has.0 → HasCauseInSteps script.geometry (tries_of script) caused.job outcome (answers_to (name.Repairer call) trace) → IsDone has.0
        by Outcome.Rebuilt shows h = subst IsDone (same_Some result.Rebuilt has.0 shows) tt
        by Outcome.Here shows h = subst IsDone (same_Some result.Here has.0 shows) tt
        by (Outcome.Away downs) shows h = absurd (place.target (told caused.job caused.is_call caused.are_told downs h.0))
        by Outcome.NoSuch shows h = absurd (place.found (told_in (answers_to (name.Repairer call) trace) Told.NoSuch h))
        by (Outcome.Superseded newer) shows h = absurd (place.current newer (told_in (answers_to (name.Repairer call) trace) (Told.Superseded newer) h))
        by (Outcome.Unavailable stripe missing) shows h =
            let there : Contains t.repairs (record { call = call; result = result.Unavailable stripe (map triple_of missing) }) =
            subst (λ r. Contains t.repairs (record { call = call; result = r })) (sym (same_Some (result.Unavailable stripe (map triple_of missing)) has.0 shows)) has.2 in
            absurd (told_of_loss (name.Repairer call) free (prepared caused.job caused.is_call) caused.job caused.is_call stripe missing h
            (All-contains (λ (l : RLine). ResultNamesLosses trace (name.Repairer l.call) l.result) t.repairs (record { call = call; result = result.Unavailable stripe (map triple_of missing) }) losses.repairs there))
        by (Outcome.Reaped point) shows h = absurd (free.kept point (told_in (answers_to (name.Repairer call) trace) (Told.Reaped point) h))
        by Outcome.NoMemory shows h = absurd (free.memory (told_in (answers_to (name.Repairer call) trace) Told.Short h))
        by outcome shows h = absurd (none-some has.0 shows)

-- What is computed of a call is what it stands for.
use Rattle.std.proofs.Common.{◌≡◌, ◌⊎◌, inl, inr, ℕ, ◌↔◌, Bool, true, false, not, ◌&&◌, nat_eq, List, filter_map, Option, None, Some, Contains, refl, sym, ap, subst, ◌∙◌, true≢false}
use Rattle.std.specs.Bool.{Decides}
use Rattle.std.specs.List.{list_all}
use Rattle.std.specs.Option.{option_map_or}
use Rattle.std.proofs.lemmas.Bool.{eq-eqb, eqb-true, not-false}
use Rattle.std.proofs.lemmas.Bool.Decides.{Decides-and, Decides-like, Decides-ltb}
use Rattle.std.proofs.lemmas.List.Elements.{All-contains}
use Rattle.std.proofs.lemmas.List.Sums.{AllPass-from_list_all, list_all-from_AllPass}
use Rattle.std.proofs.lemmas.Option.{none-some, same_Some}
use Rattle.store_map.specs.Limits.{tries_of}
use Rattle.store_map.specs.declared.call.Rebuild.{Rebuild}
use Rattle.store_map.specs.declared.placement.Found.{Found}
use Rattle.store_map.specs.declared.placement.Found.TheVariants as found
use Rattle.store_map.specs.declared.placement.Placement.TheVariants as placement
use Rattle.store_map.specs.declared.script.Script.{Script}
use Rattle.store_map.specs.declared.call_name.CallName.{CallName}
use Rattle.store_core.specs.Act.{Act, Outcome, ServerStep}
use Rattle.store_core.specs.NextAct.{Job}
use Rattle.store_core.specs.Told.{Told}
use Rattle.run_laws.specs.ToldInSteps.{act_after}
use Rattle.run_laws.proofs.SoundLists.{all_by, in_filter, filtered}
use Rattle.history_laws.specs.LineCauses.{job_of_call, rebuild_named}
use Rattle.history_laws.specs.LostChunks.{AsksFor}
use Rattle.history_laws.specs.Moments.{Happened, IsOf}
use Rattle.history_laws.specs.Trace.{Made}
use Rattle.history_laws.specs.Facts.{is_finish, is_ample, is_kept, is_found, is_current, lacking_at, skipped_at, is_reached, Facts, is_step_of, steps_of, facts_of, are_few}
use Rattle.history_laws.specs.FactsLaw.{AreFactsOf, FactsAreExact}
use Rattle.history_laws.specs.Over.{answers_to, IsOver}
use Rattle.history_laws.specs.Unhindered.{LacksChunk, SkipsChunk, AtMost, TargetWasAway}
use Rattle.history_laws.proofs.FewServers.{few_decided}
use Rattle.history_laws.proofs.Picked.{happened, happened_in, is_of, is_step, picked_happened}

-- ---- all elements pass a test, or one fails it
module _ {X : Type 0} (test : X → Bool) (xs : List X) where
  passes : list_all test xs ≡ true → (x : X) → Contains xs x → test x ≡ false → ⊥
  passes all x has fails = true≢false (sym (All-contains (λ one. test one ≡ true) xs x (AllPass-from_list_all test xs all) has) ∙ fails)

  all_pass : ((x : X) → Contains xs x → test x ≡ false → ⊥) → list_all test xs ≡ true
  all_pass none = list_all-from_AllPass test xs (all_by (λ one. test one ≡ true) xs (λ x has. by x has (test x) refl))
    where
      by : (x : X) → Contains xs x → (b : Bool) → test x ≡ b → test x ≡ true
      by x has true e = e
      by x has false e = absurd (none x has e)

-- ---- what fails each test
only_short : (answer : Told) → is_ample answer ≡ false → answer ≡ Told.Short
only_short Told.Short e = refl
only_short answer e = absurd (true≢false e)

only_reaped : (answer : Told) → is_kept answer ≡ false → (point : ℕ) × (answer ≡ Told.Reaped point)
only_reaped (Told.Reaped point) e = (point, refl)
only_reaped answer e = absurd (true≢false e)

only_no_such : (answer : Told) → is_found answer ≡ false → answer ≡ Told.NoSuch
only_no_such Told.NoSuch e = refl
only_no_such answer e = absurd (true≢false e)

only_superseded : (answer : Told) → is_current answer ≡ false → (newer : ℕ) × (answer ≡ Told.Superseded newer)
only_superseded (Told.Superseded newer) e = (newer, refl)
only_superseded answer e = absurd (true≢false e)

only_finish : (act : Act) → is_finish act ≡ true → (outcome : Outcome) × (act ≡ Act.Finish outcome)
only_finish (Act.Finish outcome) e = (outcome, refl)
only_finish act e = absurd (true≢false (sym e))

-- ---- chunks
abbrev AsksAt : Act → ℕ → ℕ → Type 0
AsksAt act version server = (step : ServerStep) × (act ≡ Act.AtServer server step) × AsksFor version step

abbrev IsMissing : Told → Type 0
IsMissing answer = (found : Found) × (answer ≡ Told.Missing found)

abbrev IsSkipped : Told → Type 0
IsSkipped answer = (downs : ℕ) × (answer ≡ Told.Prepared (placement.Skipped downs))

lacks : (act : Act) (answer : Told) (version server : ℕ) → lacking_at act answer ≡ Some (version, server) → AsksAt act version server × IsMissing answer
lacks (Act.AtServer at (ServerStep.Has of)) (Told.Missing found) version server e =
    let same : (of, at) ≡ (version, server) = same_Some (of, at) (version, server) e in
    ((ServerStep.Has of, (λ k. Act.AtServer (same k).1 (ServerStep.Has of)), (λ k. (same k).0)), (found, refl))
lacks (Act.AtServer at (ServerStep.Fetch of layers)) (Told.Missing found) version server e =
    let same : (of, at) ≡ (version, server) = same_Some (of, at) (version, server) e in
    ((ServerStep.Fetch of layers, (λ k. Act.AtServer (same k).1 (ServerStep.Fetch of layers)), (λ k. (same k).0)), (found, refl))
lacks act answer version server e = absurd (none-some (version, server) e)

is_lacking : (act : Act) (answer : Told) (version server : ℕ) → AsksAt act version server → IsMissing answer → lacking_at act answer ≡ Some (version, server)
is_lacking act answer version server asks missing = (λ k. lacking_at (asks.1 k) (missing.1 k)) ∙ by asks.0 asks.2
  where
    by : (step : ServerStep) → AsksFor version step → lacking_at (Act.AtServer server step) (Told.Missing missing.0) ≡ Some (version, server)
    by (ServerStep.Has of) e = λ k. Some (e k, server)
    by (ServerStep.Fetch of layers) e = λ k. Some (e k, server)
    by step e = absurd e

skips : (act : Act) (answer : Told) (version server : ℕ) → skipped_at act answer ≡ Some (version, server) → (act ≡ Act.AtServer server (ServerStep.Prepare version)) × IsSkipped answer
skips (Act.AtServer at (ServerStep.Prepare of)) (Told.Prepared (placement.Skipped downs)) version server e =
    let same : (of, at) ≡ (version, server) = same_Some (of, at) (version, server) e in
    ((λ k. Act.AtServer (same k).1 (ServerStep.Prepare (same k).0)), (downs, refl))
skips act answer version server e = absurd (none-some (version, server) e)

module _ (trace : List Made) (call : CallName) where
  lacking_exact : (version server : ℕ) → Contains (filter_map (λ (made : Made). lacking_at made.act made.answer) (steps_of call trace)) (version, server) ↔ LacksChunk trace call version server
  lacking_exact version server =
      picked_happened (λ (made : Made). lacking_at made.act made.answer) call trace (version, server) (λ made. IsOf call made × AsksAt made.act version server × IsMissing made.answer)
      (λ made of e. let so = lacks made.act made.answer version server e in (of, so.0, so.1)) (λ made h. (h.0, is_lacking made.act made.answer version server h.1 h.2))

  skipped_exact : (version server : ℕ) → Contains (filter_map (λ (made : Made). skipped_at made.act made.answer) (steps_of call trace)) (version, server) ↔ SkipsChunk trace call version server
  skipped_exact version server =
      picked_happened (λ (made : Made). skipped_at made.act made.answer) call trace (version, server) (λ made. IsOf call made × (made.act ≡ Act.AtServer server (ServerStep.Prepare version)) × IsSkipped made.answer)
      (λ made of e. let so = skips made.act made.answer version server e in (of, so.0, so.1)) (λ made h. (h.0, (λ k. skipped_at (h.1 k) (h.2.1 k))))

-- ---- the target
abbrev IsAtServer : ℕ → Act → Type 0
IsAtServer server act = (step : ServerStep) × (act ≡ Act.AtServer server step)

abbrev IsToldAway : Told → Type 0
IsToldAway answer = (downs : ℕ) × ((answer ≡ Told.Away downs) ⊎ (answer ≡ Told.Missing (found.Away downs)))

unreached : (target : ℕ) (act : Act) (answer : Told) → is_reached target act answer ≡ false → IsAtServer target act × IsToldAway answer
unreached target (Act.AtServer server step) (Told.Away downs) e = ((step, ap (λ s. Act.AtServer s step) (sym (eqb-true target server (not-false (nat_eq target server) e)))), (downs, inl refl))
unreached target (Act.AtServer server step) (Told.Missing (found.Away downs)) e = ((step, ap (λ s. Act.AtServer s step) (sym (eqb-true target server (not-false (nat_eq target server) e)))), (downs, inr refl))
unreached target act answer e = absurd (true≢false e)

is_unreached : (target : ℕ) (act : Act) (answer : Told) → IsAtServer target act → IsToldAway answer → is_reached target act answer ≡ false
is_unreached target act answer at away = by away.1
  where
    own : not (nat_eq target target) ≡ false
    own = ap not (eq-eqb target target refl)

    by : (answer ≡ Told.Away away.0) ⊎ (answer ≡ Told.Missing (found.Away away.0)) → is_reached target act answer ≡ false
    by (inl e) = (λ k. is_reached target (at.1 k) (e k)) ∙ own
    by (inr e) = (λ k. is_reached target (at.1 k) (e k)) ∙ own

-- ---- each fact
module _ (script : Script) (trace : List Made) (call : CallName) where
  abbrev facts : Facts
  facts = facts_of script trace call

  abbrev told : List Told
  told = answers_to call trace

  over : Decides facts.over (IsOver script trace call)
  over = by (job_of_call script call) refl
    where
      ends : Job → Bool
      ends job = is_finish (act_after script.geometry (tries_of script) job told)

      by : (found : Option Job) → job_of_call script call ≡ found → Decides (option_map_or ends found false) (IsOver script trace call)
      by None e = (λ t. absurd (true≢false (sym t)), λ h. absurd (none-some h.0 (sym e ∙ h.1)))
      by (Some job) e = (λ t. (job, e, only_finish _ t), λ h. subst (λ j. ends j ≡ true) (same_Some h.0 job (sym h.1 ∙ e)) (ap is_finish h.2.1))

  ample : Decides facts.ample (¬ Contains told Told.Short)
  ample = (λ all has. passes is_ample told all Told.Short has refl, λ none. all_pass is_ample told (λ answer has e. none (subst (Contains told) (only_short answer e) has)))

  kept : Decides facts.kept ((point : ℕ) → ¬ Contains told (Told.Reaped point))
  kept = (
    λ all point has. passes is_kept told all (Told.Reaped point) has refl,
    λ none. all_pass is_kept told (λ answer has e. let reaped = only_reaped answer e in none reaped.0 (subst (Contains told) reaped.1 has)),
  )

  found_there : Decides facts.found (¬ Contains told Told.NoSuch)
  found_there = (λ all has. passes is_found told all Told.NoSuch has refl, λ none. all_pass is_found told (λ answer has e. none (subst (Contains told) (only_no_such answer e) has)))

  current : Decides facts.current ((newer : ℕ) → ¬ Contains told (Told.Superseded newer))
  current = (
    λ all newer has. passes is_current told all (Told.Superseded newer) has refl,
    λ none. all_pass is_current told (λ answer has e. let newer = only_superseded answer e in none newer.0 (subst (Contains told) newer.1 has)),
  )

  reached : Decides facts.reached (¬ TargetWasAway script trace call)
  reached = by (rebuild_named script call) refl
    where
      test : Rebuild → Made → Bool
      test rebuild made = is_reached rebuild.server made.act made.answer

      Goes : Rebuild → Made → Type 0
      Goes rebuild made = IsOf call made × IsAtServer rebuild.server made.act × IsToldAway made.answer

      away : (rebuild : Rebuild) → list_all (test rebuild) (steps_of call trace) ≡ true → Happened trace (λ before made. Goes rebuild made) → ⊥
      away rebuild all h =
          passes (test rebuild) (steps_of call trace) all h.made (filtered (is_step_of call) trace h.made (is_step call h.made h.is.0) (happened_in trace _ h)) (is_unreached rebuild.server h.made.act h.made.answer h.is.1 h.is.2)

      there : (rebuild : Rebuild) → (Happened trace (λ before made. Goes rebuild made) → ⊥) → list_all (test rebuild) (steps_of call trace) ≡ true
      there rebuild none =
          all_pass (test rebuild) (steps_of call trace)
          (λ made has e.
          let own = in_filter (is_step_of call) trace made has in
          let so = unreached rebuild.server made.act made.answer e in
          none (happened (Goes rebuild) trace made own.0 (is_of call made own.1, so.0, so.1)))

      by : (asked : Option Rebuild) → rebuild_named script call ≡ asked → Decides (option_map_or (λ rebuild. list_all (test rebuild) (steps_of call trace)) asked true) (¬ TargetWasAway script trace call)
      by None e = (λ t h. none-some h.0 (sym e ∙ h.1), λ none. refl)
      by (Some rebuild) e = (
        λ all h. away rebuild all (subst (λ (one : Rebuild). Happened trace (λ before made. Goes one made)) (same_Some h.0 rebuild (sym h.1 ∙ e)) h.2),
        λ none. there rebuild (λ h. none (rebuild, e, h)),
      )

  gathered : Decides (are_few script.geometry.parity_count facts.lacking) ((version : ℕ) → AtMost script.geometry.parity_count (LacksChunk trace call version))
  gathered = few_decided script.geometry.parity_count facts.lacking (LacksChunk trace call) (lacking_exact trace call)

  prepared : Decides (are_few script.geometry.parity_count facts.skipped) ((version : ℕ) → AtMost script.geometry.parity_count (SkipsChunk trace call version))
  prepared = few_decided script.geometry.parity_count facts.skipped (SkipsChunk trace call) (skipped_exact trace call)

  pub facts_exact : AreFactsOf script trace call facts
  facts_exact =
      record {
        over = over;
        ample = ample;
        kept = kept;
        lacking = lacking_exact trace call;
        skipped = skipped_exact trace call;
        changes = refl;
        found = found_there;
        current = current;
        reached = reached;
        free =
            Decides-like _ (λ h. record { memory = h.0.0; kept = h.0.1; gathered = h.1 }) (λ free. ((free.memory, free.kept), free.gathered))
            (Decides-and (facts.ample && facts.kept) _ (Decides-and facts.ample facts.kept ample kept) gathered);
        writes = Decides-like _ (λ h. record { prepared = h.0; tries = h.1 }) (λ could. (could.prepared, could.tries)) (Decides-and (are_few script.geometry.parity_count facts.skipped) _ prepared (Decides-ltb facts.changes (tries_of script)));
        place =
            Decides-like _ (λ h. record { found = h.0.0; current = h.0.1; target = h.1 }) (λ place. ((place.found, place.current), place.target))
            (Decides-and (facts.found && facts.current) facts.reached (Decides-and facts.found facts.current found_there current) reached);
      }

pub facts_are_exact : FactsAreExact
facts_are_exact = facts_exact

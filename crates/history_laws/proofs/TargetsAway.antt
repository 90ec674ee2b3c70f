-- A rebuild that was told that its target was away was told so by its target.
use Rattle.std.proofs.Common.{◌≡◌, ◌⊎◌, inl, inr, ℕ, Bool, true, false, ◌&&◌, nat_eq, List, [], ◌∷◌, ◌++◌, map, fold, Option, None, Some, option_and_then, option_map, refl, sym, ap, subst, ◌∙◌, true≢false}
use Rattle.std.proofs.lemmas.Bool.{eqb-true}
use Rattle.std.proofs.lemmas.List.{append_assoc}
use Rattle.std.proofs.lemmas.Option.{none-some, same_Some, slice_get-map}
use Rattle.std.specs.List.{slice_get}
use Rattle.clay_grid.specs.Shape.{Shape}
use Rattle.store_map.specs.Limits.{size_of, tries_of}
use Rattle.store_map.specs.declared.actor.Actor.{Actor}
use Rattle.store_map.specs.declared.actor.Actor.TheVariants as actor
use Rattle.store_map.specs.declared.call.Rebuild.{Rebuild}
use Rattle.store_map.specs.declared.placement.Found.TheVariants as found
use Rattle.store_map.specs.declared.script.RepairPart.{RepairPart}
use Rattle.store_map.specs.declared.script.Script.{Script}
use Rattle.store_map.specs.declared.call_name.RepairCall.{RepairCall}
use Rattle.store_map.specs.declared.call_name.CallName.TheVariants as name
use Rattle.hist_rules.specs.Calls.{rebuild_of}
use Rattle.store_core.specs.Act.{Act, DirectoryStep, ServerStep}
use Rattle.store_core.specs.Lookups.{same_actor}
use Rattle.store_core.specs.NextAct.{Job, rebuild_job, next_by}
use Rattle.store_core.specs.Note.{Kind}
use Rattle.store_core.specs.Tell.{tell_by, tell}
use Rattle.store_core.specs.Told.{Told, Seen}
use Rattle.store_core.specs.Work.{Work}
use Rattle.run_laws.specs.Answers.{Answers}
use Rattle.run_laws.specs.CauseLaws.{TargetIsAway, IsToldAway}
use Rattle.run_laws.specs.GatherLaws.{Tells}
use Rattle.run_laws.specs.ToldInSteps.{IsToldNext, AreToldSince, AreTold, act_after}
use Rattle.run_laws.proofs.Orders.{calls_keep_order}
use Rattle.run_laws.proofs.Passes.{same_is}
use Rattle.history_laws.specs.LineCauses.{told_by, told_if, told_to, job_of_call}
use Rattle.history_laws.specs.Moments.{name_of, IsOf}
use Rattle.history_laws.specs.Trace.{Made}
use Rattle.history_laws.specs.Over.{answers_to}
use Rattle.history_laws.specs.Unhindered.{TargetWasAway}
use Rattle.history_laws.specs.NextSteps.{told_before, StepsAreNext}

-- ---- tests and lists
both_left : (a b : Bool) → (a && b) ≡ true → a ≡ true
both_left true b e = refl
both_left false b e = absurd (true≢false (sym e))

both_right : (a b : Bool) → (a && b) ≡ true → b ≡ true
both_right true b e = e
both_right false b e = absurd (true≢false (sym e))

abbrev is_short : Told → Bool
is_short Told.Short = true
is_short answer = false

abbrev first_or : Told → List Told → Told
first_or d [] = d
first_or d (x ∷ xs) = x

abbrev rest_of : List Told → List Told
rest_of [] = []
rest_of (x ∷ xs) = xs

abbrev is_empty : List Told → Bool
is_empty [] = true
is_empty (x ∷ xs) = false

has_some : (front back : List Told) (x : Told) → [] ≡ front ++ x ∷ back → ⊥
has_some [] back x e = true≢false (ap is_empty e)
has_some (f ∷ front) back x e = true≢false (ap is_empty e)

-- where an answer stands
split_at : (told : List Told) (x : Told) → Tells (λ answer. answer ≡ x) told → (front : List Told) × (back : List Told) × (told ≡ front ++ x ∷ back)
split_at [] x h = absurd h
split_at (answer ∷ told) x (inl e) = ([], told, (λ k. e k ∷ told))
split_at (answer ∷ told) x (inr h) = let rest : (front : List Told) × (back : List Told) × (told ≡ front ++ x ∷ back) = split_at told x h in (answer ∷ rest.0, rest.1, (λ k. answer ∷ rest.2 k))

-- ---- the step that was told an answer
module _ (who : Actor) (number : ℕ) where
  abbrev is_mine : Made → Bool
  is_mine made = same_actor who made.who && nat_eq number made.number

  record ToldAt (trace : List Made) (front : List Told) (x : Told) : Type 0 where
    before : List Made
    made : Made
    after : List Made
    split : trace ≡ before ++ made ∷ after
    mine : is_mine made ≡ true
    answer : made.answer ≡ x
    told : told_to who number before ++ told_before made.short ≡ front

  -- after a step of another
  other_first : (made : Made) (trace : List Made) (front : List Told) (x : Told) → is_mine made ≡ false → ToldAt trace front x → ToldAt (made ∷ trace) front x
  other_first made trace front x other at =
      record {
        before = made ∷ at.before;
        made = at.made;
        after = at.after;
        split = (λ k. made ∷ at.split k);
        mine = at.mine;
        answer = at.answer;
        told = ap (λ b. told_if b made (told_to who number at.before) ++ told_before at.made.short) other ∙ at.told;
      }

  -- after a step of its own
  own_first : (made : Made) (trace : List Made) (front before : List Told) (x : Told) → is_mine made ≡ true → told_by made.short made.answer ≡ before → ToldAt trace front x → ToldAt (made ∷ trace) (before ++ front) x
  own_first made trace front before x own by_it at =
      record {
        before = made ∷ at.before;
        made = at.made;
        after = at.after;
        split = (λ k. made ∷ at.split k);
        mine = at.mine;
        answer = at.answer;
        told =
            ap (λ b. told_if b made (told_to who number at.before) ++ told_before at.made.short) own
            ∙ append_assoc (told_by made.short made.answer) (told_to who number at.before) (told_before at.made.short) ∙ (λ k. by_it k ++ at.told k);
      }

  here : (made : Made) (trace : List Made) (short : Bool) (x : Told) → is_mine made ≡ true → made.short ≡ short → made.answer ≡ x → ToldAt (made ∷ trace) (told_before short) x
  here made trace short x own is_short_is answer =
      record { before = []; made = made; after = trace; split = refl; mine = own; answer = answer; told = ap told_before is_short_is }

  find_in : (made : Made) (trace : List Made) (back : List Told) (x : Told) → is_short x ≡ false → is_mine made ≡ true
      → ((front : List Told) → told_to who number trace ≡ front ++ x ∷ back → ToldAt trace front x)
      → (short : Bool) → made.short ≡ short → (front : List Told) → told_by short made.answer ++ told_to who number trace ≡ front ++ x ∷ back → ToldAt (made ∷ trace) front x
  find_in made trace back x other own later false is [] e = here made trace false x own is (ap (first_or x) e)
  find_in made trace back x other own later false is (f ∷ front) e =
      own_first made trace front (f ∷ []) x own (ap (λ s. told_by s made.answer) is ∙ (λ k. ap (first_or f) e k ∷ [])) (later front (ap rest_of e))
  find_in made trace back x other own later true is [] e = absurd (true≢false (ap is_short (ap (first_or x) e) ∙ other))
  find_in made trace back x other own later true is (f ∷ []) e =
      subst (λ one. ToldAt (made ∷ trace) (one ∷ []) x) (ap (first_or f) e) (here made trace true x own is (ap (first_or x) (ap rest_of e)))
  find_in made trace back x other own later true is (f ∷ g ∷ front) e =
      own_first made trace front (f ∷ g ∷ []) x own (ap (λ s. told_by s made.answer) is ∙ (λ k. ap (first_or f) e k ∷ ap (first_or g) (ap rest_of e) k ∷ [])) (later front (ap rest_of (ap rest_of e)))

  find : (trace : List Made) (front back : List Told) (x : Told) → is_short x ≡ false → told_to who number trace ≡ front ++ x ∷ back → ToldAt trace front x
  find [] front back x other e = absurd (has_some front back x e)
  find (made ∷ trace) front back x other e = by (find trace) (is_mine made) refl
    where
      by : ((f b : List Told) (y : Told) → is_short y ≡ false → told_to who number trace ≡ f ++ y ∷ b → ToldAt trace f y) → (b : Bool) → is_mine made ≡ b → ToldAt (made ∷ trace) front x
      by later true is =
          find_in made trace back x other is (λ f k. later f back x other k) made.short refl front (sym (ap (λ b. told_if b made (told_to who number trace)) is) ∙ e)
      by later false is = other_first made trace front x is (later front back x other (sym (ap (λ b. told_if b made (told_to who number trace)) is) ∙ e))

-- ---- by whom
-- only an install is told so
away_installs : (pins touched downs : ℕ) (act : Act) → Answers pins touched act (Told.Away downs) → (server : ℕ) × (version : ℕ) × (act ≡ Act.AtServer server (ServerStep.Install version))
away_installs pins touched downs (Act.AtServer server (ServerStep.Install version)) h = (server, version, refl)
away_installs pins touched downs (Act.AtServer server step) h = absurd h
away_installs pins touched downs (Act.AtDirectory DirectoryStep.End) h = absurd h
away_installs pins touched downs (Act.AtDirectory step) h = absurd h
away_installs pins touched downs (Act.Finish outcome) h = absurd h

-- the first server that a rebuild asks is its target
asks_target : (kind : Kind) → kind ≡ Kind.Rebuild → (g : Shape) (tries : ℕ) (job : Job) (seen : Seen) → next_by kind g tries job (tell_by kind g job [] (Told.PinnedStripe seen)) ≡ Act.AtServer job.target (ServerStep.Has seen.version)
asks_target kind is g tries job seen = subst (λ k. next_by k g tries job (tell_by k g job [] (Told.PinnedStripe seen)) ≡ Act.AtServer job.target (ServerStep.Has seen.version)) (sym is) refl

-- what was told before an answer, and the answer
next_at : (g : Shape) (most tries : ℕ) (job : Job) (told front : List Told) (x : Told) (back : List Told) → AreToldSince g most tries job told (front ++ x ∷ back)
    → AreToldSince g most tries job told front × IsToldNext g most tries job (fold (tell g job) told front) x
next_at g most tries job told [] x back so = (tt, so.0)
next_at g most tries job told (f ∷ front) x back so =
    let rest : AreToldSince g most tries job (tell g job told f) front × IsToldNext g most tries job (fold (tell g job) (tell g job told f) front) x = next_at g most tries job (tell g job told f) front x back so.1 in
    ((so.0, rest.0), rest.1)

-- the first two answers of a target that was away when it was asked
first_two : (downs : ℕ) (told : List Told) → TargetIsAway downs told → (seen : Seen) × (back : List Told) × (told ≡ Told.PinnedStripe seen ∷ Told.Missing (found.Away downs) ∷ back)
first_two downs [] h = absurd h
first_two downs (Told.PinnedStripe seen ∷ []) h = absurd h
first_two downs (Told.PinnedStripe seen ∷ Told.Missing given ∷ told) h = (seen, told, (λ k. Told.PinnedStripe seen ∷ Told.Missing (h k) ∷ told))
first_two downs (Told.PinnedStripe seen ∷ answer ∷ told) h = absurd h
first_two downs (answer ∷ told) h = absurd h

-- the rebuild of a job
pub rebuild_is : (script : Script) (call : RepairCall) (job : Job) → job_of_call script (name.Repairer call) ≡ Some job → (rebuild : Rebuild) × (rebuild_of script call ≡ Some rebuild) × (rebuild_job rebuild ≡ job)
rebuild_is script call job e = by (slice_get script.repairers call.repairer) refl (sym (ap (option_and_then (λ (w : Work). slice_get w.jobs call.number)) (slice_get-map work_of script.repairers call.repairer)) ∙ e)
  where
    work_of : RepairPart → Work
    work_of part = record { jobs = map rebuild_job part.calls; leave = part.leave }

    one : (part : RepairPart) → slice_get script.repairers call.repairer ≡ Some part → (asked : Option Rebuild) → slice_get part.calls call.number ≡ asked → option_map rebuild_job asked ≡ Some job
        → (rebuild : Rebuild) × (rebuild_of script call ≡ Some rebuild) × (rebuild_job rebuild ≡ job)
    one part is None is_call k = absurd (none-some job k)
    one part is (Some rebuild) is_call k = (rebuild, ap (option_and_then (λ (p : RepairPart). slice_get p.calls call.number)) is ∙ is_call, same_Some (rebuild_job rebuild) job k)

    by : (found : Option RepairPart) → slice_get script.repairers call.repairer ≡ found → option_and_then (λ (w : Work). slice_get w.jobs call.number) (option_map (λ (part : RepairPart). record { jobs = map rebuild_job part.calls; leave = part.leave }) found) ≡ Some job
        → (rebuild : Rebuild) × (rebuild_of script call ≡ Some rebuild) × (rebuild_job rebuild ≡ job)
    by None is k = absurd (none-some job k)
    by (Some part) is k = one part is (slice_get part.calls call.number) refl (sym (slice_get-map rebuild_job part.calls call.number) ∙ k)

module _ (script : Script) (trace : List Made) (next : StepsAreNext script trace) (call : RepairCall) where
  -- a step of the rebuild
  is_of : (made : Made) → is_mine (actor.Repairer call.repairer) call.number made ≡ true → IsOf (name.Repairer call) made
  is_of made mine =
      let same_who : actor.Repairer call.repairer ≡ made.who = same_is (actor.Repairer call.repairer) made.who (both_left (same_actor (actor.Repairer call.repairer) made.who) (nat_eq call.number made.number) mine) in
      let same_number : call.number ≡ made.number = eqb-true call.number made.number (both_right (same_actor (actor.Repairer call.repairer) made.who) (nat_eq call.number made.number) mine) in
      λ k. name_of (sym same_who k) (sym same_number k)

  -- the target told so
  pub target_told : (job : Job) → job_of_call script (name.Repairer call) ≡ Some job → AreTold script.geometry (size_of script) (tries_of script) job (answers_to (name.Repairer call) trace) → (downs : ℕ)
      → IsToldAway downs (answers_to (name.Repairer call) trace) → TargetWasAway script trace (name.Repairer call)
  target_told job is are_told downs away = by away
    where
      of : (rebuild : Rebuild) × (rebuild_of script call ≡ Some rebuild) × (rebuild_job rebuild ≡ job)
      of = rebuild_is script call job is

      at_target : (front : List Told) (x : Told) (server : ℕ) (step : ServerStep) → ToldAt (actor.Repairer call.repairer) call.number trace front x → act_after script.geometry (tries_of script) job front ≡ Act.AtServer server step → server ≡ job.target
          → (x ≡ Told.Away downs) ⊎ (x ≡ Told.Missing (found.Away downs)) → TargetWasAway script trace (name.Repairer call)
      at_target front x server step at acts target says = (
        of.0,
        of.1,
        record {
          before = at.before;
          made = at.made;
          after = at.after;
          split = at.split;
          is = (
            is_of at.made at.mine,
            (step, next (name.Repairer call) job is at.before at.made at.after at.split (is_of at.made at.mine) ∙ ap (act_after script.geometry (tries_of script) job) at.told ∙ acts ∙ ap (λ s. Act.AtServer s step) (target ∙ ap (λ (j : Job). j.target) (sym of.2))),
            (downs, either says),
          );
        },
      )
        where
          either : (x ≡ Told.Away downs) ⊎ (x ≡ Told.Missing (found.Away downs)) → (at.made.answer ≡ Told.Away downs) ⊎ (at.made.answer ≡ Told.Missing (found.Away downs))
          either (inl e) = inl (at.answer ∙ e)
          either (inr e) = inr (at.answer ∙ e)

      by : IsToldAway downs (answers_to (name.Repairer call) trace) → TargetWasAway script trace (name.Repairer call)
      by (inl first) =
          let two : (seen : Seen) × (back : List Told) × (answers_to (name.Repairer call) trace ≡ Told.PinnedStripe seen ∷ Told.Missing (found.Away downs) ∷ back) = first_two downs (answers_to (name.Repairer call) trace) first in
          at_target (Told.PinnedStripe two.0 ∷ []) (Told.Missing (found.Away downs)) job.target (ServerStep.Has two.0.version) (find (actor.Repairer call.repairer) call.number trace (Told.PinnedStripe two.0 ∷ []) two.1 (Told.Missing (found.Away downs)) refl two.2)
          (asks_target job.note.kind (ap (λ (j : Job). j.note.kind) (sym of.2)) script.geometry (tries_of script) job two.0) refl (inr refl)
      by (inr later) =
          let two : (front : List Told) × (back : List Told) × (answers_to (name.Repairer call) trace ≡ front ++ Told.Away downs ∷ back) = split_at (answers_to (name.Repairer call) trace) (Told.Away downs) later in
          let so : AreTold script.geometry (size_of script) (tries_of script) job two.0 × IsToldNext script.geometry (size_of script) (tries_of script) job (fold (tell script.geometry job) [] two.0) (Told.Away downs) =
          next_at script.geometry (size_of script) (tries_of script) job [] two.0 (Told.Away downs) two.1 (subst (AreTold script.geometry (size_of script) (tries_of script) job) two.2 are_told) in
          let install : (server : ℕ) × (version : ℕ) × (act_after script.geometry (tries_of script) job two.0 ≡ Act.AtServer server (ServerStep.Install version)) = away_installs _ _ downs (act_after script.geometry (tries_of script) job two.0) so.1.0 in
          at_target two.0 (Told.Away downs) install.0 (ServerStep.Install install.1) (find (actor.Repairer call.repairer) call.number trace two.0 two.1 (Told.Away downs) refl two.2) install.2
          ((calls_keep_order script.geometry (size_of script) (tries_of script) job).installs two.0 install.0 install.1 so.0 install.2).1 (inl refl)

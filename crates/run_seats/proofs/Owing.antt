-- What a client's calls are owed before its step, after the coding before it, and after it.
use Rattle.std.proofs.Common.{◌≡◌, ◌⊎◌, ℕ, zero, suc, ◌+◌, Bool, true, false, ◌&&◌, List, [], ◌∷◌, ◌++◌, length, slice_get, Option, None, Some, IfSome, if◌then◌else◌, option_map, refl, sym, ap, subst, ◌∙◌, inl, inr, arith}
use Rattle.std.proofs.lemmas.List.{length_push, map-append}
use Rattle.std.proofs.lemmas.Option.{none-some, same_Some, slice_get-map}
use Rattle.store_map.specs.Limits.{size_of}
use Rattle.store_map.specs.declared.actor.Actor.TheVariants as actor
use Rattle.store_map.specs.declared.script.Script.{Script}
use Rattle.store_core.specs.Act.{Act, DirectoryStep, Outcome}
use Rattle.store_core.specs.Directory.{Directory, new_directory}
use Rattle.store_core.specs.History.{call_of}
use Rattle.store_core.specs.NextAct.{Job, job_of, rebuild_job}
use Rattle.store_core.specs.Tokens.{actor_of}
use Rattle.store_core.specs.Work.{Ended}
use Rattle.thread_laws.specs.AtPlaces.{after_all, directory_act, directory_next, DirectoryAnswers}
use Rattle.thread_laws.specs.MadeSteps.{MadeStep}
use Rattle.run_laws.specs.State.{CallState, State}
use Rattle.version_seal.specs.Entry.{BookOf}
use Rattle.stripe_stamps.specs.Stamped.{HaveContents}
use Rattle.call_steps.specs.declared.need.Need.TheVariants as need
use Rattle.call_steps.specs.CallOf.{CallOf, act_of}
use Rattle.call_steps.specs.Steps.{coded, need_of}
use Rattle.call_steps.proofs.Needs.{needs_tell_acts}
use Rattle.call_machine.specs.Kinds.{Asked, Machine, asked_job, machine_of, IfReads}
use Rattle.call_machine.specs.Calls.{MachineOf, drawn_by}
use Rattle.call_machine.specs.Owes.{OwesBy}
use Rattle.call_machine.specs.Pinned.{pinned_at, point_served}
use Rattle.call_machine.proofs.Owing.{at_coder_owes, at_end_owes, owing_stays}
use Rattle.thread_laws.specs.Owed.{WasOwed}
use Rattle.thread_laws.proofs.Owing.{owed_stay}
use Rattle.world_laws.specs.World.{DoingOf, steps_of}
use Rattle.world_laws.specs.ActorAfter.{IsCallBefore, actor_after, actor_after_by}
use Rattle.actors.specs.Callers.{PartOf, CallerOf, IsOfScript, asked_at, work_of}
use Rattle.actors.specs.Owing.{AreServed, left_by, owed_now}
use Rattle.actors.specs.Steps.{IsCallOf, IsCodedCall}
use Rattle.thread_laws.specs.CallEntries.{directory_tells, made_by}
use Rattle.thread_laws.specs.Noted.{Noted, made_in}
use Rattle.thread_laws.specs.StepOwes.{IsAfter}
use Rattle.thread_laws.proofs.Stepping.{steps_keep_owing}
use Rattle.run_seats.specs.Owing.{OwesInWork, OwesBySteps}
use Rattle.run_seats.specs.Stepped.{WasThere}

-- ---- the job of a call
asked_by : {X : Type 0} (job : X → Job) (asks : X → Asked) → ((x : X) → asked_job (asks x) ≡ job x) → (found : Option X) (asked : Asked) (its : Job) → option_map asks found ≡ Some asked
    → option_map job found ≡ Some its → its ≡ asked_job asked
asked_by job asks same None asked its e f = absurd (none-some asked e)
asked_by job asks same (Some x) asked its e f = sym (same_Some (job x) its f) ∙ sym (same x) ∙ ap asked_job (same_Some (asks x) asked e)

job_asked : (part : PartOf) (number : ℕ) (asked : Asked) (its : Job) → asked_at part number ≡ Some asked → slice_get (work_of part).jobs number ≡ Some its → its ≡ asked_job asked
job_asked (PartOf.OfClient part) number asked its e next = asked_by job_of Asked.OfClient (λ x. refl) (slice_get part.calls number) asked its e (sym (slice_get-map job_of part.calls number) ∙ next)
job_asked (PartOf.OfRepairer part) number asked its e next = asked_by rebuild_job Asked.OfRepairer (λ x. refl) (slice_get part.calls number) asked its e (sym (slice_get-map rebuild_job part.calls number) ∙ next)

module _ (IsOwed : ℕ → List ℕ → Type 0) where
  -- ---- a call with the same value, job and bytes
  same_owes : (c after : MachineOf) → after.call ≡ c.call → after.asked ≡ c.asked → after.owed ≡ c.owed → OwesBy IsOwed c → OwesBy IsOwed after
  same_owes c after call asked owed was =
      record {
        job = ap (λ (x : CallOf). x.job) call ∙ was.job ∙ ap asked_job (sym asked);
        owes =
            subst (λ (at : State). IfSome (pinned_at at) (λ place. (machine_of after.asked ≡ Machine.Reads) × IsOwed place after.owed)) (sym (ap (λ (x : CallOf). x.state.at) call))
            (subst (λ (x : Asked). IfSome (pinned_at c.call.state.at) (λ place. (machine_of x ≡ Machine.Reads) × IsOwed place after.owed)) (sym asked)
            (subst (λ (bytes : List ℕ). IfSome (pinned_at c.call.state.at) (λ place. (machine_of c.asked ≡ Machine.Reads) × IsOwed place bytes)) (sym owed) was.owes));
      }

  -- ---- the call that a caller is in, or that begins
  pub called_owes : (script : Script) (a : CallerOf) (c : MachineOf) → IsOfScript script a → IsCallOf a c → OwesInWork IsOwed a.part (length a.actor.ended) a.actor.doing a.work → OwesBy IsOwed c
  called_owes script a c of its was = by a.actor.doing (its.before script of) was
    where
      by : (doing : DoingOf) → IsCallBefore script (work_of a.part).jobs a.actor.ended doing c.call → OwesInWork IsOwed a.part (length a.actor.ended) doing a.work → OwesBy IsOwed c
      by (DoingOf.Between token) begins none =
          record {
            job = begins.first.job ∙ job_asked a.part (length a.actor.ended) c.asked begins.job its.asked begins.is_next;
            owes = subst (λ (at : State). IfSome (pinned_at at) (λ place. (machine_of c.asked ≡ Machine.Reads) × IsOwed place c.owed)) (sym (ap (λ (s : CallState). s.at) begins.first.state)) tt;
          }
      by (DoingOf.InCall call steps) same h =
          same_owes h.machine c (same ∙ sym h.same) (same_Some c.asked h.machine.asked (sym its.asked ∙ h.asked)) (its.owed ∙ ap owed_now h.is) h.owes

  -- ---- after a coding
  pub coded_owes : (c now : MachineOf) → IsCodedCall c now → OwesBy IsOwed c → OwesBy IsOwed now
  coded_owes c now coding was = by c.call.due refl coding.is_ready coding.owed
    where
      by : (due : Bool) → c.call.due ≡ due → now.call ≡ (if due then coded now.call.coding c.call else c.call) → ((due && now.call.coding) ≡ false → now.owed ≡ c.owed) → OwesBy IsOwed now
      by true e is owed = at_coder_owes IsOwed now.call.coding c now was e coding.in_pass is coding.asked owed
      by false e is owed = same_owes c now is coding.asked (owed refl) was

-- ---- what stands at a place of two lists after one more entry stood there before, or it is that entry
module _ {A : Type 0} {B : Type 0} {C : Type 0} (f : A → B) (x : A) (y : C) (b : B) (c : C) where
  both_pushed : (xs : List A) (ys : List C) (n : ℕ) → length ys ≡ length xs → option_map f (slice_get (xs ++ x ∷ []) n) ≡ Some b → slice_get (ys ++ y ∷ []) n ≡ Some c
      → ((option_map f (slice_get xs n) ≡ Some b) × (slice_get ys n ≡ Some c)) ⊎ ((n ≡ length xs) × (f x ≡ b) × (y ≡ c))
  both_pushed [] [] zero same e u = inr (refl, same_Some (f x) b e, same_Some y c u)
  both_pushed [] [] (suc n) same e u = absurd (none-some b e)
  both_pushed [] (z ∷ ys) n same e u = absurd (omega (arith, same))
  both_pushed (z ∷ xs) [] n same e u = absurd (omega (arith, same))
  both_pushed (z ∷ xs) (w ∷ ys) zero same e u = inl (e, u)
  both_pushed (z ∷ xs) (w ∷ ys) (suc n) same e u = by (both_pushed xs ys n (omega (arith, same)) e u)
    where
      by : ((option_map f (slice_get xs n) ≡ Some b) × (slice_get ys n ≡ Some c)) ⊎ ((n ≡ length xs) × (f x ≡ b) × (y ≡ c))
          → ((option_map f (slice_get xs n) ≡ Some b) × (slice_get ys n ≡ Some c)) ⊎ ((suc n ≡ suc (length xs)) × (f x ≡ b) × (y ≡ c))
      by (inl h) = inl h
      by (inr h) = inr (ap suc h.0, h.1, h.2)

-- what an ended call was served
record HasServed (script : Script) (steps : List MadeStep) (i number : ℕ) (outcome : Outcome) (served after : List (Option (List ℕ))) : Type 0 where
  entry : Option (List ℕ)
  more : after ≡ served ++ entry ∷ []
  owed : (place : ℕ) (bytes : List ℕ) → outcome ≡ Outcome.Served place → entry ≡ Some bytes → WasOwed script steps i number place bytes

-- ---- after the step that led the call to this value
module _ (script : Script) (steps now : List MadeStep) (grows : (i number place : ℕ) (bytes : List ℕ) → WasOwed script steps i number place bytes → WasOwed script now i number place bytes) (i : ℕ) (a : CallerOf)
    (was : OwesBySteps script steps i a) (left : MachineOf) (asked : asked_at a.part (length a.actor.ended) ≡ Some left.asked) (owes : OwesBy (WasOwed script now i (length a.actor.ended)) left) where
  has_served : (outcome : Outcome) (served : List (Option (List ℕ))) → act_of left.call ≡ Act.Finish outcome → AreServed (Act.Finish outcome) (machine_of left.asked) left.owed a.served served
      → HasServed script now i (length a.actor.ended) outcome a.served served
  has_served (Outcome.Served point) served over s =
      let of : (machine_of left.asked ≡ Machine.Reads) × WasOwed script now i (length a.actor.ended) point left.owed = at_end_owes (WasOwed script now i (length a.actor.ended)) left point owes over in
      let read : s.bytes ≡ left.owed = subst (λ (m : Machine). IfReads m (s.bytes ≡ left.owed)) of.0 s.reads in
      record {
        entry = Some s.bytes;
        more = s.more;
        owed = λ place bytes is e.
            subst (λ (p : ℕ). WasOwed script now i (length a.actor.ended) p bytes) (same_Some point place (ap point_served is))
            (subst (λ (b : List ℕ). WasOwed script now i (length a.actor.ended) point b) (sym read ∙ same_Some s.bytes bytes e) of.1);
      }
  has_served outcome served over s = record { entry = None; more = s; owed = λ place bytes is e. absurd (none-some bytes e) }

  old : (number place : ℕ) (bytes : List ℕ) → option_map (λ (e : Ended). e.outcome) (slice_get a.actor.ended number) ≡ Some (Outcome.Served place) → slice_get a.served number ≡ Some (Some bytes)
      → WasOwed script now i number place bytes
  old number place bytes e u = grows i number place bytes (was.ended number place bytes e u)

  -- the call goes on
  goes_on : (work : Option MachineOf) (served : List (Option (List ℕ))) → work ≡ Some left → served ≡ a.served
      → OwesBySteps script now i (record a { actor = record (a.actor) { doing = DoingOf.InCall left.call (steps_of a.actor.doing + 1) }; work = work; served = served })
  goes_on work served is same =
      record {
        work = record { machine = left; is = is; same = refl; asked = asked; owes = owes };
        count = ap length same ∙ was.count;
        ended = λ number place bytes e u. old number place bytes e (ap (λ (xs : List (Option (List ℕ))). slice_get xs number) (sym same) ∙ u);
      }

  -- it has ended
  ends : (outcome : Outcome) (work : Option MachineOf) (served : List (Option (List ℕ))) → act_of left.call ≡ Act.Finish outcome → AreServed (Act.Finish outcome) (machine_of left.asked) left.owed a.served served
      → OwesBySteps script now i (record a { actor = actor_after_by (Act.Finish outcome) left.call a.actor; work = work; served = served })
  ends outcome work served over s =
      record {
        work = tt;
        count =
            let long : length (a.served ++ h.entry ∷ []) ≡ length a.served + 1 = length_push a.served h.entry in
            let many : length (a.actor.ended ++ entry ∷ []) ≡ length a.actor.ended + 1 = length_push a.actor.ended entry in
            let same : length a.served ≡ length a.actor.ended = was.count in
            let both : length (a.served ++ h.entry ∷ []) ≡ length (a.actor.ended ++ entry ∷ []) = omega (arith, long, many, same) in
            ap length h.more ∙ both;
        ended = λ number place bytes e u.
            by number place bytes
            (both_pushed (λ (y : Ended). y.outcome) entry h.entry (Outcome.Served place) (Some bytes) a.actor.ended a.served number was.count e
            (ap (λ (xs : List (Option (List ℕ))). slice_get xs number) (sym h.more) ∙ u));
      }
    where
      entry : Ended
      entry = record { outcome = outcome; takes = left.call.takes }

      h : HasServed script now i (length a.actor.ended) outcome a.served served
      h = has_served outcome served over s

      by : (number place : ℕ) (bytes : List ℕ)
          → ((option_map (λ (y : Ended). y.outcome) (slice_get a.actor.ended number) ≡ Some (Outcome.Served place)) × (slice_get a.served number ≡ Some (Some bytes)))
          ⊎ ((number ≡ length a.actor.ended) × (outcome ≡ Outcome.Served place) × (h.entry ≡ Some bytes))
          → WasOwed script now i number place bytes
      by number place bytes (inl k) = old number place bytes k.0 k.1
      by number place bytes (inr k) = subst (λ (n : ℕ). WasOwed script now i n place bytes) (sym k.0) (h.owed place bytes k.1 k.2)

  by_act : (act : Act) (work : Option MachineOf) (served : List (Option (List ℕ))) → act_of left.call ≡ act → work ≡ left_by act left → AreServed act (machine_of left.asked) left.owed a.served served
      → OwesBySteps script now i (record a { actor = actor_after_by act left.call a.actor; work = work; served = served })
  by_act (Act.Finish outcome) work served e is s = ends outcome work served e s
  by_act (Act.AtDirectory step) work served e is s = goes_on work served is s
  by_act (Act.AtServer server step) work served e is s = goes_on work served is s

  pub left_owes : (work : Option MachineOf) (served : List (Option (List ℕ))) → work ≡ left_by (act_of left.call) left → AreServed (act_of left.call) (machine_of left.asked) left.owed a.served served
      → OwesBySteps script now i (record a { actor = actor_after left.call a.actor; work = work; served = served })
  left_owes work served is s = by_act (act_of left.call) work served refl is s

-- ---- a step at the directory
-- its answer is the directory's
answers_there : (c : CallOf) (short : Bool) (moment : ℕ) (d : Directory) (step : DirectoryStep) → act_of c ≡ Act.AtDirectory step
    → DirectoryAnswers (made_by c short (directory_tells short (actor_of c.token) c.number (act_of c) d) moment) d
answers_there c short moment d step e =
    subst (λ (act : Act). (directory_act (made_by c short (directory_tells short (actor_of c.token) c.number (act_of c) d) moment) act d).1 ≡ directory_tells short (actor_of c.token) c.number act d) (sym e) refl

module _ (script : Script) (number max i : ℕ) (seen now : List (ℕ × Noted)) (call left : MachineOf) (there : WasThere number max seen now call left) (written : call.call.book.script ≡ Some script)
    (code : call.call.book.geometry ≡ script.geometry) (most : max ≡ size_of script) where
  -- what was owed by what the turn had seen was owed by all that came before
  grows : (j count place : ℕ) (bytes : List ℕ) → WasOwed script (made_in seen) j count place bytes → WasOwed script (made_in there.log) j count place bytes
  grows j count place bytes h =
      subst (λ (steps : List MadeStep). WasOwed script steps j count place bytes)
      (sym (map-append (λ (entry : ℕ × Noted). entry.1.made) seen there.goes.0) ∙ ap made_in there.goes.1)
      (owed_stay script (made_in seen) (made_in there.goes.0) j count place bytes h)

  geometry : there.directory.book.geometry ≡ script.geometry
  geometry = ap (λ (b : BookOf). b.geometry) (sym there.its) ∙ code

  is_after : IsAfter script (made_in there.log) there.directory
  is_after =
      record {
        core = there.stands.ends ∙ (λ k. after_all directory_next (made_in there.log) (new_directory (geometry k) (most k)));
        shape = sym there.stamps.code ∙ geometry;
        contents =
            subst (λ (o : Option Script). IfSome o (λ s. HaveContents (call_of s) there.directory)) (ap (λ (b : BookOf). b.script) (sym there.its) ∙ written) there.stamps.contents;
      }

  -- the step
  abbrev m : MadeStep
  m =
      made_by call.call left.call.step (directory_tells left.call.step (actor_of call.call.token) call.call.number (act_of call.call) there.directory.core)
      there.moment

  abbrev added : ℕ × Noted
  added = (number, record { made = m; drawn = drawn_by left.call.step there.directory call })

  steps_now : made_in now ≡ made_in there.log ++ m ∷ []
  steps_now = ap made_in there.after ∙ map-append (λ (entry : ℕ × Noted). entry.1.made) there.log (added ∷ [])

  -- what more it is owed by the step
  pub owes_there : (count : ℕ) → actor_of call.call.token ≡ actor.Client i → call.call.number ≡ count → need_of call.call ≡ need.Directory → left.asked ≡ call.asked
      → OwesBy (WasOwed script (made_in seen) i count) call → OwesBy (WasOwed script (made_in now) i count) left
  owes_there count whose of_call needs asked was =
      let act : (step : DirectoryStep) × (act_of call.call ≡ Act.AtDirectory step) × (call.call.due ≡ false) = needs_tell_acts.directory call.call needs in
      subst (λ (steps : List MadeStep). OwesBy (WasOwed script steps i count) left) (sym steps_now)
      (steps_keep_owing script (made_in there.log) m i count left.call.step left.call.due call left there.directory is_after code
      (record {
        by = whose;
        whose = whose;
        of_call = of_call;
        count = of_call;
        act = refl;
        shortage = refl;
        answers = answers_there call.call left.call.step there.moment there.directory.core act.0 act.1;
      })
      needs there.stepped asked there.owed
      (owing_stays (WasOwed script (made_in seen) i count) (WasOwed script (made_in there.log) i count) (λ place bytes h. grows i count place bytes h) call was))

  pub grows_now : (j count place : ℕ) (bytes : List ℕ) → WasOwed script (made_in seen) j count place bytes → WasOwed script (made_in now) j count place bytes
  grows_now j count place bytes h =
      subst (λ (steps : List MadeStep). WasOwed script steps j count place bytes) (sym steps_now) (owed_stay script (made_in there.log) (m ∷ []) j count place bytes (grows j count place bytes h))

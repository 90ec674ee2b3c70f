-- What a run told a call, in the order of its steps, is what is kept of it, and what ends it.
use Rattle.std.proofs.Common.{◌≡◌, ◌⊎◌, inl, inr, ℕ, zero, suc, ◌+◌, ◌<◌, Bool, true, false, ◌&&◌, nat_eq, List, [], ◌∷◌, ◌++◌, length, fold, Some, refl, sym, ap, subst, ◌∙◌, arith, length-append}
use Rattle.std.proofs.lemmas.Bool.{eq-eqb, ne_eqb}
use Rattle.std.proofs.lemmas.List.{append_assoc, append-nil}
use Rattle.std.proofs.lemmas.List.Sums.{fold-append}
use Rattle.std.proofs.lemmas.Option.{none-some, same_Some}
use Rattle.std.specs.List.{slice_get}
use Rattle.clay_grid.specs.Shape.{Shape, chunk_count}
use Rattle.store_map.specs.Limits.{size_of, tries_of}
use Rattle.store_map.specs.declared.actor.Actor.{Actor}
use Rattle.store_map.specs.declared.script.Script.{Script}
use Rattle.store_core.specs.Act.{Act}
use Rattle.store_core.specs.ActPlace.{is_in_pass}
use Rattle.store_core.specs.Lookups.{same_actor}
use Rattle.store_core.specs.NextAct.{Job, next_act}
use Rattle.store_core.specs.Step.{Shortage, Places, told_first, take_from, ended_by, actor_step}
use Rattle.store_core.specs.Tell.{tell}
use Rattle.store_core.specs.Told.{Told}
use Rattle.store_core.specs.Work.{Ended, Calling}
use Rattle.run_laws.specs.ToldInSteps.{IsToldNext, AreToldSince, AreTold, act_after}
use Rattle.run_laws.proofs.InSteps.{told_next}
use Rattle.run_laws.proofs.ActKinds.{act_kind, in_pass_steps}
use Rattle.run_laws.proofs.Proper.{HasTry}
use Rattle.history_laws.proofs.AnsweredPoints.{pushed}
use Rattle.history_laws.proofs.AtWork.{AtWork, first, act, after, stands, proper, answered}
use Rattle.history_laws.specs.LineCauses.{told_by, told_if, told_to}
use Rattle.history_laws.specs.Trace.{Made, call_made}

-- ---- one step more
told_if_more : (b : Bool) (made : Made) (told more : List Told) → told_if b made (told ++ more) ≡ told_if b made told ++ more
told_if_more true made told more = sym (append_assoc (told_by made.short made.answer) told more)
told_if_more false made told more = refl

pub told_append : (who : Actor) (number : ℕ) (trace more : List Made) → told_to who number (trace ++ more) ≡ told_to who number trace ++ told_to who number more
told_append who number [] more = refl
told_append who number (made ∷ trace) more =
    ap (told_if (same_actor who made.who && nat_eq number made.number) made) (told_append who number trace more) ∙ told_if_more (same_actor who made.who && nat_eq number made.number) made (told_to who number trace) (told_to who number more)

-- another's step, or one of another call
pub told_same : (who : Actor) (number : ℕ) (trace : List Made) (made : Made) → (same_actor who made.who && nat_eq number made.number) ≡ false → told_to who number (trace ++ made ∷ []) ≡ told_to who number trace
told_same who number trace made apart =
    told_append who number trace (made ∷ []) ∙ ap (λ b. told_to who number trace ++ told_if b made []) apart ∙ append-nil (told_to who number trace)

-- its own
pub told_more : (who : Actor) (number : ℕ) (trace : List Made) (made : Made) → (same_actor who made.who && nat_eq number made.number) ≡ true → told_to who number (trace ++ made ∷ []) ≡ told_to who number trace ++ told_by made.short made.answer
told_more who number trace made same =
    told_append who number trace (made ∷ []) ∙ ap (λ b. told_to who number trace ++ told_if b made []) same ∙ ap (λ l. told_to who number trace ++ l) (append-nil (told_by made.short made.answer))

-- ---- one answer more
module _ (g : Shape) (most tries : ℕ) (job : Job) where
  since_more : (told answers : List Told) (answer : Told) → AreToldSince g most tries job told answers → IsToldNext g most tries job (fold (tell g job) told answers) answer
      → AreToldSince g most tries job told (answers ++ answer ∷ [])
  since_more told [] answer so next = (next, tt)
  since_more told (first ∷ answers) answer so next = (so.0, since_more (tell g job told first) answers answer so.1 next)

  -- what was told, and what is kept of it
  pub record ToldSo (answers told : List Told) : Type 0 where
    pub are_told : AreTold g most tries job answers
    pub kept : fold (tell g job) [] answers ≡ told

  so_more : (answers told : List Told) (answer : Told) → ToldSo answers told → IsToldNext g most tries job told answer → ToldSo (answers ++ answer ∷ []) (tell g job told answer)
  so_more answers told answer so next =
      record {
        are_told = since_more [] answers answer so.are_told (subst (λ t. IsToldNext g most tries job t answer) (sym so.kept) next);
        kept = fold-append (tell g job) [] answers (answer ∷ []) ∙ ap (λ t. tell g job t answer) so.kept;
      }

-- ---- what is kept of an actor
pub record CauseThen (g : Shape) (most tries : ℕ) (trace : List Made) (who : Actor) (jobs : List Job) (c : Calling) : Type 0 where
  pub in_work : (job : Job) → slice_get jobs (length c.ended) ≡ Some job → ToldSo g most tries job (told_to who (length c.ended) trace) c.told
  pub later : (k : ℕ) → length c.ended < k → told_to who k trace ≡ []
  pub ended : (k : ℕ) (job : Job) (e : Ended) → slice_get jobs k ≡ Some job → slice_get c.ended k ≡ Some e
      → AreTold g most tries job (told_to who k trace) × (act_after g tries job (told_to who k trace) ≡ Act.Finish e.outcome)

-- another's step
pub stays : (g : Shape) (most tries : ℕ) (trace : List Made) (made : Made) (who : Actor) (jobs : List Job) (c : Calling) → same_actor who made.who ≡ false → CauseThen g most tries trace who jobs c → CauseThen g most tries (trace ++ made ∷ []) who jobs c
stays g most tries trace made who jobs c apart h =
    record {
      in_work = λ job is. subst (λ l. ToldSo g most tries job l c.told) (sym (same (length c.ended))) (h.in_work job is);
      later = λ k high. same k ∙ h.later k high;
      ended = λ k job e is_job is. subst (λ l. AreTold g most tries job l × (act_after g tries job l ≡ Act.Finish e.outcome)) (sym (same k)) (h.ended k job e is_job is);
    }
  where
    same : (k : ℕ) → told_to who k (trace ++ made ∷ []) ≡ told_to who k trace
    same k = told_same who k trace made (ap (λ b. b && nat_eq k made.number) apart)

module _ (script : Script) (who : Actor) (jobs : List Job) (job : Job) (calling : Calling) (is_job : slice_get jobs (length calling.ended) ≡ Some job) (places : Places) (at : AtWork script who job calling places) (shortages : Shortage)
    (trace : List Made) (kept : CauseThen script.geometry (size_of script) (tries_of script) trace who jobs calling) where
  abbrev g : Shape
  g = script.geometry

  abbrev number : ℕ
  number = length calling.ended

  abbrev told : List Told
  told = first script who job calling places at shortages.coding shortages.step

  abbrev done : Places × Told
  done = after script who job calling places at shortages.coding shortages.step

  abbrev now : List Told
  now = tell g job told done.1

  abbrev So : List Told → List Told → Type 0
  So answers told_now = ToldSo g (size_of script) (tries_of script) job answers told_now

  abbrev has_one : Bool
  has_one = is_in_pass (next_act g (tries_of script) job calling.told)

  -- with the want of memory before the act
  first_so : (coding has : Bool) → is_in_pass (next_act g (tries_of script) job calling.told) ≡ has → (answers : List Told) → So answers calling.told → (answer : Told)
      → ((answers_first : List Told) → So answers_first (told_first coding has g job calling.told) → So (answers_first ++ answer ∷ []) (tell g job (told_first coding has g job calling.told) answer))
      → So (answers ++ told_by (coding && has) answer) (tell g job (told_first coding has g job calling.told) answer)
  first_so true true e answers so answer next =
      subst (λ l. So l (tell g job (told_first true true g job calling.told) answer)) (append_assoc answers (Told.Short ∷ []) (answer ∷ []))
      (next (answers ++ Told.Short ∷ []) (so_more g (size_of script) (tries_of script) job answers calling.told Told.Short so (in_pass_steps (next_act g (tries_of script) job calling.told) e)))
  first_so true false e answers so answer next = next answers so
  first_so false true e answers so answer next = next answers so
  first_so false false e answers so answer next = next answers so

  told_now : So (told_to who number trace ++ told_by (shortages.coding && has_one) done.1) now
  told_now =
      first_so shortages.coding (is_in_pass (next_act g (tries_of script) job calling.told)) refl (told_to who number trace) (kept.in_work job is_job) done.1
      (λ answers so. so_more g (size_of script) (tries_of script) job answers told done.1 so
      (told_next g (size_of script) (tries_of script) job told done.1 (answered script who job calling places at shortages.coding shortages.step).answers
      (act_kind g job (HasTry job.note.kind (tries_of script) told) shortages.step who (length calling.ended) places (act script who job calling places at shortages.coding shortages.step)
      (proper script who job calling places at shortages.coding shortages.step) (stands script who job calling places at shortages.coding shortages.step).pass)))

  abbrev more : List Made
  more = trace ++ call_made script shortages who calling places job ∷ []

  mine : told_to who number (trace ++ call_made script shortages who calling places job ∷ []) ≡ told_to who number trace ++ told_by (shortages.coding && has_one) done.1
  mine = told_more who number trace (call_made script shortages who calling places job) (ap (λ b. b && nat_eq number number) at.self ∙ eq-eqb number number refl)

  other_call : (k : ℕ) → (k ≡ number → ⊥) → told_to who k (trace ++ call_made script shortages who calling places job ∷ []) ≡ told_to who k trace
  other_call k differ = told_same who k trace (call_made script shortages who calling places job) (ap (λ b. b && nat_eq k number) at.self ∙ ne_eqb k number differ)

  so_now : So (told_to who number more) now
  so_now = subst (λ l. So l now) (sym mine) told_now

  old_ended : (k : ℕ) (j : Job) (e : Ended) → slice_get jobs k ≡ Some j → slice_get calling.ended k ≡ Some e
      → AreTold g (size_of script) (tries_of script) j (told_to who k more) × (act_after g (tries_of script) j (told_to who k more) ≡ Act.Finish e.outcome)
  old_ended k j e is_job is =
      subst (λ l. AreTold g (size_of script) (tries_of script) j l × (act_after g (tries_of script) j l ≡ Act.Finish e.outcome)) (sym (other_call k (earlier calling.ended k e is))) (kept.ended k j e is_job is)
    where
      earlier : (list : List Ended) (n : ℕ) (x : Ended) → slice_get list n ≡ Some x → n ≡ length list → ⊥
      earlier [] n x at_n same = none-some x at_n
      earlier (y ∷ list) zero x at_n same = absurd (omega (arith, same))
      earlier (y ∷ list) (suc n) x at_n same = earlier list n x at_n (omega (arith, same))

  same_job : (j : Job) → slice_get jobs (length calling.ended) ≡ Some j → job ≡ j
  same_job j is = same_Some job j (sym is_job ∙ is)

  abbrev Then : Calling → Type 0
  Then c = CauseThen g (size_of script) (tries_of script) more who jobs c

  abbrev middle : Calling
  middle = record { ended = calling.ended; told = now; takes = take_from (act script who job calling places at shortages.coding shortages.step) done.1 calling.takes; steps = calling.steps + 1 }

  goes_on : Then middle
  goes_on =
      record {
        in_work = λ j is. subst (λ (x : Job). ToldSo g (size_of script) (tries_of script) x (told_to who number more) now) (same_job j is) so_now;
        later = λ k high. other_call k (λ same. absurd (omega (arith, high, same))) ∙ kept.later k high;
        ended = old_ended;
      }

  by_act : (a : Act) → next_act g (tries_of script) job now ≡ a → Then (ended_by a (chunk_count g) middle)
  by_act (Act.Finish outcome) e =
      record {
        in_work = λ j is. subst (λ l. ToldSo g (size_of script) (tries_of script) j l []) (sym (next_none (length (ended_by (Act.Finish outcome) (chunk_count g) middle).ended) longer)) (record { are_told = tt; kept = refl });
        later = λ k high. next_none k (omega (arith, high, longer));
        ended = λ k j x is_j is. two k j x is_j (pushed calling.ended (record { outcome = outcome; takes = middle.takes }) k x is);
      }
    where
      longer : number < length (ended_by (Act.Finish outcome) (chunk_count g) middle).ended
      longer = let size : length (calling.ended ++ record { outcome = outcome; takes = middle.takes } ∷ []) ≡ length calling.ended + 1 = length-append calling.ended (record { outcome = outcome; takes = middle.takes } ∷ []) in omega (arith, size)

      next_none : (k : ℕ) → number < k → told_to who k more ≡ []
      next_none k high = other_call k (λ same. absurd (omega (arith, high, same))) ∙ kept.later k high

      two : (k : ℕ) (j : Job) (x : Ended) → slice_get jobs k ≡ Some j
          → (slice_get calling.ended k ≡ Some x) ⊎ ((k ≡ length calling.ended) × (record { outcome = outcome; takes = take_from (act script who job calling places at shortages.coding shortages.step) (after script who job calling places at shortages.coding shortages.step).1 calling.takes } ≡ x))
          → AreTold g (size_of script) (tries_of script) j (told_to who k more) × (act_after g (tries_of script) j (told_to who k more) ≡ Act.Finish x.outcome)
      two k j x is_j (inl is) = old_ended k j x is_j is
      two k j x is_j (inr h) =
          subst (λ n. AreTold g (size_of script) (tries_of script) j (told_to who n more) × (act_after g (tries_of script) j (told_to who n more) ≡ Act.Finish x.outcome)) (sym h.0)
          (subst (λ (y : Job). AreTold g (size_of script) (tries_of script) y (told_to who number more) × (act_after g (tries_of script) y (told_to who number more) ≡ Act.Finish x.outcome)) (same_job j (subst (λ n. slice_get jobs n ≡ Some j) h.0 is_j))
          (so_now.are_told, ap (next_act g (tries_of script) job) so_now.kept ∙ e ∙ ap (λ (y : Ended). Act.Finish y.outcome) h.1))
  by_act (Act.AtDirectory step) e = goes_on
  by_act (Act.AtServer server step) e = goes_on

  pub own_step : CauseThen g (size_of script) (tries_of script) (trace ++ call_made script shortages who calling places job ∷ []) who jobs (actor_step g (tries_of script) shortages who job calling places).1
  own_step = by_act (next_act g (tries_of script) job now) refl

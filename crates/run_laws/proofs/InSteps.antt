-- A call that is told right answers step by step, and no want of memory, does what a stage does after the answers since it began.
use Rattle.std.proofs.Common.{◌≡◌, ℕ, List, [], ◌∷◌, ◌++◌, filter, fold, ◌⊎◌, inl, inr, refl, sym, ap, subst, ◌∙◌}
use Rattle.std.proofs.lemmas.List.{append_assoc, append-nil}
use Rattle.clay_grid.specs.Shape.{Shape, chunk_count}
use Rattle.store_core.specs.Lists.{places_of}
use Rattle.store_core.specs.Told.{Told}
use Rattle.store_core.specs.Note.{Kind}
use Rattle.store_core.specs.Act.{Act, Outcome}
use Rattle.run_laws.specs.Answers.{Answers}
use Rattle.run_laws.specs.AnswersByKind.{FitsKind}
use Rattle.store_core.specs.Bounds.{touched_count}
use Rattle.run_laws.specs.CallLeft.{pin_bound}
use Rattle.run_laws.specs.CauseLaws.{changes_of}
use Rattle.run_laws.specs.GatherLaws.{Tells}
use Rattle.store_core.specs.NextAct.{Job, next_by, next_act}
use Rattle.store_core.specs.Put.{settling, next_put}
use Rattle.store_core.specs.Write.{trying}
use Rattle.store_core.specs.Tell.{is_versions, is_changed, cut_by, tell}
use Rattle.run_laws.specs.ToldInSteps.{HasStep, IsToldNext, AreToldSince, AreTold, act_after}
use Rattle.run_laws.proofs.Commits.{Commits, put_commits, trying_commits}
use Rattle.run_laws.proofs.Cuts.{cuts_change_no_act}
use Rattle.run_laws.proofs.Falls.{AtCommit, done_at_commit, single_no_commit}
use Rattle.run_laws.proofs.GatheringFalls.{IsPlain, is_plain, read_no_commit}
use Rattle.run_laws.proofs.GoesOn.{cut_then}
use Rattle.run_laws.proofs.RebuildFalls.{rebuild_no_commit}
use Rattle.run_laws.proofs.StageOutcomes.{Fits, FitAll, Holds, ActIsFine, settling_fine, no_rebuild, trying_holds, call_holds, one_more_fits}

-- the first of some answers, if there is one, stands for no gathering
abbrev pub ArePlain : List Told → Type 0
ArePlain [] = Unit {0}
ArePlain (answer ∷ more) = IsPlain answer

module _ (pins touched : ℕ) (g : Shape) (tries : ℕ) (job : Job) where
  -- what is kept of the answers to a call stands for those since some stage began, and each of these fits
  record Runs (kind : Kind) (told : List Told) : Type 0 where
    next : List Told → Act
    since : List Told
    fit : FitAll kind pins touched ⊥ next since
    holds : Holds kind pins touched ⊥ next
    same : (more : List Told) → ArePlain more → next_by kind g tries job (told ++ more) ≡ next (since ++ more)

  runs_first : (kind : Kind) → Runs kind []
  runs_first kind =
      record {
        next = next_by kind g tries job;
        since = [];
        fit = tt;
        holds = call_holds pins touched ⊥ g kind tries job;
        same = λ more plain. refl;
      }

  runs_now : (kind : Kind) (told : List Told) (runs : Runs kind told) → next_by kind g tries job told ≡ runs.next runs.since
  runs_now kind told runs =
      ap (next_by kind g tries job) (sym (append-nil told)) ∙ runs.same [] tt ∙ ap runs.next (append-nil runs.since)

  -- ---- an answer that is kept beside those before it
  pub cut_plain : (told more : List Told) → ArePlain more → next_act g tries job (cut_by job.note.kind g job told ++ more) ≡ next_act g tries job (told ++ more)
  cut_plain told [] plain =
      ap (next_act g tries job) (append-nil (cut_by job.note.kind g job told)) ∙ cuts_change_no_act g tries job told ∙ ap (next_act g tries job) (sym (append-nil told))
  cut_plain told (answer ∷ more) plain = cut_then g tries answer more plain job.note.kind job told

  runs_on : (told : List Told) (answer : Told) → IsPlain answer → Fits job.note.kind pins touched (next_act g tries job told) answer → Runs job.note.kind told
      → Runs job.note.kind (cut_by job.note.kind g job (told ++ answer ∷ []))
  runs_on told answer plain fits runs =
      record {
        next = runs.next;
        since = runs.since ++ answer ∷ [];
        fit =
            one_more_fits job.note.kind pins touched runs.next runs.since answer runs.fit
            (subst (λ act. Fits job.note.kind pins touched act answer) (runs_now job.note.kind told runs) fits);
        holds = runs.holds;
        same = λ more plain_more.
            cut_plain (told ++ answer ∷ []) more plain_more
            ∙ ap (next_act g tries job) (append_assoc told (answer ∷ []) more)
            ∙ runs.same (answer ∷ more) plain
            ∙ ap runs.next (sym (append_assoc runs.since (answer ∷ []) more));
      }

  -- ---- a commit
  runs_settling : (kind : Kind) (told : List Told) (point : ℕ) → AtCommit (next_by kind g tries job told) → Runs kind (filter is_versions told ++ Told.Done point ∷ [])
  runs_settling Kind.Put told point h =
      let facts : Commits told (next_put g job.note told) = put_commits g job.note told h in
      record {
        next = settling point (places_of (chunk_count g) facts.drawn);
        since = [];
        fit = tt;
        holds = λ later all. settling_fine Kind.Put pins touched ⊥ tt (no_rebuild Kind.Put tt) g point (places_of (chunk_count g) facts.drawn) later;
        same = λ more plain. ap (λ l. next_put g job.note ((l ++ Told.Done point ∷ []) ++ more)) facts.versions;
      }
  runs_settling Kind.Write told point h =
      let facts : Commits told (trying g tries job.note [] told) = trying_commits g tries job.note [] told h in
      record {
        next = settling point (places_of (chunk_count g) facts.drawn);
        since = [];
        fit = tt;
        holds = λ later all. settling_fine Kind.Write pins touched ⊥ tt (no_rebuild Kind.Write tt) g point (places_of (chunk_count g) facts.drawn) later;
        same = λ more plain. ap (λ l. trying g tries job.note [] ((l ++ Told.Done point ∷ []) ++ more)) facts.versions;
      }
  runs_settling Kind.Get told point h = absurd (read_no_commit g job.note told h)
  runs_settling Kind.ReadAt told point h = absurd (read_no_commit g job.note told h)
  runs_settling Kind.Stat told point h = absurd (single_no_commit job.note told h)
  runs_settling Kind.Delete told point h = absurd (single_no_commit job.note told h)
  runs_settling Kind.Rebuild told point h = absurd (rebuild_no_commit g job.note job.target told h)

  -- ---- a change
  pub tried_then : (base newer : ℕ) (more : List Told) (pairs : List (ℕ × ℕ)) (told : List Told)
      → trying g tries job.note pairs ((filter is_changed told ++ Told.Changed base newer ∷ []) ++ more) ≡ trying g tries job.note (pairs ++ (changes_of told ++ (base, newer) ∷ [])) more
  tried_then base newer more pairs [] = refl
  tried_then base newer more pairs (Told.Changed old new ∷ told) =
      tried_then base newer more (pairs ++ (old, new) ∷ []) told
      ∙ ap (λ l. trying g tries job.note l more) (append_assoc pairs ((old, new) ∷ []) (changes_of told ++ (base, newer) ∷ []))
  tried_then base newer more pairs (_ ∷ told) = tried_then base newer more pairs told

  runs_again : (told : List Told) (base newer : ℕ) → Runs Kind.Write (filter is_changed told ++ Told.Changed base newer ∷ [])
  runs_again told base newer =
      record {
        next = trying g tries job.note (changes_of told ++ (base, newer) ∷ []);
        since = [];
        fit = tt;
        holds = trying_holds pins touched ⊥ g tries job.note (changes_of told ++ (base, newer) ∷ []);
        same = λ more plain. tried_then base newer more [] told;
      }

-- ---- an answer that may come
-- an act that has an answer is no outcome
pub answer_has_step : (pins touched : ℕ) (act : Act) (answer : Told) → Answers pins touched act answer → HasStep act
answer_has_step pins touched (Act.AtDirectory step) answer h = tt
answer_has_step pins touched (Act.AtServer server step) answer h = tt
answer_has_step pins touched (Act.Finish outcome) answer h = absurd h

-- an answer to the act, of the call's kind, may be told next
pub told_next : (g : Shape) (max tries : ℕ) (job : Job) (told : List Told) (answer : Told)
    → Answers (pin_bound g max job.note) (touched_count g job.note) (next_act g tries job told) answer → FitsKind job.note.kind answer → IsToldNext g max tries job told answer
told_next g max tries job told Told.Short h fits = answer_has_step (pin_bound g max job.note) (touched_count g job.note) (next_act g tries job told) Told.Short h
told_next g max tries job told answer h fits = (h, fits)

abbrev IsShort : Told → Type 0
IsShort answer = answer ≡ Told.Short

module _ (g : Shape) (max tries : ℕ) (job : Job) where
  abbrev Goes : List Told → Type 0
  Goes told = Runs (pin_bound g max job.note) (touched_count g job.note) g tries job job.note.kind told

  -- one answer, or want of memory
  goes_next : (told : List Told) (answer : Told) → Goes told → IsToldNext g max tries job told answer → IsShort answer ⊎ Goes (tell g job told answer)
  goes_next told Told.Short goes h = inl refl
  goes_next told (Told.Done point) goes h =
      let pins : ℕ = pin_bound g max job.note in
      let touched : ℕ = touched_count g job.note in
      inr (runs_settling pins touched g tries job job.note.kind told point (done_at_commit pins touched point (next_act g tries job told) h.0))
  goes_next told (Told.Changed base newer) goes h =
      let pins : ℕ = pin_bound g max job.note in
      let touched : ℕ = touched_count g job.note in
      inr
      (subst (λ kind. Runs pins touched g tries job kind (filter is_changed told ++ Told.Changed base newer ∷ [])) (sym h.1) (runs_again pins touched g tries job told base newer))
  goes_next told answer goes h =
      let pins : ℕ = pin_bound g max job.note in
      let touched : ℕ = touched_count g job.note in
      inr (runs_on pins touched g tries job told answer (is_plain pins touched (next_act g tries job told) answer h.0) h goes)

  short_before : {A : Type 0} (answer : Told) (more : List Told) → Tells IsShort more ⊎ A → Tells IsShort (answer ∷ more) ⊎ A
  short_before answer more (inl short) = inl (inr short)
  short_before answer more (inr a) = inr a

  short_first : {A B : Type 0} (answer : Told) (more : List Told) → IsShort answer ⊎ A → (A → Tells IsShort more ⊎ B) → Tells IsShort (answer ∷ more) ⊎ B
  short_first answer more (inl short) rest = inl (inl short)
  short_first answer more (inr a) rest = short_before answer more (rest a)

  goes_since : (told answers : List Told) → Goes told → AreToldSince g max tries job told answers → Tells IsShort answers ⊎ Goes (fold (tell g job) told answers)
  goes_since told [] goes h = inr goes
  goes_since told (answer ∷ more) goes h =
      short_first answer more (goes_next told answer goes h.0) (λ next. goes_since (tell g job told answer) more next h.1)

  -- ---- all answers of a call
  goes : (answers : List Told) → AreTold g max tries job answers → Tells IsShort answers ⊎ Goes (fold (tell g job) [] answers)
  goes answers h = goes_since [] answers (runs_first (pin_bound g max job.note) (touched_count g job.note) g tries job job.note.kind) h

  remembers : (told : List Told) → Goes told → ActIsFine job.note.kind (pin_bound g max job.note) (touched_count g job.note) ⊥ (next_act g tries job told)
  remembers told runs =
      let pins : ℕ = pin_bound g max job.note in
      let touched : ℕ = touched_count g job.note in
      subst (ActIsFine job.note.kind pins touched ⊥) (sym (runs_now pins touched g tries job job.note.kind told runs)) (runs.holds runs.since runs.fit)

  pub short_was_told : (answers : List Told) → AreTold g max tries job answers → act_after g tries job answers ≡ Act.Finish Outcome.NoMemory → Tells IsShort answers
  short_was_told answers h e = by (goes answers h)
    where
      by : Tells IsShort answers ⊎ Goes (fold (tell g job) [] answers) → Tells IsShort answers
      by (inl short) = short
      by (inr runs) =
          absurd (subst (ActIsFine job.note.kind (pin_bound g max job.note) (touched_count g job.note) ⊥) e (remembers (fold (tell g job) [] answers) runs))

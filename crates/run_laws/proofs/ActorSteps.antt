-- A step of an actor in its call keeps the call's bound and its pass, and leaves fewer steps ahead.
use Rattle.std.proofs.Common.{◌≡◌, ℕ, ◌+◌, ◌-◌, ◌<◌, ◌≤◌, Bool, true, false, cond, List, [], ◌∷◌, length, drop, sum_by, Option, None, Some, option_map, is_some, IsTrue, refl, sym, ap, subst, ◌∙◌, arith, true≢false, length-append, drop-drop, ◌⊎◌, inl, inr}
use Rattle.std.proofs.lemmas.Bool.{and_parts, lt-ltb}
use Rattle.std.proofs.lemmas.Option.{none-some}
use Rattle.std.proofs.lemmas.List.Sums.{sum_by-cons}
use mathlib.Core.Bool.{beq}
use Rattle.clay_grid.specs.Shape.{Shape, chunk_count, stripe_length}
use Rattle.store_map.specs.declared.actor.Actor.{Actor}
use Rattle.store_core.specs.Told.{Told}
use Rattle.store_core.specs.Note.{Note, Kind}
use Rattle.store_core.specs.Act.{Act, DirectoryStep, ServerStep, Outcome}
use Rattle.store_core.specs.ActPlace.{is_on_pass_there, is_in_pass_there, is_in_pass}
use Rattle.run_laws.specs.Answers.{Answers}
use Rattle.store_core.specs.Bounds.{step_bound, draw_bound, touched_count}
use Rattle.run_laws.specs.CallLeft.{pin_bound, call_left}
use Rattle.store_core.specs.NextAct.{Job, next_by, next_act}
use Rattle.store_core.specs.Tell.{tell}
use Rattle.store_core.specs.Directory.{Pass, Directory}
use Rattle.store_core.specs.Lookups.{same_actor}
use Rattle.store_core.specs.Step.{Shortage, Places, at_places, told_first, take_from, ended_by, actor_step}
use Rattle.store_core.specs.Work.{Calling}
use Rattle.store_core.specs.PlaceLaws.{new_versions}
use Rattle.run_laws.specs.StepLaws.{HasTarget}
use Rattle.run_laws.proofs.Steps.{steps_fall}
use Rattle.run_laws.proofs.PinnedSteps.{KeepsPinned, pinned_step}
use Rattle.run_laws.proofs.Phases.{Phase, phase_of, directory_phase, server_phase, has_pass, pass_after, rank, rank_moves, moves}
use Rattle.run_laws.proofs.CallMoves.{changes, call_moves}
use Rattle.run_laws.proofs.Proper.{IsWriting, IsProper, tries_by, HasTry, acts_proper}
use Rattle.run_laws.proofs.Passes.{held, held_after}
use Rattle.run_laws.proofs.LiveVersions.{live_count, HasLive}
use Rattle.run_laws.proofs.ActAnswers.{note_if, FitPlaces, IsGoing, Answered, act_answered}
use Rattle.run_laws.proofs.DrawsAhead.{draws_told, DrawsFit, HasSome, draws_fall, draws_most}
use Rattle.run_laws.proofs.PlaceMoves.{PlacesMove, act_moves}

-- ---- where a call stands
-- the directory has the call's pass exactly when its next act wants it, and the call isn't over
pub record Stands (g : Shape) (tries : ℕ) (job : Job) (who : Actor) (told : List Told) (d : Directory) : Type 0 where
  pub pass : held who d ≡ note_if (has_pass (phase_of (next_act g tries job told))) job.note
  pub going : IsGoing (next_act g tries job told)

pub same_bools : (a b : Bool) → beq a b ≡ true → a ≡ b
same_bools true true e = refl
same_bools false false e = refl
same_bools true false e = absurd (true≢false (sym e))
same_bools false true e = absurd (true≢false (sym e))

going_on : (act : Act) → has_pass (phase_of act) ≡ true → IsGoing act
going_on (Act.AtDirectory step) e = tt
going_on (Act.AtServer server step) e = tt
going_on (Act.Finish outcome) e = absurd (true≢false (sym e))

pub pass_rank : (p : Phase) → has_pass p ≡ true → rank p ≤ 2
pass_rank Phase.Gathering e = omega arith
pass_rank Phase.Drawing e = omega arith
pass_rank Phase.Drawn e = omega arith
pass_rank Phase.Confirming e = omega arith
pass_rank Phase.Ending e = omega arith
pass_rank p e = absurd (true≢false (sym e))

-- a pass that is there is wanted
wanted : (found : Option Pass) (b : Bool) (note : Note) → is_some found ≡ true → option_map (λ pass. pass.note) found ≡ note_if b note → b ≡ true
wanted None b note e h = absurd (true≢false (sym e))
wanted (Some pass) true note e h = refl
wanted (Some pass) false note e h = absurd (none-some pass.note (sym h))

draws_none : (kind : Kind) (touched : ℕ) → DrawsFit kind 0 touched
draws_none Kind.Put touched = omega arith
draws_none Kind.Write touched = omega arith
draws_none Kind.Get touched = refl
draws_none Kind.ReadAt touched = refl
draws_none Kind.Stat touched = refl
draws_none Kind.Delete touched = refl
draws_none Kind.Rebuild touched = refl

-- a call has a pass just where its next act says so
same_directory : (step : DirectoryStep) → is_on_pass_there step ≡ has_pass (directory_phase step)
same_directory (DirectoryStep.Look note) = refl
same_directory (DirectoryStep.LookRepair note) = refl
same_directory DirectoryStep.Draw = refl
same_directory (DirectoryStep.Commit placed) = refl
same_directory DirectoryStep.End = refl
same_directory DirectoryStep.Confirm = refl
same_directory (DirectoryStep.Repaired server epoch) = refl
same_directory DirectoryStep.NextGarbage = refl
same_directory (DirectoryStep.Swept version) = refl
same_directory (DirectoryStep.Reap actor) = refl

same_server : (step : ServerStep) → is_in_pass_there step ≡ has_pass (server_phase step)
same_server (ServerStep.Prepare version) = refl
same_server (ServerStep.Settle version) = refl
same_server (ServerStep.Has version) = refl
same_server (ServerStep.Fetch version layers) = refl
same_server (ServerStep.Install version) = refl
same_server (ServerStep.Discard version) = refl
same_server ServerStep.Wipe = refl
same_server ServerStep.Down = refl
same_server ServerStep.Up = refl

same_pass : (act : Act) → is_in_pass act ≡ has_pass (phase_of act)
same_pass (Act.AtDirectory step) = same_directory step
same_pass (Act.AtServer server step) = same_server step
same_pass (Act.Finish outcome) = refl

-- ---- want of memory that is told before a step
pub record ToldFirst (g : Shape) (most tries : ℕ) (job : Job) (who : Actor) (told now : List Told) (d : Directory) : Type 0 where
  pub from : (now ≡ told) ⊎ (now ≡ tell g job told Told.Short)
  pub stands : Stands g tries job who now d
  pub steps : call_left g most tries job now ≤ call_left g most tries job told
  pub draws : draws_told g tries job now ≤ draws_told g tries job told

module _ (g : Shape) (most tries : ℕ) (job : Job) (target : HasTarget g job) (who : Actor) (told : List Told) (d : Directory) (stands : Stands g tries job who told d) where
  -- want of memory that is told first leaves the pass wanted
  short_told : is_in_pass (next_act g tries job told) ≡ true → ToldFirst g most tries job who told (tell g job told Told.Short) d
  short_told has =
      let before : Act = next_act g tries job told in
      let after : Act = next_act g tries job (tell g job told Told.Short) in
      let had : has_pass (phase_of before) ≡ true = sym (same_pass before) ∙ has in
      let moved : IsTrue (moves Told.Short (phase_of before) (phase_of after)) = call_moves g tries job target told Told.Short tt in
      let same : has_pass (phase_of after) ≡ has_pass (phase_of before) =
      same_bools (has_pass (phase_of after)) (has_pass (phase_of before))
      (and_parts (beq (has_pass (phase_of after)) (has_pass (phase_of before))) (rank_moves Told.Short (rank (phase_of before)) (rank (phase_of after))) moved).0 in
      let low : rank (phase_of before) ≤ 2 = pass_rank (phase_of before) had in
      let fewer : draws_told g tries job (tell g job told Told.Short) + 0 ≤ draws_told g tries job told =
      draws_fall g tries job told Told.Short moved (λ h. absurd (omega (arith, low, h))) (draws_none job.note.kind (touched_count g job.note)) in
      record {
        from = inr refl;
        stands =
            record {
              pass = stands.pass ∙ ap (λ b. note_if b job.note) (sym same);
              going = going_on after (same ∙ had);
            };
        steps = (steps_fall g most tries job).short told;
        draws = omega (arith, fewer);
      }

  -- so it is whether memory was wanting or not
  pub first_told : (coding has : Bool) → is_in_pass (next_act g tries job told) ≡ has → ToldFirst g most tries job who told (told_first coding has g job told) d
  first_told true true e = short_told e
  first_told true false e = record { from = inl refl; stands = stands; steps = omega arith; draws = omega arith }
  first_told false has e = record { from = inl refl; stands = stands; steps = omega arith; draws = omega arith }

-- ---- what the answer to an act brings
writing_fits : (kind : Kind) (count touched : ℕ) → IsWriting kind → count ≤ touched → DrawsFit kind count touched
writing_fits Kind.Put count touched writes h = h
writing_fits Kind.Write count touched writes h = h
writing_fits kind count touched writes h = absurd writes

versions_fit : (g : Shape) (job : Job) (room : Type 0) (pins touched : ℕ) (act : Act) (versions : List ℕ) → IsProper g job room act → Answers pins touched act (Told.Versions versions)
    → DrawsFit job.note.kind (length versions) touched
versions_fit g job room pins touched (Act.AtDirectory DirectoryStep.Draw) versions proper h = writing_fits job.note.kind (length versions) touched proper h
versions_fit g job room pins touched (Act.AtDirectory step) versions proper h = absurd h
versions_fit g job room pins touched (Act.AtServer server (ServerStep.Prepare version)) versions proper h = absurd h
versions_fit g job room pins touched (Act.AtServer server step) versions proper h = absurd h
versions_fit g job room pins touched (Act.Finish outcome) versions proper h = absurd h

-- an act is told no more versions than its call draws
draws_fit : (g : Shape) (job : Job) (room : Type 0) (pins touched : ℕ) (act : Act) (answer : Told) → IsProper g job room act → Answers pins touched act answer
    → DrawsFit job.note.kind (length (new_versions answer)) touched
draws_fit g job room pins touched act (Told.Versions versions) proper h = versions_fit g job room pins touched act versions proper h
draws_fit g job room pins touched act answer proper h = draws_none job.note.kind touched

-- a look has a try left
some_tries : (kind : Kind) (tries : ℕ) (told : List Told) → HasTry kind tries told → HasSome kind (tries_by kind tries - changes told)
some_tries Kind.Put tries told h = omega (arith, h)
some_tries Kind.Write tries told h = omega (arith, h)
some_tries Kind.Get tries told h = tt
some_tries Kind.ReadAt tries told h = tt
some_tries Kind.Stat tries told h = tt
some_tries Kind.Delete tries told h = tt
some_tries Kind.Rebuild tries told h = tt

looks_with_try : (g : Shape) (job : Job) (room : Type 0) (act : Act) → IsProper g job room act → 3 ≤ rank (phase_of act) → room
looks_with_try g job room (Act.AtDirectory (DirectoryStep.Look note)) proper h = proper.1
looks_with_try g job room (Act.AtDirectory (DirectoryStep.LookRepair note)) proper h = proper.1
looks_with_try g job room (Act.AtDirectory step) proper h = absurd (omega (arith, h))
looks_with_try g job room (Act.AtServer server (ServerStep.Prepare version)) proper h = absurd (omega (arith, h))
looks_with_try g job room (Act.AtServer server (ServerStep.Has version)) proper h = absurd (omega (arith, h))
looks_with_try g job room (Act.AtServer server (ServerStep.Fetch version layers)) proper h = absurd (omega (arith, h))
looks_with_try g job room (Act.AtServer server step) proper h = absurd (omega (arith, h))
looks_with_try g job room (Act.Finish outcome) proper h = absurd (omega (arith, h))

-- the pass comes and goes with the answer
held_moves : (answer : Told) (b : Bool) (note : Note) → held_after answer note (note_if b note) ≡ note_if (pass_after answer b) note
held_moves (Told.Pinned point length_now stripes) b note = refl
held_moves (Told.Ready base length_now stripes) b note = refl
held_moves (Told.PinnedStripe seen) b note = refl
held_moves (Told.Done point) b note = refl
held_moves (Told.Changed base newer) b note = refl
held_moves Told.Ended b note = refl
held_moves (Told.Superseded newer) b note = refl
held_moves (Told.Reaped point) b note = refl
held_moves answer b note = refl

-- after the answer: the pass is there where it is wanted, fewer steps are left, and no more draws than versions came
pub record AnswerBrings (g : Shape) (most tries : ℕ) (job : Job) (who : Actor) (told now : List Told) (before after : Places) (answer : Told) : Type 0 where
  pub places : PlacesMove who job.note before after answer
  pub pass : held who after.directory ≡ note_if (has_pass (phase_of (next_act g tries job now))) job.note
  pub steps : call_left g most tries job now < call_left g most tries job told
  pub draws : draws_told g tries job now + length (new_versions answer) ≤ draws_told g tries job told

module _ (g : Shape) (most tries : ℕ) (some : 0 < stripe_length g) (job : Job) (target : HasTarget g job) (short : Bool) (who : Actor) (self : same_actor who who ≡ true) (number : ℕ)
    (told : List Told) (places : Places) (fit : FitPlaces g most places) (has : HasLive places.directory) (stands : Stands g tries job who told places.directory) where
  abbrev after_act : Places × Told
  after_act = at_places short who number (next_act g tries job told) places

  -- the step of a call at the directory or at a server
  pub answer_brings : AnswerBrings g most tries job who told (tell g job told after_act.1) places after_act.0 after_act.1
  answer_brings =
      let act : Act = next_act g tries job told in
      let answer : Told = after_act.1 in
      let proper : IsProper g job (HasTry job.note.kind tries told) act = acts_proper g tries job target told in
      let answered : Answered g most job act answer = act_answered g most some job (HasTry job.note.kind tries told) short who number places fit act proper stands.going stands.pass in
      let moved : PlacesMove who job.note places after_act.0 answer =
      act_moves g job (HasTry job.note.kind tries told) (pin_bound g most job.note) (touched_count g job.note) short who self number places has act proper stands.going answered.answers in
      let after : Act = next_act g tries job (tell g job told answer) in
      let steps_move : IsTrue (moves answer (phase_of act) (phase_of after)) = call_moves g tries job target told answer answered.fits in
      let same : has_pass (phase_of after) ≡ pass_after answer (has_pass (phase_of act)) =
      same_bools (has_pass (phase_of after)) (pass_after answer (has_pass (phase_of act)))
      (and_parts (beq (has_pass (phase_of after)) (pass_after answer (has_pass (phase_of act)))) (rank_moves answer (rank (phase_of act)) (rank (phase_of after))) steps_move).0 in
      record {
        places = moved;
        pass = moved.own ∙ ap (held_after answer job.note) stands.pass ∙ held_moves answer (has_pass (phase_of act)) job.note ∙ ap (λ b. note_if b job.note) (sym same);
        steps = (steps_fall g most tries job).falls told answer target answered.answers;
        draws =
            draws_fall g tries job told answer steps_move
            (λ h. some_tries job.note.kind tries told (looks_with_try g job (HasTry job.note.kind tries told) act proper h))
            (draws_fit g job (HasTry job.note.kind tries told) (pin_bound g most job.note) (touched_count g job.note) act answer proper answered.answers);
      }

-- ---- the first act of a call
pub is_looking : (kind : Kind) (g : Shape) (tries : ℕ) (job : Job) → 1 ≤ tries → phase_of (next_by kind g tries job []) ≡ Phase.Looking
is_looking Kind.Put g tries job some = refl
is_looking Kind.Write g tries job some =
    ap (λ b. phase_of (cond {A = Act} b (Act.AtDirectory (DirectoryStep.Look job.note)) (Act.Finish (Outcome.Contended [])))) (lt-ltb 0 tries some)
is_looking Kind.Get g tries job some = refl
is_looking Kind.ReadAt g tries job some = refl
is_looking Kind.Stat g tries job some = refl
is_looking Kind.Delete g tries job some = refl
is_looking Kind.Rebuild g tries job some = refl

going_look : (act : Act) → 3 ≤ rank (phase_of act) → IsGoing act
going_look (Act.AtDirectory step) h = tt
going_look (Act.AtServer server step) h = tt
going_look (Act.Finish outcome) h = absurd (omega (arith, h))

-- a call begins without a pass
pub begins : (g : Shape) (tries : ℕ) (job : Job) (who : Actor) (d : Directory) → 1 ≤ tries → held who d ≡ None → Stands g tries job who [] d
begins g tries job who d some none =
    let looks : phase_of (next_act g tries job []) ≡ Phase.Looking = is_looking job.note.kind g tries job some in
    record {
      pass = none ∙ ap (λ p. note_if (has_pass p) job.note) (sym looks);
      going = going_look (next_act g tries job []) (subst (λ p. 3 ≤ rank p) (sym looks) (omega arith));
    }

-- ---- an actor's calls
pub record InWork (g : Shape) (most tries : ℕ) (job : Job) (who : Actor) (calling : Calling) (d : Directory) : Type 0 where
  pub fresh : calling.steps ≡ 0 → calling.told ≡ []
  pub bound : call_left g most tries job calling.told + calling.steps ≤ step_bound g most tries job.note
  pub pinned : KeepsPinned g most tries job calling.told calling.steps
  pub stands : Stands g tries job who calling.told d

module _ (g : Shape) (most tries : ℕ) where
  abbrev pub CallKept : Actor → List Job → Calling → Directory → Type 0
  CallKept who [] calling d = held who d ≡ None
  CallKept who (job ∷ later) calling d = InWork g most tries job who calling d

  -- the steps and the draws of a call in work and of all later ones
  abbrev pub steps_ahead : List Job → List Told → ℕ
  steps_ahead [] told = 0
  steps_ahead (job ∷ later) told = call_left g most tries job told + sum_by (λ j. step_bound g most tries j.note) later

  abbrev pub draws_ahead : List Job → List Told → ℕ
  draws_ahead [] told = 0
  draws_ahead (job ∷ later) told = draws_told g tries job told + sum_by (λ j. draw_bound g tries j.note) later

  -- the calls that have not begun have no more steps ahead than their bounds
  pub begun_steps : (later : List Job) → steps_ahead later [] ≤ sum_by (λ j. step_bound g most tries j.note) later
  begun_steps [] = omega arith
  begun_steps (job ∷ later) =
      let first : call_left g most tries job [] ≤ step_bound g most tries job.note = (steps_fall g most tries job).first in
      let all : sum_by (λ (j : Job). step_bound g most tries j.note) (job ∷ later) ≡ step_bound g most tries job.note + sum_by (λ (j : Job). step_bound g most tries j.note) later =
      sum_by-cons (λ (j : Job). step_bound g most tries j.note) job later in
      let bounds : ℕ = sum_by (λ (j : Job). step_bound g most tries j.note) later in
      let whole : ℕ = sum_by (λ (j : Job). step_bound g most tries j.note) (job ∷ later) in
      omega (arith, first, all)

  -- nor more draws
  pub begun_draws : 1 ≤ tries → (later : List Job) → draws_ahead later [] ≤ sum_by (λ j. draw_bound g tries j.note) later
  begun_draws some [] = omega arith
  begun_draws some (job ∷ later) =
      let first : draws_told g tries job [] ≤ draw_bound g tries job.note = draws_most g tries job [] some in
      let all : sum_by (λ (j : Job). draw_bound g tries j.note) (job ∷ later) ≡ draw_bound g tries job.note + sum_by (λ (j : Job). draw_bound g tries j.note) later =
      sum_by-cons (λ (j : Job). draw_bound g tries j.note) job later in
      omega (arith, first, all)

  pub record ActorMoves (who : Actor) (jobs : List Job) (calling : Calling) (before : Places) (after : Places × Calling) : Type 0 where
    pub kept : CallKept who (drop (length after.1.ended) jobs) after.1 after.0.directory
    pub steps : steps_ahead (drop (length after.1.ended) jobs) after.1.told < steps_ahead (drop (length calling.ended) jobs) calling.told
    pub draws :
        live_count after.0.directory.versions + draws_ahead (drop (length after.1.ended) jobs) after.1.told
        ≤ live_count before.directory.versions + draws_ahead (drop (length calling.ended) jobs) calling.told
    pub count : live_count after.0.directory.versions + length before.directory.versions ≤ live_count before.directory.versions + length after.0.directory.versions
    pub others : (other : Actor) → same_actor other who ≡ false → held other after.0.directory ≡ held other before.directory
    pub shape : after.0.directory.shape ≡ before.directory.shape
    pub max : after.0.directory.max ≡ before.directory.max
    pub servers : length after.0.servers ≡ length before.servers

drop_next : {X : Type 0} (xs ys : List X) (n : ℕ) (x : X) → drop n xs ≡ x ∷ ys → drop (n + 1) xs ≡ ys
drop_next xs ys n x e = sym (drop-drop 1 n xs) ∙ ap (drop 1) e

-- ---- one step
module _ (g : Shape) (most tries : ℕ) (some : 0 < stripe_length g) (tried : 1 ≤ tries) (who : Actor) (self : same_actor who who ≡ true) (jobs later : List Job) (job : Job) (target : HasTarget g job)
    (calling : Calling) (ahead : drop (length calling.ended) jobs ≡ job ∷ later) (places : Places) (fit : FitPlaces g most places) (has : HasLive places.directory) (work : InWork g most tries job who calling places.directory) where
  module _ (first : List Told) (first_is : ToldFirst g most tries job who calling.told first places.directory) (after : Places) (answer : Told) (takes : List ℕ)
      (brings : AnswerBrings g most tries job who first (tell g job first answer) places after answer) where
    abbrev now : List Told
    now = tell g job first answer

    abbrev middle : Calling
    middle = record { ended = calling.ended; told = now; takes = takes; steps = calling.steps + 1 }

    abbrev Moved : Calling → Type 0
    Moved calling_now = ActorMoves g most tries who jobs calling places (after, calling_now)

    counted : live_count after.directory.versions + length places.directory.versions ≤ live_count places.directory.versions + length after.directory.versions
    counted =
        let count : live_count after.directory.versions ≤ live_count places.directory.versions + length (new_versions answer) = brings.places.count in
        let size : length after.directory.versions ≡ length places.directory.versions + length (new_versions answer) = brings.places.size in
        omega (arith, count, size)

    -- the call goes on
    goes_on : IsGoing (next_act g tries job now) → Moved middle
    goes_on going =
        let bound : call_left g most tries job calling.told + calling.steps ≤ step_bound g most tries job.note = work.bound in
        let short : call_left g most tries job first ≤ call_left g most tries job calling.told = first_is.steps in
        let falls : call_left g most tries job now < call_left g most tries job first = brings.steps in
        let short_draws : draws_told g tries job first ≤ draws_told g tries job calling.told = first_is.draws in
        let draws : draws_told g tries job now + length (new_versions answer) ≤ draws_told g tries job first = brings.draws in
        let count : live_count after.directory.versions ≤ live_count places.directory.versions + length (new_versions answer) = brings.places.count in
        let x : ℕ = sum_by (λ (j : Job). step_bound g most tries j.note) later in
        let y : ℕ = sum_by (λ (j : Job). draw_bound g tries j.note) later in
        record {
          kept =
              subst (λ l. CallKept g most tries who l middle after.directory) (sym ahead)
              (record {
                fresh = λ none. absurd (omega (arith, none));
                bound = omega (arith, bound, short, falls);
                pinned = pinned_step g most tries job calling.told first answer calling.steps first_is.from work.bound first_is.steps brings.steps work.pinned;
                stands = record { pass = brings.pass; going = going };
              });
          steps =
              subst (λ l. steps_ahead g most tries l now < steps_ahead g most tries l calling.told) (sym ahead) (omega (arith, short, falls));
          draws =
              subst (λ l. live_count after.directory.versions + draws_ahead g most tries l now ≤ live_count places.directory.versions + draws_ahead g most tries l calling.told) (sym ahead)
              (omega (arith, short_draws, draws, count));
          count = counted;
          others = brings.places.others;
          shape = brings.places.shape;
          max = brings.places.max;
          servers = brings.places.servers;
        }

    -- the call is over, and the next one begins
    next_kept : (l : List Job) (calling_now : Calling) → calling_now.told ≡ [] → calling_now.steps ≡ 0 → held who after.directory ≡ None → CallKept g most tries who l calling_now after.directory
    next_kept [] calling_now begun none_made free = free
    next_kept (next ∷ rest) calling_now begun none_made free =
        let bound : call_left g most tries next [] ≤ step_bound g most tries next.note = (steps_fall g most tries next).first in
        record {
          fresh = λ _. begun;
          bound =
              subst (λ (l : List Told). call_left g most tries next l + calling_now.steps ≤ step_bound g most tries next.note) (sym begun)
              (let e : calling_now.steps ≡ 0 = none_made in omega (arith, bound, e));
          pinned = subst (λ (l : List Told). KeepsPinned g most tries next l calling_now.steps) (sym begun) (λ reads count e. absurd (none-some count e));
          stands = subst (λ (l : List Told). Stands g tries next who l after.directory) (sym begun) (begins g tries next who after.directory tried free);
        }

    ends : (calling_now : Calling) → drop (length calling_now.ended) jobs ≡ later → calling_now.told ≡ [] → calling_now.steps ≡ 0 → held who after.directory ≡ None → Moved calling_now
    ends calling_now over begun none_made free =
        let short : call_left g most tries job first ≤ call_left g most tries job calling.told = first_is.steps in
        let falls : call_left g most tries job now < call_left g most tries job first = brings.steps in
        let short_draws : draws_told g tries job first ≤ draws_told g tries job calling.told = first_is.draws in
        let draws : draws_told g tries job now + length (new_versions answer) ≤ draws_told g tries job first = brings.draws in
        let count : live_count after.directory.versions ≤ live_count places.directory.versions + length (new_versions answer) = brings.places.count in
        let few : steps_ahead g most tries later [] ≤ sum_by (λ (j : Job). step_bound g most tries j.note) later = begun_steps g most tries later in
        let few_draws : draws_ahead g most tries later [] ≤ sum_by (λ (j : Job). draw_bound g tries j.note) later = begun_draws g most tries tried later in
        let x : ℕ = sum_by (λ (j : Job). step_bound g most tries j.note) later in
        let y : ℕ = sum_by (λ (j : Job). draw_bound g tries j.note) later in
        let u : ℕ = steps_ahead g most tries later [] in
        let v : ℕ = draws_ahead g most tries later [] in
        let fewer : u < call_left g most tries job calling.told + x = omega (arith, short, falls, few) in
        let no_more : live_count after.directory.versions + v ≤ live_count places.directory.versions + (draws_told g tries job calling.told + y) = omega (arith, short_draws, draws, count, few_draws) in
        record {
          kept = next_kept (drop (length calling_now.ended) jobs) calling_now begun none_made free;
          steps =
              subst (λ (l : List Job). steps_ahead g most tries l calling_now.told < steps_ahead g most tries (drop (length calling.ended) jobs) calling.told) (sym over)
              (subst (λ (l : List Job). steps_ahead g most tries later calling_now.told < steps_ahead g most tries l calling.told) (sym ahead)
              (subst (λ (t : List Told). steps_ahead g most tries later t < steps_ahead g most tries (job ∷ later) calling.told) (sym begun) fewer));
          draws =
              subst (λ (l : List Job). live_count after.directory.versions + draws_ahead g most tries l calling_now.told ≤ live_count places.directory.versions + draws_ahead g most tries (drop (length calling.ended) jobs) calling.told) (sym over)
              (subst (λ (l : List Job). live_count after.directory.versions + draws_ahead g most tries later calling_now.told ≤ live_count places.directory.versions + draws_ahead g most tries l calling.told) (sym ahead)
              (subst (λ (t : List Told). live_count after.directory.versions + draws_ahead g most tries later t ≤ live_count places.directory.versions + draws_ahead g most tries (job ∷ later) calling.told) (sym begun) no_more));
          count = counted;
          others = brings.places.others;
          shape = brings.places.shape;
          max = brings.places.max;
          servers = brings.places.servers;
        }

    by_act : (act : Act) → next_act g tries job now ≡ act → Moved (ended_by act (chunk_count g) middle)
    by_act (Act.Finish outcome) e =
        ends (ended_by (Act.Finish outcome) (chunk_count g) middle)
        (ap (λ n. drop n jobs) (length-append calling.ended (record { outcome = outcome; takes = takes } ∷ [])) ∙ drop_next jobs later (length calling.ended) job ahead)
        refl refl (brings.pass ∙ ap (λ a. note_if (has_pass (phase_of a)) job.note) e)
    by_act (Act.AtDirectory step) e = goes_on (subst IsGoing (sym e) tt)
    by_act (Act.AtServer server step) e = goes_on (subst IsGoing (sym e) tt)

  -- one step of an actor
  pub actor_moves : (shortages : Shortage) → ActorMoves g most tries who jobs calling places (actor_step g tries shortages who job calling places)
  actor_moves shortages =
      let has_one : Bool = is_in_pass (next_act g tries job calling.told) in
      let first : List Told = told_first shortages.coding has_one g job calling.told in
      let first_is : ToldFirst g most tries job who calling.told first places.directory =
      first_told g most tries job target who calling.told places.directory work.stands shortages.coding has_one refl in
      let act : Act = next_act g tries job first in
      let after : Places × Told = at_places shortages.step who (length calling.ended) act places in
      let brings : AnswerBrings g most tries job who first (tell g job first after.1) places after.0 after.1 =
      answer_brings g most tries some job target shortages.step who self (length calling.ended) first places fit has first_is.stands in
      by_act first first_is after.0 after.1 (take_from act after.1 calling.takes) brings (next_act g tries job (tell g job first after.1)) refl

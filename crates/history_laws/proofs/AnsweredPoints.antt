-- In every run each call of a client that was answered has its point.
use Rattle.std.proofs.Common.{◌≡◌, ℕ, zero, suc, ◌+◌, ◌<◌, ◌≤◌, Bool, true, false, List, [], ◌∷◌, ◌++◌, length, Option, None, Some, ◌⊎◌, inl, inr, refl, sym, ap, subst, ◌∙◌, arith}
use Rattle.std.proofs.lemmas.Option.{none-some, same_Some}
use Rattle.std.specs.List.{slice_get}
use Rattle.std.specs.Prelude.{MatchOption}
use Rattle.clay_grid.specs.Shape.{Shape, chunk_count}
use Rattle.store_map.specs.Limits.{size_of, tries_of}
use Rattle.store_core.specs.Bounds.{touched_count}
use Rattle.run_laws.specs.CallLeft.{pin_bound}
use Rattle.store_map.specs.declared.actor.Actor.{Actor}
use Rattle.store_map.specs.declared.actor.Actor.TheVariants as actor
use Rattle.store_map.specs.declared.actor.Token.{Token}
use Rattle.store_map.specs.declared.reply.Reply.{Reply}
use Rattle.store_map.specs.declared.script.Script.{Script}
use Rattle.store_core.specs.Act.{Act, DirectoryStep, ServerStep, Outcome}
use Rattle.store_core.specs.AtDirectory.{at_directory}
use Rattle.store_core.specs.Core.{Core, first_core}
use Rattle.store_core.specs.Directory.{Event, Point, Directory}
use Rattle.store_core.specs.NextAct.{Job, next_act}
use Rattle.store_core.specs.Note.{Note}
use Rattle.store_core.specs.PlaceLaws.{new_point}
use Rattle.store_core.specs.Run.{places_in}
use Rattle.store_core.specs.Schedule.{run_core}
use Rattle.store_core.specs.Server.{Server}
use Rattle.store_core.specs.Step.{Shortage, Places, at_places, at_server_there, told_first, take_from, ended_by, actor_step}
use Rattle.store_core.specs.Sweep.{next_sweep}
use Rattle.store_core.specs.Tell.{tell}
use Rattle.store_core.specs.Told.{Told}
use Rattle.store_core.specs.Work.{Ended, Calling, new_calling}
use Rattle.run_laws.specs.Answers.{ServerAnswers, Answers}
use Rattle.run_laws.specs.CauseLaws.{Replies, PinsAt, IsCaused}
use Rattle.run_laws.specs.GatherLaws.{Tells}
use Rattle.run_laws.proofs.Causes.{causes}
use Rattle.store_core.proofs.Places.{directory_keeps_places}
use Rattle.run_laws.proofs.PlaceMoves.{call_step}
use Rattle.run_laws.proofs.Proper.{IsProper, HasTry}
use Rattle.run_laws.proofs.Runs.{CanRun}
use Rattle.run_laws.proofs.RunsSound.{RunKeeps}
use Rattle.run_laws.proofs.Scripts.{can_run, replicated}
use Rattle.history_laws.specs.HasPoints.{IsReply, IsPin, PointAt, HasItsPoint, AnswersHavePoints}
use Rattle.history_laws.proofs.ActorLines.{each_changed}
use Rattle.history_laws.proofs.AtWork.{AtWork, client_at, repairer_at, pass_number, pass_note, first, act, after, proper, answered}
use Rattle.history_laws.proofs.GivenUpRuns.{told_either}
use Rattle.history_laws.proofs.Induction.{KeptBySteps, run_has}
use Rattle.history_laws.proofs.ToldPoints.{Adds, PointTold, points_told}

-- ---- points stay where they are
abbrev pub Grows : List Point → List Point → Type 0
Grows before after = (place : ℕ) (point : Point) → slice_get before place ≡ Some point → slice_get after place ≡ Some point

appended : (points : List Point) (more : Point) → Grows points (points ++ more ∷ [])
appended [] more place point e = absurd (none-some point e)
appended (p ∷ points) more zero point e = e
appended (p ∷ points) more (suc place) point e = appended points more place point e

last_there : (points : List Point) (more : Point) → slice_get (points ++ more ∷ []) (length points) ≡ Some more
last_there [] more = refl
last_there (p ∷ points) more = last_there points more

directory_grows : (short : Bool) (who : Actor) (number : ℕ) (step : DirectoryStep) (d : Directory) → Grows d.points (at_directory short who number step d).0.points
directory_grows short who number step d = by (new_point answer) (directory_keeps_places short who number step d).points
  where
    after_points : List Point
    after_points = (at_directory short who number step d).0.points

    answer : Told
    answer = (at_directory short who number step d).1

    by : (found : Option ℕ) → MatchOption found ((at_directory short who number step d).0.points ≡ d.points)
        (λ place. (place ≡ length d.points) × (point : Point) × ((at_directory short who number step d).0.points ≡ d.points ++ point ∷ [])) → Grows d.points (at_directory short who number step d).0.points
    by None same place point e = ap (λ (l : List Point). slice_get l place) same ∙ e
    by (Some new) h place point e = ap (λ (l : List Point). slice_get l place) h.2 ∙ appended d.points h.1 place point e

same_points : (points : List Point) → Grows points points
same_points points place point e = e

pub act_grows : (short : Bool) (who : Actor) (number : ℕ) (a : Act) (places : Places) → Grows places.directory.points (at_places short who number a places).0.directory.points
act_grows short who number (Act.AtDirectory step) places = directory_grows short who number step places.directory
act_grows short who number (Act.AtServer server step) places = by (slice_get places.servers server)
  where
    by : (found : Option Server) → Grows places.directory.points (at_server_there short server step places found).0.directory.points
    by None = same_points places.directory.points
    by (Some s) = same_points places.directory.points
act_grows short who number (Act.Finish outcome) places = same_points places.directory.points

point_grows : (who : Actor) (number : ℕ) (Is : Event → Type 0) (before after : List Point) (place : ℕ) → Grows before after → PointAt who number Is before place → PointAt who number Is after place
point_grows who number Is before after place grows h = record { point = h.point; found = grows place h.point h.found; mine = h.mine; of_call = h.of_call; is = h.is }

-- ---- what a call was told
record HasTold (who : Actor) (number : ℕ) (points : List Point) (told : List Told) : Type 0 where
  replies : (place : ℕ) (given : Reply) → Tells (Replies place given) told → PointAt who number IsReply points place
  pins : (place : ℕ) → Tells (PinsAt place) told → PointAt who number IsPin points place

told_grows : (who : Actor) (number : ℕ) (before after : List Point) (told : List Told) → Grows before after → HasTold who number before told → HasTold who number after told
told_grows who number before after told grows h =
    record {
      replies = λ place given t. point_grows who number IsReply before after place grows (h.replies place given t);
      pins = λ place t. point_grows who number IsPin before after place grows (h.pins place t);
    }

-- the answer's own point
record Answering (who : Actor) (number : ℕ) (points : List Point) (answer : Told) : Type 0 where
  replies : (place : ℕ) (given : Reply) → Replies place given answer → PointAt who number IsReply points place
  pins : (place : ℕ) → PinsAt place answer → PointAt who number IsPin points place

added_at : (who : Actor) (number : ℕ) (note : Note) (event : Event) (Is : Event → Type 0) → Is event → (place told : ℕ) (before after : List Point) → Adds who number note event place before after → place ≡ told → PointAt who number Is after told
added_at who number note event Is is place told before after adds e =
    record {
      point = record { actor = who; number = number; note = note; event = event };
      found =
          ap (λ (l : List Point). slice_get l told) adds.added
          ∙ subst (λ n. slice_get (before ++ record { actor = who; number = number; note = note; event = event } ∷ []) n ≡ Some (record { actor = who; number = number; note = note; event = event })) (sym adds.is_place ∙ e)
          (last_there before (record { actor = who; number = number; note = note; event = event }));
      mine = refl;
      of_call = refl;
      is = is;
    }

directory_answers : (who : Actor) (number : ℕ) (note : Note) (before after : List Point) (answer : Told) → PointTold who number note before after answer → Answering who number after answer
directory_answers who number note before after (Told.Answer point given) h =
    record { replies = λ place g e. added_at who number note (Event.Answer given) IsReply tt point place before after h e.0; pins = λ place e. absurd e }
directory_answers who number note before after (Told.Done point) h =
    record { replies = λ place g e. added_at who number note Event.Done IsReply tt point place before after h e.0; pins = λ place e. absurd e }
directory_answers who number note before after (Told.Pinned point length_now stripes) h =
    record { replies = λ place g e. absurd e; pins = λ place e. added_at who number note Event.Pinned IsPin tt point place before after h e }
directory_answers who number note before after answer h = record { replies = λ place g e. absurd e; pins = λ place e. absurd e }

server_answers : (who : Actor) (number : ℕ) (points : List Point) (step : ServerStep) (answer : Told) → ServerAnswers step answer → Answering who number points answer
server_answers who number points (ServerStep.Prepare version) (Told.Answer point given) h = absurd h
server_answers who number points step (Told.Answer point given) h = absurd h
server_answers who number points (ServerStep.Prepare version) (Told.Done point) h = absurd h
server_answers who number points step (Told.Done point) h = absurd h
server_answers who number points (ServerStep.Prepare version) (Told.Pinned point length_now stripes) h = absurd h
server_answers who number points step (Told.Pinned point length_now stripes) h = absurd h
server_answers who number points step answer h = record { replies = λ place g e. absurd e; pins = λ place e. absurd e }

-- ---- an actor's step
record HasAll (who : Actor) (points : List Point) (c : Calling) : Type 0 where
  ended : (number : ℕ) (e : Ended) → slice_get c.ended number ≡ Some e → HasItsPoint who number points e.outcome
  told : HasTold who (length c.ended) points c.told

own_grows : (who : Actor) (number : ℕ) (before after : List Point) (outcome : Outcome) → Grows before after → HasItsPoint who number before outcome → HasItsPoint who number after outcome
own_grows who number before after (Outcome.Answered point given) grows h = point_grows who number IsReply before after point grows h
own_grows who number before after (Outcome.Served point) grows h = point_grows who number IsPin before after point grows h
own_grows who number before after outcome grows h = tt

all_grow : (who : Actor) (before after : List Point) (c : Calling) → Grows before after → HasAll who before c → HasAll who after c
all_grow who before after c grows h =
    record { ended = λ number e is. own_grows who number before after e.outcome grows (h.ended number e is); told = told_grows who (length c.ended) before after c.told grows h.told }

pub pushed : (es : List Ended) (last : Ended) (number : ℕ) (e : Ended) → slice_get (es ++ last ∷ []) number ≡ Some e → (slice_get es number ≡ Some e) ⊎ ((number ≡ length es) × (last ≡ e))
pushed [] last zero e is = inr (refl, same_Some last e is)
pushed [] last (suc number) e is = absurd (none-some e is)
pushed (x ∷ es) last zero e is = inl is
pushed (x ∷ es) last (suc number) e is = by (pushed es last number e is)
  where
    by : (slice_get es number ≡ Some e) ⊎ ((number ≡ length es) × (last ≡ e)) → (slice_get es number ≡ Some e) ⊎ ((suc number ≡ suc (length es)) × (last ≡ e))
    by (inl h) = inl h
    by (inr h) = inr (ap suc h.0, h.1)

module _ (script : Script) (some : 0 < script.geometry.parity_count) (who : Actor) (job : Job) (calling : Calling) (places : Places) (at : AtWork script who job calling places) (shortages : Shortage) (before : HasAll who places.directory.points calling) where
  abbrev g : Shape
  g = script.geometry

  abbrev made : Places × Told
  made = after script who job calling places at shortages.coding shortages.step

  abbrev points : List Point
  points = made.0.directory.points

  grows : Grows places.directory.points made.0.directory.points
  grows = act_grows shortages.step who (length calling.ended) (act script who job calling places at shortages.coding shortages.step) places

  -- one answer more
  told_more : (told : List Told) (answer : Told) → HasTold who (length calling.ended) points told → Answering who (length calling.ended) points answer → HasTold who (length calling.ended) points (tell g job told answer)
  told_more told answer h a =
      record {
        replies = λ place given t. one place given (told_either (Replies place given) (λ k. k) g some job told answer t);
        pins = λ place t. two place (told_either (PinsAt place) (λ k. k) g some job told answer t);
      }
    where
      one : (place : ℕ) (given : Reply) → Tells (Replies place given) told ⊎ Replies place given answer → PointAt who (length calling.ended) IsReply points place
      one place given (inl t) = h.replies place given t
      one place given (inr e) = a.replies place given e

      two : (place : ℕ) → Tells (PinsAt place) told ⊎ PinsAt place answer → PointAt who (length calling.ended) IsPin points place
      two place (inl t) = h.pins place t
      two place (inr e) = a.pins place e

  quiet_short : Answering who (length calling.ended) points Told.Short
  quiet_short = record { replies = λ place g e. absurd e; pins = λ place e. absurd e }

  first_told : (coding has : Bool) → HasTold who (length calling.ended) points (told_first coding has g job calling.told)
  first_told true true = told_more calling.told Told.Short (told_grows who (length calling.ended) places.directory.points points calling.told grows before.told) quiet_short
  first_told true false = told_grows who (length calling.ended) places.directory.points points calling.told grows before.told
  first_told false has = told_grows who (length calling.ended) places.directory.points points calling.told grows before.told

  answering : (pins touched : ℕ) (a : Act) → IsProper g job (HasTry job.note.kind (tries_of script) (first script who job calling places at shortages.coding shortages.step)) a
      → Answers pins touched a (at_places shortages.step who (length calling.ended) a places).1 → Answering who (length calling.ended) (at_places shortages.step who (length calling.ended) a places).0.directory.points (at_places shortages.step who (length calling.ended) a places).1
  answering pins touched (Act.AtDirectory step) is_proper h =
      directory_answers who (length calling.ended) job.note places.directory.points _ _
      (points_told who (length calling.ended) job.note places.directory (λ pass found. (pass_number script who job calling places at pass found, pass_note script who job calling places at pass found)) shortages.step step
      (call_step job (HasTry job.note.kind (tries_of script) (first script who job calling places at shortages.coding shortages.step)) step is_proper))
  answering pins touched (Act.AtServer server step) is_proper h = server_answers who (length calling.ended) _ step _ h
  answering pins touched (Act.Finish outcome) is_proper h = absurd h

  abbrev now : List Told
  now = tell g job (first script who job calling places at shortages.coding shortages.step) made.1

  now_told : HasTold who (length calling.ended) points now
  now_told =
      told_more (first script who job calling places at shortages.coding shortages.step) made.1 (first_told shortages.coding _)
      (answering (pin_bound g (size_of script) job.note) (touched_count g job.note) (act script who job calling places at shortages.coding shortages.step) (proper script who job calling places at shortages.coding shortages.step) (answered script who job calling places at shortages.coding shortages.step).answers)

  abbrev middle : Calling
  middle = record { ended = calling.ended; told = now; takes = take_from (act script who job calling places at shortages.coding shortages.step) made.1 calling.takes; steps = calling.steps + 1 }

  outcome_point : (outcome : Outcome) → next_act g (tries_of script) job now ≡ Act.Finish outcome → HasItsPoint who (length calling.ended) points outcome
  outcome_point (Outcome.Answered point given) e = now_told.replies point given (subst (IsCaused g (tries_of script) now) e (causes g (tries_of script) job now some))
  outcome_point (Outcome.Served point) e = let caused : IsCaused g (tries_of script) now (Act.Finish (Outcome.Served point)) = subst (IsCaused g (tries_of script) now) e (causes g (tries_of script) job now some) in now_told.pins point caused.0
  outcome_point outcome e = tt

  old_ended : (number : ℕ) (e : Ended) → slice_get calling.ended number ≡ Some e → HasItsPoint who number points e.outcome
  old_ended number e is = own_grows who number places.directory.points points e.outcome grows (before.ended number e is)

  by_act : (a : Act) → next_act g (tries_of script) job now ≡ a → HasAll who points (ended_by a (chunk_count g) middle)
  by_act (Act.Finish outcome) e =
      record { ended = λ number x is. two number x (pushed calling.ended last number x is); told = record { replies = λ place given t. absurd t; pins = λ place t. absurd t } }
    where
      last : Ended
      last = record { outcome = outcome; takes = take_from (act script who job calling places at shortages.coding shortages.step) (after script who job calling places at shortages.coding shortages.step).1 calling.takes }

      two : (number : ℕ) (x : Ended) → (slice_get calling.ended number ≡ Some x) ⊎ ((number ≡ length calling.ended) × (last ≡ x)) → HasItsPoint who number points x.outcome
      two number x (inl is) = old_ended number x is
      two number x (inr h) =
          subst (λ n. HasItsPoint who n points x.outcome) (sym h.0) (subst (λ (y : Ended). HasItsPoint who (length calling.ended) points y.outcome) h.1 (outcome_point outcome e))
  by_act (Act.AtDirectory step) e = record { ended = old_ended; told = now_told }
  by_act (Act.AtServer server step) e = record { ended = old_ended; told = now_told }

  own_step : HasAll who (actor_step script.geometry (tries_of script) shortages who job calling places).0.directory.points (actor_step script.geometry (tries_of script) shortages who job calling places).1
  own_step = by_act (next_act g (tries_of script) job now) refl

-- ---- all clients
abbrev ClientsHave : List Token → Core → Type 0
ClientsHave past core = (i : ℕ) (c : Calling) → slice_get core.clients i ≡ Some c → HasAll (actor.Client i) core.directory.points c

module _ (script : Script) (can : CanRun script) (some : 0 < script.geometry.parity_count) where
  elsewhere : (core : Core) (who : Actor) (number : ℕ) (short : Bool) (a : Act) → ClientsHave [] core → (i : ℕ) (c : Calling) → slice_get core.clients i ≡ Some c
      → HasAll (actor.Client i) (at_places short who number a (places_in core)).0.directory.points c
  elsewhere core who number short a has i c e = all_grow (actor.Client i) core.directory.points _ c (act_grows short who number a (places_in core)) (has i c e)

  points_kept : KeptBySteps script can ClientsHave
  points_kept =
      record {
        quiet = λ past next core is_quiet has. has;
        client = λ past core kept has i work calling job is_work is_calling is_job shortages.
            let at : AtWork script (actor.Client i) job calling (places_in core) = client_at script can core kept i work calling job is_work is_calling is_job in
            each_changed (λ j c. HasAll (actor.Client j) (actor_step script.geometry (tries_of script) shortages (actor.Client i) job calling (places_in core)).0.directory.points c) i calling _ core.clients is_calling
            (own_step script some (actor.Client i) job calling (places_in core) at shortages (has i calling is_calling))
            (λ j differ c e. elsewhere core (actor.Client i) (length calling.ended) shortages.step (act script (actor.Client i) job calling (places_in core) at shortages.coding shortages.step) has j c e);
        repairer = λ past core kept has i work calling job is_work is_calling is_job shortages j c e.
            let at : AtWork script (actor.Repairer i) job calling (places_in core) = repairer_at script can core kept i work calling job is_work is_calling is_job in
            elsewhere core (actor.Repairer i) (length calling.ended) shortages.step (act script (actor.Repairer i) job calling (places_in core) at shortages.coding shortages.step) has j c e;
        sweeper = λ past core kept has j c e. elsewhere core actor.Sweeper 0 false (next_sweep (chunk_count script.geometry) core.sweeper) has j c e;
        wipe = λ past core kept has server j c e. elsewhere core actor.Operator 0 false (Act.AtServer server ServerStep.Wipe) has j c e;
        down = λ past core kept has server j c e. elsewhere core actor.Operator 0 false (Act.AtServer server ServerStep.Down) has j c e;
        up = λ past core kept has server j c e. elsewhere core actor.Operator 0 false (Act.AtServer server ServerStep.Up) has j c e;
        reap_client = λ past core kept has i j c e. elsewhere core actor.Operator 0 false (Act.AtDirectory (DirectoryStep.Reap (actor.Client i))) has j c e;
        reap_repairer = λ past core kept has i j c e. elsewhere core actor.Operator 0 false (Act.AtDirectory (DirectoryStep.Reap (actor.Repairer i))) has j c e;
      }

  none_yet : ClientsHave [] (first_core script)
  none_yet i c e =
      subst (λ (x : Calling). HasAll (actor.Client i) (first_core script).directory.points x) (replicated (length script.clients) i (new_calling (chunk_count script.geometry)) c e)
      (record { ended = λ number x is. absurd (none-some x is); told = record { replies = λ place given t. absurd t; pins = λ place t. absurd t } })

-- each answered call of a client has its point
pub answers_have_points : AnswersHavePoints
answers_have_points script shortages geometry valid tokens i calling is_calling =
    let can : CanRun script = can_run script geometry valid in
    let some : 0 < script.geometry.parity_count = (let two : 2 ≤ script.geometry.parity_count = geometry.limits.parity_chunks.0 in omega (arith, two)) in
    let end : RunKeeps script (run_core script shortages tokens) × ClientsHave tokens (run_core script shortages tokens) = run_has script can ClientsHave (points_kept script can some) shortages (none_yet script can some) tokens in
    (end.1 i calling is_calling).ended

-- In every run what calls were told of lost chunks, and of servers away, was so at that moment.
use Rattle.std.proofs.Common.{◌≡◌, ◌⊎◌, inl, inr, ℕ, ◌+◌, ◌<◌, Bool, true, false, ◌&&◌, List, [], ◌∷◌, ◌++◌, length, map, Option, None, Some, IfSome, All, get_or, refl, sym, ap, subst, ◌∙◌}
use Rattle.std.proofs.lemmas.List.Elements.{All-nil, All-cons, All-head, All-tail}
use Rattle.std.proofs.lemmas.Option.{same_Some}
use Rattle.std.specs.List.{slice_get}
use Rattle.clay_grid.specs.Shape.{Shape, chunk_count}
use Rattle.store_map.specs.Limits.{size_of, tries_of}
use Rattle.store_map.specs.declared.actor.Actor.{Actor}
use Rattle.store_map.specs.declared.placement.Found.{Found}
use Rattle.store_map.specs.declared.placement.Found.TheVariants as found
use Rattle.store_map.specs.declared.placement.Placement.{Placement}
use Rattle.store_map.specs.declared.placement.Placement.TheVariants as placement
use Rattle.store_map.specs.declared.script.Script.{Script}
use Rattle.store_map.specs.declared.cause.Triple.{Triple}
use Rattle.store_core.specs.Act.{Act, DirectoryStep, ServerStep, Outcome}
use Rattle.store_core.specs.ActPlace.{is_in_pass}
use Rattle.store_core.specs.Bounds.{touched_count}
use Rattle.store_core.specs.Directory.{Pass, Directory}
use Rattle.store_core.specs.Lookups.{pass_of}
use Rattle.store_core.specs.NextAct.{Job, next_act}
use Rattle.store_core.specs.Note.{Note, Kind}
use Rattle.store_core.specs.Outcomes.{triple_of}
use Rattle.store_core.specs.Placements.{skipped_from}
use Rattle.store_core.specs.Server.{Server, at_server}
use Rattle.store_core.specs.Step.{Shortage, Places, at_places, at_server_there, told_first, take_from, ended_by, actor_step}
use Rattle.store_core.specs.Tell.{tell}
use Rattle.store_core.specs.Told.{Told, Seen, Lost as LostChunk}
use Rattle.store_core.specs.Work.{Ended, Calling}
use Rattle.run_laws.specs.Answers.{DirectoryAnswers, Answers}
use Rattle.run_laws.specs.CallLeft.{pin_bound}
use Rattle.run_laws.specs.CauseLaws.{TargetIsAway, IsToldAway, IsCaused}
use Rattle.run_laws.specs.GatherLaws.{Tells}
use Rattle.run_laws.proofs.Causes.{causes}
use Rattle.history_laws.proofs.AnsweredPoints.{pushed}
use Rattle.history_laws.proofs.AtWork.{AtWork, first, act, after, answered}
use Rattle.history_laws.proofs.GivenUpRuns.{told_either}
use Rattle.history_laws.proofs.LossesHeard.{HeardBy}
use Rattle.history_laws.proofs.LossesRows.{RowFrom}
use Rattle.history_laws.proofs.LossesState.{Pinned, PinsIt}
use Rattle.history_laws.proofs.FoundActs.{OutcomeLacks, ActLacks, act_lacks}
use Rattle.history_laws.specs.Trace.{Made, call_made}
use Rattle.history_laws.specs.Moments.{Happened, downs}
use Rattle.history_laws.proofs.Counts.{Counted, AllCounted}
use Rattle.history_laws.proofs.LossTold.{OwnPlaces, Lost, Looked, Any, Took, HeardThen, RowsThen}
use Rattle.history_laws.proofs.LossSteps.{After, heard_on, step_after}
use Rattle.history_laws.proofs.Past.{last, on}
use Rattle.history_laws.proofs.PointRuns.{Stood}
use Rattle.history_laws.proofs.ServerTells.{TellsNow, tells_now}
use Rattle.history_laws.proofs.Within.{Own}

-- ---- what an outcome names
abbrev pub OwnAway : Actor → ℕ → ℕ → List Made → Made → Type 0
OwnAway who number told before made =
    Own who number made × ((server : ℕ) × (step : ServerStep) × (made.act ≡ Act.AtServer server step) × (told ≡ downs server before) × ((made.answer ≡ Told.Away told) ⊎ (made.answer ≡ Told.Missing (found.Away told))))

abbrev pub OwnLost : List Made → Actor → ℕ → Seen → Triple → Type 0
OwnLost trace who number seen lost = Lost trace who number seen lost.server lost.found × (lost.placed ≡ get_or seen.placed lost.server (placement.At 0))

abbrev pub OwnSkipped : List Made → Actor → ℕ → ℕ → Triple → Type 0
OwnSkipped trace who number version lost =
    (told : ℕ) × (lost.placed ≡ placement.Skipped told) × (lost.found ≡ found.Away told) × Happened trace (OwnPlaces who number lost.server version (placement.Skipped told))

abbrev pub OwnMissing : List Made → Actor → ℕ → ℕ → List Triple → Type 0
OwnMissing trace who number stripe missing =
    ((seen : Seen) × (seen.stripe ≡ stripe) × All (OwnLost trace who number seen) missing) ⊎ ((version : ℕ) × All (OwnSkipped trace who number version) missing)

abbrev pub LossesOf : List Made → Actor → ℕ → Outcome → Type 0
LossesOf trace who number (Outcome.Unavailable stripe missing) = OwnMissing trace who number stripe (map triple_of missing)
LossesOf trace who number (Outcome.Away told) = Happened trace (OwnAway who number told)
LossesOf trace who number outcome = Unit {0}

-- an answer that a server is away
abbrev FoundAway : ℕ → Found → Type 0
FoundAway count (found.Absent epoch) = ⊥
FoundAway count (found.Away told) = told ≡ count

abbrev TellsAway : ℕ → Told → Type 0
TellsAway count (Told.Away told) = told ≡ count
TellsAway count (Told.Missing reason) = FoundAway count reason
TellsAway count answer = ⊥

-- what is kept of an actor
pub record LossThen (g : Shape) (trace : List Made) (d : Directory) (who : Actor) (jobs : List Job) (c : Calling) : Type 0 where
  pub heard : (job : Job) → slice_get jobs (length c.ended) ≡ Some job → HeardThen g trace d who (length c.ended) job c.told
  pub away : (count : ℕ) → Tells (TellsAway count) c.told → Happened trace (OwnAway who (length c.ended) count)
  pub ended : (number : ℕ) (e : Ended) → slice_get c.ended number ≡ Some e → LossesOf trace who number e.outcome

-- ---- when more is made
all_on : {X : Type 0} (P R : X → Type 0) → ((x : X) → P x → R x) → (xs : List X) → All P xs → All R xs
all_on P R f [] h = All-nil R
all_on P R f (x ∷ xs) h = All-cons R x xs (f x (All-head P x xs h)) (all_on P R f xs (All-tail P x xs h))

losses_on : (trace more : List Made) (who : Actor) (number : ℕ) (outcome : Outcome) → LossesOf trace who number outcome → LossesOf (trace ++ more) who number outcome
losses_on trace more who number (Outcome.Unavailable stripe missing) (inl h) =
    inl (h.0, h.1, all_on (OwnLost trace who number h.0) (OwnLost (trace ++ more) who number h.0) (λ lost k. (on _ trace more k.0, k.1)) (map triple_of missing) h.2)
losses_on trace more who number (Outcome.Unavailable stripe missing) (inr h) =
    inr (h.0, all_on (OwnSkipped trace who number h.0) (OwnSkipped (trace ++ more) who number h.0) (λ lost k. (k.0, k.1, k.2, on _ trace more k.3)) (map triple_of missing) h.1)
losses_on trace more who number (Outcome.Away told) h = on (OwnAway who number told) trace more h
losses_on trace more who number outcome h = tt

-- another's step leaves the pins
pins_on : (made : Made) (who : Actor) (before now : Directory) → ((p : Pass) → pass_of who now ≡ Some p → Stood made who before p) → (kind : Kind) (n : ℕ) → Pinned who kind before n → Pinned who kind now n
pins_on made who before now stood kind n h = by (pass_of who now) refl
  where
    by : (f : Option Pass) → pass_of who now ≡ f → IfSome f (λ pass. PinsIt kind n pass.pinned)
    by None e = tt
    by (Some p) e =
        let s : Stood made who before p = stood p e in
        subst (λ (x : Pass). PinsIt kind n x.pinned) (sym s.same) (subst (λ (o : Option Pass). IfSome o (λ pass. PinsIt kind n pass.pinned)) s.found h)

pub stays : (g : Shape) (trace : List Made) (made : Made) (before now : Directory) (who : Actor) (jobs : List Job) (c : Calling) → ((p : Pass) → pass_of who now ≡ Some p → Stood made who before p)
    → LossThen g trace before who jobs c → LossThen g (trace ++ made ∷ []) now who jobs c
stays g trace made before now who jobs c stood h =
    record {
      heard = λ job is. heard_on g trace (made ∷ []) before now who (length c.ended) job c.told (pins_on made who before now stood job.note.kind) (h.heard job is);
      away = λ count t. on (OwnAway who (length c.ended) count) trace (made ∷ []) (h.away count t);
      ended = λ number e is. losses_on trace (made ∷ []) who number e.outcome (h.ended number e is);
    }

-- ---- the servers that an outcome names
lost_all : (trace : List Made) (who : Actor) (number : ℕ) (seen : Seen) (missing : List LostChunk) → All (λ (one : LostChunk). Lost trace who number seen one.server one.found) missing
    → All (λ (one : LostChunk). one.placed ≡ get_or seen.placed one.server (placement.At 0)) missing → All (OwnLost trace who number seen) (map triple_of missing)
lost_all trace who number seen [] h k = All-nil (OwnLost trace who number seen)
lost_all trace who number seen (one ∷ missing) h k =
    All-cons (OwnLost trace who number seen) (triple_of one) (map triple_of missing)
    (All-head (λ (x : LostChunk). Lost trace who number seen x.server x.found) one missing h, All-head (λ (x : LostChunk). x.placed ≡ get_or seen.placed x.server (placement.At 0)) one missing k)
    (lost_all trace who number seen missing (All-tail (λ (x : LostChunk). Lost trace who number seen x.server x.found) one missing h) (All-tail (λ (x : LostChunk). x.placed ≡ get_or seen.placed x.server (placement.At 0)) one missing k))

skipped_all : (trace : List Made) (who : Actor) (number version server : ℕ) (row : List Placement) → RowFrom Any (Took trace who number) version server row → All (OwnSkipped trace who number version) (map triple_of (skipped_from server row))
skipped_all trace who number version server [] h = All-nil (OwnSkipped trace who number version)
skipped_all trace who number version server (placement.At epoch ∷ row) h = skipped_all trace who number version (server + 1) row h.1
skipped_all trace who number version server (placement.Skipped told ∷ row) h =
    All-cons (OwnSkipped trace who number version) (record { server = server; placed = placement.Skipped told; found = found.Away told }) (map triple_of (skipped_from (server + 1) row)) (told, refl, refl, h.0)
    (skipped_all trace who number version (server + 1) row h.1)

module _ (g : Shape) (trace : List Made) (d : Directory) (who : Actor) (number : ℕ) (kind : Kind) where
  abbrev Names : Outcome → Type 0
  Names outcome = OutcomeLacks g (Lost trace who number) (Looked trace d who number kind) Any (Took trace who number) outcome

  names_missing : (stripe : ℕ) (missing : List LostChunk) → Names (Outcome.Unavailable stripe missing) → OwnMissing trace who number stripe (map triple_of missing)
  names_missing stripe missing (inl lacks) = inl (lacks.seen, lacks.of_stripe, lost_all trace who number lacks.seen missing lacks.lost lacks.apart.placed)
  names_missing stripe missing (inr skips) =
      inr (skips.version, subst (λ (l : List LostChunk). All (OwnSkipped trace who number skips.version) (map triple_of l)) (sym skips.is) (skipped_all trace who number skips.version 0 skips.row skips.took))

-- a call that was told nothing
pub heard_none : (g : Shape) (trace : List Made) (d : Directory) (who : Actor) (number target : ℕ) (any : Kind) (kind : Kind) (note : Note)
    → HeardBy g target (Lost trace who number) (Looked trace d who number any) Any (Took trace who number) kind note []
heard_none g trace d who number target any Kind.Put note = tt
heard_none g trace d who number target any Kind.Write note = tt
heard_none g trace d who number target any Kind.Get note = tt
heard_none g trace d who number target any Kind.ReadAt note = tt
heard_none g trace d who number target any Kind.Stat note = tt
heard_none g trace d who number target any Kind.Delete note = tt
heard_none g trace d who number target any Kind.Rebuild note = tt

-- ---- a call's own step
module _ (script : Script) (some : 0 < script.geometry.parity_count) (who : Actor) (jobs : List Job) (job : Job) (calling : Calling) (is_job : slice_get jobs (length calling.ended) ≡ Some job)
    (places : Places) (at : AtWork script who job calling places) (shortages : Shortage) (trace : List Made) (counts : AllCounted trace places.servers) (rows : RowsThen trace places.directory.versions)
    (kept : LossThen script.geometry trace places.directory who jobs calling) where
  abbrev g : Shape
  g = script.geometry

  abbrev told : List Told
  told = first script who job calling places at shortages.coding shortages.step

  abbrev done : Places × Told
  done = after script who job calling places at shortages.coding shortages.step

  abbrev now : List Told
  now = tell g job told done.1

  abbrev number : ℕ
  number = length calling.ended

  abbrev more : List Made
  more = trace ++ call_made script shortages who calling places job ∷ []

  abbrev middle : Calling
  middle = record { ended = calling.ended; told = now; takes = take_from (act script who job calling places at shortages.coding shortages.step) done.1 calling.takes; steps = calling.steps + 1 }

  pub stepped : After script who job calling places at shortages trace counts rows (kept.heard job is_job) (act script who job calling places at shortages.coding shortages.step)
  stepped = step_after script who job calling places at shortages trace counts rows (kept.heard job is_job)

  -- ---- servers that were away
  first_away : (count : ℕ) → (coding has : Bool) → Tells (TellsAway count) (told_first coding has g job calling.told) → Tells (TellsAway count) calling.told
  first_away count true true h = by (told_either (TellsAway count) (λ k. k) g some job calling.told Told.Short h)
    where
      by : Tells (TellsAway count) calling.told ⊎ TellsAway count Told.Short → Tells (TellsAway count) calling.told
      by (inl k) = k
      by (inr k) = absurd k
  first_away count true false h = h
  first_away count false has h = h

  away_made : (pins touched : ℕ) (count : ℕ) (a : Act) → Answers pins touched a (at_places shortages.step who (length calling.ended) a places).1 → TellsAway count (at_places shortages.step who (length calling.ended) a places).1
      → OwnAway who number count trace (record { who = who; number = length calling.ended; short = shortages.coding && is_in_pass (next_act script.geometry (tries_of script) job calling.told); act = a; answer = (at_places shortages.step who (length calling.ended) a places).1 })
  away_made pins touched count (Act.Finish outcome) h t = absurd h
  away_made pins touched count (Act.AtDirectory step) h t = absurd (none step (at_places shortages.step who (length calling.ended) (Act.AtDirectory step) places).1 h t)
    where
      none : (x : DirectoryStep) (answer : Told) → DirectoryAnswers pins touched x answer → TellsAway count answer → ⊥
      none (DirectoryStep.Look note) (Told.Away n) k t = k
      none x (Told.Away n) k t = k
      none (DirectoryStep.Look note) (Told.Missing reason) k t = k
      none x (Told.Missing reason) k t = k
      none x _ k t = t
  away_made pins touched count (Act.AtServer server step) h t = by (slice_get places.servers server) refl t
    where
      by : (f : Option Server) → slice_get places.servers server ≡ f → TellsAway count (at_server_there shortages.step server step places f).1
          → OwnAway who number count trace (record { who = who; number = length calling.ended; short = shortages.coding && is_in_pass (next_act script.geometry (tries_of script) job calling.told); act = Act.AtServer server step; answer = (at_server_there shortages.step server step places f).1 })
      by None e k = absurd k
      by (Some s) e k = one (at_server shortages.step step s).1 refl (tells_now shortages.step step s) k
        where
          c : Counted trace server s
          c = counts server s e

          one : (answer : Told) → (at_server shortages.step step s).1 ≡ answer → TellsNow s answer → TellsAway count answer
              → OwnAway who number count trace (record { who = who; number = length calling.ended; short = shortages.coding && is_in_pass (next_act script.geometry (tries_of script) job calling.told); act = Act.AtServer server step; answer = (at_server shortages.step step s).1 })
          one (Told.Away n) same t k = ((refl, refl), (server, step, refl, sym k ∙ t ∙ c.downs_told, inl (same ∙ ap Told.Away k)))
          one (Told.Missing (found.Away n)) same t k = ((refl, refl), (server, step, refl, sym k ∙ t ∙ c.downs_told, inr (same ∙ ap (λ x. Told.Missing (found.Away x)) k)))
          one (Told.Missing (found.Absent n)) same t k = absurd k
          one _ same t k = absurd k

  away_now : (count : ℕ) → Tells (TellsAway count) now → Happened more (OwnAway who number count)
  away_now count h = by (told_either (TellsAway count) (λ k. k) g some job told done.1 h)
    where
      by : Tells (TellsAway count) told ⊎ TellsAway count done.1 → Happened more (OwnAway who number count)
      by (inl k) = on (OwnAway who number count) trace (call_made script shortages who calling places job ∷ []) (kept.away count (first_away count shortages.coding _ k))
      by (inr k) =
          last (OwnAway who number count) trace (call_made script shortages who calling places job)
          (away_made (pin_bound g (size_of script) job.note) (touched_count g job.note) count (act script who job calling places at shortages.coding shortages.step)
          (answered script who job calling places at shortages.coding shortages.step).answers k)

  told_away : (count : ℕ) (list : List Told) → IsToldAway count list → Tells (TellsAway count) list
  told_away count list (inl h) = by list h
    where
      by : (l : List Told) → TargetIsAway count l → Tells (TellsAway count) l
      by (Told.PinnedStripe seen ∷ Told.Missing given ∷ rest) e = inr (inl (subst (FoundAway count) (sym e) refl))
      by _ e = absurd e
  told_away count list (inr h) = by list h
    where
      by : (l : List Told) → Tells (λ answer. answer ≡ Told.Away count) l → Tells (TellsAway count) l
      by [] k = absurd k
      by (answer ∷ rest) (inl e) = inl (subst (TellsAway count) (sym e) refl)
      by (answer ∷ rest) (inr k) = inr (by rest k)

  outcome_now : (outcome : Outcome) → next_act g (tries_of script) job now ≡ Act.Finish outcome → LossesOf more who number outcome
  outcome_now (Outcome.Unavailable stripe missing) e =
      let lacks : ActLacks g (Lost more who number) (Looked more done.0.directory who number job.note.kind) Any (Took more who number) (next_act g (tries_of script) job now) =
      act_lacks g (Lost more who number) (Looked more done.0.directory who number job.note.kind) Any (Took more who number) job.target job.note.kind at.target (tries_of script) job.note now stepped.heard_now in
      names_missing g more done.0.directory who number job.note.kind stripe missing
      (subst (ActLacks g (Lost more who number) (Looked more done.0.directory who number job.note.kind) Any (Took more who number)) e lacks)
  outcome_now (Outcome.Away count) e =
      let caused : IsCaused g (tries_of script) now (Act.Finish (Outcome.Away count)) = subst (IsCaused g (tries_of script) now) e (causes g (tries_of script) job now some) in
      away_now count (told_away count now caused.0)
  outcome_now outcome e = tt

  old_ended : (k : ℕ) (e : Ended) → slice_get calling.ended k ≡ Some e → LossesOf more who k e.outcome
  old_ended k e is = losses_on trace (call_made script shortages who calling places job ∷ []) who k e.outcome (kept.ended k e is)

  same_job : (j : Job) → slice_get jobs (length calling.ended) ≡ Some j → job ≡ j
  same_job j is = same_Some job j (sym is_job ∙ is)

  goes_on : LossThen g more done.0.directory who jobs middle
  goes_on =
      record {
        heard = λ j is. subst (λ (x : Job). HeardThen g more done.0.directory who number x now) (same_job j is) stepped.heard_now;
        away = away_now;
        ended = old_ended;
      }

  by_act : (a : Act) → next_act g (tries_of script) job now ≡ a → LossThen g more done.0.directory who jobs (ended_by a (chunk_count g) middle)
  by_act (Act.Finish outcome) e =
      record {
        heard = λ j is. heard_none g more done.0.directory who _ j.target j.note.kind j.note.kind j.note;
        away = λ count h. absurd h;
        ended = λ k x is. two k x (pushed calling.ended (record { outcome = outcome; takes = middle.takes }) k x is);
      }
    where
      two : (k : ℕ) (x : Ended)
          → (slice_get calling.ended k ≡ Some x) ⊎ ((k ≡ length calling.ended) × (record { outcome = outcome; takes = take_from (act script who job calling places at shortages.coding shortages.step) (after script who job calling places at shortages.coding shortages.step).1 calling.takes } ≡ x))
          → LossesOf more who k x.outcome
      two k x (inl is) = old_ended k x is
      two k x (inr h) = subst (λ n. LossesOf more who n x.outcome) (sym h.0) (subst (λ (y : Ended). LossesOf more who number y.outcome) h.1 (outcome_now outcome e))
  by_act (Act.AtDirectory step) e = goes_on
  by_act (Act.AtServer server step) e = goes_on

  pub own_step : LossThen g (trace ++ call_made script shortages who calling places job ∷ []) (actor_step g (tries_of script) shortages who job calling places).0.directory who jobs (actor_step g (tries_of script) shortages who job calling places).1
  own_step = by_act (next_act g (tries_of script) job now) refl

-- Each point of the directory was made by a step of its call, or by its reap, and points are counted by the steps that made them.
use Rattle.std.proofs.Common.{◌≡◌, ℕ, zero, suc, ◌+◌, Bool, true, false, cond, nat_lt, List, [], ◌∷◌, ◌++◌, length, filter, Option, None, Some, is_some, ◌⊎◌, inl, inr, refl, sym, ap, subst, ◌∙◌, arith, length-append}
use Rattle.std.proofs.lemmas.Bool.{cond_both}
use Rattle.std.proofs.lemmas.List.Elements.{filter-append}
use Rattle.std.proofs.lemmas.Option.{none-some, same_Some}
use Rattle.std.specs.List.{slice_get}
use Rattle.store_map.specs.declared.actor.Actor.{Actor}
use Rattle.store_map.specs.declared.placement.Placement.TheVariants as placement
use Rattle.store_core.specs.Act.{Act, DirectoryStep, ServerStep, server_takes_memory}
use Rattle.store_core.specs.AtDirectory.{reap, reap_pass, take_garbage}
use Rattle.store_core.specs.Directory.{Pass, Event, Point, Directory}
use Rattle.store_core.specs.Lists.{is_among}
use Rattle.store_core.specs.Lookups.{pass_of, first_garbage}
use Rattle.store_core.specs.Note.{Note}
use Rattle.store_core.specs.PlaceLaws.{new_point}
use Rattle.store_core.specs.Server.{Server, raised_by, hold, gives, found_at, install, made_at_server, server_unless_short}
use Rattle.store_core.specs.Step.{Places, at_server_there, at_places}
use Rattle.store_core.specs.Sweep.{Sweeper, next_sweep}
use Rattle.store_core.specs.Told.{Told}
use Rattle.run_laws.specs.Answers.{Answers}
use Rattle.run_laws.proofs.Runs.{IsOperatorAct}
use Rattle.run_laws.proofs.Passes.{pass_is}
use Rattle.history_laws.proofs.ToldPoints.{Adds, PointTold}
use Rattle.history_laws.specs.Trace.{Made}
use Rattle.history_laws.specs.Moments.{Happened}
use Rattle.history_laws.proofs.Past.{last, on}

-- a step that makes a point
abbrev pub makes_point : Made → Bool
makes_point made = is_some (new_point made.answer)

-- how many points were made
abbrev pub points_in : List Made → ℕ
points_in trace = length (filter makes_point trace)

-- whose step made a point
abbrev pub MadeBy : Event → Point → Made → Type 0
MadeBy Event.Reaped point made = made.act ≡ Act.AtDirectory (DirectoryStep.Reap point.actor)
MadeBy event point made = (made.who ≡ point.actor) × (made.number ≡ point.number)

abbrev pub Makes : ℕ → Point → List Made → Made → Type 0
Makes place point before made = (new_point made.answer ≡ Some place) × (points_in before ≡ place) × MadeBy point.event point made

pub record PointsThen (trace : List Made) (points : List Point) : Type 0 where
  pub size : length points ≡ points_in trace
  pub made : (place : ℕ) (point : Point) → slice_get points place ≡ Some point → Happened trace (Makes place point)

-- ---- one step more
one_more : (trace : List Made) (made : Made) (found : Option ℕ) → new_point made.answer ≡ found → points_in (trace ++ made ∷ []) ≡ points_in trace + length (cond {A = List Made} (is_some found) (made ∷ []) [])
one_more trace made found is =
    ap (λ (l : List Made). length l) (filter-append makes_point trace (made ∷ [])) ∙ length-append (filter makes_point trace) (filter makes_point (made ∷ []))
    ∙ ap (λ (o : Option ℕ). points_in trace + length (cond {A = List Made} (is_some o) (made ∷ []) [])) is

pub no_point : (trace : List Made) (made : Made) (points : List Point) → new_point made.answer ≡ None → PointsThen trace points → PointsThen (trace ++ made ∷ []) points
no_point trace made points none h =
    record {
      size = h.size ∙ (let e : points_in (trace ++ made ∷ []) ≡ points_in trace + 0 = one_more trace made None none in let same : points_in trace ≡ points_in (trace ++ made ∷ []) = omega (arith, e) in same);
      made = λ place point e. on (Makes place point) trace (made ∷ []) (h.made place point e);
    }

-- what stands in a list with one more
pushed : (points : List Point) (more : Point) (place : ℕ) (point : Point) → slice_get (points ++ more ∷ []) place ≡ Some point → (slice_get points place ≡ Some point) ⊎ ((place ≡ length points) × (more ≡ point))
pushed [] more zero point e = inr (refl, same_Some more point e)
pushed [] more (suc place) point e = absurd (none-some point e)
pushed (first ∷ points) more zero point e = inl e
pushed (first ∷ points) more (suc place) point e = by (pushed points more place point e)
  where
    by : (slice_get points place ≡ Some point) ⊎ ((place ≡ length points) × (more ≡ point)) → (slice_get points place ≡ Some point) ⊎ ((suc place ≡ suc (length points)) × (more ≡ point))
    by (inl k) = inl k
    by (inr k) = inr (ap suc k.0, k.1)

pub one_point : (trace : List Made) (made : Made) (points : List Point) (new : Point) → new_point made.answer ≡ Some (length points) → MadeBy new.event new made → PointsThen trace points
    → PointsThen (trace ++ made ∷ []) (points ++ new ∷ [])
one_point trace made points new is by_it h =
    record {
      size = length-append points (new ∷ []) ∙ (let e : points_in (trace ++ made ∷ []) ≡ points_in trace + 1 = one_more trace made (Some (length points)) is in let size : length points ≡ points_in trace = h.size in let same : length points + 1 ≡ points_in (trace ++ made ∷ []) = omega (arith, e, size) in same);
      made = λ place point e. either place point (pushed points new place point e);
    }
  where
    either : (place : ℕ) (point : Point) → (slice_get points place ≡ Some point) ⊎ ((place ≡ length points) × (new ≡ point)) → Happened (trace ++ made ∷ []) (Makes place point)
    either place point (inl k) = on (Makes place point) trace (made ∷ []) (h.made place point k)
    either place point (inr k) =
        subst (λ n. Happened (trace ++ made ∷ []) (Makes n point)) (sym k.0)
        (subst (λ p. Happened (trace ++ made ∷ []) (Makes (length points) p)) k.1 (last (Makes (length points) new) trace made (is, sym h.size, by_it)))

-- ---- a step of a call
abbrev pub NotGivenUp : Told → Type 0
NotGivenUp (Told.GivenUp point) = ⊥
NotGivenUp answer = Unit {0}

pub not_given : (pins touched : ℕ) (a : Act) (answer : Told) → Answers pins touched a answer → NotGivenUp answer
not_given pins touched (Act.AtDirectory (DirectoryStep.Look note)) (Told.GivenUp point) h = absurd h
not_given pins touched (Act.AtDirectory step) (Told.GivenUp point) h = absurd h
not_given pins touched (Act.AtServer server (ServerStep.Prepare version)) (Told.GivenUp point) h = absurd h
not_given pins touched (Act.AtServer server step) (Told.GivenUp point) h = absurd h
not_given pins touched (Act.Finish outcome) (Told.GivenUp point) h = absurd h
not_given pins touched a answer h = tt

module _ (trace : List Made) (made : Made) (before after : List Point) (note : Note) (h : PointsThen trace before) where
  adds : (event : Event) (place : ℕ) → Adds made.who made.number note event place before after → new_point made.answer ≡ Some place
      → MadeBy event (record { actor = made.who; number = made.number; note = note; event = event }) made → PointsThen (trace ++ made ∷ []) after
  adds event place a is by_it =
      subst (PointsThen (trace ++ made ∷ [])) (sym a.added)
      (one_point trace made before (record { actor = made.who; number = made.number; note = note; event = event }) (is ∙ ap Some a.is_place) by_it h)

  same : after ≡ before → new_point made.answer ≡ None → PointsThen (trace ++ made ∷ []) after
  same e none = subst (PointsThen (trace ++ made ∷ [])) (sym e) (no_point trace made before none h)

  pub call_points : (answer : Told) → made.answer ≡ answer → PointTold made.who made.number note before after answer → NotGivenUp answer → PointsThen (trace ++ made ∷ []) after
  call_points (Told.Answer point given) is told given_up = adds (Event.Answer given) point told (ap new_point is) (refl, refl)
  call_points (Told.Pinned point length_now stripes) is told given_up = adds Event.Pinned point told (ap new_point is) (refl, refl)
  call_points (Told.Done point) is told given_up = adds Event.Done point told (ap new_point is) (refl, refl)
  call_points (Told.GivenUp point) is told given_up = absurd given_up
  call_points (Told.Ready base length_now stripes) is told given_up = same told (ap new_point is)
  call_points Told.NoSuch is told given_up = same told (ap new_point is)
  call_points (Told.PinnedStripe seen) is told given_up = same told (ap new_point is)
  call_points (Told.Versions versions) is told given_up = same told (ap new_point is)
  call_points (Told.Changed base newer) is told given_up = same told (ap new_point is)
  call_points Told.Ended is told given_up = same told (ap new_point is)
  call_points Told.Current is told given_up = same told (ap new_point is)
  call_points (Told.Superseded newer) is told given_up = same told (ap new_point is)
  call_points (Told.Reaped point) is told given_up = same told (ap new_point is)
  call_points (Told.Taken version) is told given_up = same told (ap new_point is)
  call_points (Told.Prepared row) is told given_up = same told (ap new_point is)
  call_points Told.Settled is told given_up = same told (ap new_point is)
  call_points Told.Here is told given_up = same told (ap new_point is)
  call_points (Told.Missing reason) is told given_up = same told (ap new_point is)
  call_points (Told.Given layers) is told given_up = same told (ap new_point is)
  call_points (Told.Placed epoch) is told given_up = same told (ap new_point is)
  call_points Told.AlreadyThere is told given_up = same told (ap new_point is)
  call_points (Told.Away downs) is told given_up = same told (ap new_point is)
  call_points Told.Made is told given_up = same told (ap new_point is)
  call_points Told.NotMade is told given_up = same told (ap new_point is)
  call_points Told.Short is told given_up = same told (ap new_point is)
  call_points Told.Gathered is told given_up = same told (ap new_point is)

-- ---- a step at a server makes none
abbrev NoPoint : Server × Told → Type 0
NoPoint after = new_point after.1 ≡ None

server_made : (step : ServerStep) (s : Server) → NoPoint (made_at_server step s)
server_made (ServerStep.Prepare version) s =
    cond_both {A = Server × Told} s.away (s, Told.Prepared (placement.Skipped s.downs)) (record s { held = hold version s.held }, Told.Prepared (placement.At s.epoch)) NoPoint (λ _. refl) (λ _. refl)
server_made (ServerStep.Settle version) s = refl
server_made (ServerStep.Has version) s = cond_both {A = Server × Told} (gives version s) (s, Told.Here) (s, Told.Missing (found_at s)) NoPoint (λ _. refl) (λ _. refl)
server_made (ServerStep.Fetch version layers) s =
    cond_both {A = Server × Told} (gives version s) (record s { taken = raised_by (length layers) s.taken }, Told.Given (length layers)) (s, Told.Missing (found_at s)) NoPoint (λ _. refl) (λ _. refl)
server_made (ServerStep.Install version) s = by s.away (is_among version s.held)
  where
    by : (away there : Bool) → NoPoint (install away there version s)
    by true there = refl
    by false true = refl
    by false false = refl
server_made (ServerStep.Discard version) s = refl
server_made ServerStep.Wipe s = refl
server_made ServerStep.Down s = refl
server_made ServerStep.Up s = refl

server_short : (short takes : Bool) (step : ServerStep) (s : Server) → NoPoint (server_unless_short short takes step s)
server_short true true step s = refl
server_short true false step s = server_made step s
server_short false true step s = server_made step s
server_short false false step s = server_made step s

pub server_no_point : (short : Bool) (n : ℕ) (step : ServerStep) (places : Places) (found : Option Server) → new_point (at_server_there short n step places found).1 ≡ None
server_no_point short n step places None = refl
server_no_point short n step places (Some s) = server_short short (server_takes_memory step) step s

pub server_same : (short : Bool) (n : ℕ) (step : ServerStep) (places : Places) (found : Option Server) → (at_server_there short n step places found).0.directory ≡ places.directory
server_same short n step places None = refl
server_same short n step places (Some s) = refl

-- ---- a step of the sweeper or the operator
pub sweeper_act : (servers : ℕ) (sweeper : Sweeper) → IsOperatorAct (next_sweep servers sweeper)
sweeper_act servers Sweeper.Idle = tt
sweeper_act servers (Sweeper.Sweeping version server) =
    cond_both {A = Act} (nat_lt server servers) (Act.AtServer server (ServerStep.Discard version)) (Act.AtDirectory (DirectoryStep.Swept version)) IsOperatorAct (λ _. tt) (λ _. tt)

module _ (trace : List Made) (made : Made) (d : Directory) (h : PointsThen trace d.points) where
  taken_points : (found : Option ℕ) → made.answer ≡ (take_garbage found d).1 → PointsThen (trace ++ made ∷ []) (take_garbage found d).0.points
  taken_points None is = no_point trace made d.points (ap new_point is) h
  taken_points (Some version) is = no_point trace made d.points (ap new_point is) h

  reaped_points : (target : Actor) → made.act ≡ Act.AtDirectory (DirectoryStep.Reap target) → (found : Option Pass) → pass_of target d ≡ found → made.answer ≡ (reap found d).1 → PointsThen (trace ++ made ∷ []) (reap found d).0.points
  reaped_points target act None e is = no_point trace made d.points (ap new_point is) h
  reaped_points target act (Some pass) e is = by pass.reaped is
    where
      by : (reaped : Option ℕ) → made.answer ≡ (reap_pass pass reaped d).1 → PointsThen (trace ++ made ∷ []) (reap_pass pass reaped d).0.points
      by (Some point) k = no_point trace made d.points (ap new_point k) h
      by None k =
          one_point trace made d.points (record { actor = pass.actor; number = pass.number; note = pass.note; event = Event.Reaped }) (ap new_point k)
          (subst (λ who. made.act ≡ Act.AtDirectory (DirectoryStep.Reap who)) (pass_is target d pass e) act) h

pub others_points : (trace : List Made) (who : Actor) (places : Places) (a : Act) → IsOperatorAct a → PointsThen trace places.directory.points
    → PointsThen (trace ++ record { who = who; number = 0; short = false; act = a; answer = (at_places false who 0 a places).1 } ∷ []) (at_places false who 0 a places).0.directory.points
others_points trace who places (Act.AtDirectory DirectoryStep.NextGarbage) is h = taken_points trace _ places.directory h (first_garbage places.directory) refl
others_points trace who places (Act.AtDirectory (DirectoryStep.Swept version)) is h = no_point trace _ places.directory.points refl h
others_points trace who places (Act.AtDirectory (DirectoryStep.Reap target)) is h = reaped_points trace _ places.directory h target refl (pass_of target places.directory) refl refl
others_points trace who places (Act.AtDirectory step) is h = absurd is
others_points trace who places (Act.AtServer n step) is h =
    subst (λ (d : Directory). PointsThen (trace ++ record { who = who; number = 0; short = false; act = Act.AtServer n step; answer = (at_server_there false n step places (slice_get places.servers n)).1 } ∷ []) d.points) (sym (server_same false n step places (slice_get places.servers n)))
    (no_point trace _ places.directory.points (server_no_point false n step places (slice_get places.servers n)) h)
others_points trace who places (Act.Finish outcome) is h = absurd is

-- The servers that a read finds without their chunks, step by step.
use Rattle.std.specs.Prelude.{⊤}
use Rattle.std.proofs.Common.{◌≡◌, ℕ, zero, suc, ◌-◌, ◌/◌, Bool, true, false, nat_lt, List, [], ◌∷◌, ◌++◌, length, map, get_or, take, drop, All, Contains, Option, None, Some, refl, sym, ap, subst, ◌∙◌, if◌then◌else◌}
use Rattle.std.proofs.lemmas.Bool.{true≢false}
use Rattle.std.proofs.lemmas.List.Elements.{All-nil, All-cons, All-head, All-tail, All-push, All-weaker, All-map, All-take, All-drop, All-contains_itself, Contains-append_left, Contains-push}
use Rattle.clay_grid.specs.Shape.{Shape}
use Rattle.clay_grid.specs.Repair.{all_layers, repair_layers_of}
use Rattle.store_map.specs.Limits.{stripes_met}
use Rattle.store_map.specs.declared.placement.Found.{Found}
use Rattle.store_map.specs.declared.placement.Found.TheVariants as found
use Rattle.store_map.specs.declared.placement.Placement.TheVariants as placement
use Rattle.store_core.specs.Told.{Seen, Lost, Told}
use Rattle.store_core.specs.Act.{ServerStep}
use Rattle.store_core.specs.Gathering.{Part, servers_but, lost_at}
use Rattle.store_core.specs.GatheringParts.{chunks_in_range}
use Rattle.store_core.specs.Read.{part_of}
use Rattle.store_core.specs.Server.{Server, gives, found_at, raised_by, at_server}
use Rattle.run_laws.specs.Stage.{Aim, Asking, Stage, seen_of}
use Rattle.run_laws.specs.StageAfter.{wanted_layers, server_asked, step_asked, stage_after, next_stage, with_lost, without_target}
use Rattle.run_laws.specs.Stages.{unless_many, whole_stage, repair_stage, recover_stage, make_stage, look_stage, data_stage, fetch_stage, fetch_stage_of, first_stage}
use Rattle.run_laws.specs.State.{Sequel, State}
use Rattle.run_laws.specs.States.{stage_state, open_parts, open_state, parts_state}
use Rattle.version_seal.specs.Entry.{StampOf}
use Rattle.call_steps.specs.declared.seen.Seen.{Seen as SeenStripe}
use Rattle.stripe_stamps.specs.SeenStripes.{seen_in}
use Rattle.gathering.specs.Gathers.{GatherOf, stepped_at}
use Rattle.gather_parts.specs.Wanted.{Wanted, parts_of}
use Rattle.gather_parts.specs.Gatherings.{GatheringsOf}
use Rattle.gather_parts.specs.Progress.{progress_at, progress_by, progress_of}
use Rattle.gather_parts.specs.States.{state_in, state_by}
use Rattle.gather_parts.specs.Steps.{stepped_by}
use Rattle.gather_parts.specs.declared.progress.Progress.{Progress}
use Rattle.gather_parts.specs.declared.progress.Progress.TheVariants as progress
use Rattle.snapshot_view.specs.Met.{met_by, told_seen}
use Rattle.snapshot_view.specs.Reads.{ReadOf}
use Rattle.snapshot_view.specs.ReadSteps.{EndsAs}
use Rattle.snapshot_view.specs.InTime.{Asked, WasFound, found_so_far, HasFoundAt, HasFound, version_by, NamesFound, ReadsFindInTime}
use Rattle.snapshot_view.specs.declared.read_outcomes.SnapOutcome.{SnapOutcome}
use Rattle.snapshot_view.specs.declared.read_outcomes.SnapOutcome.TheVariants as outcome
use Rattle.snapshot_view.proofs.Needs.{asks_by}

-- ---- what a server answers, by whether it gives the chunk
abbrev answered_whether : Server → Bool → Server × Told
answered_whether s b = if b then (s, Told.Here) else (s, Told.Missing (found_at s))

abbrev answered_for : Server → ℕ → Bool → Server × Told
answered_for s layers b = if b then (record s { taken = raised_by layers s.taken }, Told.Given layers) else (s, Told.Missing (found_at s))

-- ---- what a gathering has found at a stage
module _ (g : Shape) (P : Lost → Type 0) where
  abbrev Finds : Stage → Type 0
  Finds (Stage.Asks asking) = All P (found_so_far asking)
  Finds (Stage.TooMany missing) = All P missing
  Finds stage = ⊤

  of_whole : (servers : List ℕ) (wanted : ℕ) (missing : List Lost) → All P missing → Finds (whole_stage g servers wanted missing)
  of_whole servers zero missing all = tt
  of_whole [] (suc wanted) missing all = all
  of_whole (server ∷ more) (suc wanted) missing all = all

  of_repair : (servers : List ℕ) (lost : Lost) → P lost → Finds (repair_stage g servers lost)
  of_repair [] lost is = tt
  of_repair (server ∷ more) lost is = All-cons P lost [] is (All-nil P)

  of_recover : (seen : Seen) (missing : List Lost) → All P missing → Finds (recover_stage g seen missing)
  of_recover seen missing all = of_whole (servers_but g seen (map (λ (lost : Lost). lost.server) missing)) g.data_count missing all

  of_make : (seen : Seen) (missing : List Lost) → All P missing → Finds (make_stage g seen missing)
  of_make seen [] all = tt
  of_make seen (lost ∷ []) all = of_repair (servers_but g seen (lost.server ∷ [])) lost (All-head P lost [] all)
  of_make seen (lost ∷ other ∷ more) all = of_recover seen (lost ∷ other ∷ more) all

  of_look : (seen : Seen) (servers : List ℕ) (missing : List Lost) → All P missing → Finds (look_stage g seen servers missing)
  of_look seen [] missing all = of_make seen missing all
  of_look seen (server ∷ more) missing all = all

  of_data : (part : Part) (missing : List Lost) → All P missing → Finds (data_stage g part missing)
  of_data part [] all = tt
  of_data part (lost ∷ more) all = of_look part.seen (servers_but g part.seen (chunks_in_range g part.start part.end)) (lost ∷ more) all

  of_fetch : (part : Part) (servers : List ℕ) (missing : List Lost) → All P missing → Finds (fetch_stage g part servers missing)
  of_fetch part [] missing all = of_data part missing all
  of_fetch part (server ∷ more) missing all = all

  of_fetch_by : (aim : Aim) (more : List ℕ) (missing : List Lost) → All P missing → Finds (fetch_stage_of g aim more missing)
  of_fetch_by (Aim.Range part) more missing all = of_fetch part more missing all
  of_fetch_by (Aim.Chunk seen target) more missing all = of_look seen (servers_but g seen (target ∷ [])) missing all

  of_many : (missing : List Lost) (otherwise : Stage) → All P missing → Finds otherwise → Finds (unless_many g missing otherwise)
  of_many missing otherwise all finds = by (nat_lt g.parity_count (length missing))
    where
      by : (b : Bool) → Finds (if b then Stage.TooMany missing else otherwise)
      by true = all
      by false = finds

  of_target : (aim : Aim) (target : ℕ) (reason : Found) → P (lost_at g (seen_of aim) target reason) → Finds (without_target g aim target reason)
  of_target aim target (found.Absent epoch) is =
      of_look (seen_of aim) (servers_but g (seen_of aim) (target ∷ [])) (lost_at g (seen_of aim) target (found.Absent epoch) ∷ []) (All-cons P (lost_at g (seen_of aim) target (found.Absent epoch)) [] is (All-nil P))
  of_target aim target (found.Away downs) is = tt

  -- ---- after an answer
  asked_whether : (version : ℕ) (short : Bool) (s : Server) (after : Told → Stage) → Finds (after Told.Here) → (gives version s ≡ false → Finds (after (Told.Missing (found_at s)))) →
      Finds (after (at_server short (ServerStep.Has version) s).1)
  asked_whether version short s after here missing = by short
    where
      either : (b : Bool) → gives version s ≡ b → Finds (after (answered_whether s b).1)
      either true is = here
      either false is = missing is

      by : (short : Bool) → Finds (after (at_server short (ServerStep.Has version) s).1)
      by true = either (gives version s) refl
      by false = either (gives version s) refl

  asked_for : (version : ℕ) (layers : List ℕ) (short : Bool) (s : Server) (after : Told → Stage) → Finds (after Told.Short) → Finds (after (Told.Given (length layers))) →
      (gives version s ≡ false → Finds (after (Told.Missing (found_at s)))) → Finds (after (at_server short (ServerStep.Fetch version layers) s).1)
  asked_for version layers short s after none given missing = by short
    where
      either : (b : Bool) → gives version s ≡ b → Finds (after (answered_for s (length layers) b).1)
      either true is = given
      either false is = missing is

      by : (short : Bool) → Finds (after (at_server short (ServerStep.Fetch version layers) s).1)
      by true = none
      by false = either (gives version s) refl

  module _ (aim : Aim) (short : Bool) (s : Server) where
    abbrev answer : Asking → Told
    answer asking = (at_server short (step_asked g aim asking) s).1

    -- the server that was asked is found, or none is
    after_step : (asking : Asking) → All P (found_so_far asking) → (gives (seen_of aim).version s ≡ false → P (lost_at g (seen_of aim) (server_asked g aim asking) (found_at s))) →
        Finds (stage_after g aim asking (answer asking))
    after_step (Asking.Fetch server more missing) all one =
        asked_for (seen_of aim).version (wanted_layers g aim server) short s (stage_after g aim (Asking.Fetch server more missing)) tt (of_fetch_by aim more missing all)
        (λ lacks.
        let more_found : All P (with_lost g aim missing server (found_at s)) = All-push P missing (lost_at g (seen_of aim) server (found_at s)) all (one lacks) in
        of_many (with_lost g aim missing server (found_at s)) (fetch_stage_of g aim more (with_lost g aim missing server (found_at s))) more_found (of_fetch_by aim more (with_lost g aim missing server (found_at s)) more_found))
    after_step (Asking.Look server more missing) all one =
        asked_whether (seen_of aim).version short s (stage_after g aim (Asking.Look server more missing)) (of_look (seen_of aim) more missing all)
        (λ lacks.
        let more_found : All P (with_lost g aim missing server (found_at s)) = All-push P missing (lost_at g (seen_of aim) server (found_at s)) all (one lacks) in
        of_many (with_lost g aim missing server (found_at s)) (look_stage g (seen_of aim) more (with_lost g aim missing server (found_at s))) more_found (of_look (seen_of aim) more (with_lost g aim missing server (found_at s)) more_found))
    after_step (Asking.Repair server more lost) all one =
        asked_for (seen_of aim).version (repair_layers_of g lost.server) short s (stage_after g aim (Asking.Repair server more lost)) tt (of_repair more lost (All-head P lost [] all))
        (λ lacks.
        let more_found : All P (with_lost g aim (lost ∷ []) server (found_at s)) = All-push P (lost ∷ []) (lost_at g (seen_of aim) server (found_at s)) all (one lacks) in
        of_many (with_lost g aim (lost ∷ []) server (found_at s)) (recover_stage g (seen_of aim) (with_lost g aim (lost ∷ []) server (found_at s))) more_found (of_recover (seen_of aim) (with_lost g aim (lost ∷ []) server (found_at s)) more_found))
    after_step (Asking.Whole server more wanted missing) all one =
        asked_for (seen_of aim).version (all_layers g) short s (stage_after g aim (Asking.Whole server more wanted missing)) tt (of_whole more wanted missing all)
        (λ lacks.
        let more_found : All P (with_lost g aim missing server (found_at s)) = All-push P missing (lost_at g (seen_of aim) server (found_at s)) all (one lacks) in
        of_many (with_lost g aim missing server (found_at s)) (whole_stage g more (suc wanted) (with_lost g aim missing server (found_at s))) more_found (of_whole more (suc wanted) (with_lost g aim missing server (found_at s)) more_found))
    after_step (Asking.Target server) all one =
        asked_whether (seen_of aim).version short s (stage_after g aim (Asking.Target server)) tt (λ lacks. of_target aim server (found_at s) (one lacks))

-- ---- where a read stands
module _ (stripes : List Seen) (g : Shape) where
  abbrev AreIts : List Part → Type 0
  AreIts parts = All (λ one. Contains stripes one.seen) parts

  at_stage : (asked : List Asked) (aim : Aim) (parts : List Part) (stage : Stage) (bytes : State) → Contains stripes (seen_of aim) → AreIts parts → HasFoundAt stripes asked bytes →
      Finds g (WasFound asked (seen_of aim)) stage → HasFoundAt stripes asked (stage_state bytes aim parts (Sequel.Serve 0) stage)
  at_stage asked aim parts (Stage.Asks asking) bytes its are opened finds = (its, finds, are)
  at_stage asked aim parts Stage.HasBytes bytes its are opened finds = opened
  at_stage asked aim parts (Stage.TooMany missing) bytes its are opened finds = record { seen = seen_of aim; its = its; of_stripe = refl; found = finds }
  at_stage asked aim parts Stage.AtTarget bytes its are opened finds = tt
  at_stage asked aim parts (Stage.TargetAway downs) bytes its are opened finds = tt
  at_stage asked aim parts Stage.Short bytes its are opened finds = tt

  opened : (asked : List Asked) (parts : List Part) → AreIts parts → HasFoundAt stripes asked (open_parts g parts (Sequel.Serve 0))
  opened asked [] are = tt
  opened asked (part ∷ parts) are =
      at_stage asked (Aim.Range part) parts (first_stage g (Aim.Range part)) (open_parts g parts (Sequel.Serve 0)) (All-head (λ one. Contains stripes one.seen) part parts are)
      (All-tail (λ one. Contains stripes one.seen) part parts are) (opened asked parts (All-tail (λ one. Contains stripes one.seen) part parts are))
      (of_fetch g (WasFound asked part.seen) part (chunks_in_range g part.start part.end) [] (All-nil (WasFound asked part.seen)))

  -- a read that asked nobody yet has found none
  pub first_found : (asked : List Asked) (parts : List Part) → AreIts parts → HasFoundAt stripes asked (open_state g (parts_state parts (Sequel.Serve 0)))
  first_found asked [] are = tt
  first_found asked (part ∷ parts) are = opened asked (part ∷ parts) are

-- ---- a step
abbrev asks : Progress → Bool
asks (progress.Asks server) = true
asks at = false

abbrev number_of : Progress → ℕ
number_of (progress.Asks server) = server
number_of at = 0

module _ (stripes : List Seen) (asked : List Asked) (p : GatheringsOf) (number : ℕ) (short : Bool) (s : Server) where
  abbrev g : Shape
  g = p.book.geometry

  -- with the step that is made now
  abbrev then_asked : Option GatherOf → List Asked
  then_asked current = asked ++ record { number = number; version = version_by current; server = s } ∷ []

  module _ (w : GatherOf) where
    abbrev seen : Seen
    seen = seen_of w.course.aim

    found_now : gives seen.version s ≡ false → (server : ℕ) → server ≡ number → WasFound (then_asked (Some w)) seen (lost_at w.course.geometry seen server (found_at s))
    found_now lacks server same = record {
      step = record { number = number; version = seen.version; server = s };
      made = Contains-push asked (record { number = number; version = seen.version; server = s });
      version = refl;
      server = same;
      lacks = lacks;
      found = refl;
      placed = ap (λ n. get_or seen.placed n (placement.At 0)) same;
    }

    still_found : (lost : Lost) → WasFound asked seen lost → WasFound (then_asked (Some w)) seen lost
    still_found lost is = record {
      step = is.step;
      made = Contains-append_left asked (record { number = number; version = seen.version; server = s } ∷ []) is.step is.made;
      version = is.version;
      server = is.server;
      lacks = is.lacks;
      found = is.found;
      placed = is.placed;
    }

    -- a gathering that asks
    asks_now : (asking : Asking) → server_asked g w.course.aim asking ≡ number → HasFoundAt stripes asked (State.Gather w.course.aim asking (parts_of p.left) (Sequel.Serve 0)) →
        HasFoundAt stripes (then_asked (Some w)) (stage_state (open_parts g (parts_of p.left) (Sequel.Serve 0)) w.course.aim (parts_of p.left) (Sequel.Serve 0) (stage_after w.course.geometry w.course.aim asking (at_server short (step_asked w.course.geometry w.course.aim asking) s).1))
    asks_now asking same has =
        at_stage stripes g (then_asked (Some w)) w.course.aim (parts_of p.left) (stage_after w.course.geometry w.course.aim asking (at_server short (step_asked w.course.geometry w.course.aim asking) s).1) (open_parts g (parts_of p.left) (Sequel.Serve 0)) has.0 has.2
        (opened stripes g (then_asked (Some w)) (parts_of p.left) has.2)
        (after_step w.course.geometry (WasFound (then_asked (Some w)) seen) w.course.aim short s asking (All-weaker (WasFound asked seen) (WasFound (then_asked (Some w)) seen) still_found (found_so_far asking) has.1)
        (λ lacks. found_now lacks (server_asked w.course.geometry w.course.aim asking) (same_asked asking ∙ same)))
      where
        same_asked : (asking : Asking) → server_asked w.course.geometry w.course.aim asking ≡ server_asked g w.course.aim asking
        same_asked (Asking.Fetch server more missing) = refl
        same_asked (Asking.Look server more missing) = refl
        same_asked (Asking.Repair server more lost) = refl
        same_asked (Asking.Whole server more wanted missing) = refl
        same_asked (Asking.Target server) = refl

    by_stage : (stage : Stage) → w.course.stage ≡ stage → progress_at g w.course.aim w.course.stage ≡ progress.Asks number → HasFoundAt stripes asked (state_by g (parts_of p.left) (Sequel.Serve 0) (Some w)) →
        HasFoundAt stripes (then_asked (Some w)) (state_by g (parts_of p.left) (Sequel.Serve 0) (Some (stepped_at w short s p.takes stage).1))
    by_stage (Stage.Asks asking) is at has =
        subst (λ (stage : Stage). HasFoundAt stripes (then_asked (Some w)) (stage_state (open_parts g (parts_of p.left) (Sequel.Serve 0)) w.course.aim (parts_of p.left) (Sequel.Serve 0) (next_stage w.course.geometry w.course.aim stage (at_server short (step_asked w.course.geometry w.course.aim asking) s).1))) (sym is)
        (asks_now asking (ap number_of (sym (ap (progress_at g w.course.aim) is) ∙ at))
        (subst (λ (stage : Stage). HasFoundAt stripes asked (stage_state (open_parts g (parts_of p.left) (Sequel.Serve 0)) w.course.aim (parts_of p.left) (Sequel.Serve 0) stage)) is has))
    by_stage Stage.HasBytes is at has = absurd (true≢false (ap asks (sym at ∙ ap (progress_at g w.course.aim) is)))
    by_stage (Stage.TooMany missing) is at has = absurd (true≢false (ap asks (sym at ∙ ap (progress_at g w.course.aim) is)))
    by_stage Stage.AtTarget is at has = absurd (true≢false (ap asks (sym at ∙ ap (progress_at g w.course.aim) is)))
    by_stage (Stage.TargetAway downs) is at has = absurd (true≢false (ap asks (sym at ∙ ap (progress_at g w.course.aim) is)))
    by_stage Stage.Short is at has = absurd (true≢false (ap asks (sym at ∙ ap (progress_at g w.course.aim) is)))

  by_current : (current : Option GatherOf) → progress_by g current p.left ≡ progress.Asks number → HasFoundAt stripes asked (state_by g (parts_of p.left) (Sequel.Serve 0) current) →
      HasFoundAt stripes (then_asked current) (state_in (stepped_by current p short s).1 (Sequel.Serve 0))
  by_current None at has = absurd (nobody p.left at)
    where
      nobody : (left : List Wanted) → progress_by g None left ≡ progress.Asks number → ⊥
      nobody [] at = true≢false (sym (ap asks at))
      nobody (wanted ∷ left) at = true≢false (sym (ap asks at))
  by_current (Some w) at has = by_stage w w.course.stage refl at has

pub reads_find_in_time : ReadsFindInTime
reads_find_in_time stripes asked r number short s needs has =
    by_current stripes asked r.gatherings number short s r.gatherings.current (asks_by r.ended (progress_of r.gatherings) number needs).1 has

-- ---- an end
pub names_found : (stripes : List Seen) (asked : List Asked) (r : ReadOf) (ended : SnapOutcome) → EndsAs r ended → HasFound stripes asked r → NamesFound stripes asked ended
names_found stripes asked r (outcome.Bytes bytes) ends has = tt
names_found stripes asked r outcome.NoSuch ends has = tt
names_found stripes asked r outcome.OutRange ends has = tt
names_found stripes asked r (outcome.Unavailable stripe missing) ends has = subst (HasFoundAt stripes asked) (ends.1 (Sequel.Serve 0)) has
names_found stripes asked r outcome.NoMemory ends has = tt

-- ---- the stripes that a read gathers are of its object
each_of : {X Y : Type 0} (P : Y → Type 0) (f : X → Y) (xs : List X) → All P (map f xs) → All (λ x. P (f x)) xs
each_of P f [] all = All-nil (λ x. P (f x))
each_of P f (x ∷ xs) all = All-cons (λ x. P (f x)) x xs (All-head P (f x) (map f xs) all) (each_of P f xs (All-tail P (f x) (map f xs) all))

first_parts : (xs : List SeenStripe) → map (λ (told : Seen × StampOf). told.0) (map told_seen xs) ≡ map seen_in xs
first_parts [] = refl
first_parts (x ∷ xs) = ap (λ l. seen_in x ∷ l) (first_parts xs)

pub its_parts : (g : Shape) (stripe_len start end : ℕ) (stripes copies : List SeenStripe) → map told_seen copies ≡ map told_seen (met_by stripe_len start end stripes) →
    All (λ (one : Part). Contains (map seen_in stripes) one.seen) (map (part_of g start end) (map seen_in copies))
its_parts g stripe_len start end stripes copies same =
    All-map (λ (one : Part). Contains (map seen_in stripes) one.seen) (part_of g start end) (map seen_in copies)
    (subst (All (Contains (map seen_in stripes))) (sym same_seen)
    (All-map (Contains (map seen_in stripes)) seen_in (met_by stripe_len start end stripes)
    (All-take (λ seen. Contains (map seen_in stripes) (seen_in seen)) (stripes_met stripe_len start (end - start)) (drop (start / stripe_len) stripes)
    (All-drop (λ seen. Contains (map seen_in stripes) (seen_in seen)) (start / stripe_len) stripes
    (each_of (Contains (map seen_in stripes)) seen_in stripes (All-contains_itself (map seen_in stripes)))))))
  where
    same_seen : map seen_in copies ≡ map seen_in (met_by stripe_len start end stripes)
    same_seen = sym (first_parts copies) ∙ ap (map (λ (told : Seen × StampOf). told.0)) same ∙ first_parts (met_by stripe_len start end stripes)

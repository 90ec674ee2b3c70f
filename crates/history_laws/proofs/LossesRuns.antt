-- In every run each placed chunk is held, or its server was emptied since, and calls were told so.
use Rattle.std.proofs.Common.{◌≡◌, ℕ, zero, suc, ◌+◌, ◌^◌, ◌<◌, Bool, true, false, cond, nat_eq, nat_lt, List, [], ◌∷◌, ◌++◌, length, Option, None, Some, option_map, IfSome, ◌⊎◌, inl, inr, refl, sym, ap, subst, ◌∙◌, arith, true≢false, length-append}
use Rattle.std.proofs.lemmas.Bool.{cond_both, eqb-true}
use Rattle.std.proofs.lemmas.List.{append_assoc, append-nil}
use Rattle.std.proofs.lemmas.Option.{none-some, same_Some}
use Rattle.std.specs.List.{slice_get}
use Rattle.clay_grid.specs.Shape.{Shape, chunk_count}
use Rattle.store_map.specs.Limits.{size_of, tries_of}
use Rattle.store_map.specs.declared.actor.Actor.{Actor}
use Rattle.store_map.specs.declared.actor.Actor.TheVariants as actor
use Rattle.store_map.specs.declared.actor.Token.{Token}
use Rattle.store_map.specs.declared.actor.Token.TheVariants as token
use Rattle.store_map.specs.declared.placement.Placement.{Placement}
use Rattle.store_map.specs.declared.script.Script.{Script}
use Rattle.store_core.specs.Act.{Act, DirectoryStep, ServerStep}
use Rattle.store_core.specs.AtDirectory.{reap_pass, reap, at_directory, take_garbage}
use Rattle.store_core.specs.Bounds.{touched_count}
use Rattle.store_core.specs.Core.{Core, first_core}
use Rattle.store_core.specs.Directory.{Standing, Version, Pass, Directory}
use Rattle.store_core.specs.Lists.{change_at}
use Rattle.store_core.specs.Lookups.{same_actor, pass_of, first_garbage}
use Rattle.store_core.specs.NextAct.{Job, next_act}
use Rattle.store_core.specs.Note.{Kind}
use Rattle.store_core.specs.PlaceLaws.{KeepsPlaces}
use Rattle.store_core.specs.Run.{places_in}
use Rattle.store_core.specs.Schedule.{run_core}
use Rattle.store_core.specs.Server.{Server, new_server, at_server}
use Rattle.store_core.specs.Sound.{IsSound}
use Rattle.store_core.specs.Step.{Shortage, Places, at_places, at_server_there, take_from, ended_by, actor_step}
use Rattle.store_core.specs.Sweep.{Sweeper, next_sweep, after_sweep, after_taken}
use Rattle.store_core.specs.Tell.{tell}
use Rattle.store_core.specs.Told.{Told}
use Rattle.store_core.specs.Work.{Work, Calling, new_calling, client_work, repairer_work}
use Rattle.store_core.proofs.Places.{directory_keeps_places}
use Rattle.run_laws.specs.Answers.{ServerAnswers, Answers}
use Rattle.run_laws.specs.CallLeft.{pin_bound}
use Rattle.run_laws.proofs.LiveVersions.{live_count, sound_live, take_lowers}
use Rattle.run_laws.proofs.OwnPasses.{mapped_found, one_changed, keeps_actor}
use Rattle.run_laws.proofs.Groups.{drop_here}
use Rattle.run_laws.proofs.ReadyActors.{actor_sound}
use Rattle.run_laws.proofs.Runs.{CanRun}
use Rattle.run_laws.proofs.RunsSound.{RunKeeps}
use Rattle.run_laws.proofs.Scripts.{replicated}
use Rattle.run_laws.proofs.SoundVersions.{change_here}
use Rattle.history_laws.proofs.ActorLines.{each_changed}
use Rattle.history_laws.proofs.AtWork.{AtWork, client_at, repairer_at, first, act, after, proper, of_kind, answered}
use Rattle.history_laws.proofs.Induction.{client_after, repairer_after, operator_after, sweeper_after, KeptBySteps, run_has}
use Rattle.history_laws.specs.HistoryLaws.{HasFewWipes}
use Rattle.history_laws.proofs.KeptVersions.{IsGone, directory_keeps, server_keeps}
use Rattle.history_laws.proofs.LossesActs.{Known, AllServers, Missed, SeenBy, There, TookAt, Heard, MovesOn, heard_on}
use Rattle.history_laws.proofs.LossesHeard.{HeardBy}
use Rattle.history_laws.proofs.LossesOwn.{Own, own_step}
use Rattle.history_laws.proofs.LossesServer.{ServerKnown}
use Rattle.history_laws.proofs.LossesServers.{wiped, made_away, wiped_append, KnownAt, known_more, one_server, call_known, wipe_known, down_known, up_known, can_rise}
use Rattle.history_laws.proofs.LossesState.{TellsPlaced, Onward, stays_on, step_onward, took_on, took_server, GoneAt, gone_on, PinsIt, Pinned}
use Rattle.history_laws.proofs.ServerChunks.{Keeps, Rises}
use Rattle.history_laws.proofs.VersionMoves.{row_at, StepVersions, Moved, StepChange, versions_move}

-- ---- steps of the sweeper and the operator at the directory
abbrev IsTheirs : DirectoryStep → Type 0
IsTheirs DirectoryStep.NextGarbage = Unit {0}
IsTheirs (DirectoryStep.Swept version) = Unit {0}
IsTheirs (DirectoryStep.Reap who) = Unit {0}
IsTheirs step = ⊥

pins_marked : (other : Actor) (kind : Kind) (n : ℕ) (pass : Pass) (reaped : Option ℕ) (d : Directory) → Pinned other kind d n → Pinned other kind (reap_pass pass reaped d).0 n
pins_marked other kind n pass (Some point) d h = h
pins_marked other kind n pass None d h =
    subst (λ (o : Option Pass). IfSome o (λ p. PinsIt kind n p.pinned)) (sym (mapped_found other (one_changed pass.actor change) (keeps_actor pass.actor change (λ p. refl)) d.passes)) (still (pass_of other d) h)
  where
    change : Pass → Pass
    change p = record p { reaped = Some (length d.points) }

    still : (found : Option Pass) → IfSome found (λ p. PinsIt kind n p.pinned) → IfSome (option_map (one_changed pass.actor change) found) (λ p. PinsIt kind n p.pinned)
    still None k = tt
    still (Some p) k = cond_both {A = Pass} (same_actor pass.actor p.actor) (change p) p (λ q. PinsIt kind n q.pinned) (λ _. k) (λ _. k)

pins_reaped : (other : Actor) (kind : Kind) (n : ℕ) (found : Option Pass) (d : Directory) → Pinned other kind d n → Pinned other kind (reap found d).0 n
pins_reaped other kind n None d h = h
pins_reaped other kind n (Some pass) d h = pins_marked other kind n pass pass.reaped d h

pins_taken : (other : Actor) (kind : Kind) (n : ℕ) (found : Option ℕ) (d : Directory) → Pinned other kind d n → Pinned other kind (take_garbage found d).0 n
pins_taken other kind n None d h = h
pins_taken other kind n (Some version) d h = h

theirs_pin : (who other : Actor) (kind : Kind) (n : ℕ) (step : DirectoryStep) (d : Directory) → IsTheirs step → Pinned other kind d n → Pinned other kind (at_directory false who 0 step d).0 n
theirs_pin who other kind n DirectoryStep.NextGarbage d is h = pins_taken other kind n (first_garbage d) d h
theirs_pin who other kind n (DirectoryStep.Swept version) d is h = h
theirs_pin who other kind n (DirectoryStep.Reap reaped) d is h = pins_reaped other kind n (pass_of reaped d) d h
theirs_pin who other kind n step d is h = absurd is

module _ (most downs : ℕ → ℕ) (who : Actor) (step : DirectoryStep) (theirs : IsTheirs step) (places : Places) (sound : IsSound places.directory) where
  abbrev stepped : Places
  stepped = (at_places false who 0 (Act.AtDirectory step) places).0

  moved : StepVersions (StepChange step (pass_of who places.directory)) places.directory.versions stepped.directory.versions
  moved = versions_move places.directory (sound_live places.directory sound) who 0 false step

  theirs_on : Onward places.directory.versions stepped.directory.versions
  theirs_on =
      let kept : KeepsPlaces places.directory stepped.directory (at_directory false who 0 step places.directory).1 = directory_keeps_places false who 0 step places.directory in
      step_onward places.directory sound who step stepped.directory.versions moved (let size : _ = kept.versions in omega (arith, size))

  theirs_move : (other : Actor) (kind : Kind) → MovesOn most downs other kind places stepped
  theirs_move other kind =
      record {
        on = theirs_on;
        took = λ j n row h. took_on most downs places.servers places.directory.versions stepped.directory.versions theirs_on j n row h;
        pins = λ n h. theirs_pin who other kind n step places.directory theirs h;
      }

  no_change : (x : DirectoryStep) → IsTheirs x → (found : Option Pass) (n : ℕ) (old new : List Placement) → StepChange x found n old new → ⊥
  no_change DirectoryStep.NextGarbage is found n old new change = change
  no_change (DirectoryStep.Swept version) is found n old new change = change
  no_change (DirectoryStep.Reap reaped) is found n old new change = change
  no_change x is found n old new change = absurd is

  theirs_known : Known most downs places → Known most downs stepped
  theirs_known known =
      record {
        kept = directory_keeps (StepChange step (pass_of who places.directory)) places.servers places.directory.versions stepped.directory.versions moved
            (λ n old e new change j s there. absurd (no_change step theirs (pass_of who places.directory) n old.placed new change)) known.kept;
        tells = λ n version is j. by n version is j (slice_get places.directory.versions n) refl;
      }
    where
      one : (n : ℕ) (version old : Version) → slice_get places.directory.versions n ≡ Some old → (new : Version) → new ≡ version → (new.placed ≡ old.placed) ⊎ StepChange step (pass_of who places.directory) n old.placed new.placed
          → (j : ℕ) → TellsPlaced most downs j (row_at version.placed j)
      one n version old e new same (inl is) j =
          subst (λ (v : Version). TellsPlaced most downs j (row_at v.placed j)) same (subst (λ (l : List Placement). TellsPlaced most downs j (row_at l j)) (sym is) (known.tells n old e j))
      one n version old e new same (inr change) j = absurd (no_change step theirs (pass_of who places.directory) n old.placed new.placed change)

      by : (n : ℕ) (version : Version) → slice_get stepped.directory.versions n ≡ Some version → (j : ℕ) → (found : Option Version) → slice_get places.directory.versions n ≡ found → TellsPlaced most downs j (row_at version.placed j)
      by n version is j None e = subst (λ (l : List Placement). TellsPlaced most downs j (row_at l j)) (sym (moved.fresh n version e is)) tt
      by n version is j (Some old) e =
          let m : Moved (StepChange step (pass_of who places.directory)) n old stepped.directory.versions = moved.moves n old e in
          one n version old e m.new (same_Some m.new version (sym m.found ∙ is)) m.placed j

-- ---- a step of the sweeper or the operator at a server
module _ (most downs : ℕ → ℕ) (server : ℕ) (step : ServerStep) (places : Places)
    (spares : (n : ℕ) (version : Version) → slice_get places.directory.versions n ≡ Some version → Keeps n step ⊎ IsGone version) (rises : (s : Server) → slice_get places.servers server ≡ Some s → Rises step s.epoch) where
  abbrev At : Option Server → Places
  At found = (at_server_there false server step places found).0

  server_move : (found : Option Server) → slice_get places.servers server ≡ found → (other : Actor) (kind : Kind) → MovesOn most downs other kind places (At found)
  server_move None e other kind = record { on = stays_on places.directory.versions; took = λ j n row h. h; pins = λ n h. h }
  server_move (Some s) e other kind =
      record { on = stays_on places.directory.versions; took = took_server most downs false server step s places.servers places.directory.versions e (rises s e) spares; pins = λ n h. h }

  server_knows : (found : Option Server) → slice_get places.servers server ≡ found → Known most downs places → Known most downs (At found)
  server_knows None e known = known
  server_knows (Some s) e known = record { kept = server_keeps false server step s places.servers places.directory.versions e (rises s e) spares known.kept; tells = known.tells }

-- ---- all of a run
module _ (script : Script) (can : CanRun script) (some : 0 < chunk_count script.geometry) (all : List Token) (few : HasFewWipes all) where
  abbrev g : Shape
  g = script.geometry

  abbrev most : ℕ → ℕ
  most = wiped all

  abbrev downs : ℕ → ℕ
  downs = made_away all

  -- the version that is swept was taken
  abbrev Sweeps : Sweeper → List Version → Type 0
  Sweeps Sweeper.Idle versions = Unit {0}
  Sweeps (Sweeper.Sweeping version server) versions = GoneAt most downs versions version

  -- the calls in work of a group
  abbrev HeardIn : (ℕ → Actor) → List Work → List Calling → Places → Type 0
  HeardIn who_of works callings places =
      (i : ℕ) (calling : Calling) → slice_get callings i ≡ Some calling → (work : Work) (job : Job) → slice_get works i ≡ Some work → slice_get work.jobs (length calling.ended) ≡ Some job → Heard most downs g (who_of i) job places calling.told

  pub record Holds (past : List Token) (core : Core) : Type 0 where
    pub known : Known most downs (places_in core)
    pub servers : KnownAt past core.servers
    pub sweeper : Sweeps core.sweeper core.directory.versions
    pub clients : HeardIn actor.Client (client_work script) core.clients (places_in core)
    pub repairers : HeardIn actor.Repairer (repairer_work script) core.repairers (places_in core)

  -- while these are the first of all tokens
  abbrev pub Has : List Token → Core → Type 0
  Has past core = (rest : List Token) → all ≡ past ++ rest → Holds past core

  pub all_servers : (past rest : List Token) (servers : List Server) → all ≡ past ++ rest → KnownAt past servers → AllServers most downs servers
  all_servers past rest servers is h j s e =
      subst (λ (l : List Token). ServerKnown (wiped l) (made_away l) j s) (sym is) (known_more past rest servers h j s e)

  next_is : (past : List Token) (next : Token) (rest : List Token) → all ≡ (past ++ next ∷ []) ++ rest → all ≡ past ++ (next ∷ rest)
  next_is past next rest is = is ∙ append_assoc past (next ∷ []) rest

  room : (past : List Token) (next : Token) (rest : List Token) → all ≡ (past ++ next ∷ []) ++ rest → HasFewWipes (past ++ next ∷ [])
  room past next rest is server =
      let whole : wiped all server ≡ wiped ((past ++ next ∷ []) ++ rest) server = ap (λ (l : List Token). wiped l server) is in
      let parts : wiped ((past ++ next ∷ []) ++ rest) server ≡ wiped (past ++ next ∷ []) server + wiped rest server = wiped_append (past ++ next ∷ []) rest server in
      let most : wiped all server < 2 ^ 64 = few server in
      omega (arith, whole, parts, most)

  -- a group of which nobody made the step
  group_on : (who_of : ℕ → Actor) (works : List Work) (callings : List Calling) (before now : Places) → ((i : ℕ) (kind : Kind) → MovesOn most downs (who_of i) kind before now) → HeardIn who_of works callings before
      → HeardIn who_of works callings now
  group_on who_of works callings before now moves h i calling is_calling work job is_work is_job =
      heard_on most downs g (who_of i) job before now calling.told (moves i job.note.kind) (h i calling is_calling work job is_work is_job)

  sweeps_on : (sweeper : Sweeper) (before now : List Version) → Onward before now → Sweeps sweeper before → Sweeps sweeper now
  sweeps_on Sweeper.Idle before now on h = tt
  sweeps_on (Sweeper.Sweeping version server) before now on h = gone_on most downs before now on version h

  -- before its first answer a call was told nothing
  none_heard : (who : Actor) (job : Job) (places : Places) → Heard most downs g who job places []
  none_heard who job places = by job.note.kind
    where
      by : (kind : Kind) → HeardBy g job.target (Missed most downs places) (SeenBy most downs who job.note.kind places) (There most downs places) (TookAt most downs places) kind job.note []
      by Kind.Put = tt
      by Kind.Write = tt
      by Kind.Get = tt
      by Kind.ReadAt = tt
      by Kind.Rebuild = tt
      by kind = tt

  -- ---- a step of a call
  module _ (core : Core) (past rest : List Token) (is_past : all ≡ past ++ rest) (kept : RunKeeps script core) (holds : Holds past core) (who : Actor) (work : Work) (calling : Calling) (job : Job)
      (is_job : slice_get work.jobs (length calling.ended) ≡ Some job) (at : AtWork script who job calling (places_in core)) (heard : Heard most downs g who job (places_in core) calling.told) (shortages : Shortage) where
    abbrev done : Places × Calling
    done = actor_step g (tries_of script) shortages who job calling (places_in core)

    abbrev acted : Act
    acted = act script who job calling (places_in core) at shortages.coding shortages.step

    abbrev made : Places × Told
    made = after script who job calling (places_in core) at shortages.coding shortages.step

    sound_now : IsSound done.0.directory
    sound_now =
        (actor_sound g (size_of script) (tries_of script) can.some who at.self work.jobs _ job at.target at.fits calling (drop_here work.jobs (length calling.ended) job is_job) (places_in core) at.fit at.sound at.in_work at.ready shortages).sound

    pub own : Own most downs script who job calling (places_in core) at some shortages holds.known (all_servers past rest core.servers is_past holds.servers) heard acted
    own =
        own_step most downs script who job calling (places_in core) at some shortages holds.known (all_servers past rest core.servers is_past holds.servers) heard acted refl
        (answered script who job calling (places_in core) at shortages.coding shortages.step).answers (proper script who job calling (places_in core) at shortages.coding shortages.step)
        (of_kind script who job calling (places_in core) at shortages.coding shortages.step) sound_now

    servers_now : KnownAt past made.0.servers
    servers_now = by acted (answered script who job calling (places_in core) at shortages.coding shortages.step).answers
      where
        by : (a : Act) → Answers (pin_bound g (size_of script) job.note) (touched_count g job.note) a (at_places shortages.step who (length calling.ended) a (places_in core)).1 → KnownAt past (at_places shortages.step who (length calling.ended) a (places_in core)).0.servers
        by (Act.AtDirectory step) h = holds.servers
        by (Act.Finish outcome) h = absurd h
        by (Act.AtServer server step) h = found (slice_get core.servers server) refl h
          where
            found : (o : Option Server) → slice_get core.servers server ≡ o → ServerAnswers step (at_server_there shortages.step server step (places_in core) o).1 → KnownAt past (at_server_there shortages.step server step (places_in core) o).0.servers
            found None e k = holds.servers
            found (Some s) e k =
                one_server (ServerKnown (wiped past) (made_away past)) server s (at_server shortages.step step s).0 core.servers e
                (call_known (wiped past) (made_away past) server s (holds.servers server s e) shortages.step step _ k) holds.servers

    -- what the actor's call was told then
    heard_after : (calling_now : Calling) → calling_now ≡ done.1 → (other : Job) → slice_get work.jobs (length calling_now.ended) ≡ Some other → Heard most downs g who other done.0 calling_now.told
    heard_after calling_now same other e =
        subst (λ (c : Calling). slice_get work.jobs (length c.ended) ≡ Some other → Heard most downs g who other done.0 c.told) (sym same) (by (next_act g (tries_of script) job now)) e
      where
        now : List Told
        now = tell g job (first script who job calling (places_in core) at shortages.coding shortages.step) made.1

        by : (a : Act)
            → slice_get work.jobs (length (ended_by a (chunk_count g) (record { ended = calling.ended; told = tell g job (first script who job calling (places_in core) at shortages.coding shortages.step) made.1; takes = take_from acted made.1 calling.takes; steps = calling.steps + 1 })).ended) ≡ Some other
            → Heard most downs g who other done.0 (ended_by a (chunk_count g) (record { ended = calling.ended; told = tell g job (first script who job calling (places_in core) at shortages.coding shortages.step) made.1; takes = take_from acted made.1 calling.takes; steps = calling.steps + 1 })).told
        by (Act.Finish outcome) k = none_heard who other done.0
        by (Act.AtDirectory step) k = subst (λ j. Heard most downs g who j done.0 (tell g job (first script who job calling (places_in core) at shortages.coding shortages.step) made.1)) (same_Some job other (sym is_job ∙ k)) own.heard_now
        by (Act.AtServer server step) k = subst (λ j. Heard most downs g who j done.0 (tell g job (first script who job calling (places_in core) at shortages.coding shortages.step) made.1)) (same_Some job other (sym is_job ∙ k)) own.heard_now

    -- the versions move on
    on_now : Onward core.directory.versions done.0.directory.versions
    on_now = moved_by acted (answered script who job calling (places_in core) at shortages.coding shortages.step).answers
      where
        moved_by : (a : Act) → Answers (pin_bound g (size_of script) job.note) (touched_count g job.note) a (at_places shortages.step who (length calling.ended) a (places_in core)).1 → Onward core.directory.versions (at_places shortages.step who (length calling.ended) a (places_in core)).0.directory.versions
        moved_by (Act.Finish outcome) h = absurd h
        moved_by (Act.AtServer server step) h = by (slice_get core.servers server)
          where
            by : (o : Option Server) → Onward core.directory.versions (at_server_there shortages.step server step (places_in core) o).0.directory.versions
            by None = stays_on core.directory.versions
            by (Some s) = stays_on core.directory.versions
        moved_by (Act.AtDirectory step) h =
            let kept_places : KeepsPlaces core.directory (at_directory shortages.step who (length calling.ended) step core.directory).0 (at_directory shortages.step who (length calling.ended) step core.directory).1 =
            directory_keeps_places shortages.step who (length calling.ended) step core.directory in
            step_onward core.directory kept.sound who step (at_directory shortages.step who (length calling.ended) step core.directory).0.versions
            (versions_move core.directory (sound_live core.directory kept.sound) who (length calling.ended) shortages.step step) (let size : _ = kept_places.versions in omega (arith, size))

  -- ---- a client's step, and a repairer's
  client_holds : (past : List Token) (core : Core) → RunKeeps script core → Has past core → (i : ℕ) (work : Work) (calling : Calling) (job : Job) → slice_get (client_work script) i ≡ Some work → slice_get core.clients i ≡ Some calling
      → slice_get work.jobs (length calling.ended) ≡ Some job → (shortages : Shortage) → Has past (client_after i core (actor_step g (tries_of script) shortages (actor.Client i) job calling (places_in core)))
  client_holds past core kept has i work calling job is_work is_calling is_job shortages rest is_past =
      record {
        known = mine.known_now;
        servers = servers_now core past rest is_past kept holds (actor.Client i) work calling job is_job at heard shortages;
        sweeper = sweeps_on core.sweeper core.directory.versions after_places.directory.versions (on_now core past rest is_past kept holds (actor.Client i) work calling job is_job at heard shortages) holds.sweeper;
        clients =
            each_changed (λ j c. (w : Work) (x : Job) → slice_get (client_work script) j ≡ Some w → slice_get w.jobs (length c.ended) ≡ Some x → Heard most downs g (actor.Client j) x after_places c.told) i calling _ core.clients is_calling
            (λ w x is_w is_x.
            heard_after core past rest is_past kept holds (actor.Client i) work calling job is_job at heard shortages _ refl x
            (subst (λ (y : Work). slice_get y.jobs (length (actor_step g (tries_of script) shortages (actor.Client i) job calling (places_in core)).1.ended) ≡ Some x) (same_Some w work (sym is_w ∙ is_work)) is_x))
            (λ j differ c e w x is_w is_x.
            heard_on most downs g (actor.Client j) x (places_in core) after_places c.told (mine.others (actor.Client j) (can.clients.apart i j differ) x.note.kind) (holds.clients j c e w x is_w is_x));
        repairers = group_on actor.Repairer (repairer_work script) core.repairers (places_in core) after_places (λ j kind. mine.others (actor.Repairer j) refl kind) holds.repairers;
      }
    where
      holds : Holds past core
      holds = has rest is_past

      at : AtWork script (actor.Client i) job calling (places_in core)
      at = client_at script can core kept i work calling job is_work is_calling is_job

      heard : Heard most downs g (actor.Client i) job (places_in core) calling.told
      heard = holds.clients i calling is_calling work job is_work is_job

      mine : Own most downs script (actor.Client i) job calling (places_in core) at some shortages holds.known (all_servers past rest core.servers is_past holds.servers) heard (act script (actor.Client i) job calling (places_in core) at shortages.coding shortages.step)
      mine = own core past rest is_past kept holds (actor.Client i) work calling job is_job at heard shortages

      after_places : Places
      after_places = (actor_step g (tries_of script) shortages (actor.Client i) job calling (places_in core)).0

  repairer_holds : (past : List Token) (core : Core) → RunKeeps script core → Has past core → (i : ℕ) (work : Work) (calling : Calling) (job : Job) → slice_get (repairer_work script) i ≡ Some work → slice_get core.repairers i ≡ Some calling
      → slice_get work.jobs (length calling.ended) ≡ Some job → (shortages : Shortage) → Has past (repairer_after i core (actor_step g (tries_of script) shortages (actor.Repairer i) job calling (places_in core)))
  repairer_holds past core kept has i work calling job is_work is_calling is_job shortages rest is_past =
      record {
        known = mine.known_now;
        servers = servers_now core past rest is_past kept holds (actor.Repairer i) work calling job is_job at heard shortages;
        sweeper = sweeps_on core.sweeper core.directory.versions after_places.directory.versions (on_now core past rest is_past kept holds (actor.Repairer i) work calling job is_job at heard shortages) holds.sweeper;
        clients = group_on actor.Client (client_work script) core.clients (places_in core) after_places (λ j kind. mine.others (actor.Client j) refl kind) holds.clients;
        repairers =
            each_changed (λ j c. (w : Work) (x : Job) → slice_get (repairer_work script) j ≡ Some w → slice_get w.jobs (length c.ended) ≡ Some x → Heard most downs g (actor.Repairer j) x after_places c.told) i calling _ core.repairers is_calling
            (λ w x is_w is_x.
            heard_after core past rest is_past kept holds (actor.Repairer i) work calling job is_job at heard shortages _ refl x
            (subst (λ (y : Work). slice_get y.jobs (length (actor_step g (tries_of script) shortages (actor.Repairer i) job calling (places_in core)).1.ended) ≡ Some x) (same_Some w work (sym is_w ∙ is_work)) is_x))
            (λ j differ c e w x is_w is_x.
            heard_on most downs g (actor.Repairer j) x (places_in core) after_places c.told (mine.others (actor.Repairer j) (can.repairers.apart i j differ) x.note.kind) (holds.repairers j c e w x is_w is_x));
      }
    where
      holds : Holds past core
      holds = has rest is_past

      at : AtWork script (actor.Repairer i) job calling (places_in core)
      at = repairer_at script can core kept i work calling job is_work is_calling is_job

      heard : Heard most downs g (actor.Repairer i) job (places_in core) calling.told
      heard = holds.repairers i calling is_calling work job is_work is_job

      mine : Own most downs script (actor.Repairer i) job calling (places_in core) at some shortages holds.known (all_servers past rest core.servers is_past holds.servers) heard (act script (actor.Repairer i) job calling (places_in core) at shortages.coding shortages.step)
      mine = own core past rest is_past kept holds (actor.Repairer i) work calling job is_job at heard shortages

      after_places : Places
      after_places = (actor_step g (tries_of script) shortages (actor.Repairer i) job calling (places_in core)).0

  -- ---- the others' steps
  -- after a step by which no calls change
  others_hold : (past : List Token) (core : Core) (now : Places) (sweeper : Sweeper) → Holds past core → ((other : Actor) (kind : Kind) → MovesOn most downs other kind (places_in core) now) → Known most downs now → (later : List Token) → KnownAt later now.servers
      → Sweeps sweeper now.directory.versions → Holds later (record core { directory = now.directory; servers = now.servers; sweeper = sweeper })
  others_hold past core now sweeper holds moves known later servers sweeps =
      record {
        known = known;
        servers = servers;
        sweeper = sweeps;
        clients = group_on actor.Client (client_work script) core.clients (places_in core) now (λ i kind. moves (actor.Client i) kind) holds.clients;
        repairers = group_on actor.Repairer (repairer_work script) core.repairers (places_in core) now (λ i kind. moves (actor.Repairer i) kind) holds.repairers;
      }

  -- what the operator does at the directory
  reap_holds : (past : List Token) (next : Token) (core : Core) → RunKeeps script core → Has past core → (target : Actor) → Has (past ++ next ∷ []) (operator_after (Act.AtDirectory (DirectoryStep.Reap target)) core)
  reap_holds past next core kept has target rest is_now =
      let holds : Holds past core = has (next ∷ rest) (next_is past next rest is_now) in
      others_hold past core (stepped most downs actor.Operator (DirectoryStep.Reap target) tt (places_in core) kept.sound) core.sweeper holds
      (theirs_move most downs actor.Operator (DirectoryStep.Reap target) tt (places_in core) kept.sound) (theirs_known most downs actor.Operator (DirectoryStep.Reap target) tt (places_in core) kept.sound holds.known)
      (past ++ next ∷ []) (known_more past (next ∷ []) core.servers holds.servers)
      (sweeps_on core.sweeper core.directory.versions (stepped most downs actor.Operator (DirectoryStep.Reap target) tt (places_in core) kept.sound).directory.versions (theirs_on most downs actor.Operator (DirectoryStep.Reap target) tt (places_in core) kept.sound) holds.sweeper)

  -- and at a server
  module _ (past : List Token) (next : Token) (core : Core) (has : Has past core) (server : ℕ) (step : ServerStep) (keeps : (n : ℕ) → Keeps n step)
      (rises : HasFewWipes (past ++ next ∷ []) → (s : Server) → ServerKnown (wiped past) (made_away past) server s → Rises step s.epoch)
      (knows : (s : Server) → ServerKnown (wiped past) (made_away past) server s → ServerKnown (wiped (past ++ next ∷ [])) (made_away (past ++ next ∷ [])) server (at_server false step s).0) where
    operator_holds : Has (past ++ next ∷ []) (operator_after (Act.AtServer server step) core)
    operator_holds rest is_now = by (slice_get core.servers server) refl
      where
        holds : Holds past core
        holds = has (next ∷ rest) (next_is past next rest is_now)

        low : (s : Server) → slice_get core.servers server ≡ Some s → Rises step s.epoch
        low s e = rises (room past next rest is_now) s (holds.servers server s e)

        by : (found : Option Server) → slice_get core.servers server ≡ found → Holds (past ++ next ∷ []) (record core { directory = (at_server_there false server step (places_in core) found).0.directory; servers = (at_server_there false server step (places_in core) found).0.servers })
        by None e =
            others_hold past core (places_in core) core.sweeper holds (server_move most downs server step (places_in core) (λ n version is. inl (keeps n)) low None e) holds.known
            (past ++ next ∷ []) (known_more past (next ∷ []) core.servers holds.servers) holds.sweeper
        by (Some s) e =
            others_hold past core (at_server_there false server step (places_in core) (Some s)).0 core.sweeper holds (server_move most downs server step (places_in core) (λ n version is. inl (keeps n)) low (Some s) e)
            (server_knows most downs server step (places_in core) (λ n version is. inl (keeps n)) low (Some s) e holds.known) (past ++ next ∷ [])
            (one_server (ServerKnown (wiped (past ++ next ∷ [])) (made_away (past ++ next ∷ []))) server s (at_server false step s).0 core.servers e (knows s (holds.servers server s e)) (known_more past (next ∷ []) core.servers holds.servers))
            holds.sweeper

  -- ---- the sweeper
  same_where_none : (version : ℕ) (f : Version → Version) (versions : List Version) → slice_get versions version ≡ None → change_at version f versions ≡ versions
  same_where_none version f [] e = refl
  same_where_none zero f (v ∷ versions) e = absurd (none-some v (sym e))
  same_where_none (suc version) f (v ∷ versions) e = ap (λ l. v ∷ l) (same_where_none version f versions e)

  taken_gone : (core : Core) (found : Option ℕ) → first_garbage core.directory ≡ found → Sweeps (after_taken (take_garbage found core.directory).1) (take_garbage found core.directory).0.versions
  taken_gone core None e = tt
  taken_gone core (Some version) e = by (slice_get core.directory.versions version) refl
    where
      by : (entry : Option Version) → slice_get core.directory.versions version ≡ entry → GoneAt most downs (change_at version (λ (v : Version). record v { standing = Standing.Taken }) core.directory.versions) version
      by (Some entry) is =
          record { version = record entry { standing = Standing.Taken }; found = change_here version (λ (v : Version). record v { standing = Standing.Taken }) core.directory.versions entry is; gone = refl }
      by None is =
          let less : live_count (change_at version (λ (v : Version). record v { standing = Standing.Taken }) core.directory.versions) < live_count core.directory.versions = take_lowers core.directory version e in
          let same : live_count (change_at version (λ (v : Version). record v { standing = Standing.Taken }) core.directory.versions) ≡ live_count core.directory.versions =
          ap live_count (same_where_none version (λ (v : Version). record v { standing = Standing.Taken }) core.directory.versions is) in
          absurd (omega (arith, less, same))

  discards : (version n : ℕ) → (nat_eq version n ≡ true) ⊎ Keeps n (ServerStep.Discard version)
  discards version n = by (nat_eq version n) refl
    where
      by : (b : Bool) → nat_eq version n ≡ b → (nat_eq version n ≡ true) ⊎ Keeps n (ServerStep.Discard version)
      by true e = inl e
      by false e = inr e

  sweeper_holds : (past : List Token) (core : Core) → RunKeeps script core → Has past core → Has past (sweeper_after script core)
  sweeper_holds past core kept has rest is_past = by core.sweeper holds.sweeper
    where
      holds : Holds past core
      holds = has rest is_past

      at_directory_so : (step : DirectoryStep) (theirs : IsTheirs step) (sweeper : Sweeper) → Sweeps sweeper (stepped most downs actor.Sweeper step theirs (places_in core) kept.sound).directory.versions
          → Holds past (record core { directory = (stepped most downs actor.Sweeper step theirs (places_in core) kept.sound).directory; servers = core.servers; sweeper = sweeper })
      at_directory_so step theirs sweeper sweeps =
          others_hold past core (stepped most downs actor.Sweeper step theirs (places_in core) kept.sound) sweeper holds (theirs_move most downs actor.Sweeper step theirs (places_in core) kept.sound)
          (theirs_known most downs actor.Sweeper step theirs (places_in core) kept.sound holds.known) past holds.servers sweeps

      spares : (version : ℕ) → GoneAt most downs core.directory.versions version → (k : ℕ) (entry : Version) → slice_get core.directory.versions k ≡ Some entry → Keeps k (ServerStep.Discard version) ⊎ IsGone entry
      spares version gone k entry is = two (discards version k)
        where
          two : (nat_eq version k ≡ true) ⊎ Keeps k (ServerStep.Discard version) → Keeps k (ServerStep.Discard version) ⊎ IsGone entry
          two (inr keeps) = inl keeps
          two (inl same) = inr (subst IsGone (same_Some gone.version entry (sym gone.found ∙ subst (λ i. slice_get core.directory.versions i ≡ Some entry) (sym (eqb-true version k same)) is)) gone.gone)

      at_server_so : (version server : ℕ) → GoneAt most downs core.directory.versions version → (found : Option Server) → slice_get core.servers server ≡ found
          → Holds past (record core { directory = (at_server_there false server (ServerStep.Discard version) (places_in core) found).0.directory; servers = (at_server_there false server (ServerStep.Discard version) (places_in core) found).0.servers; sweeper = Sweeper.Sweeping version (server + 1) })
      at_server_so version server gone None e =
          others_hold past core (places_in core) (Sweeper.Sweeping version (server + 1)) holds (server_move most downs server (ServerStep.Discard version) (places_in core) (spares version gone) (λ s k. tt) None e) holds.known past holds.servers gone
      at_server_so version server gone (Some s) e =
          others_hold past core (at_server_there false server (ServerStep.Discard version) (places_in core) (Some s)).0 (Sweeper.Sweeping version (server + 1)) holds
          (server_move most downs server (ServerStep.Discard version) (places_in core) (spares version gone) (λ s k. tt) (Some s) e)
          (server_knows most downs server (ServerStep.Discard version) (places_in core) (spares version gone) (λ s k. tt) (Some s) e holds.known) past
          (one_server (ServerKnown (wiped past) (made_away past)) server s (at_server false (ServerStep.Discard version) s).0 core.servers e
          (let k : ServerKnown (wiped past) (made_away past) server s = holds.servers server s e in record { epoch = k.epoch; downs_told = k.downs_told; away = k.away }) holds.servers)
          gone

      by : (sweeper : Sweeper) → Sweeps sweeper core.directory.versions
          → Holds past (record core {
            directory = (at_places false actor.Sweeper 0 (next_sweep (chunk_count g) sweeper) (places_in core)).0.directory;
            servers = (at_places false actor.Sweeper 0 (next_sweep (chunk_count g) sweeper) (places_in core)).0.servers;
            sweeper = after_sweep (chunk_count g) sweeper (at_places false actor.Sweeper 0 (next_sweep (chunk_count g) sweeper) (places_in core)).1;
          })
      by Sweeper.Idle h = at_directory_so DirectoryStep.NextGarbage tt (after_taken (take_garbage (first_garbage core.directory) core.directory).1) (taken_gone core (first_garbage core.directory) refl)
      by (Sweeper.Sweeping version server) gone = two (nat_lt server (chunk_count g))
        where
          two : (b : Bool)
              → Holds past (record core {
                directory = (at_places false actor.Sweeper 0 (cond {A = Act} b (Act.AtServer server (ServerStep.Discard version)) (Act.AtDirectory (DirectoryStep.Swept version))) (places_in core)).0.directory;
                servers = (at_places false actor.Sweeper 0 (cond {A = Act} b (Act.AtServer server (ServerStep.Discard version)) (Act.AtDirectory (DirectoryStep.Swept version))) (places_in core)).0.servers;
                sweeper = cond {A = Sweeper} b (Sweeper.Sweeping version (server + 1)) Sweeper.Idle;
              })
          two true = at_server_so version server gone (slice_get core.servers server) refl
          two false = at_directory_so (DirectoryStep.Swept version) tt Sweeper.Idle tt

  -- ---- runs
  pub runs_hold : KeptBySteps script can Has
  runs_hold =
      record {
        quiet = λ past next core is_quiet has rest is_now.
            let holds : Holds past core = has (next ∷ rest) (next_is past next rest is_now) in
            record { known = holds.known; servers = known_more past (next ∷ []) core.servers holds.servers; sweeper = holds.sweeper; clients = holds.clients; repairers = holds.repairers };
        client = client_holds;
        repairer = repairer_holds;
        sweeper = sweeper_holds;
        wipe = λ past core kept has server. operator_holds past (token.Wipe server) core has server ServerStep.Wipe (λ n. tt) (λ room s known. can_rise past server s known (room server)) (λ s known. wipe_known past server s known);
        down = λ past core kept has server. operator_holds past (token.Down server) core has server ServerStep.Down (λ n. tt) (λ room s known. tt) (λ s known. down_known past server s known);
        up = λ past core kept has server. operator_holds past (token.Up server) core has server ServerStep.Up (λ n. tt) (λ room s known. tt) (λ s known. up_known past server s known);
        reap_client = λ past core kept has i. reap_holds past (token.ReapClient i) core kept has (actor.Client i);
        reap_repairer = λ past core kept has i. reap_holds past (token.ReapRepairer i) core kept has (actor.Repairer i);
      }

  pub first_holds : Has [] (first_core script)
  first_holds rest is_now =
      record {
        known = record { kept = λ n version e. absurd (none-some version e); tells = λ n version e. absurd (none-some version e) };
        servers = λ j s e. subst (ServerKnown (wiped []) (made_away []) j) (replicated (chunk_count g) j new_server s e) (record { epoch = omega arith; downs_told = omega arith; away = λ k. absurd (true≢false (sym k)) });
        sweeper = tt;
        clients = λ i calling e work job is_work is_job.
            subst (λ (c : Calling). Heard most downs g (actor.Client i) job (places_in (first_core script)) c.told) (replicated (length script.clients) i (new_calling (chunk_count g)) calling e) (none_heard (actor.Client i) job (places_in (first_core script)));
        repairers = λ i calling e work job is_work is_job.
            subst (λ (c : Calling). Heard most downs g (actor.Repairer i) job (places_in (first_core script)) c.told) (replicated (length script.repairers) i (new_calling (chunk_count g)) calling e) (none_heard (actor.Repairer i) job (places_in (first_core script)));
      }

  -- every run holds it
  pub run_holds : (shortages : List Shortage) → Holds all (run_core script shortages all)
  run_holds shortages = (run_has script can Has runs_hold shortages first_holds all).1 [] (sym (append-nil all))

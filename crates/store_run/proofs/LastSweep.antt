-- A step of the last sweep: the sweeper has one entry more, and nobody else has.
use Rattle.std.proofs.Common.{◌≡◌, ◌≢◌, ℕ, ◌+◌, ◌<◌, Bool, true, false, ◌||◌, List, [], ◌∷◌, ◌++◌, length, map, get_or, set, length-set, slice_get, Option, Some, unwrap_or, Vec, refl, sym, ap, subst, ◌∙◌, arith, eq-eqb}
use Rattle.std.proofs.lemmas.List.{length-map}
use Rattle.std.proofs.lemmas.Option.{same_Some, slice_get_read, slice_get_within}
use Rattle.std.specs.Global.{Global}
use mathlib.Core.List.{IsPrefix}
use Rattle.clay_grid.specs.Shape.{chunk_count, stripe_length}
use Rattle.store_map.specs.Limits.{size_of}
use Rattle.store_map.specs.declared.actor.Actor.{Actor}
use Rattle.store_map.specs.declared.actor.Actor.TheVariants as actor
use Rattle.store_map.specs.declared.script.Script.{Script}
use Rattle.store_core.specs.Act.{Act, ServerStep}
use Rattle.store_core.specs.ActPlace.{ActPlace, place_of}
use Rattle.store_core.specs.AtDirectory.{at_directory}
use Rattle.store_core.specs.Directory.{Directory}
use Rattle.store_core.specs.Server.{Server}
use Rattle.store_core.specs.Sound.{IsSound}
use Rattle.store_core.specs.Sweep.{Sweeper, after_sweep, next_sweep}
use Rattle.store_core.specs.Told.{Told}
use Rattle.store_core.specs.Work.{Work, client_work, repairer_work}
use Rattle.store_core.proofs.Places.{length-change_at, slice_get-change_at}
use Rattle.thread_laws.specs.MadeSteps.{MadeStep}
use Rattle.chunk_server.specs.Core.{core_of}
use Rattle.chunk_server.specs.State.{ServerState}
use Rattle.dir_parts.proofs.Entries.{slice_get-map}
use Rattle.version_seal.specs.Entry.{BookOf}
use Rattle.stripe_stamps.specs.Sealed.{Sealed}
use Rattle.call_steps.specs.declared.need.Need.TheVariants as need
use Rattle.call_steps.proofs.Needs.{server_in}
use Rattle.sweeper.specs.Sweeps.{SweeperOf, act_of, at_directory_by, heard, need_at, need_of, stepped_at_directory, stepped_at_server}
use Rattle.turn_lock.specs.History.{Among, GoesOn}
use Rattle.turn_lock.proofs.Lists.{among_one, entries_of-with_entry, prefix_after, prefix_self, prefix_trans}
use Rattle.turn_lock.proofs.JoinedLists.{each_changed, map_set}
use Rattle.world_laws.specs.SweepsLeft.{sweeps_left}
use Rattle.world_laws.proofs.SweepsLeft.{sweeps_fall}
use Rattle.thread_laws.specs.AtServer.{StandsAtServer}
use Rattle.thread_laws.specs.Noted.{Noted}
use Rattle.thread_laws.specs.Numbers.{IsTurnOf}
use Rattle.thread_laws.specs.Callers.{IsSweeping}
use Rattle.thread_laws.specs.PlaceEnded.{AllHaveEnded, CallerOf, HasEnded, PlacesStand}
use Rattle.thread_laws.specs.Logs.{Logs, counts_of, log_of, own_at}
use Rattle.thread_laws.specs.Plain.{HasAddedAtServer}
use Rattle.thread_laws.specs.Stepped.{last_own, with_log, with_notes}
use Rattle.thread_laws.proofs.Others.{others_add_nothing}
use Rattle.thread_laws.proofs.Placing.{changed_get}
use Rattle.thread_laws.proofs.Plain.{sweeping_goes_on}
use Rattle.thread_laws.proofs.Turns.{sweeper_turn}
use Rattle.run_seats.specs.Plain.{HasSweptAtDirectory, HasSweptAtServer, plain_at_directory, plain_at_server}
use Rattle.run_seats.proofs.Sweeping.{sweep_stands, sweep_stands_there, sweep_stepped, sweep_stepped_there}
use Rattle.store_run.specs.Ended.{IsEnded, has_sweep}
use Rattle.store_run.specs.LastSweep.{steps_left}
use Rattle.store_run.specs.declared.ended.Ended.{Ended}

-- ---- others' entries
alone : (n : ℕ) → Among n (n ∷ [])
alone n = ap (λ (b : Bool). b || false) (eq-eqb n n refl)

-- a history goes on from itself, and by an entry of another number
module _ {E : Type 0} (log : List (ℕ × E)) where
  from_itself : (n : ℕ) → GoesOn (n ∷ []) log log
  from_itself n = (prefix_self log, λ k among. refl)

  by_another : (n : ℕ) (entry : ℕ × E) → n ≢ entry.0 → GoesOn (n ∷ []) log (log ++ entry ∷ [])
  by_another n entry apart = (
    prefix_after log (Some entry),
    λ k among.
        entries_of-with_entry k log (Some entry)
        (λ e same is. apart (sym (among_one k n among) ∙ (is ∙ ap (λ (x : ℕ × E). x.0) (sym (same_Some entry e same))))),
  )

module _ (logs : Logs) (n : ℕ) where
  others_at_server : (j : ℕ) (entry : ℕ × MadeStep) → n ≢ entry.0 → j < length logs.servers → (place : ActPlace) → own_at n (with_log j (log_of logs j ++ entry ∷ []) logs) place ≡ own_at n logs place
  others_at_server j entry apart there = (others_add_nothing n (n ∷ []) logs (alone n)).at_server j (log_of logs j ++ entry ∷ []) there (by_another (log_of logs j) n entry apart)

  others_at_directory : (entry : ℕ × Noted) → n ≢ entry.0 → (place : ActPlace) → own_at n (with_notes (logs.directory ++ entry ∷ []) logs) place ≡ own_at n logs place
  others_at_directory entry apart = (others_add_nothing n (n ∷ []) logs (alone n)).at_directory (logs.directory ++ entry ∷ []) (by_another logs.directory n entry apart)

-- ---- the sweeper's step at a server, which is the one that it needs
record SweptAt (server number last : ℕ) (seen now : List (ℕ × MadeStep)) (s after : SweeperOf) : Type 0 where
  step : ServerStep
  acts : act_of s ≡ Act.AtServer server step
  added : HasAddedAtServer number last seen now actor.Sweeper (Act.AtServer server step)
  hears : after ≡ heard s added.answer

swept_there : (j number last : ℕ) (seen now : List (ℕ × MadeStep)) (s after : SweeperOf) → need_of s ≡ need.Server j → HasSweptAtServer number last seen now s after → SweptAt j number last seen now s after
swept_there j number last seen now s after needs swept =
    subst (λ (k : ℕ). SweptAt k number last seen now s after) (ap server_in (sym (ap (λ (act : Act). need_at (place_of act)) swept.acts) ∙ needs))
    (record { step = swept.step; acts = swept.acts; added = swept.added; hears = swept.hears })

-- ---- the end of a run before the step
module _ (script : Script) (old : Ended) (is : IsEnded script old) where
  -- the number of the sweeper's turns, and the moment of its last step
  abbrev its : ℕ
  its = length script.clients + length script.repairers

  abbrev last : ℕ
  last = last_own (chunk_count script.geometry) its is.logs

  turn : IsTurnOf (counts_of script) its actor.Sweeper
  turn = sweeper_turn (counts_of script)

  -- its list is that of the whole histories
  sweeping : IsSweeping script (own_at its is.logs) old.sweeper.at
  sweeping = subst (λ (at : ActPlace → List MadeStep). IsSweeping script at old.sweeper.at) (λ i place. sym (is.all.saw_swept place) i) is.all.sweeping

  next_is : (act : Act) → act_of old.sweeper ≡ act → next_sweep (chunk_count script.geometry) old.sweeper.at ≡ act
  next_is act acts = subst (λ (n : ℕ). next_sweep n old.sweeper.at ≡ act) is.servers acts

  -- each server that it may need is there
  pub server_there : (j : ℕ) → j < old.sweeper.servers → j < length old.servers.items
  server_there j below = subst (λ (n : ℕ). j < n) (is.servers ∙ (sym is.places.width ∙ length-map old.servers.items core_of)) below

  -- after an answer it goes on by the script's count of servers
  heard_is : (P : Sweeper → Type 0) (answer : Told) (after : SweeperOf) → after ≡ heard old.sweeper answer → P (after_sweep (chunk_count script.geometry) old.sweeper.at answer) → P after.at
  heard_is P answer after hears h =
      subst (λ (s : SweeperOf). P s.at) (sym hears) (subst (λ (n : ℕ). P (after_sweep n old.sweeper.at answer)) (sym is.servers) h)

  -- ---- with histories in which the entries of all others are the same
  module _ (directory : Sealed) (servers : Vec ServerState Global) (sweeper : SweeperOf) (logs : Logs) (others : (n : ℕ) → n ≢ its → (place : ActPlace) → own_at n logs place ≡ own_at n is.logs place)
      (grown : IsPrefix is.logs.directory logs.directory) (stand : PlacesStand script directory (map core_of servers.items) logs)
      (numbered : (k : ℕ) (server : ServerState) → slice_get servers.items k ≡ Some server → server.number ≡ k) (sweeps : IsSweeping script (own_at its logs) sweeper.at) (width : sweeper.servers ≡ old.sweeper.servers) (same_book : directory.book ≡ old.directory.book) where
    still : (n : ℕ) (who : Actor) (work : Work) (caller : CallerOf) → n ≢ its → HasEnded script is.logs n who work caller → HasEnded script logs n who work caller
    still n who work caller other ended = record { saw = λ place. others n other place ∙ ended.saw place; acting = ended.acting; over = ended.over }

    client_apart : (i : ℕ) (work : Work) → slice_get (client_work script) i ≡ Some work → i ≢ its
    client_apart i work e same =
        let within : i < length (client_work script) = slice_get_within (client_work script) i work e in
        let long : length (client_work script) ≡ length script.clients = length-map script.clients _ in
        let number : i ≡ length script.clients + length script.repairers = same in
        absurd (omega (arith, within, long, number))

    repairer_apart : (i : ℕ) (work : Work) → slice_get (repairer_work script) i ≡ Some work → length script.clients + i ≢ its
    repairer_apart i work e same =
        let within : i < length (repairer_work script) = slice_get_within (repairer_work script) i work e in
        let long : length (repairer_work script) ≡ length script.repairers = length-map script.repairers _ in
        let number : length script.clients + i ≡ length script.clients + length script.repairers = same in
        absurd (omega (arith, within, long, number))

    operator_apart : its + 1 ≢ its
    operator_apart same = let number : length script.clients + length script.repairers + 1 ≡ length script.clients + length script.repairers = same in absurd (omega (arith, number))

    all_still : AllHaveEnded script logs logs is.operated is.clients is.repairers sweeper.at
    all_still =
        record {
          client_count = is.all.client_count;
          clients_ended = λ i work caller e f. still i (actor.Client i) work caller (client_apart i work e) (is.all.clients_ended i work caller e f);
          repairer_count = is.all.repairer_count;
          repairers_ended = λ i work caller e f. still (length script.clients + i) (actor.Repairer i) work caller (repairer_apart i work e) (is.all.repairers_ended i work caller e f);
          saw_swept = λ place. refl;
          sweeping = sweeps;
          saw_operated = λ place. others (its + 1) operator_apart place ∙ is.all.saw_operated place;
          operating = is.all.operating;
        }

    ended_on : IsEnded script (record old { directory = directory; servers = servers; sweeper = sweeper })
    ended_on =
        record {
          geometry = is.geometry;
          valid = is.valid;
          written = ap (λ (b : BookOf). b.script) same_book ∙ is.written;
          logs = logs;
          swept = logs;
          operated = is.operated;
          clients = is.clients;
          repairers = is.repairers;
          places = stand;
          numbers = numbered;
          all = all_still;
          servers = width ∙ is.servers;
          calls = is.calls;
          rebuilds = is.rebuilds;
          owed = λ i calls e. record { seen = (is.owed i calls e).seen; goes = prefix_trans (is.owed i calls e).seen is.logs.directory logs.directory (is.owed i calls e).goes grown; owed = (is.owed i calls e).owed };
        }

  -- ---- after a step at a server
  module _ (j : ℕ) (x now : ServerState) (servers : Vec ServerState Global) (sweeper : SweeperOf) (items : servers.items ≡ set old.servers.items j now) (less : j < length old.servers.items)
      (read : x ≡ get_or old.servers.items j x) (needs : need_of old.sweeper ≡ need.Server j) (stepped : (core_of now, sweeper) ≡ stepped_at_server old.sweeper (core_of x)) where
    there : slice_get old.servers.items j ≡ Some x
    there = slice_get_read old.servers.items (length old.servers.items) j x refl less read

    abbrev log : List (ℕ × MadeStep)
    log = log_of is.logs j

    abbrev log_now : List (ℕ × MadeStep)
    log_now = log_of is.logs j ++ plain_at_server its actor.Sweeper (act_of old.sweeper) (core_of x) (log_of is.logs j) last ∷ []

    within : j < chunk_count script.geometry
    within = subst (λ (n : ℕ). j < n) (sym (length-map old.servers.items core_of) ∙ is.places.width) less

    logged : j < length is.logs.servers
    logged = subst (λ (n : ℕ). j < n) (sym is.places.logged) within

    stands_on : StandsAtServer (counts_of script) j (core_of now) log_now
    stands_on =
        sweep_stands its last old.sweeper sweeper j needs (core_of x) (core_of now) stepped log (counts_of script)
        (is.places.at_server j (core_of x) (slice_get-map core_of old.servers.items j x there)) turn

    swept : SweptAt j its last log log_now old.sweeper sweeper
    swept =
        swept_there j its last log log_now old.sweeper sweeper needs
        (sweep_stepped its last old.sweeper sweeper j needs (core_of x) (core_of now) stepped log (its ∷ []) log log_now (alone its) (from_itself log its) refl)

    cores : map core_of servers.items ≡ set (map core_of old.servers.items) j (core_of now)
    cores = ap (map core_of) items ∙ map_set core_of old.servers.items j now

    server_stands : (k : ℕ) (s : Server) → slice_get (set (map core_of old.servers.items) j (core_of now)) k ≡ Some s → StandsAtServer (counts_of script) k s (log_of (with_log j log_now is.logs) k)
    server_stands =
        each_changed (λ (k : ℕ) (s : Server). StandsAtServer (counts_of script) k s (log_of (with_log j log_now is.logs) k)) (map core_of old.servers.items) j (core_of now)
        (λ k s apart e.
        subst (StandsAtServer (counts_of script) k s) (sym (ap (λ (o : Option (List (ℕ × MadeStep))). unwrap_or o []) (slice_get-change_at j k (λ _. log_now) is.logs.servers apart)))
        (is.places.at_server k s e))
        (subst (StandsAtServer (counts_of script) j (core_of now)) (sym (ap (λ (o : Option (List (ℕ × MadeStep))). unwrap_or o []) (changed_get j log_now is.logs.servers logged))) stands_on)

    places_stand : PlacesStand script old.directory (map core_of servers.items) (with_log j log_now is.logs)
    places_stand =
        record {
          book = is.places.book;
          directory = is.places.directory;
          width = ap (λ (xs : List Server). length xs) cores ∙ (length-set (map core_of old.servers.items) j (core_of now) ∙ is.places.width);
          logged = length-change_at j (λ _. log_now) is.logs.servers ∙ is.places.logged;
          at_server = λ k s e. server_stands k s (ap (λ (xs : List Server). slice_get xs k) (sym cores) ∙ e);
        }

    numbered_here : now.number ≡ x.number → (k : ℕ) (server : ServerState) → slice_get servers.items k ≡ Some server → server.number ≡ k
    numbered_here number k server e =
        each_changed (λ (n : ℕ) (s : ServerState). s.number ≡ n) old.servers.items j now (λ n s apart f. is.numbers n s f) (number ∙ is.numbers j x there) k server
        (ap (λ (xs : List ServerState). slice_get xs k) (sym items) ∙ e)

    sweeps_here : IsSweeping script (own_at its (with_log j log_now is.logs)) sweeper.at
    sweeps_here =
        heard_is (IsSweeping script (own_at its (with_log j log_now is.logs))) swept.added.answer sweeper swept.hears
        ((sweeping_goes_on script its is.logs old.sweeper.at sweeping).at_server j swept.step log_now is.places.logged within (next_is (Act.AtServer j swept.step) swept.acts) swept.added)

    pub ended_at_server : now.number ≡ x.number → IsEnded script (record old { servers = servers; sweeper = sweeper })
    ended_at_server number =
        ended_on old.directory servers sweeper (with_log j log_now is.logs)
        (λ n apart. others_at_server is.logs n j (plain_at_server its actor.Sweeper (act_of old.sweeper) (core_of x) (log_of is.logs j) last) apart logged)
        (prefix_self is.logs.directory) places_stand (numbered_here number) sweeps_here (ap (λ (s : SweeperOf). s.servers) swept.hears) refl

  -- ---- after a step at the directory
  module _ (directory : Sealed) (sweeper : SweeperOf) (needs : need_of old.sweeper ≡ need.Directory) (stepped : (directory.core, sweeper) ≡ stepped_at_directory actor.Sweeper 0 old.sweeper old.directory.core)
      (sound : IsSound old.directory.core) where
    abbrev notes : List (ℕ × Noted)
    notes = is.logs.directory

    abbrev notes_now : List (ℕ × Noted)
    notes_now = is.logs.directory ++ plain_at_directory its actor.Sweeper (act_of old.sweeper) old.directory is.logs.directory last ∷ []

    swept_on : HasSweptAtDirectory its last notes notes_now old.sweeper sweeper
    swept_on = sweep_stepped_there its last old.sweeper sweeper needs old.directory directory stepped notes (its ∷ []) notes notes_now (alone its) (from_itself notes its) refl

    sweeps_there : IsSweeping script (own_at its (with_notes notes_now is.logs)) sweeper.at
    sweeps_there =
        heard_is (IsSweeping script (own_at its (with_notes notes_now is.logs))) swept_on.added.answer sweeper swept_on.hears
        ((sweeping_goes_on script its is.logs old.sweeper.at sweeping).at_directory swept_on.step notes_now (next_is (Act.AtDirectory swept_on.step) swept_on.acts) swept_on.added)

    pub ended_at_directory : 0 < stripe_length old.directory.core.shape → directory.book ≡ old.directory.book → directory.stamps ≡ old.directory.stamps → IsEnded script (record old { directory = directory; sweeper = sweeper })
    ended_at_directory wide book stamps =
        ended_on directory old.servers sweeper (with_notes notes_now is.logs)
        (λ n apart. others_at_directory is.logs n (plain_at_directory its actor.Sweeper (act_of old.sweeper) old.directory is.logs.directory last) apart)
        (prefix_after notes (Some (plain_at_directory its actor.Sweeper (act_of old.sweeper) old.directory is.logs.directory last)))
        (record {
          book = ap (λ (b : BookOf). b.geometry) book ∙ is.places.book;
          directory = sweep_stands_there its last old.sweeper sweeper needs old.directory directory stepped notes (counts_of script) (size_of script) wide sound book stamps is.places.directory turn;
          width = is.places.width;
          logged = is.places.logged;
          at_server = is.places.at_server;
        })
        is.numbers sweeps_there (ap (λ (s : SweeperOf). s.servers) swept_on.hears) book

    -- the directory and the sweeper after it
    both : (directory.core, sweeper) ≡ at_directory_by (Act.AtDirectory swept_on.step) actor.Sweeper 0 old.sweeper old.directory.core
    both = subst (λ (act : Act). (directory.core, sweeper) ≡ at_directory_by act actor.Sweeper 0 old.sweeper old.directory.core) swept_on.acts stepped

    pub falls_at_directory : has_sweep old ≡ true → steps_left script (record old { directory = directory; sweeper = sweeper }) < steps_left script old
    falls_at_directory has =
        let after : Directory × Told = at_directory false actor.Sweeper 0 swept_on.step old.directory.core in
        subst (λ (d : Directory). sweeps_left script.geometry sweeper.at d < sweeps_left script.geometry old.sweeper.at old.directory.core) (sym (ap (λ (p : Directory × SweeperOf). p.0) both))
        (heard_is (λ (s : Sweeper). sweeps_left script.geometry s after.0 < sweeps_left script.geometry old.sweeper.at old.directory.core) after.1 sweeper (ap (λ (p : Directory × SweeperOf). p.1) both)
        ((sweeps_fall script.geometry old.sweeper.at old.directory.core sound).at_directory swept_on.step (next_is (Act.AtDirectory swept_on.step) swept_on.acts) has))

-- What every core of a run keeps, and a measure that each step of a drain lowers.
use Rattle.std.proofs.Common.{◌≡◌, ℕ, suc, ◌+◌, ◌-◌, ◌*◌, ◌<◌, ◌≤◌, Bool, true, false, cond, ◌||◌, nat_lt, [], ◌∷◌, length, drop, Option, None, Some, is_some, refl, sym, ap, subst, ◌∙◌, inl, inr, ◌⊎◌, arith, true≢false, mul-le-mul_left}
use Rattle.std.proofs.lemmas.Bool.{ltb-true}
use Rattle.std.specs.List.{slice_get}
use Rattle.clay_grid.specs.Shape.{chunk_count, stripe_length}
use Rattle.store_map.specs.Limits.{size_of, tries_of}
use Rattle.store_map.specs.declared.script.Script.{Script}
use Rattle.store_map.specs.declared.actor.Actor.{Actor}
use Rattle.store_map.specs.declared.actor.Actor.TheVariants as actor
use Rattle.store_core.specs.Lists.{change_at}
use Rattle.store_core.specs.Act.{Act, DirectoryStep, ServerStep}
use Rattle.store_core.specs.Bounds.{sweep_bound}
use Rattle.store_core.specs.Core.{Core, sweeper_has_step}
use Rattle.store_core.specs.Directory.{Standing, Directory}
use Rattle.store_core.specs.Lookups.{first_garbage}
use Rattle.store_core.specs.AtDirectory.{at_directory, take_garbage}
use Rattle.store_core.specs.Server.{Server}
use Rattle.store_core.specs.Sound.{IsSound}
use Rattle.store_core.specs.Step.{Places, at_places, at_server_there}
use Rattle.store_core.specs.CallStep.{step_of}
use Rattle.store_core.specs.Sweep.{Sweeper, is_busy, next_sweep, after_sweep}
use Rattle.run_laws.specs.SweepLaws.{sweep_left}
use Rattle.store_core.specs.Run.{Run, first_shortage, places_in, with_places, after_client, after_repairer, client_step, repairer_step}
use Rattle.store_core.specs.Work.{Calling, client_work, repairer_work}
use Rattle.store_core.specs.PlaceLaws.{new_versions, KeepsPlaces}
use Rattle.store_core.proofs.Places.{length-change_at, length-set_standing, directory_keeps_places}
use Rattle.run_laws.proofs.Passes.{held, PassesStay, passes_stay, IsOthersStep}
use Rattle.run_laws.proofs.LiveVersions.{live_count, HasLive, sound_live, counts_move, take_lowers}
use Rattle.run_laws.proofs.ShortObjects.{sound_short}
use Rattle.run_laws.proofs.ActAnswers.{FitPlaces}
use Rattle.run_laws.proofs.Groups.{group_steps, group_draws, GroupKept, IsIdle, GroupStepped, IsGroup, held_kept, group_step}

-- one version is taken while the sweeper is busy
abbrev pub busy_count : Sweeper → ℕ
busy_count Sweeper.Idle = 0
busy_count (Sweeper.Sweeping version server) = 1

-- what every core keeps
pub record Keeps (script : Script) (core : Core) : Type 0 where
  pub shape : core.directory.shape ≡ script.geometry
  pub max : core.directory.max ≡ size_of script
  pub servers : length core.servers ≡ chunk_count script.geometry
  pub client_count : length core.clients ≡ length script.clients
  pub repairer_count : length core.repairers ≡ length script.repairers
  pub clients : GroupKept script actor.Client (client_work script) core.clients core.directory
  pub repairers : GroupKept script actor.Repairer (repairer_work script) core.repairers core.directory
  pub counted : live_count core.directory.versions + busy_count core.sweeper ≤ length core.directory.versions

-- the steps that all actors and the sweeper may yet make
abbrev pub measure : Script → Core → ℕ
measure script core =
    group_steps script (client_work script) core.clients + group_steps script (repairer_work script) core.repairers
    + sweep_bound script.geometry * (live_count core.directory.versions + (group_draws script (client_work script) core.clients + group_draws script (repairer_work script) core.repairers))
    + sweep_left (chunk_count script.geometry) core.sweeper

-- what the script must be like
pub record CanRun (script : Script) : Type 0 where
  pub some : 0 < stripe_length script.geometry
  pub tried : 1 ≤ tries_of script
  pub clients : IsGroup script actor.Client (client_work script)
  pub repairers : IsGroup script actor.Repairer (repairer_work script)

pub fit_places : (script : Script) (core : Core) → Keeps script core → IsSound core.directory → FitPlaces script.geometry (size_of script) (places_in core)
fit_places script core keeps sound = record { shape = keeps.shape; max = keeps.max; servers = keeps.servers; short = sound_short core.directory sound }

-- a step lowers the measure, or there was none and all is as it was
pub record Lowers (script : Script) (before after : Core) : Type 0 where
  pub keeps : Keeps script after
  pub lower : measure script after < measure script before

abbrev pub Progress : Script → Run → Run → Type 0 → Type 0
Progress script before after idle = Lowers script before.core after.core ⊎ ((after ≡ before) × idle)

-- ---- arithmetic of the measure
falls_by_steps : (steps steps_now others sweeps live live_now left : ℕ) → steps_now < steps → live_now ≤ live → steps_now + others + sweeps * live_now + left < steps + others + sweeps * live + left
falls_by_steps steps steps_now others sweeps live live_now left fewer low =
    let product : sweeps * live_now ≤ sweeps * live = mul-le-mul_left sweeps low in
    let x : ℕ = sweeps * live_now in
    let y : ℕ = sweeps * live in
    omega (arith, fewer, product)

falls_by_other_steps : (steps steps_now others sweeps live live_now left : ℕ) → steps_now < steps → live_now ≤ live → others + steps_now + sweeps * live_now + left < others + steps + sweeps * live + left
falls_by_other_steps steps steps_now others sweeps live live_now left fewer low =
    let product : sweeps * live_now ≤ sweeps * live = mul-le-mul_left sweeps low in
    let x : ℕ = sweeps * live_now in
    let y : ℕ = sweeps * live in
    omega (arith, fewer, product)

falls_by_sweep : (steps sweeps live live_now left left_now : ℕ) → live_now ≤ live → left_now < left → steps + sweeps * live_now + left_now < steps + sweeps * live + left
falls_by_sweep steps sweeps live live_now left left_now low fewer =
    let product : sweeps * live_now ≤ sweeps * live = mul-le-mul_left sweeps low in
    let x : ℕ = sweeps * live_now in
    let y : ℕ = sweeps * live in
    omega (arith, fewer, product)

falls_by_version : (steps sweeps live live_now left : ℕ) → live_now < live → left < sweeps → steps + sweeps * live_now + left < steps + sweeps * live + 0
falls_by_version steps sweeps live live_now left low fewer =
    let product : sweeps * suc live_now ≤ sweeps * live = mul-le-mul_left sweeps low in
    let x : ℕ = sweeps * live_now in
    let y : ℕ = sweeps * live in
    omega (arith, fewer, product)

-- ---- a step of a client or a repairer
module _ (script : Script) (can : CanRun script) (run : Run) (keeps : Keeps script run.core) (sound : IsSound run.core.directory) (i : ℕ) where
  client_done : (after : Option (Places × Calling)) → GroupStepped script actor.Client (client_work script) i run.core.clients (places_in run.core) after
      → Progress script run (after_client i run after) (IsIdle script actor.Client (client_work script) run.core.clients i)
  client_done None idle = inr (refl, idle)
  client_done (Some after) moves =
      let count : live_count after.0.directory.versions + length run.core.directory.versions ≤ live_count run.core.directory.versions + length after.0.directory.versions = moves.count in
      let counted : live_count run.core.directory.versions + busy_count run.core.sweeper ≤ length run.core.directory.versions = keeps.counted in
      let draws : live_count after.0.directory.versions + group_draws script (client_work script) (change_at i (λ _. after.1) run.core.clients)
      ≤ live_count run.core.directory.versions + group_draws script (client_work script) run.core.clients = moves.draws in
      let others : ℕ = group_draws script (repairer_work script) run.core.repairers in
      let now : ℕ = group_draws script (client_work script) (change_at i (λ _. after.1) run.core.clients) in
      let old : ℕ = group_draws script (client_work script) run.core.clients in
      let live : live_count after.0.directory.versions + (now + others) ≤ live_count run.core.directory.versions + (old + others) = omega (arith, draws) in
      inl (record {
        keeps =
            record {
              shape = moves.shape ∙ keeps.shape;
              max = moves.max ∙ keeps.max;
              servers = moves.servers ∙ keeps.servers;
              client_count = length-change_at i (λ _. after.1) run.core.clients ∙ keeps.client_count;
              repairer_count = keeps.repairer_count;
              clients = moves.kept;
              repairers = λ j work calling is_work is_calling.
                  held_kept script actor.Repairer (repairer_work script) (actor.Repairer j) (drop (length calling.ended) work.jobs) calling run.core.directory after.0.directory
                  (moves.others (actor.Repairer j) refl) (keeps.repairers j work calling is_work is_calling);
              counted = omega (arith, count, counted);
            };
        lower =
            falls_by_steps (group_steps script (client_work script) run.core.clients) (group_steps script (client_work script) (change_at i (λ _. after.1) run.core.clients))
            (group_steps script (repairer_work script) run.core.repairers) (sweep_bound script.geometry) (live_count run.core.directory.versions + (old + others))
            (live_count after.0.directory.versions + (now + others)) (sweep_left (chunk_count script.geometry) run.core.sweeper) moves.steps live;
      })

  -- a client's step
  pub client_progress : Progress script run (client_step script i run) (IsIdle script actor.Client (client_work script) run.core.clients i)
  client_progress =
      client_done (step_of script (first_shortage run.shortages) (actor.Client i) (slice_get (client_work script) i) (slice_get run.core.clients i) (places_in run.core))
      (group_step script actor.Client (client_work script) can.clients can.some can.tried run.core.clients (places_in run.core) (fit_places script run.core keeps sound)
      (sound_live run.core.directory sound) keeps.clients i (first_shortage run.shortages))

  repairer_done : (after : Option (Places × Calling)) → GroupStepped script actor.Repairer (repairer_work script) i run.core.repairers (places_in run.core) after
      → Progress script run (after_repairer i run after) (IsIdle script actor.Repairer (repairer_work script) run.core.repairers i)
  repairer_done None idle = inr (refl, idle)
  repairer_done (Some after) moves =
      let count : live_count after.0.directory.versions + length run.core.directory.versions ≤ live_count run.core.directory.versions + length after.0.directory.versions = moves.count in
      let counted : live_count run.core.directory.versions + busy_count run.core.sweeper ≤ length run.core.directory.versions = keeps.counted in
      let draws : live_count after.0.directory.versions + group_draws script (repairer_work script) (change_at i (λ _. after.1) run.core.repairers)
      ≤ live_count run.core.directory.versions + group_draws script (repairer_work script) run.core.repairers = moves.draws in
      let others : ℕ = group_draws script (client_work script) run.core.clients in
      let now : ℕ = group_draws script (repairer_work script) (change_at i (λ _. after.1) run.core.repairers) in
      let old : ℕ = group_draws script (repairer_work script) run.core.repairers in
      let live : live_count after.0.directory.versions + (others + now) ≤ live_count run.core.directory.versions + (others + old) = omega (arith, draws) in
      inl (record {
        keeps =
            record {
              shape = moves.shape ∙ keeps.shape;
              max = moves.max ∙ keeps.max;
              servers = moves.servers ∙ keeps.servers;
              client_count = keeps.client_count;
              repairer_count = length-change_at i (λ _. after.1) run.core.repairers ∙ keeps.repairer_count;
              clients = λ j work calling is_work is_calling.
                  held_kept script actor.Client (client_work script) (actor.Client j) (drop (length calling.ended) work.jobs) calling run.core.directory after.0.directory
                  (moves.others (actor.Client j) refl) (keeps.clients j work calling is_work is_calling);
              repairers = moves.kept;
              counted = omega (arith, count, counted);
            };
        lower =
            falls_by_other_steps (group_steps script (repairer_work script) run.core.repairers) (group_steps script (repairer_work script) (change_at i (λ _. after.1) run.core.repairers))
            (group_steps script (client_work script) run.core.clients) (sweep_bound script.geometry) (live_count run.core.directory.versions + (others + old))
            (live_count after.0.directory.versions + (others + now)) (sweep_left (chunk_count script.geometry) run.core.sweeper) moves.steps live;
      })

  -- a repairer's step
  pub repairer_progress : Progress script run (repairer_step script i run) (IsIdle script actor.Repairer (repairer_work script) run.core.repairers i)
  repairer_progress =
      repairer_done (step_of script (first_shortage run.shortages) (actor.Repairer i) (slice_get (repairer_work script) i) (slice_get run.core.repairers i) (places_in run.core))
      (group_step script actor.Repairer (repairer_work script) can.repairers can.some can.tried run.core.repairers (places_in run.core) (fit_places script run.core keeps sound)
      (sound_live run.core.directory sound) keeps.repairers i (first_shortage run.shortages))

-- ---- a step of the sweeper or the operator changes no call
-- places and a sweeper in place of a core's
pub record Elsewhere (script : Script) (core : Core) (places : Places) : Type 0 where
  pub held : (who : Actor) → held who places.directory ≡ held who core.directory
  pub shape : places.directory.shape ≡ core.directory.shape
  pub max : places.directory.max ≡ core.directory.max
  pub servers : length places.servers ≡ length core.servers

-- a core whose places and sweeper changed
abbrev pub swept : Core → Places → Sweeper → Core
swept core places sweeper = with_places places (record core { sweeper = sweeper })

others_keep : (script : Script) (core : Core) (places : Places) (sweeper : Sweeper) → Keeps script core → Elsewhere script core places
    → live_count places.directory.versions + busy_count sweeper ≤ length places.directory.versions → Keeps script (swept core places sweeper)
others_keep script core places sweeper keeps same counted =
    record {
      shape = same.shape ∙ keeps.shape;
      max = same.max ∙ keeps.max;
      servers = same.servers ∙ keeps.servers;
      client_count = keeps.client_count;
      repairer_count = keeps.repairer_count;
      clients = λ j work calling is_work is_calling.
          held_kept script actor.Client (client_work script) (actor.Client j) (drop (length calling.ended) work.jobs) calling core.directory places.directory
          (same.held (actor.Client j)) (keeps.clients j work calling is_work is_calling);
      repairers = λ j work calling is_work is_calling.
          held_kept script actor.Repairer (repairer_work script) (actor.Repairer j) (drop (length calling.ended) work.jobs) calling core.directory places.directory
          (same.held (actor.Repairer j)) (keeps.repairers j work calling is_work is_calling);
      counted = counted;
    }

server_elsewhere : (script : Script) (core : Core) (server : ℕ) (step : ServerStep) (found : Option Server) → Elsewhere script core (at_server_there false server step (places_in core) found).0
server_elsewhere script core server step None = record { held = λ who. refl; shape = refl; max = refl; servers = refl }
server_elsewhere script core server step (Some s) = record { held = λ who. refl; shape = refl; max = refl; servers = length-change_at server _ core.servers }

same_versions : (script : Script) (core : Core) (server : ℕ) (step : ServerStep) (found : Option Server) → (at_server_there false server step (places_in core) found).0.directory ≡ core.directory
same_versions script core server step None = refl
same_versions script core server step (Some s) = refl

directory_elsewhere : (script : Script) (core : Core) (who : Actor) (step : DirectoryStep) → IsOthersStep step → Elsewhere script core (at_places false who 0 (Act.AtDirectory step) (places_in core)).0
directory_elsewhere script core who step other =
    let stay : PassesStay core.directory (at_directory false who 0 step core.directory).0 = passes_stay who 0 step core.directory other in
    record { held = stay.held; shape = stay.shape; max = stay.max; servers = refl }

-- versions after a step at the directory that is no call's
directory_counted : (core : Core) (who : Actor) (step : DirectoryStep) (busy : ℕ) → HasLive core.directory → live_count core.directory.versions + busy ≤ length core.directory.versions
    → live_count (at_directory false who 0 step core.directory).0.versions + busy ≤ length (at_directory false who 0 step core.directory).0.versions
directory_counted core who step busy has counted =
    let kept : KeepsPlaces core.directory (at_directory false who 0 step core.directory).0 (at_directory false who 0 step core.directory).1 = directory_keeps_places false who 0 step core.directory in
    let size : length (at_directory false who 0 step core.directory).0.versions ≡ length core.directory.versions + length (new_versions (at_directory false who 0 step core.directory).1) = kept.versions in
    let count : live_count (at_directory false who 0 step core.directory).0.versions ≤ live_count core.directory.versions + length (new_versions (at_directory false who 0 step core.directory).1) =
    counts_move core.directory has false who 0 step in
    let a : ℕ = live_count (at_directory false who 0 step core.directory).0.versions in
    let b : ℕ = length (at_directory false who 0 step core.directory).0.versions in
    let c : ℕ = length (new_versions (at_directory false who 0 step core.directory).1) in
    omega (arith, size, count, counted)

-- what the operator does
abbrev pub IsOperatorAct : Act → Type 0
IsOperatorAct (Act.AtDirectory step) = IsOthersStep step
IsOperatorAct (Act.AtServer server step) = Unit {0}
IsOperatorAct (Act.Finish outcome) = ⊥

module _ (script : Script) (core : Core) (keeps : Keeps script core) (sound : IsSound core.directory) where
  abbrev n : ℕ
  n = chunk_count script.geometry

  -- the operator
  pub operator_keeps : (act : Act) → IsOperatorAct act → Keeps script (with_places (at_places false actor.Operator 0 act (places_in core)).0 core)
  operator_keeps (Act.AtDirectory step) other =
      others_keep script core (at_places false actor.Operator 0 (Act.AtDirectory step) (places_in core)).0 core.sweeper keeps (directory_elsewhere script core actor.Operator step other)
      (directory_counted core actor.Operator step (busy_count core.sweeper) (sound_live core.directory sound) keeps.counted)
  operator_keeps (Act.AtServer server step) other =
      others_keep script core (at_places false actor.Operator 0 (Act.AtServer server step) (places_in core)).0 core.sweeper keeps (server_elsewhere script core server step (slice_get core.servers server))
      (subst (λ (d : Directory). live_count d.versions + busy_count core.sweeper ≤ length d.versions) (sym (same_versions script core server step (slice_get core.servers server))) keeps.counted)
  operator_keeps (Act.Finish outcome) other = absurd other

  -- ---- the sweeper
  -- it keeps what every core keeps, and makes the measure fall where it has a step
  record SweeperMoves (sweeper : Sweeper) (places : Places) (next : Sweeper) : Type 0 where
    kept : Keeps script (swept core places next)
    lower : (is_busy sweeper || is_some (first_garbage core.directory)) ≡ true → measure script (swept core places next) < measure script core

  abbrev acting : ℕ
  acting = group_steps script (client_work script) core.clients + group_steps script (repairer_work script) core.repairers

  abbrev drawing : ℕ
  drawing = group_draws script (client_work script) core.clients + group_draws script (repairer_work script) core.repairers

  abbrev measured : ℕ → ℕ → ℕ
  measured live left = acting + sweep_bound script.geometry * (live + drawing) + left

  abbrev live_now : ℕ
  live_now = live_count core.directory.versions

  idle_moves : core.sweeper ≡ Sweeper.Idle → (found : Option ℕ) → first_garbage core.directory ≡ found
      → SweeperMoves Sweeper.Idle (record (places_in core) { directory = (take_garbage found core.directory).0 }) (after_sweep n Sweeper.Idle (take_garbage found core.directory).1)
  idle_moves rests None e =
      record {
        kept =
            others_keep script core (places_in core) Sweeper.Idle keeps (record { held = λ who. refl; shape = refl; max = refl; servers = refl })
            (subst (λ (s : Sweeper). live_now + busy_count s ≤ length core.directory.versions) rests keeps.counted);
        lower = λ busy. absurd (true≢false (sym busy ∙ ap is_some e));
      }
  idle_moves rests (Some version) e =
      let taken : Directory = (take_garbage (Some version) core.directory).0 in
      let less : live_count taken.versions < live_now = take_lowers core.directory version e in
      let size : length taken.versions ≡ length core.directory.versions = length-set_standing Standing.Taken (version ∷ []) core.directory.versions in
      let counted : live_now + 0 ≤ length core.directory.versions = subst (λ (s : Sweeper). live_now + busy_count s ≤ length core.directory.versions) rests keeps.counted in
      let a : ℕ = live_count taken.versions in
      let b : ℕ = length taken.versions in
      let fewer : a + drawing < live_now + drawing = omega (arith, less) in
      let left : n - 0 + 1 < n + 2 = omega arith in
      record {
        kept =
            others_keep script core (record (places_in core) { directory = taken }) (Sweeper.Sweeping version 0) keeps (record { held = λ who. refl; shape = refl; max = refl; servers = refl })
            (omega (arith, less, size, counted));
        lower = λ _. subst (λ (s : Sweeper). measured a (n - 0 + 1) < measured live_now (sweep_left n s)) (sym rests)
            (falls_by_version acting (sweep_bound script.geometry) (live_now + drawing) (a + drawing) (n - 0 + 1) fewer left);
      }

  module _ (version server : ℕ) (busy : core.sweeper ≡ Sweeper.Sweeping version server) where
    abbrev act_if : Bool → Act
    act_if b = cond b (Act.AtServer server (ServerStep.Discard version)) (Act.AtDirectory (DirectoryStep.Swept version))

    abbrev next_if : Bool → Sweeper
    next_if b = cond b (Sweeper.Sweeping version (server + 1)) Sweeper.Idle

    busy_moves : (b : Bool) → nat_lt server n ≡ b → SweeperMoves (Sweeper.Sweeping version server) (at_places false actor.Sweeper 0 (act_if b) (places_in core)).0 (next_if b)
    busy_moves true e =
        let found : Option Server = slice_get core.servers server in
        let same : (at_server_there false server (ServerStep.Discard version) (places_in core) found).0.directory ≡ core.directory = same_versions script core server (ServerStep.Discard version) found in
        let below : server < n = ltb-true server n e in
        let counted : live_now + 1 ≤ length core.directory.versions = subst (λ (s : Sweeper). live_now + busy_count s ≤ length core.directory.versions) busy keeps.counted in
        let left : n - (server + 1) + 1 < n - server + 1 = omega (arith, below) in
        record {
          kept =
              others_keep script core (at_server_there false server (ServerStep.Discard version) (places_in core) found).0 (Sweeper.Sweeping version (server + 1)) keeps
              (server_elsewhere script core server (ServerStep.Discard version) found) (subst (λ (d : Directory). live_count d.versions + 1 ≤ length d.versions) (sym same) counted);
          lower = λ _.
              subst (λ (d : Directory). measured (live_count d.versions) (n - (server + 1) + 1) < measured live_now (sweep_left n core.sweeper)) (sym same)
              (subst (λ (s : Sweeper). measured live_now (n - (server + 1) + 1) < measured live_now (sweep_left n s)) (sym busy)
              (falls_by_sweep acting (sweep_bound script.geometry) (live_now + drawing) (live_now + drawing) (n - server + 1) (n - (server + 1) + 1) (omega arith) left));
        }
    busy_moves false e =
        let after : Directory = (at_directory false actor.Sweeper 0 (DirectoryStep.Swept version) core.directory).0 in
        let counted : live_now + 1 ≤ length core.directory.versions = subst (λ (s : Sweeper). live_now + busy_count s ≤ length core.directory.versions) busy keeps.counted in
        let less : live_now + 0 ≤ length core.directory.versions = omega (arith, counted) in
        let count : live_count after.versions ≤ live_now + 0 = counts_move core.directory (sound_live core.directory sound) false actor.Sweeper 0 (DirectoryStep.Swept version) in
        let a : ℕ = live_count after.versions in
        let fewer : a + drawing ≤ live_now + drawing = omega (arith, count) in
        let left : 0 < n - server + 1 = omega arith in
        record {
          kept =
              others_keep script core (at_places false actor.Sweeper 0 (Act.AtDirectory (DirectoryStep.Swept version)) (places_in core)).0 Sweeper.Idle keeps
              (directory_elsewhere script core actor.Sweeper (DirectoryStep.Swept version) tt)
              (directory_counted core actor.Sweeper (DirectoryStep.Swept version) 0 (sound_live core.directory sound) less);
          lower = λ _.
              subst (λ (s : Sweeper). measured a 0 < measured live_now (sweep_left n s)) (sym busy)
              (falls_by_sweep acting (sweep_bound script.geometry) (live_now + drawing) (a + drawing) (n - server + 1) 0 fewer left);
        }

  abbrev SweptBy : Sweeper → Type 0
  SweptBy sweeper = SweeperMoves sweeper (at_places false actor.Sweeper 0 (next_sweep n sweeper) (places_in core)).0 (after_sweep n sweeper (at_places false actor.Sweeper 0 (next_sweep n sweeper) (places_in core)).1)

  swept_by : (sweeper : Sweeper) → core.sweeper ≡ sweeper → SweptBy sweeper
  swept_by Sweeper.Idle e = idle_moves e (first_garbage core.directory) refl
  swept_by (Sweeper.Sweeping version server) e = busy_moves version server e (nat_lt server n) refl

  -- a step of the sweeper
  pub sweeper_keeps : Keeps script (swept core (at_places false actor.Sweeper 0 (next_sweep n core.sweeper) (places_in core)).0 (after_sweep n core.sweeper (at_places false actor.Sweeper 0 (next_sweep n core.sweeper) (places_in core)).1))
  sweeper_keeps = (swept_by core.sweeper refl).kept

  -- the sweeper's step lowers the measure where it has one
  pub sweeper_lowers : sweeper_has_step core ≡ true
      → measure script (swept core (at_places false actor.Sweeper 0 (next_sweep n core.sweeper) (places_in core)).0 (after_sweep n core.sweeper (at_places false actor.Sweeper 0 (next_sweep n core.sweeper) (places_in core)).1))
      < measure script core
  sweeper_lowers has = (swept_by core.sweeper refl).lower has

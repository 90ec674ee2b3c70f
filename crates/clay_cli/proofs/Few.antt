-- The points of a run's directory and the chunks that its servers hold are few, and its servers' counts fit 64 bits.
use Rattle.std.proofs.Common.{◌≡◌, ℕ, zero, suc, ◌+◌, ◌<◌, ◌≤◌, ◌^◌, Bool, true, false, cond, nat_eq, nat_lt, List, [], ◌∷◌, ◌++◌, length, drop, filter, Option, None, Some, MatchOption, All, refl, ap, ◌∙◌, arith, length-append}
use Rattle.std.proofs.lemmas.Bool.{cond_both}
use Rattle.std.proofs.lemmas.List.{length_push}
use Rattle.std.proofs.lemmas.List.Elements.{All-nil, All-cons, All-head, All-tail, All-weaker, All-replicate, filter-append}
use Rattle.std.specs.List.{slice_get}
use Rattle.clay_grid.specs.Limits.{IsGeometry}
use Rattle.clay_grid.specs.Shape.{Shape, chunk_count}
use Rattle.store_map.specs.Limits.{size_of, tries_of}
use Rattle.store_map.specs.Naming.{IsValid}
use Rattle.store_map.specs.declared.actor.Actor.{Actor}
use Rattle.store_map.specs.declared.actor.Actor.TheVariants as actor
use Rattle.store_map.specs.declared.actor.Token.{Token}
use Rattle.store_map.specs.declared.actor.Token.TheVariants as token
use Rattle.store_map.specs.declared.placement.Placement.TheVariants as placement
use Rattle.store_map.specs.declared.script.Script.{Script}
use Rattle.store_core.specs.Act.{Act, DirectoryStep, ServerStep, server_takes_memory}
use Rattle.store_core.specs.ActPlace.{is_in_pass}
use Rattle.store_core.specs.AtDirectory.{take_garbage, at_directory}
use Rattle.store_core.specs.Core.{Core, first_core}
use Rattle.store_core.specs.Directory.{Directory, Point}
use Rattle.store_core.specs.Lists.{change_at, is_among}
use Rattle.store_core.specs.Lookups.{first_garbage}
use Rattle.store_core.specs.NextAct.{Job, next_act}
use Rattle.store_core.specs.PlaceLaws.{IsCounted, new_point}
use Rattle.store_core.specs.Run.{places_in}
use Rattle.store_core.specs.Schedule.{run_core}
use Rattle.store_core.specs.Server.{Server, new_server, hold, let_go, raised_by, gives, found_at, install, made_at_server, server_unless_short, at_server}
use Rattle.store_core.specs.Step.{Shortage, Places, at_places, at_server_there, told_first, actor_step}
use Rattle.store_core.specs.Sweep.{Sweeper, next_sweep}
use Rattle.store_core.specs.Told.{Told}
use Rattle.store_core.specs.Work.{Work, Calling, client_work, repairer_work}
use Rattle.store_core.proofs.Places.{servers_count_up, directory_keeps_places, acts_change_one_place}
use Rattle.run_laws.proofs.SoundLists.{at_all}
use Rattle.run_laws.proofs.ActorSteps.{ActorMoves, actor_moves}
use Rattle.run_laws.proofs.Groups.{sum_changed, steps_of, group_steps, drop_here}
use Rattle.run_laws.proofs.LiveVersions.{sound_live}
use Rattle.run_laws.proofs.Runs.{CanRun}
use Rattle.run_laws.proofs.RunsSound.{RunKeeps}
use Rattle.run_laws.proofs.Scripts.{can_run}
use Rattle.history_laws.proofs.AtWork.{AtWork, client_at, repairer_at}
use Rattle.history_laws.proofs.Induction.{KeptBySteps, run_has, client_after, repairer_after, operator_after}
use Rattle.thread_laws.specs.Threaded.{is_line}
use Rattle.clay_cli.specs.FormLaws.{HasFewLines}
use Rattle.clay_cli.proofs.FewSteps.{few_steps}

-- ---- what a step adds to what its server holds
abbrev adds_at : ServerStep → ℕ
adds_at (ServerStep.Prepare version) = 1
adds_at (ServerStep.Install version) = 1
adds_at step = 0

abbrev adds : Act → ℕ
adds (Act.AtServer server step) = adds_at step
adds act = 0

adds_at_most : (step : ServerStep) → adds_at step ≤ 1
adds_at_most (ServerStep.Prepare version) = omega arith
adds_at_most (ServerStep.Install version) = omega arith
adds_at_most step = omega arith

adds_most : (act : Act) → adds act ≤ 1
adds_most (Act.AtServer server step) = adds_at_most step
adds_most act = omega arith

one_held : (version : ℕ) (held : List ℕ) → length (hold version held) ≤ length held + 1
one_held version [] = omega arith
one_held version (other ∷ held) =
    cond_both {A = List ℕ} (nat_lt version other) (version ∷ other ∷ held) (cond (nat_eq version other) (other ∷ held) (other ∷ hold version held))
    (λ l. length l ≤ length (other ∷ held) + 1)
    (λ _. omega arith)
    (λ _.
    cond_both {A = List ℕ} (nat_eq version other) (other ∷ held) (other ∷ hold version held) (λ l. length l ≤ length (other ∷ held) + 1)
    (λ _. omega arith)
    (λ _. let rest : length (hold version held) ≤ length held + 1 = one_held version held in omega (arith, rest)))

pub filtered_few : {X : Type 0} (p : X → Bool) (xs : List X) → length (filter p xs) ≤ length xs
filtered_few p [] = omega arith
filtered_few p (x ∷ xs) =
    let rest : length (filter p xs) ≤ length xs = filtered_few p xs in
    cond_both {A = List _} (p x) (x ∷ filter p xs) (filter p xs) (λ l. length l ≤ length (x ∷ xs)) (λ _. omega (arith, rest))
    (λ _. omega (arith, rest))

abbrev Holds : ServerStep → Server → Server × Told → Type 0
Holds step s after = length after.0.held ≤ length s.held + adds_at step

install_held : (away there : Bool) (version : ℕ) (s : Server) → Holds (ServerStep.Install version) s (install away there version s)
install_held true there version s = omega arith
install_held false true version s = omega arith
install_held false false version s = one_held version s.held

made_held : (step : ServerStep) (s : Server) → Holds step s (made_at_server step s)
made_held (ServerStep.Prepare version) s =
    cond_both {A = Server × Told} s.away (s, Told.Prepared (placement.Skipped s.downs))
    (record s { held = hold version s.held }, Told.Prepared (placement.At s.epoch)) (Holds (ServerStep.Prepare version) s)
    (λ _. omega arith) (λ _. one_held version s.held)
made_held (ServerStep.Settle version) s = omega arith
made_held (ServerStep.Has version) s =
    cond_both {A = Server × Told} (gives version s) (s, Told.Here) (s, Told.Missing (found_at s)) (Holds (ServerStep.Has version) s)
    (λ _. omega arith) (λ _. omega arith)
made_held (ServerStep.Fetch version layers) s =
    cond_both {A = Server × Told} (gives version s) (record s { taken = raised_by (length layers) s.taken }, Told.Given (length layers))
    (s, Told.Missing (found_at s)) (Holds (ServerStep.Fetch version layers) s)
    (λ _. omega arith) (λ _. omega arith)
made_held (ServerStep.Install version) s = install_held s.away (is_among version s.held) version s
made_held (ServerStep.Discard version) s = let few : length (let_go version s.held) ≤ length s.held = filtered_few _ s.held in omega (arith, few)
made_held ServerStep.Wipe s = omega arith
made_held ServerStep.Down s = omega arith
made_held ServerStep.Up s = omega arith

short_held : (short takes : Bool) (step : ServerStep) (s : Server) → Holds step s (server_unless_short short takes step s)
short_held true true step s = omega arith
short_held true false step s = made_held step s
short_held false true step s = made_held step s
short_held false false step s = made_held step s

-- ---- servers
-- its counts fit, and what it holds and this many more are no more than there were at first
pub record ServerFew (start left : ℕ) (s : Server) : Type 0 where
  pub counted : IsCounted s
  pub held : length s.held + left ≤ start

server_few : (start left less : ℕ) (short : Bool) (step : ServerStep) (s : Server) → less + adds_at step ≤ left → ServerFew start left s
    → ServerFew start less (at_server short step s).0
server_few start left less short step s fewer few =
    let most : length (at_server short step s).0.held ≤ length s.held + adds_at step = short_held short (server_takes_memory step) step s in
    let before : length s.held + left ≤ start = few.held in
    record { counted = (servers_count_up short step s few.counted).counted; held = omega (arith, most, before, fewer) }

lower : (start left less more : ℕ) → less + more ≤ left → (s : Server) → ServerFew start left s → ServerFew start less s
lower start left less more fewer s few =
    let before : length s.held + left ≤ start = few.held in record { counted = few.counted; held = omega (arith, before, fewer) }

all_lower : (start left less more : ℕ) → less + more ≤ left → (servers : List Server) → All (ServerFew start left) servers
    → All (ServerFew start less) servers
all_lower start left less more fewer servers h = All-weaker (ServerFew start left) (ServerFew start less) (lower start left less more fewer) servers h

changed : (P Q : Server → Type 0) (j : ℕ) (new : Server) (xs : List Server) → Q new → ((s : Server) → P s → Q s) → All P xs
    → All Q (change_at j (λ _. new) xs)
changed P Q j new [] q f h = All-nil Q
changed P Q zero new (x ∷ xs) q f h = All-cons Q new xs q (All-weaker P Q f xs (All-tail P x xs h))
changed P Q (suc j) new (x ∷ xs) q f h =
    All-cons Q x (change_at j (λ _. new) xs) (f x (All-head P x xs h)) (changed P Q j new xs q f (All-tail P x xs h))

places_few : (start left less : ℕ) (short : Bool) (who : Actor) (number : ℕ) (act : Act) (places : Places) → less + adds act ≤ left
    → All (ServerFew start left) places.servers
    → All (ServerFew start less) (at_places short who number act places).0.servers
places_few start left less short who number (Act.AtDirectory step) places fewer h = all_lower start left less 0 fewer places.servers h
places_few start left less short who number (Act.Finish outcome) places fewer h = all_lower start left less 0 fewer places.servers h
places_few start left less short who number (Act.AtServer server step) places fewer h = by (slice_get places.servers server) refl
  where
    by : (found : Option Server) → slice_get places.servers server ≡ found
        → All (ServerFew start less) (at_server_there short server step places found).0.servers
    by None e = all_lower start left less (adds_at step) fewer places.servers h
    by (Some s) e =
        changed (ServerFew start left) (ServerFew start less) server (at_server short step s).0 places.servers
        (server_few start left less short step s fewer (at_all (ServerFew start left) places.servers server s h e))
        (lower start left less (adds_at step) fewer) h

-- ---- points
abbrev point_count : Places → ℕ
point_count places = length places.directory.points

points_most : (short : Bool) (who : Actor) (number : ℕ) (act : Act) (places : Places)
    → point_count (at_places short who number act places).0 ≤ point_count places + 1
points_most short who number (Act.AtDirectory step) places =
    by (new_point (at_directory short who number step places.directory).1) (at_directory short who number step places.directory).0.points
    (directory_keeps_places short who number step places.directory).points
  where
    by : (o : Option ℕ) (after : List Point)
        → MatchOption o (after ≡ places.directory.points)
        (λ place. (place ≡ length places.directory.points) × (point : Point) × (after ≡ places.directory.points ++ point ∷ []))
        → length after ≤ length places.directory.points + 1
    by None after same = let n : length after ≡ length places.directory.points = ap (λ (l : List Point). length l) same in omega (arith, n)
    by (Some place) after more =
        let n : length after ≡ length places.directory.points + 1 =
        ap (λ (l : List Point). length l) more.2 ∙ length_push places.directory.points more.1 in
        omega (arith, n)
points_most short who number (Act.AtServer server step) places =
    let same : (at_places short who number (Act.AtServer server step) places).0.directory ≡ places.directory =
    (acts_change_one_place short who number (Act.AtServer server step) places).0 in
    let n : point_count (at_places short who number (Act.AtServer server step) places).0 ≡ point_count places =
    ap (λ (d : Directory). length d.points) same in
    omega (arith, n)
points_most short who number (Act.Finish outcome) places = omega arith

taken_points : (found : Option ℕ) (d : Directory) → length (take_garbage found d).0.points ≤ length d.points
taken_points None d = omega arith
taken_points (Some version) d = omega arith

sweep_points : (n : ℕ) (sweeper : Sweeper) (places : Places)
    → point_count (at_places false actor.Sweeper 0 (next_sweep n sweeper) places).0 ≤ point_count places
sweep_points n Sweeper.Idle places = taken_points (first_garbage places.directory) places.directory
sweep_points n (Sweeper.Sweeping version server) places =
    cond_both {A = Act} (nat_lt server n) (Act.AtServer server (ServerStep.Discard version)) (Act.AtDirectory (DirectoryStep.Swept version))
    (λ a. point_count (at_places false actor.Sweeper 0 a places).0 ≤ point_count places)
    (λ _.
    let same : (at_places false actor.Sweeper 0 (Act.AtServer server (ServerStep.Discard version)) places).0.directory ≡ places.directory =
    (acts_change_one_place false actor.Sweeper 0 (Act.AtServer server (ServerStep.Discard version)) places).0 in
    let n : point_count (at_places false actor.Sweeper 0 (Act.AtServer server (ServerStep.Discard version)) places).0 ≡ point_count places =
    ap (λ (d : Directory). length d.points) same in
    omega (arith, n))
    (λ _. omega arith)

sweep_adds : (n : ℕ) (sweeper : Sweeper) → adds (next_sweep n sweeper) ≡ 0
sweep_adds n Sweeper.Idle = refl
sweep_adds n (Sweeper.Sweeping version server) =
    cond_both {A = Act} (nat_lt server n) (Act.AtServer server (ServerStep.Discard version)) (Act.AtDirectory (DirectoryStep.Swept version))
    (λ a. adds a ≡ 0) (λ _. refl) (λ _. refl)

-- ---- a call's step
actor_points : (g : Shape) (tries : ℕ) (shortage : Shortage) (who : Actor) (job : Job) (calling : Calling) (places : Places)
    → point_count (actor_step g tries shortage who job calling places).0 ≤ point_count places + 1
actor_points g tries shortage who job calling places =
    points_most shortage.step who (length calling.ended)
    (next_act g tries job (told_first shortage.coding (is_in_pass (next_act g tries job calling.told)) g job calling.told)) places

actor_servers : (start left less : ℕ) (g : Shape) (tries : ℕ) (shortage : Shortage) (who : Actor) (job : Job) (calling : Calling) (places : Places)
    → less < left → All (ServerFew start left) places.servers
    → All (ServerFew start less) (actor_step g tries shortage who job calling places).0.servers
actor_servers start left less g tries shortage who job calling places fewer h =
    let act : Act = next_act g tries job (told_first shortage.coding (is_in_pass (next_act g tries job calling.told)) g job calling.told) in
    places_few start left less shortage.step who (length calling.ended)
    (next_act g tries job (told_first shortage.coding (is_in_pass (next_act g tries job calling.told)) g job calling.told)) places
    (let most : adds (next_act g tries job (told_first shortage.coding (is_in_pass (next_act g tries job calling.told)) g job calling.told)) ≤ 1 =
    adds_most (next_act g tries job (told_first shortage.coding (is_in_pass (next_act g tries job calling.told)) g job calling.told)) in
    omega (arith, most, fewer)) h

-- ---- lines
abbrev lines : List Token → ℕ
lines tokens = length (filter is_line tokens)

lines_more : (past : List Token) (next : Token) → lines (past ++ next ∷ []) ≡ lines past + lines (next ∷ [])
lines_more past next = ap (λ (l : List Token). length l) (filter-append is_line past (next ∷ [])) ∙ length-append (filter is_line past)
    (filter is_line (next ∷ []))

-- ---- runs
module _ (script : Script) (can : CanRun script) where
  -- the steps that calls have ahead
  abbrev ahead : Core → ℕ
  ahead core = group_steps script (client_work script) core.clients + group_steps script (repairer_work script) core.repairers

  abbrev start : ℕ
  start = ahead (first_core script)

  pub record FewSoFar (past : List Token) (core : Core) : Type 0 where
    pub points : length core.directory.points + ahead core ≤ start + lines past
    pub servers : All (ServerFew start (ahead core)) core.servers

  module _ (core : Core) (kept : RunKeeps script core) (i : ℕ) (work : Work) (calling : Calling) (job : Job)
      (is_job : slice_get work.jobs (length calling.ended) ≡ Some job) (shortage : Shortage) where
    abbrev after : Actor → Places × Calling
    after who = actor_step script.geometry (tries_of script) shortage who job calling (places_in core)

    moves : (who : Actor) → AtWork script who job calling (places_in core)
        → ActorMoves script.geometry (size_of script) (tries_of script) who work.jobs calling (places_in core) (after who)
    moves who at =
        actor_moves script.geometry (size_of script) (tries_of script) can.some can.tried who at.self work.jobs
        (drop (suc (length calling.ended)) work.jobs) job at.target calling
        (drop_here work.jobs (length calling.ended) job is_job) (places_in core) at.fit (sound_live core.directory kept.sound) at.in_work shortage

    client_less : slice_get (client_work script) i ≡ Some work → slice_get core.clients i ≡ Some calling
        → group_steps script (client_work script) (change_at i (λ _. (after (actor.Client i)).1) core.clients) < group_steps script
        (client_work script) core.clients
    client_less is_work is_calling =
        let at : AtWork script (actor.Client i) job calling (places_in core) =
        client_at script can core kept i work calling job is_work is_calling is_job in
        let falls : steps_of script work (after (actor.Client i)).1 < steps_of script work calling = (moves (actor.Client i) at).steps in
        let sums : group_steps script (client_work script)
        (change_at i (λ _. (after (actor.Client i)).1) core.clients) + steps_of script work calling ≡ group_steps script
        (client_work script) core.clients + steps_of script work (after (actor.Client i)).1 =
        sum_changed (steps_of script) (client_work script) core.clients i work calling (after (actor.Client i)).1 is_work is_calling in
        less_by (group_steps script (client_work script) (change_at i (λ _. (after (actor.Client i)).1) core.clients))
        (group_steps script (client_work script) core.clients) (steps_of script work calling)
        (steps_of script work (after (actor.Client i)).1) falls sums
      where
        less_by : (a b c d : ℕ) → d < c → a + c ≡ b + d → a < b
        less_by a b c d f e = omega (arith, f, e)

    repairer_less : slice_get (repairer_work script) i ≡ Some work → slice_get core.repairers i ≡ Some calling
        → group_steps script (repairer_work script) (change_at i (λ _. (after (actor.Repairer i)).1) core.repairers) < group_steps script
        (repairer_work script) core.repairers
    repairer_less is_work is_calling =
        let at : AtWork script (actor.Repairer i) job calling (places_in core) =
        repairer_at script can core kept i work calling job is_work is_calling is_job in
        let falls : steps_of script work (after (actor.Repairer i)).1 < steps_of script work calling = (moves (actor.Repairer i) at).steps in
        let sums : group_steps script (repairer_work script)
        (change_at i (λ _. (after (actor.Repairer i)).1) core.repairers) + steps_of script work calling ≡ group_steps script
        (repairer_work script) core.repairers + steps_of script work (after (actor.Repairer i)).1 =
        sum_changed (steps_of script) (repairer_work script) core.repairers i work calling (after (actor.Repairer i)).1 is_work is_calling in
        less_by (group_steps script (repairer_work script) (change_at i (λ _. (after (actor.Repairer i)).1) core.repairers))
        (group_steps script (repairer_work script) core.repairers) (steps_of script work calling)
        (steps_of script work (after (actor.Repairer i)).1) falls sums
      where
        less_by : (a b c d : ℕ) → d < c → a + c ≡ b + d → a < b
        less_by a b c d f e = omega (arith, f, e)

  -- by numbers alone
  one_less : (points now left less start lines : ℕ) → points + left ≤ start + lines → now ≤ points + 1 → less < left → now + less ≤ start + lines
  one_less points now left less start lines a b c = omega (arith, a, b, c)

  one_line : (points now left start lines more : ℕ) → points + left ≤ start + lines → now ≤ points + 1 → more ≡ lines + 1 → now + left ≤ start + more
  one_line points now left start lines more a b c = omega (arith, a, b, c)

  more_lines : (points left start lines more one : ℕ) → points + left ≤ start + lines → more ≡ lines + one → points + left ≤ start + more
  more_lines points left start lines more one a c = omega (arith, a, c)

  less_first : (a b c : ℕ) → a < b → a + c < b + c
  less_first a b c h = omega (arith, h)

  less_last : (a b c : ℕ) → a < b → c + a < c + b
  less_last a b c h = omega (arith, h)

  no_more : (left more : ℕ) → more ≡ 0 → left + more ≤ left
  no_more left more e = omega (arith, e)

  fewer_now : (points now left start lines : ℕ) → points + left ≤ start + lines → now ≤ points → now + left ≤ start + lines
  fewer_now points now left start lines a b = omega (arith, a, b)

  -- a line of the operator
  operated : (past : List Token) (core : Core) (next : Token) (act : Act) → lines (next ∷ []) ≡ 1 → adds act ≡ 0 → FewSoFar past core
      → FewSoFar (past ++ next ∷ []) (operator_after act core)
  operated past core next act one none has =
      record {
        points =
            one_line (length core.directory.points) (point_count (at_places false actor.Operator 0 act (places_in core)).0) (ahead core) start
            (lines past) (lines (past ++ next ∷ [])) has.points
            (points_most false actor.Operator 0 act (places_in core)) (lines_more past next ∙ ap (λ n. lines past + n) one);
        servers = places_few start (ahead core) (ahead core) false actor.Operator 0 act (places_in core)
            (no_more (ahead core) (adds act) none) has.servers;
      }

  few_kept : KeptBySteps script can FewSoFar
  few_kept =
      record {
        quiet = λ past next core is_quiet has.
            record {
              points = more_lines (length core.directory.points) (ahead core) start (lines past) (lines (past ++ next ∷ []))
                  (lines (next ∷ [])) has.points (lines_more past next);
              servers = has.servers;
            };
        client = λ past core kept has i work calling job is_work is_calling is_job shortage.
            let less : group_steps script (client_work script)
            (change_at i (λ _. (after core kept i work calling job is_job shortage (actor.Client i)).1) core.clients) < group_steps script
            (client_work script) core.clients =
            client_less core kept i work calling job is_job shortage is_work is_calling in
            let all : ahead (client_after i core (after core kept i work calling job is_job shortage (actor.Client i))) < ahead core =
            less_first (group_steps script (client_work script)
            (change_at i (λ _. (after core kept i work calling job is_job shortage (actor.Client i)).1) core.clients))
            (group_steps script (client_work script) core.clients)
            (group_steps script (repairer_work script) core.repairers) less in
            record {
              points =
                  one_less (length core.directory.points) (point_count (after core kept i work calling job is_job shortage (actor.Client i)).0)
                  (ahead core)
                  (ahead (client_after i core (after core kept i work calling job is_job shortage (actor.Client i)))) start (lines past) has.points
                  (actor_points script.geometry (tries_of script) shortage (actor.Client i) job calling (places_in core)) all;
              servers = actor_servers start (ahead core)
                  (ahead (client_after i core (after core kept i work calling job is_job shortage (actor.Client i)))) script.geometry
                  (tries_of script) shortage (actor.Client i) job calling (places_in core) all has.servers;
            };
        repairer = λ past core kept has i work calling job is_work is_calling is_job shortage.
            let less : group_steps script (repairer_work script)
            (change_at i (λ _. (after core kept i work calling job is_job shortage (actor.Repairer i)).1) core.repairers) < group_steps script
            (repairer_work script) core.repairers =
            repairer_less core kept i work calling job is_job shortage is_work is_calling in
            let all : ahead (repairer_after i core (after core kept i work calling job is_job shortage (actor.Repairer i))) < ahead core =
            less_last (group_steps script (repairer_work script)
            (change_at i (λ _. (after core kept i work calling job is_job shortage (actor.Repairer i)).1) core.repairers))
            (group_steps script (repairer_work script) core.repairers)
            (group_steps script (client_work script) core.clients) less in
            record {
              points =
                  one_less (length core.directory.points) (point_count (after core kept i work calling job is_job shortage (actor.Repairer i)).0)
                  (ahead core)
                  (ahead (repairer_after i core (after core kept i work calling job is_job shortage (actor.Repairer i)))) start
                  (lines past) has.points
                  (actor_points script.geometry (tries_of script) shortage (actor.Repairer i) job calling (places_in core)) all;
              servers = actor_servers start (ahead core)
                  (ahead (repairer_after i core (after core kept i work calling job is_job shortage (actor.Repairer i)))) script.geometry
                  (tries_of script) shortage (actor.Repairer i) job calling (places_in core) all has.servers;
            };
        sweeper = λ past core kept has.
            record {
              points =
                  fewer_now (length core.directory.points)
                  (point_count (at_places false actor.Sweeper 0 (next_sweep (chunk_count script.geometry) core.sweeper) (places_in core)).0)
                  (ahead core) start (lines past) has.points
                  (sweep_points (chunk_count script.geometry) core.sweeper (places_in core));
              servers =
                  places_few start (ahead core) (ahead core) false actor.Sweeper 0 (next_sweep (chunk_count script.geometry) core.sweeper)
                  (places_in core)
                  (no_more (ahead core) (adds (next_sweep (chunk_count script.geometry) core.sweeper))
                  (sweep_adds (chunk_count script.geometry) core.sweeper)) has.servers;
            };
        wipe = λ past core kept has server. operated past core (token.Wipe server) (Act.AtServer server ServerStep.Wipe) refl refl has;
        down = λ past core kept has server. operated past core (token.Down server) (Act.AtServer server ServerStep.Down) refl refl has;
        up = λ past core kept has server. operated past core (token.Up server) (Act.AtServer server ServerStep.Up) refl refl has;
        reap_client = λ past core kept has i. operated past core (token.ReapClient i)
            (Act.AtDirectory (DirectoryStep.Reap (actor.Client i))) refl refl has;
        reap_repairer = λ past core kept has i. operated past core (token.ReapRepairer i)
            (Act.AtDirectory (DirectoryStep.Reap (actor.Repairer i))) refl refl has;
      }

  fresh_server : ServerFew start start new_server
  fresh_server = record { counted = record { epoch = omega arith; taken = omega arith; downs = omega arith }; held = le_start start }
    where
      le_start : (n : ℕ) → 0 + n ≤ n
      le_start n = omega arith

  few_first : FewSoFar [] (first_core script)
  few_first =
      record {
        points = le_start start;
        servers = All-replicate (ServerFew start start) (chunk_count script.geometry) new_server fresh_server;
      }
    where
      le_start : (n : ℕ) → 0 + n ≤ n + 0
      le_start n = omega arith

-- ---- what follows
pub record IsFew (core : Core) : Type 0 where
  pub points : length core.directory.points < 2 ^ 64
  pub servers : All (λ (s : Server). IsCounted s × (length s.held < 2 ^ 64)) core.servers

points_below : (points left start lines : ℕ) → points + left ≤ start + lines → start ≤ 140737493270528 → lines < 2 ^ 32 → points < 2 ^ 64
points_below points left start lines a b c = omega (arith, a, b, c)

held_below : (held left start : ℕ) → held + left ≤ start → start ≤ 140737493270528 → held < 2 ^ 64
held_below held left start a b = omega (arith, a, b)

-- in every run of a valid script, whose operator's lines are few
pub runs_are_few : (script : Script) → IsGeometry script.geometry → IsValid script → (shortages : List Shortage) (tokens : List Token)
    → HasFewLines tokens → IsFew (run_core script shortages tokens)
runs_are_few script geometry valid shortages tokens few =
    let can : CanRun script = can_run script geometry valid in
    let core : Core = run_core script shortages tokens in
    let most : start script can ≤ 140737493270528 = few_steps script geometry valid can in
    let all : RunKeeps script core × FewSoFar script can tokens core =
    run_has script can (FewSoFar script can) (few_kept script can) shortages (few_first script can) tokens in
    record {
      points = points_below (length core.directory.points) (ahead script can core) (start script can) (lines tokens) all.1.points most few;
      servers =
          All-weaker (ServerFew (start script can) (ahead script can core)) (λ (s : Server). IsCounted s × (length s.held < 2 ^ 64))
          (λ s h. (h.counted, held_below (length s.held) (ahead script can core) (start script can) h.held most)) core.servers all.1.servers;
    }

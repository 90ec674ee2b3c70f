-- The sweeper and the operator take nothing, so a server's count is what calls count.
use Rattle.std.proofs.Common.{◌≡◌, ℕ, ◌+◌, ◌-◌, ◌^◌, ◌<◌, min, Bool, true, false, cond, nat_lt, List, [], ◌∷◌, length, filter, Some, refl, sym, ap, subst, ◌∙◌, arith}
use Rattle.std.proofs.lemmas.Bool.{cond_both}
use Rattle.std.proofs.lemmas.Option.{none-some, same_Some}
use Rattle.std.proofs.lemmas.List.Sums.{sum_by-cons}
use Rattle.std.specs.Prelude.{sum_by}
use Rattle.std.specs.List.{slice_get, range_with_len}
use Rattle.clay_grid.specs.Shape.{chunk_count}
use Rattle.store_map.specs.declared.placement.Placement.TheVariants as placement
use Rattle.store_map.specs.declared.script.Script.{Script}
use Rattle.store_map.specs.declared.actor.Actor.{Actor}
use Rattle.store_map.specs.declared.actor.Actor.TheVariants as actor
use Rattle.store_map.specs.declared.actor.Token.{Token}
use Rattle.store_map.specs.declared.actor.Token.TheVariants as token
use Rattle.store_core.specs.Lists.{is_among}
use Rattle.store_core.specs.Told.{Told}
use Rattle.store_core.specs.Act.{Act, DirectoryStep, ServerStep, server_takes_memory}
use Rattle.store_core.specs.ActPlace.{ActPlace}
use Rattle.store_core.specs.Server.{Server, hold, new_server, gives, found_at, install, made_at_server, server_unless_short}
use Rattle.store_core.specs.Sweep.{Sweeper, next_sweep}
use Rattle.store_core.specs.Work.{new_calling, client_work, repairer_work}
use Rattle.store_core.specs.Core.{first_core}
use Rattle.thread_laws.specs.MadeSteps.{MadeStep, is_by, is_at}
use Rattle.thread_laws.specs.AtPlaces.{after_all, AllCome, server_act, server_next, ServerAnswers}
use Rattle.thread_laws.specs.ByActors.{sweeper_next, IsNextSweep}
use Rattle.thread_laws.specs.Lines.{operator_act, lines_next, IsNextLine}
use Rattle.thread_laws.specs.Histories.{Histories, StandTwice, ComeOfActor, GoOn}
use Rattle.thread_laws.specs.Taken.{given_by, given, taken_at}
use Rattle.thread_laws.specs.CallTakes.{taken_by_calls, client_after, repairer_after, CallsCountTakes}
use Rattle.thread_laws.proofs.Given.{slice_get-replicate}
use Rattle.thread_laws.proofs.TakenSums.{server_comes, servers_count}
use Rattle.thread_laws.proofs.CallsCounted.{actor_counted, min_sums}

-- what a fetch was given
abbrev fetched_by : Act → Told → ℕ
fetched_by (Act.AtServer server (ServerStep.Fetch version layers)) answer = given_by (Act.AtServer server (ServerStep.Fetch version layers)) answer
fetched_by act answer = 0

abbrev fetched : MadeStep → ℕ
fetched m = fetched_by m.act m.answer

-- ---- a server gives subchunks to fetches alone
abbrev GivesNone : Server × Told → Type 0
GivesNone after = given_by (Act.AtServer 0 ServerStep.Wipe) after.1 ≡ 0

installed : (away there : Bool) (version : ℕ) (s : Server) → GivesNone (install away there version s)
installed true there version s = refl
installed false true version s = refl
installed false false version s = refl

made : (server : ℕ) (step : ServerStep) (s : Server) → given_by (Act.AtServer server step) (made_at_server step s).1 ≡ fetched_by (Act.AtServer server step) (made_at_server step s).1
made server (ServerStep.Prepare version) s =
    cond_both {A = Server × Told} s.away (s, Told.Prepared (placement.Skipped s.downs)) (record s { held = hold version s.held }, Told.Prepared (placement.At s.epoch)) GivesNone (λ _. refl) (λ _. refl)
made server (ServerStep.Settle version) s = refl
made server (ServerStep.Has version) s = cond_both {A = Server × Told} (gives version s) (s, Told.Here) (s, Told.Missing (found_at s)) GivesNone (λ _. refl) (λ _. refl)
made server (ServerStep.Fetch version layers) s = refl
made server (ServerStep.Install version) s = installed s.away (is_among version s.held) version s
made server (ServerStep.Discard version) s = refl
made server ServerStep.Wipe s = refl
made server ServerStep.Down s = refl
made server ServerStep.Up s = refl

abbrev Same : ℕ → ServerStep → Told → Type 0
Same server step answer = given_by (Act.AtServer server step) answer ≡ fetched_by (Act.AtServer server step) answer

short_is : (server : ℕ) (step : ServerStep) → Same server step Told.Short
short_is server (ServerStep.Prepare version) = refl
short_is server (ServerStep.Settle version) = refl
short_is server (ServerStep.Has version) = refl
short_is server (ServerStep.Fetch version layers) = refl
short_is server (ServerStep.Install version) = refl
short_is server (ServerStep.Discard version) = refl
short_is server ServerStep.Wipe = refl
short_is server ServerStep.Down = refl
short_is server ServerStep.Up = refl

short_or_made : (short takes : Bool) (server : ℕ) (step : ServerStep) (s : Server) → Same server step (server_unless_short short takes step s).1
short_or_made true true server step s = short_is server step
short_or_made true false server step s = made server step s
short_or_made false true server step s = made server step s
short_or_made false false server step s = made server step s

given_is_fetched : (m : MadeStep) (act : Act) (s : Server) → (server_act m act s).1 ≡ m.answer → given_by act m.answer ≡ fetched_by act m.answer
given_is_fetched m (Act.AtServer server step) s e = subst (Same server step) e (short_or_made m.shortage.step (server_takes_memory step) server step s)
given_is_fetched m (Act.AtDirectory step) s e = refl
given_is_fetched m (Act.Finish outcome) s e = refl

parts_fetched : (test : MadeStep → Bool) (steps : List MadeStep) (s : Server) → AllCome server_next ServerAnswers steps s → sum_by given (filter test steps) ≡ sum_by fetched (filter test steps)
parts_fetched test [] s come = refl
parts_fetched test (m ∷ steps) s come = by (test m) (given_is_fetched m m.act s come.0) (parts_fetched test steps (server_next m s) come.1)
  where
    by : (b : Bool) → given m ≡ fetched m → sum_by given (filter test steps) ≡ sum_by fetched (filter test steps)
        → sum_by given (cond {A = List MadeStep} b (m ∷ filter test steps) (filter test steps)) ≡ sum_by fetched (cond {A = List MadeStep} b (m ∷ filter test steps) (filter test steps))
    by true first rest = sum_by-cons given m (filter test steps) ∙ (λ i. first i + rest i) ∙ sym (sum_by-cons fetched m (filter test steps))
    by false first rest = rest

-- ---- the sweeper and the operator fetch nothing
none_fetched : (test : MadeStep → Bool) (m : MadeStep) (steps : List MadeStep) → fetched m ≡ 0 → sum_by fetched (filter test steps) ≡ 0 → sum_by fetched (filter test (m ∷ steps)) ≡ 0
none_fetched test m steps first rest = by (test m)
  where
    by : (b : Bool) → sum_by fetched (cond {A = List MadeStep} b (m ∷ filter test steps) (filter test steps)) ≡ 0
    by true = sum_by-cons fetched m (filter test steps) ∙ (λ i. first i + rest i)
    by false = rest

sweep_fetches : (n : ℕ) (sweeper : Sweeper) (answer : Told) → fetched_by (next_sweep n sweeper) answer ≡ 0
sweep_fetches n Sweeper.Idle answer = refl
sweep_fetches n (Sweeper.Sweeping version server) answer =
    cond_both {A = Act} (nat_lt server n) (Act.AtServer server (ServerStep.Discard version)) (Act.AtDirectory (DirectoryStep.Swept version)) (λ act. fetched_by act answer ≡ 0) (λ _. refl) (λ _. refl)

sweeps_fetch : (script : Script) (test : MadeStep → Bool) (steps : List MadeStep) (sweeper : Sweeper) → AllCome (sweeper_next script) (IsNextSweep script) steps sweeper → sum_by fetched (filter test steps) ≡ 0
sweeps_fetch script test [] sweeper come = refl
sweeps_fetch script test (m ∷ steps) sweeper come =
    none_fetched test m steps (ap (λ act. fetched_by act m.answer) come.0.act ∙ sweep_fetches (chunk_count script.geometry) sweeper m.answer)
    (sweeps_fetch script test steps (sweeper_next script m sweeper) come.1)

line_fetches : (line : Token) (act : Act) (answer : Told) → operator_act line ≡ Some act → fetched_by act answer ≡ 0
line_fetches (token.Wipe server) act answer e = subst (λ (a : Act). fetched_by a answer ≡ 0) (same_Some _ act e) refl
line_fetches (token.Down server) act answer e = subst (λ (a : Act). fetched_by a answer ≡ 0) (same_Some _ act e) refl
line_fetches (token.Up server) act answer e = subst (λ (a : Act). fetched_by a answer ≡ 0) (same_Some _ act e) refl
line_fetches (token.ReapClient i) act answer e = subst (λ (a : Act). fetched_by a answer ≡ 0) (same_Some _ act e) refl
line_fetches (token.ReapRepairer i) act answer e = subst (λ (a : Act). fetched_by a answer ≡ 0) (same_Some _ act e) refl
line_fetches (token.Client i) act answer e = absurd (none-some act e)
line_fetches (token.Repairer i) act answer e = absurd (none-some act e)
line_fetches token.Sweep act answer e = absurd (none-some act e)
line_fetches token.Drain act answer e = absurd (none-some act e)

lines_fetch : (test : MadeStep → Bool) (steps : List MadeStep) (lines : List Token) → AllCome lines_next IsNextLine steps lines → sum_by fetched (filter test steps) ≡ 0
lines_fetch test [] lines come = refl
lines_fetch test (m ∷ steps) [] come = absurd come.0
lines_fetch test (m ∷ steps) (line ∷ lines) come = none_fetched test m steps (line_fetches line m.act m.answer come.0.0) (lines_fetch test steps lines come.1)

-- ---- the law
module _ (script : Script) (lines : List Token) (h : Histories) (twice : StandTwice h) (go : GoOn script lines (first_core script) h.at h.of) (server : ℕ) (lt : server < chunk_count script.geometry) where
  nothing : (who : Actor) → sum_by fetched (filter (is_at (ActPlace.Server server)) (h.of who)) ≡ 0 → taken_at server (h.of who) ≡ 0
  nothing who none =
      let same : filter (is_by who) (h.at (ActPlace.Server server)) ≡ filter (is_at (ActPlace.Server server)) (h.of who) = twice.both (ActPlace.Server server) who in
      ap (sum_by given) (sym same) ∙ parts_fetched (is_by who) (h.at (ActPlace.Server server)) new_server (server_comes script h server twice lines go lt) ∙ ap (sum_by fetched) same ∙ none

  client : (i : ℕ) → i < length script.clients → min (taken_by_calls server (client_after script h i)) (2 ^ 64 - 1) ≡ min (taken_at server (h.of (actor.Client i))) (2 ^ 64 - 1)
  client i low =
      actor_counted script server (slice_get (client_work script) i) (h.of (actor.Client i)) lt
      (subst (λ found. ComeOfActor script (h.of (actor.Client i)) (slice_get (client_work script) i) found) (slice_get-replicate (length script.clients) i (new_calling (chunk_count script.geometry)) low) (go.clients i))

  repairer : (i : ℕ) → i < length script.repairers → min (taken_by_calls server (repairer_after script h i)) (2 ^ 64 - 1) ≡ min (taken_at server (h.of (actor.Repairer i))) (2 ^ 64 - 1)
  repairer i low =
      actor_counted script server (slice_get (repairer_work script) i) (h.of (actor.Repairer i)) lt
      (subst (λ found. ComeOfActor script (h.of (actor.Repairer i)) (slice_get (repairer_work script) i) found) (slice_get-replicate (length script.repairers) i (new_calling (chunk_count script.geometry)) low) (go.repairers i))

  counted : (after_all server_next (h.at (ActPlace.Server server)) new_server).taken
      ≡ min (sum_by (λ i. taken_by_calls server (client_after script h i)) (range_with_len 0 (length script.clients)) + sum_by (λ i. taken_by_calls server (repairer_after script h i)) (range_with_len 0 (length script.repairers))) (2 ^ 64 - 1)
  counted =
      let clients : ℕ = sum_by (λ i. taken_at server (h.of (actor.Client i))) (range_with_len 0 (length script.clients)) in
      let repairers : ℕ = sum_by (λ i. taken_at server (h.of (actor.Repairer i))) (range_with_len 0 (length script.repairers)) in
      let client_calls : ℕ = sum_by (λ i. taken_by_calls server (client_after script h i)) (range_with_len 0 (length script.clients)) in
      let repairer_calls : ℕ = sum_by (λ i. taken_by_calls server (repairer_after script h i)) (range_with_len 0 (length script.repairers)) in
      let sweeper : ℕ = taken_at server (h.of actor.Sweeper) in
      let operator : ℕ = taken_at server (h.of actor.Operator) in
      let taken : ℕ = (after_all server_next (h.at (ActPlace.Server server)) new_server).taken in
      let all : taken ≡ min (clients + (repairers + (sweeper + operator))) (2 ^ 64 - 1) = servers_count script lines h twice go server lt in
      let no_sweeper : sweeper ≡ 0 = nothing actor.Sweeper (sweeps_fetch script (is_at (ActPlace.Server server)) (h.of actor.Sweeper) (first_core script).sweeper go.sweeper) in
      let no_operator : operator ≡ 0 = nothing actor.Operator (lines_fetch (is_at (ActPlace.Server server)) (h.of actor.Operator) lines go.operator) in
      let one : min client_calls (2 ^ 64 - 1) ≡ min clients (2 ^ 64 - 1) = min_sums (λ i. taken_by_calls server (client_after script h i)) (λ i. taken_at server (h.of (actor.Client i))) 0 (length script.clients) (λ i low high. client i (omega (arith, high))) in
      let other : min repairer_calls (2 ^ 64 - 1) ≡ min repairers (2 ^ 64 - 1) = min_sums (λ i. taken_by_calls server (repairer_after script h i)) (λ i. taken_at server (h.of (actor.Repairer i))) 0 (length script.repairers) (λ i low high. repairer i (omega (arith, high))) in
      omega (arith, all, no_sweeper, no_operator, one, other)

pub calls_count : CallsCountTakes
calls_count script lines h twice go server lt = counted script lines h twice go server lt

-- The steps of a writing are those of its call.
use Rattle.std.proofs.Common.{◌≡◌, ℕ, Bool, true, false, cond, List, [], ◌∷◌, ◌++◌, Some, refl, ap}
use Rattle.clay_grid.specs.Shape.{Shape}
use Rattle.store_map.specs.declared.placement.Placement.{Placement}
use Rattle.store_map.specs.declared.placement.Placement.TheVariants as placement
use Rattle.store_core.specs.Told.{Told}
use Rattle.store_core.specs.Act.{Act, ServerStep}
use Rattle.store_core.specs.NextAct.{Job}
use Rattle.store_core.specs.Server.{Server, at_server, hold}
use Rattle.store_core.specs.Step.{take_from}
use Rattle.run_laws.specs.State.{State}
use Rattle.run_laws.specs.CallLaws.{next_call}
use Rattle.run_laws.specs.WriteAfter.{preparing_after}
use Rattle.write_course.specs.Writings.{server_of, begins_version}
use Rattle.write_course.specs.WritingSteps.{stepped}
use Rattle.write_course.specs.Laws.{StepsAreOfTheCall, call_at, IsServerStep, IsShortOfMemory}
use Rattle.write_course.proofs.Opened.{prepare_all_opens, few_opens, settle_opens}

-- what a prepare is answered
prepared_goes : (g : Shape) (job : Job) (pairs : List (ℕ × ℕ)) (stripe version server : ℕ) (servers : List ℕ) (row : List Placement) (later : List ℕ) (placed : List (List Placement)) (versions : List ℕ) (short : Bool) (s : Server)
    → next_call g job (call_at pairs (State.Preparing stripe version server servers row later placed versions)) (at_server short (ServerStep.Prepare version) s).1
    ≡ call_at pairs (stepped g short s (State.Preparing stripe version server servers row later placed versions)).1
prepared_goes g job pairs stripe version server servers row later placed versions true s = refl
prepared_goes g job pairs stripe version server servers row later placed versions false s = by s.away
  where
    made : (b : Bool) → Server × Told
    made b = cond b (s, Told.Prepared (placement.Skipped s.downs)) (record s { held = hold version s.held }, Told.Prepared (placement.At s.epoch))

    by : (b : Bool) → next_call g job (call_at pairs (State.Preparing stripe version server servers row later placed versions)) (made b).1
        ≡ call_at pairs (preparing_after g stripe version servers row later placed versions (made b).1)
    by true = ap (call_at pairs) (few_opens g stripe version servers (row ++ placement.Skipped s.downs ∷ []) later placed versions)
    by false = ap (call_at pairs) (few_opens g stripe version servers (row ++ placement.At s.epoch ∷ []) later placed versions)

-- it takes nothing
prepare_takes : (server version : ℕ) (short : Bool) (s : Server) (takes : List ℕ)
    → take_from (Act.AtServer server (ServerStep.Prepare version)) (at_server short (ServerStep.Prepare version) s).1 takes ≡ takes
prepare_takes server version true s takes = refl
prepare_takes server version false s takes = by s.away
  where
    by : (b : Bool)
        → take_from (Act.AtServer server (ServerStep.Prepare version)) (cond {A = Server × Told} b (s, Told.Prepared (placement.Skipped s.downs)) (record s { held = hold version s.held }, Told.Prepared (placement.At s.epoch))).1 takes ≡ takes
    by true = refl
    by false = refl

settle_goes : (g : Shape) (job : Job) (pairs : List (ℕ × ℕ)) (point : ℕ) (place : ℕ × ℕ) (places : List (ℕ × ℕ)) (short : Bool) (s : Server)
    → next_call g job (call_at pairs (State.Settling point place places)) (at_server short (ServerStep.Settle place.1) s).1
    ≡ call_at pairs (stepped g short s (State.Settling point place places)).1
settle_goes g job pairs point place places true s = ap (call_at pairs) (settle_opens g point places)
settle_goes g job pairs point place places false s = ap (call_at pairs) (settle_opens g point places)

settle_takes : (server version : ℕ) (short : Bool) (s : Server) (takes : List ℕ)
    → take_from (Act.AtServer server (ServerStep.Settle version)) (at_server short (ServerStep.Settle version) s).1 takes ≡ takes
settle_takes server version true s takes = refl
settle_takes server version false s takes = refl

at_servers : (g : Shape) (tries : ℕ) (job : Job) (pairs : List (ℕ × ℕ)) (at : State) (server : ℕ) → server_of at ≡ Some server → IsServerStep g tries job pairs at server
at_servers g tries job pairs (State.Preparing stripe version asked servers row later placed versions) server e =
    record {
      step = ServerStep.Prepare version;
      act = let same : asked ≡ server = cc in ap (λ n. Act.AtServer n (ServerStep.Prepare version)) same;
      server_after = λ short s. refl;
      call_after = prepared_goes g job pairs stripe version asked servers row later placed versions;
      takes_after = prepare_takes server version;
    }
at_servers g tries job pairs (State.Settling point place places) server e =
    record {
      step = ServerStep.Settle (place.1);
      act = let same : place.0 ≡ server = cc in ap (λ n. Act.AtServer n (ServerStep.Settle (place.1))) same;
      server_after = λ short s. refl;
      call_after = settle_goes g job pairs point place places;
      takes_after = settle_takes server (place.1);
    }
at_servers g tries job pairs _ server e = absurd (cc)

-- the coding before a version's first prepare
shorts : (g : Shape) (tries : ℕ) (job : Job) (pairs : List (ℕ × ℕ)) (at : State) → begins_version at ≡ true → IsShortOfMemory g tries job pairs at
shorts g tries job pairs (State.Preparing stripe version asked servers row later placed versions) e = record { pass = refl; after = refl }
shorts g tries job pairs _ e = absurd (cc)

-- for every call
pub steps_are_of_the_call : StepsAreOfTheCall
steps_are_of_the_call =
    record {
      drawn = λ g job pairs versions. ap (call_at pairs) (prepare_all_opens g versions _ versions []);
      at_server = at_servers;
      short = shorts;
    }

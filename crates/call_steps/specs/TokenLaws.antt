-- A call's ticket while its steps change it: whose it is, and that the directory agrees with it.
use Rattle.std.specs.Prelude.{◌≡◌, ℕ, ◌<◌, Bool, false}
use Rattle.clay_grid.specs.Shape.{stripe_length}
use Rattle.store_core.specs.Told.{Told}
use Rattle.store_core.specs.Act.{Act, DirectoryStep}
use Rattle.store_core.specs.Directory.{Directory}
use Rattle.store_core.specs.Lookups.{same_actor}
use Rattle.store_core.specs.Sound.{IsSound}
use Rattle.store_core.specs.Agreement.{ActorToken, Agrees}
use Rattle.store_core.specs.Tokens.{actor_of}
use Rattle.store_core.specs.Server.{Server}
use Rattle.run_laws.specs.AgreementLaws.{GoesOn as TokenGoesOn}
use Rattle.call_steps.specs.TokenAfter.{token_after, MayMake}
use Rattle.call_steps.specs.CallOf.{CallOf, act_of}
use Rattle.call_steps.specs.Steps.{stepped_at_directory, stepped_at_server, HoldsItsPass}
use Rattle.call_steps.specs.Ready.{ready}
use Rattle.call_steps.specs.StandLaws.{HasPassOfItsKind}

-- each step of a call leaves the ticket with its actor; a coding and a step at a server leave it as it is
pub record TokensStay : Type 0 where
  pub token : (token : ActorToken) (number : ℕ) (step : DirectoryStep) (answer : Told) → actor_of (token_after token number step answer) ≡ actor_of token
  pub directory : (c : CallOf) (d : Directory) (short due : Bool) → actor_of (stepped_at_directory short due c d).1.token ≡ actor_of c.token
  pub server : (c : CallOf) (s : Server) (short due : Bool) → (stepped_at_server short due c s).1.token ≡ c.token
  pub coded : (c : CallOf) (coding : Bool) → (ready coding c).token ≡ c.token

-- where the directory agrees with the ticket of a call that holds its own pass, the actor's pass is of the call's kind
abbrev pub PassesAreOfCalls : Type 0
PassesAreOfCalls = (d : Directory) (c : CallOf) → Agrees d c.token → HoldsItsPass c → HasPassOfItsKind d c

-- a step that may be made leaves a sound directory in agreement with the ticket that the call has then, and every step with every other actor's
pub record AgreementStays : Type 0 where
  pub own :
      (c : CallOf) (d : Directory) (step : DirectoryStep) (short due : Bool) → 0 < stripe_length d.shape → IsSound d → Agrees d c.token →
      act_of c ≡ Act.AtDirectory step → MayMake d c.token c.number step →
      let stepped : Directory × CallOf = stepped_at_directory short due c d in
      TokenGoesOn stepped.0 c.token stepped.1.token
  pub others :
      (c : CallOf) (d : Directory) (token : ActorToken) (short due : Bool) → same_actor (actor_of c.token) (actor_of token) ≡ false → Agrees d token →
      Agrees (stepped_at_directory short due c d).0 token

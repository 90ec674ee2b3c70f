-- The bytes by which a call of a session is known, and those that it finds.
use Rattle.std.specs.Prelude.{◌≡◌, ⊤, Some}
use Rattle.store_core.specs.Calls.{Calls}
use Rattle.store_core.specs.Tokens.{actor_of}
use Rattle.run_laws.specs.Contents.{HasBytes}
use Rattle.run_laws.specs.MoreCalls.{AreDrawnBy}
use Rattle.stripe_stamps.specs.Stamped.{HaveContents}
use Rattle.call_machine.specs.Calls.{MachineOf}
use Rattle.call_machine.specs.Kinds.{Asked}
use Rattle.session_store.specs.declared.places.SessionPlaces.{SessionPlaces}

-- a client's call is known by its number
abbrev pub IsKnownBy : Calls → MachineOf → Asked → Type 0
IsKnownBy calls c (Asked.OfClient call) = calls (actor_of c.call.token) c.call.number ≡ Some call
IsKnownBy calls c (Asked.OfRepairer rebuild) = ⊤

-- by these calls, the call's own among them, the directory has the bytes of the map, and its stamps the contents of its versions
pub record KnowsBytes (calls : Calls) (c : MachineOf) (p : SessionPlaces) : Type 0 where
  pub bytes : HasBytes calls p.directory.core
  pub drawn : AreDrawnBy calls p.directory.core
  pub contents : HaveContents calls p.directory
  pub known : IsKnownBy calls c c.asked

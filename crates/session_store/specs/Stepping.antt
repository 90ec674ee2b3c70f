-- A coding of a call that runs alone in a session's places, and a step of it.
use Rattle.std.specs.Prelude.{◌≡◌, ◌⊎◌, ℕ, ◌+◌, ◌<◌, ◌&&◌, false, ◌++◌, length, get_or, set}
use Rattle.clay_grid.specs.Shape.{stripe_length}
use Rattle.store_core.specs.Agreement.{Agrees}
use Rattle.store_core.specs.Calls.{Calls}
use Rattle.store_core.specs.Directory.{Directory}
use Rattle.chunk_server.specs.Core.{core_of}
use Rattle.chunk_server.specs.State.{ServerState}
use Rattle.stripe_stamps.specs.ItsStripes.{IsWhole}
use Rattle.stripe_stamps.specs.Sealed.{Sealed}
use Rattle.stripe_stamps.specs.Stamped.{HasStamps}
use Rattle.call_steps.specs.declared.need.Need.TheVariants as need
use Rattle.call_steps.specs.Steps.{need_of, LeadsTo, LeadsToAtServer, HoldsItsPass, IsDueInPass, MayMakeNext, IsUndueOncePlaced}
use Rattle.call_steps.specs.Ready.{ready}
use Rattle.call_machine.specs.Calls.{MachineOf, KnowsOldOf, drawn_by, owed_by}
use Rattle.call_machine.specs.Going.{HasPlace}
use Rattle.call_machine.specs.Kinds.{machine_of, IfRebuilds}
use Rattle.session_store.specs.declared.places.SessionPlaces.{SessionPlaces}
use Rattle.session_store.specs.Places.{ArePlaces, AreSame}
use Rattle.session_store.specs.CallBytes.{KnowsBytes}

-- after the coding before its next step, if one was due
pub record IsCoded (c now : MachineOf) : Type 0 where
  pub is_ready : now.call ≡ ready now.call.coding c.call
  pub place : HasPlace (need_of now.call)
  pub in_pass : IsDueInPass c.call
  pub undue : IfRebuilds (machine_of c.asked) (IsUndueOncePlaced c.call)
  pub holds : HoldsItsPass c.call
  pub may : MayMakeNext c.call
  pub asked : now.asked ≡ c.asked
  pub owed : (c.call.due && now.call.coding) ≡ false → now.owed ≡ c.owed
  pub knows : (d : Sealed) → KnowsOldOf d c → KnowsOldOf d now

-- a call whose next step may be made in these places
pub record MayStep (c : MachineOf) (p : SessionPlaces) : Type 0 where
  pub place : HasPlace (need_of c.call)
  pub places : ArePlaces p
  pub book : c.call.book ≡ p.book
  pub agrees : Agrees p.directory.core c.call.token
  pub knows : KnowsOldOf p.directory c
  pub calls : Calls
  pub bytes : KnowsBytes calls c p

-- its step at the directory, and at a server
pub record AtTheDirectory (c : MachineOf) (p : SessionPlaces) (after : MachineOf) (now : SessionPlaces) : Type 0 where
  pub needs : need_of c.call ≡ need.Directory
  pub leads : LeadsTo c.call p.directory.core after.call now.directory.core
  pub servers : now.servers ≡ p.servers
  pub owed : after.owed ≡ owed_by after.call.step p.directory c
  pub stamps : now.directory.stamps ≡ p.directory.stamps ++ drawn_by after.call.step p.directory c

pub record AtAServer (c : MachineOf) (p : SessionPlaces) (after : MachineOf) (now : SessionPlaces) : Type 0 where
  pub server : ℕ
  pub before : ServerState
  pub left : ServerState
  pub needs : need_of c.call ≡ need.Server server
  pub less : server < length p.servers.items
  pub read : before ≡ get_or p.servers.items server before
  pub leads : LeadsToAtServer c.call (core_of before) after.call (core_of left)
  pub items : now.servers.items ≡ set p.servers.items server left
  pub directory : now.directory ≡ p.directory
  pub owed : after.owed ≡ c.owed

-- it has made its step
pub record HasStepped (c : MachineOf) (p : SessionPlaces) (after : MachineOf) (now : SessionPlaces) : Type 0 where
  pub wide : 0 < stripe_length p.directory.core.shape
  pub whole : IsWhole p.directory.core
  pub stamped : HasStamps p.directory
  pub holds : HoldsItsPass c.call
  pub may : MayMakeNext c.call
  pub same : AreSame p now
  pub asked : after.asked ≡ c.asked
  pub agrees : Agrees now.directory.core after.call.token
  pub knows : KnowsOldOf now.directory after
  pub step : AtTheDirectory c p after now ⊎ AtAServer c p after now

-- A caller before its step at a place.
use Rattle.std.specs.Prelude.{◌≡◌, ℕ, ◌+◌, ◌<◌, ◌^◌, List, Option, Some}
use Rattle.store_map.specs.declared.script.Script.{Script}
use Rattle.store_core.specs.Tokens.{actor_of}
use Rattle.call_steps.specs.declared.need.Need.TheVariants as need
use Rattle.call_steps.specs.Steps.{need_of, HoldsItsPass, MayMakeNext}
use Rattle.call_machine.specs.Calls.{MachineOf}
use Rattle.world_laws.specs.Tokens.{first_token}
use Rattle.world_laws.specs.World.{steps_of}
use Rattle.actors.specs.Callers.{CallerOf, Knows}
use Rattle.actors.specs.Steps.{in_work}
use Rattle.turn_lock.specs.History.{entries_of}
use Rattle.thread_laws.specs.Looks.{IsLookOfScript}
use Rattle.thread_laws.specs.Noted.{Noted, IsCaller, made_in, tokens_after}
use Rattle.thread_laws.specs.Numbers.{IsTurnOf}
use Rattle.run_seats.specs.Fixed.{counts_of, counts_there}
use Rattle.run_seats.specs.Seen.{seen_there}
use Rattle.run_seats.specs.declared.server_box.ServerIdentity.{ServerIdentity}
use Rattle.run_seats.specs.declared.directory_box.DirectoryIdentity.{DirectoryIdentity}

-- a caller in this call, of its book, which can count one step more
pub record IsInCall (call : MachineOf) (a : CallerOf) : Type 0 where
  pub works : a ≡ in_work call a
  pub its : call.call.book ≡ a.book
  pub few : steps_of a.actor.doing + 1 < 2 ^ 64

-- a caller whose call needs the server with this fixed part, under its own number there
pub record IsBeforeServer (fixed : Option ServerIdentity) (number : ℕ) (a : CallerOf) : Type 0 where
  pub identity : ServerIdentity
  pub is : fixed ≡ Some identity
  pub book : identity.opening ≡ a.book
  pub call : MachineOf
  pub work : IsInCall call a
  pub needs : need_of call.call ≡ need.Server identity.number
  pub turn : IsTurnOf (counts_of identity) number (actor_of call.call.token)
  pub calls : IsCaller (actor_of call.call.token)

-- a caller whose call needs the directory with this fixed part, where it has seen this history: its ticket is the one that its own entries lead to, the next step may be made, a look is of the script's call,
-- and it knows the old bytes that it keeps by the stamps of that history
pub record IsBeforeDirectory (fixed : Option DirectoryIdentity) (number : ℕ) (seen : List (ℕ × Noted)) (a : CallerOf) : Type 0 where
  pub identity : DirectoryIdentity
  pub is : fixed ≡ Some identity
  pub script : Script
  pub written : identity.opening.script ≡ Some script
  pub book : identity.opening ≡ a.book
  pub call : MachineOf
  pub work : IsInCall call a
  pub needs : need_of call.call ≡ need.Directory
  pub turn : IsTurnOf (counts_there identity) number (actor_of call.call.token)
  pub calls : IsCaller (actor_of call.call.token)
  pub token : tokens_after (made_in (entries_of number seen)) (first_token (actor_of call.call.token)) ≡ call.call.token
  pub may : MayMakeNext call.call
  pub pass : HoldsItsPass call.call
  pub looks : IsLookOfScript call.call
  pub knows : Knows (seen_there seen a.book) a

-- The steps of a call, its coding, and what it needs.
use Rattle.std.specs.Prelude.{◌≡◌, ⊤, ℕ, ◌<◌, Bool, true, false, IsTrue}
use Rattle.store_core.specs.Told.{Told}
use Rattle.store_core.specs.Act.{Act, DirectoryStep}
use Rattle.store_core.specs.ActPlace.{is_in_pass}
use Rattle.store_core.specs.Tokens.{actor_of}
use Rattle.store_core.specs.Directory.{Directory}
use Rattle.store_core.specs.AtDirectory.{at_directory}
use Rattle.store_core.specs.Server.{Server, at_server}
use Rattle.run_laws.specs.State.{State, CallState}
use Rattle.call_steps.specs.declared.need.Need.{Need}
use Rattle.call_steps.specs.declared.need.Need.TheVariants as need
use Rattle.call_steps.specs.TokenAfter.{token_after, MayMake, IsSeated, IfInCall}
use Rattle.call_steps.specs.CallOf.{CallOf, act_of, state_told, heard}

-- the directory and the call after its act there
abbrev pub at_directory_by : Act → Bool → Bool → CallOf → Directory → Directory × CallOf
at_directory_by (Act.AtDirectory step) short due c d =
    let after : Directory × Told = at_directory short (actor_of c.token) c.number step d in
    (after.0, record (heard c (Act.AtDirectory step) after.1 short due) { token = token_after c.token c.number step after.1 })
at_directory_by act short due c d = (d, c)

-- one step at the directory, in which memory was wanting or not; whether coding is due then
abbrev pub stepped_at_directory : Bool → Bool → CallOf → Directory → Directory × CallOf
stepped_at_directory short due c d = at_directory_by (act_of c) short due c d

-- it leads from a call and the directory to these; whether memory was wanting in it and whether coding is due then, the call tells
abbrev pub LeadsTo : CallOf → Directory → CallOf → Directory → Type 0
LeadsTo c d after now = (now, after) ≡ stepped_at_directory after.step after.due c d

-- the server and the call after its act there
abbrev pub at_server_by : Act → Bool → Bool → CallOf → Server → Server × CallOf
at_server_by (Act.AtServer server step) short due c s =
    let after : Server × Told = at_server short step s in
    (after.0, heard c (Act.AtServer server step) after.1 short due)
at_server_by act short due c s = (s, c)

-- one step at the server that it needs
abbrev pub stepped_at_server : Bool → Bool → CallOf → Server → Server × CallOf
stepped_at_server short due c s = at_server_by (act_of c) short due c s

-- it leads from a call and that server to these
abbrev pub LeadsToAtServer : CallOf → Server → CallOf → Server → Type 0
LeadsToAtServer c s after now = (now, after) ≡ stepped_at_server after.step after.due c s

-- where it stands after a coding
abbrev pub state_coded : Bool → CallOf → CallState
state_coded true c = state_told c Told.Short
state_coded false c = c.state

-- after a coding, in which memory was wanting or not; it makes no step
abbrev pub coded : Bool → CallOf → CallOf
coded short c = record c { state = state_coded short c; due = false; coding = short }

-- what it needs: its end, the coder where coding is due, or the place of its next step
abbrev pub need_by : Act → Bool → Need
need_by (Act.Finish outcome) due = need.Finished
need_by act true = need.Coder
need_by (Act.AtDirectory step) false = need.Directory
need_by (Act.AtServer server step) false = need.Server server

-- of a call
abbrev pub need_of : CallOf → Need
need_of c = need_by (act_of c) c.due

-- a pass that it holds is that of this call, and it holds none before its look and after its end
pub record HoldsItsPass (c : CallOf) : Type 0 where
  pub its : IfInCall c.token (λ held. (held.pass.note ≡ c.job.note) × (held.pass.number ≡ c.number))
  pub none : need_by (act_of c) false ≡ need.Finished → IsSeated c.token

-- coding is due only before a step on its pass, where want of memory is heard
abbrev pub IsDueInPass : CallOf → Type 0
IsDueInPass c = c.due ≡ true → IsTrue (is_in_pass (act_of c))

-- no coding is due between a chunk's install and the telling of its epoch, so want of memory can't come between the two
abbrev pub IsUndueOncePlaced : CallOf → Type 0
IsUndueOncePlaced c = (target epoch : ℕ) → c.state.at ≡ State.Placing target epoch → c.due ≡ false

-- of the server that is needed
abbrev pub IfServer : Need → (ℕ → Type 0) → Type 0
IfServer (need.Server server) holds = holds server
IfServer needed holds = ⊤

-- it is one of so many
abbrev pub IsServerBelow : ℕ → Need → Type 0
IsServerBelow count needed = IfServer needed (λ server. server < count)

-- where its next step is one at the directory, every directory of its book's code lets its actor make it
abbrev pub MayMakeNext : CallOf → Type 0
MayMakeNext c = (step : DirectoryStep) (d : Directory) → act_of c ≡ Act.AtDirectory step → d.shape ≡ c.book.geometry → MayMake d c.token c.number step

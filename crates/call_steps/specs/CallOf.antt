-- A call in work, as callers of its machine see it: plain data.
use Rattle.std.specs.Prelude.{◌≡◌, ℕ, Bool, false, nat_lt, List, replicate, Option, None, Some, if◌then◌else◌}
use Rattle.std.specs.List.{list_any}
use Rattle.clay_grid.specs.Shape.{chunk_count}
use Rattle.store_map.specs.Limits.{tries_of}
use Rattle.store_map.specs.declared.script.Script.{Script}
use Rattle.store_core.specs.Told.{Told}
use Rattle.store_core.specs.Act.{Act}
use Rattle.store_core.specs.NextAct.{Job}
use Rattle.store_core.specs.Step.{take_from}
use Rattle.store_core.specs.Agreement.{ActorToken}
use Rattle.run_laws.specs.State.{CallState}
use Rattle.run_laws.specs.StateActs.{act_of_state}
use Rattle.run_laws.specs.CallLaws.{next_call}
use Rattle.version_seal.specs.Entry.{BookOf}

-- the book of its versions, how often a write is tried, the call, its number, its actor's ticket, where it stands, what it took from each server,
-- whether coding is due before its next step, and whether memory was wanting in its last coding and in its last step
pub record CallOf : Type 0 where
  pub book : BookOf
  pub tries : ℕ
  pub job : Job
  pub number : ℕ
  pub token : ActorToken
  pub state : CallState
  pub takes : List ℕ
  pub due : Bool
  pub coding : Bool
  pub step : Bool

-- how often a write is tried by a book's script, if it has one
abbrev pub tries_by : Option Script → ℕ
tries_by None = 0
tries_by (Some script) = tries_of script

-- what a call took, where it took something
abbrev pub taken_of : List ℕ → Option (List ℕ)
taken_of takes = if list_any (nat_lt 0) takes then Some takes else None

-- nothing, of any server
abbrev pub HasTakenNothing : CallOf → Type 0
HasTakenNothing c = c.takes ≡ replicate (chunk_count c.book.geometry) 0

-- what it does next
abbrev pub act_of : CallOf → Act
act_of c = act_of_state c.book.geometry c.tries c.job c.state

-- where it stands after an answer
abbrev pub state_told : CallOf → Told → CallState
state_told c answer = next_call c.book.geometry c.job c.state answer

-- after the answer to an act, in a step that wanted memory or not; whether coding is due then
abbrev pub heard : CallOf → Act → Told → Bool → Bool → CallOf
heard c act answer short due =
    record c { state = state_told c answer; takes = take_from act answer c.takes; due = due; coding = false; step = short }

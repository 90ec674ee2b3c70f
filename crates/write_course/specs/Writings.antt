-- A writing as callers see it, and its steps.
use Rattle.std.specs.Prelude.{ℕ, Bool, true, false, List, [], ◌∷◌, length, map, Option, None, Some}
use Rattle.std.specs.List.{slice_get}
use Rattle.std.specs.Option.{option_and_then}
use Rattle.store_map.specs.declared.placement.Placement.{Placement}
use Rattle.store_core.specs.Act.{Outcome}
use Rattle.run_laws.specs.State.{State}
use Rattle.version_seal.specs.Entry.{BookOf, StampOf}
use Rattle.call_steps.specs.declared.act.ServerAct.{ServerAct}
use Rattle.call_steps.specs.declared.act.ServerAct.TheVariants as here

-- its book, the stripe of its first version, the stamps of its versions, where its call stands, and whether chunks are to be made before its next step
pub record WritingOf : Type 0 where
  pub book : BookOf
  pub first : ℕ
  pub stamps : List StampOf
  pub state : State
  pub due : Bool

-- its versions
abbrev pub versions_of : List StampOf → List ℕ
versions_of stamps = map (λ stamp. stamp.version) stamps

-- the server at which its next step is made, where one is
abbrev pub server_of : State → Option ℕ
server_of (State.Preparing stripe version server servers row later placed versions) = Some server
server_of (State.Settling point place places) = Some (place.0)
server_of at = None

-- and what it does there
abbrev pub question_of : State → Option (ℕ × ServerAct)
question_of (State.Preparing stripe version server servers row later placed versions) = Some (server, here.Prepare (record { 0 = version }))
question_of (State.Settling point place places) = Some (place.0, here.Settle (record { 0 = place.1 }))
question_of at = None

-- a chunk is prepared next, and the commit, and a chunk is settled
abbrev pub is_preparing : State → Bool
is_preparing (State.Preparing stripe version server servers row later placed versions) = true
is_preparing at = false

abbrev pub is_committing : State → Bool
is_committing (State.Committing versions placed) = true
is_committing at = false

abbrev pub is_settling : State → Bool
is_settling (State.Settling point place places) = true
is_settling at = false

-- no server has answered for the version at work
abbrev pub is_empty : List Placement → Bool
is_empty [] = true
is_empty (placement ∷ row) = false

abbrev pub begins_version : State → Bool
begins_version (State.Preparing stripe version server servers row later placed versions) = is_empty row
begins_version at = false

-- the place of the version at work, while one is prepared
abbrev pub place_of : State → Option ℕ
place_of (State.Preparing stripe version server servers row later placed versions) = Some (length placed)
place_of at = None

-- the stamp of the version at work
abbrev pub stamp_at_work : WritingOf → Option StampOf
stamp_at_work w = option_and_then (λ place. slice_get w.stamps place) (place_of w.state)

-- the point of its commit, once it has come
abbrev pub point_of_end : Outcome → Option ℕ
point_of_end (Outcome.Answered point answer) = Some point
point_of_end outcome = None

abbrev pub point_of : State → Option ℕ
point_of (State.Settling point place places) = Some point
point_of (State.Finished outcome) = point_of_end outcome
point_of at = None

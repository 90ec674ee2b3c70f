-- What every rebuild keeps, by its stage.
use Rattle.std.specs.Prelude.{◌≡◌, ◌<◌, Bool, true, false}
use Rattle.clay_grid.specs.Shape.{chunk_count}
use Rattle.store_core.specs.Note.{note_of_rebuild}
use Rattle.call_steps.specs.TokenAfter.{IsSeated}
use Rattle.repairer.specs.declared.stage.RepairStage.{RepairStage}
use Rattle.repairer.specs.declared.stage.RepairStage.TheVariants as stage
use Rattle.repairer.specs.declared.repair_call.RepairCall.TheInside.{Inside}
use Rattle.repairer.specs.Parts.{IsOfCall}
use Rattle.repairer.specs.Moments.{IsNew, IsSeen, IsAsking, IsGathered, IsMade}

-- before and after the coding that makes the gathering
abbrev pub GathersAt : Bool → Inside → Type 0
GathersAt true a = IsSeen a.opening a.looked.value a.seen a.gather a.takes
GathersAt false a = IsAsking a.opening a.rebuild.now.server a.looked.value a.gather a.takes

-- before and after the coding that makes the chunk
abbrev pub ConfirmsAt : Bool → Inside → Type 0
ConfirmsAt true a = IsGathered a.opening a.rebuild.now.server a.looked.value a.gather
ConfirmsAt false a = IsMade a.opening a.rebuild.now.server a.looked.value a.chunk

-- at a stage
abbrev pub Keeps : RepairStage → Inside → Type 0
Keeps stage.Start a = IsNew a.ticket a.number a.rebuild.now a.gather a.takes a.due
Keeps stage.Gathering a = IsOfCall a.ticket a.number (note_of_rebuild a.rebuild.now) × GathersAt a.due a
Keeps stage.Confirming a = IsOfCall a.ticket a.number (note_of_rebuild a.rebuild.now) × ConfirmsAt a.due a
Keeps stage.Installing a = IsOfCall a.ticket a.number (note_of_rebuild a.rebuild.now) × (a.due ≡ false) × IsMade a.opening a.rebuild.now.server a.looked.value a.chunk
Keeps stage.Placing a = IsOfCall a.ticket a.number (note_of_rebuild a.rebuild.now) × (a.due ≡ false)
Keeps stage.Ending a = IsOfCall a.ticket a.number (note_of_rebuild a.rebuild.now) × (a.due ≡ false)
Keeps stage.Finished a = IsSeated a.ticket × (a.due ≡ false)

-- at its own, and the server is one of the stripe's
pub record IsRepair (a : Inside) : Type 0 where
  pub below : a.rebuild.now.server < chunk_count a.opening.geometry
  pub kept : Keeps a.stage a

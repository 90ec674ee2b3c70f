-- Where an act is done, and whether its call has a pass then.
use Rattle.std.specs.Prelude.{ℕ, Bool, true, false, Option, None, Some}
use Rattle.store_core.specs.Act.{Act, DirectoryStep, ServerStep}

-- where steps are made
pub data ActPlace : Type 0 where
  Directory : ActPlace
  Server : (number : ℕ) → ActPlace

-- where an act is done; a call that is over needs no place
abbrev pub place_of : Act → Option ActPlace
place_of (Act.AtDirectory step) = Some ActPlace.Directory
place_of (Act.AtServer server step) = Some (ActPlace.Server server)
place_of (Act.Finish outcome) = None

-- a step at the directory on the pass of its call
abbrev pub is_on_pass_there : DirectoryStep → Bool
is_on_pass_there (DirectoryStep.Look note) = false
is_on_pass_there (DirectoryStep.LookRepair note) = false
is_on_pass_there DirectoryStep.NextGarbage = false
is_on_pass_there (DirectoryStep.Swept version) = false
is_on_pass_there (DirectoryStep.Reap actor) = false
is_on_pass_there _ = true

-- a step at a server while its call has a pass
abbrev pub is_in_pass_there : ServerStep → Bool
is_in_pass_there (ServerStep.Settle version) = false
is_in_pass_there (ServerStep.Discard version) = false
is_in_pass_there ServerStep.Wipe = false
is_in_pass_there ServerStep.Down = false
is_in_pass_there ServerStep.Up = false
is_in_pass_there _ = true

-- whether a call has a pass while this is what it does next
abbrev pub is_in_pass : Act → Bool
is_in_pass (Act.AtDirectory step) = is_on_pass_there step
is_in_pass (Act.AtServer server step) = is_in_pass_there step
is_in_pass (Act.Finish outcome) = false

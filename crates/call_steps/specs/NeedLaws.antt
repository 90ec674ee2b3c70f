-- What a call needs tells what it does next.
use Rattle.std.specs.Prelude.{◌≡◌, ℕ, Bool, true, false}
use Rattle.store_core.specs.Act.{Act, DirectoryStep, ServerStep, Outcome}
use Rattle.store_core.specs.Directory.{Directory}
use Rattle.store_core.specs.Server.{Server}
use Rattle.call_steps.specs.declared.need.Need.TheVariants as need
use Rattle.call_steps.specs.CallOf.{CallOf, act_of}
use Rattle.call_steps.specs.Steps.{stepped_at_directory, stepped_at_server, need_of}

-- a call that needs a place has its next step there, and no coding is due before it
pub record NeedsTellActs : Type 0 where
  pub finished : (c : CallOf) → need_of c ≡ need.Finished → (outcome : Outcome) × (act_of c ≡ Act.Finish outcome)
  pub coder : (c : CallOf) → need_of c ≡ need.Coder → c.due ≡ true
  pub directory : (c : CallOf) → need_of c ≡ need.Directory → (step : DirectoryStep) × (act_of c ≡ Act.AtDirectory step) × (c.due ≡ false)
  pub server : (c : CallOf) (server : ℕ) → need_of c ≡ need.Server server → (step : ServerStep) × (act_of c ≡ Act.AtServer server step) × (c.due ≡ false)

-- a call that is over needs nothing, and makes no step
pub record EndsStay : Type 0 where
  pub needs : (c : CallOf) (outcome : Outcome) → act_of c ≡ Act.Finish outcome → need_of c ≡ need.Finished
  pub directory : (c : CallOf) (outcome : Outcome) (d : Directory) (short due : Bool) → act_of c ≡ Act.Finish outcome → stepped_at_directory short due c d ≡ (d, c)
  pub server : (c : CallOf) (outcome : Outcome) (s : Server) (short due : Bool) → act_of c ≡ Act.Finish outcome → stepped_at_server short due c s ≡ (s, c)

-- The directory keeps the greatest length of its objects.
use Rattle.std.proofs.Common.{◌≡◌, ℕ, Bool, true, false, List, [], ◌∷◌, refl, ap, ◌∙◌}
use Rattle.store_map.specs.declared.actor.Actor.{Actor}
use Rattle.store_core.specs.Note.{Note, Kind}
use Rattle.store_core.specs.Act.{Act, DirectoryStep}
use Rattle.store_core.specs.AtDirectory.{at_directory}
use Rattle.store_core.specs.Directory.{Directory}
use Rattle.run_laws.proofs.Beside.{self_actor}
use Rattle.run_laws.proofs.Passes.{passes_move, passes_stay}
use Rattle.thread_laws.specs.MadeSteps.{MadeStep}
use Rattle.thread_laws.specs.AtPlaces.{after_all, directory_act, directory_next}
use Rattle.stripe_stamps.specs.Sealed.{Sealed}
use Rattle.thread_laws.specs.Numbers.{Counts}
use Rattle.thread_laws.specs.Noted.{Noted, made_in}
use Rattle.thread_laws.specs.AtDirectory.{StandsAtDirectory}

some_note : Note
some_note = record { kind = Kind.Stat; name = []; offset = 0; length = 0 }

step_most : (short : Bool) (who : Actor) (number : ℕ) (step : DirectoryStep) (d : Directory) → (at_directory short who number step d).0.max ≡ d.max
step_most short who number (DirectoryStep.Look note) d = (passes_move short who number note (DirectoryStep.Look note) d (self_actor who) refl).max
step_most short who number (DirectoryStep.LookRepair note) d = (passes_move short who number note (DirectoryStep.LookRepair note) d (self_actor who) refl).max
step_most true who number DirectoryStep.NextGarbage d = (passes_stay who number DirectoryStep.NextGarbage d tt).max
step_most false who number DirectoryStep.NextGarbage d = (passes_stay who number DirectoryStep.NextGarbage d tt).max
step_most true who number (DirectoryStep.Swept version) d = (passes_stay who number (DirectoryStep.Swept version) d tt).max
step_most false who number (DirectoryStep.Swept version) d = (passes_stay who number (DirectoryStep.Swept version) d tt).max
step_most true who number (DirectoryStep.Reap reaped) d = (passes_stay who number (DirectoryStep.Reap reaped) d tt).max
step_most false who number (DirectoryStep.Reap reaped) d = (passes_stay who number (DirectoryStep.Reap reaped) d tt).max
step_most short who number DirectoryStep.Draw d = (passes_move short who number some_note DirectoryStep.Draw d (self_actor who) tt).max
step_most short who number (DirectoryStep.Commit placed) d = (passes_move short who number some_note (DirectoryStep.Commit placed) d (self_actor who) tt).max
step_most short who number DirectoryStep.End d = (passes_move short who number some_note DirectoryStep.End d (self_actor who) tt).max
step_most short who number DirectoryStep.Confirm d = (passes_move short who number some_note DirectoryStep.Confirm d (self_actor who) tt).max
step_most short who number (DirectoryStep.Repaired server epoch) d = (passes_move short who number some_note (DirectoryStep.Repaired server epoch) d (self_actor who) tt).max

act_most : (m : MadeStep) (act : Act) (d : Directory) → (directory_act m act d).0.max ≡ d.max
act_most m (Act.AtDirectory step) d = step_most m.shortage.step m.actor m.number step d
act_most m (Act.AtServer server step) d = refl
act_most m (Act.Finish outcome) d = refl

all_most : (steps : List MadeStep) (d : Directory) → (after_all directory_next steps d).max ≡ d.max
all_most [] d = refl
all_most (m ∷ steps) d = all_most steps (directory_next m d) ∙ act_most m m.act d

pub keeps_most : (of : Counts) (max : ℕ) (d : Sealed) (log : List (ℕ × Noted)) → StandsAtDirectory of max d log → d.core.max ≡ max
keeps_most of max d log stands = ap (λ (x : Directory). x.max) stands.ends ∙ all_most (made_in log) _

-- Each step adds points to the history and takes none away.
use Rattle.std.proofs.Common.{◌≡◌, ℕ, Bool, false, List, [], ◌∷◌, ◌++◌, length, Option, None, Some, MatchOption, append-nil, refl, sym, ap, ◌∙◌}
use Rattle.store_map.specs.declared.actor.Actor.{Actor}
use Rattle.store_core.specs.Act.{Act, DirectoryStep}
use Rattle.store_core.specs.AtDirectory.{at_directory}
use Rattle.store_core.specs.Directory.{Point, Directory}
use Rattle.store_core.specs.PlaceLaws.{new_point}
use Rattle.store_core.proofs.Places.{directory_keeps_places}
use Rattle.store_core.specs.Step.{Places}
use Rattle.call_steps.specs.declared.need.Need.{Need}
use Rattle.call_steps.specs.declared.need.Need.TheVariants as need
use Rattle.call_steps.specs.CallOf.{CallOf, act_of}
use Rattle.call_steps.specs.Steps.{at_directory_by as called_at_directory, need_of}
use Rattle.call_steps.specs.Ready.{ready}
use Rattle.sweeper.specs.Sweeps.{SweeperOf, act_of as sweep_of, at_directory_by as swept_at_directory}
use Rattle.actors.specs.Turns.{IsMadeAt}
use Rattle.store_world.specs.ServeLaws.{HasMorePoints, HistoriesGrow}

same_points : (points now : List Point) → now ≡ points → HasMorePoints points now
same_points points now e = record { more = []; is = e ∙ sym (append-nil points) }

grown_by : (d after : Directory) (o : Option ℕ)
    → MatchOption o (after.points ≡ d.points) (λ place. (place ≡ length d.points) × (point : Point) × (after.points ≡ d.points ++ point ∷ []))
    → HasMorePoints d.points after.points
grown_by d after None e = same_points d.points after.points e
grown_by d after (Some place) h = record { more = h.1 ∷ []; is = h.2 }

pub step_grows : (short : Bool) (who : Actor) (number : ℕ) (step : DirectoryStep) (d : Directory) → HasMorePoints d.points (at_directory short who number step d).0.points
step_grows short who number step d =
    let after : Directory = (at_directory short who number step d).0 in
    grown_by d after (new_point (at_directory short who number step d).1) (directory_keeps_places short who number step d).points

call_grows : (act : Act) (short due : Bool) (c : CallOf) (d : Directory) → HasMorePoints d.points (called_at_directory act short due c d).0.points
call_grows (Act.AtDirectory step) short due c d = step_grows short _ c.number step d
call_grows (Act.AtServer server step) short due c d = same_points d.points d.points refl
call_grows (Act.Finish outcome) short due c d = same_points d.points d.points refl

sweep_grows : (act : Act) (who : Actor) (number : ℕ) (w : SweeperOf) (d : Directory) → HasMorePoints d.points (swept_at_directory act who number w d).0.points
sweep_grows (Act.AtDirectory step) who number w d = step_grows false who number step d
sweep_grows (Act.AtServer server step) who number w d = same_points d.points d.points refl
sweep_grows (Act.Finish outcome) who number w d = same_points d.points d.points refl

more_same : (points now other : List Point) → other ≡ now → HasMorePoints points now → HasMorePoints points other
more_same points now other e more = record { more = more.more; is = e ∙ more.is }

pub made_grows : (at : Need) (short due : Bool) (c : CallOf) (p : Places) (next : CallOf) (q : Places) → IsMadeAt at short due c p next q → HasMorePoints p.directory.points q.directory.points
made_grows need.Directory short due c p next q made =
    more_same p.directory.points (called_at_directory (act_of c) short due c p.directory).0.points q.directory.points (ap (λ (d : Directory). d.points) made.directory)
    (call_grows (act_of c) short due c p.directory)
made_grows (need.Server server) short due c p next q made = same_points p.directory.points q.directory.points (ap (λ (d : Directory). d.points) made.directory)
made_grows need.Coder short due c p next q made = absurd made
made_grows need.Finished short due c p next q made = absurd made

pub histories_grow : HistoriesGrow
histories_grow =
    record {
      step = step_grows;
      turn = λ script who work a after p q m. made_grows (need_of (ready m.turn.coding m.call)) m.turn.short m.turn.due (ready m.turn.coding m.call) p m.next q m.turn.made;
      sweep = λ who number w d. sweep_grows (sweep_of w) who number w d;
    }

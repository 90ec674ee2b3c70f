-- The sweeper and the operator in a trace.
use Rattle.std.proofs.Common.{◌≡◌, [], ◌∷◌, sym}
use Rattle.store_map.specs.declared.actor.Actor.TheVariants as actor
use Rattle.store_map.specs.declared.script.Script.{Script}
use Rattle.store_core.specs.Act.{Act, DirectoryStep, ServerStep}
use Rattle.store_core.specs.Core.{Core}
use Rattle.store_core.specs.Run.{places_in}
use Rattle.store_core.specs.Sweep.{next_sweep}
use Rattle.history_laws.specs.Trace.{act_made}
use Rattle.world_laws.specs.World.{WorldOf}
use Rattle.world_laws.specs.StandsFor.{StandsFor}
use Rattle.world_laws.specs.TurnMade.{places_of}
use Rattle.world_laws.specs.PlaceTells.{SweeperTells, OperatorTells}
use Rattle.world_laws.proofs.TraceTurns.{same_places}

pub sweeper_tells : (script : Script) (w : WorldOf) → SweeperTells script w
sweeper_tells script w shortages core more stands = λ k. act_made actor.Sweeper (next_sweep (sym stands.width k) (stands.sweeper k)) (same_places script w core stands k) ∷ []

-- an act of the operator
acts : (script : Script) (w : WorldOf) (core : Core) → StandsFor script w core → (act : Act)
    → act_made actor.Operator act (places_in core) ∷ [] ≡ act_made actor.Operator act (places_of w) ∷ []
acts script w core stands act = λ k. act_made actor.Operator act (same_places script w core stands k) ∷ []

pub operator_tells : (script : Script) (w : WorldOf) → OperatorTells script w
operator_tells script w =
    record {
      wipe = λ server shortages core more stands. acts script w core stands (Act.AtServer server ServerStep.Wipe);
      down = λ server shortages core more stands. acts script w core stands (Act.AtServer server ServerStep.Down);
      up = λ server shortages core more stands. acts script w core stands (Act.AtServer server ServerStep.Up);
      reap_client = λ i shortages core more stands. acts script w core stands (Act.AtDirectory (DirectoryStep.Reap (actor.Client i)));
      reap_repairer = λ i shortages core more stands. acts script w core stands (Act.AtDirectory (DirectoryStep.Reap (actor.Repairer i)));
    }

-- Steps one after another that no request's state shows.
use Rattle.std.proofs.Common.{ℕ, ◌<◌, ◌≤◌, Bool, List, [], ◌∷◌, length}
use Rattle.clay_grid.specs.Shape.{Shape, stripe_length}
use Rattle.store_map.specs.declared.actor.Actor.{Actor}
use Rattle.store_core.specs.Act.{Act, ServerStep}
use Rattle.store_core.specs.Step.{Places, at_places}
use Rattle.session_rules.specs.State.{State as Session}
use Rattle.session_rules.specs.Seen.{IsSeenAs}
use Rattle.session_rules.specs.Sweeps.{IsUnseen}
use Rattle.session_rules.specs.Unseen.{IsUnseenThere}
use Rattle.session_rules.specs.Moves.{Move, after_move, after_moves, IsFreshThere, IsUnseenMove, AreUnseen, MovesAreUnseen}
use Rattle.session_rules.proofs.Beside.{steps_are_unseen}

module _ (g : Shape) (max : ℕ) (stands : List ℕ) (s : Session) (some : 0 < stripe_length g) (count : ℕ) (fresh : (version : ℕ) → count ≤ version → IsUnseen stands s version) where
  unseen_there : (step : ServerStep) → IsFreshThere count step → IsUnseenThere stands s step
  unseen_there (ServerStep.Prepare version) ok = fresh version ok
  unseen_there (ServerStep.Discard version) ok = fresh version ok
  unseen_there (ServerStep.Settle version) ok = ok
  unseen_there (ServerStep.Has version) ok = ok
  unseen_there (ServerStep.Fetch version layers) ok = ok
  unseen_there (ServerStep.Install version) ok = absurd ok
  unseen_there ServerStep.Wipe ok = absurd ok
  unseen_there ServerStep.Down ok = absurd ok
  unseen_there ServerStep.Up ok = absurd ok

  one : (p : Places) (short : Bool) (who : Actor) (number : ℕ) (act : Act) → IsSeenAs g max stands p s → IsUnseenMove count p who number act → IsSeenAs g max stands (at_places short who number act p).0 s
  one p short who number (Act.AtDirectory step) h ok = steps_are_unseen.at_directory g max stands p s short who number step some h ok.0 ok.1
  one p short who number (Act.AtServer server step) h ok = steps_are_unseen.at_server g max stands p s short who number server step h (unseen_there step ok)
  one p short who number (Act.Finish outcome) h ok = absurd ok

  all : (moves : List Move) (p : Places) → IsSeenAs g max stands p s → AreUnseen count moves p → IsSeenAs g max stands (after_moves moves p) s
  all [] p h ok = h
  all (move ∷ moves) p h ok = all moves (after_move move p) (one p move.short move.who move.number move.act h ok.0) ok.1

pub moves_are_unseen : MovesAreUnseen
moves_are_unseen g max stands p s moves some h ok =
    all g max stands s some (length p.directory.versions) (λ version late. steps_are_unseen.drawn g max stands p s version some h late) moves p h ok

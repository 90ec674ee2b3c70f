-- Steps one after another that no request's state shows, whether or not memory is wanting at some of them.
use Rattle.std.specs.Prelude.{◌<◌, ◌≤◌, ℕ, Bool, List, [], ◌∷◌, length, ⊤}
use Rattle.clay_grid.specs.Shape.{Shape, stripe_length}
use Rattle.store_map.specs.declared.actor.Actor.{Actor}
use Rattle.store_core.specs.Act.{Act, ServerStep}
use Rattle.store_core.specs.Conditions.{MayStep}
use Rattle.store_core.specs.Step.{Places, at_places}
use Rattle.session_rules.specs.State.{State}
use Rattle.session_rules.specs.Seen.{IsSeenAs}
use Rattle.session_rules.specs.Unseen.{IsUnseenStep}

-- a step by an actor in its call with this number, with memory or without
pub record Move : Type 0 where
  pub short : Bool
  pub who : Actor
  pub number : ℕ
  pub act : Act

-- the places after one, and after some
abbrev pub after_move : Move → Places → Places
after_move move p = (at_places move.short move.who move.number move.act p).0

abbrev pub after_moves : List Move → Places → Places
after_moves [] p = p
after_moves (move ∷ moves) p = after_moves moves (after_move move p)

-- at a server: what changes no holdings, or those of a version drawn since there were so many
abbrev pub IsFreshThere : ℕ → ServerStep → Type 0
IsFreshThere count (ServerStep.Prepare version) = count ≤ version
IsFreshThere count (ServerStep.Discard version) = count ≤ version
IsFreshThere count (ServerStep.Settle version) = ⊤
IsFreshThere count (ServerStep.Has version) = ⊤
IsFreshThere count (ServerStep.Fetch version layers) = ⊤
IsFreshThere count step = ⊥

-- a step that may be made there and that no state shows
abbrev pub IsUnseenMove : ℕ → Places → Actor → ℕ → Act → Type 0
IsUnseenMove count p who number (Act.AtDirectory step) = MayStep p.directory who number step × IsUnseenStep step
IsUnseenMove count p who number (Act.AtServer server step) = IsFreshThere count step
IsUnseenMove count p who number act = ⊥

-- each of some steps is one
abbrev pub AreUnseen : ℕ → List Move → Places → Type 0
AreUnseen count [] p = ⊤
AreUnseen count (move ∷ moves) p = IsUnseenMove count p move.who move.number move.act × AreUnseen count moves (after_move move p)

-- the state that is seen stays, where versions are prepared and discarded that were drawn in these steps alone
abbrev pub MovesAreUnseen : Type 0
MovesAreUnseen =
    (g : Shape) (max : ℕ) (stands : List ℕ) (p : Places) (s : State) (moves : List Move) → 0 < stripe_length g → IsSeenAs g max stands p s →
    AreUnseen (length p.directory.versions) moves p → IsSeenAs g max stands (after_moves moves p) s

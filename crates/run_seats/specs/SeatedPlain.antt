-- The sweeper and the operator, each with its turns at all places of a store.
use Rattle.std.specs.Prelude.{◌≡◌, ℕ, ◌+◌, ◌-◌, ◌^◌, ◌<◌, Bool, true, length, drop, min, nat_lt, Some}
use Rattle.clay_grid.specs.Shape.{chunk_count}
use Rattle.store_map.specs.declared.actor.Actor.TheVariants as actor
use Rattle.store_map.specs.declared.actor.Token.{Token}
use Rattle.store_core.specs.Act.{Act, DirectoryStep}
use Rattle.thread_laws.specs.Lines.{operator_act}
use Rattle.thread_laws.specs.Threaded.{lines_of}
use Rattle.thread_laws.specs.Numbers.{IsTurnOf}
use Rattle.thread_laws.specs.Callers.{IsSweeping, IsOperating}
use Rattle.thread_laws.specs.Logs.{counts_of, own_at}
use Rattle.run_seats.specs.Places.{IsStore, HasTurns, seen_by}
use Rattle.run_seats.specs.Plain.{IsOfServer, line_step}
use Rattle.run_seats.specs.declared.seated_operator.SeatedOperator.{SeatedOperator}
use Rattle.run_seats.specs.declared.seated_operator.Target.{Target}
use Rattle.run_seats.specs.declared.seated_operator.Target.TheVariants as target
use Rattle.run_seats.specs.declared.seated_sweeper.SeatedSweeper.{SeatedSweeper}
use Rattle.run_seats.specs.declared.store.Store.{Store}

-- the sweeper of the store's servers, whose own entries at all places are the steps that lead to where it stands
pub record IsSweeper (store : Store) (seated : SeatedSweeper) : Type 0 where
  pub turns : HasTurns store seated.turns
  pub turn : IsTurnOf (counts_of store.script.now) seated.turns.number actor.Sweeper
  pub servers : seated.sweeper.servers ≡ chunk_count store.script.now.geometry
  pub sweeping : IsSweeping store.script.now (own_at seated.turns.number (seen_by seated.turns)) seated.sweeper.at

-- at a store
pub record MaySweep (store : Store) (seated : SeatedSweeper) : Type 0 where
  pub store_is : IsStore store
  pub seated_is : IsSweeper store seated

-- after its step it is there as before, and has counted it
pub record SweepsOn (store : Store) (before after : SeatedSweeper) : Type 0 where
  pub seated_is : IsSweeper store after
  pub same : after.turns.number ≡ before.turns.number
  pub one_more : after.steps ≡ min (before.steps + 1) (2 ^ 64 - 1)

-- the operator with the lines of the script, whose own entries at all places are the steps of those that it has made
pub record IsOperator (store : Store) (seated : SeatedOperator) : Type 0 where
  pub turns : HasTurns store seated.turns
  pub turn : IsTurnOf (counts_of store.script.now) seated.turns.number actor.Operator
  pub lines : seated.lines.items ≡ lines_of store.script.now
  pub operating : IsOperating store.script.now (own_at seated.turns.number (seen_by seated.turns)) (drop seated.made seated.lines.items)

-- whether it has a line left
abbrev pub line_left : SeatedOperator → Bool
line_left seated = nat_lt seated.made (length seated.lines.items)

-- how many it has left
abbrev pub lines_left : Store → SeatedOperator → ℕ
lines_left store seated = length (lines_of store.script.now) - seated.made

-- it has one, at a store
pub record MayOperate (store : Store) (seated : SeatedOperator) : Type 0 where
  pub store_is : IsStore store
  pub seated_is : IsOperator store seated
  pub has : line_left seated ≡ true

-- it has made one line more, and has fewer left
pub record OperatesOn (store : Store) (before after : SeatedOperator) : Type 0 where
  pub seated_is : IsOperator store after
  pub same : after.turns.number ≡ before.turns.number
  pub one_more : after.made ≡ before.made + 1
  pub falls : lines_left store after < lines_left store before

-- where a line is made
abbrev pub IsTarget : Token → Target → Type 0
IsTarget line (target.Server j) = IsOfServer line × (operator_act line ≡ Some (Act.AtServer j (line_step line)))
IsTarget line (target.Pass who) = operator_act line ≡ Some (Act.AtDirectory (DirectoryStep.Reap who))

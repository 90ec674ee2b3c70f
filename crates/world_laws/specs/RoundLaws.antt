-- A round of the world, actor by actor, is the definitions' round.
use Rattle.std.specs.Prelude.{◌≡◌, ℕ, ◌+◌, true, false, List, [], ◌++◌, length, fold}
use Rattle.std.specs.List.{range_with_len}
use Rattle.store_map.specs.declared.script.Script.{Script}
use Rattle.store_core.specs.Core.{Core, sweeper_has_step}
use Rattle.store_core.specs.Run.{Run, sweeper_step, client_step, repairer_step}
use Rattle.store_core.specs.Schedule.{is_unfinished, sweep_if, round}
use Rattle.store_core.specs.Step.{Shortage}
use Rattle.world_laws.specs.World.{WorldOf}
use Rattle.world_laws.specs.Known.{core_of}
use Rattle.world_laws.specs.StandsFor.{StandsFor}
use Rattle.world_laws.specs.Leads.{LeadsWorld}

-- the turns of the first so many clients
abbrev pub client_turns : Script → ℕ → Run → Run
client_turns script count run = fold (λ r i. client_step script i r) run (range_with_len 0 count)

-- the turns of the first so many repairers
abbrev pub repairer_turns : Script → ℕ → Run → Run
repairer_turns script count run = fold (λ r i. repairer_step script i r) run (range_with_len 0 count)

-- the sweeper's turn in a round, if it has one
abbrev pub sweep_turn : Script → Run → Run
sweep_turn script run = sweep_if (sweeper_has_step run.core) script run

-- whether somebody has a step is known of the world
abbrev pub EndsAreKnown : Type 0
EndsAreKnown = (script : Script) (w : WorldOf) (core : Core) → StandsFor script w core → is_unfinished script core ≡ is_unfinished script (core_of script w)

-- one client's turn more
pub record ClientsTakeTurns (script : Script) (w : WorldOf) : Type 0 where
  pub none : LeadsWorld script (client_turns script 0) w [] w
  pub next :
      (i : ℕ) (middle after : WorldOf) (shortages more : List Shortage) → LeadsWorld script (client_turns script i) w shortages middle →
      LeadsWorld script (client_step script i) middle more after → LeadsWorld script (client_turns script (i + 1)) w (shortages ++ more) after

-- one repairer's turn more
pub record RepairersTakeTurns (script : Script) (w : WorldOf) : Type 0 where
  pub none : LeadsWorld script (repairer_turns script 0) w [] w
  pub next :
      (i : ℕ) (middle after : WorldOf) (shortages more : List Shortage) → LeadsWorld script (repairer_turns script i) w shortages middle →
      LeadsWorld script (repairer_step script i) middle more after → LeadsWorld script (repairer_turns script (i + 1)) w (shortages ++ more) after

-- the sweeper's turn where it has one
pub record SweeperTakesTurn (script : Script) (w : WorldOf) : Type 0 where
  pub has :
      sweeper_has_step (core_of script w) ≡ true → (after : WorldOf) (shortages : List Shortage) → LeadsWorld script (sweeper_step script) w shortages after →
      LeadsWorld script (sweep_turn script) w shortages after
  pub none : sweeper_has_step (core_of script w) ≡ false → LeadsWorld script (sweep_turn script) w [] w

-- the turns of all clients, of all repairers and of the sweeper are a round; where nobody has a step a round changes nothing
pub record RoundsAreRounds (script : Script) (w : WorldOf) : Type 0 where
  pub clients : ClientsTakeTurns script w
  pub repairers : RepairersTakeTurns script w
  pub sweeper : SweeperTakesTurn script w
  pub whole :
      (middle late after : WorldOf) (shortages more last : List Shortage) → LeadsWorld script (client_turns script (length script.clients)) w shortages middle →
      LeadsWorld script (repairer_turns script (length script.repairers)) middle more late → LeadsWorld script (sweep_turn script) late last after →
      LeadsWorld script (round script) w (shortages ++ more ++ last) after
  pub over : is_unfinished script (core_of script w) ≡ false → LeadsWorld script (round script) w [] w

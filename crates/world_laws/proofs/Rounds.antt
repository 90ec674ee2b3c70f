-- Rounds of the world.
use Rattle.std.proofs.Common.{◌≡◌, ℕ, ◌+◌, Bool, true, false, List, [], ◌∷◌, ◌++◌, length, fold, refl, sym, ap, subst, ◌∙◌, arith}
use Rattle.std.proofs.lemmas.List.Sums.{fold-append}
use Rattle.std.specs.List.{range_with_len}
use Rattle.clay_grid.proofs.Rising.{range_with_len_more}
use Rattle.store_map.specs.declared.script.Script.{Script}
use Rattle.store_core.specs.Core.{sweeper_has_step}
use Rattle.store_core.specs.Run.{Run, client_step, repairer_step, sweeper_step}
use Rattle.store_core.specs.Schedule.{sweep_if, round}
use Rattle.store_core.specs.Step.{Shortage}
use Rattle.world_laws.specs.World.{WorldOf}
use Rattle.world_laws.specs.Known.{core_of}
use Rattle.world_laws.specs.Leads.{IsAt, LeadsWorld}
use Rattle.world_laws.specs.RoundLaws.{client_turns, repairer_turns, sweep_turn, RoundsAreRounds}
use Rattle.world_laws.proofs.Parts.{parts_lead_worlds}
use Rattle.world_laws.proofs.TurnLaws.{stays_at}
use Rattle.world_laws.proofs.Ends.{sweeper_known, ends_are_known, round_idle}

-- the turns of one actor more
turns_more : (step : ℕ → Run → Run) (count : ℕ) (run : Run) → fold (λ r i. step i r) run (range_with_len 0 (count + 1)) ≡ step count (fold (λ r i. step i r) run (range_with_len 0 count))
turns_more step count run =
    let from_zero : 0 + count ≡ count = omega arith in
    ap (λ (l : List ℕ). fold (λ (r : Run) (i : ℕ). step i r) run l) (range_with_len_more 0 count)
    ∙ fold-append (λ (r : Run) (i : ℕ). step i r) run (range_with_len 0 count) ((0 + count) ∷ [])
    ∙ ap (λ (n : ℕ). step n (fold (λ (r : Run) (i : ℕ). step i r) run (range_with_len 0 count))) from_zero

-- a part that does what another one does
same_part : (script : Script) (part other : Run → Run) (w after : WorldOf) (shortages : List Shortage) → ((run : Run) → part run ≡ other run) → LeadsWorld script other w shortages after
    → LeadsWorld script part w shortages after
same_part script part other w after shortages same leads core more stands =
    subst (λ (r : Run). IsAt script after more r) (sym (same (record { core = core; shortages = shortages ++ more }))) (leads core more stands)

module _ (script : Script) (w : WorldOf) where
  turn_leads : (step : ℕ → Run → Run) (i : ℕ) (middle after : WorldOf) (shortages more : List Shortage)
      → LeadsWorld script (λ run. fold (λ r j. step j r) run (range_with_len 0 i)) w shortages middle → LeadsWorld script (step i) middle more after
      → LeadsWorld script (λ run. fold (λ r j. step j r) run (range_with_len 0 (i + 1))) w (shortages ++ more) after
  turn_leads step i middle after shortages more turns one =
      let before : Run → Run = λ run. fold (λ r j. step j r) run (range_with_len 0 i) in
      same_part script (λ run. fold (λ r j. step j r) run (range_with_len 0 (i + 1))) (λ run. step i (before run)) w after (shortages ++ more) (turns_more step i)
      (parts_lead_worlds script before (step i) w middle after shortages more turns one)

  sweeps : (b : Bool) (part : Run → Run) (after : WorldOf) (shortages : List Shortage) → sweeper_has_step (core_of script w) ≡ b
      → LeadsWorld script (λ run. sweep_if b script run) w shortages after → LeadsWorld script (sweep_turn script) w shortages after
  sweeps b part after shortages has leads core more stands =
      subst (λ (c : Bool). IsAt script after more (sweep_if c script (record { core = core; shortages = shortages ++ more }))) (sym (sweeper_known script w core stands ∙ has)) (leads core more stands)

  stays : LeadsWorld script (λ run. run) w [] w
  stays core more stands = record { stands = stands; left = refl }

  pub rounds_are_rounds : RoundsAreRounds script w
  rounds_are_rounds =
      record {
        clients = record { none = stays; next = turn_leads (client_step script) };
        repairers = record { none = stays; next = turn_leads (repairer_step script) };
        sweeper =
            record {
              has = λ has after shortages leads. sweeps true (sweeper_step script) after shortages has leads;
              none = λ none. sweeps false (λ run. run) w [] none stays;
            };
        whole = λ middle late after shortages more last clients repairers sweeper.
            parts_lead_worlds script (λ run. repairer_turns script (length script.repairers) (client_turns script (length script.clients) run)) (sweep_turn script) w late after (shortages ++ more) last
            (parts_lead_worlds script (client_turns script (length script.clients)) (repairer_turns script (length script.repairers)) w middle late shortages more clients repairers) sweeper;
        over = λ over core more stands.
            stays_at script w core more (round script (record { core = core; shortages = more })) stands
            (round_idle script (record { core = core; shortages = more }) (ends_are_known script w core stands ∙ over));
      }

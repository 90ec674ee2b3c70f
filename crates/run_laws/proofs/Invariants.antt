-- What each step of a run keeps holds after any tokens.
use Rattle.std.proofs.Common.{ℕ, zero, suc, Bool, true, false, List, [], ◌∷◌, length, fold, All}
use Rattle.std.proofs.lemmas.List.Elements.{All-head, All-tail}
use Rattle.std.specs.List.{range_with_len}
use Rattle.store_map.specs.declared.actor.Actor.TheVariants as actor
use Rattle.store_map.specs.declared.actor.Token.{Token}
use Rattle.store_map.specs.declared.actor.Token.TheVariants as token
use Rattle.store_map.specs.declared.script.Script.{Script}
use Rattle.store_core.specs.Act.{Act, DirectoryStep, ServerStep}
use Rattle.store_core.specs.Core.{Core, sweeper_has_step}
use Rattle.store_core.specs.Fuel.{fuel_of}
use Rattle.store_core.specs.Run.{Run, client_step, repairer_step, sweeper_step, operator_step}
use Rattle.store_core.specs.Schedule.{is_unfinished, sweep_if, round, drain_by, step_core, run_tokens}
use Rattle.store_core.specs.Step.{Shortage}
use Rattle.run_laws.proofs.Drains.{token_state}
use Rattle.run_laws.proofs.Runs.{CanRun}
use Rattle.run_laws.proofs.RunsSound.{RunKeeps, client_kept, repairer_kept, sweeper_kept}

module _ (script : Script) (shortages : List Shortage) (can : CanRun script) (Inv : Core → Type 0) (Allowed : Act → Type 0)
    (client : (run : Run) (i : ℕ) → RunKeeps script run.core → Inv run.core → Inv (client_step script i run).core)
    (repairer : (run : Run) (i : ℕ) → RunKeeps script run.core → Inv run.core → Inv (repairer_step script i run).core)
    (sweeper : (run : Run) → RunKeeps script run.core → Inv run.core → Inv (sweeper_step script run).core)
    (operator : (run : Run) (act : Act) → Allowed act → Inv run.core → Inv (operator_step act run).core) where
  -- what the operator does is allowed
  abbrev pub IsAllowed : Token → Type 0
  IsAllowed (token.Wipe server) = Allowed (Act.AtServer server ServerStep.Wipe)
  IsAllowed (token.Down server) = Allowed (Act.AtServer server ServerStep.Down)
  IsAllowed (token.Up server) = Allowed (Act.AtServer server ServerStep.Up)
  IsAllowed (token.ReapClient i) = Allowed (Act.AtDirectory (DirectoryStep.Reap (actor.Client i)))
  IsAllowed (token.ReapRepairer i) = Allowed (Act.AtDirectory (DirectoryStep.Reap (actor.Repairer i)))
  IsAllowed _ = Unit {0}

  pub record Both (run : Run) : Type 0 where
    pub state : RunKeeps script run.core
    pub holds : Inv run.core

  all_keep : (step : ℕ → Run → Run) → ((i : ℕ) (run : Run) → Both run → Both (step i run)) → (numbers : List ℕ) (run : Run) → Both run → Both (fold (λ r i. step i r) run numbers)
  all_keep step keeps [] run both = both
  all_keep step keeps (i ∷ numbers) run both = all_keep step keeps numbers (step i run) (keeps i run both)

  client_keeps : (i : ℕ) (run : Run) → Both run → Both (client_step script i run)
  client_keeps i run both = record { state = client_kept script can run both.state i; holds = client run i both.state both.holds }

  repairer_keeps : (i : ℕ) (run : Run) → Both run → Both (repairer_step script i run)
  repairer_keeps i run both = record { state = repairer_kept script can run both.state i; holds = repairer run i both.state both.holds }

  sweep_keeps : (b : Bool) (run : Run) → Both run → Both (sweep_if b script run)
  sweep_keeps true run both = record { state = sweeper_kept script can run both.state; holds = sweeper run both.state both.holds }
  sweep_keeps false run both = both

  round_keeps : (run : Run) → Both run → Both (round script run)
  round_keeps run both =
      let middle : Run = fold (λ r i. client_step script i r) run (range_with_len 0 (length script.clients)) in
      let late : Run = fold (λ r i. repairer_step script i r) middle (range_with_len 0 (length script.repairers)) in
      sweep_keeps (sweeper_has_step late.core) late
      (all_keep (repairer_step script) repairer_keeps (range_with_len 0 (length script.repairers)) middle
      (all_keep (client_step script) client_keeps (range_with_len 0 (length script.clients)) run both))

  drain_keeps : (fuel : ℕ) (run : Run) → Both run → Both (drain_by fuel script run)
  drain_keeps zero run both = both
  drain_keeps (suc fuel) run both = by (is_unfinished script run.core) (drain_keeps fuel (round script run) (round_keeps run both))
    where
      by : (b : Bool) → Both (drain_by fuel script (round script run)) → Both (elim b [ true ↦ drain_by fuel script (round script run) | false ↦ run ])
      by true next = next
      by false next = both

  token_holds : (token : Token) (run : Run) → IsAllowed token → Both run → Inv (step_core script token run).core
  token_holds (token.Client i) run allowed both = client run i both.state both.holds
  token_holds (token.Repairer i) run allowed both = repairer run i both.state both.holds
  token_holds token.Sweep run allowed both = sweeper run both.state both.holds
  token_holds (token.Wipe server) run allowed both = operator run (Act.AtServer server ServerStep.Wipe) allowed both.holds
  token_holds (token.Down server) run allowed both = operator run (Act.AtServer server ServerStep.Down) allowed both.holds
  token_holds (token.Up server) run allowed both = operator run (Act.AtServer server ServerStep.Up) allowed both.holds
  token_holds (token.ReapClient i) run allowed both = operator run (Act.AtDirectory (DirectoryStep.Reap (actor.Client i))) allowed both.holds
  token_holds (token.ReapRepairer i) run allowed both = operator run (Act.AtDirectory (DirectoryStep.Reap (actor.Repairer i))) allowed both.holds
  token_holds token.Drain run allowed both = (drain_keeps (fuel_of script run.core) run both).holds

  -- after all tokens
  pub tokens_hold : (tokens : List Token) (run : Run) → All IsAllowed tokens → Both run → Both (run_tokens script tokens run)
  tokens_hold [] run allowed both = both
  tokens_hold (token ∷ tokens) run allowed both =
      tokens_hold tokens (step_core script token run) (All-tail IsAllowed token tokens allowed)
      (record { state = token_state script shortages can token run both.state; holds = token_holds token run (All-head IsAllowed token tokens allowed) both })

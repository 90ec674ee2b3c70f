-- Runs of the world, and their drains.
use Rattle.std.proofs.Common.{◌≡◌, ℕ, zero, suc, ◌+◌, ◌-◌, ◌^◌, ◌<◌, ◌≤◌, Bool, true, false, List, [], ◌∷◌, ◌++◌, refl, sym, ap, subst, ◌∙◌, arith, true≢false, append_assoc, append-nil}
use Rattle.clay_grid.specs.Limits.{IsGeometry}
use Rattle.store_map.specs.Naming.{IsValid}
use Rattle.store_map.specs.declared.actor.Token.{Token}
use Rattle.store_map.specs.declared.actor.Token.TheVariants as token
use Rattle.store_map.specs.declared.script.Script.{Script}
use Rattle.store_core.specs.Core.{first_core}
use Rattle.store_core.specs.Fuel.{fuel_of}
use Rattle.store_core.specs.Run.{Run}
use Rattle.store_core.specs.Schedule.{is_unfinished, round, drain, step_core, run_tokens, run_core}
use Rattle.store_core.specs.Step.{Shortage}
use Rattle.run_laws.specs.RoundLaws.{rounds, rounds_left, GoesByRounds}
use Rattle.run_laws.proofs.Drains.{run_more}
use Rattle.run_laws.proofs.Runs.{CanRun}
use Rattle.run_laws.proofs.Scripts.{can_run}
use Rattle.run_laws.proofs.Rounds.{drains_go_by_rounds}
use Rattle.world_laws.specs.World.{WorldOf}
use Rattle.world_laws.specs.Known.{core_of}
use Rattle.world_laws.specs.StandsFor.{StandsFor}
use Rattle.world_laws.specs.Leads.{IsAt, LeadsWorld}
use Rattle.world_laws.specs.RunLaws.{Reaches, ReachesInDrain, RunsReach, DrainsReach, DrainsOfValidScriptsReach}
use Rattle.world_laws.proofs.Firsts.{first_worlds_stand}
use Rattle.world_laws.proofs.Parts.{goes_on}
use Rattle.world_laws.proofs.FuelFits.{fuel_fits}
use Rattle.world_laws.proofs.Measures.{rounds_few}
use Rattle.world_laws.proofs.Ends.{ends_are_known, round_idle}

-- ---- token by token
module _ (script : Script) where
  -- a run before its first step
  abbrev pub start : List Shortage → Run
  start shortages = record { core = first_core script; shortages = shortages }

  -- a part after tokens, from the run with all shortages
  after_tokens : (part : Run → Run) (before : Run → Run) (w after : WorldOf) (shortages more : List Shortage) → ((rest : List Shortage) → IsAt script w rest (before (start (shortages ++ rest))))
      → LeadsWorld script part w more after → (rest : List Shortage) → IsAt script after rest (part (before (start ((shortages ++ more) ++ rest))))
  after_tokens part before w after shortages more reached leads rest =
      goes_on script part w after more rest (before (start ((shortages ++ more) ++ rest))) leads
      (subst (λ (ms : List Shortage). IsAt script w (more ++ rest) (before (start ms))) (sym (append_assoc shortages more rest)) (reached (more ++ rest)))

  next_reached : (tokens : List Token) (t : Token) (w after : WorldOf) (shortages more : List Shortage) → Reaches script tokens shortages w → LeadsWorld script (step_core script t) w more after
      → Reaches script (tokens ++ t ∷ []) (shortages ++ more) after
  next_reached tokens t w after shortages more reached leads rest =
      subst (λ (r : Run). IsAt script after rest r) (sym (run_more script tokens t (start ((shortages ++ more) ++ rest))))
      (after_tokens (step_core script t) (run_tokens script tokens) w after shortages more reached leads rest)

  core_reached : (tokens : List Token) (w : WorldOf) (shortages : List Shortage) → Reaches script tokens shortages w → StandsFor script w (run_core script shortages tokens)
  core_reached tokens w shortages reached =
      subst (λ (ms : List Shortage). StandsFor script w (run_tokens script tokens (start ms)).core) (append-nil shortages) (reached []).stands

  pub runs_reach : RunsReach script
  runs_reach =
      record {
        first = λ w first more. record { stands = first_worlds_stand script w first; left = refl };
        next = next_reached;
        core = core_reached;
      }

-- ---- drains
module _ (script : Script) (run : Run) (by_rounds : (n : ℕ) → GoesByRounds script (rounds n script run)) where
  -- so many rounds have the same drain ahead
  same_drain : (n : ℕ) → drain script run ≡ drain script (rounds n script run)
  same_drain zero = refl
  same_drain (suc n) = same_drain n ∙ one (is_unfinished script (rounds n script run).core) refl
    where
      one : (b : Bool) → is_unfinished script (rounds n script run).core ≡ b → drain script (rounds n script run) ≡ drain script (round script (rounds n script run))
      one true e = ((by_rounds n).goes_on e).0
      one false e = ap (drain script) (sym (round_idle script (rounds n script run) e))

  -- where nobody has a step any more, the drain has come to its end
  pub drained : (n : ℕ) → is_unfinished script (rounds n script run).core ≡ false → drain script run ≡ rounds n script run
  drained n over = same_drain n ∙ ((by_rounds n).over over).0

  -- somebody has a step before a round after which somebody has one
  busy_before : (before : Run) → is_unfinished script (round script before).core ≡ true → is_unfinished script before.core ≡ true
  busy_before before busy = by (is_unfinished script before.core) refl
    where
      by : (b : Bool) → is_unfinished script before.core ≡ b → is_unfinished script before.core ≡ true
      by true e = e
      by false e = absurd (true≢false (sym busy ∙ ap (λ (r : Run). is_unfinished script r.core) (round_idle script before e) ∙ e))

  -- the rounds that are left go down
  count_left : (n : ℕ) → is_unfinished script (rounds n script run).core ≡ true → rounds_left script run ≡ n + rounds_left script (rounds n script run)
  count_left zero busy = let a : ℕ = rounds_left script run in let e : a ≡ 0 + a = omega arith in e
  count_left (suc n) busy =
      let before : is_unfinished script (rounds n script run).core ≡ true = busy_before (rounds n script run) busy in
      let a : ℕ = rounds_left script run in
      let b : ℕ = rounds_left script (rounds n script run) in
      let c : ℕ = rounds_left script (rounds (suc n) script run) in
      let first : a ≡ n + b = count_left n before in
      let then : b ≡ c + 1 = ((by_rounds n).goes_on before).1 in
      let e : a ≡ suc n + c = omega (arith, first, then) in
      e

  pub few_rounds : (n : ℕ) → is_unfinished script (rounds n script run).core ≡ true → n < fuel_of script run.core
  few_rounds n busy =
      let a : ℕ = rounds_left script run in
      let b : ℕ = rounds_left script (rounds n script run) in
      let c : ℕ = rounds_left script (round script (rounds n script run)) in
      let f : ℕ = fuel_of script run.core in
      let first : a ≡ n + b = count_left n busy in
      let then : b ≡ c + 1 = ((by_rounds n).goes_on busy).1 in
      let most : a ≤ f = (by_rounds zero).few in
      let e : n < f = omega (arith, first, then, most) in
      e

module _ (script : Script) (geometry : IsGeometry script.geometry) (valid : IsValid script) (tokens : List Token) where
  -- the run of the tokens
  run_of : List Shortage → Run
  run_of shortages = run_tokens script tokens (start script shortages)

  few : (count : ℕ) (w : WorldOf) (shortages : List Shortage) → ReachesInDrain script tokens count shortages w → is_unfinished script (core_of script w) ≡ true
      → count < fuel_of script (run_core script shortages tokens)
  unfolding run_of
  few count w shortages reached busy =
      let ms : List Shortage = shortages ++ [] in
      let stands : StandsFor script w (rounds count script (run_of ms)).core = (reached []).stands in
      subst (λ (l : List Shortage). count < fuel_of script (run_tokens script tokens (start script l)).core) (append-nil shortages)
      (few_rounds script (run_of ms) (λ n. drains_go_by_rounds script ms geometry valid tokens n) count (ends_are_known script w (rounds count script (run_of ms)).core stands ∙ busy))

  fits : (count : ℕ) (w : WorldOf) (shortages : List Shortage) → ReachesInDrain script tokens count shortages w → is_unfinished script (core_of script w) ≡ true → count < 2 ^ 64 - 1
  unfolding run_of
  fits count w shortages reached busy =
      let ms : List Shortage = shortages ++ [] in
      let can : CanRun script = can_run script geometry valid in
      let stands : StandsFor script w (rounds count script (run_of ms)).core = (reached []).stands in
      let most : count ≤ fuel_of script (first_core script) = rounds_few script can ms tokens count (ends_are_known script w (rounds count script (run_of ms)).core stands ∙ busy) in
      let fuel : ℕ = fuel_of script (first_core script) in
      let low : count ≤ fuel = most in
      let small : fuel < 2 ^ 64 - 1 = fuel_fits script geometry valid can in
      omega (arith, low, small)

  ends : (count : ℕ) (w : WorldOf) (shortages : List Shortage) → ReachesInDrain script tokens count shortages w → is_unfinished script (core_of script w) ≡ false
      → Reaches script (tokens ++ token.Drain ∷ []) shortages w
  unfolding run_of
  ends count w shortages reached over more =
      let ms : List Shortage = shortages ++ more in
      let at : IsAt script w more (rounds count script (run_of ms)) = reached more in
      let is_over : is_unfinished script (rounds count script (run_of ms)).core ≡ false = ends_are_known script w (rounds count script (run_of ms)).core at.stands ∙ over in
      subst (λ (r : Run). IsAt script w more r)
      (sym (run_more script tokens token.Drain (start script ms) ∙ drained script (run_of ms) (λ n. drains_go_by_rounds script ms geometry valid tokens n) count is_over)) at

  pub drains_reach : DrainsReach script tokens
  drains_reach =
      record {
        begins = λ w shortages reached. reached;
        next = λ count w after shortages more reached leads.
            let one : count + 1 ≡ suc count = omega arith in
            λ rest. subst (λ n. IsAt script after rest (rounds n script (run_tokens script tokens (start script ((shortages ++ more) ++ rest))))) (sym one)
            (after_tokens script (round script) (λ run. rounds count script (run_tokens script tokens run)) w after shortages more reached leads rest);
        few = few;
        fits = fits;
        ends = ends;
      }

pub drains_of_valid_scripts_reach : DrainsOfValidScriptsReach
drains_of_valid_scripts_reach script geometry valid tokens = drains_reach script geometry valid tokens

-- Drains in a trace.
use Rattle.std.proofs.Common.{◌≡◌, ℕ, zero, suc, ◌+◌, ◌-◌, ◌^◌, ◌<◌, ◌≤◌, Bool, true, false, List, [], ◌∷◌, ◌++◌, refl, sym, ap, subst, ◌∙◌, arith, append_assoc, append-nil}
use Rattle.clay_grid.specs.Limits.{IsGeometry}
use Rattle.store_map.specs.Naming.{IsValid}
use Rattle.store_map.specs.declared.actor.Token.{Token}
use Rattle.store_map.specs.declared.actor.Token.TheVariants as token
use Rattle.store_map.specs.declared.script.Script.{Script}
use Rattle.store_core.specs.Fuel.{fuel_of}
use Rattle.store_core.specs.Run.{Run}
use Rattle.store_core.specs.Schedule.{is_unfinished, round, run_tokens}
use Rattle.store_core.specs.Step.{Shortage}
use Rattle.run_laws.specs.RoundLaws.{rounds, GoesByRounds}
use Rattle.run_laws.proofs.Rounds.{drains_go_by_rounds}
use Rattle.history_laws.specs.Trace.{Made, trace_of}
use Rattle.history_laws.specs.Steps.{round_steps, drain_steps, first_run, run_trace}
use Rattle.world_laws.specs.World.{WorldOf}
use Rattle.world_laws.specs.Known.{core_of}
use Rattle.world_laws.specs.Leads.{IsAt}
use Rattle.world_laws.proofs.Ends.{ends_are_known, round_idle}
use Rattle.world_laws.proofs.Runs.{few_rounds, drains_reach}
use Rattle.world_laws.specs.Telling.{tokens_made}
use Rattle.world_laws.specs.Traced.{IsTraced, GoesTelling}
use Rattle.world_laws.specs.RoundTells.{round_made, RoundTells}
use Rattle.world_laws.specs.DrainTells.{rounds_made, IsTracedInDrain, IsTracedInDrainAfter, GoesTellingByRounds, DrainsTell, DrainsOfValidScriptsTell}
use Rattle.world_laws.proofs.Lists.{trace_append, made_append, round_run}
use Rattle.world_laws.proofs.TraceParts.{told_at}
use Rattle.world_laws.proofs.Traces.{reached_at}
use Rattle.world_laws.proofs.Idle.{round_makes_none}

module _ (script : Script) where
  -- the steps of a drain with some fuel
  abbrev pub drain_made : ℕ → Run → List Made
  drain_made fuel run = trace_of script (drain_steps fuel script run) run

  -- by whether somebody has a step
  abbrev made_by : Bool → ℕ → Run → List Made
  made_by b fuel run = trace_of script (elim b [ true ↦ round_steps script run ++ drain_steps fuel script (round script run) | false ↦ [] ]) run

  idle_drain : (fuel : ℕ) (run : Run) → is_unfinished script run.core ≡ false → drain_made fuel run ≡ []
  idle_drain zero run over = refl
  idle_drain (suc fuel) run over = ap (λ b. made_by b fuel run) over

  -- a round, and the rest of the fuel after it
  drain_more : (fuel : ℕ) (run : Run) → drain_made (suc fuel) run ≡ round_made script run ++ drain_made fuel (round script run)
  drain_more fuel run = one (is_unfinished script run.core) refl
    where
      one : (b : Bool) → is_unfinished script run.core ≡ b → drain_made (suc fuel) run ≡ round_made script run ++ drain_made fuel (round script run)
      one true e =
          let later : List Token = drain_steps fuel script (round script run) in
          ap (λ b. made_by b fuel run) e ∙ trace_append script (round_steps script run) later run
          ∙ ap (λ (r : Run). round_made script run ++ trace_of script later r) (round_run script run)
      one false e =
          let idle : round script run ≡ run = round_idle script run e in
          ap (λ b. made_by b fuel run) e
          ∙ sym ((λ k. round_makes_none script run e k ++ drain_made fuel (idle k)) ∙ idle_drain fuel run e)

  -- so many rounds, and the rest of the fuel after them
  drain_after : (n fuel : ℕ) (run : Run) → drain_made (n + fuel) run ≡ rounds_made n script run ++ drain_made fuel (rounds n script run)
  drain_after zero fuel run = let e : 0 + fuel ≡ fuel = omega arith in ap (λ f. drain_made f run) e
  drain_after (suc n) fuel run =
      let e : suc n + fuel ≡ n + suc fuel = omega arith in
      let now : Run = rounds n script run in
      ap (λ f. drain_made f run) e ∙ drain_after n (suc fuel) run
      ∙ ap (λ l. rounds_made n script run ++ l) (drain_more fuel now)
      ∙ sym (append_assoc (rounds_made n script run) (round_made script now) (drain_made fuel (round script now)))

  module _ (run : Run) (by_rounds : (n : ℕ) → GoesByRounds script (rounds n script run)) where
    -- where nobody has a step any more, the rounds' steps are the drain's
    drain_told : (n : ℕ) → is_unfinished script (rounds n script run).core ≡ false → drain_made (fuel_of script run.core) run ≡ rounds_made n script run
    drain_told zero over = idle_drain (fuel_of script run.core) run over
    drain_told (suc n) over = one (drain_told n) (is_unfinished script (rounds n script run).core) refl
      where
        one : (is_unfinished script (rounds n script run).core ≡ false → drain_made (fuel_of script run.core) run ≡ rounds_made n script run)
            → (b : Bool) → is_unfinished script (rounds n script run).core ≡ b → drain_made (fuel_of script run.core) run ≡ rounds_made (suc n) script run
        one before true busy =
            let fuel : ℕ = fuel_of script run.core in
            let few : n < fuel = few_rounds script run by_rounds n busy in
            let e : fuel ≡ suc n + (fuel - suc n) = omega (arith, few) in
            ap (λ f. drain_made f run) e ∙ drain_after (suc n) (fuel - suc n) run
            ∙ ap (λ l. rounds_made (suc n) script run ++ l) (idle_drain (fuel - suc n) (rounds (suc n) script run) over)
            ∙ append-nil (rounds_made (suc n) script run)
        one before false idle =
            before idle ∙ sym (append-nil (rounds_made n script run))
            ∙ ap (λ l. rounds_made n script run ++ l) (sym (round_makes_none script (rounds n script run) idle))

module _ (script : Script) (geometry : IsGeometry script.geometry) (valid : IsValid script) where
  -- the run of tokens
  abbrev run_of : List Token → List Shortage → Run
  run_of tokens shortages = run_tokens script tokens (first_run script shortages)

  begins : (w : WorldOf) → GoesTellingByRounds script 0 w w []
  begins w tokens shortages before by =
      record {
        more = [];
        by =
            subst (λ (l : List Shortage). IsTracedInDrain script tokens 0 l w (before ++ [])) (sym (append-nil shortages))
            (record { reaches = by.reaches; traced = λ more. ap (λ l. l ++ []) (by.traced more) });
      }

  next : (count : ℕ) (w middle after : WorldOf) (made more : List Made) → GoesTellingByRounds script count w middle made → RoundTells script middle after more
      → GoesTellingByRounds script (count + 1) w after (made ++ more)
  next count w middle after made more goes round_tells tokens shortages before by =
      let now : IsTracedInDrainAfter script tokens count shortages middle (before ++ made) = goes tokens shortages before by in
      let used : List Shortage = shortages ++ now.more in
      let last : List Shortage = round_tells.shortages in
      let one : suc count ≡ count + 1 = omega arith in
      let told : (rest : List Shortage) → run_trace script ((used ++ last) ++ rest) tokens ++ rounds_made (suc count) script (run_of tokens ((used ++ last) ++ rest)) ≡ (before ++ made) ++ more =
      λ rest.
      let ms : List Shortage = (used ++ last) ++ rest in
      let late : Run = rounds count script (run_of tokens ms) in
      let old : run_trace script ms tokens ++ rounds_made count script (run_of tokens ms) ≡ before ++ made =
      ap (λ (l : List Shortage). run_trace script l tokens ++ rounds_made count script (run_of tokens l)) (append_assoc used last rest) ∙ now.by.traced (last ++ rest) in
      let at : IsAt script middle (last ++ rest) late = reached_at script (λ r. rounds count script (run_tokens script tokens r)) middle used last rest now.by.reaches in
      let new : round_made script late ≡ more = told_at script (round_made script) middle last rest more late round_tells.tells at in
      sym (append_assoc (run_trace script ms tokens) (rounds_made count script (run_of tokens ms)) (round_made script late)) ∙ (λ k. old k ++ new k) in
      let whole : IsTracedInDrain script tokens (count + 1) (used ++ last) after ((before ++ made) ++ more) =
      record {
        reaches = (drains_reach script geometry valid tokens).next count middle after used last now.by.reaches round_tells.leads;
        traced = λ rest. subst (λ n. run_trace script ((used ++ last) ++ rest) tokens ++ rounds_made n script (run_of tokens ((used ++ last) ++ rest)) ≡ (before ++ made) ++ more) one (told rest);
      } in
      record {
        more = now.more ++ last;
        by =
            subst (λ (l : List Shortage). IsTracedInDrain script tokens (count + 1) l after (before ++ (made ++ more))) (append_assoc shortages now.more last)
            (subst (λ (l : List Made). IsTracedInDrain script tokens (count + 1) (used ++ last) after l) (append_assoc before made more) whole);
      }

  fits : (count : ℕ) (w after : WorldOf) (made : List Made) → IsTraced script w → GoesTellingByRounds script count w after made → is_unfinished script (core_of script after) ≡ true → count < 2 ^ 64 - 1
  fits count w after made is goes busy =
      let now : IsTracedInDrainAfter script is.tokens count is.shortages after (is.made ++ made) = goes is.tokens is.shortages is.made is.by in
      (drains_reach script geometry valid is.tokens).fits count after (is.shortages ++ now.more) now.by.reaches busy

  ends : (count : ℕ) (w after : WorldOf) (made : List Made) → GoesTellingByRounds script count w after made → is_unfinished script (core_of script after) ≡ false
      → GoesTelling script (token.Drain ∷ []) w after made
  ends count w after made goes over tokens shortages before by =
      let now : IsTracedInDrainAfter script tokens count shortages after (before ++ made) = goes tokens shortages before by in
      let used : List Shortage = shortages ++ now.more in
      record {
        more = now.more;
        by =
            record {
              reaches = (drains_reach script geometry valid tokens).ends count after used now.by.reaches over;
              traced = λ rest.
                  let ms : List Shortage = used ++ rest in
                  let run : Run = run_of tokens ms in
                  let at : IsAt script after rest (rounds count script run) = now.by.reaches rest in
                  let is_over : is_unfinished script (rounds count script run).core ≡ false = ends_are_known script after (rounds count script run).core at.stands ∙ over in
                  let drained : tokens_made script (token.Drain ∷ []) run ≡ rounds_made count script run =
                  ap (λ l. trace_of script l run) (append-nil (drain_steps (fuel_of script run.core) script run))
                  ∙ drain_told script run (λ n. drains_go_by_rounds script ms geometry valid tokens n) count is_over in
                  made_append script tokens (token.Drain ∷ []) (first_run script ms) ∙ ap (λ l. run_trace script ms tokens ++ l) drained ∙ now.by.traced rest;
            };
      }

  pub drains_tell : DrainsTell script
  drains_tell = record { begins = begins; next = next; fits = fits; ends = ends }

pub drains_of_valid_scripts_tell : DrainsOfValidScriptsTell
drains_of_valid_scripts_tell script geometry valid = drains_tell script geometry valid

-- A call that has committed, has placed its chunk or was answered: it stays so whatever memory is wanting, and doesn't end for want of it.
use Rattle.std.proofs.Common.{◌≡◌, ℕ, Bool, true, false, List, ◌∷◌, [], slice_get, None, Some, refl, sym, ap, ◌∙◌, subst}
use Rattle.std.specs.Bool.{⊤}
use Rattle.clay_grid.specs.Shape.{Shape}
use Rattle.store_map.specs.declared.actor.Actor.{Actor}
use Rattle.store_core.specs.Told.{Told}
use Rattle.store_core.specs.Act.{Act, ServerStep, Outcome}
use Rattle.store_core.specs.NextAct.{Job}
use Rattle.store_core.specs.Directory.{Pass, Directory}
use Rattle.store_core.specs.Lookups.{pass_of}
use Rattle.store_core.specs.PassSteps.{repaired}
use Rattle.store_core.specs.AtDirectory.{on_pass, unless_reaped}
use Rattle.store_core.specs.Step.{Places, at_server_there}
use Rattle.run_laws.specs.State.{State}
use Rattle.run_laws.specs.States.{settle_state, open_state, open_call}
use Rattle.run_laws.specs.StateActs.{act_at}
use Rattle.run_laws.specs.GatherAfter.{ending_after}
use Rattle.session_rules.specs.Alone.{AtWork}
use Rattle.session_rules.specs.Wants.{after_coding, wanting_by}

-- a reply of the map, or a chunk that was made anew
abbrev pub IsReplied : Outcome → Type 0
IsReplied (Outcome.Answered point reply) = ⊤
IsReplied Outcome.Rebuilt = ⊤
IsReplied _ = ⊥

-- the actor's pass, which wasn't reaped
pub record HasPass (who : Actor) (d : Directory) : Type 0 where
  pub pass : Pass
  pub is_pass : pass_of who d ≡ Some pass
  pub alive : pass.reaped ≡ None

-- the call has committed or was answered, or has placed its chunk, with what is known of the directory then
abbrev pub IsOverWith : (Directory → Type 0) → State → Directory → Type 0
IsOverWith Known (State.Settling point place places) d = ⊤
IsOverWith Known (State.Placing target epoch) d = Known d
IsOverWith Known (State.Finished outcome) d = IsReplied outcome
IsOverWith Known _ d = ⊥

-- so it is after the commit
pub committed_over : (Known : Directory → Type 0) (point : ℕ) (places : List (ℕ × ℕ)) (d : Directory) → IsOverWith Known (settle_state point places) d
committed_over Known point [] d = tt
committed_over Known point (place ∷ places) d = tt

settled_over : (Known : Directory → Type 0) (g : Shape) (point : ℕ) (places : List (ℕ × ℕ)) (d : Directory) → IsOverWith Known (open_state g (settle_state point places)) d
settled_over Known g point [] d = tt
settled_over Known g point (place ∷ places) d = tt

abbrev NotShort : Act → Type 0
NotShort (Act.Finish outcome) = IsReplied outcome
NotShort _ = ⊤

module _ (g : Shape) (tries : ℕ) (who : Actor) (number : ℕ) (Known : Directory → Type 0) (known : (d : Directory) → Known d → HasPass who d) (job : Job) where
  -- no coding comes before its next step
  pub coded_over : (wanting : Bool) (pairs : List (ℕ × ℕ)) (at : State) (d : Directory) → IsOverWith Known at d
      → after_coding g tries who number job wanting (record { pairs = pairs; at = at }) ≡ record { pairs = pairs; at = at }
  coded_over true pairs (State.Settling point place places) d ok = refl
  coded_over false pairs (State.Settling point place places) d ok = refl
  coded_over true pairs (State.Finished outcome) d ok = refl
  coded_over false pairs (State.Finished outcome) d ok = refl
  coded_over true pairs (State.Placing target epoch) d ok = refl
  coded_over false pairs (State.Placing target epoch) d ok = refl
  coded_over wanting pairs State.Start d ok = absurd ok
  coded_over wanting pairs (State.Parts part parts after) d ok = absurd ok
  coded_over wanting pairs (State.Chunk seen target) d ok = absurd ok
  coded_over wanting pairs (State.Gather aim asking parts after) d ok = absurd ok
  coded_over wanting pairs State.Drawing d ok = absurd ok
  coded_over wanting pairs (State.Preparing stripe version server servers row later placed versions) d ok = absurd ok
  coded_over wanting pairs (State.Committing versions placed) d ok = absurd ok
  coded_over wanting pairs (State.Committed versions) d ok = absurd ok
  coded_over wanting pairs (State.Confirming seen target) d ok = absurd ok
  coded_over wanting pairs (State.Installing seen target) d ok = absurd ok
  coded_over wanting pairs (State.Ending outcome) d ok = absurd ok

  abbrev pub StaysOver : AtWork → Type 0
  StaysOver w = IsOverWith Known w.call.at w.places.directory

  pub over_stays : (short : Bool) (pairs : List (ℕ × ℕ)) (at : State) (p : Places) → IsOverWith Known at p.directory →
      StaysOver (wanting_by g tries who number job short (act_at g tries job pairs at) (record { call = record { pairs = pairs; at = at }; places = p }))
  over_stays short pairs (State.Settling point place places) p ok =
      settled_over Known g point places (at_server_there short place.0 (ServerStep.Settle place.1) p (slice_get p.servers place.0)).0.directory
  over_stays short pairs (State.Placing target epoch) p own = by short
    where
      on : HasPass who p.directory
      on = known p.directory own

      is : on_pass (repaired target epoch) (pass_of who p.directory) p.directory ≡ repaired target epoch on.pass p.directory
      is = ap (λ f. on_pass (repaired target epoch) f p.directory) on.is_pass ∙ ap (λ reaped. unless_reaped (repaired target epoch) on.pass reaped p.directory) on.alive

      after : StaysOver (record {
        call = open_call g (record { pairs = pairs; at = ending_after Outcome.Rebuilt (on_pass (repaired target epoch) (pass_of who p.directory) p.directory).1 });
        places = record p { directory = (on_pass (repaired target epoch) (pass_of who p.directory) p.directory).0 };
      })
      after =
          subst (λ (r : Directory × Told). StaysOver (record { call = open_call g (record { pairs = pairs; at = ending_after Outcome.Rebuilt r.1 }); places = record p { directory = r.0 } }))
          (sym is) tt

      by : (short : Bool) →
          StaysOver (wanting_by g tries who number job short (act_at g tries job pairs (State.Placing target epoch)) (record { call = record { pairs = pairs; at = State.Placing target epoch }; places = p }))
      by true = after
      by false = after
  over_stays short pairs (State.Finished outcome) p ok = ok
  over_stays short pairs State.Start p ok = absurd ok
  over_stays short pairs (State.Parts part parts after) p ok = absurd ok
  over_stays short pairs (State.Chunk seen target) p ok = absurd ok
  over_stays short pairs (State.Gather aim asking parts after) p ok = absurd ok
  over_stays short pairs State.Drawing p ok = absurd ok
  over_stays short pairs (State.Preparing stripe version server servers row later placed versions) p ok = absurd ok
  over_stays short pairs (State.Committing versions placed) p ok = absurd ok
  over_stays short pairs (State.Committed versions) p ok = absurd ok
  over_stays short pairs (State.Confirming seen target) p ok = absurd ok
  over_stays short pairs (State.Installing seen target) p ok = absurd ok
  over_stays short pairs (State.Ending outcome) p ok = absurd ok

  -- it doesn't end for want of memory
  not_short : (pairs : List (ℕ × ℕ)) (at : State) (d : Directory) → IsOverWith Known at d → NotShort (act_at g tries job pairs at)
  not_short pairs (State.Settling point place places) d ok = tt
  not_short pairs (State.Finished outcome) d ok = ok
  not_short pairs (State.Placing target epoch) d ok = tt
  not_short pairs State.Start d ok = absurd ok
  not_short pairs (State.Parts part parts after) d ok = absurd ok
  not_short pairs (State.Chunk seen target) d ok = absurd ok
  not_short pairs (State.Gather aim asking parts after) d ok = absurd ok
  not_short pairs State.Drawing d ok = absurd ok
  not_short pairs (State.Preparing stripe version server servers row later placed versions) d ok = absurd ok
  not_short pairs (State.Committing versions placed) d ok = absurd ok
  not_short pairs (State.Committed versions) d ok = absurd ok
  not_short pairs (State.Confirming seen target) d ok = absurd ok
  not_short pairs (State.Installing seen target) d ok = absurd ok
  not_short pairs (State.Ending outcome) d ok = absurd ok

  pub over_replied : (pairs : List (ℕ × ℕ)) (at : State) (d : Directory) → IsOverWith Known at d → act_at g tries job pairs at ≡ Act.Finish Outcome.NoMemory → ⊥
  over_replied pairs at d over e = subst NotShort e (not_short pairs at d over)

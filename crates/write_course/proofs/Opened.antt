-- Nothing is to be opened in the states of a writing.
use Rattle.std.proofs.Common.{◌≡◌, ℕ, ◌+◌, Bool, true, false, cond, ltb, List, [], ◌∷◌, ◌++◌, refl}
use Rattle.std.specs.List.{range_with_len}
use Rattle.clay_grid.specs.Shape.{Shape, chunk_count}
use Rattle.store_map.specs.declared.placement.Placement.{Placement}
use Rattle.store_core.specs.Act.{Outcome}
use Rattle.store_core.specs.Placements.{skipped_from, skipped_count}
use Rattle.run_laws.specs.State.{State}
use Rattle.run_laws.specs.States.{prepare_state, prepare_all_state, settle_state, open_state}
use Rattle.run_laws.specs.WriteAfter.{unless_few, prepare_rest_state}

module _ (g : Shape) where
  -- a version's chunks at some servers, by what follows
  prepare_opens : (versions : List ℕ) (stripe version : ℕ) (later : List ℕ) (placed : List (List Placement)) (next : List Placement → State) (servers : List ℕ) (row : List Placement)
      → ((whole : List Placement) → open_state g (next whole) ≡ next whole)
      → open_state g (prepare_state versions stripe version later placed next servers row) ≡ prepare_state versions stripe version later placed next servers row
  prepare_opens versions stripe version later placed next [] row h = h row
  prepare_opens versions stripe version later placed next (server ∷ servers) row h = refl

  -- all versions
  pub prepare_all_opens : (versions : List ℕ) (stripe : ℕ) (later : List ℕ) (placed : List (List Placement))
      → open_state g (prepare_all_state g versions stripe later placed) ≡ prepare_all_state g versions stripe later placed
  prepare_all_opens versions stripe [] placed = refl
  prepare_all_opens versions stripe (version ∷ later) placed =
      prepare_opens versions stripe version later placed (λ row. prepare_all_state g versions (stripe + 1) later (placed ++ row ∷ [])) (range_with_len 0 (chunk_count g)) []
      (λ row. prepare_all_opens versions (stripe + 1) later (placed ++ row ∷ []))

  -- after an answer
  pub few_opens : (stripe version : ℕ) (servers : List ℕ) (row : List Placement) (later : List ℕ) (placed : List (List Placement)) (versions : List ℕ)
      → open_state g (unless_few g stripe row (prepare_rest_state g stripe version servers row later placed versions))
      ≡ unless_few g stripe row (prepare_rest_state g stripe version servers row later placed versions)
  few_opens stripe version servers row later placed versions = by (ltb g.parity_count (skipped_count row))
    where
      by : (b : Bool)
          → open_state g (cond b (State.Ending (Outcome.Unavailable stripe (skipped_from 0 row))) (prepare_rest_state g stripe version servers row later placed versions))
          ≡ cond b (State.Ending (Outcome.Unavailable stripe (skipped_from 0 row))) (prepare_rest_state g stripe version servers row later placed versions)
      by true = refl
      by false =
          prepare_opens versions stripe version later placed (λ whole. prepare_all_state g versions (stripe + 1) later (placed ++ whole ∷ [])) servers row
          (λ whole. prepare_all_opens versions (stripe + 1) later (placed ++ whole ∷ []))

  -- a settle
  pub settle_opens : (point : ℕ) (places : List (ℕ × ℕ)) → open_state g (settle_state point places) ≡ settle_state point places
  settle_opens point [] = refl
  settle_opens point (place ∷ places) = refl

-- How a writing goes from state to state.
use Rattle.std.proofs.Common.{◌≡◌, ℕ, ◌+◌, ◌-◌, ◌<◌, ◌≤◌, suc, Bool, true, false, cond, ltb, List, [], ◌∷◌, ◌++◌, length, get_or, drop, map, None, Some, refl, ap, sym, ◌∙◌, arith}
use Rattle.std.specs.List.{range_with_len}
use Rattle.std.proofs.lemmas.List.{drop_more, drop_all, length_push}
use Rattle.std.proofs.lemmas.Bool.{ltb-true, ltb-false}
use Rattle.clay_grid.specs.Shape.{Shape, chunk_count}
use Rattle.store_map.specs.declared.placement.Placement.{Placement}
use Rattle.store_core.specs.Lists.{places_of}
use Rattle.store_core.specs.Placements.{skipped_from, skipped_count}
use Rattle.store_core.specs.Told.{Told}
use Rattle.store_core.specs.Act.{ServerStep, Outcome}
use Rattle.store_core.specs.Server.{Server, at_server}
use Rattle.run_laws.specs.State.{State}
use Rattle.run_laws.specs.States.{prepare_state, prepare_all_state, settle_state}
use Rattle.run_laws.specs.WriteAfter.{preparing_after, prepare_rest_state}
use Rattle.write_course.specs.Chunks.{PlacingOf, with_placement}
use Rattle.write_course.specs.States.{Prepared, Settled, prepares_or_commits, settles_or_is_done, servers_from, places_from, state_by, placed_on}
use Rattle.write_course.specs.WritingSteps.{stepped}
use Rattle.write_course.specs.declared.writing_stage.WritingStage.{WritingStage}
use Rattle.write_course.specs.declared.writing_stage.WritingStage.TheVariants as doing

module _ (g : Shape) where
  -- the servers from one on begin with it
  servers_more : (server : ℕ) → server < chunk_count g → servers_from g server ≡ server ∷ servers_from g (server + 1)
  servers_more server h =
      let e : chunk_count g - server ≡ suc (chunk_count g - (server + 1)) = omega arith in
      ap (λ n. range_with_len server n) e

  -- after the last there is none
  servers_none : (server : ℕ) → chunk_count g ≤ server → servers_from g server ≡ []
  servers_none server h =
      let e : chunk_count g - server ≡ 0 = omega arith in
      ap (λ n. range_with_len server n) e

  -- all servers
  all_servers : 0 < chunk_count g → range_with_len 0 (chunk_count g) ≡ 0 ∷ servers_from g 1
  all_servers h =
      let e : chunk_count g ≡ suc (chunk_count g - 1) = omega arith in
      ap (λ n. range_with_len 0 n) e

  module _ (first : ℕ) (versions : List ℕ) (some : 0 < chunk_count g) where
    -- a version that is begun, or the commit after the last one
    pub begins : (rows : List (List Placement)) (s : Settled)
        → state_by (prepares_or_commits (length rows) (length versions)) g first versions (record { rows = rows; work = None }) s
        ≡ prepare_all_state g versions (first + length rows) (drop (length rows) versions) rows
    begins rows s = by (ltb (length rows) (length versions)) refl
      where
        by : (b : Bool) → ltb (length rows) (length versions) ≡ b
            → state_by (cond b doing.Preparing doing.Committing) g first versions (record { rows = rows; work = None }) s
            ≡ prepare_all_state g versions (first + length rows) (drop (length rows) versions) rows
        by true e =
            let more : length rows < length versions = ltb-true (length rows) (length versions) e in
            sym
            (ap (λ left. prepare_all_state g versions (first + length rows) left rows) (drop_more versions (length rows) 0 more)
            ∙ ap (λ servers. prepare_state versions (first + length rows) (get_or versions (length rows) 0) (drop (length rows + 1) versions) rows
            (λ row. prepare_all_state g versions (first + length rows + 1) (drop (length rows + 1) versions) (rows ++ row ∷ [])) servers [])
            (all_servers some))
        by false e =
            let past : length versions ≤ length rows = ltb-false (length rows) (length versions) e in
            sym (ap (λ left. prepare_all_state g versions (first + length rows) left rows) (drop_all (length rows) versions past))

    -- a server more has answered
    pub goes_on : (rows : List (List Placement)) (stripe : PlacingOf) (next : Placement) (s : Settled) → length stripe.row < chunk_count g
        → state_by (placed_on g (length versions) rows (with_placement stripe next)).0 g first versions (placed_on g (length versions) rows (with_placement stripe next)).1 s
        ≡ preparing_after g (first + length rows) (get_or versions (length rows) 0) (servers_from g (length stripe.row + 1)) stripe.row (drop (length rows + 1) versions) rows versions (Told.Prepared next)
    goes_on rows stripe next s left = many (ltb g.parity_count (skipped_count (stripe.row ++ next ∷ [])))
      where
        more : (c : Bool) → ltb (length (stripe.row ++ next ∷ [])) (chunk_count g) ≡ c
            → state_by (cond {A = WritingStage × Prepared} c (doing.Preparing, record { rows = rows; work = Some (with_placement stripe next) }) (prepares_or_commits (length rows + 1) (length versions), record { rows = rows ++ (stripe.row ++ next ∷ []) ∷ []; work = None })).0 g first versions
            (cond {A = WritingStage × Prepared} c (doing.Preparing, record { rows = rows; work = Some (with_placement stripe next) }) (prepares_or_commits (length rows + 1) (length versions), record { rows = rows ++ (stripe.row ++ next ∷ []) ∷ []; work = None })).1 s
            ≡ prepare_rest_state g (first + length rows) (get_or versions (length rows) 0) (servers_from g (length stripe.row + 1)) (stripe.row ++ next ∷ []) (drop (length rows + 1) versions) rows versions
        more true e =
            let one : length (stripe.row ++ next ∷ []) ≡ length stripe.row + 1 = length_push stripe.row next in
            let there : length (stripe.row ++ next ∷ []) < chunk_count g = ltb-true _ _ e in
            let server : length stripe.row + 1 < chunk_count g = omega arith in
            ap (λ n. State.Preparing (first + length rows) (get_or versions (length rows) 0) n (servers_from g (n + 1)) (stripe.row ++ next ∷ []) (drop (length rows + 1) versions) rows versions) one
            ∙ sym (ap (λ servers. prepare_rest_state g (first + length rows) (get_or versions (length rows) 0) servers (stripe.row ++ next ∷ []) (drop (length rows + 1) versions) rows versions) (servers_more (length stripe.row + 1) server))
        more false e =
            let one : length (stripe.row ++ next ∷ []) ≡ length stripe.row + 1 = length_push stripe.row next in
            let past : chunk_count g ≤ length (stripe.row ++ next ∷ []) = ltb-false _ _ e in
            let none : chunk_count g ≤ length stripe.row + 1 = omega arith in
            let count : length (rows ++ (stripe.row ++ next ∷ []) ∷ []) ≡ length rows + 1 = length_push rows (stripe.row ++ next ∷ []) in
            let sum : first + (length rows + 1) ≡ first + length rows + 1 = omega arith in
            ap (λ n. state_by (prepares_or_commits n (length versions)) g first versions (record { rows = rows ++ (stripe.row ++ next ∷ []) ∷ []; work = None }) s) (sym count)
            ∙ begins (rows ++ (stripe.row ++ next ∷ []) ∷ []) s
            ∙ ap (λ n. prepare_all_state g versions (first + n) (drop n versions) (rows ++ (stripe.row ++ next ∷ []) ∷ [])) count
            ∙ ap (λ n. prepare_all_state g versions n (drop (length rows + 1) versions) (rows ++ (stripe.row ++ next ∷ []) ∷ [])) sum
            ∙ sym (ap (λ servers. prepare_rest_state g (first + length rows) (get_or versions (length rows) 0) servers (stripe.row ++ next ∷ []) (drop (length rows + 1) versions) rows versions) (servers_none (length stripe.row + 1) none))

        many : (b : Bool)
            → state_by (cond {A = WritingStage × Prepared} b (doing.TooManyAway, record { rows = rows; work = Some (with_placement stripe next) }) (cond (ltb (length (stripe.row ++ next ∷ [])) (chunk_count g)) (doing.Preparing, record { rows = rows; work = Some (with_placement stripe next) }) (prepares_or_commits (length rows + 1) (length versions), record { rows = rows ++ (stripe.row ++ next ∷ []) ∷ []; work = None }))).0 g first versions
            (cond {A = WritingStage × Prepared} b (doing.TooManyAway, record { rows = rows; work = Some (with_placement stripe next) }) (cond (ltb (length (stripe.row ++ next ∷ [])) (chunk_count g)) (doing.Preparing, record { rows = rows; work = Some (with_placement stripe next) }) (prepares_or_commits (length rows + 1) (length versions), record { rows = rows ++ (stripe.row ++ next ∷ []) ∷ []; work = None }))).1 s
            ≡ cond b (State.Ending (Outcome.Unavailable (first + length rows) (skipped_from 0 (stripe.row ++ next ∷ []))))
            (prepare_rest_state g (first + length rows) (get_or versions (length rows) 0) (servers_from g (length stripe.row + 1)) (stripe.row ++ next ∷ []) (drop (length rows + 1) versions) rows versions)
        many true = refl
        many false = more (ltb (length (stripe.row ++ next ∷ [])) (chunk_count g)) refl

    -- a version whose chunks are settled next, or the end after the last one
    pub settles : (p : Prepared) (point at : ℕ)
        → state_by (settles_or_is_done at (length versions)) g first versions p (record { point = point; at = at; server = 0 })
        ≡ settle_state point (places_of (chunk_count g) (drop at versions))
    settles p point at = by (ltb at (length versions)) refl
      where
        by : (b : Bool) → ltb at (length versions) ≡ b
            → state_by (cond b doing.Settling doing.Done) g first versions p (record { point = point; at = at; server = 0 })
            ≡ settle_state point (places_of (chunk_count g) (drop at versions))
        by true e =
            let more : at < length versions = ltb-true at (length versions) e in
            sym
            (ap (λ left. settle_state point (places_of (chunk_count g) left)) (drop_more versions at 0 more)
            ∙ ap (λ servers. settle_state point (map (λ server. (server, get_or versions at 0)) servers ++ places_of (chunk_count g) (drop (at + 1) versions))) (all_servers some))
        by false e =
            let past : length versions ≤ at = ltb-false at (length versions) e in
            sym (ap (λ left. settle_state point (places_of (chunk_count g) left)) (drop_all at versions past))

    -- the next server
    pub settles_more : (point at server : ℕ) → server < chunk_count g
        → State.Settling point (server, get_or versions at 0) (places_from g versions at (server + 1)) ≡ settle_state point (places_from g versions at server)
    settles_more point at server h =
        sym (ap (λ servers. settle_state point (map (λ other. (other, get_or versions at 0)) servers ++ places_of (chunk_count g) (drop (at + 1) versions))) (servers_more server h))

    -- after the last one the next version
    pub settles_next : (p : Prepared) (point at server : ℕ) → chunk_count g ≤ server
        → state_by (settles_or_is_done (at + 1) (length versions)) g first versions p (record { point = point; at = at + 1; server = 0 })
        ≡ settle_state point (places_from g versions at server)
    settles_next p point at server h =
        settles p point (at + 1)
        ∙ sym (ap (λ servers. settle_state point (map (λ other. (other, get_or versions at 0)) servers ++ places_of (chunk_count g) (drop (at + 1) versions))) (servers_none server h))

  -- the step at a server whose chunk is settled
  pub settle_steps : (before after : Server) (old new : State) (point server version : ℕ) (places : List (ℕ × ℕ))
      → old ≡ State.Settling point (server, version) places → (after, Told.Settled) ≡ at_server false (ServerStep.Settle version) before
      → new ≡ settle_state point places → (after, new) ≡ stepped g false before old
  settle_steps before after old new point server version places is step next =
      let e : (after, new) ≡ ((at_server false (ServerStep.Settle version) before).0, settle_state point places) = λ i. ((step i).0, next i) in
      e ∙ ap (λ at. stepped g false before at) (sym is)

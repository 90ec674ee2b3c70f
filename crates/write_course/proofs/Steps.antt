-- The steps of a writing at servers.
use Rattle.std.proofs.Common.{◌≡◌, ℕ, ◌+◌, ◌<◌, ◌≤◌, true, false, List, length, get_or, drop, IfSome, Some, vec_capacity, refl, ap, subst, sym, ◌∙◌, arith}
use Rattle.std.proofs.lemmas.List.{length-map}
use Rattle.std.proofs.lemmas.Option.{slice_get-map, get_or_from_slice_get}
use Rattle.std.specs.Option.{option_map}
use Rattle.std.specs.List.{All, slice_get}
use Rattle.clay_grid.specs.Shape.{Shape, chunk_count}
use Rattle.store_map.specs.declared.placement.Placement.{Placement}
use Rattle.store_map.specs.declared.actor.Point.{Point}
use Rattle.store_core.specs.Lists.{places_of}
use Rattle.store_core.specs.Placements.{IsRow}
use Rattle.store_core.specs.Told.{Told}
use Rattle.store_core.specs.Act.{ServerStep}
use Rattle.store_core.specs.Server.{Server, at_server}
use Rattle.run_laws.specs.State.{State}
use Rattle.run_laws.specs.States.{settle_state}
use Rattle.run_laws.specs.WriteAfter.{preparing_after}
use Rattle.version_seal.specs.Entry.{StampOf}
use Rattle.write_course.specs.Chunks.{PlacingOf, new_placing, with_placement, IsAfterPrepare}
use Rattle.write_course.specs.States.{Prepared, settles_or_is_done, servers_from, places_from, row_in, state_by, placed_on}
use Rattle.write_course.specs.Writings.{WritingOf, versions_of, is_preparing, is_settling}
use Rattle.write_course.specs.WritingSteps.{stepped, IsDoing}
use Rattle.write_course.specs.Inside.{prepared_in, settled_in, writing_in, due_by, IsAtWork, IsPreparing, IsSettling, Keeps, IsWriting}
use Rattle.write_course.specs.declared.writing_stage.WritingStage.{WritingStage}
use Rattle.write_course.specs.declared.writing_stage.WritingStage.TheVariants as doing
use Rattle.write_course.specs.declared.writing.Writing.TheInside.{Inside}
use Rattle.write_course.proofs.Kept.{prepares, is_settled, nothing_due, due_prepares, settles_undue, placed_kept, placed_whole}
use Rattle.write_course.proofs.Transitions.{goes_on, settles, settles_more, settles_next, settle_steps}

-- the step at a server that is to keep a chunk
prepare_steps : (g : Shape) (before after : Server) (old new : State) (stripe version server : ℕ) (servers : List ℕ) (row : List Placement) (later : List ℕ) (placed : List (List Placement)) (versions : List ℕ) (next : Placement)
    → old ≡ State.Preparing stripe version server servers row later placed versions
    → (after, Told.Prepared next) ≡ at_server false (ServerStep.Prepare version) before
    → new ≡ preparing_after g stripe version servers row later placed versions (Told.Prepared next)
    → (after, new) ≡ stepped g false before old
prepare_steps g before after old new stripe version server servers row later placed versions next is step goes =
    let told : (after, new) ≡ (after, preparing_after g stripe version servers row later placed versions (Told.Prepared next)) = λ i. (after, goes i) in
    let made : (after, preparing_after g stripe version servers row later placed versions (Told.Prepared next)) ≡ stepped g false before (State.Preparing stripe version server servers row later placed versions)
    = λ i. ((step i).0, preparing_after g stripe version servers row later placed versions (step i).1) in
    told ∙ made ∙ ap (λ at. stepped g false before at) (sym is)

module _ (a : Inside) (kept : IsWriting a) (old : WritingOf) (view : writing_in a ≡ old) where
  -- what is done
  preparing_is : is_preparing old.state ≡ true → a.doing ≡ doing.Preparing
  preparing_is e = prepares a.opening.geometry a.first (versions_of a.stamps.items) (prepared_in a) (settled_in a) a.doing (ap (λ (w : WritingOf). is_preparing w.state) view ∙ e)

  settling_is : is_settling old.state ≡ true → a.doing ≡ doing.Settling
  settling_is e = is_settled a.opening.geometry a.first (versions_of a.stamps.items) (prepared_in a) (settled_in a) a.doing (ap (λ (w : WritingOf). is_settling w.state) view ∙ e)

  -- what is kept while chunks are prepared
  pub keeps_preparing : is_preparing old.state ≡ true → IsPreparing a.opening.geometry a.stamps.items (vec_capacity a.rows) (prepared_in a)
  keeps_preparing e =
      subst (λ d. Keeps d a.opening.geometry a.stamps.items (vec_capacity a.rows) (prepared_in a) (settled_in a)) (preparing_is e) kept.kept

  -- and of the version at work
  pub keeps_at_work : is_preparing old.state ≡ true → (stripe : PlacingOf) → a.work ≡ Some stripe
      → IsAtWork a.opening.geometry a.stamps.items (prepared_in a).rows (vec_capacity a.rows) stripe
  keeps_at_work e stripe is =
      subst (λ work. IfSome work (λ stripe. IsAtWork a.opening.geometry a.stamps.items (prepared_in a).rows (vec_capacity a.rows) stripe)) is (keeps_preparing e).working

  -- while they are settled
  pub keeps_settling : is_settling old.state ≡ true → IsSettling a.opening.geometry a.stamps.items (settled_in a)
  keeps_settling e =
      subst (λ d. Keeps d a.opening.geometry a.stamps.items (vec_capacity a.rows) (prepared_in a) (settled_in a)) (settling_is e) kept.kept

  -- a chunk was prepared
  pub prepare_core : is_preparing old.state ≡ true → (stripe : PlacingOf) → a.work ≡ Some stripe
      → (before after : Server) (next : PlacingOf) → IsAfterPrepare stripe before after next
      → (now : WritingStage × Prepared) → now ≡ placed_on a.opening.geometry (length a.stamps.items) (prepared_in a).rows next
      → (after, state_by now.0 a.opening.geometry a.first (versions_of a.stamps.items) now.1 (settled_in a)) ≡ stepped old.book.geometry false before old.state
  prepare_core e stripe is before after next prepared now goes =
      let g : Shape = a.opening.geometry in
      let versions : List ℕ = versions_of a.stamps.items in
      let rows : List (List Placement) = (prepared_in a).rows in
      let at_work : IsAtWork a.opening.geometry a.stamps.items (prepared_in a).rows (vec_capacity a.rows) stripe = keeps_at_work e stripe is in
      let count : length a.stamps.items ≡ length (versions_of a.stamps.items) = sym (length-map a.stamps.items (λ stamp. stamp.version)) in
      let own : stripe.stamp.version ≡ get_or (versions_of a.stamps.items) (length (prepared_in a).rows) 0
      = sym (get_or_from_slice_get (versions_of a.stamps.items) (length (prepared_in a).rows) stripe.stamp.version 0
      (slice_get-map (λ (stamp : StampOf). stamp.version) a.stamps.items (length (prepared_in a).rows) ∙ ap (option_map (λ (stamp : StampOf). stamp.version)) at_work.own)) in
      let was : old.state ≡ State.Preparing (a.first + length rows) (get_or versions (length rows) 0) (length stripe.row) (servers_from g (length stripe.row + 1)) stripe.row (drop (length rows + 1) versions) rows versions
      = sym (ap (λ (w : WritingOf). w.state) view)
      ∙ ap (λ d. state_by d a.opening.geometry a.first (versions_of a.stamps.items) (prepared_in a) (settled_in a)) (preparing_is e)
      ∙ ap (λ work. State.Preparing (a.first + length rows) (get_or versions (length rows) 0) (length (row_in work)) (servers_from g (length (row_in work) + 1)) (row_in work) (drop (length rows + 1) versions) rows versions) is in
      let now_is : now ≡ placed_on g (length versions) rows (with_placement stripe prepared.placement)
      = goes ∙ (λ i. placed_on a.opening.geometry (count i) (prepared_in a).rows (prepared.noted i)) in
      let new : state_by now.0 g a.first versions now.1 (settled_in a)
      ≡ preparing_after g (a.first + length rows) (get_or versions (length rows) 0) (servers_from g (length stripe.row + 1)) stripe.row (drop (length rows + 1) versions) rows versions (Told.Prepared prepared.placement)
      = ap (λ (now : WritingStage × Prepared). state_by now.0 a.opening.geometry a.first (versions_of a.stamps.items) now.1 (settled_in a)) now_is
      ∙ goes_on g a.first versions kept.servers rows stripe prepared.placement (settled_in a) at_work.left in
      let step : (after, Told.Prepared prepared.placement) ≡ at_server false (ServerStep.Prepare (get_or versions (length rows) 0)) before
      = prepared.step ∙ ap (λ v. at_server false (ServerStep.Prepare v) before) own in
      prepare_steps g before after old.state (state_by now.0 g a.first versions now.1 (settled_in a)) (a.first + length rows) (get_or versions (length rows) 0) (length stripe.row) (servers_from g (length stripe.row + 1)) stripe.row (drop (length rows + 1) versions) rows versions prepared.placement was step new
      ∙ ap (λ (w : WritingOf). stepped w.book.geometry false before old.state) view

  -- a chunk was settled; what is done then leads on
  settle_core : is_settling old.state ≡ true → (before after : Server) (version : ℕ) (new : State) → version ≡ get_or (versions_of a.stamps.items) a.at 0
      → (after, Told.Settled) ≡ at_server false (ServerStep.Settle version) before
      → new ≡ settle_state a.point.0 (places_from a.opening.geometry (versions_of a.stamps.items) a.at (a.server + 1))
      → (after, new) ≡ stepped old.book.geometry false before old.state
  settle_core e before after version new own step goes =
      let was : old.state ≡ State.Settling a.point.0 (a.server, get_or (versions_of a.stamps.items) a.at 0) (places_from a.opening.geometry (versions_of a.stamps.items) a.at (a.server + 1))
      = sym (ap (λ (w : WritingOf). w.state) view)
      ∙ ap (λ d. state_by d a.opening.geometry a.first (versions_of a.stamps.items) (prepared_in a) (settled_in a)) (settling_is e) in
      settle_steps a.opening.geometry before after old.state new a.point.0 a.server (get_or (versions_of a.stamps.items) a.at 0) (places_from a.opening.geometry (versions_of a.stamps.items) a.at (a.server + 1))
      was (step ∙ ap (λ v. at_server false (ServerStep.Settle v) before) own) goes
      ∙ ap (λ (w : WritingOf). stepped w.book.geometry false before old.state) view

  -- at the next server
  pub settle_more : (e : is_settling old.state ≡ true) (before after : Server) (version : ℕ) → version ≡ get_or (versions_of a.stamps.items) a.at 0
      → (after, Told.Settled) ≡ at_server false (ServerStep.Settle version) before → a.server + 1 < chunk_count a.opening.geometry
      → (after, state_by a.doing a.opening.geometry a.first (versions_of a.stamps.items) (prepared_in a) (record { point = a.point.0; at = a.at; server = a.server + 1 }))
      ≡ stepped old.book.geometry false before old.state
  settle_more e before after version own step left =
      settle_core e before after version _ own step
      (ap (λ d. state_by d a.opening.geometry a.first (versions_of a.stamps.items) (prepared_in a) (record { point = a.point.0; at = a.at; server = a.server + 1 })) (settling_is e)
      ∙ settles_more a.opening.geometry a.first (versions_of a.stamps.items) kept.servers a.point.0 a.at (a.server + 1) left)

  -- after the last one
  pub settle_next : is_settling old.state ≡ true → (before after : Server) (version : ℕ) (now : WritingStage) → version ≡ get_or (versions_of a.stamps.items) a.at 0
      → (after, Told.Settled) ≡ at_server false (ServerStep.Settle version) before → chunk_count a.opening.geometry ≤ a.server + 1
      → now ≡ settles_or_is_done (a.at + 1) (length a.stamps.items)
      → (after, state_by now a.opening.geometry a.first (versions_of a.stamps.items) (prepared_in a) (record { point = a.point.0; at = a.at + 1; server = 0 }))
      ≡ stepped old.book.geometry false before old.state
  settle_next e before after version now own step past is =
      let count : length a.stamps.items ≡ length (versions_of a.stamps.items) = sym (length-map a.stamps.items (λ stamp. stamp.version)) in
      settle_core e before after version _ own step
      (ap (λ d. state_by d a.opening.geometry a.first (versions_of a.stamps.items) (prepared_in a) (record { point = a.point.0; at = a.at + 1; server = 0 })) (is ∙ ap (settles_or_is_done (a.at + 1)) count)
      ∙ settles_next a.opening.geometry a.first (versions_of a.stamps.items) kept.servers (prepared_in a) a.point.0 a.at (a.server + 1) past)

  -- the commit's point has come
  pub committed_core : IsDoing doing.Committed old → (point : Point) (now : WritingStage) → now ≡ settles_or_is_done 0 (length a.stamps.items)
      → writing_in (record a { doing = now; point = point; at = 0; server = 0 })
      ≡ record old { state = settle_state point.0 (places_of (chunk_count old.book.geometry) (versions_of old.stamps)) }
  committed_core e point now is =
      let count : length a.stamps.items ≡ length (versions_of a.stamps.items) = sym (length-map a.stamps.items (λ stamp. stamp.version)) in
      let awaited : state_by a.doing a.opening.geometry a.first (versions_of a.stamps.items) (prepared_in a) (settled_in a) ≡ State.Committed (versions_of a.stamps.items)
      = ap (λ (w : WritingOf). w.state) view ∙ e ∙ sym (ap (λ (w : WritingOf). State.Committed (versions_of w.stamps)) view) in
      let state : state_by now a.opening.geometry a.first (versions_of a.stamps.items) (prepared_in a) (record { point = point.0; at = 0; server = 0 })
      ≡ settle_state point.0 (places_of (chunk_count a.opening.geometry) (versions_of a.stamps.items))
      = ap (λ d. state_by d a.opening.geometry a.first (versions_of a.stamps.items) (prepared_in a) (record { point = point.0; at = 0; server = 0 })) (is ∙ ap (settles_or_is_done 0) count)
      ∙ settles a.opening.geometry a.first (versions_of a.stamps.items) kept.servers (prepared_in a) point.0 0 in
      let undue : due_by now a.work ≡ due_by a.doing a.work
      = ap (λ d. due_by d a.work) is ∙ settles_undue 0 (length a.stamps.items) a.work
      ∙ sym (nothing_due a.opening.geometry a.first (versions_of a.stamps.items) (prepared_in a) (settled_in a) a.doing a.work awaited) in
      let inside : writing_in (record a { doing = now; point = point; at = 0; server = 0 })
      ≡ record (writing_in a) { state = settle_state point.0 (places_of (chunk_count a.opening.geometry) (versions_of a.stamps.items)) }
      = λ i. record { book = a.opening; first = a.first; stamps = a.stamps.items; state = state i; due = undue i } in
      inside ∙ ap (λ (w : WritingOf). record w { state = settle_state point.0 (places_of (chunk_count w.book.geometry) (versions_of w.stamps)) }) view

  -- a chunk was prepared: what is kept then
  pub prepared_kept : is_preparing old.state ≡ true → (stripe : PlacingOf) → a.work ≡ Some stripe
      → (before after : Server) (next : PlacingOf) → IsAfterPrepare stripe before after next
      → (now : WritingStage × Prepared) → now ≡ placed_on a.opening.geometry (length a.stamps.items) (prepared_in a).rows next
      → All (IsRow a.opening.geometry) now.1.rows × Keeps now.0 a.opening.geometry a.stamps.items (vec_capacity a.rows) now.1 (settled_in a)
  prepared_kept e stripe is before after next prepared now goes =
      let at_work : IsAtWork a.opening.geometry a.stamps.items (prepared_in a).rows (vec_capacity a.rows) stripe = keeps_at_work e stripe is in
      let now_is : placed_on a.opening.geometry (length a.stamps.items) (prepared_in a).rows (with_placement stripe prepared.placement) ≡ now
      = sym (goes ∙ ap (λ (stripe : PlacingOf). placed_on a.opening.geometry (length a.stamps.items) (prepared_in a).rows stripe) prepared.noted) in (
        subst (λ (now : WritingStage × Prepared). All (IsRow a.opening.geometry) now.1.rows) now_is
            (placed_whole a.opening.geometry a.stamps.items (vec_capacity a.rows) (settled_in a) (prepared_in a).rows stripe prepared.placement (length a.stamps.items) at_work.left kept.whole),
        subst (λ (now : WritingStage × Prepared). Keeps now.0 a.opening.geometry a.stamps.items (vec_capacity a.rows) now.1 (settled_in a)) now_is
            (placed_kept a.opening.geometry a.stamps.items (vec_capacity a.rows) (settled_in a) (prepared_in a).rows stripe prepared.placement (length a.stamps.items) refl (keeps_preparing e).more at_work),
      )

  -- the chunks of the version at work are to be made
  due_is : old.due ≡ true → a.doing ≡ doing.Preparing
  due_is e = due_prepares a.doing a.work (ap (λ (w : WritingOf). w.due) view ∙ e)

  pub keeps_due : old.due ≡ true → IsPreparing a.opening.geometry a.stamps.items (vec_capacity a.rows) (prepared_in a)
  keeps_due e =
      subst (λ d. Keeps d a.opening.geometry a.stamps.items (vec_capacity a.rows) (prepared_in a) (settled_in a)) (due_is e) kept.kept

  -- they were made
  pub encoded_kept : old.due ≡ true → (rows : List (List Placement)) (room : ℕ) (stripe : PlacingOf) (stamp : StampOf) → rows ≡ (prepared_in a).rows → length rows < room
      → stripe ≡ new_placing a.opening.geometry stamp → slice_get a.stamps.items (length rows) ≡ Some stamp
      → Keeps a.doing a.opening.geometry a.stamps.items room (record { rows = rows; work = Some stripe }) (settled_in a)
  encoded_kept e rows room stripe stamp same left is own =
      let more : length rows < length a.stamps.items = subst (λ (rows : List (List Placement)). length rows < length a.stamps.items) (sym same) (keeps_due e).more in
      let servers : 0 < chunk_count a.opening.geometry = kept.servers in
      let begun : IsAtWork a.opening.geometry a.stamps.items rows room (new_placing a.opening.geometry stamp)
      = record { code = refl; own = own; left = servers; few = omega arith; room_left = left } in
      subst (λ d. Keeps d a.opening.geometry a.stamps.items room (record { rows = rows; work = Some stripe }) (settled_in a)) (sym (due_is e))
      (record { more = more; working = subst (IsAtWork a.opening.geometry a.stamps.items rows room) (sym is) begun })

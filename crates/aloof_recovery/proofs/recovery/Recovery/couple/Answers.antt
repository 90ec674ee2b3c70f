use Rattle.std.proofs.Common.{ℕ, ◌<◌, false, map, get_or, All, IfSome, sym, subst, ap, ◌∙◌}
use Rattle.std.specs.Option.{option_map}
use Rattle.clay_grid.specs.Shape.{node_count, layer_count, chunk_length}
use Rattle.lane_repair.specs.Views.{piece_around, StandsAround}
use Rattle.clay_aloof.specs.Shape.{grid_of}
use Rattle.clay_aloof.specs.Known.{node_bytes, shown_bytes, IsKnown}
use Rattle.clay_aloof.specs.Solved.{IsPlan, IsIn, AreSolved, HoldsSubchunks}
use Rattle.aloof_recovery.specs.Recoveries.{AreChunks, others_around, told_by}
use Rattle.clay_aloof.proofs.Nodes.{node_inside}
use Rattle.aloof_recovery.proofs.Recovering.{gone_chunk}
use Rattle.aloof_recovery.proofs.recovery.Recovery.couple.Goals as goal

pub known_chunks-known-requires-clause-chunks : goal.known_chunks-known-requires-clause-chunks
known_chunks-known-requires-clause-chunks c =
    let r = c.args.self.now in
    subst (λ n. AreChunks r.g (map (option_map (piece_around c.args.before.now c.args.after.now n)) r.starts.now)) (sym c.chunk_len.ensures.value) c.requires.chunks

pub known_chunks-known-requires-clause-room : goal.known_chunks-known-requires-clause-room
known_chunks-known-requires-clause-room c =
    let r = c.args.self.now in
    subst (λ n. All (λ o. IfSome o (StandsAround c.args.before.now c.args.after.now n)) r.starts.now) (sym c.chunk_len.ensures.value) c.requires.room

pub couple_chunk-requires-clause-plan : goal.couple_chunk-requires-clause-plan
couple_chunk-requires-clause-plan c = subst (λ s. IsPlan s c.args.self.now.plan.now) (sym c.grid-grid.ensures.value) c.requires.recovery.plan.sound

pub couple_chunk-requires-clause-all : goal.couple_chunk-requires-clause-all
couple_chunk-requires-clause-all c =
    subst (λ s. (n : ℕ) → n < layer_count s → IsIn c.args.self.now.plan.now.layers.items n) (sym c.grid-grid.ensures.value) c.requires.recovery.plan.all

pub couple_chunk-requires-clause-known : goal.couple_chunk-requires-clause-known
couple_chunk-requires-clause-known c = subst (λ s. IsKnown s c.known_chunks-known.result) (sym c.grid-grid.ensures.value) c.known_chunks-known.ensures.known

pub couple_chunk-requires-clause-solved : goal.couple_chunk-requires-clause-solved
couple_chunk-requires-clause-solved c =
    let r = c.args.self.now in
    let known = c.known_chunks-known.result in
    let is = c.known_chunks-known.ensures.bytes
    ∙ ap (λ n. shown_bytes (grid_of r.g) (map (option_map (piece_around c.args.before.now c.args.after.now n)) r.starts.now) r.tables.now) c.chunk_len.ensures.value in
    subst (λ s. AreSolved s r.plan.now (node_bytes s known) c.args.solved.now) (sym c.grid-grid.ensures.value)
    (subst (λ l. AreSolved (grid_of r.g) r.plan.now l c.args.solved.now) (sym is) c.requires.solved)

pub couple_chunk-requires-clause-node : goal.couple_chunk-requires-clause-node
couple_chunk-requires-clause-node c =
    let r = c.args.self.now in
    subst (λ s. c.node_of_chunk-node.result < node_count s) (sym c.grid-grid.ensures.value)
    (subst (λ i. i < node_count (grid_of r.g)) (sym c.node_of_chunk-node.ensures.value) (node_inside r.g c.args.c c.requires.recovery.plan.aloof c.requires.number))

pub couple_chunk-requires-clause-erased : goal.couple_chunk-requires-clause-erased
couple_chunk-requires-clause-erased c =
    let r = c.args.self.now in
    let plan = c.requires.recovery.plan in
    ap (λ i. get_or r.plan.now.erased.items i false) c.node_of_chunk-node.ensures.value
    ∙ gone_chunk r.g r.missing.now r.plan.now.erased.items c.args.c plan.aloof plan.erased_are c.requires.number
    ∙ c.requires.missing

pub couple_chunk-requires-clause-chunk_len : goal.couple_chunk-requires-clause-chunk_len
couple_chunk-requires-clause-chunk_len c = c.requires.chunk_len ∙ sym (ap chunk_length c.grid-grid.ensures.value)

pub returns : goal.returns
returns c =
    let r = c.args.self.now in
    let known = c.known_chunks-known.result in
    let out = c.couple_chunk.new.chunk in
    let is = c.known_chunks-known.ensures.bytes
    ∙ ap (λ n. shown_bytes (grid_of r.g) (map (option_map (piece_around c.args.before.now c.args.after.now n)) r.starts.now) r.tables.now) c.chunk_len.ensures.value in
    subst (λ i. HoldsSubchunks (grid_of r.g) r.plan.now (told_by r (others_around r c.args.before.now c.args.after.now)) i (layer_count (grid_of r.g)) out) c.node_of_chunk-node.ensures.value
    (subst (λ l. HoldsSubchunks (grid_of r.g) r.plan.now l c.node_of_chunk-node.result (layer_count (grid_of r.g)) out) is
    (subst (λ s. HoldsSubchunks s r.plan.now (node_bytes s known) c.node_of_chunk-node.result (layer_count s) out) c.grid-grid.ensures.value c.couple_chunk.ensures))

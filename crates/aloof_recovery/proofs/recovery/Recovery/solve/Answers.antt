use Rattle.std.proofs.Common.{subst, sym, ap, ◌∙◌}
use Rattle.std.proofs.lemmas.Result.{IfOk-weaker}
use Rattle.clay_grid.specs.Shape.{chunk_length}
use Rattle.lane_repair.specs.Views.{laid_pieces, EndWithin}
use Rattle.clay_aloof.specs.Shape.{grid_of}
use Rattle.clay_aloof.specs.Known.{node_bytes, shown_bytes, IsKnown}
use Rattle.clay_aloof.specs.Solved.{IsPlan, AreSolved}
use Rattle.aloof_recovery.specs.Recoveries.{AreChunks, others_in, AreSolvedBy}
use Rattle.aloof_recovery.proofs.Recovering.{others_room, others_chunks}
use Rattle.aloof_recovery.proofs.recovery.Recovery.solve.Goals as goal

pub known_chunks-known-requires-clause-chunks : goal.known_chunks-known-requires-clause-chunks
known_chunks-known-requires-clause-chunks c =
    let r = c.args.self.now in
    let chunks = c.args.chunks.now in
    subst (λ n. AreChunks r.g (laid_pieces chunks r.starts.now n)) (sym c.chunk_len.ensures.value)
    (subst (λ s. AreChunks r.g (laid_pieces chunks s (chunk_length (grid_of r.g)))) (sym c.requires.recovery.starts) (others_chunks r.g r.missing.now chunks c.requires.chunks_len))

pub known_chunks-known-requires-clause-room : goal.known_chunks-known-requires-clause-room
known_chunks-known-requires-clause-room c =
    let r = c.args.self.now in
    let chunks = c.args.chunks.now in
    subst (λ n. EndWithin chunks r.starts.now n) (sym c.chunk_len.ensures.value)
    (subst (λ s. EndWithin chunks s (chunk_length (grid_of r.g))) (sym c.requires.recovery.starts) (others_room r.g r.missing.now chunks c.requires.chunks_len))

pub solved_values-requires-clause-plan : goal.solved_values-requires-clause-plan
solved_values-requires-clause-plan c = subst (λ s. IsPlan s c.args.self.now.plan.now) (sym c.grid-grid.ensures.value) c.requires.recovery.plan.sound

pub solved_values-requires-clause-known : goal.solved_values-requires-clause-known
solved_values-requires-clause-known c = subst (λ s. IsKnown s c.known_chunks-known.result) (sym c.grid-grid.ensures.value) c.known_chunks-known.ensures.known

pub returns : goal.returns
returns c =
    let r = c.args.self.now in
    let chunks = c.args.chunks.now in
    let known = c.known_chunks-known.result in
    let plan = r.plan.now in
    let told = c.known_chunks-known.ensures.bytes ∙ ap (λ n. shown_bytes (grid_of r.g) (laid_pieces chunks r.starts.now n) r.tables.now) c.chunk_len.ensures.value in
    IfOk-weaker c.solved_values.result (λ v. AreSolved c.grid-grid.result plan (node_bytes c.grid-grid.result known) v.items) (λ v. AreSolvedBy r (others_in r chunks) v.items)
    (λ v is. subst (λ l. AreSolved (grid_of r.g) plan l v.items) told (subst (λ s. AreSolved s plan (node_bytes s known) v.items) c.grid-grid.ensures.value is)) c.solved_values.ensures

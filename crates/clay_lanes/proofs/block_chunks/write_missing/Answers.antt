use Rattle.std.proofs.Common.{◌≡◌, ◌+◌, ◌*◌, ◌<◌, [], length, get_or, sym, subst, ap, ◌∙◌, arith}
use Rattle.clay_model.specs.Chunks.{contents}
use Rattle.clay_model.specs.Left.{parts, Completes}
use Rattle.lane_repair.specs.Pieces.{HoldsByte}
use Rattle.clay_lanes.specs.Present.{FitsChunks}
use Rattle.clay_lanes.specs.Recovered.{missing_of}
use Rattle.clay_parity.proofs.ChunkLists.{length-contents}
use Rattle.clay_lanes.proofs.Shown.{bytes_of, same_missing, are_chunks, block_planned, fits_of, byte_for}
use Rattle.clay_lanes.proofs.MissingChunks.{on_both, found_chunks}
use Rattle.clay_lanes.proofs.block_chunks.write_missing.Goals as goal

pub recover_in_rooms-requires-clause-block : goal.recover_in_rooms-requires-clause-block
recover_in_rooms-requires-clause-block c = record {
  planned = block_planned c.args.g c.args.have.now c.in_ok-plan.plan c.in_ok-plan.ensures.nodes;
  chunks = are_chunks c.args.g c.args.have.now c.requires.count c.requires.lengths;
  room = tt;
  within = let zero_first : 0 + c.w.result ≡ c.w.result = omega arith in omega (arith, zero_first, c.w.ensures.value);
}

pub recover_in_rooms-requires-clause-lost : goal.recover_in_rooms-requires-clause-lost
recover_in_rooms-requires-clause-lost c = c.requires.lost ∙ sym (same_missing bytes_of c.args.have.now)

pub returns : goal.returns
returns c =
    let g = c.args.g in
    let have = c.args.have.now in
    let new = c.recover_in_rooms.new.chunks in
    let lost : c.args.lost.now ≡ missing_of have = c.requires.lost in
    let many : length c.args.chunks.now ≡ length (missing_of have) = c.requires.chunk_count ∙ ap length lost in
    let count : length (contents new) ≡ length (missing_of have) = length-contents new ∙ c.recover_in_rooms.auto.chunks ∙ many in
    on_both c.recover_in_rooms.result c.recover_in_rooms.ensures.chunk_len c.recover_in_rooms.ensures.written (λ chunk_len written.
    found_chunks g have (contents new) (let wide = c.w.ensures.geometry.limits.width.0 in omega arith) c.requires.count count
    (λ i h. chunk_len i (omega (arith, h, count, many)))
    (λ i z b hi hz hb.
    byte_for g (λ word. FitsChunks g (parts have) word) (λ word. Completes g have word) (fits_of g have) (get_or (missing_of have) i 0) (get_or (contents new) i []) (z * g.width + b)
    (subst (λ l. HoldsByte (λ word. FitsChunks g (parts have) word) (get_or l i 0) (get_or (contents new) i []) (z * g.width + b)) lost
    (let flat : 0 + b ≡ b = omega arith in
    subst (λ v. HoldsByte (λ word. FitsChunks g (parts have) word) (get_or c.args.lost.now i 0) (get_or (contents new) i []) (z * g.width + v)) flat
    (written i z b (subst (λ l. i < length l) (sym lost) hi) hz (omega (arith, hb, c.w.ensures.value)))))))

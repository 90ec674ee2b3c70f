use Rattle.std.proofs.Common.{◌≡◌, ◌+◌, ◌*◌, ◌<◌, [], map, length, get_or, sym, subst, ap, ◌∙◌, arith}
use Rattle.std.proofs.lemmas.Bool.{eqb-true}
use Rattle.std.proofs.lemmas.List.{length-map}
use Rattle.lane_repair.specs.Pieces.{HoldsByte}
use Rattle.lane_repair.specs.Views.{pieces_of}
use Rattle.clay_lanes.specs.Present.{FitsChunks}
use Rattle.clay_lanes.specs.Recovered.{missing_of}
use Rattle.clay_lanes.proofs.MissingChunks.{on_both}
use Rattle.lane_slices.proofs.SliceLemmas.{bytes_of, found_slices, none_written}
use Rattle.lane_slices.proofs.slices.recover_slices.Goals as goal

pub returns-then-is_empty-clause-written : goal.returns-then-is_empty-clause-written
returns-then-is_empty-clause-written c =
    let pieces = pieces_of c.args.have in
    let lost = c.in_ok-lost.lost in
    let empty : lost.len ≡ 0 = eqb-true lost.len 0 (sym c.is_empty.ensures ∙ c.if-is_empty.true) in
    let none : length (missing_of pieces) ≡ 0 = omega (arith, empty, lost.ok.0, ap length c.in_ok-lost.ensures) in
    none_written c.args.g pieces (map bytes_of c.args.slices.now) (length-map c.args.slices.now bytes_of ∙ c.requires.count ∙ none) none

pub recover_in_rooms-requires-clause-block : goal.recover_in_rooms-requires-clause-block
recover_in_rooms-requires-clause-block c = record {
  planned = c.in_ok-plan.ensures;
  chunks = c.requires.chunks;
  room = c.requires.room;
  within = let zero_first : 0 + c.w.result ≡ c.w.result = omega arith in omega (arith, zero_first, c.w.ensures.value);
}

pub recover_in_rooms-requires-clause-count : goal.recover_in_rooms-requires-clause-count
recover_in_rooms-requires-clause-count c = c.requires.count ∙ ap length (sym (c.deref.ensures.value ∙ c.in_ok-lost.ensures))

pub returns-clause-written : goal.returns-clause-written
returns-clause-written c =
    let g = c.args.g in
    let pieces = pieces_of c.args.have in
    let new = c.recover_in_rooms.new.slices in
    let lost : c.deref.result.now ≡ missing_of pieces = c.deref.ensures.value ∙ c.in_ok-lost.ensures in
    let size : length new ≡ length c.args.slices.now = c.recover_in_rooms.auto.slices in
    let count : length (map bytes_of new) ≡ length (missing_of pieces) = length-map new bytes_of ∙ size ∙ c.requires.count in
    on_both c.recover_in_rooms.result c.recover_in_rooms.ensures.lengths c.recover_in_rooms.ensures.written (λ lengths written.
    found_slices g pieces (map bytes_of new) (let wide = c.w.ensures.geometry.limits.width.0 in omega arith) c.requires.chunks.count count
    (λ i h. lengths i (omega (arith, h, count, c.requires.count)))
    (λ i z b hi hz hb.
    subst (λ l. HoldsByte (λ word. FitsChunks g pieces word) (get_or l i 0) (get_or (map bytes_of new) i []) (z * g.width + b)) lost
    (let flat : 0 + b ≡ b = omega arith in
    subst (λ v. HoldsByte (λ word. FitsChunks g pieces word) (get_or c.deref.result.now i 0) (get_or (map bytes_of new) i []) (z * g.width + v)) flat
    (written i z b (subst (λ l. i < length l) (sym lost) hi) hz (omega (arith, hb, c.w.ensures.value))))))

use Rattle.std.proofs.Common.{◌≡◌, ℕ, ◌+◌, ◌*◌, ◌<◌, List, get_or, Option, None, sym, subst, ap, ◌∙◌}
use Rattle.clay_grid.specs.Shape.{layer_count}
use Rattle.lane_repair.specs.Pieces.{HoldsByte}
use Rattle.lane_repair.specs.Views.{pieces_of}
use Rattle.clay_lanes.specs.Present.{AreChunks, FitsChunks, is_gone}
use Rattle.clay_lanes.specs.Recovered.{IsPlanFor, HoldsLayerRows}
use Rattle.clay_lanes.specs.Standing.{pieces_around, IsRoomAround}
use Rattle.clay_lanes.specs.Fillings.{around_in}
use Rattle.clay_lanes.proofs.chunk_filling.Filling.couple.Goals as goal

pub couple_chunk-requires-clause-block : goal.couple_chunk-requires-clause-block
couple_chunk-requires-clause-block c =
    let f = c.args.self.now in
    let before = c.args.before.now in
    let after = c.args.after.now in
    let shown : pieces_of c.left_around.result ≡ around_in f before after = c.left_around.ensures.pieces ∙ ap (pieces_around f.left before after) c.chunk_len.ensures.value in
    record {
      planned = subst (λ p. IsPlanFor f.g (is_gone f.g p) f.plan.now) (sym shown) c.requires.planned.plan;
      chunks = subst (AreChunks f.g) (sym shown) c.requires.planned.chunks;
      room = c.left_around.ensures.room (subst (IsRoomAround f.left before after) (sym c.chunk_len.ensures.value) c.requires.room);
      within = c.requires.planned.within;
    }

pub couple_chunk-requires-clause-holds : goal.couple_chunk-requires-clause-holds
couple_chunk-requires-clause-holds c =
    let f = c.args.self.now in
    let shown : pieces_of c.left_around.result ≡ around_in f c.args.before.now c.args.after.now = c.left_around.ensures.pieces ∙ ap (pieces_around f.left c.args.before.now c.args.after.now) c.chunk_len.ensures.value in
    subst (λ p. (n : ℕ) → n < layer_count f.g → HoldsLayerRows f.g (λ word. FitsChunks f.g p word) f.at f.len f.plan.now.points.items n c.args.solved.now) (sym shown) c.requires.holds

pub couple_chunk-requires-clause-missing : goal.couple_chunk-requires-clause-missing
couple_chunk-requires-clause-missing c =
    let f = c.args.self.now in
    let shown : pieces_of c.left_around.result ≡ around_in f c.args.before.now c.args.after.now = c.left_around.ensures.pieces ∙ ap (pieces_around f.left c.args.before.now c.args.after.now) c.chunk_len.ensures.value in
    subst (λ p. get_or p c.args.c None ≡ None) (sym shown) c.requires.missing

pub returns-clause-written : goal.returns-clause-written
returns-clause-written c =
    let f = c.args.self.now in
    let new = c.couple_chunk.new.chunk in
    let shown : pieces_of c.left_around.result ≡ around_in f c.args.before.now c.args.after.now = c.left_around.ensures.pieces ∙ ap (pieces_around f.left c.args.before.now c.args.after.now) c.chunk_len.ensures.value in
    subst (λ p. (z b : ℕ) → z < layer_count f.g → b < f.len → HoldsByte (λ word. FitsChunks f.g p word) c.args.c new (z * f.g.width + (f.at + b))) shown c.couple_chunk.ensures.written

pub returns-clause-kept : goal.returns-clause-kept
returns-clause-kept c =
    let f = c.args.self.now in
    let old = c.args.chunk.now in
    let new = c.couple_chunk.new.chunk in
    let shown : pieces_of c.left_around.result ≡ around_in f c.args.before.now c.args.after.now = c.left_around.ensures.pieces ∙ ap (pieces_around f.left c.args.before.now c.args.after.now) c.chunk_len.ensures.value in
    subst (λ (p : List (Option (List ℕ))). (q : ℕ) → HoldsByte (λ word. FitsChunks f.g p word) c.args.c old q → HoldsByte (λ word. FitsChunks f.g p word) c.args.c new q) shown c.couple_chunk.ensures.kept

use Rattle.std.proofs.Common.{◌≡◌, ℕ, ◌<◌, sym, subst, ap, ◌∙◌}
use Rattle.clay_grid.specs.Shape.{layer_count}
use Rattle.lane_repair.specs.Views.{pieces_of}
use Rattle.clay_lanes.specs.Present.{AreChunks, FitsChunks, is_gone}
use Rattle.clay_lanes.specs.Recovered.{IsPlanFor, HoldsLayerRows}
use Rattle.clay_lanes.specs.Standing.{left_pieces, IsRoom}
use Rattle.clay_lanes.specs.Fillings.{pieces_in}
use Rattle.clay_lanes.proofs.FillLemmas.{count_in, left_room}
use Rattle.clay_lanes.proofs.chunk_filling.Filling.solve.Goals as goal

pub solve-requires-clause-block : goal.solve-requires-clause-block
solve-requires-clause-block c =
    let f = c.args.self.now in
    let chunks = c.args.chunks.now in
    let filling = c.requires.filling in
    let shown : pieces_of c.all_left.result ≡ pieces_in f chunks = c.all_left.ensures.pieces ∙ ap (left_pieces f.left chunks) c.chunk_len.ensures.value in
    record {
      planned = subst (λ p. IsPlanFor f.g (is_gone f.g p) f.plan.now) (sym shown) filling.planned.plan;
      chunks = subst (AreChunks f.g) (sym shown) filling.planned.chunks;
      room = c.all_left.ensures.room (subst (IsRoom f.left chunks) (sym c.chunk_len.ensures.value) (left_room f.g f.left chunks (count_in f chunks filling) filling.places filling.long));
      within = filling.planned.within;
    }

pub returns : goal.returns
returns c =
    let f = c.args.self.now in
    let shown : pieces_of c.all_left.result ≡ pieces_in f c.args.chunks.now = c.all_left.ensures.pieces ∙ ap (left_pieces f.left c.args.chunks.now) c.chunk_len.ensures.value in
    subst (λ p. (n : ℕ) → n < layer_count f.g → HoldsLayerRows f.g (λ word. FitsChunks f.g p word) f.at f.len f.plan.now.points.items n c.solve.new.solved) shown c.solve.ensures

-- Ranges that hold what was solved in them, and a chunk that is written from them.
use Rattle.std.proofs.Common.{◌≡◌, ℕ, ◌+◌, ◌*◌, ◌/◌, ◌%◌, ◌<◌, ◌≤◌, List, [], length, get_or, drop, Option, None, is_none, Vec, Global, sym, subst, ap, ◌∙◌, arith}
use Rattle.std.proofs.lemmas.Nat.{mul-le, mod_below, div_below, div-add-mod'}
use Rattle.std.specs.Fork.{slice_chunk}
use Rattle.std.proofs.lemmas.List.{ext_get_or, get_or-take, get_or-drop}
use Rattle.clay_grid.specs.Shape.{Shape, chunk_count, layer_count, chunk_length}
use Rattle.clay_grid.specs.Limits.{IsGeometry}
use Rattle.clay_model.specs.Left.{Completes}
use Rattle.lane_repair.specs.Pieces.{HoldsByte}
use Rattle.clay_lanes.specs.Recovered.{HoldsLayerRows}
use Rattle.clay_lanes.specs.Places.{AreFilled}
use Rattle.clay_lanes.specs.declared.recovery_plan.DecodePlan.{DecodePlan}
use Rattle.clay_par.specs.Ranges.{HasRoom}
use Rattle.clay_par.specs.Solved.{HoldsLayers, IsChunk, IsFilled}
use Rattle.clay_par.specs.declared.ranges.Range.{Range}

-- a range after the values of its positions were written into it
pub solved_range : (g : Shape) (have : List (Option (Vec ℕ Global))) (plan : DecodePlan) (before after : Range) → HasRoom g (length plan.points.items) (layer_count g) before
    → after.at ≡ before.at → length after.values.items ≡ length before.values.items → length after.rows.items ≡ length before.rows.items → length after.solved.items ≡ length before.solved.items
    → ((n : ℕ) → n < layer_count g → HoldsLayerRows g (λ word. Completes g have word) before.at (length before.values.items) plan.points.items n after.solved.items)
    → HoldsLayers g have plan after
solved_range g have plan before after room place values rows solved holds =
    let nodes : ℕ = length plan.points.items in
    let inside = room.inside in
    record {
      room = record {
        inside = omega (arith, inside, place, values);
        one_layer = rows ∙ room.one_layer ∙ ap (λ k. nodes * k) (sym values);
        all_layers = solved ∙ room.all_layers ∙ ap (λ k. layer_count g * (nodes * k)) (sym values);
      };
      solved = λ n h.
          subst (λ at. HoldsLayerRows g (λ word. Completes g have word) at (length after.values.items) plan.points.items n after.solved.items) (sym place)
          (subst (λ k. HoldsLayerRows g (λ word. Completes g have word) before.at k plan.points.items n after.solved.items) (sym values) (holds n h));
    }

-- a chunk of which each byte is right
pub whole_chunk : (g : Shape) (have : List (Option (Vec ℕ Global))) (c : ℕ) (chunk : List ℕ) → 0 < g.width → c < chunk_count g → length chunk ≡ chunk_length g
    → ((z b : ℕ) → z < layer_count g → b < g.width → HoldsByte (λ word. Completes g have word) c chunk (z * g.width + b)) → IsChunk g have c chunk
whole_chunk g have c chunk wide within long holds = record {
  long = long;
  value = λ word fits. ext_get_or 0 chunk (get_or word c []) (long ∙ sym (fits.codeword.lengths c within)) (λ p hp.
      let place : p < chunk_length g = subst (λ n. p < n) long hp in
      let byte : HoldsByte (λ word. Completes g have word) c chunk p =
      subst (HoldsByte (λ word. Completes g have word) c chunk) (div-add-mod' p g.width) (holds (p / g.width) (p % g.width) (div_below p g.width (layer_count g) wide place) (mod_below p g.width wide)) in
      byte.at word fits);
}

-- a chunk has some bytes
pub some_bytes : (g : Shape) → IsGeometry g → 0 < chunk_length g
some_bytes g geometry =
    let wide = geometry.limits.width.0 in
    let layers = geometry.some_layers in
    let rows = geometry.limits.parity_chunks.0 in
    let some : 1 * 1 ≤ layer_count g * g.width = mul-le 1 1 (layer_count g) g.width (omega (arith, layers, rows)) (omega (arith, wide)) in
    omega (arith, some)

-- a chunk of which each byte was written
pub filled_chunk : (g : Shape) (have : List (Option (Vec ℕ Global))) (c : ℕ) (old new : List ℕ) → 0 < g.width → get_or have c None ≡ None
    → ((z b : ℕ) → z < layer_count g → b < g.width → HoldsByte (λ word. Completes g have word) c new (z * g.width + b)) → IsFilled g have c old new
filled_chunk g have c old new wide gone holds = record {
  missing = λ none p hp.
      subst (HoldsByte (λ word. Completes g have word) c new) (div-add-mod' p g.width)
      (holds (p / g.width) (p % g.width) (div_below p g.width (layer_count g) wide hp) (mod_below p g.width wide));
  there = λ some. absurd (some (ap is_none gone));
}

-- all chunks, of which each was written where it is missing
pub all_filled : (g : Shape) (have : List (Option (Vec ℕ Global))) (old new : List ℕ)
    → ((c : ℕ) → c < chunk_count g → IsFilled g have c (slice_chunk old (chunk_length g) c) (slice_chunk new (chunk_length g) c))
    → AreFilled g have old new
all_filled g have old new each =
    let len : ℕ = chunk_length g in
    let byte : (bytes : List ℕ) (c p : ℕ) → p < len → get_or (slice_chunk bytes len c) p 0 ≡ get_or bytes (c * len + p) 0 =
    λ bytes c p hp. get_or-take len (drop (c * len) bytes) p 0 hp ∙ get_or-drop (c * len) bytes p 0 in
    record {
      missing = λ c p hc hp gone. record { at = λ word fits. sym (byte new c p hp) ∙ ((each c hc).missing gone p hp).at word fits };
      there = λ c p hc hp some. sym (byte new c p hp) ∙ ap (λ l. get_or l p 0) ((each c hc).there some) ∙ byte old c p hp;
    }

use Rattle.std.proofs.Common.{◌≡◌, ℕ, ◌+◌, ◌*◌, ◌<◌, length, get_or, sym, subst, ◌∙◌, arith, bit_xor}
use Rattle.clay_field.specs.Field.{quotient}
use Rattle.clay_grid.specs.Shape.{Shape, node_count, layer_count}
use Rattle.clay_model.specs.Partners.{ArePartners}
use Rattle.lane_repair.specs.Views.{pieces_of}
use Rattle.clay_aloof.specs.Shape.{grid_of, node_of}
use Rattle.clay_aloof.specs.Known.{node_bytes, IsKnown}
use Rattle.clay_aloof.specs.Solved.{IsUncoupled, HoldsLayer}
use Rattle.clay_aloof.proofs.Column.{partner_read, partner_erased, lost_alone, lost_crossed}
use Rattle.clay_aloof.proofs.lost_chunk.lost_piece.Goals as goal

pair_of : (c : goal.After-partner_of-partner) → ArePartners (grid_of c.args.g) (node_of c.args.g c.args.lost) c.args.z c.partner_of-partner.result.node c.partner_of-partner.result.layer
pair_of c =
    let p = c.partner_of-partner.result in
    subst (λ s. ArePartners s (node_of c.args.g c.args.lost) c.args.z p.node p.layer) c.grid-grid.ensures.value
    (subst (λ i. ArePartners c.grid-grid.result i c.args.z p.node p.layer) c.node_of_chunk-node.ensures.value c.partner_of-partner.ensures.partners)

below_of : (c : goal.After-partner_of-partner) → c.partner_of-partner.result.layer < layer_count (grid_of c.args.g)
below_of c = subst (λ s. c.partner_of-partner.result.layer < layer_count s) c.grid-grid.ensures.value c.partner_of-partner.ensures.in_layers

inside_of : (c : goal.After-partner_of-partner) → c.partner_of-partner.result.node < node_count (grid_of c.args.g)
inside_of c = subst (λ s. c.partner_of-partner.result.node < node_count s) c.grid-grid.ensures.value c.partner_of-partner.ensures.in_grid

pub solved_piece-own-requires-clause-holds : goal.solved_piece-own-requires-clause-holds
solved_piece-own-requires-clause-holds c =
    let g = c.args.g in
    let p = c.partner_of-partner.result in
    subst (λ s. HoldsLayer s c.args.plan.now (node_bytes s c.args.known.now) p.layer c.args.solved.now) (sym c.grid-grid.ensures.value)
    (c.requires.solved.each p.layer (c.requires.plan.each_layer p.layer (below_of c)
    (partner_read g c.args.lost c.grid-grid.ensures.geometry c.requires.parts.chunk c.args.z p.node p.layer (pair_of c))))

pub solved_piece-own-requires-clause-erased : goal.solved_piece-own-requires-clause-erased
solved_piece-own-requires-clause-erased c =
    let p = c.partner_of-partner.result in
    partner_erased c.args.g c.args.lost c.grid-grid.ensures.geometry c.requires.parts.chunk c.args.z p.node p.layer (pair_of c) (pieces_of c.args.parts) c.args.plan.now c.requires.plan (inside_of c)

pub returns-then-partner-node : goal.returns-then-partner-node
returns-then-partner-node c =
    let g = c.args.g in
    let p = c.partner_of-partner.result in
    let own = c.solved_piece-own.result.now in
    let pair = subst (λ s. ArePartners s (node_of g c.args.lost) c.args.z p.node p.layer) c.grid-grid.ensures.value
    (subst (λ i. ArePartners c.grid-grid.result i c.args.z p.node p.layer) c.node_of_chunk-node.ensures.value c.partner_of-partner.ensures.partners) in
    let uncoupled : IsUncoupled (grid_of g) c.args.plan.now (node_bytes (grid_of g) c.args.known.now) p.node p.layer own =
    subst (λ s. IsUncoupled s c.args.plan.now (node_bytes s c.args.known.now) p.node p.layer own) c.grid-grid.ensures.value c.solved_piece-own.ensures.value in
    lost_alone g c.args.lost (pieces_of c.args.parts) c.args.plan.now (node_bytes (grid_of g) c.args.known.now) c.args.z p.node p.layer own c.copy_from_slice.new.self c.requires.plan c.requires.put
    pair (c.if-partner-node.true ∙ c.node_of_chunk-node.ensures.value) uncoupled c.copy_from_slice.ensures.after

pub returns-else-partner-node : goal.returns-else-partner-node
returns-else-partner-node c =
    let g = c.args.g in
    let p = c.partner_of-partner.result in
    let own = c.solved_piece-own.result.now in
    let grid = c.grid-grid.ensures.value in
    let pair = subst (λ s. ArePartners s (node_of g c.args.lost) c.args.z p.node p.layer) grid
    (subst (λ i. ArePartners c.grid-grid.result i c.args.z p.node p.layer) c.node_of_chunk-node.ensures.value c.partner_of-partner.ensures.partners) in
    let inside : p.node < node_count (grid_of g) = subst (λ s. p.node < node_count s) grid c.partner_of-partner.ensures.in_grid in
    let below : p.layer < layer_count (grid_of g) = subst (λ s. p.layer < layer_count s) grid c.partner_of-partner.ensures.in_layers in
    let uncoupled : IsUncoupled (grid_of g) c.args.plan.now (node_bytes (grid_of g) c.args.known.now) p.node p.layer own =
    subst (λ s. IsUncoupled s c.args.plan.now (node_bytes s c.args.known.now) p.node p.layer own) grid c.solved_piece-own.ensures.value in
    let bytes = subst (λ (s : Shape). (b : ℕ) → b < s.width → get_or c.piece-coupled.result.now b 0 ≡ get_or (node_bytes s c.args.known.now) ((p.node * layer_count s + p.layer) * s.width + b) 0) grid c.piece-coupled.ensures.bytes in
    lost_crossed g c.args.lost (pieces_of c.args.parts) c.args.plan.now (node_bytes (grid_of g) c.args.known.now) c.args.z p.node p.layer own c.cross.new.out c.requires.plan c.requires.put
    c.requires.parts.fit c.requires.parts.chunk pair inside below (λ e. c.if-partner-node.false (e ∙ sym c.node_of_chunk-node.ensures.value)) uncoupled
    (λ b hb. let long : b < length c.cross.new.out = omega arith in c.cross.ensures b long ∙ (λ k. quotient (bit_xor (get_or own b 0) (bytes b hb k)) 2))

pub piece-coupled-requires-clause-known : goal.piece-coupled-requires-clause-known
piece-coupled-requires-clause-known c = subst (λ s. IsKnown s c.args.known.now) (sym c.grid-grid.ensures.value) c.requires.known

use Rattle.std.proofs.Common.{◌≡◌, ℕ, ◌<◌, true, false, List, length, get_or, replicate, sym, ap, ◌∙◌, arith}
use Rattle.std.proofs.lemmas.List.{get_or_read}
use Rattle.lane_repair.specs.Views.{pieces_of}
use Rattle.lane_repair.proofs.ColumnRows.{present_there, present_gone}
use Rattle.clay_lanes.specs.Present.{FitsChunks}
use Rattle.clay_lanes.proofs.block.Block.write_value.Goals as goal

pub returns-then-index : goal.returns-then-index
returns-then-index c =
    let g = c.args.self.now.g in
    let plan = c.args.self.now.plan.now in
    let fits : List (List ℕ) → Type 0 = λ word. FitsChunks g (pieces_of c.args.self.now.have) word in
    let erased = plan.erased.items in
    let within : c.args.node < length erased = omega (arith, c.requires.node, c.requires.block.planned.nodes) in
    let gone : get_or erased c.args.node false ≡ true = sym (get_or_read erased c.args.node c.index.result.now within c.index.ensures false) ∙ c.if-index.true in
    present_gone g fits c.args.self.now.at c.args.self.now.len erased c.args.node c.args.z c.fill.new.self gone (c.fill.ensures.after (λ y e. e) ∙ ap (λ n. replicate n 0) c.requires.out_len)

pub returns-else-index : goal.returns-else-index
returns-else-index c =
    let g = c.args.self.now.g in
    let plan = c.args.self.now.plan.now in
    let fits : List (List ℕ) → Type 0 = λ word. FitsChunks g (pieces_of c.args.self.now.have) word in
    let erased = plan.erased.items in
    let within : c.args.node < length erased = omega (arith, c.requires.node, c.requires.block.planned.nodes) in
    let here : get_or erased c.args.node false ≡ false = sym (get_or_read erased c.args.node c.index.result.now within c.index.ensures false) ∙ c.if-index.false in
    present_there g fits c.args.self.now.at c.args.self.now.len erased c.args.node c.args.z c.uncouple_node.new.out here c.uncouple_node.ensures

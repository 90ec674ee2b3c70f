use Rattle.std.proofs.Common.{◌≡◌, ◌<◌, ◌≤◌, ℕ, ltb, true, false, get_or, set, sym, ap, ◌∙◌, arith}
use Rattle.std.proofs.lemmas.Bool.{lt-ltb, le-ltb, cond-true, cond-false}
use Rattle.clay_grid.specs.Shape.{node_count}
use Rattle.clay_grid.specs.Score.{count_below}
use Rattle.lost_layers.proofs.unknown.mark.Goals as goal

pub returns-then-marked_count-m : goal.returns-then-marked_count-m
returns-then-marked_count-m c =
    let g = c.args.g in
    let marks = c.args.marks.now in
    let all : ℕ = count_below (node_count g) (λ i. get_or marks i false) in
    let count : c.marked_count.result ≡ all = c.marked_count.ensures ∙ ap (λ n. count_below n (λ i. get_or marks i false)) c.requires.marks in
    let full : g.parity_count ≤ all = omega (arith, count, c.if-marked_count-m.true, c.m.ensures.value) in
    sym (cond-false (ltb all g.parity_count) (set marks c.args.node true) marks (le-ltb all g.parity_count full))

pub returns : goal.returns
returns c =
    let g = c.args.g in
    let marks = c.args.marks.now in
    let all : ℕ = count_below (node_count g) (λ i. get_or marks i false) in
    let count : c.marked_count.result ≡ all = c.marked_count.ensures ∙ ap (λ n. count_below n (λ i. get_or marks i false)) c.requires.marks in
    let room : all < g.parity_count = omega (arith, count, c.if-marked_count-m.false, c.m.ensures.value) in
    sym (cond-true (ltb all g.parity_count) (set marks c.args.node true) marks (lt-ltb all g.parity_count room))

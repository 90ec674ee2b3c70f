use Rattle.std.proofs.Common.{◌≡◌, ◌≤◌, ℕ, length, sym, ◌∙◌, ap, arith}
use Rattle.clay_grid.specs.Score.{count_below}
use Rattle.clay_grid.proofs.Counting.{count_below-le}
use Rattle.clay_aloof.specs.Shape.{all_chunks}
use Rattle.share_run.specs.Check.{is_whole}
use Rattle.share_run.proofs.checks_of_shares.check_main.Goals as goal

pub returns : goal.returns
returns g c =
    let all : ℕ = all_chunks c.args.header.now.shape in
    let verdicts = c.judge_all.new.verdicts in
    let long : length verdicts ≡ all = c.in-Ok.ensures.verdicts ∙ c.requires.verdicts in
    let counted : count_below all (is_whole verdicts) ≡ c.whole_count-whole.result = ap (λ m. count_below m (is_whole verdicts)) (sym long) ∙ sym c.whole_count-whole.ensures in
    let shares : c.n-shares.result ≡ all = c.n-shares.ensures.value ∙ ap all_chunks c.geometry.ensures in
    let most : count_below all (is_whole verdicts) ≤ all = count_below-le all (is_whole verdicts) in
    let least : c.n-shares.result ≤ c.whole_count-whole.result = c.if-whole-shares.false in
    (c.in-Ok.ensures.judged, omega (arith, counted, shares, most, least), c.if-strays.false)

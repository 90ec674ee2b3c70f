use Rattle.std.proofs.Common.{◌≡◌, ℕ, Bool, [], get_or, None, is_none, sym, ap, ◌∙◌, arith}
use Rattle.clay_grid.proofs.Rising.{filter_pass, filter_fail}
use Rattle.lane_repair.specs.Views.{pieces_of}
use Rattle.clay_lanes.specs.Recovered.{missing_from}
use Rattle.lane_slices.proofs.slices.missing_numbers.Goals as goal
use Rattle.lane_slices.proofs.slices.missing_numbers.Goals.{then-is_missing+in_ok-push, else-is_missing}

pub loop-c-preserved : goal.loop-c-preserved
loop-c-preserved c =
    let pieces = pieces_of c.args.have in
    let test : ℕ → Bool = λ k. is_none (get_or pieces k None) in
    elim c.if-is_missing.branch [
      | then-is_missing+in_ok-push w ↦
          filter_pass test c.loop-c.c [] c.loop-c.numbers.items _ (ap (λ v. v.items) w.numbers-is ∙ w.in_ok-push.ensures.items) c.loop-c.invariant (sym c.is_missing.ensures ∙ w.if-is_missing.true)
      | else-is_missing w ↦
          ap (λ v. v.items) w.numbers-is ∙ filter_fail test c.loop-c.c [] c.loop-c.numbers.items c.loop-c.invariant (sym c.is_missing.ensures ∙ w.if-is_missing.false)
    ]

pub returns : goal.returns
returns c =
    let pieces = pieces_of c.args.have in
    let ended : c.loop-c.c ≡ c.n-c-end.result = omega (arith, c.loop-c-test.false, c.loop-c.auto.c-end) in
    c.loop-c.invariant ∙ ap (missing_from pieces 0) (ended ∙ c.n-c-end.ensures.value ∙ sym c.requires.count)

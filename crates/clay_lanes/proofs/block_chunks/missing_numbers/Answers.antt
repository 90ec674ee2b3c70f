use Rattle.std.proofs.Common.{◌≡◌, ℕ, ◌<◌, Bool, true, false, not, [], length, get_or, Option, Some, None, is_none, is_some, Vec, Global, refl, sym, ap, ◌∙◌, arith}
use Rattle.std.proofs.lemmas.Bool.{true≢false}
use Rattle.std.proofs.lemmas.List.{get_or_read}
use Rattle.clay_grid.proofs.Rising.{filter_pass, filter_fail}
use Rattle.clay_lanes.proofs.block_chunks.missing_numbers.Goals as goal
use Rattle.clay_lanes.proofs.block_chunks.missing_numbers.Goals.{then-is_none+in_ok-push, else-is_none}

tested : (o : Option (Vec ℕ Global)) (r : Bool) → is_some o ≡ not r → is_none o ≡ r
tested None true h = refl
tested None false h = absurd (true≢false (sym h))
tested (Some v) true h = absurd (true≢false h)
tested (Some v) false h = refl

pub loop-c-preserved : goal.loop-c-preserved
loop-c-preserved c =
    let have = c.args.have.now in
    let i : ℕ = c.loop-c.c in
    let test : ℕ → Bool = λ k. is_none (get_or have k None) in
    let within : i < length have = omega (arith, c.loop-c-test.true) in
    let read : c.index-have-c.result ≡ get_or have i None = get_or_read have i c.index-have-c.result within c.index-have-c.is None in
    let test_is : c.is_none.result ≡ is_none (get_or have i None) = sym (tested (get_or have i None) c.is_none.result (sym (ap is_some read) ∙ c.is_none.ensures)) in
    elim c.if-is_none.branch [
      | then-is_none+in_ok-push w ↦
          ap (λ v. v.items) w.numbers-is
          ∙ filter_pass test i [] c.loop-c.numbers.items w.push.new.self.items w.in_ok-push.ensures.items c.loop-c.invariant (sym test_is ∙ w.if-is_none.true)
      | else-is_none w ↦
          ap (λ v. v.items) w.numbers-is
          ∙ filter_fail test i [] c.loop-c.numbers.items c.loop-c.invariant (sym test_is ∙ w.if-is_none.false)
    ]

use Rattle.std.proofs.Common.{rules, ◌≡◌, ℕ, length, ap, sym, ◌∙◌}
use Rattle.turn_lock.specs.TurnState.{new_turn}
use Rattle.turn_lock.proofs.Lists.{each_snoc}
use Rattle.turn_lock.proofs.lock.Lock.new.Goals as goal

pub loop-number-preserved : goal.loop-number-preserved
loop-number-preserved g c =
    let inv = c.loop-number.invariant in
    let f = g.T.Historied.fixed_part c.args.value in
    let z = c.in_ok-lock.lock in
    let both = c.make.ensures.maker f inv.view in
    let len : length c.loop-number.all.items ≡ c.loop-number.number = search rules in
    record {
      own = search rules;
      view = both.0;
      count = search rules;
      room = search rules;
      made = λ k. rw c.push_reserved.ensures.items (each_snoc (λ i t. t ≡ new_turn z f i) c.loop-number.all.items c.make.result inv.made (both.1 ∙ ap (λ (i : ℕ). new_turn z f i) (sym len)) k);
    }

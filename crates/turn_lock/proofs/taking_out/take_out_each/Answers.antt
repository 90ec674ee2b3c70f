use Rattle.std.proofs.Common.{rules, ℕ, ◌-◌, ◌+◌, ◌<◌, length, ap, ◌∙◌, arith}
use Rattle.std.proofs.lemmas.List.{length_push}
use Rattle.turn_lock.specs.Piles.{items_of}
use Rattle.turn_lock.proofs.Emptying.{first_at, left_some, none_at, one_at, out_at, out_end, own_there, place_within, still_at, still_first, tops_are_all}
use Rattle.turn_lock.proofs.taking_out.take_out_each.Goals as goal

pub loop-done-init : goal.loop-done-init
loop-done-init g c =
    let rows = items_of c.args.rows.items in
    record {
      first = first_at g.identity c.args.locks.now rows c.requires.1.1.1.1;
      count = search rules;
      room = search rules;
      out = none_at g.T.Historied.fixed_part g.T.Historied.stands_for g.identity rows (length c.args.locks.now - 0) c.in_ok-values.values.items c.in_ok-values.ensures.items;
    }

pub take_tops-requires : goal.take_tops-requires
take_tops-requires g c =
    let rows = items_of c.args.rows.items in
    let left = items_of c.loop-done.rows.items in
    let all = length c.args.locks.now in
    let done = c.loop-done.done in
    let less : done < all = omega (arith, c.loop-done-test.true) in
    left_some g.identity c.args.locks.now rows c.requires.1.1.1.1 (all - 1 - done) left (out_at rows left all done less c.loop-done.invariant.first)

pub take_at-requires : goal.take_at-requires
take_at-requires g c κs within =
    let rows = items_of c.args.rows.items in
    let left = items_of c.loop-done.rows.items in
    let all = length c.args.locks.now in
    let done = c.loop-done.done in
    let less : done < all = omega (arith, c.loop-done-test.true) in
    let first = out_at rows left all done less c.loop-done.invariant.first in (
      search rules,
      (
        search rules,
        (
          search rules,
          (
            search rules,
            (
              place_within all done less,
              λ lock there.
                  tops_are_all g.identity c.args.locks.now rows c.requires.1.1.1.1 (all - 1 - done) left first (items_of c.take_tops.new.piles.items) c.in_ok-turns.turns.items c.in_ok-turns.ensures lock there,
            ),
          ),
        ),
      ),
    )

pub loop-done-preserved : goal.loop-done-preserved
loop-done-preserved g c =
    let rows = items_of c.args.rows.items in
    let left = items_of c.loop-done.rows.items in
    let now = items_of c.take_tops.new.piles.items in
    let tops = c.in_ok-turns.turns.items in
    let all = length c.args.locks.now in
    let done = c.loop-done.done in
    let less : done < all = omega (arith, c.loop-done-test.true) in
    let first = out_at rows left all done less c.loop-done.invariant.first in
    let value = c.take_at.result in
    let out = c.take_at.ensures.stands in
    record {
      first = still_at rows now all done less (still_first g.identity c.args.locks.now rows c.requires.1.1.1.1 (all - 1 - done) left first now tops c.in_ok-turns.ensures);
      count = ap length c.push_reserved.ensures.items ∙ (length_push c.loop-done.values.items value ∙ ap (λ (n : ℕ). n + 1) c.loop-done.invariant.count);
      room = omega (arith, c.push_reserved.ensures.capacity, c.loop-done.invariant.room);
      out =
          one_at g.T.Historied.fixed_part g.T.Historied.stands_for g.identity rows all done c.loop-done.values.items c.push_reserved.new.self.items value out.0 less c.push_reserved.ensures.items c.loop-done.invariant.out
          (record {
            identity_is = c.take_at.ensures.fixed;
            stands_is = out.1;
            own = own_there g.identity c.args.locks.now rows c.requires.1.1.1.1 (all - 1 - done) left first now tops c.in_ok-turns.ensures out.0 out.2.own;
          });
    }

pub returns : goal.returns
returns g c =
    out_end g.T.Historied.fixed_part g.T.Historied.stands_for g.identity (items_of c.args.rows.items) (length c.args.locks.now) c.loop-done.done c.loop-done.values.items c.reverse.new.self.items
    (omega (arith, c.loop-done-test.false)) (search rules) c.loop-done.invariant.count c.reverse.ensures.items c.loop-done.invariant.out

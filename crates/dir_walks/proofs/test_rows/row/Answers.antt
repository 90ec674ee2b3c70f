use Rattle.std.proofs.Common.{◌≡◌, ◌∙◌, arith}
use Rattle.dir_walks.proofs.Placed.{one_more, full_row}
use Rattle.dir_walks.proofs.test_rows.row.Goals as goal

pub loop-preserved : goal.loop-preserved
loop-preserved c = record {
  items = one_more c.loop.counter c.loop.row.items c.push_reserved.new.self.items c.loop.invariant.items c.push_reserved.ensures.items;
  len = omega (arith, c.push_reserved.ensures.len, c.loop.invariant.len);
  room = c.push_reserved.ensures.capacity ∙ c.loop.invariant.room;
}

pub returns : goal.returns
returns c =
    full_row c.args.geometry c.loop.row.items c.loop.counter 0 c.loop.invariant.items
    (let all : c.loop.counter ≡ c.n-servers.result = omega (arith, c.loop.auto.counter-end, c.loop-test.false) in all ∙ c.n-servers.ensures.value)

use Rattle.std.proofs.Common.{arith}
use Rattle.store_run.proofs.threaded_run.make_crew.Goals as goal

pub seat_all-seated-requires : goal.seat_all-seated-requires
seat_all-seated-requires c =
    record {
      store_is = c.requires.store;
      some = omega (arith, c.requires.some, c.in-Ok.ensures.count);
      seats_are = c.requires.seats;
      deck = c.requires.deck;
      crew = c.in-Ok.ensures.none c.args.store.now;
    }

use Rattle.std.proofs.Common.{refl, sym, ◌∙◌}
use Rattle.store_world.proofs.Callers.{has_of, may_now}
use Rattle.store_world.proofs.turns.turn_in.Goals as goal

pub turn-step-requires-clause-keeps : goal.turn-step-requires-clause-keeps
turn-step-requires-clause-keeps g c κs within =
    (may_now c.args.directory.now c.args.book.now c.args.servers.now.items c.args.callers.now.items c.deref.result.now c.deref.ensures.value c.args.i c.has_step.result c.has_step.ensures.there c.has_step.ensures.has
    c.requires.ready c.if-not-has_step.false c.index_mut.result.now c.index_mut.ensures.value).1.keeps

pub turn-step-requires-clause-next : goal.turn-step-requires-clause-next
turn-step-requires-clause-next g c κs within =
    (may_now c.args.directory.now c.args.book.now c.args.servers.now.items c.args.callers.now.items c.deref.result.now c.deref.ensures.value c.args.i c.has_step.result c.has_step.ensures.there c.has_step.ensures.has
    c.requires.ready c.if-not-has_step.false c.index_mut.result.now c.index_mut.ensures.value).1.next

pub turn-step-requires-clause-steps : goal.turn-step-requires-clause-steps
turn-step-requires-clause-steps g c κs within =
    (may_now c.args.directory.now c.args.book.now c.args.servers.now.items c.args.callers.now.items c.deref.result.now c.deref.ensures.value c.args.i c.has_step.result c.has_step.ensures.there c.has_step.ensures.has
    c.requires.ready c.if-not-has_step.false c.index_mut.result.now c.index_mut.ensures.value).1.steps

pub turn-step-requires-clause-its : goal.turn-step-requires-clause-its
turn-step-requires-clause-its g c κs within =
    (may_now c.args.directory.now c.args.book.now c.args.servers.now.items c.args.callers.now.items c.deref.result.now c.deref.ensures.value c.args.i c.has_step.result c.has_step.ensures.there c.has_step.ensures.has
    c.requires.ready c.if-not-has_step.false c.index_mut.result.now c.index_mut.ensures.value).1.its

pub turn-step-requires-clause-book : goal.turn-step-requires-clause-book
turn-step-requires-clause-book g c κs within =
    (may_now c.args.directory.now c.args.book.now c.args.servers.now.items c.args.callers.now.items c.deref.result.now c.deref.ensures.value c.args.i c.has_step.result c.has_step.ensures.there c.has_step.ensures.has
    c.requires.ready c.if-not-has_step.false c.index_mut.result.now c.index_mut.ensures.value).1.same_book

pub turn-step-requires-clause-part : goal.turn-step-requires-clause-part
turn-step-requires-clause-part g c κs within =
    (may_now c.args.directory.now c.args.book.now c.args.servers.now.items c.args.callers.now.items c.deref.result.now c.deref.ensures.value c.args.i c.has_step.result c.has_step.ensures.there c.has_step.ensures.has
    c.requires.ready c.if-not-has_step.false c.index_mut.result.now c.index_mut.ensures.value).1.part

pub turn-step-requires-clause-servers : goal.turn-step-requires-clause-servers
turn-step-requires-clause-servers g c κs within =
    (may_now c.args.directory.now c.args.book.now c.args.servers.now.items c.args.callers.now.items c.deref.result.now c.deref.ensures.value c.args.i c.has_step.result c.has_step.ensures.there c.has_step.ensures.has
    c.requires.ready c.if-not-has_step.false c.index_mut.result.now c.index_mut.ensures.value).1.held

pub turn-step-requires-clause-knows : goal.turn-step-requires-clause-knows
turn-step-requires-clause-knows g c κs within =
    (may_now c.args.directory.now c.args.book.now c.args.servers.now.items c.args.callers.now.items c.deref.result.now c.deref.ensures.value c.args.i c.has_step.result c.has_step.ensures.there c.has_step.ensures.has
    c.requires.ready c.if-not-has_step.false c.index_mut.result.now c.index_mut.ensures.value).1.knows

pub returns-then-not-has_step : goal.returns-then-not-has_step
returns-then-not-has_step g c =
    record {
      callers_stay = refl;
      directory_stays = refl;
      servers_stay = refl;
      none = λ script x there code. sym c.if-not-has_step.true ∙ has_of c.args.callers.now.items c.deref.result.now c.deref.ensures.value c.args.i c.has_step.result c.has_step.ensures.has script x there code;
    }

pub returns : goal.returns
returns g c =
    let found : _ = (may_now c.args.directory.now c.args.book.now c.args.servers.now.items c.args.callers.now.items c.deref.result.now c.deref.ensures.value c.args.i c.has_step.result c.has_step.ensures.there c.has_step.ensures.has
    c.requires.ready c.if-not-has_step.false c.index_mut.result.now c.index_mut.ensures.value) in
    record {
      c = c.index_mut.result.now;
      c' = c.turn-step.new.self;
      there = found.0;
      are = refl;
      has = λ script code. sym c.if-not-has_step.false ∙ has_of c.args.callers.now.items c.deref.result.now c.deref.ensures.value c.args.i c.has_step.result c.has_step.ensures.has script c.index_mut.result.now found.0 code;
      turn = c.turn-step.ensures.turn;
      same = c.turn-step.ensures.same;
      knows = c.turn-step.ensures.knows;
      book = c.turn-step.ensures.book;
      stamps = c.turn-step.ensures.stamps;
      held = c.turn-step.ensures.servers;
    }

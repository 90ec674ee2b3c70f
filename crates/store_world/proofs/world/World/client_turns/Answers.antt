use Rattle.std.proofs.Common.{refl, ◌∙◌}
use Rattle.store_map.specs.declared.actor.Token.TheVariants as token
use Rattle.world_laws.specs.Telling.{LeadsTelling}
use Rattle.world_laws.specs.RoundTells.{client_tokens}
use Rattle.world_laws.proofs.TraceRounds.{rounds_tell}
use Rattle.store_world.specs.Stored.{world_of}
use Rattle.store_world.specs.Telling.{steps_in}
use Rattle.store_world.proofs.Watching.{watched_none}
use Rattle.store_world.proofs.Rounds.{one_turn_more}
use Rattle.store_world.proofs.world.World.client_turns.Goals as goal

pub loop-i-init : goal.loop-i-init
loop-i-init g c = record {
  same = refl;
  same_book = refl;
  told =
      watched_none (g.W.Watch.heard c.args.watch.now c.args.watch.now) (LeadsTelling c.args.self.now.script (client_tokens 0) (world_of c.args.self.now) (world_of c.args.self.now))
      (g.met.W.Watch.none c.args.watch.now) (rounds_tell c.args.self.now.script (world_of c.args.self.now)).clients.none;
}

pub loop-i-preserved : goal.loop-i-preserved
loop-i-preserved g c = record {
  same = c.client_turn.ensures.same ∙ c.loop-i.invariant.same;
  same_book = c.client_turn.ensures.same_book ∙ c.loop-i.invariant.same_book;
  told =
      one_turn_more g.W.Watch.heard g.met.W.Watch.on c.args.self.now.script (world_of c.args.self.now) client_tokens token.Client (rounds_tell c.args.self.now.script (world_of c.args.self.now)).clients c.loop-i.i
      c.loop-i.self c.client_turn.new.self (steps_in c.client_turn.result) c.args.watch.now c.loop-i.watch c.turn_made.new.watch c.loop-i.invariant.same c.client_turn.ensures.told c.in_ok-turn_made.ensures
      c.loop-i.invariant.told;
}

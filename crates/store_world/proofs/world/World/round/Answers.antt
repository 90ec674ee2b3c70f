use Rattle.std.proofs.Common.{◌∷◌, [], length, sym, ap, ◌∙◌}
use Rattle.world_laws.specs.RoundTells.{RoundTells}
use Rattle.store_world.specs.Stored.{StoredWorld, world_of}
use Rattle.store_world.specs.Watched.{Watched}
use Rattle.store_world.proofs.Results.{where_ok}
use Rattle.store_world.proofs.Rounds.{round_swept, round_unswept}
use Rattle.store_world.proofs.world.World.round.Goals as goal

pub returns-then-sweeper_has_step-clause-told : goal.returns-then-sweeper_has_step-clause-told
returns-then-sweeper_has_step-clause-told g c =
    where_ok (g.W.Watch.heard c.repairer_turns.new.watch c.made.new.self (c.sweeper_turn.result ∷ []))
    (Watched (g.W.Watch.heard c.args.watch.now c.made.new.self) (RoundTells c.args.self.now.script (world_of c.args.self.now) (world_of c.sweeper_turn.new.self))) c.made.result
    (round_swept g.W.Watch.heard g.met.W.Watch.on c.args.self.now c.client_turns.new.self c.repairer_turns.new.self c.len-clients.result c.len-repairers.result
    (c.len-clients.ensures ∙ ap (λ (s : StoredWorld). length s.script.clients) c.self.view_is) (c.len-repairers.ensures ∙ ap (λ (s : StoredWorld). length s.script.repairers) c.self.view_is)
    c.client_turns.ensures.same c.repairer_turns.ensures.same c.args.watch.now c.client_turns.new.watch c.repairer_turns.new.watch c.in_ok-client_turns.ensures.told c.in_ok-repairer_turns.ensures.told
    c.sweeper_turn.new.self c.sweeper_turn.result c.made.new.self (sym c.sweeper_has_step.ensures ∙ c.if-sweeper_has_step.true) c.sweeper_turn.ensures.told)
    c.made.ensures

pub returns-else-sweeper_has_step-clause-told : goal.returns-else-sweeper_has_step-clause-told
returns-else-sweeper_has_step-clause-told g c =
    round_unswept g.W.Watch.heard g.met.W.Watch.on c.args.self.now c.client_turns.new.self c.repairer_turns.new.self c.len-clients.result c.len-repairers.result
    (c.len-clients.ensures ∙ ap (λ (s : StoredWorld). length s.script.clients) c.self.view_is) (c.len-repairers.ensures ∙ ap (λ (s : StoredWorld). length s.script.repairers) c.self.view_is)
    c.client_turns.ensures.same c.repairer_turns.ensures.same c.args.watch.now c.client_turns.new.watch c.repairer_turns.new.watch c.in_ok-client_turns.ensures.told c.in_ok-repairer_turns.ensures.told
    (g.met.W.Watch.none c.repairer_turns.new.watch) (sym c.sweeper_has_step.ensures ∙ c.if-sweeper_has_step.false)

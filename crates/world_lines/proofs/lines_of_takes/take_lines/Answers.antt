use Rattle.std.proofs.Common.{◌++◌, map, ap, ◌∙◌}
use Rattle.store_core.specs.Shown.{client_name, repairer_name, lines_of_actors, take_lines}
use Rattle.call_steps.specs.CallerCalls.{calling_at}
use Rattle.world_lines.proofs.lines_of_takes.take_lines.Goals as goal

pub returns : goal.returns
returns c = λ servers.
    let clients = lines_of_actors (λ i. take_lines (client_name i)) (map (calling_at servers) c.args.clients.now) in
    let repairers = lines_of_actors (λ i. take_lines (repairer_name i)) (map (calling_at servers) c.args.repairers.now) in
    c.in_ok-push_callers-2.ensures servers ∙ ap (λ l. l ++ repairers) (c.in_ok-push_callers.ensures servers ∙ ap (λ l. l ++ clients) c.new-lines.ensures)

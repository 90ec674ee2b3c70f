use Rattle.std.proofs.Common.{map, ap, ◌∙◌}
use Rattle.call_steps.specs.CallerCalls.{calling_at}
use Rattle.world_lines.specs.Lists.{refused_lines, unanswered_lines, all_take_lines}
use Rattle.world_lines.proofs.Together.{shown_together}
use Rattle.world_lines.proofs.world_transcript.make_transcript.Goals as goal

pub returns : goal.returns
returns c =
    let repairers = c.args.repairers.now in
    shown_together c.args.directory.now.core c.args.servers.now c.args.clients.items repairers _
    (record {
      history = c.in_ok-history.ensures;
      refused = λ n. c.in_ok-refused.ensures n ∙ ap (λ clients. refused_lines (map (calling_at n) clients)) c.deref.ensures.value;
      repairs = c.in_ok-repairs.ensures;
      unanswered = λ n. c.in_ok-unanswered.ensures n ∙ ap (λ clients. unanswered_lines (map (calling_at n) clients) (map (calling_at n) repairers)) c.deref-2.ensures.value;
      objects = c.in_ok-objects.ensures;
      takes = λ n. c.in_ok-takes.ensures n ∙ ap (λ clients. all_take_lines (map (calling_at n) clients) (map (calling_at n) repairers)) c.deref-3.ensures.value;
      servers_are = c.in_ok-servers.ensures;
    })

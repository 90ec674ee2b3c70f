use Rattle.std.proofs.Common.{◌∙◌, sym}
use Rattle.world_lines.proofs.NoTakes.{nothing_taken, something_taken}
use Rattle.world_lines.proofs.lines_of_takes.push_takes.Goals as goal

pub returns-in_default : goal.returns-in_default
returns-in_default c = λ servers. nothing_taken servers c.args.lines.now c.args.call c.args.takes.now c.in_default.is

pub returns : goal.returns
returns c = λ servers.
    something_taken servers c.args.lines.now c.push.new.self c.args.call c.args.takes.now c.in-Some.takes c.from_vec-takes.result c.in-Some.is
    (sym c.any.ensures ∙ c.if-not-any.false)
    (c.from_vec-takes.ensures ∙ c.in_ok-from_slice.ensures.items ∙ c.counts.ensures) c.in_ok-push.ensures.ok

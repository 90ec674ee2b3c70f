use Rattle.std.proofs.Common.{ℕ, sym, ap, ◌∙◌}
use Rattle.store_map.specs.declared.call_name.CallName.TheVariants.{Repairer}
use Rattle.store_map.specs.declared.cause.RepairResult.{RepairResult}
use Rattle.hist_rules.specs.First.{unless}
use Rattle.hist_rules.specs.Counts.{downs}
use Rattle.hist_rules.specs.MissingChunk.{is_told_downs}
use Rattle.hist_rules.specs.CausesNamed.{result_named}
use Rattle.hist_rules.specs.declared.verdict.Verdict.TheVariants.{BadCause}
use Rattle.hist_check.proofs.results.result_named.Goals as goal

pub returns-in-Away : goal.returns-in-Away
returns-in-Away c =
    let script = c.args.script.now in
    c.downs_fit.ensures script c.requires.downs
    ∙ ap (λ (server : ℕ). unless (is_told_downs script server c.in-Away.downs) (BadCause (Repairer c.args.line.now.call) (downs script server) c.in-Away.downs)) c.from.ensures
    ∙ sym (ap (λ (outcome : RepairResult). result_named script c.args.transcript.now (Repairer c.args.line.now.call) outcome c.args.rebuild.now) c.in-Away.is)

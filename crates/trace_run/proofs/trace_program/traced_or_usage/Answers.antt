use Rattle.std.proofs.Common.{sym, ◌∙◌}
use Rattle.trace_run.proofs.ServesLemmas.{no_words, some_words, serves_usage, part_taken, nothing_taken}
use Rattle.trace_run.proofs.trace_program.traced_or_usage.Goals as goal

pub returns-then-not-is_empty : goal.returns-then-not-is_empty
returns-then-not-is_empty g c =
    serves_usage _ _ _ _ _ _ _ _ (some_words _ _ (sym c.is_empty.ensures ∙ c.if-not-is_empty.true)) c.write_out.ensures.which
    (λ not. (c.write_out.ensures.accepted not).1) (λ failed other. (c.write_out.ensures.part failed other).0)

pub returns : goal.returns
returns g c =
    let said = c.trace_main.ensures in
    let none = no_words _ _ (sym c.is_empty.ensures ∙ c.if-not-is_empty.false) in record {
      usage = λ some. absurd (some none);
      traces = λ _. said.which;
      output = λ has. let h = said.output has in (h.0, h.1, h.2.0.0, h.2.1, h.3, h.4, h.5.0);
      part = λ failed _. let h = said.prefix failed in (h.0, h.1, h.2, h.3.0.0, h.3.1, h.4, h.5, part_taken _ _ _ _ _ h.6);
      silent = λ is. nothing_taken _ _ _ _ (said.silent is);
      long = λ is. let h = said.cut is in (h.0, h.1, h.2.0);
      most = λ is. let h = said.most is in (h.0, h.1, h.2.0);
    }

use Rattle.std.proofs.Common.{length, sym, subst, ap, ◌∙◌}
use Rattle.code_laws.proofs.Pieces.{written_whole}
use Rattle.lost_read.specs.Values.{HoldsAllIn}
use Rattle.lost_read.proofs.MissingReadLaws.{read_run}
use Rattle.lost_read.proofs.missing_reading.Reading.read.Goals as goal

pub write_run-requires-clause-values : goal.write_run-requires-clause-values
write_run-requires-clause-values c =
    subst (HoldsAllIn c.args.self.now)
    (sym (c.deref.ensures.value
    ∙ written_whole c.in_ok-values.values.len c.in_ok-values.values.items c.solve.new.values c.in_ok-values.values.ok.0 (c.solve.auto.values ∙ ap length c.deref_mut-3.ensures.value)))
    c.solve.ensures

pub returns-clause-read : goal.returns-clause-read
returns-clause-read c = read_run c.args.self.now c.requires.reading c.write_run.new.out (c.write_run.auto.out ∙ c.requires.out_len) c.write_run.ensures

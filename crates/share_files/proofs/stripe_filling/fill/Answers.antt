use Rattle.std.proofs.Common.{◌∙◌}
use Rattle.share_files.proofs.FillLemmas.{more_within, more_given, more_heard}
use Rattle.share_files.proofs.stripe_filling.fill.Goals as goal

pub reads-preserved : goal.reads-preserved
reads-preserved g c = record {
  within = more_within c.reads.at c.in-Ok.n c.reads.buf c.read.new.buf c.reads.invariant.within c.in-Ok.ensures.bound;
  given =
      more_given c.reads.at c.in-Ok.n c.reads.buf c.read.new.buf c.reads.invariant.within _ _ _ c.in-Ok.ensures.bound c.reads.invariant.given
      c.in-Ok.ensures.bytes;
  heard =
      more_heard c.reads.at c.in-Ok.n c.reads.buf c.read.new.buf c.reads.invariant.within _ _ _ c.in-Ok.ensures.bound c.reads.invariant.heard
      c.in-Ok.ensures.hands_out;
  steady = c.in-Ok.ensures.steady ∙ c.reads.invariant.steady;
}

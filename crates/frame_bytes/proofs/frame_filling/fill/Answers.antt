use Rattle.frame_bytes.proofs.FillLemmas.{more_within, more_given, more_heard, cut_there, cut_heard}
use Rattle.std.proofs.Common.{◌≡◌, ◌<◌, ◌-◌, ◌∙◌, length, arith}
use Rattle.std.proofs.lemmas.Grind.{common_steps}
use Rattle.frame_bytes.proofs.frame_filling.fill.Goals as goal

pub reads-preserved : goal.reads-preserved
reads-preserved g c = record {
  within = more_within c.reads.at c.in-Ok.n c.reads.buf c.read.new.buf c.reads.invariant.within c.in-Ok.ensures.bound;
  given =
      more_given c.reads.at c.in-Ok.n c.reads.buf c.read.new.buf c.reads.invariant.within _ _ _ c.in-Ok.ensures.bound c.reads.invariant.given
      c.in-Ok.ensures.bytes;
  heard =
      more_heard c.reads.at c.in-Ok.n c.reads.buf c.read.new.buf c.reads.invariant.within _ _ _ c.in-Ok.ensures.bound c.reads.invariant.heard
      c.in-Ok.ensures.hands_out;
  steady = c.in-Ok.ensures.steady ∙ c.reads.invariant.steady;
}

pub returns-in-Err-clause-cut : goal.returns-in-Err-clause-cut
returns-in-Err-clause-cut g c =
    let less : c.reads.at < length c.reads.buf = omega arith in
    let size : length c.read.new.buf ≡ length c.reads.buf - c.reads.at = grind (arith, common_steps) in
    cut_there c.reads.at c.reads.buf c.read.new.buf _ _ _ c.reads.invariant.within (omega (arith, less, size)) c.reads.invariant.given
    c.in-Err.ensures.no_bytes

pub returns-in-Err-clause-part : goal.returns-in-Err-clause-part
returns-in-Err-clause-part g c =
    let less : c.reads.at < length c.reads.buf = omega arith in
    let size : length c.read.new.buf ≡ length c.reads.buf - c.reads.at = grind (arith, common_steps) in
    cut_heard c.reads.at c.reads.buf c.read.new.buf _ _ _ _ _ _ c.reads.invariant.within (omega (arith, less, size)) c.reads.invariant.heard
    c.in-Err.ensures.unheard.0 c.reads.invariant.given c.in-Err.ensures.no_bytes

use Rattle.std.proofs.Common.{◌<◌, ◌∙◌, arith}
use Rattle.file_bytes.proofs.PlaceLemmas.{more_within, more_given, none_ended, shown_row, full_row}
use Rattle.file_bytes.proofs.positions.read_exact_at.Goals as goal

pub reads-preserved : goal.reads-preserved
reads-preserved g c =
    let some : 0 < c.in-Ok.n = grind arith in record {
      within = more_within c.reads.done c.in-Ok.n c.reads.buf c.read_at.new.buf c.reads.invariant.within c.in-Ok.ensures.bound;
      given =
          more_given c.reads.done c.in-Ok.n c.reads.buf c.read_at.new.buf c.reads.invariant.within c.args.at _ _ _ c.in-Ok.ensures.bound
          c.reads.invariant.given c.in-Ok.ensures.hands_out;
      ends = c.in-Ok.ensures.tells_end ∙ none_ended _ _ c.in-Ok.n some ∙ c.reads.invariant.ends;
      steady = c.in-Ok.ensures.steady ∙ c.reads.invariant.steady;
    }

pub returns-clause-shown : goal.returns-clause-shown
returns-clause-shown g c = λ file shows.
    shown_row file _ _ c.args.at c.reads.buf (full_row _ _ c.args.at c.reads.done c.reads.buf (omega arith) c.reads.invariant.given) shows.bytes

use Rattle.std.proofs.Common.{arith, sym, ap, ◌∙◌}
use Rattle.transcript_read.specs.Reasons.{pair_text}
use Rattle.transcript_read.proofs.ListLaws.{listed, listed_some}
use Rattle.transcript_read.proofs.PartLaws.{pair_lacks}
use Rattle.transcript_read.proofs.outcome_field.read_pairs.Goals as goal

pub read_list-requires : goal.read_list-requires
read_list-requires c =
    λ p is. pair_lacks 32 p (omega arith) is

pub returns-then-is_empty : goal.returns-then-is_empty
returns-then-is_empty c =
    λ pairs is e.
    let empty = c.is_empty.ensures.0 c.if-is_empty.true in
    listed_some pair_text pairs is.1 (sym e ∙ c.in_ok-pairs.ensures.1 ∙ ap (listed pair_text) empty)

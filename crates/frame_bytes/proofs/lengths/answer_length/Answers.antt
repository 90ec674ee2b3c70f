use Rattle.std.proofs.Common.{◌≡◌, ◌+◌, ◌*◌, length, sym, subst}
use Rattle.session_rules.specs.Replies.{answer_bytes}
use Rattle.frame_bytes.proofs.LengthLemmas.{unavailable_length, healed_length}
use Rattle.frame_bytes.proofs.lengths.answer_length.Goals as goal

pub returns-in-Unavailable : goal.returns-in-Unavailable
returns-in-Unavailable c =
    subst (λ a. c.len.result * 20 + 6 ≡ length (answer_bytes a)) (sym c.in-Unavailable.is)
    (unavailable_length c.in-Unavailable.stripe c.len.result c.in-Unavailable.missing c.len.ensures)

pub returns-in-Healed : goal.returns-in-Healed
returns-in-Healed c =
    subst (λ a. c.len-in-Healed.result * 8 + 9 ≡ length (answer_bytes a)) (sym c.in-Healed.is)
    (healed_length c.in-Healed.rebuilt c.len-in-Healed.result c.in-Healed.taken c.len-in-Healed.ensures)

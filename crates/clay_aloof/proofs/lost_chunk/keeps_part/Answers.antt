use Rattle.std.proofs.Common.{◌≡◌, ◌^◌, ◌<◌, get_or, Some, None, sym, subst, ◌∙◌}
use Rattle.clay_aloof.proofs.lost_chunk.keeps_part.Goals as goal

pub returns-in-Some : goal.returns-in-Some
returns-in-Some c = λ piece there i.
    let both : Some c.in-Some.bytes.now ≡ Some piece = sym c.in-Some.ensures ∙ there in
    let same : c.in-Some.bytes.now ≡ piece = cc in
    subst (λ l. get_or l i 0 < 2 ^ 8) same (c.keeps_bytes.ensures i)

pub returns-in_default : goal.returns-in_default
returns-in_default c = λ piece there i.
    absurd (let none : None ≡ Some piece = sym c.in_default.ensures ∙ there in cc)

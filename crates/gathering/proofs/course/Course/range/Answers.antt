use Rattle.std.proofs.Common.{◌≡◌, refl, sym, ◌∙◌}
use Rattle.gathering.proofs.BeginsRange.{range_begins}
use Rattle.gathering.proofs.course.Course.range.Goals as goal

pub invariant_of-result : goal.invariant_of-result
invariant_of-result c =
    range_begins _ c.deref.result.now c.args.start c.args.end refl refl c.in_ok-first.ensures.chunks c.deref.ensures.value c.requires.some c.on_fetch-position.ensures.late c.on_fetch-position.ensures.placed
    c.requires.placed (sym c.in_ok-missing.missing.ok.0 ∙ c.in_ok-missing.ensures.len ∙ c.n-servers.ensures.value) (sym c.in_ok-gone.gone.ok.0 ∙ c.in_ok-gone.ensures.len ∙ c.n-servers.ensures.value)

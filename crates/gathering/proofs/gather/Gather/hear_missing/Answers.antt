use Rattle.std.proofs.Common.{◌≡◌, ◌<◌, ◌≤◌, length, drop, sym, ap, subst, ◌∙◌, arith}
use Rattle.std.proofs.lemmas.List.{take_at}
use Rattle.gathering.specs.Courses.{IsAskingStage}
use Rattle.gathering.specs.Parts.{Shelf}
use Rattle.gathering.specs.Gathers.{GatherOf}
use Rattle.gathering.specs.Inside.{IsGather}
use Rattle.gathering.proofs.Gathered.{after_missing}
use Rattle.gathering.proofs.gather.Gather.hear_missing.Goals as goal

pub invariant_of-self : goal.invariant_of-self
invariant_of-self c =
    let a = c.self.inside in
    let later : Shelf = c.let_go_of_one.new.helpers in
    let long : length later ≡ a.helpers.len = omega (arith, c.let_go_of_one.auto.helpers, ap length c.deref_mut.ensures.value, a.helpers.ok.0) in
    let gone = c.gone-missing.ensures in
    subst (λ (shelf : Shelf). IsGather a.stamp c.told_missing.new.self a.wanted.items shelf)
    (sym (take_at later (drop (length later) a.helpers.items) a.helpers.len long))
    (after_missing a.stamp a.course c.told_missing.new.self a.wanted.items a.helpers.items c.self.invariant c.args.found later
    (subst (λ (w : GatherOf). IsAskingStage w.course.stage) (sym c.self.view_is) c.requires) c.told_missing.ensures
    (omega (arith, long, a.helpers.ok.0))
    (λ few. c.let_go_of_one.ensures.few (subst (λ l. length l < 2) (sym gone) few))
    (λ many. c.let_go_of_one.ensures.many (subst (λ l. 2 ≤ length l) (sym gone) many) ∙ c.deref_mut.ensures.value))

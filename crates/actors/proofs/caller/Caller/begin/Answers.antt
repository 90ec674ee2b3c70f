use Rattle.std.proofs.Common.{◌≡◌, None, sym, ap, ◌∙◌}
use Rattle.actors.specs.Callers.{CallerOf}
use Rattle.actors.proofs.Begins.{none_of}
use Rattle.actors.proofs.caller.Caller.begin.Goals as goal

pub begin_next-requires-clause-none : goal.begin_next-requires-clause-none
begin_next-requires-clause-none c =
    let none : c.self.inside.call ≡ None = none_of c.self.inside.call (sym c.is_some.ensures ∙ c.if-is_some.false) in
    sym (ap (λ (o : CallerOf). o.work) c.self.view_is) ∙ none

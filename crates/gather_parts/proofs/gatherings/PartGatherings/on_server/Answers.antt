use Rattle.std.proofs.Common.{◌≡◌, false, is_err, length, IfSome, refl, sym, ap, subst, ◌∙◌}
use Rattle.store_core.specs.Server.{Server}
use Rattle.gathering.specs.Gathers.{GatherOf}
use Rattle.clay_grid.specs.Shape.{chunk_count}
use Rattle.chunk_server.specs.Core.{core_of}
use Rattle.gather_parts.specs.Gatherings.{GatheringsOf, owed}
use Rattle.gather_parts.specs.Steps.{stepped}
use Rattle.gather_parts.specs.Inside.{IsAtWork}
use Rattle.gather_parts.specs.States.{moved}
use Rattle.gather_parts.proofs.AtWork.{still_at_work, still_counted, stepped_is, still_owed, same_book}
use Rattle.gather_parts.proofs.Moving.{step_moves, step_tells}
use Rattle.gather_parts.proofs.gatherings.PartGatherings.on_server.Goals as goal

pub invariant_of-self : goal.invariant_of-self
invariant_of-self c =
    let a = c.self.inside in
    let w = c.in-Some.gather in
    let takes = c.in-Some-takes.takes in
    let after = c.on_server.new in
    record {
      left = c.self.invariant.left;
      counts = still_counted a.opening w after.self (is_err c.on_server.result) (core_of c.args.s.now) (core_of after.s) takes after.takes c.on_server.ensures.step
          ∙ subst (λ o. IfSome o (λ counts. length counts ≡ chunk_count a.opening.geometry)) c.in-Some-takes.is c.self.invariant.counts;
      current = still_at_work a.opening w after.self (is_err c.on_server.result) (core_of c.args.s.now) (core_of after.s) takes after.takes c.on_server.ensures.step
          (subst (λ o. IfSome o (IsAtWork a.opening)) c.in-Some.is c.self.invariant.current);
      counted = λ _. refl;
    }

pub returns-clause-step : goal.returns-clause-step
returns-clause-step c =
    let after = c.on_server.new in
    stepped_is c.self.inside c.in-Some.gather after.self (is_err c.on_server.result) (core_of c.args.s.now) (core_of after.s) c.in-Some-takes.takes after.takes c.in-Some.is c.in-Some-takes.is c.on_server.ensures.step
    ∙ ap (λ (p : GatheringsOf). stepped p (is_err c.on_server.result) (core_of c.args.s.now)) c.self.view_is

pub returns-clause-owed : goal.returns-clause-owed
returns-clause-owed c =
    ap (λ (r : Server × GatheringsOf). owed r.1) (returns-clause-step c) ∙ still_owed c.args.self.now (is_err c.on_server.result) (core_of c.args.s.now)

pub returns-clause-call : goal.returns-clause-call
returns-clause-call c = λ call after due stands.
    let short = is_err c.on_server.result in
    let a = c.self.inside in
    ap (λ (r : Server × GatheringsOf). (r.0, moved call r.1 after due short)) (returns-clause-step c)
    ∙ step_moves call after due short (core_of c.args.s.now) c.args.self.now c.args.s.now.number
    (subst (λ (p : GatheringsOf). IfSome p.current (λ w. w.course.geometry ≡ p.book.geometry)) c.self.view_is
    (subst (λ o. IfSome o (λ (w : GatherOf). w.course.geometry ≡ a.opening.geometry)) (sym c.in-Some.is)
    (subst (λ o. IfSome o (IsAtWork a.opening)) c.in-Some.is c.self.invariant.current).code))
    c.requires.asked stands

pub returns-clause-book : goal.returns-clause-book
returns-clause-book c =
    ap (λ (r : Server × GatheringsOf). r.1.book) (returns-clause-step c) ∙ same_book c.args.self.now (is_err c.on_server.result) (core_of c.args.s.now)

pub returns-clause-told : goal.returns-clause-told
returns-clause-told c = λ call after stands.
    let a = c.self.inside in
    c.on_server.ensures.told
    ∙ step_tells call after false (is_err c.on_server.result) (core_of c.args.s.now) c.args.self.now c.in-Some.gather c.args.s.now.number
    (sym (ap (λ (p : GatheringsOf). p.current) c.self.view_is) ∙ c.in-Some.is)
    ((subst (λ o. IfSome o (IsAtWork a.opening)) c.in-Some.is c.self.invariant.current).code ∙ ap (λ (p : GatheringsOf). p.book.geometry) c.self.view_is)
    c.requires.asked stands

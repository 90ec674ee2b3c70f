use Rattle.std.proofs.Common.{◌+◌, Some, sym, subst, ap, ◌∙◌}
use Rattle.version_seal.specs.Entry.{BookOf}
use Rattle.dir_walks.specs.Callers.{CallerOf, IsRight, Steps}
use Rattle.dir_walks.specs.Inside.{caller_in}
use Rattle.dir_walks.proofs.Made.{look_steps}
use Rattle.dir_walks.proofs.test_caller.Caller.look.Goals as goal

pub returns : goal.returns
returns c =
    let was : CallerOf = caller_in c.self.inside in
    let now : CallerOf = record { who = was.who; token = c.look.new.self; stage = c.stage_after_look-self-inside.result; number = c.args.number; unused = c.from-2.result + 1; drawn = was.drawn; request = Some c.request.result } in
    record {
      steps =
          subst (λ (x : CallerOf). Steps c.args.directory.now x c.look.new.directory now) c.self.view_is
          (look_steps c.args.directory.now c.look.new.directory was (subst (IsRight c.args.directory.now) (sym c.self.view_is) c.requires.ready.right) c.look.new.self c.in_ok-answer.ensures.agrees c.in_ok-answer.ensures.book
          c.args.call.now c.in_ok-answer.answer c.stage_after_look-self-inside.result c.args.number c.from-2.result c.request.result c.in-Seated.is c.stage_after_look-self-inside.ensures c.from-2.ensures (c.request.ensures ∙ ap (λ (b : BookOf). record { home = b.home; actor = was.who; number = c.args.number; call = c.args.call.now }) c.requires.ready.same_book) (ap (λ (b : BookOf). b.script) (sym c.requires.ready.same_book) ∙ c.requires.ready.free) c.in_ok-answer.ensures.step c.in_ok-answer.ensures.token);
    }

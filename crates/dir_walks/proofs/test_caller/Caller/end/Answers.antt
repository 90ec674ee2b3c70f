use Rattle.std.proofs.Common.{◌+◌, sym, subst, ap, ◌∙◌}
use Rattle.store_core.specs.Act.{DirectoryStep}
use Rattle.dir_walks.specs.Callers.{CallerOf, IsRight, Steps, is_seated}
use Rattle.dir_walks.specs.declared.test_stage.WalkStage.TheVariants as stage
use Rattle.dir_walks.specs.Inside.{caller_in}
use Rattle.dir_walks.proofs.Made.{end_steps}
use Rattle.dir_walks.proofs.test_caller.Caller.end.Goals as goal

pub returns : goal.returns
returns c =
    let was : CallerOf = caller_in c.self.inside in
    let now : CallerOf = record { who = was.who; token = c.end-answer.new.self; stage = stage.Seated; number = was.number; unused = c.from.result + 1; drawn = was.drawn; request = was.request } in
    record {
      steps =
          subst (λ (x : CallerOf). Steps c.args.directory.now x c.end-answer.new.directory now) c.self.view_is
          (end_steps c.args.directory.now c.end-answer.new.directory was (subst (IsRight c.args.directory.now) (sym c.self.view_is) c.requires.ready.right) c.end-answer.new.self c.end-answer.ensures.agrees c.end-answer.ensures.book
          DirectoryStep.End c.end-answer.result c.from.result (ap (λ (x : CallerOf). is_seated x.stage) c.self.view_is ∙ sym c.is_seated.ensures ∙ c.if-is_seated.false) c.from.ensures c.end-answer.ensures.step c.end-answer.ensures.token);
    }

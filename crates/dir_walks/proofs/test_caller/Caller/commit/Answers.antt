use Rattle.std.proofs.Common.{map, sym, subst}
use Rattle.store_core.specs.Act.{DirectoryStep}
use Rattle.dir_walks.specs.Callers.{CallerOf, IsRight, Steps}
use Rattle.dir_walks.specs.declared.test_stage.WalkStage.TheVariants as stage
use Rattle.dir_walks.specs.Inside.{caller_in}
use Rattle.dir_walks.proofs.Made.{commit_steps}
use Rattle.dir_walks.proofs.test_caller.Caller.commit.Goals as goal

pub returns : goal.returns
returns c =
    let was : CallerOf = caller_in c.self.inside in
    let now : CallerOf = record { who = was.who; token = c.commit-answer.new.self; stage = stage.Seated; number = was.number; unused = c.unused_after_commit-self-inside.result; drawn = was.drawn; request = was.request } in
    record {
      steps =
          subst (λ (x : CallerOf). Steps c.args.directory.now x c.commit-answer.new.directory now) c.self.view_is
          (commit_steps c.args.directory.now c.commit-answer.new.directory was (subst (IsRight c.args.directory.now) (sym c.self.view_is) c.requires.ready.right) c.commit-answer.new.self c.commit-answer.ensures.agrees c.commit-answer.ensures.book
          (DirectoryStep.Commit (map (λ row. row.items) c.in_ok-placed.placed.items)) c.commit-answer.result c.unused_after_commit-self-inside.result c.in-Drawn.is c.unused_after_commit-self-inside.ensures c.commit-answer.ensures.step c.commit-answer.ensures.token);
    }

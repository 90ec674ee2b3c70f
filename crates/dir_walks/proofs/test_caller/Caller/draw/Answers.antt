use Rattle.std.proofs.Common.{◌+◌, option_map, sym, subst}
use Rattle.dir_walks.specs.Callers.{CallerOf, IsRight, Steps}
use Rattle.dir_walks.specs.Inside.{caller_in}
use Rattle.dir_walks.proofs.Made.{draw_steps}
use Rattle.dir_walks.proofs.test_caller.Caller.draw.Goals as goal

pub returns : goal.returns
returns c =
    let was : CallerOf = caller_in c.self.inside in
    let now : CallerOf = record { who = was.who; token = c.draw.new.self; stage = c.stage_after_draw-self-inside.result; number = was.number; unused = c.from.result + 1; drawn = c.drawn_by-self-inside.result; request = was.request } in
    record {
      steps =
          subst (λ (x : CallerOf). Steps c.args.directory.now x c.draw.new.directory now) c.self.view_is
          (draw_steps c.args.directory.now c.draw.new.directory was (subst (IsRight c.args.directory.now) (sym c.self.view_is) c.requires.ready.right) c.draw.new.self c.in_ok-answer.ensures.agrees c.in_ok-answer.ensures.book
          c.in_ok-answer.answer c.stage_after_draw-self-inside.result c.drawn_by-self-inside.result c.from.result c.in-Begun.is c.keeps.ensures.stamps.code c.stage_after_draw-self-inside.ensures c.drawn_by-self-inside.ensures c.from.ensures (option_map (λ r. r.now) c.as_ref.result) c.in_ok-answer.ensures.drawn c.in_ok-answer.ensures.step c.in_ok-answer.ensures.token);
    }

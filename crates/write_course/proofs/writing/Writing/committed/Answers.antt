use Rattle.std.proofs.Common.{vec_capacity, ◌∙◌, ap}
use Rattle.write_course.specs.States.{settles_or_is_done}
use Rattle.write_course.specs.Inside.{prepared_in}
use Rattle.write_course.proofs.Kept.{settles_kept}
use Rattle.write_course.proofs.Steps.{committed_core}
use Rattle.write_course.proofs.writing.Writing.committed.Goals as goal

pub invariant_of-self : goal.invariant_of-self
invariant_of-self c =
    let a = c.self.inside in
    let kept = c.self.invariant in
    record {
      servers = kept.servers;
      home = kept.home;
      numbered = kept.numbered;
      whole = kept.whole;
      kept =
          rw c.settles_or_is_done-self-inside.ensures
          (settles_kept a.opening.geometry a.stamps.items (vec_capacity a.rows) (prepared_in a) c.args.point.0 0 c.len.result (c.len.ensures ∙ a.stamps.ok.0) kept.servers);
    }

pub returns : goal.returns
returns c =
    committed_core c.self.inside c.self.invariant c.args.self.now c.self.view_is c.requires c.args.point c.settles_or_is_done-self-inside.result
    (c.settles_or_is_done-self-inside.ensures ∙ ap (settles_or_is_done 0) (c.len.ensures ∙ c.self.inside.stamps.ok.0))

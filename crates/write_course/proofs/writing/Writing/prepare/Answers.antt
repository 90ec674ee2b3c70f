use Rattle.std.proofs.Common.{◌≡◌, true, false, map, length, ◌∙◌, sym}
use Rattle.write_course.specs.States.{placed_on}
use Rattle.write_course.specs.Inside.{prepared_in}
use Rattle.write_course.proofs.Steps.{prepare_core, prepared_kept}
use Rattle.write_course.proofs.Telling.{prepare_tells}
use Rattle.write_course.proofs.writing.Writing.prepare.Goals as goal

-- where the writing goes on
goes : (c : goal.Joined-self-work) → (c.place_on-doing.result.0, record { rows = map (λ row. row.items) c.place_on-doing.new.rows.items; work = c.place_on-doing.result.1 })
    ≡ placed_on c.self.inside.opening.geometry (length c.self.inside.stamps.items) (prepared_in c.self.inside).rows c.in-Ok.placing
goes c =
    c.place_on-doing.ensures.after
    ∙ (λ i. placed_on (c.geometry-geometry.ensures i) (count i) (prepared_in c.self.inside).rows c.in-Ok.placing)
  where
    count : c.len-versions.result ≡ length c.self.inside.stamps.items
    count = c.len-versions.ensures ∙ c.self.inside.stamps.ok.0

pub invariant_of-self : goal.invariant_of-self
invariant_of-self c =
    let a = c.self.inside in
    let kept = c.self.invariant in
    let now =
    prepared_kept a kept c.args.self.now c.self.view_is c.requires.preparing c.in-Some.placing (sym c.take.ensures.value ∙ c.in-Some.is)
    _ _ c.in-Ok.placing c.in-Ok.ensures.ok _ (goes c) in
    record {
      servers = kept.servers;
      home = kept.home;
      numbered = kept.numbered;
      whole = now.0;
      kept = rw c.place_on-doing.ensures.same (now.1);
    }

pub returns-in-Ok-clause-step : goal.returns-in-Ok-clause-step
returns-in-Ok-clause-step c =
    prepare_core c.self.inside c.self.invariant c.args.self.now c.self.view_is c.requires.preparing c.in-Some.placing (sym c.take.ensures.value ∙ c.in-Some.is)
    _ _ c.in-Ok.placing c.in-Ok.ensures.ok _ (goes c)

pub returns-in-Ok-clause-told : goal.returns-in-Ok-clause-told
returns-in-Ok-clause-told c = prepare_tells c.args.self.now.state false _ _ _ _ c.requires.preparing c.in-Ok.ensures.told

pub returns-in-Err-clause-told : goal.returns-in-Err-clause-told
returns-in-Err-clause-told c = prepare_tells c.args.self.now.state true _ _ c.in-Some.placing.stamp.version _ c.requires.preparing c.in-Err.ensures.err

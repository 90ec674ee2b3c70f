use Rattle.std.proofs.Common.{◌≡◌, ◌+◌, ◌<◌, ◌∙◌, length, ap, subst, sym, arith}
use Rattle.std.proofs.lemmas.List.{with_items_is}
use Rattle.dir_parts.specs.PointLog.{told_of}
use Rattle.world_lines.proofs.Numbered.{none_mapped_within}
use Rattle.world_lines.proofs.SoFar.{SoFar, none_so_far, told_so_far, all_so_far}
use Rattle.world_lines.proofs.lines_of_history.history_lines.Goals as goal
use Rattle.world_lines.proofs.lines_of_history.history_lines.Goals.{in-Some+in_ok-push_point, in_default}

pub loop-place-init : goal.loop-place-init
loop-place-init c = λ max servers calls served.
    subst (SoFar max calls servers c.args.directory.now.core.points c.args.clients.items c.args.clients.items 0) (sym c.new-lines.ensures)
    (none_so_far max calls servers c.args.directory.now.core.points c.args.clients.items)

pub loop-place-preserved : goal.loop-place-preserved
loop-place-preserved c = λ max servers calls served.
    let points = c.args.directory.now.core.points in
    elim c.match-point_at.branch [
      | in-Some+in_ok-push_point w ↦
          let taken : w.deref_mut.result.now ≡ c.loop-place.clients.items = w.deref_mut.ensures.value in
          let old_length : length w.deref_mut.result.now ≡ length c.loop-place.clients.items = ap length taken in
          let left : c.match-point_at.clients.items ≡ w.push_point.new.clients =
          ap (λ v. v.items) w.clients-is ∙ with_items_is c.loop-place.clients w.push_point.new.clients (omega (arith, w.push_point.auto.clients, c.loop-place.clients.ok.0)) in
          let before : SoFar max calls servers points c.args.clients.items w.deref_mut.result.now c.loop-place.place c.loop-place.lines =
          subst (λ now. SoFar max calls servers points c.args.clients.items now c.loop-place.place c.loop-place.lines) (sym taken) (c.loop-place.invariant max servers calls served) in
          subst (λ now. SoFar max calls servers points c.args.clients.items now (c.loop-place.place + 1) c.match-point_at.lines) (sym left)
          (told_so_far max calls servers points c.args.clients.items served c.loop-place.place (told_of w.in-Some.entry) w.in-Some.ensures
          w.deref_mut.result.now w.push_point.new.clients w.push_point.ensures.others c.loop-place.lines c.match-point_at.lines
          (w.lines-is ∙ w.in_ok-push_point.ensures.lines) before)
      | in_default w ↦
          absurd (none_mapped_within (λ point. (point.actor, point.number, point.event)) points c.loop-place.place w.in_default.ensures
          (subst (λ n. c.loop-place.place < n) c.points-place-end.ensures c.loop-place-test.true))
    ]

pub returns : goal.returns
returns c = λ max servers calls served.
    all_so_far max calls servers c.args.directory.now.core.points c.args.clients.items c.loop-place.clients.items c.loop-place.place c.loop-place.lines
    (omega arith) (c.loop-place.invariant max servers calls served)

use Rattle.std.proofs.Common.{◌≡◌, length, map, sym, ◌∙◌, arith}
use Rattle.hist_rules.specs.ObjectsListed.{first_difference}
use Rattle.hist_check.proofs.Differences.{line_of, object_fits, object_differs, object_unlisted}
use Rattle.hist_check.proofs.object_lines.find_wrong_object.Goals as goal

pub returns-in-Some-2 : goal.returns-in-Some-2
returns-in-Some-2 c =
    let objects = c.args.objects.now.objects in
    let lines = c.args.lines.now in
    object_differs objects lines c.loop-place.place (first_difference (map line_of objects) lines) c.loop-place.invariant c.index-lines-place.result c.loop-place-test.true c.index-lines-place.is
    (c.in-Some.name.now, c.in-Some.bytes.now) c.in-Some.ensures.found c.in-Some-2.fault (sym c.in_ok-fault.ensures ∙ c.in-Some-2.is)

pub loop-place-preserved : goal.loop-place-preserved
loop-place-preserved c =
    let objects = c.args.objects.now.objects in
    let lines = c.args.lines.now in
    object_fits objects lines c.loop-place.place (first_difference (map line_of objects) lines) c.loop-place.invariant c.index-lines-place.result c.loop-place-test.true c.index-lines-place.is
    (c.in-Some.name.now, c.in-Some.bytes.now) c.in-Some.ensures.found (sym c.in_ok-fault.ensures ∙ c.in_default-2.is)

pub returns-in_ok-unlisted_object-in-Some-at : goal.returns-in_ok-unlisted_object-in-Some-at
returns-in_ok-unlisted_object-in-Some-at c =
    let objects = c.args.objects.now.objects in
    let lines = c.args.lines.now in
    let here : length lines ≡ c.loop-place.place = omega arith in
    object_unlisted objects lines c.loop-place.place (first_difference (map line_of objects) lines) c.loop-place.invariant c.loop-place-test.false
    (c.in-Some-at.name.now, c.in-Some-at.bytes.now) (length lines) here c.in-Some-at.ensures.found _ c.in_ok-unlisted_object-in-Some-at.ensures

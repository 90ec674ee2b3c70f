use Rattle.std.proofs.Common.{◌≡◌, true, refl, arith}
use Rattle.script_text.specs.Reader.{script_of}
use Rattle.script_text.specs.Spelling.{spelling}
use Rattle.script_text.proofs.ScriptLaws.{few_read, line_missing, line_refused, read_opened, read_more, ended, front_length, front_left}
use Rattle.script_text.proofs.whole_script.read_to_end.Goals as goal

pub overflow_add-lines : goal.overflow_add-lines
overflow_add-lines c =
    let few = few_read c.args.bytes.now c.loop-alloc.reader c.loop-alloc.rest.now c.loop-alloc.lines c.loop-alloc.invariant in omega (arith, few)

pub returns-in_default-clause-fault : goal.returns-in_default-clause-fault
returns-in_default-clause-fault c =
    line_missing c.args.bytes.now c.loop-alloc.reader c.loop-alloc.rest.now c.loop-alloc.lines c.at.result c.loop-alloc.invariant
    (λ at. let yes : c.has_ended.result ≡ true = c.has_ended.ensures.1 at in cc (yes, c.loop-alloc-test.true)) c.in_default.ensures.none c.at.ensures

pub overflow_add-lines-in-Err-take_line : goal.overflow_add-lines-in-Err-take_line
overflow_add-lines-in-Err-take_line c =
    let few = few_read c.args.bytes.now c.loop-alloc.reader c.loop-alloc.rest.now c.loop-alloc.lines c.loop-alloc.invariant in omega (arith, few)

pub returns-in-Err-take_line-clause-fault : goal.returns-in-Err-take_line-clause-fault
returns-in-Err-take_line-clause-fault c =
    line_refused c.args.bytes.now c.loop-alloc.reader c.take_line.new.self c.loop-alloc.rest.now c.in-Some.line.now c.in-Some.behind.now c.loop-alloc.lines c.in-Err-take_line.kind
    c.at-in-Err-take_line.result c.loop-alloc.invariant
    (λ at. let yes : c.has_ended.result ≡ true = c.has_ended.ensures.1 at in cc (yes, c.loop-alloc-test.true))
    c.in-Some.ensures.found c.in-Some.ensures.first c.in-Err-take_line.ensures c.at-in-Err-take_line.ensures

pub overflow_add-lines-in-loop-alloc : goal.overflow_add-lines-in-loop-alloc
overflow_add-lines-in-loop-alloc c =
    let few = few_read c.args.bytes.now c.loop-alloc.reader c.loop-alloc.rest.now c.loop-alloc.lines c.loop-alloc.invariant in omega (arith, few)

pub loop-alloc-preserved : goal.loop-alloc-preserved
loop-alloc-preserved c =
    read_more c.args.bytes.now c.loop-alloc.reader c.take_line.new.self c.loop-alloc.rest.now c.in-Some.line.now c.in-Some.behind.now c.loop-alloc.lines c.loop-alloc.invariant
    c.in-Some.ensures.found c.in-Ok-take_line.ensures

pub loop-alloc-init : goal.loop-alloc-init
loop-alloc-init c =
    read_opened c.args.bytes.now c.new-reader.result c.in-Ok.opening.form c.in-Ok.opening.geometry c.in-Ok.opening.rest.now c.new-reader.ensures.script c.new-reader.ensures.place
    (c.new-reader.ensures.sound c.in-Ok.ensures.form c.in-Ok.ensures.geometry) c.in-Ok.ensures.spelled

pub returns-clause-values : goal.returns-clause-values
returns-clause-values c = rw c.into_script.ensures c.loop-alloc.invariant.sound.begun.values

pub returns-clause-valid : goal.returns-clause-valid
returns-clause-valid c = rw c.into_script.ensures c.loop-alloc.invariant.sound.begun.valid

pub returns-clause-lines : goal.returns-clause-lines
returns-clause-lines c =
    let whole = ended c.args.bytes.now c.loop-alloc.reader c.loop-alloc.rest.now c.loop-alloc.lines c.loop-alloc.invariant (c.has_ended.ensures.0 c.loop-alloc-test.false) in
    rw c.into_script.ensures whole.0

pub returns-clause-few : goal.returns-clause-few
returns-clause-few c = few_read c.args.bytes.now c.loop-alloc.reader c.loop-alloc.rest.now c.loop-alloc.lines c.loop-alloc.invariant

pub returns-clause-length : goal.returns-clause-length
returns-clause-length c =
    let whole = ended c.args.bytes.now c.loop-alloc.reader c.loop-alloc.rest.now c.loop-alloc.lines c.loop-alloc.invariant (c.has_ended.ensures.0 c.loop-alloc-test.false) in
    rw c.into_script.ensures (front_length c.args.bytes.now (spelling (script_of c.loop-alloc.reader)) c.loop-alloc.rest.now _ whole.1 refl)

pub returns-clause-spelled : goal.returns-clause-spelled
returns-clause-spelled c =
    let whole = ended c.args.bytes.now c.loop-alloc.reader c.loop-alloc.rest.now c.loop-alloc.lines c.loop-alloc.invariant (c.has_ended.ensures.0 c.loop-alloc-test.false) in
    rw c.into_script.ensures (front_left c.args.bytes.now (spelling (script_of c.loop-alloc.reader)) c.loop-alloc.rest.now _ whole.1
    (front_length c.args.bytes.now (spelling (script_of c.loop-alloc.reader)) c.loop-alloc.rest.now _ whole.1 refl))

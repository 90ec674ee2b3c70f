use Rattle.std.proofs.Common.{inr, refl}
use Rattle.session_rules.specs.declared.session_answer.Answer.{Answer}
use Rattle.session_rules.specs.declared.request.Request.{Request}
use Rattle.session_store.specs.Inside.{store_of}
use Rattle.session_store.proofs.Opening.{none_read_of}
use Rattle.session_store.proofs.Scrubbing.{left_served}
use Rattle.session_store.proofs.ReadingServed.{may_read, read_is_served}
use Rattle.session_store.proofs.snapshot_reads.snap_read.Goals as goal

pub returns-in_default : goal.returns-in_default
returns-in_default g c = none_read_of (store_of c.args.parts.now) c.requires.0 c.args.name.now c.args.offset c.args.length c.in_default.is

pub returns-in_default-read : goal.returns-in_default-read
returns-in_default-read g c =
    left_served (store_of c.args.parts.now) c.requires.0 (Request.SnapRead c.args.name.now c.args.offset c.args.length) Answer.NoMemory (λ s at. inr (refl, refl))

pub run_read-requires-after_bounds : goal.run_read-requires-after_bounds
run_read-requires-after_bounds g c κs within =
    may_read c.args.parts.now c.requires c.in-Some.snapshot c.in-Some.is c.args.name.now c.args.offset c.args.length c.ranges.offset.fits c.ranges.length.fits c.in-Ok.read c.in-Ok.ensures.reply c.in-Ok.ensures.gathers c.in-Ok.ensures.book

pub returns : goal.returns
returns g c =
    read_is_served c.args.parts.now c.requires c.in-Some.snapshot c.in-Some.is c.args.name.now c.args.offset c.args.length c.ranges.offset.fits c.ranges.length.fits c.in-Ok.read c.in-Ok.ensures.reply c.in-Ok.ensures.gathers
    c.in-Ok.ensures.book c.run_read.new.read c.run_read.new.places c.run_read.ensures.ran c.finish-outcome.result.0 c.of_read.result c.finish-outcome.ensures.outcome c.of_read.ensures

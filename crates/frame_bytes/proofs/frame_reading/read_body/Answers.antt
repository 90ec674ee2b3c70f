use Rattle.std.proofs.Common.{◌≤◌, ◌<◌, length, arith}
use Rattle.std.proofs.lemmas.Grind.{common_steps}
use Rattle.frame_bytes.proofs.ReadLemmas.{IsFilledBody, body_torn}
use Rattle.frame_bytes.proofs.HeardLemmas.{heard_body_torn}
use Rattle.frame_bytes.proofs.frame_reading.read_body.Goals as goal

pub returns-then-read-wanted-clause-body : goal.returns-then-read-wanted-clause-body
returns-then-read-wanted-clause-body g c =
    let it : IsFilledBody c.args.count c.args.room c.in_ok-read.read c.fill.new.buf (g.S.Source.left c.args.source.now) (g.S.Source.left c.fill.new.source) =
    record { size = grind (arith, common_steps); within = c.in_ok-read.ensures.within; filled = c.in_ok-read.ensures.bytes } in
    let ends : c.in_ok-read.read ≤ c.args.room = omega arith in
    let less : c.in_ok-read.read < length c.fill.new.buf = grind (arith, common_steps) in
    body_torn c.args.count c.args.room c.in_ok-read.read c.fill.new.buf (g.S.Source.left c.args.source.now) (g.S.Source.left c.fill.new.source) it ends
    less

pub returns-then-read-wanted-clause-heard : goal.returns-then-read-wanted-clause-heard
returns-then-read-wanted-clause-heard g c =
    heard_body_torn c.args.count c.args.room c.in_ok-read.read c.fill.new.buf (grind (arith, common_steps)) c.in_ok-read.ensures.within _ _ _ _ _
    c.in_ok-read.ensures.handed_out c.in_ok-read.ensures.told (omega arith) (grind (arith, common_steps))

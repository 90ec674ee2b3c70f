use Rattle.crc64.proofs.Division.{reduced_at_one}
use Rattle.crc64.proofs.reduce.Goals as goal

pub returns-then-register-eq1 : goal.returns-then-register-eq1
returns-then-register-eq1 c = reduced_at_one c.args.register c.if-register-eq1.true

use Rattle.clay_aloof.specs.Shape.{aloof_of}
use Rattle.clay_c.proofs.Refused.{made_or_none}
use Rattle.clay_c.proofs.helper_calls.geometry.Goals as goal

pub returns : goal.returns
returns c =
    let made = c.new.ensures in
    made_or_none c.new.result c.ok.result (aloof_of c.args.k c.args.m c.args.d c.args.w) c.ok.ensures.value made.made made.geometry made.refused

use Rattle.clay_repair.proofs.plain.PlainCoderCoder.recover.Goals as goal

pub returns-in-Ok : goal.returns-in-Ok
returns-in-Ok c = λ d. d.in-Ok.ensures.recovered

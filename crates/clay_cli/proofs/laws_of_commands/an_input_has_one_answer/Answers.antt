use Rattle.clay_cli.proofs.OneAnswer.{aloof_once, chunks_once, recovered_answer, repaired_answer}
use Rattle.clay_cli.proofs.laws_of_commands.an_input_has_one_answer.Goals as goal

pub returns-clause-chunks : goal.returns-clause-chunks
returns-clause-chunks c = chunks_once

pub returns-clause-recover : goal.returns-clause-recover
returns-clause-recover c = recovered_answer

pub returns-clause-chunksd : goal.returns-clause-chunksd
returns-clause-chunksd c = aloof_once

pub returns-clause-repaird : goal.returns-clause-repaird
returns-clause-repaird c = repaired_answer

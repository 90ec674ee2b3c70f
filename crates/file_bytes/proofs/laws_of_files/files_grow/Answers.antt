use Rattle.file_bytes.proofs.LaidLemmas.{laid_behind, laid_before}
use Rattle.file_bytes.proofs.laws_of_files.files_grow.Goals as goal

pub returns-clause-behind : goal.returns-clause-behind
returns-clause-behind c = laid_behind

pub returns-clause-before : goal.returns-clause-before
returns-clause-before c = laid_before

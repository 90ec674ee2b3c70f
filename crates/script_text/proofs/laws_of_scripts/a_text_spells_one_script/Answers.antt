use Rattle.script_text.proofs.OneReadingLaws.{one_script, one_front}
use Rattle.script_text.proofs.laws_of_scripts.a_text_spells_one_script.Goals as goal

pub returns-clause-whole : goal.returns-clause-whole
returns-clause-whole c = one_script

pub returns-clause-front : goal.returns-clause-front
returns-clause-front c = λ s t rest more vs ws vt wt e. (one_front s t rest more vs ws vt wt e).0

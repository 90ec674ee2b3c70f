use Rattle.std.proofs.Common.{refl, ◌++◌}
use Rattle.script_text.specs.Spelling.{spelling}
use Rattle.script_text.proofs.OneReadingLaws.{no_script_fault, no_front_fault, one_fault}
use Rattle.script_text.proofs.CoverLaws.{covered, covered_front}
use Rattle.script_text.proofs.laws_of_scripts.a_text_is_a_script_or_has_one_fault.Goals as goal

pub returns-clause-faultless : goal.returns-clause-faultless
returns-clause-faultless c = no_script_fault

pub returns-clause-faultless_front : goal.returns-clause-faultless_front
returns-clause-faultless_front c = λ s rest number k values valid. no_front_fault (spelling s ++ rest) s rest number k values valid refl

pub returns-clause-one : goal.returns-clause-one
returns-clause-one c = one_fault

pub returns-clause-covered : goal.returns-clause-covered
returns-clause-covered c = covered

pub returns-clause-covered_front : goal.returns-clause-covered_front
returns-clause-covered_front c = covered_front

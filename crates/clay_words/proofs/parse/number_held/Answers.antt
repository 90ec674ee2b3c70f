use Rattle.clap.specs.Words.{found_of}
use Rattle.clay_words.proofs.Held.{in_rows, not_both, same_value}
use Rattle.clay_words.proofs.WordLaws.{number_answer}
use Rattle.clay_words.proofs.parse.number_held.Goals as goal

pub returns-in_err-get_str : goal.returns-in_err-get_str
returns-in_err-get_str c = λ word is. absurd (not_both _ word (in_rows (found_of c.args.held.now) c.args.id.now _ c.in_err-get_str.ensures) is)

pub returns : goal.returns
returns c = λ word is.
    let same = same_value _ _ word (in_rows (found_of c.args.held.now) c.args.id.now _ c.in_ok-get_str.ensures) is in
    number_answer c.number_of.result _ word _ _ same c.number_of.ensures.found c.number_of.ensures.none

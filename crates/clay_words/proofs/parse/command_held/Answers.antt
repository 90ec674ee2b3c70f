use Rattle.std.proofs.Common.{inr, refl, subst, Some}
use Rattle.clay_words.specs.Spelled.{HoldsNumbers, rows_held}
use Rattle.clay_words.specs.Words.{IsAskedBy}
use Rattle.clay_words.specs.declared.numbers_of_words.Command.TheVariants.{OfInput}
use Rattle.clay_words.specs.declared.numbers_of_words.Task.TheVariants as task
use Rattle.clay_words.specs.declared.word_names.Name.{Name}
use Rattle.clay_words.specs.declared.word_names.Name.TheVariants.{Play, Verify}
use Rattle.clay_words.proofs.Held.{by_numbers}
use Rattle.clay_words.proofs.parse.command_held.Goals as goal

pub returns-in-Play : goal.returns-in-Play
returns-in-Play c = λ words holds.
    let P : Name → Type 0 = λ name. HoldsNumbers name words (rows_held c.args.held.now) in
    by_numbers Play words _ (λ list. IsAskedBy list (Some (OfInput task.Play))) (λ held. inr refl) (subst P c.in-Play.is holds)

pub returns-in-Verify : goal.returns-in-Verify
returns-in-Verify c = λ words holds.
    let P : Name → Type 0 = λ name. HoldsNumbers name words (rows_held c.args.held.now) in
    by_numbers Verify words _ (λ list. IsAskedBy list (Some (OfInput task.Verify))) (λ held. refl) (subst P c.in-Verify.is holds)

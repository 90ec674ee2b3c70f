use Rattle.std.proofs.Common.{◌≡◌, ◌∙◌, false, true}
use Rattle.clay_words.proofs.Unspelled.{is_empty, unspelled}
use Rattle.clay_words.proofs.parse.command_of.Goals as goal

pub returns-then-not-is_spelled : goal.returns-then-not-is_spelled
returns-then-not-is_spelled c =
    unspelled _ (λ spelled.
    let yes : c.is_spelled.result ≡ true = c.is_spelled.ensures.1 spelled in cc (yes, c.if-not-is_spelled.true)) (λ none.
    let bad : false ≡ true = c.if-is_empty.ensures ∙ is_empty _ c.args.words.now none in cc)

use Rattle.std.proofs.Common.{sym, ap, ◌∙◌, length, string_bytes}
use Rattle.std.proofs.lemmas.List.{length-map}
use Rattle.clay_words.proofs.SpelledLaws.{spelled_there}
use Rattle.clay_words.proofs.spelled.is_spelled.Goals as goal

pub returns-then-numbers-ids : goal.returns-then-numbers-ids
returns-then-numbers-ids c =
    spelled_there string_bytes c.args.words.now c.word-item.result c.in-Some.name _ c.in-len1-up.len_at_least c.word-item.is
    (sym c.as_str.ensures.value ∙ c.in-Some.ensures) (c.if-numbers-ids.true ∙ sym (length-map c.ids.result.now (λ id. id.now)) ∙ ap length c.ids.ensures) c.are_numbers.ensures

use Rattle.std.proofs.Common.{◌∙◌, ap, false}
use Rattle.std.proofs.lemmas.List.{get_or-replicate}
use Rattle.hist_tables.specs.Numbers.{row_has}
use Rattle.hist_tables.proofs.number_set.NumberSet.row_at.Goals as goal

pub returns-in-None : goal.returns-in-None
returns-in-None c = record { row = λ i lt. get_or-replicate 64 i false false lt ∙ ap (λ o. row_has o i) c.in-None.ensures.value }

use Rattle.std.proofs.Common.{◌≡◌, ℕ, ◌+◌, List, length, length-append, map, sym, ap, ap₂, ◌∙◌, filter}
use Rattle.std.proofs.lemmas.List.{length-map}
use Rattle.store_map.specs.declared.line.HLine.{HLine}
use Rattle.hist_rules.specs.Named.{is_reply}
use Rattle.hist_tables.proofs.Names.{count_parts}
use Rattle.hist_tables.proofs.lines_of_calls.count_answers.Goals as goal

pub returns : goal.returns
returns c =
    count_parts c.args.transcript.now c.count_replied-replied.result c.len.result c.len-2.result (c.count_replied-replied.ensures ∙ ap (λ (lines : List HLine). length (filter (λ line. is_reply line.reply) lines)) c.as_slice.ensures) c.len.ensures c.len-2.ensures

use Rattle.std.proofs.Common.{◌≡◌, ◌∙◌, ap, true, false, map, string_bytes, List, ℕ}
use Rattle.clap.specs.Words.{App, is_simple, subcommand_of, takes}
use Rattle.clay_words.proofs.Taken.{spelled_taken}
use Rattle.clay_words.proofs.parse.command_parsed.Goals as goal

pub prove-unreachable-requires : goal.prove-unreachable-requires
prove-unreachable-requires c =
    let words : List (List ℕ) = map string_bytes c.args.words.now in
    let taken = spelled_taken words c.requires in
    let memory = c.in-Err.ensures.passes (ap (λ (a : App). takes a words) c.in_ok-grammar.ensures ∙ taken.is_taken) in
    let kind = c.kind-kind.ensures ∙ memory in
    let bad : false ≡ true = rw kind at c.if-prove.ensures in
    cc

pub returns-in-Ok : goal.returns-in-Ok
returns-in-Ok c =
    let words : List (List ℕ) = map string_bytes c.args.words.now in
    let taken = spelled_taken words c.requires in
    let met = (c.in-Ok.ensures.matches (ap is_simple c.in_ok-grammar.ensures)).1 in
    c.command_taken.ensures words taken.word taken.rows (met ∙ ap (λ (a : App). subcommand_of a words) c.in_ok-grammar.ensures ∙ taken.found) taken.held

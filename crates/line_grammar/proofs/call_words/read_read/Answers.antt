use Rattle.std.proofs.Common.{◌≡◌, true, sym, ◌∙◌}
use Rattle.store_map.specs.declared.call.Call.TheVariants.{ReadAt}
use Rattle.line_grammar.proofs.CallLaws.{read_no_space, read_no_second, read_parts, read_made, not_small}
use Rattle.line_grammar.proofs.call_words.read_read.Goals as goal

pub returns-in_default : goal.returns-in_default
returns-in_default c = read_no_space c.args.words.now c.in_default.ensures.none

pub returns-in_default-split_at_first : goal.returns-in_default-split_at_first
returns-in_default-split_at_first c =
    read_no_second c.args.words.now c.in-Some.name.now c.in-Some.rest.now c.in-Some.ensures.found c.in-Some.ensures.first c.in_default-split_at_first.ensures.none

pub returns-then-not-is_name : goal.returns-then-not-is_name
returns-then-not-is_name c = λ call form e.
    let parts = read_parts c.args.words.now c.in-Some.name.now c.in-Some.rest.now c.in-Some-split_at_first.offset.now c.in-Some-split_at_first.length.now
    c.in-Some.ensures.found c.in-Some.ensures.first c.in-Some-split_at_first.ensures.found c.in-Some-split_at_first.ensures.first call form e in
    let named : c.is_name.result ≡ true = c.is_name.ensures ∙ parts.0 in cc (named, c.if-not-is_name.true)

pub returns-then-not-is_number : goal.returns-then-not-is_number
returns-then-not-is_number c = λ call form e.
    let parts = read_parts c.args.words.now c.in-Some.name.now c.in-Some.rest.now c.in-Some-split_at_first.offset.now c.in-Some-split_at_first.length.now
    c.in-Some.ensures.found c.in-Some.ensures.first c.in-Some-split_at_first.ensures.found c.in-Some-split_at_first.ensures.first call form e in
    let number : c.is_number.result ≡ true = c.is_number.ensures.1 (parts.1.0, parts.1.3) in cc (number, c.if-not-is_number.true)

pub returns-then-not-is_number-2 : goal.returns-then-not-is_number-2
returns-then-not-is_number-2 c = λ call form e.
    let parts = read_parts c.args.words.now c.in-Some.name.now c.in-Some.rest.now c.in-Some-split_at_first.offset.now c.in-Some-split_at_first.length.now
    c.in-Some.ensures.found c.in-Some.ensures.first c.in-Some-split_at_first.ensures.found c.in-Some-split_at_first.ensures.first call form e in
    let number : c.is_number-2.result ≡ true = c.is_number-2.ensures.1 (parts.1.1, parts.1.4) in cc (number, c.if-not-is_number-2.true)

pub returns-in_default-small_number : goal.returns-in_default-small_number
returns-in_default-small_number c =
    let large = c.in_default-small_number.ensures in
    let count = c.is_number-2.ensures.0 c.if-not-is_number-2.false in (
      ReadAt c.in-Some.name.now large.0 count.0,
      sym c.is_name.ensures ∙ c.if-not-is_name.false,
      λ fits. not_small large.0 large.1 fits.0.0,
      read_made c.args.words.now c.in-Some.name.now c.in-Some.rest.now c.in-Some-split_at_first.offset.now c.in-Some-split_at_first.length.now large.0 count.0
          c.in-Some.ensures.found c.in-Some-split_at_first.ensures.found large.2 count.1,
    )

pub returns-in_default-small_number-2 : goal.returns-in_default-small_number-2
returns-in_default-small_number-2 c =
    let large = c.in_default-small_number-2.ensures in (
      ReadAt c.in-Some.name.now c.in-Some-small_number.offset large.0,
      sym c.is_name.ensures ∙ c.if-not-is_name.false,
      λ fits. not_small large.0 large.1 fits.0.1,
      read_made c.args.words.now c.in-Some.name.now c.in-Some.rest.now c.in-Some-split_at_first.offset.now c.in-Some-split_at_first.length.now c.in-Some-small_number.offset large.0
          c.in-Some.ensures.found c.in-Some-split_at_first.ensures.found c.in-Some-small_number.ensures.1 large.2,
    )

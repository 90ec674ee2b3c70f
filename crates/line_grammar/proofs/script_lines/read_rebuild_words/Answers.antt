use Rattle.std.proofs.Common.{◌≡◌, true, sym, ◌∙◌}
use Rattle.store_map.specs.declared.call.Rebuild.{Rebuild}
use Rattle.line_grammar.proofs.CallLaws.{not_small}
use Rattle.line_grammar.proofs.TextLaws.{rebuild_no_space, rebuild_no_second, rebuild_parts, rebuild_made}
use Rattle.line_grammar.proofs.script_lines.read_rebuild_words.Goals as goal

pub returns-in_default : goal.returns-in_default
returns-in_default c = rebuild_no_space c.args.words.now c.in_default.ensures.none

pub returns-in_default-split_at_first : goal.returns-in_default-split_at_first
returns-in_default-split_at_first c =
    rebuild_no_second c.args.words.now c.in-Some.name.now c.in-Some.rest.now c.in-Some.ensures.found c.in-Some.ensures.first c.in_default-split_at_first.ensures.none

pub returns-then-not-is_name : goal.returns-then-not-is_name
returns-then-not-is_name c = λ rebuild form e.
    let parts = rebuild_parts c.args.words.now c.in-Some.name.now c.in-Some.rest.now c.in-Some-split_at_first.stripe.now c.in-Some-split_at_first.server.now
    c.in-Some.ensures.found c.in-Some.ensures.first c.in-Some-split_at_first.ensures.found c.in-Some-split_at_first.ensures.first rebuild form e in
    let named : c.is_name.result ≡ true = c.is_name.ensures ∙ rw parts.0 form in cc (named, c.if-not-is_name.true)

pub returns-then-not-is_number : goal.returns-then-not-is_number
returns-then-not-is_number c = λ rebuild form e.
    let parts = rebuild_parts c.args.words.now c.in-Some.name.now c.in-Some.rest.now c.in-Some-split_at_first.stripe.now c.in-Some-split_at_first.server.now
    c.in-Some.ensures.found c.in-Some.ensures.first c.in-Some-split_at_first.ensures.found c.in-Some-split_at_first.ensures.first rebuild form e in
    let number : c.is_number.result ≡ true = c.is_number.ensures.1 (rebuild.stripe, parts.1) in cc (number, c.if-not-is_number.true)

pub returns-then-not-is_number-2 : goal.returns-then-not-is_number-2
returns-then-not-is_number-2 c = λ rebuild form e.
    let parts = rebuild_parts c.args.words.now c.in-Some.name.now c.in-Some.rest.now c.in-Some-split_at_first.stripe.now c.in-Some-split_at_first.server.now
    c.in-Some.ensures.found c.in-Some.ensures.first c.in-Some-split_at_first.ensures.found c.in-Some-split_at_first.ensures.first rebuild form e in
    let number : c.is_number-2.result ≡ true = c.is_number-2.ensures.1 (rebuild.server, parts.2) in cc (number, c.if-not-is_number-2.true)

pub returns-in_default-small_number : goal.returns-in_default-small_number
returns-in_default-small_number c =
    let large = c.in_default-small_number.ensures in
    let server = c.is_number-2.ensures.0 c.if-not-is_number-2.false in
    let found : Rebuild = record { name = c.in-Some.name.now; stripe = large.0; server = server.0 } in (
      found,
      sym c.is_name.ensures ∙ c.if-not-is_name.false,
      λ fits. not_small large.0 large.1 fits.0,
      rebuild_made c.args.words.now c.in-Some.name.now c.in-Some.rest.now c.in-Some-split_at_first.stripe.now c.in-Some-split_at_first.server.now large.0 server.0
          c.in-Some.ensures.found c.in-Some-split_at_first.ensures.found large.2 server.1,
    )

pub returns-in_default-small_number-2 : goal.returns-in_default-small_number-2
returns-in_default-small_number-2 c =
    let large = c.in_default-small_number-2.ensures in
    let found : Rebuild = record { name = c.in-Some.name.now; stripe = c.in-Some-small_number.stripe; server = large.0 } in (
      found,
      sym c.is_name.ensures ∙ c.if-not-is_name.false,
      λ fits. not_small large.0 large.1 fits.1,
      rebuild_made c.args.words.now c.in-Some.name.now c.in-Some.rest.now c.in-Some-split_at_first.stripe.now c.in-Some-split_at_first.server.now c.in-Some-small_number.stripe large.0
          c.in-Some.ensures.found c.in-Some-split_at_first.ensures.found c.in-Some-small_number.ensures.1 large.2,
    )

use Rattle.std.proofs.Common.{◌≡◌, ℕ, ◌≤◌, true, true≢false, refl, sym, ap, ◌∙◌, arith}
use Rattle.std.specs.Prelude.{Option, unwrap_or}
use Rattle.hist_rules.specs.Calls.{number_of}
use Rattle.hist_rules.specs.Named.{answered_calls}
use Rattle.hist_tables.specs.Tables.{value_at}
use Rattle.hist_check.proofs.Reach.{reaches, reached_at, reached_before, reached_on, not_reached, reached_more}
use Rattle.hist_check.proofs.order.follows.Goals as goal

pub returns-then-from-clause-holds : goal.returns-then-from-clause-holds
returns-then-from-clause-holds c =
    let le : number_of c.args.call ≤ c.unwrap_or-from.result = omega arith in
    let known : reaches (answered_calls c.args.transcript.now) c.args.call c.unwrap_or-from.result ≡ true =
    reached_at (answered_calls c.args.transcript.now) c.args.call (value_at c.args.reached.now c.args.call) c.unwrap_or-from.result
    (c.unwrap_or-from.ensures ∙ ap (λ (found : Option ℕ). unwrap_or found 0) c.get.ensures) (c.requires.reached c.args.call) in
    sym (reached_before (answered_calls c.args.transcript.now) c.args.call c.unwrap_or-from.result (number_of c.args.call) known le)

pub returns-then-not-has_between-clause-holds : goal.returns-then-not-has_between-clause-holds
returns-then-not-has_between-clause-holds c =
    not_reached (answered_calls c.args.transcript.now) c.args.set.now c.args.call c.unwrap_or-from.result c.number_of-number.result c.requires.set
    (λ all. true≢false (sym (c.if-not-has_between.ensures.1 all)))
    ∙ ap (reaches (answered_calls c.args.transcript.now) c.args.call) c.number_of-number.ensures

pub returns-clause-holds : goal.returns-clause-holds
returns-clause-holds c =
    let known : reaches (answered_calls c.args.transcript.now) c.args.call c.unwrap_or-from.result ≡ true =
    reached_at (answered_calls c.args.transcript.now) c.args.call (value_at c.args.reached.now c.args.call) c.unwrap_or-from.result
    (c.unwrap_or-from.ensures ∙ ap (λ (found : Option ℕ). unwrap_or found 0) c.get.ensures) (c.requires.reached c.args.call) in
    sym (reached_on (answered_calls c.args.transcript.now) c.args.set.now c.args.call c.unwrap_or-from.result c.number_of-number.result c.requires.set known (c.if-not-has_between.ensures.0 refl))
    ∙ ap (reaches (answered_calls c.args.transcript.now) c.args.call) c.number_of-number.ensures

pub returns-clause-reached : goal.returns-clause-reached
returns-clause-reached c =
    let known : reaches (answered_calls c.args.transcript.now) c.args.call c.unwrap_or-from.result ≡ true =
    reached_at (answered_calls c.args.transcript.now) c.args.call (value_at c.args.reached.now c.args.call) c.unwrap_or-from.result
    (c.unwrap_or-from.ensures ∙ ap (λ (found : Option ℕ). unwrap_or found 0) c.get.ensures) (c.requires.reached c.args.call) in
    reached_more (answered_calls c.args.transcript.now) c.args.reached.now c.set.new.self c.args.call c.from-2.result c.in_ok-set.ensures c.requires.reached
    (ap (reaches (answered_calls c.args.transcript.now) c.args.call) c.from-2.ensures
    ∙ reached_on (answered_calls c.args.transcript.now) c.args.set.now c.args.call c.unwrap_or-from.result c.number_of-number.result c.requires.set known (c.if-not-has_between.ensures.0 refl))

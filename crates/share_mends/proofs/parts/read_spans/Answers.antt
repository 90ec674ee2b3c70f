use Rattle.std.proofs.Common.{◌≡◌, ◌<◌, ◌≤◌, ◌+◌, ℕ, length, get_or, take, sym, ap, ◌∙◌, arith, rules}
use Rattle.file_bytes.specs.declared.positions.ReadFault.TheVariants.{Failed, Ended}
use Rattle.std.proofs.lemmas.Grind.{common_steps}
use Rattle.share_files.proofs.Faults.{handed_on}
use Rattle.share_mends.specs.Spans.{span_bytes}
use Rattle.share_mends.specs.declared.spans.Span.{Span}
use Rattle.share_mends.proofs.GivenLemmas.{shown_before}
use Rattle.share_mends.proofs.ReadLemmas.{bytes_more, bytes_within, span_more, short_at, fails_within}
use Rattle.share_mends.proofs.parts.read_spans.Goals as goal

pub read_span-requires-clause-room : goal.read_span-requires-clause-room
read_span-requires-clause-room g c =
    let none : Span = record { start = 0; size = 0 } in
    let i : ℕ = c.loop-span.span-index in
    let less : i < length c.args.spans.now = omega (arith, c.loop-span-test.true) in
    let within : span_bytes (take i c.args.spans.now) + (get_or c.args.spans.now i none).size ≤ span_bytes c.args.spans.now = bytes_within c.args.spans.now i none less in
    let long : length c.loop-span.buf ≡ span_bytes c.args.spans.now = c.loop-span.auto.buf ∙ c.requires.room in
    omega (arith, within, long, c.loop-span.invariant.at)

pub loop-span-preserved : goal.loop-span-preserved
loop-span-preserved g c =
    let none : Span = record { start = 0; size = 0 } in
    let i : ℕ = c.loop-span.span-index in
    let inv = c.loop-span.invariant in
    let less : i < length c.args.spans.now = omega (arith, c.loop-span-test.true) in
    record {
      at = ap (λ n. n + (get_or c.args.spans.now i none).size) inv.at ∙ sym (bytes_more c.args.spans.now i none less);
      given =
          span_more _ _ _ c.args.place c.args.spans.now i none c.loop-span.at c.loop-span.buf c.read_span.new.buf less inv.given c.in-Ok.ensures.given
          c.in-Ok.ensures.kept;
      ends = c.in-Ok.ensures.on (λ e. cc) ∙ inv.ends;
      steady = c.in-Ok.ensures.steady (λ e. cc) ∙ inv.steady;
    }

pub returns-in-Err-clause-shown : goal.returns-in-Err-clause-shown
returns-in-Err-clause-shown g c = λ file shows.
    shown_before file _ _ _ _ _ _ c.loop-span.invariant.given c.loop-span.invariant.ends (c.in-Err.ensures.shown file shows)

pub returns-in-Err-clause-short : goal.returns-in-Err-clause-short
returns-in-Err-clause-short g c = λ file shows e.
    let none : Span = record { start = 0; size = 0 } in
    let i : ℕ = c.loop-span.span-index in
    let less : i < length c.args.spans.now = omega (arith, c.loop-span-test.true) in
    short_at c.args.place c.args.spans.now i none file less (c.in-Err.ensures.short file shows (handed_on c.in-Err.fault Ended e))

pub returns-in-Err-clause-cause : goal.returns-in-Err-clause-cause
returns-in-Err-clause-cause g c = λ most within e.
    let none : Span = record { start = 0; size = 0 } in
    let i : ℕ = c.loop-span.span-index in
    let less : i < length c.args.spans.now = omega (arith, c.loop-span-test.true) in
    fails_within c.args.place most c.args.spans.now i none _ _ _ less within c.loop-span.invariant.steady (c.in-Err.ensures.cause (handed_on c.in-Err.fault Failed e))

pub returns-clause-shown : goal.returns-clause-shown
returns-clause-shown g c = λ file shows. shown_before file _ _ _ _ _ _ c.loop-span.invariant.given c.loop-span.invariant.ends shows

pub overflow_add-at : goal.overflow_add-at
overflow_add-at g c =
    let none : Span = record { start = 0; size = 0 } in
    let i : ℕ = c.loop-span.span-index in
    let less : i < length c.args.spans.now = omega (arith, c.loop-span-test.true) in
    let within : span_bytes (take i c.args.spans.now) + (get_or c.args.spans.now i none).size ≤ span_bytes c.args.spans.now = bytes_within c.args.spans.now i none less in
    let long : length c.loop-span.buf ≡ span_bytes c.args.spans.now = c.loop-span.auto.buf ∙ c.requires.room in
    let fits : c.loop-span.at + (get_or c.args.spans.now i none).size ≤ length c.loop-span.buf = omega (arith, within, long, c.loop-span.invariant.at) in
    first_of (search rules, omega (arith, fits), grind (arith, common_steps))

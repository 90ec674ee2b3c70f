use Rattle.std.proofs.Common.{◌≡◌, ◌+◌, Err, sym, ap, ◌∙◌, length, arith, rules}
use Rattle.std.proofs.lemmas.Grind.{common_steps}
use Rattle.share_mends.specs.Spans.{span_bytes}
use Rattle.share_mends.proofs.ReadLemmas.{spans_long}
use Rattle.share_mends.proofs.PieceLemmas.{in_block, found_shown, none_shown, fails_in_block, if_some}
use Rattle.share_mends.proofs.parts.read_part.Goals as goal

pub read_spans-requires-clause-room : goal.read_spans-requires-clause-room
read_spans-requires-clause-room g c =
    ap length c.deref_mut.ensures.value ∙ c.in_ok-piece.ensures ∙ (λ i. c.chunk_place.ensures.value i + c.part_len.ensures.value i)
    ∙ sym (spans_long c.args.plan.now.geometry c.args.plan.now.lost c.args.plan.now.spans.items c.requires.plan.aloof c.requires.plan.lost c.requires.plan.spans)
    ∙ ap span_bytes (sym c.deref.ensures.value)

pub returns-in-Err-Failed-clause-cause : goal.returns-in-Err-Failed-clause-cause
returns-in-Err-Failed-clause-cause g c = λ e.
    fails_in_block c.args.plan.now.geometry c.args.plan.now.lost c.args.stripe c.block_place-place.result c.deref.result.now c.args.plan.now.spans.items _ _
    c.block_place-place.ensures c.deref.ensures.value c.requires.plan.spans (λ within. c.in-Err-Failed.ensures.cause _ within (ap Err c.in-Err-Failed.field-0-is))

pub returns-in-Err-Ended-clause-found : goal.returns-in-Err-Ended-clause-found
returns-in-Err-Ended-clause-found g c = λ file shows.
    none_shown c.args.plan.now.geometry c.args.plan.now.lost c.args.stripe c.block_place-place.result c.deref.result.now c.args.plan.now.spans.items file c.requires.plan.aloof
    c.requires.plan.lost c.block_place-place.ensures c.deref.ensures.value c.requires.plan.spans (c.in-Err-Ended.ensures.short file shows (ap Err c.in-Err-Ended.field-0-is))

pub returns-in-Ok-push-clause-found : goal.returns-in-Ok-push-clause-found
returns-in-Ok-push-clause-found g c = λ file shows.
    let same : c.deref-2.result.now ≡ c.read_spans.new.buf = first_of (search rules, grind (arith, common_steps)) in
    found_shown c.args.plan.now.geometry c.args.plan.now.lost c.args.stripe file _ _ c.read_spans.new.buf c.deref-2.result.now _ c.in_ok-part.part
    (in_block c.args.plan.now.geometry c.args.plan.now.lost c.args.stripe c.block_place-place.result c.deref.result.now c.args.plan.now.spans.items _ _ c.read_spans.new.buf
    c.block_place-place.ensures c.deref.ensures.value c.requires.plan.spans c.in-Ok.ensures.given)
    shows same c.in_ok-part.ensures.found

pub returns-in-Ok-push-clause-given : goal.returns-in-Ok-push-clause-given
returns-in-Ok-push-clause-given g c =
    if_some c.in_ok-part.part (record {
      bytes = c.read_spans.new.buf;
      gives =
          in_block c.args.plan.now.geometry c.args.plan.now.lost c.args.stripe c.block_place-place.result c.deref.result.now c.args.plan.now.spans.items _ _ c.read_spans.new.buf
          c.block_place-place.ensures c.deref.ensures.value c.requires.plan.spans c.in-Ok.ensures.given;
    })

use Rattle.std.proofs.Common.{◌<◌, ◌≤◌, ℕ, length, append-nil, refl, sym, subst, ◌∙◌, arith}
use Rattle.clay_bytes.specs.Stream.{Rises}
use Rattle.clay_aloof.specs.Shape.{all_chunks}
use Rattle.file_bytes.specs.Laid.{laid}
use Rattle.share_run.proofs.CutLemmas.{sink_next, sinks_all}
use Rattle.share_run.proofs.cuts_of_files.fill_all.Goals as goal

pub loop-place-init : goal.loop-place-init
loop-place-init g c = record { filled = sym (append-nil _); steady = refl }

pub loop-place-preserved : goal.loop-place-preserved
loop-place-preserved g c =
    let place : ℕ = c.loop-place.place in
    let less : place < length c.args.sinks.now = omega arith in
    record {
      filled = sink_next (λ sink. laid (g.K.SinkAt.put sink)) c.args.sinks.now place c.index-sinks-at.result _ _ _ less c.index-sinks-at.is
          c.loop-place.invariant.filled c.in-Ok.ensures.filled;
      steady = c.in-Ok.ensures.steady ∙ c.loop-place.invariant.steady;
    }

pub returns-in-Err-clause-part : goal.returns-in-Err-clause-part
returns-in-Err-clause-part g c =
    let less : c.loop-place.place < all_chunks c.args.geometry = omega arith in (
      c.loop-place.place,
      less,
      c.in-Err.ensures.unfilled ∙ c.loop-place.invariant.filled,
    )

pub returns-in-Err-clause-cause : goal.returns-in-Err-clause-cause
returns-in-Err-clause-cause g c =
    let P : ℕ → Type 0 = λ k. Rises k (g.P.FilePlaces.faults c.fill.new.self) in
    subst P c.loop-place.invariant.steady c.in-Err.ensures.cause

pub returns-clause-filled : goal.returns-clause-filled
returns-clause-filled g c =
    let all : length c.args.sinks.now ≤ c.loop-place.place = omega arith in
    sinks_all (λ sink. laid (g.K.SinkAt.put sink)) c.args.sinks.now c.loop-place.place _ _ all c.loop-place.invariant.filled

pub returns-clause-steady : goal.returns-clause-steady
returns-clause-steady g c = c.loop-place.invariant.steady

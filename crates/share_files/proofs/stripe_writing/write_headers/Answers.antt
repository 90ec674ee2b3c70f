use Rattle.std.proofs.Common.{◌<◌, ℕ, length, length-set, get_or, subst, ◌∙◌, ap, arith}
use Rattle.file_bytes.specs.Laid.{laid}
use Rattle.share_format.specs.Header.{Header}
use Rattle.share_files.specs.Written.{GainsHeader}
use Rattle.share_files.proofs.ChangeLemmas.{change_more, counts_stay, count_rises}
use Rattle.share_files.proofs.stripe_writing.write_headers.Goals as goal

pub loop-share-preserved : goal.loop-share-preserved
loop-share-preserved g c =
    let now = c.loop-share.sinks in
    let share : ℕ = c.loop-share.share in
    let inv = c.loop-share.invariant in
    let less : share < length now = omega arith in
    let old = get_or now share c.index-sinks-at.result in
    let here = ap (get_or now share) c.index-sinks-at.is in
    let P : Header → Type 0 = λ h. GainsHeader h.shape h.size h.checksum h.share (laid (g.K.SinkAt.put old)) (laid (g.K.SinkAt.put c.write_header.new.sink)) in
    record {
      shares = length-set now share c.write_header.new.sink ∙ inv.shares;
      changed =
          change_more (λ sink. laid (g.K.SinkAt.put sink)) now share old c.write_header.new.sink less here
          (λ k. GainsHeader c.args.geometry c.args.size c.args.checksum k) _ (subst P c.new-header.ensures c.in-Ok.ensures.share) inv.changed;
      steady = counts_stay g.K.SinkAt.faults now share old c.write_header.new.sink less here _ (c.in-Ok.ensures.steady (λ e. cc)) inv.steady;
    }

pub returns-in-Err-clause-cause : goal.returns-in-Err-clause-cause
returns-in-Err-clause-cause g c =
    let now = c.loop-share.sinks in
    let share : ℕ = c.loop-share.share in
    let inv = c.loop-share.invariant in
    let less : share < length now = omega arith in
    λ e.
    count_rises g.K.SinkAt.faults now share (get_or now share c.index-sinks-at.result) c.write_header.new.sink less
    (ap (get_or now share) c.index-sinks-at.is) _ (c.in-Err.ensures.cause e) inv.steady

pub returns-in-Err-clause-steady : goal.returns-in-Err-clause-steady
returns-in-Err-clause-steady g c =
    let now = c.loop-share.sinks in
    let share : ℕ = c.loop-share.share in
    let inv = c.loop-share.invariant in
    let less : share < length now = omega arith in
    λ other.
    counts_stay g.K.SinkAt.faults now share (get_or now share c.index-sinks-at.result) c.write_header.new.sink less
    (ap (get_or now share) c.index-sinks-at.is) _ (c.in-Err.ensures.steady other) inv.steady

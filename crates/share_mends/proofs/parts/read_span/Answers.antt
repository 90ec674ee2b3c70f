use Rattle.std.proofs.Common.{◌≡◌, ◌+◌, length}
use Rattle.std.proofs.lemmas.Result.{on_ok_weaker}
use Rattle.share_mends.proofs.ReadLemmas.{shown_read, span_given, piece_long, span_fails}
use Rattle.share_mends.proofs.parts.read_span.Goals as goal

pub returns-clause-given : goal.returns-clause-given
returns-clause-given g c =
    on_ok_weaker c.read_exact_at.result
    (span_given _ _ (c.args.place + c.args.span.start) c.args.at c.args.span.size c.args.buf.now c.read_exact_at.new.buf c.requires.room c.read_exact_at.auto.buf)
    c.read_exact_at.ensures.given

pub returns-clause-shown : goal.returns-clause-shown
returns-clause-shown g c = λ file.
    shown_read file _ _ _ _ _ _ (c.args.place + c.args.span.start) c.read_exact_at.new.buf c.read_exact_at.result c.read_exact_at.ensures.given
    c.read_exact_at.ensures.failed c.read_exact_at.ensures.ended c.read_exact_at.ensures.on

pub returns-clause-cause : goal.returns-clause-cause
returns-clause-cause g c = λ e.
    let long : length c.read_exact_at.new.buf ≡ c.args.span.size =
    piece_long c.args.at c.args.span.size c.args.buf.now c.read_exact_at.new.buf c.requires.room c.read_exact_at.auto.buf in
    span_fails _ _ _ _ (c.args.place + c.args.span.start) c.args.span.size c.read_exact_at.new.buf long (c.read_exact_at.ensures.failed e)

use Rattle.frame_session.proofs.Going.{Moved, nothing_moved}
use Rattle.frame_session.proofs.Tops.{of_code}
use Rattle.frame_session.specs.Session.{IsSessionOf, IsSessionIn, IsGivenUp, IsWanting, IsCutShort}
use Rattle.frame_session.proofs.session_top.serve_session.Goals as goal

pub returns-in-Err-clause-wanting : goal.returns-in-Err-clause-wanting
returns-in-Err-clause-wanting g c = λ _.
    nothing_moved c.args.asked.geometry c.args.asked.max (g.S.Source.given c.args.source.now) (g.S.Source.left c.args.source.now)
    (g.K.Sink.accepted c.args.sink.now) (g.K.Sink.written c.args.sink.now)

pub returns-in-Err-new-clause-wanting : goal.returns-in-Err-new-clause-wanting
returns-in-Err-new-clause-wanting g c = λ _.
    nothing_moved c.args.asked.geometry c.args.asked.max (g.S.Source.given c.args.source.now) (g.S.Source.left c.args.source.now)
    (g.K.Sink.accepted c.args.sink.now) (g.K.Sink.written c.args.sink.now)

pub returns-clause-session : goal.returns-clause-session
returns-clause-session g c = λ ending same.
    of_code
    (λ code most. Moved (g.S.Source.given c.args.source.now) (g.S.Source.left c.args.source.now) (g.S.Source.given c.serve_frames-status.new.source) (g.S.Source.left c.serve_frames-status.new.source)
    (g.K.Sink.accepted c.args.sink.now) (g.K.Sink.written c.args.sink.now) (g.K.Sink.accepted c.serve_frames-status.new.sink) (g.K.Sink.written c.serve_frames-status.new.sink)
    (λ got taken. IsSessionOf code most got (g.S.Source.ended c.serve_frames-status.new.source) ending taken
    × IsSessionIn code most (g.S.Source.left c.args.source.now) got ending taken))
    c.in-Ok-new.store.geometry c.args.asked.geometry c.in-Ok-new.store.max c.args.asked.max c.in-Ok-new.ensures.code c.in-Ok-new.ensures.most
    (c.serve_frames-status.ensures.session ending same)

pub returns-clause-given_up : goal.returns-clause-given_up
returns-clause-given_up g c = λ same.
    of_code
    (λ code most. Moved (g.S.Source.given c.args.source.now) (g.S.Source.left c.args.source.now) (g.S.Source.given c.serve_frames-status.new.source) (g.S.Source.left c.serve_frames-status.new.source)
    (g.K.Sink.accepted c.args.sink.now) (g.K.Sink.written c.args.sink.now) (g.K.Sink.accepted c.serve_frames-status.new.sink) (g.K.Sink.written c.serve_frames-status.new.sink)
    (IsGivenUp code most))
    c.in-Ok-new.store.geometry c.args.asked.geometry c.in-Ok-new.store.max c.args.asked.max c.in-Ok-new.ensures.code c.in-Ok-new.ensures.most
    (c.serve_frames-status.ensures.given_up same)

pub returns-clause-wanting : goal.returns-clause-wanting
returns-clause-wanting g c = λ same.
    of_code
    (λ code most. Moved (g.S.Source.given c.args.source.now) (g.S.Source.left c.args.source.now) (g.S.Source.given c.serve_frames-status.new.source) (g.S.Source.left c.serve_frames-status.new.source)
    (g.K.Sink.accepted c.args.sink.now) (g.K.Sink.written c.args.sink.now) (g.K.Sink.accepted c.serve_frames-status.new.sink) (g.K.Sink.written c.serve_frames-status.new.sink)
    (IsWanting code most))
    c.in-Ok-new.store.geometry c.args.asked.geometry c.in-Ok-new.store.max c.args.asked.max c.in-Ok-new.ensures.code c.in-Ok-new.ensures.most
    (c.serve_frames-status.ensures.wanting same)

pub returns-clause-cut_off : goal.returns-clause-cut_off
returns-clause-cut_off g c = λ same.
    of_code
    (λ code most. Moved (g.S.Source.given c.args.source.now) (g.S.Source.left c.args.source.now) (g.S.Source.given c.serve_frames-status.new.source) (g.S.Source.left c.serve_frames-status.new.source)
    (g.K.Sink.accepted c.args.sink.now) (g.K.Sink.written c.args.sink.now) (g.K.Sink.accepted c.serve_frames-status.new.sink) (g.K.Sink.written c.serve_frames-status.new.sink)
    (IsCutShort code most))
    c.in-Ok-new.store.geometry c.args.asked.geometry c.in-Ok-new.store.max c.args.asked.max c.in-Ok-new.ensures.code c.in-Ok-new.ensures.most
    (c.serve_frames-status.ensures.cut_off same)

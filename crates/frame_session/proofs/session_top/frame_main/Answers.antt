use Rattle.std.proofs.Common.{◌≡◌, map, string_bytes}
use Rattle.std.specs.declared.alloc.Global.{Global}
use Rattle.session_rules.specs.declared.session_ending.Ending.{Ending}
use Rattle.frame_session.specs.declared.session_status.SessionStatus.{SessionStatus}
use Rattle.frame_session.specs.Status.{status_of}
use Rattle.frame_session.specs.Session.{IsSessionOf, IsSessionIn, IsGivenUp, IsWanting, IsCutShort}
use Rattle.frame_session.proofs.Going.{Moved}
use Rattle.frame_session.proofs.Tops.{of_asked, ends_or_wants}
use Rattle.frame_session.proofs.session_top.frame_main.Goals as goal

pub returns-in-Some-clause-session : goal.returns-in-Some-clause-session
returns-in-Some-clause-session g c =
    of_asked
    (λ code most. (ending : Ending) → c.serve_session.result ≡ status_of ending → Moved (g.S.Source.given c.args.source.now) (g.S.Source.left c.args.source.now) (g.S.Source.given c.serve_session.new.source) (g.S.Source.left c.serve_session.new.source)
    (g.K.Sink.accepted c.args.sink.now) (g.K.Sink.written c.args.sink.now) (g.K.Sink.accepted c.serve_session.new.sink) (g.K.Sink.written c.serve_session.new.sink)
    (λ got taken. IsSessionOf code most got (g.S.Source.ended c.serve_session.new.source) ending taken
    × IsSessionIn code most (g.S.Source.left c.args.source.now) got ending taken))
    (map (string_bytes {Z = Global}) c.args.words.now) c.in-Some.asked.geometry c.in-Some.asked.max c.in-Some.ensures c.serve_session.ensures.session

pub returns-in-Some-clause-given_up : goal.returns-in-Some-clause-given_up
returns-in-Some-clause-given_up g c =
    of_asked
    (λ code most. c.serve_session.result ≡ SessionStatus.ReadFault → Moved (g.S.Source.given c.args.source.now) (g.S.Source.left c.args.source.now) (g.S.Source.given c.serve_session.new.source) (g.S.Source.left c.serve_session.new.source)
    (g.K.Sink.accepted c.args.sink.now) (g.K.Sink.written c.args.sink.now) (g.K.Sink.accepted c.serve_session.new.sink) (g.K.Sink.written c.serve_session.new.sink)
    (IsGivenUp code most))
    (map (string_bytes {Z = Global}) c.args.words.now) c.in-Some.asked.geometry c.in-Some.asked.max c.in-Some.ensures c.serve_session.ensures.given_up

pub returns-in-Some-clause-wanting : goal.returns-in-Some-clause-wanting
returns-in-Some-clause-wanting g c =
    of_asked
    (λ code most. c.serve_session.result ≡ SessionStatus.OutOfMemory → Moved (g.S.Source.given c.args.source.now) (g.S.Source.left c.args.source.now) (g.S.Source.given c.serve_session.new.source) (g.S.Source.left c.serve_session.new.source)
    (g.K.Sink.accepted c.args.sink.now) (g.K.Sink.written c.args.sink.now) (g.K.Sink.accepted c.serve_session.new.sink) (g.K.Sink.written c.serve_session.new.sink)
    (IsWanting code most))
    (map (string_bytes {Z = Global}) c.args.words.now) c.in-Some.asked.geometry c.in-Some.asked.max c.in-Some.ensures c.serve_session.ensures.wanting

pub returns-in-Some-clause-cut_off : goal.returns-in-Some-clause-cut_off
returns-in-Some-clause-cut_off g c =
    of_asked
    (λ code most. c.serve_session.result ≡ SessionStatus.WriteFault → Moved (g.S.Source.given c.args.source.now) (g.S.Source.left c.args.source.now) (g.S.Source.given c.serve_session.new.source) (g.S.Source.left c.serve_session.new.source)
    (g.K.Sink.accepted c.args.sink.now) (g.K.Sink.written c.args.sink.now) (g.K.Sink.accepted c.serve_session.new.sink) (g.K.Sink.written c.serve_session.new.sink)
    (IsCutShort code most))
    (map (string_bytes {Z = Global}) c.args.words.now) c.in-Some.asked.geometry c.in-Some.asked.max c.in-Some.ensures c.serve_session.ensures.cut_off

pub returns-in-Some-clause-complete : goal.returns-in-Some-clause-complete
returns-in-Some-clause-complete g c = λ code most asked no_read no_write.
    ends_or_wants c.serve_session.result c.serve_session.ensures.which (λ same. no_read (c.serve_session.ensures.read_fault same))
    (λ same. no_write (c.serve_session.ensures.write_fault same))

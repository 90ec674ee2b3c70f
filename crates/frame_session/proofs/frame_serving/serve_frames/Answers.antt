use Rattle.std.proofs.Common.{◌≡◌, ◌+◌, ◌-◌, arith, refl, ap, sym, subst, ◌∙◌, Err, length}
use Rattle.std.proofs.lemmas.Grind.{common_steps}
use Rattle.frame_bytes.specs.declared.frame_reading.Next.{Next}
use Rattle.frame_bytes.specs.Next.{IsNext, IsServed}
use Rattle.frame_bytes.specs.Heard.{HandsOutNext}
use Rattle.frame_session.specs.declared.session_status.SessionStatus.{SessionStatus}
use Rattle.frame_session.proofs.Going.{Going, begins, goes_further, is_cut, is_session, is_given_up, is_wanting}
use Rattle.frame_session.proofs.Statuses.{same_ending, no_ending, no_ending_by, memory_fault, no_write_fault}
use Rattle.frame_session.proofs.frame_serving.serve_frames.Goals as goal

pub frames-init : goal.frames-init
frames-init g c = record {
  going =
      subst
      (λ room. Going c.args.store.now c.args.store.now room (g.S.Source.given c.args.source.now) (g.S.Source.left c.args.source.now) (g.S.Source.given c.args.source.now) (g.S.Source.left c.args.source.now)
      (g.K.Sink.accepted c.args.sink.now) (g.K.Sink.written c.args.sink.now) (g.K.Sink.accepted c.args.sink.now) (g.K.Sink.written c.args.sink.now))
      (sym c.most_input-room.ensures)
      (begins c.args.store.now (g.S.Source.given c.args.source.now) (g.S.Source.left c.args.source.now) (g.K.Sink.accepted c.args.sink.now) (g.K.Sink.written c.args.sink.now) c.requires.begins);
  read_steady = refl;
  write_steady = refl;
}

pub frames-preserved : goal.frames-preserved
frames-preserved g c =
    let is : c.in-Ok.next ≡ Next.Frame c.as_slice.result.now = c.in-Frame.is ∙ ap (λ l. Next.Frame l) (sym c.as_slice.ensures) in
    let size : length c.as_slice.result.now ≡ c.len.result = ap length c.as_slice.ensures ∙ sym c.len.ensures in
    record {
      going =
          subst
          (λ k. Going c.args.store.now c.serve_frame.new.store (c.frames.room - (k + 4)) (g.S.Source.given c.args.source.now) (g.S.Source.left c.args.source.now)
          (g.S.Source.given c.read_frame.new.source) (g.S.Source.left c.read_frame.new.source) (g.K.Sink.accepted c.args.sink.now)
          (g.K.Sink.written c.args.sink.now) (g.K.Sink.accepted c.serve_frame.new.sink) (g.K.Sink.written c.serve_frame.new.sink))
          size
          (goes_further c.args.store.now c.frames.store c.serve_frame.new.store c.frames.room c.as_slice.result.now
          (g.S.Source.given c.args.source.now) (g.S.Source.given c.frames.source) (g.S.Source.given c.read_frame.new.source)
          (g.S.Source.left c.args.source.now) (g.S.Source.left c.frames.source) (g.S.Source.left c.read_frame.new.source) (g.S.Source.ended c.read_frame.new.source)
          (g.K.Sink.accepted c.args.sink.now) (g.K.Sink.accepted c.frames.sink) (g.K.Sink.accepted c.serve_frame.new.sink)
          (g.K.Sink.written c.args.sink.now) (g.K.Sink.written c.frames.sink) (g.K.Sink.written c.serve_frame.new.sink)
          c.frames.invariant.going
          (subst (λ n. HandsOutNext c.frames.room (g.S.Source.given c.frames.source) (g.S.Source.left c.frames.source) n (g.S.Source.given c.read_frame.new.source)
          (g.S.Source.ended c.read_frame.new.source) (g.S.Source.left c.read_frame.new.source)) is c.in-Ok.ensures.heard)
          (subst (IsServed c.frames.room) is c.in-Ok.ensures.served).1 c.serve_frame.ensures.later
          c.in-Ok-serve_frame.field-0 c.in-Ok-serve_frame.ensures.serves);
      read_steady = grind (arith, common_steps);
      write_steady = c.in-Ok-serve_frame.ensures.steady ∙ c.frames.invariant.write_steady;
    }

pub returns-in-Err-clause-session : goal.returns-in-Err-clause-session
returns-in-Err-clause-session g c = λ ending same. absurd (no_ending c.in-Err.fault ending (sym c.of_fault.ensures ∙ same))

pub returns-in-Err-clause-given_up : goal.returns-in-Err-clause-given_up
returns-in-Err-clause-given_up g c = λ _.
    is_given_up c.args.store.now c.frames.store c.frames.room (g.S.Source.given c.args.source.now) (g.S.Source.given c.frames.source) (g.S.Source.given c.read_frame.new.source)
    (g.S.Source.left c.args.source.now) (g.S.Source.left c.frames.source) (g.S.Source.left c.read_frame.new.source)
    (g.K.Sink.accepted c.args.sink.now) (g.K.Sink.accepted c.frames.sink)
    (g.K.Sink.written c.args.sink.now) (g.K.Sink.written c.frames.sink)
    c.frames.invariant.going c.in-Err.ensures.part

pub returns-in-Err-clause-wanting : goal.returns-in-Err-clause-wanting
returns-in-Err-clause-wanting g c = λ same.
    is_wanting c.args.store.now c.frames.store c.frames.room (g.S.Source.given c.args.source.now) (g.S.Source.given c.frames.source) (g.S.Source.given c.read_frame.new.source)
    (g.S.Source.left c.args.source.now) (g.S.Source.left c.frames.source) (g.S.Source.left c.read_frame.new.source)
    (g.K.Sink.accepted c.args.sink.now) (g.K.Sink.accepted c.frames.sink)
    (g.K.Sink.written c.args.sink.now) (g.K.Sink.written c.frames.sink)
    c.frames.invariant.going
    (c.in-Err.ensures.at_length (ap Err (memory_fault c.in-Err.fault (sym c.of_fault.ensures ∙ same))))

pub returns-in-Err-clause-cut_off : goal.returns-in-Err-clause-cut_off
returns-in-Err-clause-cut_off g c = λ same. absurd (no_write_fault c.in-Err.fault (sym c.of_fault.ensures ∙ same))

pub returns-in-End-clause-session : goal.returns-in-End-clause-session
returns-in-End-clause-session g c = λ ending same.
    let ends : c.in-End.ending ≡ ending = same_ending c.in-End.ending ending (sym c.of_ending.ensures ∙ same) in
    let is : c.in-Ok.next ≡ Next.End ending = c.in-End.is ∙ ap (λ e. Next.End e) ends in
    is_session c.args.store.now c.frames.store c.frames.room (g.S.Source.given c.args.source.now) (g.S.Source.given c.frames.source) (g.S.Source.given c.read_frame.new.source)
    (g.S.Source.left c.args.source.now) (g.S.Source.left c.frames.source) (g.S.Source.left c.read_frame.new.source)
    (g.K.Sink.accepted c.args.sink.now) (g.K.Sink.accepted c.frames.sink)
    (g.K.Sink.written c.args.sink.now) (g.K.Sink.written c.frames.sink)
    c.frames.invariant.going ending (g.S.Source.ended c.read_frame.new.source)
    (subst (λ n. HandsOutNext c.frames.room (g.S.Source.given c.frames.source) (g.S.Source.left c.frames.source) n (g.S.Source.given c.read_frame.new.source)
    (g.S.Source.ended c.read_frame.new.source) (g.S.Source.left c.read_frame.new.source)) is c.in-Ok.ensures.heard)
    (subst (λ n. IsNext c.frames.room (g.S.Source.left c.frames.source) n (g.S.Source.left c.read_frame.new.source)) is c.in-Ok.ensures.next)

pub returns-in-End-clause-given_up : goal.returns-in-End-clause-given_up
returns-in-End-clause-given_up g c = λ same. absurd (no_ending_by SessionStatus.ReadFault c.in-End.ending refl (sym same ∙ c.of_ending.ensures))

pub returns-in-End-clause-wanting : goal.returns-in-End-clause-wanting
returns-in-End-clause-wanting g c = λ same. absurd (no_ending_by SessionStatus.OutOfMemory c.in-End.ending refl (sym same ∙ c.of_ending.ensures))

pub returns-in-End-clause-cut_off : goal.returns-in-End-clause-cut_off
returns-in-End-clause-cut_off g c = λ same. absurd (no_ending_by SessionStatus.WriteFault c.in-End.ending refl (sym same ∙ c.of_ending.ensures))

pub returns-in-Err-serve_frame-clause-session : goal.returns-in-Err-serve_frame-clause-session
returns-in-Err-serve_frame-clause-session g c = λ ending same. absurd (no_ending_by SessionStatus.WriteFault ending refl same)

pub returns-in-Err-serve_frame-clause-cut_off : goal.returns-in-Err-serve_frame-clause-cut_off
returns-in-Err-serve_frame-clause-cut_off g c = λ _.
    let is : c.in-Ok.next ≡ Next.Frame c.as_slice.result.now = c.in-Frame.is ∙ ap (λ l. Next.Frame l) (sym c.as_slice.ensures) in
    is_cut c.args.store.now c.frames.store c.serve_frame.new.store c.frames.room c.as_slice.result.now
    (g.S.Source.given c.args.source.now) (g.S.Source.given c.frames.source) (g.S.Source.given c.read_frame.new.source)
    (g.S.Source.left c.args.source.now) (g.S.Source.left c.frames.source) (g.S.Source.left c.read_frame.new.source) (g.S.Source.ended c.read_frame.new.source)
    (g.K.Sink.accepted c.args.sink.now) (g.K.Sink.accepted c.frames.sink) (g.K.Sink.accepted c.serve_frame.new.sink)
    (g.K.Sink.written c.args.sink.now) (g.K.Sink.written c.frames.sink) (g.K.Sink.written c.serve_frame.new.sink)
    c.frames.invariant.going
    (subst (λ n. HandsOutNext c.frames.room (g.S.Source.given c.frames.source) (g.S.Source.left c.frames.source) n (g.S.Source.given c.read_frame.new.source)
    (g.S.Source.ended c.read_frame.new.source) (g.S.Source.left c.read_frame.new.source)) is c.in-Ok.ensures.heard)
    (subst (IsServed c.frames.room) is c.in-Ok.ensures.served).1 c.serve_frame.ensures.later
    c.in-Err-serve_frame.field-0 c.in-Err-serve_frame.ensures.serves

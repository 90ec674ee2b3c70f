use Rattle.session_rules.specs.Input.{framed}
use Rattle.session_rules.specs.Replies.{answer_bytes}
use Rattle.frame_session.proofs.Going.{goes_on, is_written, frame_served}
use Rattle.frame_session.proofs.frame_serving.serve_frame.Goals as goal

pub write_answer-requires : goal.write_answer-requires
write_answer-requires g c =
    (goes_on c.args.frame.now c.args.store.now c.answer_to-answer.new.store c.answer_to-answer.result c.requires.ready c.answer_to-answer.ensures.later
    c.answer_to-answer.ensures.answers).writable

pub returns-clause-serves : goal.returns-clause-serves
returns-clause-serves g c =
    let old = c.args.sink.now in
    let new = c.write_answer.new.sink in
    frame_served c.args.frame.now c.args.store.now c.answer_to-answer.new.store c.answer_to-answer.result c.write_answer.result
    (g.K.Sink.accepted old) (g.K.Sink.written old) (g.K.Sink.accepted new) (g.K.Sink.written new) c.answer_to-answer.ensures.answers
    (is_written c.write_answer.result (g.K.Sink.accepted old) (g.K.Sink.written old) (framed (answer_bytes c.answer_to-answer.result))
    (g.K.Sink.accepted new) (g.K.Sink.written new) c.write_answer.ensures.accepted c.write_answer.ensures.part)

pub returns-clause-ready : goal.returns-clause-ready
returns-clause-ready g c =
    (goes_on c.args.frame.now c.args.store.now c.answer_to-answer.new.store c.answer_to-answer.result c.requires.ready c.answer_to-answer.ensures.later
    c.answer_to-answer.ensures.answers).ready

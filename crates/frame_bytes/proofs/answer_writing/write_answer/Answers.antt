use Rattle.std.proofs.Common.{subst}
use Rattle.clay_bytes.specs.Stream.{Accepts, AcceptsPrefix}
use Rattle.std.proofs.lemmas.Result.{on_err_weaker}
use Rattle.session_rules.specs.Input.{framed}
use Rattle.session_rules.specs.Replies.{answer_bytes}
use Rattle.frame_bytes.proofs.WriteLemmas.{and_then, length_cut, bytes_cut, rest_cut, rest_taken, on_err, on_ok_weaker, whole_written, part_written}
use Rattle.frame_bytes.proofs.answer_writing.write_answer.Goals as goal

pub returns-in_err-put_u32-clause-part : goal.returns-in_err-put_u32-clause-part
returns-in_err-put_u32-clause-part g c =
    let old = c.args.sink.now in
    let new = c.put_u32.new.sink in
    on_err _ _
    (length_cut (g.K.Sink.accepted old) (g.K.Sink.accepted old) (g.K.Sink.accepted new) (g.K.Sink.written old) (g.K.Sink.written old) (g.K.Sink.written new)
    c.clear.new.self.items (answer_bytes c.args.answer.now) c.answer_length.result c.clear.ensures.items c.answer_length.ensures
    c.in_err-put_u32.ensures.bytes)

pub returns-in_err-put_u32-clause-prefix : goal.returns-in_err-put_u32-clause-prefix
returns-in_err-put_u32-clause-prefix g c =
    part_written _ (g.K.Sink.accepted c.args.sink.now) (framed (answer_bytes c.args.answer.now)) (g.K.Sink.accepted c.put_u32.new.sink)
    (g.K.Sink.written c.args.sink.now) (g.K.Sink.written c.put_u32.new.sink) (returns-in_err-put_u32-clause-part g c)

pub returns-in_err-put_answer-clause-part : goal.returns-in_err-put_answer-clause-part
returns-in_err-put_answer-clause-part g c =
    let old = c.args.sink.now in
    let new = c.put_answer.new.sink in
    let put = and_then _ c.in_ok-put_u32.ensures c.in_err-put_answer.ensures in
    on_err _ _
    (bytes_cut (g.K.Sink.accepted old) (g.K.Sink.accepted old) (g.K.Sink.accepted new) (g.K.Sink.written old) (g.K.Sink.written old) (g.K.Sink.written new)
    c.clear.new.self.items (answer_bytes c.args.answer.now) c.answer_length.result c.clear.ensures.items c.answer_length.ensures put.bytes)

pub returns-in_err-put_answer-clause-prefix : goal.returns-in_err-put_answer-clause-prefix
returns-in_err-put_answer-clause-prefix g c =
    part_written _ (g.K.Sink.accepted c.args.sink.now) (framed (answer_bytes c.args.answer.now)) (g.K.Sink.accepted c.put_answer.new.sink)
    (g.K.Sink.written c.args.sink.now) (g.K.Sink.written c.put_answer.new.sink) (returns-in_err-put_answer-clause-part g c)

pub returns-clause-part : goal.returns-clause-part
returns-clause-part g c =
    let old = c.args.sink.now in
    let mid = c.put_answer.new.sink in
    let new = c.write_all.new.sink in
    let put = and_then _ c.in_ok-put_u32.ensures c.in_ok-put_answer.ensures in
    on_err_weaker c.write_all.result
    (λ prefix.
    rest_cut (g.K.Sink.accepted old) (g.K.Sink.accepted mid) (g.K.Sink.accepted new) (g.K.Sink.written old) (g.K.Sink.written mid) (g.K.Sink.written new)
    c.clear.new.self.items (answer_bytes c.args.answer.now) c.answer_length.result c.clear.ensures.items c.answer_length.ensures
    c.put_answer.new.block.items put.bytes
    (subst (λ l. AcceptsPrefix (g.K.Sink.accepted mid) (g.K.Sink.written mid) l (g.K.Sink.accepted new) (g.K.Sink.written new)) c.deref.ensures.value prefix))
    c.write_all.ensures.part

pub returns-clause-prefix : goal.returns-clause-prefix
returns-clause-prefix g c =
    part_written c.write_all.result (g.K.Sink.accepted c.args.sink.now) (framed (answer_bytes c.args.answer.now)) (g.K.Sink.accepted c.write_all.new.sink)
    (g.K.Sink.written c.args.sink.now) (g.K.Sink.written c.write_all.new.sink) (returns-clause-part g c)

pub returns-clause-accepted : goal.returns-clause-accepted
returns-clause-accepted g c =
    let old = c.args.sink.now in
    let mid = c.put_answer.new.sink in
    let new = c.write_all.new.sink in
    let put = and_then _ c.in_ok-put_u32.ensures c.in_ok-put_answer.ensures in
    on_ok_weaker c.write_all.result
    (λ whole.
    rest_taken (g.K.Sink.accepted old) (g.K.Sink.accepted mid) (g.K.Sink.accepted new) (g.K.Sink.written old) (g.K.Sink.written mid) (g.K.Sink.written new)
    c.clear.new.self.items (answer_bytes c.args.answer.now) c.answer_length.result c.clear.ensures.items c.answer_length.ensures
    c.put_answer.new.block.items put.bytes
    (subst (λ l. Accepts (g.K.Sink.accepted mid) (g.K.Sink.written mid) l (g.K.Sink.accepted new) (g.K.Sink.written new)) c.deref.ensures.value whole))
    c.write_all.ensures.accepted

pub returns-clause-whole : goal.returns-clause-whole
returns-clause-whole g c =
    whole_written c.write_all.result (g.K.Sink.accepted c.args.sink.now) (framed (answer_bytes c.args.answer.now)) (g.K.Sink.accepted c.write_all.new.sink)
    (g.K.Sink.written c.args.sink.now) (g.K.Sink.written c.write_all.new.sink) (returns-clause-accepted g c)

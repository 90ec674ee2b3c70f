use Rattle.std.proofs.Common.{◌≡◌, true, refl, sym, ◌∙◌}
use Rattle.line_grammar.specs.Line.{CallLine}
use Rattle.script_text.specs.declared.script_reader.Reader.{Reader}
use Rattle.script_text.proofs.ReaderLaws.{call_err, call_over, call_push_err, call_taken}
use Rattle.line_grammar.proofs.HandedOn.{handed_on}
use Rattle.script_text.specs.Reader.{Takes}
use Rattle.script_text.proofs.script_reader.Reader.take_call.Goals as goal

pub returns-in_err-call : goal.returns-in_err-call
returns-in_err-call c =
    handed_on (λ r. Takes c.args.self.now c.args.line.now r c.args.self.now) c.from_residual.result c.in_err-call.field-0.0 c.from_residual.ensures.1
    (call_err c.args.self.now c.args.self.now c.args.line.now c.requires.place c.requires.kind c.requires.sound c.in_err-call.field-0.0 c.in_err-call.ensures)

pub returns-then-not-is_allowed : goal.returns-then-not-is_allowed
returns-then-not-is_allowed c =
    call_over c.args.self.now c.args.line.now c.in_ok-call.call c.from-stripe_len.result c.unwrap_or-size.result c.with_call-load.result.stripes c.with_call-load.result.read_bytes
    c.requires.sound c.requires.place c.in_ok-call.ensures.0 c.in_ok-call.ensures.2 (c.from-stripe_len.ensures ∙ c.stripe_len.ensures.value) c.unwrap_or-size.ensures
    c.with_call-load.ensures.stripes c.with_call-load.ensures.read_bytes
    (λ allowed. let yes : c.is_allowed.result ≡ true = c.is_allowed.ensures.1 allowed in cc (yes, c.if-not-is_allowed.true))

pub returns-in_err-push_call : goal.returns-in_err-push_call
returns-in_err-push_call c =
    let new : Reader = record c.args.self.now { clients = c.push_call.new.clients } in
    handed_on (λ r. Takes c.args.self.now c.args.line.now r new) c.from_residual-in_err-push_call.result c.in_err-push_call.field-0.0 c.from_residual-in_err-push_call.ensures.1
    (call_push_err c.args.self.now new c.args.line.now c.in_ok-call.call c.pending-leave.result c.requires.sound c.requires.place c.in_ok-call.ensures.0 c.in_ok-call.ensures.2
    c.in_err-push_call.field-0.0 c.push_call.new.clients.items c.in_err-push_call.ensures)

pub returns : goal.returns
returns c =
    let new : Reader = record c.args.self.now { place = c.in-Some.place; clients = c.push_call.new.clients; load = c.with_call-load.result } in (
      CallLine c.in_ok-call.call,
      call_taken c.args.self.now new c.args.line.now c.in_ok-call.call c.from-stripe_len.result c.unwrap_or-size.result
          c.requires.sound c.requires.place c.in_ok-call.ensures.0 c.in_ok-call.ensures.1 c.in_ok-call.ensures.2 (c.from-stripe_len.ensures ∙ c.stripe_len.ensures.value) c.unwrap_or-size.ensures
          c.with_call-load.ensures.stripes c.with_call-load.ensures.read_bytes (c.is_allowed.ensures.0 c.if-not-is_allowed.false)
          (rw (← c.pending-leave.ensures) c.in_ok-push_call.ensures) refl (sym c.in-Some.ensures),
    )

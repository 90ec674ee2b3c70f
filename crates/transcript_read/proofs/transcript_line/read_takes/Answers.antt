use Rattle.std.proofs.Common.{arith, ◌≡◌, true, sym, ap, length, ◌∙◌}
use Rattle.std.specs.Prelude.{decimal}
use Rattle.store_map.specs.CallNames.{call_text}
use Rattle.std.specs.List.{list_any}
use Rattle.transcript_read.specs.Forms.{IsTakesLine, is_above_zero}
use Rattle.transcript_read.specs.Bodies.{takes_body}
use Rattle.transcript_read.proofs.ListLaws.{same_words, listed, Starts-listed}
use Rattle.transcript_read.proofs.PartLaws.{long_lacks, call_lacks, same_longs, unread_by}
use Rattle.transcript_read.proofs.transcript_line.read_takes.Goals as goal

pub returns-in_err-call : goal.returns-in_err-call
returns-in_err-call c =
    unread_by (IsTakesLine c.args.servers) takes_body c.args.text.now c.from_residual.result c.in_err-call.field-0.0 c.from_residual.ensures.1 c.in_err-call.ensures
    (λ none line is e. none line.call is.0 (same_words c.cut_word.result.0.now c.cut_word.result.1.now (call_text line.call) (listed decimal line.takes) c.cut_word.ensures.1 (call_lacks 32 line.call (omega arith) is.0) c.cut_word.ensures.2 (Starts-listed decimal line.takes) (sym c.cut_word.ensures.0 ∙ e)).0)

pub read_list-requires : goal.read_list-requires
read_list-requires c =
    λ n long. long_lacks 32 n (omega arith) long

pub returns-in_err-takes : goal.returns-in_err-takes
returns-in_err-takes c =
    unread_by (IsTakesLine c.args.servers) takes_body c.args.text.now c.from_residual-in_err-takes.result c.in_err-takes.field-0.0 c.from_residual-in_err-takes.ensures.1 c.in_err-takes.ensures
    (λ none line is e. none line.takes is.1 (same_words c.cut_word.result.0.now c.cut_word.result.1.now (call_text line.call) (listed decimal line.takes) c.cut_word.ensures.1 (call_lacks 32 line.call (omega arith) is.0) c.cut_word.ensures.2 (Starts-listed decimal line.takes) (sym c.cut_word.ensures.0 ∙ e)).1)

pub returns-then-len-servers : goal.returns-then-len-servers
returns-then-len-servers c =
    λ line is e.
    let same = same_longs c.in_ok-takes.takes line.takes c.in_ok-takes.ensures.0 is.1 (sym c.in_ok-takes.ensures.1 ∙ (same_words c.cut_word.result.0.now c.cut_word.result.1.now (call_text line.call) (listed decimal line.takes) c.cut_word.ensures.1 (call_lacks 32 line.call (omega arith) is.0) c.cut_word.ensures.2 (Starts-listed decimal line.takes) (sym c.cut_word.ensures.0 ∙ e)).1) in
    let len : c.len.result ≡ c.args.servers = c.len.ensures ∙ ap length same ∙ is.2 in c.if-len-servers.true len

pub returns-then-not-is_any_above_zero : goal.returns-then-not-is_any_above_zero
returns-then-not-is_any_above_zero c =
    λ line is e.
    let same = same_longs c.in_ok-takes.takes line.takes c.in_ok-takes.ensures.0 is.1 (sym c.in_ok-takes.ensures.1 ∙ (same_words c.cut_word.result.0.now c.cut_word.result.1.now (call_text line.call) (listed decimal line.takes) c.cut_word.ensures.1 (call_lacks 32 line.call (omega arith) is.0) c.cut_word.ensures.2 (Starts-listed decimal line.takes) (sym c.cut_word.ensures.0 ∙ e)).1) in
    let yes : c.is_any_above_zero.result ≡ true = c.is_any_above_zero.ensures ∙ ap (list_any is_above_zero) (c.as_slice.ensures ∙ same) ∙ is.3 in cc (yes, c.if-not-is_any_above_zero.true)

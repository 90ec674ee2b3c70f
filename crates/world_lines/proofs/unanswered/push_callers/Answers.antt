use Rattle.std.proofs.Common.{◌≡◌, ◌∙◌, sym, subst, ap, List, [], ◌∷◌, ◌++◌, if◌then◌else◌, nat_lt, length, Fits, w32, arith}
use Rattle.std.proofs.Math.Facts.{Fits-of_lt}
use Rattle.std.proofs.lemmas.List.{length-map}
use Rattle.store_map.specs.declared.call_name.CallName.{CallName}
use Rattle.store_core.specs.Shown.{unanswered_line}
use Rattle.call_steps.specs.CallerCalls.{calling_at, ended_of}
use Rattle.world_lines.specs.Names.{name_by}
use Rattle.world_lines.proofs.Numbered.{lines_more, names_at}
use Rattle.world_lines.proofs.Begun.{begun}
use Rattle.world_lines.proofs.unanswered.push_callers.Goals as goal

pub overflow_cast-len : goal.overflow_cast-len
overflow_cast-len c =
    let count : c.len.result ≡ length c.index-callers-i.result.ended.items = omega arith in
    subst (Fits w32) (sym count)
    (Fits-of_lt (names_at (λ calls. length calls.ended.items) c.args.callers.now c.loop-i.i c.index-callers-i.result c.requires c.loop-i-test.true c.index-callers-i.is).1)

pub loop-i-preserved : goal.loop-i-preserved
loop-i-preserved c = λ servers.
    let count : c.len.result ≡ length c.index-callers-i.result.ended.items = omega arith in
    lines_more (calling_at servers) (λ i. unanswered_line (name_by c.args.role i)) c.args.lines.now c.loop-i.lines c.push_begun.new.lines
    c.args.callers.now c.loop-i.i c.index-callers-i.result c.loop-i-test.true c.index-callers-i.is (c.loop-i.invariant servers)
    (begun c.loop-i.lines c.push_begun.new.lines (name_by c.args.role c.loop-i.i) c.len.result (calling_at servers c.index-callers-i.result)
    (count ∙ sym (length-map c.index-callers-i.result.ended.items (ended_of servers)))
    (c.in_ok-push_begun.ensures ∙ ap (λ (name : CallName). c.loop-i.lines ++ (if nat_lt 0 c.index-callers-i.result.steps then record { call = name } ∷ [] else [])) c.call-call.ensures))

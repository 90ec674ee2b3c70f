use Rattle.std.proofs.Common.{◌≡◌, ◌++◌, ◌∙◌, true, List, ℕ, length, sym, ap, arith, eqb-true, append-nil, subst}
use Rattle.std.proofs.lemmas.Bool.{eqb-false}
use Rattle.std.proofs.lemmas.List.{nil_from_length}
use Rattle.line_grammar.specs.Lines.{Lacks}
use Rattle.transcript_text.specs.Text.{text_of}
use Rattle.transcript_read.proofs.ReadLaws.{few_read, line_missing, line_refused, read_more, read_text, tail_fault}
use Rattle.transcript_read.proofs.PartLaws.{refused_for}
use Rattle.transcript_read.proofs.RestLaws.{next_line}
use Rattle.transcript_read.proofs.transcript_reading.take_transcript.Goals as goal

pub overflow_add-lines : goal.overflow_add-lines
overflow_add-lines c =
    let few = few_read c.args.servers c.args.text c.loop-alloc.reader c.loop-alloc.rest c.loop-alloc.lines c.loop-alloc.invariant in omega (arith, few, c.requires.few)

pub overflow_add-lines-in-Err-Syntax : goal.overflow_add-lines-in-Err-Syntax
overflow_add-lines-in-Err-Syntax c =
    let few = few_read c.args.servers c.args.text c.loop-alloc.reader c.loop-alloc.rest c.loop-alloc.lines c.loop-alloc.invariant in omega (arith, few, c.requires.few)

pub overflow_add-lines-in-loop-alloc : goal.overflow_add-lines-in-loop-alloc
overflow_add-lines-in-loop-alloc c =
    let few = few_read c.args.servers c.args.text c.loop-alloc.reader c.loop-alloc.rest c.loop-alloc.lines c.loop-alloc.invariant in omega (arith, few, c.requires.few)

pub overflow_add-lines-else-is_empty : goal.overflow_add-lines-else-is_empty
overflow_add-lines-else-is_empty c =
    let few = few_read c.args.servers c.args.text c.loop-alloc.reader c.loop-alloc.rest c.loop-alloc.lines c.loop-alloc.invariant in omega (arith, few, c.requires.few)

pub returns-in_default-clause-fault : goal.returns-in_default-clause-fault
returns-in_default-clause-fault c =
    line_missing c.args.servers c.args.text c.loop-alloc.reader c.loop-alloc.rest c.loop-alloc.lines c.fault_at.result c.loop-alloc.invariant
    (λ at. let yes : c.has_ended.result ≡ true = c.has_ended.ensures.1 at in cc (yes, c.loop-alloc-test.true))
    (let P : List ℕ → Type 0 = Lacks 10 in subst P c.as_slice.ensures c.in_default.ensures.none) c.fault_at.ensures.line c.fault_at.ensures.kind

pub returns-in-Err-Syntax-clause-fault : goal.returns-in-Err-Syntax-clause-fault
returns-in-Err-Syntax-clause-fault c =
    line_refused c.args.servers c.args.text c.loop-alloc.reader c.loop-alloc.rest c.in-Some.line.now c.in-Some.field-0-1.now c.loop-alloc.lines c.fault_at-in-Err-Syntax.result c.loop-alloc.invariant
    (λ at. let yes : c.has_ended.result ≡ true = c.has_ended.ensures.1 at in cc (yes, c.loop-alloc-test.true))
    (sym c.as_slice.ensures ∙ c.in-Some.ensures.found) c.in-Some.ensures.first
    (refused_for c.in-Err-Syntax.field-0 c.in-Err-Syntax.field-0-is c.in-Err-Syntax.ensures) c.fault_at-in-Err-Syntax.ensures.line c.fault_at-in-Err-Syntax.ensures.kind

pub loop-alloc-preserved : goal.loop-alloc-preserved
loop-alloc-preserved c =
    read_more c.args.servers c.args.text c.loop-alloc.reader c.take_line.new.self c.loop-alloc.rest c.in-Some.line.now c.skip.new.self c.loop-alloc.lines c.loop-alloc.invariant
    (λ at. let yes : c.has_ended.result ≡ true = c.has_ended.ensures.1 at in cc (yes, c.loop-alloc-test.true))
    (next_line c.as_slice.result.now c.loop-alloc.rest c.in-Some.line.now c.in-Some.field-0-1.now c.skip.new.self c.as_slice.ensures c.in-Some.ensures.found c.skip.ensures) c.in-Ok.ensures

pub returns-then-is_empty-clause-text : goal.returns-then-is_empty-clause-text
returns-then-is_empty-clause-text c =
    let none = sym c.as_slice-2.ensures ∙ nil_from_length c.as_slice-2.result.now (eqb-true (length c.as_slice-2.result.now) 0 (sym c.is_empty.ensures ∙ c.if-is_empty.true)) in
    read_text c.args.servers c.args.text c.loop-alloc.reader c.loop-alloc.rest c.loop-alloc.lines c.loop-alloc.invariant (c.has_ended.ensures.0 c.loop-alloc-test.false)
    ∙ ap (λ (t : List ℕ). text_of c.loop-alloc.reader.transcript ++ t) none ∙ append-nil (text_of c.loop-alloc.reader.transcript)

pub returns-else-is_empty-clause-fault : goal.returns-else-is_empty-clause-fault
returns-else-is_empty-clause-fault c =
    tail_fault c.args.servers c.args.text c.loop-alloc.reader c.loop-alloc.rest c.loop-alloc.lines c.fault_at-else-is_empty.result c.loop-alloc.invariant (c.has_ended.ensures.0 c.loop-alloc-test.false)
    (λ is. eqb-false (length c.as_slice-2.result.now) 0 (sym c.is_empty.ensures ∙ c.if-is_empty.false) (ap length (c.as_slice-2.ensures ∙ is))) c.fault_at-else-is_empty.ensures.line c.fault_at-else-is_empty.ensures.kind

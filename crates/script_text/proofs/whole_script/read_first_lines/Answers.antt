use Rattle.std.proofs.Common.{refl, ◌≡◌, sym}
use Rattle.script_text.specs.Front.{Empty, Opened}
use Rattle.script_text.specs.FirstFault.{IsFrontFault}
use Rattle.line_grammar.specs.declared.line_fault.FaultKind.TheVariants.{Syntax, MissingEnd}
use Rattle.script_text.proofs.ScriptLaws.{named, front_fault, front_missing, not_clay, code_err, clay_read}
use Rattle.script_text.proofs.whole_script.read_first_lines.Goals as goal

pub returns-in_default-form_of-clause-fault : goal.returns-in_default-form_of-clause-fault
returns-in_default-form_of-clause-fault c =
    let bytes = c.args.bytes.now in
    named (IsFrontFault bytes) 1 Syntax c.at-in_default-form_of.result c.at-in_default-form_of.ensures (λ known.
    front_fault bytes Empty bytes c.in-Some.first.now c.in-Some.behind.now 1 Syntax tt (λ h. h) refl refl c.in-Some.ensures.found c.in-Some.ensures.first
    (not_clay c.in-Some.first.now (c.form_of.ensures.none (c.in_default-form_of.is))))

pub returns-in_default-split_at_first-clause-fault :
    goal.returns-in_default-split_at_first-clause-fault
returns-in_default-split_at_first-clause-fault c =
    let bytes = c.args.bytes.now in
    let form = c.in-Some-form_of.form in
    named (IsFrontFault bytes) 2 MissingEnd c.at-in_default-split_at_first.result c.at-in_default-split_at_first.ensures (λ known.
    front_missing bytes (Opened form) c.in-Some.behind.now 2 c.in-Some-form_of.ensures.some.0 (λ h. h) refl
    (clay_read form bytes c.in-Some.first.now c.in-Some.behind.now c.in-Some.ensures.found c.in-Some-form_of.ensures.some.1) c.in_default-split_at_first.ensures.none)

pub returns-in-Err-clause-fault : goal.returns-in-Err-clause-fault
returns-in-Err-clause-fault c =
    let bytes = c.args.bytes.now in
    let form = c.in-Some-form_of.form in
    named (IsFrontFault bytes) 2 c.in-Err.kind c.at-in-Err.result c.at-in-Err.ensures (λ known.
    front_fault bytes (Opened form) c.in-Some.behind.now c.in-Some-split_at_first.second.now c.in-Some-split_at_first.rest.now 2 c.in-Err.kind c.in-Some-form_of.ensures.some.0 (λ h. h) refl
    (clay_read form bytes c.in-Some.first.now c.in-Some.behind.now c.in-Some.ensures.found c.in-Some-form_of.ensures.some.1)
    c.in-Some-split_at_first.ensures.found c.in-Some-split_at_first.ensures.first
    (code_err form c.in-Some-split_at_first.second.now c.in-Err.kind c.in-Err.ensures known))

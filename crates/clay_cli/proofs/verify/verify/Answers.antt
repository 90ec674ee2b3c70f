use Rattle.std.proofs.Common.{◌≡◌, ◌++◌, ℕ, ◌+◌, List, ◌∙◌, arith, subst, take, drop, refl, ap}
use Rattle.script_text.specs.FirstFault.{OrMemory}
use Rattle.script_text.specs.Spelling.{spelling}
use Rattle.transcript_read.specs.Fault.{IsFault}
use Rattle.clay_cli.proofs.VerifyLaws.{cut_front, faulty_transcript, few_calls, line_within, on_three, parted_at, rest_short}
use Rattle.clay_cli.proofs.verify.verify.Goals as goal

pub judge-requires : goal.judge-requires
judge-requires c =
    let short = rest_short c.in-Ok.front.1 c.args.input.items c.part_at-lines.result.1 c.part_at-lines.ensures.rest in
    record { few = few_calls c.in-Ok-take_transcript.transcript c.part_at-lines.result.1 c.in-Ok-take_transcript.ensures.text (omega (arith, short, c.requires)) }

pub behind-requires-clause-line : goal.behind-requires-clause-line
behind-requires-clause-line c =
    let short = rest_short c.in-Ok.front.1 c.args.input.items c.part_at-lines.result.1 c.part_at-lines.ensures.rest in
    let within = line_within _ c.part_at-lines.result.1 c.in-Err-take_transcript.fault c.in-Err-take_transcript.ensures.fault in
    omega (arith, within, short, c.requires)

pub returns-clause-answers : goal.returns-clause-answers
returns-clause-answers c =
    let input = c.args.input.items in
    let script = c.in-Ok.front.0 in
    let n = c.in-Ok.front.1 in
    let rest = c.part_at-lines.result.1 in
    let fault = c.in-Err-take_transcript.fault in
    let P : ℕ → Type 0 = λ servers. OrMemory (IsFault servers rest) fault in
    let S : List ℕ → Type 0 = λ bytes. bytes ≡ spelling script ++ drop n bytes in
    let front = cut_front input (take n input) script n (subst S c.deref.ensures.value c.in-Ok.ensures.spelled) c.in-Ok.ensures.length refl in
    let lines = ap (λ (k : ℕ). k + fault.line) c.part_at-lines.ensures.lines in
    on_three c.refusal-in-Err-take_transcript.result
    (λ output status line memory. faulty_transcript input (take n input) rest script fault c.behind.result output.status output.bytes.items
    c.in-Ok.ensures.values c.in-Ok.ensures.valid front (parted_at n input rest c.part_at-lines.ensures.rest) (subst P c.n.ensures.value c.in-Err-take_transcript.ensures.fault)
    c.behind.ensures.kind (c.behind.ensures.line (λ e. memory (c.behind.ensures.kind ∙ e)) ∙ lines) status line memory)
    c.refusal-in-Err-take_transcript.ensures.status c.refusal-in-Err-take_transcript.ensures.line c.refusal-in-Err-take_transcript.ensures.memory

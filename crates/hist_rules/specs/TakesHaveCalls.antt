-- Each call that took subchunks has a line that says what became of it.
use Rattle.std.specs.Prelude.{Option}
use Rattle.store_map.specs.declared.call_name.CallName.{CallName}
use Rattle.store_map.specs.declared.transcript.Transcript.{Transcript}
use Rattle.hist_rules.specs.declared.verdict.Verdict.{Verdict}
use Rattle.hist_rules.specs.declared.verdict.Verdict.TheVariants.{Unlisted}
use Rattle.hist_rules.specs.First.{unless, first_fault}
use Rattle.hist_rules.specs.Calls.{is_named}
use Rattle.hist_rules.specs.Named.{listed_calls}

-- the fault tells the call that no line names
abbrev pub has_call : Transcript → CallName → Option Verdict
has_call t call = unless (is_named call (listed_calls t)) (Unlisted call)

-- the first call that took subchunks and has no line
abbrev pub takes_have_calls : Transcript → Option Verdict
takes_have_calls t = first_fault (λ line. has_call t line.call) t.takes

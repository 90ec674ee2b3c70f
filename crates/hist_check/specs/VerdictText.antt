-- How a verdict is printed.
use Rattle.std.specs.Prelude.{ℕ, ◌-◌, List, ◌++◌, Option, None, Some, length, take, codes, decimal}
use Rattle.store_map.specs.CallNames.{call_text}
use Rattle.store_map.specs.declared.line.LLine.{LLine}
use Rattle.transcript_text.specs.Words.{reply_text, shown_text}
use Rattle.transcript_text.specs.Lines.{o_line, l_line, t_line}
use Rattle.hist_rules.specs.declared.verdict.Verdict.{Verdict}
use Rattle.hist_rules.specs.declared.verdict.Verdict.TheVariants.{Legal, Differs, Misplaced, BadCause, Unlisted, BadObject, BadSums}

-- a line without the line feed at its end
abbrev pub without_end : List ℕ → List ℕ
without_end line = take (length line - 1) line

-- where no line stands
abbrev pub nothing : List ℕ
nothing = codes "-"

-- an object's line, where there is one
abbrev pub object_text : Option LLine → List ℕ
object_text None = nothing
object_text (Some line) = without_end (l_line line)

-- the fault of a line at the end: its kind, what was expected, and what stands there
abbrev pub tail_line : List ℕ → List ℕ → List ℕ → List ℕ
tail_line kind expected got = codes "tail " ++ kind ++ codes " expected " ++ expected ++ codes " got " ++ got ++ codes "\n"

-- the verdict's line, with its line feed; what a server holds isn't known, so the line that was expected of it has what its own says
abbrev pub verdict_line : Verdict → List ℕ
verdict_line Legal = codes "legal\n"
verdict_line (Differs call expected got) =
    codes "differs " ++ call_text call ++ codes " expected " ++ reply_text expected ++ codes " got " ++ shown_text got ++ codes "\n"
verdict_line (Misplaced call first second) = codes "misplaced " ++ call_text call ++ codes " " ++ decimal first ++ codes " " ++ decimal second ++ codes "\n"
verdict_line (BadCause call first second) = codes "cause " ++ call_text call ++ codes " " ++ decimal first ++ codes " " ++ decimal second ++ codes "\n"
verdict_line (Unlisted call) = tail_line (codes "open") (without_end (o_line (record { call = call }))) nothing
verdict_line (BadObject expected got) = tail_line (codes "list") (object_text expected) (object_text got)
verdict_line (BadSums taken epoch got) = tail_line (codes "taken") (without_end (t_line (record got { taken = taken; epoch = epoch }))) (without_end (t_line got))

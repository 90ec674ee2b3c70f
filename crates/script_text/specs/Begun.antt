-- The lines of a script so far.
use Rattle.std.specs.Prelude.{List, [], ◌∷◌, ◌++◌, map}
use Rattle.std.specs.List.{flat_map}
use Rattle.store_map.specs.declared.script.Script.{Script}
use Rattle.line_grammar.specs.Line.{Line, ClayLine, CodeLine, SizeLine, TriesLine, LeaveLine, ScheduleLine, StepLine, EndLine}
use Rattle.script_text.specs.Spelling.{client_lines, repairer_lines, optional_line}
use Rattle.script_text.specs.declared.script_place.ScriptPlace.{ScriptPlace}
use Rattle.script_text.specs.declared.script_place.ScriptPlace.TheVariants as place

-- the lines behind the blocks, up to a place
abbrev pub lines_behind_blocks : ScriptPlace → Script → List Line
lines_behind_blocks (place.ClientLimit steps) script = LeaveLine steps ∷ []
lines_behind_blocks (place.RepairerLimit steps) script = LeaveLine steps ∷ []
lines_behind_blocks place.Schedule script = ScheduleLine ∷ map StepLine script.schedule
lines_behind_blocks place.End script = ScheduleLine ∷ map StepLine script.schedule ++ EndLine ∷ []
lines_behind_blocks _ script = []

-- the lines of a script so far, up to a place
abbrev pub begun : ScriptPlace → Script → List Line
begun p script =
    (ClayLine script.form ∷ CodeLine script.geometry ∷ [])
    ++ optional_line SizeLine script.size ++ optional_line TriesLine script.tries
    ++ flat_map client_lines script.clients ++ flat_map repairer_lines script.repairers
    ++ lines_behind_blocks p script

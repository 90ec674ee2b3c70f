-- How a script is written. Each script has this one spelling.
use Rattle.std.specs.Prelude.{ℕ, List, [], ◌∷◌, ◌++◌, map, Option, None, Some}
use Rattle.std.specs.List.{flat_map}
use Rattle.store_map.specs.declared.script.ClientPart.{ClientPart}
use Rattle.store_map.specs.declared.script.RepairPart.{RepairPart}
use Rattle.store_map.specs.declared.script.Script.{Script}
use Rattle.line_grammar.specs.Line.{Line, ClayLine, CodeLine, SizeLine, TriesLine, ClientLine, RepairerLine, LeaveLine, CallLine, RebuildLine, ScheduleLine, StepLine, EndLine, line_text}

-- a block's call lines, the last of them behind its step limit, if it has one
abbrev pub limited : Option ℕ → List Line → List Line
limited None lines = lines
limited (Some steps) [] = []
limited (Some steps) (line ∷ []) = LeaveLine steps ∷ line ∷ []
limited (Some steps) (line ∷ next ∷ lines) = line ∷ limited (Some steps) (next ∷ lines)

-- a client's block
abbrev pub client_lines : ClientPart → List Line
client_lines part = ClientLine ∷ limited part.leave (map CallLine part.calls)

-- a repairer's block
abbrev pub repairer_lines : RepairPart → List Line
repairer_lines part = RepairerLine ∷ limited part.leave (map RebuildLine part.calls)

-- a line of the number, if there is one
abbrev pub optional_line : (ℕ → Line) → Option ℕ → List Line
optional_line make None = []
optional_line make (Some n) = make n ∷ []

-- the lines before the blocks
abbrev pub head_lines : Script → List Line
head_lines script =
    (ClayLine script.form ∷ CodeLine script.geometry ∷ [])
    ++ optional_line SizeLine script.size ++ optional_line TriesLine script.tries

-- all lines of a script
abbrev pub script_lines : Script → List Line
script_lines script =
    head_lines script
    ++ flat_map client_lines script.clients ++ flat_map repairer_lines script.repairers
    ++ (ScheduleLine ∷ map StepLine script.schedule) ++ (EndLine ∷ [])

-- the bytes of a script
unfoldable pub spelling : Script → List ℕ
spelling script = flat_map line_text (script_lines script)

-- The objects at the end are those of the plain map after the history's calls, in order of creation.
use Rattle.std.specs.Prelude.{ℕ, Bool, nat_eq, ◌&&◌, List, [], ◌∷◌, map, length, bytes_eq, Option, None, Some, if◌then◌else◌}
use Rattle.store_map.specs.History.{map_after}
use Rattle.store_map.specs.Limits.{size_of}
use Rattle.store_map.specs.PlainMap.{Objects}
use Rattle.store_map.specs.declared.script.Script.{Script}
use Rattle.store_map.specs.declared.line.LLine.{LLine}
use Rattle.store_map.specs.declared.transcript.Transcript.{Transcript}
use Rattle.hist_rules.specs.declared.verdict.Verdict.{Verdict}
use Rattle.hist_rules.specs.declared.verdict.Verdict.TheVariants.{BadObject}
use Rattle.hist_rules.specs.RepliesMatch.{history_calls}

-- the line of an object with this name and these bytes
abbrev pub shown_object : List ℕ → List ℕ → LLine
shown_object name bytes = record { name = name; length = length bytes }

abbrev pub shown_objects : Objects → List LLine
shown_objects objects = map (λ object. shown_object object.0 object.1) objects

-- the lines of the map's objects
abbrev pub map_lines : Script → Transcript → List LLine
map_lines script t = shown_objects (map_after (size_of script) (history_calls script t))

-- whether two lines are of the same name and length
abbrev pub same_line : LLine → LLine → Bool
same_line one other = bytes_eq one.name other.name && nat_eq one.length other.length

-- the first place at which two lists differ; the fault tells the line of each
abbrev pub first_difference : List LLine → List LLine → Option Verdict
first_difference [] [] = None
first_difference [] (printed ∷ others) = Some (BadObject None (Some printed))
first_difference (wanted ∷ others) [] = Some (BadObject (Some wanted) None)
first_difference (wanted ∷ wanteds) (printed ∷ others) =
    if same_line wanted printed then first_difference wanteds others
    else Some (BadObject (Some wanted) (Some printed))

-- the first object that is missing, or other, or too many
abbrev pub objects_listed : Script → Transcript → Option Verdict
objects_listed script t = first_difference (map_lines script t) t.objects

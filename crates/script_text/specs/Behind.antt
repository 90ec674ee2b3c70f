-- One line more behind a script so far.
use Rattle.std.specs.Prelude.{ℕ, List, [], ◌∷◌, ◌++◌, Option, None, Some}
use Rattle.store_map.specs.declared.script.Script.{Script}
use Rattle.line_grammar.specs.Line.{Line, ClayLine, CodeLine, SizeLine, TriesLine, ClientLine, RepairerLine, LeaveLine, CallLine, RebuildLine, ScheduleLine, StepLine, EndLine}
use Rattle.script_text.specs.Place.{next_place}
use Rattle.script_text.specs.declared.script_place.LineKind.{LineKind}
use Rattle.script_text.specs.declared.script_place.LineKind.TheVariants as kind
use Rattle.script_text.specs.declared.script_place.ScriptPlace.{ScriptPlace}
use Rattle.script_text.specs.declared.script_place.ScriptPlace.TheVariants as place

-- a line without its values
abbrev pub kind_of : Line → LineKind
kind_of (ClayLine form) = kind.Clay
kind_of (CodeLine g) = kind.Code
kind_of (SizeLine n) = kind.Size
kind_of (TriesLine n) = kind.Tries
kind_of ClientLine = kind.Client
kind_of RepairerLine = kind.Repairer
kind_of (LeaveLine n) = kind.Leave
kind_of (CallLine call) = kind.Call
kind_of (RebuildLine rebuild) = kind.Rebuild
kind_of ScheduleLine = kind.Schedule
kind_of (StepLine step) = kind.Step
kind_of EndLine = kind.End

-- the number of a step limit, 0 for another line
abbrev pub limit_of : Line → ℕ
limit_of (LeaveLine n) = n
limit_of _ = 0

-- the place behind the line, if it may stand behind that place
abbrev pub place_behind : ScriptPlace → Line → Option ScriptPlace
place_behind p l = next_place p (kind_of l) (limit_of l)

-- the step limit of the call that stands next, if it has one
abbrev pub pending : ScriptPlace → Option ℕ
pending (place.ClientLimit steps) = Some steps
pending (place.RepairerLimit steps) = Some steps
pending _ = None

-- the list with its last item changed
abbrev pub on_last : {A : Type 0} → (A → A) → List A → List A
on_last f [] = []
on_last f (x ∷ []) = f x ∷ []
on_last f (x ∷ y ∷ ys) = x ∷ on_last f (y ∷ ys)

-- the script with one line more: a block's first line begins a block, and a call goes to the last
-- block, with the step limit that waits for it
abbrev pub with_line : ScriptPlace → Script → Line → Script
with_line p script (SizeLine n) = record script { size = Some n }
with_line p script (TriesLine n) = record script { tries = Some n }
with_line p script ClientLine =
    record script { clients = script.clients ++ (record { calls = []; leave = None }) ∷ [] }
with_line p script RepairerLine =
    record script { repairers = script.repairers ++ (record { calls = []; leave = None }) ∷ [] }
with_line p script (CallLine call) =
    record script {
      clients = on_last (λ part. record { calls = part.calls ++ call ∷ []; leave = pending p }) script.clients;
    }
with_line p script (RebuildLine rebuild) =
    record script {
      repairers = on_last (λ part. record { calls = part.calls ++ rebuild ∷ []; leave = pending p }) script.repairers;
    }
with_line p script (StepLine step) = record script { schedule = script.schedule ++ step ∷ [] }
with_line p script _ = script

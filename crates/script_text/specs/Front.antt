-- The lines before a line, none of which has a fault.
use Rattle.std.specs.Prelude.{◌≡◌, ℕ, List, [], ◌∷◌, IsSome, ⊤}
use Rattle.store_map.specs.declared.script.Script.{Script}
use Rattle.script_text.specs.Begun.{begun}
use Rattle.script_text.specs.Behind.{place_behind, kind_of}
use Rattle.line_grammar.specs.Forms.{IsForm, IsLineOfForm}
use Rattle.line_grammar.specs.Line.{Line, ClayLine}
use Rattle.script_text.specs.SoFar.{IsBegun}
use Rattle.script_text.specs.declared.script_place.LineKind.TheVariants as kind
use Rattle.script_text.specs.declared.script_place.ScriptPlace.{ScriptPlace}
use Rattle.script_text.specs.declared.script_place.ScriptPlace.TheVariants as place

-- what stands before a line: nothing, the first line, or the lines of a script so far
pub data Front : Type 0 where
  Empty : Front
  Opened : ℕ → Front
  Begun : ScriptPlace → Script → Front

-- its lines
abbrev pub front_lines : Front → List Line
front_lines Empty = []
front_lines (Opened form) = ClayLine form ∷ []
front_lines (Begun p script) = begun p script

-- they have no fault
abbrev pub IsFront : Front → Type 0
IsFront (Opened form) = IsForm form
IsFront (Begun p script) = IsBegun p script
IsFront _ = ⊤

-- the line may stand behind them
abbrev pub MayStand : Front → Line → Type 0
MayStand Empty l = kind_of l ≡ kind.Clay
MayStand (Opened form) l = kind_of l ≡ kind.Code
MayStand (Begun p script) l = IsSome (place_behind p l) × IsLineOfForm script.form l

-- the line `end` is among them
abbrev pub HasEnded : Front → Type 0
HasEnded (Begun p script) = p ≡ place.End
HasEnded _ = ⊥

-- What a script so far keeps at the place that its lines have come to.
use Rattle.std.specs.Prelude.{◌≡◌, List, [], ◌∷◌, ◌++◌, None, IsSome, ⊤}
use Rattle.store_map.specs.Naming.{IsValid}
use Rattle.store_map.specs.declared.script.ClientPart.{ClientPart}
use Rattle.store_map.specs.declared.script.RepairPart.{RepairPart}
use Rattle.store_map.specs.declared.script.Script.{Script}
use Rattle.line_grammar.specs.Values.{IsNumber, IsScript}
use Rattle.script_text.specs.declared.script_place.ScriptPlace.{ScriptPlace}
use Rattle.script_text.specs.declared.script_place.ScriptPlace.TheVariants as place

-- no block and no line of the schedule
pub record IsBare (script : Script) : Type 0 where
  pub clients : script.clients ≡ []
  pub repairers : script.repairers ≡ []
  pub schedule : script.schedule ≡ []

-- the last client's block may go on
abbrev pub HasOpenClient : Script → Type 0
HasOpenClient script =
    (front : List ClientPart) × (part : ClientPart) × (script.clients ≡ front ++ part ∷ [])
    × (part.leave ≡ None) × (script.repairers ≡ []) × (script.schedule ≡ [])

-- the last client's block has its step limit, and so its last call
abbrev pub HasLimitedClient : Script → Type 0
HasLimitedClient script =
    (front : List ClientPart) × (part : ClientPart) × (script.clients ≡ front ++ part ∷ [])
    × IsSome part.leave × (script.repairers ≡ []) × (script.schedule ≡ [])

-- the last repairer's block may go on
abbrev pub HasOpenRepairer : Script → Type 0
HasOpenRepairer script =
    (front : List RepairPart) × (part : RepairPart) × (script.repairers ≡ front ++ part ∷ [])
    × (part.leave ≡ None) × (script.schedule ≡ [])

-- the last repairer's block has its step limit, and so its last call
abbrev pub HasLimitedRepairer : Script → Type 0
HasLimitedRepairer script =
    (front : List RepairPart) × (part : RepairPart) × (script.repairers ≡ front ++ part ∷ [])
    × IsSome part.leave × (script.schedule ≡ [])

-- the place tells the last line
abbrev pub IsAt : ScriptPlace → Script → Type 0
IsAt place.Code script = IsBare script × (script.size ≡ None) × (script.tries ≡ None)
IsAt place.Size script = IsBare script × IsSome script.size × (script.tries ≡ None)
IsAt place.Tries script = IsBare script × IsSome script.tries
IsAt place.Client script = HasOpenClient script
IsAt (place.ClientLimit steps) script = HasOpenClient script × IsNumber steps
IsAt place.ClientEnd script = HasLimitedClient script
IsAt place.Repairer script = HasOpenRepairer script
IsAt (place.RepairerLimit steps) script = HasOpenRepairer script × IsNumber steps
IsAt place.RepairerEnd script = HasLimitedRepairer script
IsAt place.Schedule script = ⊤
IsAt place.End script = ⊤

-- a script so far: its lines up to the place have no fault
pub record IsBegun (p : ScriptPlace) (script : Script) : Type 0 where
  pub at : IsAt p script
  pub values : IsScript script
  pub valid : IsValid script

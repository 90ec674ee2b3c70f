-- Adding a call to the last of some blocks.
use Rattle.std.specs.Prelude.{◌≡◌, ◌≢◌, ℕ, List, [], ◌∷◌, ◌++◌, length, Option, Result, Ok, Err, ⊤}
use Rattle.store_map.specs.declared.call.Call.{Call}
use Rattle.store_map.specs.declared.call.Rebuild.{Rebuild}
use Rattle.store_map.specs.declared.limits.TheConstants.{MAX_CALLS}
use Rattle.store_map.specs.declared.script.ClientPart.{ClientPart}
use Rattle.store_map.specs.declared.script.RepairPart.{RepairPart}
use Rattle.line_grammar.specs.declared.line_fault.FaultKind.{FaultKind}
use Rattle.line_grammar.specs.declared.line_fault.FaultKind.TheVariants.{Limit, OutOfMemory}

-- the last block has one call more, with its step limit; or it has no room, or memory was wanting
abbrev pub PushesCall :
    List ClientPart → Call → Option ℕ → Result (Unit {0}) FaultKind → List ClientPart → Type 0
PushesCall old call leave (Ok u) new =
    (front : List ClientPart) × (part : ClientPart) × (old ≡ front ++ part ∷ [])
    × (length part.calls ≢ MAX_CALLS)
    × (new ≡ front ++ (record { calls = part.calls ++ call ∷ []; leave = leave }) ∷ [])
PushesCall old call leave (Err Limit) new =
    (front : List ClientPart) × (part : ClientPart) × (old ≡ front ++ part ∷ [])
    × (length part.calls ≡ MAX_CALLS)
PushesCall old call leave (Err OutOfMemory) new = ⊤
PushesCall old call leave (Err _) new = ⊥

-- the same for a rebuild and the blocks of repairers
abbrev pub PushesRebuild :
    List RepairPart → Rebuild → Option ℕ → Result (Unit {0}) FaultKind → List RepairPart → Type 0
PushesRebuild old rebuild leave (Ok u) new =
    (front : List RepairPart) × (part : RepairPart) × (old ≡ front ++ part ∷ [])
    × (length part.calls ≢ MAX_CALLS)
    × (new ≡ front ++ (record { calls = part.calls ++ rebuild ∷ []; leave = leave }) ∷ [])
PushesRebuild old rebuild leave (Err Limit) new =
    (front : List RepairPart) × (part : RepairPart) × (old ≡ front ++ part ∷ [])
    × (length part.calls ≡ MAX_CALLS)
PushesRebuild old rebuild leave (Err OutOfMemory) new = ⊤
PushesRebuild old rebuild leave (Err _) new = ⊥

-- The reasons of refusals and the results of rebuilds, and those that may stand in a line.
use Rattle.std.specs.Prelude.{◌≢◌, ℕ, List, [], ◌++◌, ⊤, All, codes, decimal}
use Rattle.std.specs.List.{flat_map}
use Rattle.transcript_text.specs.Words.{missing_text}
use Rattle.store_map.specs.declared.cause.Triple.{Triple}
use Rattle.store_map.specs.declared.cause.Cause.{Cause}
use Rattle.store_map.specs.declared.cause.Cause.TheVariants as cause
use Rattle.store_map.specs.declared.cause.RepairResult.{RepairResult}
use Rattle.store_map.specs.declared.cause.RepairResult.TheVariants as repair
use Rattle.transcript_read.specs.Values.{IsLong, IsTriple}

-- a stripe and its missing servers, of which at least one is listed
abbrev pub IsLost : ℕ × List Triple → Type 0
IsLost lost = IsLong lost.0 × All IsTriple lost.1 × (lost.1 ≢ [])

-- how they are spelled behind `unavailable stripe`
abbrev pub lost_text : ℕ × List Triple → List ℕ
lost_text lost = decimal lost.0 ++ codes " " ++ missing_text lost.1

-- B/N
abbrev pub IsPair : ℕ × ℕ → Type 0
IsPair pair = IsLong pair.0 × IsLong pair.1

-- how it is spelled
abbrev pub pair_text : ℕ × ℕ → List ℕ
pair_text pair = decimal pair.0 ++ codes "/" ++ decimal pair.1

-- pairs, of which at least one is listed
abbrev pub IsPairs : List (ℕ × ℕ) → Type 0
IsPairs pairs = All IsPair pairs × (pairs ≢ [])

-- how they are spelled behind `contended`
abbrev pub pairs_text : List (ℕ × ℕ) → List ℕ
pairs_text pairs = flat_map (λ pair. codes " " ++ pair_text pair) pairs

-- CAUSE
abbrev pub IsCause : Cause → Type 0
IsCause (cause.Unavailable stripe missing) = IsLost (stripe, missing)
IsCause (cause.Contended pairs) = IsPairs pairs
IsCause (cause.Reaped at) = IsLong at
IsCause cause.NoMemory = ⊤

-- RESULT
abbrev pub IsResult : RepairResult → Type 0
IsResult (repair.Away downs) = IsLong downs
IsResult (repair.Superseded newer) = IsLong newer
IsResult (repair.Unavailable stripe missing) = IsLost (stripe, missing)
IsResult (repair.Reaped at) = IsLong at
IsResult _ = ⊤

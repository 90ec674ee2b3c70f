-- Losses in time: what a refusal names of servers was so when its call asked them.
use Rattle.std.specs.Prelude.{◌≡◌, ◌⊎◌, ℕ, List, All, ⊤}
use Rattle.store_map.specs.declared.placement.Found.TheVariants as found
use Rattle.store_map.specs.declared.call_name.CallName.{CallName}
use Rattle.store_map.specs.declared.call_name.CallName.TheVariants as name
use Rattle.store_map.specs.declared.cause.Triple.{Triple}
use Rattle.store_map.specs.declared.cause.Cause.{Cause}
use Rattle.store_map.specs.declared.cause.Cause.TheVariants as cause
use Rattle.store_map.specs.declared.cause.RepairResult.{RepairResult}
use Rattle.store_map.specs.declared.cause.RepairResult.TheVariants as result
use Rattle.store_map.specs.declared.line.XLine.{XLine}
use Rattle.store_map.specs.declared.line.RLine.{RLine}
use Rattle.store_map.specs.declared.transcript.Transcript.{Transcript}
use Rattle.store_core.specs.Act.{Act, ServerStep}
use Rattle.store_core.specs.Told.{Told, Seen}
use Rattle.history_laws.specs.Trace.{Made}
use Rattle.history_laws.specs.Moments.{Happened, IsOf, downs}
use Rattle.history_laws.specs.LostChunks.{WasLost, WasSkipped}

-- all these lost their chunks of one version of the stripe; or all were away when they were to keep a chunk of one version that the call wrote
abbrev pub WereMissing : List Made → CallName → ℕ → List Triple → Type 0
WereMissing trace call stripe missing =
    ((seen : Seen) × (seen.stripe ≡ stripe) × All (WasLost trace call seen) missing) ⊎ ((version : ℕ) × All (WasSkipped trace call version) missing)

-- a server told the call that it was away
abbrev pub WasAway : List Made → CallName → ℕ → Type 0
WasAway trace call told =
    Happened trace
    (λ before made.
    IsOf call made ×
    ((server : ℕ) × (step : ServerStep) × (made.act ≡ Act.AtServer server step) × (told ≡ downs server before) × ((made.answer ≡ Told.Away told) ⊎ (made.answer ≡ Told.Missing (found.Away told)))))

-- the servers that it names told the call so
abbrev pub NamesLosses : List Made → CallName → Cause → Type 0
NamesLosses trace call (cause.Unavailable stripe missing) = WereMissing trace call stripe missing
NamesLosses trace call _ = ⊤

-- and those that a rebuild's result names
abbrev pub ResultNamesLosses : List Made → CallName → RepairResult → Type 0
ResultNamesLosses trace call (result.Unavailable stripe missing) = WereMissing trace call stripe missing
ResultNamesLosses trace call (result.Away told) = WasAway trace call told
ResultNamesLosses trace call _ = ⊤

-- the losses of a transcript are in time
pub record HasLossesInTime (trace : List Made) (t : Transcript) : Type 0 where
  pub refused : All (λ (line : XLine). NamesLosses trace (name.Client line.call) line.cause) t.refused
  pub repairs : All (λ (line : RLine). ResultNamesLosses trace (name.Repairer line.call) line.result) t.repairs

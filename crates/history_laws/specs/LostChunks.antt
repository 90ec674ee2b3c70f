-- How chunks were lost: words on the moments at which servers were asked.
use Rattle.std.specs.Prelude.{◌≡◌, ℕ, get_or, List, Some, Contains}
use Rattle.std.specs.List.{slice_get}
use Rattle.store_map.specs.declared.placement.Found.{Found}
use Rattle.store_map.specs.declared.placement.Found.TheVariants as found
use Rattle.store_map.specs.declared.placement.Placement.{Placement}
use Rattle.store_map.specs.declared.placement.Placement.TheVariants as placement
use Rattle.store_map.specs.declared.call_name.CallName.{CallName}
use Rattle.store_map.specs.declared.cause.Triple.{Triple}
use Rattle.store_core.specs.Act.{Act, ServerStep}
use Rattle.store_core.specs.Told.{Told, Seen}
use Rattle.history_laws.specs.Trace.{Made}
use Rattle.history_laws.specs.Moments.{Happened, IsOf, IsFoundThen, IsPlacedThen}

-- the answer of a server that was to keep a version's chunk
abbrev pub TellsPlacement : ℕ → ServerStep → Told → Placement → Type 0
TellsPlacement version (ServerStep.Prepare other) (Told.Prepared told) row = (other ≡ version) × (told ≡ row)
TellsPlacement version (ServerStep.Install other) (Told.Placed epoch) row = (other ≡ version) × (placement.At epoch ≡ row)
TellsPlacement version step answer row = ⊥

-- a version's chunk came to a server, or the server was away
abbrev pub PlacesChunk : ℕ → ℕ → Placement → List Made → Made → Type 0
PlacesChunk server version row before made =
    (step : ServerStep) × (made.act ≡ Act.AtServer server step) × TellsPlacement version step made.answer row × IsPlacedThen server before row

-- a look tells a stripe with its version
abbrev pub TellsSeen : Seen → Told → Type 0
TellsSeen seen (Told.Pinned point length_now stripes) = Contains stripes seen
TellsSeen seen (Told.Ready base length_now stripes) = Contains stripes seen
TellsSeen seen (Told.PinnedStripe other) = other ≡ seen
TellsSeen seen answer = ⊥

-- the call looked at the stripe, and each placement that it was told had come about before
abbrev pub Looks : CallName → Seen → List Made → Made → Type 0
Looks call seen before made =
    IsOf call made × TellsSeen seen made.answer ×
    ((server : ℕ) (row : Placement) → slice_get seen.placed server ≡ Some row → Happened before (PlacesChunk server seen.version row))

-- the step asks for a chunk of the version
abbrev pub AsksFor : ℕ → ServerStep → Type 0
AsksFor version (ServerStep.Has other) = other ≡ version
AsksFor version (ServerStep.Fetch other layers) = other ≡ version
AsksFor version step = ⊥

-- a server tells the call, after its look, that it lacks the chunk, or that it is away, with its count at that moment
abbrev pub LacksIt : CallName → Seen → ℕ → Found → List Made → Made → Type 0
LacksIt call seen server reason before made =
    IsOf call made × ((step : ServerStep) × (made.act ≡ Act.AtServer server step) × AsksFor seen.version step) × (made.answer ≡ Told.Missing reason) × IsFoundThen server before reason
    × Happened before (Looks call seen)

-- one lost chunk, placed as the look told
abbrev pub WasLost : List Made → CallName → Seen → Triple → Type 0
WasLost trace call seen lost = Happened trace (LacksIt call seen lost.server lost.found) × (lost.placed ≡ get_or seen.placed lost.server (placement.At 0))

-- a server was away when the call had a chunk for it
abbrev pub WasSkipped : List Made → CallName → ℕ → Triple → Type 0
WasSkipped trace call version lost =
    (told : ℕ) × (lost.placed ≡ placement.Skipped told) × (lost.found ≡ found.Away told) ×
    Happened trace (λ before made. IsOf call made × PlacesChunk lost.server version (placement.Skipped told) before made)

-- What servers may hold at each moment of a run: versions that are in use or not yet swept, and strays of calls that were given up.
use Rattle.std.specs.Prelude.{◌≡◌, ◌⊎◌, ℕ, List, Some, All, Contains, ⊤}
use Rattle.std.specs.List.{slice_get}
use Rattle.clay_grid.specs.Limits.{IsGeometry}
use Rattle.store_map.specs.Naming.{IsValid}
use Rattle.store_map.specs.declared.actor.Actor.{Actor}
use Rattle.store_map.specs.declared.actor.Token.{Token}
use Rattle.store_map.specs.declared.script.Script.{Script}
use Rattle.store_core.specs.Core.{Core}
use Rattle.store_core.specs.Directory.{Standing, Version, Event, Point, Directory}
use Rattle.store_core.specs.PlaceLaws.{new_versions}
use Rattle.store_core.specs.Schedule.{run_core}
use Rattle.store_core.specs.Server.{Server}
use Rattle.store_core.specs.Step.{Shortage}
use Rattle.store_core.specs.Told.{Seen}
use Rattle.run_laws.specs.DrawnLaws.{IsBeingWritten}
use Rattle.history_laws.specs.LostChunks.{TellsSeen}
use Rattle.history_laws.specs.Moments.{Happened}
use Rattle.history_laws.specs.Steps.{run_trace}
use Rattle.history_laws.specs.Trace.{Made}

-- a version that stands so is current, superseded, or taken and not yet swept; or it was drawn by a pass that has not ended
abbrev pub IsKept : Directory → ℕ → Standing → Type 0
IsKept d version Standing.Drawn = IsBeingWritten d version
IsKept d version Standing.Swept = ⊥
IsKept d version standing = ⊤

-- an actor's call was given up
abbrev pub WasGivenUp : List Point → Actor → ℕ → Type 0
WasGivenUp points who number = (place : ℕ) × (point : Point) × (slice_get points place ≡ Some point) × (point.event ≡ Event.Reaped) × (point.actor ≡ who) × (point.number ≡ number)

-- the call drew the version, or looked at it
abbrev pub Draws : Actor → ℕ → ℕ → List Made → Made → Type 0
Draws who number version before made = (made.who ≡ who) × (made.number ≡ number) × Contains (new_versions made.answer) version

abbrev pub LooksAt : Actor → ℕ → ℕ → List Made → Made → Type 0
LooksAt who number version before made = (made.who ≡ who) × (made.number ≡ number) × ((seen : Seen) × TellsSeen seen made.answer × (seen.version ≡ version))

-- a version that a call drew or looked at which was given up
abbrev pub IsStray : List Made → List Point → ℕ → Type 0
IsStray trace points version =
    (who : Actor) × (number : ℕ) × WasGivenUp points who number × (Happened trace (Draws who number version) ⊎ Happened trace (LooksAt who number version))

-- a version that may be held
abbrev pub MayBeHeld : List Made → Core → ℕ → Type 0
MayBeHeld trace core number =
    (version : Version) × (slice_get core.directory.versions number ≡ Some version) × (IsKept core.directory number version.standing ⊎ IsStray trace core.directory.points number)

-- at each moment of every run servers hold no other: after any tokens, and so between any two steps
abbrev pub RunsHoldWhatTheyMay : Type 0
RunsHoldWhatTheyMay =
    (script : Script) (shortages : List Shortage) → IsGeometry script.geometry → IsValid script → (tokens : List Token) →
    All (λ (s : Server). All (MayBeHeld (run_trace script shortages tokens) (run_core script shortages tokens)) s.held) (run_core script shortages tokens).servers

-- A chunk that a server took is still there, until the sweeper takes its version or the operator empties the server.
use Rattle.std.specs.Prelude.{◌≡◌, ℕ, ◌<◌, ◌≤◌, ◌⊎◌, true, List, Some, ⊤}
use Rattle.std.specs.List.{slice_get}
use Rattle.clay_grid.specs.Limits.{IsGeometry}
use Rattle.store_map.specs.Naming.{IsValid}
use Rattle.store_map.specs.declared.actor.Token.{Token}
use Rattle.store_map.specs.declared.placement.Placement.{Placement}
use Rattle.store_map.specs.declared.placement.Placement.TheVariants as placement
use Rattle.store_map.specs.declared.script.Script.{Script}
use Rattle.store_core.specs.Core.{Core}
use Rattle.store_core.specs.Directory.{Standing, Version}
use Rattle.store_core.specs.Lists.{is_among}
use Rattle.store_core.specs.Schedule.{run_core}
use Rattle.store_core.specs.Server.{Server}
use Rattle.store_core.specs.Step.{Shortage}
use Rattle.history_laws.specs.HistoryLaws.{HasFewWipes}

-- the sweeper hasn't taken the version
abbrev pub IsLeft : Standing → Type 0
IsLeft Standing.Taken = ⊥
IsLeft Standing.Swept = ⊥
IsLeft standing = ⊤

-- the chunk that a server took at this epoch is held, or the server was emptied since; one that was away took none
abbrev pub IsKept : Server → ℕ → Placement → Type 0
IsKept s version (placement.At epoch) = ((is_among version s.held ≡ true) × (epoch ≤ s.epoch)) ⊎ (epoch < s.epoch)
IsKept s version (placement.Skipped downs) = ⊤

-- of each version that is left, at each server, as the directory knows its placements
abbrev pub KeepsChunks : Core → Type 0
KeepsChunks core =
    (number : ℕ) (version : Version) → slice_get core.directory.versions number ≡ Some version → IsLeft version.standing →
    (server : ℕ) (s : Server) (placement : Placement) → slice_get core.servers server ≡ Some s → slice_get version.placed server ≡ Some placement →
    IsKept s number placement

-- so in every run of a valid script, whatever was wanting of memory
abbrev pub RunsKeepChunks : Type 0
RunsKeepChunks =
    (script : Script) (shortages : List Shortage) → IsGeometry script.geometry → IsValid script → (tokens : List Token) → HasFewWipes tokens →
    KeepsChunks (run_core script shortages tokens)

-- When a snapshot may be taken, and what it is then.
use Rattle.std.specs.Prelude.{◌≡◌, ℕ, List, length, take, All}
use Rattle.store_core.specs.Directory.{Directory}
use Rattle.store_core.specs.Agreement.{ActorToken}
use Rattle.store_core.specs.Calls.{Calls}
use Rattle.run_laws.specs.MapAfter.{map_by}
use Rattle.run_laws.specs.Contents.{HasBytes}
use Rattle.stripe_stamps.specs.Sealed.{Sealed}
use Rattle.stripe_stamps.specs.Stamped.{HaveContents}
use Rattle.snapshot_view.specs.Snapshots.{SnapshotOf, StandsFor}
use Rattle.snapshot_view.specs.Tickets.{AgreesWithAll, MayGet}
use Rattle.snapshot_view.specs.LookSteps.{AreLooked}

-- the first tickets, one for each object, may make the looks
pub record MayTake (d : Directory) (number : ℕ) (tokens : List ActorToken) : Type 0 where
  pub agrees : AgreesWithAll d tokens
  pub may : All (MayGet number) (take (length d.objects) tokens)

-- a snapshot of all objects: by whatever calls the directory stood for a map, the snapshot stands for that map
pub record IsTaken (number : ℕ) (tokens : List ActorToken) (before after : Sealed) (s : SnapshotOf) : Type 0 where
  pub book : s.book ≡ before.book
  pub its_number : s.number ≡ number
  pub all : length s.objects ≡ length before.core.objects
  pub looked : AreLooked number before after tokens s.tokens s.objects
  pub stands :
      (calls : Calls) → HasBytes calls before.core → HaveContents calls before → StandsFor s (map_by calls before.core.max before.core.points)

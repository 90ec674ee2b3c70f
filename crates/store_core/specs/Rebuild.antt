-- What a rebuild does next: it makes the target's chunk from what the others hold, and installs it only after the directory has confirmed that its version is still current.
use Rattle.std.specs.Prelude.{ℕ, List, [], ◌∷◌}
use Rattle.clay_grid.specs.Shape.{Shape}
use Rattle.store_core.specs.Told.{Seen, Told}
use Rattle.store_core.specs.Note.{Note}
use Rattle.store_core.specs.Act.{Act, DirectoryStep, ServerStep, Outcome}
use Rattle.store_core.specs.GatheringParts.{ending, act_of, gather_chunk}

-- after the chunk was placed its epoch is told to the directory
abbrev pub placing : ℕ → ℕ → List Told → Act
placing target epoch [] = Act.AtDirectory (DirectoryStep.Repaired target epoch)
placing target epoch (Told.Ended ∷ told) = Act.Finish Outcome.Rebuilt
placing target epoch (Told.Reaped point ∷ told) = Act.Finish (Outcome.Reaped point)
placing target epoch (_ ∷ told) = ending Outcome.NoMemory told

-- the version is current: the chunk that was made goes to the target
abbrev pub installing : Seen → ℕ → List Told → Act
installing seen target [] = Act.AtServer target (ServerStep.Install seen.version)
installing seen target (Told.Placed epoch ∷ told) = placing target epoch told
installing seen target (Told.AlreadyThere ∷ told) = ending Outcome.Here told
installing seen target (Told.Away downs ∷ told) = ending (Outcome.Away downs) told
installing seen target (_ ∷ told) = ending Outcome.NoMemory told

-- the parts are there: the directory is asked whether the version is still current
abbrev pub confirming : Seen → ℕ → List Told → Act
confirming seen target [] = Act.AtDirectory DirectoryStep.Confirm
confirming seen target (Told.Current ∷ told) = installing seen target told
confirming seen target (Told.Superseded newer ∷ told) = Act.Finish (Outcome.Superseded newer)
confirming seen target (Told.Reaped point ∷ told) = Act.Finish (Outcome.Reaped point)
confirming seen target (_ ∷ told) = ending Outcome.NoMemory told

-- the pinned stripe's gathering, then the confirming
abbrev pub rebuilding : Shape → Seen → ℕ → List Told → Act
rebuilding g seen target (Told.Gathered ∷ told) = confirming seen target told
rebuilding g seen target told = act_of seen.stripe (confirming seen target) (gather_chunk g seen target told)

-- a rebuild by what it was told
abbrev pub next_rebuild : Shape → Note → ℕ → List Told → Act
next_rebuild g note target [] = Act.AtDirectory (DirectoryStep.LookRepair note)
next_rebuild g note target (Told.NoSuch ∷ told) = Act.Finish Outcome.NoSuch
next_rebuild g note target (Told.PinnedStripe seen ∷ told) = rebuilding g seen target told
next_rebuild g note target (_ ∷ told) = Act.Finish Outcome.NoMemory

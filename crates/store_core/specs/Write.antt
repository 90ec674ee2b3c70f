-- What a write does next: it tries to commit what it has drawn, and begins again where the object was changed meanwhile.
use Rattle.std.specs.Prelude.{ℕ, ◌*◌, ◌-◌, nat_lt, min, List, [], ◌∷◌, ◌++◌, length, map, if◌then◌else◌}
use Rattle.clay_grid.specs.Shape.{Shape, stripe_length}
use Rattle.store_core.specs.Told.{Seen, Told}
use Rattle.store_core.specs.Note.{Note}
use Rattle.store_core.specs.Act.{Act, DirectoryStep, Outcome}
use Rattle.store_core.specs.Gathering.{Part}
use Rattle.store_core.specs.GatheringParts.{gathering}
use Rattle.store_core.specs.Put.{drawing, committed}

-- the old bytes of a pinned stripe, of an object of some length
abbrev pub old_part : Shape → ℕ → Seen → Part
old_part g length seen = record { seen = seen; start = 0; end = min (stripe_length g) (length - seen.stripe * stripe_length g) }

-- what a write gathers, stripe by stripe
abbrev pub old_parts : Shape → ℕ → List Seen → List Part
old_parts g length stripes = map (old_part g length) stripes

-- after each try that found the object changed there is one more look, until all tries are used up
abbrev pub trying : Shape → ℕ → Note → List (ℕ × ℕ) → List Told → Act
trying g tries note pairs [] =
    if nat_lt (length pairs) tries then Act.AtDirectory (DirectoryStep.Look note) else Act.Finish (Outcome.Contended pairs)
trying g tries note pairs (Told.Changed base newer ∷ told) = trying g tries note (pairs ++ (base, newer) ∷ []) told
trying g tries note pairs (Told.Answer point answer ∷ told) = Act.Finish (Outcome.Answered point answer)
trying g tries note pairs (Told.Ready base length stripes ∷ told) = gathering g (old_parts g length stripes) (drawing g note) told
trying g tries note pairs (Told.Versions versions ∷ told) = committed g versions told
trying g tries note pairs (_ ∷ told) = Act.Finish Outcome.NoMemory

-- a write by what it was told
abbrev pub next_write : Shape → ℕ → Note → List Told → Act
next_write g tries note told = trying g tries note [] told

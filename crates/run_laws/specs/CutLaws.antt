-- What is cut of the answers to a call changes nothing of what the call does next.
use Rattle.std.specs.Prelude.{◌≡◌, ℕ, List}
use Rattle.clay_grid.specs.Shape.{Shape}
use Rattle.store_core.specs.Told.{Told}
use Rattle.store_core.specs.Tell.{cut_by}
use Rattle.store_core.specs.NextAct.{Job, next_act}

-- a gathering in one entry stands for all that it was told
abbrev pub CutsChangeNoAct : Type 0
CutsChangeNoAct =
    (g : Shape) (tries : ℕ) (job : Job) (told : List Told) → next_act g tries job (cut_by job.note.kind g job told) ≡ next_act g tries job told

-- How far gatherings are.
use Rattle.std.specs.Prelude.{ℕ, ⊤, Bool, true, false, List, [], ◌∷◌, Option, None, Some}
use Rattle.clay_grid.specs.Shape.{Shape}
use Rattle.run_laws.specs.Stage.{Aim, Stage}
use Rattle.run_laws.specs.StageAfter.{server_asked}
use Rattle.call_steps.specs.declared.need.Need.{Need}
use Rattle.call_steps.specs.declared.need.Need.TheVariants as need
use Rattle.gathering.specs.Gathers.{GatherOf}
use Rattle.gather_parts.specs.declared.progress.Progress.{Progress}
use Rattle.gather_parts.specs.declared.progress.Progress.TheVariants as progress
use Rattle.gather_parts.specs.Wanted.{Wanted}
use Rattle.gather_parts.specs.Gatherings.{GatheringsOf}

-- by the stage of the gathering at work
abbrev pub progress_at : Shape → Aim → Stage → Progress
progress_at g aim (Stage.Asks asking) = progress.Asks (server_asked g aim asking)
progress_at g aim Stage.HasBytes = progress.Due
progress_at g aim (Stage.TooMany missing) = progress.TooMany
progress_at g aim stage = progress.Short

-- by the parts that are left where none is at work
abbrev pub progress_by : Shape → Option GatherOf → List Wanted → Progress
progress_by g (Some w) left = progress_at g w.course.aim w.course.stage
progress_by g None [] = progress.Done
progress_by g None (wanted ∷ left) = progress.Due

-- of gatherings
abbrev pub progress_of : GatheringsOf → Progress
progress_of p = progress_by p.book.geometry p.current p.left

abbrev pub is_due_at : Progress → Bool
is_due_at progress.Due = true
is_due_at now = false

-- whether coding is due before the next step
abbrev pub is_due : GatheringsOf → Bool
is_due p = is_due_at (progress_of p)

-- what a call needs that stands in them
abbrev pub need_at : Progress → Need
need_at (progress.Asks server) = need.Server server
need_at progress.Due = need.Coder
need_at now = need.Directory

-- of a server that is asked
abbrev pub IfAsks : Progress → (ℕ → Type 0) → Type 0
IfAsks (progress.Asks server) holds = holds server
IfAsks now holds = ⊤

-- neither a server nor a coder is needed
abbrev pub IsOver : Progress → Type 0
IsOver (progress.Asks server) = ⊥
IsOver progress.Due = ⊥
IsOver now = ⊤

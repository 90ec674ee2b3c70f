-- A drain ends with nobody left who has a step: its fuel suffices for every core that a run can reach.
use Rattle.std.specs.Prelude.{◌≡◌, ℕ, ◌<◌, List, [], ◌∷◌, ◌++◌, length, IfSome, IsFalse}
use Rattle.std.specs.List.{slice_get}
use Rattle.clay_grid.specs.Limits.{IsGeometry}
use Rattle.clay_grid.specs.Shape.{Shape, chunk_count}
use Rattle.store_map.specs.Limits.{size_of, tries_of}
use Rattle.store_map.specs.Naming.{IsValid}
use Rattle.store_map.specs.declared.actor.Token.{Token}
use Rattle.store_map.specs.declared.actor.Token.TheVariants as token
use Rattle.store_map.specs.declared.script.Script.{Script}
use Rattle.store_core.specs.Bounds.{step_bound, bound_by, touched_count}
use Rattle.store_core.specs.Note.{Note}
use Rattle.store_core.specs.Work.{Work, Calling, client_work, repairer_work}
use Rattle.store_core.specs.Step.{Shortage}
use Rattle.store_core.specs.Told.{Told}
use Rattle.store_core.specs.Schedule.{is_unfinished, run_core}

-- the call that an actor has in work has made fewer steps than its bound; so with the step that ends it, it makes no more than its bound
abbrev pub KeepsBound : Script → Work → Calling → Type 0
KeepsBound script work calling =
    IfSome (slice_get work.jobs (length calling.ended)) (λ job. calling.steps < step_bound script.geometry (size_of script) (tries_of script) job.note)

-- the stripes that a get or a read pinned: those of its first answer
abbrev pub pinned_count : List Told → ℕ
pinned_count (Told.Pinned point length_now stripes ∷ told) = length stripes
pinned_count _ = 0

-- the steps of a call at most; of a get or a read by the stripes that it pinned
abbrev pub pinned_bound : Shape → ℕ → Note → List Told → ℕ
pinned_bound g tries note told = bound_by note.kind (chunk_count g) tries (touched_count g note) (pinned_count told)

-- the call that an actor has in work has made fewer than those
abbrev pub KeepsPinnedBound : Script → Work → Calling → Type 0
KeepsPinnedBound script work calling =
    IfSome (slice_get work.jobs (length calling.ended)) (λ job. calling.steps < pinned_bound script.geometry (tries_of script) job.note calling.told)

-- so have the calls of all actors, and there are as many of them as the script has clients and repairers
pub record KeepBounds (script : Script) (client_calls repairer_calls : List Calling) : Type 0 where
  pub client_count : length client_calls ≡ length script.clients
  pub repairer_count : length repairer_calls ≡ length script.repairers
  pub clients : (i : ℕ) → IfSome (slice_get (client_work script) i) (λ work. IfSome (slice_get client_calls i) (KeepsBound script work))
  pub repairers : (i : ℕ) → IfSome (slice_get (repairer_work script) i) (λ work. IfSome (slice_get repairer_calls i) (KeepsBound script work))
  pub clients_pinned : (i : ℕ) → IfSome (slice_get (client_work script) i) (λ work. IfSome (slice_get client_calls i) (KeepsPinnedBound script work))
  pub repairers_pinned : (i : ℕ) → IfSome (slice_get (repairer_work script) i) (λ work. IfSome (slice_get repairer_calls i) (KeepsPinnedBound script work))

-- of a valid script, whatever was wanting of memory
pub record RunsAreBounded (script : Script) (shortages : List Shortage) : Type 0 where
  pub bounds : (tokens : List Token) → KeepBounds script (run_core script shortages tokens).clients (run_core script shortages tokens).repairers
  pub drained : (tokens : List Token) → IsFalse (is_unfinished script (run_core script shortages (tokens ++ token.Drain ∷ [])))

-- the runs of a valid script are bounded
abbrev pub DrainsEnd : Type 0
DrainsEnd = (script : Script) (shortages : List Shortage) → IsGeometry script.geometry → IsValid script → RunsAreBounded script shortages

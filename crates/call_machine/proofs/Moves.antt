-- Which pins a call reads after one answer more: those that it read, or those of the look that was answered.
use Rattle.std.proofs.Common.{◌≡◌, ℕ, List, Option, None, Some, IfSome, refl}
use Rattle.clay_grid.specs.Shape.{Shape, chunk_count}
use Rattle.store_map.specs.declared.placement.Placement.{Placement}
use Rattle.store_core.specs.Lists.{places_of}
use Rattle.store_core.specs.NextAct.{Job}
use Rattle.store_core.specs.Note.{Kind}
use Rattle.store_core.specs.Told.{Told}
use Rattle.store_core.specs.Write.{old_parts}
use Rattle.run_laws.specs.State.{Sequel, State}
use Rattle.run_laws.specs.States.{open_state}
use Rattle.run_laws.specs.LookAfter.{start_after}
use Rattle.run_laws.specs.CallLaws.{next_call_from}
use Rattle.call_machine.proofs.Walks.{IsByPoint, point_told, of_parts, settle, read_told, later_told, open_kept as open_held}
use Rattle.call_machine.specs.Pinned.{pinned_at}

-- of a call of this kind that is served them
abbrev pub point_looked : Kind → Told → Option ℕ
point_looked Kind.Get answer = point_told answer
point_looked Kind.ReadAt answer = point_told answer
point_looked kind answer = None

-- whose pins it may read after an answer
abbrev pub point_before : Kind → State → Told → Option ℕ
point_before kind State.Start answer = point_looked kind answer
point_before kind at answer = pinned_at at

module _ (o : Option ℕ) where
  -- no others than these
  abbrev pub Of : Option ℕ → Type 0
  Of found = IfSome found (λ (p : ℕ). o ≡ Some p)

  abbrev pub Keeps : State → Type 0
  Keeps at = Of (pinned_at at)

  its : IsByPoint Keeps Of
  its = record { none = tt; plain = λ at looked h. h; back = λ at h. h }

  pub open_kept : (g : Shape) (at : State) → Keeps at → Keeps (open_state g at)
  open_kept g at h = open_held Keeps Of its g at h

  -- ---- looks
  put_told : (g : Shape) (job : Job) (answer : Told) → Keeps (start_after g Kind.Put job answer)
  put_told g job (Told.Answer point reply) = tt
  put_told g job (Told.Ready base length stripes) = tt
  put_told g job (Told.Versions versions) = tt
  put_told g job answer = tt

  write_told : (g : Shape) (job : Job) (answer : Told) → Keeps (start_after g Kind.Write job answer)
  write_told g job (Told.Changed base newer) = tt
  write_told g job (Told.Answer point reply) = tt
  write_told g job (Told.Ready base length stripes) = of_parts Keeps Of its (old_parts g length stripes) Sequel.Draw tt
  write_told g job (Told.Versions versions) = tt
  write_told g job answer = tt

  single_told : (g : Shape) (job : Job) (answer : Told) → Keeps (start_after g Kind.Stat job answer)
  single_told g job (Told.Answer point reply) = tt
  single_told g job answer = tt

  rebuild_told : (g : Shape) (job : Job) (answer : Told) → Keeps (start_after g Kind.Rebuild job answer)
  rebuild_told g job Told.NoSuch = tt
  rebuild_told g job (Told.PinnedStripe seen) = tt
  rebuild_told g job answer = tt

  start_told : (g : Shape) (kind : Kind) (job : Job) (answer : Told) → Of (point_looked kind answer) → Keeps (start_after g kind job answer)
  start_told g Kind.Put job answer h = put_told g job answer
  start_told g Kind.Write job answer h = write_told g job answer
  start_told g Kind.Get job answer h = read_told Keeps Of its g job answer h
  start_told g Kind.ReadAt job answer h = read_told Keeps Of its g job answer h
  start_told g Kind.Stat job answer h = single_told g job answer
  start_told g Kind.Delete job answer h = single_told g job answer
  start_told g Kind.Rebuild job answer h = rebuild_told g job answer

  -- ---- a call
  commit_told : (g : Shape) (kind : Kind) (job : Job) (pairs : List (ℕ × ℕ)) (versions : List ℕ) (placed : List (List Placement)) (answer : Told)
      → Keeps (next_call_from g kind job pairs (State.Committing versions placed) answer).at
  commit_told g kind job pairs versions placed (Told.Done point) = settle Keeps Of its point (places_of (chunk_count g) versions)
  commit_told g kind job pairs versions placed (Told.Changed base newer) = tt
  commit_told g kind job pairs versions placed answer = later_told Keeps Of its g kind job (State.Committing versions placed) answer tt

  pub next_kept : (g : Shape) (kind : Kind) (job : Job) (pairs : List (ℕ × ℕ)) (at : State) (answer : Told) → Of (point_before kind at answer)
      → Keeps (next_call_from g kind job pairs at answer).at
  next_kept g kind job pairs State.Start answer h = open_kept g (start_after g kind job answer) (start_told g kind job answer h)
  next_kept g kind job pairs (State.Committing versions placed) answer h = commit_told g kind job pairs versions placed answer
  next_kept g kind job pairs at answer h = later_told Keeps Of its g kind job at answer h

-- a point is its own
own : (o : Option ℕ) → Of o o
own None = tt
own (Some p) = refl

-- so after any answer
pub next_pins : (g : Shape) (kind : Kind) (job : Job) (pairs : List (ℕ × ℕ)) (at : State) (answer : Told) → Keeps (point_before kind at answer) (next_call_from g kind job pairs at answer).at
next_pins g kind job pairs at answer = next_kept (point_before kind at answer) g kind job pairs at answer (own (point_before kind at answer))

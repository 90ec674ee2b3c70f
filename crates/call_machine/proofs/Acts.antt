-- What a call does next leaves the bytes that it reads, but for its look; and it ends with the point of its pins.
use Rattle.std.proofs.Common.{◌≡◌, ◌⊎◌, ℕ, Bool, true, false, List, [], ◌∷◌, length, Option, None, Some, IfSome, refl, sym, ap, subst, inl, inr, true≢false, is_some, unwrap_or}
use Rattle.std.specs.Prelude.{nat_lt, if◌then◌else◌}
use Rattle.clay_grid.specs.Shape.{Shape}
use Rattle.store_map.specs.declared.call.Call.{Call}
use Rattle.store_map.specs.declared.call.Call.TheVariants as call
use Rattle.store_core.specs.Act.{Act, DirectoryStep, Outcome}
use Rattle.store_core.specs.ActPlace.{is_in_pass}
use Rattle.store_core.specs.Gathering.{Part}
use Rattle.store_core.specs.NextAct.{Job}
use Rattle.store_core.specs.Note.{Kind, note_of}
use Rattle.store_core.specs.Told.{Told, Seen}
use Rattle.run_laws.specs.PinLaws.{IsReading}
use Rattle.run_laws.specs.Stage.{Aim, Stage}
use Rattle.run_laws.specs.Stages.{first_stage}
use Rattle.run_laws.specs.State.{Sequel, State}
use Rattle.run_laws.specs.StateActs.{stage_act, parts_act, start_act, act_at}
use Rattle.stripe_stamps.specs.Sealed.{Sealed}
use Rattle.call_steps.specs.CallOf.{CallOf}
use Rattle.client_read.specs.Owed.{owed_by}
use Rattle.call_machine.specs.Kinds.{Asked, asked_job, Machine, client_machine, machine_of}
use Rattle.call_machine.specs.Pinned.{point_served, pinned_at}
use Rattle.call_machine.proofs.Walks.{HasLooked, point_told}
use Rattle.call_machine.proofs.Moves.{point_looked, point_before}

-- ---- before and after the look
abbrev pub IsLater : State → Type 0
IsLater at = HasLooked at

pub start_or_later : (at : State) → (at ≡ State.Start) ⊎ IsLater at
start_or_later State.Start = inl refl
start_or_later (State.Parts part parts after) = inr tt
start_or_later (State.Chunk seen target) = inr tt
start_or_later (State.Gather aim asking parts after) = inr tt
start_or_later State.Drawing = inr tt
start_or_later (State.Preparing stripe version server servers row later placed versions) = inr tt
start_or_later (State.Committing versions placed) = inr tt
start_or_later (State.Committed versions) = inr tt
start_or_later (State.Settling point place places) = inr tt
start_or_later (State.Confirming seen target) = inr tt
start_or_later (State.Installing seen target) = inr tt
start_or_later (State.Placing target epoch) = inr tt
start_or_later (State.Ending outcome) = inr tt
start_or_later (State.Finished outcome) = inr tt

pub before_later : (kind : Kind) (at : State) (answer : Told) → IsLater at → point_before kind at answer ≡ pinned_at at
before_later kind State.Start answer h = absurd h
before_later kind at answer h = refl

pub none_some : (p : ℕ) → None ≡ Some p → ⊥
none_some p e = true≢false (sym (ap is_some e))

told_pins : (answer : Told) (p : ℕ) → point_told answer ≡ Some p → (length_now : ℕ) × (seen : List Seen) × (answer ≡ Told.Pinned p length_now seen)
told_pins (Told.Pinned point n seen) p e = (n, seen, ap (λ (o : Option ℕ). Told.Pinned (unwrap_or o 0) n seen) e)
told_pins answer p e = absurd (none_some p e)

-- a look that is answered by pins, of a get or a read
pub looked_by : (kind : Kind) (answer : Told) (p : ℕ) → point_looked kind answer ≡ Some p → IsReading kind × (length_now : ℕ) × (seen : List Seen) × (answer ≡ Told.Pinned p length_now seen)
looked_by Kind.Get answer p e =
    let t : (length_now : ℕ) × (seen : List Seen) × (answer ≡ Told.Pinned p length_now seen) = told_pins answer p e in
    (tt, t.0, t.1, t.2)
looked_by Kind.ReadAt answer p e =
    let t : (length_now : ℕ) × (seen : List Seen) × (answer ≡ Told.Pinned p length_now seen) = told_pins answer p e in
    (tt, t.0, t.1, t.2)
looked_by Kind.Put answer p e = absurd (none_some p e)
looked_by Kind.Write answer p e = absurd (none_some p e)
looked_by Kind.Stat answer p e = absurd (none_some p e)
looked_by Kind.Delete answer p e = absurd (none_some p e)
looked_by Kind.Rebuild answer p e = absurd (none_some p e)

client_reads : (c : Call) → IsReading (note_of c).kind → client_machine c ≡ Machine.Reads
client_reads (call.Get name) h = refl
client_reads (call.ReadAt name offset count) h = refl
client_reads (call.Stat name) h = absurd h
client_reads (call.Put name content) h = absurd h
client_reads (call.Write name offset content) h = absurd h
client_reads (call.Delete name) h = absurd h

pub reads_are_read : (asked : Asked) → IsReading (asked_job asked).note.kind → machine_of asked ≡ Machine.Reads
reads_are_read (Asked.OfClient c) h = client_reads c h
reads_are_read (Asked.OfRepairer rebuild) h = absurd h

-- ---- acts
abbrev pub point_ended : Act → Option ℕ
point_ended (Act.Finish outcome) = point_served outcome
point_ended act = None

abbrev pub asks_server : Act → Bool
asks_server (Act.AtServer server step) = true
asks_server act = false

-- a first act is on no pass, at no server, and serves nothing
pub record IsFirstAct (act : Act) : Type 0 where
  pub pass : is_in_pass act ≡ false
  pub server : asks_server act ≡ false
  pub ended : point_ended act ≡ None

module _ (g : Shape) (tries : ℕ) (job : Job) (pairs : List (ℕ × ℕ)) where
  pub start_looks : (kind : Kind) → IsReading kind → start_act kind tries job pairs ≡ Act.AtDirectory (DirectoryStep.Look job.note)
  start_looks Kind.Get h = refl
  start_looks Kind.ReadAt h = refl
  start_looks Kind.Put h = absurd h
  start_looks Kind.Write h = absurd h
  start_looks Kind.Stat h = absurd h
  start_looks Kind.Delete h = absurd h
  start_looks Kind.Rebuild h = absurd h

  write_starts : (b : Bool) → IsFirstAct (if b then Act.AtDirectory (DirectoryStep.Look job.note) else Act.Finish (Outcome.Contended pairs))
  write_starts true = record { pass = refl; server = refl; ended = refl }
  write_starts false = record { pass = refl; server = refl; ended = refl }

  pub starts : (kind : Kind) → IsFirstAct (start_act kind tries job pairs)
  starts Kind.Write = write_starts (nat_lt (length pairs) tries)
  starts Kind.Get = record { pass = refl; server = refl; ended = refl }
  starts Kind.ReadAt = record { pass = refl; server = refl; ended = refl }
  starts Kind.Put = record { pass = refl; server = refl; ended = refl }
  starts Kind.Stat = record { pass = refl; server = refl; ended = refl }
  starts Kind.Delete = record { pass = refl; server = refl; ended = refl }
  starts Kind.Rebuild = record { pass = refl; server = refl; ended = refl }

  stage_ends : (act : Act) (aim : Aim) (s : Stage) → point_ended act ≡ None → point_ended (stage_act g act aim s) ≡ None
  stage_ends act aim (Stage.Asks asking) e = refl
  stage_ends act aim Stage.HasBytes e = e
  stage_ends act aim (Stage.TooMany missing) e = refl
  stage_ends act aim Stage.AtTarget e = refl
  stage_ends act aim (Stage.TargetAway downs) e = refl
  stage_ends act aim Stage.Short e = refl

  parts_end : (parts : List Part) (after : Sequel) → point_ended (parts_act g parts after) ≡ None
  parts_end [] (Sequel.Serve point) = refl
  parts_end [] Sequel.Draw = refl
  parts_end [] (Sequel.Confirm seen target) = refl
  parts_end (part ∷ parts) after = stage_ends (parts_act g parts after) (Aim.Range part) (first_stage g (Aim.Range part)) (parts_end parts after)

  served_own : (o : Option ℕ) → IfSome o (λ (p : ℕ). o ≡ Some p)
  served_own None = tt
  served_own (Some p) = refl

  pub ends_at : (at : State) → IfSome (point_ended (act_at g tries job pairs at)) (λ (p : ℕ). pinned_at at ≡ Some p)
  ends_at State.Start = subst (λ (o : Option ℕ). IfSome o (λ (p : ℕ). None ≡ Some p)) (sym (starts job.note.kind).ended) tt
  ends_at (State.Parts part parts after) = subst (λ (o : Option ℕ). IfSome o (λ (p : ℕ). pinned_at (State.Parts part parts after) ≡ Some p)) (sym (parts_end (part ∷ parts) after)) tt
  ends_at (State.Finished outcome) = served_own (point_served outcome)
  ends_at (State.Chunk seen target) = tt
  ends_at (State.Gather aim asking parts after) = tt
  ends_at State.Drawing = tt
  ends_at (State.Preparing stripe version server servers row later placed versions) = tt
  ends_at (State.Committing versions placed) = tt
  ends_at (State.Committed versions) = tt
  ends_at (State.Settling point place places) = tt
  ends_at (State.Confirming seen target) = tt
  ends_at (State.Installing seen target) = tt
  ends_at (State.Placing target epoch) = tt
  ends_at (State.Ending outcome) = tt

  -- ---- the bytes that are read
  module _ (short : Bool) (c : CallOf) (d : Sealed) (owed : List ℕ) where
    stage_stays : (act : Act) (aim : Aim) (s : Stage) → owed_by act short c d owed ≡ owed → owed_by (stage_act g act aim s) short c d owed ≡ owed
    stage_stays act aim (Stage.Asks asking) e = refl
    stage_stays act aim Stage.HasBytes e = e
    stage_stays act aim (Stage.TooMany missing) e = refl
    stage_stays act aim Stage.AtTarget e = refl
    stage_stays act aim (Stage.TargetAway downs) e = refl
    stage_stays act aim Stage.Short e = refl

    parts_stay : (parts : List Part) (after : Sequel) → owed_by (parts_act g parts after) short c d owed ≡ owed
    parts_stay [] (Sequel.Serve point) = refl
    parts_stay [] Sequel.Draw = refl
    parts_stay [] (Sequel.Confirm seen target) = refl
    parts_stay (part ∷ parts) after = stage_stays (parts_act g parts after) (Aim.Range part) (first_stage g (Aim.Range part)) (parts_stay parts after)

    pub acts_stay : (at : State) → IsLater at → owed_by (act_at g tries job pairs at) short c d owed ≡ owed
    acts_stay State.Start h = absurd h
    acts_stay (State.Parts part parts after) h = parts_stay (part ∷ parts) after
    acts_stay at h = refl

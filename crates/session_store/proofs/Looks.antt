-- Only a call that stands at its beginning looks, and what a look of a read owes.
use Rattle.std.proofs.Common.{◌≡◌, ◌⊎◌, ℕ, Bool, true, false, List, [], ◌∷◌, refl, sym, ap, subst, ◌∙◌, inl, inr, true≢false}
use Rattle.clay_grid.specs.Shape.{Shape}
use Rattle.store_map.specs.declared.actor.Actor.{Actor}
use Rattle.store_core.specs.Act.{Act, DirectoryStep}
use Rattle.store_core.specs.AtDirectory.{at_directory}
use Rattle.store_core.specs.Directory.{Directory}
use Rattle.store_core.specs.NextAct.{Job}
use Rattle.store_core.specs.Note.{Kind, Note}
use Rattle.store_core.specs.Told.{Seen, Told}
use Rattle.store_core.specs.Gathering.{Part}
use Rattle.run_laws.specs.AnswersByKind.{FitsKind, MayPin}
use Rattle.run_laws.proofs.PlaceKinds.{places_answer_by_kind}
use Rattle.run_laws.specs.Stage.{Aim, Stage}
use Rattle.run_laws.specs.Stages.{first_stage}
use Rattle.run_laws.specs.State.{Sequel, State}
use Rattle.run_laws.specs.StateActs.{sequel_act, stage_act, parts_act, start_act, act_at}
use Rattle.call_machine.proofs.Acts.{IsLater, start_or_later}
use Rattle.run_laws.specs.PinLaws.{IsReading}

abbrev pub is_look : Act → Bool
is_look (Act.AtDirectory (DirectoryStep.Look note)) = true
is_look act = false

sequel_no_look : (after : Sequel) → is_look (sequel_act after) ≡ false
sequel_no_look (Sequel.Serve point) = refl
sequel_no_look Sequel.Draw = refl
sequel_no_look (Sequel.Confirm seen target) = refl

stage_no_look : (g : Shape) (bytes : Act) (aim : Aim) (stage : Stage) → is_look bytes ≡ false → is_look (stage_act g bytes aim stage) ≡ false
stage_no_look g bytes aim (Stage.Asks asking) h = refl
stage_no_look g bytes aim Stage.HasBytes h = h
stage_no_look g bytes aim (Stage.TooMany missing) h = refl
stage_no_look g bytes aim Stage.AtTarget h = refl
stage_no_look g bytes aim (Stage.TargetAway downs) h = refl
stage_no_look g bytes aim Stage.Short h = refl

parts_no_look : (g : Shape) (parts : List Part) (after : Sequel) → is_look (parts_act g parts after) ≡ false
parts_no_look g [] after = sequel_no_look after
parts_no_look g (part ∷ parts) after = stage_no_look g (parts_act g parts after) (Aim.Range part) (first_stage g (Aim.Range part)) (parts_no_look g parts after)

module _ (g : Shape) (tries : ℕ) (job : Job) (pairs : List (ℕ × ℕ)) where
  pub no_look : (at : State) → IsLater at → is_look (act_at g tries job pairs at) ≡ false
  no_look State.Start later = absurd later
  no_look (State.Parts part parts after) later = parts_no_look g (part ∷ parts) after
  no_look (State.Chunk seen target) later = refl
  no_look (State.Gather aim asking parts after) later = refl
  no_look State.Drawing later = refl
  no_look (State.Preparing stripe version server servers row later_versions placed versions) later = refl
  no_look (State.Committing versions placed) later = refl
  no_look (State.Committed versions) later = refl
  no_look (State.Settling point place places) later = refl
  no_look (State.Confirming seen target) later = refl
  no_look (State.Installing seen target) later = refl
  no_look (State.Placing target epoch) later = refl
  no_look (State.Ending outcome) later = refl
  no_look (State.Finished outcome) later = refl

  -- a call that looks stands at its beginning
  pub looks_first : (at : State) (note : Note) → act_at g tries job pairs at ≡ Act.AtDirectory (DirectoryStep.Look note) → at ≡ State.Start
  looks_first at note acts = by (start_or_later at)
    where
      by : (at ≡ State.Start) ⊎ IsLater at → at ≡ State.Start
      by (inl e) = e
      by (inr later) = absurd (true≢false (ap is_look (sym acts) ∙ no_look at later))

  -- and is no rebuild
  pub rebuilds_look_not : (note : Note) → job.note.kind ≡ Kind.Rebuild → start_act job.note.kind tries job pairs ≡ Act.AtDirectory (DirectoryStep.Look note) → ⊥
  rebuilds_look_not note kind acts = true≢false (ap is_look (sym acts) ∙ ap (λ k. is_look (start_act k tries job pairs)) kind)

-- pins are told to a look that had its memory
pub pins_ample : (short : Bool) (who : Actor) (number : ℕ) (note : Note) (d : Directory) (point length_now : ℕ) (seen : List Seen) → (at_directory short who number (DirectoryStep.Look note) d).1 ≡ Told.Pinned point length_now seen → short ≡ false
pins_ample true who number note d point length_now seen e = absurd (cc (e))
pins_ample false who number note d point length_now seen e = refl

pins_read : (kind : Kind) (answer : Told) (point length_now : ℕ) (seen : List Seen) → FitsKind kind answer → answer ≡ Told.Pinned point length_now seen → MayPin kind
pins_read kind answer point length_now seen fits e = subst (FitsKind kind) e fits

reading_by : (kind : Kind) → MayPin kind → (kind ≡ Kind.Rebuild → ⊥) → IsReading kind
reading_by Kind.Get may other = tt
reading_by Kind.ReadAt may other = tt
reading_by Kind.Rebuild may other = absurd (other refl)
reading_by kind may other = absurd may

pub pins_of_reads : (short : Bool) (who : Actor) (number : ℕ) (note : Note) (d : Directory) (point length_now : ℕ) (seen : List Seen) → (note.kind ≡ Kind.Rebuild → ⊥) →
    (at_directory short who number (DirectoryStep.Look note) d).1 ≡ Told.Pinned point length_now seen → IsReading note.kind
pins_of_reads short who number note d point length_now seen other e =
    reading_by note.kind (pins_read note.kind _ point length_now seen (places_answer_by_kind.look short who number note d) e) other

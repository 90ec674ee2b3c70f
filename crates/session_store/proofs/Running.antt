-- A call that runs alone goes on step by step.
use Rattle.std.proofs.Common.{◌≡◌, ◌⊎◌, ℕ, ◌+◌, ◌<◌, ◌≤◌, Bool, true, false, ◌&&◌, if◌then◌else◌, List, [], ◌∷◌, ◌++◌, Option, None, Some, refl, sym, ap, subst, ◌∙◌, inl, inr}
use Rattle.std.proofs.lemmas.List.{append-nil}
use Rattle.std.specs.Prelude.{⊤}
use Rattle.clay_grid.specs.Shape.{stripe_length}
use Rattle.store_map.specs.declared.actor.Actor.{Actor}
use Rattle.store_map.specs.declared.call.Call.{Call}
use Rattle.store_map.specs.declared.call.Call.TheVariants as call
use Rattle.store_core.specs.Act.{Act, DirectoryStep}
use Rattle.store_core.specs.Agreement.{HeldPass, ActorToken, Agrees}
use Rattle.store_core.specs.AtDirectory.{at_directory, on_pass, unless_reaped}
use Rattle.store_core.specs.Calls.{Calls}
use Rattle.store_core.specs.Directory.{Directory}
use Rattle.store_core.specs.Lookups.{pass_of}
use Rattle.store_core.specs.NextAct.{Job}
use Rattle.store_core.specs.Note.{Kind, Note, note_of}
use Rattle.store_core.specs.PassSteps.{draw}
use Rattle.store_core.specs.Told.{Told}
use Rattle.store_core.specs.Tokens.{actor_of, IsToWrite}
use Rattle.version_seal.specs.Entry.{StampOf, RequestOf, call_written}
use Rattle.stripe_stamps.specs.Sealed.{Sealed}
use Rattle.stripe_stamps.specs.Stamped.{HaveContents, HasStamps}
use Rattle.stripe_stamps.specs.ItsStripes.{IsWhole}
use Rattle.stripe_stamps.proofs.StampSteps.{stamps_keep_contents}
use Rattle.call_steps.specs.declared.need.Need.TheVariants as need
use Rattle.call_steps.specs.TokenAfter.{MayMake, IfInCall}
use Rattle.call_steps.specs.CallOf.{act_of}
use Rattle.call_steps.specs.Steps.{HoldsItsPass, MayMakeNext}
use Rattle.write_course.specs.Draws.{stamps_told, stamps_drawn, stamps_by, stamps_of_draw, request_of}
use Rattle.call_machine.specs.Calls.{MachineOf, drawn_in, drawn_for, drawn_by}
use Rattle.call_machine.specs.Kinds.{Asked, asked_job, Machine, client_machine}
use Rattle.session_store.specs.CallBytes.{IsKnownBy}

-- ---- what a step at the directory keeps of bytes and contents
module _ (calls : Calls) (d now : Sealed) (wide : 0 < stripe_length d.core.shape) (whole : IsWhole d.core) (stamped : HasStamps d) (free : d.book.script ≡ None) (contents : HaveContents calls d) where
  -- a directory with these lists and stamps
  abbrev with_stamps : Directory → List StampOf → Sealed
  with_stamps core stamps = record { core = core; book = d.book; stamps = stamps }

  -- a draw by a pass
  module _ (short : Bool) (held : HeldPass) (number : ℕ) (agrees : Agrees d.core (ActorToken.InCall held)) (its : held.pass.number ≡ number) (written : Call) (known : calls held.pass.actor number ≡ Some written) (request : RequestOf) (asks : request.call ≡ written) where
    abbrev who : Actor
    who = held.pass.actor

    abbrev Kept : Bool → Type 0
    Kept b =
        HaveContents calls
        (with_stamps (at_directory b who number DirectoryStep.Draw d.core).0
        (d.stamps ++ stamps_told d held.pass request (at_directory b who number DirectoryStep.Draw d.core).1))

    wanting : Kept true
    wanting = subst (λ (l : List StampOf). HaveContents calls (with_stamps (at_directory true who number DirectoryStep.Draw d.core).0 l)) (sym (append-nil d.stamps)) ((stamps_keep_contents calls).short d who number contents)

    is_pass : pass_of who d.core ≡ Some (record (held.pass) { reaped = agrees.reap })
    is_pass = agrees.is_pass

    drawn_by_pass : (reap : Option ℕ) → pass_of who d.core ≡ Some (record (held.pass) { reaped = reap }) → Kept false
    drawn_by_pass (Some point) is =
        let made : at_directory false who number DirectoryStep.Draw d.core ≡ unless_reaped draw (record (held.pass) { reaped = Some point }) (Some point) d.core = ap (λ found. on_pass draw found d.core) is in
        subst (λ (told : Told). HaveContents calls (with_stamps (at_directory false who number DirectoryStep.Draw d.core).0 (d.stamps ++ stamps_told d held.pass request told))) (sym (ap (λ (r : Directory × Told). r.1) made))
        (subst (λ (l : List StampOf). HaveContents calls (with_stamps (at_directory false who number DirectoryStep.Draw d.core).0 l)) (sym (append-nil d.stamps))
        ((stamps_keep_contents calls).reaped d who number (record (held.pass) { reaped = Some point }) point is refl contents))
    drawn_by_pass None is =
        let made : at_directory false who number DirectoryStep.Draw d.core ≡ draw (record (held.pass) { reaped = None }) d.core = ap (λ found. on_pass draw found d.core) is in
        subst (λ (told : Told). HaveContents calls (with_stamps (at_directory false who number DirectoryStep.Draw d.core).0 (d.stamps ++ stamps_told d held.pass request told))) (sym (ap (λ (r : Directory × Told). r.1) made))
        ((stamps_keep_contents calls).draw d who number (record (held.pass) { reaped = None }) (Some request) wide whole stamped is refl writes contents)
      where
        writes : call_written d.book.script held.pass.actor held.pass.number (Some request) ≡ calls held.pass.actor held.pass.number
        writes =
            ap (λ script. call_written script held.pass.actor held.pass.number (Some request)) free ∙ ap (λ c. Some c) asks ∙ sym known ∙ ap (calls held.pass.actor) (sym its)

    pub draw_keeps : Kept short
    draw_keeps = by short
      where
        by : (b : Bool) → Kept b
        by true = wanting
        by false = drawn_by_pass agrees.reap is_pass

  -- a step that is no draw draws nothing
  still : (short : Bool) (who : Actor) (number : ℕ) (step : DirectoryStep) (drawn : List StampOf) → (step ≡ DirectoryStep.Draw → ⊥) → drawn ≡ [] → HaveContents calls (with_stamps (at_directory short who number step d.core).0 (d.stamps ++ drawn))
  still short who number step drawn other none =
      subst (λ (l : List StampOf). HaveContents calls (with_stamps (at_directory short who number step d.core).0 l)) (sym (append-nil d.stamps) ∙ ap (λ (l : List StampOf). d.stamps ++ l) (sym none))
      ((stamps_keep_contents calls).still d short who number step other contents)

-- a pass that draws is that of a put or a write, so a call that reads and a rebuild have none
reads_draw_not : (written : Call) → client_machine written ≡ Machine.Reads → ((note_of written).kind ≡ Kind.Put) ⊎ ((note_of written).kind ≡ Kind.Write) → ⊥
reads_draw_not (call.Get name) reads (inl e) = absurd (cc (e))
reads_draw_not (call.Get name) reads (inr e) = absurd (cc (e))
reads_draw_not (call.ReadAt name offset count) reads (inl e) = absurd (cc (e))
reads_draw_not (call.ReadAt name offset count) reads (inr e) = absurd (cc (e))
reads_draw_not (call.Stat name) reads (inl e) = absurd (cc (e))
reads_draw_not (call.Stat name) reads (inr e) = absurd (cc (e))
reads_draw_not (call.Put name content) reads writes = absurd (cc (reads))
reads_draw_not (call.Write name offset content) reads writes = absurd (cc (reads))
reads_draw_not (call.Delete name) reads writes = absurd (cc (reads))

rebuild_draws_not : (kind : Kind) → kind ≡ Kind.Rebuild → (kind ≡ Kind.Put) ⊎ (kind ≡ Kind.Write) → ⊥
rebuild_draws_not kind e (inl other) = let same : Kind.Rebuild ≡ Kind.Put = sym e ∙ other in absurd (cc (same))
rebuild_draws_not kind e (inr other) = let same : Kind.Rebuild ≡ Kind.Write = sym e ∙ other in absurd (cc (same))

-- of a client's machine, what a draw by this pass draws
module _ (calls : Calls) (c : MachineOf) (d now : Sealed) (wide : 0 < stripe_length d.core.shape) (whole : IsWhole d.core) (stamped : HasStamps d) (free : d.book.script ≡ None) (contents : HaveContents calls d) (short : Bool)
    (job : c.call.job ≡ asked_job c.asked) (holds : HoldsItsPass c.call) (agrees : Agrees d.core c.call.token) (book : now.book ≡ d.book) (stamps : now.stamps ≡ d.stamps ++ drawn_by short d c)
    (known : IsKnownBy calls c c.asked) (may : MayMakeNext c.call) (shape : d.core.shape ≡ c.call.book.geometry) where
  abbrev core_after : DirectoryStep → Directory
  core_after step = (at_directory short (actor_of c.call.token) c.call.number step d.core).0

  abbrev HasKept : DirectoryStep → List StampOf → Type 0
  HasKept step drawn = HaveContents calls (record { core = core_after step; book = d.book; stamps = d.stamps ++ drawn })

  -- with this ticket, of a call that asks for this
  drawing : (token : ActorToken) → c.call.token ≡ token → (asked : Asked) → c.asked ≡ asked → act_of c.call ≡ Act.AtDirectory DirectoryStep.Draw → HasKept DirectoryStep.Draw (drawn_for asked short d c)
  drawing (ActorToken.Seated seat) is asked asks acts = absurd (subst (λ token. MayMake d.core token c.call.number DirectoryStep.Draw) is (may DirectoryStep.Draw d.core acts shape))
  drawing (ActorToken.InCall held) is (Asked.OfRepairer rebuild) asks acts =
      let writes : IsToWrite held = (subst (λ token. MayMake d.core token c.call.number DirectoryStep.Draw) is (may DirectoryStep.Draw d.core acts shape)).1.0 in
      let its = (subst (λ token. IfInCall token (λ h. (h.pass.note ≡ c.call.job.note) × (h.pass.number ≡ c.call.number))) is holds.its).0 in
      let kind : held.pass.note.kind ≡ Kind.Rebuild = ap (λ (n : Note). n.kind) its ∙ ap (λ (j : Job). j.note.kind) job ∙ ap (λ (a : Asked). (asked_job a).note.kind) asks in
      absurd (rebuild_draws_not held.pass.note.kind kind writes)
  drawing (ActorToken.InCall held) is (Asked.OfClient written) asks acts = by (client_machine written) refl
    where
      may_draw : MayMake d.core (ActorToken.InCall held) c.call.number DirectoryStep.Draw
      may_draw = subst (λ token. MayMake d.core token c.call.number DirectoryStep.Draw) is (may DirectoryStep.Draw d.core acts shape)

      note : held.pass.note ≡ note_of written
      note =
          (subst (λ token. IfInCall token (λ h. (h.pass.note ≡ c.call.job.note) × (h.pass.number ≡ c.call.number))) is holds.its).0
          ∙ ap (λ (j : Job). j.note) job ∙ ap (λ (a : Asked). (asked_job a).note) asks

      who : actor_of c.call.token ≡ held.pass.actor
      who = ap actor_of is

      known_call : calls held.pass.actor c.call.number ≡ Some written
      known_call = ap (λ a. calls a c.call.number) (sym who) ∙ subst (IsKnownBy calls c) asks known

      -- the machine draws as it was told
      drawn : stamps_drawn short d c.call written ≡ stamps_told d held.pass (request_of c.call written) (at_directory short held.pass.actor c.call.number DirectoryStep.Draw d.core).1
      drawn = ap (λ act. stamps_by act short d c.call written) acts ∙ ap (λ token. stamps_of_draw token short d c.call written) is

      kept : HasKept DirectoryStep.Draw (stamps_drawn short d c.call written)
      kept =
          subst (HasKept DirectoryStep.Draw) (sym drawn)
          (subst (λ a. HaveContents calls (record { core = (at_directory short a c.call.number DirectoryStep.Draw d.core).0; book = d.book; stamps = d.stamps ++ stamps_told d held.pass (request_of c.call written) (at_directory short held.pass.actor c.call.number DirectoryStep.Draw d.core).1 }))
          (sym who)
          (draw_keeps calls d now wide whole stamped free contents short held c.call.number (subst (Agrees d.core) is agrees) may_draw.0 written known_call (request_of c.call written) refl))

      by : (machine : Machine) → client_machine written ≡ machine → HasKept DirectoryStep.Draw (drawn_in machine short d c written)
      by Machine.Puts e = kept
      by Machine.Patches e = kept
      by Machine.Reads e = absurd (reads_draw_not written e (subst (λ (n : Note). (n.kind ≡ Kind.Put) ⊎ (n.kind ≡ Kind.Write)) note may_draw.1.0))
      by Machine.Rebuilds e = absurd (no_rebuild written e)
        where
          no_rebuild : (w : Call) → client_machine w ≡ Machine.Rebuilds → ⊥
          no_rebuild (call.Get name) e = absurd (cc (e))
          no_rebuild (call.ReadAt name offset count) e = absurd (cc (e))
          no_rebuild (call.Stat name) e = absurd (cc (e))
          no_rebuild (call.Put name content) e = absurd (cc (e))
          no_rebuild (call.Write name offset content) e = absurd (cc (e))
          no_rebuild (call.Delete name) e = absurd (cc (e))

  -- other steps draw nothing
  nothing_drawn : (asked : Asked) (step : DirectoryStep) → act_of c.call ≡ Act.AtDirectory step → (step ≡ DirectoryStep.Draw → ⊥) → drawn_for asked short d c ≡ []
  nothing_drawn (Asked.OfRepairer rebuild) step acts other = refl
  nothing_drawn (Asked.OfClient written) step acts other = by (client_machine written)
    where
      by_step : (step : DirectoryStep) → (step ≡ DirectoryStep.Draw → ⊥) → stamps_by (Act.AtDirectory step) short d c.call written ≡ []
      by_step DirectoryStep.Draw other = absurd (other refl)
      by_step (DirectoryStep.Look note) other = refl
      by_step (DirectoryStep.LookRepair note) other = refl
      by_step (DirectoryStep.Commit placed) other = refl
      by_step DirectoryStep.End other = refl
      by_step DirectoryStep.Confirm other = refl
      by_step (DirectoryStep.Repaired server epoch) other = refl
      by_step DirectoryStep.NextGarbage other = refl
      by_step (DirectoryStep.Swept version) other = refl
      by_step (DirectoryStep.Reap actor) other = refl

      by : (machine : Machine) → drawn_in machine short d c written ≡ []
      by Machine.Puts = ap (λ act. stamps_by act short d c.call written) acts ∙ by_step step other
      by Machine.Patches = ap (λ act. stamps_by act short d c.call written) acts ∙ by_step step other
      by Machine.Reads = refl
      by Machine.Rebuilds = refl

  is_draw : (step : DirectoryStep) → (step ≡ DirectoryStep.Draw) ⊎ (step ≡ DirectoryStep.Draw → ⊥)
  is_draw DirectoryStep.Draw = inl refl
  is_draw (DirectoryStep.Look note) = inr (λ e. cc (e))
  is_draw (DirectoryStep.LookRepair note) = inr (λ e. cc (e))
  is_draw (DirectoryStep.Commit placed) = inr (λ e. cc (e))
  is_draw DirectoryStep.End = inr (λ e. cc (e))
  is_draw DirectoryStep.Confirm = inr (λ e. cc (e))
  is_draw (DirectoryStep.Repaired server epoch) = inr (λ e. cc (e))
  is_draw DirectoryStep.NextGarbage = inr (λ e. cc (e))
  is_draw (DirectoryStep.Swept version) = inr (λ e. cc (e))
  is_draw (DirectoryStep.Reap actor) = inr (λ e. cc (e))

  pub contents_kept : (step : DirectoryStep) → act_of c.call ≡ Act.AtDirectory step → now.core ≡ core_after step → HaveContents calls now
  contents_kept step acts core =
      subst (HaveContents calls) (λ i. record { core = sym core i; book = sym book i; stamps = sym stamps i }) (by (is_draw step))
    where
      by : (step ≡ DirectoryStep.Draw) ⊎ (step ≡ DirectoryStep.Draw → ⊥) → HasKept step (drawn_by short d c)
      by (inl e) = subst (λ s. HasKept s (drawn_by short d c)) (sym e) (drawing c.call.token refl c.asked refl (acts ∙ ap (λ s. Act.AtDirectory s) e))
      by (inr other) = still calls d now wide whole stamped free contents short (actor_of c.call.token) c.call.number step (drawn_by short d c) other (nothing_drawn c.asked step acts other)

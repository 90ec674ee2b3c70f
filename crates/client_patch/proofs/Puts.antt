-- A put: it keeps no old bytes, takes nothing, and is told of no change.
-- A put's call stands on the machine of writes. It pins no stripe, so the old bytes under its own are zeros (old_of_nothing) and it
-- stands at its draw once it is told to go on; it is told of no change (overtaken_writes), so it takes no room for one. How often it
-- would be tried changes none of its acts (acts_alike), so its view says what the book's script says of every call.
use Rattle.std.proofs.Common.{◌≡◌, ℕ, zero, suc, ◌+◌, ◌-◌, ◌/◌, ◌<◌, true, false, cond, ◌⊎◌, List, [], length, take, drop, replicate, All, Option, None, Some, unwrap_or, refl, sym, ap, subst, ◌∙◌, inl, inr, arith}
use Rattle.clay_grid.specs.Shape.{Shape, chunk_count, stripe_length}
use Rattle.clay_model.specs.Code.{padded}
use Rattle.store_map.specs.declared.placement.Placement.{Placement}
use Rattle.store_map.specs.declared.call.Call.{Call}
use Rattle.store_map.specs.declared.call.Call.TheVariants as call
use Rattle.store_core.specs.Told.{Told}
use Rattle.store_core.specs.Note.{Note, Kind, note_of}
use Rattle.store_core.specs.Act.{Act, DirectoryStep, Outcome}
use Rattle.store_core.specs.AtDirectory.{at_directory, unless_reaped, on_pass}
use Rattle.store_core.specs.Commit.{is_overtaken, commit_object, commit}
use Rattle.store_core.specs.Directory.{Object, Pass, Directory}
use Rattle.store_core.specs.Lookups.{find_object, last_change, pass_of}
use Rattle.store_core.specs.NextAct.{job_of}
use Rattle.store_core.specs.PassSteps.{close_pass, give_up_drawn}
use Rattle.store_core.specs.Agreement.{ActorToken, AgreesWithPass, Agrees}
use Rattle.store_core.specs.Tokens.{actor_of}
use Rattle.run_laws.specs.State.{Sequel, State}
use Rattle.run_laws.specs.StateActs.{act_at}
use Rattle.version_seal.specs.Entry.{BookOf, StampOf, old_bytes}
use Rattle.stripe_stamps.specs.Sealed.{base_stamp}
use Rattle.call_steps.specs.CallOf.{act_of}
use Rattle.call_steps.specs.Ends.{finished_of}
use Rattle.gather_parts.specs.Wanted.{parts_of}
use Rattle.gather_parts.specs.Gatherings.{GatheringsOf}
use Rattle.gather_parts.specs.States.{state_by as gathering_state, state_in}
use Rattle.write_course.specs.Writings.{versions_of}
use Rattle.write_course.specs.Holding.{IsHolding, HasToken}
use Rattle.client_patch.specs.Kept.{old_of, kept_count, kept_from}
use Rattle.client_patch.specs.Known.{AreOldBytes}
use Rattle.client_patch.specs.Patches.{PatchOf, is_put, is_write, is_drawing}
use Rattle.client_patch.specs.Holds.{GathersNothing}
use Rattle.client_patch.specs.Stages.{state_by}
use Rattle.client_patch.specs.Inside.{pairs_in, patch_in, Keeps, IsPatch}
use Rattle.client_patch.specs.declared.patch.PatchCall.TheInside.{Inside}
use Rattle.client_patch.specs.declared.patch_stage.PatchStage.{PatchStage}
use Rattle.client_patch.specs.declared.patch_stage.PatchStage.TheVariants as stage
use Rattle.client_patch.proofs.OfWrites.{put_kind, put_or_write, not_both}
use Rattle.client_patch.proofs.Gathered.{EndsSo, ungathered_ends}

-- ---- no old bytes
nothing_of : (n m : ℕ) → take n (drop {A = ℕ} m []) ≡ []
nothing_of n m = ap (take n) (dropped m) ∙ taken n
  where
    dropped : (m : ℕ) → drop {A = ℕ} m [] ≡ []
    dropped zero = refl
    dropped (suc m) = refl

    taken : (n : ℕ) → take {A = ℕ} n [] ≡ []
    taken zero = refl
    taken (suc n) = refl

-- of a pass that pins nothing the old bytes are zeros
pub old_of_nothing : (stamps : List StampOf) (book : BookOf) (note : Note) (size : ℕ) (kept : List ℕ) (pass : Pass) → pass.pinned ≡ [] → kept ≡ [] → AreOldBytes stamps book note size kept pass
old_of_nothing stamps book note size kept pass pins none =
    record {
      pins = subst (All (λ pin. pin.version < length stamps)) (sym pins) (λ i x less. absurd (omega (arith, less)));
      bytes = λ place less.
          let g : Shape = book.geometry in
          let stripe : ℕ = note.offset / stripe_length g + place in
          let n : ℕ = kept_count g size note.offset (note.offset + note.length) stripe in
          let m : ℕ = kept_from g size note.offset (note.offset + note.length) stripe in
          let all : stripe_length book.geometry ≡ stripe_length book.geometry - 0 = omega arith in
          ap (λ pins. old_bytes g (base_stamp stamps pins stripe)) pins
          ∙ ap (λ k. replicate {A = ℕ} k 0) all
          ∙ ap (padded (stripe_length g)) (sym (nothing_of n m))
          ∙ ap (λ kept. old_of g note size kept stripe) (sym none);
    }

-- ---- nothing is gathered
pub nothing_stands : (p : GatheringsOf) → GathersNothing p → state_in p Sequel.Draw ≡ State.Drawing
nothing_stands p nothing = λ i. gathering_state p.book.geometry (parts_of (nothing.none_left i)) Sequel.Draw (nothing.idle i)

-- ---- what a put keeps
pub kind_so : (a : Inside) (p : PatchOf) → IsPatch a → patch_in a ≡ p → is_put p.written ≡ true → p.call.job.note.kind ≡ Kind.Put
kind_so a p kept view put = subst (λ (p : PatchOf). p.call.job.note.kind ≡ Kind.Put) view (put_kind a.call.now (ap (λ (p : PatchOf). is_put p.written) view ∙ put))

pub takes_nothing : (a : Inside) (p : PatchOf) → IsPatch a → patch_in a ≡ p → is_put p.written ≡ true → p.call.takes ≡ replicate (chunk_count p.call.book.geometry) 0
takes_nothing a p kept view put =
    subst (λ (p : PatchOf). p.call.takes ≡ replicate (chunk_count p.call.book.geometry) 0) view (kept.untaken (ap (λ (p : PatchOf). is_put p.written) view ∙ put))

module _ (a : Inside) (put : is_put a.call.now ≡ true) where
  abbrev EndsAt : State → Type 0
  EndsAt at = (outcome : Outcome) → act_at a.opening.geometry a.tries (job_of a.call.now) (pairs_in a.changes.items) at ≡ Act.Finish outcome → at ≡ State.Finished outcome

  start_ends : (c : Call) → is_put c ≡ true → (outcome : Outcome) → act_at a.opening.geometry a.tries (job_of c) (pairs_in a.changes.items) State.Start ≡ Act.Finish outcome → State.Start ≡ State.Finished outcome
  start_ends (call.Put name content) e outcome f = absurd (cc)
  start_ends _ e outcome f = absurd (cc)

  drawing_ends : EndsAt State.Drawing
  drawing_ends end f = absurd (cc)

  finished_ends : (outcome : Outcome) → EndsAt (State.Finished outcome)
  finished_ends outcome end f =
      let same : outcome ≡ end = cc in
      ap State.Finished same

  has_ends : (number : ℕ) (note : Note) (drawn : List ℕ) (token : ActorToken) (at : State) → HasToken number note drawn token at → EndsAt at
  has_ends number note drawn token (State.Preparing stripe version server servers row later placed versions) h end f = absurd (cc)
  has_ends number note drawn token (State.Committing versions placed) h end f = absurd (cc)
  has_ends number note drawn token (State.Settling point place places) h end f = absurd (cc)
  has_ends number note drawn token (State.Ending outcome) h end f = absurd (cc)
  has_ends number note drawn token (State.Finished outcome) h end f = finished_ends outcome end f
  has_ends number note drawn token _ h end f = absurd h

  ends_by : (s : PatchStage) → Keeps s a → EndsAt (state_by s a.gatherings a.writing a.outcome)
  ends_by stage.Looking k end f = start_ends a.call.now put end f
  ends_by stage.Looked k end f = absurd (not_both a.call.now put k.2)
  ends_by stage.Gathering k end f = subst EndsAt (sym (nothing_stands a.gatherings (k.3 put).1)) drawing_ends end f
  ends_by stage.Ungathered k end f =
      let ends : EndsSo (state_in a.gatherings Sequel.Draw) = ungathered_ends a.gatherings k.1 in
      subst EndsAt (sym (ap finished_of ends.is)) (finished_ends ends.outcome) end f
  ends_by stage.Writing k end f = has_ends a.number (note_of a.call.now) (versions_of a.writing.stamps) a.ticket a.writing.state k.1 end f
  ends_by stage.GivenUp k end f = subst EndsAt (sym (ap finished_of k.1.is)) (finished_ends k.1.ending) end f
  ends_by stage.Ending k end f = absurd (cc)
  ends_by stage.Finished k end f = finished_ends _ end f

pub ends_so : (a : Inside) (p : PatchOf) → IsPatch a → patch_in a ≡ p → (outcome : Outcome) → is_put p.written ≡ true → act_of p.call ≡ Act.Finish outcome → p.call.state.at ≡ State.Finished outcome
ends_so a p kept view outcome put over =
    subst (λ (p : PatchOf). act_of p.call ≡ Act.Finish outcome → p.call.state.at ≡ State.Finished outcome) view
    (ends_by a (ap (λ (p : PatchOf). is_put p.written) view ∙ put) a.stage kept.kept outcome) over

-- ---- its commit
put_is_done : (d : Directory) (placed : List (List Placement)) (pass : Pass) (reap : Option ℕ) (base newer : ℕ) → pass.note.kind ≡ Kind.Put
    → Told.Changed base newer ≡ (unless_reaped (commit placed) pass reap d).1 → ⊥
put_is_done d placed pass (Some point) base newer kind e = cc
put_is_done d placed pass None base newer kind e =
    let last : Option ℕ = last_change pass.note.name d.points in
    let old : Object = unwrap_or (find_object pass.note.name d.objects) (record { name = pass.note.name; length = 0; versions = [] }) in
    let kept : is_overtaken pass.note.kind pass.base (last_change pass.note.name d.points) ≡ false = ap (λ kind. is_overtaken kind pass.base (last_change pass.note.name d.points)) kind in
    let done : Told.Changed base newer ≡ Told.Done (length d.points)
    = e
    ∙ ap (λ b. (cond {A = Directory × Told} b (close_pass pass (give_up_drawn pass d), Told.Changed (unwrap_or pass.base 0) (unwrap_or last 0)) (commit_object placed pass old d)).1) kept in
    cc

-- whose commit finds its object changed writes
pub overtaken_writes : (c : Call) (number : ℕ) (drawn : List ℕ) (token : ActorToken) (d after : Directory) (placed : List (List Placement)) (base newer : ℕ) → is_drawing c ≡ true
    → IsHolding number (note_of c) drawn token → Agrees d token
    → (after, Told.Changed base newer) ≡ at_directory false (actor_of token) number (DirectoryStep.Commit placed) d → is_write c ≡ true
overtaken_writes c number drawn token d after placed base newer draws h agrees made = by (put_or_write c draws)
  where
    held : AgreesWithPass d h.held
    held = subst (Agrees d) h.is agrees

    told : Told.Changed base newer ≡ (on_pass (commit placed) (Some (record (h.held.pass) { reaped = held.reap })) d).1
    told =
        ap (λ (x : Directory × Told). x.1) made
        ∙ ap (λ (t : ActorToken). (on_pass (commit placed) (pass_of (actor_of t) d) d).1) h.is
        ∙ ap (λ pass. (on_pass (commit placed) pass d).1) held.is_pass

    by : (is_put c ≡ true) ⊎ (is_write c ≡ true) → is_write c ≡ true
    by (inr write) = write
    by (inl put) =
        absurd (put_is_done d placed (record (h.held.pass) { reaped = held.reap }) held.reap base newer (ap (λ (note : Note). note.kind) h.its ∙ put_kind c put) told)

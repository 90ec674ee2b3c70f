-- Each step at the directory that a ready actor makes may be made there.
use Rattle.std.proofs.Common.{◌≡◌, ℕ, ◌<◌, ◌≤◌, true, false, List, [], length, Option, None, Some, option_map, IfSome, All, Contains, IsTrue, refl, sym, ap, subst, ◌∙◌, inl, inr, ◌⊎◌, arith}
use Rattle.std.proofs.lemmas.Option.{same_Some, none-some}
use Rattle.std.proofs.lemmas.List.Elements.{All-contains}
use Rattle.store_core.specs.Placements.{IsRow}
use Rattle.store_map.specs.declared.placement.Placement.{Placement}
use Rattle.clay_grid.specs.Shape.{Shape, chunk_count}
use Rattle.store_map.specs.declared.actor.Actor.{Actor}
use Rattle.store_map.specs.declared.actor.Actor.TheVariants as actor
use Rattle.store_map.specs.declared.reply.Reply.{Reply}
use Rattle.store_core.specs.Told.{Told}
use Rattle.store_core.specs.Note.{Note, Kind}
use Rattle.store_core.specs.Act.{Act, DirectoryStep}
use Rattle.store_core.specs.Conditions.{MayBegin, IsOfClient, IsOfRepairer, IsWriting, IsRebuilding, IsPrepared, MayStep}
use Rattle.store_core.specs.Directory.{Pass, Event, Point, Directory}
use Rattle.store_core.specs.Lookups.{same_actor, pass_of}
use Rattle.store_core.specs.NextAct.{Job, next_by, next_act}
use Rattle.store_core.specs.PassSteps.{touched}
use Rattle.store_core.specs.Replay.{FitsEvent}
use Rattle.store_core.specs.Sound.{lengths_of, IsSound}
use Rattle.store_core.specs.SoundPasses.{IsOfItsCall}
use Rattle.run_laws.specs.StepLaws.{HasTarget}
use Rattle.run_laws.proofs.ActAnswers.{note_if}
use Rattle.run_laws.proofs.ActorSteps.{Stands}
use Rattle.run_laws.proofs.CallActs.{IsOfClients, IsOfRepairers, StepOfKind}
use Rattle.run_laws.proofs.Commits.{Commits, put_commits, trying_commits}
use Rattle.run_laws.proofs.Falls.{AtCommit, CommitsRows}
use Rattle.run_laws.proofs.Passes.{pass_is}
use Rattle.run_laws.proofs.Phases.{phase_of, has_pass, rank}
use Rattle.run_laws.proofs.Proper.{IsWriting as IsWritingKind, ProperStep, HasTry}
use Rattle.run_laws.proofs.Readies.{drawn_count, NotLater, OnlyReaped, PassReady, Ready}
use Rattle.run_laws.proofs.SoundClose.{held_pass}
use Rattle.run_laws.proofs.SoundHistory.{marked_of}
use Rattle.run_laws.proofs.SoundLists.{all_by}
use Rattle.run_laws.proofs.ToldVersions.{versions_told}

-- ---- kinds
-- a call fits its actor
abbrev pub FitsActor : Actor → Note → Type 0
FitsActor (actor.Client i) note = IsOfClient (actor.Client i) note
FitsActor (actor.Repairer i) note = note.kind ≡ Kind.Rebuild
FitsActor who note = ⊥

-- a kind that draws is a put or a write
writing_kind : (kind : Kind) → IsWritingKind kind → (kind ≡ Kind.Put) ⊎ (kind ≡ Kind.Write)
writing_kind Kind.Put writes = inl refl
writing_kind Kind.Write writes = inr refl
writing_kind kind writes = absurd writes

-- a repairer's kind is a rebuild
rebuild_kind : (kind : Kind) → IsOfRepairers kind → kind ≡ Kind.Rebuild
rebuild_kind Kind.Rebuild rebuilds = refl
rebuild_kind kind rebuilds = absurd rebuilds

-- only a client makes a client's look
client_looks : (who : Actor) (note : Note) → FitsActor who note → IsOfClients note.kind → IsOfClient who note
client_looks (actor.Client i) note fits looks = fits
client_looks (actor.Repairer i) note fits looks = absurd (subst IsOfClients fits looks)
client_looks who note fits looks = absurd fits

-- and a repairer a repairer's
repairer_looks : (who : Actor) (note : Note) → FitsActor who note → IsOfRepairers note.kind → IsOfRepairer who note
repairer_looks (actor.Client i) note fits looks = absurd (by fits)
  where
    by : (note.kind ≡ Kind.Write) ⊎ ((note.kind ≡ Kind.ReadAt) ⊎ ((note.kind ≡ Kind.Rebuild → ⊥) × (note.offset ≡ 0))) → ⊥
    by (inl e) = subst IsOfRepairers e looks
    by (inr (inl e)) = subst IsOfRepairers e looks
    by (inr (inr h)) = h.0 (rebuild_kind note.kind looks)
repairer_looks (actor.Repairer i) note fits looks = fits
repairer_looks who note fits looks = absurd fits

-- a put or a write has no point while it has its pass
not_pinned : (kind : Kind) (answer : Reply) → IsWritingKind kind → FitsEvent Event.Pinned kind answer → ⊥
not_pinned Kind.Put answer writes marked = marked
not_pinned Kind.Write answer writes marked = marked
not_pinned kind answer writes marked = absurd writes

-- so all its points are reaps
pub reaped_only : (d : Directory) → IsSound d → (who : Actor) (number : ℕ) (pass : Pass) → pass_of who d ≡ Some pass → pass.number ≡ number → IsWritingKind pass.note.kind
    → All (OnlyReaped who number) d.points
reaped_only d sound who number pass found of_call writes =
    all_by (OnlyReaped who number) d.points (λ point has same is_number. by point has (own point has same is_number))
  where
    newest : All (IsOfItsCall pass) d.points
    newest = All-contains (λ (p : Pass). All (IsOfItsCall p) d.points) d.passes pass sound.newest (held_pass who d pass found).has

    own : (point : Point) → Contains d.points point → IsTrue (same_actor point.actor who) → point.number ≡ number → (point.event ≡ Event.Reaped) ⊎ ((point.event ≡ Event.Pinned) × (point.note ≡ pass.note))
    own point has same is_number =
        (All-contains (IsOfItsCall pass) d.points point newest has).own (subst (λ a. IsTrue (same_actor point.actor a)) (pass_is who d pass found) same) (is_number ∙ sym of_call)

    by : (point : Point) → Contains d.points point → (point.event ≡ Event.Reaped) ⊎ ((point.event ≡ Event.Pinned) × (point.note ≡ pass.note)) → point.event ≡ Event.Reaped
    by point has (inl e) = e
    by point has (inr h) =
        let marked : (answer : Reply) × FitsEvent point.event point.note.kind answer = marked_of d.max [] d.points (lengths_of d) point sound.history has in
        let at_mark : FitsEvent Event.Pinned point.note.kind marked.0 = subst (λ m. FitsEvent m point.note.kind marked.0) h.0 marked.1 in
        absurd (not_pinned pass.note.kind marked.0 writes (subst (λ (n : Note). FitsEvent Event.Pinned n.kind marked.0) h.1 at_mark))

-- ---- an actor's pass, by its note
pub record HasPass (who : Actor) (note : Note) (d : Directory) : Type 0 where
  pub pass : Pass
  pub found : pass_of who d ≡ Some pass
  pub noted : pass.note ≡ note

-- where no note is held there is no pass
pub none_held : (found : Option Pass) → option_map (λ pass. pass.note) found ≡ None → found ≡ None
none_held None e = refl
none_held (Some pass) e = absurd (none-some pass.note (sym e))

-- where a note is held there is its pass
pub one_held : (who : Actor) (note : Note) (d : Directory) (found : Option Pass) → pass_of who d ≡ found → option_map (λ pass. pass.note) found ≡ Some note → HasPass who note d
one_held who note d None is e = absurd (none-some note e)
one_held who note d (Some pass) is e = record { pass = pass; found = is; noted = same_Some pass.note note e }

-- at its commit a call was told what it drew
commits_by : (kind : Kind) (g : Shape) (tries : ℕ) (job : Job) (told : List Told) → IsWritingKind kind → AtCommit (next_by kind g tries job told) → Commits told (next_by kind g tries job told)
commits_by Kind.Put g tries job told writes h = put_commits g job.note told h
commits_by Kind.Write g tries job told writes h = trying_commits g tries job.note [] told h
commits_by kind g tries job told writes h = absurd writes

-- ---- each step
module _ (g : Shape) (tries : ℕ) (job : Job) (target : HasTarget g job) (who : Actor) (fits : FitsActor who job.note) (number : ℕ) (told : List Told) (d : Directory) (shape : d.shape ≡ g)
    (stands : Stands g tries job who told d) where
  -- what the call does next
  abbrev act : Act
  act = next_act g tries job told

  -- it has no pass where its act wants none
  no_pass : has_pass (phase_of act) ≡ false → pass_of who d ≡ None
  no_pass e = none_held (pass_of who d) (stands.pass ∙ ap (λ b. note_if b job.note) e)

  -- and has its own where it wants one
  pub its_pass : has_pass (phase_of act) ≡ true → HasPass who job.note d
  its_pass e = one_held who job.note d (pass_of who d) refl (stands.pass ∙ ap (λ b. note_if b job.note) e)

  -- a pass of this call touches as many stripes as the call
  pub touches : (pass : Pass) → pass.note ≡ job.note → length (touched d pass.note) ≡ drawn_count g job.note
  touches pass noted = ap (λ n. drawn_count d.shape n) noted ∙ ap (λ s. drawn_count s job.note) shape

  module _ (ready : Ready (drawn_count g job.note) who number (rank (phase_of act)) (versions_told told) d) where
    -- the call may begin
    may_begin : has_pass (phase_of act) ≡ false → 3 ≤ rank (phase_of act) → MayBegin d who number
    may_begin none looks =
        record {
          no_pass = no_pass none;
          numbers =
              all_by (λ (point : Point). IsTrue (same_actor point.actor who) → (point.number ≤ number) × (point.number ≡ number → point.event ≡ Event.Reaped)) d.points
              (λ point has same. (All-contains (NotLater who number) d.points point ready.numbers has same, All-contains (OnlyReaped who number) d.points point (ready.reaps looks) has same));
        }

    -- its pass is ready
    pass_ready : (has : HasPass who job.note d) → PassReady (drawn_count g job.note) number (rank (phase_of act)) (versions_told told) has.pass.number has.pass.drawn
    pass_ready has =
        subst (λ (o : Option Pass). IfSome o (λ pass. PassReady (drawn_count g job.note) number (rank (phase_of act)) (versions_told told) pass.number pass.drawn)) has.found ready.pass

    -- the pass of a put or a write
    is_writing : (has : HasPass who job.note d) → IsWritingKind job.note.kind → IsWriting d who has.pass
    is_writing has writes =
        record { is_pass = has.found; kind = subst (λ (n : Note). (n.kind ≡ Kind.Put) ⊎ (n.kind ≡ Kind.Write)) (sym has.noted) (writing_kind job.note.kind writes) }

    -- the pass of a rebuild
    is_rebuilding : (has : HasPass who job.note d) → IsOfRepairers job.note.kind → IsRebuilding d who has.pass
    is_rebuilding has rebuilds = record { is_pass = has.found; kind = subst (λ (n : Note). n.kind ≡ Kind.Rebuild) (sym has.noted) (rebuild_kind job.note.kind rebuilds) }

    -- all that was drawn is prepared
    is_prepared : (has : HasPass who job.note d) (placed : List (List Placement)) → act ≡ Act.AtDirectory (DirectoryStep.Commit placed) → Commits told act → All (IsRow g) placed
        → IsPrepared d has.pass placed
    is_prepared has placed e facts whole =
        let drawn : (has.pass.drawn ≡ facts.drawn) × (length facts.drawn ≡ drawn_count g job.note) = (pass_ready has).all_drawn facts.drawn facts.versions in
        let sizes : length has.pass.drawn ≡ length facts.drawn = ap (λ (l : List ℕ). length l) drawn.0 in
        let rows : length placed ≡ length facts.drawn = subst (CommitsRows (length facts.drawn)) e facts.rows in
        record {
          drawn = sizes ∙ drawn.1 ∙ sym (touches has.pass has.noted);
          rows = rows ∙ sym sizes;
          whole = subst (λ (s : Shape). All (IsRow s) placed) (sym shape) whole;
        }

    -- the step that the call makes next may be made
    pub may_step : (step : DirectoryStep) → act ≡ Act.AtDirectory step → ProperStep job (HasTry job.note.kind tries told) step → StepOfKind g job.note.kind step → MayStep d who number step
    may_step (DirectoryStep.Look note) e proper of_kind =
        (may_begin (ap (λ a. has_pass (phase_of a)) e) (subst (λ a. 3 ≤ rank (phase_of a)) (sym e) (omega arith)), subst (IsOfClient who) (sym proper.0) (client_looks who job.note fits of_kind))
    may_step (DirectoryStep.LookRepair note) e proper of_kind =
        (may_begin (ap (λ a. has_pass (phase_of a)) e) (subst (λ a. 3 ≤ rank (phase_of a)) (sym e) (omega arith)), subst (IsOfRepairer who) (sym proper.0) (repairer_looks who job.note fits of_kind))
    may_step DirectoryStep.Draw e proper of_kind =
        let has : HasPass who job.note d = its_pass (ap (λ a. has_pass (phase_of a)) e) in
        (has.pass, is_writing has proper, (pass_ready has).none_drawn (subst (λ a. 2 ≤ rank (phase_of a)) (sym e) (omega arith)))
    may_step (DirectoryStep.Commit placed) e proper of_kind =
        let has : HasPass who job.note d = its_pass (ap (λ a. has_pass (phase_of a)) e) in
        let facts : Commits told act = commits_by job.note.kind g tries job told of_kind.0 (subst AtCommit (sym e) tt) in
        (has.pass, is_writing has of_kind.0, is_prepared has placed e facts of_kind.1)
    may_step DirectoryStep.Confirm e proper of_kind =
        let has : HasPass who job.note d = its_pass (ap (λ a. has_pass (phase_of a)) e) in
        (has.pass, is_rebuilding has of_kind)
    may_step (DirectoryStep.Repaired server epoch) e proper of_kind =
        let has : HasPass who job.note d = its_pass (ap (λ a. has_pass (phase_of a)) e) in
        (has.pass, is_rebuilding has of_kind.0, subst (λ (s : Shape). server < chunk_count s) (sym shape) of_kind.1)
    may_step step e proper of_kind = tt

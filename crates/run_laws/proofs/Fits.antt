-- What a call is told fits its act.
use Rattle.std.proofs.Common.{ℕ, List, [], ◌∷◌}
use Rattle.clay_grid.specs.Shape.{Shape}
use Rattle.store_core.specs.Told.{Told, Seen}
use Rattle.store_core.specs.Note.{Note, Kind}
use Rattle.store_core.specs.Act.{Act, DirectoryStep, ServerStep, Outcome}
use Rattle.store_core.specs.Gathering.{Gathering, Part}
use Rattle.store_core.specs.GatheringParts.{ending, act_of, gathering, gather_part, gather_chunk}
use Rattle.store_core.specs.Read.{parts_of, next_read, next_single}
use Rattle.store_core.specs.Rebuild.{placing, installing, confirming, rebuilding, next_rebuild}
use Rattle.store_core.specs.NextAct.{Job, next_by, next_act}
use Rattle.store_core.specs.Tell.{tell}
use Rattle.run_laws.specs.Answers.{Answers}
use Rattle.run_laws.specs.AnswersByKind.{MayWrite}
use Rattle.run_laws.specs.ToldInSteps.{IsToldNext, AreToldSince}
use Rattle.run_laws.specs.FitLaws.{IsCommit, Fits, AreFit, AnswersFit}

-- ---- calls that commit are puts and writes
-- the end of a pass is no commit
ending_commits : (outcome : Outcome) (told : List Told) → IsCommit (ending outcome told) → ⊥
ending_commits outcome [] h = h
ending_commits outcome (Told.Ended ∷ told) h = h
ending_commits outcome (Told.Reaped point ∷ told) h = h
ending_commits outcome (_ ∷ told) h = ending_commits Outcome.NoMemory told h

-- nor is a step of a gathering that no commit follows
result_commits : (stripe : ℕ) (next : List Told → Act) → ((told : List Told) → IsCommit (next told) → ⊥) → (result : Gathering) → IsCommit (act_of stripe next result) → ⊥
result_commits stripe next never (Gathering.Asks server step) h = h
result_commits stripe next never (Gathering.HasBytes told) h = never told h
result_commits stripe next never (Gathering.TooMany missing told) h = ending_commits (Outcome.Unavailable stripe missing) told h
result_commits stripe next never (Gathering.AtTarget told) h = ending_commits Outcome.Here told h
result_commits stripe next never (Gathering.TargetAway downs told) h = ending_commits (Outcome.Away downs) told h
result_commits stripe next never (Gathering.Short told) h = ending_commits Outcome.NoMemory told h

-- of several parts
gathering_commits : (g : Shape) (next : List Told → Act) → ((told : List Told) → IsCommit (next told) → ⊥) → (parts : List Part) (told : List Told) → IsCommit (gathering g parts next told) → ⊥
gathering_commits g next never [] told h = never told h
gathering_commits g next never (part ∷ parts) (Told.Gathered ∷ told) h = gathering_commits g next never parts told h
gathering_commits g next never (part ∷ parts) told h =
    result_commits part.seen.stripe (gathering g parts next) (gathering_commits g next never parts) (gather_part g part told) h

-- a get or a read
read_commits : (g : Shape) (note : Note) (told : List Told) → IsCommit (next_read g note told) → ⊥
read_commits g note [] h = h
read_commits g note (Told.Answer point reply ∷ told) h = h
read_commits g note (Told.Pinned point length_now stripes ∷ told) h =
    gathering_commits g (ending (Outcome.Served point)) (ending_commits (Outcome.Served point)) (parts_of g note length_now stripes) told h
read_commits g note (_ ∷ told) h = h

-- a stat or a delete
single_commits : (note : Note) (told : List Told) → IsCommit (next_single note told) → ⊥
single_commits note [] h = h
single_commits note (Told.Answer point reply ∷ told) h = h
single_commits note (_ ∷ told) h = h

-- the last step of a rebuild
placing_commits : (target epoch : ℕ) (told : List Told) → IsCommit (placing target epoch told) → ⊥
placing_commits target epoch [] h = h
placing_commits target epoch (Told.Ended ∷ told) h = h
placing_commits target epoch (Told.Reaped point ∷ told) h = h
placing_commits target epoch (_ ∷ told) h = ending_commits Outcome.NoMemory told h

-- from its install on
installing_commits : (seen : Seen) (target : ℕ) (told : List Told) → IsCommit (installing seen target told) → ⊥
installing_commits seen target [] h = h
installing_commits seen target (Told.Placed epoch ∷ told) h = placing_commits target epoch told h
installing_commits seen target (Told.AlreadyThere ∷ told) h = ending_commits Outcome.Here told h
installing_commits seen target (Told.Away downs ∷ told) h = ending_commits (Outcome.Away downs) told h
installing_commits seen target (_ ∷ told) h = ending_commits Outcome.NoMemory told h

-- from its confirm on
confirming_commits : (seen : Seen) (target : ℕ) (told : List Told) → IsCommit (confirming seen target told) → ⊥
confirming_commits seen target [] h = h
confirming_commits seen target (Told.Current ∷ told) h = installing_commits seen target told h
confirming_commits seen target (Told.Superseded newer ∷ told) h = h
confirming_commits seen target (Told.Reaped point ∷ told) h = h
confirming_commits seen target (_ ∷ told) h = ending_commits Outcome.NoMemory told h

-- from its look on
rebuilding_commits : (g : Shape) (seen : Seen) (target : ℕ) (told : List Told) → IsCommit (rebuilding g seen target told) → ⊥
rebuilding_commits g seen target (Told.Gathered ∷ told) h = confirming_commits seen target told h
rebuilding_commits g seen target told h = result_commits seen.stripe (confirming seen target) (confirming_commits seen target) (gather_chunk g seen target told) h

-- a rebuild
rebuild_commits : (g : Shape) (note : Note) (target : ℕ) (told : List Told) → IsCommit (next_rebuild g note target told) → ⊥
rebuild_commits g note target [] h = h
rebuild_commits g note target (Told.NoSuch ∷ told) h = h
rebuild_commits g note target (Told.PinnedStripe seen ∷ told) h = rebuilding_commits g seen target told h
rebuild_commits g note target (_ ∷ told) h = h

-- so a call that commits is a put or a write
writes : (kind : Kind) (g : Shape) (tries : ℕ) (job : Job) (told : List Told) → IsCommit (next_by kind g tries job told) → MayWrite kind
writes Kind.Put g tries job told h = tt
writes Kind.Write g tries job told h = tt
writes Kind.Get g tries job told h = absurd (read_commits g job.note told h)
writes Kind.ReadAt g tries job told h = absurd (read_commits g job.note told h)
writes Kind.Stat g tries job told h = absurd (single_commits job.note told h)
writes Kind.Delete g tries job told h = absurd (single_commits job.note told h)
writes Kind.Rebuild g tries job told h = absurd (rebuild_commits g job.note job.target told h)

-- ---- what the places answer
-- a commit's point and a change are answered to a commit alone
done_commits : (pins touched point : ℕ) (act : Act) → Answers pins touched act (Told.Done point) → IsCommit act
done_commits pins touched point (Act.AtDirectory (DirectoryStep.Commit placed)) h = tt
done_commits pins touched point (Act.AtDirectory step) h = absurd h
done_commits pins touched point (Act.AtServer server (ServerStep.Prepare version)) h = absurd h
done_commits pins touched point (Act.AtServer server step) h = absurd h
done_commits pins touched point (Act.Finish outcome) h = absurd h

-- so is a change
change_commits : (pins touched base newer : ℕ) (act : Act) → Answers pins touched act (Told.Changed base newer) → IsCommit act
change_commits pins touched base newer (Act.AtDirectory (DirectoryStep.Commit placed)) h = tt
change_commits pins touched base newer (Act.AtDirectory step) h = absurd h
change_commits pins touched base newer (Act.AtServer server (ServerStep.Prepare version)) h = absurd h
change_commits pins touched base newer (Act.AtServer server step) h = absurd h
change_commits pins touched base newer (Act.Finish outcome) h = absurd h

-- no step is answered by a gathering in one entry
none_gathers : (pins touched : ℕ) (act : Act) → Answers pins touched act Told.Gathered → ⊥
none_gathers pins touched (Act.AtDirectory DirectoryStep.Draw) h = h
none_gathers pins touched (Act.AtDirectory step) h = h
none_gathers pins touched (Act.AtServer server (ServerStep.Prepare version)) h = h
none_gathers pins touched (Act.AtServer server step) h = h
none_gathers pins touched (Act.Finish outcome) h = h

-- ---- an answer fits, and all do
next_fits : (g : Shape) (max tries : ℕ) (job : Job) (told : List Told) (answer : Told) → IsToldNext g max tries job told answer → Fits job.note.kind (next_act g tries job told) answer
next_fits g max tries job told (Told.Done point) h =
    let commits : IsCommit (next_act g tries job told) = done_commits _ _ point (next_act g tries job told) h.0 in
    (commits, writes job.note.kind g tries job told commits)
next_fits g max tries job told (Told.Changed base newer) h = (change_commits _ _ base newer (next_act g tries job told) h.0, h.1)
next_fits g max tries job told Told.Gathered h = none_gathers _ _ (next_act g tries job told) h.0
next_fits g max tries job told answer h = tt

-- one after another
since_fit : (g : Shape) (max tries : ℕ) (job : Job) (told answers : List Told) → AreToldSince g max tries job told answers → AreFit g tries job told answers
since_fit g max tries job told [] h = tt
since_fit g max tries job told (answer ∷ answers) h = (next_fits g max tries job told answer h.0, since_fit g max tries job (tell g job told answer) answers h.1)

-- what a call is told fits its acts
pub answers_fit : AnswersFit
answers_fit = record { next = next_fits; all = λ g max tries job answers told. since_fit g max tries job [] answers told }

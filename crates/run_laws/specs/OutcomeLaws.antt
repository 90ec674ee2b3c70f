-- How a call ends that is told its answers step by step: which outcomes it may have, why, and when it is answered.
use Rattle.std.specs.Prelude.{◌≡◌, ◌≢◌, ℕ, ◌<◌, List, length, ⊤}
use Rattle.clay_grid.specs.Shape.{Shape}
use Rattle.store_core.specs.Told.{Told, Lost}
use Rattle.store_core.specs.Note.{Kind}
use Rattle.store_core.specs.Act.{Outcome}
use Rattle.run_laws.specs.GatherLaws.{Tells}
use Rattle.run_laws.specs.CauseLaws.{changes_of, IsToldAway, HasCause}
use Rattle.run_laws.specs.Losses.{ToldOfLoss}
use Rattle.store_core.specs.NextAct.{Job}

-- a call that may be answered with bytes
abbrev pub MayBeServed : Kind → Type 0
MayBeServed Kind.Get = ⊤
MayBeServed Kind.ReadAt = ⊤
MayBeServed _ = ⊥

-- a call that has a pass, which the operator may reap; it gathers or places chunks, and may find too many missing or away
abbrev pub MayBeReaped : Kind → Type 0
MayBeReaped Kind.Stat = ⊥
MayBeReaped Kind.Delete = ⊥
MayBeReaped _ = ⊤

-- the outcomes that a call of some kind may have
abbrev pub IsOutcomeOf : Kind → Outcome → Type 0
IsOutcomeOf kind (Outcome.Answered point given) = kind ≢ Kind.Rebuild
IsOutcomeOf kind (Outcome.Served point) = MayBeServed kind
IsOutcomeOf kind (Outcome.Unavailable stripe missing) = MayBeReaped kind
IsOutcomeOf kind (Outcome.Contended pairs) = kind ≡ Kind.Write
IsOutcomeOf kind (Outcome.Reaped point) = MayBeReaped kind
IsOutcomeOf kind Outcome.NoMemory = ⊤
IsOutcomeOf kind outcome = kind ≡ Kind.Rebuild

-- the cause of an outcome among all answers: beside that of any answers, the want of memory, the gathering or the prepares that found too many missing, and exactly as many changes as tries
abbrev pub HasCauseInSteps : Shape → ℕ → Job → Outcome → List Told → Type 0
HasCauseInSteps g tries job Outcome.NoMemory answers = Tells (λ answer. answer ≡ Told.Short) answers
HasCauseInSteps g tries job (Outcome.Unavailable stripe missing) answers = HasCause g tries (Outcome.Unavailable stripe missing) answers × ToldOfLoss g job stripe missing answers
HasCauseInSteps g tries job (Outcome.Contended pairs) answers = (pairs ≡ changes_of answers) × (length pairs ≡ tries)
HasCauseInSteps g tries job outcome answers = HasCause g tries outcome answers

-- an answer of the map or bytes, and of a rebuild that the chunk is there, or that there is none to make
abbrev pub IsAnswer : Outcome → Type 0
IsAnswer (Outcome.Unavailable stripe missing) = ⊥
IsAnswer (Outcome.Contended pairs) = ⊥
IsAnswer (Outcome.Reaped point) = ⊥
IsAnswer Outcome.NoMemory = ⊥
IsAnswer (Outcome.Away downs) = ⊥
IsAnswer outcome = ⊤

-- a call with ample memory that nobody gave up, whose chunks were there, whose servers were not away, and that was not overtaken too often
pub record IsUnhindered (g : Shape) (tries : ℕ) (job : Job) (answers : List Told) : Type 0 where
  pub memory : Tells (λ answer. answer ≡ Told.Short) answers → ⊥
  pub reaped : (point : ℕ) → Tells (λ answer. answer ≡ Told.Reaped point) answers → ⊥
  pub chunks : (stripe : ℕ) (missing : List Lost) → ToldOfLoss g job stripe missing answers → ⊥
  pub target : (downs : ℕ) → job.note.kind ≡ Kind.Rebuild → IsToldAway downs answers → ⊥
  pub tries_left : job.note.kind ≡ Kind.Write → length (changes_of answers) < tries

-- The steps that a rebuild has left fall at each of its steps.
use Rattle.std.proofs.Common.{◌≡◌, ℕ, ◌+◌, ◌-◌, ◌*◌, ◌<◌, List, [], ◌∷◌, ◌++◌, length, refl, sym, subst, arith}
use Rattle.clay_grid.specs.Shape.{Shape, chunk_count}
use Rattle.store_core.specs.Told.{Told, Seen}
use Rattle.store_core.specs.Note.{Note, Kind}
use Rattle.store_core.specs.Act.{Outcome}
use Rattle.store_core.specs.Gathering.{Gathering}
use Rattle.store_core.specs.GatheringParts.{gather_chunk, act_of}
use Rattle.store_core.specs.Rebuild.{placing, installing, confirming, rebuilding, next_rebuild}
use Rattle.store_core.specs.NextAct.{Job}
use Rattle.store_core.specs.Tell.{in_one, cut_chunk, cut_rebuild}
use Rattle.run_laws.specs.AskLaws.{IsAsking}
use Rattle.run_laws.specs.GatheringLeft.{result_left}
use Rattle.run_laws.specs.RebuildLeft.{placing_left, installing_left, confirming_left, rebuilding_left, rebuild_left}
use Rattle.run_laws.specs.Answers.{Answers}
use Rattle.run_laws.proofs.Asks.{chunk_asks}
use Rattle.run_laws.proofs.Grows.{chunk_grows}
use Rattle.run_laws.proofs.Falls.{FallsBy, IsKept, AtCommit, ending_falls, ending_no_commit, done_at_commit, changed_at_commit}
use Rattle.run_laws.proofs.GatheringFalls.{IsPlain, is_plain, result_falls, act_no_commit}

module _ (pins touched : ℕ) where
  placing_falls : (target epoch : ℕ) (told : List Told) (answer : Told) → Answers pins touched (placing target epoch told) answer → placing_left (told ++ answer ∷ []) < placing_left told
  placing_falls target epoch [] Told.Ended h = omega arith
  placing_falls target epoch [] (Told.Reaped point) h = omega arith
  placing_falls target epoch [] answer h = absurd h
  placing_falls target epoch (Told.Ended ∷ told) answer h = absurd h
  placing_falls target epoch (Told.Reaped point ∷ told) answer h = absurd h
  placing_falls target epoch (_ ∷ told) answer h = ending_falls pins touched Outcome.NoMemory told answer h

  installing_falls : (seen : Seen) (target : ℕ) (told : List Told) (answer : Told) → Answers pins touched (installing seen target told) answer
      → installing_left (told ++ answer ∷ []) < installing_left told
  installing_falls seen target [] (Told.Placed epoch) h = omega arith
  installing_falls seen target [] Told.AlreadyThere h = omega arith
  installing_falls seen target [] (Told.Away downs) h = omega arith
  installing_falls seen target [] Told.Short h = omega arith
  installing_falls seen target [] answer h = absurd h
  installing_falls seen target (Told.Placed epoch ∷ told) answer h = placing_falls target epoch told answer h
  installing_falls seen target (Told.AlreadyThere ∷ told) answer h = ending_falls pins touched Outcome.Here told answer h
  installing_falls seen target (Told.Away downs ∷ told) answer h = ending_falls pins touched (Outcome.Away downs) told answer h
  installing_falls seen target (_ ∷ told) answer h = ending_falls pins touched Outcome.NoMemory told answer h

  confirming_falls : (seen : Seen) (target : ℕ) (told : List Told) (answer : Told) → Answers pins touched (confirming seen target told) answer
      → confirming_left (told ++ answer ∷ []) < confirming_left told
  confirming_falls seen target [] Told.Current h = omega arith
  confirming_falls seen target [] (Told.Superseded newer) h = omega arith
  confirming_falls seen target [] (Told.Reaped point) h = omega arith
  confirming_falls seen target [] answer h = absurd h
  confirming_falls seen target (Told.Current ∷ told) answer h = installing_falls seen target told answer h
  confirming_falls seen target (Told.Superseded newer ∷ told) answer h = absurd h
  confirming_falls seen target (Told.Reaped point ∷ told) answer h = absurd h
  confirming_falls seen target (_ ∷ told) answer h = ending_falls pins touched Outcome.NoMemory told answer h

  module _ (g : Shape) (target : ℕ) (below : target < chunk_count g) where
    abbrev chunk_left : Seen → List Told → ℕ
    chunk_left seen told = result_left (3 * chunk_count g - 1) (length told) 3 confirming_left (gather_chunk g seen target told)

    few : (seen : Seen) (told : List Told) → IsAsking (gather_chunk g seen target told) → length told < 3 * chunk_count g - 1
    few seen told h = let asked : length told + 1 < 3 * chunk_count g = chunk_asks g seen target told below h in omega (arith, asked)

    first_answer : (seen : Seen) (answer : Told) → IsPlain answer → rebuilding_left g seen target (answer ∷ []) ≡ chunk_left seen (answer ∷ [])
    first_answer seen Told.Gathered plain = absurd plain
    first_answer seen answer plain = refl

    chunk_falls : (seen : Seen) (told : List Told) (answer : Told) → Answers pins touched (act_of seen.stripe (confirming seen target) (gather_chunk g seen target told)) answer → IsKept answer
        → chunk_left seen (told ++ answer ∷ []) < chunk_left seen told
    chunk_falls seen told answer h kept =
        result_falls pins touched (3 * chunk_count g - 1) 3 confirming_left (omega arith) (omega arith) seen.stripe (confirming seen target)
        (λ told answer h kept. confirming_falls seen target told answer h) told answer
        (gather_chunk g seen target told) (gather_chunk g seen target (told ++ answer ∷ [])) (chunk_grows g seen target told answer) (few seen told) h kept

    rebuilding_falls : (seen : Seen) (told : List Told) (answer : Told) → Answers pins touched (rebuilding g seen target told) answer → IsKept answer
        → rebuilding_left g seen target (told ++ answer ∷ []) < rebuilding_left g seen target told
    rebuilding_falls seen (Told.Gathered ∷ told) answer h kept = confirming_falls seen target told answer h
    rebuilding_falls seen [] answer h kept =
        subst (λ n. n < chunk_left seen []) (sym (first_answer seen answer (is_plain pins touched (rebuilding g seen target []) answer h))) (chunk_falls seen [] answer h kept)
    rebuilding_falls seen told answer h kept = chunk_falls seen told answer h kept

    rebuild_falls : (note : Note) (told : List Told) (answer : Told) → Answers pins touched (next_rebuild g note target told) answer → IsKept answer
        → rebuild_left g target (told ++ answer ∷ []) < rebuild_left g target told
    rebuild_falls note [] (Told.PinnedStripe seen) h kept = omega (arith, below)
    rebuild_falls note [] answer h kept = omega arith
    rebuild_falls note (Told.NoSuch ∷ told) answer h kept = absurd h
    rebuild_falls note (Told.PinnedStripe seen ∷ told) answer h kept = rebuilding_falls seen told answer h kept
    rebuild_falls note (_ ∷ told) answer h kept = absurd h

one_chunk_left : (g : Shape) (seen : Seen) (target : ℕ) (told : List Told) (result : Gathering)
    → rebuilding_left g seen target told ≡ result_left (3 * chunk_count g - 1) (length told) 3 confirming_left result
    → rebuilding_left g seen target (in_one (λ rest. rest) result told) ≡ result_left (3 * chunk_count g - 1) (length told) 3 confirming_left result
one_chunk_left g seen target told (Gathering.Asks server step) e = e
one_chunk_left g seen target told (Gathering.HasBytes since) e = refl
one_chunk_left g seen target told (Gathering.TooMany missing since) e = e
one_chunk_left g seen target told (Gathering.AtTarget since) e = e
one_chunk_left g seen target told (Gathering.TargetAway downs since) e = e
one_chunk_left g seen target told (Gathering.Short since) e = e

chunk_cut_left : (g : Shape) (seen : Seen) (target : ℕ) (told : List Told) → rebuilding_left g seen target (cut_chunk g seen target told) ≡ rebuilding_left g seen target told
chunk_cut_left g seen target (Told.Gathered ∷ told) = refl
chunk_cut_left g seen target told = one_chunk_left g seen target told (gather_chunk g seen target told) refl

pub rebuild_cut_left : (g : Shape) (target : ℕ) (told : List Told) → rebuild_left g target (cut_rebuild g target told) ≡ rebuild_left g target told
rebuild_cut_left g target (Told.PinnedStripe seen ∷ told) = chunk_cut_left g seen target told
rebuild_cut_left g target told = refl

placing_no_commit : (target epoch : ℕ) (told : List Told) → AtCommit (placing target epoch told) → ⊥
placing_no_commit target epoch [] h = h
placing_no_commit target epoch (Told.Ended ∷ told) h = h
placing_no_commit target epoch (Told.Reaped point ∷ told) h = h
placing_no_commit target epoch (_ ∷ told) h = ending_no_commit Outcome.NoMemory told h

installing_no_commit : (seen : Seen) (target : ℕ) (told : List Told) → AtCommit (installing seen target told) → ⊥
installing_no_commit seen target [] h = h
installing_no_commit seen target (Told.Placed epoch ∷ told) h = placing_no_commit target epoch told h
installing_no_commit seen target (Told.AlreadyThere ∷ told) h = ending_no_commit Outcome.Here told h
installing_no_commit seen target (Told.Away downs ∷ told) h = ending_no_commit (Outcome.Away downs) told h
installing_no_commit seen target (_ ∷ told) h = ending_no_commit Outcome.NoMemory told h

confirming_no_commit : (seen : Seen) (target : ℕ) (told : List Told) → AtCommit (confirming seen target told) → ⊥
confirming_no_commit seen target [] h = h
confirming_no_commit seen target (Told.Current ∷ told) h = installing_no_commit seen target told h
confirming_no_commit seen target (Told.Superseded newer ∷ told) h = h
confirming_no_commit seen target (Told.Reaped point ∷ told) h = h
confirming_no_commit seen target (_ ∷ told) h = ending_no_commit Outcome.NoMemory told h

rebuilding_no_commit : (g : Shape) (seen : Seen) (target : ℕ) (told : List Told) → AtCommit (rebuilding g seen target told) → ⊥
rebuilding_no_commit g seen target (Told.Gathered ∷ told) h = confirming_no_commit seen target told h
rebuilding_no_commit g seen target told h = act_no_commit seen.stripe (confirming seen target) (confirming_no_commit seen target) (gather_chunk g seen target told) h

pub rebuild_no_commit : (g : Shape) (note : Note) (target : ℕ) (told : List Told) → AtCommit (next_rebuild g note target told) → ⊥
rebuild_no_commit g note target [] h = h
rebuild_no_commit g note target (Told.NoSuch ∷ told) h = h
rebuild_no_commit g note target (Told.PinnedStripe seen ∷ told) h = rebuilding_no_commit g seen target told h
rebuild_no_commit g note target (_ ∷ told) h = h

pub rebuild_all : (g : Shape) (pins touched tries : ℕ) (job : Job) → job.target < chunk_count g → FallsBy Kind.Rebuild (rebuild_left g job.target) pins touched g tries job
rebuild_all g pins touched tries job below told (Told.Done point) h =
    absurd (rebuild_no_commit g job.note job.target told (done_at_commit pins touched point (next_rebuild g job.note job.target told) h))
rebuild_all g pins touched tries job below told (Told.Changed base newer) h =
    absurd (rebuild_no_commit g job.note job.target told (changed_at_commit pins touched base newer (next_rebuild g job.note job.target told) h))
rebuild_all g pins touched tries job below told answer h =
    subst (λ n. n < rebuild_left g job.target told) (sym (rebuild_cut_left g job.target (told ++ answer ∷ []))) (rebuild_falls pins touched g job.target below job.note told answer h tt)

-- Each answer that fits brings a call of any kind where it may go, and what was told counts its changes.
use Rattle.std.proofs.Common.{◌≡◌, ℕ, suc, ◌+◌, ◌<◌, ◌≤◌, nat_lt, List, [], ◌∷◌, ◌++◌, length, filter, IsTrue, refl, sym, ap, subst, ◌∙◌, arith}
use Rattle.std.proofs.lemmas.Bool.{cond_both}
use Rattle.clay_grid.specs.Shape.{Shape, chunk_count}
use Rattle.store_core.specs.Lists.{places_of}
use Rattle.store_core.specs.Told.{Told}
use Rattle.store_core.specs.Note.{Note, Kind}
use Rattle.store_core.specs.Act.{Act, DirectoryStep, Outcome}
use Rattle.store_core.specs.Put.{settling, committed}
use Rattle.store_core.specs.Write.{trying}
use Rattle.store_core.specs.NextAct.{Job, next_by, next_act}
use Rattle.store_core.specs.Tell.{is_versions, is_changed, cut_by, cut_read, cut_write, cut_rebuild, tell_by, tell}
use Rattle.run_laws.specs.StepLaws.{HasTarget}
use Rattle.run_laws.proofs.Cuts.{cuts_change_no_act}
use Rattle.run_laws.proofs.Phases.{Phase, phase_of, moves, Fits, Moves, put_moves, single_moves}
use Rattle.run_laws.proofs.GatherMoves.{read_moves, trying_moves, rebuild_moves}

-- ---- answers after which the told list only grows
-- an answer that fits, put at the end of what was told
by_kind : (kind : Kind) (g : Shape) (tries : ℕ) (job : Job) → (kind ≡ Kind.Rebuild → job.target < chunk_count g) → (told : List Told) (answer : Told)
    → Moves kind answer (next_by kind g tries job told) (next_by kind g tries job (told ++ answer ∷ []))
by_kind Kind.Put g tries job below told answer = put_moves g job.note told answer
by_kind Kind.Write g tries job below told answer = trying_moves g tries job.note [] told answer
by_kind Kind.Get g tries job below told answer = read_moves Kind.Get tt g job.note told answer
by_kind Kind.ReadAt g tries job below told answer = read_moves Kind.ReadAt tt g job.note told answer
by_kind Kind.Stat g tries job below told answer = single_moves Kind.Stat tt job.note told answer
by_kind Kind.Delete g tries job below told answer = single_moves Kind.Delete tt job.note told answer
by_kind Kind.Rebuild g tries job below told answer = rebuild_moves Kind.Rebuild g job.note job.target (below refl) told answer

-- an answer after which nothing is cut but gatherings
abbrev IsKept : Told → Type 0
IsKept (Told.Done point) = ⊥
IsKept (Told.Changed base newer) = ⊥
IsKept _ = Unit {0}

-- such an answer cuts nothing but gatherings
kept_tell : (kind : Kind) (g : Shape) (job : Job) (told : List Told) (answer : Told) → IsKept answer → tell_by kind g job told answer ≡ cut_by kind g job (told ++ answer ∷ [])
kept_tell kind g job told (Told.Done point) h = absurd h
kept_tell kind g job told (Told.Changed base newer) h = absurd h
kept_tell kind g job told answer h = refl

-- what an act may be answered, a commit's two answers too
abbrev pub IsCommit : Act → Type 0
IsCommit (Act.AtDirectory (DirectoryStep.Commit placed)) = Unit {0}
IsCommit _ = ⊥

-- any answer of the act
abbrev pub FitsAny : Kind → Act → Told → Type 0
FitsAny kind act (Told.Done point) = IsCommit act
FitsAny kind act (Told.Changed base newer) = IsCommit act
FitsAny kind act answer = Fits kind act answer

-- ---- after the commit
abbrev IsOver : Phase → Type 0
IsOver Phase.Settling = Unit {0}
IsOver Phase.Finished = Unit {0}
IsOver _ = ⊥

-- after the commit the call only settles
settling_over : (point : ℕ) (places : List (ℕ × ℕ)) (told : List Told) → IsOver (phase_of (settling point places told))
settling_over point [] told = tt
settling_over point (place ∷ places) [] = tt
settling_over point (place ∷ places) (_ ∷ told) = settling_over point places told

committed_over : (g : Shape) (versions : List ℕ) (told : List Told) → IsOver (phase_of (committed g versions told))
committed_over g versions [] = tt
committed_over g versions (Told.Done point ∷ told) = settling_over point (places_of (chunk_count g) versions) told
committed_over g versions (_ ∷ told) = tt

versions_over : (kind : Kind) (g : Shape) (tries : ℕ) (job : Job) (versions : List ℕ) (told : List Told) → IsOver (phase_of (next_by kind g tries job (Told.Versions versions ∷ told)))
versions_over Kind.Put g tries job versions told = committed_over g versions told
versions_over Kind.Write g tries job versions told = committed_over g versions told
versions_over Kind.Get g tries job versions told = tt
versions_over Kind.ReadAt g tries job versions told = tt
versions_over Kind.Stat g tries job versions told = tt
versions_over Kind.Delete g tries job versions told = tt
versions_over Kind.Rebuild g tries job versions told = tt

done_first : (kind : Kind) (g : Shape) (tries : ℕ) (job : Job) (point : ℕ) → IsOver (phase_of (next_by kind g tries job (Told.Done point ∷ [])))
done_first Kind.Put g tries job point = tt
done_first Kind.Write g tries job point = tt
done_first Kind.Get g tries job point = tt
done_first Kind.ReadAt g tries job point = tt
done_first Kind.Stat g tries job point = tt
done_first Kind.Delete g tries job point = tt
done_first Kind.Rebuild g tries job point = tt

-- so it does after what is kept of the commit
done_over : (kind : Kind) (g : Shape) (tries : ℕ) (job : Job) (told : List Told) (point : ℕ) → IsOver (phase_of (next_by kind g tries job (filter is_versions told ++ Told.Done point ∷ [])))
done_over kind g tries job [] point = done_first kind g tries job point
done_over kind g tries job (Told.Versions versions ∷ told) point = versions_over kind g tries job versions (filter is_versions told ++ Told.Done point ∷ [])
done_over kind g tries job (_ ∷ told) point = done_over kind g tries job told point

done_moves : (point : ℕ) (before : Act) (after : Phase) → IsCommit before → IsOver after → IsTrue (moves (Told.Done point) (phase_of before) after)
done_moves point (Act.AtDirectory (DirectoryStep.Commit placed)) Phase.Settling h over = refl
done_moves point (Act.AtDirectory (DirectoryStep.Commit placed)) Phase.Finished h over = refl
done_moves point (Act.AtDirectory (DirectoryStep.Commit placed)) after h over = absurd over
done_moves point (Act.AtDirectory step) after h over = absurd h
done_moves point (Act.AtServer server step) after h over = absurd h
done_moves point (Act.Finish outcome) after h over = absurd h

-- ---- after a change
abbrev IsAgain : Phase → Type 0
IsAgain Phase.Looking = Unit {0}
IsAgain Phase.Finished = Unit {0}
IsAgain _ = ⊥

-- after a change a write looks again or is over
tries_again : (g : Shape) (tries : ℕ) (note : Note) (pairs : List (ℕ × ℕ)) (told : List Told) (base newer : ℕ)
    → IsAgain (phase_of (trying g tries note pairs (filter is_changed told ++ Told.Changed base newer ∷ [])))
tries_again g tries note pairs [] base newer =
    cond_both {A = Act} (nat_lt (length (pairs ++ (base, newer) ∷ [])) tries) (Act.AtDirectory (DirectoryStep.Look note)) (Act.Finish (Outcome.Contended (pairs ++ (base, newer) ∷ [])))
    (λ act. IsAgain (phase_of act)) (λ _. tt) (λ _. tt)
tries_again g tries note pairs (Told.Changed old new ∷ told) base newer = tries_again g tries note (pairs ++ (old, new) ∷ []) told base newer
tries_again g tries note pairs (_ ∷ told) base newer = tries_again g tries note pairs told base newer

-- a call that is no write knows no change
changed_first : (kind : Kind) (g : Shape) (tries : ℕ) (job : Job) (told : List Told) (base newer old new : ℕ)
    → IsAgain (phase_of (next_by kind g tries job (Told.Changed old new ∷ filter is_changed told ++ Told.Changed base newer ∷ [])))
changed_first Kind.Put g tries job told base newer old new = tt
changed_first Kind.Write g tries job told base newer old new = tries_again g tries job.note ((old, new) ∷ []) told base newer
changed_first Kind.Get g tries job told base newer old new = tt
changed_first Kind.ReadAt g tries job told base newer old new = tt
changed_first Kind.Stat g tries job told base newer old new = tt
changed_first Kind.Delete g tries job told base newer old new = tt
changed_first Kind.Rebuild g tries job told base newer old new = tt

changed_only : (kind : Kind) (g : Shape) (tries : ℕ) (job : Job) (base newer : ℕ) → IsAgain (phase_of (next_by kind g tries job (Told.Changed base newer ∷ [])))
changed_only Kind.Put g tries job base newer = tt
changed_only Kind.Write g tries job base newer = tries_again g tries job.note [] [] base newer
changed_only Kind.Get g tries job base newer = tt
changed_only Kind.ReadAt g tries job base newer = tt
changed_only Kind.Stat g tries job base newer = tt
changed_only Kind.Delete g tries job base newer = tt
changed_only Kind.Rebuild g tries job base newer = tt

-- after a change any call looks again or is over
changed_again : (kind : Kind) (g : Shape) (tries : ℕ) (job : Job) (told : List Told) (base newer : ℕ)
    → IsAgain (phase_of (next_by kind g tries job (filter is_changed told ++ Told.Changed base newer ∷ [])))
changed_again kind g tries job [] base newer = changed_only kind g tries job base newer
changed_again kind g tries job (Told.Changed old new ∷ told) base newer = changed_first kind g tries job told base newer old new
changed_again kind g tries job (_ ∷ told) base newer = changed_again kind g tries job told base newer

changed_moves : (base newer : ℕ) (before : Act) (after : Phase) → IsCommit before → IsAgain after → IsTrue (moves (Told.Changed base newer) (phase_of before) after)
changed_moves base newer (Act.AtDirectory (DirectoryStep.Commit placed)) Phase.Looking h again = refl
changed_moves base newer (Act.AtDirectory (DirectoryStep.Commit placed)) Phase.Finished h again = refl
changed_moves base newer (Act.AtDirectory (DirectoryStep.Commit placed)) after h again = absurd again
changed_moves base newer (Act.AtDirectory step) after h again = absurd h
changed_moves base newer (Act.AtServer server step) after h again = absurd h
changed_moves base newer (Act.Finish outcome) after h again = absurd h

-- ---- any answer
module _ (g : Shape) (tries : ℕ) (job : Job) (target : HasTarget g job) (told : List Told) where
  abbrev MovesTo : Told → List Told → Type 0
  MovesTo answer now = IsTrue (moves answer (phase_of (next_act g tries job told)) (phase_of (next_act g tries job now)))

  kept_moves : (answer : Told) → IsKept answer → Fits job.note.kind (next_act g tries job told) answer → MovesTo answer (tell g job told answer)
  kept_moves answer kept h =
      let grown : List Told = told ++ answer ∷ [] in
      let same : next_act g tries job (cut_by job.note.kind g job grown) ≡ next_act g tries job grown = cuts_change_no_act g tries job grown in
      subst (MovesTo answer) (sym (kept_tell job.note.kind g job told answer kept))
      (subst (λ act. IsTrue (moves answer (phase_of (next_act g tries job told)) (phase_of act))) (sym same) (by_kind job.note.kind g tries job target told answer h))

  -- each answer brings a call of any kind where it may go
  pub call_moves : (answer : Told) → FitsAny job.note.kind (next_act g tries job told) answer → MovesTo answer (tell g job told answer)
  call_moves (Told.Done point) h =
      done_moves point (next_act g tries job told) (phase_of (next_act g tries job (tell g job told (Told.Done point)))) h (done_over job.note.kind g tries job told point)
  call_moves (Told.Changed base newer) h =
      changed_moves base newer (next_act g tries job told) (phase_of (next_act g tries job (tell g job told (Told.Changed base newer)))) h (changed_again job.note.kind g tries job told base newer)
  call_moves answer h = kept_moves answer tt h

-- ---- how many changes a call was told
abbrev pub changes : List Told → ℕ
changes (Told.Changed base newer ∷ told) = suc (changes told)
changes _ = 0

-- a change counts one more; a commit's answer counts no longer; any other leaves the count
abbrev pub CountsChanges : Told → ℕ → ℕ → Type 0
CountsChanges (Told.Changed base newer) before after = before + 1 ≤ after
CountsChanges (Told.Done point) before after = Unit {0}
CountsChanges answer before after = after ≡ before

-- an answer that is no change adds none
changes_push : (told : List Told) (answer : Told) → IsKept answer → changes (told ++ answer ∷ []) ≡ changes told
changes_push [] (Told.Changed base newer) h = absurd h
changes_push [] answer h = refl
changes_push (Told.Changed base newer ∷ told) answer h = ap suc (changes_push told answer h)
changes_push (_ ∷ told) answer h = refl

changes_write : (g : Shape) (told : List Told) → changes (cut_write g told) ≡ changes told
changes_write g [] = refl
changes_write g (Told.Changed base newer ∷ told) = ap suc (changes_write g told)
changes_write g (_ ∷ told) = refl

changes_read : (g : Shape) (note : Note) (told : List Told) → changes (cut_read g note told) ≡ changes told
changes_read g note [] = refl
changes_read g note (Told.Pinned point length_now stripes ∷ told) = refl
changes_read g note (_ ∷ told) = refl

changes_rebuild : (g : Shape) (target : ℕ) (told : List Told) → changes (cut_rebuild g target told) ≡ changes told
changes_rebuild g target [] = refl
changes_rebuild g target (Told.PinnedStripe seen ∷ told) = refl
changes_rebuild g target (_ ∷ told) = refl

-- cuts keep the changes
changes_cut : (kind : Kind) (g : Shape) (job : Job) (told : List Told) → changes (cut_by kind g job told) ≡ changes told
changes_cut Kind.Put g job told = refl
changes_cut Kind.Write g job told = changes_write g told
changes_cut Kind.Get g job told = changes_read g job.note told
changes_cut Kind.ReadAt g job told = changes_read g job.note told
changes_cut Kind.Stat g job told = refl
changes_cut Kind.Delete g job told = refl
changes_cut Kind.Rebuild g job told = changes_rebuild g job.target told

one_change : (told : List Told) (base newer : ℕ) → 1 ≤ changes (filter is_changed told ++ Told.Changed base newer ∷ [])
one_change [] base newer = omega arith
one_change (Told.Changed old new ∷ told) base newer = omega arith
one_change (_ ∷ told) base newer = one_change told base newer

-- a change adds one
more_changes : (told : List Told) (base newer : ℕ) → changes told + 1 ≤ changes (filter is_changed told ++ Told.Changed base newer ∷ [])
more_changes [] base newer = omega arith
more_changes (Told.Changed old new ∷ told) base newer = let rest : changes told + 1 ≤ changes (filter is_changed told ++ Told.Changed base newer ∷ []) = more_changes told base newer in omega (arith, rest)
more_changes (_ ∷ told) base newer = one_change told base newer

kept_changes : (g : Shape) (job : Job) (told : List Told) (answer : Told) → IsKept answer → changes (tell g job told answer) ≡ changes told
kept_changes g job told answer h = ap changes (kept_tell job.note.kind g job told answer h) ∙ changes_cut job.note.kind g job (told ++ answer ∷ []) ∙ changes_push told answer h

-- how the count goes with each answer
pub counts_changes : (g : Shape) (job : Job) (told : List Told) (answer : Told) → CountsChanges answer (changes told) (changes (tell g job told answer))
counts_changes g job told (Told.Changed base newer) = more_changes told base newer
counts_changes g job told (Told.Done point) = tt
counts_changes g job told answer = kept_changes g job told answer tt

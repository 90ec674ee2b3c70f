-- The first two answers to a rebuild: where they are kept, they were told first.
use Rattle.std.proofs.Common.{ℕ, List, [], ◌∷◌, ◌++◌, filter, fold, sym, subst}
use Rattle.std.proofs.lemmas.List.{append_assoc, append-nil}
use Rattle.clay_grid.specs.Shape.{Shape}
use Rattle.store_core.specs.Told.{Told, Seen}
use Rattle.store_core.specs.Note.{Kind}
use Rattle.run_laws.specs.CauseLaws.{TargetHasIt}
use Rattle.store_core.specs.Gathering.{Gathering}
use Rattle.store_core.specs.GatheringParts.{gather_chunk}
use Rattle.store_core.specs.NextAct.{Job}
use Rattle.store_core.specs.Tell.{in_one, cut_chunk, cut_rebuild, cut_by, is_versions, is_changed, tell}

-- more answers leave the first two
module _ (more : List Told) where
  one_first : (seen : Seen) (told : List Told) (result : Gathering)
      → TargetHasIt (Told.PinnedStripe seen ∷ (in_one (λ rest. rest) result told ++ more)) → TargetHasIt (Told.PinnedStripe seen ∷ (told ++ more))
  one_first seen told (Gathering.HasBytes rest) h = absurd h
  one_first seen told result h = h

  chunk_first : (g : Shape) (seen : Seen) (target : ℕ) (told : List Told)
      → TargetHasIt (Told.PinnedStripe seen ∷ (cut_chunk g seen target told ++ more)) → TargetHasIt (Told.PinnedStripe seen ∷ (told ++ more))
  chunk_first g seen target (Told.Gathered ∷ told) h = absurd h
  chunk_first g seen target told h = one_first seen told (gather_chunk g seen target told) h

  rebuild_first : (g : Shape) (target : ℕ) (told : List Told) → TargetHasIt (cut_rebuild g target told ++ more) → TargetHasIt (told ++ more)
  rebuild_first g target (Told.PinnedStripe seen ∷ told) h = chunk_first g seen target told h
  rebuild_first g target told h = h

  cut_first : (kind : Kind) (g : Shape) (job : Job) (told : List Told) → TargetHasIt (cut_by kind g job told ++ more) → TargetHasIt (told ++ more)
  cut_first Kind.Put g job told h = h
  cut_first Kind.Write g job (Told.Changed base newer ∷ told) h = h
  cut_first Kind.Write g job (Told.Ready base length_now stripes ∷ told) h = h
  cut_first Kind.Write g job told h = h
  cut_first Kind.Get g job (Told.Pinned point length_now stripes ∷ told) h = h
  cut_first Kind.Get g job told h = h
  cut_first Kind.ReadAt g job (Told.Pinned point length_now stripes ∷ told) h = h
  cut_first Kind.ReadAt g job told h = h
  cut_first Kind.Stat g job told h = h
  cut_first Kind.Delete g job told h = h
  cut_first Kind.Rebuild g job told h = rebuild_first g job.target told h

  -- after a commit and after a change nothing of a rebuild is kept
  none_kept : (told : List Told) (point : ℕ) → TargetHasIt ((filter is_versions told ++ Told.Done point ∷ []) ++ more) → ⊥
  none_kept [] point h = h
  none_kept (Told.Versions versions ∷ told) point h = h
  none_kept (_ ∷ told) point h = none_kept told point h

  none_changed : (told : List Told) (base newer : ℕ) → TargetHasIt ((filter is_changed told ++ Told.Changed base newer ∷ []) ++ more) → ⊥
  none_changed [] base newer h = h
  none_changed (Told.Changed old new ∷ told) base newer h = h
  none_changed (_ ∷ told) base newer h = none_changed told base newer h

module _ (g : Shape) (job : Job) where
  tell_first : (told : List Told) (answer : Told) (more : List Told) → TargetHasIt (tell g job told answer ++ more) → TargetHasIt (told ++ answer ∷ more)
  tell_first told (Told.Done point) more h = absurd (none_kept more told point h)
  tell_first told (Told.Changed base newer) more h = absurd (none_changed more told base newer h)
  tell_first told answer more h = subst TargetHasIt (append_assoc told (answer ∷ []) more) (cut_first more job.note.kind g job (told ++ answer ∷ []) h)

  -- what is kept of all answers begins so where the answers do
  pub target_first : (told answers : List Told) → TargetHasIt (fold (tell g job) told answers) → TargetHasIt (told ++ answers)
  target_first told [] h = subst TargetHasIt (sym (append-nil told)) h
  target_first told (answer ∷ more) h = tell_first told answer more (target_first (tell g job told answer) more h)

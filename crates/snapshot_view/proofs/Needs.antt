-- What a read needs, by how it has ended and where its gatherings stand.
use Rattle.std.proofs.Common.{◌≡◌, ◌≢◌, ℕ, Bool, true, false, Option, None, Some, is_some, refl, sym, ap, ◌∙◌}
use Rattle.std.proofs.lemmas.Bool.{true≢false}
use Rattle.call_steps.specs.declared.need.Need.{Need}
use Rattle.call_steps.specs.declared.need.Need.TheVariants as need
use Rattle.gather_parts.specs.Progress.{progress_of, is_due_at, need_at, IsOver}
use Rattle.gather_parts.specs.declared.progress.Progress.{Progress}
use Rattle.gather_parts.specs.declared.progress.Progress.TheVariants as progress
use Rattle.snapshot_view.specs.declared.read_outcomes.Ending.{Ending}
use Rattle.snapshot_view.specs.Reads.{ReadOf}
use Rattle.snapshot_view.specs.ReadSteps.{without_directory, need_by, need_of}

abbrev is_coder : Need → Bool
is_coder need.Coder = true
is_coder needed = false

abbrev is_server : Need → Bool
is_server (need.Server n) = true
is_server needed = false

abbrev is_finished : Need → Bool
is_finished need.Finished = true
is_finished needed = false

abbrev server_of : Need → ℕ
server_of (need.Server n) = n
server_of needed = 0

-- a read that asks a server
pub asks_by : (ended : Option Ending) (at : Progress) (n : ℕ) → need_by ended (need_at at) ≡ need.Server n → (ended ≡ None) × (at ≡ progress.Asks n)
asks_by (Some how) at n e = absurd (true≢false (sym (ap is_server e)))
asks_by None (progress.Asks server) n e = (refl, ap (λ needed. progress.Asks (server_of needed)) e)
asks_by None progress.Due n e = absurd (true≢false (sym (ap is_server e)))
asks_by None progress.Done n e = absurd (true≢false (sym (ap is_server e)))
asks_by None progress.TooMany n e = absurd (true≢false (sym (ap is_server e)))
asks_by None progress.Short n e = absurd (true≢false (sym (ap is_server e)))

-- one that needs a coder
pub due_by : (ended : Option Ending) (at : Progress) → need_by ended (need_at at) ≡ need.Coder → (ended ≡ None) × (at ≡ progress.Due)
due_by (Some how) at e = absurd (true≢false (sym (ap is_coder e)))
due_by None (progress.Asks server) e = absurd (true≢false (sym (ap is_coder e)))
due_by None progress.Due e = (refl, refl)
due_by None progress.Done e = absurd (true≢false (sym (ap is_coder e)))
due_by None progress.TooMany e = absurd (true≢false (sym (ap is_coder e)))
due_by None progress.Short e = absurd (true≢false (sym (ap is_coder e)))

-- one that is over by its gatherings
pub over_by : (at : Progress) → need_by None (need_at at) ≡ need.Finished → IsOver at
over_by (progress.Asks server) e = absurd (true≢false (sym (ap is_finished e)))
over_by progress.Due e = absurd (true≢false (sym (ap is_finished e)))
over_by progress.Done e = tt
over_by progress.TooMany e = tt
over_by progress.Short e = tt

-- no coder is needed where none is due
pub not_due : (ended : Option Ending) (at : Progress) → is_due_at at ≡ false → need_by ended (need_at at) ≢ need.Coder
not_due ended at none e = true≢false (sym (ap is_due_at (due_by ended at e).1) ∙ none)

-- what is needed of a read that has ended, and of one that hasn't
pub ended_needs : (r : ReadOf) → is_some r.ended ≡ true → need.Finished ≡ need_of r
ended_needs r ended = by r.ended ended
  where
    by : (ended : Option Ending) → is_some ended ≡ true → need.Finished ≡ need_by ended (need_at (progress_of r.gatherings))
    by None e = absurd (true≢false (sym e))
    by (Some how) e = refl

pub going_needs : (r : ReadOf) → is_some r.ended ≡ false → without_directory (need_at (progress_of r.gatherings)) ≡ need_of r
going_needs r going = by r.ended going
  where
    by : (ended : Option Ending) → is_some ended ≡ false → without_directory (need_at (progress_of r.gatherings)) ≡ need_by ended (need_at (progress_of r.gatherings))
    by None e = refl
    by (Some how) e = absurd (true≢false e)

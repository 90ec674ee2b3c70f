-- A write that is told its answers step by step looks only where it has a try left, and keeps each change that it is told.
use Rattle.std.proofs.Common.{◌≡◌, ℕ, ◌+◌, ◌<◌, ◌≤◌, Bool, true, false, cond, nat_lt, List, [], ◌∷◌, ◌++◌, length, filter, fold, ◌⊎◌, inl, inr, refl, sym, ap, subst, ◌∙◌, arith, length-append}
use Rattle.std.proofs.lemmas.Bool.{ltb-true}
use Rattle.std.proofs.lemmas.List.{append_assoc, append-nil}
use Rattle.clay_grid.specs.Shape.{Shape}
use Rattle.store_core.specs.Told.{Told}
use Rattle.store_core.specs.Note.{Kind}
use Rattle.store_core.specs.Act.{Act, DirectoryStep, Outcome}
use Rattle.store_core.specs.Bounds.{touched_count}
use Rattle.run_laws.specs.CallLeft.{pin_bound}
use Rattle.run_laws.specs.CauseLaws.{changes_of, IsCaused}
use Rattle.store_core.specs.Gathering.{Gathering, Part}
use Rattle.store_core.specs.GatheringParts.{gather_part}
use Rattle.store_core.specs.NextAct.{Job, next_by, next_act}
use Rattle.store_core.specs.Put.{committed}
use Rattle.store_core.specs.Write.{old_parts, trying}
use Rattle.store_core.specs.Tell.{is_versions, is_changed, in_one, cut_parts, cut_write, tell_by, tell}
use Rattle.run_laws.specs.ToldInSteps.{HasStep, IsToldNext, AreToldSince, AreTold, act_after}
use Rattle.run_laws.proofs.Causes.{causes}
use Rattle.run_laws.proofs.Commits.{Commits, trying_commits}
use Rattle.run_laws.proofs.Falls.{AtCommit, done_at_commit, changed_at_commit, committed_no_commit}
use Rattle.run_laws.proofs.Filters.{KeepsMarks, part_keeps}
use Rattle.run_laws.proofs.InSteps.{answer_has_step, tried_then}
use Rattle.run_laws.proofs.StageOutcomes.{ActIsFine, committed_fine, no_rebuild, no_write}

-- ---- the changes among some answers
changes_append : (some more : List Told) → changes_of (some ++ more) ≡ changes_of some ++ changes_of more
changes_append [] more = refl
changes_append (Told.Changed base newer ∷ some) more = ap (λ pairs. (base, newer) ∷ pairs) (changes_append some more)
changes_append (_ ∷ some) more = changes_append some more

changes_filter : (told : List Told) → changes_of (filter is_changed told) ≡ changes_of told
changes_filter [] = refl
changes_filter (Told.Changed base newer ∷ told) = ap (λ pairs. (base, newer) ∷ pairs) (changes_filter told)
changes_filter (_ ∷ told) = changes_filter told

changes_same : (told rest : List Told) → filter is_changed told ≡ filter is_changed rest → changes_of told ≡ changes_of rest
changes_same told rest e = sym (changes_filter told) ∙ ap changes_of e ∙ changes_filter rest

module _ (g : Shape) where
  changes_one : (since : List Told → List Told) → ((told : List Told) → changes_of (since told) ≡ changes_of told) → (told : List Told) (result : Gathering)
      → KeepsMarks told result → changes_of (in_one since result told) ≡ changes_of told
  changes_one since same told (Gathering.Asks server step) keeps = refl
  changes_one since same told (Gathering.HasBytes rest) keeps = same rest ∙ sym (changes_same told rest keeps.1)
  changes_one since same told (Gathering.TooMany missing rest) keeps = refl
  changes_one since same told (Gathering.AtTarget rest) keeps = refl
  changes_one since same told (Gathering.TargetAway downs rest) keeps = refl
  changes_one since same told (Gathering.Short rest) keeps = refl

  changes_parts : (parts : List Part) (told : List Told) → changes_of (cut_parts g parts told) ≡ changes_of told
  changes_parts [] told = refl
  changes_parts (part ∷ parts) (Told.Gathered ∷ told) = changes_parts parts told
  changes_parts (part ∷ parts) told = changes_one (cut_parts g parts) (changes_parts parts) told (gather_part g part told) (part_keeps g part told)

  changes_write : (told : List Told) → changes_of (cut_write g told) ≡ changes_of told
  changes_write (Told.Changed base newer ∷ told) = ap (λ pairs. (base, newer) ∷ pairs) (changes_write told)
  changes_write (Told.Ready base length_now stripes ∷ told) = changes_parts (old_parts g length_now stripes) told
  changes_write told = refl

-- a commit is a step
commit_has_step : (act : Act) → AtCommit act → HasStep act
commit_has_step (Act.AtDirectory step) h = tt
commit_has_step (Act.AtServer server step) h = absurd h
commit_has_step (Act.Finish outcome) h = absurd h

-- ---- the tries of a write
module _ (g : Shape) (tries : ℕ) (job : Job) where
  abbrev now : List Told → Act
  now told = trying g tries job.note [] told

  -- what is kept has these changes, and where the write goes on it has a try left
  record HasTries (pairs : List (ℕ × ℕ)) (told : List Told) : Type 0 where
    changes : changes_of told ≡ pairs
    many : length pairs ≤ tries
    left : HasStep (now told) → length pairs < tries

  -- the write is committed
  abbrev IsCommitted : List Told → Type 0
  IsCommitted (Told.Versions versions ∷ told) = Unit {0}
  IsCommitted _ = ⊥

  abbrev Counts : List (ℕ × ℕ) → List Told → Type 0
  Counts pairs told = IsCommitted told ⊎ HasTries pairs told

  -- ---- a commit
  first_versions : (told : List Told) (point : ℕ) → AtCommit (now told) → IsCommitted (filter is_versions told ++ Told.Done point ∷ [])
  first_versions told point h =
      let facts : Commits told (now told) = trying_commits g tries job.note [] told h in
      subst (λ l. IsCommitted (l ++ Told.Done point ∷ [])) (sym facts.versions) tt

  no_commit_again : (told : List Told) → IsCommitted told → AtCommit (now told) → ⊥
  no_commit_again [] committed h = committed
  no_commit_again (Told.Versions versions ∷ told) committed h = committed_no_commit g versions told h
  no_commit_again (_ ∷ told) committed h = absurd committed

  -- ---- a change
  tried_again : (base newer : ℕ) (told : List Told)
      → now (filter is_changed told ++ Told.Changed base newer ∷ []) ≡ trying g tries job.note (changes_of told ++ (base, newer) ∷ []) []
  tried_again base newer told = ap now (sym (append-nil (filter is_changed told ++ Told.Changed base newer ∷ []))) ∙ tried_then 0 0 g tries job base newer [] [] told

  looks : (b : Bool) (outcome : Outcome) → HasStep (cond b (Act.AtDirectory (DirectoryStep.Look job.note)) (Act.Finish outcome)) → b ≡ true
  looks true outcome h = refl
  looks false outcome h = absurd h

  count_change : (pairs : List (ℕ × ℕ)) (told : List Told) (base newer : ℕ) → AtCommit (now told) → HasTries pairs told
      → HasTries (pairs ++ (base, newer) ∷ []) (filter is_changed told ++ Told.Changed base newer ∷ [])
  count_change pairs told base newer h has =
      let more : List (ℕ × ℕ) = changes_of told ++ (base, newer) ∷ [] in
      let same : changes_of told ++ (base, newer) ∷ [] ≡ pairs ++ (base, newer) ∷ [] = ap (λ l. l ++ (base, newer) ∷ []) has.changes in
      let one : length (pairs ++ (base, newer) ∷ []) ≡ length pairs + 1 = length-append pairs ((base, newer) ∷ []) in
      let few : length pairs < tries = has.left (commit_has_step (now told) h) in
      record {
        changes =
            changes_append (filter is_changed told) (Told.Changed base newer ∷ [])
            ∙ ap (λ l. l ++ (base, newer) ∷ []) (changes_filter told)
            ∙ same;
        many = omega (arith, one, few);
        left = λ step.
            subst (λ l. length l < tries) same
            (ltb-true (length more) tries (looks (nat_lt (length more) tries) (Outcome.Contended more) (subst HasStep (tried_again base newer told) step)));
      }

  -- ---- any other answer
  count_kept : (pairs : List (ℕ × ℕ)) (told : List Told) (answer : Told) → changes_of (answer ∷ []) ≡ [] → HasStep (now told) → HasTries pairs told
      → HasTries (pairs ++ changes_of (answer ∷ [])) (cut_write g (told ++ answer ∷ []))
  count_kept pairs told answer none step has =
      let same : pairs ++ changes_of (answer ∷ []) ≡ pairs = ap (λ l. pairs ++ l) none ∙ append-nil pairs in
      record {
        changes = changes_write g (told ++ answer ∷ []) ∙ changes_append told (answer ∷ []) ∙ ap (λ l. l ++ changes_of (answer ∷ [])) has.changes;
        many = subst (λ l. length l ≤ tries) (sym same) has.many;
        left = λ _. subst (λ l. length l < tries) (sym same) (has.left step);
      }

  committed_on : (told : List Told) (answer : Told) → IsCommitted told → IsCommitted (cut_write g (told ++ answer ∷ []))
  committed_on [] answer h = absurd h
  committed_on (Told.Versions versions ∷ told) answer h = tt
  committed_on (_ ∷ told) answer h = absurd h

  count_plain : (pairs : List (ℕ × ℕ)) (told : List Told) (answer : Told) → changes_of (answer ∷ []) ≡ [] → HasStep (now told) → Counts pairs told
      → Counts (pairs ++ changes_of (answer ∷ [])) (cut_write g (told ++ answer ∷ []))
  count_plain pairs told answer none step (inl h) = inl (committed_on told answer h)
  count_plain pairs told answer none step (inr has) = inr (count_kept pairs told answer none step has)

  count_changed : (pairs : List (ℕ × ℕ)) (told : List Told) (base newer : ℕ) → AtCommit (now told) → Counts pairs told
      → Counts (pairs ++ (base, newer) ∷ []) (filter is_changed told ++ Told.Changed base newer ∷ [])
  count_changed pairs told base newer h (inl committed) = absurd (no_commit_again told committed h)
  count_changed pairs told base newer h (inr has) = inr (count_change pairs told base newer h has)

  module _ (max : ℕ) (write : job.note.kind ≡ Kind.Write) where
    -- ---- one answer
    at_now : (P : Act → Type 0) (told : List Told) → P (next_act g tries job told) → P (now told)
    at_now P told h = subst (λ kind. P (next_by kind g tries job told)) write h

    count_next : (pairs : List (ℕ × ℕ)) (told : List Told) (answer : Told) → IsToldNext g max tries job told answer → Counts pairs told
        → Counts (pairs ++ changes_of (answer ∷ [])) (tell_by Kind.Write g job told answer)
    count_next pairs told (Told.Done point) h counts =
        inl (first_versions told point (at_now AtCommit told (done_at_commit (pin_bound g max job.note) (touched_count g job.note) point (next_act g tries job told) h.0)))
    count_next pairs told (Told.Changed base newer) h counts =
        count_changed pairs told base newer
        (at_now AtCommit told (changed_at_commit (pin_bound g max job.note) (touched_count g job.note) base newer (next_act g tries job told) h.0)) counts
    count_next pairs told Told.Short h counts = count_plain pairs told Told.Short refl (at_now HasStep told h) counts
    count_next pairs told answer h counts =
        count_plain pairs told answer refl
        (at_now HasStep told (answer_has_step (pin_bound g max job.note) (touched_count g job.note) (next_act g tries job told) answer h.0)) counts

    -- ---- all answers
    count_since : (pairs : List (ℕ × ℕ)) (told answers : List Told) → AreToldSince g max tries job told answers → Counts pairs told
        → Counts (pairs ++ changes_of answers) (fold (tell g job) told answers)
    count_since pairs told [] h counts = subst (λ l. Counts l told) (sym (append-nil pairs)) counts
    count_since pairs told (answer ∷ more) h counts =
        subst (λ l. Counts l (fold (tell g job) (tell g job told answer) more))
        (append_assoc pairs (changes_of (answer ∷ [])) (changes_of more) ∙ ap (λ l. pairs ++ l) (sym (changes_append (answer ∷ []) more)))
        (count_since (pairs ++ changes_of (answer ∷ [])) (tell g job told answer) more h.1
        (subst (λ kind. Counts (pairs ++ changes_of (answer ∷ [])) (tell_by kind g job told answer)) (sym write) (count_next pairs told answer h.0 counts)))

    count_first : Counts [] []
    count_first =
        inr (record { changes = refl; many = omega arith; left = λ step. ltb-true 0 tries (looks (nat_lt 0 tries) (Outcome.Contended []) step) })

    -- ---- a write that lost its tries
    not_committed : (told : List Told) (pairs : List (ℕ × ℕ)) → IsCommitted told → now told ≡ Act.Finish (Outcome.Contended pairs) → ⊥
    not_committed [] pairs committed e = committed
    not_committed (Told.Versions versions ∷ told) pairs committed e =
        let fine : ActIsFine Kind.Put 0 0 (Unit {0}) (now (Told.Versions versions ∷ told)) =
        committed_fine Kind.Put 0 0 (Unit {0}) tt (no_rebuild Kind.Put tt) g tt versions told in
        no_write Kind.Put tt (subst (ActIsFine Kind.Put 0 0 (Unit {0})) e fine)
    not_committed (_ ∷ told) pairs committed e = absurd committed

    lost_exactly : (answers told : List Told) (pairs : List (ℕ × ℕ)) → 0 < g.parity_count → next_act g tries job told ≡ Act.Finish (Outcome.Contended pairs)
        → Counts (changes_of answers) told → (pairs ≡ changes_of answers) × (length pairs ≡ tries)
    lost_exactly answers told pairs some e (inl committed) =
        absurd (not_committed told pairs committed (at_now (λ act. act ≡ Act.Finish (Outcome.Contended pairs)) told e))
    lost_exactly answers told pairs some e (inr has) =
        let cause : IsCaused g tries told (Act.Finish (Outcome.Contended pairs)) = subst (IsCaused g tries told) e (causes g tries job told some) in
        let same : pairs ≡ changes_of answers = cause.0 ∙ has.changes in
        let many : tries ≤ length pairs = cause.1 in
        let few : length pairs ≤ tries = subst (λ l. length l ≤ tries) (sym same) has.many in
        (same, omega (arith, many, few))

    pub all_tries_lost : (answers : List Told) (pairs : List (ℕ × ℕ)) → 0 < g.parity_count → AreTold g max tries job answers
        → act_after g tries job answers ≡ Act.Finish (Outcome.Contended pairs) → (pairs ≡ changes_of answers) × (length pairs ≡ tries)
    all_tries_lost answers pairs some h e =
        lost_exactly answers (fold (tell g job) [] answers) pairs some e (count_since [] [] answers h count_first)

-- The steps that a write has left fall at each of its steps.
use Rattle.std.proofs.Common.{◌≡◌, ℕ, ◌+◌, ◌-◌, ◌*◌, ◌<◌, ◌≤◌, max, Bool, true, false, cond, nat_lt, List, [], ◌∷◌, ◌++◌, length, filter, refl, sym, ap, subst, ◌∙◌, arith, length-append, add-mul, one-mul, mul-le-mul_left}
use Rattle.std.proofs.lemmas.Bool.{ltb-true}
use Rattle.std.proofs.lemmas.List.{length-map}
use Rattle.clay_grid.specs.Shape.{Shape, chunk_count}
use Rattle.store_core.specs.Lists.{places_of}
use Rattle.store_core.specs.Told.{Told, Seen}
use Rattle.store_core.specs.Note.{Note, Kind}
use Rattle.store_core.specs.Act.{Act, DirectoryStep, Outcome}
use Rattle.store_core.specs.Gathering.{Gathering, Part}
use Rattle.store_core.specs.GatheringParts.{gather_part, act_of, gathering}
use Rattle.store_core.specs.Put.{drawing}
use Rattle.store_core.specs.Write.{old_part, old_parts, trying}
use Rattle.store_core.specs.NextAct.{Job}
use Rattle.store_core.specs.Tell.{is_versions, is_changed, cut_write}
use Rattle.run_laws.specs.StepsLeft.{settling_left, drawing_left}
use Rattle.run_laws.specs.GatheringLeft.{result_left, gathering_left, try_steps, tries_left, write_left}
use Rattle.run_laws.specs.Answers.{Answers}
use Rattle.run_laws.proofs.Falls.{FallsBy, IsKept, AtCommit, IsDrawn, is_drawn, drawing_falls, committed_falls, committed_no_commit, ending_no_commit, done_at_commit, changed_at_commit, settling_start}
use Rattle.run_laws.proofs.GatheringFalls.{gathering_start, gathering_falls, cut_left}
use Rattle.run_laws.proofs.Filters.{KeepsMarks, part_keeps}

-- ---- the commit after the old bytes
module _ (g : Shape) (note : Note) (tries_after touched : ℕ) where
  abbrev left : List Told → ℕ
  left told = drawing_left g tries_after touched told

  some : 1 ≤ left []
  some = let all : ℕ = chunk_count g * touched in omega arith

  record IsCommitting (told : List Told) (steps : ℕ) : Type 0 where
    drawn : List ℕ
    versions : filter is_versions told ≡ Told.Versions drawn ∷ []
    changed : filter is_changed told ≡ []
    steps_are : steps ≡ max tries_after (length (places_of (chunk_count g) drawn)) + 1

  result_commits : (stripe : ℕ) (parts : List Part) (most after : ℕ) → ((told : List Told) → AtCommit (gathering g parts (drawing g note) told) → IsCommitting told (gathering_left g parts left told))
      → (told : List Told) (result : Gathering) → KeepsMarks told result → AtCommit (act_of stripe (gathering g parts (drawing g note)) result)
      → IsCommitting told (result_left most (length told) after (gathering_left g parts left) result)
  result_commits stripe parts most after later told (Gathering.Asks server step) keeps h = absurd h
  result_commits stripe parts most after later told (Gathering.HasBytes rest) keeps h =
      let facts : IsCommitting rest (gathering_left g parts left rest) = later rest h in
      record { drawn = facts.drawn; versions = keeps.0 ∙ facts.versions; changed = keeps.1 ∙ facts.changed; steps_are = facts.steps_are }
  result_commits stripe parts most after later told (Gathering.TooMany missing rest) keeps h = absurd (ending_no_commit (Outcome.Unavailable stripe missing) rest h)
  result_commits stripe parts most after later told (Gathering.AtTarget rest) keeps h = absurd (ending_no_commit Outcome.Here rest h)
  result_commits stripe parts most after later told (Gathering.TargetAway downs rest) keeps h = absurd (ending_no_commit (Outcome.Away downs) rest h)
  result_commits stripe parts most after later told (Gathering.Short rest) keeps h = absurd (ending_no_commit Outcome.NoMemory rest h)

  gathering_commits : (parts : List Part) (told : List Told) → AtCommit (gathering g parts (drawing g note) told) → IsCommitting told (gathering_left g parts left told)
  gathering_commits [] told h =
      let facts : IsDrawn g note tries_after touched told = is_drawn g note tries_after touched told h in
      record { drawn = facts.drawn; versions = facts.versions; changed = facts.changed; steps_are = facts.left }
  gathering_commits (part ∷ parts) (Told.Gathered ∷ told) h =
      let facts : IsCommitting told (gathering_left g parts left told) = gathering_commits parts told h in
      record { drawn = facts.drawn; versions = facts.versions; changed = facts.changed; steps_are = facts.steps_are }
  gathering_commits (part ∷ parts) told h =
      result_commits part.seen.stripe parts (3 * chunk_count g) (3 * chunk_count g * length parts + left []) (gathering_commits parts) told (gather_part g part told) (part_keeps g part told) h

-- ---- the tries
module _ (g : Shape) (note : Note) (touched : ℕ) where
  one_try_more : (k : ℕ) → (k + 1) * try_steps g touched ≡ k * try_steps g touched + try_steps g touched
  one_try_more k = add-mul k 1 (try_steps g touched) ∙ ap (λ n. k * try_steps g touched + n) (one-mul (try_steps g touched))

  -- a look uses up a try: the old bytes of two stripes, the draw, the prepares and the commit are left of it
  look_leaves : (rest : ℕ) (length_now : ℕ) (stripes : List Seen) → 0 < rest → length stripes ≤ 2
      → gathering_left g (old_parts g length_now stripes) (left g note (tries_left g touched (rest - 1)) touched) [] < tries_left g touched rest
  look_leaves rest length_now stripes some_left few =
      let k : ℕ = rest - 1 in
      let back : rest ≡ k + 1 = omega (arith, some_left) in
      let parts : List Part = old_parts g length_now stripes in
      let begun : gathering_left g parts (left g note (tries_left g touched k) touched) [] ≤ 3 * chunk_count g * length parts + left g note (tries_left g touched k) touched [] =
      gathering_start g (left g note (tries_left g touched k) touched) (some g note (tries_left g touched k) touched) parts in
      let as_many : length parts ≡ length stripes = length-map stripes (old_part g length_now) in
      let two : 3 * chunk_count g * length stripes ≤ 3 * chunk_count g * 2 = mul-le-mul_left (3 * chunk_count g) few in
      let same : 3 * chunk_count g * length parts ≡ 3 * chunk_count g * length stripes = ap (λ n. 3 * chunk_count g * n) as_many in
      let more : rest * try_steps g touched ≡ k * try_steps g touched + try_steps g touched = ap (λ n. n * try_steps g touched) back ∙ one_try_more k in
      let all : ℕ = chunk_count g * touched in
      let old : ℕ = k * try_steps g touched in
      let new : ℕ = rest * try_steps g touched in
      let a : ℕ = 3 * chunk_count g * length parts in
      let b : ℕ = 3 * chunk_count g * length stripes in
      omega (arith, begun, two, same, more)

  some_tries : (rest : ℕ) → 0 < rest → 0 < tries_left g touched rest
  some_tries rest some_left =
      let k : ℕ = rest - 1 in
      let back : rest ≡ k + 1 = omega (arith, some_left) in
      let more : rest * try_steps g touched ≡ k * try_steps g touched + try_steps g touched = ap (λ n. n * try_steps g touched) back ∙ one_try_more k in
      let all : ℕ = chunk_count g * touched in
      let old : ℕ = k * try_steps g touched in
      let new : ℕ = rest * try_steps g touched in
      omega (arith, more)

  module _ (tries : ℕ) where
    look_falls : (pairs : List (ℕ × ℕ)) (answer : Told) (b : Bool) → nat_lt (length pairs) tries ≡ b
        → Answers 2 touched (cond b (Act.AtDirectory (DirectoryStep.Look note)) (Act.Finish (Outcome.Contended pairs))) answer
        → write_left g touched (tries - length pairs) (answer ∷ []) < write_left g touched (tries - length pairs) []
    look_falls pairs answer false e h = absurd h
    look_falls pairs (Told.Ready base length_now stripes) true e h =
        look_leaves (tries - length pairs) length_now stripes (let below : length pairs < tries = ltb-true (length pairs) tries e in omega (arith, below)) h
    look_falls pairs (Told.Changed base newer) true e h = absurd h
    look_falls pairs (Told.Versions versions) true e h = absurd h
    look_falls pairs answer true e h =
        some_tries (tries - length pairs) (let below : length pairs < tries = ltb-true (length pairs) tries e in omega (arith, below))

    next_try : (pairs : List (ℕ × ℕ)) (pair : ℕ × ℕ) → tries - length (pairs ++ pair ∷ []) ≡ tries - length pairs - 1
    next_try pairs pair = let e : length (pairs ++ pair ∷ []) ≡ length pairs + 1 = length-append pairs (pair ∷ []) in omega (arith, e)

    trying_falls : (pairs : List (ℕ × ℕ)) (told : List Told) (answer : Told) → Answers 2 touched (trying g tries note pairs told) answer → IsKept answer
        → write_left g touched (tries - length pairs) (told ++ answer ∷ []) < write_left g touched (tries - length pairs) told
    trying_falls pairs [] answer h kept = look_falls pairs answer (nat_lt (length pairs) tries) refl h
    trying_falls pairs (Told.Changed base newer ∷ told) answer h kept =
        subst (λ n. write_left g touched n (told ++ answer ∷ []) < write_left g touched n told) (next_try pairs (base, newer))
        (trying_falls (pairs ++ (base, newer) ∷ []) told answer h kept)
    trying_falls pairs (Told.Answer point reply ∷ told) answer h kept = absurd h
    trying_falls pairs (Told.Ready base length_now stripes ∷ told) answer h kept =
        let after : ℕ = tries_left g touched (tries - length pairs - 1) in
        gathering_falls g (left g note after touched) (some g note after touched) 2 touched (drawing g note) (λ told answer h kept. drawing_falls 2 touched g note after told answer h kept)
        (old_parts g length_now stripes) told answer h kept
    trying_falls pairs (Told.Versions versions ∷ told) answer h kept = committed_falls 2 touched g versions told answer h
    trying_falls pairs (_ ∷ told) answer h kept = absurd h

    no_look_commits : (pairs : List (ℕ × ℕ)) (b : Bool) → AtCommit (cond b (Act.AtDirectory (DirectoryStep.Look note)) (Act.Finish (Outcome.Contended pairs))) → ⊥
    no_look_commits pairs true h = h
    no_look_commits pairs false h = h

    write_done : (pairs : List (ℕ × ℕ)) (told : List Told) (any rest point : ℕ) → AtCommit (trying g tries note pairs told)
        → write_left g touched any (filter is_versions told ++ Told.Done point ∷ []) < write_left g touched rest told
    write_done pairs [] any rest point h = absurd (no_look_commits pairs (nat_lt (length pairs) tries) h)
    write_done pairs (Told.Changed base newer ∷ told) any rest point h = write_done (pairs ++ (base, newer) ∷ []) told any (rest - 1) point h
    write_done pairs (Told.Answer at reply ∷ told) any rest point h = absurd h
    write_done pairs (Told.Ready base length_now stripes ∷ told) any rest point h =
        let after : ℕ = tries_left g touched (rest - 1) in
        let now : ℕ = gathering_left g (old_parts g length_now stripes) (left g note after touched) told in
        let facts : IsCommitting g note after touched told now = gathering_commits g note after touched (old_parts g length_now stripes) told h in
        let places : List (ℕ × ℕ) = places_of (chunk_count g) facts.drawn in
        let begun : settling_left places [] ≡ length places = settling_start places in
        subst (λ l. write_left g touched any (l ++ Told.Done point ∷ []) < now) (sym facts.versions)
        (subst (λ n. settling_left places [] < n) (sym facts.steps_are) (omega (arith, begun)))
    write_done pairs (Told.Versions versions ∷ told) any rest point h = absurd (committed_no_commit g versions told h)
    write_done pairs (_ ∷ told) any rest point h = absurd h

    write_changed : (pairs : List (ℕ × ℕ)) (told : List Told) (rest base newer : ℕ) → AtCommit (trying g tries note pairs told)
        → write_left g touched rest (filter is_changed told ++ Told.Changed base newer ∷ []) < write_left g touched rest told
    write_changed pairs [] rest base newer h = absurd (no_look_commits pairs (nat_lt (length pairs) tries) h)
    write_changed pairs (Told.Changed old new ∷ told) rest base newer h = write_changed (pairs ++ (old, new) ∷ []) told (rest - 1) base newer h
    write_changed pairs (Told.Answer at reply ∷ told) rest base newer h = absurd h
    write_changed pairs (Told.Ready at length_now stripes ∷ told) rest base newer h =
        let after : ℕ = tries_left g touched (rest - 1) in
        let now : ℕ = gathering_left g (old_parts g length_now stripes) (left g note after touched) told in
        let facts : IsCommitting g note after touched told now = gathering_commits g note after touched (old_parts g length_now stripes) told h in
        let places : List (ℕ × ℕ) = places_of (chunk_count g) facts.drawn in
        subst (λ l. write_left g touched rest (l ++ Told.Changed base newer ∷ []) < now) (sym facts.changed)
        (subst (λ n. after < n) (sym facts.steps_are) (omega arith))
    write_changed pairs (Told.Versions versions ∷ told) rest base newer h = absurd (committed_no_commit g versions told h)
    write_changed pairs (_ ∷ told) rest base newer h = absurd h

  pub write_cut_left : (rest : ℕ) (told : List Told) → write_left g touched rest (cut_write g told) ≡ write_left g touched rest told
  write_cut_left rest (Told.Changed base newer ∷ told) = write_cut_left (rest - 1) told
  write_cut_left rest (Told.Ready base length_now stripes ∷ told) =
      cut_left g (left g note (tries_left g touched (rest - 1)) touched) (some g note (tries_left g touched (rest - 1)) touched) (old_parts g length_now stripes) told
  write_cut_left rest told = refl

whole : (tries : ℕ) → tries - 0 ≡ tries
whole tries = omega arith

pub write_all : (g : Shape) (touched tries : ℕ) (job : Job) → FallsBy Kind.Write (write_left g touched tries) 2 touched g tries job
write_all g touched tries job told (Told.Done point) h =
    write_done g job.note touched tries [] told tries tries point (done_at_commit 2 touched point (trying g tries job.note [] told) h)
write_all g touched tries job told (Told.Changed base newer) h =
    write_changed g job.note touched tries [] told tries base newer (changed_at_commit 2 touched base newer (trying g tries job.note [] told) h)
write_all g touched tries job told answer h =
    subst (λ n. n < write_left g touched tries told) (sym (write_cut_left g job.note touched tries (told ++ answer ∷ [])))
    (subst (λ n. write_left g touched n (told ++ answer ∷ []) < write_left g touched n told) (whole tries) (trying_falls g job.note touched tries [] told answer h tt))

-- The steps that a call has left fall at each of its steps.
use Rattle.std.proofs.Common.{◌≡◌, ℕ, suc, ◌+◌, ◌*◌, ◌<◌, ◌≤◌, max, List, [], ◌∷◌, ◌++◌, length, filter, refl, sym, ap, subst, ◌∙◌, arith, mul_comm, two-mul, add-mul, mul-le-mul_right, ◌/◌, nat_lt, map, length-append}
use Rattle.std.specs.List.{range_with_len}
use Rattle.store_core.specs.Placements.{skipped_from, skipped_count}
use Rattle.std.proofs.lemmas.Bool.{cond_both}
use Rattle.std.proofs.lemmas.List.FromFn.{length-range_with_len}
use Rattle.clay_grid.specs.Shape.{Shape, chunk_count, stripe_length}
use Rattle.store_map.specs.declared.placement.Placement.{Placement}
use Rattle.store_core.specs.Lists.{places_of}
use Rattle.store_core.specs.Told.{Told}
use Rattle.store_core.specs.Note.{Note, Kind}
use Rattle.store_core.specs.Act.{Act, DirectoryStep, ServerStep, Outcome}
use Rattle.store_core.specs.GatheringParts.{ending}
use Rattle.store_core.specs.Put.{settling, committed, committing, preparing, preparing_all, drawing, next_put}
use Rattle.store_core.specs.Read.{next_single}
use Rattle.store_core.specs.NextAct.{Job, next_by}
use Rattle.store_core.specs.Tell.{is_versions, is_changed, tell_by}
use Rattle.run_laws.specs.StepsLeft.{ending_left, settling_left, committed_left, committing_left, preparing_left, drawing_left, put_left, single_left}
use Rattle.run_laws.specs.Answers.{DirectoryAnswers, ServerAnswers, Answers}
use Rattle.run_laws.proofs.Asks.{count_places}

-- each answer to a call of this kind leaves fewer steps
abbrev pub FallsBy : Kind → (List Told → ℕ) → ℕ → ℕ → Shape → ℕ → Job → Type 0
FallsBy kind left pins touched g tries job =
    (told : List Told) (answer : Told) → Answers pins touched (next_by kind g tries job told) answer → left (tell_by kind g job told answer) < left told

-- an answer after which nothing is cut but gatherings
abbrev pub IsKept : Told → Type 0
IsKept (Told.Done point) = ⊥
IsKept (Told.Changed base newer) = ⊥
IsKept _ = Unit {0}

abbrev pub AtCommit : Act → Type 0
AtCommit (Act.AtDirectory (DirectoryStep.Commit placed)) = Unit {0}
AtCommit _ = ⊥

pub settling_start : (places : List (ℕ × ℕ)) → settling_left places [] ≡ length places
settling_start [] = refl
settling_start (place ∷ places) = refl

preparing_start : (after : ℕ) (places : List (ℕ × ℕ)) → preparing_left after places [] ≡ length places + after + 1
preparing_start after [] = omega arith
preparing_start after (place ∷ places) = refl

places_most : (n touched : ℕ) (versions : List ℕ) → length versions ≤ touched → length (places_of n versions) ≤ n * touched
places_most n touched versions h =
    let counted : length (places_of n versions) ≡ length versions * n = count_places n versions in
    let most : length versions * n ≤ touched * n = mul-le-mul_right n h in
    let turned : touched * n ≡ n * touched = mul_comm touched n in
    subst (λ x. x ≤ n * touched) (sym counted) (subst (λ x. length versions * n ≤ x) turned most)

module _ (pins touched : ℕ) where
  -- ---- the stages
  pub ending_falls : (outcome : Outcome) (told : List Told) (answer : Told) → Answers pins touched (ending outcome told) answer → ending_left (told ++ answer ∷ []) < ending_left told
  ending_falls outcome [] Told.Ended h = omega arith
  ending_falls outcome [] (Told.Reaped point) h = omega arith
  ending_falls outcome [] answer h = absurd h
  ending_falls outcome (Told.Ended ∷ told) answer h = absurd h
  ending_falls outcome (Told.Reaped point ∷ told) answer h = absurd h
  ending_falls outcome (_ ∷ told) answer h = ending_falls Outcome.NoMemory told answer h

  pub settling_falls : (point : ℕ) (places : List (ℕ × ℕ)) (told : List Told) (answer : Told) → Answers pins touched (settling point places told) answer
      → settling_left places (told ++ answer ∷ []) < settling_left places told
  settling_falls point [] told answer h = absurd h
  settling_falls point (place ∷ places) [] Told.Settled h = let e : settling_left places [] ≡ length places = settling_start places in omega (arith, e)
  settling_falls point (place ∷ places) [] answer h = absurd h
  settling_falls point (place ∷ places) (_ ∷ told) answer h = settling_falls point places told answer h

  pub committed_falls : (g : Shape) (versions : List ℕ) (told : List Told) (answer : Told) → Answers pins touched (committed g versions told) answer
      → committed_left g versions (told ++ answer ∷ []) < committed_left g versions told
  committed_falls g versions (Told.Done point ∷ told) answer h = settling_falls point (places_of (chunk_count g) versions) told answer h
  committed_falls g versions [] answer h = absurd h
  committed_falls g versions (_ ∷ told) answer h = absurd h

  committing_falls : (after : ℕ) (placed : List (List Placement)) (told : List Told) (answer : Told) → Answers pins touched (committing placed told) answer → IsKept answer
      → committing_left after (told ++ answer ∷ []) < committing_left after told
  committing_falls after placed [] (Told.Reaped point) h kept = omega arith
  committing_falls after placed [] (Told.Done point) h kept = absurd kept
  committing_falls after placed [] (Told.Changed base newer) h kept = absurd kept
  committing_falls after placed [] answer h kept = absurd h
  committing_falls after placed (Told.Reaped point ∷ told) answer h kept = absurd h
  committing_falls after placed (_ ∷ told) answer h kept = ending_falls Outcome.NoMemory told answer h

  -- the end of a call that found too many servers away, by the places that it has left out
  ending_prepares : (after : ℕ) (outcome : Outcome) (places : List (ℕ × ℕ)) (told : List Told) (answer : Told) → 0 < after → Answers pins touched (ending outcome told) answer
      → preparing_left after places (told ++ answer ∷ []) < preparing_left after places told
  ending_prepares after outcome [] [] Told.Ended some h = omega (arith, some)
  ending_prepares after outcome [] [] (Told.Reaped point) some h = omega arith
  ending_prepares after outcome [] [] answer some h = absurd h
  ending_prepares after outcome (place ∷ places) [] Told.Ended some h = omega arith
  ending_prepares after outcome (place ∷ places) [] (Told.Reaped point) some h = omega arith
  ending_prepares after outcome (place ∷ places) [] answer some h = absurd h
  ending_prepares after outcome places (Told.Ended ∷ told) answer some h = absurd h
  ending_prepares after outcome places (Told.Reaped point ∷ told) answer some h = absurd h
  ending_prepares after outcome (place ∷ places) (Told.Prepared last ∷ told) answer some h = ending_prepares after Outcome.NoMemory places told answer some h
  ending_prepares after outcome [] (_ ∷ told) answer some h = ending_falls Outcome.NoMemory told answer h
  ending_prepares after outcome (place ∷ places) (_ ∷ told) answer some h = ending_falls Outcome.NoMemory told answer h

  preparing_falls : (after : ℕ) (g : Shape) (stripe version : ℕ) (next : List Placement → List Told → Act) (rest : List (ℕ × ℕ))
      → ((row : List Placement) (told : List Told) (answer : Told) → Answers pins touched (next row told) answer → IsKept answer
      → preparing_left after rest (told ++ answer ∷ []) < preparing_left after rest told)
      → (servers : List ℕ) → (0 < length servers → 0 < after) → (row : List Placement) (told : List Told) (answer : Told)
      → Answers pins touched (preparing g stripe version next servers row told) answer → IsKept answer
      → preparing_left after (map (λ server. (server, version)) servers ++ rest) (told ++ answer ∷ []) < preparing_left after (map (λ server. (server, version)) servers ++ rest) told
  preparing_falls after g stripe version next rest falls [] some row told answer h kept = falls row told answer h kept
  preparing_falls after g stripe version next rest falls (server ∷ servers) some row [] (Told.Prepared last) h kept =
      let left : List (ℕ × ℕ) = map (λ server. (server, version)) servers ++ rest in
      let e : preparing_left after left [] ≡ length left + after + 1 = preparing_start after left in omega (arith, e)
  preparing_falls after g stripe version next rest falls (server ∷ servers) some row [] Told.Short h kept = omega arith
  preparing_falls after g stripe version next rest falls (server ∷ servers) some row [] answer h kept = absurd h
  preparing_falls after g stripe version next rest falls (server ∷ servers) some row (Told.Prepared last ∷ told) answer h kept =
      let now : List Placement = row ++ last ∷ [] in
      let outcome : Outcome = Outcome.Unavailable stripe (skipped_from 0 now) in
      let left : List (ℕ × ℕ) = map (λ server. (server, version)) servers ++ rest in
      cond_both {A = Act} (nat_lt g.parity_count (skipped_count now)) (ending outcome told) (preparing g stripe version next servers now told)
      (λ act. Answers pins touched act answer → preparing_left after left (told ++ answer ∷ []) < preparing_left after left told)
      (λ _ k. ending_prepares after outcome left told answer (some (omega arith)) k)
      (λ _ k. preparing_falls after g stripe version next rest falls servers (λ _. some (omega arith)) now told answer k kept) h
  preparing_falls after g stripe version next rest falls (server ∷ servers) some row (_ ∷ told) answer h kept = ending_falls Outcome.NoMemory told answer h

  preparing_all_falls : (after : ℕ) (g : Shape) (stripe : ℕ) (versions : List ℕ) → length versions * chunk_count g ≤ after → (placed : List (List Placement)) (told : List Told) (answer : Told)
      → Answers pins touched (preparing_all g stripe versions placed told) answer → IsKept answer
      → preparing_left after (places_of (chunk_count g) versions) (told ++ answer ∷ []) < preparing_left after (places_of (chunk_count g) versions) told
  preparing_all_falls after g stripe [] few placed told answer h kept = committing_falls after placed told answer h kept
  preparing_all_falls after g stripe (version ∷ versions) few placed told answer h kept =
      let n : ℕ = chunk_count g in
      let same : length (range_with_len 0 n) ≡ n = length-range_with_len 0 n in
      let more : suc (length versions) * n ≡ length versions * n + n = omega arith in
      let all : suc (length versions) * n ≤ after = few in
      let some : 0 < length (range_with_len 0 n) → 0 < after = λ there. omega (arith, there, same, more, all) in
      preparing_falls after g stripe version (λ row. preparing_all g (stripe + 1) versions (placed ++ row ∷ [])) (places_of n versions)
      (λ row. preparing_all_falls after g (stripe + 1) versions (omega (arith, more, all)) (placed ++ row ∷ [])) (range_with_len 0 n) some [] told answer h kept

  pub drawing_falls : (g : Shape) (note : Note) (tries_after : ℕ) (told : List Told) (answer : Told) → Answers pins touched (drawing g note told) answer → IsKept answer
      → drawing_left g tries_after touched (told ++ answer ∷ []) < drawing_left g tries_after touched told
  drawing_falls g note tries_after [] (Told.Versions versions) h kept =
      let places : List (ℕ × ℕ) = places_of (chunk_count g) versions in
      let most : length places ≤ chunk_count g * touched = places_most (chunk_count g) touched versions h in
      let start : preparing_left (max tries_after (length places)) places [] ≡ length places + max tries_after (length places) + 1 =
      preparing_start (max tries_after (length places)) places in
      let all : ℕ = chunk_count g * touched in
      omega (arith, most, start)
  drawing_falls g note tries_after [] (Told.Reaped point) h kept = let all : ℕ = chunk_count g * touched in omega arith
  drawing_falls g note tries_after [] Told.Short h kept = let all : ℕ = chunk_count g * touched in omega arith
  drawing_falls g note tries_after [] answer h kept = absurd h
  drawing_falls g note tries_after (Told.Versions versions ∷ told) answer h kept =
      let places : List (ℕ × ℕ) = places_of (chunk_count g) versions in
      let count : length places ≡ length versions * chunk_count g = count_places (chunk_count g) versions in
      let few : length versions * chunk_count g ≤ max tries_after (length places) = omega (arith, count) in
      preparing_all_falls (max tries_after (length places)) g (note.offset / stripe_length g) versions few [] told answer h kept
  drawing_falls g note tries_after (Told.Reaped point ∷ told) answer h kept = absurd h
  drawing_falls g note tries_after (_ ∷ told) answer h kept = ending_falls Outcome.NoMemory told answer h

  -- ---- the commit
  step_at_commit : (point : ℕ) (step : DirectoryStep) → DirectoryAnswers pins touched step (Told.Done point) → AtCommit (Act.AtDirectory step)
  step_at_commit point (DirectoryStep.Commit placed) h = tt
  step_at_commit point step h = absurd h

  no_server_commits : (point : ℕ) (step : ServerStep) → ServerAnswers step (Told.Done point) → ⊥
  no_server_commits point (ServerStep.Prepare version) h = absurd h
  no_server_commits point step h = absurd h

  pub done_at_commit : (point : ℕ) (act : Act) → Answers pins touched act (Told.Done point) → AtCommit act
  done_at_commit point (Act.AtDirectory step) h = step_at_commit point step h
  done_at_commit point (Act.AtServer server step) h = absurd (no_server_commits point step h)
  done_at_commit point (Act.Finish outcome) h = absurd h

  step_at_change : (base newer : ℕ) (step : DirectoryStep) → DirectoryAnswers pins touched step (Told.Changed base newer) → AtCommit (Act.AtDirectory step)
  step_at_change base newer (DirectoryStep.Commit placed) h = tt
  step_at_change base newer step h = absurd h

  no_server_changes : (base newer : ℕ) (step : ServerStep) → ServerAnswers step (Told.Changed base newer) → ⊥
  no_server_changes base newer (ServerStep.Prepare version) h = absurd h
  no_server_changes base newer step h = absurd h

  pub changed_at_commit : (base newer : ℕ) (act : Act) → Answers pins touched act (Told.Changed base newer) → AtCommit act
  changed_at_commit base newer (Act.AtDirectory step) h = step_at_change base newer step h
  changed_at_commit base newer (Act.AtServer server step) h = absurd (no_server_changes base newer step h)
  changed_at_commit base newer (Act.Finish outcome) h = absurd h

pub ending_no_commit : (outcome : Outcome) (told : List Told) → AtCommit (ending outcome told) → ⊥
ending_no_commit outcome [] h = h
ending_no_commit outcome (Told.Ended ∷ told) h = h
ending_no_commit outcome (Told.Reaped point ∷ told) h = h
ending_no_commit outcome (_ ∷ told) h = ending_no_commit Outcome.NoMemory told h

pub settling_no_commit : (point : ℕ) (places : List (ℕ × ℕ)) (told : List Told) → AtCommit (settling point places told) → ⊥
settling_no_commit point [] told h = h
settling_no_commit point (place ∷ places) [] h = h
settling_no_commit point (place ∷ places) (_ ∷ told) h = settling_no_commit point places told h

pub committed_no_commit : (g : Shape) (versions : List ℕ) (told : List Told) → AtCommit (committed g versions told) → ⊥
committed_no_commit g versions (Told.Done point ∷ told) h = settling_no_commit point (places_of (chunk_count g) versions) told h
committed_no_commit g versions [] h = h
committed_no_commit g versions (_ ∷ told) h = h

-- ---- how many rows of placed epochs go with the commit
abbrev pub CommitsRows : ℕ → Act → Type 0
CommitsRows count (Act.AtDirectory (DirectoryStep.Commit placed)) = length placed ≡ count
CommitsRows count _ = Unit {0}

ending_rows : (count : ℕ) (outcome : Outcome) (told : List Told) → CommitsRows count (ending outcome told)
ending_rows count outcome [] = tt
ending_rows count outcome (Told.Ended ∷ told) = tt
ending_rows count outcome (Told.Reaped point ∷ told) = tt
ending_rows count outcome (_ ∷ told) = ending_rows count Outcome.NoMemory told

preparing_rows : (count : ℕ) (g : Shape) (stripe version : ℕ) (next : List Placement → List Told → Act) → ((row : List Placement) (told : List Told) → CommitsRows count (next row told))
    → (servers : List ℕ) (row : List Placement) (told : List Told) → CommitsRows count (preparing g stripe version next servers row told)
preparing_rows count g stripe version next rows [] row told = rows row told
preparing_rows count g stripe version next rows (server ∷ servers) row [] = tt
preparing_rows count g stripe version next rows (server ∷ servers) row (Told.Prepared last ∷ told) =
    let now : List Placement = row ++ last ∷ [] in
    let outcome : Outcome = Outcome.Unavailable stripe (skipped_from 0 now) in
    cond_both {A = Act} (nat_lt g.parity_count (skipped_count now)) (ending outcome told) (preparing g stripe version next servers now told) (CommitsRows count)
    (λ _. ending_rows count outcome told) (λ _. preparing_rows count g stripe version next rows servers now told)
preparing_rows count g stripe version next rows (server ∷ servers) row (_ ∷ told) = ending_rows count Outcome.NoMemory told

preparing_all_rows : (count : ℕ) (g : Shape) (stripe : ℕ) (versions : List ℕ) (placed : List (List Placement)) → length placed + length versions ≡ count
    → (told : List Told) → CommitsRows count (preparing_all g stripe versions placed told)
preparing_all_rows count g stripe [] placed same [] = omega (arith, same)
preparing_all_rows count g stripe [] placed same (Told.Reaped point ∷ told) = tt
preparing_all_rows count g stripe [] placed same (_ ∷ told) = ending_rows count Outcome.NoMemory told
preparing_all_rows count g stripe (version ∷ versions) placed same told =
    preparing_rows count g stripe version (λ row. preparing_all g (stripe + 1) versions (placed ++ row ∷ []))
    (λ row. preparing_all_rows count g (stripe + 1) versions (placed ++ row ∷ []) (let one : length (placed ++ row ∷ []) ≡ length placed + 1 = length-append placed (row ∷ []) in omega (arith, same, one)))
    (range_with_len 0 (chunk_count g)) [] told

record AllPrepared (after : ℕ) (places : List (ℕ × ℕ)) (told : List Told) : Type 0 where
  versions : filter is_versions told ≡ []
  changed : filter is_changed told ≡ []
  left : preparing_left after places told ≡ after + 1

abbrev AreAllPrepared : ℕ → List (ℕ × ℕ) → (List Told → Act) → Type 0
AreAllPrepared after places next = (told : List Told) → AtCommit (next told) → AllPrepared after places told

prepared_one : (after : ℕ) (g : Shape) (stripe version : ℕ) (next : List Placement → List Told → Act) (rest : List (ℕ × ℕ)) → ((row : List Placement) → AreAllPrepared after rest (next row))
    → (servers : List ℕ) (row : List Placement) → AreAllPrepared after (map (λ server. (server, version)) servers ++ rest) (preparing g stripe version next servers row)
prepared_one after g stripe version next rest later [] row told h = later row told h
prepared_one after g stripe version next rest later (server ∷ servers) row [] h = absurd h
prepared_one after g stripe version next rest later (server ∷ servers) row (Told.Prepared last ∷ told) h =
    let now : List Placement = row ++ last ∷ [] in
    let outcome : Outcome = Outcome.Unavailable stripe (skipped_from 0 now) in
    let left : List (ℕ × ℕ) = map (λ server. (server, version)) servers ++ rest in
    let facts : AllPrepared after left told =
    cond_both {A = Act} (nat_lt g.parity_count (skipped_count now)) (ending outcome told) (preparing g stripe version next servers now told) (λ act. AtCommit act → AllPrepared after left told)
    (λ _ k. absurd (ending_no_commit outcome told k)) (λ _. prepared_one after g stripe version next rest later servers now told) h in
    record { versions = facts.versions; changed = facts.changed; left = facts.left }
prepared_one after g stripe version next rest later (server ∷ servers) row (_ ∷ told) h = absurd (ending_no_commit Outcome.NoMemory told h)

all_prepared : (after : ℕ) (g : Shape) (stripe : ℕ) (versions : List ℕ) (placed : List (List Placement))
    → AreAllPrepared after (places_of (chunk_count g) versions) (preparing_all g stripe versions placed)
all_prepared after g stripe [] placed [] h = record { versions = refl; changed = refl; left = refl }
all_prepared after g stripe [] placed (Told.Reaped point ∷ told) h = absurd h
all_prepared after g stripe [] placed (_ ∷ told) h = absurd (ending_no_commit Outcome.NoMemory told h)
all_prepared after g stripe (version ∷ versions) placed told h =
    prepared_one after g stripe version (λ row. preparing_all g (stripe + 1) versions (placed ++ row ∷ [])) (places_of (chunk_count g) versions)
    (λ row. all_prepared after g (stripe + 1) versions (placed ++ row ∷ [])) (range_with_len 0 (chunk_count g)) [] told h

pub record IsDrawn (g : Shape) (note : Note) (tries_after touched : ℕ) (told : List Told) : Type 0 where
  pub drawn : List ℕ
  pub versions : filter is_versions told ≡ Told.Versions drawn ∷ []
  pub changed : filter is_changed told ≡ []
  pub left : drawing_left g tries_after touched told ≡ max tries_after (length (places_of (chunk_count g) drawn)) + 1
  pub rows : CommitsRows (length drawn) (drawing g note told)

pub is_drawn : (g : Shape) (note : Note) (tries_after touched : ℕ) (told : List Told) → AtCommit (drawing g note told) → IsDrawn g note tries_after touched told
is_drawn g note tries_after touched [] h = absurd h
is_drawn g note tries_after touched (Told.Versions drawn ∷ told) h =
    let after : ℕ = max tries_after (length (places_of (chunk_count g) drawn)) in
    let rest : AllPrepared after (places_of (chunk_count g) drawn) told = all_prepared after g (note.offset / stripe_length g) drawn [] told h in
    record {
      drawn = drawn;
      versions = ap (λ l. Told.Versions drawn ∷ l) rest.versions;
      changed = rest.changed;
      left = rest.left;
      rows = preparing_all_rows (length drawn) g (note.offset / stripe_length g) drawn [] (omega arith) told;
    }
is_drawn g note tries_after touched (Told.Reaped point ∷ told) h = absurd h
is_drawn g note tries_after touched (_ ∷ told) h = absurd (ending_no_commit Outcome.NoMemory told h)

-- ---- a put
module _ (g : Shape) (pins touched : ℕ) where
  twice : 2 * chunk_count g * touched ≡ chunk_count g * touched + chunk_count g * touched
  twice = ap (λ x. x * touched) (two-mul (chunk_count g)) ∙ add-mul (chunk_count g) (chunk_count g) touched

  put_falls : (note : Note) (told : List Told) (answer : Told) → Answers pins touched (next_put g note told) answer → IsKept answer
      → put_left g touched (told ++ answer ∷ []) < put_left g touched told
  put_falls note [] (Told.Ready base length_now stripes) h kept =
      let all : ℕ = chunk_count g * touched in
      let e : 2 * chunk_count g * touched ≡ chunk_count g * touched + chunk_count g * touched = twice in
      omega (arith, e)
  put_falls note [] (Told.Versions versions) h kept = absurd h
  put_falls note [] answer h kept = let all : ℕ = 2 * chunk_count g * touched in omega arith
  put_falls note (Told.Answer point reply ∷ told) answer h kept = absurd h
  put_falls note (Told.Ready base length_now stripes ∷ told) answer h kept = drawing_falls pins touched g note 0 told answer h kept
  put_falls note (Told.Versions versions ∷ told) answer h kept = committed_falls pins touched g versions told answer h
  put_falls note (_ ∷ told) answer h kept = absurd h

  put_done : (note : Note) (told : List Told) (point : ℕ) → AtCommit (next_put g note told)
      → put_left g touched (filter is_versions told ++ Told.Done point ∷ []) < put_left g touched told
  put_done note [] point h = absurd h
  put_done note (Told.Answer at reply ∷ told) point h = absurd h
  put_done note (Told.Ready base length_now stripes ∷ told) point h =
      let facts : IsDrawn g note 0 touched told = is_drawn g note 0 touched told h in
      let places : List (ℕ × ℕ) = places_of (chunk_count g) facts.drawn in
      let start : settling_left places [] ≡ length places = settling_start places in
      subst (λ l. put_left g touched (l ++ Told.Done point ∷ []) < drawing_left g 0 touched told) (sym facts.versions)
      (subst (λ n. settling_left places [] < n) (sym facts.left) (omega (arith, start)))
  put_done note (Told.Versions versions ∷ told) point h = absurd (committed_no_commit g versions told h)
  put_done note (_ ∷ told) point h = absurd h

  put_changed : (note : Note) (told : List Told) (base newer : ℕ) → AtCommit (next_put g note told)
      → put_left g touched (filter is_changed told ++ Told.Changed base newer ∷ []) < put_left g touched told
  put_changed note [] base newer h = absurd h
  put_changed note (Told.Answer at reply ∷ told) base newer h = absurd h
  put_changed note (Told.Ready old length_now stripes ∷ told) base newer h =
      let facts : IsDrawn g note 0 touched told = is_drawn g note 0 touched told h in
      subst (λ l. put_left g touched (l ++ Told.Changed base newer ∷ []) < drawing_left g 0 touched told) (sym facts.changed)
      (subst (λ n. 0 < n) (sym facts.left) (omega arith))
  put_changed note (Told.Versions versions ∷ told) base newer h = absurd (committed_no_commit g versions told h)
  put_changed note (_ ∷ told) base newer h = absurd h

pub put_all : (g : Shape) (pins touched tries : ℕ) (job : Job) → FallsBy Kind.Put (put_left g touched) pins touched g tries job
put_all g pins touched tries job told (Told.Done point) h =
    put_done g pins touched job.note told point (done_at_commit pins touched point (next_put g job.note told) h)
put_all g pins touched tries job told (Told.Changed base newer) h =
    put_changed g pins touched job.note told base newer (changed_at_commit pins touched base newer (next_put g job.note told) h)
put_all g pins touched tries job told answer h = put_falls g pins touched job.note told answer h tt

-- ---- a stat or a delete
single_falls : (pins touched : ℕ) (note : Note) (told : List Told) (answer : Told) → Answers pins touched (next_single note told) answer
    → single_left (told ++ answer ∷ []) < single_left told
single_falls pins touched note [] answer h = omega arith
single_falls pins touched note (Told.Answer point reply ∷ told) answer h = absurd h
single_falls pins touched note (_ ∷ told) answer h = absurd h

pub single_no_commit : (note : Note) (told : List Told) → AtCommit (next_single note told) → ⊥
single_no_commit note [] h = h
single_no_commit note (Told.Answer point reply ∷ told) h = h
single_no_commit note (_ ∷ told) h = h

pub stat_all : (g : Shape) (pins touched tries : ℕ) (job : Job) → FallsBy Kind.Stat single_left pins touched g tries job
stat_all g pins touched tries job told (Told.Done point) h =
    absurd (single_no_commit job.note told (done_at_commit pins touched point (next_single job.note told) h))
stat_all g pins touched tries job told (Told.Changed base newer) h =
    absurd (single_no_commit job.note told (changed_at_commit pins touched base newer (next_single job.note told) h))
stat_all g pins touched tries job told answer h = single_falls pins touched job.note told answer h

pub delete_all : (g : Shape) (pins touched tries : ℕ) (job : Job) → FallsBy Kind.Delete single_left pins touched g tries job
delete_all g pins touched tries job told (Told.Done point) h =
    absurd (single_no_commit job.note told (done_at_commit pins touched point (next_single job.note told) h))
delete_all g pins touched tries job told (Told.Changed base newer) h =
    absurd (single_no_commit job.note told (changed_at_commit pins touched base newer (next_single job.note told) h))
delete_all g pins touched tries job told answer h = single_falls pins touched job.note told answer h

-- What servers answered the prepares of a call, version by version, and that one answer more keeps it.
use Rattle.std.proofs.Common.{◌≡◌, ℕ, zero, suc, ◌+◌, Bool, true, false, cond, nat_lt, List, [], ◌∷◌, ◌++◌, length, refl, sym, subst, arith, length-append}
use Rattle.std.proofs.lemmas.Bool.{cond_both}
use Rattle.std.proofs.lemmas.List.{append-nil, append_assoc}
use Rattle.std.specs.List.{range_with_len}
use Rattle.clay_grid.specs.Shape.{Shape, chunk_count}
use Rattle.store_map.specs.declared.placement.Placement.{Placement}
use Rattle.store_core.specs.Act.{Act, DirectoryStep, ServerStep, Outcome}
use Rattle.store_core.specs.GatheringParts.{ending}
use Rattle.store_core.specs.Note.{Note}
use Rattle.store_core.specs.Placements.{skipped_count, skipped_from}
use Rattle.store_core.specs.Put.{committing, preparing, preparing_all, drawing}
use Rattle.store_core.specs.Told.{Told}

-- all of some versions
abbrev pub AllOf : (ℕ → Type 0) → List ℕ → Type 0
AllOf D [] = Unit {0}
AllOf D (version ∷ versions) = D version × AllOf D versions

-- D says that there is a version, Q how a server took a version's chunk
module _ (D : ℕ → Type 0) (Q : ℕ → ℕ → Placement → Type 0) where
  -- what an answer to an act says
  abbrev pub Placing : Act → Told → Type 0
  Placing (Act.AtServer server (ServerStep.Prepare version)) (Told.Prepared row) = D version → Q server version row
  Placing act (Told.Prepared row) = ⊥
  Placing act (Told.Versions versions) = AllOf D versions
  Placing act answer = Unit {0}

  -- the answers to the prepares of one version at these servers, and what follows
  abbrev pub RowHeard : ℕ → List ℕ → (List Told → Type 0) → List Told → Type 0
  RowHeard version [] next told = next told
  RowHeard version (server ∷ servers) next [] = Unit {0}
  RowHeard version (server ∷ servers) next (Told.Prepared row ∷ told) = Q server version row × RowHeard version servers next told
  RowHeard version (server ∷ servers) next (_ ∷ told) = Unit {0}

  -- of all versions
  abbrev pub RowsHeard : ℕ → List ℕ → List Told → Type 0
  RowsHeard n [] told = Unit {0}
  RowsHeard n (version ∷ versions) told = RowHeard version (range_with_len 0 n) (RowsHeard n versions) told

  row_none : (version : ℕ) (servers : List ℕ) (next : List Told → Type 0) → next [] → RowHeard version servers next []
  row_none version [] next h = h
  row_none version (server ∷ servers) next h = tt

  rows_none : (n : ℕ) (versions : List ℕ) → RowsHeard n versions []
  rows_none n [] = tt
  rows_none n (version ∷ versions) = row_none version (range_with_len 0 n) (RowsHeard n versions) (rows_none n versions)

  -- a call that ends prepares nothing
  ends_placing : (outcome : Outcome) (told : List Told) (row : Placement) → Placing (ending outcome told) (Told.Prepared row) → ⊥
  ends_placing outcome [] row h = h
  ends_placing outcome (Told.Ended ∷ told) row h = h
  ends_placing outcome (Told.Reaped point ∷ told) row h = h
  ends_placing outcome (answer ∷ told) row h = ends_placing Outcome.NoMemory told row h

  commits_placing : (placed : List (List Placement)) (told : List Told) (row : Placement) → Placing (committing placed told) (Told.Prepared row) → ⊥
  commits_placing placed [] row h = h
  commits_placing placed (Told.Reaped point ∷ told) row h = h
  commits_placing placed (answer ∷ told) row h = ends_placing Outcome.NoMemory told row h

  -- after a call has ended its prepares nothing more is known
  row_over : (version : ℕ) (servers : List ℕ) (next : List Told → Type 0) (told : List Told) (answer : Told) → ((row : Placement) → answer ≡ Told.Prepared row → ⊥)
      → ((rest : List Told) → next rest → next (rest ++ answer ∷ [])) → next [] → RowHeard version servers next told → RowHeard version servers next (told ++ answer ∷ [])
  row_over version [] next told answer none more first h = more told h
  row_over version (server ∷ servers) next [] (Told.Prepared row) none more first h = absurd (none row refl)
  row_over version (server ∷ servers) next [] answer none more first h = tt
  row_over version (server ∷ servers) next (Told.Prepared row ∷ told) answer none more first h = (h.0, row_over version servers next told answer none more first h.1)
  row_over version (server ∷ servers) next (_ ∷ told) answer none more first h = tt

  rows_over : (n : ℕ) (versions : List ℕ) (told : List Told) (answer : Told) → ((row : Placement) → answer ≡ Told.Prepared row → ⊥) → RowsHeard n versions told → RowsHeard n versions (told ++ answer ∷ [])
  rows_over n [] told answer none h = tt
  rows_over n (version ∷ versions) told answer none h =
      row_over version (range_with_len 0 n) (RowsHeard n versions) told answer none (λ rest k. rows_over n versions rest answer none k) (rows_none n versions) h

  module _ (g : Shape) (stripe version : ℕ) (there : D version) (next : List Told → Type 0) (first : next []) (act_next : List Placement → List Told → Act) (answer : Told)
      (over : ((row : Placement) → answer ≡ Told.Prepared row → ⊥) → (rest : List Told) → next rest → next (rest ++ answer ∷ []))
      (more : (whole : List Placement) (rest : List Told) → Placing (act_next whole rest) answer → next rest → next (rest ++ answer ∷ [])) where
    -- one answer more
    row_more : (servers : List ℕ) (row : List Placement) (told : List Told) → Placing (preparing g stripe version act_next servers row told) answer → RowHeard version servers next told
        → RowHeard version servers next (told ++ answer ∷ [])
    row_more [] row told says h = more row told says h
    row_more (server ∷ servers) row [] says h = by answer says
      where
        by : (a : Told) → Placing (Act.AtServer server (ServerStep.Prepare version)) a → RowHeard version (server ∷ servers) next (a ∷ [])
        by (Told.Prepared placement) k = (k there, row_none version servers next first)
        by a k = tt
    row_more (server ∷ servers) row (Told.Prepared placement ∷ told) says h =
        (h.0, by (nat_lt g.parity_count (skipped_count now)) says (λ k. row_more servers now told k h.1))
      where
        now : List Placement
        now = row ++ placement ∷ []

        by : (b : Bool) → Placing (cond {A = Act} b (ending (Outcome.Unavailable stripe (skipped_from 0 now)) told) (preparing g stripe version act_next servers now told)) answer
            → (Placing (preparing g stripe version act_next servers now told) answer → RowHeard version servers next (told ++ answer ∷ [])) → RowHeard version servers next (told ++ answer ∷ [])
        by true k rest =
            row_over version servers next told answer (λ r e. ends_placing (Outcome.Unavailable stripe (skipped_from 0 now)) told r (subst (Placing (ending (Outcome.Unavailable stripe (skipped_from 0 now)) told)) e k))
            (over (λ r e. ends_placing (Outcome.Unavailable stripe (skipped_from 0 now)) told r (subst (Placing (ending (Outcome.Unavailable stripe (skipped_from 0 now)) told)) e k))) first h.1
        by false k rest = rest k
    row_more (server ∷ servers) row (_ ∷ told) says h = tt

  -- of all versions
  pub rows_more : (g : Shape) (stripe : ℕ) (versions : List ℕ) (placed : List (List Placement)) (told : List Told) (answer : Told) → AllOf D versions
      → Placing (preparing_all g stripe versions placed told) answer → RowsHeard (chunk_count g) versions told → RowsHeard (chunk_count g) versions (told ++ answer ∷ [])
  rows_more g stripe [] placed told answer there says h = tt
  rows_more g stripe (version ∷ versions) placed told answer there says h =
      row_more g stripe version there.0 (RowsHeard (chunk_count g) versions) (rows_none (chunk_count g) versions) (λ row. preparing_all g (stripe + 1) versions (placed ++ row ∷ [])) answer
      (λ none rest k. rows_over (chunk_count g) versions rest answer none k)
      (λ whole rest k heard. rows_more g (stripe + 1) versions (placed ++ whole ∷ []) rest answer there.1 k heard)
      (range_with_len 0 (chunk_count g)) [] told says h

  -- what a call was told that draws
  abbrev pub DrawHeard : ℕ → List Told → Type 0
  DrawHeard n (Told.Versions versions ∷ told) = AllOf D versions × RowsHeard n versions told
  DrawHeard n told = Unit {0}

  pub draw_more : (g : Shape) (note : Note) (told : List Told) (answer : Told) → Placing (drawing g note told) answer → DrawHeard (chunk_count g) told → DrawHeard (chunk_count g) (told ++ answer ∷ [])
  draw_more g note [] (Told.Versions versions) says h = (says, rows_none (chunk_count g) versions)
  draw_more g note [] answer says h = tt
  draw_more g note (Told.Versions versions ∷ told) answer says h = (h.0, rows_more g _ versions [] told answer h.0 says h.1)
  draw_more g note (_ ∷ told) answer says h = tt

  -- ---- what goes with the commit
  -- a row of placements, from a server on
  abbrev pub RowFrom : ℕ → ℕ → List Placement → Type 0
  RowFrom version server [] = Unit {0}
  RowFrom version server (placement ∷ row) = Q server version placement × RowFrom version (server + 1) row

  pub row_push : (version server : ℕ) (row : List Placement) (placement : Placement) → RowFrom version server row → Q (server + length row) version placement → RowFrom version server (row ++ placement ∷ [])
  row_push version server [] placement h q = (subst (λ s. Q s version placement) (let e : server + 0 ≡ server = omega arith in e) q, tt)
  row_push version server (first ∷ row) placement h q =
      (h.0, row_push version (server + 1) row placement h.1 (subst (λ s. Q s version placement) (let e : server + suc (length row) ≡ server + 1 + length row = omega arith in e) q))

  -- rows of versions, each for all servers
  abbrev pub RowsGood : ℕ → List ℕ → List (List Placement) → Type 0
  RowsGood n [] rows = Unit {0}
  RowsGood n (version ∷ versions) [] = Unit {0}
  RowsGood n (version ∷ versions) (row ∷ rows) = (RowFrom version 0 row × (length row ≡ n)) × RowsGood n versions rows

  rows_push : (n : ℕ) (done : List ℕ) (placed : List (List Placement)) (version : ℕ) (row : List Placement) → length done ≡ length placed → RowsGood n done placed → RowFrom version 0 row → length row ≡ n
      → RowsGood n (done ++ version ∷ []) (placed ++ row ∷ [])
  rows_push n [] [] version row same h good size = ((good, size), tt)
  rows_push n [] (other ∷ placed) version row same h good size = absurd (omega (arith, same))
  rows_push n (d ∷ done) [] version row same h good size = absurd (omega (arith, same))
  rows_push n (d ∷ done) (other ∷ placed) version row same h good size = (h.0, rows_push n done placed version row (omega (arith, same)) h.1 good size)

  -- what an act says that commits
  abbrev pub Committing : ℕ → List ℕ → Act → Type 0
  Committing n versions (Act.AtDirectory (DirectoryStep.Commit rows)) = RowsGood n versions rows
  Committing n versions act = Unit {0}

  ends_commit : (n : ℕ) (versions : List ℕ) (outcome : Outcome) (told : List Told) → Committing n versions (ending outcome told)
  ends_commit n versions outcome [] = tt
  ends_commit n versions outcome (Told.Ended ∷ told) = tt
  ends_commit n versions outcome (Told.Reaped point ∷ told) = tt
  ends_commit n versions outcome (answer ∷ told) = ends_commit n versions Outcome.NoMemory told

  commit_says : (n : ℕ) (versions : List ℕ) (placed : List (List Placement)) (told : List Told) → RowsGood n versions placed → Committing n versions (committing placed told)
  commit_says n versions placed [] good = good
  commit_says n versions placed (Told.Reaped point ∷ told) good = tt
  commit_says n versions placed (answer ∷ told) good = ends_commit n versions Outcome.NoMemory told

  module _ (g : Shape) (stripe version : ℕ) (all : List ℕ) (next : List Told → Type 0) (act_next : List Placement → List Told → Act)
      (more : (whole : List Placement) (rest : List Told) → RowFrom version 0 whole → length whole ≡ chunk_count g → next rest → Committing (chunk_count g) all (act_next whole rest)) where
    row_commits : (k server : ℕ) (row : List Placement) (told : List Told) → server ≡ length row → server + k ≡ chunk_count g → RowFrom version 0 row → RowHeard version (range_with_len server k) next told
        → Committing (chunk_count g) all (preparing g stripe version act_next (range_with_len server k) row told)
    row_commits zero server row told at size good h = more row told good (omega (arith, at, size)) h
    row_commits (suc k) server row [] at size good h = tt
    row_commits (suc k) server row (Told.Prepared placement ∷ told) at size good h =
        cond_both {A = Act} (nat_lt g.parity_count (skipped_count now)) (ending (Outcome.Unavailable stripe (skipped_from 0 now)) told) (preparing g stripe version act_next (range_with_len (server + 1) k) now told)
        (Committing (chunk_count g) all)
        (λ _. ends_commit (chunk_count g) all (Outcome.Unavailable stripe (skipped_from 0 now)) told)
        (λ _. row_commits k (server + 1) now told (let e : length (row ++ placement ∷ []) ≡ length row + 1 = length-append row (placement ∷ []) in omega (arith, at, e)) (omega (arith, size))
        (row_push version 0 row placement good (subst (λ s. Q s version placement) (let e : server ≡ 0 + length row = omega (arith, at) in e) h.0)) h.1)
      where
        now : List Placement
        now = row ++ placement ∷ []
    row_commits (suc k) server row (_ ∷ told) at size good h = ends_commit (chunk_count g) all Outcome.NoMemory told

  rows_commit : (g : Shape) (stripe : ℕ) (done versions : List ℕ) (placed : List (List Placement)) (told : List Told) → length done ≡ length placed → RowsGood (chunk_count g) done placed
      → RowsHeard (chunk_count g) versions told → Committing (chunk_count g) (done ++ versions) (preparing_all g stripe versions placed told)
  rows_commit g stripe done [] placed told same good h = subst (λ l. Committing (chunk_count g) l (committing placed told)) (sym (append-nil done)) (commit_says (chunk_count g) done placed told good)
  rows_commit g stripe done (version ∷ versions) placed told same good h =
      row_commits g stripe version (done ++ version ∷ versions) (RowsHeard (chunk_count g) versions) (λ row. preparing_all g (stripe + 1) versions (placed ++ row ∷ []))
      (λ whole rest row size heard. subst (λ l. Committing (chunk_count g) l (preparing_all g (stripe + 1) versions (placed ++ whole ∷ []) rest)) (append_assoc done (version ∷ []) versions)
      (rows_commit g (stripe + 1) (done ++ version ∷ []) versions (placed ++ whole ∷ []) rest
      (let a : length (done ++ version ∷ []) ≡ length done + 1 = length-append done (version ∷ []) in let b : length (placed ++ whole ∷ []) ≡ length placed + 1 = length-append placed (whole ∷ []) in omega (arith, same, a, b))
      (rows_push (chunk_count g) done placed version whole same good row size) heard))
      (chunk_count g) 0 [] told refl (omega arith) tt h

  -- so it is of a call that draws
  abbrev pub DrawCommits : ℕ → List Told → Act → Type 0
  DrawCommits n (Told.Versions versions ∷ told) act = Committing n versions act
  DrawCommits n told act = Committing n [] act

  pub draw_commits : (g : Shape) (note : Note) (told : List Told) → DrawHeard (chunk_count g) told → DrawCommits (chunk_count g) told (drawing g note told)
  draw_commits g note [] h = tt
  draw_commits g note (Told.Versions versions ∷ told) h = rows_commit g _ [] versions [] told refl tt h.1
  draw_commits g note (Told.Reaped point ∷ told) h = tt
  draw_commits g note (_ ∷ told) h = ends_commit (chunk_count g) [] Outcome.NoMemory told

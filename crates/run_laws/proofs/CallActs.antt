-- Which acts a call of each kind makes, and that the rows of its commit are whole.
use Rattle.std.proofs.Common.{◌≡◌, ℕ, ◌+◌, ◌<◌, nat_lt, List, [], ◌∷◌, ◌++◌, length, All, refl, arith, length-append, ◌/◌, ◌≤◌}
use Rattle.std.proofs.lemmas.Bool.{cond_both, ltb-false}
use Rattle.std.proofs.lemmas.List.Elements.{All-nil, All-push}
use Rattle.std.proofs.lemmas.List.FromFn.{length-range_with_len}
use Rattle.std.specs.List.{range_with_len}
use Rattle.store_core.specs.Placements.{IsRow, skipped_from, skipped_count}
use Rattle.store_map.specs.declared.placement.Placement.{Placement}
use Rattle.clay_grid.specs.Shape.{Shape, chunk_count, stripe_length}
use Rattle.store_core.specs.Lists.{places_of}
use Rattle.store_core.specs.Told.{Told, Seen}
use Rattle.store_core.specs.Note.{Kind, Note}
use Rattle.store_core.specs.Act.{Act, DirectoryStep, Outcome}
use Rattle.store_core.specs.Gathering.{Gathering, Part}
use Rattle.store_core.specs.GatheringParts.{ending, act_of, gathering, gather_part, gather_chunk}
use Rattle.store_core.specs.Put.{settling, committed, committing, preparing, preparing_all, drawing, next_put}
use Rattle.store_core.specs.Read.{parts_of, next_read, next_single}
use Rattle.store_core.specs.Write.{old_parts, trying}
use Rattle.store_core.specs.Rebuild.{placing, installing, confirming, rebuilding, next_rebuild}
use Rattle.store_core.specs.NextAct.{Job, next_by, next_act}
use Rattle.run_laws.specs.StepLaws.{HasTarget}
use Rattle.run_laws.proofs.Proper.{IsWriting}

-- a kind of a client's call
abbrev pub IsOfClients : Kind → Type 0
IsOfClients Kind.Rebuild = ⊥
IsOfClients _ = Unit {0}

-- the kind of a repairer's
abbrev pub IsOfRepairers : Kind → Type 0
IsOfRepairers Kind.Rebuild = Unit {0}
IsOfRepairers _ = ⊥

-- the steps at the directory that a call of some kind makes
abbrev pub StepOfKind : Shape → Kind → DirectoryStep → Type 0
StepOfKind g kind (DirectoryStep.Look note) = IsOfClients kind
StepOfKind g kind (DirectoryStep.LookRepair note) = IsOfRepairers kind
StepOfKind g kind (DirectoryStep.Commit placed) = IsWriting kind × All (IsRow g) placed
StepOfKind g kind DirectoryStep.Confirm = IsOfRepairers kind
StepOfKind g kind (DirectoryStep.Repaired server epoch) = IsOfRepairers kind × (server < chunk_count g)
StepOfKind g kind step = Unit {0}

-- and its acts
abbrev pub ActOfKind : Shape → Kind → Act → Type 0
ActOfKind g kind (Act.AtDirectory step) = StepOfKind g kind step
ActOfKind g kind _ = Unit {0}

module _ (g : Shape) (kind : Kind) where
  -- the end of a pass
  ending_of : (outcome : Outcome) (told : List Told) → ActOfKind g kind (ending outcome told)
  ending_of outcome [] = tt
  ending_of outcome (Told.Ended ∷ told) = tt
  ending_of outcome (Told.Reaped point ∷ told) = tt
  ending_of outcome (_ ∷ told) = ending_of Outcome.NoMemory told

  -- the settles
  settling_of : (point : ℕ) (places : List (ℕ × ℕ)) (told : List Told) → ActOfKind g kind (settling point places told)
  settling_of point [] told = tt
  settling_of point (place ∷ places) [] = tt
  settling_of point (place ∷ places) (_ ∷ told) = settling_of point places told

  -- after the commit
  committed_of : (versions : List ℕ) (told : List Told) → ActOfKind g kind (committed g versions told)
  committed_of versions [] = tt
  committed_of versions (Told.Done point ∷ told) = settling_of point (places_of (chunk_count g) versions) told
  committed_of versions (_ ∷ told) = tt

  -- the commit, with its rows
  committing_of : IsWriting kind → (placed : List (List Placement)) → All (IsRow g) placed → (told : List Told) → ActOfKind g kind (committing placed told)
  committing_of writes placed whole [] = (writes, whole)
  committing_of writes placed whole (Told.Reaped point ∷ told) = tt
  committing_of writes placed whole (_ ∷ told) = ending_of Outcome.NoMemory told

  -- each server where a version is prepared brings a placement
  preparing_of : (stripe version : ℕ) (next : List Placement → List Told → Act) → ((row : List Placement) → IsRow g row → (told : List Told) → ActOfKind g kind (next row told))
      → (servers : List ℕ) (row : List Placement) → skipped_count row ≤ g.parity_count → length row + length servers ≡ chunk_count g
      → (told : List Told) → ActOfKind g kind (preparing g stripe version next servers row told)
  preparing_of stripe version next after [] row few count told = after row (record { whole = omega (arith, count); enough = few }) told
  preparing_of stripe version next after (server ∷ servers) row few count [] = tt
  preparing_of stripe version next after (server ∷ servers) row few count (Told.Prepared last ∷ told) =
      let now : List Placement = row ++ last ∷ [] in
      let more : length now ≡ length row + 1 = length-append row (last ∷ []) in
      let outcome : Outcome = Outcome.Unavailable stripe (skipped_from 0 now) in
      cond_both {A = Act} (nat_lt g.parity_count (skipped_count now)) (ending outcome told) (preparing g stripe version next servers now told) (ActOfKind g kind)
      (λ _. ending_of outcome told)
      (λ fewer. preparing_of stripe version next after servers now (ltb-false g.parity_count (skipped_count now) fewer) (omega (arith, more, count)) told)
  preparing_of stripe version next after (server ∷ servers) row few count (_ ∷ told) = ending_of Outcome.NoMemory told

  preparing_all_of : IsWriting kind → (stripe : ℕ) (versions : List ℕ) (placed : List (List Placement)) → All (IsRow g) placed → (told : List Told)
      → ActOfKind g kind (preparing_all g stripe versions placed told)
  preparing_all_of writes stripe [] placed rows told = committing_of writes placed rows told
  preparing_all_of writes stripe (version ∷ versions) placed rows told =
      preparing_of stripe version (λ row. preparing_all g (stripe + 1) versions (placed ++ row ∷ []))
      (λ row is_row. preparing_all_of writes (stripe + 1) versions (placed ++ row ∷ []) (All-push (IsRow g) placed row rows is_row))
      (range_with_len 0 (chunk_count g)) [] (omega arith)
      (let all : length (range_with_len 0 (chunk_count g)) ≡ chunk_count g = length-range_with_len 0 (chunk_count g) in omega (arith, all)) told

  -- from the draw on
  drawing_of : IsWriting kind → (note : Note) (told : List Told) → ActOfKind g kind (drawing g note told)
  drawing_of writes note [] = tt
  drawing_of writes note (Told.Versions versions ∷ told) = preparing_all_of writes (note.offset / stripe_length g) versions [] (All-nil (IsRow g)) told
  drawing_of writes note (Told.Reaped point ∷ told) = tt
  drawing_of writes note (_ ∷ told) = ending_of Outcome.NoMemory told

  -- ---- gatherings
  -- what a gathering comes to
  result_of : (stripe : ℕ) (next : List Told → Act) → ((told : List Told) → ActOfKind g kind (next told)) → (result : Gathering) → ActOfKind g kind (act_of stripe next result)
  result_of stripe next after (Gathering.Asks server step) = tt
  result_of stripe next after (Gathering.HasBytes told) = after told
  result_of stripe next after (Gathering.TooMany missing told) = ending_of (Outcome.Unavailable stripe missing) told
  result_of stripe next after (Gathering.AtTarget told) = ending_of Outcome.Here told
  result_of stripe next after (Gathering.TargetAway downs told) = ending_of (Outcome.Away downs) told
  result_of stripe next after (Gathering.Short told) = ending_of Outcome.NoMemory told

  -- a gathering of several parts, and what follows it
  gathering_of : (next : List Told → Act) → ((told : List Told) → ActOfKind g kind (next told)) → (parts : List Part) (told : List Told) → ActOfKind g kind (gathering g parts next told)
  gathering_of next after [] told = after told
  gathering_of next after (part ∷ parts) [] = result_of part.seen.stripe (gathering g parts next) (gathering_of next after parts) (gather_part g part [])
  gathering_of next after (part ∷ parts) (Told.Gathered ∷ told) = gathering_of next after parts told
  gathering_of next after (part ∷ parts) (other ∷ told) =
      result_of part.seen.stripe (gathering g parts next) (gathering_of next after parts) (gather_part g part (other ∷ told))

  -- ---- a rebuild
  -- the last step of a rebuild
  placing_of : IsOfRepairers kind → (target epoch : ℕ) → target < chunk_count g → (told : List Told) → ActOfKind g kind (placing target epoch told)
  placing_of rebuilds target epoch below [] = (rebuilds, below)
  placing_of rebuilds target epoch below (Told.Ended ∷ told) = tt
  placing_of rebuilds target epoch below (Told.Reaped point ∷ told) = tt
  placing_of rebuilds target epoch below (_ ∷ told) = ending_of Outcome.NoMemory told

  module _ (rebuilds : IsOfRepairers kind) (seen : Seen) (target : ℕ) (below : target < chunk_count g) where
    -- from the install on
    installing_of : (told : List Told) → ActOfKind g kind (installing seen target told)
    installing_of [] = tt
    installing_of (Told.Placed epoch ∷ told) = placing_of rebuilds target epoch below told
    installing_of (Told.AlreadyThere ∷ told) = ending_of Outcome.Here told
    installing_of (Told.Away downs ∷ told) = ending_of (Outcome.Away downs) told
    installing_of (_ ∷ told) = ending_of Outcome.NoMemory told

    -- from the confirm on
    confirming_of : (told : List Told) → ActOfKind g kind (confirming seen target told)
    confirming_of [] = rebuilds
    confirming_of (Told.Current ∷ told) = installing_of told
    confirming_of (Told.Superseded newer ∷ told) = tt
    confirming_of (Told.Reaped point ∷ told) = tt
    confirming_of (_ ∷ told) = ending_of Outcome.NoMemory told

    -- from the look on
    rebuilding_of : (told : List Told) → ActOfKind g kind (rebuilding g seen target told)
    rebuilding_of [] = result_of seen.stripe (confirming seen target) confirming_of (gather_chunk g seen target [])
    rebuilding_of (Told.Gathered ∷ told) = confirming_of told
    rebuilding_of (other ∷ told) = result_of seen.stripe (confirming seen target) confirming_of (gather_chunk g seen target (other ∷ told))

  -- a rebuild
  rebuild_of : IsOfRepairers kind → (note : Note) (target : ℕ) → target < chunk_count g → (told : List Told) → ActOfKind g kind (next_rebuild g note target told)
  rebuild_of rebuilds note target below [] = rebuilds
  rebuild_of rebuilds note target below (Told.NoSuch ∷ told) = tt
  rebuild_of rebuilds note target below (Told.PinnedStripe seen ∷ told) = rebuilding_of rebuilds seen target below told
  rebuild_of rebuilds note target below (_ ∷ told) = tt

  -- ---- the other kinds
  -- a put
  put_of : IsWriting kind → IsOfClients kind → (note : Note) (told : List Told) → ActOfKind g kind (next_put g note told)
  put_of writes looks note [] = looks
  put_of writes looks note (Told.Answer point reply ∷ told) = tt
  put_of writes looks note (Told.Ready base length_now stripes ∷ told) = drawing_of writes note told
  put_of writes looks note (Told.Versions versions ∷ told) = committed_of versions told
  put_of writes looks note (_ ∷ told) = tt

  -- a get or a read
  read_of : IsOfClients kind → (note : Note) (told : List Told) → ActOfKind g kind (next_read g note told)
  read_of looks note [] = looks
  read_of looks note (Told.Answer point reply ∷ told) = tt
  read_of looks note (Told.Pinned point length_now stripes ∷ told) = gathering_of (ending (Outcome.Served point)) (ending_of (Outcome.Served point)) (parts_of g note length_now stripes) told
  read_of looks note (_ ∷ told) = tt

  -- a stat or a delete
  single_of : IsOfClients kind → (note : Note) (told : List Told) → ActOfKind g kind (next_single note told)
  single_of looks note [] = looks
  single_of looks note (Told.Answer point reply ∷ told) = tt
  single_of looks note (_ ∷ told) = tt

  -- a write
  trying_of : IsWriting kind → IsOfClients kind → (tries : ℕ) (note : Note) (pairs : List (ℕ × ℕ)) (told : List Told) → ActOfKind g kind (trying g tries note pairs told)
  trying_of writes looks tries note pairs [] =
      cond_both {A = Act} (nat_lt (length pairs) tries) (Act.AtDirectory (DirectoryStep.Look note)) (Act.Finish (Outcome.Contended pairs)) (ActOfKind g kind) (λ _. looks) (λ _. tt)
  trying_of writes looks tries note pairs (Told.Changed base newer ∷ told) = trying_of writes looks tries note (pairs ++ (base, newer) ∷ []) told
  trying_of writes looks tries note pairs (Told.Answer point reply ∷ told) = tt
  trying_of writes looks tries note pairs (Told.Ready base length_now stripes ∷ told) = gathering_of (drawing g note) (drawing_of writes note) (old_parts g length_now stripes) told
  trying_of writes looks tries note pairs (Told.Versions versions ∷ told) = committed_of versions told
  trying_of writes looks tries note pairs (_ ∷ told) = tt

-- by the kind
by_kind : (kind : Kind) (g : Shape) (tries : ℕ) (job : Job) → (kind ≡ Kind.Rebuild → job.target < chunk_count g) → (told : List Told) → ActOfKind g kind (next_by kind g tries job told)
by_kind Kind.Put g tries job below told = put_of g Kind.Put tt tt job.note told
by_kind Kind.Write g tries job below told = trying_of g Kind.Write tt tt tries job.note [] told
by_kind Kind.Get g tries job below told = read_of g Kind.Get tt job.note told
by_kind Kind.ReadAt g tries job below told = read_of g Kind.ReadAt tt job.note told
by_kind Kind.Stat g tries job below told = single_of g Kind.Stat tt job.note told
by_kind Kind.Delete g tries job below told = single_of g Kind.Delete tt job.note told
by_kind Kind.Rebuild g tries job below told = rebuild_of g Kind.Rebuild tt job.note job.target (below refl) told

-- the next act of a call is one of its kind
pub acts_of_kind : (g : Shape) (tries : ℕ) (job : Job) → HasTarget g job → (told : List Told) → ActOfKind g job.note.kind (next_act g tries job told)
acts_of_kind g tries job target told = by_kind job.note.kind g tries job target told

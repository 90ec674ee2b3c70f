-- A call makes only steps of its own: looks at its note, steps on its pass, and steps at servers that there are.
use Rattle.std.proofs.Common.{◌≡◌, ℕ, zero, suc, ◌+◌, ◌<◌, ◌≤◌, nat_lt, List, [], ◌∷◌, ◌++◌, length, map, IsTrue, refl, sym, subst, arith, length-append, ◌/◌}
use Rattle.std.proofs.lemmas.Bool.{cond_both, ltb-true}
use Rattle.std.specs.List.{range_with_len}
use Rattle.store_core.specs.Placements.{skipped_from, skipped_count}
use Rattle.store_map.specs.declared.placement.Placement.{Placement}
use Rattle.clay_grid.specs.Shape.{Shape, chunk_count, stripe_length}
use Rattle.store_core.specs.Lists.{places_of}
use Rattle.store_core.specs.Told.{Told, Seen}
use Rattle.store_core.specs.Note.{Kind, Note}
use Rattle.store_core.specs.Act.{Act, DirectoryStep, ServerStep, Outcome}
use Rattle.store_core.specs.Gathering.{Gathering, Part}
use Rattle.store_core.specs.GatheringParts.{ending, act_of, gathering, gather_part, gather_chunk}
use Rattle.store_core.specs.Put.{settling, committed, committing, preparing, preparing_all, drawing, next_put}
use Rattle.store_core.specs.Read.{parts_of, next_read, next_single}
use Rattle.store_core.specs.Write.{old_parts, trying}
use Rattle.store_core.specs.Rebuild.{placing, installing, confirming, rebuilding, next_rebuild}
use Rattle.store_core.specs.NextAct.{Job, next_by, next_act}
use Rattle.run_laws.specs.AnswerLaws.{is_of_call}
use Rattle.run_laws.specs.StepLaws.{HasTarget}
use Rattle.run_laws.proofs.AskedServers.{IsAsk, AsksWell, part_well, chunk_well}
use Rattle.run_laws.proofs.CallMoves.{changes}

-- a kind of call that draws
abbrev pub IsWriting : Kind → Type 0
IsWriting Kind.Put = Unit {0}
IsWriting Kind.Write = Unit {0}
IsWriting _ = ⊥

-- the steps of a call at the directory; room is what a look wants
abbrev pub ProperStep : Job → Type 0 → DirectoryStep → Type 0
ProperStep job room (DirectoryStep.Look note) = (note ≡ job.note) × room
ProperStep job room (DirectoryStep.LookRepair note) = (note ≡ job.note) × room
ProperStep job room DirectoryStep.Draw = IsWriting job.note.kind
ProperStep job room DirectoryStep.NextGarbage = ⊥
ProperStep job room (DirectoryStep.Swept version) = ⊥
ProperStep job room (DirectoryStep.Reap actor) = ⊥
ProperStep job room _ = Unit {0}

-- the acts of a call
abbrev pub IsProper : Shape → Job → Type 0 → Act → Type 0
IsProper g job room (Act.AtDirectory step) = ProperStep job room step
IsProper g job room (Act.AtServer server step) = (server < chunk_count g) × IsTrue (is_of_call step)
IsProper g job room (Act.Finish outcome) = Unit {0}

-- ---- the places of versions
abbrev PlacesBelow : ℕ → List (ℕ × ℕ) → Type 0
PlacesBelow n [] = Unit {0}
PlacesBelow n (place ∷ places) = (place.0 < n) × PlacesBelow n places

row_below : (n version a k : ℕ) → a + k ≤ n → PlacesBelow n (map (λ server. (server, version)) (range_with_len a k))
row_below n version a zero h = tt
row_below n version a (suc k) h = (omega (arith, h), row_below n version (a + 1) k (omega (arith, h)))

append_below : (n : ℕ) (some more : List (ℕ × ℕ)) → PlacesBelow n some → PlacesBelow n more → PlacesBelow n (some ++ more)
append_below n [] more h k = k
append_below n (place ∷ some) more h k = (h.0, append_below n some more h.1 k)

-- the chunks of versions go to servers that there are
places_below : (n : ℕ) (versions : List ℕ) → PlacesBelow n (places_of n versions)
places_below n [] = tt
places_below n (version ∷ versions) =
    append_below n (map (λ server. (server, version)) (range_with_len 0 n)) (places_of n versions) (row_below n version 0 n (omega arith)) (places_below n versions)

-- a gathering's steps are a call's
ask_of_call : (step : ServerStep) → IsAsk step → IsTrue (is_of_call step)
ask_of_call (ServerStep.Has version) h = refl
ask_of_call (ServerStep.Fetch version layers) h = refl
ask_of_call step h = absurd h

module _ (g : Shape) (job : Job) (room : Type 0) where
  ending_proper : (outcome : Outcome) (told : List Told) → IsProper g job room (ending outcome told)
  ending_proper outcome [] = tt
  ending_proper outcome (Told.Ended ∷ told) = tt
  ending_proper outcome (Told.Reaped point ∷ told) = tt
  ending_proper outcome (_ ∷ told) = ending_proper Outcome.NoMemory told

  settling_proper : (point : ℕ) (places : List (ℕ × ℕ)) (told : List Told) → PlacesBelow (chunk_count g) places → IsProper g job room (settling point places told)
  settling_proper point [] told h = tt
  settling_proper point (place ∷ places) [] h = (h.0, refl)
  settling_proper point (place ∷ places) (_ ∷ told) h = settling_proper point places told h.1

  committed_proper : (versions : List ℕ) (told : List Told) → IsProper g job room (committed g versions told)
  committed_proper versions [] = tt
  committed_proper versions (Told.Done point ∷ told) = settling_proper point (places_of (chunk_count g) versions) told (places_below (chunk_count g) versions)
  committed_proper versions (_ ∷ told) = tt

  committing_proper : (placed : List (List Placement)) (told : List Told) → IsProper g job room (committing placed told)
  committing_proper placed [] = tt
  committing_proper placed (Told.Reaped point ∷ told) = tt
  committing_proper placed (_ ∷ told) = ending_proper Outcome.NoMemory told

  preparing_proper : (stripe version : ℕ) (next : List Placement → List Told → Act) → ((row : List Placement) (told : List Told) → IsProper g job room (next row told))
      → (servers : List ℕ) (row : List Placement) (told : List Told) → PlacesBelow (chunk_count g) (map (λ server. (server, version)) servers)
      → IsProper g job room (preparing g stripe version next servers row told)
  preparing_proper stripe version next after [] row told h = after row told
  preparing_proper stripe version next after (server ∷ servers) row [] h = (h.0, refl)
  preparing_proper stripe version next after (server ∷ servers) row (Told.Prepared last ∷ told) h =
      let now : List Placement = row ++ last ∷ [] in
      let outcome : Outcome = Outcome.Unavailable stripe (skipped_from 0 now) in
      cond_both {A = Act} (nat_lt g.parity_count (skipped_count now)) (ending outcome told) (preparing g stripe version next servers now told) (IsProper g job room)
      (λ _. ending_proper outcome told) (λ _. preparing_proper stripe version next after servers now told h.1)
  preparing_proper stripe version next after (server ∷ servers) row (_ ∷ told) h = ending_proper Outcome.NoMemory told

  preparing_all_proper : (stripe : ℕ) (versions : List ℕ) (placed : List (List Placement)) (told : List Told) → IsProper g job room (preparing_all g stripe versions placed told)
  preparing_all_proper stripe [] placed told = committing_proper placed told
  preparing_all_proper stripe (version ∷ versions) placed told =
      preparing_proper stripe version (λ row. preparing_all g (stripe + 1) versions (placed ++ row ∷ [])) (λ row. preparing_all_proper (stripe + 1) versions (placed ++ row ∷ []))
      (range_with_len 0 (chunk_count g)) [] told (row_below (chunk_count g) version 0 (chunk_count g) (omega arith))

  drawing_proper : IsWriting job.note.kind → (note : Note) (told : List Told) → IsProper g job room (drawing g note told)
  drawing_proper writes note [] = writes
  drawing_proper writes note (Told.Versions versions ∷ told) = preparing_all_proper (note.offset / stripe_length g) versions [] told
  drawing_proper writes note (Told.Reaped point ∷ told) = tt
  drawing_proper writes note (_ ∷ told) = ending_proper Outcome.NoMemory told

  -- ---- gatherings
  result_proper : (stripe : ℕ) (next : List Told → Act) → ((told : List Told) → IsProper g job room (next told)) → (result : Gathering) → AsksWell (chunk_count g) result
      → IsProper g job room (act_of stripe next result)
  result_proper stripe next after (Gathering.Asks server step) well = (well.0, ask_of_call step well.1)
  result_proper stripe next after (Gathering.HasBytes told) well = after told
  result_proper stripe next after (Gathering.TooMany missing told) well = ending_proper (Outcome.Unavailable stripe missing) told
  result_proper stripe next after (Gathering.AtTarget told) well = ending_proper Outcome.Here told
  result_proper stripe next after (Gathering.TargetAway downs told) well = ending_proper (Outcome.Away downs) told
  result_proper stripe next after (Gathering.Short told) well = ending_proper Outcome.NoMemory told

  -- a gathering asks servers that there are, and then does what follows it
  gathering_proper : (next : List Told → Act) → ((told : List Told) → IsProper g job room (next told)) → (parts : List Part) (told : List Told) → IsProper g job room (gathering g parts next told)
  gathering_proper next after [] told = after told
  gathering_proper next after (part ∷ parts) [] = result_proper part.seen.stripe (gathering g parts next) (gathering_proper next after parts) (gather_part g part []) (part_well g part [])
  gathering_proper next after (part ∷ parts) (Told.Gathered ∷ told) = gathering_proper next after parts told
  gathering_proper next after (part ∷ parts) (other ∷ told) =
      result_proper part.seen.stripe (gathering g parts next) (gathering_proper next after parts) (gather_part g part (other ∷ told)) (part_well g part (other ∷ told))

  -- ---- a rebuild
  placing_proper : (target epoch : ℕ) (told : List Told) → IsProper g job room (placing target epoch told)
  placing_proper target epoch [] = tt
  placing_proper target epoch (Told.Ended ∷ told) = tt
  placing_proper target epoch (Told.Reaped point ∷ told) = tt
  placing_proper target epoch (_ ∷ told) = ending_proper Outcome.NoMemory told

  module _ (seen : Seen) (target : ℕ) (below : target < chunk_count g) where
    installing_proper : (told : List Told) → IsProper g job room (installing seen target told)
    installing_proper [] = (below, refl)
    installing_proper (Told.Placed epoch ∷ told) = placing_proper target epoch told
    installing_proper (Told.AlreadyThere ∷ told) = ending_proper Outcome.Here told
    installing_proper (Told.Away downs ∷ told) = ending_proper (Outcome.Away downs) told
    installing_proper (_ ∷ told) = ending_proper Outcome.NoMemory told

    confirming_proper : (told : List Told) → IsProper g job room (confirming seen target told)
    confirming_proper [] = tt
    confirming_proper (Told.Current ∷ told) = installing_proper told
    confirming_proper (Told.Superseded newer ∷ told) = tt
    confirming_proper (Told.Reaped point ∷ told) = tt
    confirming_proper (_ ∷ told) = ending_proper Outcome.NoMemory told

    chunk_proper : (told : List Told) → IsProper g job room (act_of seen.stripe (confirming seen target) (gather_chunk g seen target told))
    chunk_proper told = result_proper seen.stripe (confirming seen target) confirming_proper (gather_chunk g seen target told) (chunk_well g seen target below told)

    rebuilding_proper : (told : List Told) → IsProper g job room (rebuilding g seen target told)
    rebuilding_proper [] = chunk_proper []
    rebuilding_proper (Told.Gathered ∷ told) = confirming_proper told
    rebuilding_proper (other ∷ told) = chunk_proper (other ∷ told)

  rebuild_proper : room → (target : ℕ) → target < chunk_count g → (told : List Told) → IsProper g job room (next_rebuild g job.note target told)
  rebuild_proper looks target below [] = (refl, looks)
  rebuild_proper looks target below (Told.NoSuch ∷ told) = tt
  rebuild_proper looks target below (Told.PinnedStripe seen ∷ told) = rebuilding_proper seen target below told
  rebuild_proper looks target below (_ ∷ told) = tt

  -- ---- the other kinds
  put_proper : IsWriting job.note.kind → (told : List Told) → (told ≡ [] → room) → IsProper g job room (next_put g job.note told)
  put_proper writes [] looks = (refl, looks refl)
  put_proper writes (Told.Answer point reply ∷ told) looks = tt
  put_proper writes (Told.Ready base length_now stripes ∷ told) looks = drawing_proper writes job.note told
  put_proper writes (Told.Versions versions ∷ told) looks = committed_proper versions told
  put_proper writes (_ ∷ told) looks = tt

  read_proper : room → (told : List Told) → IsProper g job room (next_read g job.note told)
  read_proper looks [] = (refl, looks)
  read_proper looks (Told.Answer point reply ∷ told) = tt
  read_proper looks (Told.Pinned point length_now stripes ∷ told) =
      gathering_proper (ending (Outcome.Served point)) (ending_proper (Outcome.Served point)) (parts_of g job.note length_now stripes) told
  read_proper looks (_ ∷ told) = tt

  single_proper : room → (told : List Told) → IsProper g job room (next_single job.note told)
  single_proper looks [] = (refl, looks)
  single_proper looks (Told.Answer point reply ∷ told) = tt
  single_proper looks (_ ∷ told) = tt

  -- the look of a write comes while changes are fewer than tries
  trying_proper : IsWriting job.note.kind → (tries : ℕ) (pairs : List (ℕ × ℕ)) (told : List Told) → (length pairs + changes told < tries → room)
      → IsProper g job room (trying g tries job.note pairs told)
  trying_proper writes tries pairs [] looks =
      cond_both {A = Act} (nat_lt (length pairs) tries) (Act.AtDirectory (DirectoryStep.Look job.note)) (Act.Finish (Outcome.Contended pairs)) (IsProper g job room)
      (λ e. (refl, looks (omega (arith, ltb-true (length pairs) tries e)))) (λ _. tt)
  trying_proper writes tries pairs (Told.Changed base newer ∷ told) looks =
      trying_proper writes tries (pairs ++ (base, newer) ∷ []) told (λ h. looks (omega (arith, h, length-append pairs ((base, newer) ∷ []))))
  trying_proper writes tries pairs (Told.Answer point reply ∷ told) looks = tt
  trying_proper writes tries pairs (Told.Ready base length_now stripes ∷ told) looks =
      gathering_proper (drawing g job.note) (drawing_proper writes job.note) (old_parts g length_now stripes) told
  trying_proper writes tries pairs (Told.Versions versions ∷ told) looks = committed_proper versions told
  trying_proper writes tries pairs (_ ∷ told) looks = tt

-- ---- any kind: a write looks only while it has a try left
abbrev pub tries_by : Kind → ℕ → ℕ
tries_by Kind.Put tries = 1
tries_by Kind.Write tries = tries
tries_by _ tries = 0

-- what the look of a call wants of what it was told
abbrev pub HasTry : Kind → ℕ → List Told → Type 0
HasTry Kind.Put tries told = changes told < 1
HasTry Kind.Write tries told = changes told < tries
HasTry _ tries told = Unit {0}

none_yet : (told : List Told) → told ≡ [] → changes told < 1
none_yet told e = subst (λ l. changes l < 1) (sym e) (omega arith)

proper_by : (kind : Kind) (g : Shape) (tries : ℕ) (job : Job) → kind ≡ job.note.kind → (kind ≡ Kind.Rebuild → job.target < chunk_count g) → (told : List Told)
    → IsProper g job (HasTry kind tries told) (next_by kind g tries job told)
proper_by Kind.Put g tries job e below told = put_proper g job (HasTry Kind.Put tries told) (subst IsWriting e tt) told (none_yet told)
proper_by Kind.Write g tries job e below told = trying_proper g job (HasTry Kind.Write tries told) (subst IsWriting e tt) tries [] told (λ h. omega (arith, h))
proper_by Kind.Get g tries job e below told = read_proper g job (HasTry Kind.Get tries told) tt told
proper_by Kind.ReadAt g tries job e below told = read_proper g job (HasTry Kind.ReadAt tries told) tt told
proper_by Kind.Stat g tries job e below told = single_proper g job (HasTry Kind.Stat tries told) tt told
proper_by Kind.Delete g tries job e below told = single_proper g job (HasTry Kind.Delete tries told) tt told
proper_by Kind.Rebuild g tries job e below told = rebuild_proper g job (HasTry Kind.Rebuild tries told) tt job.target (below refl) told

-- the next act of a call is one of its own
pub acts_proper : (g : Shape) (tries : ℕ) (job : Job) → HasTarget g job → (told : List Told) → IsProper g job (HasTry job.note.kind tries told) (next_act g tries job told)
acts_proper g tries job target told = proper_by job.note.kind g tries job refl target told

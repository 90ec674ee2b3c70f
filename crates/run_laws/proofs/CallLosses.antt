-- A call that is unavailable was told so by one of its gatherings.
use Rattle.std.proofs.Common.{◌≡◌, ◌⊎◌, ℕ, ◌+◌, ◌/◌, ◌<◌, ◌≤◌, nat_lt, All, arith, List, [], ◌∷◌, ◌++◌, length, map, fold, length-append, Option, inl, inr, refl, sym, subst, ap, ◌∙◌}
use Rattle.std.proofs.lemmas.Bool.{cond_both, ltb-true, ltb-false}
use Rattle.std.proofs.lemmas.List.{append_assoc, append-nil, map-append}
use Rattle.std.proofs.lemmas.List.Elements.{All-nil, All-push}
use Rattle.std.proofs.lemmas.List.FromFn.{length-range_with_len}
use Rattle.std.specs.List.{flat_map, range_with_len}
use Rattle.clay_grid.specs.Shape.{Shape, chunk_count, stripe_length}
use Rattle.store_map.specs.declared.placement.Placement.{Placement}
use Rattle.store_core.specs.Lists.{places_of}
use Rattle.store_core.specs.Placements.{IsRow, skipped_from, skipped_count}
use Rattle.store_core.specs.Told.{Told, Seen, Lost}
use Rattle.store_core.specs.Note.{Kind}
use Rattle.store_core.specs.Act.{Act, DirectoryStep, Outcome}
use Rattle.store_core.specs.Gathering.{Gathering, Part}
use Rattle.store_core.specs.GatheringParts.{gather_part, gather_chunk, ending, act_of, gathering}
use Rattle.run_laws.specs.GatherLaws.{Ends}
use Rattle.run_laws.specs.GatheredLaws.{gathers}
use Rattle.store_core.specs.Put.{settling, committed, committing, preparing, preparing_all, drawing, next_put}
use Rattle.store_core.specs.Read.{parts_of, next_read, next_single}
use Rattle.store_core.specs.Write.{old_parts, trying}
use Rattle.store_core.specs.Rebuild.{placing, installing, confirming, rebuilding, next_rebuild}
use Rattle.run_laws.specs.Losses.{PartIsLost, ChunkIsLost, VersionIsSkipped, IsLost, ToldOfLoss}
use Rattle.run_laws.specs.ToldInSteps.{act_after}
use Rattle.store_core.specs.Tell.{tell}
use Rattle.store_core.specs.NextAct.{Job, next_by}
use Rattle.run_laws.specs.OutcomeLaws.{MayBeReaped}
use Rattle.run_laws.proofs.Carried.{IsMark}
use Rattle.run_laws.proofs.Gatherings.{part_ends, chunk_ends}
use Rattle.run_laws.proofs.StageOutcomes.{ActIsFine, call_holds, all_free}
use Rattle.run_laws.proofs.Skips.{skipped_push}
use Rattle.run_laws.proofs.Stretches.{Within, begins, from_head, Follows, FoundAfter, found_after, lost_back, Stops, part_stops, chunk_stops}

-- ---- an act that is no such outcome
abbrev IsAvailable : Act → Type 0
IsAvailable (Act.Finish (Outcome.Unavailable stripe missing)) = ⊥
IsAvailable act = Unit {0}

fine_available : (kind : Kind) → (MayBeReaped kind → ⊥) → (act : Act) → ActIsFine kind 0 0 (Unit {0}) act → IsAvailable act
fine_available kind no_pass (Act.Finish (Outcome.Unavailable stripe missing)) h = no_pass h
fine_available kind no_pass act h = tt

-- a call of a kind that has no pass
calm : (kind : Kind) → (MayBeReaped kind → ⊥) → (g : Shape) (tries : ℕ) (job : Job) (told : List Told) → IsAvailable (next_by kind g tries job told)
calm kind no_pass g tries job told =
    fine_available kind no_pass (next_by kind g tries job told)
    (call_holds 0 0 (Unit {0}) g kind tries job told (all_free kind 0 0 (next_by kind g tries job) told))

settling_calm : (point : ℕ) (places : List (ℕ × ℕ)) (told : List Told) → IsAvailable (settling point places told)
settling_calm point [] told = tt
settling_calm point (place ∷ places) [] = tt
settling_calm point (place ∷ places) (_ ∷ told) = settling_calm point places told

committed_calm : (g : Shape) (versions : List ℕ) (told : List Told) → IsAvailable (committed g versions told)
committed_calm g versions (Told.Done point ∷ told) = settling_calm point (places_of (chunk_count g) versions) told
committed_calm g versions [] = tt
committed_calm g versions (_ ∷ told) = tt

abbrev NotLost : Outcome → Type 0
NotLost (Outcome.Unavailable stripe missing) = ⊥
NotLost _ = Unit {0}

available : (outcome : Outcome) → NotLost outcome → IsAvailable (Act.Finish outcome)
available (Outcome.Unavailable stripe missing) h = h
available outcome h = tt

ending_calm : (outcome : Outcome) → NotLost outcome → (told : List Told) → IsAvailable (ending outcome told)
ending_calm outcome h [] = tt
ending_calm outcome h (Told.Ended ∷ told) = available outcome h
ending_calm outcome h (Told.Reaped point ∷ told) = tt
ending_calm outcome h (_ ∷ told) = ending_calm Outcome.NoMemory tt told

committing_calm : (placed : List (List Placement)) (told : List Told) → IsAvailable (committing placed told)
committing_calm placed [] = tt
committing_calm placed (Told.Reaped point ∷ told) = tt
committing_calm placed (_ ∷ told) = ending_calm Outcome.NoMemory tt told

placing_calm : (target epoch : ℕ) (told : List Told) → IsAvailable (placing target epoch told)
placing_calm target epoch [] = tt
placing_calm target epoch (Told.Ended ∷ told) = tt
placing_calm target epoch (Told.Reaped point ∷ told) = tt
placing_calm target epoch (_ ∷ told) = ending_calm Outcome.NoMemory tt told

installing_calm : (seen : Seen) (target : ℕ) (told : List Told) → IsAvailable (installing seen target told)
installing_calm seen target [] = tt
installing_calm seen target (Told.Placed epoch ∷ told) = placing_calm target epoch told
installing_calm seen target (Told.AlreadyThere ∷ told) = ending_calm Outcome.Here tt told
installing_calm seen target (Told.Away downs ∷ told) = ending_calm (Outcome.Away downs) tt told
installing_calm seen target (_ ∷ told) = ending_calm Outcome.NoMemory tt told

confirming_calm : (seen : Seen) (target : ℕ) (told : List Told) → IsAvailable (confirming seen target told)
confirming_calm seen target [] = tt
confirming_calm seen target (Told.Current ∷ told) = installing_calm seen target told
confirming_calm seen target (Told.Superseded newer ∷ told) = tt
confirming_calm seen target (Told.Reaped point ∷ told) = tt
confirming_calm seen target (_ ∷ told) = ending_calm Outcome.NoMemory tt told

-- ---- a call with its look, or its draw
record CallIsLost (g : Shape) (job : Job) (stripe : ℕ) (missing : List Lost) (told : List Told) : Type 0 where
  looked : Told
  is_look : IsMark looked
  lost : Follows looked (IsLost g job looked stripe missing) told

lost_grows : (g : Shape) (job : Job) (stripe : ℕ) (missing : List Lost) (answer : Told) (told : List Told) → CallIsLost g job stripe missing told → CallIsLost g job stripe missing (answer ∷ told)
lost_grows g job stripe missing answer told h = record { looked = h.looked; is_look = h.is_look; lost = inr h.lost }

-- ---- one gathering, where a stripe's loss is such a fact, or one of what follows
module _ (Loss Since : ℕ → List Lost → List Told → Type 0)
    (since_grows : (stripe : ℕ) (missing : List Lost) (answer : Told) (told : List Told) → Since stripe missing told → Since stripe missing (answer ∷ told)) where
  abbrev HasLoss : Act → List Told → Type 0
  HasLoss (Act.Finish (Outcome.Unavailable stripe missing)) told = Within (Loss stripe missing) told ⊎ Since stripe missing told
  HasLoss act told = Unit {0}

  calm_loss : (act : Act) (told : List Told) → IsAvailable act → HasLoss act told
  calm_loss (Act.Finish (Outcome.Unavailable stripe missing)) told h = absurd h
  calm_loss act told h = tt

  told_before : (answer : Told) (act : Act) (told : List Told) → HasLoss act told → HasLoss act (answer ∷ told)
  told_before answer (Act.Finish (Outcome.Unavailable stripe missing)) told (inl h) = inl (inr h)
  told_before answer (Act.Finish (Outcome.Unavailable stripe missing)) told (inr h) = inr (since_grows stripe missing answer told h)
  told_before answer act told h = tt

  all_before : (front : List Told) (act : Act) (told : List Told) → HasLoss act told → HasLoss act (front ++ told)
  all_before [] act told h = h
  all_before (answer ∷ front) act told h = told_before answer act (front ++ told) (all_before front act told h)

  ending_loss : (stripe : ℕ) (missing : List Lost) (rest told : List Told) → Within (Loss stripe missing) told → HasLoss (ending (Outcome.Unavailable stripe missing) rest) told
  ending_loss stripe missing [] told h = tt
  ending_loss stripe missing (Told.Ended ∷ rest) told h = inl h
  ending_loss stripe missing (Told.Reaped point ∷ rest) told h = tt
  ending_loss stripe missing (_ ∷ rest) told h = calm_loss (ending Outcome.NoMemory rest) told (ending_calm Outcome.NoMemory tt rest)

  module _ (stripe : ℕ) (next : List Told → Act) (since : (told : List Told) → HasLoss (next told) told) where
    result_loss : (g : Shape) (told : List Told) (result : Gathering) → Ends g [] told result
        → ((missing : List Lost) (rest : List Told) → result ≡ Gathering.TooMany missing rest → Within (Loss stripe missing) told) → HasLoss (act_of stripe next result) told
    result_loss g told (Gathering.Asks server step) ends lost = tt
    result_loss g told (Gathering.HasBytes rest) ends lost =
        subst (HasLoss (next rest)) (sym ends.told_is) (all_before ends.front (next rest) rest (since rest))
    result_loss g told (Gathering.TooMany missing rest) ends lost = ending_loss stripe missing rest told (lost missing rest refl)
    result_loss g told (Gathering.AtTarget rest) ends lost = calm_loss (ending Outcome.Here rest) told (ending_calm Outcome.Here tt rest)
    result_loss g told (Gathering.TargetAway downs rest) ends lost = calm_loss (ending (Outcome.Away downs) rest) told (ending_calm (Outcome.Away downs) tt rest)
    result_loss g told (Gathering.Short rest) ends lost = calm_loss (ending Outcome.NoMemory rest) told (ending_calm Outcome.NoMemory tt rest)

-- a fact of the head of a list
at_head : (P : List Told → Type 0) (front rest told : List Told) → told ≡ front ++ rest → P front → Within P told
at_head P front rest told e h = subst (Within P) (sym e) (from_head P (front ++ rest) (begins P front rest h))

-- ---- several gatherings, of the parts that the call gathers
module _ (g : Shape) (job : Job) (looked : Told) where
  abbrev PartLoss : ℕ → List Lost → List Told → Type 0
  PartLoss stripe missing told = PartIsLost g job looked stripe missing told

  abbrev PartsLoss : Act → List Told → Type 0
  PartsLoss = HasLoss PartLoss (CallIsLost g job) (lost_grows g job)

  gathering_loss : (next : List Told → Act) → ((told : List Told) → PartsLoss (next told) told) → (before parts : List Part) → gathers job.note.kind g job.note looked ≡ before ++ parts
      → (told : List Told) → PartsLoss (gathering g parts next told) told
  gathering_loss next since before [] e told = since told
  gathering_loss next since before (part ∷ parts) e (Told.Gathered ∷ told) =
      told_before PartLoss (CallIsLost g job) (lost_grows g job) Told.Gathered (gathering g parts next told) told
      (gathering_loss next since (before ++ part ∷ []) parts (e ∙ sym (append_assoc before (part ∷ []) parts)) told)
  gathering_loss next since before (part ∷ parts) e told =
      result_loss PartLoss (CallIsLost g job) (lost_grows g job) part.seen.stripe (gathering g parts next)
      (gathering_loss next since (before ++ part ∷ []) parts (e ∙ sym (append_assoc before (part ∷ []) parts))) g told (gather_part g part told) (part_ends g part told)
      (λ missing rest same.
      let stop : Stops (gather_part g part) _ missing rest told = part_stops g part told rest missing same in
      at_head (PartLoss part.seen.stripe missing) stop.front rest told stop.is
      (record { before = before; part = part; after = parts; is_gathered = e; of_stripe = refl; comes_to = stop.comes_to }))

-- ---- the prepares of a call, where the versions that it drew are these and all that it was told since is this
flat_push : (placed : List (List Placement)) (row : List Placement) → flat_map (λ (whole : List Placement). whole) (placed ++ row ∷ []) ≡ flat_map (λ (whole : List Placement). whole) placed ++ row
flat_push [] row = append-nil row
flat_push (first ∷ placed) row =
    ap (λ l. first ++ l) (flat_push placed row) ∙ sym (append_assoc first (flat_map (λ (whole : List Placement). whole) placed) row)

module _ (g : Shape) (job : Job) (versions : List ℕ) (whole : List Told) where
  abbrev SkipLoss : Act → Type 0
  SkipLoss (Act.Finish (Outcome.Unavailable stripe missing)) = Within (VersionIsSkipped g job versions stripe missing) whole
  SkipLoss act = Unit {0}

  calm_skip : (act : Act) → IsAvailable act → SkipLoss act
  calm_skip (Act.Finish (Outcome.Unavailable stripe missing)) h = absurd h
  calm_skip act h = tt

  ending_skip : (stripe : ℕ) (missing : List Lost) (told : List Told) → Within (VersionIsSkipped g job versions stripe missing) whole → SkipLoss (ending (Outcome.Unavailable stripe missing) told)
  ending_skip stripe missing [] h = tt
  ending_skip stripe missing (Told.Ended ∷ told) h = h
  ending_skip stripe missing (Told.Reaped point ∷ told) h = tt
  ending_skip stripe missing (_ ∷ told) h = calm_skip (ending Outcome.NoMemory told) (ending_calm Outcome.NoMemory tt told)

  abbrev flat : List (List Placement) → List Placement
  flat placed = flat_map (λ (row : List Placement). row) placed

  -- the rows so far
  record RowsSoFar (stripe : ℕ) (placed : List (List Placement)) : Type 0 where
    rows : All (IsRow g) placed
    of_stripe : stripe ≡ job.note.offset / stripe_length g + length placed

  module _ (stripe version : ℕ) (placed : List (List Placement)) (so_far : RowsSoFar stripe placed) (drawn : length placed < length versions) (next : List Placement → List Told → Act)
      (later : (row : List Placement) → IsRow g row → (told : List Told) → whole ≡ map Told.Prepared (flat placed) ++ (map Told.Prepared row ++ told) → SkipLoss (next row told)) where
    skipped_now : (row : List Placement) (last : Placement) → skipped_count row ≤ g.parity_count → g.parity_count < skipped_count (row ++ last ∷ []) → (told : List Told)
        → whole ≡ map Told.Prepared (flat placed) ++ (map Told.Prepared (row ++ last ∷ []) ++ told)
        → Within (VersionIsSkipped g job versions stripe (skipped_from 0 (row ++ last ∷ []))) whole
    skipped_now row last few many told e =
        let now : List Placement = row ++ last ∷ [] in
        let push : skipped_count now ≤ skipped_count row + 1 = skipped_push row last in
        at_head (VersionIsSkipped g job versions stripe (skipped_from 0 now)) (map Told.Prepared (flat placed) ++ map Told.Prepared now) told whole
        (e ∙ sym (append_assoc (map Told.Prepared (flat placed)) (map Told.Prepared now) told))
        (record {
          placed = placed;
          row = now;
          told_is = refl;
          rows = so_far.rows;
          drawn = drawn;
          of_stripe = so_far.of_stripe;
          too_many = omega (arith, few, push, many);
          skipped = refl;
        })

    preparing_skips : (servers : List ℕ) (row : List Placement) → skipped_count row ≤ g.parity_count → length row + length servers ≡ chunk_count g → (told : List Told)
        → whole ≡ map Told.Prepared (flat placed) ++ (map Told.Prepared row ++ told) → SkipLoss (preparing g stripe version next servers row told)
    preparing_skips [] row few count told e = later row (record { whole = omega (arith, count); enough = few }) told e
    preparing_skips (server ∷ servers) row few count [] e = tt
    preparing_skips (server ∷ servers) row few count (Told.Prepared last ∷ told) e =
        let now : List Placement = row ++ last ∷ [] in
        let same : map Told.Prepared now ++ told ≡ map Told.Prepared row ++ Told.Prepared last ∷ told =
        ap (λ l. l ++ told) (map-append Told.Prepared row (last ∷ [])) ∙ append_assoc (map Told.Prepared row) (Told.Prepared last ∷ []) told in
        let here : whole ≡ map Told.Prepared (flat placed) ++ (map Told.Prepared now ++ told) = e ∙ ap (λ l. map Told.Prepared (flat placed) ++ l) (sym same) in
        let longer : length now ≡ length row + 1 = length-append row (last ∷ []) in
        cond_both {A = Act} (nat_lt g.parity_count (skipped_count now)) (ending (Outcome.Unavailable stripe (skipped_from 0 now)) told) (preparing g stripe version next servers now told) SkipLoss
        (λ many. ending_skip stripe (skipped_from 0 now) told (skipped_now row last few (ltb-true g.parity_count (skipped_count now) many) told here))
        (λ fewer. preparing_skips servers now (ltb-false g.parity_count (skipped_count now) fewer) (omega (arith, longer, count)) told here)
    preparing_skips (server ∷ servers) row few count (_ ∷ told) e = calm_skip (ending Outcome.NoMemory told) (ending_calm Outcome.NoMemory tt told)

  preparing_all_skips : (stripe : ℕ) (left : List ℕ) (placed : List (List Placement)) → RowsSoFar stripe placed → length placed + length left ≡ length versions → (told : List Told)
      → whole ≡ map Told.Prepared (flat placed) ++ told → SkipLoss (preparing_all g stripe left placed told)
  preparing_all_skips stripe [] placed so_far count told e = calm_skip (committing placed told) (committing_calm placed told)
  preparing_all_skips stripe (version ∷ left) placed so_far count told e =
      let n : ℕ = chunk_count g in
      let same : length (range_with_len 0 n) ≡ n = length-range_with_len 0 n in
      preparing_skips stripe version placed so_far (omega (arith, count)) (λ row. preparing_all g (stripe + 1) left (placed ++ row ∷ []))
      (λ row is_row more h.
      let one : length (placed ++ row ∷ []) ≡ length placed + 1 = length-append placed (row ∷ []) in
      preparing_all_skips (stripe + 1) left (placed ++ row ∷ [])
      (record {
        rows = All-push (IsRow g) placed row so_far.rows is_row;
        of_stripe = let old = so_far.of_stripe in omega (arith, old, one);
      })
      (omega (arith, one, count)) more
      (h ∙ sym (append_assoc (map Told.Prepared (flat placed)) (map Told.Prepared row) more)
      ∙ ap (λ l. l ++ more) (sym (ap (map Told.Prepared) (flat_push placed row) ∙ map-append Told.Prepared (flat placed) row))))
      (range_with_len 0 n) [] (omega arith) (omega (arith, same)) told e

module _ (g : Shape) (tries : ℕ) (job : Job) where
  abbrev CallLoss : Act → List Told → Type 0
  CallLoss (Act.Finish (Outcome.Unavailable stripe missing)) told = CallIsLost g job stripe missing told
  CallLoss act told = Unit {0}

  calm_call : (act : Act) (told : List Told) → IsAvailable act → CallLoss act told
  calm_call (Act.Finish (Outcome.Unavailable stripe missing)) told h = absurd h
  calm_call act told h = tt

  call_before : (answer : Told) (act : Act) (told : List Told) → CallLoss act told → CallLoss act (answer ∷ told)
  call_before answer (Act.Finish (Outcome.Unavailable stripe missing)) told h = lost_grows g job stripe missing answer told h
  call_before answer act told h = tt

  after_look : (looked : Told) → IsMark looked → (act : Act) (told : List Told) → HasLoss (IsLost g job looked) (CallIsLost g job) (lost_grows g job) act told → CallLoss act (looked ∷ told)
  after_look looked is_look (Act.Finish (Outcome.Unavailable stripe missing)) told (inl h) =
      record { looked = looked; is_look = is_look; lost = inl (refl, h) }
  after_look looked is_look (Act.Finish (Outcome.Unavailable stripe missing)) told (inr h) = lost_grows g job stripe missing looked told h
  after_look looked is_look act told h = tt

  -- what follows a gathering has its own loss
  as_since : (looked : Told) (act : Act) (told : List Told) → CallLoss act told → HasLoss (PartIsLost g job looked) (CallIsLost g job) (lost_grows g job) act told
  as_since looked (Act.Finish (Outcome.Unavailable stripe missing)) told h = inr h
  as_since looked act told h = tt

  -- ---- a draw, and the prepares after it
  after_draw : (versions : List ℕ) (act : Act) (told : List Told) → SkipLoss g job versions told act → CallLoss act (Told.Versions versions ∷ told)
  after_draw versions (Act.Finish (Outcome.Unavailable stripe missing)) told h = record { looked = Told.Versions versions; is_look = tt; lost = inl (refl, h) }
  after_draw versions act told h = tt

  drawing_loss : (told : List Told) → CallLoss (drawing g job.note told) told
  drawing_loss [] = tt
  drawing_loss (Told.Versions versions ∷ told) =
      let stripe : ℕ = job.note.offset / stripe_length g in
      after_draw versions (preparing_all g stripe versions [] told) told
      (preparing_all_skips g job versions told stripe versions [] (record { rows = All-nil (IsRow g); of_stripe = omega arith }) (omega arith) told refl)
  drawing_loss (Told.Reaped point ∷ told) = tt
  drawing_loss (answer ∷ told) = calm_call (ending Outcome.NoMemory told) (answer ∷ told) (ending_calm Outcome.NoMemory tt told)

  put_loss : (told : List Told) → CallLoss (next_put g job.note told) told
  put_loss [] = tt
  put_loss (Told.Answer point answer ∷ told) = tt
  put_loss (Told.Ready base length_now stripes ∷ told) = call_before (Told.Ready base length_now stripes) (drawing g job.note told) told (drawing_loss told)
  put_loss (Told.Versions versions ∷ told) = calm_call (committed g versions told) (Told.Versions versions ∷ told) (committed_calm g versions told)
  put_loss (_ ∷ told) = tt

  -- ---- a get or a read
  read_loss : ((point length_now : ℕ) (stripes : List Seen) → gathers job.note.kind g job.note (Told.Pinned point length_now stripes) ≡ parts_of g job.note length_now stripes)
      → (told : List Told) → CallLoss (next_read g job.note told) told
  read_loss same [] = tt
  read_loss same (Told.Answer point answer ∷ told) = tt
  read_loss same (Told.Pinned point length_now stripes ∷ told) =
      let parts : List Part = parts_of g job.note length_now stripes in
      let looked : Told = Told.Pinned point length_now stripes in
      after_look looked tt (gathering g parts (ending (Outcome.Served point)) told) told
      (gathering_loss g job looked (ending (Outcome.Served point))
      (λ later. calm_loss (PartIsLost g job looked) (CallIsLost g job) (lost_grows g job) (ending (Outcome.Served point) later) later (ending_calm (Outcome.Served point) tt later)) [] parts (same point length_now stripes) told)
  read_loss same (_ ∷ told) = tt

  -- ---- a write
  module _ (same : (base : Option ℕ) (length_now : ℕ) (stripes : List Seen) → gathers job.note.kind g job.note (Told.Ready base length_now stripes) ≡ old_parts g length_now stripes) where
    trying_loss : (pairs : List (ℕ × ℕ)) (told : List Told) → CallLoss (trying g tries job.note pairs told) told
    trying_loss pairs [] =
        cond_both {A = Act} (nat_lt (length pairs) tries) (Act.AtDirectory (DirectoryStep.Look job.note)) (Act.Finish (Outcome.Contended pairs))
        (λ act. CallLoss act []) (λ _. tt) (λ _. tt)
    trying_loss pairs (Told.Changed base newer ∷ told) =
        call_before (Told.Changed base newer) (trying g tries job.note (pairs ++ (base, newer) ∷ []) told) told (trying_loss (pairs ++ (base, newer) ∷ []) told)
    trying_loss pairs (Told.Answer point answer ∷ told) = tt
    trying_loss pairs (Told.Ready base length_now stripes ∷ told) =
        let parts : List Part = old_parts g length_now stripes in
        let looked : Told = Told.Ready base length_now stripes in
        after_look looked tt (gathering g parts (drawing g job.note) told) told
        (gathering_loss g job looked (drawing g job.note) (λ later. as_since looked (drawing g job.note later) later (drawing_loss later)) [] parts (same base length_now stripes) told)
    trying_loss pairs (Told.Versions versions ∷ told) = calm_call (committed g versions told) (Told.Versions versions ∷ told) (committed_calm g versions told)
    trying_loss pairs (_ ∷ told) = tt

  -- ---- a rebuild
  module _ (some : 0 < g.parity_count) (rebuild : job.note.kind ≡ Kind.Rebuild) where
    abbrev ChunkLoss : Seen → ℕ → List Lost → List Told → Type 0
    ChunkLoss seen stripe missing told = ChunkIsLost g job seen stripe missing told

    abbrev ChunksLoss : Seen → Act → List Told → Type 0
    ChunksLoss seen = HasLoss (ChunkLoss seen) (CallIsLost g job) (lost_grows g job)

    rebuilding_loss : (seen : Seen) (told : List Told) → ChunksLoss seen (rebuilding g seen job.target told) told
    rebuilding_loss seen (Told.Gathered ∷ told) =
        calm_loss (ChunkLoss seen) (CallIsLost g job) (lost_grows g job) (confirming seen job.target told) (Told.Gathered ∷ told) (confirming_calm seen job.target told)
    rebuilding_loss seen told =
        result_loss (ChunkLoss seen) (CallIsLost g job) (lost_grows g job) seen.stripe (confirming seen job.target)
        (λ later. calm_loss (ChunkLoss seen) (CallIsLost g job) (lost_grows g job) (confirming seen job.target later) later (confirming_calm seen job.target later))
        g told (gather_chunk g seen job.target told) (chunk_ends g seen job.target told some)
        (λ missing rest same.
        let stop : Stops (gather_chunk g seen job.target) _ missing rest told = chunk_stops g seen job.target told rest missing same in
        at_head (ChunkLoss seen seen.stripe missing) stop.front rest told stop.is (record { rebuilds = rebuild; of_stripe = refl; comes_to = stop.comes_to }))

    rebuild_loss : (told : List Told) → CallLoss (next_rebuild g job.note job.target told) told
    rebuild_loss [] = tt
    rebuild_loss (Told.NoSuch ∷ told) = tt
    rebuild_loss (Told.PinnedStripe seen ∷ told) = after_look (Told.PinnedStripe seen) tt (rebuilding g seen job.target told) told (rebuilding_loss seen told)
    rebuild_loss (_ ∷ told) = tt

  -- ---- a call of any kind
  module _ (some : 0 < g.parity_count) where
    loss_by : (kind : Kind) → job.note.kind ≡ kind → (told : List Told) → CallLoss (next_by kind g tries job told) told
    loss_by Kind.Put e told = put_loss told
    loss_by Kind.Write e told =
        trying_loss (λ base length_now stripes. ap (λ kind. gathers kind g job.note (Told.Ready base length_now stripes)) e) [] told
    loss_by Kind.Get e told = read_loss (λ point length_now stripes. ap (λ kind. gathers kind g job.note (Told.Pinned point length_now stripes)) e) told
    loss_by Kind.ReadAt e told = read_loss (λ point length_now stripes. ap (λ kind. gathers kind g job.note (Told.Pinned point length_now stripes)) e) told
    loss_by Kind.Stat e told = calm_call (next_single job.note told) told (calm Kind.Stat (λ never. never) g tries job told)
    loss_by Kind.Delete e told = calm_call (next_single job.note told) told (calm Kind.Delete (λ never. never) g tries job told)
    loss_by Kind.Rebuild e told = rebuild_loss some e told

    -- ---- what is lost by what is kept was lost by the answers
    told_of_loss : (stripe : ℕ) (missing : List Lost) (answers : List Told) (looked : Told) → FoundAfter looked (IsLost g job looked stripe missing) answers
        → ToldOfLoss g job stripe missing answers
    told_of_loss stripe missing answers looked f =
        record { looked = looked; front = f.front; told = f.told; since = f.since; answers_are = f.is; look = f.look; lost = f.holds }

    loss_back : (stripe : ℕ) (missing : List Lost) (answers : List Told) → CallIsLost g job stripe missing (fold (tell g job) [] answers) → ToldOfLoss g job stripe missing answers
    loss_back stripe missing answers h =
        told_of_loss stripe missing answers h.looked
        (found_after h.looked (IsLost g job h.looked stripe missing) answers (lost_back g some job h.looked stripe missing answers h.is_look h.lost))

    pub was_told_of_loss : (stripe : ℕ) (missing : List Lost) (answers : List Told) → act_after g tries job answers ≡ Act.Finish (Outcome.Unavailable stripe missing)
        → ToldOfLoss g job stripe missing answers
    was_told_of_loss stripe missing answers e =
        loss_back stripe missing answers
        (subst (λ act. CallLoss act (fold (tell g job) [] answers)) e (loss_by job.note.kind refl (fold (tell g job) [] answers)))

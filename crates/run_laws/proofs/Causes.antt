-- Each outcome has its cause.
use Rattle.std.proofs.Common.{◌≡◌, ℕ, ◌+◌, ◌/◌, ◌<◌, ◌≤◌, nat_lt, arith, List, [], ◌∷◌, ◌++◌, length, map, refl, sym, ap, subst, ◌∙◌, inl, inr}
use Rattle.std.proofs.lemmas.Bool.{cond_both, ltb-true, ltb-false, cond-false, le-ltb}
use Rattle.std.proofs.lemmas.List.{append_assoc, append-nil}
use Rattle.std.specs.List.{range_with_len}
use Rattle.clay_grid.specs.Shape.{Shape, chunk_count, stripe_length}
use Rattle.store_map.specs.declared.reply.Reply.TheVariants as reply
use Rattle.store_map.specs.declared.placement.Placement.{Placement}
use Rattle.store_map.specs.declared.placement.Found.TheVariants as found
use Rattle.store_core.specs.Lists.{places_of}
use Rattle.store_core.specs.Told.{Told, Seen}
use Rattle.store_core.specs.Placements.{skipped_from, skipped_count}
use Rattle.store_core.specs.Note.{Note, Kind}
use Rattle.store_core.specs.Act.{Act, DirectoryStep, Outcome}
use Rattle.store_core.specs.Gathering.{Gathering, Part}
use Rattle.store_core.specs.GatheringParts.{gather_part, gather_chunk, ending, act_of, gathering}
use Rattle.store_core.specs.Put.{settling, committed, committing, unless_too_few, preparing, preparing_all, drawing, next_put}
use Rattle.store_core.specs.Read.{next_read, next_single, parts_of}
use Rattle.store_core.specs.Write.{old_parts, trying}
use Rattle.store_core.specs.Rebuild.{placing, installing, confirming, rebuilding, next_rebuild}
use Rattle.store_core.specs.NextAct.{Job, next_by, next_act}
use Rattle.run_laws.specs.GatherLaws.{Tells, Ends}
use Rattle.run_laws.specs.CauseLaws.{Replies, PinsAt, IsPlacement, TargetHasIt, TargetIsAway, changes_of, HasCause, IsCaused, OutcomesHaveCauses}
use Rattle.run_laws.proofs.Gatherings.{part_ends, part_target, part_away, chunk_ends}
use Rattle.run_laws.proofs.Skips.{length-skipped, skipped_push}

-- what some later part tells the whole list tells too
abbrev Into : List Told → List Told → Type 1
Into part whole = (P : Told → Type 0) → Tells P part → Tells P whole

abbrev after : {answer : Told} (told whole : List Told) → Into (answer ∷ told) whole → Into told whole
after told whole into P h = into P (inr h)

nothing : (whole : List Told) → Into [] whole
nothing whole P h = absurd h

past : (front rest whole : List Told) → Into (front ++ rest) whole → Into rest whole
past [] rest whole into = into
past (answer ∷ front) rest whole into = past front rest whole (λ P h. into P (inr h))

cut_into : (told front rest whole : List Told) → told ≡ front ++ rest → Into told whole → Into (front ++ rest) whole
cut_into told front rest whole e into P h = into P (subst (Tells P) (sym e) h)

module _ (g : Shape) (tries : ℕ) (whole : List Told) where
  abbrev WithEnd : Outcome → Type 0
  WithEnd outcome = Tells (λ answer. answer ≡ Told.Ended) whole → HasCause g tries outcome whole

  ending_caused : (outcome : Outcome) → WithEnd outcome → (told : List Told) → Into told whole → IsCaused g tries whole (ending outcome told)
  ending_caused outcome h [] into = tt
  ending_caused outcome h (Told.Ended ∷ told) into = h (into (λ answer. answer ≡ Told.Ended) (inl refl))
  ending_caused outcome h (Told.Reaped point ∷ told) into = into (λ answer. answer ≡ Told.Reaped point) (inl refl)
  ending_caused outcome h (_ ∷ told) into = ending_caused Outcome.NoMemory (λ _. tt) told (λ P h. into P (inr h))

  abbrev NextIsCaused : (List Told → Act) → Type 1
  NextIsCaused next = (told : List Told) → Into told whole → IsCaused g tries whole (next told)

  act_caused : (stripe : ℕ) (next : List Told → Act) → NextIsCaused next → (told : List Told) → Into told whole → (result : Gathering) → Ends g [] told result
      → ((rest : List Told) → result ≡ Gathering.AtTarget rest → told ≡ Told.Here ∷ rest → TargetHasIt whole)
      → ((downs : ℕ) (rest : List Told) → result ≡ Gathering.TargetAway downs rest → told ≡ Told.Missing (found.Away downs) ∷ rest → TargetIsAway downs whole) → IsCaused g tries whole (act_of stripe next result)
  act_caused stripe next caused told into (Gathering.Asks server step) h target away = tt
  act_caused stripe next caused told into (Gathering.HasBytes rest) h target away = caused rest (past h.front rest whole (cut_into told h.front rest whole h.told_is into))
  act_caused stripe next caused told into (Gathering.TooMany missing rest) h target away =
      ending_caused (Outcome.Unavailable stripe missing) (λ e. (h.count, e)) rest (past h.front rest whole (cut_into told h.front rest whole h.told_is into))
  act_caused stripe next caused told into (Gathering.AtTarget rest) h target away =
      ending_caused Outcome.Here (λ e. (inl (target rest refl h), e)) rest (after rest whole (λ P later. into P (subst (Tells P) (sym h) later)))
  act_caused stripe next caused told into (Gathering.TargetAway downs rest) h target away =
      ending_caused (Outcome.Away downs) (λ e. (inl (away downs rest refl h), e)) rest (after rest whole (λ P later. into P (subst (Tells P) (sym h) later)))
  act_caused stripe next caused told into (Gathering.Short rest) h target away =
      ending_caused Outcome.NoMemory (λ _. tt) rest (past h.front rest whole (cut_into told h.front rest whole h.told_is into))

  gathering_caused : (parts : List Part) (next : List Told → Act) → NextIsCaused next → (told : List Told) → Into told whole → IsCaused g tries whole (gathering g parts next told)
  gathering_caused [] next caused told into = caused told into
  gathering_caused (part ∷ parts) next caused (Told.Gathered ∷ told) into = gathering_caused parts next caused told (λ P h. into P (inr h))
  gathering_caused (part ∷ parts) next caused told into = act_caused part.seen.stripe (gathering g parts next) (λ later into_later. gathering_caused parts next caused later into_later) told into (gather_part g part told) (part_ends g part told) (λ rest e h. absurd (part_target g part told rest e)) (λ downs rest e h. absurd (part_away g part downs told rest e))

  settling_caused : (point : ℕ) → Tells (Replies point reply.Done) whole → (places : List (ℕ × ℕ)) (told : List Told) → IsCaused g tries whole (settling point places told)
  settling_caused point h [] told = h
  settling_caused point h (place ∷ places) [] = tt
  settling_caused point h (place ∷ places) (_ ∷ told) = settling_caused point h places told

  committed_caused : (versions : List ℕ) (told : List Told) → Into told whole → IsCaused g tries whole (committed g versions told)
  committed_caused versions (Told.Done point ∷ told) into =
      settling_caused point (into (Replies point reply.Done) (inl (refl, refl))) (places_of (chunk_count g) versions) told
  committed_caused versions told into = tt

  committing_caused : (placed : List (List Placement)) (told : List Told) → Into told whole → IsCaused g tries whole (committing placed told)
  committing_caused placed [] into = tt
  committing_caused placed (Told.Reaped point ∷ told) into = into (λ answer. answer ≡ Told.Reaped point) (inl refl)
  committing_caused placed (_ ∷ told) into = ending_caused Outcome.NoMemory (λ _. tt) told (λ P h. into P (inr h))

  unless_caused : (stripe : ℕ) (row : List Placement) (last : Placement) → skipped_count row ≤ g.parity_count → (told : List Told) → Into told whole → (otherwise : Act)
      → (skipped_count (row ++ last ∷ []) ≤ g.parity_count → IsCaused g tries whole otherwise) → IsCaused g tries whole (unless_too_few g stripe (row ++ last ∷ []) told otherwise)
  unless_caused stripe row last few told into otherwise rest =
      let now : List Placement = row ++ last ∷ [] in
      let push : skipped_count now ≤ skipped_count row + 1 = skipped_push row last in
      let count : length (skipped_from 0 now) ≡ skipped_count now = length-skipped 0 now in
      cond_both {A = Act} (nat_lt g.parity_count (skipped_count now)) (ending (Outcome.Unavailable stripe (skipped_from 0 now)) told) otherwise (IsCaused g tries whole)
      (λ many. let more : g.parity_count < skipped_count now = ltb-true g.parity_count (skipped_count now) many in
      ending_caused (Outcome.Unavailable stripe (skipped_from 0 now)) (λ e. (omega (arith, few, push, count, more), e)) told into)
      (λ less. let fewer : skipped_count now ≤ g.parity_count = ltb-false g.parity_count (skipped_count now) less in rest fewer)

  preparing_caused : (stripe version : ℕ) (next : List Placement → List Told → Act) → ((row : List Placement) → NextIsCaused (next row))
      → (servers : List ℕ) (row : List Placement) → skipped_count row ≤ g.parity_count → NextIsCaused (preparing g stripe version next servers row)
  preparing_caused stripe version next since [] row few told into = since row told into
  preparing_caused stripe version next since (server ∷ servers) row few [] into = tt
  preparing_caused stripe version next since (server ∷ servers) row few (Told.Prepared last ∷ told) into =
      unless_caused stripe row last few told (λ P h. into P (inr h)) (preparing g stripe version next servers (row ++ last ∷ []) told)
      (λ fewer. preparing_caused stripe version next since servers (row ++ last ∷ []) fewer told (λ P h. into P (inr h)))
  preparing_caused stripe version next since (server ∷ servers) row few (_ ∷ told) into = ending_caused Outcome.NoMemory (λ _. tt) told (λ P h. into P (inr h))

  preparing_all_caused : (stripe : ℕ) (versions : List ℕ) (placed : List (List Placement)) → NextIsCaused (preparing_all g stripe versions placed)
  preparing_all_caused stripe [] placed told into = committing_caused placed told into
  preparing_all_caused stripe (version ∷ versions) placed told into =
      preparing_caused stripe version (λ row. preparing_all g (stripe + 1) versions (placed ++ row ∷ [])) (λ row. preparing_all_caused (stripe + 1) versions (placed ++ row ∷ []))
      (range_with_len 0 (chunk_count g)) [] (omega arith) told into

  drawing_caused : (note : Note) → NextIsCaused (drawing g note)
  drawing_caused note [] into = tt
  drawing_caused note (Told.Versions versions ∷ told) into = preparing_all_caused (note.offset / stripe_length g) versions [] told (λ P h. into P (inr h))
  drawing_caused note (Told.Reaped point ∷ told) into = into (λ answer. answer ≡ Told.Reaped point) (inl refl)
  drawing_caused note (_ ∷ told) into = ending_caused Outcome.NoMemory (λ _. tt) told (λ P h. into P (inr h))

  put_caused : (note : Note) (told : List Told) → Into told whole → IsCaused g tries whole (next_put g note told)
  put_caused note [] into = tt
  put_caused note (Told.Answer point answer ∷ told) into = into (Replies point answer) (inl (refl, refl))
  put_caused note (Told.Ready base length stripes ∷ told) into = drawing_caused note told (λ P h. into P (inr h))
  put_caused note (Told.Versions versions ∷ told) into = committed_caused versions told (λ P h. into P (inr h))
  put_caused note (_ ∷ told) into = tt

  read_caused : (note : Note) (told : List Told) → Into told whole → IsCaused g tries whole (next_read g note told)
  read_caused note [] into = tt
  read_caused note (Told.Answer point answer ∷ told) into = into (Replies point answer) (inl (refl, refl))
  read_caused note (Told.Pinned point length stripes ∷ told) into =
      gathering_caused (parts_of g note length stripes) (ending (Outcome.Served point))
      (ending_caused (Outcome.Served point) (λ e. (into (PinsAt point) (inl refl), e))) told (λ P h. into P (inr h))
  read_caused note (_ ∷ told) into = tt

  single_caused : (note : Note) (told : List Told) → Into told whole → IsCaused g tries whole (next_single note told)
  single_caused note [] into = tt
  single_caused note (Told.Answer point answer ∷ told) into = into (Replies point answer) (inl (refl, refl))
  single_caused note (_ ∷ told) into = tt

  trying_caused : (note : Note) (pairs : List (ℕ × ℕ)) (told : List Told) → changes_of whole ≡ pairs ++ changes_of told → Into told whole
      → IsCaused g tries whole (trying g tries note pairs told)
  trying_caused note pairs [] e into =
      cond_both {A = Act} (nat_lt (length pairs) tries) (Act.AtDirectory (DirectoryStep.Look note)) (Act.Finish (Outcome.Contended pairs)) (IsCaused g tries whole)
      (λ _. tt) (λ few. (sym (e ∙ append-nil pairs), ltb-false (length pairs) tries few))
  trying_caused note pairs (Told.Changed base newer ∷ told) e into =
      trying_caused note (pairs ++ (base, newer) ∷ []) told (e ∙ sym (append_assoc pairs ((base, newer) ∷ []) (changes_of told))) (λ P h. into P (inr h))
  trying_caused note pairs (Told.Answer point answer ∷ told) e into = into (Replies point answer) (inl (refl, refl))
  trying_caused note pairs (Told.Ready base length stripes ∷ told) e into =
      gathering_caused (old_parts g length stripes) (drawing g note) (drawing_caused note) told (λ P h. into P (inr h))
  trying_caused note pairs (Told.Versions versions ∷ told) e into = committed_caused versions told (λ P h. into P (inr h))
  trying_caused note pairs (_ ∷ told) e into = tt

  placing_caused : Tells IsPlacement whole → (target epoch : ℕ) (told : List Told) → Into told whole → IsCaused g tries whole (placing target epoch told)
  placing_caused placed target epoch [] into = tt
  placing_caused placed target epoch (Told.Ended ∷ told) into = (placed, into (λ answer. answer ≡ Told.Ended) (inl refl))
  placing_caused placed target epoch (Told.Reaped point ∷ told) into = into (λ answer. answer ≡ Told.Reaped point) (inl refl)
  placing_caused placed target epoch (_ ∷ told) into = ending_caused Outcome.NoMemory (λ _. tt) told (λ P h. into P (inr h))

  installing_caused : (seen : Seen) (target : ℕ) (told : List Told) → Into told whole → IsCaused g tries whole (installing seen target told)
  installing_caused seen target [] into = tt
  installing_caused seen target (Told.Placed epoch ∷ told) into = placing_caused (into IsPlacement (inl tt)) target epoch told (λ P h. into P (inr h))
  installing_caused seen target (Told.AlreadyThere ∷ told) into =
      ending_caused Outcome.Here (λ e. (inr (into (λ answer. answer ≡ Told.AlreadyThere) (inl refl)), e)) told (λ P h. into P (inr h))
  installing_caused seen target (Told.Away downs ∷ told) into =
      ending_caused (Outcome.Away downs) (λ e. (inr (into (λ answer. answer ≡ Told.Away downs) (inl refl)), e)) told (λ P h. into P (inr h))
  installing_caused seen target (_ ∷ told) into = ending_caused Outcome.NoMemory (λ _. tt) told (λ P h. into P (inr h))

  confirming_caused : (seen : Seen) (target : ℕ) → NextIsCaused (confirming seen target)
  confirming_caused seen target [] into = tt
  confirming_caused seen target (Told.Current ∷ told) into = installing_caused seen target told (λ P h. into P (inr h))
  confirming_caused seen target (Told.Superseded newer ∷ told) into = into (λ answer. answer ≡ Told.Superseded newer) (inl refl)
  confirming_caused seen target (Told.Reaped point ∷ told) into = into (λ answer. answer ≡ Told.Reaped point) (inl refl)
  confirming_caused seen target (_ ∷ told) into = ending_caused Outcome.NoMemory (λ _. tt) told (λ P h. into P (inr h))

  rebuilding_caused : 0 < g.parity_count → (seen : Seen) (target : ℕ) (told : List Told) → whole ≡ Told.PinnedStripe seen ∷ told → Into told whole → IsCaused g tries whole (rebuilding g seen target told)
  rebuilding_caused some seen target (Told.Gathered ∷ told) is into = confirming_caused seen target told (λ P h. into P (inr h))
  rebuilding_caused some seen target told is into =
      act_caused seen.stripe (confirming seen target) (confirming_caused seen target) told into (gather_chunk g seen target told) (chunk_ends g seen target told some)
      (λ rest e h. subst TargetHasIt (sym (is ∙ ap (λ l. Told.PinnedStripe seen ∷ l) h)) tt)
      (λ downs rest e h. subst (TargetIsAway downs) (sym (is ∙ ap (λ l. Told.PinnedStripe seen ∷ l) h)) refl)

  rebuild_caused : 0 < g.parity_count → (note : Note) (target : ℕ) (told : List Told) → whole ≡ told → Into told whole → IsCaused g tries whole (next_rebuild g note target told)
  rebuild_caused some note target [] is into = tt
  rebuild_caused some note target (Told.NoSuch ∷ told) is into = into (λ answer. answer ≡ Told.NoSuch) (inl refl)
  rebuild_caused some note target (Told.PinnedStripe seen ∷ told) is into = rebuilding_caused some seen target told is (λ P h. into P (inr h))
  rebuild_caused some note target (_ ∷ told) is into = tt

causes_by : (kind : Kind) (g : Shape) (tries : ℕ) (job : Job) (told : List Told) → 0 < g.parity_count → IsCaused g tries told (next_by kind g tries job told)
causes_by Kind.Put g tries job told some = put_caused g tries told job.note told (λ P h. h)
causes_by Kind.Write g tries job told some = trying_caused g tries told job.note [] told refl (λ P h. h)
causes_by Kind.Get g tries job told some = read_caused g tries told job.note told (λ P h. h)
causes_by Kind.ReadAt g tries job told some = read_caused g tries told job.note told (λ P h. h)
causes_by Kind.Stat g tries job told some = single_caused g tries told job.note told (λ P h. h)
causes_by Kind.Delete g tries job told some = single_caused g tries told job.note told (λ P h. h)
causes_by Kind.Rebuild g tries job told some = rebuild_caused g tries told some job.note job.target told refl (λ P h. h)

pub causes : (g : Shape) (tries : ℕ) (job : Job) (told : List Told) → 0 < g.parity_count → IsCaused g tries told (next_act g tries job told)
causes g tries job told some = causes_by job.note.kind g tries job told some

changed_all : (g : Shape) (tries : ℕ) (note : Note) (before pairs : List (ℕ × ℕ))
    → trying g tries note before (map (λ (pair : ℕ × ℕ). Told.Changed pair.0 pair.1) pairs) ≡ trying g tries note (before ++ pairs) []
changed_all g tries note before [] = ap (λ pairs. trying g tries note pairs []) (sym (append-nil before))
changed_all g tries note before (pair ∷ pairs) =
    changed_all g tries note (before ++ pair ∷ []) pairs ∙ ap (λ l. trying g tries note l []) (append_assoc before (pair ∷ []) pairs)

pub outcomes_have_causes : OutcomesHaveCauses
outcomes_have_causes =
    record {
      causes = causes;
      all_tries_lost = λ g tries note pairs many.
          changed_all g tries note [] pairs
          ∙ cond-false (nat_lt (length pairs) tries) (Act.AtDirectory (DirectoryStep.Look note)) (Act.Finish (Outcome.Contended pairs)) (le-ltb (length pairs) tries many);
    }

-- A call that was committed settles each chunk, and is answered then.
use Rattle.std.proofs.Common.{◌≡◌, ℕ, zero, suc, ◌*◌, ◌≤◌, Bool, true, false, cond, nat_lt, List, [], ◌∷◌, ◌++◌, length, filter, fold, replicate, refl, sym, ap, subst, ◌∙◌, arith}
use Rattle.std.proofs.lemmas.List.{append_assoc, append-nil, length-replicate}
use Rattle.clay_grid.specs.Shape.{Shape, chunk_count}
use Rattle.store_map.specs.declared.reply.Reply.TheVariants as reply
use Rattle.store_map.specs.declared.placement.Placement.{Placement}
use Rattle.store_core.specs.Lists.{places_of}
use Rattle.store_core.specs.Told.{Told}
use Rattle.store_core.specs.Note.{Note, Kind}
use Rattle.store_core.specs.Act.{Act, DirectoryStep, Outcome}
use Rattle.store_core.specs.Gathering.{Gathering, Part}
use Rattle.store_core.specs.GatheringParts.{gather_part, act_of, gathering}
use Rattle.store_core.specs.Put.{settling, drawing, next_put}
use Rattle.store_core.specs.Write.{old_parts, trying}
use Rattle.store_core.specs.NextAct.{Job, next_by}
use Rattle.store_core.specs.Tell.{is_versions, tell_by}
use Rattle.run_laws.proofs.Asks.{count_places}
use Rattle.run_laws.proofs.Falls.{AtCommit, CommitsRows, IsDrawn, is_drawn, ending_no_commit, committed_no_commit, single_no_commit}
use Rattle.run_laws.proofs.GatheringFalls.{read_no_commit}
use Rattle.run_laws.proofs.RebuildFalls.{rebuild_no_commit}
use Rattle.run_laws.proofs.Filters.{KeepsMarks, part_keeps}

-- a call at its commit was told the versions that it drew once, and commits a row for each of them
pub record Commits (told : List Told) (act : Act) : Type 0 where
  pub drawn : List ℕ
  pub versions : filter is_versions told ≡ Told.Versions drawn ∷ []
  pub rows : CommitsRows (length drawn) act

module _ (g : Shape) where
  drawing_commits : (note : Note) (told : List Told) → AtCommit (drawing g note told) → Commits told (drawing g note told)
  drawing_commits note told h = let facts : IsDrawn g note 0 0 told = is_drawn g note 0 0 told h in record { drawn = facts.drawn; versions = facts.versions; rows = facts.rows }

  result_commits : (stripe : ℕ) (next : List Told → Act) → ((told : List Told) → AtCommit (next told) → Commits told (next told))
      → (told : List Told) (result : Gathering) → KeepsMarks told result → AtCommit (act_of stripe next result) → Commits told (act_of stripe next result)
  result_commits stripe next later told (Gathering.Asks server step) keeps h = absurd h
  result_commits stripe next later told (Gathering.HasBytes rest) keeps h =
      let facts : Commits rest (next rest) = later rest h in record { drawn = facts.drawn; versions = keeps.0 ∙ facts.versions; rows = facts.rows }
  result_commits stripe next later told (Gathering.TooMany missing rest) keeps h = absurd (ending_no_commit (Outcome.Unavailable stripe missing) rest h)
  result_commits stripe next later told (Gathering.AtTarget rest) keeps h = absurd (ending_no_commit Outcome.Here rest h)
  result_commits stripe next later told (Gathering.TargetAway downs rest) keeps h = absurd (ending_no_commit (Outcome.Away downs) rest h)
  result_commits stripe next later told (Gathering.Short rest) keeps h = absurd (ending_no_commit Outcome.NoMemory rest h)

  gathering_commits : (note : Note) (parts : List Part) (told : List Told) → AtCommit (gathering g parts (drawing g note) told) → Commits told (gathering g parts (drawing g note) told)
  gathering_commits note [] told h = drawing_commits note told h
  gathering_commits note (part ∷ parts) (Told.Gathered ∷ told) h =
      let facts : Commits told (gathering g parts (drawing g note) told) = gathering_commits note parts told h in
      record { drawn = facts.drawn; versions = facts.versions; rows = facts.rows }
  gathering_commits note (part ∷ parts) told h =
      result_commits part.seen.stripe (gathering g parts (drawing g note)) (gathering_commits note parts) told (gather_part g part told) (part_keeps g part told) h

  pub put_commits : (note : Note) (told : List Told) → AtCommit (next_put g note told) → Commits told (next_put g note told)
  put_commits note [] h = absurd h
  put_commits note (Told.Answer point given ∷ told) h = absurd h
  put_commits note (Told.Ready base length_now stripes ∷ told) h =
      let facts : Commits told (drawing g note told) = drawing_commits note told h in record { drawn = facts.drawn; versions = facts.versions; rows = facts.rows }
  put_commits note (Told.Versions versions ∷ told) h = absurd (committed_no_commit g versions told h)
  put_commits note (_ ∷ told) h = absurd h

  pub trying_commits : (tries : ℕ) (note : Note) (pairs : List (ℕ × ℕ)) (told : List Told) → AtCommit (trying g tries note pairs told) → Commits told (trying g tries note pairs told)
  trying_commits tries note pairs [] h = absurd (by (nat_lt (length pairs) tries) h)
    where
      by : (b : Bool) → AtCommit (cond b (Act.AtDirectory (DirectoryStep.Look note)) (Act.Finish (Outcome.Contended pairs))) → ⊥
      by true h = h
      by false h = h
  trying_commits tries note pairs (Told.Changed base newer ∷ told) h =
      let facts : Commits told (trying g tries note (pairs ++ (base, newer) ∷ []) told) = trying_commits tries note (pairs ++ (base, newer) ∷ []) told h in
      record { drawn = facts.drawn; versions = facts.versions; rows = facts.rows }
  trying_commits tries note pairs (Told.Answer point given ∷ told) h = absurd h
  trying_commits tries note pairs (Told.Ready base length_now stripes ∷ told) h =
      let facts : Commits told (gathering g (old_parts g length_now stripes) (drawing g note) told) = gathering_commits note (old_parts g length_now stripes) told h in
      record { drawn = facts.drawn; versions = facts.versions; rows = facts.rows }
  trying_commits tries note pairs (Told.Versions versions ∷ told) h = absurd (committed_no_commit g versions told h)
  trying_commits tries note pairs (_ ∷ told) h = absurd h

-- ---- the settles
settling_done : (point : ℕ) (places : List (ℕ × ℕ)) (told : List Told) → length places ≤ length told → settling point places told ≡ Act.Finish (Outcome.Answered point reply.Done)
settling_done point [] told h = refl
settling_done point (place ∷ places) [] h = absurd (omega (arith, h))
settling_done point (place ∷ places) (answer ∷ told) h = settling_done point places told (omega (arith, h))

module _ (g : Shape) (job : Job) (versions : List ℕ) (point : ℕ) where
  settle_told : (kind : Kind) (rest : List Told)
      → tell_by kind g job (Told.Versions versions ∷ Told.Done point ∷ rest) Told.Settled ≡ Told.Versions versions ∷ Told.Done point ∷ (rest ++ Told.Settled ∷ [])
  settle_told Kind.Put rest = refl
  settle_told Kind.Write rest = refl
  settle_told Kind.Get rest = refl
  settle_told Kind.ReadAt rest = refl
  settle_told Kind.Stat rest = refl
  settle_told Kind.Delete rest = refl
  settle_told Kind.Rebuild rest = refl

  settles_told : (kind : Kind) (n : ℕ) (rest : List Told)
      → fold (tell_by kind g job) (Told.Versions versions ∷ Told.Done point ∷ rest) (replicate {A = Told} n Told.Settled)
      ≡ Told.Versions versions ∷ Told.Done point ∷ (rest ++ replicate {A = Told} n Told.Settled)
  settles_told kind zero rest = ap (λ l. Told.Versions versions ∷ Told.Done point ∷ l) (sym (append-nil rest))
  settles_told kind (suc n) rest =
      ap (λ told. fold (tell_by kind g job) told (replicate {A = Told} n Told.Settled)) (settle_told kind rest)
      ∙ settles_told kind n (rest ++ Told.Settled ∷ [])
      ∙ ap (λ l. Told.Versions versions ∷ Told.Done point ∷ l) (append_assoc rest (Told.Settled ∷ []) (replicate {A = Told} n Told.Settled))

-- as many settles as there are places
module _ (g : Shape) (tries : ℕ) (job : Job) (told : List Told) (placed : List (List Placement)) (point : ℕ) where
  abbrev settles : List Told
  settles = replicate {A = Told} (length placed * chunk_count g) Told.Settled

  all_settled : (act : Act) (facts : Commits told act) → act ≡ Act.AtDirectory (DirectoryStep.Commit placed)
      → settling point (places_of (chunk_count g) facts.drawn) settles ≡ Act.Finish (Outcome.Answered point reply.Done)
  all_settled act facts e =
      let rows : length placed ≡ length facts.drawn = subst (CommitsRows (length facts.drawn)) e facts.rows in
      let counted : length (places_of (chunk_count g) facts.drawn) ≡ length facts.drawn * chunk_count g = count_places (chunk_count g) facts.drawn in
      let long : length settles ≡ length placed * chunk_count g = length-replicate (length placed * chunk_count g) Told.Settled in
      let same : length placed * chunk_count g ≡ length facts.drawn * chunk_count g = ap (λ n. n * chunk_count g) rows in
      settling_done point (places_of (chunk_count g) facts.drawn) settles (omega (arith, counted, long, same))

  abbrev told_then : Kind → List Told
  told_then kind = fold (tell_by kind g job) (tell_by kind g job told (Told.Done point)) settles

  then_settled : (kind : Kind) (act : Act) (facts : Commits told act) → told_then kind ≡ Told.Versions facts.drawn ∷ Told.Done point ∷ settles
  then_settled kind act facts =
      ap (λ l. fold (tell_by kind g job) (l ++ Told.Done point ∷ []) settles) facts.versions ∙ settles_told g job facts.drawn point kind (length placed * chunk_count g) []

  pub committed_by : (kind : Kind) → next_by kind g tries job told ≡ Act.AtDirectory (DirectoryStep.Commit placed) → next_by kind g tries job (told_then kind) ≡ Act.Finish (Outcome.Answered point reply.Done)
  committed_by Kind.Put e =
      let facts : Commits told (next_put g job.note told) = put_commits g job.note told (subst AtCommit (sym e) tt) in
      ap (next_put g job.note) (then_settled Kind.Put (next_put g job.note told) facts) ∙ all_settled (next_put g job.note told) facts e
  committed_by Kind.Write e =
      let facts : Commits told (trying g tries job.note [] told) = trying_commits g tries job.note [] told (subst AtCommit (sym e) tt) in
      ap (trying g tries job.note []) (then_settled Kind.Write (trying g tries job.note [] told) facts) ∙ all_settled (trying g tries job.note [] told) facts e
  committed_by Kind.Get e = absurd (read_no_commit g job.note told (subst AtCommit (sym e) tt))
  committed_by Kind.ReadAt e = absurd (read_no_commit g job.note told (subst AtCommit (sym e) tt))
  committed_by Kind.Stat e = absurd (single_no_commit job.note told (subst AtCommit (sym e) tt))
  committed_by Kind.Delete e = absurd (single_no_commit job.note told (subst AtCommit (sym e) tt))
  committed_by Kind.Rebuild e = absurd (rebuild_no_commit g job.note job.target told (subst AtCommit (sym e) tt))

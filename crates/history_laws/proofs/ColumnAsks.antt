-- A call never asks a server for more subchunks than a chunk has.
use Rattle.std.proofs.Common.{◌≡◌, ◌-◌, ◌*◌, Bool, filter, count_by, ℕ, zero, suc, nat_lt, List, [], ◌∷◌, ◌++◌, length, map, All, refl, sym, ap, subst, ◌∙◌, ◌+◌, ◌<◌, ◌≤◌, IsTrue, arith, length-append, ◌/◌}
use Rattle.std.proofs.lemmas.Bool.{cond_both, ltb-true}
use Rattle.std.proofs.lemmas.List.{append-nil, append_assoc}
use Rattle.std.proofs.lemmas.List.Elements.{All-nil, All-cons, All-append}
use Rattle.clay_grid.specs.Shape.{Shape, chunk_count, chunk_length, layer_count, stripe_length}
use Rattle.clay_grid.specs.Repair.{all_layers, repair_layers_of, layers_in_range}
use Rattle.clay_grid.specs.Layers.{layer_of}
use Rattle.std.proofs.lemmas.List.Sums.{length-filter, count_by-le-length}
use Rattle.std.proofs.lemmas.List.FromFn.{length-range_with_len}
use Rattle.store_map.specs.declared.placement.Found.{Found}
use Rattle.store_map.specs.declared.placement.Found.TheVariants as found
use Rattle.store_core.specs.Act.{ServerStep, Act, DirectoryStep, Outcome}
use Rattle.store_core.specs.Gathering.{Gathering, Part, lost_at, unless_too_many, fetching_whole, recovering, fetching_repair, making, looking, servers_but}
use Rattle.store_core.specs.GatheringParts.{chunks_in_range, fetching_data, gather_part, without_target, gather_chunk, ending, act_of, gathering}
use Rattle.store_core.specs.Tell.{in_one, cut_parts}
use Rattle.store_core.specs.Told.{Told, Seen, Lost}
use Rattle.run_laws.specs.NamedServers.{asked_next, found_missing}
use Rattle.run_laws.proofs.Grows.{JustEnded, Grows, part_start, part_grows}
use Rattle.std.specs.List.{range_with_len}
use Rattle.store_core.specs.Placements.{skipped_from, skipped_count}
use Rattle.store_map.specs.declared.placement.Placement.{Placement}
use Rattle.store_core.specs.Lists.{places_of}
use Rattle.store_core.specs.Note.{Kind, Note}
use Rattle.store_core.specs.Put.{settling, committed, committing, preparing, preparing_all, drawing, next_put}
use Rattle.store_core.specs.Read.{parts_of, next_read, next_single}
use Rattle.store_core.specs.Write.{old_parts, trying}
use Rattle.store_core.specs.Rebuild.{placing, installing, confirming, rebuilding, next_rebuild}
use Rattle.store_core.specs.NextAct.{Job, next_by, next_act}
use Rattle.run_laws.specs.AnswerLaws.{is_of_call}
use Rattle.run_laws.specs.StepLaws.{HasTarget}
use Rattle.run_laws.proofs.AskedServers.{IsAsk, AsksWell, part_well, chunk_well}
use Rattle.run_laws.proofs.CallMoves.{changes}

-- a fetch asks for no more subchunks than there are layers
abbrev pub IsSmall : Shape → ServerStep → Type 0
IsSmall g (ServerStep.Fetch version layers) = length layers ≤ layer_count g
IsSmall g step = Unit {0}

abbrev pub ActSmall : Shape → Act → Type 0
ActSmall g (Act.AtServer server step) = IsSmall g step
ActSmall g act = Unit {0}

abbrev AsksSmall : Shape → Gathering → Type 0
AsksSmall g (Gathering.Asks server step) = IsSmall g step
AsksSmall g gathered = Unit {0}

some_layers : (g : Shape) (p : ℕ → Bool) → length (filter p (all_layers g)) ≤ layer_count g
some_layers g p =
    let count : length (filter p (all_layers g)) ≡ count_by p (all_layers g) = length-filter p (all_layers g) in
    let most : count_by p (all_layers g) ≤ length (all_layers g) = count_by-le-length p (all_layers g) in
    let all : length (all_layers g) ≡ layer_count g = length-range_with_len 0 (layer_count g) in
    omega (arith, count, most, all)

whole_chunk : (g : Shape) → length (all_layers g) ≤ layer_count g
whole_chunk g = let all : length (all_layers g) ≡ layer_count g = length-range_with_len 0 (layer_count g) in omega (arith, all)

repair_chunk : (g : Shape) (chunk : ℕ) → length (repair_layers_of g chunk) ≤ layer_count g
repair_chunk g chunk = some_layers g _

range_chunk : (g : Shape) (start end : ℕ) → length (layers_in_range g start end) ≤ layer_count g
range_chunk g start end = some_layers g _

module _ (g : Shape) (seen : Seen) where
  unless_small : (missing : List Lost) (told : List Told) (otherwise : Gathering) → AsksSmall g otherwise → AsksSmall g (unless_too_many g seen missing told otherwise)
  unless_small missing told otherwise h =
      cond_both {A = Gathering} (nat_lt g.parity_count (length missing)) (Gathering.TooMany missing told) otherwise (AsksSmall g) (λ _. tt) (λ _. h)

  whole_small : (servers : List ℕ) (wanted : ℕ) (missing : List Lost) (told : List Told) → AsksSmall g (fetching_whole g seen servers wanted missing told)
  whole_small servers zero missing told = tt
  whole_small [] (suc wanted) missing told = tt
  whole_small (server ∷ more) (suc wanted) missing [] = whole_chunk g
  whole_small (server ∷ more) (suc wanted) missing (Told.Given layers ∷ told) = whole_small more wanted missing told
  whole_small (server ∷ more) (suc wanted) missing (Told.Missing found ∷ told) =
      let marked : List Lost = missing ++ lost_at g seen server found ∷ [] in
      unless_small marked told (fetching_whole g seen more (suc wanted) marked told) (whole_small more (suc wanted) marked told)
  whole_small (server ∷ more) (suc wanted) missing (_ ∷ told) = tt

  repair_small : (servers : List ℕ) (lost : Lost) (told : List Told) → AsksSmall g (fetching_repair g seen servers lost told)
  repair_small [] lost told = tt
  repair_small (server ∷ more) lost [] = repair_chunk g lost.server
  repair_small (server ∷ more) lost (Told.Given layers ∷ told) = repair_small more lost told
  repair_small (server ∷ more) lost (Told.Missing found ∷ told) =
      let marked : List Lost = lost ∷ lost_at g seen server found ∷ [] in
      unless_small marked told (recovering g seen marked told) (whole_small (servers_but g seen (map (λ (l : Lost). l.server) marked)) g.data_count marked told)
  repair_small (server ∷ more) lost (_ ∷ told) = tt

  making_small : (missing : List Lost) (told : List Told) → AsksSmall g (making g seen missing told)
  making_small [] told = tt
  making_small (lost ∷ []) told = repair_small (servers_but g seen (lost.server ∷ [])) lost told
  making_small (lost ∷ other ∷ more) told = whole_small (servers_but g seen (map (λ (l : Lost). l.server) (lost ∷ other ∷ more))) g.data_count (lost ∷ other ∷ more) told

  looking_small : (servers : List ℕ) (missing : List Lost) (told : List Told) → AsksSmall g (looking g seen servers missing told)
  looking_small [] missing told = making_small missing told
  looking_small (server ∷ more) missing [] = tt
  looking_small (server ∷ more) missing (Told.Here ∷ told) = looking_small more missing told
  looking_small (server ∷ more) missing (Told.Missing found ∷ told) =
      let marked : List Lost = missing ++ lost_at g seen server found ∷ [] in
      unless_small marked told (looking g seen more marked told) (looking_small more marked told)
  looking_small (server ∷ more) missing (_ ∷ told) = tt

module _ (g : Shape) (part : Part) where
  data_small : (servers : List ℕ) (missing : List Lost) (told : List Told) → AsksSmall g (fetching_data g part servers missing told)
  data_small [] [] told = tt
  data_small [] (lost ∷ more) told = looking_small g part.seen (servers_but g part.seen (chunks_in_range g part.start part.end)) (lost ∷ more) told
  data_small (server ∷ more) missing [] = range_chunk g (part.start - server * chunk_length g) (part.end - server * chunk_length g)
  data_small (server ∷ more) missing (Told.Given layers ∷ told) = data_small more missing told
  data_small (server ∷ more) missing (Told.Missing found ∷ told) =
      let marked : List Lost = missing ++ lost_at g part.seen server found ∷ [] in
      unless_small g part.seen marked told (fetching_data g part more marked told) (data_small more marked told)
  data_small (server ∷ more) missing (_ ∷ told) = tt

  pub part_small : (told : List Told) → AsksSmall g (gather_part g part told)
  part_small told = data_small (chunks_in_range g part.start part.end) [] told

without_small : (g : Shape) (seen : Seen) (target : ℕ) (found : Found) (told : List Told) → AsksSmall g (without_target g seen target found told)
without_small g seen target (found.Absent epoch) told = looking_small g seen (servers_but g seen (target ∷ [])) (lost_at g seen target (found.Absent epoch) ∷ []) told
without_small g seen target (found.Away downs) told = tt

pub chunk_small : (g : Shape) (seen : Seen) (target : ℕ) (told : List Told) → AsksSmall g (gather_chunk g seen target told)
chunk_small g seen target [] = tt
chunk_small g seen target (Told.Here ∷ told) = tt
chunk_small g seen target (Told.Missing found ∷ told) = without_small g seen target found told
chunk_small g seen target (_ ∷ told) = tt

module _ (g : Shape) (job : Job) where
  ending_small : (outcome : Outcome) (told : List Told) → ActSmall g (ending outcome told)
  ending_small outcome [] = tt
  ending_small outcome (Told.Ended ∷ told) = tt
  ending_small outcome (Told.Reaped point ∷ told) = tt
  ending_small outcome (_ ∷ told) = ending_small Outcome.NoMemory told

  settling_small : (point : ℕ) (places : List (ℕ × ℕ)) (told : List Told) → ActSmall g (settling point places told)
  settling_small point [] told = tt
  settling_small point (place ∷ places) [] = tt
  settling_small point (place ∷ places) (_ ∷ told) = settling_small point places told

  committed_small : (versions : List ℕ) (told : List Told) → ActSmall g (committed g versions told)
  committed_small versions [] = tt
  committed_small versions (Told.Done point ∷ told) = settling_small point (places_of (chunk_count g) versions) told
  committed_small versions (_ ∷ told) = tt

  committing_small : (placed : List (List Placement)) (told : List Told) → ActSmall g (committing placed told)
  committing_small placed [] = tt
  committing_small placed (Told.Reaped point ∷ told) = tt
  committing_small placed (_ ∷ told) = ending_small Outcome.NoMemory told

  preparing_small : (stripe version : ℕ) (next : List Placement → List Told → Act) → ((row : List Placement) (told : List Told) → ActSmall g (next row told))
      → (servers : List ℕ) (row : List Placement) (told : List Told)
      → ActSmall g (preparing g stripe version next servers row told)
  preparing_small stripe version next after [] row told = after row told
  preparing_small stripe version next after (server ∷ servers) row [] = tt
  preparing_small stripe version next after (server ∷ servers) row (Told.Prepared last ∷ told) =
      let now : List Placement = row ++ last ∷ [] in
      let outcome : Outcome = Outcome.Unavailable stripe (skipped_from 0 now) in
      cond_both {A = Act} (nat_lt g.parity_count (skipped_count now)) (ending outcome told) (preparing g stripe version next servers now told) (ActSmall g)
      (λ _. ending_small outcome told) (λ _. preparing_small stripe version next after servers now told)
  preparing_small stripe version next after (server ∷ servers) row (_ ∷ told) = ending_small Outcome.NoMemory told

  preparing_all_small : (stripe : ℕ) (versions : List ℕ) (placed : List (List Placement)) (told : List Told) → ActSmall g (preparing_all g stripe versions placed told)
  preparing_all_small stripe [] placed told = committing_small placed told
  preparing_all_small stripe (version ∷ versions) placed told =
      preparing_small stripe version (λ row. preparing_all g (stripe + 1) versions (placed ++ row ∷ [])) (λ row. preparing_all_small (stripe + 1) versions (placed ++ row ∷ []))
      (range_with_len 0 (chunk_count g)) [] told

  drawing_small : (note : Note) (told : List Told) → ActSmall g (drawing g note told)
  drawing_small note [] = tt
  drawing_small note (Told.Versions versions ∷ told) = preparing_all_small (note.offset / stripe_length g) versions [] told
  drawing_small note (Told.Reaped point ∷ told) = tt
  drawing_small note (_ ∷ told) = ending_small Outcome.NoMemory told

  -- ---- gatherings
  result_small : (stripe : ℕ) (next : List Told → Act) → ((told : List Told) → ActSmall g (next told)) → (result : Gathering) → AsksSmall g result
      → ActSmall g (act_of stripe next result)
  result_small stripe next after (Gathering.Asks server step) well = well
  result_small stripe next after (Gathering.HasBytes told) well = after told
  result_small stripe next after (Gathering.TooMany missing told) well = ending_small (Outcome.Unavailable stripe missing) told
  result_small stripe next after (Gathering.AtTarget told) well = ending_small Outcome.Here told
  result_small stripe next after (Gathering.TargetAway downs told) well = ending_small (Outcome.Away downs) told
  result_small stripe next after (Gathering.Short told) well = ending_small Outcome.NoMemory told

  -- a gathering asks servers that there are, and then does what follows it
  gathering_small : (next : List Told → Act) → ((told : List Told) → ActSmall g (next told)) → (parts : List Part) (told : List Told) → ActSmall g (gathering g parts next told)
  gathering_small next after [] told = after told
  gathering_small next after (part ∷ parts) [] = result_small part.seen.stripe (gathering g parts next) (gathering_small next after parts) (gather_part g part []) (part_small g part [])
  gathering_small next after (part ∷ parts) (Told.Gathered ∷ told) = gathering_small next after parts told
  gathering_small next after (part ∷ parts) (other ∷ told) =
      result_small part.seen.stripe (gathering g parts next) (gathering_small next after parts) (gather_part g part (other ∷ told)) (part_small g part (other ∷ told))

  -- ---- a rebuild
  placing_small : (target epoch : ℕ) (told : List Told) → ActSmall g (placing target epoch told)
  placing_small target epoch [] = tt
  placing_small target epoch (Told.Ended ∷ told) = tt
  placing_small target epoch (Told.Reaped point ∷ told) = tt
  placing_small target epoch (_ ∷ told) = ending_small Outcome.NoMemory told

  module _ (seen : Seen) (target : ℕ) where
    installing_small : (told : List Told) → ActSmall g (installing seen target told)
    installing_small [] = tt
    installing_small (Told.Placed epoch ∷ told) = placing_small target epoch told
    installing_small (Told.AlreadyThere ∷ told) = ending_small Outcome.Here told
    installing_small (Told.Away downs ∷ told) = ending_small (Outcome.Away downs) told
    installing_small (_ ∷ told) = ending_small Outcome.NoMemory told

    confirming_small : (told : List Told) → ActSmall g (confirming seen target told)
    confirming_small [] = tt
    confirming_small (Told.Current ∷ told) = installing_small told
    confirming_small (Told.Superseded newer ∷ told) = tt
    confirming_small (Told.Reaped point ∷ told) = tt
    confirming_small (_ ∷ told) = ending_small Outcome.NoMemory told

    chunk_act : (told : List Told) → ActSmall g (act_of seen.stripe (confirming seen target) (gather_chunk g seen target told))
    chunk_act told = result_small seen.stripe (confirming seen target) confirming_small (gather_chunk g seen target told) (chunk_small g seen target told)

    rebuilding_small : (told : List Told) → ActSmall g (rebuilding g seen target told)
    rebuilding_small [] = chunk_act []
    rebuilding_small (Told.Gathered ∷ told) = confirming_small told
    rebuilding_small (other ∷ told) = chunk_act (other ∷ told)

  rebuild_small : (target : ℕ) (told : List Told) → ActSmall g (next_rebuild g job.note target told)
  rebuild_small target [] = tt
  rebuild_small target (Told.NoSuch ∷ told) = tt
  rebuild_small target (Told.PinnedStripe seen ∷ told) = rebuilding_small seen target told
  rebuild_small target (_ ∷ told) = tt

  -- ---- the other kinds
  put_small : (told : List Told) → ActSmall g (next_put g job.note told)
  put_small [] = tt
  put_small (Told.Answer point reply ∷ told) = tt
  put_small (Told.Ready base length_now stripes ∷ told) = drawing_small job.note told
  put_small (Told.Versions versions ∷ told) = committed_small versions told
  put_small (_ ∷ told) = tt

  read_small : (told : List Told) → ActSmall g (next_read g job.note told)
  read_small [] = tt
  read_small (Told.Answer point reply ∷ told) = tt
  read_small (Told.Pinned point length_now stripes ∷ told) =
      gathering_small (ending (Outcome.Served point)) (ending_small (Outcome.Served point)) (parts_of g job.note length_now stripes) told
  read_small (_ ∷ told) = tt

  single_small : (told : List Told) → ActSmall g (next_single job.note told)
  single_small [] = tt
  single_small (Told.Answer point reply ∷ told) = tt
  single_small (_ ∷ told) = tt

  -- the look of a write comes while changes are fewer than tries
  trying_small : (tries : ℕ) (pairs : List (ℕ × ℕ)) (told : List Told) → ActSmall g (trying g tries job.note pairs told)
  trying_small tries pairs [] =
      cond_both {A = Act} (nat_lt (length pairs) tries) (Act.AtDirectory (DirectoryStep.Look job.note)) (Act.Finish (Outcome.Contended pairs)) (ActSmall g) (λ _. tt) (λ _. tt)
  trying_small tries pairs (Told.Changed base newer ∷ told) =
      trying_small tries (pairs ++ (base, newer) ∷ []) told
  trying_small tries pairs (Told.Answer point reply ∷ told) = tt
  trying_small tries pairs (Told.Ready base length_now stripes ∷ told) =
      gathering_small (drawing g job.note) (drawing_small job.note) (old_parts g length_now stripes) told
  trying_small tries pairs (Told.Versions versions ∷ told) = committed_small versions told
  trying_small tries pairs (_ ∷ told) = tt

small_by : (kind : Kind) (g : Shape) (tries : ℕ) (job : Job) (told : List Told) → ActSmall g (next_by kind g tries job told)
small_by Kind.Put g tries job told = put_small g job told
small_by Kind.Write g tries job told = trying_small g job tries [] told
small_by Kind.Get g tries job told = read_small g job told
small_by Kind.ReadAt g tries job told = read_small g job told
small_by Kind.Stat g tries job told = single_small g job told
small_by Kind.Delete g tries job told = single_small g job told
small_by Kind.Rebuild g tries job told = rebuild_small g job job.target told

-- so does each act of a call
pub acts_small : (g : Shape) (tries : ℕ) (job : Job) (told : List Told) → ActSmall g (next_act g tries job told)
acts_small g tries job told = small_by job.note.kind g tries job told

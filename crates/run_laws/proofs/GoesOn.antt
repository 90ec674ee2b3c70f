-- What a call does when it is told more answers to the step that it makes next.
use Rattle.std.proofs.Common.{◌≡◌, ℕ, nat_lt, List, [], ◌∷◌, ◌++◌, length, refl, sym, ap, subst, ◌∙◌, ◌+◌, ◌/◌, Bool, true, false, cond}
use Rattle.std.proofs.lemmas.Bool.{cond_both}
use Rattle.std.proofs.lemmas.List.{append_assoc, append-nil}
use Rattle.std.specs.List.{range_with_len}
use Rattle.store_core.specs.Placements.{skipped_from, skipped_count}
use Rattle.clay_grid.specs.Shape.{Shape, chunk_count, stripe_length}
use Rattle.store_map.specs.declared.placement.Placement.{Placement}
use Rattle.store_core.specs.Lists.{places_of}
use Rattle.store_core.specs.Told.{Told, Seen}
use Rattle.store_core.specs.Note.{Note, Kind}
use Rattle.store_core.specs.Act.{Act, DirectoryStep, ServerStep, Outcome}
use Rattle.store_core.specs.Gathering.{Gathering, Part}
use Rattle.store_core.specs.GatheringParts.{gather_part, gather_chunk, ending, act_of, gathering}
use Rattle.store_core.specs.Put.{settling, committed, committing, preparing, preparing_all, drawing, next_put}
use Rattle.store_core.specs.Read.{next_read, next_single, parts_of}
use Rattle.store_core.specs.Write.{old_parts, trying}
use Rattle.store_core.specs.Rebuild.{placing, installing, confirming, rebuilding, next_rebuild}
use Rattle.store_core.specs.NextAct.{Job, next_by}
use Rattle.store_core.specs.Tell.{in_one, cut_parts, cut_read, cut_write, cut_chunk, cut_rebuild, cut_by}
use Rattle.run_laws.proofs.Grows.{Grows, part_grows, chunk_grows}
use Rattle.run_laws.proofs.GatheringFalls.{IsPlain}
use Rattle.run_laws.proofs.Questions.{IsQuestion, AsksSo, part_so, chunk_so}
use Rattle.run_laws.proofs.Short.{WhereAsking}

-- ---- a gathering that has ended is left as it was by more answers
abbrev pub GrowsBy : List Told → Gathering → Gathering → Type 0
GrowsBy more (Gathering.Asks server step) later = Unit {0}
GrowsBy more (Gathering.HasBytes rest) later = later ≡ Gathering.HasBytes (rest ++ more)
GrowsBy more (Gathering.TooMany missing rest) later = later ≡ Gathering.TooMany missing (rest ++ more)
GrowsBy more (Gathering.AtTarget rest) later = later ≡ Gathering.AtTarget (rest ++ more)
GrowsBy more (Gathering.TargetAway downs rest) later = later ≡ Gathering.TargetAway downs (rest ++ more)
GrowsBy more (Gathering.Short rest) later = later ≡ Gathering.Short (rest ++ more)

no_more : (now : Gathering) → GrowsBy [] now now
no_more (Gathering.Asks server step) = tt
no_more (Gathering.HasBytes rest) = ap Gathering.HasBytes (sym (append-nil rest))
no_more (Gathering.TooMany missing rest) = ap (Gathering.TooMany missing) (sym (append-nil rest))
no_more (Gathering.AtTarget rest) = ap Gathering.AtTarget (sym (append-nil rest))
no_more (Gathering.TargetAway downs rest) = ap (Gathering.TargetAway downs) (sym (append-nil rest))
no_more (Gathering.Short rest) = ap Gathering.Short (sym (append-nil rest))

one_more : (answer : Told) (more : List Told) (now next later : Gathering) → Grows answer now next → GrowsBy more next later → GrowsBy (answer ∷ more) now later
one_more answer more (Gathering.Asks server step) next later one rest = tt
one_more answer more (Gathering.HasBytes told) next later one rest =
    subst (λ (n : Gathering). GrowsBy more n later) one rest ∙ ap Gathering.HasBytes (append_assoc told (answer ∷ []) more)
one_more answer more (Gathering.TooMany missing told) next later one rest =
    subst (λ (n : Gathering). GrowsBy more n later) one rest ∙ ap (Gathering.TooMany missing) (append_assoc told (answer ∷ []) more)
one_more answer more (Gathering.AtTarget told) next later one rest =
    subst (λ (n : Gathering). GrowsBy more n later) one rest ∙ ap Gathering.AtTarget (append_assoc told (answer ∷ []) more)
one_more answer more (Gathering.TargetAway downs told) next later one rest =
    subst (λ (n : Gathering). GrowsBy more n later) one rest ∙ ap (Gathering.TargetAway downs) (append_assoc told (answer ∷ []) more)
one_more answer more (Gathering.Short told) next later one rest =
    subst (λ (n : Gathering). GrowsBy more n later) one rest ∙ ap Gathering.Short (append_assoc told (answer ∷ []) more)

pub grows_by : (gather : List Told → Gathering) → ((told : List Told) (answer : Told) → Grows answer (gather told) (gather (told ++ answer ∷ [])))
    → (more told : List Told) → GrowsBy more (gather told) (gather (told ++ more))
grows_by gather grows [] told = subst (λ l. GrowsBy [] (gather told) (gather l)) (sym (append-nil told)) (no_more (gather told))
grows_by gather grows (answer ∷ more) told =
    one_more answer more (gather told) (gather (told ++ answer ∷ [])) (gather (told ++ answer ∷ more)) (grows told answer)
    (subst (λ l. GrowsBy more (gather (told ++ answer ∷ [])) (gather l)) (append_assoc told (answer ∷ []) more) (grows_by gather grows more (told ++ answer ∷ [])))

-- where a gathering asks, nothing is known of it after more answers
pub nothing_came : (now later : Gathering) → WhereAsking (λ _. Unit {0}) now later
nothing_came (Gathering.Asks server step) later = tt
nothing_came (Gathering.HasBytes rest) later = tt
nothing_came (Gathering.TooMany missing rest) later = tt
nothing_came (Gathering.AtTarget rest) later = tt
nothing_came (Gathering.TargetAway downs rest) later = tt
nothing_came (Gathering.Short rest) later = tt

-- ---- what holds of each step that a call makes and of the act after these answers to it; Came is what is known of a gathering that asked
pub record GoesOn (g : Shape) (tries : ℕ) (more : List Told) (Came : Gathering → Type 0) (Q : Act → Act → Type 0) : Type 0 where
  pub finish : (outcome : Outcome) (later : Act) → Q (Act.Finish outcome) later
  pub look_put : (note : Note) → Q (Act.AtDirectory (DirectoryStep.Look note)) (next_put g note more)
  pub look_read : (note : Note) → Q (Act.AtDirectory (DirectoryStep.Look note)) (next_read g note more)
  pub look_single : (note : Note) → Q (Act.AtDirectory (DirectoryStep.Look note)) (next_single note more)
  pub look_try : (note : Note) (pairs : List (ℕ × ℕ)) → Q (Act.AtDirectory (DirectoryStep.Look note)) (trying g tries note pairs more)
  pub look_repair : (note : Note) (target : ℕ) → Q (Act.AtDirectory (DirectoryStep.LookRepair note)) (next_rebuild g note target more)
  pub part : (part : Part) (told : List Told) → WhereAsking Came (gather_part g part told) (gather_part g part (told ++ more))
  pub chunk : (seen : Seen) (target : ℕ) (told : List Told) → WhereAsking Came (gather_chunk g seen target told) (gather_chunk g seen target (told ++ more))
  pub ask :
      (server : ℕ) (step : ServerStep) (stripe : ℕ) (next : List Told → Act) (later : Gathering) → IsQuestion step → Came later →
      Q (Act.AtServer server step) (act_of stripe next later)
  pub draw : (note : Note) → Q (Act.AtDirectory DirectoryStep.Draw) (drawing g note more)
  pub prepare :
      (stripe version : ℕ) (next : List Placement → List Told → Act) (server : ℕ) (servers : List ℕ) (row : List Placement) →
      Q (Act.AtServer server (ServerStep.Prepare version)) (preparing g stripe version next (server ∷ servers) row more)
  pub commit : (placed : List (List Placement)) → Q (Act.AtDirectory (DirectoryStep.Commit placed)) (committing placed more)
  pub settle : (server version : ℕ) (later : Act) → Q (Act.AtServer server (ServerStep.Settle version)) later
  pub end : (outcome : Outcome) → Q (Act.AtDirectory DirectoryStep.End) (ending outcome more)
  pub confirm : (seen : Seen) (target : ℕ) → Q (Act.AtDirectory DirectoryStep.Confirm) (confirming seen target more)
  pub install : (seen : Seen) (target : ℕ) → Q (Act.AtServer target (ServerStep.Install seen.version)) (installing seen target more)
  pub place : (target epoch : ℕ) → Q (Act.AtDirectory (DirectoryStep.Repaired target epoch)) (placing target epoch more)

module _ (g : Shape) (tries : ℕ) (answer : Told) (more : List Told) (plain : IsPlain answer) where
  -- ---- a list of answers that begins a gathering
  first_part : (part : Part) (parts : List Part) (next : List Told → Act)
      → gathering g (part ∷ parts) next (answer ∷ more) ≡ act_of part.seen.stripe (gathering g parts next) (gather_part g part (answer ∷ more))
  first_part part parts next = by answer plain
    where
      by : (answer : Told) → IsPlain answer
          → gathering g (part ∷ parts) next (answer ∷ more) ≡ act_of part.seen.stripe (gathering g parts next) (gather_part g part (answer ∷ more))
      by Told.Gathered plain = absurd plain
      by answer plain = refl

  first_chunk : (seen : Seen) (target : ℕ) → rebuilding g seen target (answer ∷ more) ≡ act_of seen.stripe (confirming seen target) (gather_chunk g seen target (answer ∷ more))
  first_chunk seen target = by answer plain
    where
      by : (answer : Told) → IsPlain answer → rebuilding g seen target (answer ∷ more) ≡ act_of seen.stripe (confirming seen target) (gather_chunk g seen target (answer ∷ more))
      by Told.Gathered plain = absurd plain
      by answer plain = refl

  module _ (Came : Gathering → Type 0) (Q : Act → Act → Type 0) (on : GoesOn g tries (answer ∷ more) Came Q) where
    -- ---- the stages
    ending_on : (outcome : Outcome) (told : List Told) → Q (ending outcome told) (ending outcome (told ++ answer ∷ more))
    ending_on outcome [] = on.end outcome
    ending_on outcome (Told.Ended ∷ told) = on.finish outcome _
    ending_on outcome (Told.Reaped point ∷ told) = on.finish (Outcome.Reaped point) _
    ending_on outcome (_ ∷ told) = ending_on Outcome.NoMemory told

    settling_on : (point : ℕ) (places : List (ℕ × ℕ)) (told : List Told) → Q (settling point places told) (settling point places (told ++ answer ∷ more))
    settling_on point [] told = on.finish _ _
    settling_on point (place ∷ places) [] = on.settle place.0 place.1 _
    settling_on point (place ∷ places) (_ ∷ told) = settling_on point places told

    committed_on : (versions : List ℕ) (told : List Told) → Q (committed g versions told) (committed g versions (told ++ answer ∷ more))
    committed_on versions (Told.Done point ∷ told) = settling_on point (places_of (chunk_count g) versions) told
    committed_on versions [] = on.finish Outcome.NoMemory _
    committed_on versions (_ ∷ told) = on.finish Outcome.NoMemory _

    committing_on : (placed : List (List Placement)) (told : List Told) → Q (committing placed told) (committing placed (told ++ answer ∷ more))
    committing_on placed [] = on.commit placed
    committing_on placed (Told.Reaped point ∷ told) = on.finish (Outcome.Reaped point) _
    committing_on placed (_ ∷ told) = ending_on Outcome.NoMemory told

    unless_on : (b : Bool) (outcome : Outcome) (told : List Told) (now later : Act) → Q now later
        → Q (cond b (ending outcome told) now) (cond b (ending outcome (told ++ answer ∷ more)) later)
    unless_on true outcome told now later h = ending_on outcome told
    unless_on false outcome told now later h = h

    preparing_on : (stripe version : ℕ) (next : List Placement → List Told → Act) → ((row : List Placement) (told : List Told) → Q (next row told) (next row (told ++ answer ∷ more)))
        → (servers : List ℕ) (row : List Placement) (told : List Told)
        → Q (preparing g stripe version next servers row told) (preparing g stripe version next servers row (told ++ answer ∷ more))
    preparing_on stripe version next goes [] row told = goes row told
    preparing_on stripe version next goes (server ∷ servers) row [] = on.prepare stripe version next server servers row
    preparing_on stripe version next goes (server ∷ servers) row (Told.Prepared last ∷ told) =
        let now : List Placement = row ++ last ∷ [] in
        unless_on (nat_lt g.parity_count (skipped_count now)) (Outcome.Unavailable stripe (skipped_from 0 now)) told
        (preparing g stripe version next servers now told) (preparing g stripe version next servers now (told ++ answer ∷ more)) (preparing_on stripe version next goes servers now told)
    preparing_on stripe version next goes (server ∷ servers) row (_ ∷ told) = ending_on Outcome.NoMemory told

    preparing_all_on : (stripe : ℕ) (versions : List ℕ) (placed : List (List Placement)) (told : List Told)
        → Q (preparing_all g stripe versions placed told) (preparing_all g stripe versions placed (told ++ answer ∷ more))
    preparing_all_on stripe [] placed told = committing_on placed told
    preparing_all_on stripe (version ∷ versions) placed told =
        preparing_on stripe version (λ row. preparing_all g (stripe + 1) versions (placed ++ row ∷ [])) (λ row. preparing_all_on (stripe + 1) versions (placed ++ row ∷ []))
        (range_with_len 0 (chunk_count g)) [] told

    drawing_on : (note : Note) (told : List Told) → Q (drawing g note told) (drawing g note (told ++ answer ∷ more))
    drawing_on note [] = on.draw note
    drawing_on note (Told.Versions versions ∷ told) = preparing_all_on (note.offset / stripe_length g) versions [] told
    drawing_on note (Told.Reaped point ∷ told) = on.finish (Outcome.Reaped point) _
    drawing_on note (_ ∷ told) = ending_on Outcome.NoMemory told

    -- one gathering, by what it has come to
    result_on : (stripe : ℕ) (next : List Told → Act) → ((told : List Told) → Q (next told) (next (told ++ answer ∷ more)))
        → (now later : Gathering) → AsksSo now → WhereAsking Came now later → GrowsBy (answer ∷ more) now later → Q (act_of stripe next now) (act_of stripe next later)
    result_on stripe next goes (Gathering.Asks server step) later so came grows = on.ask server step stripe next later so came
    result_on stripe next goes (Gathering.HasBytes rest) later so came grows = subst (λ r. Q (next rest) (act_of stripe next r)) (sym grows) (goes rest)
    result_on stripe next goes (Gathering.TooMany missing rest) later so came grows =
        subst (λ r. Q (ending (Outcome.Unavailable stripe missing) rest) (act_of stripe next r)) (sym grows) (ending_on (Outcome.Unavailable stripe missing) rest)
    result_on stripe next goes (Gathering.AtTarget rest) later so came grows =
        subst (λ r. Q (ending Outcome.Here rest) (act_of stripe next r)) (sym grows) (ending_on Outcome.Here rest)
    result_on stripe next goes (Gathering.TargetAway downs rest) later so came grows =
        subst (λ r. Q (ending (Outcome.Away downs) rest) (act_of stripe next r)) (sym grows) (ending_on (Outcome.Away downs) rest)
    result_on stripe next goes (Gathering.Short rest) later so came grows =
        subst (λ r. Q (ending Outcome.NoMemory rest) (act_of stripe next r)) (sym grows) (ending_on Outcome.NoMemory rest)

    gathering_on : (parts : List Part) (next : List Told → Act) → ((told : List Told) → Q (next told) (next (told ++ answer ∷ more)))
        → (told : List Told) → Q (gathering g parts next told) (gathering g parts next (told ++ answer ∷ more))
    gathering_on [] next goes told = goes told
    gathering_on (part ∷ parts) next goes (Told.Gathered ∷ told) = gathering_on parts next goes told
    gathering_on (part ∷ parts) next goes [] =
        subst (Q (act_of part.seen.stripe (gathering g parts next) (gather_part g part []))) (sym (first_part part parts next))
        (result_on part.seen.stripe (gathering g parts next) (gathering_on parts next goes) (gather_part g part []) (gather_part g part (answer ∷ more))
        (part_so g part []) (on.part part []) (grows_by (gather_part g part) (part_grows g part) (answer ∷ more) []))
    gathering_on (part ∷ parts) next goes told =
        result_on part.seen.stripe (gathering g parts next) (gathering_on parts next goes) (gather_part g part told) (gather_part g part (told ++ answer ∷ more))
        (part_so g part told) (on.part part told) (grows_by (gather_part g part) (part_grows g part) (answer ∷ more) told)

    -- ---- the calls
    put_on : (note : Note) (told : List Told) → Q (next_put g note told) (next_put g note (told ++ answer ∷ more))
    put_on note [] = on.look_put note
    put_on note (Told.Answer point reply ∷ told) = on.finish (Outcome.Answered point reply) _
    put_on note (Told.Ready base length_now stripes ∷ told) = drawing_on note told
    put_on note (Told.Versions versions ∷ told) = committed_on versions told
    put_on note (_ ∷ told) = on.finish Outcome.NoMemory _

    read_on : (note : Note) (told : List Told) → Q (next_read g note told) (next_read g note (told ++ answer ∷ more))
    read_on note [] = on.look_read note
    read_on note (Told.Answer point reply ∷ told) = on.finish (Outcome.Answered point reply) _
    read_on note (Told.Pinned point length_now stripes ∷ told) =
        gathering_on (parts_of g note length_now stripes) (ending (Outcome.Served point)) (ending_on (Outcome.Served point)) told
    read_on note (_ ∷ told) = on.finish Outcome.NoMemory _

    single_on : (note : Note) (told : List Told) → Q (next_single note told) (next_single note (told ++ answer ∷ more))
    single_on note [] = on.look_single note
    single_on note (Told.Answer point reply ∷ told) = on.finish (Outcome.Answered point reply) _
    single_on note (_ ∷ told) = on.finish Outcome.NoMemory _

    trying_on : (note : Note) (pairs : List (ℕ × ℕ)) (told : List Told) → Q (trying g tries note pairs told) (trying g tries note pairs (told ++ answer ∷ more))
    trying_on note pairs [] =
        cond_both {A = Act} (nat_lt (length pairs) tries) (Act.AtDirectory (DirectoryStep.Look note)) (Act.Finish (Outcome.Contended pairs))
        (λ now. Q now (trying g tries note pairs (answer ∷ more))) (λ _. on.look_try note pairs) (λ _. on.finish (Outcome.Contended pairs) _)
    trying_on note pairs (Told.Changed base newer ∷ told) = trying_on note (pairs ++ (base, newer) ∷ []) told
    trying_on note pairs (Told.Answer point reply ∷ told) = on.finish (Outcome.Answered point reply) _
    trying_on note pairs (Told.Ready base length_now stripes ∷ told) = gathering_on (old_parts g length_now stripes) (drawing g note) (drawing_on note) told
    trying_on note pairs (Told.Versions versions ∷ told) = committed_on versions told
    trying_on note pairs (_ ∷ told) = on.finish Outcome.NoMemory _

    placing_on : (target epoch : ℕ) (told : List Told) → Q (placing target epoch told) (placing target epoch (told ++ answer ∷ more))
    placing_on target epoch [] = on.place target epoch
    placing_on target epoch (Told.Ended ∷ told) = on.finish Outcome.Rebuilt _
    placing_on target epoch (Told.Reaped point ∷ told) = on.finish (Outcome.Reaped point) _
    placing_on target epoch (_ ∷ told) = ending_on Outcome.NoMemory told

    installing_on : (seen : Seen) (target : ℕ) (told : List Told) → Q (installing seen target told) (installing seen target (told ++ answer ∷ more))
    installing_on seen target [] = on.install seen target
    installing_on seen target (Told.Placed epoch ∷ told) = placing_on target epoch told
    installing_on seen target (Told.AlreadyThere ∷ told) = ending_on Outcome.Here told
    installing_on seen target (Told.Away downs ∷ told) = ending_on (Outcome.Away downs) told
    installing_on seen target (_ ∷ told) = ending_on Outcome.NoMemory told

    confirming_on : (seen : Seen) (target : ℕ) (told : List Told) → Q (confirming seen target told) (confirming seen target (told ++ answer ∷ more))
    confirming_on seen target [] = on.confirm seen target
    confirming_on seen target (Told.Current ∷ told) = installing_on seen target told
    confirming_on seen target (Told.Superseded newer ∷ told) = on.finish (Outcome.Superseded newer) _
    confirming_on seen target (Told.Reaped point ∷ told) = on.finish (Outcome.Reaped point) _
    confirming_on seen target (_ ∷ told) = ending_on Outcome.NoMemory told

    rebuilding_on : (seen : Seen) (target : ℕ) (told : List Told) → Q (rebuilding g seen target told) (rebuilding g seen target (told ++ answer ∷ more))
    rebuilding_on seen target (Told.Gathered ∷ told) = confirming_on seen target told
    rebuilding_on seen target [] =
        subst (Q (act_of seen.stripe (confirming seen target) (gather_chunk g seen target []))) (sym (first_chunk seen target))
        (result_on seen.stripe (confirming seen target) (confirming_on seen target) (gather_chunk g seen target []) (gather_chunk g seen target (answer ∷ more))
        (chunk_so g seen target []) (on.chunk seen target []) (grows_by (gather_chunk g seen target) (chunk_grows g seen target) (answer ∷ more) []))
    rebuilding_on seen target told =
        result_on seen.stripe (confirming seen target) (confirming_on seen target) (gather_chunk g seen target told) (gather_chunk g seen target (told ++ answer ∷ more))
        (chunk_so g seen target told) (on.chunk seen target told) (grows_by (gather_chunk g seen target) (chunk_grows g seen target) (answer ∷ more) told)

    rebuild_on : (note : Note) (target : ℕ) (told : List Told) → Q (next_rebuild g note target told) (next_rebuild g note target (told ++ answer ∷ more))
    rebuild_on note target [] = on.look_repair note target
    rebuild_on note target (Told.NoSuch ∷ told) = on.finish Outcome.NoSuch _
    rebuild_on note target (Told.PinnedStripe seen ∷ told) = rebuilding_on seen target told
    rebuild_on note target (_ ∷ told) = on.finish Outcome.NoMemory _

    pub goes_on : (kind : Kind) (job : Job) (told : List Told) → Q (next_by kind g tries job told) (next_by kind g tries job (told ++ answer ∷ more))
    goes_on Kind.Put job told = put_on job.note told
    goes_on Kind.Write job told = trying_on job.note [] told
    goes_on Kind.Get job told = read_on job.note told
    goes_on Kind.ReadAt job told = read_on job.note told
    goes_on Kind.Stat job told = single_on job.note told
    goes_on Kind.Delete job told = single_on job.note told
    goes_on Kind.Rebuild job told = rebuild_on job.note job.target told

  -- ---- a cut changes no act after more answers either
  cut_result : (part : Part) (parts : List Part) (next : List Told → Act)
      → ((told : List Told) → gathering g parts next (cut_parts g parts told ++ answer ∷ more) ≡ gathering g parts next (told ++ answer ∷ more))
      → (told : List Told) (now later : Gathering) → gathering g (part ∷ parts) next (told ++ answer ∷ more) ≡ act_of part.seen.stripe (gathering g parts next) later
      → GrowsBy (answer ∷ more) now later
      → gathering g (part ∷ parts) next (in_one (cut_parts g parts) now told ++ answer ∷ more) ≡ gathering g (part ∷ parts) next (told ++ answer ∷ more)
  cut_result part parts next same told (Gathering.Asks server step) later e grows = refl
  cut_result part parts next same told (Gathering.HasBytes rest) later e grows =
      same rest ∙ sym (e ∙ ap (act_of part.seen.stripe (gathering g parts next)) grows)
  cut_result part parts next same told (Gathering.TooMany missing rest) later e grows = refl
  cut_result part parts next same told (Gathering.AtTarget rest) later e grows = refl
  cut_result part parts next same told (Gathering.TargetAway downs rest) later e grows = refl
  cut_result part parts next same told (Gathering.Short rest) later e grows = refl

  cut_parts_then : (parts : List Part) (next : List Told → Act) (told : List Told)
      → gathering g parts next (cut_parts g parts told ++ answer ∷ more) ≡ gathering g parts next (told ++ answer ∷ more)
  cut_parts_then [] next told = refl
  cut_parts_then (part ∷ parts) next (Told.Gathered ∷ told) = cut_parts_then parts next told
  cut_parts_then (part ∷ parts) next [] =
      cut_result part parts next (cut_parts_then parts next) [] (gather_part g part []) (gather_part g part (answer ∷ more)) (first_part part parts next)
      (grows_by (gather_part g part) (part_grows g part) (answer ∷ more) [])
  cut_parts_then (part ∷ parts) next told =
      cut_result part parts next (cut_parts_then parts next) told (gather_part g part told) (gather_part g part (told ++ answer ∷ more)) refl
      (grows_by (gather_part g part) (part_grows g part) (answer ∷ more) told)

  cut_read_then : (note : Note) (told : List Told) → next_read g note (cut_read g note told ++ answer ∷ more) ≡ next_read g note (told ++ answer ∷ more)
  cut_read_then note (Told.Pinned point length_now stripes ∷ told) = cut_parts_then (parts_of g note length_now stripes) (ending (Outcome.Served point)) told
  cut_read_then note told = refl

  cut_write_then : (note : Note) (pairs : List (ℕ × ℕ)) (told : List Told)
      → trying g tries note pairs (cut_write g told ++ answer ∷ more) ≡ trying g tries note pairs (told ++ answer ∷ more)
  cut_write_then note pairs (Told.Changed base newer ∷ told) = cut_write_then note (pairs ++ (base, newer) ∷ []) told
  cut_write_then note pairs (Told.Ready base length_now stripes ∷ told) = cut_parts_then (old_parts g length_now stripes) (drawing g note) told
  cut_write_then note pairs told = refl

  cut_chunk_result : (seen : Seen) (target : ℕ) (told : List Told) (now later : Gathering)
      → rebuilding g seen target (told ++ answer ∷ more) ≡ act_of seen.stripe (confirming seen target) later → GrowsBy (answer ∷ more) now later
      → rebuilding g seen target (in_one (λ rest. rest) now told ++ answer ∷ more) ≡ rebuilding g seen target (told ++ answer ∷ more)
  cut_chunk_result seen target told (Gathering.Asks server step) later e grows = refl
  cut_chunk_result seen target told (Gathering.HasBytes rest) later e grows = sym (e ∙ ap (act_of seen.stripe (confirming seen target)) grows)
  cut_chunk_result seen target told (Gathering.TooMany missing rest) later e grows = refl
  cut_chunk_result seen target told (Gathering.AtTarget rest) later e grows = refl
  cut_chunk_result seen target told (Gathering.TargetAway downs rest) later e grows = refl
  cut_chunk_result seen target told (Gathering.Short rest) later e grows = refl

  cut_chunk_then : (seen : Seen) (target : ℕ) (told : List Told) → rebuilding g seen target (cut_chunk g seen target told ++ answer ∷ more) ≡ rebuilding g seen target (told ++ answer ∷ more)
  cut_chunk_then seen target (Told.Gathered ∷ told) = refl
  cut_chunk_then seen target [] =
      cut_chunk_result seen target [] (gather_chunk g seen target []) (gather_chunk g seen target (answer ∷ more)) (first_chunk seen target)
      (grows_by (gather_chunk g seen target) (chunk_grows g seen target) (answer ∷ more) [])
  cut_chunk_then seen target told =
      cut_chunk_result seen target told (gather_chunk g seen target told) (gather_chunk g seen target (told ++ answer ∷ more)) refl
      (grows_by (gather_chunk g seen target) (chunk_grows g seen target) (answer ∷ more) told)

  cut_rebuild_then : (note : Note) (target : ℕ) (told : List Told) → next_rebuild g note target (cut_rebuild g target told ++ answer ∷ more) ≡ next_rebuild g note target (told ++ answer ∷ more)
  cut_rebuild_then note target (Told.PinnedStripe seen ∷ told) = cut_chunk_then seen target told
  cut_rebuild_then note target told = refl

  pub cut_then : (kind : Kind) (job : Job) (told : List Told) → next_by kind g tries job (cut_by kind g job told ++ answer ∷ more) ≡ next_by kind g tries job (told ++ answer ∷ more)
  cut_then Kind.Put job told = refl
  cut_then Kind.Write job told = cut_write_then job.note [] told
  cut_then Kind.Get job told = cut_read_then job.note told
  cut_then Kind.ReadAt job told = cut_read_then job.note told
  cut_then Kind.Stat job told = refl
  cut_then Kind.Delete job told = refl
  cut_then Kind.Rebuild job told = cut_rebuild_then job.note job.target told

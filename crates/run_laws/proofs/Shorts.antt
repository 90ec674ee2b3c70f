-- Want of memory in the coding, which is told before a step, leaves a call no more steps.
use Rattle.std.proofs.Common.{◌≡◌, ℕ, ◌+◌, ◌-◌, ◌*◌, ◌≤◌, max, List, [], ◌∷◌, ◌++◌, length, sym, subst, arith, length-append}
use Rattle.clay_grid.specs.Shape.{Shape, chunk_count}
use Rattle.store_core.specs.Lists.{places_of}
use Rattle.store_core.specs.Told.{Told, Seen}
use Rattle.store_core.specs.Note.{Note, Kind}
use Rattle.store_core.specs.Gathering.{Gathering, Part}
use Rattle.store_core.specs.GatheringParts.{gather_part, gather_chunk}
use Rattle.store_core.specs.Read.{parts_of}
use Rattle.store_core.specs.Write.{old_parts}
use Rattle.store_core.specs.NextAct.{Job}
use Rattle.store_core.specs.Tell.{tell_by}
use Rattle.run_laws.specs.StepsLeft.{ending_left, settling_left, committed_left, committing_left, preparing_left, drawing_left, put_left, single_left}
use Rattle.run_laws.specs.GatheringLeft.{result_left, gathering_left, read_left, tries_left, write_left}
use Rattle.run_laws.specs.RebuildLeft.{placing_left, installing_left, confirming_left, rebuilding_left, rebuild_left}
use Rattle.run_laws.specs.CallLeft.{left_by}
use Rattle.run_laws.proofs.Grows.{JustEnded, Grows, part_grows, chunk_grows}
use Rattle.run_laws.proofs.Falls.{settling_start}
use Rattle.run_laws.proofs.GatheringFalls.{gathering_start, read_cut_left}
use Rattle.run_laws.proofs.WriteFalls.{write_cut_left}
use Rattle.run_laws.proofs.RebuildFalls.{rebuild_cut_left}

-- ---- the stages of a call that writes
ending_short : (told : List Told) → ending_left (told ++ Told.Short ∷ []) ≤ ending_left told
ending_short [] = omega arith
ending_short (Told.Ended ∷ told) = omega arith
ending_short (Told.Reaped point ∷ told) = omega arith
ending_short (_ ∷ told) = ending_short told

settling_short : (places : List (ℕ × ℕ)) (told : List Told) → settling_left places (told ++ Told.Short ∷ []) ≤ settling_left places told
settling_short [] told = omega arith
settling_short (place ∷ places) [] = let e : settling_left places [] ≡ length places = settling_start places in omega (arith, e)
settling_short (place ∷ places) (_ ∷ told) = settling_short places told

committed_short : (g : Shape) (versions : List ℕ) (told : List Told) → committed_left g versions (told ++ Told.Short ∷ []) ≤ committed_left g versions told
committed_short g versions (Told.Done point ∷ told) = settling_short (places_of (chunk_count g) versions) told
committed_short g versions [] = omega arith
committed_short g versions (_ ∷ told) = omega arith

committing_short : (after : ℕ) (told : List Told) → committing_left after (told ++ Told.Short ∷ []) ≤ committing_left after told
committing_short after [] = omega arith
committing_short after (Told.Reaped point ∷ told) = omega arith
committing_short after (_ ∷ told) = ending_short told

preparing_short : (after : ℕ) (places : List (ℕ × ℕ)) (told : List Told) → preparing_left after places (told ++ Told.Short ∷ []) ≤ preparing_left after places told
preparing_short after [] told = committing_short after told
preparing_short after (place ∷ places) [] = omega arith
preparing_short after (place ∷ places) (Told.Prepared last ∷ told) = preparing_short after places told
preparing_short after (place ∷ places) (_ ∷ told) = ending_short told

drawing_short : (g : Shape) (tries_after touched : ℕ) (told : List Told) → drawing_left g tries_after touched (told ++ Told.Short ∷ []) ≤ drawing_left g tries_after touched told
drawing_short g tries_after touched [] = let all : ℕ = chunk_count g * touched in omega arith
drawing_short g tries_after touched (Told.Versions versions ∷ told) =
    preparing_short (max tries_after (length (places_of (chunk_count g) versions))) (places_of (chunk_count g) versions) told
drawing_short g tries_after touched (Told.Reaped point ∷ told) = omega arith
drawing_short g tries_after touched (_ ∷ told) = ending_short told

put_short : (g : Shape) (touched : ℕ) (told : List Told) → put_left g touched (told ++ Told.Short ∷ []) ≤ put_left g touched told
put_short g touched [] = omega arith
put_short g touched (Told.Ready base length_now stripes ∷ told) = drawing_short g 0 touched told
put_short g touched (Told.Versions versions ∷ told) = committed_short g versions told
put_short g touched (_ ∷ told) = omega arith

single_short : (told : List Told) → single_left (told ++ Told.Short ∷ []) ≤ single_left told
single_short [] = omega arith
single_short (_ ∷ told) = omega arith

-- ---- one gathering: so many steps after it, by what was told since
module _ (most after : ℕ) (since : List Told → ℕ) (some : 1 ≤ after) (start : since [] ≤ after) where
  just_ended : (count : ℕ) (later : Gathering) → JustEnded later → result_left most (count + 1) after since later ≤ most - count + after
  just_ended count (Gathering.Asks server step) h = omega arith
  just_ended count (Gathering.HasBytes rest) h = subst (λ l. since l ≤ most - count + after) (sym h) (omega (arith, start))
  just_ended count (Gathering.TooMany missing rest) h = subst (λ l. ending_left l ≤ most - count + after) (sym h) (omega (arith, some))
  just_ended count (Gathering.AtTarget rest) h = subst (λ l. ending_left l ≤ most - count + after) (sym h) (omega (arith, some))
  just_ended count (Gathering.TargetAway downs rest) h = subst (λ l. ending_left l ≤ most - count + after) (sym h) (omega (arith, some))
  just_ended count (Gathering.Short rest) h = subst (λ l. ending_left l ≤ most - count + after) (sym h) (omega (arith, some))

  result_short : ((told : List Told) → since (told ++ Told.Short ∷ []) ≤ since told) → (told : List Told) (now later : Gathering) → Grows Told.Short now later
      → result_left most (length (told ++ Told.Short ∷ [])) after since later ≤ result_left most (length told) after since now
  result_short shorts told (Gathering.Asks server step) later grows =
      subst (λ n. result_left most n after since later ≤ most - length told + after) (sym (length-append told (Told.Short ∷ []))) (just_ended (length told) later grows)
  result_short shorts told (Gathering.HasBytes rest) later grows =
      subst (λ r. result_left most (length (told ++ Told.Short ∷ [])) after since r ≤ since rest) (sym grows) (shorts rest)
  result_short shorts told (Gathering.TooMany missing rest) later grows =
      subst (λ r. result_left most (length (told ++ Told.Short ∷ [])) after since r ≤ ending_left rest) (sym grows) (ending_short rest)
  result_short shorts told (Gathering.AtTarget rest) later grows =
      subst (λ r. result_left most (length (told ++ Told.Short ∷ [])) after since r ≤ ending_left rest) (sym grows) (ending_short rest)
  result_short shorts told (Gathering.TargetAway downs rest) later grows =
      subst (λ r. result_left most (length (told ++ Told.Short ∷ [])) after since r ≤ ending_left rest) (sym grows) (ending_short rest)
  result_short shorts told (Gathering.Short rest) later grows =
      subst (λ r. result_left most (length (told ++ Told.Short ∷ [])) after since r ≤ ending_left rest) (sym grows) (ending_short rest)

-- ---- several parts
module _ (g : Shape) (left : List Told → ℕ) (some : 1 ≤ left []) (shorts : (told : List Told) → left (told ++ Told.Short ∷ []) ≤ left told) where
  gathering_short : (parts : List Part) (told : List Told) → gathering_left g parts left (told ++ Told.Short ∷ []) ≤ gathering_left g parts left told
  gathering_short [] told = shorts told
  gathering_short (part ∷ parts) (Told.Gathered ∷ told) = gathering_short parts told
  gathering_short (part ∷ parts) told =
      result_short (3 * chunk_count g) (3 * chunk_count g * length parts + left []) (gathering_left g parts left) (omega (arith, some)) (gathering_start g left some parts)
      (gathering_short parts) told (gather_part g part told) (gather_part g part (told ++ Told.Short ∷ [])) (part_grows g part told Told.Short)

read_short : (g : Shape) (pins : ℕ) (note : Note) (told : List Told) → read_left g pins note (told ++ Told.Short ∷ []) ≤ read_left g pins note told
read_short g pins note [] = omega arith
read_short g pins note (Told.Pinned point length_now stripes ∷ told) =
    gathering_short g ending_left (omega arith) ending_short (parts_of g note length_now stripes) told
read_short g pins note (_ ∷ told) = omega arith

write_short : (g : Shape) (touched tries : ℕ) (told : List Told) → write_left g touched tries (told ++ Told.Short ∷ []) ≤ write_left g touched tries told
write_short g touched tries [] = omega arith
write_short g touched tries (Told.Changed base newer ∷ told) = write_short g touched (tries - 1) told
write_short g touched tries (Told.Ready base length_now stripes ∷ told) =
    let after : ℕ = tries_left g touched (tries - 1) in
    let all : ℕ = chunk_count g * touched in
    gathering_short g (drawing_left g after touched) (omega arith) (drawing_short g after touched) (old_parts g length_now stripes) told
write_short g touched tries (Told.Versions versions ∷ told) = committed_short g versions told
write_short g touched tries (_ ∷ told) = omega arith

-- ---- a rebuild
placing_short : (told : List Told) → placing_left (told ++ Told.Short ∷ []) ≤ placing_left told
placing_short [] = omega arith
placing_short (Told.Ended ∷ told) = omega arith
placing_short (Told.Reaped point ∷ told) = omega arith
placing_short (_ ∷ told) = ending_short told

installing_short : (told : List Told) → installing_left (told ++ Told.Short ∷ []) ≤ installing_left told
installing_short [] = omega arith
installing_short (Told.Placed epoch ∷ told) = placing_short told
installing_short (_ ∷ told) = ending_short told

confirming_short : (told : List Told) → confirming_left (told ++ Told.Short ∷ []) ≤ confirming_left told
confirming_short [] = omega arith
confirming_short (Told.Current ∷ told) = installing_short told
confirming_short (Told.Superseded newer ∷ told) = omega arith
confirming_short (Told.Reaped point ∷ told) = omega arith
confirming_short (_ ∷ told) = ending_short told

rebuilding_short : (g : Shape) (seen : Seen) (target : ℕ) (told : List Told) → rebuilding_left g seen target (told ++ Told.Short ∷ []) ≤ rebuilding_left g seen target told
rebuilding_short g seen target (Told.Gathered ∷ told) = confirming_short told
rebuilding_short g seen target told =
    result_short (3 * chunk_count g - 1) 3 confirming_left (omega arith) (omega arith) confirming_short told
    (gather_chunk g seen target told) (gather_chunk g seen target (told ++ Told.Short ∷ [])) (chunk_grows g seen target told Told.Short)

rebuild_short : (g : Shape) (target : ℕ) (told : List Told) → rebuild_left g target (told ++ Told.Short ∷ []) ≤ rebuild_left g target told
rebuild_short g target [] = omega arith
rebuild_short g target (Told.PinnedStripe seen ∷ told) = rebuilding_short g seen target told
rebuild_short g target (_ ∷ told) = omega arith

-- ---- every kind of call; what is cut of the answers leaves as many steps
pub short_by : (kind : Kind) (g : Shape) (tries pins : ℕ) (job : Job) (told : List Told)
    → left_by kind g tries pins job (tell_by kind g job told Told.Short) ≤ left_by kind g tries pins job told
short_by Kind.Put g tries pins job told = put_short g _ told
short_by Kind.Write g tries pins job told =
    subst (λ n. n ≤ left_by Kind.Write g tries pins job told) (sym (write_cut_left g job.note _ tries (told ++ Told.Short ∷ []))) (write_short g _ tries told)
short_by Kind.Get g tries pins job told =
    subst (λ n. n ≤ read_left g pins job.note told) (sym (read_cut_left g pins 0 job.note (told ++ Told.Short ∷ []))) (read_short g pins job.note told)
short_by Kind.ReadAt g tries pins job told =
    subst (λ n. n ≤ read_left g pins job.note told) (sym (read_cut_left g pins 0 job.note (told ++ Told.Short ∷ []))) (read_short g pins job.note told)
short_by Kind.Stat g tries pins job told = single_short told
short_by Kind.Delete g tries pins job told = single_short told
short_by Kind.Rebuild g tries pins job told =
    subst (λ n. n ≤ rebuild_left g job.target told) (sym (rebuild_cut_left g job.target (told ++ Told.Short ∷ []))) (rebuild_short g job.target told)

-- What a call was told of missing chunks, gathering by gathering, and that one answer more keeps it.
use Rattle.std.proofs.Common.{◌≡◌, ℕ, zero, suc, nat_lt, List, [], ◌∷◌, ◌++◌, length, map, All, refl, sym, ap, subst, ◌∙◌}
use Rattle.std.proofs.lemmas.Bool.{cond_both}
use Rattle.std.proofs.lemmas.List.{append-nil, append_assoc}
use Rattle.std.proofs.lemmas.List.Elements.{All-nil, All-cons, All-append}
use Rattle.clay_grid.specs.Shape.{Shape}
use Rattle.store_map.specs.declared.placement.Found.{Found}
use Rattle.store_map.specs.declared.placement.Found.TheVariants as found
use Rattle.store_core.specs.Act.{ServerStep}
use Rattle.store_core.specs.Gathering.{Gathering, Part, lost_at, unless_too_many, fetching_whole, recovering, fetching_repair, making, looking, servers_but}
use Rattle.store_core.specs.GatheringParts.{chunks_in_range, fetching_data, gather_part, without_target, gather_chunk}
use Rattle.store_core.specs.Tell.{in_one, cut_parts}
use Rattle.store_core.specs.Told.{Told, Seen, Lost}
use Rattle.run_laws.specs.NamedServers.{asked_next, found_missing}
use Rattle.run_laws.proofs.Grows.{JustEnded, Grows, part_start, part_grows}

-- ---- a gathering asks for chunks of its own version
abbrev pub IsAskOf : ℕ → ServerStep → Type 0
IsAskOf version (ServerStep.Has other) = other ≡ version
IsAskOf version (ServerStep.Fetch other layers) = other ≡ version
IsAskOf version step = ⊥

abbrev pub AsksOf : ℕ → Gathering → Type 0
AsksOf version (Gathering.Asks server step) = IsAskOf version step
AsksOf version gathered = Unit {0}

module _ (g : Shape) (seen : Seen) where
  unless_of : (missing : List Lost) (told : List Told) (otherwise : Gathering) → AsksOf seen.version otherwise → AsksOf seen.version (unless_too_many g seen missing told otherwise)
  unless_of missing told otherwise h =
      cond_both {A = Gathering} (nat_lt g.parity_count (length missing)) (Gathering.TooMany missing told) otherwise (AsksOf seen.version) (λ _. tt) (λ _. h)

  whole_of : (servers : List ℕ) (wanted : ℕ) (missing : List Lost) (told : List Told) → AsksOf seen.version (fetching_whole g seen servers wanted missing told)
  whole_of servers zero missing told = tt
  whole_of [] (suc wanted) missing told = tt
  whole_of (server ∷ more) (suc wanted) missing [] = refl
  whole_of (server ∷ more) (suc wanted) missing (Told.Given layers ∷ told) = whole_of more wanted missing told
  whole_of (server ∷ more) (suc wanted) missing (Told.Missing found ∷ told) =
      let marked : List Lost = missing ++ lost_at g seen server found ∷ [] in
      unless_of marked told (fetching_whole g seen more (suc wanted) marked told) (whole_of more (suc wanted) marked told)
  whole_of (server ∷ more) (suc wanted) missing (_ ∷ told) = tt

  repair_of : (servers : List ℕ) (lost : Lost) (told : List Told) → AsksOf seen.version (fetching_repair g seen servers lost told)
  repair_of [] lost told = tt
  repair_of (server ∷ more) lost [] = refl
  repair_of (server ∷ more) lost (Told.Given layers ∷ told) = repair_of more lost told
  repair_of (server ∷ more) lost (Told.Missing found ∷ told) =
      let marked : List Lost = lost ∷ lost_at g seen server found ∷ [] in
      unless_of marked told (recovering g seen marked told) (whole_of (servers_but g seen (map (λ (l : Lost). l.server) marked)) g.data_count marked told)
  repair_of (server ∷ more) lost (_ ∷ told) = tt

  making_of : (missing : List Lost) (told : List Told) → AsksOf seen.version (making g seen missing told)
  making_of [] told = tt
  making_of (lost ∷ []) told = repair_of (servers_but g seen (lost.server ∷ [])) lost told
  making_of (lost ∷ other ∷ more) told = whole_of (servers_but g seen (map (λ (l : Lost). l.server) (lost ∷ other ∷ more))) g.data_count (lost ∷ other ∷ more) told

  looking_of : (servers : List ℕ) (missing : List Lost) (told : List Told) → AsksOf seen.version (looking g seen servers missing told)
  looking_of [] missing told = making_of missing told
  looking_of (server ∷ more) missing [] = refl
  looking_of (server ∷ more) missing (Told.Here ∷ told) = looking_of more missing told
  looking_of (server ∷ more) missing (Told.Missing found ∷ told) =
      let marked : List Lost = missing ++ lost_at g seen server found ∷ [] in
      unless_of marked told (looking g seen more marked told) (looking_of more marked told)
  looking_of (server ∷ more) missing (_ ∷ told) = tt

module _ (g : Shape) (part : Part) where
  data_of : (servers : List ℕ) (missing : List Lost) (told : List Told) → AsksOf part.seen.version (fetching_data g part servers missing told)
  data_of [] [] told = tt
  data_of [] (lost ∷ more) told = looking_of g part.seen (servers_but g part.seen (chunks_in_range g part.start part.end)) (lost ∷ more) told
  data_of (server ∷ more) missing [] = refl
  data_of (server ∷ more) missing (Told.Given layers ∷ told) = data_of more missing told
  data_of (server ∷ more) missing (Told.Missing found ∷ told) =
      let marked : List Lost = missing ++ lost_at g part.seen server found ∷ [] in
      unless_of g part.seen marked told (fetching_data g part more marked told) (data_of more marked told)
  data_of (server ∷ more) missing (_ ∷ told) = tt

  pub part_asks_of : (told : List Told) → AsksOf part.seen.version (gather_part g part told)
  part_asks_of told = data_of (chunks_in_range g part.start part.end) [] told

without_of : (g : Shape) (seen : Seen) (target : ℕ) (found : Found) (told : List Told) → AsksOf seen.version (without_target g seen target found told)
without_of g seen target (found.Absent epoch) told = looking_of g seen (servers_but g seen (target ∷ [])) (lost_at g seen target (found.Absent epoch) ∷ []) told
without_of g seen target (found.Away downs) told = tt

pub chunk_asks_of : (g : Shape) (seen : Seen) (target : ℕ) (told : List Told) → AsksOf seen.version (gather_chunk g seen target told)
chunk_asks_of g seen target [] = refl
chunk_asks_of g seen target (Told.Here ∷ told) = tt
chunk_asks_of g seen target (Told.Missing found ∷ told) = without_of g seen target found told
chunk_asks_of g seen target (_ ∷ told) = tt

-- ---- the servers that were found to lack their chunk
abbrev pub here : (List Told → Gathering) → List Told → Told → List (ℕ × Found)
here gather before (Told.Missing found) = map (λ server. (server, found)) (asked_next (gather before))
here gather before answer = []

found_step : (gather : List Told → Gathering) (before : List Told) (answer : Told) (told : List Told)
    → found_missing gather before (answer ∷ told) ≡ here gather before answer ++ found_missing gather (before ++ answer ∷ []) told
found_step gather before (Told.Missing found) told = refl
found_step gather before answer told = refl

-- one answer more
pub found_more : (gather : List Told → Gathering) (before told : List Told) (answer : Told)
    → found_missing gather before (told ++ answer ∷ []) ≡ found_missing gather before told ++ here gather (before ++ told) answer
found_more gather before [] answer =
    found_step gather before answer [] ∙ append-nil (here gather before answer) ∙ sym (ap (λ (b : List Told). here gather b answer) (append-nil before))
found_more gather before (first ∷ told) answer =
    found_step gather before first (told ++ answer ∷ [])
    ∙ ap (λ l. here gather before first ++ l) (found_more gather (before ++ first ∷ []) told answer ∙ ap (λ (b : List Told). found_missing gather (before ++ first ∷ []) told ++ here gather b answer) (append_assoc before (first ∷ []) told))
    ∙ sym (append_assoc (here gather before first) (found_missing gather (before ++ first ∷ []) told) (here gather (before ++ first ∷ told) answer))
    ∙ sym (ap (λ l. l ++ here gather (before ++ first ∷ told) answer) (found_step gather before first told))

-- the gathering has not its bytes
abbrev pub NotDone : Gathering → Type 0
NotDone (Gathering.HasBytes rest) = ⊥
NotDone gathered = Unit {0}

-- an answer that is told is no gathering's entry
abbrev pub IsSaid : Told → Type 0
IsSaid Told.Gathered = ⊥
IsSaid answer = Unit {0}

-- P says of a stripe that was looked at, a server and what it told that the chunk was lost; R is what is known after all gatherings
module _ (g : Shape) (P : Seen → ℕ → Found → Type 0) (R : List Told → Type 0) where
  abbrev pub LostAt : Seen → ℕ × Found → Type 0
  LostAt seen found = P seen found.0 found.1

  -- all that were found so far are lost
  pub record PartHeard (part : Part) (told : List Told) : Type 0 where
    pub going : NotDone (gather_part g part told)
    pub lost : All (LostAt part.seen) (found_missing (gather_part g part) [] told)

  -- of parts that are gathered one after another
  abbrev pub PartsHeard : List Part → List Told → Type 0
  PartsHeard [] told = R told
  PartsHeard (part ∷ parts) (Told.Gathered ∷ told) = PartsHeard parts told
  PartsHeard (part ∷ parts) told = PartHeard part told

  abbrev HeadIsSaid : List Told → Type 0
  HeadIsSaid [] = Unit {0}
  HeadIsSaid (answer ∷ told) = IsSaid answer

  into : (part : Part) (parts : List Part) (told : List Told) → HeadIsSaid told → PartHeard part told → PartsHeard (part ∷ parts) told
  into part parts [] said h = h
  into part parts (Told.Gathered ∷ told) said h = absurd said
  into part parts (answer ∷ told) said h = h

  cut_so : (part : Part) (parts : List Part) (told : List Told) → HeadIsSaid told → cut_parts g (part ∷ parts) told ≡ in_one (cut_parts g parts) (gather_part g part told) told
  cut_so part parts [] said = refl
  cut_so part parts (Told.Gathered ∷ told) said = absurd said
  cut_so part parts (answer ∷ told) said = refl

  head_stays : (told : List Told) (answer : Told) → IsSaid answer → HeadIsSaid told → HeadIsSaid (told ++ answer ∷ [])
  head_stays [] answer said h = said
  head_stays (first ∷ told) answer said h = h

  -- gatherings that have not begun
  pub new_parts : R [] → (parts : List Part) → PartsHeard parts (cut_parts g parts [])
  new_parts none [] = none
  new_parts none (part ∷ parts) = by (gather_part g part []) refl (part_start g part) (new_parts none parts)
    where
      by : (r : Gathering) → gather_part g part [] ≡ r → JustEnded r → PartsHeard parts (cut_parts g parts []) → PartsHeard (part ∷ parts) (in_one (cut_parts g parts) r [])
      by (Gathering.HasBytes rest) e ended rest_heard = subst (λ l. PartsHeard parts (cut_parts g parts l)) (sym ended) rest_heard
      by (Gathering.Asks server step) e ended rest_heard = record { going = subst NotDone (sym e) tt; lost = All-nil (LostAt part.seen) }
      by (Gathering.TooMany missing rest) e ended rest_heard = record { going = subst NotDone (sym e) tt; lost = All-nil (LostAt part.seen) }
      by (Gathering.AtTarget rest) e ended rest_heard = record { going = subst NotDone (sym e) tt; lost = All-nil (LostAt part.seen) }
      by (Gathering.TargetAway downs rest) e ended rest_heard = record { going = subst NotDone (sym e) tt; lost = All-nil (LostAt part.seen) }
      by (Gathering.Short rest) e ended rest_heard = record { going = subst NotDone (sym e) tt; lost = All-nil (LostAt part.seen) }

  -- what the answer to a step of the gathering says
  abbrev pub Says : Seen → Gathering → Told → Type 0
  Says seen (Gathering.Asks server step) (Told.Missing found) = P seen server found
  Says seen gathered answer = Unit {0}

  pub said_lost : (seen : Seen) (gather : List Told → Gathering) (told : List Told) (answer : Told) → Says seen (gather told) answer → All (LostAt seen) (here gather told answer)
  said_lost seen gather told (Told.Missing found) h = by (gather told) h
    where
      by : (r : Gathering) → Says seen r (Told.Missing found) → All (LostAt seen) (map (λ server. (server, found)) (asked_next r))
      by (Gathering.Asks server step) k = All-cons (LostAt seen) (server, found) [] k (All-nil (LostAt seen))
      by (Gathering.HasBytes rest) k = All-nil (LostAt seen)
      by (Gathering.TooMany missing rest) k = All-nil (LostAt seen)
      by (Gathering.AtTarget rest) k = All-nil (LostAt seen)
      by (Gathering.TargetAway downs rest) k = All-nil (LostAt seen)
      by (Gathering.Short rest) k = All-nil (LostAt seen)
  said_lost seen gather told answer h = All-nil (LostAt seen)

  -- one answer more to a gathering that goes on
  part_told : R [] → (part : Part) (parts : List Part) (told : List Told) (answer : Told) → IsSaid answer → HeadIsSaid told → PartHeard part told → Says part.seen (gather_part g part told) answer
      → PartsHeard (part ∷ parts) (cut_parts g (part ∷ parts) (told ++ answer ∷ []))
  part_told none part parts told answer said head heard says =
      subst (PartsHeard (part ∷ parts)) (sym (cut_so part parts (told ++ answer ∷ []) later_head)) (by (gather_part g part (told ++ answer ∷ [])) refl grown)
    where
      later_head : HeadIsSaid (told ++ answer ∷ [])
      later_head = head_stays told answer said head

      lost_now : All (LostAt part.seen) (found_missing (gather_part g part) [] (told ++ answer ∷ []))
      lost_now =
          subst (All (LostAt part.seen)) (sym (found_more (gather_part g part) [] told answer))
          (All-append (LostAt part.seen) (found_missing (gather_part g part) [] told) (here (gather_part g part) told answer) heard.lost
          (said_lost part.seen (gather_part g part) told answer says))

      ended_so : (r later : Gathering) → NotDone r → Grows answer r later → (rest : List Told) → later ≡ Gathering.HasBytes rest → rest ≡ []
      ended_so (Gathering.Asks server step) later going grows rest e = subst JustEnded e grows
      ended_so (Gathering.HasBytes more) later going grows rest e = absurd going
      ended_so (Gathering.TooMany missing more) later going grows rest e = absurd (subst NotDone (sym grows ∙ e) tt)
      ended_so (Gathering.AtTarget more) later going grows rest e = absurd (subst NotDone (sym grows ∙ e) tt)
      ended_so (Gathering.TargetAway downs more) later going grows rest e = absurd (subst NotDone (sym grows ∙ e) tt)
      ended_so (Gathering.Short more) later going grows rest e = absurd (subst NotDone (sym grows ∙ e) tt)

      grown : (rest : List Told) → gather_part g part (told ++ answer ∷ []) ≡ Gathering.HasBytes rest → rest ≡ []
      grown rest e = ended_so (gather_part g part told) (gather_part g part (told ++ answer ∷ [])) heard.going (part_grows g part told answer) rest e

      goes_on : (r : Gathering) → gather_part g part (told ++ answer ∷ []) ≡ r → NotDone r → PartsHeard (part ∷ parts) (told ++ answer ∷ [])
      goes_on r e going = into part parts (told ++ answer ∷ []) later_head (record { going = subst NotDone (sym e) going; lost = lost_now })

      by : (r : Gathering) → gather_part g part (told ++ answer ∷ []) ≡ r → ((rest : List Told) → gather_part g part (told ++ answer ∷ []) ≡ Gathering.HasBytes rest → rest ≡ [])
          → PartsHeard (part ∷ parts) (in_one (cut_parts g parts) r (told ++ answer ∷ []))
      by (Gathering.HasBytes rest) e grow = subst (λ l. PartsHeard parts (cut_parts g parts l)) (sym (grow rest e)) (new_parts none parts)
      by (Gathering.Asks server step) e grow = goes_on (Gathering.Asks server step) e tt
      by (Gathering.TooMany missing rest) e grow = goes_on (Gathering.TooMany missing rest) e tt
      by (Gathering.AtTarget rest) e grow = goes_on (Gathering.AtTarget rest) e tt
      by (Gathering.TargetAway downs rest) e grow = goes_on (Gathering.TargetAway downs rest) e tt
      by (Gathering.Short rest) e grow = goes_on (Gathering.Short rest) e tt

  -- what the answer says of the part that is gathered
  abbrev pub SaysOfParts : List Part → List Told → Told → Type 0
  SaysOfParts [] told answer = R (told ++ answer ∷ [])
  SaysOfParts (part ∷ parts) (Told.Gathered ∷ told) answer = SaysOfParts parts told answer
  SaysOfParts (part ∷ parts) told answer = Says part.seen (gather_part g part told) answer

  -- one answer more keeps what is known of all parts
  pub parts_told : R [] → (parts : List Part) (told : List Told) (answer : Told) → IsSaid answer → PartsHeard parts told → SaysOfParts parts told answer
      → PartsHeard parts (cut_parts g parts (told ++ answer ∷ []))
  parts_told none [] told answer said heard says = says
  parts_told none (part ∷ parts) (Told.Gathered ∷ told) answer said heard says = parts_told none parts told answer said heard says
  parts_told none (part ∷ parts) [] answer said heard says = part_told none part parts [] answer said tt heard says
  parts_told none (part ∷ parts) (first ∷ told) answer said heard says = part_told none part parts (first ∷ told) answer said tt heard says

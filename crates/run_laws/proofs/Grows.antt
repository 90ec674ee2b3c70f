-- What a gathering comes to when it is told one answer more.
use Rattle.std.proofs.Common.{◌≡◌, ℕ, zero, suc, Bool, true, false, cond, nat_lt, List, [], ◌∷◌, ◌++◌, length, map, refl}
use Rattle.std.proofs.lemmas.Bool.{cond_both}
use Rattle.clay_grid.specs.Shape.{Shape}
use Rattle.store_map.specs.declared.placement.Found.TheVariants as found
use Rattle.store_core.specs.Told.{Seen, Lost, Told}
use Rattle.store_core.specs.Gathering.{Gathering, Part, servers_but, lost_at, unless_too_many, fetching_whole, recovering, fetching_repair, making, looking}
use Rattle.store_core.specs.GatheringParts.{chunks_in_range, after_data, fetching_data, gather_part, gather_chunk}

-- nothing was told since the gathering ended
abbrev pub JustEnded : Gathering → Type 0
JustEnded (Gathering.Asks server step) = Unit {0}
JustEnded (Gathering.HasBytes rest) = rest ≡ []
JustEnded (Gathering.TooMany missing rest) = rest ≡ []
JustEnded (Gathering.AtTarget rest) = rest ≡ []
JustEnded (Gathering.TargetAway downs rest) = rest ≡ []
JustEnded (Gathering.Short rest) = rest ≡ []

-- the gathering before an answer, and after it
abbrev pub Grows : Told → Gathering → Gathering → Type 0
Grows answer (Gathering.Asks server step) later = JustEnded later
Grows answer (Gathering.HasBytes rest) later = later ≡ Gathering.HasBytes (rest ++ answer ∷ [])
Grows answer (Gathering.TooMany missing rest) later = later ≡ Gathering.TooMany missing (rest ++ answer ∷ [])
Grows answer (Gathering.AtTarget rest) later = later ≡ Gathering.AtTarget (rest ++ answer ∷ [])
Grows answer (Gathering.TargetAway downs rest) later = later ≡ Gathering.TargetAway downs (rest ++ answer ∷ [])
Grows answer (Gathering.Short rest) later = later ≡ Gathering.Short (rest ++ answer ∷ [])

module _ (g : Shape) (seen : Seen) where
  unless_start : (missing : List Lost) (otherwise : Gathering) → JustEnded otherwise → JustEnded (unless_too_many g seen missing [] otherwise)
  unless_start missing otherwise h =
      cond_both {A = Gathering} (nat_lt g.parity_count (length missing)) (Gathering.TooMany missing []) otherwise JustEnded (λ _. refl) (λ _. h)

  unless_grows : (missing : List Lost) (told : List Told) (answer : Told) (now later : Gathering) → Grows answer now later
      → Grows answer (unless_too_many g seen missing told now) (unless_too_many g seen missing (told ++ answer ∷ []) later)
  unless_grows missing told answer now later h = by (nat_lt g.parity_count (length missing))
    where
      by : (b : Bool) → Grows answer (cond b (Gathering.TooMany missing told) now) (cond b (Gathering.TooMany missing (told ++ answer ∷ [])) later)
      by true = refl
      by false = h

  whole_start : (servers : List ℕ) (wanted : ℕ) (missing : List Lost) → JustEnded (fetching_whole g seen servers wanted missing [])
  whole_start servers zero missing = refl
  whole_start [] (suc wanted) missing = refl
  whole_start (server ∷ more) (suc wanted) missing = tt

  whole_grows : (servers : List ℕ) (wanted : ℕ) (missing : List Lost) (told : List Told) (answer : Told)
      → Grows answer (fetching_whole g seen servers wanted missing told) (fetching_whole g seen servers wanted missing (told ++ answer ∷ []))
  whole_grows servers zero missing told answer = refl
  whole_grows [] (suc wanted) missing told answer = refl
  whole_grows (server ∷ more) (suc wanted) missing [] (Told.Given layers) = whole_start more wanted missing
  whole_grows (server ∷ more) (suc wanted) missing [] (Told.Missing epoch) =
      let marked : List Lost = missing ++ lost_at g seen server epoch ∷ [] in
      unless_start marked (fetching_whole g seen more (suc wanted) marked []) (whole_start more (suc wanted) marked)
  whole_grows (server ∷ more) (suc wanted) missing [] answer = refl
  whole_grows (server ∷ more) (suc wanted) missing (Told.Given layers ∷ told) answer = whole_grows more wanted missing told answer
  whole_grows (server ∷ more) (suc wanted) missing (Told.Missing epoch ∷ told) answer =
      let marked : List Lost = missing ++ lost_at g seen server epoch ∷ [] in
      unless_grows marked told answer (fetching_whole g seen more (suc wanted) marked told) (fetching_whole g seen more (suc wanted) marked (told ++ answer ∷ []))
      (whole_grows more (suc wanted) marked told answer)
  whole_grows (server ∷ more) (suc wanted) missing (_ ∷ told) answer = refl

  recovering_start : (missing : List Lost) → JustEnded (recovering g seen missing [])
  recovering_start missing = whole_start (servers_but g seen (map (λ (lost : Lost). lost.server) missing)) g.data_count missing

  recovering_grows : (missing : List Lost) (told : List Told) (answer : Told) → Grows answer (recovering g seen missing told) (recovering g seen missing (told ++ answer ∷ []))
  recovering_grows missing told answer = whole_grows (servers_but g seen (map (λ (lost : Lost). lost.server) missing)) g.data_count missing told answer

  repair_start : (servers : List ℕ) (lost : Lost) → JustEnded (fetching_repair g seen servers lost [])
  repair_start [] lost = refl
  repair_start (server ∷ more) lost = tt

  repair_grows : (servers : List ℕ) (lost : Lost) (told : List Told) (answer : Told)
      → Grows answer (fetching_repair g seen servers lost told) (fetching_repair g seen servers lost (told ++ answer ∷ []))
  repair_grows [] lost told answer = refl
  repair_grows (server ∷ more) lost [] (Told.Given layers) = repair_start more lost
  repair_grows (server ∷ more) lost [] (Told.Missing epoch) =
      let marked : List Lost = lost ∷ lost_at g seen server epoch ∷ [] in unless_start marked (recovering g seen marked []) (recovering_start marked)
  repair_grows (server ∷ more) lost [] answer = refl
  repair_grows (server ∷ more) lost (Told.Given layers ∷ told) answer = repair_grows more lost told answer
  repair_grows (server ∷ more) lost (Told.Missing epoch ∷ told) answer =
      let marked : List Lost = lost ∷ lost_at g seen server epoch ∷ [] in
      unless_grows marked told answer (recovering g seen marked told) (recovering g seen marked (told ++ answer ∷ [])) (recovering_grows marked told answer)
  repair_grows (server ∷ more) lost (_ ∷ told) answer = refl

  making_start : (missing : List Lost) → JustEnded (making g seen missing [])
  making_start [] = refl
  making_start (lost ∷ []) = repair_start (servers_but g seen (lost.server ∷ [])) lost
  making_start (lost ∷ other ∷ more) = recovering_start (lost ∷ other ∷ more)

  making_grows : (missing : List Lost) (told : List Told) (answer : Told) → Grows answer (making g seen missing told) (making g seen missing (told ++ answer ∷ []))
  making_grows [] told answer = refl
  making_grows (lost ∷ []) told answer = repair_grows (servers_but g seen (lost.server ∷ [])) lost told answer
  making_grows (lost ∷ other ∷ more) told answer = recovering_grows (lost ∷ other ∷ more) told answer

  looking_start : (servers : List ℕ) (missing : List Lost) → JustEnded (looking g seen servers missing [])
  looking_start [] missing = making_start missing
  looking_start (server ∷ more) missing = tt

  looking_grows : (servers : List ℕ) (missing : List Lost) (told : List Told) (answer : Told)
      → Grows answer (looking g seen servers missing told) (looking g seen servers missing (told ++ answer ∷ []))
  looking_grows [] missing told answer = making_grows missing told answer
  looking_grows (server ∷ more) missing [] Told.Here = looking_start more missing
  looking_grows (server ∷ more) missing [] (Told.Missing epoch) =
      let marked : List Lost = missing ++ lost_at g seen server epoch ∷ [] in
      unless_start marked (looking g seen more marked []) (looking_start more marked)
  looking_grows (server ∷ more) missing [] answer = refl
  looking_grows (server ∷ more) missing (Told.Here ∷ told) answer = looking_grows more missing told answer
  looking_grows (server ∷ more) missing (Told.Missing epoch ∷ told) answer =
      let marked : List Lost = missing ++ lost_at g seen server epoch ∷ [] in
      unless_grows marked told answer (looking g seen more marked told) (looking g seen more marked (told ++ answer ∷ [])) (looking_grows more marked told answer)
  looking_grows (server ∷ more) missing (_ ∷ told) answer = refl

module _ (g : Shape) (part : Part) where
  abbrev others : List ℕ
  others = servers_but g part.seen (chunks_in_range g part.start part.end)

  after_start : (missing : List Lost) → JustEnded (after_data g part missing [])
  after_start [] = refl
  after_start (lost ∷ more) = looking_start g part.seen others (lost ∷ more)

  after_grows : (missing : List Lost) (told : List Told) (answer : Told) → Grows answer (after_data g part missing told) (after_data g part missing (told ++ answer ∷ []))
  after_grows [] told answer = refl
  after_grows (lost ∷ more) told answer = looking_grows g part.seen others (lost ∷ more) told answer

  data_start : (servers : List ℕ) (missing : List Lost) → JustEnded (fetching_data g part servers missing [])
  data_start [] missing = after_start missing
  data_start (server ∷ more) missing = tt

  data_grows : (servers : List ℕ) (missing : List Lost) (told : List Told) (answer : Told)
      → Grows answer (fetching_data g part servers missing told) (fetching_data g part servers missing (told ++ answer ∷ []))
  data_grows [] missing told answer = after_grows missing told answer
  data_grows (server ∷ more) missing [] (Told.Given layers) = data_start more missing
  data_grows (server ∷ more) missing [] (Told.Missing epoch) =
      let marked : List Lost = missing ++ lost_at g part.seen server epoch ∷ [] in
      unless_start g part.seen marked (fetching_data g part more marked []) (data_start more marked)
  data_grows (server ∷ more) missing [] answer = refl
  data_grows (server ∷ more) missing (Told.Given layers ∷ told) answer = data_grows more missing told answer
  data_grows (server ∷ more) missing (Told.Missing epoch ∷ told) answer =
      let marked : List Lost = missing ++ lost_at g part.seen server epoch ∷ [] in
      unless_grows g part.seen marked told answer (fetching_data g part more marked told) (fetching_data g part more marked (told ++ answer ∷ []))
      (data_grows more marked told answer)
  data_grows (server ∷ more) missing (_ ∷ told) answer = refl

  pub part_start : JustEnded (gather_part g part [])
  part_start = data_start (chunks_in_range g part.start part.end) []

  pub part_grows : (told : List Told) (answer : Told) → Grows answer (gather_part g part told) (gather_part g part (told ++ answer ∷ []))
  part_grows told answer = data_grows (chunks_in_range g part.start part.end) [] told answer

pub chunk_grows : (g : Shape) (seen : Seen) (target : ℕ) (told : List Told) (answer : Told) → Grows answer (gather_chunk g seen target told) (gather_chunk g seen target (told ++ answer ∷ []))
chunk_grows g seen target [] Told.Here = refl
chunk_grows g seen target [] (Told.Missing (found.Absent epoch)) = looking_start g seen (servers_but g seen (target ∷ [])) (lost_at g seen target (found.Absent epoch) ∷ [])
chunk_grows g seen target [] (Told.Missing (found.Away downs)) = refl
chunk_grows g seen target [] answer = refl
chunk_grows g seen target (Told.Here ∷ told) answer = refl
chunk_grows g seen target (Told.Missing (found.Absent epoch) ∷ told) answer = looking_grows g seen (servers_but g seen (target ∷ [])) (lost_at g seen target (found.Absent epoch) ∷ []) told answer
chunk_grows g seen target (Told.Missing (found.Away downs) ∷ told) answer = refl
chunk_grows g seen target (_ ∷ told) answer = refl

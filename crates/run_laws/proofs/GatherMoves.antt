-- What an answer in a gathering brings a call to.
use Rattle.std.proofs.Common.{◌≡◌, ℕ, ◌<◌, Bool, true, false, cond, nat_lt, List, [], ◌∷◌, ◌++◌, length, IsTrue, refl, sym, subst}
use Rattle.store_map.specs.declared.placement.Found.{Found}
use Rattle.clay_grid.specs.Shape.{Shape, chunk_count}
use Rattle.store_core.specs.Told.{Told, Seen}
use Rattle.store_core.specs.Note.{Note, Kind}
use Rattle.store_core.specs.Act.{Act, DirectoryStep, ServerStep, Outcome}
use Rattle.store_core.specs.Gathering.{Gathering, Part}
use Rattle.store_core.specs.GatheringParts.{ending, act_of, gathering, gather_part, gather_chunk}
use Rattle.store_core.specs.Put.{drawing}
use Rattle.store_core.specs.Read.{parts_of, next_read}
use Rattle.store_core.specs.Write.{old_parts, trying}
use Rattle.store_core.specs.Rebuild.{placing, installing, confirming, rebuilding, next_rebuild}
use Rattle.run_laws.proofs.Grows.{JustEnded, Grows, part_start, part_grows, chunk_grows}
use Rattle.run_laws.proofs.AskedServers.{IsAsk, AsksWell, part_well, chunk_well}
use Rattle.run_laws.proofs.Phases.{Phase, phase_of, server_phase, moves, Fits, Moves, finished, ending_moves, committed_moves, drawing_moves}

-- where a call stands that has just begun to gather, or has its bytes
abbrev pub IsOpen : Phase → Type 0
IsOpen Phase.Gathering = Unit {0}
IsOpen Phase.Drawing = Unit {0}
IsOpen Phase.Confirming = Unit {0}
IsOpen Phase.Ending = Unit {0}
IsOpen _ = ⊥

-- ---- the answers after which a call is opened
given_opens : (layers : ℕ) (p : Phase) → IsOpen p → IsTrue (moves (Told.Given layers) Phase.Gathering p)
given_opens layers Phase.Gathering h = refl
given_opens layers Phase.Drawing h = refl
given_opens layers Phase.Confirming h = refl
given_opens layers Phase.Ending h = refl
given_opens layers p h = absurd h

missing_opens : (epoch : Found) (p : Phase) → IsOpen p → IsTrue (moves (Told.Missing epoch) Phase.Gathering p)
missing_opens epoch Phase.Gathering h = refl
missing_opens epoch Phase.Drawing h = refl
missing_opens epoch Phase.Confirming h = refl
missing_opens epoch Phase.Ending h = refl
missing_opens epoch p h = absurd h

here_opens : (p : Phase) → IsOpen p → IsTrue (moves Told.Here Phase.Gathering p)
here_opens Phase.Gathering h = refl
here_opens Phase.Drawing h = refl
here_opens Phase.Confirming h = refl
here_opens Phase.Ending h = refl
here_opens p h = absurd h

short_opens : (p : Phase) → IsOpen p → IsTrue (moves Told.Short Phase.Gathering p)
short_opens Phase.Gathering h = refl
short_opens Phase.Drawing h = refl
short_opens Phase.Confirming h = refl
short_opens Phase.Ending h = refl
short_opens p h = absurd h

-- the answers of a look with which a gathering begins
abbrev IsReady : Told → Type 0
IsReady (Told.Ready base length_now stripes) = Unit {0}
IsReady (Told.Pinned point length_now stripes) = Unit {0}
IsReady _ = ⊥

-- a look that begins a gathering
ready_opens : (base : Told) (p : Phase) → IsReady base → IsOpen p → IsTrue (moves base Phase.Looking p)
ready_opens (Told.Ready base length_now stripes) Phase.Gathering r h = refl
ready_opens (Told.Ready base length_now stripes) Phase.Drawing r h = refl
ready_opens (Told.Ready base length_now stripes) Phase.Confirming r h = refl
ready_opens (Told.Ready base length_now stripes) Phase.Ending r h = refl
ready_opens (Told.Pinned point length_now stripes) Phase.Gathering r h = refl
ready_opens (Told.Pinned point length_now stripes) Phase.Drawing r h = refl
ready_opens (Told.Pinned point length_now stripes) Phase.Confirming r h = refl
ready_opens (Told.Pinned point length_now stripes) Phase.Ending r h = refl
ready_opens (Told.Ready base length_now stripes) p r h = absurd h
ready_opens (Told.Pinned point length_now stripes) p r h = absurd h
ready_opens answer p r h = absurd r

-- what a server that was asked may answer
asked_opens : (kind : Kind) (server : ℕ) (step : ServerStep) (answer : Told) (p : Phase) → IsAsk step → IsOpen p
    → Fits kind (Act.AtServer server step) answer → IsTrue (moves answer (server_phase step) p)
asked_opens kind server (ServerStep.Has version) Told.Here p asks opened h = here_opens p opened
asked_opens kind server (ServerStep.Has version) (Told.Missing epoch) p asks opened h = missing_opens epoch p opened
asked_opens kind server (ServerStep.Has version) Told.Short p asks opened h = short_opens p opened
asked_opens kind server (ServerStep.Has version) answer p asks opened h = absurd h
asked_opens kind server (ServerStep.Fetch version layers) (Told.Given count) p asks opened h = given_opens count p opened
asked_opens kind server (ServerStep.Fetch version layers) (Told.Missing epoch) p asks opened h = missing_opens epoch p opened
asked_opens kind server (ServerStep.Fetch version layers) Told.Short p asks opened h = short_opens p opened
asked_opens kind server (ServerStep.Fetch version layers) answer p asks opened h = absurd h
asked_opens kind server step answer p asks opened h = absurd asks

-- a call that asks is open
ask_open : (step : ServerStep) → IsAsk step → IsOpen (server_phase step)
ask_open (ServerStep.Has version) asks = tt
ask_open (ServerStep.Fetch version layers) asks = tt
ask_open step asks = absurd asks

-- no step is answered that all was gathered
no_gathered : (kind : Kind) (act : Act) → Fits kind act Told.Gathered → ⊥
no_gathered kind (Act.AtDirectory (DirectoryStep.Look note)) h = no_look kind h
  where
    no_look : (kind : Kind) → Fits kind (Act.AtDirectory (DirectoryStep.Look note)) Told.Gathered → ⊥
    no_look Kind.Put h = h
    no_look kind h = h
no_gathered kind (Act.AtDirectory step) h = absurd h
no_gathered kind (Act.AtServer server (ServerStep.Prepare version)) h = h
no_gathered kind (Act.AtServer server step) h = absurd h
no_gathered kind (Act.Finish outcome) h = h

-- ---- one gathering
-- a gathering that has just ended leaves the call open
result_opens : (n stripe : ℕ) (next : List Told → Act) (result : Gathering) → JustEnded result → AsksWell n result → IsOpen (phase_of (next [])) → IsOpen (phase_of (act_of stripe next result))
result_opens n stripe next (Gathering.Asks server step) e well opened = ask_open step well.1
result_opens n stripe next (Gathering.HasBytes rest) e well opened = subst (λ l. IsOpen (phase_of (next l))) (sym e) opened
result_opens n stripe next (Gathering.TooMany missing rest) e well opened = subst (λ l. IsOpen (phase_of (ending (Outcome.Unavailable stripe missing) l))) (sym e) tt
result_opens n stripe next (Gathering.AtTarget rest) e well opened = subst (λ l. IsOpen (phase_of (ending Outcome.Here l))) (sym e) tt
result_opens n stripe next (Gathering.TargetAway downs rest) e well opened = subst (λ l. IsOpen (phase_of (ending (Outcome.Away downs) l))) (sym e) tt
result_opens n stripe next (Gathering.Short rest) e well opened = subst (λ l. IsOpen (phase_of (ending Outcome.NoMemory l))) (sym e) tt

module _ (kind : Kind) (n stripe : ℕ) (next : List Told → Act) (opened : IsOpen (phase_of (next []))) (next_moves : (told : List Told) (answer : Told) → Moves kind answer (next told) (next (told ++ answer ∷ []))) where
  abbrev Ahead : Told → Act → Gathering → Type 0
  Ahead answer before result = IsTrue (moves answer (phase_of before) (phase_of (act_of stripe next result)))

  -- what one gathering comes to, and what it comes to with one answer more
  result_moves : (answer : Told) (now later : Gathering) → Grows answer now later → AsksWell n now → AsksWell n later → Moves kind answer (act_of stripe next now) (act_of stripe next later)
  result_moves answer (Gathering.Asks server step) later grows well well_later h =
      asked_opens kind server step answer (phase_of (act_of stripe next later)) well.1 (result_opens n stripe next later grows well_later opened) h
  result_moves answer (Gathering.HasBytes rest) later grows well well_later h = subst (Ahead answer (next rest)) (sym grows) (next_moves rest answer h)
  result_moves answer (Gathering.TooMany missing rest) later grows well well_later h =
      subst (Ahead answer (ending (Outcome.Unavailable stripe missing) rest)) (sym grows) (ending_moves kind (Outcome.Unavailable stripe missing) rest answer h)
  result_moves answer (Gathering.AtTarget rest) later grows well well_later h =
      subst (Ahead answer (ending Outcome.Here rest)) (sym grows) (ending_moves kind Outcome.Here rest answer h)
  result_moves answer (Gathering.TargetAway downs rest) later grows well well_later h =
      subst (Ahead answer (ending (Outcome.Away downs) rest)) (sym grows) (ending_moves kind (Outcome.Away downs) rest answer h)
  result_moves answer (Gathering.Short rest) later grows well well_later h =
      subst (Ahead answer (ending Outcome.NoMemory rest)) (sym grows) (ending_moves kind Outcome.NoMemory rest answer h)

-- ---- several gatherings
module _ (kind : Kind) (g : Shape) (next : List Told → Act) (opened : IsOpen (phase_of (next []))) (next_moves : (told : List Told) (answer : Told) → Moves kind answer (next told) (next (told ++ answer ∷ []))) where
  -- several gatherings begin open
  pub gathering_opens : (parts : List Part) → IsOpen (phase_of (gathering g parts next []))
  gathering_opens [] = opened
  gathering_opens (part ∷ parts) =
      result_opens (chunk_count g) part.seen.stripe (gathering g parts next) (gather_part g part []) (part_start g part) (part_well g part []) (gathering_opens parts)

  abbrev RestMoves : List Part → Type 0
  RestMoves parts = (told : List Told) (answer : Told) → Moves kind answer (gathering g parts next told) (gathering g parts next (told ++ answer ∷ []))

  part_moves : (part : Part) (parts : List Part) → RestMoves parts → (told : List Told) (answer : Told)
      → Moves kind answer (act_of part.seen.stripe (gathering g parts next) (gather_part g part told)) (act_of part.seen.stripe (gathering g parts next) (gather_part g part (told ++ answer ∷ [])))
  part_moves part parts rest told answer h =
      result_moves kind (chunk_count g) part.seen.stripe (gathering g parts next) (gathering_opens parts) rest answer (gather_part g part told) (gather_part g part (told ++ answer ∷ []))
      (part_grows g part told answer) (part_well g part told) (part_well g part (told ++ answer ∷ [])) h

  -- an answer in several gatherings
  pub gathering_moves : (parts : List Part) → RestMoves parts
  gathering_moves [] told answer h = next_moves told answer h
  gathering_moves (part ∷ parts) [] Told.Gathered h = absurd (no_gathered kind (act_of part.seen.stripe (gathering g parts next) (gather_part g part [])) h)
  gathering_moves (part ∷ parts) [] answer h = part_moves part parts (gathering_moves parts) [] answer h
  gathering_moves (part ∷ parts) (Told.Gathered ∷ told) answer h = gathering_moves parts told answer h
  gathering_moves (part ∷ parts) (other ∷ told) answer h = part_moves part parts (gathering_moves parts) (other ∷ told) answer h

-- ---- a get or a read
abbrev pub IsReading : Kind → Type 0
IsReading Kind.Get = Unit {0}
IsReading Kind.ReadAt = Unit {0}
IsReading _ = ⊥

served_opens : (kind : Kind) (g : Shape) (note : Note) (point length_now : ℕ) (stripes : List Seen)
    → IsTrue (moves (Told.Pinned point length_now stripes) Phase.Looking (phase_of (gathering g (parts_of g note length_now stripes) (ending (Outcome.Served point)) [])))
served_opens kind g note point length_now stripes =
    let parts : List Part = parts_of g note length_now stripes in
    ready_opens (Told.Pinned point length_now stripes) (phase_of (gathering g parts (ending (Outcome.Served point)) [])) tt
    (gathering_opens kind g (ending (Outcome.Served point)) tt (ending_moves kind (Outcome.Served point)) parts)

-- a get or a read, at each answer
pub read_moves : (kind : Kind) → IsReading kind → (g : Shape) (note : Note) (told : List Told) (answer : Told) → Moves kind answer (next_read g note told) (next_read g note (told ++ answer ∷ []))
read_moves Kind.Get reads g note [] (Told.Answer point reply) h = refl
read_moves Kind.Get reads g note [] Told.Short h = refl
read_moves Kind.Get reads g note [] (Told.Pinned point length_now stripes) h = served_opens Kind.Get g note point length_now stripes
read_moves Kind.Get reads g note [] answer h = absurd h
read_moves Kind.ReadAt reads g note [] (Told.Answer point reply) h = refl
read_moves Kind.ReadAt reads g note [] Told.Short h = refl
read_moves Kind.ReadAt reads g note [] (Told.Pinned point length_now stripes) h = served_opens Kind.ReadAt g note point length_now stripes
read_moves Kind.ReadAt reads g note [] answer h = absurd h
read_moves kind reads g note [] answer h = absurd reads
read_moves kind reads g note (Told.Answer point reply ∷ told) answer h = finished kind answer (Outcome.Answered point reply) (Outcome.Answered point reply) h
read_moves kind reads g note (Told.Pinned point length_now stripes ∷ told) answer h =
    gathering_moves kind g (ending (Outcome.Served point)) tt (ending_moves kind (Outcome.Served point)) (parts_of g note length_now stripes) told answer h
read_moves kind reads g note (_ ∷ told) answer h = finished kind answer Outcome.NoMemory Outcome.NoMemory h

-- ---- a write
module _ (g : Shape) (tries : ℕ) (note : Note) where
  abbrev look_or_not : Bool → List (ℕ × ℕ) → Act
  look_or_not true pairs = Act.AtDirectory (DirectoryStep.Look note)
  look_or_not false pairs = Act.Finish (Outcome.Contended pairs)

  first_moves : (b : Bool) (pairs : List (ℕ × ℕ)) (answer : Told) → Moves Kind.Write answer (look_or_not b pairs) (trying g tries note pairs (answer ∷ []))
  first_moves true pairs (Told.Answer point reply) h = refl
  first_moves true pairs (Told.Ready base length_now stripes) h =
      let parts : List Part = old_parts g length_now stripes in
      ready_opens (Told.Ready base length_now stripes) (phase_of (gathering g parts (drawing g note) [])) tt (gathering_opens Kind.Write g (drawing g note) tt (drawing_moves Kind.Write g note) parts)
  first_moves true pairs Told.Short h = refl
  first_moves true pairs answer h = absurd h
  first_moves false pairs Told.Short h = refl
  first_moves false pairs answer h = absurd h

  look_first : (b : Bool) (pairs : List (ℕ × ℕ)) → look_or_not b pairs ≡ cond {A = Act} b (Act.AtDirectory (DirectoryStep.Look note)) (Act.Finish (Outcome.Contended pairs))
  look_first true pairs = refl
  look_first false pairs = refl

  -- a write, at each answer
  pub trying_moves : (pairs : List (ℕ × ℕ)) (told : List Told) (answer : Told) → Moves Kind.Write answer (trying g tries note pairs told) (trying g tries note pairs (told ++ answer ∷ []))
  trying_moves pairs [] answer =
      subst (λ act. Moves Kind.Write answer act (trying g tries note pairs (answer ∷ []))) (look_first (nat_lt (length pairs) tries) pairs) (first_moves (nat_lt (length pairs) tries) pairs answer)
  trying_moves pairs (Told.Changed base newer ∷ told) answer = trying_moves (pairs ++ (base, newer) ∷ []) told answer
  trying_moves pairs (Told.Answer point reply ∷ told) answer = finished Kind.Write answer (Outcome.Answered point reply) (Outcome.Answered point reply)
  trying_moves pairs (Told.Ready base length_now stripes ∷ told) answer =
      gathering_moves Kind.Write g (drawing g note) tt (drawing_moves Kind.Write g note) (old_parts g length_now stripes) told answer
  trying_moves pairs (Told.Versions versions ∷ told) answer = committed_moves Kind.Write g versions told answer
  trying_moves pairs (_ ∷ told) answer = finished Kind.Write answer Outcome.NoMemory Outcome.NoMemory

-- ---- a rebuild
module _ (kind : Kind) (g : Shape) where
  -- after the chunk was placed
  placing_moves : (target epoch : ℕ) (told : List Told) (answer : Told) → Moves kind answer (placing target epoch told) (placing target epoch (told ++ answer ∷ []))
  placing_moves target epoch [] Told.Ended h = refl
  placing_moves target epoch [] (Told.Reaped point) h = refl
  placing_moves target epoch [] Told.Short h = refl
  placing_moves target epoch [] answer h = absurd h
  placing_moves target epoch (Told.Ended ∷ told) answer h = finished kind answer Outcome.Rebuilt Outcome.Rebuilt h
  placing_moves target epoch (Told.Reaped point ∷ told) answer h = finished kind answer (Outcome.Reaped point) (Outcome.Reaped point) h
  placing_moves target epoch (_ ∷ told) answer h = ending_moves kind Outcome.NoMemory told answer h

  installing_moves : (seen : Seen) (target : ℕ) (told : List Told) (answer : Told) → Moves kind answer (installing seen target told) (installing seen target (told ++ answer ∷ []))
  installing_moves seen target [] (Told.Placed epoch) h = refl
  installing_moves seen target [] Told.AlreadyThere h = refl
  installing_moves seen target [] (Told.Away downs) h = refl
  installing_moves seen target [] Told.Short h = refl
  installing_moves seen target [] answer h = absurd h
  installing_moves seen target (Told.Placed epoch ∷ told) answer h = placing_moves target epoch told answer h
  installing_moves seen target (Told.AlreadyThere ∷ told) answer h = ending_moves kind Outcome.Here told answer h
  installing_moves seen target (Told.Away downs ∷ told) answer h = ending_moves kind (Outcome.Away downs) told answer h
  installing_moves seen target (_ ∷ told) answer h = ending_moves kind Outcome.NoMemory told answer h

  -- from the confirm on
  confirming_moves : (seen : Seen) (target : ℕ) (told : List Told) (answer : Told) → Moves kind answer (confirming seen target told) (confirming seen target (told ++ answer ∷ []))
  confirming_moves seen target [] Told.Current h = refl
  confirming_moves seen target [] (Told.Superseded newer) h = refl
  confirming_moves seen target [] (Told.Reaped point) h = refl
  confirming_moves seen target [] Told.Short h = refl
  confirming_moves seen target [] answer h = absurd h
  confirming_moves seen target (Told.Current ∷ told) answer h = installing_moves seen target told answer h
  confirming_moves seen target (Told.Superseded newer ∷ told) answer h = finished kind answer (Outcome.Superseded newer) (Outcome.Superseded newer) h
  confirming_moves seen target (Told.Reaped point ∷ told) answer h = finished kind answer (Outcome.Reaped point) (Outcome.Reaped point) h
  confirming_moves seen target (_ ∷ told) answer h = ending_moves kind Outcome.NoMemory told answer h

  module _ (seen : Seen) (target : ℕ) (below : target < chunk_count g) where
    chunk_moves : (told : List Told) (answer : Told)
        → Moves kind answer (act_of seen.stripe (confirming seen target) (gather_chunk g seen target told)) (act_of seen.stripe (confirming seen target) (gather_chunk g seen target (told ++ answer ∷ [])))
    chunk_moves told answer h =
        result_moves kind (chunk_count g) seen.stripe (confirming seen target) tt (confirming_moves seen target) answer (gather_chunk g seen target told) (gather_chunk g seen target (told ++ answer ∷ []))
        (chunk_grows g seen target told answer) (chunk_well g seen target below told) (chunk_well g seen target below (told ++ answer ∷ [])) h

    rebuilding_moves : (told : List Told) (answer : Told) → Moves kind answer (rebuilding g seen target told) (rebuilding g seen target (told ++ answer ∷ []))
    rebuilding_moves [] Told.Gathered h = absurd (no_gathered kind (act_of seen.stripe (confirming seen target) (gather_chunk g seen target [])) h)
    rebuilding_moves [] answer h = chunk_moves [] answer h
    rebuilding_moves (Told.Gathered ∷ told) answer h = confirming_moves seen target told answer h
    rebuilding_moves (other ∷ told) answer h = chunk_moves (other ∷ told) answer h

  -- a rebuild, at each answer
  pub rebuild_moves : (note : Note) (target : ℕ) → target < chunk_count g → (told : List Told) (answer : Told) → Moves kind answer (next_rebuild g note target told) (next_rebuild g note target (told ++ answer ∷ []))
  rebuild_moves note target below [] Told.NoSuch h = refl
  rebuild_moves note target below [] (Told.PinnedStripe seen) h = refl
  rebuild_moves note target below [] Told.Short h = refl
  rebuild_moves note target below [] answer h = absurd h
  rebuild_moves note target below (Told.NoSuch ∷ told) answer h = finished kind answer Outcome.NoSuch Outcome.NoSuch h
  rebuild_moves note target below (Told.PinnedStripe seen ∷ told) answer h = rebuilding_moves seen target below told answer h
  rebuild_moves note target below (_ ∷ told) answer h = finished kind answer Outcome.NoMemory Outcome.NoMemory h

-- Which chunks are lost, and what making them anew changes and takes.
use Rattle.std.specs.Prelude.{ℕ, ◌+◌, ◌^◌, ◌-◌, Bool, not, nat_eq, nat_le, List, [], length, get_or, map, filter, fold, zip, take, replicate, flat_map, if◌then◌else◌}
use Rattle.std.specs.List.{range_with_len, enumerate_from}
use Rattle.clay_grid.specs.Shape.{Shape, chunk_count, row_count, column_count, layer_count}
use Rattle.store_core.specs.Lists.{is_among}
use Rattle.session_rules.specs.State.{Stripe, State, numbers_of}
use Rattle.session_rules.specs.declared.session_answer.LostChunk.{LostChunk}
use Rattle.session_rules.specs.declared.session_answer.Answer.{Answer}
use Rattle.session_rules.specs.Gathered.{holds, lacking, is_beyond_repair}
use Rattle.session_rules.specs.Rebuilds.{place_anew}

module _ (g : Shape) where
  -- all servers
  abbrev pub servers : List ℕ
  servers = range_with_len 0 (chunk_count g)

  -- the chunks of the objects' stripes that their servers don't hold, by object in order of creation, by stripe and by server
  abbrev pub lost_chunks : State → List LostChunk
  lost_chunks s =
      flat_map
      (λ object.
      flat_map (λ numbered. map (λ server. record { name = object.0; stripe = numbered.0; server = server }) (lacking (get_or s.stripes numbered.1 []) servers))
      (enumerate_from 0 object.1))
      s.numbers

  -- the number of a lost chunk's stripe
  abbrev pub number_of : State → LostChunk → ℕ
  number_of s chunk = get_or (numbers_of chunk.name s.numbers) chunk.stripe 0

  -- those whose stripe isn't beyond repair
  abbrev pub to_heal : State → List LostChunk
  to_heal s = filter (λ chunk. not (is_beyond_repair g (get_or s.stripes (number_of s chunk) []))) (lost_chunks s)

  -- the subchunks that a rebuild takes from each server: those of the repair layers from every other server, where no further chunk of the stripe is
  -- lost; otherwise whole chunks from the first servers that hold theirs, as many as there are data chunks
  abbrev pub takes_of : Stripe → ℕ → List ℕ
  takes_of stripe server =
      let holders : List ℕ = filter (holds stripe) servers in
      if nat_eq (length (lacking stripe servers)) 1 then map (λ other. if nat_eq other server then 0 else row_count g ^ (column_count g - 1)) servers
      else map (λ other. if is_among other (take g.data_count holders) then layer_count g else 0) servers

  -- one lost chunk is made anew, and what that took is added
  abbrev pub heal_one : State × List ℕ → LostChunk → State × List ℕ
  heal_one healed chunk =
      let s : State = healed.0 in
      let number : ℕ = number_of s chunk in
      (place_anew number chunk.server s, map (λ pair. pair.0 + pair.1) (zip healed.1 (takes_of (get_or s.stripes number []) chunk.server)))

  -- some lost chunks, one after another
  abbrev pub heal_all : List LostChunk → State → State × List ℕ
  heal_all chunks s = fold heal_one (s, replicate (chunk_count g) 0) chunks

  -- the seat's numbers, of 32 bits, last for all chunks that are lost
  abbrev pub numbers_last : State → Bool
  numbers_last s = nat_le (s.next + length (lost_chunks s)) (2 ^ 32 - 1)

  -- every lost chunk that can be made anew is, and the seat has used a number for each
  abbrev pub heal : State → State × Answer
  heal s =
      let chunks : List LostChunk = to_heal s in
      let healed : State × List ℕ = heal_all chunks s in
      if numbers_last s then (record (healed.0) { next = s.next + length chunks }, Answer.Healed (length chunks) healed.1)
      else (s, Answer.BadRequest)

-- The calls that are drawn from a sequence.
use Rattle.std.specs.Prelude.{ℕ, ◌+◌, List, [], ◌∷◌, nat_lt, nat_eq, if◌then◌else◌}
use Rattle.store_map.specs.declared.call.Call.{Call}
use Rattle.store_map.specs.declared.call.Call.TheVariants.{Put, Write, Get, ReadAt, Stat, Delete}
use Rattle.store_map.specs.declared.call.Rebuild.{Rebuild}
use Rattle.store_map.specs.declared.content.Content.{Content}
use Rattle.store_map.specs.declared.content.Content.TheVariants.{Ramp}
use Rattle.clay_gen.specs.Sequence.{state_after, pick}

-- the name a for 0, b for 1, and so on
abbrev pub letter_name : ℕ → List ℕ
letter_name letter = (97 + letter) ∷ []

-- a ramp from any byte on, of fewer bytes than the limit
abbrev pub data_from : ℕ → ℕ → Content
data_from state limit = Ramp (pick state 0 256) (pick state 1 limit)

-- a call by its kind and name, and by the state behind those
abbrev pub call_by : ℕ → List ℕ → ℕ → Call
call_by kind name state =
    if nat_lt kind 2 then Put name (data_from state 2049)
    else (if nat_lt kind 4 then Write name (pick state 0 2049) (data_from (state_after 1 state) 513)
    else (if nat_eq kind 4 then Get name
    else (if nat_eq kind 5 then ReadAt name (pick state 0 2049) (pick state 1 1025)
    else (if nat_eq kind 6 then Stat name
    else Delete name))))

-- how many numbers a call takes behind its kind and name
abbrev pub picks_by : ℕ → ℕ
picks_by kind =
    if nat_lt kind 2 then 2
    else (if nat_lt kind 4 then 3
    else (if nat_eq kind 5 then 2
    else 0))

-- a client's call: of eight kinds two are puts and two are writes, and there are six names
abbrev pub call_from : ℕ → Call
call_from state = call_by (pick state 0 8) (letter_name (pick state 1 6)) (state_after 2 state)

-- the state behind it
abbrev pub behind_call : ℕ → ℕ
behind_call state = state_after (picks_by (pick state 0 8)) (state_after 2 state)

-- a repairer's call
abbrev pub rebuild_from : ℕ → Rebuild
rebuild_from state = record { name = letter_name (pick state 0 6); stripe = pick state 1 5; server = pick state 2 6 }

-- the state behind it
abbrev pub behind_rebuild : ℕ → ℕ
behind_rebuild state = state_after 3 state

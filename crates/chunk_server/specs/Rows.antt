-- A server's steps, as the definitions alone compute them.
use Rattle.std.specs.Prelude.{◌≡◌, ℕ, ◌-◌, ◌^◌, false, List, [], ◌∷◌, None}
use Rattle.clay_grid.specs.Shape.{Shape, shape_of}
use Rattle.store_map.specs.declared.placement.Found.TheVariants as found
use Rattle.store_map.specs.declared.placement.Placement.TheVariants as placement
use Rattle.store_map.specs.declared.actor.Actor.TheVariants as actor
use Rattle.version_seal.specs.Entry.{BookOf}
use Rattle.version_seal.specs.Sealed.{ChunkOf, chunk_of}
use Rattle.chunk_server.specs.State.{Held, ServerState, empty_server, settled_chunk}
use Rattle.chunk_server.specs.Steps.{prepare_of, after_settle, presence_of, fetch_of, install_of, after_discard, after_wipe, after_down, after_up}
use Rattle.chunk_server.specs.declared.server.Mark.TheVariants.{Prepared, Settled}
use Rattle.chunk_server.specs.declared.server_answers.Presence.TheVariants as presence
use Rattle.chunk_server.specs.declared.server_answers.Fetched.TheVariants as fetched
use Rattle.chunk_server.specs.declared.server_answers.Installed.TheVariants as installed

-- chunks of four subchunks of two bytes
abbrev pub small_code : Shape
small_code = shape_of 2 2 2

-- a book without a script
abbrev pub some_book : BookOf
some_book = record { home = 0 ∷ []; geometry = small_code; script = None }

-- server 1's chunk of a version of it; steps of a server don't ask what the version stands for
abbrev pub chunk_at : ℕ → List ℕ → ChunkOf
chunk_at version bytes =
    chunk_of small_code (record { home = 0 ∷ []; version = version; actor = actor.Client 0; number = 0; stripe = 0; base = None; content = [] }) 1 bytes

-- bytes of a chunk
abbrev pub one_chunk : List ℕ
one_chunk = 1 ∷ 0 ∷ 0 ∷ 0 ∷ 0 ∷ 0 ∷ 0 ∷ 9 ∷ []

-- others
abbrev pub other_chunk : List ℕ
other_chunk = 10 ∷ 11 ∷ 12 ∷ 13 ∷ 14 ∷ 15 ∷ 16 ∷ 17 ∷ []

-- version 3 with one chunk, prepared
abbrev pub third : Held
third = record { version = 3; mark = Prepared; chunk = chunk_at 3 one_chunk }

-- version 5 with the other, settled
abbrev pub fifth : Held
fifth = record { version = 5; mark = Settled; chunk = chunk_at 5 other_chunk }

-- server 1 with these counts and chunks
abbrev pub server_with : ℕ → ℕ → List Held → ServerState
server_with epoch taken chunks = record { number = 1; book = some_book; epoch = epoch; taken = taken; downs = 0; away = false; held = chunks }

-- the same after the install of version 5 and then the prepare of version 3
abbrev pub used_server : ServerState
used_server = (prepare_of (chunk_at 3 one_chunk) (install_of (chunk_at 5 other_chunk) (empty_server 1 some_book)).0).0

-- what it is then, and what each further step makes of it and answers
pub record AreRowsOfAServer : Type 0 where
  pub used : used_server ≡ server_with 0 0 (third ∷ fifth ∷ [])
  pub prepared_again : prepare_of (chunk_at 5 one_chunk) used_server ≡ (used_server, placement.At 0)
  pub installed_again : install_of (chunk_at 3 other_chunk) used_server ≡ (used_server, installed.AlreadyThere)
  pub settled : after_settle 3 used_server ≡ server_with 0 0 (settled_chunk third ∷ fifth ∷ [])
  pub settled_nothing : after_settle 4 used_server ≡ used_server
  pub here : presence_of 5 used_server ≡ presence.Here
  pub not_here : presence_of 5 (after_wipe used_server) ≡ presence.Missing (found.Absent 1)
  pub given :
      fetch_of 5 (3 ∷ 0 ∷ []) used_server
      ≡ (server_with 0 2 (third ∷ fifth ∷ []), fetched.Part (record { geometry = small_code; stamp = fifth.chunk.stamp; server = 1; layers = 3 ∷ 0 ∷ []; bytes = 16 ∷ 17 ∷ 10 ∷ 11 ∷ [] }))
  pub not_given : fetch_of 4 (3 ∷ 0 ∷ []) used_server ≡ (used_server, fetched.Missing (found.Absent 0))
  pub discarded : after_discard 3 used_server ≡ server_with 0 0 (fifth ∷ [])
  pub wiped : after_wipe (server_with 1 2 (third ∷ [])) ≡ server_with 2 2 []
  pub last_epoch : after_wipe (server_with (2 ^ 64 - 1) 2 []) ≡ server_with (2 ^ 64 - 1) 2 []
  pub last_count :
      (fetch_of 3 (0 ∷ 1 ∷ []) (server_with 0 (2 ^ 64 - 2) (third ∷ []))).0
      ≡ server_with 0 (2 ^ 64 - 1) (third ∷ [])
  pub away_skips : prepare_of (chunk_at 7 one_chunk) (after_down used_server) ≡ (after_down used_server, placement.Skipped 1)
  pub away_has_nothing : presence_of 5 (after_down (after_down used_server)) ≡ presence.Missing (found.Away 2)
  pub away_gives_nothing : fetch_of 5 (0 ∷ []) (after_down used_server) ≡ (after_down used_server, fetched.Missing (found.Away 1))
  pub away_takes_nothing : install_of (chunk_at 5 one_chunk) (after_down used_server) ≡ (after_down used_server, installed.Away 1)
  pub away_discards : (after_discard 3 (after_down used_server)).held ≡ fifth ∷ []
  pub present_again : presence_of 5 (after_up (after_down used_server)) ≡ presence.Here
  pub last_down : (after_down (record used_server { downs = 2 ^ 64 - 1 })).downs ≡ 2 ^ 64 - 1

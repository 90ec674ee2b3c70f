-- The chunks that servers hold of versions that a directory doesn't know.
use Rattle.std.specs.Prelude.{ℕ, Bool, not, nat_eq, ◌&&◌, List, map, filter}
use Rattle.std.specs.List.{list_any, flat_map, enumerate_from}
use Rattle.store_core.specs.Directory.{Version}
use Rattle.version_seal.specs.Entry.{StampOf}
use Rattle.version_table.specs.Known.{is_known}
use Rattle.chunk_server.specs.State.{ServerState}
use Rattle.store_scrub.specs.declared.report.Stray.{Stray}

-- a stamp of a version that these aren't or that is swept
abbrev pub is_stray : List Version → StampOf → Bool
is_stray versions stamp = not (is_known versions stamp.version)

-- a chunk with this stamp, held by a server
abbrev pub stray_at : ℕ → StampOf → Stray
stray_at server stamp = record { server = server; stamp = stamp }

-- the strays of the server with a number, in the order in which it holds them
abbrev pub strays_at : List Version → ℕ × ServerState → List Stray
strays_at versions numbered = map (stray_at numbered.0) (filter (is_stray versions) (map (λ held. held.chunk.stamp) numbered.1.held))

-- those of all servers, by server
abbrev pub strays_in : List Version → List ServerState → List Stray
strays_in versions servers = flat_map (strays_at versions) (enumerate_from 0 servers)

-- whether a version's chunk is listed for a server
abbrev pub is_listed : List Stray → ℕ → ℕ → Bool
is_listed strays server version = list_any (λ stray. nat_eq stray.server server && nat_eq stray.stamp.version version) strays

-- the server with a number without the chunks that are listed for it
abbrev pub cleared : List Stray → ℕ × ServerState → ServerState
cleared strays numbered = record (numbered.1) { held = filter (λ held. not (is_listed strays numbered.0 held.version)) numbered.1.held }

-- all servers without what is listed
abbrev pub without : List Stray → List ServerState → List ServerState
without strays servers = map (cleared strays) (enumerate_from 0 servers)

-- A server of sealed chunks beside chunks for it.
use Rattle.std.specs.Prelude.{◌≡◌, List, All}
use Rattle.clay_grid.specs.Shape.{layer_count}
use Rattle.version_seal.specs.Sealed.{ChunkOf}
use Rattle.chunk_server.specs.State.{ServerState}
use Rattle.chunk_server.specs.Valid.{MayCome}

-- the server, the chunks of all versions, and those of them that wait
pub record RackOf : Type 0 where
  pub server : ServerState
  pub chunks : List ChunkOf
  pub waiting : List ChunkOf

-- the layers that are asked for are there, and each chunk may come to the server
pub record IsRack (rack : RackOf) : Type 0 where
  pub eight : layer_count rack.server.book.geometry ≡ 8
  pub chunks : All (MayCome rack.server) rack.chunks
  pub waiting : All (MayCome rack.server) rack.waiting

use Rattle.std.proofs.Common.{◌≡◌, map, take}
use Rattle.chunk_server.specs.Core.{core_of}
use Rattle.world_lines.specs.Lists.{server_lines}
use Rattle.world_lines.proofs.stored.server_lines.Given as goal

abbrev pub invariant-loop-server : goal.invariant-loop-server
invariant-loop-server l = l.lines ≡ server_lines (map core_of (take l.server l.servers))

use Rattle.std.proofs.Common.{take, All}
use Rattle.chunk_server.specs.Valid.{IsValid}
use Rattle.store_scrub.proofs.strays.keep.Given as goal

abbrev pub invariant-loop-server : goal.invariant-loop-server
invariant-loop-server l = All IsValid (take l.server-index l.servers)

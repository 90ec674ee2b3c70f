use Rattle.chunk_server.proofs.FoundChunks.{adds_one_chunk, settles_one_chunk, removes_one_chunk}
use Rattle.chunk_server.proofs.laws_of_servers.steps_change_one_version.Goals as goal

pub returns-clause-adds : goal.returns-clause-adds
returns-clause-adds c = adds_one_chunk

pub returns-clause-settles : goal.returns-clause-settles
returns-clause-settles c = settles_one_chunk

pub returns-clause-removes : goal.returns-clause-removes
returns-clause-removes c = removes_one_chunk

use Rattle.std.proofs.Common.{ap}
use Rattle.chunk_server.specs.Steps.{after_up}
use Rattle.chunk_server.proofs.server.Server.up.Goals as goal

pub returns-clause-present : goal.returns-clause-present
returns-clause-present c = ap after_up c.self.view_is

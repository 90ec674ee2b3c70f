use Rattle.std.proofs.Common.{◌≡◌}
use Rattle.gathering.specs.CourseServers.{asked_from}
use Rattle.gathering.proofs.asked_servers.next_server.Given as goal

abbrev pub invariant-loop-server : goal.invariant-loop-server
invariant-loop-server l = asked_from l.left_out l.count l.from ≡ asked_from l.left_out l.count l.server

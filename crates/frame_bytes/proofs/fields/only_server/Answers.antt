use Rattle.frame_bytes.proofs.FieldLemmas.{numberless, no_server, server_unended, server_there, some_left, none_left}
use Rattle.frame_bytes.proofs.fields.only_server.Goals as goal

pub returns-in_err-server-clause-none : goal.returns-in_err-server-clause-none
returns-in_err-server-clause-none c = rw c.from_residual.ensures (numberless c.args.servers c.args.fields.now c.in_err-server.ensures.none)

pub returns-then-server-servers-clause-none : goal.returns-then-server-servers-clause-none
returns-then-server-servers-clause-none c =
    no_server c.args.servers c.in_ok-server.server c.args.fields.now c.in_ok-server.rest.now c.in_ok-server.ensures.some c.if-server-servers.true

pub returns-then-not-is_empty-clause-none : goal.returns-then-not-is_empty-clause-none
returns-then-not-is_empty-clause-none c =
    server_unended c.args.servers c.in_ok-server.server c.args.fields.now c.in_ok-server.rest.now c.in_ok-server.ensures.some
    c.if-server-servers.false
    (some_left c.in_ok-server.rest.now c.is_empty.result c.is_empty.ensures c.if-not-is_empty.true)

pub returns-clause-some : goal.returns-clause-some
returns-clause-some c =
    server_there c.args.servers c.in_ok-server.server c.args.fields.now c.in_ok-server.rest.now c.in_ok-server.ensures.some c.if-server-servers.false
    (none_left c.in_ok-server.rest.now c.is_empty.result c.is_empty.ensures c.if-not-is_empty.false)

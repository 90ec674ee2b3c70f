use Rattle.std.proofs.Common.{◌≤◌, List, length, All, subst, arith}
use Rattle.std.proofs.lemmas.List.{take_all}
use Rattle.std.proofs.lemmas.List.Elements.{All-more}
use Rattle.chunk_server.specs.State.{ServerState}
use Rattle.chunk_server.specs.Valid.{IsValid}
use Rattle.store_scrub.proofs.strays.keep.Goals as goal

pub loop-server-preserved : goal.loop-server-preserved
loop-server-preserved c =
    All-more IsValid c.args.servers.now c.loop-server.server-index c.server-item.result c.loop-server-test.true c.loop-server.invariant
    (subst IsValid c.server-item.is c.held-held.ensures.valid)

pub returns : goal.returns
returns c =
    let all : length c.args.servers.now ≤ c.loop-server.server-index = omega (arith, c.loop-server-test.false) in
    subst (λ (l : List ServerState). All IsValid l) (take_all c.loop-server.server-index c.args.servers.now all) c.loop-server.invariant

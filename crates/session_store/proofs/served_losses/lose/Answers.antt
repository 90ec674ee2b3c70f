use Rattle.std.proofs.Common.{◌<◌, sym, ap, subst}
use Rattle.chunk_server.specs.State.{ServerState}
use Rattle.session_store.specs.Inside.{store_of}
use Rattle.session_store.proofs.Losing.{loss_is_served}
use Rattle.session_store.proofs.served_losses.lose.Goals as goal

pub returns : goal.returns
returns c =
    loss_is_served (store_of c.args.parts.now) c.requires.may.0 c.requires.may.1 c.args.server c.index_mut-lost.result.now c.wipe.new.self
    (subst (λ n. c.args.server < n) (sym c.requires.may.0.servers.count) c.requires.there) c.index_mut-lost.ensures.value c.wipe.ensures.core
    (ap (λ (s : ServerState). s.number) c.wipe.ensures.emptied) (ap (λ (s : ServerState). s.book) c.wipe.ensures.emptied)

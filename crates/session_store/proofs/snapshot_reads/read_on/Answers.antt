use Rattle.std.proofs.Common.{false, refl, ap}
use Rattle.store_core.specs.Server.{Server}
use Rattle.run_laws.specs.State.{Sequel}
use Rattle.snapshot_view.specs.Reads.{ReadOf}
use Rattle.session_store.proofs.ReadingAlone.{asked_here}
use Rattle.session_store.proofs.snapshot_reads.read_on.Goals as goal

pub returns-in-Server : goal.returns-in-Server
returns-in-Server g c =
    asked_here c.args.read.now c.on_server-answer.new.self c.args.places.now _ c.requires.may c.in-Server.server c.index_mut.result.now c.on_server-answer.new.s _ c.in-Server.ensures.need c.in-Server.ensures.below c.index_mut.ensures.value
    (λ call stands. c.on_server-answer.ensures.call call (Sequel.Serve 0) false stands)
    (ap (λ (x : Server × ReadOf). x.1.ended) c.on_server-answer.ensures.step) c.on_server-answer.ensures.reply c.on_server-answer.ensures.book c.on_server-answer.ensures.same refl refl refl

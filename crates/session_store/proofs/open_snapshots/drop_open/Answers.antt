use Rattle.std.proofs.Common.{◌≡◌, sym, subst}
use Rattle.store_map.specs.declared.reply.Reply.{Reply}
use Rattle.session_rules.specs.declared.request.Request.{Request}
use Rattle.session_rules.specs.declared.session_answer.Answer.{Answer}
use Rattle.session_store.specs.Inside.{store_of}
use Rattle.session_store.specs.Kept.{IsStore}
use Rattle.session_store.specs.Serving.{ServesAll, dropped_one}
use Rattle.session_store.specs.Stored.{StoreOf}
use Rattle.session_store.proofs.SnapsDropped.{drop_serves, drop_same, drop_kept}
use Rattle.session_store.proofs.open_snapshots.drop_open.Goals as goal

pub returns-clause-serves : goal.returns-clause-serves
returns-clause-serves c =
    subst (ServesAll Request.SnapDrop (store_of c.args.parts.now) (Answer.Replied Reply.Done))
    (λ i. store_of (record (c.args.parts.now) { places = c.sweep_all.new.places; snapshot = sym c.take-snapshot.ensures.gone i; tickets = sym c.put.ensures i }))
    (drop_serves c.args.parts.now c.requires.store c.take-snapshot.result c.take-snapshot.ensures.taken c.release-tickets.new.directory c.release-tickets.result.0.items c.release-tickets.result.1.items c.release-tickets.ensures.ends
    c.release-tickets.ensures.rest c.release-tickets.ensures.actors c.release-tickets.ensures.agrees c.release-tickets.ensures.others c.release-tickets.ensures.stamps c.sweep_all.new.places c.sweep_all.ensures)

pub returns-clause-same : goal.returns-clause-same
returns-clause-same c =
    subst (λ (now : StoreOf). now ≡ dropped_one (store_of c.args.parts.now) now)
    (λ i. store_of (record (c.args.parts.now) { places = c.sweep_all.new.places; snapshot = sym c.take-snapshot.ensures.gone i; tickets = sym c.put.ensures i }))
    (drop_same c.args.parts.now c.requires.store c.take-snapshot.result c.take-snapshot.ensures.taken c.release-tickets.new.directory c.release-tickets.result.0.items c.release-tickets.result.1.items c.release-tickets.ensures.ends
    c.release-tickets.ensures.rest c.release-tickets.ensures.actors c.release-tickets.ensures.agrees c.release-tickets.ensures.others c.release-tickets.ensures.stamps c.sweep_all.new.places c.sweep_all.ensures)

pub returns-clause-kept : goal.returns-clause-kept
returns-clause-kept c =
    subst IsStore
    (λ i. store_of (record (c.args.parts.now) { places = c.sweep_all.new.places; snapshot = sym c.take-snapshot.ensures.gone i; tickets = sym c.put.ensures i }))
    (drop_kept c.args.parts.now c.requires.store c.take-snapshot.result c.take-snapshot.ensures.taken c.release-tickets.new.directory c.release-tickets.result.0.items c.release-tickets.result.1.items c.release-tickets.ensures.ends
    c.release-tickets.ensures.rest c.release-tickets.ensures.actors c.release-tickets.ensures.agrees c.release-tickets.ensures.others c.release-tickets.ensures.stamps c.sweep_all.new.places c.sweep_all.ensures)

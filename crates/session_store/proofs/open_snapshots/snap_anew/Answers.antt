use Rattle.std.proofs.Common.{◌+◌, sym, ap, subst, Some}
use Rattle.std.specs.Option.{option_map}
use Rattle.store_map.specs.declared.reply.Reply.{Reply}
use Rattle.session_rules.specs.declared.request.Request.{Request}
use Rattle.session_rules.specs.declared.session_answer.Answer.{Answer}
use Rattle.session_store.specs.Inside.{store_of}
use Rattle.session_store.specs.Kept.{ServesRequest}
use Rattle.session_store.proofs.SnapsTaken.{snap_is_taken, many_refused, wanting_refused}
use Rattle.session_store.proofs.open_snapshots.snap_anew.Goals as goal

pub returns-in-Ok : goal.returns-in-Ok
returns-in-Ok c =
    subst
    (λ place. ServesRequest Request.Snap (store_of c.args.parts.now) (Answer.Replied Reply.Done)
    (store_of (record (c.args.parts.now) { places = record (c.args.parts.now.places) { directory = c.take.new.directory }; served = c.args.parts.now.served + 1; snapshot = place; tickets = c.take-tickets.new.place })))
    (sym c.put.ensures)
    (subst
    (λ place. ServesRequest Request.Snap (store_of c.args.parts.now) (Answer.Replied Reply.Done)
    (store_of (record (c.args.parts.now) { places = record (c.args.parts.now.places) { directory = c.take.new.directory }; served = c.args.parts.now.served + 1; snapshot = Some c.in-Ok.snapshot; tickets = place })))
    (sym c.take-tickets.ensures.gone)
    (snap_is_taken (store_of c.args.parts.now) c.requires.may.0 c.requires.none c.take-tickets.result.items (ap (option_map (λ tickets. tickets.items)) c.take-tickets.ensures.taken) c.take.new.directory c.in-Ok.snapshot
    c.in-Ok.ensures.taken c.in-Ok.ensures.others))

pub returns-in-TooMany : goal.returns-in-TooMany
returns-in-TooMany c =
    subst
    (λ place. ServesRequest Request.Snap (store_of c.args.parts.now) (Answer.TooMany c.in-TooMany.objects)
    (store_of (record (c.args.parts.now) { places = record (c.args.parts.now.places) { directory = c.take.new.directory }; served = c.args.parts.now.served + 1; tickets = place })))
    (sym c.put-in-Err.ensures)
    (subst
    (λ place. ServesRequest Request.Snap (store_of c.args.parts.now) (Answer.TooMany c.in-TooMany.objects)
    (store_of (record (c.args.parts.now) { places = record (c.args.parts.now.places) { directory = c.take.new.directory }; served = c.args.parts.now.served + 1; snapshot = place; tickets = Some c.in-Err.field-0.tickets })))
    (sym c.requires.none)
    (many_refused (store_of c.args.parts.now) c.requires.may.0 c.requires.none c.take-tickets.result.items (ap (option_map (λ tickets. tickets.items)) c.take-tickets.ensures.taken) c.take.new.directory c.in-Err.field-0
    c.in-Err.ensures.refused c.in-Err.ensures.others c.in-TooMany.objects c.in-TooMany.is))

pub returns-in-OutOfMemory : goal.returns-in-OutOfMemory
returns-in-OutOfMemory c =
    subst
    (λ place. ServesRequest Request.Snap (store_of c.args.parts.now) Answer.NoMemory
    (store_of (record (c.args.parts.now) { places = record (c.args.parts.now.places) { directory = c.take.new.directory }; served = c.args.parts.now.served + 1; tickets = place })))
    (sym c.put-in-Err.ensures)
    (subst
    (λ place. ServesRequest Request.Snap (store_of c.args.parts.now) Answer.NoMemory
    (store_of (record (c.args.parts.now) { places = record (c.args.parts.now.places) { directory = c.take.new.directory }; served = c.args.parts.now.served + 1; snapshot = place; tickets = Some c.in-Err.field-0.tickets })))
    (sym c.requires.none)
    (wanting_refused (store_of c.args.parts.now) c.requires.may.0 c.requires.none c.take-tickets.result.items (ap (option_map (λ tickets. tickets.items)) c.take-tickets.ensures.taken) c.take.new.directory c.in-Err.field-0
    c.in-Err.ensures.refused c.in-Err.ensures.others c.in-OutOfMemory.is))

use Rattle.std.proofs.Common.{◌≡◌, ◌<◌, List, length, get_or, Some, sym, ap, subst, ◌∙◌}
use Rattle.clay_grid.specs.Shape.{chunk_count}
use Rattle.store_map.specs.declared.actor.Actor.TheVariants as actor
use Rattle.store_map.specs.declared.call.Call.{Call}
use Rattle.store_map.specs.declared.call.Rebuild.{Rebuild}
use Rattle.version_seal.specs.Entry.{BookOf}
use Rattle.call_steps.specs.Callers.{IsOfScript}
use Rattle.call_machine.specs.Kinds.{Asked, client_machine, IfDraws}
use Rattle.call_machine.specs.Calls.{first_call}
use Rattle.actors.specs.Beginning.{HasBegun, MayBeAsked, MayTake}
use Rattle.actors.specs.Callers.{PartOf}
use Rattle.actors.specs.Inside.{part_by}
use Rattle.actors.specs.declared.part.CallerPart.{CallerPart}
use Rattle.actors.proofs.Begins.{is_there, read_asked}
use Rattle.actors.proofs.next_call.next_call.Goals as goal

pub bounds-as_slice-number : goal.bounds-as_slice-number
bounds-as_slice-number c =
    let may : MayTake c.args.opening.now c.args.tries c.args.place c.args.number (PartOf.OfClient c.in-Client.part.now) c.args.seat =
    subst (λ (p : CallerPart). MayTake c.args.opening.now c.args.tries c.args.place c.args.number (part_by p) c.args.seat) c.in-Client.is c.requires.may in
    subst (λ (calls : List Call). c.args.number < length calls) (sym c.as_slice.ensures) (is_there Asked.OfClient c.in-Client.part.now.calls c.args.number may.asked may.next)

pub bounds-as_slice-number-in-Repairer : goal.bounds-as_slice-number-in-Repairer
bounds-as_slice-number-in-Repairer c =
    let may : MayTake c.args.opening.now c.args.tries c.args.place c.args.number (PartOf.OfRepairer c.in-Repairer.part.now) c.args.seat =
    subst (λ (p : CallerPart). MayTake c.args.opening.now c.args.tries c.args.place c.args.number (part_by p) c.args.seat) c.in-Repairer.is c.requires.may in
    subst (λ (calls : List Rebuild). c.args.number < length calls) (sym c.as_slice-in-Repairer.ensures) (is_there Asked.OfRepairer c.in-Repairer.part.now.calls c.args.number may.asked may.next)

pub client-requires-clause-own : goal.client-requires-clause-own
client-requires-clause-own c =
    let may : MayTake c.args.opening.now c.args.tries c.args.place c.args.number (PartOf.OfClient c.in-Client.part.now) c.args.seat =
    subst (λ (p : CallerPart). MayTake c.args.opening.now c.args.tries c.args.place c.args.number (part_by p) c.args.seat) c.in-Client.is c.requires.may in
    may.own

pub client-requires-clause-unused : goal.client-requires-clause-unused
client-requires-clause-unused c = c.requires.may.unused

pub client-requires-clause-tries : goal.client-requires-clause-tries
client-requires-clause-tries c =
    let may : MayTake c.args.opening.now c.args.tries c.args.place c.args.number (PartOf.OfClient c.in-Client.part.now) c.args.seat =
    subst (λ (p : CallerPart). MayTake c.args.opening.now c.args.tries c.args.place c.args.number (part_by p) c.args.seat) c.in-Client.is c.requires.may in
    let read : Call = c.index-as_slice-number.result in
    let is : may.asked ≡ Asked.OfClient read =
    read_asked Asked.OfClient c.in-Client.part.now.calls c.args.number may.asked read may.next (c.index-as_slice-number.is ∙ ap (λ (calls : List Call). get_or calls c.args.number read) c.as_slice.ensures) in
    (subst (MayBeAsked c.args.opening.now c.args.tries c.args.place c.args.number) is may.may).0

pub client-requires-clause-script : goal.client-requires-clause-script
client-requires-clause-script c =
    let may : MayTake c.args.opening.now c.args.tries c.args.place c.args.number (PartOf.OfClient c.in-Client.part.now) c.args.seat =
    subst (λ (p : CallerPart). MayTake c.args.opening.now c.args.tries c.args.place c.args.number (part_by p) c.args.seat) c.in-Client.is c.requires.may in
    let read : Call = c.index-as_slice-number.result in
    let is : may.asked ≡ Asked.OfClient read =
    read_asked Asked.OfClient c.in-Client.part.now.calls c.args.number may.asked read may.next (c.index-as_slice-number.is ∙ ap (λ (calls : List Call). get_or calls c.args.number read) c.as_slice.ensures) in
    subst (λ (book : BookOf). IfDraws (client_machine read) (IsOfScript book (actor.Client c.args.place) c.args.number read)) (sym c.copy.ensures)
    (subst (MayBeAsked c.args.opening.now c.args.tries c.args.place c.args.number) is may.may).1

pub rebuild-requires-clause-own : goal.rebuild-requires-clause-own
rebuild-requires-clause-own c =
    let may : MayTake c.args.opening.now c.args.tries c.args.place c.args.number (PartOf.OfRepairer c.in-Repairer.part.now) c.args.seat =
    subst (λ (p : CallerPart). MayTake c.args.opening.now c.args.tries c.args.place c.args.number (part_by p) c.args.seat) c.in-Repairer.is c.requires.may in
    may.own

pub rebuild-requires-clause-unused : goal.rebuild-requires-clause-unused
rebuild-requires-clause-unused c = c.requires.may.unused

pub rebuild-requires-clause-server : goal.rebuild-requires-clause-server
rebuild-requires-clause-server c =
    let may : MayTake c.args.opening.now c.args.tries c.args.place c.args.number (PartOf.OfRepairer c.in-Repairer.part.now) c.args.seat =
    subst (λ (p : CallerPart). MayTake c.args.opening.now c.args.tries c.args.place c.args.number (part_by p) c.args.seat) c.in-Repairer.is c.requires.may in
    let read : Rebuild = c.index-as_slice-number-in-Repairer.result in
    let is : may.asked ≡ Asked.OfRepairer read =
    read_asked Asked.OfRepairer c.in-Repairer.part.now.calls c.args.number may.asked read may.next
    (c.index-as_slice-number-in-Repairer.is ∙ ap (λ (calls : List Rebuild). get_or calls c.args.number read) c.as_slice-in-Repairer.ensures) in
    subst (λ (book : BookOf). read.server < chunk_count book.geometry) (sym c.copy-in-Repairer.ensures)
    (subst (MayBeAsked c.args.opening.now c.args.tries c.args.place c.args.number) is may.may)

pub returns-in-Client : goal.returns-in-Client
returns-in-Client c =
    let may : MayTake c.args.opening.now c.args.tries c.args.place c.args.number (PartOf.OfClient c.in-Client.part.now) c.args.seat =
    subst (λ (p : CallerPart). MayTake c.args.opening.now c.args.tries c.args.place c.args.number (part_by p) c.args.seat) c.in-Client.is c.requires.may in
    let read : Call = c.index-as_slice-number.result in
    let is : may.asked ≡ Asked.OfClient read =
    read_asked Asked.OfClient c.in-Client.part.now.calls c.args.number may.asked read may.next (c.index-as_slice-number.is ∙ ap (λ (calls : List Call). get_or calls c.args.number read) c.as_slice.ensures) in
    subst (λ (p : CallerPart). HasBegun c.args.opening.now c.args.tries c.args.number (part_by p) c.args.seat c.client.result) (sym c.in-Client.is)
    (record {
      asked = Asked.OfClient read;
      next = may.next ∙ ap (λ (asked : Asked). Some asked) is;
      first = c.client.ensures ∙ ap (λ (book : BookOf). first_call book c.args.tries c.args.seat c.args.number (Asked.OfClient read)) c.copy.ensures;
    })

pub returns-in-Repairer : goal.returns-in-Repairer
returns-in-Repairer c =
    let may : MayTake c.args.opening.now c.args.tries c.args.place c.args.number (PartOf.OfRepairer c.in-Repairer.part.now) c.args.seat =
    subst (λ (p : CallerPart). MayTake c.args.opening.now c.args.tries c.args.place c.args.number (part_by p) c.args.seat) c.in-Repairer.is c.requires.may in
    let read : Rebuild = c.index-as_slice-number-in-Repairer.result in
    let is : may.asked ≡ Asked.OfRepairer read =
    read_asked Asked.OfRepairer c.in-Repairer.part.now.calls c.args.number may.asked read may.next
    (c.index-as_slice-number-in-Repairer.is ∙ ap (λ (calls : List Rebuild). get_or calls c.args.number read) c.as_slice-in-Repairer.ensures) in
    subst (λ (p : CallerPart). HasBegun c.args.opening.now c.args.tries c.args.number (part_by p) c.args.seat c.rebuild.result) (sym c.in-Repairer.is)
    (record {
      asked = Asked.OfRepairer read;
      next = may.next ∙ ap (λ (asked : Asked). Some asked) is;
      first = c.rebuild.ensures c.args.tries ∙ ap (λ (book : BookOf). first_call book c.args.tries c.args.seat c.args.number (Asked.OfRepairer read)) c.copy-in-Repairer.ensures;
    })

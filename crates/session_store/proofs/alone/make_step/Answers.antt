use Rattle.std.proofs.Common.{refl, sym, ap, ◌∙◌}
use Rattle.call_steps.specs.declared.need.Need.TheVariants as need
use Rattle.client_patch.proofs.Padding.{bytes_are_padded}
use Rattle.call_machine.specs.Kinds.{machine_of}
use Rattle.call_machine.proofs.Machines.{if_patches}
use Rattle.session_store.proofs.Making.{its_number, its_book, stepped_here}
use Rattle.session_store.proofs.alone.make_step.Goals as goal

pub on_directory-requires-clause-padded : goal.on_directory-requires-clause-padded
on_directory-requires-clause-padded c =
    if_patches (machine_of c.args.call.now.asked)
    (bytes_are_padded c.requires.calls c.args.places.now.directory c.keeps.ensures.whole.sound c.requires.bytes.bytes c.requires.bytes.contents)

pub on_server-requires-clause-need : goal.on_server-requires-clause-need
on_server-requires-clause-need c =
    sym c.in-Server.ensures.need
    ∙ ap need.Server (sym (its_number c.args.call.now c.args.call.now c.args.places.now c.requires c.in-Server.server c.index_mut.result.now c.index_mut.result.now c.in-Server.ensures.below c.index_mut.ensures.value))

pub on_server-requires-clause-book : goal.on_server-requires-clause-book
on_server-requires-clause-book c =
    its_book c.args.call.now c.args.call.now c.args.places.now c.requires c.in-Server.server c.index_mut.result.now c.index_mut.result.now c.in-Server.ensures.below c.index_mut.ensures.value

pub returns-in-Server : goal.returns-in-Server
returns-in-Server c =
    stepped_here c.args.call.now c.on_server.new.self c.args.places.now c.requires c.in-Server.server c.index_mut.result.now c.on_server.new.s c.in-Server.ensures.below c.index_mut.ensures.value _ c.keeps.ensures.bytes
    c.keeps.ensures.whole c.keeps.ensures.stamps (sym c.in-Server.ensures.need) c.in-Server.ensures.pass c.in-Server.ensures.may c.on_server.ensures.step c.on_server.ensures.knows c.on_server.ensures.asked c.on_server.ensures.owed
    c.on_server.ensures.same refl refl refl

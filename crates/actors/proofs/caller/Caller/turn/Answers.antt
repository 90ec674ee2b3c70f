use Rattle.std.proofs.Common.{◌≡◌, ℕ, ◌+◌, ◌<◌, ◌^◌, [], length, slice_get, Some, IfSome, refl, sym, ap, subst, ◌∙◌}
use Rattle.std.proofs.lemmas.List.{append-nil, length-map}
use Rattle.clay_grid.specs.Shape.{chunk_count}
use Rattle.store_core.specs.Agreement.{Agrees}
use Rattle.call_steps.specs.declared.need.Need.TheVariants as need
use Rattle.call_steps.specs.CallOf.{CallOf}
use Rattle.call_steps.specs.Steps.{need_of}
use Rattle.call_machine.specs.Calls.{MachineOf, drawn_by}
use Rattle.world_laws.specs.World.{steps_of}
use Rattle.world_laws.specs.Tokens.{token_of}
use Rattle.actors.specs.Callers.{CallerOf, who_of}
use Rattle.actors.proofs.Turning.{others, got}
use Rattle.actors.proofs.Stepping.{padded_for, ready_token}
use Rattle.actors.proofs.Telling.{tells_there, tells_here}
use Rattle.actors.proofs.caller.Caller.turn.Goals as goal

pub ready-short-requires-clause-may : goal.ready-short-requires-clause-may
ready-short-requires-clause-may g c κs within =
    record { next = c.requires.next; part = c.requires.part; whose = c.requires.keeps.whose; numbered = c.requires.keeps.numbered }

pub on_directory-last-requires-clause-need : goal.on_directory-last-requires-clause-need
on_directory-last-requires-clause-need g c =
    let r : _ = c.ready-short.ensures.ready.ready in
    record {
      call = r.now;
      was = ap (λ (x : CallerOf). x.work) r.leaves;
      is = sym (subst (λ (x : CallerOf). IfSome x.work (λ (m : MachineOf). need.Directory ≡ need_of m.call)) r.leaves c.in-Directory.ensures.need);
    }

pub on_directory-last-requires-clause-steps : goal.on_directory-last-requires-clause-steps
on_directory-last-requires-clause-steps g c = subst (λ (x : CallerOf). steps_of x.actor.doing + 1 < 2 ^ 64) (sym c.ready-short.ensures.ready.ready.leaves) c.requires.steps

pub on_directory-last-requires-clause-agrees : goal.on_directory-last-requires-clause-agrees
on_directory-last-requires-clause-agrees g c =
    let r : _ = c.ready-short.ensures.ready.ready in
    let token : r.now.call.token ≡ token_of c.args.self.now.actor.doing =
    ap (λ (x : CallOf). x.token) r.coded.is_ready ∙ ready_token r.now.call.coding r.call.call.due r.call.call ∙ sym r.its.token in
    subst (λ (x : CallerOf). Agrees c.args.directory.now.core (token_of x.actor.doing)) (sym r.leaves) (subst (Agrees c.args.directory.now.core) (sym token) c.requires.keeps.agrees)

pub on_directory-last-requires-clause-its : goal.on_directory-last-requires-clause-its
on_directory-last-requires-clause-its g c = c.requires.its ∙ sym (ap (λ (x : CallerOf). x.book) c.ready-short.ensures.ready.ready.leaves)

pub on_directory-last-requires-clause-book : goal.on_directory-last-requires-clause-book
on_directory-last-requires-clause-book g c = c.requires.book ∙ sym (ap (λ (x : CallerOf). x.book) c.ready-short.ensures.ready.ready.leaves)

pub on_directory-last-requires-clause-padded : goal.on_directory-last-requires-clause-padded
on_directory-last-requires-clause-padded g c = padded_for c.ready-short.new.self c.args.directory.now c.requires.padded

pub returns-in-Directory-clause-turn : goal.returns-in-Directory-clause-turn
returns-in-Directory-clause-turn g c script of may =
    let who : _ = c.actor-who.ensures ∙ ap (λ (a : CallerOf). who_of a.part c.args.place) c.self.view_is in
    let number : _ = c.len-number.ensures ∙ c.self.inside.ended.ok.0 ∙ sym (length-map c.self.inside.ended.items _) ∙ ap (λ (a : CallerOf). length a.actor.ended) c.self.view_is in
    tells_there script c.args.place c.args.self.now c.ready-short.new.self c.on_directory-last.new.self _ c.ready-short.ensures.ready c.requires.keeps.whose c.requires.keeps.numbered of may who number c.act-act.ensures
    c.args.directory.now c.on_directory-last.new.directory c.args.servers.now.items c.on_directory-last.result.0.value c.on_directory-last.result.1 c.on_directory-last.ensures.step c.in-Directory.ensures.need refl
    c.on_directory-last.ensures.told

pub returns-in-Server-clause-turn : goal.returns-in-Server-clause-turn
returns-in-Server-clause-turn g c script of may =
    let below : c.in-Server.server < chunk_count c.args.self.now.book.geometry = subst (λ (a : CallerOf). c.in-Server.server < chunk_count a.book.geometry) c.ready-short.ensures.ready.ready.leaves c.in-Server.ensures.below in
    let who : _ = c.actor-who.ensures ∙ ap (λ (a : CallerOf). who_of a.part c.args.place) c.self.view_is in
    let number : _ = c.len-number.ensures ∙ c.self.inside.ended.ok.0 ∙ sym (length-map c.self.inside.ended.items _) ∙ ap (λ (a : CallerOf). length a.actor.ended) c.self.view_is in
    tells_here script c.args.place c.args.self.now c.ready-short.new.self c.on_server-last.new.self _ c.ready-short.ensures.ready c.requires.keeps.whose c.requires.keeps.numbered of may who number c.act-act.ensures
    c.args.directory.now c.args.servers.now.items c.in-Server.server c.index_mut.result.now c.on_server-last.new.server c.on_server-last.result.0.value c.on_server-last.result.1 c.on_server-last.ensures.step c.in-Server.ensures.need
    (subst (λ (n : ℕ). c.in-Server.server < n) (sym c.requires.servers.count) below) c.index_mut.ensures.value c.requires.keeps.agrees refl c.on_server-last.ensures.told

pub returns-in-Server-clause-servers : goal.returns-in-Server-clause-servers
returns-in-Server-clause-servers g c =
    let below : c.in-Server.server < chunk_count c.args.self.now.book.geometry = subst (λ (a : CallerOf). c.in-Server.server < chunk_count a.book.geometry) c.ready-short.ensures.ready.ready.leaves c.in-Server.ensures.below in
    let there : slice_get c.args.servers.now.items c.in-Server.server ≡ Some c.index_mut.result.now =
    got c.args.servers.now.items c.in-Server.server c.index_mut.result.now (subst (λ (n : ℕ). c.in-Server.server < n) (sym c.requires.servers.count) below) c.index_mut.ensures.value in
    let each : (c.index_mut.result.now.number ≡ c.in-Server.server) × (c.index_mut.result.now.book ≡ c.args.self.now.book) = c.requires.servers.each _ _ there in
    others c.args.self.now.book c.args.servers.now.items c.in-Server.server c.on_server-last.new.server c.requires.servers (c.on_server-last.ensures.same.number ∙ each.0) (c.on_server-last.ensures.same.book ∙ each.1)

pub on_directory-last-requires-clause-knows : goal.on_directory-last-requires-clause-knows
on_directory-last-requires-clause-knows g c = c.ready-short.ensures.knows c.args.directory.now c.requires.knows

pub returns-in-Directory-clause-same : goal.returns-in-Directory-clause-same
returns-in-Directory-clause-same g c =
    let after : CallerOf = c.on_directory-last.new.self in
    c.on_directory-last.ensures.step.concludes.same ∙ ap (λ (x : CallerOf). record x { actor = after.actor; work = after.work; served = after.served }) c.ready-short.ensures.ready.ready.leaves

pub returns-in-Directory-clause-stamps : goal.returns-in-Directory-clause-stamps
returns-in-Directory-clause-stamps g c =
    record { more = drawn_by c.on_directory-last.result.0.value.call.step c.args.directory.now c.on_directory-last.ensures.step.call; is = c.on_directory-last.ensures.step.step.stamps }

pub on_server-last-requires-clause-need : goal.on_server-last-requires-clause-need
on_server-last-requires-clause-need g c =
    let r : _ = c.ready-short.ensures.ready.ready in
    let below : c.in-Server.server < chunk_count c.args.self.now.book.geometry = subst (λ (a : CallerOf). c.in-Server.server < chunk_count a.book.geometry) r.leaves c.in-Server.ensures.below in
    let there : slice_get c.args.servers.now.items c.in-Server.server ≡ Some c.index_mut.result.now =
    got c.args.servers.now.items c.in-Server.server c.index_mut.result.now (subst (λ (n : ℕ). c.in-Server.server < n) (sym c.requires.servers.count) below) c.index_mut.ensures.value in
    let each : (c.index_mut.result.now.number ≡ c.in-Server.server) × (c.index_mut.result.now.book ≡ c.args.self.now.book) = c.requires.servers.each _ _ there in
    record {
      call = r.now;
      was = ap (λ (x : CallerOf). x.work) r.leaves;
      is =
          sym (ap need.Server each.0
          ∙ subst (λ (x : CallerOf). IfSome x.work (λ (m : MachineOf). need.Server c.in-Server.server ≡ need_of m.call)) r.leaves c.in-Server.ensures.need);
    }

pub on_server-last-requires-clause-steps : goal.on_server-last-requires-clause-steps
on_server-last-requires-clause-steps g c = subst (λ (x : CallerOf). steps_of x.actor.doing + 1 < 2 ^ 64) (sym c.ready-short.ensures.ready.ready.leaves) c.requires.steps

pub on_server-last-requires-clause-book : goal.on_server-last-requires-clause-book
on_server-last-requires-clause-book g c =
    let r : _ = c.ready-short.ensures.ready.ready in
    let below : c.in-Server.server < chunk_count c.args.self.now.book.geometry = subst (λ (a : CallerOf). c.in-Server.server < chunk_count a.book.geometry) r.leaves c.in-Server.ensures.below in
    let there : slice_get c.args.servers.now.items c.in-Server.server ≡ Some c.index_mut.result.now =
    got c.args.servers.now.items c.in-Server.server c.index_mut.result.now (subst (λ (n : ℕ). c.in-Server.server < n) (sym c.requires.servers.count) below) c.index_mut.ensures.value in
    (c.requires.servers.each _ _ there).1 ∙ sym (ap (λ (x : CallerOf). x.book) r.leaves)

pub returns-in-Server-clause-same : goal.returns-in-Server-clause-same
returns-in-Server-clause-same g c =
    let after : CallerOf = c.on_server-last.new.self in
    c.on_server-last.ensures.step.concludes.same ∙ ap (λ (x : CallerOf). record x { actor = after.actor; work = after.work; served = after.served }) c.ready-short.ensures.ready.ready.leaves

pub returns-in-Server-clause-knows : goal.returns-in-Server-clause-knows
returns-in-Server-clause-knows g c = c.on_server-last.ensures.knows c.args.directory.now (c.ready-short.ensures.knows c.args.directory.now c.requires.knows)

pub returns-in-Server-clause-stamps : goal.returns-in-Server-clause-stamps
returns-in-Server-clause-stamps g c = record { more = []; is = sym (append-nil c.args.directory.now.stamps) }

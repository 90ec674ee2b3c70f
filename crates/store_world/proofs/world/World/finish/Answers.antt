use Rattle.std.proofs.Common.{◌≡◌, List, is_some, sym, ap, subst, ◌∙◌}
use Rattle.std.specs.Prelude.{IfOk}
use Rattle.store_map.specs.Limits.{size_of}
use Rattle.store_core.specs.History.{call_of}
use Rattle.store_core.specs.Shown.{shown}
use Rattle.version_seal.specs.Entry.{BookOf}
use Rattle.chunk_server.specs.State.{ServerState}
use Rattle.call_steps.specs.CallerCalls.{counts_of, HaveNames}
use Rattle.world_laws.specs.Served.{ServedAre}
use Rattle.world_laws.specs.HeldCore.{Holds}
use Rattle.call_steps.specs.declared.caller_calls.CallerCalls.{CallerCalls}
use Rattle.world_laws.specs.Known.{core_of}
use Rattle.store_world.specs.Stored.{StoredWorld, world_of}
use Rattle.store_world.specs.Inside.{stored_in}
use Rattle.store_world.proofs.Ended.{are_held, are_served, clients_have_names, repairers_have_names}
use Rattle.store_world.proofs.Results.{on_ok}
use Rattle.store_world.proofs.world.World.finish.Goals as goal

pub make_transcript-transcript-requires-clause-script : goal.make_transcript-transcript-requires-clause-script
make_transcript-transcript-requires-clause-script c = ap (λ (b : BookOf). is_some b.script) c.self.invariant.directory_book ∙ ap is_some c.self.invariant.written

pub make_transcript-transcript-requires-clause-clients : goal.make_transcript-transcript-requires-clause-clients
make_transcript-transcript-requires-clause-clients c =
    clients_have_names (stored_in c.self.inside) c.self.invariant c.in-Ok.clients.items c.in-Ok.ensures.clients c.in-Ok.repairers.items c.in-Ok.ensures.repairers

pub make_transcript-transcript-requires-clause-repairers : goal.make_transcript-transcript-requires-clause-repairers
make_transcript-transcript-requires-clause-repairers c =
    subst (λ (l : List CallerCalls). HaveNames (counts_of l)) (sym c.as_slice-2.ensures.value)
    (repairers_have_names (stored_in c.self.inside) c.self.invariant c.in-Ok.clients.items c.in-Ok.ensures.clients c.in-Ok.repairers.items c.in-Ok.ensures.repairers)

pub returns : goal.returns
returns c =
    let s : StoredWorld = stored_in c.self.inside in
    let held : Holds (core_of s.script (world_of s)) s.directory.core s.servers c.in-Ok.clients.items c.in-Ok.repairers.items =
    are_held s c.self.invariant c.in-Ok.clients.items c.in-Ok.ensures.clients c.in-Ok.repairers.items c.in-Ok.ensures.repairers in
    let lent : Holds (core_of s.script (world_of s)) s.directory.core c.as_slice.result.now c.in-Ok.clients.items c.in-Ok.repairers.items =
    subst (λ (l : List ServerState). Holds (core_of s.script (world_of s)) s.directory.core l c.in-Ok.clients.items c.in-Ok.repairers.items) (sym c.as_slice.ensures.value) held in
    let both : Holds (core_of s.script (world_of s)) s.directory.core c.as_slice.result.now c.in-Ok.clients.items c.as_slice-2.result.now =
    subst (λ (l : List CallerCalls). Holds (core_of s.script (world_of s)) s.directory.core c.as_slice.result.now c.in-Ok.clients.items l) (sym c.as_slice-2.ensures.value) lent in
    let served : ServedAre (size_of s.script) (call_of s.script) s.directory.core.points c.in-Ok.clients.items =
    are_served s c.self.invariant c.in-Ok.clients.items c.in-Ok.ensures.clients c.in-Ok.repairers.items c.in-Ok.ensures.repairers in
    subst (λ (v : StoredWorld). IfOk c.make_transcript-transcript.result (λ transcript. transcript ≡ shown v.script (core_of v.script (world_of v)))) c.self.view_is
    (on_ok c.make_transcript-transcript.result (λ transcript leads. leads s.script (core_of s.script (world_of s)) both served) c.make_transcript-transcript.ensures)

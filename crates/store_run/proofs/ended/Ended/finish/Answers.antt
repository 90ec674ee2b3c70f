use Rattle.std.proofs.Common.{◌≤◌, ◌^◌, List, length, is_some, sym, ap, subst}
use Rattle.std.proofs.lemmas.Result.{IfOk-weaker}
use Rattle.store_map.specs.declared.transcript.Transcript.{Transcript}
use Rattle.chunk_server.specs.State.{ServerState}
use Rattle.call_steps.specs.CallerCalls.{HaveNames, counts_of}
use Rattle.call_steps.specs.declared.caller_calls.CallerCalls.{CallerCalls}
use Rattle.thread_laws.specs.ServedLaws.{IsMadeOf}
use Rattle.store_run.specs.Ended.{IsEnded}
use Rattle.store_run.specs.Swept.{IsRunToEnd}
use Rattle.store_run.specs.declared.ended.Ended.{Ended}
use Rattle.store_run.proofs.Shown.{clients_have_names, few_servers, repairers_have_names, shows_run_to_end}
use Rattle.store_run.proofs.ended.Ended.finish.Goals as goal

pub make_transcript-transcript-requires-clause-script : goal.make_transcript-transcript-requires-clause-script
make_transcript-transcript-requires-clause-script g c = ap is_some (IsEnded.written c.requires.0)

pub make_transcript-transcript-requires-clause-servers : goal.make_transcript-transcript-requires-clause-servers
make_transcript-transcript-requires-clause-servers g c =
    subst (λ (l : List ServerState). length l ≤ 2 ^ 32) (sym c.as_slice.ensures.value) (few_servers g.script c.args.self c.requires.0)

pub make_transcript-transcript-requires-clause-clients : goal.make_transcript-transcript-requires-clause-clients
make_transcript-transcript-requires-clause-clients g c = clients_have_names g.script c.args.self c.requires.0

pub make_transcript-transcript-requires-clause-repairers : goal.make_transcript-transcript-requires-clause-repairers
make_transcript-transcript-requires-clause-repairers g c =
    subst (λ (l : List CallerCalls). HaveNames (counts_of l)) (sym c.as_slice-2.ensures.value) (repairers_have_names g.script c.args.self c.requires.0)

pub returns : goal.returns
returns g c =
    let ended : Ended = c.args.self in
    IfOk-weaker c.make_transcript-transcript.result (λ (t : Transcript). IsMadeOf ended.directory.core c.as_slice.result.now ended.clients.items c.as_slice-2.result.now t) (IsRunToEnd g.script)
    (λ t shows. shows_run_to_end g.script ended c.requires.0 c.requires.1 t
    (subst (λ (l : List CallerCalls). IsMadeOf ended.directory.core ended.servers.items ended.clients.items l t) c.as_slice-2.ensures.value
    (subst (λ (l : List ServerState). IsMadeOf ended.directory.core l ended.clients.items c.as_slice-2.result.now t) c.as_slice.ensures.value shows)))
    c.make_transcript-transcript.ensures

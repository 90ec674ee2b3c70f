use Rattle.std.proofs.Common.{◌≡◌, [], ◌∷◌, ◌++◌, length, sym, ◌∙◌}
use Rattle.std.proofs.lemmas.List.{length-map}
use Rattle.chunk_server.specs.State.{Held, versions_of}
use Rattle.chunk_server.specs.Core.{core_of}
use Rattle.world_lines.proofs.Numbered.{line_more}
use Rattle.world_lines.proofs.stored.server_lines.Goals as goal

pub loop-server-preserved : goal.loop-server-preserved
loop-server-preserved c =
    let state = c.index-servers-server.result in
    let version = λ (chunk : Held). chunk.version in
    let held : c.held.result ≡ length (versions_of state.held) = c.held.ensures.count ∙ sym (length-map state.held version) in
    line_more core_of (λ entry. record { server = entry.0; taken = entry.1.taken; held = length entry.1.held; epoch = entry.1.epoch })
    c.loop-server.lines c.push.new.self c.args.servers.now c.loop-server.server state
    c.loop-server-test.true c.index-servers-server.is c.loop-server.invariant
    (c.in_ok-push.ensures.ok
    ∙ (λ k. c.loop-server.lines ++ record { server = c.loop-server.server; taken = c.taken.ensures k; held = held k; epoch = c.epoch.ensures k } ∷ []))

use Rattle.std.proofs.Common.{◌≡◌, ◌∷◌, ◌++◌, ◌∙◌}
use Rattle.std.specs.Prelude.{decimal}
use Rattle.std.proofs.lemmas.Result.{on_ok_weaker}
use Rattle.hist_check.proofs.Tails.{server_tail}
use Rattle.hist_check.proofs.verdict_text.append_server.Goals as goal

pub returns : goal.returns
returns c =
    let old = c.args.out.now.items in
    let line = c.args.line.now in
    on_ok_weaker c.append.result
    (λ (h : c.append.new.out.items ≡ old ++ 84 ∷ 32 ∷ (decimal line.server ++ 32 ∷ (decimal line.taken ++ 32 ∷ (decimal line.held ++ 32 ∷ decimal line.epoch)))).
    h ∙ server_tail old (decimal line.server) (decimal line.taken) (decimal line.held) (decimal line.epoch))
    c.append.ensures

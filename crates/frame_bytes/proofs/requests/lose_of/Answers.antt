use Rattle.std.proofs.Common.{ℕ, sym, ◌∙◌}
use Rattle.session_rules.specs.declared.request.Request.{Request}
use Rattle.frame_bytes.proofs.requests.lose_of.Goals as goal

abbrev made : ℕ → Request
made server = Request.Lose server

pub returns-in_err-server : goal.returns-in_err-server
returns-in_err-server c = c.from_residual.ensures ∙ sym (c.in_err-server.ensures.none made)

pub returns : goal.returns
returns c = sym (c.in_ok-server.ensures.some made)

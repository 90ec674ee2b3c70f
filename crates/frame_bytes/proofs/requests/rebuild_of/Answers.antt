use Rattle.std.proofs.Common.{ℕ, List, Some, sym, ap, ◌∙◌}
use Rattle.session_rules.specs.declared.request.Request.{Request}
use Rattle.session_rules.specs.Fields.{Reader, number_then, then_end}
use Rattle.session_rules.specs.Requests.{server_then}
use Rattle.frame_bytes.proofs.FieldLemmas.{wanting}
use Rattle.frame_bytes.proofs.requests.rebuild_of.Goals as goal

abbrev made : List ℕ → ℕ → ℕ → Request
made name stripe server = Request.Rebuild name stripe server

-- what is made of the server, and of the stripe and the server
abbrev by_server : ℕ → List ℕ → ℕ → Reader Request
by_server servers name stripe = server_then servers (λ server. then_end (made name stripe server))

abbrev by_stripe : ℕ → List ℕ → Reader Request
by_stripe servers name = number_then (by_server servers name)

pub returns-in_default-number_field : goal.returns-in_default-number_field
returns-in_default-number_field c =
    sym (c.in-Some.ensures.some (by_stripe c.args.servers) ∙ c.in_default-number_field.ensures.none (by_server c.args.servers c.in-Some.name.now))

pub returns-in_default-only_server : goal.returns-in_default-only_server
returns-in_default-only_server c =
    sym
    (c.in-Some.ensures.some (by_stripe c.args.servers) ∙ c.in-Some-number_field.ensures.some (by_server c.args.servers c.in-Some.name.now)
    ∙ c.in_default-only_server.ensures.none (made c.in-Some.name.now c.in-Some-number_field.stripe))

pub returns-in_err-name : goal.returns-in_err-name
returns-in_err-name c =
    wanting _ (made c.in-Some.name.now c.in-Some-number_field.stripe c.in-Some-only_server.server) tt
    (c.in-Some.ensures.some (by_stripe c.args.servers) ∙ c.in-Some-number_field.ensures.some (by_server c.args.servers c.in-Some.name.now)
    ∙ c.in-Some-only_server.ensures.some (made c.in-Some.name.now c.in-Some-number_field.stripe)) _
    c.from_residual.ensures.0

pub returns : goal.returns
returns c =
    ap (λ name. Some (made name c.in-Some-number_field.stripe c.in-Some-only_server.server)) c.in_ok-name.ensures
    ∙ sym
    (c.in-Some.ensures.some (by_stripe c.args.servers) ∙ c.in-Some-number_field.ensures.some (by_server c.args.servers c.in-Some.name.now)
    ∙ c.in-Some-only_server.ensures.some (made c.in-Some.name.now c.in-Some-number_field.stripe))

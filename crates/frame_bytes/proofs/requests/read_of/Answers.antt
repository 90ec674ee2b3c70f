use Rattle.std.proofs.Common.{ℕ, List, Some, sym, ap, ◌∙◌}
use Rattle.store_map.specs.declared.call.Call.TheVariants as call
use Rattle.session_rules.specs.declared.request.Request.{Request}
use Rattle.frame_bytes.proofs.FieldLemmas.{wanting}
use Rattle.frame_bytes.proofs.requests.read_of.Goals as goal

abbrev made : List ℕ → ℕ → ℕ → Request
made name offset count = Request.OfMap (call.ReadAt name offset count)

pub returns-in_default : goal.returns-in_default
returns-in_default c = sym (c.in_default.ensures.none made)

pub returns-in_err-name : goal.returns-in_err-name
returns-in_err-name c =
    wanting _ (made c.in-Some.name.now c.in-Some.offset c.in-Some.length) tt (c.in-Some.ensures.some made) _ c.from_residual.ensures.0

pub returns : goal.returns
returns c = ap (λ name. Some (made name c.in-Some.offset c.in-Some.length)) c.in_ok-name.ensures ∙ sym (c.in-Some.ensures.some made)

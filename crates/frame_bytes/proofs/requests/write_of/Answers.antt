use Rattle.std.proofs.Common.{ℕ, List, Some, sym, ap, ◌∙◌}
use Rattle.store_map.specs.declared.call.Call.TheVariants as call
use Rattle.store_map.specs.declared.content.Content.TheVariants as content
use Rattle.session_rules.specs.declared.request.Request.{Request}
use Rattle.session_rules.specs.Fields.{Reader, number_then, rest_then}
use Rattle.frame_bytes.proofs.FieldLemmas.{wanting}
use Rattle.frame_bytes.proofs.requests.write_of.Goals as goal

-- what is made of the data, and of the offset and the data
abbrev by_data : List ℕ → ℕ → Reader Request
by_data name offset = rest_then (λ bytes. Request.OfMap (call.Write name offset (content.Hex bytes)))

abbrev by_offset : List ℕ → Reader Request
by_offset name = number_then (by_data name)

pub returns-in_default-number_field : goal.returns-in_default-number_field
returns-in_default-number_field c = sym (c.in-Some.ensures.some by_offset ∙ c.in_default-number_field.ensures.none (by_data c.in-Some.name.now))

pub returns-in_err-name : goal.returns-in_err-name
returns-in_err-name c =
    wanting _ (Request.OfMap (call.Write c.in-Some.name.now c.in-Some-number_field.offset (content.Hex c.in-Some-number_field.bytes.now))) tt
    (c.in-Some.ensures.some by_offset ∙ c.in-Some-number_field.ensures.some (by_data c.in-Some.name.now)) _ c.from_residual.ensures.0

pub returns-in_err-content : goal.returns-in_err-content
returns-in_err-content c =
    wanting _ (Request.OfMap (call.Write c.in-Some.name.now c.in-Some-number_field.offset (content.Hex c.in-Some-number_field.bytes.now))) tt
    (c.in-Some.ensures.some by_offset ∙ c.in-Some-number_field.ensures.some (by_data c.in-Some.name.now)) _ c.from_residual-in_err-content.ensures.0

pub returns : goal.returns
returns c =
    ap (λ name. Some (Request.OfMap (call.Write name c.in-Some-number_field.offset c.in_ok-content.content))) c.in_ok-name.ensures
    ∙ ap (λ bytes. Some (Request.OfMap (call.Write c.in-Some.name.now c.in-Some-number_field.offset bytes))) c.in_ok-content.ensures
    ∙ sym (c.in-Some.ensures.some by_offset ∙ c.in-Some-number_field.ensures.some (by_data c.in-Some.name.now))

use Rattle.std.proofs.Common.{◌≡◌, ◌∷◌, ◌++◌, ap, ◌∙◌, ℕ, List}
use Rattle.std.specs.Prelude.{codes, decimal}
use Rattle.std.proofs.lemmas.Result.{on_ok_weaker}
use Rattle.hist_check.proofs.Tails.{object_tail}
use Rattle.hist_check.proofs.verdict_text.append_object.Goals as goal

pub returns : goal.returns
returns c =
    let old = c.args.out.now.items in
    let name = c.args.line.now.name in
    let count = decimal c.args.line.now.length in
    let letter : c.append.new.out.items ≡ old ++ codes "L " = c.in_ok-append.ensures in
    let name_is : c.as_bytes.result.now ≡ name = c.as_bytes.ensures.bytes in
    let named : c.extend_from_slice.new.self.items ≡ old ++ codes "L " ++ name = c.in_ok-extend_from_slice.ensures.items ∙ (λ i. letter i ++ name_is i) in
    on_ok_weaker c.append-2.result
    (λ (h : c.append-2.new.out.items ≡ c.extend_from_slice.new.self.items ++ (32 ∷ count)).
    h ∙ ap (λ (front : List ℕ). front ++ (32 ∷ count)) named ∙ object_tail old name count)
    c.append-2.ensures

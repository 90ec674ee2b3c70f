use Rattle.std.proofs.Common.{◌≡◌, ℕ, List, ◌++◌, ap, ◌∙◌}
use Rattle.std.specs.Prelude.{codes}
use Rattle.std.proofs.lemmas.Result.{on_ok_weaker}
use Rattle.hist_check.specs.VerdictText.{object_text}
use Rattle.hist_check.proofs.Tails.{five_parts}
use Rattle.hist_check.proofs.verdict_text.append_objects.Goals as goal

pub returns : goal.returns
returns c =
    let old = c.args.out.now.items in
    let expected = object_text c.args.expected.now in
    let got = object_text c.args.got.now in
    let kind : c.append.new.out.items ≡ old ++ codes "tail list expected " = c.in_ok-append.ensures in
    let wanted : c.append_listed.new.out.items ≡ c.append.new.out.items ++ expected = c.in_ok-append_listed.ensures in
    let between : c.append-2.new.out.items ≡ c.append_listed.new.out.items ++ codes " got " = c.in_ok-append-2.ensures in
    let stands : c.append_listed-2.new.out.items ≡ c.append-2.new.out.items ++ got = c.in_ok-append_listed-2.ensures in
    let before : c.append-2.new.out.items ≡ old ++ codes "tail list expected " ++ expected ++ codes " got " =
    between ∙ ap (λ (front : List ℕ). front ++ codes " got ") (wanted ∙ ap (λ (front : List ℕ). front ++ expected) kind) in
    on_ok_weaker c.append-3.result
    (λ (h : c.append-3.new.out.items ≡ c.append_listed-2.new.out.items ++ codes "\n").
    h ∙ ap (λ (front : List ℕ). front ++ codes "\n") (stands ∙ ap (λ (front : List ℕ). front ++ got) before)
    ∙ five_parts old (codes "tail list expected ") expected (codes " got ") got (codes "\n"))
    c.append-3.ensures

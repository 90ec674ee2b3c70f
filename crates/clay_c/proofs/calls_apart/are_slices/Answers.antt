use Rattle.std.proofs.Common.{◌≡◌, ℕ, List, Bor, length, sym, ◌∙◌, true≢false}
use Rattle.std.proofs.lemmas.List.{length-map}
use Rattle.std.proofs.lemmas.List.Elements.{All-map}
use Rattle.lost_read.proofs.ReadLaws.{all_from_map}
use Rattle.clay_c.proofs.calls_apart.are_slices.Goals as goal

pub returns-then-slices-count : goal.returns-then-slices-count
returns-then-slices-count c = (λ yes. absurd (true≢false (sym yes)), λ h. absurd (c.if-slices-count.true (sym (length-map c.args.slices.now (λ (slice : Bor (List ℕ)). slice.now)) ∙ h.0)))

pub returns : goal.returns
returns c =
    let long : List ℕ → Type 0 = λ bytes. length bytes ≡ c.args.len in
    let bytes : Bor (List ℕ) → List ℕ = λ slice. slice.now in (
      λ yes. (length-map c.args.slices.now bytes ∙ c.if-slices-count.false, All-map long bytes c.args.slices.now (c.are_long.ensures.0 yes)),
      λ h. c.are_long.ensures.1 (all_from_map long bytes c.args.slices.now h.1),
    )

use Rattle.std.proofs.Common.{ℕ, ◌^◌, ◌<◌, List, [], Bor, map, length, get_or, sym, subst, ap, ◌∙◌, inl, inr, arith}
use Rattle.std.proofs.lemmas.Bool.{cases_eq}
use Rattle.std.proofs.lemmas.List.{get_or-map}
use Rattle.clay_c.proofs.encode_calls.are_bytes.Goals as goal

pub loop-slice-preserved : goal.loop-slice-preserved
loop-slice-preserved c = λ k hk p.
    let slices = c.args.slices.now in
    let i : ℕ = c.loop-slice.slice-index in
    let within : i < length slices = omega (arith, c.loop-slice-test.true) in
    elim (cases_eq k i) [
      | inl same ↦
          subst (λ l. get_or l p 0 < 2 ^ 8)
          (sym (ap (λ n. get_or (map (λ (slice : Bor (List ℕ)). slice.now) slices) n []) same ∙ get_or-map (λ (slice : Bor (List ℕ)). slice.now) slices i _ [] within))
          (c.keeps_bytes.ensures p)
      | inr other ↦ c.loop-slice.invariant k (omega (arith, hk, other)) p
    ]

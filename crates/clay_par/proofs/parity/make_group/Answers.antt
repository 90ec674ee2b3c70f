use Rattle.std.proofs.Common.{◌≡◌, ℕ, ◌*◌, length, ap, ◌∙◌, arith}
use Rattle.std.proofs.lemmas.List.{length-replicate}
use Rattle.clay_par.proofs.parity.make_group.Goals as goal

pub returns-clause-room : goal.returns-clause-room
returns-clause-room c =
    let q : ℕ = c.q-q.result in
    let w : ℕ = c.w-w.result in
    let long : length c.in_ok-values.values.items ≡ c.min.result = ap length c.in_ok-values.ensures ∙ length-replicate c.min.result 0 in
    record {
      layers = c.requires;
      block = omega (arith, long, c.min.ensures, c.w-w.ensures.value);
      whole = ap length c.in_ok-solved.ensures
          ∙ length-replicate (q * (q * w)) 0
          ∙ (λ i. c.q-q.ensures.value i * (c.q-q.ensures.value i * c.w-w.ensures.value i));
    }

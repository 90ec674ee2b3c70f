use Rattle.std.proofs.Common.{◌≡◌, ◌<◌, ◌≤◌, eqb, false, length, get_or, sym, subst, ap, ◌∙◌}
use Rattle.clay_lanes.specs.Places.{AreFilledFrom}
use Rattle.clay_lanes.proofs.FillLemmas.{same_count}
use Rattle.clay_c.proofs.Taking.{same_left}
use Rattle.clay_c.proofs.Recovering.{recovers}
use Rattle.clay_c.proofs.recover_calls.write_missing.Goals as goal

pub recover_into-requires-clause-count : goal.recover_into-requires-clause-count
recover_into-requires-clause-count c = ap length c.deref.ensures.value ∙ c.in_ok-missing.ensures.len ∙ c.requires.marks

pub recover_into-requires-clause-few : goal.recover_into-requires-clause-few
recover_into-requires-clause-few c =
    let present = c.args.present.now in
    let missing = c.deref.result.now in
    let long : length missing ≡ length present = ap length c.deref.ensures.value ∙ c.in_ok-missing.ensures.len in
    subst (λ n. n ≤ c.args.g.parity_count) (sym (same_count (λ gone. gone) (λ mark. eqb mark 0) false 0 missing present long
    (λ k h. ap (λ l. get_or l k false) c.deref.ensures.value ∙ c.in_ok-missing.ensures.value k (subst (λ n. k < n) long h)))) c.requires.few

pub returns-clause-written : goal.returns-clause-written
returns-clause-written c =
    let g = c.args.g in
    let present = c.args.present.now in
    let old = c.args.chunks.now in
    let new = c.recover_into.new.chunks in
    recovers g present old new
    (subst (λ p. AreFilledFrom g p old new)
    (same_left g present c.deref.result.now old (λ k h. ap (λ l. get_or l k false) c.deref.ensures.value ∙ c.in_ok-missing.ensures.value k (subst (λ n. k < n) (sym c.requires.marks) h)))
    c.in_ok-recover_into.ensures.filled)

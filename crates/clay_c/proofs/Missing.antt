-- The missing chunks of a code with fewer helpers, by marks of a caller's.
use Rattle.std.proofs.Common.{◌≡◌, ◌≢◌, ℕ, zero, suc, subst, ◌+◌, ◌<◌, ◌≤◌, Bool, true, false, cond, eqb, List, length, get_or, take, count_by, refl, sym, ap, ◌∙◌, inl, inr, arith}
use Rattle.std.proofs.lemmas.Bool.{cases_Bool, ne_eqb, true≢false}
use Rattle.std.proofs.lemmas.List.{take_all}
use Rattle.std.proofs.lemmas.List.Sums.{count_by_more_yes, count_by_more_no}
use Rattle.clay_grid.specs.Score.{count_below}
use Rattle.clay_grid.proofs.Counting.{count_below_same}
use Rattle.clay_aloof.specs.Shape.{AloofShape, all_chunks}
use Rattle.clay_aloof.specs.Recovered.{is_gone, AreFew, IsRecovered}
use Rattle.clay_c.specs.Calls.{lost_count}
use Rattle.clay_c.specs.Missing.{RecoversAloof}

-- whether a mark is 0
is_zero : ℕ → Bool
is_zero mark = eqb mark 0

-- as many entries have the mark 0 as places
zero_marks : (marks : List ℕ) (n : ℕ) → n ≤ length marks → count_below n (λ c. is_zero (get_or marks c 0)) ≡ count_by is_zero (take n marks)
zero_marks marks zero h = refl
zero_marks marks (suc n) h =
    let rest = zero_marks marks n (omega arith) in
    let within : n < length marks = omega arith in
    let next : n + 1 ≡ suc n = omega arith in
    elim (cases_Bool (is_zero (get_or marks n 0))) [
      | inl gone ↦
          let one : cond (is_zero (get_or marks n 0)) 1 0 ≡ 1 = ap (λ v. cond v 1 0) gone in
          let more = count_by_more_yes is_zero marks n 0 within gone in
          (λ k. rest k + one k) ∙ sym more ∙ ap (λ v. count_by is_zero (take v marks)) next
      | inr here ↦
          let none : cond (is_zero (get_or marks n 0)) 1 0 ≡ 0 = ap (λ v. cond v 1 0) here in
          let same : count_by is_zero (take n marks) + 0 ≡ count_by is_zero (take n marks) = omega arith in
          let more = count_by_more_no is_zero marks n 0 within here in
          (λ k. rest k + none k) ∙ same ∙ sym more ∙ ap (λ v. count_by is_zero (take v marks)) next
    ]

pub lost_counted : (marks : List ℕ) → count_below (length marks) (λ c. eqb (get_or marks c 0) 0) ≡ lost_count marks
unfolding is_zero
lost_counted marks = zero_marks marks (length marks) (omega arith) ∙ ap (count_by (λ mark. eqb mark 0)) (take_all (length marks) marks (omega arith))

-- the marks of the missing chunks are few enough
pub are_few : (a : AloofShape) (present : List ℕ) (missing : List Bool) → length present ≡ all_chunks a → length missing ≡ length present
    → ((c : ℕ) → c < length present → get_or missing c false ≡ eqb (get_or present c 0) 0) → lost_count present ≤ a.parity_count → AreFew a missing
are_few a present missing whole long each few = record {
  count = long ∙ whole;
  few =
      let same : count_below (all_chunks a) (is_gone missing) ≡ lost_count present =
      ap (λ n. count_below n (is_gone missing)) (sym whole) ∙ count_below_same (length present) (is_gone missing) (λ c. eqb (get_or present c 0) 0) each ∙ lost_counted present in
      subst (λ n. n ≤ a.parity_count) (sym same) few;
}

-- what is recovered from them
pub recovers_aloof : (a : AloofShape) (present : List ℕ) (missing : List Bool) (old now : List ℕ) → length present ≡ all_chunks a
    → ((c : ℕ) → c < length present → get_or missing c false ≡ eqb (get_or present c 0) 0) → IsRecovered a missing old now → RecoversAloof a present old now
recovers_aloof a present missing old now whole each is = record {
  kept = λ c hc there. is.kept c hc (here c hc there);
  value = λ word has c hc. is.value word (record {
    codeword = has.codeword;
    agrees = λ d hd there. has.agrees d hd (λ zero_mark. true≢false (sym (ap (λ v. eqb v 0) zero_mark) ∙ sym (each d (inside d hd)) ∙ there));
  }) c hc;
}
  where
    inside : (c : ℕ) → c < all_chunks a → c < length present
    inside c h = subst (λ n. c < n) (sym whole) h

    here : (c : ℕ) → c < all_chunks a → get_or present c 0 ≢ 0 → get_or missing c false ≡ false
    here c hc there = each c (inside c hc) ∙ ne_eqb (get_or present c 0) 0 there

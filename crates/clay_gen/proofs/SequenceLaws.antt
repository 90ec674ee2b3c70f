-- Laws on values that are drawn one after another.
use Rattle.std.proofs.Common.{◌≡◌, ℕ, zero, suc, ◌+◌, ◌*◌, ◌/◌, ◌%◌, ◌^◌, ◌<◌, List, [], ◌∷◌, ◌++◌, length, refl, sym, ap, ◌∙◌, arith}
use Rattle.std.specs.Prelude.{All}
use Rattle.std.proofs.Math.Numerals.{add-one}
use Rattle.std.proofs.Math.Nat.{mod-lt, mod-add-mod}
use Rattle.std.proofs.lemmas.List.Elements.{All-nil, All-cons}
use Rattle.clay_gen.specs.Sequence.{advance, state_after, pick, drawn, behind_all}

-- one value more
drawn_suc : {A : Type 0} (value : ℕ → A) (behind : ℕ → ℕ) (n state : ℕ) → drawn value behind (suc n) state ≡ drawn value behind n state ++ value (behind_all behind n state) ∷ []
drawn_suc value behind zero state = refl
drawn_suc {A} value behind (suc n) state = ap (λ (l : List A). value state ∷ l) (drawn_suc value behind n (behind state))

behind_suc : (behind : ℕ → ℕ) (n state : ℕ) → behind_all behind (suc n) state ≡ behind (behind_all behind n state)
behind_suc behind zero state = refl
behind_suc behind (suc n) state = behind_suc behind n (behind state)

pub drawn_more : {A : Type 0} (value : ℕ → A) (behind : ℕ → ℕ) (n start state : ℕ) (list longer : List A) (x : A)
    → list ≡ drawn value behind n start → state ≡ behind_all behind n start → x ≡ value state → longer ≡ list ++ x ∷ [] → longer ≡ drawn value behind (n + 1) start
drawn_more {A} value behind n start state list longer x so_far at is pushed =
    let same : x ≡ value (behind_all behind n start) = is ∙ ap value at in
    pushed ∙ ap (λ (l : List A). l ++ x ∷ []) so_far ∙ ap (λ (y : A). drawn value behind n start ++ y ∷ []) same ∙ sym (drawn_suc value behind n start)
    ∙ ap (λ (m : ℕ). drawn value behind m start) (sym (add-one n))

pub behind_more : (behind : ℕ → ℕ) (n start state next : ℕ) → state ≡ behind_all behind n start → next ≡ behind state → next ≡ behind_all behind (n + 1) start
behind_more behind n start state next at moved =
    moved ∙ ap behind at ∙ sym (behind_suc behind n start) ∙ ap (λ (m : ℕ). behind_all behind m start) (sym (add-one n))

pub length_drawn : {A : Type 0} (value : ℕ → A) (behind : ℕ → ℕ) (n state : ℕ) → length (drawn value behind n state) ≡ n
length_drawn value behind zero state = refl
length_drawn value behind (suc n) state = ap suc (length_drawn value behind n (behind state))

pub All_drawn : {A : Type 0} (P : A → Type 0) (value : ℕ → A) (behind : ℕ → ℕ) → ((state : ℕ) → P (value state)) → (n state : ℕ) → All P (drawn value behind n state)
All_drawn P value behind h zero state = All-nil P
All_drawn P value behind h (suc n) state = All-cons P (value state) (drawn value behind n (behind state)) (h state) (All_drawn P value behind h n (behind state))

pub pick_below : (state place limit : ℕ) → 0 < limit → pick state place limit < limit
pick_below state place limit some = mod-lt (state_after place (advance state) / 2 ^ 32) some

module _ (state : ℕ) where
  -- a product and a sum that each wrap
  pub advanced : ((state * 6364136223846793005) % 2 ^ 64 + 1442695040888963407) % 2 ^ 64 ≡ advance state
  unfolding advance
  advanced =
      let turned : state * 6364136223846793005 ≡ 6364136223846793005 * state = omega arith in
      mod-add-mod (state * 6364136223846793005) (2 ^ 64) 1442695040888963407 ∙ ap (λ (m : ℕ). (m + 1442695040888963407) % 2 ^ 64) turned

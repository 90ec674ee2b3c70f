-- Any shares, as many as there are data chunks, can be joined.
use Rattle.std.proofs.Common.{◌≡◌, ℕ, zero, suc, ◌+◌, ◌*◌, ◌<◌, ◌≤◌, Bool, true, false, cond, List, [], ◌∷◌, length, get_or, sym, ap, subst, ◌∙◌, inl, inr, arith, length-append}
use Rattle.std.proofs.lemmas.Bool.{cases_Bool}
use Rattle.clay_grid.specs.Shape.{chunk_length}
use Rattle.clay_grid.specs.Score.{count_below}
use Rattle.clay_aloof.specs.Shape.{AloofShape, all_chunks, grid_of}
use Rattle.clay_aloof.specs.Limits.{IsAloof}
use Rattle.share_format.specs.Cut.{stripe_count}
use Rattle.share_format.specs.Blocks.{block_of, block_length, IsBlock}
use Rattle.share_format.specs.Header.{Header}
use Rattle.share_format.specs.Shares.{IsShare}
use Rattle.share_format.proofs.AnyShares.{one_kept}
use Rattle.share_format.proofs.Determined.{same_words}
use Rattle.share_format.proofs.HeaderBack.{stripe_some}
use Rattle.share_files.specs.Found.{block_in}
use Rattle.share_files.specs.Seen.{Seen, seen_of, failed_since}
use Rattle.share_files.proofs.FoundLemmas.{no_block}
use Rattle.share_files.proofs.ShareLemmas.{block_is, block_good}
use Rattle.share_files.specs.Missed.{HasFailed, LackBlocks}
use Rattle.share_files.specs.Joined.{NoRotPasses, AreSharesBut}

-- ---- one that is counted here and not there

fewer : (these those one other : ℕ) → those + other < these + one → one ≡ other → those < these
fewer these those one other less same = omega (arith, less, same)

none_here : (these those one other : ℕ) → those + other < these + one → one ≡ 0 → those < these
none_here these those one other less none = omega (arith, less, none)

abbrev One : ℕ → (ℕ → Bool) → (ℕ → Bool) → Type 0
One n these those = (c : ℕ) × (c < n) × (these c ≡ true) × (those c ≡ false)

later : (n : ℕ) (these those : ℕ → Bool) → One n these those → One (suc n) these those
later n these those one = (one.0, omega (arith, one.1), one.2, one.3)

one_more : (n : ℕ) (these those : ℕ → Bool) → count_below n those < count_below n these → One n these those
one_more zero these those less = absurd (omega (arith, less))
one_more (suc n) these those less = elim (cases_Bool (these n)) [
  | inl here ↦ elim (cases_Bool (those n)) [
    | inl there ↦
        later n these those
        (one_more n these those
        (fewer (count_below n these) (count_below n those) (cond (these n) 1 0) (cond (those n) 1 0) less (ap (λ b. cond b 1 0) (here ∙ sym there))))
    | inr not_there ↦ (n, omega arith, here, not_there)
  ]
  | inr not_here ↦
      later n these those
      (one_more n these those
      (none_here (count_below n these) (count_below n those) (cond (these n) 1 0) (cond (those n) 1 0) less (ap (λ b. cond b 1 0) not_here)))
]

-- ---- blocks

some_block : (a : AloofShape) → IsAloof a → 0 < block_length a
some_block a aloof =
    let some : 1 ≤ a.data_count * chunk_length (grid_of a) = stripe_some a aloof in
    let chunk : 0 < chunk_length (grid_of a) = grind arith in
    omega (arith, chunk)

-- no read failed in the place of a block where none failed
none_failed : (a : AloofShape) (i : ℕ) (failed : List ℕ) → failed ≡ [] → HasFailed a i failed → ⊥
none_failed a i failed none has =
    let size : length failed ≡ length has.earlier + length (has.place ∷ has.later) =
    ap (λ (l : List ℕ). length l) has.one ∙ length-append has.earlier (has.place ∷ has.later) in
    let empty : length failed ≡ 0 = ap (λ (l : List ℕ). length l) none in
    omega (arith, size, empty)

-- ---- the shares of a file

module _ (h : Header) (erased : ℕ → Bool) (file : List ℕ) (files : List (List ℕ)) (aloof : IsAloof h.shape) (shares : AreSharesBut h erased file files) where
  some : (c : ℕ) × (c < all_chunks h.shape) × (erased c ≡ false)
  some =
      let lost : count_below (h.shape.data_count + h.shape.parity_count) erased ≤ h.shape.parity_count = shares.few in
      let two : 2 ≤ h.shape.data_count = aloof.limits.data_chunks in
      one_kept (h.shape.data_count + h.shape.parity_count) erased (omega (arith, lost, two))

  first : IsShare h.shape file some.0 (get_or files some.0 [])
  first = shares.kept some.0 some.1 some.2

  block_passes : (i : ℕ) → i < length first.words → (c : ℕ) → c < all_chunks h.shape → IsBlock h.shape (block_in h.shape i (get_or files c [])) →
      block_in h.shape i (get_or files c []) ≡ block_of h.shape (get_or (get_or first.words i []) c [])
  block_passes i within c less is = elim (cases_Bool (erased c)) [
    | inl gone ↦
        let empty : get_or files c [] ≡ [] = shares.gone c less gone in
        let short : length (get_or files c []) ≡ 0 = ap (λ (l : List ℕ). length l) empty in
        absurd (no_block h.shape i (get_or files c []) (some_block h.shape aloof) (omega (arith, short, some_block h.shape aloof)) is)
    | inr kept ↦
        let share : IsShare h.shape file c (get_or files c []) = shares.kept c less kept in
        let same : first.words ≡ share.words = same_words h.shape file first.words share.words aloof first.coded share.coded in
        block_is h.shape file (get_or files c []) c share i (subst (λ (w : List (List (List ℕ))). i < length w) same within)
        ∙ ap (λ (w : List (List (List ℕ))). block_of h.shape (get_or (get_or w i []) c [])) (sym same)
  ]

  pub shares_pass : NoRotPasses h file files
  shares_pass = record { size = shares.size; checksum = shares.checksum; words = first.words; coded = first.coded; blocks = block_passes }

  pub shares_enough : (i : ℕ) (olds news : List Seen) → i < stripe_count h.shape h.size →
      ((c : ℕ) → c < all_chunks h.shape → erased c ≡ false → failed_since (seen_of olds c) (seen_of news c) ≡ []) →
      LackBlocks h.shape i files olds news → ⊥
  shares_enough i olds news less steady lack =
      let one = one_more (all_chunks h.shape) lack.lost erased (omega (arith, shares.few, lack.many)) in
      let share : IsShare h.shape file one.0 (get_or files one.0 []) = shares.kept one.0 one.1 one.3 in
      let within : i < length share.words = subst (λ n. i < n) (sym (share.coded.count ∙ ap (stripe_count h.shape) shares.size)) less in
      elim (lack.each one.0 one.1 one.2) [
        | inl none ↦ none (block_good h.shape file (get_or files one.0 []) one.0 share i within)
        | inr failed ↦ none_failed h.shape i (failed_since (seen_of olds one.0) (seen_of news one.0)) (steady one.0 one.1 one.3) failed
      ]

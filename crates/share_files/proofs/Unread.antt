-- A stripe of the data shares' chunks is that of the blocks that count where no parity share's does.
use Rattle.std.proofs.Common.{◌≡◌, ℕ, zero, suc, ◌+◌, ◌-◌, ◌<◌, ◌≤◌, Bool, true, false, cond, List, [], ◌∷◌, ◌++◌, length, get_or, take, Option, None, Some, IfSome, is_none, Vec, Global, refl, sym, subst, ap, ◌∙◌, inl, inr, arith, below_more}
use Rattle.std.proofs.lemmas.Bool.{cases_lt}
use Rattle.std.proofs.lemmas.List.{length-take-le, get_or_append_left, get_or-take, get_or_default, length_push, get_or_push, same_lists}
use Rattle.std.proofs.lemmas.List.Elements.{All-from_get_or}
use Rattle.std.specs.List.{flat_map}
use Rattle.clay_grid.specs.Score.{count_below}
use Rattle.clay_model.specs.Left.{AreLong}
use Rattle.clay_aloof.specs.Shape.{AloofShape, all_chunks}
use Rattle.share_format.specs.Blocks.{block_length}
use Rattle.share_format.specs.Joined.{is_lost, AreTooFew, IsJoined, chunk_or_zeros}
use Rattle.share_format.proofs.Joining.{data_joined}
use Rattle.share_files.specs.Stripes.{IsRead}
use Rattle.share_files.specs.Handed.{HasBlock, HaveBlocks, data_in}

-- ---- one block a share, each of which fits

pub record Chosen (P : ℕ → Option (Vec ℕ Global) → Type 0) (n : ℕ) : Type 0 where
  pub blocks : List (Option (Vec ℕ Global))
  pub count : length blocks ≡ n
  pub each : (c : ℕ) → c < n → P c (get_or blocks c None)

module _ (P : ℕ → Option (Vec ℕ Global) → Type 0) where
  one_more : (n : ℕ) (block : Option (Vec ℕ Global)) → P n block → Chosen P n → Chosen P (n + 1)
  one_more n block is so = record {
    blocks = so.blocks ++ block ∷ [];
    count = length_push so.blocks block ∙ ap (λ k. k + 1) so.count;
    each =
        below_more (λ c. P c (get_or (so.blocks ++ block ∷ []) c None)) n
        (λ c less. subst (λ b. P c b) (sym (get_or_append_left so.blocks (block ∷ []) None c (omega (arith, less, so.count)))) (so.each c less))
        (subst (λ b. P n b) (sym (get_or_push so.blocks block None n so.count)) is);
  }

  choose : (n : ℕ) → ((c : ℕ) → c < n → (block : Option (Vec ℕ Global)) × P c block) → Chosen P n
  choose zero each = record { blocks = []; count = refl; each = λ c less. absurd (omega (arith, less)) }
  choose (suc n) each =
      let next : n + 1 ≡ suc n = omega arith in
      let last = each n (omega arith) in
      subst (λ m. Chosen P m) next (one_more n last.0 last.1 (choose n (λ c less. each c (omega (arith, less)))))

-- ---- few are missing where the first are there

lost_more : (rest one n k : ℕ) → rest ≤ n - k → one ≤ 1 → k ≤ n → rest + one ≤ suc n - k
lost_more rest one n k few most more = omega (arith, few, most, more)

none_more : (rest one n k : ℕ) → rest ≤ n - k → one ≡ 0 → rest + one ≤ suc n - k
none_more rest one n k few none = omega (arith, few, none)

few_lost : (n k : ℕ) (lost : ℕ → Bool) → ((c : ℕ) → c < k → lost c ≡ false) → count_below n lost ≤ n - k
few_lost zero k lost there = omega arith
few_lost (suc n) k lost there =
    let rest : count_below n lost ≤ n - k = few_lost n k lost there in
    let most : cond (lost n) 1 0 ≤ 1 = elim (lost n) as (λ b. cond b 1 0 ≤ 1) [ true ↦ omega arith | false ↦ omega arith ] in
    elim (cases_lt n k) [
      | inl less ↦ none_more (count_below n lost) (cond (lost n) 1 0) n k rest (ap (λ b. cond b 1 0) (there n less))
      | inr more ↦ lost_more (count_below n lost) (cond (lost n) 1 0) n k rest most more
    ]

is_there : (a : AloofShape) (block : Option (Vec ℕ Global)) → HasBlock a block → is_none block ≡ false
is_there a None there = absurd there
is_there a (Some v) there = refl

-- ---- the blocks that count: those of the data shares as they were read, and no other

module _ (a : AloofShape) (i : ℕ) (Counts : ℕ → Type 0) (file_of failed_of : ℕ → List ℕ) (blocks : List (Option (Vec ℕ Global))) (count : length blocks ≡ all_chunks a)
    (there : HaveBlocks a blocks) (read : (c : ℕ) → c < a.data_count → IsRead a i (Counts c) (file_of c) (failed_of c) (get_or blocks c None))
    (unread : (c : ℕ) → a.data_count ≤ c → Counts c → ⊥) where
  abbrev k : ℕ
  k = a.data_count

  abbrev pub Fits : ℕ → Option (Vec ℕ Global) → Type 0
  Fits c block = IsRead a i (Counts c) (file_of c) (failed_of c) block × IfSome block (λ v. length v.items ≡ block_length a) × (c < k → block ≡ get_or blocks c None)

  long_there : (block : Option (Vec ℕ Global)) → HasBlock a block → IfSome block (λ v. length v.items ≡ block_length a)
  long_there None is = absurd is
  long_there (Some v) is = is.size

  fitting : (c : ℕ) → c < all_chunks a → (block : Option (Vec ℕ Global)) × Fits c block
  fitting c within = elim (cases_lt c k) [
    | inl early ↦ (get_or blocks c None, (read c early, long_there (get_or blocks c None) (there c early), λ less. refl))
    | inr more ↦ (None, (inr (unread c more), tt, λ less. absurd (omega (arith, less, more))))
  ]

  pub chosen : Chosen Fits (all_chunks a)
  chosen = choose Fits (all_chunks a) fitting

  abbrev pub counting : List (Option (Vec ℕ Global))
  counting = chosen.blocks

  pub counting_count : length counting ≡ all_chunks a
  counting_count = chosen.count

  pub counting_read : (c : ℕ) → c < all_chunks a → IsRead a i (Counts c) (file_of c) (failed_of c) (get_or counting c None)
  counting_read c within = (chosen.each c within).0

  few_data : k ≤ all_chunks a
  few_data = let sum : all_chunks a ≡ k + a.parity_count = refl in omega (arith, sum)

  as_read : (c : ℕ) → c < k → get_or counting c None ≡ get_or blocks c None
  as_read c early = (chosen.each c (omega (arith, early, few_data))).2 early

  found : (c : ℕ) → c < k → is_lost counting c ≡ false
  found c early = ap is_none (as_read c early) ∙ is_there a (get_or blocks c None) (there c early)

  pub counting_few : AreTooFew a counting → ⊥
  counting_few few =
      let most : count_below (all_chunks a) (is_lost counting) ≤ all_chunks a - k = few_lost (all_chunks a) k (is_lost counting) found in
      let sum : all_chunks a ≡ k + a.parity_count = refl in
      omega (arith, few, most, sum)

  counting_long : AreLong (block_length a) counting
  counting_long =
      All-from_get_or (λ o. IfSome o (λ v. length v.items ≡ block_length a)) counting None (λ c less. (chosen.each c (omega (arith, less, chosen.count))).1)

  same_data : take k blocks ≡ take k counting
  same_data =
      let one : length (take k blocks) ≡ k = length-take-le k blocks (omega (arith, count, few_data)) in
      let two : length (take k counting) ≡ k = length-take-le k counting (omega (arith, counting_count, few_data)) in
      same_lists (take k blocks) (take k counting) (one ∙ sym two) (λ c d less.
      let early : c < k = omega (arith, less, one) in
      get_or-take k blocks c d early
      ∙ get_or_default blocks c d None (omega (arith, early, count, few_data))
      ∙ sym (as_read c early)
      ∙ get_or_default counting c None d (omega (arith, early, counting_count, few_data))
      ∙ sym (get_or-take k counting c d early))

  pub counting_joined : (bytes : List ℕ) → bytes ≡ data_in a blocks → IsJoined a counting bytes
  counting_joined bytes is =
      data_joined a counting counting_long counting_count bytes (is ∙ ap (flat_map (chunk_or_zeros a)) same_data) found

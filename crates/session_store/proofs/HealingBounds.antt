-- What a heal takes is few.
use Rattle.std.proofs.Common.{◌≡◌, ℕ, suc, ◌+◌, ◌-◌, ◌*◌, ◌<◌, ◌≤◌, ◌^◌, Bool, true, false, nat_eq, List, [], ◌∷◌, length, map, filter, fold, take, get_or, if◌then◌else◌, refl, ◌∙◌, arith}
use Rattle.std.proofs.Math.Nat.{mul-suc}
use Rattle.std.specs.List.{AllByRecursion}
use Rattle.clay_grid.specs.Shape.{Shape, row_count, column_count, layer_count}
use Rattle.store_core.specs.Lists.{is_among}
use Rattle.session_rules.specs.State.{Stripe, State}
use Rattle.session_rules.specs.Gathered.{holds, lacking}
use Rattle.session_rules.specs.Heals.{servers, number_of, takes_of, heal_one}
use Rattle.session_rules.specs.declared.session_answer.LostChunk.{LostChunk}
use Rattle.session_rules.specs.Takes.{added}
use Rattle.session_rules.proofs.Pairs.{every_weaker}
use Rattle.session_store.specs.Healing.{low}

-- counts of at most so many
abbrev pub AreFew : ℕ → List ℕ → Type 0
AreFew most counts = AllByRecursion (λ count. count ≤ most) counts

pub low_same : (counts : List ℕ) → AreFew (2 ^ 64 - 1) counts → map low counts ≡ counts
low_same [] few = refl
low_same (x ∷ counts) few =
    let at : x ≤ 2 ^ 64 - 1 = few.0 in
    let here : low x ≡ x = omega (arith, at) in
    λ i. here i ∷ low_same counts few.1 i

few_added : (a b : ℕ) (xs ys : List ℕ) → AreFew a xs → AreFew b ys → AreFew (a + b) (added xs ys)
few_added a b [] ys few also = tt
few_added a b (x ∷ xs) [] few also = tt
few_added a b (x ∷ xs) (y ∷ ys) few also = ((let one : x ≤ a = few.0 in let other : y ≤ b = also.0 in omega (arith, one, other)), few_added a b xs ys few.1 also.1)

few_chosen : (most x y : ℕ) → x ≤ most → y ≤ most → (test : ℕ → Bool) (xs : List ℕ) → AreFew most (map (λ other. if test other then x else y) xs)
few_chosen most x y one other test [] = tt
few_chosen most x y one other test (z ∷ xs) = (by (test z), few_chosen most x y one other test xs)
  where
    by : (b : Bool) → (if b then x else y) ≤ most
    by true = one
    by false = other

module _ (g : Shape) (most : ℕ) (repair : row_count g ^ (column_count g - 1) ≤ most) (whole : layer_count g ≤ most) where
  few_taken : (stripe : Stripe) (server : ℕ) → AreFew most (takes_of g stripe server)
  few_taken stripe server = by (nat_eq (length (lacking stripe (servers g))) 1)
    where
      by : (b : Bool) → AreFew most (if b then map (λ other. if nat_eq other server then 0 else row_count g ^ (column_count g - 1)) (servers g)
          else map (λ other. if is_among other (take g.data_count (filter (holds stripe) (servers g))) then layer_count g else 0) (servers g))
      by true = few_chosen most 0 (row_count g ^ (column_count g - 1)) (omega arith) repair (λ other. nat_eq other server) (servers g)
      by false = few_chosen most (layer_count g) 0 whole (omega arith) (λ other. is_among other (take g.data_count (filter (holds stripe) (servers g)))) (servers g)

  pub few_healed : (chunks : List LostChunk) (s : State) (counts : List ℕ) (so_far : ℕ) → AreFew so_far counts → AreFew (so_far + most * length chunks) (fold (heal_one g) (s, counts) chunks).1
  few_healed [] s counts so_far few = every_weaker (λ count. count ≤ so_far) (λ count. count ≤ so_far + most * 0) (λ x less. omega (arith, less)) counts few
  few_healed (chunk ∷ chunks) s counts so_far few =
      let taken : List ℕ = takes_of g (get_or s.stripes (number_of g s chunk) []) chunk.server in
      let later = few_healed chunks (heal_one g (s, counts) chunk).0 (added counts taken) (so_far + most) (few_added so_far most counts taken few (few_taken (get_or s.stripes (number_of g s chunk) []) chunk.server)) in
      let product : most * suc (length chunks) ≡ most * length chunks + most = mul-suc most (length chunks) in
      let n : ℕ = most * length chunks in
      every_weaker (λ count. count ≤ so_far + most + most * length chunks) (λ count. count ≤ so_far + most * suc (length chunks)) (λ x less. omega (arith, less, product)) (fold (heal_one g) (s, counts) (chunk ∷ chunks)).1 later

-- Counts that are raised answer by answer are sums.
use Rattle.std.proofs.Common.{◌≡◌, ℕ, zero, suc, ◌+◌, ◌-◌, ◌^◌, ◌<◌, min, nat_eq, cond, List, [], ◌∷◌, length, get_or, set, replicate, fold, Some, option_map, ◌⊎◌, inl, inr, refl, sym, ap, subst, ◌∙◌, arith}
use Rattle.std.specs.List.{slice_get}
use Rattle.std.proofs.lemmas.Bool.{cases_eq, eq-eqb, ne_eqb}
use Rattle.std.proofs.lemmas.List.{length-replicate, get_or-replicate}
use Rattle.std.proofs.lemmas.List.Sums.{sum_by-cons}
use Rattle.std.proofs.lemmas.Option.{slice_get-get_or}
use Rattle.store_core.specs.Lists.{change_at}
use Rattle.store_core.specs.Server.{raised_by}
use Rattle.store_core.proofs.Places.{length-change_at, slice_get-change_at}
use Rattle.read_ledger.specs.Sums.{Given, with_given, given_by, AreSums}

-- the element that is changed
changed_here : {X : Type 0} (i : ℕ) (f : X → X) (xs : List X) (x : X) → slice_get xs i ≡ Some x → slice_get (change_at i f xs) i ≡ Some (f x)
changed_here i f [] x e = cc
changed_here zero f (y ∷ xs) x e = ap (option_map f) e
changed_here (suc i) f (y ∷ xs) x e = changed_here i f xs x e

-- an element that is read, changed and written back
pub changed_set : (i : ℕ) (f : ℕ → ℕ) (xs : List ℕ) (x y : ℕ) → x ≡ get_or xs i x → y ≡ f x → set xs i y ≡ change_at i f xs
changed_set i f [] x y e h = refl
changed_set zero f (z ∷ xs) x y e h = ap (λ n. n ∷ xs) (h ∙ ap f e)
changed_set (suc i) f (z ∷ xs) x y e h = ap (λ l. z ∷ l) (changed_set i f xs x y e h)

-- what an answer adds at a server
abbrev pub part_at : ℕ → Given → ℕ
part_at server given = cond (nat_eq given.server server) given.layers 0

raised_sum : (total layers : ℕ) → min (min total (2 ^ 64 - 1) + layers) (2 ^ 64 - 1) ≡ min (total + layers) (2 ^ 64 - 1)
raised_sum total layers = omega arith

add_none : (total : ℕ) → total ≡ total + 0
add_none total = omega arith

one_more : (server : ℕ) (given : Given) (takes : List ℕ) (total : ℕ) → slice_get takes server ≡ Some (min total (2 ^ 64 - 1))
    → slice_get (with_given takes given) server ≡ Some (min (total + part_at server given) (2 ^ 64 - 1))
one_more server given takes total e = by (cases_eq given.server server)
  where
    by : (given.server ≡ server) ⊎ (given.server ≡ server → ⊥) → slice_get (with_given takes given) server ≡ Some (min (total + part_at server given) (2 ^ 64 - 1))
    by (inl same) =
        ap (λ n. slice_get (change_at n (raised_by given.layers) takes) server) same
        ∙ changed_here server (raised_by given.layers) takes (min total (2 ^ 64 - 1)) e
        ∙ ap Some (raised_sum total given.layers)
        ∙ sym (ap (λ b. Some (min (total + cond b given.layers 0) (2 ^ 64 - 1))) (eq-eqb given.server server same))
    by (inr apart) =
        slice_get-change_at given.server server (raised_by given.layers) takes (λ same. apart (sym same))
        ∙ e
        ∙ ap (λ n. Some (min n (2 ^ 64 - 1))) (add_none total)
        ∙ sym (ap (λ b. Some (min (total + cond b given.layers 0) (2 ^ 64 - 1))) (ne_eqb given.server server apart))

regrouped : (total one rest all : ℕ) → all ≡ one + rest → total + one + rest ≡ total + all
regrouped total one rest all e = omega (arith, e)

counted : (server : ℕ) (answers : List Given) (takes : List ℕ) (total : ℕ) → slice_get takes server ≡ Some (min total (2 ^ 64 - 1))
    → slice_get (fold with_given takes answers) server ≡ Some (min (total + given_by server answers) (2 ^ 64 - 1))
counted server [] takes total e = e ∙ ap (λ n. Some (min n (2 ^ 64 - 1))) (add_none total)
counted server (given ∷ answers) takes total e =
    counted server answers (with_given takes given) (total + part_at server given) (one_more server given takes total e)
    ∙ ap (λ n. Some (min n (2 ^ 64 - 1)))
    (regrouped total (part_at server given) (given_by server answers) (given_by server (given ∷ answers)) (sum_by-cons (part_at server) given answers))

length-given : (answers : List Given) (takes : List ℕ) → length (fold with_given takes answers) ≡ length takes
length-given [] takes = refl
length-given (given ∷ answers) takes = length-given answers (with_given takes given) ∙ length-change_at given.server (raised_by given.layers) takes

none_before : (servers server : ℕ) → server < servers → slice_get (replicate servers 0) server ≡ Some (min 0 (2 ^ 64 - 1))
none_before servers server h =
    slice_get-get_or (replicate servers 0) server 0 (subst (λ n. server < n) (sym (length-replicate servers 0)) h)
    ∙ ap Some (get_or-replicate servers server 0 0 h)

zero_more : (n : ℕ) → 0 + n ≡ n
zero_more n = omega arith

pub are_sums : (servers : ℕ) (answers : List Given) → AreSums servers answers
are_sums servers answers =
    record {
      count = length-given answers (replicate servers 0) ∙ length-replicate servers 0;
      sums = λ server below.
          counted server answers (replicate servers 0) 0 (none_before servers server below)
          ∙ ap (λ n. Some (min n (2 ^ 64 - 1))) (zero_more (given_by server answers));
    }

-- So many different servers of each version, computed.
use Rattle.std.proofs.Common.{◌≡◌, ℕ, ◌≤◌, ◌↔◌, Bool, true, false, cond, nat_eq, nat_le, ◌||◌, List, [], ◌∷◌, length, Option, None, Some, Contains, refl, sym, ap, subst, ◌∙◌, arith, true≢false}
use Rattle.std.specs.Bool.{Decides}
use Rattle.std.specs.Cmp.{nat_eq_equiv}
use Rattle.std.specs.List.{list_all, IsDistinct, AllByRecursion}
use Rattle.std.specs.Set.{is_member, unique_keys, distinct_count}
use Rattle.std.proofs.lemmas.Bool.{eq-eqb, eqb-true, leb-true, le-leb}
use Rattle.std.proofs.lemmas.Bool.Decides.{Decides-eqb}
use Rattle.std.proofs.lemmas.List.Elements.{All-contains}
use Rattle.std.proofs.lemmas.List.Sums.{AllPass-from_list_all, list_all-from_AllPass}
use Rattle.std.proofs.lemmas.Map.Made.{IsDistinct-from_AllPairs, AllPairs-from_IsDistinct, is_member-Decides, length-le_from_is_member}
use Rattle.std.proofs.lemmas.Option.{none-some, same_Some}
use Rattle.run_laws.proofs.SoundLists.{all_by, contains_at}
use Rattle.history_laws.specs.Facts.{servers_of, are_few}
use Rattle.history_laws.specs.Unhindered.{AtMost}
use Rattle.history_laws.proofs.Picked.{picked_from, picked}

-- ---- each number of a list once
-- the same numbers
member_of_unique : (xs : List ℕ) (q : ℕ) → is_member nat_eq (unique_keys nat_eq xs) q ≡ is_member nat_eq xs q
member_of_unique [] q = refl
member_of_unique (x ∷ xs) q = by (is_member nat_eq xs x) (nat_eq q x) refl refl (member_of_unique xs q)
  where
    by : (b c : Bool) → is_member nat_eq xs x ≡ b → nat_eq q x ≡ c → is_member nat_eq (unique_keys nat_eq xs) q ≡ is_member nat_eq xs q → is_member nat_eq (cond b (unique_keys nat_eq xs) (x ∷ unique_keys nat_eq xs)) q ≡ (c || is_member nat_eq xs q)
    by true true m t r = r ∙ ap (is_member nat_eq xs) (eqb-true q x t) ∙ m
    by true false m t r = r
    by false c m t r = ap (λ v. v || is_member nat_eq (unique_keys nat_eq xs) q) t ∙ ap (λ v. c || v) r

apart_from_absent : (x : ℕ) (ys : List ℕ) → is_member nat_eq ys x ≡ false → AllByRecursion (λ y. nat_eq x y ≡ false) ys
apart_from_absent x [] h = tt
apart_from_absent x (y ∷ ys) h = by (nat_eq x y) refl h (apart_from_absent x ys)
  where
    by : (b : Bool) → nat_eq x y ≡ b → (b || is_member nat_eq ys x) ≡ false → (is_member nat_eq ys x ≡ false → AllByRecursion (λ z. nat_eq x z ≡ false) ys) → (nat_eq x y ≡ false) × AllByRecursion (λ z. nat_eq x z ≡ false) ys
    by true t g r = absurd (true≢false g)
    by false t g r = (t, r g)

-- no two of them equal
module _ where
  unique_distinct : (xs : List ℕ) → IsDistinct nat_eq (unique_keys nat_eq xs)
  unfolding IsDistinct
  unique_distinct [] = tt
  unique_distinct (x ∷ xs) = by (is_member nat_eq xs x) refl (unique_distinct xs)
    where
      by : (b : Bool) → is_member nat_eq xs x ≡ b → IsDistinct nat_eq (unique_keys nat_eq xs) → IsDistinct nat_eq (cond b (unique_keys nat_eq xs) (x ∷ unique_keys nat_eq xs))
      by true m r = r
      by false m r = (apart_from_absent x (unique_keys nat_eq xs) (member_of_unique xs x ∙ m), r)

-- the count is of the numbers of which something holds
module _ (most : ℕ) (xs : List ℕ) (Is : ℕ → Type 0) where
  counted : ((q : ℕ) → Contains xs q → Is q) → AtMost most Is → distinct_count nat_eq xs ≤ most
  counted to few =
      few (unique_keys nat_eq xs) (AllPairs-from_IsDistinct Decides-eqb (unique_keys nat_eq xs) (unique_distinct xs))
      (all_by Is (unique_keys nat_eq xs) (λ q has. to q ((is_member-Decides Decides-eqb xs q).0 (sym (member_of_unique xs q) ∙ (is_member-Decides Decides-eqb (unique_keys nat_eq xs) q).1 has))))

  bounded : ((q : ℕ) → Is q → Contains xs q) → distinct_count nat_eq xs ≤ most → AtMost most Is
  bounded from count servers differ all = let fits : length servers ≤ distinct_count nat_eq xs = within in omega arith
    where
      within : length servers ≤ length (unique_keys nat_eq xs)
      within =
          length-le_from_is_member nat_eq_equiv servers (unique_keys nat_eq xs) (IsDistinct-from_AllPairs Decides-eqb servers differ)
          (λ q m. member_of_unique xs q ∙ (is_member-Decides Decides-eqb xs q).1 (from q (All-contains Is servers q all ((is_member-Decides Decides-eqb servers q).0 m))))

-- ---- the servers of a version
in_servers : (chunks : List (ℕ × ℕ)) (version server : ℕ) → Contains chunks (version, server) → Contains (servers_of version chunks) server
in_servers chunks version server has = picked _ chunks (version, server) server has (ap (λ b. cond {A = Option ℕ} b (Some server) None) (eq-eqb version version refl))

from_servers : (chunks : List (ℕ × ℕ)) (version server : ℕ) → Contains (servers_of version chunks) server → Contains chunks (version, server)
from_servers chunks version server has = of (picked_from _ chunks server has)
  where
    of : (chunk : ℕ × ℕ) × Contains chunks chunk × (cond {A = Option ℕ} (nat_eq version chunk.0) (Some chunk.1) None ≡ Some server) → Contains chunks (version, server)
    of found = by (nat_eq version found.0.0) refl found.2
      where
        by : (b : Bool) → nat_eq version found.0.0 ≡ b → cond {A = Option ℕ} b (Some found.0.1) None ≡ Some server → Contains chunks (version, server)
        by true t e = subst (Contains chunks) (λ k. (sym (eqb-true version found.0.0 t) k, same_Some found.0.1 server e k)) found.1
        by false t e = absurd (none-some server e)

pub few_decided : (most : ℕ) (chunks : List (ℕ × ℕ)) (Is : ℕ → ℕ → Type 0) → ((version server : ℕ) → Contains chunks (version, server) ↔ Is version server) → Decides (are_few most chunks) ((version : ℕ) → AtMost most (Is version))
few_decided most chunks Is same = (
  λ few. λ version. at_most few version,
  λ all. list_all-from_AllPass is_few chunks (all_by (λ chunk. is_few chunk ≡ true) chunks (λ chunk has. le-leb _ most (counted most (servers_of chunk.0 chunks) (Is chunk.0) (to chunk.0) (all chunk.0)))),
)
  where
    is_few : ℕ × ℕ → Bool
    is_few chunk = nat_le (distinct_count nat_eq (servers_of chunk.0 chunks)) most

    to : (version server : ℕ) → Contains (servers_of version chunks) server → Is version server
    to version server has = (same version server).0 (from_servers chunks version server has)

    from : (version server : ℕ) → Is version server → Contains (servers_of version chunks) server
    from version server is = in_servers chunks version server ((same version server).1 is)

    at_most : list_all is_few chunks ≡ true → (version : ℕ) → AtMost most (Is version)
    at_most few version [] differ all = omega arith
    at_most few version (server ∷ servers) differ all =
        bounded most (servers_of version chunks) (Is version) (from version)
        (leb-true _ most (All-contains (λ chunk. is_few chunk ≡ true) chunks (version, server) (AllPass-from_list_all is_few chunks few) ((same version server).1 (All-contains (Is version) (server ∷ servers) server all (contains_at (server ∷ servers) 0 server refl)))))
        (server ∷ servers) differ all

-- A shelf with one entry more.
use Rattle.std.proofs.Common.{◌≡◌, ℕ, ◌+◌, ◌<◌, ◌≤◌, nat_eq, true, false, cond, List, [], ◌∷◌, ◌++◌, length, set, replicate, get_or, count_by, None, Some, is_some, unwrap_or, Vec, refl, sym, ap, subst, ◌∙◌, ◌⊎◌, inl, inr, get_or-set_same, get_or-set_other, arith}
use Rattle.std.specs.declared.alloc.Global.{Global}
use Rattle.std.proofs.lemmas.Bool.{true≢false, cases_eq, cases_lt, eqb-false}
use Rattle.std.proofs.lemmas.List.{length-set, length-replicate, get_or-replicate, get_or_past}
use Rattle.std.proofs.lemmas.List.Sums.{sum_by-set}
use Rattle.clay_grid.specs.Shape.{Shape, chunk_count}
use Rattle.gathering.specs.Parts.{Shelf, IsPart, ArePartsOf, AreNone, is_there, helping_layers}

pub there_now : (server : ℕ) (bytes : Vec ℕ Global) (shelf : Shelf) → server < length shelf → is_there server (set shelf server (Some bytes)) ≡ true
there_now server bytes shelf h = ap is_some (get_or-set_same shelf server (Some bytes) None h)

pub there_still : (server other : ℕ) (bytes : Vec ℕ Global) (shelf : Shelf) → is_there other shelf ≡ true → server < length shelf
    → is_there other (set shelf server (Some bytes)) ≡ true
there_still server other bytes shelf there h = by (cases_eq other server)
  where
    by : (other ≡ server) ⊎ (other ≡ server → ⊥) → is_there other (set shelf server (Some bytes)) ≡ true
    by (inl same) = ap (λ k. is_there k (set shelf server (Some bytes))) same ∙ there_now server bytes shelf h
    by (inr apart) = ap is_some (get_or-set_other shelf server other (Some bytes) None apart) ∙ there

pub empty_still : (server other : ℕ) (bytes : Vec ℕ Global) (shelf : Shelf) → nat_eq other server ≡ false → get_or shelf other None ≡ None
    → get_or (set shelf server (Some bytes)) other None ≡ None
empty_still server other bytes shelf apart none = get_or-set_other shelf server other (Some bytes) None (eqb-false other server apart) ∙ none

pub one_more : (server : ℕ) (bytes : Vec ℕ Global) (shelf : Shelf) → server < length shelf → get_or shelf server None ≡ None
    → count_by is_some (set shelf server (Some bytes)) ≡ count_by is_some shelf + 1
one_more server bytes shelf h none =
    let moved : count_by is_some (set shelf server (Some bytes)) + cond (is_some (get_or shelf server None)) 1 0 ≡ count_by is_some shelf + 1 =
    sum_by-set (λ o. cond (is_some o) 1 0) shelf server (Some bytes) None h
    in
    let was : cond (is_some (get_or shelf server None)) 1 0 ≡ 0 = ap (λ o. cond (is_some o) 1 0) none in
    sum_only (count_by is_some (set shelf server (Some bytes))) (cond (is_some (get_or shelf server None)) 1 0) (count_by is_some shelf + 1) moved was
  where
    sum_only : (a b c : ℕ) → a + b ≡ c → b ≡ 0 → a ≡ c
    sum_only a b c e f = omega (arith, e, f)

-- a part that came is of its server's chunk
pub with_part : (g : Shape) (content : List ℕ) (layers : ℕ → List ℕ) (server : ℕ) (bytes : Vec ℕ Global) (shelf : Shelf) → ArePartsOf g content layers shelf
    → server < length shelf → IsPart g content server (layers server) bytes.items → ArePartsOf g content layers (set shelf server (Some bytes))
with_part g content layers server bytes shelf are h is =
    record {
      count = length-set shelf server (Some bytes) ∙ are.count;
      each = λ other found e. by other found e (cases_eq other server);
    }
  where
    by : (other : ℕ) (found : Vec ℕ Global) → get_or (set shelf server (Some bytes)) other None ≡ Some found → (other ≡ server) ⊎ (other ≡ server → ⊥)
        → IsPart g content other (layers other) found.items
    by other found e (inl same) =
        let at : Some bytes ≡ Some found = sym (get_or-set_same shelf server (Some bytes) None h) ∙ ap (λ k. get_or (set shelf server (Some bytes)) k None) (sym same) ∙ e in
        let there : bytes ≡ found = ap (λ o. unwrap_or o bytes) at in
        subst (λ (v : Vec ℕ Global). IsPart g content other (layers other) v.items) there
        (subst (λ k. IsPart g content k (layers k) bytes.items) (sym same) is)
    by other found e (inr apart) = are.each other found (sym (get_or-set_other shelf server other (Some bytes) None apart) ∙ e)

-- an empty shelf has parts of any layers
pub no_parts : (g : Shape) (content : List ℕ) (layers : ℕ → List ℕ) (shelf : Shelf) → length shelf ≡ chunk_count g → AreNone shelf → ArePartsOf g content layers shelf
no_parts g content layers shelf count none =
    record {
      count = count;
      each = λ server bytes e. absurd (true≢false (sym (ap is_some (sym (none server) ∙ e))));
    }

-- the layers for the chunks to be made stay the same once two are missing
pub same_layers : (g : Shape) (gone : List ℕ) (server : ℕ) → 2 ≤ length gone → helping_layers g gone ≡ helping_layers g (gone ++ server ∷ [])
same_layers g [] server many = absurd (omega (arith, many))
same_layers g (lost ∷ []) server many = absurd (omega (arith, many))
same_layers g (lost ∷ other ∷ more) server many = refl

-- a shelf that was made or cleared is empty
pub none_made : (servers : ℕ) (shelf : Shelf) → shelf ≡ replicate servers None → AreNone shelf
none_made servers shelf is server = by (cases_lt server servers)
  where
    by : (server < servers) ⊎ (servers ≤ server) → get_or shelf server None ≡ None
    by (inl below) = ap (λ l. get_or l server None) is ∙ get_or-replicate servers server None None below
    by (inr past) = get_or_past shelf server None (subst (λ n. n ≤ server) (sym (ap length is ∙ length-replicate servers None)) past)

pub count_made : (servers : ℕ) (shelf : Shelf) → shelf ≡ replicate servers None → length shelf ≡ servers
count_made servers shelf is = ap length is ∙ length-replicate servers None

abbrev pub NoneBelow : ℕ → Shelf → Type 0
NoneBelow n shelf = (server : ℕ) → server < n → get_or shelf server None ≡ None

pub none_more : (n : ℕ) (shelf : Shelf) → NoneBelow n shelf → n < length shelf → NoneBelow (n + 1) (set shelf n None)
none_more n shelf none within server below = by (cases_eq server n)
  where
    by : (server ≡ n) ⊎ (server ≡ n → ⊥) → get_or (set shelf n None) server None ≡ None
    by (inl same) = ap (λ k. get_or (set shelf n None) k None) same ∙ get_or-set_same shelf n None None within
    by (inr apart) = get_or-set_other shelf n server None None apart ∙ none server (omega (arith, below, apart))

pub none_all : (n : ℕ) (shelf : Shelf) → NoneBelow n shelf → length shelf ≤ n → AreNone shelf
none_all n shelf none all server = by (cases_lt server n)
  where
    by : (server < n) ⊎ (n ≤ server) → get_or shelf server None ≡ None
    by (inl below) = none server below
    by (inr past) = get_or_past shelf server None (omega (arith, all, past))

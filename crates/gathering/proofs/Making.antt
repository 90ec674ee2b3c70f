-- Chunks that are made anew of what has come are those of the content's codeword.
use Rattle.std.proofs.Common.{◌≡◌, ◌≢◌, ℕ, zero, suc, ◌+◌, ◌*◌, ◌<◌, ◌≤◌, Bool, true, false, cond, ◌||◌, nat_eq, List, [], ◌∷◌, length, map, get_or, set, Option, None, Some, IfSome, is_some, is_none, option_map, unwrap_or, count_by, Vec, refl, sym, ap, subst, ◌∙◌, ◌⊎◌, inl, inr, get_or-set_same, get_or-set_other, arith}
use Rattle.std.specs.declared.alloc.Global.{Global}
use Rattle.std.proofs.lemmas.Bool.{true≢false, cases_eq, cases_lt, eqb-true, ne_eqb, or_from}
use Rattle.std.proofs.lemmas.List.{get_or-map, get_or_default, get_or_past, length-map, length-set}
use Rattle.std.proofs.lemmas.List.FromFn.{length-range_with_len}
use Rattle.std.proofs.lemmas.List.Sums.{sum_by-cons}
use Rattle.clay_grid.specs.Shape.{Shape, chunk_count, chunk_length, layer_count}
use Rattle.clay_grid.specs.Limits.{IsGeometry}
use Rattle.clay_grid.specs.Repair.{all_layers, repair_layers_of}
use Rattle.clay_model.specs.Code.{Codes, HasDistinctNodes}
use Rattle.clay_model.proofs.Codewords.{same_of_stripe, distinct_nodes}
use Rattle.clay_model.specs.Chunks.{contents}
use Rattle.clay_model.specs.Left.{parts, AreLong, AreLeft, Completes, AreRecovered}
use Rattle.clay_model.specs.RepairParts.{subchunks_at, part_length, AreParts, HasParts, IsRebuilt}
use Rattle.code_laws.proofs.Column.{node_inside, length-part}
use Rattle.store_core.specs.Lists.{is_among}
use Rattle.version_seal.specs.Chunk.{IsChunkOf}
use Rattle.version_seal.proofs.Subchunks.{are_parts}
use Rattle.gathering.specs.Parts.{Shelf, ArePartsOf, AllHaveCome}
use Rattle.gathering.specs.Made.{AreMade}

-- ---- what is there
pub some_of : {A : Type 0} (o : Option A) → is_some o ≡ true → (x : A) × (o ≡ Some x)
some_of None h = absurd (true≢false (sym h))
some_of (Some x) h = (x, refl)

there_is : (o : Option (Vec ℕ Global)) → is_some o ≡ true → is_none o ≡ false
there_is None h = absurd (true≢false (sym h))
there_is (Some v) h = refl

-- the bytes of a place
parts_at : (have : Shelf) (c : ℕ) → get_or (parts have) c None ≡ option_map (λ (v : Vec ℕ Global). v.items) (get_or have c None)
parts_at [] c = refl
parts_at (o ∷ have) zero = refl
parts_at (o ∷ have) (suc c) = parts_at have c

-- each entry has its length
all_long : (n : ℕ) (have : Shelf) → ((c : ℕ) (v : Vec ℕ Global) → get_or have c None ≡ Some v → length v.items ≡ n) → AreLong n have
all_long n have h = λ k d below. by k (get_or have k d) (sym (get_or_default have k d None below))
  where
    by : (k : ℕ) (o : Option (Vec ℕ Global)) → get_or have k None ≡ o → IfSome o (λ v. length v.items ≡ n)
    by k None e = tt
    by k (Some v) e = h k v e

both : (shelf : Shelf) → count_by is_none shelf + count_by is_some shelf ≡ length shelf
both [] = refl
both (place ∷ shelf) =
    summed (count_by is_none (place ∷ shelf)) (count_by is_some (place ∷ shelf)) (cond (is_none place) 1 0) (cond (is_some place) 1 0)
    (count_by is_none shelf) (count_by is_some shelf) (length shelf)
    (sum_by-cons (λ o. cond (is_none o) 1 0) place shelf) (sum_by-cons (λ o. cond (is_some o) 1 0) place shelf) (one place) (both shelf)
  where
    one : (o : Option (Vec ℕ Global)) → cond (is_none o) 1 0 + cond (is_some o) 1 0 ≡ 1
    one None = refl
    one (Some v) = refl

    summed : (a b p q x y n : ℕ) → a ≡ p + x → b ≡ q + y → p + q ≡ 1 → x + y ≡ n → a + b ≡ suc n
    summed a b p q x y n e f g h = omega (arith, e, f, g, h)

-- one of them is there
some_there : (shelf : Shelf) → 0 < count_by is_some shelf → (c : ℕ) × (v : Vec ℕ Global) × (get_or shelf c None ≡ Some v)
some_there [] h = absurd (omega (arith, h))
some_there (Some v ∷ shelf) h = (0, v, refl)
some_there (None ∷ shelf) h =
    let places : Shelf = None ∷ shelf in
    let count : count_by is_some places ≡ 0 + count_by is_some shelf = sum_by-cons (λ (o : Option (Vec ℕ Global)). cond (is_some o) 1 0) None shelf in
    let rest = some_there shelf (omega (arith, h, count)) in
    (suc rest.0, rest.1, rest.2)

module _ (g : Shape) (content : List ℕ) (layers : List ℕ) (helpers : Shelf) (distinct : HasDistinctNodes g) (are : ArePartsOf g content (λ server. layers) helpers) where
  -- parts of one content are of one codeword
  pub agrees_at : (word : List (List ℕ)) → Codes g content word → (c : ℕ) (bytes : List ℕ) → get_or (parts helpers) c None ≡ Some bytes
      → subchunks_at g.width (get_or word c []) layers ≡ bytes
  agrees_at word codes c bytes e = by (get_or helpers c None) refl (sym (parts_at helpers c) ∙ e)
    where
      by : (o : Option (Vec ℕ Global)) → get_or helpers c None ≡ o → option_map (λ (v : Vec ℕ Global). v.items) o ≡ Some bytes
          → subchunks_at g.width (get_or word c []) layers ≡ bytes
      by None at e = absurd (true≢false (sym (ap is_some e)))
      by (Some v) at e =
          let part = (are.each c v at).word in
          ap (λ w. subchunks_at g.width (get_or w c []) layers) (same_of_stripe g content word part.word distinct codes part.codes)
          ∙ part.here ∙ ap (λ o. unwrap_or o []) e

  pub long_at : (n : ℕ) → length layers * g.width ≡ n → AreLong n helpers
  long_at n e = all_long n helpers (λ c v at. (are.each c v at).long ∙ e)

-- a place that is there is one of the shelf
pub within : (shelf : Shelf) (c : ℕ) (bytes : List ℕ) → get_or (parts shelf) c None ≡ Some bytes → c < length shelf
within shelf c bytes e = by (cases_lt c (length shelf))
  where
    by : (c < length shelf) ⊎ (length shelf ≤ c) → c < length shelf
    by (inl below) = below
    by (inr past) = absurd (true≢false (ap is_some (sym e ∙ parts_at shelf c ∙ ap (option_map (λ (v : Vec ℕ Global). v.items)) (get_or_past shelf c None past))))

-- ---- one lost chunk
module _ (g : Shape) (content : List ℕ) (lost : ℕ) (helpers : Shelf) (geometry : IsGeometry g) (below : lost < chunk_count g)
    (are : ArePartsOf g content (λ server. repair_layers_of g lost) helpers) (others : AllHaveCome g [] (lost ∷ []) helpers) (empty : get_or helpers lost None ≡ None) where
  pub are_parts_of : AreParts g lost helpers
  are_parts_of =
      record {
        chunk = below;
        count = are.count;
        none = empty;
        others = λ c inside apart. there_is (get_or helpers c None) (others c inside refl (not_lost c apart));
        lengths = long_at g content (repair_layers_of g lost) helpers (distinct_nodes g geometry) are (part_length g) (length-part g lost geometry (node_inside g lost geometry below));
      }
    where
      not_lost : (c : ℕ) → c ≢ lost → is_among c (lost ∷ []) ≡ false
      not_lost c apart = or_from (nat_eq c lost) false (ne_eqb c lost apart) refl

  -- another server, which there is
  other_server : (c : ℕ) × (c < chunk_count g) × (c ≢ lost)
  other_server = by (cases_eq lost 0)
    where
      by : (lost ≡ 0) ⊎ (lost ≡ 0 → ⊥) → (c : ℕ) × (c < chunk_count g) × (c ≢ lost)
      by (inl first) = (1, omega (arith, geometry.limits.data_chunks), λ same. absurd (omega (arith, first, same)))
      by (inr later) = (0, omega (arith, geometry.limits.data_chunks), λ same. later (sym same))

  pub rebuilt_chunk : (chunk : List ℕ) → IsRebuilt g lost helpers chunk → IsChunkOf g content lost chunk
  rebuilt_chunk chunk is =
      let other = other_server in
      let there = some_of (get_or helpers other.0 None) (others other.0 other.1 refl (or_from (nat_eq other.0 lost) false (ne_eqb other.0 lost other.2) refl)) in
      let part = (are.each other.0 there.0 there.1).word in
      record { word = part.word; codes = part.codes; here = sym (is.value part.word (has part.word part.codes)) }
    where
      has : (word : List (List ℕ)) → Codes g content word → HasParts g lost helpers word
      has word codes =
          record {
            codeword = codes.codeword;
            agrees = λ c bytes e.
                get_or-map (λ (w : List ℕ). subchunks_at g.width w (repair_layers_of g lost)) word c [] []
                (subst (λ n. c < n) (are.count ∙ sym codes.codeword.count) (within helpers c bytes e))
                ∙ agrees_at g content (repair_layers_of g lost) helpers (distinct_nodes g geometry) are word codes c bytes e;
          }

  -- it is made
  pub one_made : (chunk : Vec ℕ Global) (made : Shelf) → IsRebuilt g lost helpers chunk.items → length made ≡ chunk_count g
      → ((c : ℕ) → get_or made c None ≡ None) → AreMade g content (lost ∷ []) (set made lost (Some chunk))
  one_made chunk made is count none =
      let inside : lost < length made = subst (λ n. lost < n) (sym count) below in
      record {
        chunks =
            record {
              count = length-set made lost (Some chunk) ∙ count;
              each = λ c v e. by c v e (cases_eq c lost);
            };
        all = λ c in_range among. ap (λ k. is_some (get_or (set made lost (Some chunk)) k None)) (only c among) ∙ ap is_some (get_or-set_same made lost (Some chunk) None inside);
      }
    where
      inside' : lost < length made
      inside' = subst (λ n. lost < n) (sym count) below

      only : (c : ℕ) → is_among c (lost ∷ []) ≡ true → c ≡ lost
      only c h = eqb-true c lost (or_none (nat_eq c lost) h)
        where
          or_none : (b : Bool) → (b || false) ≡ true → b ≡ true
          or_none true h = refl
          or_none false h = h

      by : (c : ℕ) (v : Vec ℕ Global) → get_or (set made lost (Some chunk)) c None ≡ Some v → (c ≡ lost) ⊎ (c ≡ lost → ⊥) → IsChunkOf g content c v.items
      by c v e (inl same) =
          let at : Some chunk ≡ Some v = sym (get_or-set_same made lost (Some chunk) None inside') ∙ ap (λ k. get_or (set made lost (Some chunk)) k None) (sym same) ∙ e in
          subst (λ (w : Vec ℕ Global). IsChunkOf g content c w.items) (ap (λ o. unwrap_or o chunk) at)
          (subst (λ k. IsChunkOf g content k chunk.items) (sym same) (rebuilt_chunk chunk.items is))
      by c v e (inr apart) = absurd (true≢false (sym (ap is_some (sym (none c) ∙ sym (get_or-set_other made lost c (Some chunk) None apart) ∙ e))))

-- ---- more lost chunks
module _ (g : Shape) (content gone : List ℕ) (helpers : Shelf) (geometry : IsGeometry g)
    (are : ArePartsOf g content (λ server. all_layers g) helpers) (enough : g.data_count ≤ count_by is_some helpers) where
  pub are_left : AreLeft g helpers
  are_left =
      record {
        count = are.count;
        lengths = long_at g content (all_layers g) helpers (distinct_nodes g geometry) are (chunk_length g) (ap (λ n. n * g.width) (length-range_with_len 0 (layer_count g)));
        few = omega (arith, enough, both helpers, are.count);
      }

  pub recovered : (chunks : List (List ℕ)) → AreRecovered g helpers chunks → Codes g content chunks
  recovered chunks is =
      let there = some_there helpers (omega (arith, enough, geometry.limits.data_chunks)) in
      let part = (are.each there.0 there.1 there.2).word in
      subst (Codes g content) (sym (is.value part.word (completes part.word part.codes))) part.codes
    where
      whole : (word : List (List ℕ)) (codes : Codes g content word) (c : ℕ) → c < chunk_count g → subchunks_at g.width (get_or word c []) (all_layers g) ≡ get_or word c []
      whole word codes c inside = (are_parts g.width (layer_count g) (get_or word c [])).whole (codes.codeword.lengths c inside)

      completes : (word : List (List ℕ)) → Codes g content word → Completes g helpers word
      completes word codes =
          record {
            codeword = codes.codeword;
            agrees = λ c bytes e.
                sym (whole word codes c (subst (λ n. c < n) are.count (within helpers c bytes e)))
                ∙ agrees_at g content (all_layers g) helpers (distinct_nodes g geometry) are word codes c bytes e;
          }

  -- they are made
  pub all_made : (chunks : List (Vec ℕ Global)) (made : Shelf) → AreRecovered g helpers (contents chunks) → made ≡ map Some chunks → AreMade g content gone made
  all_made chunks made is e =
      let codes : Codes g content (contents chunks) = recovered (contents chunks) is in
      let count : length chunks ≡ chunk_count g = sym (length-map chunks (λ (v : Vec ℕ Global). v.items)) ∙ is.count in
      subst (AreMade g content gone) (sym e)
      (record {
        chunks =
            record {
              count = length-map chunks Some ∙ count;
              each = λ c v at. record { word = contents chunks; codes = codes; here = item chunks c v at };
            };
        all = λ c inside among. ap is_some (get_or-map Some chunks c (fallback chunks c (subst (λ n. c < n) (sym count) inside)) None (subst (λ n. c < n) (sym count) inside));
      })
    where
      item : (chunks : List (Vec ℕ Global)) (c : ℕ) (v : Vec ℕ Global) → get_or (map Some chunks) c None ≡ Some v → get_or (contents chunks) c [] ≡ v.items
      item [] c v at = absurd (true≢false (sym (ap is_some at)))
      item (chunk ∷ chunks) zero v at = ap (λ (o : Option (Vec ℕ Global)). (unwrap_or o chunk).items) at
      item (chunk ∷ chunks) (suc c) v at = item chunks c v at

      fallback : (chunks : List (Vec ℕ Global)) (c : ℕ) → c < length chunks → Vec ℕ Global
      fallback [] c h = absurd (omega (arith, h))
      fallback (chunk ∷ chunks) c h = chunk

-- What is there of chunks that are vectors, as a view shows it, and what is known of it.
use Rattle.std.proofs.Common.{◌≡◌, ℕ, suc, subst, ◌<◌, ◌≤◌, Bool, false, not, ◌&&◌, List, [], ◌∷◌, map, length, get_or, filter, count_by, Option, Some, None, is_none, IfSome, Vec, Global, refl, sym, ap, ◌∙◌}
use Rattle.std.specs.Option.{option_map}
use Rattle.std.specs.List.{range_with_len}
use Rattle.std.proofs.lemmas.List.{length-map}
use Rattle.std.proofs.lemmas.List as lists
use Rattle.std.proofs.lemmas.List.Sums.{length-filter}
use Rattle.std.proofs.Math.ListN.{get_or-map}
use Rattle.clay_grid.specs.Shape.{Shape, chunk_count, node_count, chunk_length}
use Rattle.clay_model.specs.Code.{is_virtual, chunk_of_node}
use Rattle.clay_model.specs.Left.{parts, AreLong, Completes}
use Rattle.clay_model.specs.Erased.{erased_below}
use Rattle.code_laws.specs.Solved.{is_erased}
use Rattle.code_laws.proofs.Nodes.{few_points}
use Rattle.lane_repair.specs.Pieces.{HoldsByte}
use Rattle.clay_lanes.specs.Present.{AreChunks, FitsChunks, is_gone}
use Rattle.clay_lanes.specs.Recovered.{IsPlanFor, HoldsLayerRows, AreRowsOfLayers, AreNext, missing_of}
use Rattle.clay_lanes.specs.declared.recovery_plan.DecodePlan.{DecodePlan}

-- ---- which entries are none

none_map : {A B : Type 0} (f : A → B) (o : Option A) → is_none (option_map f o) ≡ is_none o
none_map f None = refl
none_map f (Some x) = refl

pub none_at : {A B : Type 0} (f : A → B) (os : List (Option A)) (c : ℕ) → is_none (get_or (map (option_map f) os) c None) ≡ is_none (get_or os c None)
none_at f os c = ap is_none (get_or-map (option_map f) os c None) ∙ none_map f (get_or os c None)

nones : {A B : Type 0} (f : A → B) (os : List (Option A)) → length (filter is_none (map (option_map f) os)) ≡ length (filter is_none os)
nones f [] = refl
nones f (None ∷ os) = ap suc (nones f os)
nones f (Some x ∷ os) = nones f os

pub count_none : {A B : Type 0} (f : A → B) (os : List (Option A)) → count_by is_none (map (option_map f) os) ≡ count_by is_none os
count_none f os = sym (length-filter is_none (map (option_map f) os)) ∙ nones f os ∙ length-filter is_none os

pub same_missing : {A B : Type 0} (f : A → B) (os : List (Option A)) → missing_of (map (option_map f) os) ≡ missing_of os
same_missing f os = λ k. filter (λ c. none_at f os c k) (range_with_len 0 (length-map os (option_map f) k))

-- ---- as many nodes are gone as chunks

-- the entries as vectors, of which only which are none is asked
abbrev stood : Vec ℕ Global → List (Option (List ℕ)) → List (Option (Vec ℕ Global))
stood v pieces = map (option_map (λ (piece : List ℕ). v)) pieces

pub few_gone : (g : Shape) (pieces : List (Option (List ℕ))) (v : Vec ℕ Global) (erased : List Bool) → 0 < g.parity_count → length pieces ≡ chunk_count g
    → ((i : ℕ) → i < node_count g → get_or erased i false ≡ is_gone g pieces i) → count_by is_none pieces ≤ g.parity_count
    → length (erased_below erased (node_count g)) ≤ g.parity_count
few_gone g pieces v erased rows count erased_are few =
    few_points g (stood v pieces) erased rows (length-map pieces (option_map (λ (piece : List ℕ). v)) ∙ count)
    (λ i h. erased_are i h ∙ ap (λ b. not (is_virtual g i) && b) (sym (none_at (λ (piece : List ℕ). v) pieces (chunk_of_node g i))))
    (subst (λ n. n ≤ g.parity_count) (sym (count_none (λ (piece : List ℕ). v) pieces)) few)

-- ---- chunks that are vectors

abbrev pub bytes_of : Vec ℕ Global → List ℕ
bytes_of v = v.items

pub gone_erased : (g : Shape) (have : List (Option (Vec ℕ Global))) (i : ℕ) → is_gone g (parts have) i ≡ is_erased g have i
gone_erased g have i = ap (λ b. not (is_virtual g i) && b) (none_at bytes_of have (chunk_of_node g i))

long_items : (n : ℕ) (o : Option (Vec ℕ Global)) → IfSome o (λ v. length v.items ≡ n) → IfSome (option_map bytes_of o) (λ p. length p ≡ n)
long_items n None h = tt
long_items n (Some v) h = h

pub are_chunks : (g : Shape) (have : List (Option (Vec ℕ Global))) → length have ≡ chunk_count g → AreLong (chunk_length g) have → AreChunks g (parts have)
are_chunks g have count long = record {
  count = length-map have (option_map bytes_of) ∙ count;
  lengths = λ c d h.
      let inside : c < length have = subst (λ n. c < n) (length-map have (option_map bytes_of)) h in
      subst (λ o. IfSome o (λ p. length p ≡ chunk_length g)) (sym (lists.get_or-map (option_map bytes_of) have c None d inside))
      (long_items (chunk_length g) (get_or have c None) (long c None inside));
}

pub fits_of : (g : Shape) (have : List (Option (Vec ℕ Global))) (word : List (List ℕ)) → Completes g have word → FitsChunks g (parts have) word
fits_of g have word fits = record { codeword = fits.codeword; agrees = fits.agrees }

pub completes_of : (g : Shape) (have : List (Option (Vec ℕ Global))) (word : List (List ℕ)) → FitsChunks g (parts have) word → Completes g have word
completes_of g have word fits = record { codeword = fits.codeword; agrees = fits.agrees }

-- ---- plans

pub plan_same : (g : Shape) (gone other : ℕ → Bool) (plan : DecodePlan) → ((i : ℕ) → gone i ≡ other i) → IsPlanFor g gone plan → IsPlanFor g other plan
plan_same g gone other plan same is = record {
  geometry = is.geometry;
  few = is.few;
  nodes = is.nodes;
  erased_are = λ i h. is.erased_are i h ∙ same i;
  points_are = is.points_are;
  generator = is.generator;
  order = is.order;
  empty = is.empty;
  fifths = is.fifths;
}

pub block_planned : (g : Shape) (have : List (Option (Vec ℕ Global))) (plan : DecodePlan) → IsPlanFor g (is_erased g have) plan → IsPlanFor g (is_gone g (parts have)) plan
block_planned g have plan is = plan_same g (is_erased g have) (is_gone g (parts have)) plan (λ i. sym (gone_erased g have i)) is

-- ---- what is known of one kind of codewords is known of fewer

module _ (g : Shape) (many few : List (List ℕ) → Type 0) (fewer : (word : List (List ℕ)) → few word → many word) where
  pub byte_for : (c : ℕ) (chunk : List ℕ) (p : ℕ) → HoldsByte many c chunk p → HoldsByte few c chunk p
  byte_for c chunk p is = record { at = λ word fits. is.at word (fewer word fits) }

  pub layer_for : (at len : ℕ) (points : List ℕ) (n : ℕ) (solved : List ℕ) → HoldsLayerRows g many at len points n solved → HoldsLayerRows g few at len points n solved
  layer_for at len points n solved is = record { bytes = λ word fits. is.bytes word (fewer word fits) }

  pub rows_for : (at len : ℕ) (points layers : List ℕ) (count : ℕ) (rows : List ℕ) → AreRowsOfLayers g many at len points layers count rows → AreRowsOfLayers g few at len points layers count rows
  rows_for at len points layers count rows is = record { bytes = λ word fits. is.bytes word (fewer word fits) }

  pub next_for : (at len : ℕ) (erased : List Bool) (points layers solved : List ℕ) → AreNext g many at len erased points layers solved → AreNext g few at len erased points layers solved
  next_for at len erased points layers solved is = λ i h. ((is i h).0, λ p hp lower. layer_for at len points p solved ((is i h).1 p hp lower))

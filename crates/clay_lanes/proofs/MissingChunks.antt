-- The numbers of the missing chunks, and the missing chunks and the others put together.
-- The present chunks are inserted at their numbers; the invariant is "the first c chunks, then the missing ones from c on".
use Rattle.std.proofs.Common.{◌≡◌, ◌≢◌, ℕ, suc, subst, ◌+◌, ◌-◌, ◌*◌, ◌/◌, ◌%◌, ◌<◌, ◌≤◌, true, false, cond, List, [], ◌∷◌, ◌++◌, length, get_or, set, take, drop, map, Option, Some, None, is_none, Vec, Global, All, IfSome, Result, Ok, Err, OnOk, inl, inr, refl, sym, ap, ◌∙◌, arith, append_assoc}
use Rattle.std.specs.List.{insert}
use Rattle.std.proofs.lemmas.Bool.{true≢false, cases_eq}
use Rattle.std.proofs.lemmas.Nat.{mod_below, div_below, div-add-mod'}
use Rattle.std.proofs.lemmas.List.{ext_get_or, get_or_default, get_or-set_same, get_or-set_other, take_more, take-map, drop-map, length-map, length-take-le, length_push}
use Rattle.std.proofs.lemmas.List.Edits.{length-insert, get_or-insert_below, get_or-insert_at}
use Rattle.std.proofs.lemmas.List.Elements.{All-append, All-cons, All-take, All-drop}
use Rattle.std.proofs.lemmas.List as lists
use Rattle.std.proofs.Math.Seq.{take-append_seam, drop-append_seam}
use Rattle.clay_grid.specs.Shape.{Shape, chunk_count, layer_count, chunk_length}
use Rattle.clay_grid.proofs.Rising.{Lists-filter}
use Rattle.clay_model.specs.Code.{AgreesWith}
use Rattle.clay_model.specs.Chunks.{contents}
use Rattle.clay_model.specs.Left.{parts, AreLong, Completes}
use Rattle.code_laws.proofs.Agreeing.{agrees_of}
use Rattle.code_laws.proofs.Nodes.{agreeing_chunk, long_chunk}
use Rattle.clay_model.specs.Left.{AreRecovered}
use Rattle.lane_repair.specs.Pieces.{HoldsByte}
use Rattle.clay_lanes.specs.Recovered.{missing_from, missing_of, AreMissing}
use Rattle.clay_parity.proofs.ChunkLists.{contents_set, length-contents}

pub none_of : {A : Type 0} (o : Option A) → is_none o ≡ true → o ≡ None
none_of None h = refl
none_of (Some v) h = let both : true ≡ false = sym h in absurd (true≢false both)

-- each number of a missing chunk
pub missing_below : {A : Type 0} (have : List (Option A)) (i : ℕ) → i < length (missing_of have) → get_or (missing_of have) i 0 < length have
missing_below have i h = ((Lists-filter (λ c. is_none (get_or have c None)) (length have)).only i h).0

pub missing_none : {A : Type 0} (have : List (Option A)) (i : ℕ) → i < length (missing_of have) → get_or have (get_or (missing_of have) i 0) None ≡ None
missing_none have i h = none_of (get_or have (get_or (missing_of have) i 0) None) ((Lists-filter (λ c. is_none (get_or have c None)) (length have)).only i h).1

-- what follows from two facts of a call that succeeds
pub on_both : {T E P Q R : Type 0} (r : Result T E) → OnOk r P → OnOk r Q → (P → Q → R) → OnOk r R
on_both (Ok x) p q f = f p q
on_both (Err e) p q f = p

-- chunks that have each byte of the missing ones
pub found_chunks : (g : Shape) (have : List (Option (Vec ℕ Global))) (chunks : List (List ℕ)) → 0 < g.width → length have ≡ chunk_count g → length chunks ≡ length (missing_of have)
    → ((i : ℕ) → i < length chunks → length (get_or chunks i []) ≡ chunk_length g)
    → ((i z b : ℕ) → i < length (missing_of have) → z < layer_count g → b < g.width → HoldsByte (λ word. Completes g have word) (get_or (missing_of have) i 0) (get_or chunks i []) (z * g.width + b))
    → AreMissing g have chunks
found_chunks g have chunks wide all count long holds = record {
  count = count;
  lengths = λ i d h. ap length (get_or_default chunks i d [] h) ∙ long i h;
  value = λ word fits.
      let lost : List ℕ = missing_of have in
      let value : ℕ → List ℕ = λ c. get_or word c [] in
      ext_get_or [] chunks (map value lost) (count ∙ sym (length-map lost value)) (λ i h.
      let there : i < length lost = subst (λ n. i < n) count h in
      let c : ℕ = get_or lost i 0 in
      let within : c < chunk_count g = subst (λ n. c < n) all (missing_below have i there) in
      ext_get_or 0 (get_or chunks i []) (get_or word c []) (long i h ∙ sym (fits.codeword.lengths c within)) (λ p hp.
      let place : p < chunk_length g = subst (λ n. p < n) (long i h) hp in
      let split : p / g.width * g.width + p % g.width ≡ p = div-add-mod' p g.width in
      let byte : HoldsByte (λ word. Completes g have word) c (get_or chunks i []) p =
      subst (HoldsByte (λ word. Completes g have word) c (get_or chunks i [])) split (holds i (p / g.width) (p % g.width) there (div_below p g.width (layer_count g) wide place) (mod_below p g.width wide)) in
      byte.at word fits)
      ∙ sym (lists.get_or-map value lost i 0 [] there));
}

-- ---- one chunk of some is written

pub written_at : (vs : List (Vec ℕ Global)) (i : ℕ) (v : Vec ℕ Global) (new : List ℕ) → v.items ≡ new → i < length vs → get_or (contents (set vs i v)) i [] ≡ new
written_at vs i v new is h =
    ap (λ l. get_or l i []) (contents_set vs i v)
    ∙ get_or-set_same (contents vs) i v.items [] (subst (λ n. i < n) (sym (length-contents vs)) h)
    ∙ is

pub written_other : (vs : List (Vec ℕ Global)) (i k : ℕ) (v : Vec ℕ Global) → k ≢ i → get_or (contents (set vs i v)) k [] ≡ get_or (contents vs) k []
written_other vs i k v other = ap (λ l. get_or l k []) (contents_set vs i v) ∙ get_or-set_other (contents vs) i k v.items [] other

-- ---- the chunks that are there put between the missing ones

missing_here : (have : List (Option (Vec ℕ Global))) (c : ℕ) → c < length have → get_or have c None ≡ None → missing_from have c (length have - c) ≡ c ∷ missing_from have (c + 1) (length have - (c + 1))
missing_here have c h none =
    let more : length have - c ≡ suc (length have - (c + 1)) = omega arith in
    ap (missing_from have c) more
    ∙ ap (λ o. cond (is_none o) (c ∷ missing_from have (c + 1) (length have - (c + 1))) (missing_from have (c + 1) (length have - (c + 1)))) none

missing_later : (have : List (Option (Vec ℕ Global))) (c : ℕ) (v : Vec ℕ Global) → c < length have → get_or have c None ≡ Some v → missing_from have c (length have - c) ≡ missing_from have (c + 1) (length have - (c + 1))
missing_later have c v h some =
    let more : length have - c ≡ suc (length have - (c + 1)) = omega arith in
    ap (missing_from have c) more
    ∙ ap (λ o. cond (is_none o) (c ∷ missing_from have (c + 1) (length have - (c + 1))) (missing_from have (c + 1) (length have - (c + 1)))) some

-- below c all chunks stand, and behind them the missing ones from c on
pub record StandBefore (g : Shape) (have : List (Option (Vec ℕ Global))) (c : ℕ) (chunks : List (List ℕ)) : Type 0 where
  pub count : length chunks ≡ c + length (missing_from have c (length have - c))
  pub lengths : All (λ chunk. length chunk ≡ chunk_length g) chunks
  pub kept : (i : ℕ) → i < c → IfSome (get_or have i None) (λ v. get_or chunks i [] ≡ v.items)
  pub value : (word : List (List ℕ)) → Completes g have word → chunks ≡ take c word ++ map (λ i. get_or word i []) (missing_from have c (length have - c))

pub StandBefore-none : (g : Shape) (have : List (Option (Vec ℕ Global))) (chunks : List (List ℕ)) → AreMissing g have chunks → StandBefore g have 0 chunks
StandBefore-none g have chunks missing =
    let all : length have ≡ length have - 0 = omega arith in
    let same : missing_of have ≡ missing_from have 0 (length have - 0) = ap (missing_from have 0) all in
    let counted = missing.count in
    let counts : length (missing_of have) ≡ length (missing_from have 0 (length have - 0)) = ap length same in
    record {
      count = omega (arith, counted, counts);
      lengths = missing.lengths;
      kept = λ i h. absurd (omega (arith, h));
      value = λ word fits. missing.value word fits ∙ ap (map (λ i. get_or word i [])) same;
    }

pub StandBefore-missing : (g : Shape) (have : List (Option (Vec ℕ Global))) (c : ℕ) (chunks : List (List ℕ)) → length have ≡ chunk_count g → c < length have → get_or have c None ≡ None → StandBefore g have c chunks → StandBefore g have (c + 1) chunks
StandBefore-missing g have c chunks all h none before =
    let rest : List ℕ = missing_from have (c + 1) (length have - (c + 1)) in
    let here = missing_here have c h none in
    let longer : length (missing_from have c (length have - c)) ≡ suc (length rest) = ap length here in
    let counted = before.count in
    record {
      count = omega (arith, counted, longer);
      lengths = before.lengths;
      kept = λ i below. elim (cases_eq i c) [
        | inl same ↦ subst (λ o. IfSome o (λ v. get_or chunks i [] ≡ v.items)) (sym (ap (λ k. get_or have k None) same ∙ none)) tt
        | inr other ↦ before.kept i (omega (arith, below, other))
      ];
      value = λ word fits.
          let value : ℕ → List ℕ = λ i. get_or word i [] in
          let within : c < length word = omega (arith, fits.codeword.count, all) in
          before.value word fits
          ∙ ap (λ l. take c word ++ map value l) here
          ∙ sym (append_assoc (take c word) (get_or word c [] ∷ []) (map value rest))
          ∙ ap (λ l. l ++ map value rest) (sym (take_more word c [] within));
    }

contents_insert : (vs : List (Vec ℕ Global)) (i : ℕ) (v : Vec ℕ Global) → contents (insert vs i v) ≡ insert (contents vs) i v.items
contents_insert vs i v =
    lists.map-append (λ (w : Vec ℕ Global). w.items) (take i vs) (v ∷ drop i vs)
    ∙ (λ k. sym (take-map (λ (w : Vec ℕ Global). w.items) i vs) k ++ v.items ∷ sym (drop-map (λ (w : Vec ℕ Global). w.items) i vs) k)

insert_at : (xs ys : List (List ℕ)) (x : List ℕ) (c : ℕ) → length xs ≡ c → insert (xs ++ ys) c x ≡ (xs ++ x ∷ []) ++ ys
insert_at xs ys x c long =
    ap (λ n. insert (xs ++ ys) n x) (sym long)
    ∙ (λ k. take-append_seam xs ys k ++ x ∷ drop-append_seam xs ys k)
    ∙ sym (append_assoc xs (x ∷ []) ys)

All-insert : (P : List ℕ → Type 0) (xs : List (List ℕ)) (i : ℕ) (x : List ℕ) → All P xs → P x → All P (insert xs i x)
All-insert P xs i x each new =
    All-append P (take i xs) (x ∷ drop i xs) (All-take P i xs each) (All-cons P x (drop i xs) new (All-drop P i xs each))

pub StandBefore-present : (g : Shape) (have : List (Option (Vec ℕ Global))) (c : ℕ) (vs : List (Vec ℕ Global)) (v u : Vec ℕ Global) → length have ≡ chunk_count g → AreLong (chunk_length g) have → c < length have → get_or have c None ≡ Some v → u.items ≡ v.items
    → StandBefore g have c (contents vs) → StandBefore g have (c + 1) (contents (insert vs c u))
StandBefore-present g have c vs v u all long h some same before =
    let rest : List ℕ = missing_from have (c + 1) (length have - (c + 1)) in
    let later = missing_later have c v h some in
    let is : contents (insert vs c u) ≡ insert (contents vs) c v.items = contents_insert vs c u ∙ ap (insert (contents vs) c) same in
    let counted = before.count in
    let shorter : length (missing_from have c (length have - c)) ≡ length rest = ap length later in
    let room : c ≤ length (contents vs) = omega (arith, counted) in
    let more : length (insert (contents vs) c v.items) ≡ length (contents vs) + 1 = length-insert (contents vs) c v.items room in
    subst (StandBefore g have (c + 1)) (sym is) (record {
      count = omega (arith, counted, shorter, more);
      lengths = All-insert (λ chunk. length chunk ≡ chunk_length g) (contents vs) c v.items before.lengths (long_chunk (chunk_length g) have long c v h some);
      kept = λ i below. elim (cases_eq i c) [
        | inl same ↦
            subst (λ o. IfSome o (λ w. get_or (insert (contents vs) c v.items) i [] ≡ w.items)) (sym (ap (λ k. get_or have k None) same ∙ some))
            (ap (λ k. get_or (insert (contents vs) c v.items) k []) same ∙ get_or-insert_at (contents vs) c v.items [] room)
        | inr other ↦
            let early : i < c = omega (arith, below, other) in
            subst (λ l. IfSome (get_or have i None) (λ w. l ≡ w.items)) (sym (get_or-insert_below (contents vs) c v.items [] i early room)) (before.kept i early)
      ];
      value = λ word fits.
          let value : ℕ → List ℕ = λ i. get_or word i [] in
          let within : c < length word = omega (arith, fits.codeword.count, all) in
          let front : length (take c word) ≡ c = length-take-le c word (omega arith) in
          ap (λ l. insert l c v.items) (before.value word fits ∙ ap (λ l. take c word ++ map value l) later)
          ∙ insert_at (take c word) (map value rest) v.items c front
          ∙ ap (λ x. (take c word ++ x ∷ []) ++ map value rest) (sym (agreeing_chunk g have word fits c v some))
          ∙ ap (λ l. l ++ map value rest) (sym (take_more word c [] within));
    })

pub all_stand : (g : Shape) (have : List (Option (Vec ℕ Global))) (c : ℕ) (chunks : List (List ℕ)) → length have ≡ chunk_count g → c ≡ length have → StandBefore g have c chunks → AreRecovered g have chunks
all_stand g have c chunks all end before =
    let none : length have - c ≡ 0 = omega arith in
    let counted = before.count in
    let empty : length (missing_from have c (length have - c)) ≡ 0 = ap (λ n. length (missing_from have c n)) none in
    record {
      count = omega (arith, counted, empty, all, end);
      lengths = before.lengths;
      value = λ word fits.
          let whole : length word ≤ c = omega (arith, fits.codeword.count, all, end) in
          before.value word fits
          ∙ ap (λ n. take c word ++ map (λ i. get_or word i []) (missing_from have c n)) none
          ∙ lists.append-nil (take c word)
          ∙ lists.take_all c word whole;
    }

-- the chunks that are there stay as they are
pub all_kept : (g : Shape) (have : List (Option (Vec ℕ Global))) (c : ℕ) (chunks : List (List ℕ)) → c ≡ length have → StandBefore g have c chunks → AgreesWith (parts have) chunks
all_kept g have c chunks end before = agrees_of have chunks (λ i h. before.kept i (omega (arith, h, end)))

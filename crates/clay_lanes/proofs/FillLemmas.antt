-- The missing ones of all chunks are written, each between the others, which stay.
-- What is known of the bytes that are there (`pieces_in`) is known of those before and after a missing chunk (`around_in`), since they show
-- the same list; and after a write, since a write keeps the chunks that aren't missing.
use Rattle.std.proofs.Common.{◌≡◌, ◌≢◌, ℕ, suc, subst, ◌+◌, ◌-◌, ◌*◌, ◌<◌, ◌≤◌, ◌⊎◌, Bool, true, false, not, ◌&&◌, cond, List, [], ◌∷◌, ◌++◌, map, length, get_or, take, drop, filter, slice_range, count_by, Option, Some, None, is_none, IfSome, All, Contains, refl, sym, ap, ◌∙◌, inl, inr, arith}
use Rattle.std.specs.Option.{option_map}
use Rattle.std.specs.List.{range_with_len}
use Rattle.std.proofs.lemmas.Bool.{true≢false, cases_lt}
use Rattle.std.proofs.lemmas.Nat.{mul-le}
use Rattle.std.proofs.lemmas.List.{length-map, get_or_default}
use Rattle.std.proofs.lemmas.List as lists
use Rattle.std.proofs.lemmas.List.Edits.{length-between}
use Rattle.std.proofs.lemmas.List.FromFn.{length-map-range_with_len, get_or-map-range_with_len, map-range_with_len_more}
use Rattle.std.proofs.lemmas.List.Sums.{length-filter}
use Rattle.clay_grid.specs.Shape.{Shape, chunk_count, node_count, layer_count, chunk_length, node_of_chunk}
use Rattle.clay_grid.specs.Limits.{IsGeometry}
use Rattle.code_laws.proofs.Pieces.{piece_fits}
use Rattle.code_laws.proofs.Nodes.{node_real, contains_erased}
use Rattle.code_laws.proofs.Column.{node_inside}
use Rattle.lane_repair.specs.Views.{laid_pieces, EndWithin}
use Rattle.lane_repair.proofs.AroundLemmas.{same_piece, same_pieces, IsClear, around_shows, around_room}
use Rattle.clay_lanes.specs.Present.{AreChunks, FitsChunks, is_gone, chunks_left}
use Rattle.clay_lanes.specs.Recovered.{IsPlanFor}
use Rattle.clay_lanes.specs.Places.{KeepsPlaces}
use Rattle.clay_lanes.specs.Fillings.{IsPlanned, IsFilling, pieces_in, KeepsOthers}
use Rattle.clay_lanes.specs.Standing.{starts_left, left_count, is_left_gone, left_pieces, pieces_around, IsRoom, IsRoomAround, StandInPlace}
use Rattle.clay_lanes.specs.declared.recovery_plan.DecodePlan.{DecodePlan}
use Rattle.clay_lanes.specs.declared.chunk_filling.Left.{Left}
use Rattle.clay_lanes.specs.declared.chunk_filling.Filling.{Filling}
use Rattle.clay_lanes.specs.declared.chunk_filling.Left.TheVariants.{Apart, Among}
use Rattle.clay_lanes.proofs.Shown.{none_at, bytes_of}

-- ---- as many pass in two lists

longer : {A B : Type 0} (b : Bool) (x : A) (xs : List A) (y : B) (ys : List B) → length xs ≡ length ys → length (cond b (x ∷ xs) xs) ≡ length (cond b (y ∷ ys) ys)
longer true x xs y ys same = ap suc same
longer false x xs y ys same = same

as_long : {A B : Type 0} (p : A → Bool) (q : B → Bool) (d : A) (e : B) (xs : List A) (ys : List B) → length xs ≡ length ys → ((c : ℕ) → c < length xs → p (get_or xs c d) ≡ q (get_or ys c e))
    → length (filter p xs) ≡ length (filter q ys)
as_long p q d e [] [] long same = refl
as_long p q d e [] (y ∷ ys) long same = absurd (omega (arith, long))
as_long p q d e (x ∷ xs) [] long same = absurd (omega (arith, long))
as_long p q d e (x ∷ xs) (y ∷ ys) long same =
    ap (λ b. length (cond b (x ∷ filter p xs) (filter p xs))) (same 0 (omega arith))
    ∙ longer (q y) x (filter p xs) y (filter q ys) (as_long p q d e xs ys (omega (arith, long)) (λ c h. same (suc c) (omega (arith, h))))

pub same_count : {A B : Type 0} (p : A → Bool) (q : B → Bool) (d : A) (e : B) (xs : List A) (ys : List B) → length xs ≡ length ys → ((c : ℕ) → c < length xs → p (get_or xs c d) ≡ q (get_or ys c e))
    → count_by p xs ≡ count_by q ys
same_count p q d e xs ys long same = sym (length-filter p xs) ∙ as_long p q d e xs ys long same ∙ length-filter q ys

-- ---- how many there are, and which are gone

pub count_left : (left : Left) (chunks : List ℕ) (len : ℕ) → length (left_pieces left chunks len) ≡ left_count left
count_left (Apart have) chunks len = length-map have.now (option_map bytes_of)
count_left (Among starts) chunks len = length-map starts.now (option_map (λ start. slice_range chunks start (start + len)))

pub gone_left : (left : Left) (chunks : List ℕ) (len c : ℕ) → is_none (get_or (left_pieces left chunks len) c None) ≡ is_left_gone left c
gone_left (Apart have) chunks len c = none_at bytes_of have.now c
gone_left (Among starts) chunks len c = none_at (λ start. slice_range chunks start (start + len)) starts.now c

-- ---- among all chunks

-- a start is that of a chunk's place
record StandsFor (g : Shape) (starts : List (Option ℕ)) (start : ℕ) : Type 0 where
  pub number : ℕ
  pub within : number < chunk_count g
  pub there : get_or starts number None ≡ Some start
  pub place : start ≡ number * chunk_length g

if_some : (P Q : ℕ → Type 0) → ((n : ℕ) → P n → Q n) → (o : Option ℕ) → IfSome o P → IfSome o Q
if_some P Q f None h = h
if_some P Q f (Some n) h = f n h

module _ (g : Shape) (starts : List (Option ℕ)) (count : length starts ≡ chunk_count g)
    (each : (c : ℕ) → c < length starts → (get_or starts c None ≡ None) ⊎ (get_or starts c None ≡ Some (c * chunk_length g))) where
  stand_for : All (λ o. IfSome o (StandsFor g starts)) starts
  stand_for = λ c d h. elim (each c h) [
    | inl none ↦ subst (λ o. IfSome o (StandsFor g starts)) (sym (get_or_default starts c d None h ∙ none)) tt
    | inr some ↦
        subst (λ o. IfSome o (StandsFor g starts)) (sym (get_or_default starts c d None h ∙ some))
        (record { number = c; within = subst (λ n. c < n) count h; there = some; place = refl })
  ]

  all_stand : (Q : ℕ → Type 0) → ((start : ℕ) → StandsFor g starts start → Q start) → All (λ o. IfSome o Q) starts
  all_stand Q f = λ c d h. if_some (StandsFor g starts) Q f (get_or starts c d) (stand_for c d h)

  ends_within : (chunks : List ℕ) → length chunks ≡ chunk_count g * chunk_length g → (start : ℕ) → StandsFor g starts start → start + chunk_length g ≤ length chunks
  ends_within chunks long start at =
      let fits = piece_fits at.number (chunk_count g) (chunk_length g) at.within in
      omega (arith, fits, at.place, long)

  is_clear : (chunks : List ℕ) (i : ℕ) → length chunks ≡ chunk_count g * chunk_length g → is_none (get_or starts i None) ≡ true
      → (start : ℕ) → StandsFor g starts start → IsClear chunks (chunk_length g) (i * chunk_length g) start
  is_clear chunks i long gone start at =
      elim (cases_lt at.number i) [
        | inl early ↦
            let fits = piece_fits at.number i (chunk_length g) early in
            inl (omega (arith, fits, at.place))
        | inr late ↦
            let other : at.number ≢ i = λ same. true≢false (sym gone ∙ ap is_none (ap (λ n. get_or starts n None) (sym same) ∙ at.there)) in
            let fits = piece_fits i at.number (chunk_length g) (omega (arith, late, other)) in
            inr (omega (arith, fits, at.place), ends_within chunks long start at)
      ]

  same_start : (fits : List (List ℕ) → Type 0) (old new : List ℕ) → length old ≡ chunk_count g * chunk_length g → length new ≡ chunk_count g * chunk_length g
      → KeepsPlaces g fits (λ c. is_none (get_or (laid_pieces old starts (chunk_length g)) c None)) old new
      → (start : ℕ) → StandsFor g starts start → slice_range new start (start + chunk_length g) ≡ slice_range old start (start + chunk_length g)
  same_start fits old new long_old long_new kept start at =
      let len : ℕ = chunk_length g in
      let there : is_none (get_or (laid_pieces old starts len) at.number None) ≢ true = λ gone.
      true≢false (sym gone ∙ none_at (λ s. slice_range old s (s + len)) starts at.number ∙ ap is_none at.there) in
      same_piece len start start new old (ends_within new long_new start at) (ends_within old long_old start at) (λ b h.
      ap (λ s. get_or new (s + b) 0) at.place ∙ kept.there at.number b at.within h there ∙ ap (λ s. get_or old (s + b) 0) (sym at.place))

-- ---- wherever they stand

module _ (g : Shape) where
  pub left_room : (left : Left) (chunks : List ℕ) → left_count left ≡ chunk_count g → StandInPlace g left → length chunks ≡ chunk_count g * chunk_length g → IsRoom left chunks (chunk_length g)
  left_room (Apart have) chunks count each long = tt
  left_room (Among starts) chunks count each long = all_stand g starts.now count each (λ start. start + chunk_length g ≤ length chunks) (ends_within g starts.now count each chunks long)

  pub left_shows : (left : Left) (chunks : List ℕ) (i : ℕ) → 0 < chunk_length g → left_count left ≡ chunk_count g → StandInPlace g left → length chunks ≡ chunk_count g * chunk_length g
      → i < chunk_count g → is_left_gone left i ≡ true
      → pieces_around left (take (i * chunk_length g) chunks) (drop (chunk_length g) (drop (i * chunk_length g) chunks)) (chunk_length g) ≡ left_pieces left chunks (chunk_length g)
  left_shows (Apart have) chunks i some count each long below gone = refl
  left_shows (Among starts) chunks i some count each long below gone =
      let fits = piece_fits i (chunk_count g) (chunk_length g) below in
      around_shows chunks (chunk_length g) (i * chunk_length g) some (omega (arith, fits, long)) starts.now
      (all_stand g starts.now count each (IsClear chunks (chunk_length g) (i * chunk_length g)) (is_clear g starts.now count each chunks i long gone))

  pub left_room_around : (left : Left) (chunks : List ℕ) (i : ℕ) → 0 < chunk_length g → left_count left ≡ chunk_count g → StandInPlace g left → length chunks ≡ chunk_count g * chunk_length g
      → i < chunk_count g → is_left_gone left i ≡ true
      → IsRoomAround left (take (i * chunk_length g) chunks) (drop (chunk_length g) (drop (i * chunk_length g) chunks)) (chunk_length g)
  left_room_around (Apart have) chunks i some count each long below gone = tt
  left_room_around (Among starts) chunks i some count each long below gone =
      let fits = piece_fits i (chunk_count g) (chunk_length g) below in
      around_room chunks (chunk_length g) (i * chunk_length g) some (omega (arith, fits, long)) starts.now
      (all_stand g starts.now count each (IsClear chunks (chunk_length g) (i * chunk_length g)) (is_clear g starts.now count each chunks i long gone))

  pub left_stays : (left : Left) (fits : List (List ℕ) → Type 0) (old new : List ℕ) → left_count left ≡ chunk_count g → StandInPlace g left
      → length old ≡ chunk_count g * chunk_length g → length new ≡ chunk_count g * chunk_length g
      → KeepsPlaces g fits (λ c. is_none (get_or (left_pieces left old (chunk_length g)) c None)) old new
      → left_pieces left new (chunk_length g) ≡ left_pieces left old (chunk_length g)
  left_stays (Apart have) fits old new count each long_old long_new kept = refl
  left_stays (Among starts) fits old new count each long_old long_new kept =
      same_pieces (StandsFor g starts.now) (λ start. slice_range new start (start + chunk_length g)) (λ start. slice_range old start (start + chunk_length g))
      (same_start g starts.now count each fits old new long_old long_new kept) starts.now (stand_for g starts.now count each)

-- the pieces that are laid among all chunks are chunks
laid_long : (chunks : List ℕ) (len : ℕ) (o : Option ℕ) → IfSome o (λ start. start + len ≤ length chunks) → IfSome (option_map (λ start. slice_range chunks start (start + len)) o) (λ piece. length piece ≡ len)
laid_long chunks len None h = tt
laid_long chunks len (Some start) h = let whole : start + len - start ≡ len = omega arith in length-between chunks start (start + len) h ∙ whole

pub laid_chunks : (g : Shape) (starts : List (Option ℕ)) (chunks : List ℕ) → length starts ≡ chunk_count g → EndWithin chunks starts (chunk_length g) → AreChunks g (laid_pieces chunks starts (chunk_length g))
laid_chunks g starts chunks count room =
    let piece : ℕ → List ℕ = λ start. slice_range chunks start (start + chunk_length g) in
    record {
      count = length-map starts (option_map piece) ∙ count;
      lengths = λ c d h.
          let inside : c < length starts = subst (λ n. c < n) (length-map starts (option_map piece)) h in
          subst (λ o. IfSome o (λ p. length p ≡ chunk_length g)) (sym (lists.get_or-map (option_map piece) starts c None d inside))
          (laid_long chunks (chunk_length g) (get_or starts c None) (room c None inside));
    }

-- a chunk has some bytes
pub some_bytes : (g : Shape) → IsGeometry g → 0 < chunk_length g
some_bytes g geometry =
    let wide = geometry.limits.width.0 in
    let layers = geometry.some_layers in
    let rows = geometry.limits.parity_chunks.0 in
    let some : 1 * 1 ≤ layer_count g * g.width = mul-le 1 1 (layer_count g) g.width (omega (arith, layers, rows)) (omega (arith, wide)) in
    omega (arith, some)

-- ---- while they are filled

pub count_in : (f : Filling) (chunks : List ℕ) → IsFilling f chunks → left_count f.left ≡ chunk_count f.g
count_in f chunks is = sym (count_left f.left chunks (chunk_length f.g)) ∙ is.planned.chunks.count

pub pieces_stay : (f : Filling) (old new : List ℕ) → IsFilling f old → length new ≡ length old → KeepsOthers f (pieces_in f old) old new → pieces_in f new ≡ pieces_in f old
pieces_stay f old new is same kept =
    left_stays f.g f.left (λ word. FitsChunks f.g (pieces_in f old) word) old new (count_in f old is) is.places is.long (same ∙ is.long) kept

pub filling_stays : (f : Filling) (old new : List ℕ) → IsFilling f old → length new ≡ length old → KeepsOthers f (pieces_in f old) old new → IsFilling f new
filling_stays f old new is same kept = record {
  planned = subst (IsPlanned f) (sym (pieces_stay f old new is same kept)) is.planned;
  places = is.places;
  long = same ∙ is.long;
}

-- ---- where each chunk that isn't missing begins

module _ (g : Shape) (missing : List Bool) where
  pub starts_more : (starts : List (Option ℕ)) (o : Option ℕ) (c : ℕ) → o ≡ cond (get_or missing c false) None (Some (c * chunk_length g)) → starts ≡ starts_left g missing c → starts ++ o ∷ [] ≡ starts_left g missing (c + 1)
  starts_more starts o c is before = (λ i. before i ++ is i ∷ []) ∙ sym (map-range_with_len_more (λ k. cond (get_or missing k false) None (Some (k * chunk_length g))) 0 c c (omega arith))

  pub length-starts : (n : ℕ) → length (starts_left g missing n) ≡ n
  length-starts n = length-map-range_with_len (λ k. cond (get_or missing k false) None (Some (k * chunk_length g))) 0 n

  start_at : (n c : ℕ) → c < n → get_or (starts_left g missing n) c None ≡ cond (get_or missing c false) None (Some (c * chunk_length g))
  start_at n c h = get_or-map-range_with_len (λ k. cond (get_or missing k false) None (Some (k * chunk_length g))) 0 n c c None h (omega arith)

  in_place : (b : Bool) (c : ℕ) → (cond b None (Some (c * chunk_length g)) ≡ None) ⊎ (cond b None (Some (c * chunk_length g)) ≡ Some (c * chunk_length g))
  in_place true c = inl refl
  in_place false c = inr refl

  pub starts_in_place : (n c : ℕ) → c < n → (get_or (starts_left g missing n) c None ≡ None) ⊎ (get_or (starts_left g missing n) c None ≡ Some (c * chunk_length g))
  starts_in_place n c h = subst (λ o. (o ≡ None) ⊎ (o ≡ Some (c * chunk_length g))) (sym (start_at n c h)) (in_place (get_or missing c false) c)

  none_start : (b : Bool) (n : ℕ) → is_none (cond b None (Some n)) ≡ b
  none_start true n = refl
  none_start false n = refl

  gone_start : (n c : ℕ) → c < n → is_none (get_or (starts_left g missing n) c None) ≡ get_or missing c false
  gone_start n c h = ap is_none (start_at n c h) ∙ none_start (get_or missing c false) (c * chunk_length g)

  pub few_starts : count_by is_none (starts_left g missing (length missing)) ≡ count_by (λ gone. gone) missing
  few_starts = same_count is_none (λ gone. gone) None false (starts_left g missing (length missing)) missing (length-starts (length missing))
      (λ c h. gone_start (length missing) c (subst (λ n. c < n) (length-starts (length missing)) h))

  shown_start : (chunks : List ℕ) (b : Bool) (s : ℕ) → option_map (λ start. slice_range chunks start (start + chunk_length g)) (cond b None (Some s)) ≡ cond b None (Some (slice_range chunks s (s + chunk_length g)))
  shown_start chunks true s = refl
  shown_start chunks false s = refl

  shown_starts : (chunks : List ℕ) (cs : List ℕ) → laid_pieces chunks (map (λ c. cond (get_or missing c false) None (Some (c * chunk_length g))) cs) (chunk_length g)
      ≡ map (λ c. cond (get_or missing c false) None (Some (slice_range chunks (c * chunk_length g) (c * chunk_length g + chunk_length g)))) cs
  shown_starts chunks [] = refl
  shown_starts chunks (c ∷ cs) = λ i. shown_start chunks (get_or missing c false) (c * chunk_length g) i ∷ shown_starts chunks cs i

  -- they show the chunks that are there
  pub starts_show : (chunks : List ℕ) → laid_pieces chunks (starts_left g missing (chunk_count g)) (chunk_length g) ≡ chunks_left g missing chunks
  starts_show chunks = shown_starts chunks (range_with_len 0 (chunk_count g))

-- each ends within all chunks
pub starts_room : (g : Shape) (missing : List Bool) (starts : List (Option ℕ)) (chunks : List ℕ) → starts ≡ starts_left g missing (chunk_count g) → length chunks ≡ chunk_count g * chunk_length g
    → EndWithin chunks starts (chunk_length g)
starts_room g missing starts chunks are long =
    let left : List (Option ℕ) = starts_left g missing (chunk_count g) in
    let count : length left ≡ chunk_count g = length-starts g missing (chunk_count g) in
    let each : (c : ℕ) → c < length left → (get_or left c None ≡ None) ⊎ (get_or left c None ≡ Some (c * chunk_length g)) = λ c h. starts_in_place g missing (chunk_count g) c (subst (λ n. c < n) count h) in
    subst (λ s. EndWithin chunks s (chunk_length g)) (sym are)
    (all_stand g left count each (λ start. start + chunk_length g ≤ length chunks) (ends_within g left count each chunks long))

-- and begins at its place
pub starts_placed : (g : Shape) (missing : List Bool) (starts : List (Option ℕ)) → starts ≡ starts_left g missing (chunk_count g)
    → (c : ℕ) → c < length starts → (get_or starts c None ≡ None) ⊎ (get_or starts c None ≡ Some (c * chunk_length g))
starts_placed g missing starts are c h =
    subst (λ s. (get_or s c None ≡ None) ⊎ (get_or s c None ≡ Some (c * chunk_length g))) (sym are)
    (starts_in_place g missing (chunk_count g) c (subst (λ n. c < n) (ap length are ∙ length-starts g missing (chunk_count g)) h))

-- ---- where nothing is missing

pub nothing_gone : (g : Shape) (pieces : List (Option (List ℕ))) (plan : DecodePlan) → IsPlanFor g (is_gone g pieces) plan → length plan.points.items ≡ 0
    → (c : ℕ) → c < chunk_count g → is_none (get_or pieces c None) ≡ true → ⊥
nothing_gone g pieces plan is none c below gone =
    let i : ℕ = node_of_chunk g c in
    let inside : i < node_count g = node_inside g c is.geometry below in
    let node = node_real g c i refl in
    let erased : is_gone g pieces i ≡ true = (λ k. not (node.real k) && is_none (get_or pieces (node.chunk k) None)) ∙ gone in
    let listed : Contains plan.points.items i = subst (λ l. Contains l i) (sym is.points_are) (contains_erased plan.erased.items (node_count g) i inside (is.erased_are i inside ∙ erased)) in
    omega (arith, listed.1, none)

-- A heal leaves each stripe whole that it can, and every other as it was.
use Rattle.std.proofs.Common.{◌≡◌, ◌⊎◌, ℕ, zero, suc, ◌+◌, ◌<◌, ◌≤◌, nat_eq, nat_lt, Bool, true, false, not, cond, List, [], ◌∷◌, ◌++◌, length, get_or, map, filter, flat_map, fold, replicate, bytes_eq, Some, unwrap_or, refl, sym, ap, subst, ◌∙◌, inl, inr, arith, if◌then◌else◌}
use Rattle.std.specs.List.{AllByRecursion, IsDistinct, enumerate_from, range_with_len}
use Rattle.std.proofs.lemmas.Bool.{eq-eqb, eqb-true, ltb-false, ltb-true, le-ltb, or_cases, or_left, or_right, true≢false}
use Rattle.std.proofs.lemmas.List.{length-map}
use Rattle.std.proofs.lemmas.Option.{none-some, same_Some}
use Rattle.clay_grid.specs.Shape.{Shape, chunk_count}
use Rattle.store_map.specs.Laws.{names_of}
use Rattle.store_map.specs.PlainMap.{bytes_of}
use Rattle.store_core.specs.Lists.{change_at, is_among}
use Rattle.store_core.specs.Server.{Server}
use Rattle.store_core.specs.Step.{Places}
use Rattle.session_rules.specs.State.{Chunk, Stripe, State}
use Rattle.session_rules.specs.declared.session_answer.LostChunk.{LostChunk}
use Rattle.session_rules.specs.declared.session_answer.Answer.{Answer}
use Rattle.session_rules.specs.Gathered.{holds, lacking, is_beyond_repair}
use Rattle.session_rules.specs.Rebuilds.{place_anew}
use Rattle.session_rules.specs.Heals.{servers, lost_chunks, number_of, to_heal, heal_one, heal_all, heal}
use Rattle.session_rules.specs.Seen.{version_of, all_numbers, snapshot_numbers, StandsFor, IsSeenAs}
use Rattle.session_rules.specs.Restored.{stripe_of, CanBeRestored, IsRestored, HealsRestoreStripes}
use Rattle.session_rules.proofs.Counting.{among_append}
use Rattle.session_rules.proofs.Lists.{changed_length}
use Rattle.session_rules.proofs.Pairs.{every_weaker, every_both, every_filter, every_kept, row_less}
use Rattle.session_rules.proofs.PlacedAnew.{changed_here, changed_elsewhere}
use Rattle.session_rules.proofs.LostChunks.{IsLost, own_numbers, lost_all}

cases : {P : Type 0} (b : Bool) → (b ≡ true → P) → (b ≡ false → P) → P
cases true t f = t refl
cases false t f = f refl

-- ---- one of a list
abbrev Has : {X : Type 0} → (X → Type 0) → List X → Type 0
Has P [] = ⊥
Has P (x ∷ xs) = P x ⊎ Has P xs

has_left : {X : Type 0} (P : X → Type 0) (xs ys : List X) → Has P xs → Has P (xs ++ ys)
has_left P [] ys has = absurd has
has_left P (x ∷ xs) ys (inl here) = inl here
has_left P (x ∷ xs) ys (inr later) = inr (has_left P xs ys later)

has_right : {X : Type 0} (P : X → Type 0) (xs ys : List X) → Has P ys → Has P (xs ++ ys)
has_right P [] ys has = has
has_right P (x ∷ xs) ys has = inr (has_right P xs ys has)

has_map : {X Y : Type 0} (P : Y → Type 0) (f : X → Y) (xs : List X) → Has (λ x. P (f x)) xs → Has P (map f xs)
has_map P f [] has = absurd has
has_map P f (x ∷ xs) (inl here) = inl here
has_map P f (x ∷ xs) (inr later) = inr (has_map P f xs later)

has_weaker : {X : Type 0} (P Q : X → Type 0) → ((x : X) → P x → Q x) → (xs : List X) → Has P xs → Has Q xs
has_weaker P Q so [] has = absurd has
has_weaker P Q so (x ∷ xs) (inl here) = inl (so x here)
has_weaker P Q so (x ∷ xs) (inr later) = inr (has_weaker P Q so xs later)

-- a test keeps it
has_kept : {X : Type 0} (P : X → Type 0) (keep : X → Bool) → ((x : X) → P x → keep x ≡ true) → (xs : List X) → Has P xs → Has P (filter keep xs)
has_kept P keep so [] has = absurd has
has_kept {X = X} P keep so (x ∷ xs) has = by (keep x) refl has (has_kept P keep so xs)
  where
    by : (b : Bool) → keep x ≡ b → P x ⊎ Has P xs → (Has P xs → Has P (filter keep xs)) → Has P (cond b (x ∷ filter keep xs) (filter keep xs))
    by true is (inl here) rest = inl here
    by true is (inr later) rest = inr (rest later)
    by false is (inl here) rest = absurd (true≢false (sym (so x here) ∙ is))
    by false is (inr later) rest = rest later

has_row : (n a k : ℕ) → a ≤ n → n < a + k → Has (λ m. m ≡ n) (range_with_len a k)
has_row n a zero low high = absurd (omega (arith, low, high))
has_row n a (suc k) low high = cases (nat_eq a n) (λ same. inl (eqb-true a n same)) (λ other. inr (has_row n (a + 1) k (further other) (omega (arith, high))))
  where
    further : nat_eq a n ≡ false → a + 1 ≤ n
    further other = cases (nat_lt a n) (λ less. low_by less) (λ more. absurd (same_by more))
      where
        low_by : nat_lt a n ≡ true → a + 1 ≤ n
        low_by less = let is : a < n = ltb-true a n less in omega (arith, is)

        same_by : nat_lt a n ≡ false → ⊥
        same_by more = let most : n ≤ a = ltb-false a n more in true≢false (sym (eq-eqb a n (omega (arith, low, most))) ∙ other)

-- no element passes a test
none_kept : {X : Type 0} (keep : X → Bool) (xs : List X) → AllByRecursion (λ x. keep x ≡ false) xs → filter keep xs ≡ []
none_kept keep [] all = refl
none_kept keep (x ∷ xs) all = (λ i. cond (all.0 i) (x ∷ none_kept keep xs all.1 i) (none_kept keep xs all.1 i))

-- ---- a chunk that was placed anew is held, and the others stay so
made_held : (target epoch : ℕ) (stripe : Stripe) → target < length stripe → holds (change_at target (λ chunk. record { placed = epoch; held = true }) stripe) target ≡ true
made_held target epoch [] within = absurd (omega (arith, within))
made_held zero epoch (x ∷ stripe) within = refl
made_held (suc target) epoch (x ∷ stripe) within = made_held target epoch stripe (omega (arith, within))

held_stays : (target j epoch : ℕ) (stripe : Stripe) → holds stripe j ≡ true → holds (change_at target (λ chunk. record { placed = epoch; held = true }) stripe) j ≡ true
held_stays target j epoch [] is = is
held_stays zero zero epoch (x ∷ stripe) is = refl
held_stays zero (suc j) epoch (x ∷ stripe) is = is
held_stays (suc target) zero epoch (x ∷ stripe) is = is
held_stays (suc target) (suc j) epoch (x ∷ stripe) is = held_stays target j epoch stripe is

-- ---- some chunks are made anew, one after another
module _ (g : Shape) (number : ℕ) where
  abbrev after : List LostChunk → State → List ℕ → State
  after chunks s taken = (fold (heal_one g) (s, taken) chunks).0

  -- the stripe when one of them was made anew
  here : (s : State) (c : LostChunk) → number_of g s c ≡ number →
      stripe_of (place_anew (number_of g s c) c.server s) number ≡ change_at c.server (λ chunk. record { placed = get_or s.epochs c.server 0; held = true }) (stripe_of s number)
  here s c is =
      sym (ap (λ n. get_or (change_at (number_of g s c) (change_at c.server (λ (chunk : Chunk). record { placed = get_or s.epochs c.server 0; held = true })) s.stripes) n []) is)
      ∙ changed_here (number_of g s c) (change_at c.server (λ (chunk : Chunk). record { placed = get_or s.epochs c.server 0; held = true })) refl s.stripes
      ∙ ap (λ n. change_at c.server (λ (chunk : Chunk). record { placed = get_or s.epochs c.server 0; held = true }) (get_or s.stripes n [])) is

  elsewhere : (s : State) (c : LostChunk) → (number_of g s c ≡ number → ⊥) → stripe_of (place_anew (number_of g s c) c.server s) number ≡ stripe_of s number
  elsewhere s c other =
      changed_elsewhere (number_of g s c) number (change_at c.server (λ (chunk : Chunk). record { placed = get_or s.epochs c.server 0; held = true })) [] s.stripes (λ same. other (sym same))

  -- none of them is of the stripe
  untouched : (chunks : List LostChunk) (s : State) (taken : List ℕ) → AllByRecursion (λ c. number_of g s c ≡ number → ⊥) chunks → stripe_of (after chunks s taken) number ≡ stripe_of s number
  untouched [] s taken all = refl
  untouched (c ∷ chunks) s taken all = untouched chunks (heal_one g (s, taken) c).0 (heal_one g (s, taken) c).1 all.1 ∙ elsewhere s c all.0

  either : {P : Type 0} (s : State) (c : LostChunk) → (number_of g s c ≡ number → P) → ((number_of g s c ≡ number → ⊥) → P) → P
  either s c its others = cases (nat_eq (number_of g s c) number) (λ same. its (eqb-true (number_of g s c) number same)) (λ other. others (λ same. true≢false (sym (eq-eqb (number_of g s c) number same) ∙ other)))

  -- a chunk that is held stays so
  one_held : (j : ℕ) (s : State) (c : LostChunk) → holds (stripe_of s number) j ≡ true → holds (stripe_of (place_anew (number_of g s c) c.server s) number) j ≡ true
  one_held j s c is =
      either s c
      (λ same. ap (λ stripe. holds stripe j) (here s c same) ∙ held_stays c.server j (get_or s.epochs c.server 0) (stripe_of s number) is)
      (λ other. ap (λ stripe. holds stripe j) (elsewhere s c other) ∙ is)

  still_held : (j : ℕ) (chunks : List LostChunk) (s : State) (taken : List ℕ) → holds (stripe_of s number) j ≡ true → holds (stripe_of (after chunks s taken) number) j ≡ true
  still_held j [] s taken is = is
  still_held j (c ∷ chunks) s taken is = still_held j chunks (heal_one g (s, taken) c).0 (heal_one g (s, taken) c).1 (one_held j s c is)

  same_length : (s : State) (c : LostChunk) → length (stripe_of (place_anew (number_of g s c) c.server s) number) ≡ length (stripe_of s number)
  same_length s c =
      either s c
      (λ same. ap (λ (l : Stripe). length l) (here s c same) ∙ changed_length c.server (λ (chunk : Chunk). record { placed = get_or s.epochs c.server 0; held = true }) (stripe_of s number))
      (λ other. ap (λ (l : Stripe). length l) (elsewhere s c other))

  -- one of them is held then
  made : (j : ℕ) (chunks : List LostChunk) (s : State) (taken : List ℕ) → j < length (stripe_of s number) → Has (λ c. (number_of g s c ≡ number) × (c.server ≡ j)) chunks → holds (stripe_of (after chunks s taken) number) j ≡ true
  made j [] s taken within has = absurd has
  made j (c ∷ chunks) s taken within (inl is) =
      still_held j chunks (heal_one g (s, taken) c).0 (heal_one g (s, taken) c).1
      (ap (λ stripe. holds stripe j) (here s c is.0)
      ∙ ap (λ n. holds (change_at n (λ (chunk : Chunk). record { placed = get_or s.epochs c.server 0; held = true }) (stripe_of s number)) j) is.1
      ∙ made_held j (get_or s.epochs c.server 0) (stripe_of s number) within)
  made j (c ∷ chunks) s taken within (inr later) =
      made j chunks (heal_one g (s, taken) c).0 (heal_one g (s, taken) c).1 (let same : length (stripe_of (place_anew (number_of g s c) c.server s) number) ≡ length (stripe_of s number) = same_length s c in omega (arith, within, same)) later

-- all else stays
rest_stays : (g : Shape) (chunks : List LostChunk) (s : State) (taken : List ℕ) → (fold (heal_one g) (s, taken) chunks).0 ≡ record s { stripes = (fold (heal_one g) (s, taken) chunks).0.stripes }
rest_stays g [] s taken = refl
rest_stays g (c ∷ chunks) s taken = rest_stays g chunks (heal_one g (s, taken) c).0 (heal_one g (s, taken) c).1

-- ---- a chunk that its server lacks is listed
module _ (g : Shape) (s : State) (number j : ℕ) (below : j < chunk_count g) (lacks : holds (stripe_of s number) j ≡ false) where
  abbrev of_stripe : List ℕ → ℕ × ℕ → List LostChunk
  of_stripe name numbered = map (λ server. record { name = name; stripe = numbered.0; server = server }) (lacking (get_or s.stripes numbered.1 []) (servers g))

  -- of an object from a place on
  abbrev IsIts : List ℕ → List ℕ → ℕ → LostChunk → Type 0
  IsIts name numbers start c = (c.name ≡ name) × (c.server ≡ j) × ((i : ℕ) × (c.stripe ≡ start + i) × (get_or numbers i 0 ≡ number))

  in_stripe : (name : List ℕ) (numbers : List ℕ) (start : ℕ) → Has (IsIts name (number ∷ numbers) start) (of_stripe name (start, number))
  in_stripe name numbers start =
      has_map (IsIts name (number ∷ numbers) start) (λ server. record { name = name; stripe = start; server = server }) (lacking (stripe_of s number) (servers g))
      (has_weaker (λ server. server ≡ j) (λ server. IsIts name (number ∷ numbers) start (record { name = name; stripe = start; server = server })) (λ server same. (refl, same, (0, omega arith, refl))) (lacking (stripe_of s number) (servers g))
      (has_kept (λ server. server ≡ j) (λ server. not (holds (stripe_of s number) server)) (λ server same. ap (λ n. not (holds (stripe_of s number) n)) same ∙ ap not lacks) (servers g) (has_row j 0 (chunk_count g) (omega arith) (omega (arith, below)))))

  further : (name : List ℕ) (n : ℕ) (numbers : List ℕ) (start : ℕ) (c : LostChunk) → IsIts name numbers (start + 1) c → IsIts name (n ∷ numbers) start c
  further name n numbers start c is = (is.0, is.1, (suc is.2.0, (let at : c.stripe ≡ start + 1 + is.2.0 = is.2.1 in omega (arith, at)), is.2.2))

  in_object : (name : List ℕ) (numbers : List ℕ) (start : ℕ) → is_among number numbers ≡ true → Has (IsIts name numbers start) (flat_map (of_stripe name) (enumerate_from start numbers))
  in_object name [] start among = absurd (true≢false (sym among))
  in_object name (n ∷ numbers) start among = by (or_cases (nat_eq number n) (is_among number numbers) among) (in_object name numbers (start + 1))
    where
      by : (nat_eq number n ≡ true) ⊎ (is_among number numbers ≡ true) → (is_among number numbers ≡ true → Has (IsIts name numbers (start + 1)) (flat_map (of_stripe name) (enumerate_from (start + 1) numbers))) →
          Has (IsIts name (n ∷ numbers) start) (of_stripe name (start, n) ++ flat_map (of_stripe name) (enumerate_from (start + 1) numbers))
      by (inl same) rest =
          has_left (IsIts name (n ∷ numbers) start) (of_stripe name (start, n)) (flat_map (of_stripe name) (enumerate_from (start + 1) numbers))
          (subst (λ m. Has (IsIts name (m ∷ numbers) start) (of_stripe name (start, m))) (eqb-true number n same) (in_stripe name numbers start))
      by (inr later) rest =
          has_right (IsIts name (n ∷ numbers) start) (of_stripe name (start, n)) (flat_map (of_stripe name) (enumerate_from (start + 1) numbers))
          (has_weaker (IsIts name numbers (start + 1)) (IsIts name (n ∷ numbers) start) (further name n numbers start) (flat_map (of_stripe name) (enumerate_from (start + 1) numbers)) (rest later))

  -- of all objects, each of which is found by its name
  abbrev IsOne : LostChunk → Type 0
  IsOne c = (number_of g s c ≡ number) × (c.server ≡ j)

  abbrev of_object : List ℕ × List ℕ → List LostChunk
  of_object object = flat_map (of_stripe object.0) (enumerate_from 0 object.1)

  its_one : (object : List ℕ × List ℕ) → bytes_of object.0 s.numbers ≡ Some object.1 → (c : LostChunk) → IsIts object.0 object.1 0 c → IsOne c
  its_one object found c is = (
    ap (λ name. get_or (unwrap_or (bytes_of name s.numbers) []) c.stripe 0) is.0 ∙ ap (λ f. get_or (unwrap_or f []) c.stripe 0) found
        ∙ ap (λ n. get_or object.1 n 0) (let at : c.stripe ≡ 0 + is.2.0 = is.2.1 in let same : c.stripe ≡ is.2.0 = omega (arith, at) in same) ∙ is.2.2,
    is.1,
  )

  in_objects : (objects : List (List ℕ × List ℕ)) → AllByRecursion (λ object. bytes_of object.0 s.numbers ≡ Some object.1) objects → is_among number (all_numbers objects) ≡ true → Has IsOne (flat_map of_object objects)
  in_objects [] all among = absurd (true≢false (sym among))
  in_objects (object ∷ objects) all among = by (or_cases (is_among number object.1) (is_among number (all_numbers objects)) (sym (among_append number object.1 (all_numbers objects)) ∙ among)) (in_objects objects all.1)
    where
      by : (is_among number object.1 ≡ true) ⊎ (is_among number (all_numbers objects) ≡ true) → (is_among number (all_numbers objects) ≡ true → Has IsOne (flat_map of_object objects)) → Has IsOne (of_object object ++ flat_map of_object objects)
      by (inl its) rest =
          has_left IsOne (of_object object) (flat_map of_object objects)
          (has_weaker (IsIts object.0 object.1 0) IsOne (its_one object all.0) (of_object object) (in_object object.0 object.1 0 its))
      by (inr later) rest = has_right IsOne (of_object object) (flat_map of_object objects) (rest later)

  pub is_listed : IsDistinct bytes_eq (names_of s.numbers) → is_among number (all_numbers s.numbers) ≡ true → Has IsOne (lost_chunks g s)
  is_listed names among = in_objects s.numbers (own_numbers s.numbers names) among

-- ---- a number that is found by a name is an object's
at_place : (numbers : List ℕ) (i : ℕ) → i < length numbers → is_among (get_or numbers i 0) numbers ≡ true
at_place [] i within = absurd (omega (arith, within))
at_place (n ∷ numbers) zero within = or_left (nat_eq n n) (is_among n numbers) (eq-eqb n n refl)
at_place (n ∷ numbers) (suc i) within = or_right (nat_eq (get_or numbers i 0) n) (is_among (get_or numbers i 0) numbers) (at_place numbers i (omega (arith, within)))

under_name : (name : List ℕ) (numbers : List ℕ) (n : ℕ) (objects : List (List ℕ × List ℕ)) → bytes_of name objects ≡ Some numbers → is_among n numbers ≡ true → is_among n (all_numbers objects) ≡ true
under_name name numbers n [] found among = absurd (none-some numbers found)
under_name name numbers n (object ∷ objects) found among = by (bytes_eq name object.0) found (under_name name numbers n objects)
  where
    by : (b : Bool) → cond b (Some object.1) (bytes_of name objects) ≡ Some numbers → (bytes_of name objects ≡ Some numbers → is_among n numbers ≡ true → is_among n (all_numbers objects) ≡ true) → is_among n (object.1 ++ all_numbers objects) ≡ true
    by true is rest =
        among_append n object.1 (all_numbers objects)
        ∙ or_left (is_among n object.1) (is_among n (all_numbers objects)) (ap (is_among n) (same_Some object.1 numbers is) ∙ among)
    by false is rest = among_append n object.1 (all_numbers objects) ∙ or_right (is_among n object.1) (is_among n (all_numbers objects)) (rest is among)

module _ (g : Shape) (max : ℕ) (stands : List ℕ) (p : Places) (s : State) (h : IsSeenAs g max stands p s) (number : ℕ) where
  abbrev stripe : Stripe
  stripe = stripe_of s number

  abbrev fixable : LostChunk → Bool
  fixable chunk = not (is_beyond_repair g (get_or s.stripes (number_of g s chunk) []))

  abbrev now : Stripe
  now = stripe_of (heal_all g (to_heal g s) s).0 number

  -- a stripe of an object has a chunk at each server
  all_chunks : is_among number (all_numbers s.numbers) ≡ true → length stripe ≡ chunk_count g
  all_chunks among =
      let its : StandsFor p stripe (version_of stands number) = h.stripes number (among_append number (all_numbers s.numbers) (snapshot_numbers s.snapshot) ∙ or_left (is_among number (all_numbers s.numbers)) (is_among number (snapshot_numbers s.snapshot)) among) in
      sym (length-map stripe (λ (chunk : Chunk). chunk.held)) ∙ sym (ap length its.held) ∙ length-map p.servers (λ (one : Server). is_among (version_of stands number) one.held) ∙ h.servers

  held_then : CanBeRestored g s number → (j : ℕ) → j < chunk_count g → holds now j ≡ true
  held_then can j below = cases (holds stripe j) (still_held g number j (to_heal g s) s (replicate (chunk_count g) 0)) anew
    where
      few : is_beyond_repair g stripe ≡ false
      few = le-ltb g.parity_count (length (lacking stripe (servers g))) can.1

      kept : (c : LostChunk) → (number_of g s c ≡ number) × (c.server ≡ j) → fixable c ≡ true
      kept c is = ap (λ n. not (is_beyond_repair g (get_or s.stripes n []))) is.0 ∙ ap not few

      anew : holds stripe j ≡ false → holds now j ≡ true
      anew lacks =
          made g number j (to_heal g s) s (replicate (chunk_count g) 0) (let all : length stripe ≡ chunk_count g = all_chunks can.0 in omega (arith, below, all))
          (has_kept (λ c. (number_of g s c ≡ number) × (c.server ≡ j)) fixable kept (lost_chunks g s) (is_listed g s number j below lacks h.names can.0))

  pub whole_then : CanBeRestored g s number → lacking now (servers g) ≡ []
  whole_then can =
      none_kept (λ server. not (holds now server)) (servers g)
      (every_weaker (λ server. server < chunk_count g) (λ server. not (holds now server) ≡ false) (λ server below. ap not (held_then can server below)) (servers g) (row_less 0 (chunk_count g) (chunk_count g) (omega arith)))

  -- no chunk of another stripe is made anew
  pub others_stay : (CanBeRestored g s number → ⊥) → now ≡ stripe
  others_stay cannot =
      untouched g number (to_heal g s) s (replicate (chunk_count g) 0)
      (every_weaker (λ c. IsLost g s h.names c × (fixable c ≡ true)) (λ c. number_of g s c ≡ number → ⊥) other (to_heal g s)
      (every_both (IsLost g s h.names) (λ c. fixable c ≡ true) (to_heal g s) (every_filter (IsLost g s h.names) fixable (lost_chunks g s) (lost_all g s h.names)) (every_kept fixable (lost_chunks g s))))
    where
      other : (c : LostChunk) → IsLost g s h.names c × (fixable c ≡ true) → number_of g s c ≡ number → ⊥
      other c (lost, can) same =
          let its : get_or lost.numbers c.stripe 0 ≡ number = sym (ap (λ found. get_or (unwrap_or found []) c.stripe 0) lost.of_name) ∙ same in
          let among : is_among number (all_numbers s.numbers) ≡ true = under_name c.name lost.numbers number s.numbers lost.of_name (sym (ap (λ n. is_among n lost.numbers) its) ∙ at_place lost.numbers c.stripe lost.within) in
          cannot (among, ltb-false g.parity_count (length (lacking stripe (servers g))) (cases (is_beyond_repair g stripe) (λ beyond. absurd (true≢false (sym (sym (ap (λ n. not (is_beyond_repair g (get_or s.stripes n []))) same) ∙ can) ∙ ap not beyond))) (λ few. few)))

-- ---- the heal
pub heals_restore_stripes : HealsRestoreStripes
heals_restore_stripes g max stands p s h last =
    subst (λ (served : State × Answer). IsRestored g s served.0)
    (sym (ap (λ b. let served : State × Answer = if b then (record ((heal_all g (to_heal g s) s).0) { next = s.next + length (to_heal g s) }, Answer.Healed (length (to_heal g s)) (heal_all g (to_heal g s) s).1) else (s, Answer.BadRequest) in served) last))
    (record {
      whole = whole_then g max stands p s h;
      others = others_stay g max stands p s h;
      rest = ap (λ (t : State). let then_state : State = record t { next = s.next + length (to_heal g s) } in then_state) (rest_stays g (to_heal g s) s (replicate (chunk_count g) 0));
    })

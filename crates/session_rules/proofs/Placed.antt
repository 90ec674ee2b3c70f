-- What a commit leaves of versions, servers and names, as lists.
use Rattle.std.proofs.Common.{◌≡◌, ◌⊎◌, ℕ, zero, suc, ◌<◌, nat_eq, nat_lt, Bool, true, false, ◌||◌, List, [], ◌∷◌, ◌++◌, length, map, replicate, zip, slice_get, flat_map, bytes_eq, refl, sym, ap, subst, ◌∙◌, inl, inr, arith, if◌then◌else◌}
use Rattle.std.proofs.lemmas.Bool.{eq-eqb, eqb-true, true≢false, or_left, or_right, or_cases}
use Rattle.std.proofs.lemmas.Simd.{map-map}
use Rattle.store_map.specs.PlainMap.{Objects, put}
use Rattle.store_map.specs.declared.placement.Placement.{Placement}
use Rattle.store_core.specs.Lists.{change_at, is_among}
use Rattle.store_core.specs.Directory.{Object, Standing, Version}
use Rattle.store_core.specs.Look.{placed_of, set_standing}
use Rattle.store_core.specs.Commit.{put_object, place_all}
use Rattle.store_core.specs.Server.{Server, hold}
use Rattle.run_laws.proofs.SoundHistory.{same_name}
use Rattle.session_rules.specs.Puts.{with_version, holding}
use Rattle.session_rules.proofs.Lists.{changed_length}
use Rattle.session_rules.proofs.Counting.{among_append}

cases : {P : Type 0} (b : Bool) → (b ≡ true → P) → (b ≡ false → P) → P
cases true t f = t refl
cases false t f = f refl

-- ---- held versions
pub among_hold : (w v : ℕ) (held : List ℕ) → is_among w (hold v held) ≡ (nat_eq w v || is_among w held)
among_hold w v [] = refl
among_hold w v (o ∷ held) = by (nat_lt v o) (nat_eq v o) refl (among_hold w v held)
  where
    swap : (a b c : Bool) → (a || (b || c)) ≡ (b || (a || c))
    swap true true c = refl
    swap true false c = refl
    swap false b c = refl

    twice : (a c : Bool) → (a || c) ≡ (a || (a || c))
    twice true c = refl
    twice false c = refl

    by : (b c : Bool) → nat_eq v o ≡ c → is_among w (hold v held) ≡ (nat_eq w v || is_among w held) →
        is_among w (if b then v ∷ o ∷ held else (if c then o ∷ held else o ∷ hold v held)) ≡ (nat_eq w v || (nat_eq w o || is_among w held))
    by true c e rest = refl
    by false true e rest = twice (nat_eq w o) (is_among w held) ∙ ap (λ n. nat_eq w n || (nat_eq w o || is_among w held)) (sym (eqb-true v o e))
    by false false e rest = ap (λ b. nat_eq w o || b) rest ∙ swap (nat_eq w o) (nat_eq w v) (is_among w held)

map_same : {X Y : Type 0} (f k : X → Y) → ((x : X) → f x ≡ k x) → (xs : List X) → map f xs ≡ map k xs
map_same f k same [] = refl
map_same {Y = Y} f k same (x ∷ xs) = ap (λ y. y ∷ map f xs) (same x) ∙ ap (λ ys. k x ∷ ys) (map_same f k same xs)

-- who holds a version after some were prepared everywhere
pub held_by : (w : ℕ) (vs : List ℕ) (servers : List Server) → map (λ s. is_among w s.held) (holding vs servers) ≡ map (λ s. is_among w vs || is_among w s.held) servers
held_by w [] servers = refl
held_by w (v ∷ later) servers =
    held_by w later (map (with_version v) servers)
    ∙ map-map (λ (s : Server). is_among w later || is_among w s.held) (with_version v) servers
    ∙ map_same (λ (s : Server). is_among w later || is_among w (hold v s.held)) (λ s. is_among w (v ∷ later) || is_among w s.held) one servers
  where
    swap : (a b c : Bool) → (a || (b || c)) ≡ ((b || a) || c)
    swap true true c = refl
    swap true false c = refl
    swap false true c = refl
    swap false false c = refl

    one : (s : Server) → (is_among w later || is_among w (hold v s.held)) ≡ ((nat_eq w v || is_among w later) || is_among w s.held)
    one s = ap (λ b. is_among w later || b) (among_hold w v s.held) ∙ swap (is_among w later) (nat_eq w v) (is_among w s.held)

pub holding_same : {X : Type 0} (f : Server → X) → ((v : ℕ) (s : Server) → f (with_version v s) ≡ f s) → (vs : List ℕ) (servers : List Server) → map f (holding vs servers) ≡ map f servers
holding_same f same [] servers = refl
holding_same f same (v ∷ later) servers =
    holding_same f same later (map (with_version v) servers) ∙ map-map f (with_version v) servers ∙ map_same (λ s. f (with_version v s)) f (same v) servers

-- ---- versions
pub placed_changed : (n : ℕ) (f : Version → Version) → ((x : Version) → (f x).placed ≡ x.placed) → (vs : List Version) (v : ℕ) → placed_of (slice_get (change_at n f vs) v) ≡ placed_of (slice_get vs v)
placed_changed n f same [] v = refl
placed_changed zero f same (x ∷ vs) zero = same x
placed_changed zero f same (x ∷ vs) (suc v) = refl
placed_changed (suc n) f same (x ∷ vs) zero = refl
placed_changed (suc n) f same (x ∷ vs) (suc v) = placed_changed n f same vs v

pub placed_kept : (standing : Standing) (ns : List ℕ) (vs : List Version) (v : ℕ) → placed_of (slice_get (set_standing standing ns vs) v) ≡ placed_of (slice_get vs v)
placed_kept standing [] vs v = refl
placed_kept standing (n ∷ ns) vs v =
    placed_kept standing ns (change_at n (λ version. record version { standing = standing }) vs) v ∙ placed_changed n (λ version. record version { standing = standing }) (λ x. refl) vs v

-- the drawn versions, each with this row
abbrev pub place_rows : List Placement → List ℕ → List Version → List Version
place_rows row drawn vs = place_all (zip drawn (replicate (length drawn) row)) vs

pub slice_other : (n : ℕ) (f : Version → Version) (vs : List Version) (v : ℕ) → (v ≡ n → ⊥) → slice_get (change_at n f vs) v ≡ slice_get vs v
slice_other n f [] v e = refl
slice_other zero f (x ∷ vs) zero e = absurd (e refl)
slice_other zero f (x ∷ vs) (suc v) e = refl
slice_other (suc n) f (x ∷ vs) zero e = refl
slice_other (suc n) f (x ∷ vs) (suc v) e = slice_other n f vs v (λ same. e (ap suc same))

slice_same : (n : ℕ) (f : Version → Version) (row : List Placement) → ((x : Version) → (f x).placed ≡ row) → (vs : List Version) → n < length vs → placed_of (slice_get (change_at n f vs) n) ≡ row
slice_same n f row same [] h = absurd (omega (arith, h))
slice_same zero f row same (x ∷ vs) h = same x
slice_same (suc n) f row same (x ∷ vs) h = slice_same n f row same vs (omega (arith, h))

pub placed_out : (row : List Placement) (drawn : List ℕ) (vs : List Version) (v : ℕ) → is_among v drawn ≡ false → placed_of (slice_get (place_rows row drawn vs) v) ≡ placed_of (slice_get vs v)
placed_out row [] vs v e = refl
placed_out row (n ∷ drawn) vs v e = by (placed_out row drawn (change_at n (λ version. record version { placed = row; standing = Standing.Current }) vs) v) (nat_eq v n) refl e
  where
    by : (is_among v drawn ≡ false → placed_of (slice_get (place_rows row drawn (change_at n (λ version. record version { placed = row; standing = Standing.Current }) vs)) v) ≡ placed_of (slice_get (change_at n (λ version. record version { placed = row; standing = Standing.Current }) vs) v)) →
        (b : Bool) → nat_eq v n ≡ b → (b || is_among v drawn) ≡ false →
        placed_of (slice_get (place_rows row drawn (change_at n (λ version. record version { placed = row; standing = Standing.Current }) vs)) v) ≡ placed_of (slice_get vs v)
    by rest true same e = absurd (true≢false e)
    by rest false same e = rest e ∙ ap placed_of (slice_other n (λ version. record version { placed = row; standing = Standing.Current }) vs v (λ alike. true≢false (sym (eq-eqb v n alike) ∙ same)))

pub placed_in : (row : List Placement) (drawn : List ℕ) (vs : List Version) (v : ℕ) → is_among v drawn ≡ true → v < length vs → placed_of (slice_get (place_rows row drawn vs) v) ≡ row
placed_in row [] vs v e h = absurd (true≢false (sym e))
placed_in row (n ∷ drawn) vs v e h = cases (is_among v drawn) (among (placed_in row drawn (change_at n (λ version. record version { placed = row; standing = Standing.Current }) vs) v)) alone
  where
    among : (is_among v drawn ≡ true → v < length (change_at n (λ version. record version { placed = row; standing = Standing.Current }) vs) → placed_of (slice_get (place_rows row drawn (change_at n (λ version. record version { placed = row; standing = Standing.Current }) vs)) v) ≡ row) →
        is_among v drawn ≡ true → placed_of (slice_get (place_rows row drawn (change_at n (λ version. record version { placed = row; standing = Standing.Current }) vs)) v) ≡ row
    among rest t = let same : length (change_at n (λ version. record version { placed = row; standing = Standing.Current }) vs) ≡ length vs = changed_length n (λ version. record version { placed = row; standing = Standing.Current }) vs in rest t (omega (arith, h, same))

    alone : is_among v drawn ≡ false → placed_of (slice_get (place_rows row drawn (change_at n (λ version. record version { placed = row; standing = Standing.Current }) vs)) v) ≡ row
    alone f =
        let mine : v ≡ n = eqb-true v n (cases (nat_eq v n) (λ t. t) (λ o. absurd (true≢false (sym e ∙ ap (λ b. b || is_among v drawn) o ∙ f)))) in
        placed_out row drawn (change_at n (λ version. record version { placed = row; standing = Standing.Current }) vs) v f
        ∙ ap (λ k. placed_of (slice_get (change_at n (λ version. record version { placed = row; standing = Standing.Current }) vs) k)) mine
        ∙ slice_same n (λ version. record version { placed = row; standing = Standing.Current }) row (λ x. refl) vs (subst (λ k. k < length vs) mine h)

pub slice_left : (vs news : List Version) (v : ℕ) → v < length vs → slice_get (vs ++ news) v ≡ slice_get vs v
slice_left [] news v h = absurd (omega (arith, h))
slice_left (x ∷ vs) news zero h = refl
slice_left (x ∷ vs) news (suc v) h = slice_left vs news v (omega (arith, h))

-- ---- names
abbrev pub put_under : {X : Type 0} → List ℕ → X → List (List ℕ × X) → List (List ℕ × X)
put_under name x [] = (name, x) ∷ []
put_under name x (pair ∷ pairs) = if bytes_eq name pair.0 then (pair.0, x) ∷ pairs else pair ∷ put_under name x pairs

pub put_objects_under : {X : Type 0} (f : Object → X) (new : Object) (objects : List Object) →
    map (λ object. let pair : List ℕ × X = (object.name, f object) in pair) (put_object new objects)
    ≡ put_under new.name (f new) (map (λ object. let pair : List ℕ × X = (object.name, f object) in pair) objects)
put_objects_under f new [] = refl
put_objects_under {X = X} f new (other ∷ objects) = by (bytes_eq new.name other.name) refl (put_objects_under f new objects)
  where
    by : (b : Bool) → bytes_eq new.name other.name ≡ b →
        map (λ object. let pair : List ℕ × X = (object.name, f object) in pair) (put_object new objects) ≡ put_under new.name (f new) (map (λ object. let pair : List ℕ × X = (object.name, f object) in pair) objects) →
        map (λ object. let pair : List ℕ × X = (object.name, f object) in pair) (if b then new ∷ objects else other ∷ put_object new objects)
        ≡ (if b then (other.name, f new) ∷ map (λ object. let pair : List ℕ × X = (object.name, f object) in pair) objects else (other.name, f other) ∷ put_under new.name (f new) (map (λ object. let pair : List ℕ × X = (object.name, f object) in pair) objects))
    by true e rest = ap (λ name. let pair : List ℕ × X = (name, f new) in pair ∷ map (λ object. let pair : List ℕ × X = (object.name, f object) in pair) objects) (same_name new.name other.name e)
    by false e rest = ap (λ pairs. let pair : List ℕ × X = (other.name, f other) in pair ∷ pairs) rest

pub put_map_under : {X : Type 0} (f : List ℕ → X) (name bytes : List ℕ) (objects : Objects) →
    map (λ object. let pair : List ℕ × X = (object.0, f object.1) in pair) (put name bytes objects)
    ≡ put_under name (f bytes) (map (λ object. let pair : List ℕ × X = (object.0, f object.1) in pair) objects)
put_map_under f name bytes [] = refl
put_map_under {X = X} f name bytes (other ∷ objects) = by (bytes_eq name other.0) (put_map_under f name bytes objects)
  where
    by : (b : Bool) →
        map (λ object. let pair : List ℕ × X = (object.0, f object.1) in pair) (put name bytes objects) ≡ put_under name (f bytes) (map (λ object. let pair : List ℕ × X = (object.0, f object.1) in pair) objects) →
        map (λ object. let pair : List ℕ × X = (object.0, f object.1) in pair) (if b then (other.0, bytes) ∷ objects else other ∷ put name bytes objects)
        ≡ (if b then (other.0, f bytes) ∷ map (λ object. let pair : List ℕ × X = (object.0, f object.1) in pair) objects else (other.0, f other.1) ∷ put_under name (f bytes) (map (λ object. let pair : List ℕ × X = (object.0, f object.1) in pair) objects))
    by true rest = refl
    by false rest = ap (λ pairs. let pair : List ℕ × X = (other.0, f other.1) in pair ∷ pairs) rest

-- a number of the objects after a put is new, or was there
pub among_put : (n : ℕ) (name new : List ℕ) (objects : Objects) → is_among n (flat_map (λ object. object.1) (put name new objects)) ≡ true →
    (is_among n new ≡ true) ⊎ (is_among n (flat_map (λ object. object.1) objects) ≡ true)
among_put n name new [] e = inl (cases (is_among n new) (λ t. t) (λ f. absurd (true≢false (sym e ∙ among_append n new [] ∙ ap (λ b. b || false) f))))
among_put n name new (other ∷ objects) e = by (bytes_eq name other.0) e (among_put n name new objects)
  where
    in_rest : is_among n (flat_map (λ object. object.1) objects) ≡ true → is_among n (other.1 ++ flat_map (λ object. object.1) objects) ≡ true
    in_rest t = among_append n other.1 (flat_map (λ object. object.1) objects) ∙ or_right (is_among n other.1) (is_among n (flat_map (λ object. object.1) objects)) t

    either : (is_among n new ≡ true) ⊎ (is_among n (flat_map (λ object. object.1) objects) ≡ true) → (is_among n new ≡ true) ⊎ (is_among n (other.1 ++ flat_map (λ object. object.1) objects) ≡ true)
    either (inl t) = inl t
    either (inr t) = inr (in_rest t)

    kept : (is_among n other.1 ≡ true) ⊎ (is_among n (flat_map (λ object. object.1) (put name new objects)) ≡ true) →
        (is_among n (flat_map (λ object. object.1) (put name new objects)) ≡ true → (is_among n new ≡ true) ⊎ (is_among n (flat_map (λ object. object.1) objects) ≡ true)) →
        (is_among n new ≡ true) ⊎ (is_among n (other.1 ++ flat_map (λ object. object.1) objects) ≡ true)
    kept (inl t) rest = inr (among_append n other.1 (flat_map (λ object. object.1) objects) ∙ or_left (is_among n other.1) (is_among n (flat_map (λ object. object.1) objects)) t)
    kept (inr t) rest = either (rest t)

    by : (b : Bool) → is_among n (flat_map (λ (object : List ℕ × List ℕ). object.1) (if b then (other.0, new) ∷ objects else other ∷ put name new objects)) ≡ true →
        (is_among n (flat_map (λ object. object.1) (put name new objects)) ≡ true → (is_among n new ≡ true) ⊎ (is_among n (flat_map (λ object. object.1) objects) ≡ true)) →
        (is_among n new ≡ true) ⊎ (is_among n (other.1 ++ flat_map (λ object. object.1) objects) ≡ true)
    by true e rest = either (or_cases (is_among n new) (is_among n (flat_map (λ object. object.1) objects)) (sym (among_append n new (flat_map (λ object. object.1) objects)) ∙ e))
    by false e rest = kept (or_cases (is_among n other.1) (is_among n (flat_map (λ object. object.1) (put name new objects))) (sym (among_append n other.1 (flat_map (λ object. object.1) (put name new objects))) ∙ e)) rest

-- names of numbers that are read alike
pub alike_under : (f k : ℕ → ℕ) (objects : Objects) → ((n : ℕ) → is_among n (flat_map (λ object. object.1) objects) ≡ true → f n ≡ k n) →
    map (λ object. let pair : List ℕ × List ℕ = (object.0, map f object.1) in pair) objects ≡ map (λ object. let pair : List ℕ × List ℕ = (object.0, map k object.1) in pair) objects
alike_under f k [] same = refl
alike_under f k (object ∷ objects) same = by (alike_under f k objects (λ n e. same n (among_append n object.1 (flat_map (λ object. object.1) objects) ∙ or_right (is_among n object.1) (is_among n (flat_map (λ object. object.1) objects)) e)))
  where
    numbers : (ns : List ℕ) → ((n : ℕ) → is_among n ns ≡ true → f n ≡ k n) → map f ns ≡ map k ns
    numbers [] same = refl
    numbers (n ∷ ns) same = ap (λ m. m ∷ map f ns) (same n (or_left _ _ (eq-eqb n n refl))) ∙ ap (λ ms. k n ∷ ms) (numbers ns (λ m e. same m (or_right _ _ e)))

    by : map (λ object. let pair : List ℕ × List ℕ = (object.0, map f object.1) in pair) objects ≡ map (λ object. let pair : List ℕ × List ℕ = (object.0, map k object.1) in pair) objects →
        (let pair : List ℕ × List ℕ = (object.0, map f object.1) in pair ∷ map (λ object. let pair : List ℕ × List ℕ = (object.0, map f object.1) in pair) objects)
        ≡ (let pair : List ℕ × List ℕ = (object.0, map k object.1) in pair ∷ map (λ object. let pair : List ℕ × List ℕ = (object.0, map k object.1) in pair) objects)
    by rest =
        ap (λ ns. let pair : List ℕ × List ℕ = (object.0, ns) in pair ∷ map (λ object. let pair : List ℕ × List ℕ = (object.0, map f object.1) in pair) objects)
        (numbers object.1 (λ n e. same n (among_append n object.1 (flat_map (λ object. object.1) objects) ∙ or_left (is_among n object.1) (is_among n (flat_map (λ object. object.1) objects)) e)))
        ∙ ap (λ l. let pair : List ℕ × List ℕ = (object.0, map k object.1) in pair ∷ l) rest

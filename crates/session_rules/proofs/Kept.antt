-- Versions that servers may hold between requests: which steps keep them so.
use Rattle.std.proofs.Common.{◌≡◌, ◌⊎◌, ℕ, zero, suc, ◌+◌, ◌*◌, ◌<◌, ◌≤◌, nat_eq, nat_lt, Bool, true, false, not, ◌&&◌, ◌||◌, cond, List, [], ◌∷◌, ◌++◌, length, map, filter, find, flat_map, replicate, slice_get, Option, None, Some, All, IfSome, IsTrue, refl, sym, ap, subst, subst₂, ◌∙◌, inl, inr, arith, if◌then◌else◌}
use Rattle.std.specs.List.{range_with_len, list_any}
use Rattle.std.proofs.lemmas.List.{append-nil}
use Rattle.std.proofs.lemmas.Bool.{true≢false, and_parts, or_left, or_right, or_cases, eq-eqb, eqb-true}
use Rattle.std.proofs.lemmas.Option.{none-some}
use Rattle.std.proofs.lemmas.List.Elements.{All-cons}
use Rattle.store_map.specs.declared.placement.Placement.{Placement}
use Rattle.store_core.specs.Lists.{change_at, is_among}
use Rattle.store_core.specs.Directory.{Standing, Version, Pin, Pass, Directory}
use Rattle.store_core.specs.Lookups.{is_live, holds_standing}
use Rattle.store_core.specs.Look.{set_standing}
use Rattle.store_core.specs.SoundPasses.{Stands, IsLive}
use Rattle.store_core.specs.Server.{Server, hold}
use Rattle.session_rules.specs.Seen.{IsAtRest}
use Rattle.session_rules.specs.Puts.{with_version, holding}
use Rattle.session_rules.specs.Quiet.{is_kept_standing}
use Rattle.session_rules.proofs.Lists.{all_head, all_tail, all_changed, changed_length}
use Rattle.session_rules.proofs.Writes.{changed_seam}
use Rattle.session_rules.proofs.Placed.{place_rows}
use Rattle.session_rules.proofs.Quiet.{all_map, pins_it}

-- ---- lists
none_all : {X : Type 0} (P : X → Type 0) → All P []
none_all P = λ k d less. absurd (omega (arith, less))

pub all_snoc : {X : Type 0} (P : X → Type 0) (xs : List X) (x : X) → All P xs → P x → All P (xs ++ x ∷ [])
all_snoc P [] x all here = All-cons P x [] here (none_all P)
all_snoc P (y ∷ xs) x all here = All-cons P y (xs ++ x ∷ []) (all_head P y xs all) (all_snoc P xs x (all_tail P y xs all) here)

pub all_among : (P : ℕ → Type 0) (xs : List ℕ) → ((n : ℕ) → is_among n xs ≡ true → P n) → All P xs
all_among P [] each = none_all P
all_among P (x ∷ xs) each = All-cons P x xs (each x (or_left _ _ (eq-eqb x x refl))) (all_among P xs (λ n e. each n (or_right _ _ e)))

pub all_hold : (P : ℕ → Type 0) (v : ℕ) (held : List ℕ) → P v → All P held → All P (hold v held)
all_hold P v [] here all = All-cons P v [] here (none_all P)
all_hold P v (o ∷ held) here all = by (nat_lt v o) (nat_eq v o) (all_hold P v held here (all_tail P o held all))
  where
    by : (b c : Bool) → All P (hold v held) → All P (if b then v ∷ o ∷ held else (if c then o ∷ held else o ∷ hold v held))
    by true c rest = All-cons P v (o ∷ held) here all
    by false true rest = all
    by false false rest = All-cons P o (hold v held) (all_head P o held all) rest

pub all_holding : (P : ℕ → Type 0) (versions : List ℕ) (servers : List Server) → All P versions → All (λ server. All P server.held) servers → All (λ server. All P server.held) (holding versions servers)
all_holding P [] servers new all = all
all_holding P (v ∷ later) servers new all =
    all_holding P later (map (with_version v) servers) (all_tail P v later new)
    (all_map (λ (server : Server). All P server.held) (λ (server : Server). All P server.held) (with_version v) (λ one held. all_hold P v one.held (all_head P v later new) held) servers all)

pub map_alike : (f k : ℕ → ℕ) (ns : List ℕ) → ((n : ℕ) → is_among n ns ≡ true → f n ≡ k n) → map f ns ≡ map k ns
map_alike f k [] same = refl
map_alike f k (n ∷ ns) same = ap (λ m. m ∷ map f ns) (same n (or_left _ _ (eq-eqb n n refl))) ∙ ap (λ ms. k n ∷ ms) (map_alike f k ns (λ m e. same m (or_right _ _ e)))

pub among_mapped : (f : ℕ → ℕ) (v : ℕ) (ns : List ℕ) → is_among v (map f ns) ≡ true → (n : ℕ) × (is_among n ns ≡ true) × (f n ≡ v)
among_mapped f v [] e = absurd (true≢false (sym e))
among_mapped f v (n ∷ ns) e = by (or_cases (nat_eq v (f n)) (is_among v (map f ns)) e) (among_mapped f v ns)
  where
    by : (nat_eq v (f n) ≡ true) ⊎ (is_among v (map f ns) ≡ true) → (is_among v (map f ns) ≡ true → (m : ℕ) × (is_among m ns ≡ true) × (f m ≡ v)) → (m : ℕ) × (is_among m (n ∷ ns) ≡ true) × (f m ≡ v)
    by (inl here) rest = (n, or_left _ _ (eq-eqb n n refl), sym (eqb-true v (f n) here))
    by (inr later) rest = let r : (m : ℕ) × (is_among m ns ≡ true) × (f m ≡ v) = rest later in (r.0, or_right _ _ r.1, r.2)

-- ---- versions that are kept, and those at rest
abbrev pub KeptAt : List Version → ℕ → Type 0
KeptAt versions v = holds_standing is_kept_standing (slice_get versions v) ≡ true

abbrev superseded_now : Version → Version
superseded_now version = record version { standing = Standing.Superseded }

abbrev placed_now : List Placement → Version → Version
placed_now row version = record version { placed = row; standing = Standing.Current }

kept_changed : (f : Version → Version) → ((x : Version) → is_kept_standing (f x).standing ≡ true) → (n v : ℕ) (versions : List Version) → KeptAt versions v → KeptAt (change_at n f versions) v
kept_changed f right n v [] k = k
kept_changed f right zero zero (x ∷ xs) k = right x
kept_changed f right zero (suc v) (x ∷ xs) k = k
kept_changed f right (suc n) zero (x ∷ xs) k = k
kept_changed f right (suc n) (suc v) (x ∷ xs) k = kept_changed f right n v xs k

pub kept_there : (f : Version → Version) → ((x : Version) → is_kept_standing (f x).standing ≡ true) → (n : ℕ) (versions : List Version) → n < length versions → KeptAt (change_at n f versions) n
kept_there f right n [] less = absurd (omega (arith, less))
kept_there f right zero (x ∷ xs) less = right x
kept_there f right (suc n) (x ∷ xs) less = kept_there f right n xs (omega (arith, less))

pub kept_superseded : (ns : List ℕ) (versions : List Version) (v : ℕ) → KeptAt versions v → KeptAt (set_standing Standing.Superseded ns versions) v
kept_superseded [] versions v k = k
kept_superseded (n ∷ ns) versions v k = kept_superseded ns (change_at n superseded_now versions) v (kept_changed superseded_now (λ x. refl) n v versions k)

pub kept_placed : (row : List Placement) (drawn : List ℕ) (versions : List Version) (v : ℕ) → KeptAt versions v → KeptAt (place_rows row drawn versions) v
kept_placed row [] versions v k = k
kept_placed row (n ∷ drawn) versions v k = kept_placed row drawn (change_at n (placed_now row) versions) v (kept_changed (placed_now row) (λ x. refl) n v versions k)

pub drawn_kept : (row : List Placement) (drawn : List ℕ) (versions : List Version) (v : ℕ) → is_among v drawn ≡ true → v < length versions → KeptAt (place_rows row drawn versions) v
drawn_kept row [] versions v e less = absurd (true≢false (sym e))
drawn_kept row (n ∷ drawn) versions v e less = by (or_cases (nat_eq v n) (is_among v drawn) e) (drawn_kept row drawn (change_at n (placed_now row) versions) v)
  where
    by : (nat_eq v n ≡ true) ⊎ (is_among v drawn ≡ true) →
        (is_among v drawn ≡ true → v < length (change_at n (placed_now row) versions) → KeptAt (place_rows row drawn (change_at n (placed_now row) versions)) v) →
        KeptAt (place_rows row drawn (change_at n (placed_now row) versions)) v
    by (inl here) rest =
        let same : v ≡ n = eqb-true v n here in
        kept_placed row drawn (change_at n (placed_now row) versions) v
        (subst (λ k. KeptAt (change_at n (placed_now row) versions) k) (sym same) (kept_there (placed_now row) (λ x. refl) n versions (subst (λ k. k < length versions) same less)))
    by (inr later) rest = rest later (let same : length (change_at n (placed_now row) versions) ≡ length versions = changed_length n (placed_now row) versions in omega (arith, same, less))

pub kept_left : (versions news : List Version) (v : ℕ) → KeptAt versions v → KeptAt (versions ++ news) v
kept_left [] news v k = absurd (true≢false (sym k))
kept_left (x ∷ xs) news zero k = k
kept_left (x ∷ xs) news (suc v) k = kept_left xs news v k

pub rest_superseded : (ns : List ℕ) (versions : List Version) → All IsAtRest versions → All IsAtRest (set_standing Standing.Superseded ns versions)
rest_superseded [] versions all = all
rest_superseded (n ∷ ns) versions all = rest_superseded ns (change_at n superseded_now versions) (all_changed IsAtRest n superseded_now versions all (λ x there rest. inr (inl refl)))

pub rest_placed : (row : List Placement) (news versions : List Version) → All IsAtRest versions → All IsAtRest (place_rows row (range_with_len (length versions) (length news)) (versions ++ news))
rest_placed row [] versions all = subst (All IsAtRest) (sym (append-nil versions)) all
rest_placed row (x ∷ news) versions all =
    let more : length (versions ++ placed_now row x ∷ []) ≡ length versions + 1 = Rattle.std.proofs.Common.length-append versions (placed_now row x ∷ []) in
    subst₂ (λ first list. All IsAtRest (place_rows row (range_with_len first (length news)) list)) more (sym (changed_seam (placed_now row) versions x news))
    (rest_placed row news (versions ++ placed_now row x ∷ []) (all_snoc IsAtRest versions (placed_now row x) all (inl refl)))

-- ---- a standing that is known
pub slice_there : (v : ℕ) (xs : List Version) → v < length xs → slice_get xs v ≡ None → ⊥
slice_there v [] less e = omega (arith, less)
slice_there zero (x ∷ xs) less e = none-some x (sym e)
slice_there (suc v) (x ∷ xs) less e = slice_there v xs (omega (arith, less)) e

pub kept_of : (d : Directory) (t : Standing) (v : ℕ) → is_kept_standing t ≡ true → Stands d t v → KeptAt d.versions v
kept_of d t v right stand = by (slice_get d.versions v) refl stand.0
  where
    by : (f : Option Version) → slice_get d.versions v ≡ f → IfSome f (λ version. version.standing ≡ t) → holds_standing is_kept_standing f ≡ true
    by None e is = absurd (slice_there v d.versions stand.1 e)
    by (Some x) e is = ap is_kept_standing is ∙ right

-- ---- what a live pass pins is kept
pins_stand : (d : Directory) (v : ℕ) (pins : List Pin) → All (λ pin. Stands d Standing.Current pin.version ⊎ Stands d Standing.Superseded pin.version) pins →
    list_any (λ pin. nat_eq v pin.version) pins ≡ true → KeptAt d.versions v
pins_stand d v [] all e = absurd (true≢false (sym e))
pins_stand d v (pin ∷ pins) all e =
    by (or_cases (nat_eq v pin.version) (list_any (λ (pin : Pin). nat_eq v pin.version) pins) e) (all_head (λ (pin : Pin). Stands d Standing.Current pin.version ⊎ Stands d Standing.Superseded pin.version) pin pins all)
    (pins_stand d v pins (all_tail (λ (pin : Pin). Stands d Standing.Current pin.version ⊎ Stands d Standing.Superseded pin.version) pin pins all))
  where
    by : (nat_eq v pin.version ≡ true) ⊎ (list_any (λ pin. nat_eq v pin.version) pins ≡ true) → Stands d Standing.Current pin.version ⊎ Stands d Standing.Superseded pin.version →
        (list_any (λ pin. nat_eq v pin.version) pins ≡ true → KeptAt d.versions v) → KeptAt d.versions v
    by (inl here) (inl current) rest = subst (KeptAt d.versions) (sym (eqb-true v pin.version here)) (kept_of d Standing.Current pin.version refl current)
    by (inl here) (inr superseded) rest = subst (KeptAt d.versions) (sym (eqb-true v pin.version here)) (kept_of d Standing.Superseded pin.version refl superseded)
    by (inr later) stand rest = rest later

pub passes_stand : (d : Directory) (v : ℕ) (passes : List Pass) → All (λ pass. IsTrue (is_live pass.reaped) → IsLive d pass) passes → list_any (pins_it v) passes ≡ true → KeptAt d.versions v
passes_stand d v [] all e = absurd (true≢false (sym e))
passes_stand d v (pass ∷ passes) all e =
    by (or_cases (pins_it v pass) (list_any (pins_it v) passes) e) (passes_stand d v passes (all_tail (λ (pass : Pass). IsTrue (is_live pass.reaped) → IsLive d pass) pass passes all))
  where
    by : (pins_it v pass ≡ true) ⊎ (list_any (pins_it v) passes ≡ true) → (list_any (pins_it v) passes ≡ true → KeptAt d.versions v) → KeptAt d.versions v
    by (inl here) rest =
        let both : (is_live pass.reaped ≡ true) × (list_any (λ (pin : Pin). nat_eq v pin.version) pass.pinned ≡ true) = and_parts (is_live pass.reaped) (list_any (λ (pin : Pin). nat_eq v pin.version) pass.pinned) here in
        pins_stand d v pass.pinned ((all_head (λ (pass : Pass). IsTrue (is_live pass.reaped) → IsLive d pass) pass passes all) both.0).pins both.1
    by (inr later) rest = rest later

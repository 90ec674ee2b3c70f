-- Changes of an object among the directory's points, and races that were lost to them.
use Rattle.std.proofs.Common.{◌≡◌, ℕ, zero, suc, ◌+◌, ◌<◌, ◌≤◌, Bool, true, false, ◌&&◌, cond, bytes_eq, List, [], ◌∷◌, ◌++◌, Option, None, Some, IfSome, ◌⊎◌, inl, inr, refl, sym, ap, subst, ◌∙◌, arith}
use Rattle.std.proofs.lemmas.Option.{none-some, same_Some}
use Rattle.std.specs.List.{slice_get}
use Rattle.hist_rules.specs.First.{AllAfter, AllAlong}
use Rattle.store_core.specs.Directory.{Point}
use Rattle.store_core.specs.Lookups.{is_change, last_change}
use Rattle.run_laws.proofs.SoundHistory.{last_from}

-- the point changes the object
abbrev pub changes : List ℕ → Point → Bool
changes name point = bytes_eq name point.note.name && is_change point.event

-- at this place stands a change of the object
pub record IsChange (points : List Point) (name : List ℕ) (place : ℕ) : Type 0 where
  pub point : Point
  pub found : slice_get points place ≡ Some point
  pub changed : changes name point ≡ true

-- ---- the last change is one
record FromPlace (name : List ℕ) (start : ℕ) (points : List Point) (n : ℕ) : Type 0 where
  place : ℕ
  is_place : n ≡ start + place
  point : Point
  found : slice_get points place ≡ Some point
  changed : changes name point ≡ true

last_among : (name : List ℕ) (start : ℕ) (found : Option ℕ) (points : List Point) (n : ℕ) → last_from name start found points ≡ Some n → (found ≡ Some n) ⊎ FromPlace name start points n
last_among name start found [] n e = inl e
last_among name start found (point ∷ points) n e = by (last_among name (start + 1) (cond {A = Option ℕ} (changes name point) (Some start) found) points n e)
  where
    first : (b : Bool) → changes name point ≡ b → cond {A = Option ℕ} b (Some start) found ≡ Some n → (found ≡ Some n) ⊎ FromPlace name start (point ∷ points) n
    first true is k = inr (record { place = 0; is_place = (let same : start ≡ n = same_Some start n k in omega (arith, same)); point = point; found = refl; changed = is })
    first false is k = inl k

    by : (cond {A = Option ℕ} (changes name point) (Some start) found ≡ Some n) ⊎ FromPlace name (start + 1) points n → (found ≡ Some n) ⊎ FromPlace name start (point ∷ points) n
    by (inl k) = first (changes name point) refl k
    by (inr from) = inr (record { place = suc from.place; is_place = (let at : n ≡ start + 1 + from.place = from.is_place in omega (arith, at)); point = from.point; found = from.found; changed = from.changed })

pub last_is : (name : List ℕ) (points : List Point) (n : ℕ) → last_change name points ≡ Some n → IsChange points name n
last_is name points n e = by (last_among name 0 None points n e)
  where
    by : (None ≡ Some n) ⊎ FromPlace name 0 points n → IsChange points name n
    by (inl none) = absurd (none-some n none)
    by (inr from) = record { point = from.point; found = (let at : n ≡ 0 + from.place = from.is_place in let same : from.place ≡ n = omega (arith, at) in subst (λ k. slice_get points k ≡ Some from.point) same from.found); changed = from.changed }

-- ---- and it comes after all others
-- the last change, no earlier than some place
pub record LastFrom (found : Option ℕ) (low : ℕ) : Type 0 where
  pub last : ℕ
  pub is_last : found ≡ Some last
  pub late : low ≤ last

still : (name : List ℕ) (start a : ℕ) (points : List Point) → a < start → LastFrom (last_from name start (Some a) points) a
still name start a [] less = record { last = a; is_last = refl; late = omega arith }
still name start a (point ∷ points) less = by (still name (start + 1) start points (omega arith)) (still name (start + 1) a points (omega (arith, less))) (changes name point)
  where
    by : LastFrom (last_from name (start + 1) (Some start) points) start → LastFrom (last_from name (start + 1) (Some a) points) a → (b : Bool) → LastFrom (last_from name (start + 1) (cond {A = Option ℕ} b (Some start) (Some a)) points) a
    by hit missed true = record { last = hit.last; is_last = hit.is_last; late = (let late : start ≤ hit.last = hit.late in omega (arith, late, less)) }
    by hit missed false = missed

late_from : (name : List ℕ) (start : ℕ) (found : Option ℕ) (points : List Point) (place : ℕ) (point : Point) → slice_get points place ≡ Some point → changes name point ≡ true → LastFrom (last_from name start found points) (start + place)
late_from name start found [] place point e is = absurd (none-some point e)
late_from name start found (first ∷ points) zero point e is =
    subst (λ o. LastFrom (last_from name (start + 1) o points) (start + 0)) (sym hit)
    (let h : LastFrom (last_from name (start + 1) (Some start) points) start = still name (start + 1) start points (omega arith) in record { last = h.last; is_last = h.is_last; late = (let late : start ≤ h.last = h.late in omega (arith, late)) })
  where
    hit : cond {A = Option ℕ} (changes name first) (Some start) found ≡ Some start
    hit = ap (λ b. cond {A = Option ℕ} b (Some start) found) (ap (changes name) (same_Some first point e) ∙ is)
late_from name start found (first ∷ points) (suc place) point e is =
    let h : LastFrom (last_from name (start + 1) (cond {A = Option ℕ} (changes name first) (Some start) found) points) (start + 1 + place) = late_from name (start + 1) (cond {A = Option ℕ} (changes name first) (Some start) found) points place point e is in
    record { last = h.last; is_last = h.is_last; late = (let late : start + 1 + place ≤ h.last = h.late in omega (arith, late)) }

pub last_late : (name : List ℕ) (points : List Point) (place : ℕ) → IsChange points name place → LastFrom (last_change name points) place
last_late name points place is =
    let h : LastFrom (last_from name 0 None points) (0 + place) = late_from name 0 None points place is.point is.found is.changed in
    record { last = h.last; is_last = h.is_last; late = (let late : 0 + place ≤ h.last = h.late in omega (arith, late)) }

-- ---- races
-- points stay where they are
abbrev pub Grows : List Point → List Point → Type 0
Grows before after = (place : ℕ) (point : Point) → slice_get before place ≡ Some point → slice_get after place ≡ Some point

pub change_grows : (before after : List Point) → Grows before after → (name : List ℕ) (place : ℕ) → IsChange before name place → IsChange after name place
change_grows before after grows name place is = record { point = is.point; found = grows place is.point is.found; changed = is.changed }

-- a lost race, after the ones before it
pub record Race (points : List Point) (name : List ℕ) (before : List (ℕ × ℕ)) (pair : ℕ × ℕ) : Type 0 where
  pub later : pair.0 < pair.1
  pub order : IfSome (slice_get before 0) (λ other. other.1 ≤ pair.0)
  pub base : IsChange points name pair.0
  pub newer : IsChange points name pair.1

abbrev pub Races : List Point → List ℕ → List (ℕ × ℕ) → Type 0
Races points name pairs = AllAlong (Race points name) pairs

race_grows : (before after : List Point) → Grows before after → (name : List ℕ) (past pairs : List (ℕ × ℕ)) → AllAfter (Race before name) past pairs → AllAfter (Race after name) past pairs
race_grows before after grows name past [] h = tt
race_grows before after grows name past (pair ∷ pairs) h = (
  record { later = h.0.later; order = h.0.order; base = change_grows before after grows name pair.0 h.0.base; newer = change_grows before after grows name pair.1 h.0.newer },
  race_grows before after grows name (pair ∷ past) pairs h.1,
)

pub races_grow : (before after : List Point) → Grows before after → (name : List ℕ) (pairs : List (ℕ × ℕ)) → Races before name pairs → Races after name pairs
races_grow before after grows name pairs h = race_grows before after grows name [] pairs h

-- the pairs in reverse, over some others
abbrev pub turned : List (ℕ × ℕ) → List (ℕ × ℕ) → List (ℕ × ℕ)
turned past [] = past
turned past (pair ∷ pairs) = turned (pair ∷ past) pairs

push_after : (R : List (ℕ × ℕ) → ℕ × ℕ → Type 0) (past pairs : List (ℕ × ℕ)) (last : ℕ × ℕ) → AllAfter R past pairs → R (turned past pairs) last → AllAfter R past (pairs ++ last ∷ [])
push_after R past [] last h r = (r, tt)
push_after R past (pair ∷ pairs) last h r = (h.0, push_after R (pair ∷ past) pairs last h.1 r)

-- the last change that was told is no later than some point
abbrev pub Follows : List (ℕ × ℕ) → ℕ → Type 0
Follows pairs base = IfSome (slice_get (turned [] pairs) 0) (λ other. other.1 ≤ base)

pub races_push : (points : List Point) (name : List ℕ) (pairs : List (ℕ × ℕ)) (base newer : ℕ) → Races points name pairs → Follows pairs base → base < newer → IsChange points name base → IsChange points name newer
    → Races points name (pairs ++ (base, newer) ∷ [])
races_push points name pairs base newer h follows less is_base is_newer =
    push_after (Race points name) [] pairs (base, newer) h (record { later = less; order = follows; base = is_base; newer = is_newer })

-- the last change that was told is one
last_told : (points : List Point) (name : List ℕ) (past pairs : List (ℕ × ℕ)) → AllAfter (Race points name) past pairs → IfSome (slice_get past 0) (λ other. IsChange points name other.1)
    → IfSome (slice_get (turned past pairs) 0) (λ other. IsChange points name other.1)
last_told points name past [] h before = before
last_told points name past (pair ∷ pairs) h before = last_told points name (pair ∷ past) pairs h.1 h.0.newer

-- so the last change of the object is no earlier
pub last_follows : (points : List Point) (name : List ℕ) (pairs : List (ℕ × ℕ)) → Races points name pairs → (base : ℕ) → last_change name points ≡ Some base → Follows pairs base
last_follows points name pairs h base e = by (slice_get (turned [] pairs) 0) (last_told points name [] pairs h tt)
  where
    by : (found : Option (ℕ × ℕ)) → IfSome found (λ other. IsChange points name other.1) → IfSome found (λ other. other.1 ≤ base)
    by None k = tt
    by (Some other) k =
        let late : LastFrom (last_change name points) other.1 = last_late name points other.1 k in
        let same : base ≡ late.last = same_Some base late.last (sym e ∙ late.is_last) in
        let low : other.1 ≤ late.last = late.late in
        omega (arith, same, low)

-- Objects and passes that come, go or change keep versions of their own stripes.
use Rattle.std.proofs.Common.{◌≡◌, ◌⊎◌, ℕ, ◌+◌, ◌-◌, ◌/◌, ◌<◌, ◌≤◌, cond, not, bytes_eq, List, [], ◌∷◌, ◌++◌, length, get_or, map, take, drop, filter, Option, None, Some, IfSome, unwrap_or, All, refl, sym, ap, subst, ◌∙◌, inl, inr, arith, length-append}
use Rattle.std.proofs.lemmas.Bool.{cond_both, cases_lt}
use Rattle.std.proofs.lemmas.Nat.{div_below}
use Rattle.std.proofs.lemmas.List.{length-take-le, length-drop, get_or-take, get_or-drop, get_or_append_left, get_or-append_right}
use Rattle.std.proofs.lemmas.List.Elements.{All-cons, All-head, All-tail, All-map, All-filter}
use Rattle.clay_grid.specs.Shape.{Shape, stripe_length}
use Rattle.store_map.specs.Limits.{stripes_met}
use Rattle.store_map.specs.declared.actor.Actor.{Actor}
use Rattle.store_core.specs.Told.{Seen}
use Rattle.store_core.specs.Note.{Note}
use Rattle.store_core.specs.Directory.{Object, Pin, Pass, Directory}
use Rattle.store_core.specs.Lookups.{same_actor, find_object}
use Rattle.store_core.specs.Look.{pin_of, seen_at, remove_object}
use Rattle.store_core.specs.Commit.{put_object}
use Rattle.store_core.specs.Sound.{HasItsVersions, IsSound}
use Rattle.run_laws.proofs.Passes.{found_has}
use Rattle.dir_parts.specs.Parts.{object_or_new}
use Rattle.stripe_stamps.specs.ItsStripes.{IsOfStripe, AreFrom, IsOfItsStripes}

-- no stripe before the first
zero_div : (k : ℕ) → 0 < k → 0 / k ≡ 0
zero_div k some = let below : 0 / k < 1 = div_below 0 k 1 some (omega (arith, some)) in omega (arith, below)

-- the object with a name, or a new one, has its versions
pub count_there : (d : Directory) → IsSound d → (name : List ℕ) → length (object_or_new name d.objects).versions ≡ stripes_met (stripe_length d.shape) 0 (object_or_new name d.objects).length
count_there d sound name = by (find_object name d.objects) (found_has (HasItsVersions d) (λ (o : Object). bytes_eq name o.name) d.objects sound.objects)
  where
    by : (found : Option Object) → IfSome found (HasItsVersions d)
        → length (unwrap_or found (record { name = name; length = 0; versions = [] })).versions ≡ stripes_met (stripe_length d.shape) 0 (unwrap_or found (record { name = name; length = 0; versions = [] })).length
    by None h = refl
    by (Some object) h = h.count

module _ (ss : List ℕ) where
  -- an object's versions are of its stripes
  abbrev pub ObjectFits : Object → Type 0
  ObjectFits object = AreFrom ss 0 object.versions

  -- one without versions
  pub nothing_fits : (first : ℕ) → AreFrom ss first []
  nothing_fits first = λ place less. absurd (let no : place < 0 = less in omega (arith, no))

  -- an object goes
  pub removed_fits : (name : List ℕ) (objects : List Object) → All ObjectFits objects → All ObjectFits (remove_object name objects)
  removed_fits name [] all = all
  removed_fits name (o ∷ os) all =
      cond_both {A = List Object} (bytes_eq name o.name) os (o ∷ remove_object name os) (All ObjectFits) (λ _. All-tail ObjectFits o os all)
      (λ _. All-cons ObjectFits o (remove_object name os) (All-head ObjectFits o os all) (removed_fits name os (All-tail ObjectFits o os all)))

  -- an object comes, or takes another's place
  pub put_fits : (new : Object) (objects : List Object) → ObjectFits new → All ObjectFits objects → All ObjectFits (put_object new objects)
  put_fits new [] fits all = All-cons ObjectFits new [] fits all
  put_fits new (o ∷ os) fits all =
      cond_both {A = List Object} (bytes_eq new.name o.name) (new ∷ os) (o ∷ put_object new os) (All ObjectFits) (λ _. All-cons ObjectFits new os fits (All-tail ObjectFits o os all))
      (λ _. All-cons ObjectFits o (put_object new os) (All-head ObjectFits o os all) (put_fits new os fits (All-tail ObjectFits o os all)))

  -- the object with a name, or a new one
  pub old_fits : (name : List ℕ) (objects : List Object) → All ObjectFits objects → ObjectFits (object_or_new name objects)
  old_fits name objects all = by (find_object name objects) (found_has ObjectFits (λ (o : Object). bytes_eq name o.name) objects all)
    where
      by : (found : Option Object) → IfSome found ObjectFits → ObjectFits (unwrap_or found (record { name = name; length = 0; versions = [] }))
      by None h = nothing_fits 0
      by (Some object) h = h

  -- versions of the stripes from a first one on take their places in an object
  pub written_fits : (first : ℕ) (drawn old : List ℕ) → first ≤ length old → AreFrom ss first drawn → AreFrom ss 0 old → AreFrom ss 0 ((take first old ++ drawn) ++ drop (first + length drawn) old)
  written_fits first drawn old fits news olds = λ place less. by_place place less (cases_lt place first)
    where
      front : length (take first old) ≡ first
      front = length-take-le first old fits

      both : length (take first old ++ drawn) ≡ first + length drawn
      both = length-append (take first old) drawn ∙ ap (λ n. n + length drawn) front

      Here : ℕ → ℕ → Type 0
      Here place version = get_or ss version (0 + place) ≡ 0 + place

      early : (place : ℕ) → place < first → get_or ((take first old ++ drawn) ++ drop (first + length drawn) old) place 0 ≡ get_or old place 0
      early place h =
          get_or_append_left (take first old ++ drawn) (drop (first + length drawn) old) 0 place (omega (arith, both, h))
          ∙ get_or_append_left (take first old) drawn 0 place (omega (arith, front, h)) ∙ get_or-take first old place 0 h

      amid : (place : ℕ) → first ≤ place → place < first + length drawn → get_or ((take first old ++ drawn) ++ drop (first + length drawn) old) place 0 ≡ get_or drawn (place - first) 0
      amid place low high =
          get_or_append_left (take first old ++ drawn) (drop (first + length drawn) old) 0 place (omega (arith, both, high))
          ∙ get_or-append_right (take first old) drawn first place 0 front low

      late : (place : ℕ) → first + length drawn ≤ place → get_or ((take first old ++ drawn) ++ drop (first + length drawn) old) place 0 ≡ get_or old place 0
      late place low =
          get_or-append_right (take first old ++ drawn) (drop (first + length drawn) old) (first + length drawn) place 0 both low
          ∙ get_or-drop (first + length drawn) old (place - (first + length drawn)) 0
          ∙ ap (λ k. get_or old k 0) (let same : first + length drawn + (place - (first + length drawn)) ≡ place = omega (arith, low) in same)

      whole : length ((take first old ++ drawn) ++ drop (first + length drawn) old) ≡ first + length drawn + (length old - (first + length drawn))
      whole = length-append (take first old ++ drawn) (drop (first + length drawn) old) ∙ (λ i. both i + length-drop (first + length drawn) old i)

      by_end : (place : ℕ) → place < length ((take first old ++ drawn) ++ drop (first + length drawn) old) → first ≤ place → (place < first + length drawn) ⊎ (first + length drawn ≤ place)
          → Here place (get_or ((take first old ++ drawn) ++ drop (first + length drawn) old) place 0)
      by_end place less low (inl high) =
          let within : place - first < length drawn = omega (arith, low, high) in
          let at : first + (place - first) ≡ 0 + place = omega (arith, low) in
          subst (Here place) (sym (amid place low high)) (subst (λ k. get_or ss (get_or drawn (place - first) 0) k ≡ k) at (news (place - first) within))
      by_end place less low (inr past) =
          let within : place < length old = omega (arith, less, whole, past) in
          subst (Here place) (sym (late place past)) (olds place within)

      by_place : (place : ℕ) → place < length ((take first old ++ drawn) ++ drop (first + length drawn) old) → (place < first) ⊎ (first ≤ place)
          → Here place (get_or ((take first old ++ drawn) ++ drop (first + length drawn) old) place 0)
      by_place place less (inl h) = subst (Here place) (sym (early place h)) (olds place (omega (arith, h, fits)))
      by_place place less (inr h) = by_end place less h (cases_lt place (first + length drawn))

  -- what a look saw of an object's stripes
  pub pins_fit : (d : Directory) (object : Object) (stripes : List ℕ) → ObjectFits object → All (λ s. s < length object.versions) stripes
      → All (λ (pin : Pin). IsOfStripe ss pin.version pin.stripe) (map pin_of (map (seen_at d object) stripes))
  pins_fit d object stripes fits within =
      All-map (λ (pin : Pin). IsOfStripe ss pin.version pin.stripe) pin_of (map (seen_at d object) stripes)
      (All-map (λ (seen : Seen). IsOfStripe ss seen.version seen.stripe) (seen_at d object) stripes
      (λ k x less.
      let s : ℕ = get_or stripes k x in
      let none : 0 + get_or stripes k x ≡ get_or stripes k x = omega arith in
      subst (λ n. get_or ss (get_or object.versions (get_or stripes k x) 0) n ≡ n) none (fits (get_or stripes k x) (within k x less))))

  module _ (g : Shape) where
    -- a pass begins
    pub begun_fits : (who : Actor) (number : ℕ) (note : Note) (pinned : List Pin) (base : Option ℕ) → All (λ (pin : Pin). IsOfStripe ss pin.version pin.stripe) pinned
        → IsOfItsStripes ss g (record { actor = who; number = number; note = note; pinned = pinned; drawn = []; base = base; reaped = None })
    begun_fits who number note pinned base all = record { pinned = all; drawn = nothing_fits (note.offset / stripe_length g) }

    -- passes close
    pub closed_fit : (pass : Pass) (passes : List Pass) → All (IsOfItsStripes ss g) passes → All (IsOfItsStripes ss g) (filter (λ other. not (same_actor pass.actor other.actor)) passes)
    closed_fit pass passes all = All-filter (λ (other : Pass). not (same_actor pass.actor other.actor)) (IsOfItsStripes ss g) passes all

    -- one is reaped
    pub reaped_fit : (pass : Pass) (point : ℕ) (passes : List Pass) → All (IsOfItsStripes ss g) passes
        → All (IsOfItsStripes ss g) (map (λ other. cond {A = Pass} (same_actor pass.actor other.actor) (record other { reaped = Some point }) other) passes)
    reaped_fit pass point passes all =
        All-map (IsOfItsStripes ss g) (λ (other : Pass). cond {A = Pass} (same_actor pass.actor other.actor) (record other { reaped = Some point }) other) passes
        (λ k x less. one (get_or passes k x) (all k x less))
      where
        one : (other : Pass) → IsOfItsStripes ss g other → IsOfItsStripes ss g (cond {A = Pass} (same_actor pass.actor other.actor) (record other { reaped = Some point }) other)
        one other h =
            cond_both {A = Pass} (same_actor pass.actor other.actor) (record other { reaped = Some point }) other (IsOfItsStripes ss g) (λ _. record { pinned = h.pinned; drawn = h.drawn }) (λ _. h)

    -- the object that a put makes
    pub whole_fits : 0 < stripe_length g → (pass : Pass) → pass.note.offset ≡ 0 → IsOfItsStripes ss g pass → AreFrom ss 0 pass.drawn
    whole_fits some pass first h = subst (λ n. AreFrom ss n pass.drawn) (ap (λ n. n / stripe_length g) first ∙ zero_div (stripe_length g) some) h.drawn

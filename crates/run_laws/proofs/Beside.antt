-- What a step leaves of an actor that doesn't make it.
use Rattle.std.proofs.Common.{◌≡◌, ◌⊎◌, ℕ, suc, ◌+◌, ◌<◌, ◌≤◌, Bool, true, false, cond, ◌&&◌, List, [], ◌∷◌, ◌++◌, length, map, find, Option, None, Some, IfSome, IsTrue, bytes_eq, refl, sym, ap, subst, ◌∙◌, inl, inr, arith, zero-add}
use Rattle.std.proofs.lemmas.Bool.{true≢false, cases_Bool, cond_both, cond-true, cond-false, eq-eqb}
use Rattle.std.proofs.lemmas.Option.{same_Some, none-some}
use Rattle.std.proofs.lemmas.List.{length_push}
use Rattle.std.proofs.lemmas.List.Elements.{All-push}
use Rattle.store_map.specs.declared.actor.Actor.{Actor}
use Rattle.store_map.specs.declared.actor.Actor.TheVariants as actor
use Rattle.store_core.specs.Directory.{Pass, Point, Directory}
use Rattle.store_core.specs.Lookups.{same_actor, find_object, pass_of, last_change, is_change}
use Rattle.store_core.specs.Agreement.{AreBelow}
use Rattle.run_laws.proofs.Passes.{same_is}
use Rattle.run_laws.proofs.SoundAdds.{Follows}
use Rattle.run_laws.proofs.SoundHistory.{last_from, last_more}

-- ---- actors
-- an actor is the same as itself
pub self_actor : (a : Actor) → same_actor a a ≡ true
self_actor (actor.Client i) = eq-eqb i i refl
self_actor (actor.Repairer i) = eq-eqb i i refl
self_actor actor.Sweeper = refl
self_actor actor.Operator = refl

-- two others are others both ways
pub other_way : (a b : Actor) → same_actor a b ≡ false → same_actor b a ≡ false
other_way a b apart = by (cases_Bool (same_actor b a))
  where
    by : (same_actor b a ≡ true) ⊎ (same_actor b a ≡ false) → same_actor b a ≡ false
    by (inl e) = absurd (true≢false (sym (subst (λ x. same_actor x b ≡ true) (same_is b a e) (self_actor b)) ∙ apart))
    by (inr e) = e

-- ---- the last change
-- it is a point of the history
below_from : (name : List ℕ) (start : ℕ) (found : Option ℕ) (points : List Point) → IfSome found (λ p. p < start) → IfSome (last_from name start found points) (λ p. p < start + length points)
below_from name start found [] h = by found h
  where
    by : (o : Option ℕ) → IfSome o (λ p. p < start) → IfSome o (λ p. p < start + 0)
    by None k = tt
    by (Some p) k = omega (arith, k)
below_from name start found (point ∷ points) h =
    let next : start + 1 + length points ≡ start + suc (length points) = omega arith in
    subst (λ n. IfSome (last_from name (start + 1) now points) (λ p. p < n)) next (below_from name (start + 1) now points (below found h))
  where
    now : Option ℕ
    now = cond (bytes_eq name point.note.name && is_change point.event) (Some start) found

    weaker : (o : Option ℕ) → IfSome o (λ p. p < start) → IfSome o (λ p. p < start + 1)
    weaker None k = tt
    weaker (Some p) k = omega (arith, k)

    below : (o : Option ℕ) → IfSome o (λ p. p < start) → IfSome (cond {A = Option ℕ} (bytes_eq name point.note.name && is_change point.event) (Some start) o) (λ p. p < start + 1)
    below o k =
        cond_both {A = Option ℕ} (bytes_eq name point.note.name && is_change point.event) (Some start) o (λ o. IfSome o (λ p. p < start + 1)) (λ _. omega arith) (λ _. weaker o k)

pub last_below : (name : List ℕ) (points : List Point) (point : ℕ) → last_change name points ≡ Some point → point < length points
last_below name points point e =
    let h : point < 0 + length points = subst (λ (o : Option ℕ). IfSome o (λ p. p < 0 + length points)) e (below_from name 0 None points tt) in
    omega (arith, h)

-- a point that comes is the last change of its object, or changes no object
pub push_follows : (d : Directory) (point : Point) (name : List ℕ) → Follows d d.objects point name
push_follows d point name = by (cases_Bool (bytes_eq name point.note.name && is_change point.event))
  where
    last : last_change name (d.points ++ point ∷ []) ≡ cond (bytes_eq name point.note.name && is_change point.event) (Some (0 + length d.points)) (last_change name d.points)
    last = last_more name 0 None d.points point

    by : ((bytes_eq name point.note.name && is_change point.event) ≡ true) ⊎ ((bytes_eq name point.note.name && is_change point.event) ≡ false) → Follows d d.objects point name
    by (inl e) = inr (last ∙ cond-true (bytes_eq name point.note.name && is_change point.event) (Some (0 + length d.points)) (last_change name d.points) e ∙ ap Some (zero-add (length d.points)))
    by (inr e) = inl (last ∙ cond-false (bytes_eq name point.note.name && is_change point.event) (Some (0 + length d.points)) (last_change name d.points) e, refl)

-- ---- an actor's pass among passes that change
-- another's is changed
pub changed_other : (who me : Actor) (change : Pass → Pass) → ((p : Pass) → (change p).actor ≡ p.actor) → same_actor me who ≡ false → (passes : List Pass)
    → find (λ p. same_actor me p.actor) (map (λ o. cond {A = Pass} (same_actor who o.actor) (change o) o) passes) ≡ find (λ p. same_actor me p.actor) passes
changed_other who me change keeps apart [] = refl
changed_other who me change keeps apart (pass ∷ passes) = by (same_actor who pass.actor) refl (changed_other who me change keeps apart passes)
  where
    rest_then : Option Pass
    rest_then = find (λ (p : Pass). same_actor me p.actor) (map (λ (o : Pass). cond {A = Pass} (same_actor who o.actor) (change o) o) passes)

    rest_now : Option Pass
    rest_now = find (λ (p : Pass). same_actor me p.actor) passes

    by : (b : Bool) → same_actor who pass.actor ≡ b → rest_then ≡ rest_now
        → cond {A = Option Pass} (same_actor me (cond {A = Pass} b (change pass) pass).actor) (Some (cond {A = Pass} b (change pass) pass)) rest_then
        ≡ cond {A = Option Pass} (same_actor me pass.actor) (Some pass) rest_now
    by true e rest =
        let far : same_actor me pass.actor ≡ false = ap (same_actor me) (sym (same_is who pass.actor e)) ∙ apart in
        cond-false (same_actor me (change pass).actor) (Some (change pass)) rest_then (ap (same_actor me) (keeps pass) ∙ far)
        ∙ rest ∙ sym (cond-false (same_actor me pass.actor) (Some pass) rest_now far)
    by false e rest = ap (λ found. cond {A = Option Pass} (same_actor me pass.actor) (Some pass) found) rest

-- its own is changed
pub changed_own : (me : Actor) (change : Pass → Pass) → ((p : Pass) → (change p).actor ≡ p.actor) → (passes : List Pass) (own : Pass) → find (λ p. same_actor me p.actor) passes ≡ Some own
    → find (λ p. same_actor me p.actor) (map (λ o. cond {A = Pass} (same_actor me o.actor) (change o) o) passes) ≡ Some (change own)
changed_own me change keeps [] own e = absurd (none-some own e)
changed_own me change keeps (pass ∷ passes) own e = by (same_actor me pass.actor) refl e (changed_own me change keeps passes own)
  where
    rest_then : Option Pass
    rest_then = find (λ (p : Pass). same_actor me p.actor) (map (λ (o : Pass). cond {A = Pass} (same_actor me o.actor) (change o) o) passes)

    rest_now : Option Pass
    rest_now = find (λ (p : Pass). same_actor me p.actor) passes

    by : (b : Bool) → same_actor me pass.actor ≡ b → cond {A = Option Pass} b (Some pass) rest_now ≡ Some own → (rest_now ≡ Some own → rest_then ≡ Some (change own))
        → cond {A = Option Pass} (same_actor me (cond {A = Pass} b (change pass) pass).actor) (Some (cond {A = Pass} b (change pass) pass)) rest_then ≡ Some (change own)
    by true is found rest =
        cond-true (same_actor me (change pass).actor) (Some (change pass)) rest_then (ap (same_actor me) (keeps pass) ∙ is) ∙ ap (λ x. Some (change x)) (same_Some pass own found)
    by false is found rest = cond-false (same_actor me pass.actor) (Some pass) rest_then is ∙ rest found

-- ---- what is left of an actor
-- the last change of an object is as it was, and so is the object, or it is the next point
abbrev pub FollowsTo : Directory → Directory → List ℕ → Type 0
FollowsTo d after name =
    ((last_change name after.points ≡ last_change name d.points) × (find_object name after.objects ≡ find_object name d.objects))
    ⊎ (last_change name after.points ≡ Some (length d.points))

-- its pass, its points, and the points at which objects are changed
pub record Beside (me : Actor) (d after : Directory) : Type 0 where
  pub pass : pass_of me after ≡ pass_of me d
  pub more : length d.points ≤ length after.points
  pub points : (n : ℕ) → AreBelow me n d.points → AreBelow me n after.points
  pub follows : (name : List ℕ) → FollowsTo d after name

-- where no point comes and no object changes
pub quiet : (me : Actor) (d after : Directory) → pass_of me after ≡ pass_of me d → after.points ≡ d.points → after.objects ≡ d.objects → Beside me d after
quiet me d after passes points objects =
    record {
      pass = passes;
      more = (let e : length after.points ≡ length d.points = ap length points in omega (arith, e));
      points = λ n below. subst (AreBelow me n) (sym points) below;
      follows = λ name. inl (ap (last_change name) points, ap (find_object name) objects);
    }

-- where another's point comes
pub pointed : (me : Actor) (d after : Directory) (point : Point) → pass_of me after ≡ pass_of me d → after.points ≡ d.points ++ point ∷ [] → same_actor point.actor me ≡ false
    → ((name : List ℕ) → Follows d after.objects point name) → Beside me d after
pointed me d after point passes points apart follows =
    record {
      pass = passes;
      more = (let e : length after.points ≡ length (d.points ++ point ∷ []) = ap length points in let f : length (d.points ++ point ∷ []) ≡ length d.points + 1 = length_push d.points point in omega (arith, e, f));
      points = λ n below.
          subst (AreBelow me n) (sym points)
          (All-push (λ (p : Point). IsTrue (same_actor p.actor me) → p.number < n) d.points point below (λ same. absurd (true≢false (sym same ∙ apart))));
      follows = λ name. by name (follows name);
    }
  where
    by : (name : List ℕ) → Follows d after.objects point name → FollowsTo d after name
    by name (inl h) = inl (ap (last_change name) points ∙ h.0, h.1)
    by name (inr e) = inr (ap (last_change name) points ∙ e)

-- The directory's points after more steps, and lists that are split at an element.
use Rattle.std.proofs.Common.{◌≡◌, ℕ, Bool, true, false, cond, List, [], ◌∷◌, ◌++◌, length, filter, drop, Option, None, Some, MatchOption, append-nil, append_assoc, unwrap_or, refl, sym, ap, subst, ◌∙◌}
use Rattle.std.specs.List.{slice_get}
use Rattle.store_core.specs.Act.{Act}
use Rattle.store_core.specs.AtDirectory.{at_directory}
use Rattle.store_core.specs.Directory.{Point, Directory}
use Rattle.store_core.specs.PlaceLaws.{new_point}
use Rattle.store_core.proofs.Places.{directory_keeps_places}
use Rattle.thread_laws.specs.AtPlaces.{after_all, directory_act, directory_next}
use Rattle.thread_laws.specs.MadeSteps.{MadeStep}

-- ---- points
pub record HasMore (points now : List Point) : Type 0 where
  pub more : List Point
  pub is : now ≡ points ++ more

same_points : (points now : List Point) → now ≡ points → HasMore points now
same_points points now e = record { more = []; is = e ∙ sym (append-nil points) }

grown_by : (d after : Directory) (o : Option ℕ) → MatchOption o (after.points ≡ d.points) (λ place. (place ≡ length d.points) × (point : Point) × (after.points ≡ d.points ++ point ∷ []))
    → HasMore d.points after.points
grown_by d after None e = same_points d.points after.points e
grown_by d after (Some place) h = record { more = h.1 ∷ []; is = h.2 }

step_grows : (m : MadeStep) (act : Act) (d : Directory) → HasMore d.points (directory_act m act d).0.points
step_grows m (Act.AtDirectory step) d =
    grown_by d (at_directory m.shortage.step m.actor m.number step d).0 (new_point (at_directory m.shortage.step m.actor m.number step d).1)
    (directory_keeps_places m.shortage.step m.actor m.number step d).points
step_grows m (Act.AtServer server step) d = same_points d.points d.points refl
step_grows m (Act.Finish outcome) d = same_points d.points d.points refl

pub grows : (steps : List MadeStep) (d : Directory) → HasMore d.points (after_all directory_next steps d).points
grows [] d = same_points d.points d.points refl
grows (m ∷ steps) d =
    let one : HasMore d.points (directory_next m d).points = step_grows m m.act d in
    let rest : HasMore (directory_next m d).points (after_all directory_next steps (directory_next m d)).points = grows steps (directory_next m d) in
    record { more = one.more ++ rest.more; is = rest.is ∙ ap (λ (l : List Point). l ++ rest.more) one.is ∙ append_assoc d.points one.more rest.more }

pub after_more : (steps more : List MadeStep) (d : Directory) → after_all directory_next (steps ++ more) d ≡ after_all directory_next more (after_all directory_next steps d)
after_more [] more d = refl
after_more (m ∷ steps) more d = after_more steps more (directory_next m d)

-- ---- lists
pub record SplitAt {X : Type 0} (test : X → Bool) (xs before : List X) (x : X) (after : List X) : Type 0 where
  pub front : List X
  pub back : List X
  pub is : xs ≡ front ++ x ∷ back
  pub before_is : filter test front ≡ before

module _ {X : Type 0} where
  same_head : (x y : X) (xs ys : List X) → x ∷ xs ≡ y ∷ ys → x ≡ y
  same_head x y xs ys e = ap (λ (l : List X). unwrap_or (slice_get l 0) x) e

  same_tail : (x y : X) (xs ys : List X) → x ∷ xs ≡ y ∷ ys → xs ≡ ys
  same_tail x y xs ys e = ap (λ (l : List X). drop 1 l) e

  pub split_at : (test : X → Bool) (xs before : List X) (x : X) (after : List X) → filter test xs ≡ before ++ x ∷ after → SplitAt test xs before x after
  split_at test [] [] x after e = absurd (cc (e))
  split_at test [] (y ∷ before) x after e = absurd (cc (e))
  split_at test (z ∷ xs) before x after e = by (λ start f. split_at test xs start x after f) (test z) refl before e
    where
      skip : (start : List X) → test z ≡ false → SplitAt test xs start x after → SplitAt test (z ∷ xs) start x after
      skip start k s =
          record {
            front = z ∷ s.front;
            back = s.back;
            is = ap (λ (l : List X). z ∷ l) s.is;
            before_is = ap (λ (b : Bool). cond {A = List X} b (z ∷ filter test s.front) (filter test s.front)) k ∙ s.before_is;
          }

      take : (start : List X) → test z ≡ true → SplitAt test xs start x after → SplitAt test (z ∷ xs) (z ∷ start) x after
      take start k s =
          record {
            front = z ∷ s.front;
            back = s.back;
            is = ap (λ (l : List X). z ∷ l) s.is;
            before_is = ap (λ (b : Bool). cond {A = List X} b (z ∷ filter test s.front) (filter test s.front)) k ∙ ap (λ (l : List X). z ∷ l) s.before_is;
          }

      by : ((start : List X) → filter test xs ≡ start ++ x ∷ after → SplitAt test xs start x after) → (b : Bool) → test z ≡ b → (start : List X)
          → cond {A = List X} b (z ∷ filter test xs) (filter test xs) ≡ start ++ x ∷ after → SplitAt test (z ∷ xs) start x after
      by rest false k start f = skip start k (rest start f)
      by rest true k [] f = record { front = []; back = xs; is = ap (λ (y : X). y ∷ xs) (same_head z x (filter test xs) after f); before_is = refl }
      by rest true k (y ∷ start) f =
          let head : z ≡ y = same_head z y (filter test xs) (start ++ x ∷ after) f in
          let s : SplitAt test xs start x after = rest start (same_tail z y (filter test xs) (start ++ x ∷ after) f) in
          subst (λ (w : X). SplitAt test (z ∷ xs) (w ∷ start) x after) head (take start k s)

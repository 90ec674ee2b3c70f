-- Points of calls that came one after the other are in that order.
use Rattle.std.proofs.Common.{◌≡◌, ◌⊎◌, inl, inr, ℕ, suc, ◌+◌, ◌<◌, ◌≤◌, Bool, true, false, cond, List, [], ◌∷◌, ◌++◌, length, filter, Option, None, Some, All, Contains, refl, sym, ap, subst, ◌∙◌, arith, length-append, is_some, true≢false}
use Rattle.std.proofs.lemmas.List.Elements.{filter-append, All-nil, All-cons, All-append, All-head, All-tail, All-contains, Contains-append_right}
use Rattle.std.specs.List.{slice_get}
use Rattle.store_map.specs.PlainMap.{Objects}
use Rattle.store_map.specs.declared.actor.Actor.{Actor}
use Rattle.store_map.specs.declared.actor.Actor.TheVariants as actor
use Rattle.store_map.specs.declared.reply.Reply.{Reply}
use Rattle.store_map.specs.declared.script.Script.{Script}
use Rattle.store_map.specs.declared.call_name.ClientCall.{ClientCall}
use Rattle.store_map.specs.declared.call_name.CallName.TheVariants as name
use Rattle.store_map.specs.declared.line.HLine.{HLine}
use Rattle.store_core.specs.Calls.{Calls}
use Rattle.store_core.specs.Core.{Core}
use Rattle.store_core.specs.Directory.{Event, Point}
use Rattle.store_core.specs.History.{applied, shown_at, client_call, line_of, history_from, history_of, call_of, answered_in}
use Rattle.store_core.specs.PlaceLaws.{new_point}
use Rattle.store_core.specs.Shown.{shown}
use Rattle.store_map.specs.Limits.{size_of}
use Rattle.history_laws.specs.Trace.{Made}
use Rattle.history_laws.specs.Moments.{Happened, name_of, IsOf}
use Rattle.history_laws.specs.PointsInTime.{KeepsTime}
use Rattle.history_laws.proofs.Naming.{named_client}
use Rattle.history_laws.proofs.LinePoints.{makes_point, points_in, MadeBy, Makes, PointsThen}

-- ---- two parts of one list
record Longer {X : Type 0} (xs us ys vs : List X) : Type 0 where
  more : List X
  longer : us ≡ xs ++ more
  rest : ys ≡ more ++ vs

parted : (X : Type 0) (xs ys us vs : List X) → xs ++ ys ≡ us ++ vs → Longer xs us ys vs ⊎ Longer us xs vs ys
parted X [] ys us vs e = inl (record { more = us; longer = refl; rest = e })
parted X (x ∷ xs) ys [] vs e = inr (record { more = x ∷ xs; longer = refl; rest = sym e })
parted X (x ∷ xs) ys (u ∷ us) vs e = by (parted X xs ys us vs (tails e))
  where
    rest_of : List X → List X
    rest_of [] = []
    rest_of (y ∷ zs) = zs

    head_or : X → List X → X
    head_or d [] = d
    head_or d (y ∷ zs) = y

    tails : (x ∷ xs) ++ ys ≡ (u ∷ us) ++ vs → xs ++ ys ≡ us ++ vs
    tails k = ap rest_of k

    same : x ≡ u
    same = ap (head_or x) e

    by : Longer xs us ys vs ⊎ Longer us xs vs ys → Longer (x ∷ xs) (u ∷ us) ys vs ⊎ Longer (u ∷ us) (x ∷ xs) vs ys
    by (inl l) = inl (record { more = l.more; longer = (λ i. sym same i ∷ l.longer i); rest = l.rest })
    by (inr l) = inr (record { more = l.more; longer = (λ i. same i ∷ l.longer i); rest = l.rest })

-- what stands in the middle
inside : {X : Type 0} (xs : List X) (x : X) (ys : List X) → Contains (xs ++ x ∷ ys) x
inside xs x ys = Contains-append_right xs (x ∷ ys) x (0, (let low : 0 < length (x ∷ ys) = omega arith in low), refl)

-- ---- where a line comes from
abbrev NotReaped : Event → Type 0
NotReaped Event.Reaped = ⊥
NotReaped event = Unit {0}

record FromPoint (start : ℕ) (points : List Point) (line : HLine) : Type 0 where
  k : ℕ
  point : Point
  found : slice_get points k ≡ Some point
  is_point : line.point ≡ start + k
  named : client_call point.actor point.number ≡ Some line.call
  shows : NotReaped point.event

further : (start : ℕ) (first : Point) (points : List Point) (line : HLine) → FromPoint (start + 1) points line → FromPoint start (first ∷ points) line
further start first points line h =
    record { k = suc h.k; point = h.point; found = h.found; is_point = (let at : line.point ≡ start + 1 + h.k = h.is_point in omega (arith, at)); named = h.named; shows = h.shows }

module _ (start : ℕ) (point : Point) (points : List Point) where
  abbrev Q : HLine → Type 0
  Q line = FromPoint start (point ∷ points) line

  one : (event : Event) → point.event ≡ event → (nm : Option ClientCall) → client_call point.actor point.number ≡ nm → (answered : Bool) (mapped : Reply) → All Q (line_of start nm (shown_at event answered mapped))
  one event is None named answered mapped = All-nil Q
  one (Event.Answer given) is (Some call) named answered mapped =
      All-cons Q _ [] (record { k = 0; point = point; found = refl; is_point = (let same : start ≡ start + 0 = omega arith in same); named = named; shows = subst NotReaped (sym is) tt }) (All-nil Q)
  one Event.Pinned is (Some call) named true mapped =
      All-cons Q _ [] (record { k = 0; point = point; found = refl; is_point = (let same : start ≡ start + 0 = omega arith in same); named = named; shows = subst NotReaped (sym is) tt }) (All-nil Q)
  one Event.Pinned is (Some call) named false mapped = All-nil Q
  one Event.Done is (Some call) named true mapped =
      All-cons Q _ [] (record { k = 0; point = point; found = refl; is_point = (let same : start ≡ start + 0 = omega arith in same); named = named; shows = subst NotReaped (sym is) tt }) (All-nil Q)
  one Event.Done is (Some call) named false mapped =
      All-cons Q _ [] (record { k = 0; point = point; found = refl; is_point = (let same : start ≡ start + 0 = omega arith in same); named = named; shows = subst NotReaped (sym is) tt }) (All-nil Q)
  one Event.Reaped is (Some call) named answered mapped = All-nil Q

weaker_all : {X : Type 0} (P R : X → Type 0) → ((x : X) → P x → R x) → (xs : List X) → All P xs → All R xs
weaker_all P R f [] h = All-nil R
weaker_all P R f (x ∷ xs) h = All-cons R x xs (f x (All-head P x xs h)) (weaker_all P R f xs (All-tail P x xs h))

lines_from : (max : ℕ) (calls : Calls) (answered : Actor → ℕ → Bool) (start : ℕ) (objects : Objects) (points : List Point) → All (FromPoint start points) (history_from max calls answered start objects points)
lines_from max calls answered start objects [] = All-nil (FromPoint start [])
lines_from max calls answered start objects (point ∷ points) =
    All-append (FromPoint start (point ∷ points))
    (line_of start (client_call point.actor point.number) (shown_at point.event (answered point.actor point.number) after.1))
    (history_from max calls answered (start + 1) after.0 points)
    (one start point points point.event refl (client_call point.actor point.number) refl (answered point.actor point.number) after.1)
    (weaker_all (FromPoint (start + 1) points) (FromPoint start (point ∷ points)) (further start point points) (history_from max calls answered (start + 1) after.0 points) (lines_from max calls answered (start + 1) after.0 points))
  where
    after : Objects × Reply
    after = applied max objects point.event (calls point.actor point.number)

-- ---- a line's point was made by its call
module _ (trace : List Made) (points : List Point) (then : PointsThen trace points) where
  abbrev pub IsPointOf : HLine → List Made → Made → Type 0
  IsPointOf line before made = (new_point made.answer ≡ Some line.point) × (points_in before ≡ line.point) × IsOf (name.Client line.call) made

  made_so : (line : HLine) → FromPoint 0 points line → Happened trace (IsPointOf line)
  made_so line from =
      record { before = h.before; made = h.made; after = h.after; split = h.split; is = (h.is.0 ∙ ap Some place, h.is.1 ∙ place, by from.point.event from.shows h.is.2) }
    where
      h : Happened trace (Makes from.k from.point)
      h = then.made from.k from.point from.found

      place : from.k ≡ line.point
      place = let at : line.point ≡ 0 + from.k = from.is_point in omega (arith, at)

      named : (from.point.actor ≡ actor.Client line.call.client) × (from.point.number ≡ line.call.number)
      named = named_client from.point.actor from.point.number line.call from.named

      of_call : (h.made.who ≡ from.point.actor) × (h.made.number ≡ from.point.number) → IsOf (name.Client line.call) h.made
      of_call same = (λ i. name_of (same.0 i) (same.1 i)) ∙ (λ i. name_of (named.0 i) (named.1 i))

      by : (event : Event) → NotReaped event → MadeBy event from.point h.made → IsOf (name.Client line.call) h.made
      by (Event.Answer given) shows same = of_call same
      by Event.Pinned shows same = of_call same
      by Event.Done shows same = of_call same
      by Event.Reaped shows same = absurd shows

  points_append : (a b : List Made) → points_in (a ++ b) ≡ points_in a + points_in b
  points_append a b = ap (λ (l : List Made). length l) (filter-append makes_point a b) ∙ length-append (filter makes_point a) (filter makes_point b)

  makes_one : (made : Made) (more : List Made) (place : ℕ) → new_point made.answer ≡ Some place → 1 ≤ points_in (made ∷ more)
  makes_one made more place is = by (makes_point made) (ap (λ (o : Option ℕ). is_some o) is)
    where
      by : (b : Bool) → b ≡ true → 1 ≤ length {A = Made} (cond {A = List Made} b (made ∷ filter makes_point more) (filter makes_point more))
      by true e = omega arith
      by false e = absurd (true≢false (sym e))

  module _ (before after : List Made) (split : trace ≡ before ++ after) where
    -- a point that was made, and not after, is less than those that come
    early : (line : HLine) → Happened trace (IsPointOf line) → All (λ made. IsOf (name.Client line.call) made → ⊥) after → line.point < points_in before
    early line h none = by (parted Made h.before (h.made ∷ h.after) before after (sym h.split ∙ split))
      where
        within : (more : List Made) → h.made ∷ h.after ≡ more ++ after → before ≡ h.before ++ more → line.point < points_in before
        within [] rest longer = absurd (All-head (λ made. IsOf (name.Client line.call) made → ⊥) h.made h.after (subst (All (λ made. IsOf (name.Client line.call) made → ⊥)) (sym rest) none) h.is.2)
        within (m ∷ more) rest longer =
            let is_made : m ≡ h.made = sym (ap (first_or h.made) rest) in
            let parts : points_in before ≡ points_in h.before + points_in (m ∷ more) = ap points_in longer ∙ points_append h.before (m ∷ more) in
            let some : 1 ≤ points_in (m ∷ more) = makes_one m more line.point (ap (λ (x : Made). new_point x.answer) is_made ∙ h.is.0) in
            let place : points_in h.before ≡ line.point = h.is.1 in
            omega (arith, parts, some, place)
          where
            first_or : Made → List Made → Made
            first_or d [] = d
            first_or d (x ∷ xs) = x

        late : Longer before h.before after (h.made ∷ h.after) → line.point < points_in before
        late l =
            absurd (All-contains (λ made. IsOf (name.Client line.call) made → ⊥) after h.made none (there l) h.is.2)
          where
            there : Longer before h.before after (h.made ∷ h.after) → Contains after h.made
            there k = subst (λ (xs : List Made). Contains xs h.made) (sym k.rest) (inside k.more h.made h.after)

        by : Longer h.before before (h.made ∷ h.after) after ⊎ Longer before h.before after (h.made ∷ h.after) → line.point < points_in before
        by (inl l) = within l.more l.rest l.longer
        by (inr l) = late l

    -- and one that comes is no less
    coming : (line : HLine) → Happened trace (IsPointOf line) → All (λ made. IsOf (name.Client line.call) made → ⊥) before → points_in before ≤ line.point
    coming line h none = by (parted Made h.before (h.made ∷ h.after) before after (sym h.split ∙ split))
      where
        within : (more : List Made) → h.made ∷ h.after ≡ more ++ after → before ≡ h.before ++ more → points_in before ≤ line.point
        within [] rest longer =
            let parts : points_in before ≡ points_in h.before + 0 = ap points_in longer ∙ points_append h.before [] in
            let place : points_in h.before ≡ line.point = h.is.1 in
            omega (arith, parts, place)
        within (m ∷ more) rest longer =
            absurd (All-contains (λ made. IsOf (name.Client line.call) made → ⊥) before h.made none
            (subst (λ (xs : List Made). Contains xs h.made) (sym longer) (subst (λ x. Contains (h.before ++ m ∷ more) x) (sym (ap (first_or h.made) rest)) (inside h.before m more))) h.is.2)
          where
            first_or : Made → List Made → Made
            first_or d [] = d
            first_or d (x ∷ xs) = x

        by : Longer h.before before (h.made ∷ h.after) after ⊎ Longer before h.before after (h.made ∷ h.after) → points_in before ≤ line.point
        by (inl l) = within l.more l.rest l.longer
        by (inr l) =
            let parts : points_in h.before ≡ points_in before + points_in l.more = ap points_in l.longer ∙ points_append before l.more in
            let place : points_in h.before ≡ line.point = h.is.1 in
            omega (arith, parts, place)

-- so points keep the time
pub keeps_time : (script : Script) (trace : List Made) (core : Core) → PointsThen trace core.directory.points → KeepsTime trace (shown script core)
keeps_time script trace core then line later has_line has_later before after split none_after none_before =
    let lines : All (FromPoint 0 core.directory.points) (history_of script core) = lines_from (size_of script) (call_of script) (answered_in core) 0 [] core.directory.points in
    let one : Happened trace (IsPointOf trace core.directory.points then line) = made_so trace core.directory.points then line (All-contains (FromPoint 0 core.directory.points) (history_of script core) line lines has_line) in
    let other : Happened trace (IsPointOf trace core.directory.points then later) = made_so trace core.directory.points then later (All-contains (FromPoint 0 core.directory.points) (history_of script core) later lines has_later) in
    let less : line.point < points_in before = early trace core.directory.points then before after split line one none_after in
    let more : points_in before ≤ later.point = coming trace core.directory.points then before after split later other none_before in
    omega (arith, less, more)

-- Points that come while a call runs, and what a pass stands on in time.
use Rattle.std.proofs.Common.{◌≡◌, ◌⊎◌, inl, inr, ℕ, zero, suc, ◌+◌, ◌<◌, ◌≤◌, Bool, List, [], ◌∷◌, ◌++◌, length, Option, None, Some, MatchOption, refl, sym, ap, subst, ◌∙◌, arith, length-append}
use Rattle.std.proofs.lemmas.Option.{none-some}
use Rattle.std.specs.List.{slice_get}
use Rattle.store_map.specs.declared.actor.Actor.{Actor}
use Rattle.store_core.specs.Act.{Act, DirectoryStep}
use Rattle.store_core.specs.Agreement.{IsLater, AgreesWithPass}
use Rattle.store_core.specs.AtDirectory.{at_directory}
use Rattle.store_core.specs.Directory.{Pass, Point, Directory}
use Rattle.store_core.specs.Note.{Note, Kind}
use Rattle.store_core.specs.PlaceLaws.{new_point}
use Rattle.store_core.specs.Server.{Server}
use Rattle.store_core.specs.Step.{Places, at_server_there, at_places}
use Rattle.store_core.proofs.Places.{directory_keeps_places}
use Rattle.history_laws.proofs.Changes.{IsChange, Grows, change_grows}
use Rattle.history_laws.specs.Trace.{Made}
use Rattle.history_laws.specs.Moments.{Happened}
use Rattle.history_laws.specs.PointsInTime.{AnyStep}
use Rattle.history_laws.proofs.Past.{last, on}

-- a step of an actor's call
abbrev pub Own : Actor → ℕ → Made → Type 0
Own who number made = (made.who ≡ who) × (made.number ≡ number)

-- a new point comes after the call's first step, by a step of which this holds
abbrev pub Comes : Actor → ℕ → (Made → Type 0) → ℕ → List Made → Made → Type 0
Comes who number By point before made = (new_point made.answer ≡ Some point) × By made × Happened before (λ _ first. Own who number first)

abbrev pub PointWithin : List Made → Actor → ℕ → (Made → Type 0) → ℕ → Type 0
PointWithin trace who number By point = Happened trace (Comes who number By point)

-- a step that reaps the actor
abbrev pub ReapOf : Actor → Made → Type 0
ReapOf who made = made.act ≡ Act.AtDirectory (DirectoryStep.Reap who)

-- the greatest of so many points
abbrev pub latest : ℕ → Option ℕ
latest zero = None
latest (suc n) = Some n

pub late_enough : (since n : ℕ) → IsLater (latest since) n → since ≤ n
late_enough zero n h = omega arith
late_enough (suc since) n h = omega (arith, h)

-- what a pass stands on: the points since its look, its reap, a write's base, and a rebuild's version
pub record PassThen (trace : List Made) (d : Directory) (who : Actor) (number : ℕ) (pass : Pass) : Type 0 where
  pub begun : Happened trace (λ _ first. Own who number first)
  pub since : ℕ
  pub low : since ≤ length d.points
  pub later : (n : ℕ) → since ≤ n → n < length d.points → PointWithin trace who number AnyStep n
  pub reaped : (point : ℕ) → pass.reaped ≡ Some point → PointWithin trace who number (ReapOf who) point
  pub writes : pass.note.kind ≡ Kind.Write → (b : ℕ) → pass.base ≡ Some b → IsChange d.points pass.note.name b × ((n : ℕ) → IsChange d.points pass.note.name n → b < n → since ≤ n)
  pub rebuilds : pass.note.kind ≡ Kind.Rebuild → (held : Pass) × (pass ≡ record held { reaped = pass.reaped }) × (held.actor ≡ who) × AgreesWithPass d (record { pass = held; told = latest since })

-- ---- one point more at most
abbrev pub Appends : Made → List Point → List Point → Type 0
Appends made before after = (after ≡ before) ⊎ ((new_point made.answer ≡ Some (length before)) × (point : Point) × (after ≡ before ++ point ∷ []))

pub act_appends : (short : Bool) (who : Actor) (number : ℕ) (a : Act) (places : Places) (made : Made) → made.answer ≡ (at_places short who number a places).1
    → Appends made places.directory.points (at_places short who number a places).0.directory.points
act_appends short who number (Act.AtDirectory step) places made is = by (new_point (at_directory short who number step places.directory).1) refl (directory_keeps_places short who number step places.directory).points
  where
    after : List Point
    after = (at_directory short who number step places.directory).0.points

    by : (found : Option ℕ) → new_point (at_directory short who number step places.directory).1 ≡ found
        → MatchOption found ((at_directory short who number step places.directory).0.points ≡ places.directory.points)
        (λ place. (place ≡ length places.directory.points) × (point : Point) × ((at_directory short who number step places.directory).0.points ≡ places.directory.points ++ point ∷ []))
        → Appends made places.directory.points (at_directory short who number step places.directory).0.points
    by None e h = inl h
    by (Some place) e h = inr (ap new_point is ∙ e ∙ ap Some h.0, h.1, h.2)
act_appends short who number (Act.AtServer server step) places made is = inl (by (slice_get places.servers server))
  where
    by : (found : Option Server) → (at_server_there short server step places found).0.directory.points ≡ places.directory.points
    by None = refl
    by (Some s) = refl
act_appends short who number (Act.Finish outcome) places made is = inl refl

-- a change that was there, or the new one
old_change : (before : List Point) (point : Point) (name : List ℕ) (n : ℕ) → IsChange (before ++ point ∷ []) name n → IsChange before name n ⊎ (length before ≤ n)
old_change before point name n h = by (pushed before n h.point h.found)
  where
    pushed : (points : List Point) (k : ℕ) (p : Point) → slice_get (points ++ point ∷ []) k ≡ Some p → (slice_get points k ≡ Some p) ⊎ (length points ≤ k)
    pushed [] k p e = inr (omega arith)
    pushed (first ∷ points) zero p e = inl e
    pushed (first ∷ points) (suc k) p e = more (pushed points k p e)
      where
        more : (slice_get points k ≡ Some p) ⊎ (length points ≤ k) → (slice_get (first ∷ points) (suc k) ≡ Some p) ⊎ (length (first ∷ points) ≤ suc k)
        more (inl is) = inl is
        more (inr low) = inr (omega (arith, low))

    by : (slice_get before n ≡ Some h.point) ⊎ (length before ≤ n) → IsChange before name n ⊎ (length before ≤ n)
    by (inl is) = inl (record { point = h.point; found = is; changed = h.changed })
    by (inr low) = inr low

-- ---- a step that leaves the pass
module _ (trace : List Made) (made : Made) (before after : Directory) (who : Actor) (number : ℕ) (appends : Appends made before.points after.points) where
  abbrev more : List Made
  more = trace ++ made ∷ []

  longer : length before.points ≤ length after.points
  longer = by appends
    where
      by : Appends made before.points after.points → length before.points ≤ length after.points
      by (inl same) = let e : length after.points ≡ length before.points = ap (λ (l : List Point). length l) same in omega (arith, e)
      by (inr h) = let e : length after.points ≡ length before.points + 1 = ap (λ (l : List Point). length l) h.2 ∙ length-append before.points (h.1 ∷ []) in omega (arith, e)

  later_on : (since : ℕ) → Happened trace (λ _ first. Own who number first) → ((n : ℕ) → since ≤ n → n < length before.points → PointWithin trace who number AnyStep n)
      → (n : ℕ) → since ≤ n → n < length after.points → PointWithin more who number AnyStep n
  later_on since begun later n low high = by appends
    where
      old : n < length before.points → PointWithin more who number AnyStep n
      old less = on (Comes who number AnyStep n) trace (made ∷ []) (later n low less)

      new : new_point made.answer ≡ Some (length before.points) → n ≡ length before.points → PointWithin more who number AnyStep n
      new is same = last (Comes who number AnyStep n) trace made (is ∙ ap Some (sym same), tt, begun)

      by : Appends made before.points after.points → PointWithin more who number AnyStep n
      by (inl same) = old (let e : length after.points ≡ length before.points = ap (λ (l : List Point). length l) same in omega (arith, e, high))
      by (inr h) =
          let e : length after.points ≡ length before.points + 1 = ap (λ (l : List Point). length l) h.2 ∙ length-append before.points (h.1 ∷ []) in
          elim (split n (length before.points) (omega (arith, e, high))) [ inl less ↦ old less | inr same ↦ new h.0 same ]
        where
          split : (a b : ℕ) → a < b + 1 → (a < b) ⊎ (a ≡ b)
          split zero zero h = inr refl
          split zero (suc b) h = inl (omega arith)
          split (suc a) zero h = absurd (omega (arith, h))
          split (suc a) (suc b) h = again (split a b (omega (arith, h)))
            where
              again : (a < b) ⊎ (a ≡ b) → (suc a < suc b) ⊎ (suc a ≡ suc b)
              again (inl less) = inl (omega (arith, less))
              again (inr same) = inr (ap suc same)

  grows : Grows before.points after.points
  grows place point e = by appends
    where
      pushed : (points : List Point) (last : Point) (k : ℕ) → slice_get points k ≡ Some point → slice_get (points ++ last ∷ []) k ≡ Some point
      pushed [] last k is = absurd (none-some point is)
      pushed (first ∷ points) last zero is = is
      pushed (first ∷ points) last (suc k) is = pushed points last k is

      by : Appends made before.points after.points → slice_get after.points place ≡ Some point
      by (inl same) = ap (λ (l : List Point). slice_get l place) same ∙ e
      by (inr h) = ap (λ (l : List Point). slice_get l place) h.2 ∙ pushed before.points h.1 place e

  writes_on : (since : ℕ) → since ≤ length before.points → (name : List ℕ) (b : ℕ) → ((n : ℕ) → IsChange before.points name n → b < n → since ≤ n) → (n : ℕ) → IsChange after.points name n → b < n → since ≤ n
  writes_on since low name b old n change less = by appends
    where
      by : Appends made before.points after.points → since ≤ n
      by (inl same) = old n (subst (λ (l : List Point). IsChange l name n) same change) less
      by (inr h) = two (old_change before.points h.1 name n (subst (λ (l : List Point). IsChange l name n) h.2 change))
        where
          two : IsChange before.points name n ⊎ (length before.points ≤ n) → since ≤ n
          two (inl is) = old n is less
          two (inr high) = omega (arith, low, high)

  -- the pass is as it was, but perhaps for its reap
  pub stays_then : (pass now : Pass)
      → (pass.note.kind ≡ Kind.Rebuild → (held : Pass) (told : Option ℕ) → held.actor ≡ who → AgreesWithPass before (record { pass = held; told = told }) → AgreesWithPass after (record { pass = held; told = told }))
      → now.base ≡ pass.base → now.note ≡ pass.note → (now ≡ record pass { reaped = now.reaped }) ⊎ (pass.note.kind ≡ Kind.Rebuild → ⊥)
      → ((point : ℕ) → now.reaped ≡ Some point → (pass.reaped ≡ Some point) ⊎ ((new_point made.answer ≡ Some point) × ReapOf who made)) → PassThen trace before who number pass → PassThen more after who number now
  stays_then pass now agrees base note same reaps h =
      record {
        begun = on (λ _ first. Own who number first) trace (made ∷ []) h.begun;
        since = h.since;
        low = (let low : h.since ≤ length before.points = h.low in let long : length before.points ≤ length after.points = longer in omega (arith, low, long));
        later = later_on h.since h.begun h.later;
        reaped = λ point is. reaped_on point (reaps point is);
        writes = λ w b is.
            let old : IsChange before.points pass.note.name b × ((n : ℕ) → IsChange before.points pass.note.name n → b < n → h.since ≤ n) = h.writes (ap (λ (x : Note). x.kind) (sym note) ∙ w) b (sym base ∙ is) in (
              subst (λ (x : Note). IsChange after.points x.name b) (sym note) (change_grows before.points after.points grows pass.note.name b old.0),
              λ n change less. writes_on h.since h.low pass.note.name b old.1 n (subst (λ (x : Note). IsChange after.points x.name n) note change) less,
            );
        rebuilds = λ r. rebuilds_on (ap (λ (x : Note). x.kind) (sym note) ∙ r) same;
      }
    where
      reaped_on : (point : ℕ) → (pass.reaped ≡ Some point) ⊎ ((new_point made.answer ≡ Some point) × ReapOf who made) → PointWithin more who number (ReapOf who) point
      reaped_on point (inl is) = on (Comes who number (ReapOf who) point) trace (made ∷ []) (h.reaped point is)
      reaped_on point (inr new) = last (Comes who number (ReapOf who) point) trace made (new.0, new.1, h.begun)

      rebuilds_on : pass.note.kind ≡ Kind.Rebuild → (now ≡ record pass { reaped = now.reaped }) ⊎ (pass.note.kind ≡ Kind.Rebuild → ⊥)
          → (held : Pass) × (now ≡ record held { reaped = now.reaped }) × (held.actor ≡ who) × AgreesWithPass after (record { pass = held; told = latest h.since })
      rebuilds_on kind (inr none) = absurd (none kind)
      rebuilds_on kind (inl is) =
          let old : (held : Pass) × (pass ≡ record held { reaped = pass.reaped }) × (held.actor ≡ who) × AgreesWithPass before (record { pass = held; told = latest h.since }) = h.rebuilds kind in
          (old.0, is ∙ ap (λ (p : Pass). record p { reaped = now.reaped }) old.1, old.2, agrees kind old.0 (latest h.since) old.2 old.3)

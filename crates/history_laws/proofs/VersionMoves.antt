-- What a step at the directory makes of one version: its placements change only at its commit and at a repair, and one that was taken stays so.
use Rattle.std.proofs.Common.{◌≡◌, ℕ, zero, suc, ◌<◌, ◌≤◌, max, Bool, true, false, nat_eq, nat_lt, List, [], ◌∷◌, ◌++◌, length, get_or, map, fold, zip, Option, None, Some, option_map, unwrap_or, IfSome, IsTrue, ◌⊎◌, inl, inr, refl, sym, ap, subst, ◌∙◌, arith, true≢false}
use Rattle.std.proofs.lemmas.Bool.{cond_both, cases_eq, or_cases, eqb-true}
use Rattle.std.proofs.lemmas.Option.{none-some, same_Some, slice_get_within}
use Rattle.std.specs.List.{slice_get, list_all}
use Rattle.store_map.specs.declared.actor.Actor.{Actor}
use Rattle.store_map.specs.declared.placement.Placement.{Placement}
use Rattle.store_map.specs.declared.placement.Placement.TheVariants as placement
use Rattle.store_map.specs.declared.reply.Reply.{Reply}
use Rattle.store_core.specs.Placements.{placed_anew}
use Rattle.store_core.specs.Act.{DirectoryStep, takes_memory}
use Rattle.store_core.specs.AtDirectory.{unless_reaped, on_pass, take_garbage, swept_standing, reap_pass, reap, made_at_directory, unless_short, at_directory}
use Rattle.store_core.specs.Commit.{commit, commit_object, dropped_by, place_all, is_overtaken}
use Rattle.store_core.specs.Directory.{Object, Standing, Version, Pin, Pass, Directory}
use Rattle.store_core.specs.Lists.{change_at, is_among}
use Rattle.store_core.specs.Look.{begin_pass, seen_at, set_standing}
use Rattle.store_core.specs.Looks.{accept, look_by, look_repair_by}
use Rattle.store_core.specs.Lookups.{find_object, pass_of, last_change, first_garbage, is_current, is_live}
use Rattle.store_core.specs.Note.{Note, Kind, refusal}
use Rattle.store_core.specs.PassSteps.{close_pass, give_up_drawn, draw, end_pass, confirm, repaired, touched, new_version}
use Rattle.store_core.specs.Told.{Told}
use Rattle.store_core.proofs.Places.{length-change_at, length-set_standing, length-place_all, slice_get-change_at}
use Rattle.run_laws.proofs.SoundVersions.{change_here, given, set_at, raise, length-raised}
use Rattle.run_laws.proofs.LiveVersions.{is_live_standing, LivesAt, AllLive, EntriesLive, entries_live, entries_still, become_current, placed_still, dropped_live, HasLive}

-- new placements of a version, by the old ones
abbrev pub Change : Type 1
Change = ℕ → List Placement → List Placement → Type 0

-- one version, after a step
pub record Moved (ok : Change) (n : ℕ) (old : Version) (after : List Version) : Type 0 where
  pub new : Version
  pub found : slice_get after n ≡ Some new
  pub placed : (new.placed ≡ old.placed) ⊎ ok n old.placed new.placed
  pub gone : is_live_standing old.standing ≡ false → is_live_standing new.standing ≡ false

-- every version that there was
abbrev pub Moves : Change → List Version → List Version → Type 0
Moves ok before after = (n : ℕ) (old : Version) → slice_get before n ≡ Some old → Moved ok n old after

-- no version's placements change
abbrev pub NoChange : Change
NoChange n old new = ⊥

same_moves : (ok : Change) (versions : List Version) → Moves ok versions versions
same_moves ok versions n old e = record { new = old; found = e; placed = inl refl; gone = λ h. h }

-- what stands so far stays so
live_at : (versions : List Version) (n : ℕ) (version : Version) → LivesAt versions n → slice_get versions n ≡ Some version → is_live_standing version.standing ≡ true
live_at versions n version h e = subst (λ (o : Option Version). IfSome o (λ v. IsTrue (is_live_standing v.standing))) e h

live_among : (versions : List Version) (numbers : List ℕ) (n : ℕ) → AllLive versions numbers → is_among n numbers ≡ true → LivesAt versions n
live_among versions [] n all e = absurd (true≢false (sym e))
live_among versions (number ∷ numbers) n all e = by (λ h. live_among versions numbers n all.1 h) (or_cases (nat_eq n number) (is_among n numbers) e)
  where
    by : (is_among n numbers ≡ true → LivesAt versions n) → (nat_eq n number ≡ true) ⊎ (is_among n numbers ≡ true) → LivesAt versions n
    by rest (inl same) = subst (LivesAt versions) (sym (eqb-true n number same)) all.0
    by rest (inr later) = rest later

-- ---- standings
given_placed : (standing : Standing) (b : Bool) (version : Version) → (given standing b version).placed ≡ version.placed
given_placed standing true version = refl
given_placed standing false version = refl

-- live versions get another standing
set_moves : (ok : Change) (standing : Standing) (numbers : List ℕ) (versions : List Version) → AllLive versions numbers → Moves ok versions (set_standing standing numbers versions)
set_moves ok standing numbers versions all n old e =
    record { new = given standing (is_among n numbers) old; found = set_at standing numbers versions n old e; placed = inl (given_placed standing (is_among n numbers) old); gone = by (is_among n numbers) refl }
  where
    by : (b : Bool) → is_among n numbers ≡ b → is_live_standing old.standing ≡ false → is_live_standing (given standing b old).standing ≡ false
    by true among h = absurd (true≢false (sym (live_at versions n old (live_among versions numbers n all among) e) ∙ h))
    by false among h = h

-- versions are taken
taken_moves : (ok : Change) (numbers : List ℕ) (versions : List Version) → Moves ok versions (set_standing Standing.Taken numbers versions)
taken_moves ok numbers versions n old e =
    record { new = given Standing.Taken (is_among n numbers) old; found = set_at Standing.Taken numbers versions n old e; placed = inl (given_placed Standing.Taken (is_among n numbers) old); gone = by (is_among n numbers) }
  where
    by : (b : Bool) → is_live_standing old.standing ≡ false → is_live_standing (given Standing.Taken b old).standing ≡ false
    by true h = refl
    by false h = h

swept_gone : (standing : Standing) → is_live_standing standing ≡ false → is_live_standing (swept_standing standing) ≡ false
swept_gone Standing.Taken h = refl
swept_gone Standing.Swept h = refl
swept_gone Standing.Drawn h = absurd (true≢false h)
swept_gone Standing.Current h = absurd (true≢false h)
swept_gone Standing.Superseded h = absurd (true≢false h)

-- one version changes
one_moves : (ok : Change) (number : ℕ) (f : Version → Version) (versions : List Version)
    → ((old : Version) → slice_get versions number ≡ Some old → ((f old).placed ≡ old.placed) ⊎ ok number old.placed (f old).placed)
    → ((old : Version) → slice_get versions number ≡ Some old → is_live_standing old.standing ≡ false → is_live_standing (f old).standing ≡ false)
    → Moves ok versions (change_at number f versions)
one_moves ok number f versions placed gone n old e = by (cases_eq n number)
  where
    by : (n ≡ number) ⊎ (n ≡ number → ⊥) → Moved ok n old (change_at number f versions)
    by (inl same) =
        let here : slice_get versions number ≡ Some old = subst (λ i. slice_get versions i ≡ Some old) same e in
        record {
          new = f old;
          found = subst (λ i. slice_get (change_at number f versions) i ≡ Some (f old)) (sym same) (change_here number f versions old here);
          placed = subst (λ i. ((f old).placed ≡ old.placed) ⊎ ok i old.placed (f old).placed) (sym same) (placed old here);
          gone = gone old here;
        }
    by (inr differ) = record { new = old; found = slice_get-change_at number n f versions differ ∙ e; placed = inl refl; gone = λ h. h }

-- ---- versions that are placed
-- one of the rows, for this version
abbrev pub PlacedBy : List (ℕ × List Placement) → Change
PlacedBy entries n old new = (k : ℕ) × (slice_get entries k ≡ Some (n, new))

place_moves : (entries : List (ℕ × List Placement)) (versions : List Version) → EntriesLive versions entries → Moves (PlacedBy entries) versions (place_all entries versions)
place_moves [] versions live n old e = record { new = old; found = e; placed = inl refl; gone = λ h. h }
place_moves (entry ∷ entries) versions live n old e =
    by (λ mid there. place_moves entries (change_at entry.0 (become_current entry.1) versions) (entries_still entry.0 (become_current entry.1) versions entries (λ _ _. refl) live.1) n mid there) (cases_eq n entry.0)
  where
    changed : List Version
    changed = change_at entry.0 (become_current entry.1) versions

    later : (p : List Placement) → PlacedBy entries n old.placed p → PlacedBy (entry ∷ entries) n old.placed p
    later p h = (suc h.0, h.1)

    by : ((mid : Version) → slice_get changed n ≡ Some mid → Moved (PlacedBy entries) n mid (place_all entries changed)) → (n ≡ entry.0) ⊎ (n ≡ entry.0 → ⊥)
        → Moved (PlacedBy (entry ∷ entries)) n old (place_all entries changed)
    by rest (inl same) =
        let here : slice_get versions entry.0 ≡ Some old = subst (λ i. slice_get versions i ≡ Some old) same e in
        let mid : Version = become_current entry.1 old in
        let there : slice_get changed n ≡ Some mid = subst (λ i. slice_get changed i ≡ Some mid) (sym same) (change_here entry.0 (become_current entry.1) versions old here) in
        let next : Moved (PlacedBy entries) n mid (place_all entries changed) = rest mid there in
        record {
          new = next.new;
          found = next.found;
          placed = inr (here_or_later next.new.placed next.placed);
          gone = λ h. absurd (true≢false (sym (live_at versions entry.0 old live.0 here) ∙ h));
        }
      where
        here_or_later : (p : List Placement) → (p ≡ entry.1) ⊎ PlacedBy entries n entry.1 p → PlacedBy (entry ∷ entries) n old.placed p
        here_or_later p (inl is) = (0, ap Some (λ i. (sym same i, sym is i)))
        here_or_later p (inr h) = (suc h.0, h.1)
    by rest (inr differ) =
        let next : Moved (PlacedBy entries) n old (place_all entries changed) = rest old (slice_get-change_at entry.0 n (become_current entry.1) versions differ ∙ e) in
        record { new = next.new; found = next.found; placed = two next.placed; gone = next.gone }
      where
        two : {p : List Placement} → (p ≡ old.placed) ⊎ PlacedBy entries n old.placed p → (p ≡ old.placed) ⊎ PlacedBy (entry ∷ entries) n old.placed p
        two (inl is) = inl is
        two (inr h) = inr (suc h.0, h.1)

-- ---- a version that is repaired
-- how a server took a chunk
abbrev pub row_at : List Placement → ℕ → Placement
row_at row j = get_or row j (placement.At 0)

-- at one server the chunk may be placed anew
abbrev pub RaisedAt : ℕ → ℕ → List Placement → List Placement → Type 0
RaisedAt server epoch old new = (j : ℕ) → (row_at new j ≡ row_at old j) ⊎ ((j ≡ server) × (row_at new j ≡ placed_anew epoch (row_at old j)))

pub record RaisedBy (server epoch : ℕ) (pins : List Pin) (n : ℕ) (old new : List Placement) : Type 0 where
  pub place : ℕ
  pub pin : Pin
  pub pinned : slice_get pins place ≡ Some pin
  pub of_version : pin.version ≡ n
  pub raised : RaisedAt server epoch old new
  pub size : length new ≡ length old

changed_number : (server j epoch : ℕ) (xs : List Placement)
    → (row_at (change_at server (placed_anew epoch) xs) j ≡ row_at xs j) ⊎ ((j ≡ server) × (row_at (change_at server (placed_anew epoch) xs) j ≡ placed_anew epoch (row_at xs j)))
changed_number server j epoch [] = inl refl
changed_number zero zero epoch (x ∷ xs) = inr (refl, refl)
changed_number zero (suc j) epoch (x ∷ xs) = inl refl
changed_number (suc server) zero epoch (x ∷ xs) = inl refl
changed_number (suc server) (suc j) epoch (x ∷ xs) = by (changed_number server j epoch xs)
  where
    by : (row_at (change_at server (placed_anew epoch) xs) j ≡ row_at xs j) ⊎ ((j ≡ server) × (row_at (change_at server (placed_anew epoch) xs) j ≡ placed_anew epoch (row_at xs j)))
        → (row_at (change_at server (placed_anew epoch) xs) j ≡ row_at xs j) ⊎ ((suc j ≡ suc server) × (row_at (change_at server (placed_anew epoch) xs) j ≡ placed_anew epoch (row_at xs j)))
    by (inl e) = inl e
    by (inr h) = inr (ap suc h.0, h.1)

anew_twice : (epoch : ℕ) (row : Placement) → placed_anew epoch (placed_anew epoch row) ≡ placed_anew epoch row
anew_twice epoch (placement.At earlier) = ap (λ n. placement.At n) (let same : max epoch (max epoch earlier) ≡ max epoch earlier = omega arith in same)
anew_twice epoch (placement.Skipped downs) = ap (λ n. placement.At n) (let same : max epoch epoch ≡ epoch = omega arith in same)

raised_twice : (server epoch : ℕ) (old mid new : List Placement) → RaisedAt server epoch old mid → RaisedAt server epoch mid new → RaisedAt server epoch old new
raised_twice server epoch old mid new one two j = by (one j) (two j)
  where
    by : (row_at mid j ≡ row_at old j) ⊎ ((j ≡ server) × (row_at mid j ≡ placed_anew epoch (row_at old j))) → (row_at new j ≡ row_at mid j) ⊎ ((j ≡ server) × (row_at new j ≡ placed_anew epoch (row_at mid j)))
        → (row_at new j ≡ row_at old j) ⊎ ((j ≡ server) × (row_at new j ≡ placed_anew epoch (row_at old j)))
    by (inl a) (inl b) = inl (b ∙ a)
    by (inl a) (inr b) = inr (b.0, b.1 ∙ ap (placed_anew epoch) a)
    by (inr a) (inl b) = inr (a.0, b ∙ a.1)
    by (inr a) (inr b) = inr (b.0, b.1 ∙ ap (placed_anew epoch) a.1 ∙ anew_twice epoch (row_at old j))

raise_moves : (server epoch : ℕ) (pins : List Pin) (versions : List Version) → Moves (RaisedBy server epoch pins) versions (fold (λ vs pin. change_at pin.version (raise server epoch) vs) versions pins)
raise_moves server epoch [] versions n old e = record { new = old; found = e; placed = inl refl; gone = λ h. h }
raise_moves server epoch (pin ∷ pins) versions n old e = by (λ mid there. raise_moves server epoch pins (change_at pin.version (raise server epoch) versions) n mid there) (cases_eq n pin.version)
  where
    changed : List Version
    changed = change_at pin.version (raise server epoch) versions

    after : List Version
    after = fold (λ vs p. change_at p.version (raise server epoch) vs) changed pins

    later : (old_placed p : List Placement) → RaisedBy server epoch pins n old_placed p → RaisedBy server epoch (pin ∷ pins) n old_placed p
    later old_placed p h = record { place = suc h.place; pin = h.pin; pinned = h.pinned; of_version = h.of_version; raised = h.raised; size = h.size }

    by : ((mid : Version) → slice_get changed n ≡ Some mid → Moved (RaisedBy server epoch pins) n mid after) → (n ≡ pin.version) ⊎ (n ≡ pin.version → ⊥) → Moved (RaisedBy server epoch (pin ∷ pins)) n old after
    by rest (inl same) =
        let here : slice_get versions pin.version ≡ Some old = subst (λ i. slice_get versions i ≡ Some old) same e in
        let mid : Version = raise server epoch old in
        let there : slice_get changed n ≡ Some mid = subst (λ i. slice_get changed i ≡ Some mid) (sym same) (change_here pin.version (raise server epoch) versions old here) in
        let next : Moved (RaisedBy server epoch pins) n mid after = rest mid there in
        record { new = next.new; found = next.found; placed = inr (both next.new.placed next.placed); gone = next.gone }
      where
        first : RaisedAt server epoch old.placed (raise server epoch old).placed
        first j = changed_number server j epoch old.placed

        size : length (raise server epoch old).placed ≡ length old.placed
        size = length-change_at server (placed_anew epoch) old.placed

        both : (p : List Placement) → (p ≡ (raise server epoch old).placed) ⊎ RaisedBy server epoch pins n (raise server epoch old).placed p → RaisedBy server epoch (pin ∷ pins) n old.placed p
        both p (inl is) =
            record { place = 0; pin = pin; pinned = refl; of_version = sym same; raised = subst (RaisedAt server epoch old.placed) (sym is) first; size = ap (λ (l : List Placement). length l) is ∙ size }
        both p (inr h) = record { place = 0; pin = pin; pinned = refl; of_version = sym same; raised = raised_twice server epoch old.placed (raise server epoch old).placed p first h.raised; size = h.size ∙ size }
    by rest (inr differ) =
        let next : Moved (RaisedBy server epoch pins) n old after = rest old (slice_get-change_at pin.version n (raise server epoch) versions differ ∙ e) in
        record { new = next.new; found = next.found; placed = two next.new.placed next.placed; gone = next.gone }
      where
        two : (p : List Placement) → (p ≡ old.placed) ⊎ RaisedBy server epoch pins n old.placed p → (p ≡ old.placed) ⊎ RaisedBy server epoch (pin ∷ pins) n old.placed p
        two p (inl is) = inl is
        two p (inr h) = inr (later old.placed p h)

-- ---- one step
-- where no version comes, and where one comes it has no placements
pub record StepVersions (ok : Change) (before after : List Version) : Type 0 where
  pub moves : Moves ok before after
  pub fresh : (n : ℕ) (new : Version) → slice_get before n ≡ None → slice_get after n ≡ Some new → new.placed ≡ []

none_past : {X : Type 0} (xs : List X) (n : ℕ) → slice_get xs n ≡ None → length xs ≤ n
none_past [] n e = omega arith
none_past (x ∷ xs) zero e = absurd (none-some x (sym e))
none_past (x ∷ xs) (suc n) e = let h : length xs ≤ n = none_past xs n e in omega (arith, h)

-- as many versions as before
as_many : (ok : Change) (before after : List Version) → length after ≡ length before → Moves ok before after → StepVersions ok before after
as_many ok before after same moves =
    record {
      moves = moves;
      fresh = λ n new none e.
          absurd
          (let past : length before ≤ n = none_past before n none in
          let within : n < length after = slice_get_within after n new e in
          omega (arith, same, past, within));
    }

weaker : (some ok : Change) (before after : List Version) → ((n : ℕ) (old new : List Placement) → some n old new → ok n old new) → Moves some before after → Moves ok before after
weaker some ok before after f moves n old e =
    let m : Moved some n old after = moves n old e in
    record { new = m.new; found = m.found; placed = by m.new.placed m.placed; gone = m.gone }
  where
    by : (p : List Placement) → (p ≡ old.placed) ⊎ some n old.placed p → (p ≡ old.placed) ⊎ ok n old.placed p
    by p (inl e) = inl e
    by p (inr h) = inr (f n old.placed p h)

-- one change after another that changes no placements
then_moves : (ok : Change) (before middle after : List Version) → Moves ok before middle → Moves NoChange middle after → Moves ok before after
then_moves ok before middle after one two n old e =
    let m : Moved ok n old middle = one n old e in
    let l : Moved NoChange n m.new after = two n m.new m.found in
    record { new = l.new; found = l.found; placed = by m.new.placed m.placed l.new.placed l.placed; gone = λ h. l.gone (m.gone h) }
  where
    by : (mid : List Placement) → (mid ≡ old.placed) ⊎ ok n old.placed mid → (p : List Placement) → (p ≡ mid) ⊎ ⊥ → (p ≡ old.placed) ⊎ ok n old.placed p
    by mid (inl e) p (inl k) = inl (k ∙ e)
    by mid (inr h) p (inl k) = inr (subst (ok n old.placed) (sym k) h)
    by mid m p (inr h) = absurd h

-- ---- each step at the directory
-- the row of a commit, or the raised epoch of a repair, on a pass that isn't reaped
pub record Committed (placed : List (List Placement)) (found : Option Pass) (n : ℕ) (new : List Placement) : Type 0 where
  pub pass : Pass
  pub is : found ≡ Some pass
  pub live : pass.reaped ≡ None
  pub row : PlacedBy (zip pass.drawn placed) n [] new

pub record Repaired (server epoch : ℕ) (found : Option Pass) (n : ℕ) (old new : List Placement) : Type 0 where
  pub pass : Pass
  pub is : found ≡ Some pass
  pub live : pass.reaped ≡ None
  pub raised : RaisedBy server epoch pass.pinned n old new

-- how placements may change in a step
abbrev pub StepChange : DirectoryStep → Option Pass → Change
StepChange (DirectoryStep.Commit placed) found n old new = Committed placed found n new
StepChange (DirectoryStep.Repaired server epoch) found n old new = Repaired server epoch found n old new
StepChange step found n old new = ⊥

module _ (ok : Change) (d : Directory) (has : HasLive d) where
  abbrev Steps : Directory × Told → Type 0
  Steps after = StepVersions ok d.versions after.0.versions

  still : StepVersions ok d.versions d.versions
  still = as_many ok d.versions d.versions refl (same_moves ok d.versions)

  given_up : (numbers : List ℕ) → AllLive d.versions numbers → StepVersions ok d.versions (set_standing Standing.Superseded numbers d.versions)
  given_up numbers live =
      as_many ok d.versions (set_standing Standing.Superseded numbers d.versions) (length-set_standing Standing.Superseded numbers d.versions)
      (set_moves ok Standing.Superseded numbers d.versions live)

  accept_versions : (who : Actor) (number : ℕ) (note : Note) (kind : Kind) (object : Object) → AllLive d.versions object.versions → Steps (accept who number note d kind object)
  accept_versions who number note Kind.Put object live = still
  accept_versions who number note Kind.Write object live = still
  accept_versions who number note Kind.Stat object live = still
  accept_versions who number note Kind.Delete object live = given_up object.versions live
  accept_versions who number note _ object live = still

  look_versions : (who : Actor) (number : ℕ) (note : Note) (found : Option Object) (refused : Option Reply) → IfSome found (λ object. AllLive d.versions object.versions)
      → Steps (look_by who number note d found refused)
  look_versions who number note found (Some reply) live = still
  look_versions who number note (Some object) None live = accept_versions who number note note.kind object live
  look_versions who number note None None live = accept_versions who number note note.kind _ tt

  repair_versions : (who : Actor) (number : ℕ) (note : Note) (found : Option Object) → Steps (look_repair_by who number note d found)
  repair_versions who number note None = still
  repair_versions who number note (Some object) =
      cond_both {A = Directory × Told} (nat_lt note.offset (length object.versions))
      (begin_pass who number note (seen_at d object note.offset ∷ []) None d, Told.PinnedStripe (seen_at d object note.offset)) (d, Told.NoSuch) Steps (λ _. still) (λ _. still)

  -- on a pass that may be reaped
  unless_versions : (step : Pass → Directory → Directory × Told) (pass : Pass) (reaped : Option ℕ) → (reaped ≡ None → Steps (step pass d)) → Steps (unless_reaped step pass reaped d)
  unless_versions step pass None h = h refl
  unless_versions step pass (Some point) h = still

  on_versions : (step : Pass → Directory → Directory × Told) (found : Option Pass) → IfSome found (λ pass. IsTrue (is_live pass.reaped) → AllLive d.versions pass.drawn)
      → ((pass : Pass) → found ≡ Some pass → pass.reaped ≡ None → AllLive d.versions pass.drawn → Steps (step pass d)) → Steps (on_pass step found d)
  on_versions step None live h = still
  on_versions step (Some pass) live h =
      unless_versions step pass pass.reaped (λ none. h pass refl none (live (subst (λ r. IsTrue (is_live r)) (sym none) refl)))

  found_append : (versions more : List Version) (n : ℕ) (old : Version) → slice_get versions n ≡ Some old → slice_get (versions ++ more) n ≡ Some old
  found_append [] more n old e = absurd (none-some old e)
  found_append (v ∷ versions) more zero old e = e
  found_append (v ∷ versions) more (suc n) old e = found_append versions more n old e

  new_placed : (pass : Pass) (versions : List Version) (stripes : List ℕ) (n : ℕ) (new : Version) → slice_get versions n ≡ None → slice_get (versions ++ map (new_version pass) stripes) n ≡ Some new → new.placed ≡ []
  new_placed pass [] [] n new none e = absurd (none-some new e)
  new_placed pass [] (stripe ∷ stripes) zero new none e = sym (ap (λ (v : Version). v.placed) (same_Some (new_version pass stripe) new e))
  new_placed pass [] (stripe ∷ stripes) (suc n) new none e = new_placed pass [] stripes n new refl e
  new_placed pass (v ∷ versions) stripes zero new none e = absurd (none-some v (sym none))
  new_placed pass (v ∷ versions) stripes (suc n) new none e = new_placed pass versions stripes n new none e

  draw_versions : (pass : Pass) → Steps (draw pass d)
  draw_versions pass =
      record {
        moves = λ n old e. record { new = old; found = found_append d.versions (map (new_version pass) (touched d pass.note)) n old e; placed = inl refl; gone = λ h. h };
        fresh = λ n new none e. new_placed pass d.versions (touched d pass.note) n new none e;
      }

  confirm_versions : (pass : Pass) → Steps (confirm pass d)
  confirm_versions pass =
      cond_both {A = Directory × Told} (list_all (λ pin. is_current d pin.version) pass.pinned)
      (d, Told.Current) (close_pass pass d, Told.Superseded (unwrap_or (last_change pass.note.name d.points) 0)) Steps (λ _. still) (λ _. still)

  repaired_versions : (server epoch : ℕ) (pass : Pass) → ((n : ℕ) (old new : List Placement) → RaisedBy server epoch pass.pinned n old new → ok n old new) → Steps (repaired server epoch pass d)
  repaired_versions server epoch pass into =
      as_many ok d.versions (fold (λ vs pin. change_at pin.version (raise server epoch) vs) d.versions pass.pinned) (length-raised server epoch pass.pinned d.versions)
      (weaker (RaisedBy server epoch pass.pinned) ok d.versions (fold (λ vs pin. change_at pin.version (raise server epoch) vs) d.versions pass.pinned) into (raise_moves server epoch pass.pinned d.versions))

  object_versions : (placed : List (List Placement)) (pass : Pass) (old : Object) → AllLive d.versions pass.drawn → AllLive d.versions old.versions
      → ((n : ℕ) (before new : List Placement) → PlacedBy (zip pass.drawn placed) n before new → ok n before new) → Steps (commit_object placed pass old d)
  object_versions placed pass old live old_live into =
      let now : List Version = place_all (zip pass.drawn placed) d.versions in
      let dropped : List ℕ = dropped_by pass.note.kind d pass old.versions in
      let still_live : AllLive now dropped = dropped_live pass.note.kind d pass now old.versions (placed_still (zip pass.drawn placed) d.versions old.versions old_live) in
      as_many ok d.versions (set_standing Standing.Superseded dropped now) (length-set_standing Standing.Superseded dropped now ∙ length-place_all (zip pass.drawn placed) d.versions)
      (then_moves ok d.versions now (set_standing Standing.Superseded dropped now)
      (weaker (PlacedBy (zip pass.drawn placed)) ok d.versions now into (place_moves (zip pass.drawn placed) d.versions (entries_live d.versions pass.drawn placed live)))
      (set_moves NoChange Standing.Superseded dropped now still_live))

  found_versions : (found : Option Object) (name : List ℕ) → IfSome found (λ object. AllLive d.versions object.versions)
      → AllLive d.versions (unwrap_or found (record { name = name; length = 0; versions = [] })).versions
  found_versions None name h = tt
  found_versions (Some object) name h = h

  commit_versions : (placed : List (List Placement)) (pass : Pass) → AllLive d.versions pass.drawn → ((n : ℕ) (before new : List Placement) → PlacedBy (zip pass.drawn placed) n before new → ok n before new) → Steps (commit placed pass d)
  commit_versions placed pass live into =
      cond_both {A = Directory × Told} (is_overtaken pass.note.kind pass.base (last_change pass.note.name d.points))
      (close_pass pass (give_up_drawn pass d), Told.Changed (unwrap_or pass.base 0) (unwrap_or (last_change pass.note.name d.points) 0))
      (commit_object placed pass (unwrap_or (find_object pass.note.name d.objects) (record { name = pass.note.name; length = 0; versions = [] })) d) Steps
      (λ _. given_up pass.drawn live)
      (λ _. object_versions placed pass (unwrap_or (find_object pass.note.name d.objects) (record { name = pass.note.name; length = 0; versions = [] })) live
      (found_versions (find_object pass.note.name d.objects) pass.note.name (has.objects pass.note.name)) into)

  take_versions : (found : Option ℕ) → Steps (take_garbage found d)
  take_versions None = still
  take_versions (Some version) =
      as_many ok d.versions (set_standing Standing.Taken (version ∷ []) d.versions) (length-set_standing Standing.Taken (version ∷ []) d.versions) (taken_moves ok (version ∷ []) d.versions)

  reap_versions : (pass : Pass) (reaped : Option ℕ) → pass.reaped ≡ reaped → (IsTrue (is_live pass.reaped) → AllLive d.versions pass.drawn) → Steps (reap_pass pass reaped d)
  reap_versions pass (Some point) e live = still
  reap_versions pass None e live = given_up pass.drawn (live (subst (λ r. IsTrue (is_live r)) (sym e) refl))

  reap_any : (found : Option Pass) → IfSome found (λ pass. IsTrue (is_live pass.reaped) → AllLive d.versions pass.drawn) → Steps (reap found d)
  reap_any None live = still
  reap_any (Some pass) live = reap_versions pass pass.reaped refl live

module _ (d : Directory) (has : HasLive d) (who : Actor) (number : ℕ) where
  abbrev StepsOf : DirectoryStep → Directory × Told → Type 0
  StepsOf step after = StepVersions (StepChange step (pass_of who d)) d.versions after.0.versions

  made_versions : (step : DirectoryStep) → StepsOf step (made_at_directory who number step d)
  made_versions (DirectoryStep.Look note) =
      look_versions (StepChange (DirectoryStep.Look note) (pass_of who d)) d has who number note (find_object note.name d.objects) (refusal d.max note (option_map (λ object. object.length) (find_object note.name d.objects))) (has.objects note.name)
  made_versions (DirectoryStep.LookRepair note) = repair_versions (StepChange (DirectoryStep.LookRepair note) (pass_of who d)) d has who number note (find_object note.name d.objects)
  made_versions DirectoryStep.Draw = on_versions (StepChange DirectoryStep.Draw (pass_of who d)) d has draw (pass_of who d) (has.passes who) (λ pass e none live. draw_versions (StepChange DirectoryStep.Draw (pass_of who d)) d has pass)
  made_versions (DirectoryStep.Commit placed) =
      on_versions (StepChange (DirectoryStep.Commit placed) (pass_of who d)) d has (commit placed) (pass_of who d) (has.passes who)
      (λ pass e none live. commit_versions (StepChange (DirectoryStep.Commit placed) (pass_of who d)) d has placed pass live (λ n before new row. record { pass = pass; is = e; live = none; row = row }))
  made_versions DirectoryStep.End =
      on_versions (StepChange DirectoryStep.End (pass_of who d)) d has end_pass (pass_of who d) (has.passes who) (λ pass e none live. given_up (StepChange DirectoryStep.End (pass_of who d)) d has pass.drawn live)
  made_versions DirectoryStep.Confirm =
      on_versions (StepChange DirectoryStep.Confirm (pass_of who d)) d has confirm (pass_of who d) (has.passes who) (λ pass e none live. confirm_versions (StepChange DirectoryStep.Confirm (pass_of who d)) d has pass)
  made_versions (DirectoryStep.Repaired server epoch) =
      on_versions (StepChange (DirectoryStep.Repaired server epoch) (pass_of who d)) d has (repaired server epoch) (pass_of who d) (has.passes who)
      (λ pass e none live. repaired_versions (StepChange (DirectoryStep.Repaired server epoch) (pass_of who d)) d has server epoch pass (λ n old new raised. record { pass = pass; is = e; live = none; raised = raised }))
  made_versions DirectoryStep.NextGarbage = take_versions (StepChange DirectoryStep.NextGarbage (pass_of who d)) d has (first_garbage d)
  made_versions (DirectoryStep.Swept version) =
      as_many (StepChange (DirectoryStep.Swept version) (pass_of who d)) d.versions (change_at version (λ entry. record entry { standing = swept_standing entry.standing }) d.versions)
      (length-change_at version (λ (entry : Version). record entry { standing = swept_standing entry.standing }) d.versions)
      (one_moves (StepChange (DirectoryStep.Swept version) (pass_of who d)) version (λ entry. record entry { standing = swept_standing entry.standing }) d.versions (λ old e. inl refl) (λ old e h. swept_gone old.standing h))
  made_versions (DirectoryStep.Reap reaped) = reap_any (StepChange (DirectoryStep.Reap reaped) (pass_of who d)) d has (pass_of reaped d) (has.passes reaped)

  short_versions : (short takes : Bool) (step : DirectoryStep) → StepsOf step (unless_short short takes who number step d)
  short_versions true true step = still (StepChange step (pass_of who d)) d has
  short_versions true false step = made_versions step
  short_versions false true step = made_versions step
  short_versions false false step = made_versions step

  -- a step at the directory changes a version's placements only by its commit or a repair of it, and one that was taken stays so
  pub versions_move : (short : Bool) (step : DirectoryStep) → StepsOf step (at_directory short who number step d)
  versions_move short step = short_versions short (takes_memory step) step

-- What is known of placed chunks, and that it stays so when versions move and when a server makes a step.
use Rattle.std.proofs.Common.{◌≡◌, ℕ, zero, suc, ◌<◌, ◌≤◌, Bool, List, [], ◌∷◌, length, zip, Option, None, Some, IfSome, All, IsTrue, ◌⊎◌, inl, inr, refl, sym, ap, subst, ◌∙◌, arith}
use Rattle.std.proofs.lemmas.Bool.{cases_eq}
use Rattle.std.proofs.lemmas.Option.{none-some, same_Some}
use Rattle.std.proofs.lemmas.List.Elements.{All-head, All-tail, All-contains}
use Rattle.std.specs.List.{slice_get}
use Rattle.store_map.specs.declared.actor.Actor.{Actor}
use Rattle.store_map.specs.declared.placement.Found.{Found}
use Rattle.store_map.specs.declared.placement.Found.TheVariants as found
use Rattle.store_map.specs.declared.placement.Placement.{Placement}
use Rattle.store_map.specs.declared.placement.Placement.TheVariants as placement
use Rattle.store_core.specs.Act.{DirectoryStep, ServerStep}
use Rattle.store_core.specs.Directory.{Standing, Version, Pin, Pass, Directory}
use Rattle.store_core.specs.Lists.{change_at}
use Rattle.store_core.specs.Lookups.{pass_of, is_live}
use Rattle.store_core.specs.Note.{Kind}
use Rattle.store_core.specs.Placements.{placed_anew}
use Rattle.store_core.specs.Server.{Server, at_server}
use Rattle.store_core.specs.Sound.{IsPlaced, IsSound}
use Rattle.store_core.specs.SoundPasses.{Stands, IsLive}
use Rattle.store_core.specs.Told.{Seen}
use Rattle.store_core.proofs.Places.{slice_get-change_at}
use Rattle.run_laws.proofs.SoundClose.{held_pass}
use Rattle.run_laws.proofs.SoundVersions.{change_here}
use Rattle.history_laws.proofs.KeptVersions.{IsGone}
use Rattle.history_laws.proofs.ServerChunks.{TookOrLost, Keeps, Rises, took_stays}
use Rattle.history_laws.proofs.VersionMoves.{Moved, StepVersions, row_at, Committed, StepChange}

-- ---- rows that rise
abbrev pub RowRises : Placement → Placement → Type 0
RowRises (placement.At earlier) (placement.At later) = earlier ≤ later
RowRises (placement.At earlier) (placement.Skipped downs) = ⊥
RowRises (placement.Skipped downs) row = Unit {0}

same_row : (row : Placement) → RowRises row row
same_row (placement.At epoch) = omega arith
same_row (placement.Skipped downs) = tt

pub row_rises : (a b c : Placement) → RowRises a b → RowRises b c → RowRises a c
row_rises (placement.At x) (placement.At y) (placement.At z) one two = omega (arith, one, two)
row_rises (placement.At x) (placement.At y) (placement.Skipped d) one two = absurd two
row_rises (placement.At x) (placement.Skipped d) c one two = absurd one
row_rises (placement.Skipped d) b c one two = tt

anew_rises : (epoch : ℕ) (row : Placement) → RowRises row (placed_anew epoch row)
anew_rises epoch (placement.At earlier) = omega arith
anew_rises epoch (placement.Skipped downs) = tt

abbrev pub RowsRise : List Placement → List Placement → Type 0
RowsRise old new = (j : ℕ) → RowRises (row_at old j) (row_at new j)

pub rows_same : (row : List Placement) → RowsRise row row
rows_same row j = same_row (row_at row j)

-- ---- versions that move on
pub record Later (old : Version) (n : ℕ) (after : List Version) : Type 0 where
  pub new : Version
  pub found : slice_get after n ≡ Some new
  pub gone : IsGone old → IsGone new
  pub rises : 0 < length old.placed → (0 < length new.placed) × RowsRise old.placed new.placed

pub record Onward (before after : List Version) : Type 0 where
  pub later : (n : ℕ) (old : Version) → slice_get before n ≡ Some old → Later old n after
  pub longer : length before ≤ length after

pub stays_on : (versions : List Version) → Onward versions versions
stays_on versions = record { later = λ n old e. record { new = old; found = e; gone = λ h. h; rises = λ some. (some, rows_same old.placed) }; longer = omega arith }

-- a version is there
pub there_is : {X : Type 0} (xs : List X) (n : ℕ) → n < length xs → (x : X) × (slice_get xs n ≡ Some x)
there_is [] n low = absurd (omega (arith, low))
there_is (x ∷ xs) zero low = (x, refl)
there_is (x ∷ xs) (suc n) low = there_is xs n (omega (arith, low))

-- ---- a step at the directory
zip_left : {X Y : Type 0} (xs : List X) (ys : List Y) (k : ℕ) (x : X) (y : Y) → slice_get (zip xs ys) k ≡ Some (x, y) → slice_get xs k ≡ Some x
zip_left {X} {Y} [] ys k x y e = absurd (none-some {A = X × Y} (x, y) e)
zip_left {X} {Y} (a ∷ xs) [] k x y e = absurd (none-some {A = X × Y} (x, y) e)
zip_left {X} {Y} (a ∷ xs) (b ∷ ys) zero x y e = ap (λ (p : X × Y). Some p.0) (same_Some {A = X × Y} (a, b) (x, y) e)
zip_left (a ∷ xs) (b ∷ ys) (suc k) x y e = zip_left xs ys k x y e

pub all_at : {X : Type 0} (P : X → Type 0) (xs : List X) (k : ℕ) (x : X) → All P xs → slice_get xs k ≡ Some x → P x
all_at P [] k x h e = absurd (none-some x e)
all_at P (a ∷ xs) zero x h e = subst P (same_Some a x e) (All-head P a xs h)
all_at P (a ∷ xs) (suc k) x h e = all_at P xs k x (All-tail P a xs h) e

module _ (d : Directory) (sound : IsSound d) (who : Actor) where
  -- a live pass
  pub live_pass : (pass : Pass) → pass_of who d ≡ Some pass → pass.reaped ≡ None → IsLive d pass
  live_pass pass found none =
      All-contains (λ (p : Pass). IsTrue (is_live p.reaped) → IsLive d p) d.passes pass sound.live (held_pass who d pass found).has
      (subst (λ (r : Option ℕ). IsTrue (is_live r)) (sym none) refl)

  -- a version that a live pass drew has no placements
  drawn_empty : (placed : List (List Placement)) (n : ℕ) (new : List Placement) (old : Version) → slice_get d.versions n ≡ Some old → Committed placed (pass_of who d) n new → old.placed ≡ []
  drawn_empty placed n new old e committed =
      let live : IsLive d committed.pass = live_pass committed.pass committed.is committed.live in
      let stands : Stands d Standing.Drawn n =
      all_at (Stands d Standing.Drawn) committed.pass.drawn committed.row.0 n live.drawn (zip_left committed.pass.drawn placed committed.row.0 n new committed.row.1) in
      let drawn : old.standing ≡ Standing.Drawn = subst (λ (o : Option Version). IfSome o (λ v. v.standing ≡ Standing.Drawn)) e stands.0 in
      (all_at (IsPlaced d) d.versions n old sound.placed e).drawn drawn

  changes : (step : DirectoryStep) (n : ℕ) (old : Version) (new : List Placement) → slice_get d.versions n ≡ Some old → StepChange step (pass_of who d) n old.placed new → 0 < length old.placed
      → (0 < length new) × RowsRise old.placed new
  changes (DirectoryStep.Commit placed) n old new e h some =
      let none : length old.placed ≡ 0 = ap (λ (l : List Placement). length l) (drawn_empty placed n new old e h) in absurd (omega (arith, none, some))
  changes (DirectoryStep.Repaired server epoch) n old new e h some = ((let size : length new ≡ length old.placed = h.raised.size in omega (arith, size, some)), λ j. by j (h.raised.raised j))
    where
      by : (j : ℕ) → (row_at new j ≡ row_at old.placed j) ⊎ ((j ≡ server) × (row_at new j ≡ placed_anew epoch (row_at old.placed j))) → RowRises (row_at old.placed j) (row_at new j)
      by j (inl same) = subst (RowRises (row_at old.placed j)) (sym same) (same_row (row_at old.placed j))
      by j (inr anew) = subst (RowRises (row_at old.placed j)) (sym anew.1) (anew_rises epoch (row_at old.placed j))
  changes step n old new e h some = absurd h

  pub step_onward : (step : DirectoryStep) (after : List Version) → StepVersions (StepChange step (pass_of who d)) d.versions after → length d.versions ≤ length after → Onward d.versions after
  step_onward step after moved longer = record { later = one; longer = longer }
    where
      one : (n : ℕ) (old : Version) → slice_get d.versions n ≡ Some old → Later old n after
      one n old e =
          let m : Moved (StepChange step (pass_of who d)) n old after = moved.moves n old e in
          record { new = m.new; found = m.found; gone = m.gone; rises = λ some. by m.new.placed some m.placed }
        where
          by : (p : List Placement) → 0 < length old.placed → (p ≡ old.placed) ⊎ StepChange step (pass_of who d) n old.placed p → (0 < length p) × RowsRise old.placed p
          by p some (inl same) = (subst (λ (l : List Placement). 0 < length l) (sym same) some, subst (RowsRise old.placed) (sym same) (rows_same old.placed))
          by p some (inr change) = changes step n old p e change some

-- ---- what is said of chunks
module _ (most downs : ℕ → ℕ) where
  -- a server that was away told how often it was made so
  abbrev pub TellsDowns : ℕ → ℕ → Type 0
  TellsDowns j told = (1 ≤ told) × (told ≤ downs j)

  abbrev pub TellsPlaced : ℕ → Placement → Type 0
  TellsPlaced j (placement.At epoch) = Unit {0}
  TellsPlaced j (placement.Skipped told) = TellsDowns j told

  abbrev pub LostSo : ℕ → Placement → Found → Type 0
  LostSo j (placement.At placed) (found.Absent epoch) = (placed < epoch) × (epoch ≤ most j)
  LostSo j (placement.Skipped told) (found.Absent epoch) = epoch ≤ most j
  LostSo j row (found.Away told) = TellsDowns j told

  -- how a server took a chunk
  pub record Took (servers : List Server) (versions : List Version) (j n : ℕ) (row : Placement) : Type 0 where
    pub there : n < length versions
    pub tells : TellsPlaced j row
    pub kept : (version : Version) → slice_get versions n ≡ Some version → (s : Server) → slice_get servers j ≡ Some s → IsGone version ⊎ TookOrLost s n row

  pub took_on : (servers : List Server) (before after : List Version) → Onward before after → (j n : ℕ) (row : Placement) → Took servers before j n row → Took servers after j n row
  took_on servers before after on j n row h =
      record { there = (let low : n < length before = h.there in let long : length before ≤ length after = on.longer in omega (arith, low, long)); tells = h.tells; kept = kept }
    where
      kept : (version : Version) → slice_get after n ≡ Some version → (s : Server) → slice_get servers j ≡ Some s → IsGone version ⊎ TookOrLost s n row
      kept version e s at = by (there_is before n h.there)
        where
          by : (old : Version) × (slice_get before n ≡ Some old) → IsGone version ⊎ TookOrLost s n row
          by (old, was) =
              let l : Later old n after = on.later n old was in
              two l (same_Some l.new version (sym l.found ∙ e)) (h.kept old was s at)
            where
              two : (l : Later old n after) → l.new ≡ version → IsGone old ⊎ TookOrLost s n row → IsGone version ⊎ TookOrLost s n row
              two l same (inl gone) = inl (subst IsGone same (l.gone gone))
              two l same (inr k) = inr k

  -- a step at a server
  pub took_server : (short : Bool) (server : ℕ) (step : ServerStep) (old : Server) (servers : List Server) (versions : List Version) → slice_get servers server ≡ Some old → Rises step old.epoch
      → ((n : ℕ) (version : Version) → slice_get versions n ≡ Some version → Keeps n step ⊎ IsGone version) → (j n : ℕ) (row : Placement) → Took servers versions j n row
      → Took (change_at server (λ _. (at_server short step old).0) servers) versions j n row
  took_server short server step old servers versions found low spares j n row h = record { there = h.there; tells = h.tells; kept = kept }
    where
      kept : (version : Version) → slice_get versions n ≡ Some version → (s : Server) → slice_get (change_at server (λ _. (at_server short step old).0) servers) j ≡ Some s → IsGone version ⊎ TookOrLost s n row
      kept version e s at = by (cases_eq server j)
        where
          by : (server ≡ j) ⊎ (server ≡ j → ⊥) → IsGone version ⊎ TookOrLost s n row
          by (inr differ) = h.kept version e s (sym (slice_get-change_at server j (λ _. (at_server short step old).0) servers (λ k. differ (sym k))) ∙ at)
          by (inl same) =
              let here : slice_get (change_at server (λ _. (at_server short step old).0) servers) server ≡ Some (at_server short step old).0 = change_here server (λ _. (at_server short step old).0) servers old found in
              let is_now : (at_server short step old).0 ≡ s =
              same_Some (at_server short step old).0 s (sym here ∙ subst (λ i. slice_get (change_at server (λ _. (at_server short step old).0) servers) i ≡ Some s) (sym same) at) in
              one is_now (spares n version e) (h.kept version e old (subst (λ i. slice_get servers i ≡ Some old) same found))
            where
              one : (at_server short step old).0 ≡ s → Keeps n step ⊎ IsGone version → IsGone version ⊎ TookOrLost old n row → IsGone version ⊎ TookOrLost s n row
              one is_now keeps (inl gone) = inl gone
              one is_now (inr gone) (inr k) = inl gone
              one is_now (inl keeps) (inr k) = inr (subst (λ (x : Server). TookOrLost x n row) is_now (took_stays old n row short step keeps low k))

  -- ---- a stripe that was looked at
  pub record SeenWell (versions : List Version) (seen : Seen) : Type 0 where
    pub version : Version
    pub found : slice_get versions seen.version ≡ Some version
    pub some : 0 < length version.placed
    pub rises : RowsRise seen.placed version.placed
    pub tells : (j : ℕ) → TellsPlaced j (row_at seen.placed j)

  pub seen_on : (before after : List Version) → Onward before after → (seen : Seen) → SeenWell before seen → SeenWell after seen
  seen_on before after on seen h =
      let l : Later h.version seen.version after = on.later seen.version h.version h.found in
      record {
        version = l.new;
        found = l.found;
        some = (l.rises h.some).0;
        rises = λ j. row_rises (row_at seen.placed j) (row_at h.version.placed j) (row_at l.new.placed j) (h.rises j) ((l.rises h.some).1 j);
        tells = h.tells;
      }

  -- the version was taken by the sweeper, or the chunk was lost
  pub record GoneAt (versions : List Version) (n : ℕ) : Type 0 where
    pub version : Version
    pub found : slice_get versions n ≡ Some version
    pub gone : IsGone version

  pub gone_on : (before after : List Version) → Onward before after → (n : ℕ) → GoneAt before n → GoneAt after n
  gone_on before after on n h = let l : Later h.version n after = on.later n h.version h.found in record { version = l.new; found = l.found; gone = l.gone h.gone }

  abbrev pub MissedSo : List Version → Seen → ℕ → Found → Type 0
  MissedSo versions seen j reason = GoneAt versions seen.version ⊎ LostSo j (row_at seen.placed j) reason

  pub missed_on : (before after : List Version) → Onward before after → (seen : Seen) (j : ℕ) (reason : Found) → MissedSo before seen j reason → MissedSo after seen j reason
  missed_on before after on seen j reason (inl gone) = inl (gone_on before after on seen.version gone)
  missed_on before after on seen j reason (inr lost) = inr lost

-- ---- the pins of an actor's pass
pub record PinsIt (kind : Kind) (n : ℕ) (pins : List Pin) : Type 0 where
  pub place : ℕ
  pub pin : Pin
  pub found : slice_get pins place ≡ Some pin
  pub is : pin.version ≡ n
  pub only : kind ≡ Kind.Rebuild → (k : ℕ) (other : Pin) → slice_get pins k ≡ Some other → other.version ≡ n

abbrev pub Pinned : Actor → Kind → Directory → ℕ → Type 0
Pinned who kind d n = IfSome (pass_of who d) (λ pass. PinsIt kind n pass.pinned)

-- A step of a call keeps what is known of placed chunks, and what the call was told of them.
use Rattle.std.proofs.Common.{◌≡◌, ℕ, zero, suc, ◌<◌, ◌≤◌, Bool, true, false, List, [], ◌∷◌, length, map, Option, Some, IfSome, All, refl, sym, ap, subst, ◌∙◌, arith}
use Rattle.std.proofs.lemmas.Option.{none-some, same_Some}
use Rattle.std.proofs.lemmas.List.Elements.{All-contains}
use Rattle.std.specs.List.{slice_get}
use Rattle.clay_grid.specs.Shape.{Shape, chunk_count}
use Rattle.store_map.specs.declared.actor.Actor.{Actor}
use Rattle.store_map.specs.declared.placement.Placement.{Placement}
use Rattle.store_map.specs.declared.placement.Placement.TheVariants as placement
use Rattle.store_core.specs.Act.{Act, DirectoryStep, ServerStep}
use Rattle.store_core.specs.Directory.{Version, Pin, Pass, Directory}
use Rattle.store_core.specs.Look.{pin_of, placed_of}
use Rattle.store_core.specs.NextAct.{Job, next_by, next_act}
use Rattle.store_core.specs.Note.{Kind}
use Rattle.store_core.specs.Placements.{IsRow}
use Rattle.store_core.specs.Sound.{IsSound}
use Rattle.store_core.specs.SoundPasses.{HasVersions}
use Rattle.store_core.specs.Step.{Places, told_first}
use Rattle.store_core.specs.Told.{Told, Seen}
use Rattle.run_laws.specs.Answers.{DirectoryAnswers}
use Rattle.run_laws.proofs.Commits.{Commits, put_commits as put_drawn, trying_commits}
use Rattle.run_laws.proofs.Falls.{AtCommit}
use Rattle.run_laws.proofs.CallActs.{IsOfRepairers}
use Rattle.run_laws.proofs.Proper.{IsWriting}
use Rattle.run_laws.proofs.SoundClose.{held_pass}
use Rattle.history_laws.proofs.HeardLosses.{IsSaid}
use Rattle.history_laws.proofs.LossesActs.{Known, SeenBy, Missed, There, TookAt, Heard, SaysAt}
use Rattle.history_laws.proofs.LossesCommits.{CommitSays, RepairSays, put_commits, write_commits, rebuild_repairs}
use Rattle.history_laws.proofs.LossesDirectory.{StripesOf, LooksSo}
use Rattle.history_laws.proofs.LossesHeard.{AllSeen, Asking, Installing, HeardBy, heard_more}
use Rattle.history_laws.proofs.LossesRows.{Placing}
use Rattle.history_laws.proofs.LossesState.{RowsRise, rows_same, there_is, all_at, TellsPlaced, PinsIt}
use Rattle.history_laws.proofs.VersionMoves.{row_at}

-- ---- want of memory says nothing
module _ (most downs : ℕ → ℕ) (g : Shape) (who : Actor) (job : Job) (places : Places) where
  placing_short : (a : Act) → Placing (There most downs places) (TookAt most downs places) a Told.Short
  placing_short (Act.AtServer server (ServerStep.Prepare version)) = tt
  placing_short a = tt

  asking_short : (a : Act) → Asking g job.target (Missed most downs places) (SeenBy most downs who job.note.kind places) (There most downs places) (TookAt most downs places) a Told.Short
  asking_short (Act.AtServer server step) = tt
  asking_short a = tt

  installing_short : (a : Act) → Installing g job.target (Missed most downs places) (SeenBy most downs who job.note.kind places) (There most downs places) (TookAt most downs places) a Told.Short
  installing_short (Act.AtServer server (ServerStep.Install version)) = tt
  installing_short a = tt

  short_says : (a : Act) → SaysAt most downs g who job places a Told.Short
  short_says a = record { said = tt; placing = placing_short a; asking = asking_short a; installing = installing_short a; looking = tt }

  pub first_heard : (tries : ℕ) (told : List Told) (coding has : Bool) → Heard most downs g who job places told → Heard most downs g who job places (told_first coding has g job told)
  first_heard tries told true true h =
      heard_more g tries job (Missed most downs places) (SeenBy most downs who job.note.kind places) (There most downs places) (TookAt most downs places) told Told.Short (short_says (next_act g tries job told)) h
  first_heard tries told true false h = h
  first_heard tries told false has h = h

-- ---- what a look tells
stripes_at : (versions : List Version) (stripes : List Seen) (k : ℕ) (seen : Seen) → StripesOf versions stripes → slice_get stripes k ≡ Some seen → seen.placed ≡ placed_of (slice_get versions seen.version)
stripes_at versions [] k seen h e = absurd (none-some seen e)
stripes_at versions (s ∷ stripes) zero seen h e = subst (λ (x : Seen). x.placed ≡ placed_of (slice_get versions x.version)) (same_Some s seen e) h.0
stripes_at versions (s ∷ stripes) (suc k) seen h e = stripes_at versions stripes k seen h.1 e

all_seen : (W : Seen → Type 0) (stripes : List Seen) → ((k : ℕ) (seen : Seen) → slice_get stripes k ≡ Some seen → W seen) → AllSeen W stripes
all_seen W [] h = tt
all_seen W (seen ∷ stripes) h = (h 0 seen refl, all_seen W stripes (λ k s e. h (suc k) s e))

pin_there : (stripes : List Seen) (k : ℕ) (seen : Seen) → slice_get stripes k ≡ Some seen → slice_get (map pin_of stripes) k ≡ Some (pin_of seen)
pin_there [] k seen e = absurd (none-some seen e)
pin_there (s ∷ stripes) zero seen e = ap (λ (x : Seen). Some (pin_of x)) (same_Some s seen e)
pin_there (s ∷ stripes) (suc k) seen e = pin_there stripes k seen e

module _ (most downs : ℕ → ℕ) (places : Places) (now : Directory) (sound : IsSound now) (some : 0 < chunk_count now.shape) (known : Known most downs places) (who : Actor) (kind : Kind) (stripes : List Seen)
    (looks : LooksSo who places.directory now stripes) (only : kind ≡ Kind.Rebuild → (k : ℕ) (other : Pin) (seen : Seen) (j : ℕ) → slice_get (map pin_of stripes) k ≡ Some other → slice_get stripes j ≡ Some seen → other.version ≡ seen.version) where
  looked_at : (k : ℕ) (seen : Seen) → slice_get stripes k ≡ Some seen → SeenBy most downs who kind (record places { directory = now }) seen
  looked_at k seen e = by (there_is now.versions seen.version low)
    where
      pinned_here : slice_get looks.pass.pinned k ≡ Some (pin_of seen)
      pinned_here = subst (λ (l : List Pin). slice_get l k ≡ Some (pin_of seen)) (sym looks.pinned) (pin_there stripes k seen e)

      has : HasVersions now looks.pass
      has = All-contains (HasVersions now) now.passes looks.pass sound.versions (held_pass who now looks.pass looks.found).has

      low : seen.version < length now.versions
      low = all_at (λ (pin : Pin). pin.version < length now.versions) looks.pass.pinned k (pin_of seen) has.pinned pinned_here

      row : IfSome (slice_get now.versions seen.version) (λ version. IsRow now.shape version.placed)
      row =
          all_at (λ (pin : Pin). IfSome (slice_get now.versions pin.version) (λ version. IsRow now.shape version.placed)) looks.pass.pinned k (pin_of seen)
          (All-contains (λ (pass : Pass). All (λ pin. IfSome (slice_get now.versions pin.version) (λ version. IsRow now.shape version.placed)) pass.pinned) now.passes looks.pass sound.pinned_placed (held_pass who now looks.pass looks.found).has) pinned_here

      by : (version : Version) × (slice_get now.versions seen.version ≡ Some version) → SeenBy most downs who kind (record places { directory = now }) seen
      by (version, found) =
          let whole : IsRow now.shape version.placed = subst (λ (o : Option Version). IfSome o (λ v. IsRow now.shape v.placed)) found row in
          let before : slice_get places.directory.versions seen.version ≡ Some version = subst (λ (l : List Version). slice_get l seen.version ≡ Some version) looks.versions found in
          let same : seen.placed ≡ version.placed = stripes_at places.directory.versions stripes k seen looks.rows e ∙ ap placed_of before in (
            record {
              version = version;
              found = found;
              some = (let size : length version.placed ≡ chunk_count now.shape = whole.whole in omega (arith, size, some));
              rises = subst (λ (l : List Placement). RowsRise l version.placed) (sym same) (rows_same version.placed);
              tells = λ j. subst (λ (l : List Placement). TellsPlaced most downs j (row_at l j)) (sym same) (known.tells seen.version version before j);
            },
            subst (λ (o : Option Pass). IfSome o (λ pass. PinsIt kind seen.version pass.pinned)) (sym looks.found)
                (record {
                  place = k;
                  pin = pin_of seen;
                  found = pinned_here;
                  is = refl;
                  only = λ r i other at. only r i other seen k (subst (λ (l : List Pin). slice_get l i ≡ Some other) looks.pinned at) e;
                }),
          )

  pub look_well : AllSeen (SeenBy most downs who kind (record places { directory = now })) stripes
  look_well = all_seen (SeenBy most downs who kind (record places { directory = now })) stripes looked_at

-- of one stripe alone
pub one_stripe : (seen : Seen) (k : ℕ) (other : Pin) (s : Seen) (j : ℕ) → slice_get (map pin_of (seen ∷ [])) k ≡ Some other → slice_get (seen ∷ []) j ≡ Some s → other.version ≡ s.version
one_stripe seen zero other s zero e k = ap (λ (p : Pin). p.version) (sym (same_Some (pin_of seen) other e)) ∙ ap (λ (x : Seen). x.version) (same_Some seen s k)
one_stripe seen (suc i) other s j e k = absurd (none-some other e)
one_stripe seen zero other s (suc j) e k = absurd (none-some s k)

-- ---- rows
pub past_row : (row : List Placement) (j : ℕ) → length row ≤ j → row_at row j ≡ placement.At 0
past_row [] j h = refl
past_row (p ∷ row) zero h = absurd (omega (arith, h))
past_row (p ∷ row) (suc j) h = past_row row j (omega (arith, h))

-- the versions of a call's draw
first_versions : List Told → List ℕ
first_versions (Told.Versions versions ∷ told) = versions
first_versions told = []

pub same_versions : (one other : List ℕ) (more : List Told) → Told.Versions one ∷ [] ≡ Told.Versions other ∷ more → one ≡ other
unfolding first_versions
same_versions one other more e = ap first_versions e

-- a directory's answer is none that stands for a gathering
pub directory_said : (pins touched : ℕ) (step : DirectoryStep) (answer : Told) → DirectoryAnswers pins touched step answer → IsSaid answer
directory_said pins touched (DirectoryStep.Look note) Told.Gathered h = absurd h
directory_said pins touched step Told.Gathered h = absurd h
directory_said pins touched step answer h = tt

pub writes_drawn : (kind : Kind) (g : Shape) (tries : ℕ) (job : Job) (told : List Told) → IsWriting kind → AtCommit (next_by kind g tries job told) → Commits told (next_by kind g tries job told)
writes_drawn Kind.Put g tries job told writes h = put_drawn g job.note told h
writes_drawn Kind.Write g tries job told writes h = trying_commits g tries job.note [] told h
writes_drawn kind g tries job told writes h = absurd writes

module _ (most downs : ℕ → ℕ) (g : Shape) (who : Actor) (job : Job) (places : Places) (tries : ℕ) (told : List Told) where
  pub writes_say : (kind : Kind) → IsWriting kind → HeardBy g job.target (Missed most downs places) (SeenBy most downs who job.note.kind places) (There most downs places) (TookAt most downs places) kind job.note told
      → CommitSays (There most downs places) (TookAt most downs places) (chunk_count g) told (next_by kind g tries job told)
  writes_say Kind.Put writes h = put_commits g (There most downs places) (TookAt most downs places) job.target (Missed most downs places) (SeenBy most downs who job.note.kind places) job.note told h
  writes_say Kind.Write writes h = write_commits g (There most downs places) (TookAt most downs places) job.target (Missed most downs places) (SeenBy most downs who job.note.kind places) tries job.note [] told h
  writes_say kind writes h = absurd writes

  pub repairs_say : (kind : Kind) → IsOfRepairers kind → HeardBy g job.target (Missed most downs places) (SeenBy most downs who job.note.kind places) (There most downs places) (TookAt most downs places) kind job.note told
      → RepairSays g (There most downs places) (TookAt most downs places) job.target (Missed most downs places) (SeenBy most downs who job.note.kind places) (next_by kind g tries job told)
  repairs_say Kind.Rebuild rebuilds h = rebuild_repairs g (There most downs places) (TookAt most downs places) job.target (Missed most downs places) (SeenBy most downs who job.note.kind places) job.note told h
  repairs_say kind rebuilds h = absurd rebuilds

pub is_rebuild : (kind : Kind) → IsOfRepairers kind → kind ≡ Kind.Rebuild
is_rebuild Kind.Rebuild h = refl
is_rebuild kind h = absurd h

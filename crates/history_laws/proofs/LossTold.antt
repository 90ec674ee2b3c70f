-- What a call was told of placed and lost chunks, as steps of the trace.
use Rattle.std.proofs.Common.{◌≡◌, ℕ, zero, suc, ◌<◌, Bool, List, [], ◌∷◌, ◌++◌, length, Option, None, Some, refl, sym, ap, subst, ◌∙◌, arith}
use Rattle.std.proofs.lemmas.Option.{none-some, same_Some}
use Rattle.std.specs.List.{slice_get}
use Rattle.clay_grid.specs.Shape.{Shape}
use Rattle.store_map.specs.declared.actor.Actor.{Actor}
use Rattle.store_map.specs.declared.placement.Found.{Found}
use Rattle.store_map.specs.declared.placement.Found.TheVariants as found
use Rattle.store_map.specs.declared.placement.Placement.{Placement}
use Rattle.store_map.specs.declared.placement.Placement.TheVariants as placement
use Rattle.store_core.specs.Act.{Act, ServerStep}
use Rattle.store_core.specs.Directory.{Version, Directory}
use Rattle.store_core.specs.Look.{placed_of}
use Rattle.store_core.specs.NextAct.{Job}
use Rattle.store_core.specs.Note.{Kind}
use Rattle.store_core.specs.Server.{Server, at_server}
use Rattle.store_core.specs.Told.{Told, Seen}
use Rattle.run_laws.specs.Answers.{ServerAnswers}
use Rattle.history_laws.proofs.HeardLosses.{IsAskOf}
use Rattle.history_laws.proofs.LossesDirectory.{StripesOf}
use Rattle.history_laws.proofs.LossesHeard.{AllSeen, Asking, Installing, Looking, Says, HeardBy}
use Rattle.history_laws.proofs.LossesRows.{Placing}
use Rattle.history_laws.proofs.LossesServer.{server_said}
use Rattle.history_laws.proofs.LossesState.{Pinned}
use Rattle.history_laws.proofs.VersionMoves.{row_at}
use Rattle.history_laws.specs.Trace.{Made}
use Rattle.history_laws.specs.Moments.{Happened, IsFoundThen, IsPlacedThen}
use Rattle.history_laws.specs.LostChunks.{AsksFor, TellsPlacement, PlacesChunk as PlacesIt, TellsSeen}
use Rattle.history_laws.proofs.Counts.{Counted}
use Rattle.history_laws.proofs.Past.{last}
use Rattle.history_laws.proofs.ServerTells.{FoundNow, PlacedNow, TellsNow, tells_now}
use Rattle.history_laws.proofs.Within.{Own}

-- ---- the words of the law, for an actor's call
-- a chunk was placed
abbrev pub Placed : List Made → ℕ → ℕ → Placement → Type 0
Placed trace server version row = Happened trace (PlacesIt server version row)

-- by a step of the call
abbrev pub OwnPlaces : Actor → ℕ → ℕ → ℕ → Placement → List Made → Made → Type 0
OwnPlaces who number server version row before made = Own who number made × PlacesIt server version row before made

abbrev pub OwnLooks : Actor → ℕ → Seen → List Made → Made → Type 0
OwnLooks who number seen before made = Own who number made × TellsSeen seen made.answer × ((server : ℕ) (row : Placement) → slice_get seen.placed server ≡ Some row → Placed before server seen.version row)

abbrev pub OwnLacks : Actor → ℕ → Seen → ℕ → Found → List Made → Made → Type 0
OwnLacks who number seen server reason before made =
    Own who number made × ((step : ServerStep) × (made.act ≡ Act.AtServer server step) × AsksFor seen.version step) × (made.answer ≡ Told.Missing reason) × IsFoundThen server before reason
    × Happened before (OwnLooks who number seen)

-- what a call heard: P, W, D and Q of the laws on losses
abbrev pub Lost : List Made → Actor → ℕ → Seen → ℕ → Found → Type 0
Lost trace who number seen server reason = Happened trace (OwnLacks who number seen server reason)

abbrev pub Looked : List Made → Directory → Actor → ℕ → Kind → Seen → Type 0
Looked trace d who number kind seen = Happened trace (OwnLooks who number seen) × Pinned who kind d seen.version

abbrev pub Any : ℕ → Type 0
Any version = Unit {0}

abbrev pub Took : List Made → Actor → ℕ → ℕ → ℕ → Placement → Type 0
Took trace who number server version row = Happened trace (OwnPlaces who number server version row)

abbrev pub HeardThen : Shape → List Made → Directory → Actor → ℕ → Job → List Told → Type 0
HeardThen g trace d who number job told = HeardBy g job.target (Lost trace who number) (Looked trace d who number job.note.kind) Any (Took trace who number) job.note.kind job.note told

abbrev pub SaysThen : Shape → List Made → Directory → Actor → ℕ → Job → Act → Told → Type 0
SaysThen g trace d who number job act answer = Says g job.target (Lost trace who number) (Looked trace d who number job.note.kind) Any (Took trace who number) act answer

-- each placement of a version came about
abbrev pub RowsThen : List Made → List Version → Type 0
RowsThen trace versions = (n : ℕ) (version : Version) → slice_get versions n ≡ Some version → (j : ℕ) → j < length version.placed → Placed trace j n (row_at version.placed j)

-- ---- counts
counted_found : (trace : List Made) (j : ℕ) (s : Server) (reason : Found) → Counted trace j s → FoundNow s reason → IsFoundThen j trace reason
counted_found trace j s (found.Absent epoch) c h = h ∙ c.epoch
counted_found trace j s (found.Away told) c h = h ∙ c.downs_told

counted_placed : (trace : List Made) (j : ℕ) (s : Server) (row : Placement) → Counted trace j s → PlacedNow s row → IsPlacedThen j trace row
counted_placed trace j s (placement.At epoch) c h = h ∙ c.epoch
counted_placed trace j s (placement.Skipped told) c h = h ∙ c.downs_told

-- an ask is one
asks_for : (version : ℕ) (step : ServerStep) → IsAskOf version step → AsksFor version step
asks_for version (ServerStep.Has other) h = h
asks_for version (ServerStep.Fetch other layers) h = h
asks_for version step h = absurd h

-- ---- what a step at a server says
module _ (g : Shape) (trace : List Made) (d : Directory) (who : Actor) (number : ℕ) (job : Job) (made : Made) (own : Own who number made) where
  abbrev more : List Made
  more = trace ++ made ∷ []

  module _ (short : Bool) (server : ℕ) (step : ServerStep) (s : Server) (counted : Counted trace server s) (is_act : made.act ≡ Act.AtServer server step) (is_answer : made.answer ≡ (at_server short step s).1)
      (answers : ServerAnswers step (at_server short step s).1)
      (before : (seen : Seen) → Looked more d who number job.note.kind seen → Happened trace (OwnLooks who number seen)) where
    abbrev answer : Told
    answer = (at_server short step s).1

    now : TellsNow s answer
    now = tells_now short step s

    took : (version : ℕ) (row : Placement) → TellsPlacement version step made.answer row → PlacedNow s row → Took more who number server version row
    took version row tells placed = last (OwnPlaces who number server version row) trace made (own, (step, is_act, tells, counted_placed trace server s row counted placed))

    placing_so : Placing Any (Took more who number) (Act.AtServer server step) answer
    placing_so = by step (at_server short step s).1 refl refl answers now
      where
        by : (x : ServerStep) (a : Told) → step ≡ x → (at_server short step s).1 ≡ a → ServerAnswers x a → TellsNow s a → Placing Any (Took more who number) (Act.AtServer server x) a
        by (ServerStep.Prepare version) (Told.Prepared row) is same h t =
            λ any. took version row
            (subst (λ y. TellsPlacement version y made.answer row) (sym is) (subst (λ b. TellsPlacement version (ServerStep.Prepare version) b row) (sym (is_answer ∙ same)) (refl, refl))) t
        by (ServerStep.Prepare version) (Told.Versions versions) is same h t = absurd h
        by (ServerStep.Prepare version) a is same h t = tt
        by x (Told.Prepared row) is same h t = absurd h
        by x (Told.Versions versions) is same h t = absurd h
        by x a is same h t = tt

    asking_so : Asking g job.target (Lost more who number) (Looked more d who number job.note.kind) Any (Took more who number) (Act.AtServer server step) answer
    asking_so = by (at_server short step s).1 refl now
      where
        by : (a : Told) → (at_server short step s).1 ≡ a → TellsNow s a → Asking g job.target (Lost more who number) (Looked more d who number job.note.kind) Any (Took more who number) (Act.AtServer server step) a
        by (Told.Missing reason) same t =
            λ seen w asks. last (OwnLacks who number seen server reason) trace made (own, (step, is_act, asks_for seen.version step asks), is_answer ∙ same, counted_found trace server s reason counted t, before seen w)
        by a same t = tt

    installing_so : Installing g job.target (Lost more who number) (Looked more d who number job.note.kind) Any (Took more who number) (Act.AtServer server step) answer
    installing_so = by step (at_server short step s).1 refl refl now
      where
        by : (x : ServerStep) (a : Told) → step ≡ x → (at_server short step s).1 ≡ a → TellsNow s a
            → Installing g job.target (Lost more who number) (Looked more d who number job.note.kind) Any (Took more who number) (Act.AtServer server x) a
        by (ServerStep.Install version) (Told.Placed epoch) is same t =
            λ seen w of. took version (placement.At epoch)
            (subst (λ y. TellsPlacement version y made.answer (placement.At epoch)) (sym is) (subst (λ b. TellsPlacement version (ServerStep.Install version) b (placement.At epoch)) (sym (is_answer ∙ same)) (refl, refl))) t
        by x a is same t = tt

    looking_so : Looking g job.target (Lost more who number) (Looked more d who number job.note.kind) Any (Took more who number) answer
    looking_so = by step (at_server short step s).1 answers
      where
        by : (x : ServerStep) (a : Told) → ServerAnswers x a → Looking g job.target (Lost more who number) (Looked more d who number job.note.kind) Any (Took more who number) a
        by (ServerStep.Prepare version) (Told.Pinned point length_now stripes) k = absurd k
        by x (Told.Pinned point length_now stripes) k = absurd k
        by (ServerStep.Prepare version) (Told.Ready base length_now stripes) k = absurd k
        by x (Told.Ready base length_now stripes) k = absurd k
        by (ServerStep.Prepare version) (Told.PinnedStripe seen) k = absurd k
        by x (Told.PinnedStripe seen) k = absurd k
        by x a k = tt

    pub server_says : SaysThen g more d who number job (Act.AtServer server step) answer
    server_says = record { said = server_said step (at_server short step s).1 answers; placing = placing_so; asking = asking_so; installing = installing_so; looking = looking_so }

-- ---- what a look says
pub all_seen : (W : Seen → Type 0) (stripes : List Seen) → ((k : ℕ) (seen : Seen) → slice_get stripes k ≡ Some seen → W seen) → AllSeen W stripes
all_seen W [] h = tt
all_seen W (seen ∷ stripes) h = (h 0 seen refl, all_seen W stripes (λ k s e. h (suc k) s e))

stripes_at : (versions : List Version) (stripes : List Seen) (k : ℕ) (seen : Seen) → StripesOf versions stripes → slice_get stripes k ≡ Some seen → seen.placed ≡ placed_of (slice_get versions seen.version)
stripes_at versions [] k seen h e = absurd (none-some seen e)
stripes_at versions (s ∷ stripes) zero seen h e = subst (λ (x : Seen). x.placed ≡ placed_of (slice_get versions x.version)) (same_Some s seen e) h.0
stripes_at versions (s ∷ stripes) (suc k) seen h e = stripes_at versions stripes k seen h.1 e

-- an entry of a row
pub row_entry : (row : List Placement) (j : ℕ) (p : Placement) → slice_get row j ≡ Some p → (j < length row) × (row_at row j ≡ p)
row_entry [] j p e = absurd (none-some p e)
row_entry (q ∷ row) zero p e = ((let low : 0 < length (q ∷ row) = omega arith in low), same_Some q p e)
row_entry (q ∷ row) (suc j) p e = let h : (j < length row) × (row_at row j ≡ p) = row_entry row j p e in ((let low : j < length row = h.0 in omega (arith, low)), h.1)

-- what a look tells of a stripe came about
pub seen_rows : (trace : List Made) (versions : List Version) → RowsThen trace versions → (stripes : List Seen) → StripesOf versions stripes → (k : ℕ) (seen : Seen) → slice_get stripes k ≡ Some seen
    → (server : ℕ) (row : Placement) → slice_get seen.placed server ≡ Some row → Placed trace server seen.version row
seen_rows trace versions rows stripes of k seen e server row is = by (slice_get versions seen.version) refl (stripes_at versions stripes k seen of e)
  where
    by : (found : Option Version) → slice_get versions seen.version ≡ found → seen.placed ≡ placed_of found → Placed trace server seen.version row
    by None there same = absurd (none-some row (ap (λ (l : List Placement). slice_get l server) (sym same) ∙ is))
    by (Some version) there same =
        let entry : (server < length version.placed) × (row_at version.placed server ≡ row) = row_entry version.placed server row (ap (λ (l : List Placement). slice_get l server) (sym same) ∙ is) in
        subst (Placed trace server seen.version) entry.1 (rows seen.version version there server entry.0)

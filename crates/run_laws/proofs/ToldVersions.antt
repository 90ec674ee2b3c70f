-- The versions that a call was told, after one answer more.
use Rattle.std.proofs.Common.{◌≡◌, ℕ, List, [], ◌∷◌, ◌++◌, filter, refl, sym, ap, ◌∙◌}
use Rattle.std.proofs.lemmas.List.{append-nil}
use Rattle.std.proofs.lemmas.List.Elements.{filter-append}
use Rattle.clay_grid.specs.Shape.{Shape}
use Rattle.store_core.specs.Told.{Seen, Told}
use Rattle.store_core.specs.Note.{Note, Kind}
use Rattle.store_core.specs.Gathering.{Gathering, Part}
use Rattle.store_core.specs.GatheringParts.{gather_part, gather_chunk}
use Rattle.store_core.specs.Read.{parts_of}
use Rattle.store_core.specs.Write.{old_parts}
use Rattle.store_core.specs.NextAct.{Job}
use Rattle.store_core.specs.Tell.{is_versions, is_changed, in_one, cut_parts, cut_read, cut_write, cut_chunk, cut_rebuild, cut_by, tell}
use Rattle.run_laws.proofs.Filters.{KeepsMarks, part_keeps, chunk_keeps}

-- those among what was told
abbrev pub versions_told : List Told → List Told
versions_told told = filter is_versions told

-- ---- cuts keep them
-- a gathering in one entry has none among it
in_one_kept : (since : List Told → List Told) → ((rest : List Told) → versions_told (since rest) ≡ versions_told rest) → (result : Gathering) (told : List Told) → KeepsMarks told result
    → versions_told (in_one since result told) ≡ versions_told told
in_one_kept since later (Gathering.HasBytes rest) told keeps = later rest ∙ sym keeps.0
in_one_kept since later (Gathering.Asks server step) told keeps = refl
in_one_kept since later (Gathering.TooMany missing rest) told keeps = refl
in_one_kept since later (Gathering.AtTarget rest) told keeps = refl
in_one_kept since later (Gathering.TargetAway downs rest) told keeps = refl
in_one_kept since later (Gathering.Short rest) told keeps = refl

module _ (g : Shape) where
  -- nor have those of several parts
  parts_kept : (parts : List Part) (told : List Told) → versions_told (cut_parts g parts told) ≡ versions_told told
  parts_kept [] told = refl
  parts_kept (part ∷ parts) [] = in_one_kept (cut_parts g parts) (parts_kept parts) (gather_part g part []) [] (part_keeps g part [])
  parts_kept (part ∷ parts) (Told.Gathered ∷ told) = parts_kept parts told
  parts_kept (part ∷ parts) (other ∷ told) = in_one_kept (cut_parts g parts) (parts_kept parts) (gather_part g part (other ∷ told)) (other ∷ told) (part_keeps g part (other ∷ told))

  -- cuts of a get or a read
  read_kept : (note : Note) (told : List Told) → versions_told (cut_read g note told) ≡ versions_told told
  read_kept note [] = refl
  read_kept note (Told.Pinned point length_now stripes ∷ told) = parts_kept (parts_of g note length_now stripes) told
  read_kept note (_ ∷ told) = refl

  -- of a write
  write_kept : (told : List Told) → versions_told (cut_write g told) ≡ versions_told told
  write_kept [] = refl
  write_kept (Told.Changed base newer ∷ told) = write_kept told
  write_kept (Told.Ready base length_now stripes ∷ told) = parts_kept (old_parts g length_now stripes) told
  write_kept (_ ∷ told) = refl

  -- of a rebuild's chunk
  chunk_kept : (seen : Seen) (target : ℕ) (told : List Told) → versions_told (cut_chunk g seen target told) ≡ versions_told told
  chunk_kept seen target [] = in_one_kept (λ rest. rest) (λ rest. refl) (gather_chunk g seen target []) [] (chunk_keeps g seen target [])
  chunk_kept seen target (Told.Gathered ∷ told) = refl
  chunk_kept seen target (other ∷ told) = in_one_kept (λ rest. rest) (λ rest. refl) (gather_chunk g seen target (other ∷ told)) (other ∷ told) (chunk_keeps g seen target (other ∷ told))

  -- of a rebuild
  rebuild_kept : (target : ℕ) (told : List Told) → versions_told (cut_rebuild g target told) ≡ versions_told told
  rebuild_kept target [] = refl
  rebuild_kept target (Told.PinnedStripe seen ∷ told) = chunk_kept seen target told
  rebuild_kept target (_ ∷ told) = refl

-- of any call
cut_kept : (kind : Kind) (g : Shape) (job : Job) (told : List Told) → versions_told (cut_by kind g job told) ≡ versions_told told
cut_kept Kind.Put g job told = refl
cut_kept Kind.Write g job told = write_kept g told
cut_kept Kind.Get g job told = read_kept g job.note told
cut_kept Kind.ReadAt g job told = read_kept g job.note told
cut_kept Kind.Stat g job told = refl
cut_kept Kind.Delete g job told = refl
cut_kept Kind.Rebuild g job told = rebuild_kept g job.target told

-- ---- one answer more
-- a draw's answer adds its versions, a change takes all away
abbrev pub VersionsMove : Told → List Told → List Told → Type 0
VersionsMove (Told.Versions drawn) before after = after ≡ before ++ Told.Versions drawn ∷ []
VersionsMove (Told.Changed base newer) before after = after ≡ []
VersionsMove (Told.Done point) before after = Unit {0}
VersionsMove answer before after = after ≡ before

-- what is kept after a change has no versions
no_versions_changed : (told : List Told) (base newer : ℕ) → versions_told (filter is_changed told ++ Told.Changed base newer ∷ []) ≡ []
no_versions_changed [] base newer = refl
no_versions_changed (Told.Changed old new ∷ told) base newer = no_versions_changed told base newer
no_versions_changed (_ ∷ told) base newer = no_versions_changed told base newer

-- one answer more stands at the end
pushed : (g : Shape) (job : Job) (told more : List Told) → versions_told (cut_by job.note.kind g job (told ++ more)) ≡ versions_told told ++ versions_told more
pushed g job told more = cut_kept job.note.kind g job (told ++ more) ∙ filter-append is_versions told more

-- an answer that is no draw adds none
plain : (g : Shape) (job : Job) (told : List Told) (answer : Told) → versions_told (answer ∷ []) ≡ [] → versions_told (cut_by job.note.kind g job (told ++ answer ∷ [])) ≡ versions_told told
plain g job told answer none = pushed g job told (answer ∷ []) ∙ ap (λ l. versions_told told ++ l) none ∙ append-nil (versions_told told)

-- how the versions that were told go with each answer
pub versions_move : (g : Shape) (job : Job) (told : List Told) (answer : Told) → VersionsMove answer (versions_told told) (versions_told (tell g job told answer))
versions_move g job told (Told.Versions drawn) = pushed g job told (Told.Versions drawn ∷ [])
versions_move g job told (Told.Changed base newer) = no_versions_changed told base newer
versions_move g job told (Told.Done point) = tt
versions_move g job told answer = plain g job told answer refl

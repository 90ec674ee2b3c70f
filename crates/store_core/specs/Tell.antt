-- What of the answers to a call is kept when it is told one thing more.
use Rattle.std.specs.Prelude.{ℕ, Bool, true, false, List, [], ◌∷◌, ◌++◌, filter}
use Rattle.clay_grid.specs.Shape.{Shape}
use Rattle.store_core.specs.Note.{Note, Kind}
use Rattle.store_core.specs.Told.{Told, Seen}
use Rattle.store_core.specs.Gathering.{Gathering, Part}
use Rattle.store_core.specs.GatheringParts.{gather_part, gather_chunk}
use Rattle.store_core.specs.Read.{parts_of}
use Rattle.store_core.specs.Write.{old_parts}
use Rattle.store_core.specs.NextAct.{Job}

-- a gathering that has its bytes is told in one entry, with what was told since
abbrev pub in_one : (List Told → List Told) → Gathering → List Told → List Told
in_one since (Gathering.HasBytes rest) told = Told.Gathered ∷ since rest
in_one since _ told = told

-- of several parts, each that has its bytes
abbrev pub cut_parts : Shape → List Part → List Told → List Told
cut_parts g [] told = told
cut_parts g (part ∷ parts) (Told.Gathered ∷ told) = Told.Gathered ∷ cut_parts g parts told
cut_parts g (part ∷ parts) told = in_one (cut_parts g parts) (gather_part g part told) told

-- the gathering of a get or a read
abbrev pub cut_read : Shape → Note → List Told → List Told
cut_read g note (Told.Pinned point length stripes ∷ told) =
    Told.Pinned point length stripes ∷ cut_parts g (parts_of g note length stripes) told
cut_read g note told = told

-- that of a write, after the changes that it was told
abbrev pub cut_write : Shape → List Told → List Told
cut_write g (Told.Changed base newer ∷ told) = Told.Changed base newer ∷ cut_write g told
cut_write g (Told.Ready base length stripes ∷ told) = Told.Ready base length stripes ∷ cut_parts g (old_parts g length stripes) told
cut_write g told = told

-- the gathering of a chunk
abbrev pub cut_chunk : Shape → Seen → ℕ → List Told → List Told
cut_chunk g seen target (Told.Gathered ∷ told) = Told.Gathered ∷ told
cut_chunk g seen target told = in_one (λ rest. rest) (gather_chunk g seen target told) told

-- that of a rebuild
abbrev pub cut_rebuild : Shape → ℕ → List Told → List Told
cut_rebuild g target (Told.PinnedStripe seen ∷ told) = Told.PinnedStripe seen ∷ cut_chunk g seen target told
cut_rebuild g target told = told

-- what was told, with each gathering in one entry that has its bytes
abbrev pub cut_by : Kind → Shape → Job → List Told → List Told
cut_by Kind.Get g job told = cut_read g job.note told
cut_by Kind.ReadAt g job told = cut_read g job.note told
cut_by Kind.Write g job told = cut_write g told
cut_by Kind.Rebuild g job told = cut_rebuild g job.target told
cut_by _ g job told = told

-- what is kept after a commit
abbrev pub is_versions : Told → Bool
is_versions (Told.Versions versions) = true
is_versions _ = false

-- what is kept after a change
abbrev pub is_changed : Told → Bool
is_changed (Told.Changed base newer) = true
is_changed _ = false

-- after a commit only its versions and its point are kept, after a change only the pairs
abbrev pub tell_by : Kind → Shape → Job → List Told → Told → List Told
tell_by kind g job told (Told.Done point) = filter is_versions told ++ Told.Done point ∷ []
tell_by kind g job told (Told.Changed base newer) = filter is_changed told ++ Told.Changed base newer ∷ []
tell_by kind g job told answer = cut_by kind g job (told ++ answer ∷ [])

-- the answers to a call and one more
abbrev pub tell : Shape → Job → List Told → Told → List Told
tell g job told answer = tell_by job.note.kind g job told answer

-- A cut changes no act.
use Rattle.std.proofs.Common.{◌≡◌, ℕ, List, [], ◌∷◌, ◌++◌, refl}
use Rattle.clay_grid.specs.Shape.{Shape}
use Rattle.store_core.specs.Told.{Told, Seen}
use Rattle.store_core.specs.Note.{Note, Kind}
use Rattle.store_core.specs.Act.{Act, Outcome}
use Rattle.store_core.specs.Gathering.{Gathering, Part}
use Rattle.store_core.specs.GatheringParts.{gather_part, gather_chunk, act_of, gathering, ending}
use Rattle.store_core.specs.Put.{drawing}
use Rattle.store_core.specs.Read.{parts_of, next_read}
use Rattle.store_core.specs.Write.{old_parts, trying}
use Rattle.store_core.specs.Rebuild.{confirming, rebuilding, next_rebuild}
use Rattle.store_core.specs.NextAct.{Job, next_by}
use Rattle.store_core.specs.Tell.{in_one, cut_parts, cut_read, cut_write, cut_chunk, cut_rebuild, cut_by}
use Rattle.run_laws.specs.CutLaws.{CutsChangeNoAct}

-- one gathering, by what it has come to
one : (g : Shape) (part : Part) (parts : List Part) (next : List Told → Act) → ((told : List Told) → gathering g parts next (cut_parts g parts told) ≡ gathering g parts next told)
    → (told : List Told) (result : Gathering) → gathering g (part ∷ parts) next told ≡ act_of part.seen.stripe (gathering g parts next) result
    → gathering g (part ∷ parts) next (in_one (cut_parts g parts) result told) ≡ act_of part.seen.stripe (gathering g parts next) result
one g part parts next rest told (Gathering.Asks server step) e = e
one g part parts next rest told (Gathering.HasBytes since) e = rest since
one g part parts next rest told (Gathering.TooMany missing since) e = e
one g part parts next rest told (Gathering.AtTarget since) e = e
one g part parts next rest told (Gathering.TargetAway downs since) e = e
one g part parts next rest told (Gathering.Short since) e = e

parts_cut : (g : Shape) (parts : List Part) (next : List Told → Act) (told : List Told) → gathering g parts next (cut_parts g parts told) ≡ gathering g parts next told
parts_cut g [] next told = refl
parts_cut g (part ∷ parts) next (Told.Gathered ∷ told) = parts_cut g parts next told
parts_cut g (part ∷ parts) next told = one g part parts next (parts_cut g parts next) told (gather_part g part told) refl

read_cut : (g : Shape) (note : Note) (told : List Told) → next_read g note (cut_read g note told) ≡ next_read g note told
read_cut g note (Told.Pinned point length stripes ∷ told) = parts_cut g (parts_of g note length stripes) (ending (Outcome.Served point)) told
read_cut g note told = refl

write_cut : (g : Shape) (tries : ℕ) (note : Note) (pairs : List (ℕ × ℕ)) (told : List Told) → trying g tries note pairs (cut_write g told) ≡ trying g tries note pairs told
write_cut g tries note pairs (Told.Changed base newer ∷ told) = write_cut g tries note (pairs ++ (base, newer) ∷ []) told
write_cut g tries note pairs (Told.Ready base length stripes ∷ told) = parts_cut g (old_parts g length stripes) (drawing g note) told
write_cut g tries note pairs told = refl

one_chunk : (g : Shape) (seen : Seen) (target : ℕ) (told : List Told) (result : Gathering)
    → rebuilding g seen target told ≡ act_of seen.stripe (confirming seen target) result
    → rebuilding g seen target (in_one (λ rest. rest) result told) ≡ act_of seen.stripe (confirming seen target) result
one_chunk g seen target told (Gathering.Asks server step) e = e
one_chunk g seen target told (Gathering.HasBytes since) e = refl
one_chunk g seen target told (Gathering.TooMany missing since) e = e
one_chunk g seen target told (Gathering.AtTarget since) e = e
one_chunk g seen target told (Gathering.TargetAway downs since) e = e
one_chunk g seen target told (Gathering.Short since) e = e

chunk_cut : (g : Shape) (seen : Seen) (target : ℕ) (told : List Told) → rebuilding g seen target (cut_chunk g seen target told) ≡ rebuilding g seen target told
chunk_cut g seen target (Told.Gathered ∷ told) = refl
chunk_cut g seen target told = one_chunk g seen target told (gather_chunk g seen target told) refl

rebuild_cut : (g : Shape) (note : Note) (target : ℕ) (told : List Told) → next_rebuild g note target (cut_rebuild g target told) ≡ next_rebuild g note target told
rebuild_cut g note target (Told.PinnedStripe seen ∷ told) = chunk_cut g seen target told
rebuild_cut g note target told = refl

by_kind : (kind : Kind) (g : Shape) (tries : ℕ) (job : Job) (told : List Told) → next_by kind g tries job (cut_by kind g job told) ≡ next_by kind g tries job told
by_kind Kind.Put g tries job told = refl
by_kind Kind.Write g tries job told = write_cut g tries job.note [] told
by_kind Kind.Get g tries job told = read_cut g job.note told
by_kind Kind.ReadAt g tries job told = read_cut g job.note told
by_kind Kind.Stat g tries job told = refl
by_kind Kind.Delete g tries job told = refl
by_kind Kind.Rebuild g tries job told = rebuild_cut g job.note job.target told

pub cuts_change_no_act : CutsChangeNoAct
cuts_change_no_act g tries job told = by_kind job.note.kind g tries job told

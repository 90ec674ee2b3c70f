-- How a call that gathers ends.
use Rattle.std.proofs.Common.{◌≡◌, ℕ, ◌⊎◌, inl, inr, List, [], ◌∷◌, ◌++◌, map, refl, sym, ap, subst, ◌∙◌}
use Rattle.std.proofs.lemmas.List.{append_assoc, append-nil}
use Rattle.clay_grid.specs.Shape.{Shape}
use Rattle.store_core.specs.Told.{Told, Seen, Lost}
use Rattle.store_core.specs.Note.{Note, Kind}
use Rattle.store_core.specs.Act.{Act, Outcome}
use Rattle.store_core.specs.Gathering.{Gathering, Part}
use Rattle.store_core.specs.GatheringParts.{chunks_in_range, fetching_data, gather_part, gather_chunk, ending, act_of, gathering}
use Rattle.store_core.specs.Put.{drawing}
use Rattle.store_core.specs.Read.{part_of, parts_of, read_start, read_end, next_read}
use Rattle.store_core.specs.Write.{old_parts, trying}
use Rattle.store_core.specs.Rebuild.{confirming, rebuilding}
use Rattle.store_core.specs.NextAct.{Job, next_by}
use Rattle.run_laws.specs.GatheredLaws.{gathers, GatheringsEndCalls}
use Rattle.run_laws.proofs.Grows.{Grows, part_grows, chunk_grows}

-- ---- parts that have their bytes
module _ (g : Shape) (next : List Told → Act) where
  gathered_past : (before parts : List Part) (told : List Told) → gathering g (before ++ parts) next (map (λ _. Told.Gathered) before ++ told) ≡ gathering g parts next told
  gathered_past [] parts told = refl
  gathered_past (part ∷ before) parts told = gathered_past before parts told

  all_gathered : (as_part : Seen → Part) (stripes : List Seen) (told : List Told) → gathering g (map as_part stripes) next (map (λ _. Told.Gathered) stripes ++ told) ≡ next told
  all_gathered as_part [] told = refl
  all_gathered as_part (seen ∷ stripes) told = all_gathered as_part stripes told

-- ---- too many servers lack their chunk
no_entry_first : (g : Shape) (part : Part) (servers : List ℕ) (told rest : List Told) (missing : List Lost)
    → fetching_data g part servers [] (Told.Gathered ∷ told) ≡ Gathering.TooMany missing rest → ⊥
no_entry_first g part [] told rest missing e = cc
no_entry_first g part (server ∷ more) told rest missing e = cc

too_many : (g : Shape) (part : Part) (told : List Told) (missing : List Lost) → gather_part g part told ≡ Gathering.TooMany missing []
    → gather_part g part (told ++ Told.Ended ∷ []) ≡ Gathering.TooMany missing (Told.Ended ∷ [])
too_many g part told missing e =
    subst (λ (now : Gathering). Grows Told.Ended now (gather_part g part (told ++ Told.Ended ∷ []))) e (part_grows g part told Told.Ended)

unavailable_part : (g : Shape) (part : Part) (after : List Part) (next : List Told → Act) (told : List Told) (missing : List Lost) → gather_part g part told ≡ Gathering.TooMany missing []
    → gathering g (part ∷ after) next (told ++ Told.Ended ∷ []) ≡ Act.Finish (Outcome.Unavailable part.seen.stripe missing)
unavailable_part g part after next (Told.Gathered ∷ told) missing e = absurd (no_entry_first g part (chunks_in_range g part.start part.end) told [] missing e)
unavailable_part g part after next [] missing e = ap (act_of part.seen.stripe (gathering g after next)) (too_many g part [] missing e)
unavailable_part g part after next (answer ∷ told) missing e = ap (act_of part.seen.stripe (gathering g after next)) (too_many g part (answer ∷ told) missing e)

-- of all parts, where those before have their bytes
unavailable_parts : (g : Shape) (parts before after : List Part) (part : Part) (next : List Told → Act) (told : List Told) (missing : List Lost) → parts ≡ before ++ part ∷ after
    → gather_part g part told ≡ Gathering.TooMany missing []
    → gathering g parts next (map (λ _. Told.Gathered) before ++ (told ++ Told.Ended ∷ [])) ≡ Act.Finish (Outcome.Unavailable part.seen.stripe missing)
unavailable_parts g parts before after part next told missing parted e =
    ap (λ parts. gathering g parts next (map (λ _. Told.Gathered) before ++ (told ++ Told.Ended ∷ []))) parted
    ∙ gathered_past g next before (part ∷ after) (told ++ Told.Ended ∷ [])
    ∙ unavailable_part g part after next told missing e

some_part : (before after : List Part) (part : Part) → [] ≡ before ++ part ∷ after → ⊥
some_part [] after part e = cc
some_part (first ∷ before) after part e = cc

tries_past : (g : Shape) (tries : ℕ) (note : Note) (before pairs : List (ℕ × ℕ)) (told : List Told)
    → trying g tries note before (map (λ (pair : ℕ × ℕ). Told.Changed pair.0 pair.1) pairs ++ told) ≡ trying g tries note (before ++ pairs) told
tries_past g tries note before [] told = ap (λ l. trying g tries note l told) (sym (append-nil before))
tries_past g tries note before (pair ∷ pairs) told =
    tries_past g tries note (before ++ pair ∷ []) pairs told ∙ ap (λ l. trying g tries note l told) (append_assoc before (pair ∷ []) pairs)

abbrev told_of : List (ℕ × ℕ) → Told → List Part → List Told → List Told
told_of pairs looked before told =
    map (λ (pair : ℕ × ℕ). Told.Changed pair.0 pair.1) pairs ++ (looked ∷ (map (λ _. Told.Gathered) before ++ (told ++ Told.Ended ∷ [])))

get_is_no_write : Kind.Get ≡ Kind.Write → ⊥
get_is_no_write e = cc

read_is_no_write : Kind.ReadAt ≡ Kind.Write → ⊥
read_is_no_write e = cc

unavailable_by : (kind : Kind) (g : Shape) (tries : ℕ) (job : Job) (pairs : List (ℕ × ℕ)) (looked : Told) (before after : List Part) (part : Part) (told : List Told) (missing : List Lost)
    → ((kind ≡ Kind.Write → ⊥) → pairs ≡ []) → gathers kind g job.note looked ≡ before ++ part ∷ after → gather_part g part told ≡ Gathering.TooMany missing []
    → next_by kind g tries job (told_of pairs looked before told) ≡ Act.Finish (Outcome.Unavailable part.seen.stripe missing)
unavailable_by Kind.Get g tries job pairs (Told.Pinned point length_now stripes) before after part told missing none parted e =
    ap (λ pairs. next_read g job.note (told_of pairs (Told.Pinned point length_now stripes) before told)) (none get_is_no_write)
    ∙ unavailable_parts g (parts_of g job.note length_now stripes) before after part (ending (Outcome.Served point)) told missing parted e
unavailable_by Kind.ReadAt g tries job pairs (Told.Pinned point length_now stripes) before after part told missing none parted e =
    ap (λ pairs. next_read g job.note (told_of pairs (Told.Pinned point length_now stripes) before told)) (none read_is_no_write)
    ∙ unavailable_parts g (parts_of g job.note length_now stripes) before after part (ending (Outcome.Served point)) told missing parted e
unavailable_by Kind.Write g tries job pairs (Told.Ready base length_now stripes) before after part told missing none parted e =
    tries_past g tries job.note [] pairs (Told.Ready base length_now stripes ∷ (map (λ _. Told.Gathered) before ++ (told ++ Told.Ended ∷ [])))
    ∙ unavailable_parts g (old_parts g length_now stripes) before after part (drawing g job.note) told missing parted e
unavailable_by kind g tries job pairs looked before after part told missing none parted e = absurd (some_part before after part parted)

-- ---- the chunk of a rebuild
too_many_chunk : (g : Shape) (seen : Seen) (target : ℕ) (told : List Told) (missing : List Lost) → gather_chunk g seen target told ≡ Gathering.TooMany missing []
    → gather_chunk g seen target (told ++ Told.Ended ∷ []) ≡ Gathering.TooMany missing (Told.Ended ∷ [])
too_many_chunk g seen target told missing e =
    subst (λ (now : Gathering). Grows Told.Ended now (gather_chunk g seen target (told ++ Told.Ended ∷ []))) e (chunk_grows g seen target told Told.Ended)

unavailable_rebuild : (g : Shape) (seen : Seen) (target : ℕ) (told : List Told) (missing : List Lost) → gather_chunk g seen target told ≡ Gathering.TooMany missing []
    → rebuilding g seen target (told ++ Told.Ended ∷ []) ≡ Act.Finish (Outcome.Unavailable seen.stripe missing)
unavailable_rebuild g seen target (Told.Gathered ∷ told) missing e = absurd (cc)
unavailable_rebuild g seen target [] missing e = ap (act_of seen.stripe (confirming seen target)) (too_many_chunk g seen target [] missing e)
unavailable_rebuild g seen target (answer ∷ told) missing e = ap (act_of seen.stripe (confirming seen target)) (too_many_chunk g seen target (answer ∷ told) missing e)

chunk_by : (kind : Kind) (g : Shape) (tries : ℕ) (job : Job) (seen : Seen) (told : List Told) (missing : List Lost) → kind ≡ Kind.Rebuild
    → gather_chunk g seen job.target told ≡ Gathering.TooMany missing []
    → next_by kind g tries job (Told.PinnedStripe seen ∷ (told ++ Told.Ended ∷ [])) ≡ Act.Finish (Outcome.Unavailable seen.stripe missing)
chunk_by kind g tries job seen told missing rebuild e =
    ap (λ k. next_by k g tries job (Told.PinnedStripe seen ∷ (told ++ Told.Ended ∷ []))) rebuild ∙ unavailable_rebuild g seen job.target told missing e

-- ---- all bytes are there
served_by : (kind : Kind) (g : Shape) (tries : ℕ) (job : Job) (point length_now : ℕ) (stripes : List Seen) → (kind ≡ Kind.Get) ⊎ (kind ≡ Kind.ReadAt)
    → next_by kind g tries job (Told.Pinned point length_now stripes ∷ (map (λ _. Told.Gathered) stripes ++ Told.Ended ∷ [])) ≡ Act.Finish (Outcome.Served point)
served_by kind g tries job point length_now stripes (inl get) =
    ap (λ k. next_by k g tries job (Told.Pinned point length_now stripes ∷ (map (λ _. Told.Gathered) stripes ++ Told.Ended ∷ []))) get
    ∙ all_gathered g (ending (Outcome.Served point)) (part_of g (read_start job.note) (read_end job.note length_now)) stripes (Told.Ended ∷ [])
served_by kind g tries job point length_now stripes (inr read) =
    ap (λ k. next_by k g tries job (Told.Pinned point length_now stripes ∷ (map (λ _. Told.Gathered) stripes ++ Told.Ended ∷ []))) read
    ∙ all_gathered g (ending (Outcome.Served point)) (part_of g (read_start job.note) (read_end job.note length_now)) stripes (Told.Ended ∷ [])

pub gatherings_end_calls : (g : Shape) (tries : ℕ) (job : Job) → GatheringsEndCalls g tries job
gatherings_end_calls g tries job =
    record {
      served = λ point length_now stripes reads. served_by job.note.kind g tries job point length_now stripes reads;
      unavailable = λ pairs looked before after part told missing none parted e.
          unavailable_by job.note.kind g tries job pairs looked before after part told missing none parted e;
      unavailable_chunk = λ seen told missing rebuild e. chunk_by job.note.kind g tries job seen told missing rebuild e;
    }

-- The bytes of what was pinned, by the directory's stamps.
use Rattle.std.proofs.Common.{◌≡◌, ℕ, List, [], ◌∷◌, ◌++◌, map, All, refl, sym, ap}
use Rattle.std.proofs.lemmas.List.Elements.{All-head, All-tail}
use Rattle.clay_grid.specs.Shape.{Shape}
use Rattle.store_core.specs.Gathering.{Part}
use Rattle.store_core.specs.Read.{part_of}
use Rattle.version_seal.specs.Entry.{StampOf}
use Rattle.call_steps.specs.declared.seen.Seen.{Seen}
use Rattle.stripe_stamps.specs.SeenStripes.{seen_in}
use Rattle.stripe_stamps.specs.SeenStripes.{IsSeenIn}
use Rattle.gather_parts.specs.Gatherings.{bytes_between}
use Rattle.gather_parts.specs.Wanted.{wanted_of, bytes_of}
use Rattle.client_read.specs.Owed.{content_of, contents_of}

pub pinned_bytes : (g : Shape) (start end : ℕ) (stamps : List StampOf) (stripes : List Seen) → All (IsSeenIn stamps) stripes
    → bytes_of (map (wanted_of g start end) stripes) ≡ contents_of stamps (map (part_of g start end) (map seen_in stripes))
pinned_bytes g start end stamps [] own = refl
pinned_bytes g start end stamps (seen ∷ stripes) own =
    let part : Part = part_of g start end (seen_in seen) in
    λ i. bytes_between part.start part.end (sym (ap content_of (All-head (IsSeenIn stamps) seen stripes own)) i) ++ pinned_bytes g start end stamps stripes (All-tail (IsSeenIn stamps) seen stripes own) i

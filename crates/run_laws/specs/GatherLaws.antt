-- When a gathering ends: it names the servers as missing exactly when one more than there are parity chunks have said so.
use Rattle.std.specs.Prelude.{◌≡◌, ◌≢◌, ℕ, ◌+◌, ◌<◌, ◌≤◌, ◌⊎◌, List, [], ◌∷◌, ◌++◌, length, map, get_or, All, AllPairs}
use Rattle.clay_grid.specs.Shape.{Shape, chunk_count}
use Rattle.store_map.specs.declared.placement.Found.{Found}
use Rattle.store_map.specs.declared.placement.Found.TheVariants as found
use Rattle.store_map.specs.declared.placement.Placement.TheVariants as placement
use Rattle.store_core.specs.Told.{Seen, Lost, Told}
use Rattle.store_core.specs.Act.{ServerStep}
use Rattle.store_core.specs.Gathering.{Gathering, Part}
use Rattle.store_core.specs.GatheringParts.{gather_part, gather_chunk}
use Rattle.run_laws.specs.NamedServers.{NamesTheAsked}

-- why servers gave no chunk, in the order in which they were asked
abbrev pub reasons_of : List Told → List Found
reasons_of [] = []
reasons_of (Told.Missing reason ∷ told) = reason ∷ reasons_of told
reasons_of (_ ∷ told) = reasons_of told

-- some answer that was told is such
abbrev pub Tells : (Told → Type 0) → List Told → Type 0
Tells P [] = ⊥
Tells P (answer ∷ told) = P answer ⊎ Tells P told

-- too many were missing: as many as that, with the reasons that they told after those of the servers marked before
pub record FoundTooMany (g : Shape) (before : List Lost) (told : List Told) (missing : List Lost) (rest : List Told) : Type 0 where
  pub front : List Told
  pub told_is : told ≡ front ++ rest
  pub count : length missing ≡ g.parity_count + 1
  pub reasons : map (λ lost. lost.found) missing ≡ map (λ lost. lost.found) before ++ reasons_of front

-- no more were missing than there are parity chunks
pub record FoundEnough (g : Shape) (before : List Lost) (told rest : List Told) : Type 0 where
  pub front : List Told
  pub told_is : told ≡ front ++ rest
  pub count : length before + length (reasons_of front) ≤ g.parity_count

-- memory was wanting, and until then no more were missing than there are parity chunks
pub record FoundShortage (g : Shape) (before : List Lost) (told rest : List Told) : Type 0 where
  pub front : List Told
  pub told_is : told ≡ front ++ rest
  pub count : length before + length (reasons_of front) ≤ g.parity_count

-- where some servers were marked before, what was told since comes to such a gathering; the target, which is asked first, ends it where it has its chunk or is away
abbrev pub Ends : Shape → List Lost → List Told → Gathering → Type 0
Ends g before told (Gathering.Asks server step) = length before + length (reasons_of told) ≤ g.parity_count
Ends g before told (Gathering.HasBytes rest) = FoundEnough g before told rest
Ends g before told (Gathering.TooMany missing rest) = FoundTooMany g before told missing rest
Ends g before told (Gathering.AtTarget rest) = told ≡ Told.Here ∷ rest
Ends g before told (Gathering.TargetAway downs rest) = told ≡ Told.Missing (found.Away downs) ∷ rest
Ends g before told (Gathering.Short rest) = FoundShortage g before told rest

-- the servers that are named differ, each is there, and its placement is the one that the look told
pub record AreApart (g : Shape) (seen : Seen) (missing : List Lost) : Type 0 where
  pub there : All (λ lost. lost.server < chunk_count g) missing
  pub differ : AllPairs (λ lost other. lost.server ≢ other.server) missing
  pub placed : All (λ lost. lost.placed ≡ get_or seen.placed lost.server (placement.At 0)) missing

-- both gatherings end so, with no server marked before; only that of a chunk has a target
pub record GatheringsEnd : Type 0 where
  pub part : (g : Shape) (part : Part) (told : List Told) → Ends g [] told (gather_part g part told)
  pub chunk : (g : Shape) (seen : Seen) (target : ℕ) (told : List Told) → 0 < g.parity_count → Ends g [] told (gather_chunk g seen target told)
  pub part_apart :
      (g : Shape) (part : Part) (told rest : List Told) (missing : List Lost) → gather_part g part told ≡ Gathering.TooMany missing rest →
      AreApart g part.seen missing
  pub chunk_apart :
      (g : Shape) (seen : Seen) (target : ℕ) (told rest : List Told) (missing : List Lost) → target < chunk_count g →
      gather_chunk g seen target told ≡ Gathering.TooMany missing rest → AreApart g seen missing
  pub chunk_first : (g : Shape) (seen : Seen) (target : ℕ) → gather_chunk g seen target [] ≡ Gathering.Asks target (ServerStep.Has seen.version)
  pub part_target : (g : Shape) (part : Part) (told rest : List Told) → gather_part g part told ≢ Gathering.AtTarget rest
  pub part_away : (g : Shape) (part : Part) (downs : ℕ) (told rest : List Told) → gather_part g part told ≢ Gathering.TargetAway downs rest
  pub part_asked :
      (g : Shape) (part : Part) (told rest : List Told) (missing : List Lost) → gather_part g part told ≡ Gathering.TooMany missing rest →
      NamesTheAsked (gather_part g part) told rest missing
  pub chunk_asked :
      (g : Shape) (seen : Seen) (target : ℕ) (told rest : List Told) (missing : List Lost) → gather_chunk g seen target told ≡ Gathering.TooMany missing rest →
      NamesTheAsked (gather_chunk g seen target) told rest missing

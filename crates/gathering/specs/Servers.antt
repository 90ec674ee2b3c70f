-- Servers that are asked, and those that are missing.
use Rattle.std.specs.Prelude.{◌≡◌, ⊤, ℕ, false, List, [], ◌∷◌, map}
use Rattle.clay_grid.specs.Shape.{Shape}
use Rattle.store_core.specs.Lists.{is_among}
use Rattle.store_core.specs.Told.{Lost}
use Rattle.store_core.specs.GatheringParts.{chunks_in_range}
use Rattle.run_laws.specs.Stage.{Aim}

-- none stands there twice
abbrev pub AreApart : List ℕ → Type 0
AreApart [] = ⊤
AreApart (server ∷ more) = (is_among server more ≡ false) × AreApart more

-- the data chunks with wanted bytes
abbrev pub wanted_servers : Shape → Aim → List ℕ
wanted_servers g (Aim.Range part) = chunks_in_range g part.start part.end
wanted_servers g (Aim.Chunk seen target) = []

-- a chunk that is made anew is the first that was found missing
abbrev pub TargetIsGone : Aim → List ℕ → Type 0
TargetIsGone (Aim.Range part) gone = ⊤
TargetIsGone (Aim.Chunk seen target) gone = (more : List ℕ) × (gone ≡ target ∷ more)

-- the target of a chunk that is made anew
abbrev pub TargetIs : Aim → ℕ → Type 0
TargetIs (Aim.Range part) server = ⊥
TargetIs (Aim.Chunk seen target) server = server ≡ target

-- the numbers of the missing servers
abbrev pub AreServers : List Lost → List ℕ → Type 0
AreServers missing gone = map (λ lost. lost.server) missing ≡ gone

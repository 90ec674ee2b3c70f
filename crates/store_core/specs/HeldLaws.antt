-- What a server holds stands in rising order, each version once.
use Rattle.std.specs.Prelude.{◌≡◌, ℕ, ◌<◌, Bool, ◌||◌, ◌&&◌, not, nat_eq, List, [], ◌∷◌, ⊤}
use Rattle.store_core.specs.Lists.{is_among}
use Rattle.store_core.specs.Act.{ServerStep}
use Rattle.store_core.specs.Server.{Server, hold, let_go, at_server}

-- all of them are greater than the first number
abbrev pub AreAbove : ℕ → List ℕ → Type 0
AreAbove least [] = ⊤
AreAbove least (version ∷ versions) = (least < version) × AreAbove least versions

-- each is less than all after it
abbrev pub IsRising : List ℕ → Type 0
IsRising [] = ⊤
IsRising (version ∷ versions) = AreAbove version versions × IsRising versions

-- no step at a server changes that; a chunk that comes is held beside the others, one that goes is not held, and the others are
pub record HoldsInOrder : Type 0 where
  pub rising : (short : Bool) (step : ServerStep) (s : Server) → IsRising s.held → IsRising (at_server short step s).0.held
  pub held : (version other : ℕ) (versions : List ℕ) → is_among other (hold version versions) ≡ (nat_eq other version || is_among other versions)
  pub gone : (version other : ℕ) (versions : List ℕ) → is_among other (let_go version versions) ≡ (not (nat_eq version other) && is_among other versions)

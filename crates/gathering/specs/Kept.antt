-- What has come at each stage of a gathering: parts, what was asked for at first, and helpers, from which missing chunks are made.
use Rattle.std.specs.Prelude.{◌≡◌, ⊤, ℕ, suc, ◌+◌, ◌≤◌, true, false, List, [], ◌∷◌, length, get_or, None, is_some, count_by}
use Rattle.clay_grid.specs.Shape.{Shape}
use Rattle.store_core.specs.Lists.{is_among}
use Rattle.store_core.specs.Told.{Lost}
use Rattle.run_laws.specs.Stage.{Aim, Asking, Stage}
use Rattle.gathering.specs.Parts.{Shelf, AreNone, HaveCome, AllHaveCome}
use Rattle.gathering.specs.Servers.{AreApart, wanted_servers, TargetIs, TargetIsGone, AreServers}

-- it is asked, before all others
pub record IsAskingTarget (aim : Aim) (server : ℕ) (gone : List ℕ) (helpers : Shelf) : Type 0 where
  pub target : TargetIs aim server
  pub nobody : gone ≡ []
  pub none : AreNone helpers

-- these are still asked for wanted layers
pub record IsFetching (g : Shape) (aim : Aim) (left : List ℕ) (missing : List Lost) (gone : List ℕ) (parts helpers : Shelf) : Type 0 where
  pub wanted : HaveCome (wanted_servers g aim) left gone parts
  pub target : TargetIsGone aim gone
  pub servers : AreServers missing gone
  pub none : AreNone helpers

-- these are still asked for the repair layers of a lost chunk
pub record IsRepairing (g : Shape) (aim : Aim) (left : List ℕ) (lost : Lost) (gone : List ℕ) (parts helpers : Shelf) : Type 0 where
  pub wanted : HaveCome (wanted_servers g aim) [] gone parts
  pub target : TargetIsGone aim gone
  pub only : gone ≡ lost.server ∷ []
  pub others : AllHaveCome g left gone helpers
  pub not_asked : is_among lost.server left ≡ false
  pub empty : get_or helpers lost.server None ≡ None

-- of these so many more are wanted with their whole chunks
pub record IsRecovering (g : Shape) (aim : Aim) (left : List ℕ) (more : ℕ) (gone : List ℕ) (parts helpers : Shelf) : Type 0 where
  pub wanted : HaveCome (wanted_servers g aim) [] gone parts
  pub target : TargetIsGone aim gone
  pub many : 2 ≤ length gone
  pub apart : AreApart left
  pub empty : (server : ℕ) → is_among server left ≡ true → get_or helpers server None ≡ None
  pub enough : count_by is_some helpers + more ≡ g.data_count

-- what there has to be for the chunks to be made
abbrev pub CanMake : Shape → List ℕ → Shelf → Type 0
CanMake g [] helpers = ⊤
CanMake g (lost ∷ []) helpers = AllHaveCome g [] (lost ∷ []) helpers × (get_or helpers lost None ≡ None)
CanMake g (lost ∷ other ∷ more) helpers = g.data_count ≤ count_by is_some helpers

-- all parts have come
pub record HasParts (g : Shape) (aim : Aim) (gone : List ℕ) (parts helpers : Shelf) : Type 0 where
  pub wanted : HaveCome (wanted_servers g aim) [] gone parts
  pub target : TargetIsGone aim gone
  pub helping : CanMake g gone helpers

-- at a stage
abbrev pub Keeps : Shape → Aim → List ℕ → Shelf → Shelf → Stage → Type 0
Keeps g aim gone parts helpers (Stage.Asks (Asking.Fetch server more missing)) = IsFetching g aim (server ∷ more) missing gone parts helpers
Keeps g aim gone parts helpers (Stage.Asks (Asking.Look server more missing)) = IsFetching g aim [] missing gone parts helpers
Keeps g aim gone parts helpers (Stage.Asks (Asking.Repair server more lost)) = IsRepairing g aim (server ∷ more) lost gone parts helpers
Keeps g aim gone parts helpers (Stage.Asks (Asking.Whole server more wanted missing)) = IsRecovering g aim (server ∷ more) (suc wanted) gone parts helpers
Keeps g aim gone parts helpers (Stage.Asks (Asking.Target server)) = IsAskingTarget aim server gone helpers
Keeps g aim gone parts helpers Stage.HasBytes = HasParts g aim gone parts helpers
Keeps g aim gone parts helpers stage = ⊤

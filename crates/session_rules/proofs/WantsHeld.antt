-- Steps that ask a server for what it holds leave that.
use Rattle.std.proofs.Common.{◌≡◌, ℕ, Bool, true, false, List, length, refl}
use Rattle.store_core.specs.Told.{Told}
use Rattle.store_core.specs.Act.{ServerStep}
use Rattle.store_core.specs.Server.{Server, at_server, gives, raised_by, found_at}
use Rattle.std.proofs.Common.{if◌then◌else◌}

pub fetch_held : (short : Bool) (one : Server) (version : ℕ) (layers : List ℕ) → (at_server short (ServerStep.Fetch version layers) one).0.held ≡ one.held
fetch_held true one version layers = refl
fetch_held false one version layers = by (gives version one)
  where
    by : (b : Bool) → (let r : Server × Told = if b then (record one { taken = raised_by (length layers) one.taken }, Told.Given (length layers)) else (one, Told.Missing (found_at one)) in r.0).held ≡ one.held
    by true = refl
    by false = refl

pub has_held : (short : Bool) (one : Server) (version : ℕ) → (at_server short (ServerStep.Has version) one).0.held ≡ one.held
has_held short one version = by_short short (gives version one)
  where
    by : (b : Bool) → (let r : Server × Told = if b then (one, Told.Here) else (one, Told.Missing (found_at one)) in r.0).held ≡ one.held
    by true = refl
    by false = refl

    by_short : (short b : Bool) → (at_server short (ServerStep.Has version) one).0.held ≡ one.held
    by_short true b = by (gives version one)
    by_short false b = by (gives version one)

-- Whom a script may name.
use Rattle.std.specs.Prelude.{◌≡◌, ◌<◌, ◌⊎◌, length, All, IfSome, ⊤}
use Rattle.clay_grid.specs.Shape.{chunk_count}
use Rattle.store_map.specs.Limits.{IsWithinLimits}
use Rattle.store_map.specs.declared.actor.Token.{Token}
use Rattle.store_map.specs.declared.actor.Token.TheVariants.{Client, Repairer, Sweep, Wipe, Down, Up, ReapClient, ReapRepairer, Drain}
use Rattle.store_map.specs.declared.script.Script.{Script}

-- the actor or the server that the token names is the script's; only in form 2 servers are made away and present
abbrev pub NamesPart : Script → Token → Type 0
NamesPart script (Client i) = i < length script.clients
NamesPart script (Repairer i) = i < length script.repairers
NamesPart script Sweep = ⊤
NamesPart script (Wipe j) = j < chunk_count script.geometry
NamesPart script (Down j) = (script.form ≡ 2) × (j < chunk_count script.geometry)
NamesPart script (Up j) = (script.form ≡ 2) × (j < chunk_count script.geometry)
NamesPart script (ReapClient i) = i < length script.clients
NamesPart script (ReapRepairer i) = i < length script.repairers
NamesPart script Drain = ⊤

-- tokens and rebuilds name the script's actors and servers; a step limit has a call that it limits
pub record NamesItsOwn (script : Script) : Type 0 where
  pub tokens : All (NamesPart script) script.schedule
  pub rebuilds : All (λ part. All (λ rebuild. rebuild.server < chunk_count script.geometry) part.calls) script.repairers
  pub client_limits : All (λ part. IfSome part.leave (λ _. 0 < length part.calls)) script.clients
  pub repairer_limits : All (λ part. IfSome part.leave (λ _. 0 < length part.calls)) script.repairers

-- what a script that can be read and run keeps
pub record IsValid (script : Script) : Type 0 where
  pub form : (script.form ≡ 1) ⊎ (script.form ≡ 2)
  pub limits : IsWithinLimits script
  pub names : NamesItsOwn script

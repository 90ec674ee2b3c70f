-- A directory of a script, by what is known of it wherever it is taken, as under a lock.
use Rattle.std.specs.Prelude.{◌≡◌, ◌<◌}
use Rattle.clay_grid.specs.Shape.{stripe_length}
use Rattle.store_map.specs.Limits.{size_of}
use Rattle.store_map.specs.declared.script.Script.{Script}
use Rattle.store_core.specs.History.{call_of}
use Rattle.store_core.specs.Sound.{IsSound}
use Rattle.run_laws.specs.Contents.{HasBytes}
use Rattle.stripe_stamps.specs.Sealed.{Sealed}
use Rattle.stripe_stamps.specs.Stamped.{HaveContents}

-- it is sound and has the bytes of the map, and its stamps have the contents
pub record IsOfMap (script : Script) (d : Sealed) : Type 0 where
  pub wide : 0 < stripe_length d.core.shape
  pub shape : d.core.shape ≡ script.geometry
  pub most : d.core.max ≡ size_of script
  pub sound : IsSound d.core
  pub bytes : HasBytes (call_of script) d.core
  pub contents : HaveContents (call_of script) d

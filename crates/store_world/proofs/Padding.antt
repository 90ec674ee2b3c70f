-- The stamps of a world that is reached have zeros behind the ends of their objects.
use Rattle.std.proofs.Common.{◌≡◌, Option, Some, IfSome, ap, subst, ◌∙◌}
use Rattle.store_map.specs.declared.script.Script.{Script}
use Rattle.store_core.specs.History.{call_of}
use Rattle.store_core.specs.Schedule.{run_core}
use Rattle.store_core.specs.Sound.{IsSound}
use Rattle.run_laws.specs.Contents.{HasBytes}
use Rattle.run_laws.specs.RunContents.{RunsStandForTheMap}
use Rattle.run_laws.proofs.RunBytes.{all_runs_stand_for_the_map}
use Rattle.stripe_stamps.specs.Stamped.{HaveContents, HasStamps}
use Rattle.client_patch.specs.Padded.{ArePadded, BytesOfTheMapArePadded}
use Rattle.world_laws.specs.StandsFor.{StandsFor}
use Rattle.world_laws.proofs.Runs.{runs_reach}
use Rattle.store_world.specs.Stored.{StoredWorld, world_of}
use Rattle.store_world.specs.Kept.{IsWorld}

module _ (s : StoredWorld) (is : IsWorld s) where
  -- the directory has the bytes of the map
  pub has_bytes : HasBytes (call_of s.script) s.directory.core
  has_bytes =
      let stands : StandsFor s.script (world_of s) (run_core s.script is.reached.by.shortages is.reached.tokens) =
      (runs_reach s.script).core is.reached.tokens (world_of s) is.reached.by.shortages is.reached.by.reaches in
      let runs : RunsStandForTheMap s.script is.reached.by.shortages is.reached.tokens =
      all_runs_stand_for_the_map s.script is.reached.by.shortages is.reached.tokens is.geometry is.valid in
      subst (HasBytes (call_of s.script)) stands.directory runs.bytes

  -- and its stamps the contents
  pub have_contents : HasStamps s.directory → HaveContents (call_of s.script) s.directory
  have_contents stamps =
      let written : s.directory.book.script ≡ Some s.script = ap (λ b. b.script) is.directory_book ∙ is.written in
      subst (λ (o : Option Script). IfSome o (λ script. HaveContents (call_of script) s.directory)) written stamps.contents

  pub are_padded : BytesOfTheMapArePadded → IsSound s.directory.core → HasStamps s.directory → ArePadded s.directory
  are_padded law sound stamps = law (call_of s.script) s.directory sound has_bytes (have_contents stamps)

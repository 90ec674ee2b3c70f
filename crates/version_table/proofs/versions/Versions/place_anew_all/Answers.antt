use Rattle.std.proofs.Common.{length, take, ap, ◌∙◌, arith}
use Rattle.store_core.specs.Directory.{Pin}
use Rattle.version_table.proofs.TableSteps.{length-placed_anew}
use Rattle.version_table.proofs.versions.Versions.place_anew_all.Goals as goal

pub place_anew-requires : goal.place_anew-requires
place_anew-requires c =
    omega (
      arith,
      c.requires c.loop-pin.pin-index c.pin-item.result c.loop-pin-test.true,
      ap (λ (p : Pin). p.version) (c.pin.view_is ∙ c.pin-item.is),
      ap length c.loop-pin.invariant.0,
      length-placed_anew c.args.server c.args.epoch (take c.loop-pin.pin-index c.args.pins.now) c.args.self.now.listed,
    )

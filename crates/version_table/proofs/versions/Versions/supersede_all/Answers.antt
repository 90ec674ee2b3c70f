use Rattle.std.proofs.Common.{ℕ, List, take, get_or, refl, sym, subst}
use Rattle.store_core.specs.Directory.{Version, Standing as CoreStanding}
use Rattle.version_table.specs.Known.{IsKnown}
use Rattle.version_table.proofs.Known.{known_set}
use Rattle.version_table.proofs.versions.Versions.supersede_all.Goals as goal

pub supersede-requires : goal.supersede-requires
supersede-requires c =
    let n : ℕ = get_or c.args.numbers.now c.loop-number.number-index 0 in
    subst (λ (versions : List Version). IsKnown versions n) (sym c.loop-number.invariant.0)
    (known_set CoreStanding.Superseded refl (take c.loop-number.number-index c.args.numbers.now) c.args.self.now.listed n (c.requires c.loop-number.number-index 0 c.loop-number-test.true))

use Rattle.client_patch.proofs.Standings.{over_seated}
use Rattle.client_patch.specs.Patches.{PatchOf}
use Rattle.std.proofs.Common.{subst, sym}
use Rattle.call_steps.specs.TokenAfter.{IsSeated}
use Rattle.client_patch.proofs.patch.PatchCall.finish.Goals as goal

pub into_seat-seat-requires : goal.into_seat-seat-requires
into_seat-seat-requires c = subst (λ (p : PatchOf). IsSeated p.call.token) (sym c.self.view_is) (over_seated c.args.self.call c.need.ensures.pass c.requires)

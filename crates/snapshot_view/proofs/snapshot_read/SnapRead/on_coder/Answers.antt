use Rattle.std.proofs.Common.{◌≡◌, is_err, sym, ap, subst, ◌∙◌}
use Rattle.run_laws.specs.State.{Sequel}
use Rattle.gather_parts.specs.Gatherings.{GatheringsOf}
use Rattle.gather_parts.specs.States.{state_in}
use Rattle.gather_parts.specs.Steps.{coded}
use Rattle.snapshot_view.specs.InTime.{HasFoundAt, HasFound}
use Rattle.snapshot_view.proofs.Taken.{where_ok}
use Rattle.snapshot_view.proofs.snapshot_read.SnapRead.on_coder.Goals as goal

pub returns-in-Ok-clause-found : goal.returns-in-Ok-clause-found
returns-in-Ok-clause-found g c = λ stripes asked has.
    let same : ((after : Sequel) → state_in c.on_coder.new.self after ≡ state_in c.self.inside.gatherings after) =
    where_ok ((after : Sequel) → state_in c.on_coder.new.self after ≡ state_in c.self.inside.gatherings after) c.on_coder.result (ap is_err c.in-Ok.is) c.on_coder.ensures.state in
    subst (HasFoundAt stripes asked) (sym (same (Sequel.Serve 0))) (subst (HasFound stripes asked) (sym c.self.view_is) has)

pub returns-in-Err-clause-found : goal.returns-in-Err-clause-found
returns-in-Err-clause-found g c = λ stripes asked has.
    let p : GatheringsOf = c.self.inside.gatherings in
    subst (λ (later : GatheringsOf). HasFoundAt stripes asked (state_in later (Sequel.Serve 0))) (sym (c.on_coder.ensures.coded ∙ ap (λ short. coded short p) (ap is_err c.in-Err.is))) tt

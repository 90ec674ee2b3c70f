use Rattle.std.proofs.Common.{refl, ap, ◌∙◌}
use Rattle.run_laws.specs.State.{Sequel}
use Rattle.call_steps.specs.Acts.{act_now}
use Rattle.client_read.specs.Reads.{ReadOf}
use Rattle.client_read.specs.Stages.{due_by}
use Rattle.client_read.specs.Inside.{read_in}
use Rattle.client_read.proofs.Standings.{gathering_stands}
use Rattle.client_read.proofs.read_call.ReadCall.act.Goals as goal

pub returns-in-Gathering : goal.returns-in-Gathering
returns-in-Gathering c =
    let a = c.self.inside in
    c.act.ensures.call (read_in a).call (Sequel.Serve a.point.0) (gathering_stands a c.in-Gathering.is) (ap (λ now. due_by now a.gatherings) c.in-Gathering.is) refl
    ∙ ap (λ (r : ReadOf). act_now r.call) c.self.view_is

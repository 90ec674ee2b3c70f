use Rattle.std.proofs.Common.{ℕ, List, map, false, sym, ap, subst, ◌∙◌}
use Rattle.store_map.specs.declared.actor.Point.{Point}
use Rattle.store_core.specs.Told.{Told}
use Rattle.store_core.specs.Act.{DirectoryStep}
use Rattle.store_core.specs.Directory.{Directory}
use Rattle.store_core.specs.Tokens.{actor_of}
use Rattle.call_steps.specs.TokenAfter.{IsSeated}
use Rattle.stripe_dir.specs.Answers.{told_ended}
use Rattle.snapshot_view.proofs.Ending.{may_end, end_actor, end_seated, ended_one}
use Rattle.snapshot_view.proofs.Others.{one_step}
use Rattle.snapshot_view.proofs.release.end_pass.Goals as goal

pub end-ended-requires-clause-may : goal.end-ended-requires-clause-may
end-ended-requires-clause-may c = may_end c.args.directory.now.core c.args.number c.args.ticket.now c.requires.call

pub returns-clause-end : goal.returns-clause-end
returns-clause-end c =
    let points : List Point → List ℕ = map (λ point. point.0) in
    ended_one c.args.number c.args.directory.now.core c.end-ended.new.directory.core c.args.ticket.now c.end-ended.new.self (told_ended c.end-ended.result) (points c.args.points.now.items)
    (points c.note_reap.new.points.items) c.end-ended.ensures.step c.end-ended.ensures.token c.note_reap.ensures.reaps

pub returns-clause-actor : goal.returns-clause-actor
returns-clause-actor c = ap actor_of c.end-ended.ensures.token ∙ end_actor c.args.ticket.now c.args.number c.end-ended.result

pub returns-clause-seated : goal.returns-clause-seated
returns-clause-seated c = subst IsSeated (sym c.end-ended.ensures.token) (end_seated c.args.ticket.now c.args.number c.end-ended.result c.requires.call)

pub returns-clause-others : goal.returns-clause-others
returns-clause-others c =
    one_step false c.args.ticket.now c.args.number DirectoryStep.End c.args.directory.now.core c.end-ended.new.directory.core (ap (λ (r : Directory × Told). r.0) c.end-ended.ensures.step)

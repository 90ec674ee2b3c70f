use Rattle.std.proofs.Common.{◌≡◌, true, false, Option, Some, unwrap_or, sym, ap, subst, ◌∙◌}
use Rattle.run_laws.specs.Stage.{Aim}
use Rattle.call_steps.specs.declared.seen.Seen.{Seen}
use Rattle.stripe_stamps.specs.SeenStripes.{seen_in}
use Rattle.gathering.specs.Gathers.{new_gather}
use Rattle.call_steps.specs.CallOf.{CallOf, act_of}
use Rattle.call_steps.specs.Steps.{coded}
use Rattle.repairer.specs.declared.stage.RepairStage.{RepairStage}
use Rattle.repairer.specs.declared.stage.RepairStage.TheVariants as stage
use Rattle.repairer.specs.Calls.{call_at}
use Rattle.repairer.specs.Inside.{state_at}
use Rattle.repairer.specs.Moments.{IsSeen}
use Rattle.repairer.specs.Kept.{GathersAt, Keeps}
use Rattle.repairer.proofs.Stages.{is_at, keeps, is_due}
use Rattle.repairer.proofs.Beginning.{asks, stands, took}
use Rattle.repairer.proofs.repair_call.RepairCall.begin.Goals as goal

pub invariant_of-self : goal.invariant_of-self
invariant_of-self c =
    let a = c.self.inside in
    let at = is_at a c.args.self.now stage.Gathering c.self.invariant c.self.view_is c.requires.stage in
    let kept = keeps a stage.Gathering c.self.invariant at in
    let due : a.due ≡ true = ap (λ (call : CallOf). call.due) c.self.view_is ∙ is_due (act_of c.args.self.now) c.args.self.now.due c.requires.need in
    let is : IsSeen a.opening a.looked.value a.seen a.gather a.takes = subst (λ b. GathersAt b a) due kept.1 in
    let same : c.in-Some.seen ≡ is.seen = ap (λ (o : Option Seen). unwrap_or o is.seen) (c.in-Some.ensures.value ∙ is.is_held) in
    record {
      below = c.self.invariant.below;
      kept =
          subst (λ (s : RepairStage). Keeps s (record a { seen = c.take.new.self; gather = Some c.in-Ok.gather; takes = Some c.in-Ok.takes; due = false; coding = false })) (sym at) (
            kept.0,
            asks a.opening a.rebuild.now.server a.looked.value a.seen a.gather a.takes c.in-Ok.gather c.in-Ok.takes is
                (c.in-Ok.ensures.gather ∙ ap (λ (seen : Seen). new_gather seen.stamp a.opening.geometry (Aim.Chunk (seen_in seen) a.rebuild.now.server)) same)
                c.in-Ok.ensures.takes,
          );
    }

pub returns-in-Ok : goal.returns-in-Ok
returns-in-Ok c =
    let a = c.self.inside in
    let at = is_at a c.args.self.now stage.Gathering c.self.invariant c.self.view_is c.requires.stage in
    let kept = keeps a stage.Gathering c.self.invariant at in
    let due : a.due ≡ true = ap (λ (call : CallOf). call.due) c.self.view_is ∙ is_due (act_of c.args.self.now) c.args.self.now.due c.requires.need in
    let is : IsSeen a.opening a.looked.value a.seen a.gather a.takes = subst (λ b. GathersAt b a) due kept.1 in
    let same : c.in-Some.seen ≡ is.seen = ap (λ (o : Option Seen). unwrap_or o is.seen) (c.in-Some.ensures.value ∙ is.is_held) in
    let next = record a { seen = c.take.new.self; gather = Some c.in-Ok.gather; takes = Some c.in-Ok.takes; due = false; coding = false } in
    let stands_still : state_at a.stage next ≡ state_at a.stage a =
    subst (λ (s : RepairStage). state_at s next ≡ state_at s a) (sym at)
    (stands a.opening a.rebuild.now.server a.looked.value a.seen a.gather a.takes c.in-Ok.gather is
    (c.in-Ok.ensures.gather ∙ ap (λ (seen : Seen). new_gather seen.stamp a.opening.geometry (Aim.Chunk (seen_in seen) a.rebuild.now.server)) same))
    in
    (λ i.
    call_at a.opening a.rebuild.now a.number a.ticket (stands_still i) (took a.opening a.looked.value a.seen a.gather a.takes c.in-Ok.takes is c.in-Ok.ensures.takes i) false false a.step)
    ∙ ap (coded false) c.self.view_is

use Rattle.std.proofs.Common.{false, Some, refl, sym, ap, subst, ◌∙◌}
use Rattle.gathering.specs.Aims.{target_of}
use Rattle.gathering.specs.Gathers.{GatherOf}
use Rattle.repairer.specs.declared.stage.RepairStage.{RepairStage}
use Rattle.repairer.specs.declared.stage.RepairStage.TheVariants as stage
use Rattle.repairer.specs.Moments.{IsGathered}
use Rattle.repairer.specs.Kept.{Keeps}
use Rattle.repairer.proofs.Stages.{is_at, keeps}
use Rattle.repairer.proofs.Beginning.{is_gathered, gather_is}
use Rattle.repairer.proofs.repair_call.RepairCall.make.Goals as goal

pub chunk_of-made-requires-clause-code : goal.chunk_of-made-requires-clause-code
chunk_of-made-requires-clause-code g c κs within =
    let a = c.self.inside in
    let is = is_gathered a c.args.self.now c.self.invariant c.self.view_is c.requires.stage c.requires.need in
    ap (λ (w : GatherOf). w.course.geometry) (sym (gather_is a.opening a.rebuild.now.server a.looked.value a.gather c.in-Some.gather is c.in-Some.ensures.value)) ∙ is.its.code

pub chunk_of-made-requires-clause-target : goal.chunk_of-made-requires-clause-target
chunk_of-made-requires-clause-target g c κs within =
    let a = c.self.inside in
    let is = is_gathered a c.args.self.now c.self.invariant c.self.view_is c.requires.stage c.requires.need in
    ap (λ (w : GatherOf). target_of w.course.aim) (sym (gather_is a.opening a.rebuild.now.server a.looked.value a.gather c.in-Some.gather is c.in-Some.ensures.value))
    ∙ ap target_of is.its.aim

pub invariant_of-self : goal.invariant_of-self
invariant_of-self g c =
    let a = c.self.inside in
    let at = is_at a c.args.self.now stage.Confirming c.self.invariant c.self.view_is c.requires.stage in
    let is : IsGathered a.opening a.rebuild.now.server a.looked.value a.gather = is_gathered a c.args.self.now c.self.invariant c.self.view_is c.requires.stage c.requires.need in
    let same = gather_is a.opening a.rebuild.now.server a.looked.value a.gather c.in-Some.gather is c.in-Some.ensures.value in
    record {
      below = c.self.invariant.below;
      kept =
          subst (λ (s : RepairStage). Keeps s (record a { gather = c.take.new.self; chunk = Some c.in-Ok.chunk; due = false; coding = false })) (sym at) (
            (keeps a stage.Confirming c.self.invariant at).0,
            record {
              seen = is.seen;
              chunk = c.in-Ok.chunk;
              is_seen = is.is_seen;
              is_chunk = refl;
              pinned = is.pinned;
              its = record {
                stamp = c.in-Ok.ensures.stamp ∙ ap (λ (w : GatherOf). w.stamp) (sym same) ∙ is.its.stamp;
                server = c.in-Ok.ensures.server;
                code = c.in-Ok.ensures.code;
              };
            },
          );
    }

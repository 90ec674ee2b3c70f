use Rattle.std.proofs.Common.{◌≡◌, All, List, length, sym, ap, subst, ◌∙◌, arith}
use Rattle.std.proofs.lemmas.List.{with_items_is}
use Rattle.std.specs.Vec.{with_items}
use Rattle.run_seats.specs.Working.{AreDone, IsWorking}
use Rattle.run_seats.specs.declared.workers.Worker.{Worker}
use Rattle.store_run.specs.Crew.{AreOver, IsCrew}
use Rattle.store_run.specs.Dealt.{turns_of}
use Rattle.store_run.proofs.Crews.{crew_stays}
use Rattle.store_run.proofs.threaded_run.run_crew.Goals as goal

pub work_together-requires-clause-working : goal.work_together-requires-clause-working
work_together-requires-clause-working g c κs within =
    subst (All (IsWorking c.args.store.now)) (sym c.as_mut_slice.ensures.value) (λ k d less. record { store_is = c.requires.store; seated = c.requires.crew.seated k d less })

pub gather-requires : goal.gather-requires
gather-requires g c =
    let store = c.args.store.now in
    let old : List Worker = c.args.crew.items in
    let now : List Worker = c.work_together.new.workers in
    let long : length now ≡ length old = c.work_together.auto.workers ∙ ap length c.as_mut_slice.ensures.value in
    let back : (with_items c.args.crew now).items ≡ now = with_items_is c.args.crew now (omega (arith, long, c.args.crew.ok.0)) in
    let done : AreDone store old now = subst (λ (l : List Worker). AreDone store l now) c.as_mut_slice.ensures.value c.work_together.ensures in
    record {
      store = c.requires.store;
      some = omega (arith, c.requires.some, ap length back, long);
      crew = subst (IsCrew store 0 (turns_of store.script.now)) (sym back) (crew_stays store 0 (turns_of store.script.now) old now c.requires.crew long done);
      over = subst (AreOver store) (sym back) (λ k d less. (done k d (omega (arith, less, long))).over);
    }

-- A call in work has a step left.
use Rattle.std.proofs.Common.{◌≡◌, ℕ, ◌<◌, ◌≤◌, Bool, true, false, cond, nat_lt, List, [], length, Option, None, Some, unwrap_or, IfSome, refl, sym, ap, subst, ◌∙◌, arith}
use Rattle.std.proofs.lemmas.Bool.{lt-ltb}
use Rattle.store_map.specs.Limits.{tries_of}
use Rattle.store_map.specs.Naming.{IsValid}
use Rattle.store_map.specs.declared.script.Script.{Script}
use Rattle.store_core.specs.Act.{Act, DirectoryStep, Outcome}
use Rattle.store_core.specs.NextAct.{Job}
use Rattle.store_core.specs.Note.{Kind}
use Rattle.store_core.specs.Work.{Ended, Work}
use Rattle.run_laws.specs.State.{first_state}
use Rattle.run_laws.specs.States.{open_call}
use Rattle.run_laws.specs.StateActs.{start_act, act_of_state}
use Rattle.call_steps.specs.CallOf.{CallOf, act_of}
use Rattle.call_steps.specs.Steps.{coded, need_by, need_of, IsDueInPass}
use Rattle.call_steps.specs.Ready.{ready}
use Rattle.call_steps.specs.Stands.{IsFirst}
use Rattle.call_steps.proofs.Codings.{acts_stand}
use Rattle.world_laws.specs.World.{DoingOf, ActorOf}
use Rattle.world_laws.specs.ActorAfter.{IsCallBefore, actor_after_by}
use Rattle.world_laws.specs.WayLaws.{IsStep, IsUnderWay, IsPlace, CallsAreUnderWay}

-- ---- after a step
after_by : (a : ActorOf) (c : CallOf) (act : Act) → act_of c ≡ act → IsUnderWay (actor_after_by act c a).doing
after_by a c (Act.Finish outcome) is = tt
after_by a c (Act.AtDirectory step) is = subst IsStep (sym is) tt
after_by a c (Act.AtServer server step) is = subst IsStep (sym is) tt

-- ---- a call that begins
some_tries : (script : Script) → IsValid script → 0 < tries_of script
some_tries script valid = by script.tries valid.limits.tries
  where
    by : (tries : Option ℕ) → IfSome tries (λ n. (1 ≤ n) × (n ≤ 8)) → 0 < unwrap_or tries 8
    by None h = omega arith
    by (Some n) h = let some : 1 ≤ n = h.0 in omega (arith, some)

starts : (kind : Kind) (tries : ℕ) (job : Job) → nat_lt 0 tries ≡ true → IsStep (start_act kind tries job [])
starts Kind.Write tries job some = subst (λ (b : Bool). IsStep (cond b (Act.AtDirectory (DirectoryStep.Look job.note)) (Act.Finish (Outcome.Contended [])))) (sym some) tt
starts Kind.Put tries job some = tt
starts Kind.Get tries job some = tt
starts Kind.ReadAt tries job some = tt
starts Kind.Stat tries job some = tt
starts Kind.Delete tries job some = tt
starts Kind.Rebuild tries job some = tt

begins : (script : Script) (job : Job) (count : ℕ) (c : CallOf) → IsValid script → IsFirst script.geometry (tries_of script) job count c → IsStep (act_of c)
begins script job count c valid first =
    let is : act_of c ≡ act_of_state script.geometry (tries_of script) job (open_call script.geometry first_state) =
    λ i. act_of_state (first.shape i) (first.tries i) (first.job i) (first.state i) in
    subst IsStep (sym is) (starts job.note.kind (tries_of script) job (lt-ltb 0 (tries_of script) (some_tries script valid)))

-- ---- before a step
before : (script : Script) (work : Work) (ended : List Ended) (doing : DoingOf) (c : CallOf) → IsValid script → IsUnderWay doing → IsCallBefore script work.jobs ended doing c → IsStep (act_of c)
before script work ended (DoingOf.Between token) c valid way call = begins script call.job (length ended) c valid call.first
before script work ended (DoingOf.InCall own steps) c valid way call = subst (λ (now : CallOf). IsStep (act_of now)) (sym call) way

step_place : (act : Act) → IsStep act → IsPlace (need_by act false)
step_place (Act.Finish outcome) h = absurd h
step_place (Act.AtDirectory step) h = tt
step_place (Act.AtServer server step) h = tt

-- by whether a coding is due, and whether memory was wanting in it
ready_place : (c : CallOf) (due coding : Bool) → c.due ≡ due → IsDueInPass c → IsStep (act_of c) → IsPlace (need_of (ready coding c))
ready_place c false coding is in_pass step =
    subst (λ (b : Bool). IsPlace (need_of (cond b (coded coding c) c))) (sym is) (subst (λ (b : Bool). IsPlace (need_by (act_of c) b)) (sym is) (step_place (act_of c) step))
ready_place c true false is in_pass step = subst (λ (b : Bool). IsPlace (need_of (cond b (coded false c) c))) (sym is) (step_place (act_of c) step)
ready_place c true true is in_pass step =
    let ends : act_of (cond c.due (coded true c) c) ≡ Act.AtDirectory DirectoryStep.End = acts_stand.wanting c is in_pass in
    let over : act_of (coded true c) ≡ Act.AtDirectory DirectoryStep.End = ap (λ (b : Bool). act_of (cond b (coded true c) c)) (sym is) ∙ ends in
    subst (λ (b : Bool). IsPlace (need_of (cond b (coded true c) c))) (sym is) (subst (λ (act : Act). IsPlace (need_by act false)) (sym over) tt)

pub calls_are_under_way : (script : Script) (a : ActorOf) → CallsAreUnderWay script a
calls_are_under_way script a =
    record {
      after = λ c. after_by a c (act_of c) refl;
      needs = λ who work c coding valid way turn. ready_place c c.due coding refl turn.due (before script work a.ended a.doing c valid way turn.call);
    }

-- Whether somebody has a step.
use Rattle.std.proofs.Common.{◌≡◌, ℕ, suc, Bool, true, false, ◌||◌, List, [], ◌∷◌, length, map, slice_get, Some, refl, sym, ap, subst, ◌∙◌, arith}
use Rattle.std.proofs.lemmas.Option.{same_Some}
use Rattle.store_map.specs.declared.script.ClientPart.{ClientPart}
use Rattle.store_map.specs.declared.script.RepairPart.{RepairPart}
use Rattle.store_map.specs.declared.script.Script.{Script}
use Rattle.store_core.specs.Core.{sweeper_has_step}
use Rattle.store_core.specs.Schedule.{is_unfinished}
use Rattle.store_core.specs.Work.{client_work, repairer_work, has_step, any_has_step}
use Rattle.version_seal.specs.Entry.{BookOf}
use Rattle.world_laws.specs.Known.{calling_of, core_of}
use Rattle.actors.specs.Callers.{PartOf, CallerOf, StandsIn, work_of}
use Rattle.store_world.specs.Stored.{StoredWorld, world_of}
use Rattle.store_world.specs.Kept.{IsWorld, IsClientAt, IsRepairerAt}
use Rattle.store_world.specs.Having.{some_caller_has, AreOfCode}

or_false : (b : Bool) → (b || false) ≡ b
or_false true = refl
or_false false = refl

true_last : (a b : Bool) → (a || b || true) ≡ true
true_last true b = refl
true_last false true = refl
true_last false false = refl

-- a caller whose part is the one at this place
record IsPartAt (X : Type 0) (as_part : X → PartOf) (parts : List X) (i : ℕ) (c : CallerOf) : Type 0 where
  part : X
  is_part : c.part ≡ as_part part
  its : slice_get parts i ≡ Some part

module _ (X : Type 0) (as_part : X → PartOf) (script : Script) where
  any_of : (parts : List X) (callers : List CallerOf) → length callers ≡ length parts
      → ((i : ℕ) (c : CallerOf) → slice_get callers i ≡ Some c → IsPartAt X as_part parts i c)
      → any_has_step (map (λ part. work_of (as_part part)) parts) (map (calling_of script) (map (λ caller. caller.actor) callers)) ≡ some_caller_has script callers
  any_of [] [] count each = refl
  any_of [] (c ∷ callers) count each = absurd (omega (arith, count))
  any_of (p ∷ parts) [] count each = absurd (omega (arith, count))
  any_of (p ∷ parts) (c ∷ callers) count each =
      let first : IsPartAt X as_part (p ∷ parts) 0 c = each 0 c refl in
      let same : as_part p ≡ c.part = ap as_part (same_Some p first.part first.its) ∙ sym first.is_part in
      λ k. has_step (work_of (same k)) (calling_of script c.actor)
      || any_of parts callers (omega (arith, count)) (λ i x there. record { part = (each (suc i) x there).part; is_part = (each (suc i) x there).is_part; its = (each (suc i) x there).its }) k

module _ (s : StoredWorld) (is : IsWorld s) where
  pub clients_of_code : AreOfCode s.script s.clients
  clients_of_code i c there = ap (λ (b : BookOf). b.geometry) (is.clients.each i c there).at.same_book ∙ is.code

  pub repairers_of_code : AreOfCode s.script s.repairers
  repairers_of_code i c there = ap (λ (b : BookOf). b.geometry) (is.repairers.each i c there).at.same_book ∙ is.code

  -- a client has one, or no client and a repairer, or neither and the sweeper tells
  clients_known : any_has_step (client_work s.script) (map (calling_of s.script) (world_of s).clients) ≡ some_caller_has s.script s.clients
  clients_known =
      any_of ClientPart PartOf.OfClient s.script s.script.clients s.clients is.clients.count
      (λ i c there. let at : IsClientAt s.script s.book s.directory i c = is.clients.each i c there in
      record { part = at.part; is_part = at.is_part; its = subst (StandsIn s.script i) at.is_part at.at.its })

  repairers_known : any_has_step (repairer_work s.script) (map (calling_of s.script) (world_of s).repairers) ≡ some_caller_has s.script s.repairers
  repairers_known =
      any_of RepairPart PartOf.OfRepairer s.script s.script.repairers s.repairers is.repairers.count
      (λ i c there. let at : IsRepairerAt s.script s.book s.directory i c = is.repairers.each i c there in
      record { part = at.part; is_part = at.is_part; its = subst (StandsIn s.script i) at.is_part at.at.its })

  pub unfinished : (some_client some_repairer : Bool) → some_client ≡ some_caller_has s.script s.clients → some_repairer ≡ some_caller_has s.script s.repairers
      → (some_client || some_repairer || sweeper_has_step (core_of s.script (world_of s))) ≡ is_unfinished s.script (core_of s.script (world_of s))
  unfinished some_client some_repairer one two = λ k. (one ∙ sym clients_known) k || (two ∙ sym repairers_known) k || sweeper_has_step (core_of s.script (world_of s))

  pub by_client : (some_client : Bool) → some_client ≡ some_caller_has s.script s.clients → some_client ≡ true → true ≡ is_unfinished s.script (core_of s.script (world_of s))
  by_client some_client one holds =
      let rest : Bool = some_caller_has s.script s.repairers in
      let sweeps : Bool = sweeper_has_step (core_of s.script (world_of s)) in
      ap (λ (b : Bool). b || rest || sweeps) (sym holds) ∙ unfinished some_client rest one refl

  pub by_repairers : (some_client some_repairer sweeps : Bool) → some_client ≡ some_caller_has s.script s.clients → some_client ≡ false → some_repairer ≡ some_caller_has s.script s.repairers
      → sweeps ≡ sweeper_has_step (core_of s.script (world_of s)) → sweeps ≡ false → some_repairer ≡ is_unfinished s.script (core_of s.script (world_of s))
  by_repairers some_client some_repairer sweeps one without two three rests =
      sym (or_false some_repairer) ∙ (λ k. sym without k || some_repairer || (sym rests ∙ three) k) ∙ unfinished some_client some_repairer one two

-- the sweeper has a step, whoever else has
pub by_sweeper : (s : StoredWorld) (sweeps : Bool) → sweeps ≡ sweeper_has_step (core_of s.script (world_of s)) → sweeps ≡ true → true ≡ is_unfinished s.script (core_of s.script (world_of s))
by_sweeper s sweeps tells holds =
    let some_client : Bool = any_has_step (client_work s.script) (map (calling_of s.script) (world_of s).clients) in
    let some_repairer : Bool = any_has_step (repairer_work s.script) (map (calling_of s.script) (world_of s).repairers) in
    sym (true_last some_client some_repairer) ∙ (λ k. some_client || some_repairer || (sym holds ∙ tells) k)

-- The steps that a valid script's calls may make, all together, are few.
use Rattle.std.proofs.Common.{◌≡◌, ℕ, ◌+◌, ◌*◌, ◌≤◌, [], length, drop, sum_by, subst, arith}
use Rattle.std.proofs.Math.Nat.{le_trans, mul-le-mul_right}
use Rattle.clay_grid.specs.Limits.{IsGeometry}
use Rattle.clay_grid.specs.Shape.{chunk_count}
use Rattle.store_map.specs.Limits.{size_of, tries_of}
use Rattle.store_map.specs.Naming.{IsValid}
use Rattle.store_map.specs.declared.script.Script.{Script}
use Rattle.store_core.specs.Core.{first_core}
use Rattle.store_core.specs.Work.{Work, Calling, new_calling, client_work, repairer_work}
use Rattle.run_laws.proofs.ActorSteps.{begun_steps}
use Rattle.run_laws.proofs.Groups.{steps_of, group_steps}
use Rattle.run_laws.proofs.Runs.{CanRun}
use Rattle.run_laws.proofs.ScriptBounds.{actors_most, steps_by, client_steps_most, repairer_steps_most, client_count, repairer_count}
use Rattle.run_laws.proofs.Scripts.{replicated}

module _ (script : Script) (geometry : IsGeometry script.geometry) (valid : IsValid script) (can : CanRun script) where
  -- of an actor that has not begun
  fresh : (work : Work) (n most : ℕ) (calling : Calling) → new_calling n ≡ calling → sum_by (steps_by script geometry valid) (drop 0 work.jobs) ≤ most
      → steps_of script work calling ≤ most
  fresh work n most calling same h =
      subst (λ (c : Calling). steps_of script work c ≤ most) same
      (le_trans (begun_steps script.geometry (size_of script) (tries_of script) (drop 0 work.jobs)) h)

  client_steps : group_steps script (client_work script) (first_core script).clients ≤ 64 * 2199023255552
  client_steps =
      le_trans
      (actors_most (steps_of script) 2199023255552 (client_work script) (first_core script).clients
      (λ i work calling is_work is_calling.
      fresh work (chunk_count script.geometry) 2199023255552 calling
      (replicated (length script.clients) i (new_calling (chunk_count script.geometry)) calling is_calling)
      (client_steps_most script geometry valid can.some i 0 work is_work)))
      (mul-le-mul_right 2199023255552 (client_count script geometry valid))

  repairer_steps : group_steps script (repairer_work script) (first_core script).repairers ≤ 16 * 307200
  repairer_steps =
      le_trans
      (actors_most (steps_of script) 307200 (repairer_work script) (first_core script).repairers
      (λ i work calling is_work is_calling.
      fresh work (chunk_count script.geometry) 307200 calling
      (replicated (length script.repairers) i (new_calling (chunk_count script.geometry)) calling is_calling)
      (repairer_steps_most script geometry valid i 0 work is_work)))
      (mul-le-mul_right 307200 (repairer_count script geometry valid))

  sum_few : (a b : ℕ) → a ≤ 64 * 2199023255552 → b ≤ 16 * 307200 → a + b ≤ 140737493270528
  sum_few a b one two = omega (arith, one, two)

  -- of all of them
  pub few_steps : group_steps script (client_work script) (first_core script).clients + group_steps script (repairer_work script)
      (first_core script).repairers ≤ 140737493270528
  few_steps =
      sum_few (group_steps script (client_work script) (first_core script).clients)
      (group_steps script (repairer_work script) (first_core script).repairers) client_steps
      repairer_steps

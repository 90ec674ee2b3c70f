-- The fuel of the first core of a valid script fits 64 bits.
use Rattle.std.proofs.Common.{ℕ, ◌+◌, ◌-◌, ◌*◌, ◌^◌, ◌<◌, ◌≤◌, List, length, drop, sum_by, zip, arith}
use Rattle.std.proofs.Math.Nat.{le_trans, mul-le-mul_right}
use Rattle.std.proofs.lemmas.Nat.{mul-le}
use Rattle.clay_grid.specs.Limits.{IsGeometry}
use Rattle.clay_grid.specs.Shape.{Shape, chunk_count, stripe_length}
use Rattle.store_map.specs.Content.{content_length}
use Rattle.store_map.specs.Limits.{tries_of, stripes_met, data_length}
use Rattle.store_map.specs.Naming.{IsValid}
use Rattle.store_map.specs.declared.call.Call.{Call}
use Rattle.store_map.specs.declared.call.Call.TheVariants as call
use Rattle.store_map.specs.declared.script.Script.{Script}
use Rattle.store_core.specs.Bounds.{draw_bound, sweep_bound}
use Rattle.store_core.specs.Core.{first_core}
use Rattle.store_core.specs.Fuel.{steps_left, draws_left, fuel_of}
use Rattle.store_core.specs.NextAct.{Job}
use Rattle.store_core.specs.Note.{note_of}
use Rattle.store_core.specs.Work.{Work, Calling, client_work, repairer_work}
use Rattle.run_laws.proofs.Runs.{CanRun}
use Rattle.run_laws.proofs.ScriptBounds.{met_below, actors_most, servers, tries, client_most, repairer_most, client_steps_most, repairer_steps_most, client_count, repairer_count}

-- ---- the versions of one call
draws_most : (g : Shape) (tries : ℕ) → 0 < stripe_length g → tries ≤ 8 → (c : Call) → data_length c ≤ 2097152 → draw_bound g tries (note_of c) ≤ 16777216
draws_most g tries some less (call.Put name content) long =
    let low : stripes_met (stripe_length g) 0 (content_length content) ≤ 2097152 = met_below g some 0 (content_length content) 2097152 long in
    omega (arith, low)
draws_most g tries some less (call.Write name offset content) long =
    mul-le tries (stripes_met (stripe_length g) offset (content_length content)) 8 2097152 less (met_below g some offset (content_length content) 2097152 long)
draws_most g tries some less (call.Get name) long = omega arith
draws_most g tries some less (call.ReadAt name offset count) long = omega arith
draws_most g tries some less (call.Stat name) long = omega arith
draws_most g tries some less (call.Delete name) long = omega arith

-- ---- sums
module _ (script : Script) (geometry : IsGeometry script.geometry) (valid : IsValid script) (can : CanRun script) where
  abbrev draws_by : Job → ℕ
  draws_by job = draw_bound script.geometry (tries_of script) job.note

  abbrev sum_of : (Work → Calling → ℕ) → List Work → List Calling → ℕ
  sum_of f works callings = sum_by (λ (both : Work × Calling). f both.0 both.1) (zip works callings)

  -- less than was there
  fewer : (a b c : ℕ) → a ≤ c → a - b ≤ c
  fewer a b c h = omega (arith, h)

  client_steps : (callings : List Calling) → sum_of (steps_left script) (client_work script) callings ≤ 64 * 2199023255552
  client_steps callings =
      le_trans
      (actors_most (steps_left script) 2199023255552 (client_work script) callings
      (λ i work calling is_work is_calling. fewer _ calling.steps 2199023255552 (client_steps_most script geometry valid can.some i (length calling.ended) work is_work)))
      (mul-le-mul_right 2199023255552 (client_count script geometry valid))

  client_draws : (callings : List Calling) → sum_of (draws_left script) (client_work script) callings ≤ 64 * 68719476736
  client_draws callings =
      le_trans
      (actors_most (draws_left script) 68719476736 (client_work script) callings
      (λ i work calling is_work is_calling.
      client_most script geometry valid draws_by 16777216 (λ c long. draws_most script.geometry (tries_of script) can.some (tries script geometry valid) c long) i
      (length calling.ended) work is_work))
      (mul-le-mul_right 68719476736 (client_count script geometry valid))

  repairer_steps : (callings : List Calling) → sum_of (steps_left script) (repairer_work script) callings ≤ 16 * 307200
  repairer_steps callings =
      le_trans
      (actors_most (steps_left script) 307200 (repairer_work script) callings
      (λ i work calling is_work is_calling. fewer _ calling.steps 307200 (repairer_steps_most script geometry valid i (length calling.ended) work is_work)))
      (mul-le-mul_right 307200 (repairer_count script geometry valid))

  repairer_draws : (callings : List Calling) → sum_of (draws_left script) (repairer_work script) callings ≤ 16 * 4096
  repairer_draws callings =
      le_trans
      (actors_most (draws_left script) 4096 (repairer_work script) callings
      (λ i work calling is_work is_calling. repairer_most script geometry valid draws_by 1 (λ c. omega arith) i (length calling.ended) work is_work))
      (mul-le-mul_right 4096 (repairer_count script geometry valid))

  summed : (steps more sweeps draws others : ℕ) → steps ≤ 64 * 2199023255552 → more ≤ 16 * 307200 → sweeps ≤ 26 → draws ≤ 64 * 68719476736 → others ≤ 16 * 4096
      → steps + more + sweeps * (0 + (draws + others)) < 2 ^ 64 - 1
  summed steps more sweeps draws others a b c d e =
      let all : 0 + (draws + others) ≤ 4398046576640 = omega (arith, d, e) in
      let product : sweeps * (0 + (draws + others)) ≤ 26 * 4398046576640 = mul-le sweeps (0 + (draws + others)) 26 4398046576640 c all in
      omega (arith, a, b, product)

  -- the sum of all
  pub fuel_fits : fuel_of script (first_core script) < 2 ^ 64 - 1
  fuel_fits =
      summed (sum_of (steps_left script) (client_work script) (first_core script).clients) (sum_of (steps_left script) (repairer_work script) (first_core script).repairers)
      (sweep_bound script.geometry) (sum_of (draws_left script) (client_work script) (first_core script).clients)
      (sum_of (draws_left script) (repairer_work script) (first_core script).repairers) (client_steps (first_core script).clients)
      (repairer_steps (first_core script).repairers) (let few : chunk_count script.geometry ≤ 24 = servers script geometry valid in omega (arith, few))
      (client_draws (first_core script).clients) (repairer_draws (first_core script).repairers)

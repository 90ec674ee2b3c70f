-- A valid script's calls: the most steps of one, and of sums over an actor's calls and over all actors.
use Rattle.std.proofs.Common.{◌≡◌, ℕ, zero, suc, ◌+◌, ◌-◌, ◌*◌, ◌/◌, ◌<◌, ◌≤◌, min, List, length, map, drop, sum_by, zip, Option, None, Some, unwrap_or, IfSome, All, subst, arith}
use Rattle.std.proofs.lemmas.List.{length-map, length-drop}
use Rattle.std.proofs.lemmas.List.Elements.{All-map, All-drop}
use Rattle.std.proofs.lemmas.List.Sums.{sum_by-le}
use Rattle.std.proofs.lemmas.Slice.Zip.{length-zip}
use Rattle.std.proofs.Math.Nat.{le_trans, mul-le-mul_right, add-mul-div_left, div-mul-le_self}
use Rattle.std.proofs.lemmas.Nat.{le-div, mul-le}
use Rattle.std.specs.List.{slice_get}
use Rattle.clay_grid.specs.Limits.{IsGeometry}
use Rattle.clay_grid.specs.Shape.{Shape, chunk_count, stripe_length}
use Rattle.store_map.specs.Content.{content_length}
use Rattle.store_map.specs.Limits.{size_of, tries_of, stripes_met, data_length}
use Rattle.store_map.specs.Naming.{IsValid}
use Rattle.store_map.specs.declared.call.Call.{Call}
use Rattle.store_map.specs.declared.call.Call.TheVariants as call
use Rattle.store_map.specs.declared.call.Rebuild.{Rebuild as RebuildCall}
use Rattle.store_map.specs.declared.script.ClientPart.{ClientPart}
use Rattle.store_map.specs.declared.script.RepairPart.{RepairPart}
use Rattle.store_map.specs.declared.script.Script.{Script}
use Rattle.store_core.specs.Bounds.{step_bound}
use Rattle.store_core.specs.NextAct.{Job, job_of, rebuild_job}
use Rattle.store_core.specs.Note.{note_of}
use Rattle.store_core.specs.Work.{Work, Calling, client_work, repairer_work}
use Rattle.run_laws.proofs.SoundLists.{at_all}
use Rattle.run_laws.proofs.Groups.{sum_below}
use Rattle.run_laws.proofs.Scripts.{Mapped, mapped}

-- ---- stripes met are no more than bytes
div_rises : (a b k : ℕ) → 0 < k → a ≤ b → a / k ≤ b / k
div_rises a b k some h = le-div (a / k) b k some (let back : a / k * k ≤ a = div-mul-le_self a k in omega (arith, back, h))

met_by : (stripe : ℕ) → 0 < stripe → (offset k : ℕ) → (offset + k) / stripe ≤ offset / stripe + k
met_by stripe some offset k =
    let more : offset + k ≤ offset + stripe * k = (let one : 1 * k ≤ stripe * k = mul-le-mul_right k some in omega (arith, one)) in
    let whole : (offset + stripe * k) / stripe ≡ offset / stripe + k = add-mul-div_left offset k some in
    let less : (offset + k) / stripe ≤ (offset + stripe * k) / stripe = div_rises (offset + k) (offset + stripe * k) stripe some more in
    omega (arith, whole, less)

pub met_most : (stripe : ℕ) → 0 < stripe → (offset n : ℕ) → stripes_met stripe offset n ≤ n
met_most stripe some offset zero = omega arith
met_most stripe some offset (suc k) =
    let most : (offset + k) / stripe ≤ offset / stripe + k = met_by stripe some offset k in
    omega (arith, most)

-- ---- one call, where there are at most 24 servers, 8 tries, 2^21 bytes to write and 2^20 to read
put_most : (n s : ℕ) → n ≤ 24 → s ≤ 2097152 → 2 * n * s + 3 ≤ 536870912
put_most n s few small =
    let product : 2 * n * s ≤ 48 * 2097152 = mul-le (2 * n) s 48 2097152 (omega (arith, few)) small in
    omega (arith, product)

write_most : (n tries s : ℕ) → n ≤ 24 → tries ≤ 8 → s ≤ 2097152 → tries * (6 * n + n * s + 3) + n * s + 1 ≤ 536870912
write_most n tries s few some small =
    let product : n * s ≤ 50331648 = mul-le n s 24 2097152 few small in
    let one : 6 * n + n * s + 3 ≤ 50331795 = omega (arith, product, few) in
    let all : tries * (6 * n + n * s + 3) ≤ 8 * 50331795 = mul-le tries (6 * n + n * s + 3) 8 50331795 some one in
    omega (arith, product, all)

read_most : (n r : ℕ) → n ≤ 24 → r ≤ 1048576 → 3 * n * r + 2 ≤ 536870912
read_most n r few small =
    let product : 3 * n * r ≤ 72 * 1048576 = mul-le (3 * n) r 72 1048576 (omega (arith, few)) small in
    omega (arith, product)

module _ (g : Shape) (some : 0 < stripe_length g) where
  abbrev met : ℕ → ℕ → ℕ
  met offset n = stripes_met (stripe_length g) offset n

  pub met_below : (offset n most : ℕ) → n ≤ most → met offset n ≤ most
  met_below offset n most long = le_trans (met_most (stripe_length g) some offset n) long

  module _ (max tries : ℕ) (few : chunk_count g ≤ 24) (size : max ≤ 1048576) (less : tries ≤ 8) where
    pub steps_most : (c : Call) → data_length c ≤ 2097152 → step_bound g max tries (note_of c) ≤ 536870912
    steps_most (call.Put name content) long =
        put_most (chunk_count g) (met 0 (content_length content)) few (met_below 0 (content_length content) 2097152 long)
    steps_most (call.Write name offset content) long =
        write_most (chunk_count g) tries (met offset (content_length content)) few less (met_below offset (content_length content) 2097152 long)
    steps_most (call.Get name) long = read_most (chunk_count g) (met 0 max) few (met_below 0 max 1048576 size)
    steps_most (call.ReadAt name offset count) long =
        read_most (chunk_count g) (met offset (min count (max - offset))) few
        (met_below offset (min count (max - offset)) 1048576 (omega (arith, size)))
    steps_most (call.Stat name) long = omega arith
    steps_most (call.Delete name) long = omega arith

-- ---- sums
-- of the jobs that are left
jobs_most : (f : Job → ℕ) (most n : ℕ) (jobs : List Job) → length jobs ≤ 4096 → All (λ job. f job ≤ most) jobs → sum_by f (drop n jobs) ≤ 4096 * most
jobs_most f most n jobs short all =
    let sum : sum_by f (drop n jobs) ≤ length (drop n jobs) * most =
    sum_by-le f most (drop n jobs) (All-drop (λ (job : Job). f job ≤ most) n jobs all) in
    let left : length (drop n jobs) ≡ length jobs - n = length-drop n jobs in
    let few : length (drop n jobs) ≤ 4096 = omega (arith, left, short) in
    le_trans sum (mul-le-mul_right most few)

-- of the actors
pub actors_most : (f : Work → Calling → ℕ) (most : ℕ) (works : List Work) (callings : List Calling)
    → ((i : ℕ) (work : Work) (calling : Calling) → slice_get works i ≡ Some work → slice_get callings i ≡ Some calling → f work calling ≤ most)
    → sum_by (λ (both : Work × Calling). f both.0 both.1) (zip works callings) ≤ length works * most
actors_most f most works callings each =
    let below : sum_by (λ (both : Work × Calling). f both.0 both.1) (zip works callings) ≤ sum_by (λ (both : Work × Calling). most) (zip works callings) =
    sum_below f (λ work calling. most) works callings each in
    let sum : sum_by (λ (both : Work × Calling). most) (zip works callings) ≤ length (zip works callings) * most =
    sum_by-le (λ (both : Work × Calling). most) most (zip works callings) (λ k d within. omega arith) in
    let count : length (zip works callings) ≡ min (length works) (length callings) = length-zip works callings in
    let few : length (zip works callings) ≤ length works = omega (arith, count) in
    le_trans below (le_trans sum (mul-le-mul_right most few))

-- ---- a script's
module _ (script : Script) (geometry : IsGeometry script.geometry) (valid : IsValid script) where
  pub servers : chunk_count script.geometry ≤ 24
  servers = le_trans geometry.chunks geometry.nodes

  pub size : size_of script ≤ 1048576
  size = by script.size valid.limits.size
    where
      by : (found : Option ℕ) → IfSome found (λ n. (1 ≤ n) × (n ≤ 1048576)) → unwrap_or found 65536 ≤ 1048576
      by None h = omega arith
      by (Some n) h = h.1

  pub tries : tries_of script ≤ 8
  tries = by script.tries valid.limits.tries
    where
      by : (found : Option ℕ) → IfSome found (λ n. (1 ≤ n) × (n ≤ 8)) → unwrap_or found 8 ≤ 8
      by None h = omega arith
      by (Some n) h = h.1

  abbrev pub steps_by : Job → ℕ
  steps_by job = step_bound script.geometry (size_of script) (tries_of script) job.note

  pub rebuild_steps : (c : RebuildCall) → steps_by (rebuild_job c) ≤ 75
  rebuild_steps c = let few : chunk_count script.geometry ≤ 24 = servers in omega (arith, few)

  -- a client's calls
  pub client_most : (f : Job → ℕ) (most : ℕ) → ((c : Call) → data_length c ≤ 2097152 → f (job_of c) ≤ most) → (i n : ℕ) (work : Work)
      → slice_get (client_work script) i ≡ Some work → sum_by f (drop n work.jobs) ≤ 4096 * most
  client_most f most each i n work is_work =
      let of : Mapped (λ (part : ClientPart). record { jobs = map job_of part.calls; leave = part.leave }) script.clients i work =
      mapped (λ (part : ClientPart). record { jobs = map job_of part.calls; leave = part.leave }) script.clients i work is_work in
      let few : length of.source.calls ≤ 4096 =
      at_all (λ (p : ClientPart). length p.calls ≤ 4096) script.clients i of.source valid.limits.client_calls of.found in
      let long : All (λ (c : Call). data_length c ≤ 2097152) of.source.calls =
      at_all (λ (p : ClientPart). All (λ c. data_length c ≤ 2097152) p.calls) script.clients i of.source valid.limits.data_lengths of.found in
      let count : length (map job_of of.source.calls) ≡ length of.source.calls = length-map of.source.calls job_of in
      subst (λ (w : Work). sum_by f (drop n w.jobs) ≤ 4096 * most) of.is_image
      (jobs_most f most n (map job_of of.source.calls) (omega (arith, count, few))
      (All-map (λ (job : Job). f job ≤ most) job_of of.source.calls (λ k d within. each _ (long k d within))))

  -- a repairer's
  pub repairer_most : (f : Job → ℕ) (most : ℕ) → ((c : RebuildCall) → f (rebuild_job c) ≤ most) → (i n : ℕ) (work : Work)
      → slice_get (repairer_work script) i ≡ Some work → sum_by f (drop n work.jobs) ≤ 4096 * most
  repairer_most f most each i n work is_work =
      let of : Mapped (λ (part : RepairPart). record { jobs = map rebuild_job part.calls; leave = part.leave }) script.repairers i work =
      mapped (λ (part : RepairPart). record { jobs = map rebuild_job part.calls; leave = part.leave }) script.repairers i work is_work in
      let few : length of.source.calls ≤ 4096 =
      at_all (λ (p : RepairPart). length p.calls ≤ 4096) script.repairers i of.source valid.limits.repairer_calls of.found in
      let count : length (map rebuild_job of.source.calls) ≡ length of.source.calls = length-map of.source.calls rebuild_job in
      subst (λ (w : Work). sum_by f (drop n w.jobs) ≤ 4096 * most) of.is_image
      (jobs_most f most n (map rebuild_job of.source.calls) (omega (arith, count, few))
      (All-map (λ (job : Job). f job ≤ most) rebuild_job of.source.calls (λ k d within. each _)))

  -- how many actors
  pub client_count : length (client_work script) ≤ 64
  client_count =
      let same : length (client_work script) ≡ length script.clients =
      length-map script.clients (λ (part : ClientPart). record { jobs = map job_of part.calls; leave = part.leave }) in
      let few : length script.clients ≤ 64 = valid.limits.clients in
      omega (arith, same, few)

  pub repairer_count : length (repairer_work script) ≤ 16
  repairer_count =
      let same : length (repairer_work script) ≡ length script.repairers =
      length-map script.repairers (λ (part : RepairPart). record { jobs = map rebuild_job part.calls; leave = part.leave }) in
      let few : length script.repairers ≤ 16 = valid.limits.repairers in
      omega (arith, same, few)

  -- an actor's steps
  module _ (some : 0 < stripe_length script.geometry) where
    pub client_steps_most : (i n : ℕ) (work : Work) → slice_get (client_work script) i ≡ Some work → sum_by steps_by (drop n work.jobs) ≤ 2199023255552
    client_steps_most i n work is_work =
        client_most steps_by 536870912 (λ c long. steps_most script.geometry some (size_of script) (tries_of script) servers size tries c long) i n work is_work

  pub repairer_steps_most : (i n : ℕ) (work : Work) → slice_get (repairer_work script) i ≡ Some work → sum_by steps_by (drop n work.jobs) ≤ 307200
  repairer_steps_most i n work is_work = repairer_most steps_by 75 rebuild_steps i n work is_work

-- A session's calls make fewer steps than there are numbers of 64 bits.
use Rattle.std.proofs.Common.{◌≡◌, ℕ, zero, suc, ◌+◌, ◌-◌, ◌*◌, ◌/◌, ◌^◌, ◌<◌, ◌≤◌, min, [], ap, ◌∙◌, arith, mul-le-mul_left}
use Rattle.std.proofs.Math.Nat.{div-le_of_le-mul}
use Rattle.clay_grid.specs.Shape.{Shape, chunk_count, node_count, stripe_length}
use Rattle.clay_grid.specs.Limits.{IsGeometry}
use Rattle.store_map.specs.Limits.{stripes_met}
use Rattle.store_core.specs.Bounds.{touched_count, read_count, bound_by, step_bound}
use Rattle.store_core.specs.NextAct.{Job}
use Rattle.store_core.specs.Note.{Note, Kind}
use Rattle.run_laws.specs.CallLeft.{call_left}
use Rattle.run_laws.proofs.Steps.{steps_fall}

div_few : (s x : ℕ) → 0 < s → x / s ≤ x
div_few s x some = div-le_of_le-mul s {m = x} {n = x} (let more : x * 1 ≤ x * s = mul-le-mul_left x (omega (arith, some)) in let y : ℕ = x * s in omega (arith, more))

pub met_few : (s offset n : ℕ) → 0 < s → stripes_met s offset n ≤ offset + n + 1
met_few s offset zero some = omega arith
met_few s offset (suc n) some =
    let last : (offset + n) / s ≤ offset + n = div_few s (offset + n) some in
    let x : ℕ = (offset + n) / s in
    let y : ℕ = offset / s in
    omega (arith, last)

min_few : (n k : ℕ) → min n k ≤ n
min_few n k = omega arith

pub times : (n s : ℕ) → n ≤ 72 → s ≤ 17179869184 → n * s ≤ 1236950581248
times n s few short =
    let product : n * s ≤ n * 17179869184 = mul-le-mul_left n short in
    let x : ℕ = n * s in
    omega (arith, product, few)

writes_few : (n tries s : ℕ) → n ≤ 24 → tries ≤ 1 → s ≤ 17179869184 → tries * (6 * n + n * s + 3) + n * s + 1 < 2 ^ 64
writes_few n zero s few once short = let product : n * s ≤ 1236950581248 = times n s (omega (arith, few)) short in let x : ℕ = n * s in omega (arith, product)
writes_few n (suc zero) s few once short = let product : n * s ≤ 1236950581248 = times n s (omega (arith, few)) short in let x : ℕ = n * s in omega (arith, product, few)
writes_few n (suc (suc tries)) s few once short = absurd (omega (arith, once))

bound_few : (kind : Kind) (n tries s r : ℕ) → n ≤ 24 → tries ≤ 1 → s ≤ 17179869184 → r ≤ 17179869184 → bound_by kind n tries s r < 2 ^ 64
bound_few Kind.Put n tries s r few once short read = let product : (2 * n) * s ≤ 1236950581248 = times (2 * n) s (omega (arith, few)) short in let x : ℕ = (2 * n) * s in omega (arith, product)
bound_few Kind.Write n tries s r few once short read = writes_few n tries s few once short
bound_few Kind.Get n tries s r few once short read = let product : (3 * n) * r ≤ 1236950581248 = times (3 * n) r (omega (arith, few)) read in let x : ℕ = (3 * n) * r in omega (arith, product)
bound_few Kind.ReadAt n tries s r few once short read = let product : (3 * n) * r ≤ 1236950581248 = times (3 * n) r (omega (arith, few)) read in let x : ℕ = (3 * n) * r in omega (arith, product)
bound_few Kind.Stat n tries s r few once short read = omega arith
bound_few Kind.Delete n tries s r few once short read = omega arith
bound_few Kind.Rebuild n tries s r few once short read = omega (arith, few)

module _ (g : Shape) (max : ℕ) (fits : IsGeometry g) (some : 0 < stripe_length g) (small : max < 2 ^ 32) (note : Note) (short : note.offset + note.length < 2 ^ 33) where
  touched_few : touched_count g note ≤ 17179869184
  touched_few = let few : stripes_met (stripe_length g) note.offset note.length ≤ note.offset + note.length + 1 = met_few (stripe_length g) note.offset note.length some in let x : ℕ = stripes_met (stripe_length g) note.offset note.length in omega (arith, few, short)

  read_few : (kind : Kind) → read_count kind g max note ≤ 17179869184
  read_few Kind.Get = let few : stripes_met (stripe_length g) 0 max ≤ 0 + max + 1 = met_few (stripe_length g) 0 max some in let x : ℕ = stripes_met (stripe_length g) 0 max in omega (arith, few, small)
  read_few Kind.ReadAt =
      let asked : min note.length (max - note.offset) ≤ note.length = min_few note.length (max - note.offset) in
      let few : stripes_met (stripe_length g) note.offset (min note.length (max - note.offset)) ≤ note.offset + min note.length (max - note.offset) + 1 = met_few (stripe_length g) note.offset (min note.length (max - note.offset)) some in
      let x : ℕ = stripes_met (stripe_length g) note.offset (min note.length (max - note.offset)) in
      let y : ℕ = min note.length (max - note.offset) in
      omega (arith, few, asked, short)
  read_few Kind.Put = touched_few
  read_few Kind.Write = touched_few
  read_few Kind.Stat = touched_few
  read_few Kind.Delete = touched_few
  read_few Kind.Rebuild = touched_few

  servers_few : chunk_count g ≤ 24
  servers_few = let nodes : node_count g ≤ 24 = fits.nodes in let chunks : chunk_count g ≤ node_count g = fits.chunks in omega (arith, nodes, chunks)

  pub steps_few : (tries : ℕ) (job : Job) → tries ≤ 1 → job.note ≡ note → call_left g max tries job [] < 2 ^ 64
  steps_few tries job once same =
      let first : call_left g max tries job [] ≤ step_bound g max tries job.note = (steps_fall g max tries job).first in
      let bound : step_bound g max tries note < 2 ^ 64 = bound_few note.kind (chunk_count g) tries (touched_count g note) (read_count note.kind g max note) servers_few once touched_few (read_few note.kind) in
      let is : step_bound g max tries job.note ≡ step_bound g max tries note = ap (step_bound g max tries) same in
      let x : ℕ = step_bound g max tries job.note in
      let y : ℕ = step_bound g max tries note in
      let z : ℕ = call_left g max tries job [] in
      omega (arith, first, bound, is)

-- a rebuild's are few whatever it speaks of
pub rebuild_steps_few : (g : Shape) (max tries : ℕ) (job : Job) → IsGeometry g → job.note.kind ≡ Kind.Rebuild → call_left g max tries job [] < 2 ^ 64
rebuild_steps_few g max tries job fits kind =
    let first : call_left g max tries job [] ≤ step_bound g max tries job.note = (steps_fall g max tries job).first in
    let is : step_bound g max tries job.note ≡ 3 * chunk_count g + 3 = ap (λ k. bound_by k (chunk_count g) tries (touched_count g job.note) (read_count job.note.kind g max job.note)) kind in
    let nodes : node_count g ≤ 24 = fits.nodes in
    let chunks : chunk_count g ≤ node_count g = fits.chunks in
    let x : ℕ = step_bound g max tries job.note in
    let z : ℕ = call_left g max tries job [] in
    omega (arith, first, is, nodes, chunks)

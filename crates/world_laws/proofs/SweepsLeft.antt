-- The sweeper's steps come to an end.
use Rattle.std.proofs.Common.{◌≡◌, ℕ, ◌+◌, ◌-◌, ◌*◌, ◌<◌, ◌≤◌, Bool, true, false, cond, nat_lt, List, [], ◌∷◌, Option, None, Some, is_some, refl, sym, subst, arith, true≢false, mul-le-mul_left}
use Rattle.std.proofs.lemmas.Bool.{ltb-true}
use Rattle.clay_grid.specs.Shape.{Shape, chunk_count}
use Rattle.store_map.specs.declared.actor.Actor.TheVariants as actor
use Rattle.store_core.specs.Told.{Told}
use Rattle.store_core.specs.Act.{Act, DirectoryStep, ServerStep}
use Rattle.store_core.specs.AtDirectory.{take_garbage, at_directory}
use Rattle.store_core.specs.Bounds.{sweep_bound}
use Rattle.store_core.specs.Directory.{Standing, Version, Directory}
use Rattle.store_core.specs.Lookups.{first_garbage}
use Rattle.store_core.specs.Sound.{IsSound}
use Rattle.store_core.specs.Sweep.{Sweeper, after_sweep}
use Rattle.run_laws.proofs.LiveVersions.{is_live_standing, live_count, sound_live, counts_move, take_lowers}
use Rattle.world_laws.specs.SweepsLeft.{is_untaken, untaken, sweeps_left, SweepsFall, SweepsFallFrom}

same_standing : (standing : Standing) → is_live_standing standing ≡ is_untaken standing
same_standing Standing.Taken = refl
same_standing Standing.Swept = refl
same_standing standing = refl

same_count : (versions : List Version) → live_count versions ≡ untaken versions
same_count [] = refl
same_count (version ∷ versions) = λ i. cond (same_standing version.standing i) 1 0 + same_count versions i

falls_by_left : (bound count count_now left left_now : ℕ) → count_now ≤ count → left_now < left → bound * count_now + left_now < bound * count + left
falls_by_left bound count count_now left left_now fewer less =
    let product : bound * count_now ≤ bound * count = mul-le-mul_left bound fewer in
    let x : ℕ = bound * count_now in
    let y : ℕ = bound * count in
    omega (arith, product, less)

falls_by_count : (n count count_now left : ℕ) → count_now < count → left < n + 2 → (n + 2) * count_now + left < (n + 2) * count + 0
falls_by_count n count count_now left fewer less =
    let product : (n + 2) * (count_now + 1) ≤ (n + 2) * count = mul-le-mul_left (n + 2) (omega (arith, fewer)) in
    let one : (n + 2) * (count_now + 1) ≡ (n + 2) * count_now + (n + 2) = grind arith in
    let x : ℕ = (n + 2) * count_now in
    let y : ℕ = (n + 2) * count in
    let z : ℕ = (n + 2) * (count_now + 1) in
    omega (arith, product, one, less)

module _ (g : Shape) (d : Directory) (sound : IsSound d) where
  abbrev n : ℕ
  n = chunk_count g

  -- it takes a version
  takes : (found : Option ℕ) → first_garbage d ≡ found → is_some found ≡ true → sweeps_left g (after_sweep n Sweeper.Idle (take_garbage found d).1) (take_garbage found d).0 < sweeps_left g Sweeper.Idle d
  takes None e some = absurd (true≢false (sym some))
  takes (Some version) e some =
      let taken : Directory = (take_garbage (Some version) d).0 in
      let less : live_count taken.versions < live_count d.versions = take_lowers d version e in
      let now : live_count taken.versions ≡ untaken taken.versions = same_count taken.versions in
      let before : live_count d.versions ≡ untaken d.versions = same_count d.versions in
      let a : ℕ = untaken taken.versions in
      let b : ℕ = untaken d.versions in
      let fewer : a < b = omega (arith, less, now, before) in
      falls_by_count n b a (n - 0 + 1) fewer (omega arith)

  -- it says that one is swept
  says : (version server : ℕ) → nat_lt server n ≡ false
      → let after : Directory = (at_directory false actor.Sweeper 0 (DirectoryStep.Swept version) d).0 in sweeps_left g Sweeper.Idle after < sweeps_left g (Sweeper.Sweeping version server) d
  says version server past =
      let after : Directory = (at_directory false actor.Sweeper 0 (DirectoryStep.Swept version) d).0 in
      let count : live_count after.versions ≤ live_count d.versions + 0 = counts_move d (sound_live d sound) false actor.Sweeper 0 (DirectoryStep.Swept version) in
      let now : live_count after.versions ≡ untaken after.versions = same_count after.versions in
      let before : live_count d.versions ≡ untaken d.versions = same_count d.versions in
      let a : ℕ = untaken after.versions in
      let b : ℕ = untaken d.versions in
      falls_by_left (sweep_bound g) b a (n - server + 1) 0 (omega (arith, count, now, before)) (omega arith)

  -- it discards one
  discards : (version server : ℕ) → nat_lt server n ≡ true → sweeps_left g (Sweeper.Sweeping version (server + 1)) d < sweeps_left g (Sweeper.Sweeping version server) d
  discards version server e =
      let below : server < n = ltb-true server n e in
      falls_by_left (sweep_bound g) (untaken d.versions) (untaken d.versions) (n - server + 1) (n - (server + 1) + 1) (omega arith) (omega (arith, below))

  -- by what it does next
  busy_directory : (version server : ℕ) (b : Bool) → nat_lt server n ≡ b → (step : DirectoryStep) → cond {A = Act} b (Act.AtServer server (ServerStep.Discard version)) (Act.AtDirectory (DirectoryStep.Swept version)) ≡ Act.AtDirectory step
      → let after : Directory × Told = at_directory false actor.Sweeper 0 step d in sweeps_left g (cond {A = Sweeper} b (Sweeper.Sweeping version (server + 1)) Sweeper.Idle) after.0 < sweeps_left g (Sweeper.Sweeping version server) d
  busy_directory version server true e step is = absurd (cc (is))
  busy_directory version server false e step is =
      let same : DirectoryStep.Swept version ≡ step = cc (is) in
      subst (λ (x : DirectoryStep). sweeps_left g Sweeper.Idle (at_directory false actor.Sweeper 0 x d).0 < sweeps_left g (Sweeper.Sweeping version server) d) same (says version server e)

  busy_server : (version server : ℕ) (b : Bool) → nat_lt server n ≡ b → (other : ℕ) (step : ServerStep) → cond {A = Act} b (Act.AtServer server (ServerStep.Discard version)) (Act.AtDirectory (DirectoryStep.Swept version)) ≡ Act.AtServer other step
      → sweeps_left g (cond {A = Sweeper} b (Sweeper.Sweeping version (server + 1)) Sweeper.Idle) d < sweeps_left g (Sweeper.Sweeping version server) d
  busy_server version server true e other step is = discards version server e
  busy_server version server false e other step is = absurd (cc (is))

  falls : (s : Sweeper) → SweepsFall g s d
  falls Sweeper.Idle =
      record {
        at_directory = λ step is has.
            let same : DirectoryStep.NextGarbage ≡ step = cc (is) in
            subst
            (λ (x : DirectoryStep). sweeps_left g (after_sweep n Sweeper.Idle (at_directory false actor.Sweeper 0 x d).1) (at_directory false actor.Sweeper 0 x d).0 < sweeps_left g Sweeper.Idle d)
            same (takes (first_garbage d) refl has);
        at_server = λ server step answer is. absurd (cc (is));
      }
  falls (Sweeper.Sweeping version server) =
      record {
        at_directory = λ step is has. busy_directory version server (nat_lt server n) refl step is;
        at_server = λ other step answer is. busy_server version server (nat_lt server n) refl other step is;
      }

pub sweeps_fall : SweepsFallFrom
sweeps_fall g s d sound = falls g d sound s

-- The sweeper's steps for one version.
use Rattle.std.proofs.Common.{◌≡◌, ℕ, ◌+◌, ◌-◌, nat_lt, refl, arith}
use Rattle.std.proofs.lemmas.Bool.{cond-true, cond-false, lt-ltb, le-ltb}
use Rattle.clay_grid.specs.Shape.{Shape, chunk_count}
use Rattle.store_core.specs.Act.{Act, DirectoryStep, ServerStep}
use Rattle.store_core.specs.Sweep.{Sweeper}
use Rattle.run_laws.specs.SweepLaws.{SweepsInOrder}

all_steps : (n : ℕ) → n - 0 + 1 + 1 ≡ n + 2
all_steps n = omega arith

pub sweeps_in_order : (g : Shape) → SweepsInOrder g
sweeps_in_order g =
    let n : ℕ = chunk_count g in
    record {
      takes = refl;
      begins = λ version. all_steps n;
      rests = refl;
      discards = λ version server below.
          cond-true {A = Act} (nat_lt server n) (Act.AtServer server (ServerStep.Discard version)) (Act.AtDirectory (DirectoryStep.Swept version)) (lt-ltb server n below);
      falls = λ version server answer below. cond-true {A = Sweeper} (nat_lt server n) (Sweeper.Sweeping version (server + 1)) Sweeper.Idle (lt-ltb server n below);
      says = λ version.
          cond-false {A = Act} (nat_lt n n) (Act.AtServer n (ServerStep.Discard version)) (Act.AtDirectory (DirectoryStep.Swept version)) (le-ltb n n (omega arith));
      ends = λ version answer. cond-false {A = Sweeper} (nat_lt n n) (Sweeper.Sweeping version (n + 1)) Sweeper.Idle (le-ltb n n (omega arith));
    }

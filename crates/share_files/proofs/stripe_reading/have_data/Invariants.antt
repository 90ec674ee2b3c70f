use Rattle.std.proofs.Common.{◌≡◌, ◌<◌, ℕ, false}
use Rattle.share_format.specs.Joined.{is_lost}
use Rattle.share_files.proofs.stripe_reading.have_data.Given as goal

abbrev pub invariant-loop-share : goal.invariant-loop-share
invariant-loop-share l = record { there : (c : ℕ) → c < l.share → is_lost l.blocks c ≡ false }

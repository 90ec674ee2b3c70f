-- What the scripts with losses at each place show.
use Rattle.std.specs.Prelude.{[], ◌∷◌}
use Rattle.store_core.specs.RowLines.{server}
use Rattle.store_core.specs.RowsManyLosses.{read_after_three_losses}
use Rattle.store_core.specs.RowsEveryPlace.{ShowsFrom, put_with_losses, one_loss, three_losses, bytes_with, write_with_loss, written_with, rebuild_with_loss, rebuilt_with}

-- a loss before the chunk was prepared is none; after that the get repairs
pub record LossesInPuts : Type 0 where
  pub before :
      ShowsFrom 0 3 (put_with_losses one_loss) (bytes_with (4 ∷ 4 ∷ 0 ∷ 0 ∷ []) (server 0 4 1 1 ∷ server 1 4 1 0 ∷ server 2 0 1 0 ∷ server 3 0 1 0 ∷ []))
  pub after :
      ShowsFrom 3 9 (put_with_losses one_loss) (bytes_with (0 ∷ 6 ∷ 2 ∷ 2 ∷ []) (server 0 0 0 1 ∷ server 1 6 1 0 ∷ server 2 2 1 0 ∷ server 3 2 1 0 ∷ []))

-- of three servers that are emptied none, one, two or all had their chunk
pub record ThreeLossesInPuts : Type 0 where
  pub none :
      ShowsFrom 0 3 (put_with_losses three_losses) (bytes_with (4 ∷ 4 ∷ 0 ∷ 0 ∷ []) (server 0 4 1 1 ∷ server 1 4 1 1 ∷ server 2 0 1 1 ∷ server 3 0 1 0 ∷ []))
  pub one :
      ShowsFrom 3 1 (put_with_losses three_losses) (bytes_with (0 ∷ 6 ∷ 2 ∷ 2 ∷ []) (server 0 0 0 1 ∷ server 1 6 1 1 ∷ server 2 2 1 1 ∷ server 3 2 1 0 ∷ []))
  pub two :
      ShowsFrom 4 1 (put_with_losses three_losses) (bytes_with (0 ∷ 0 ∷ 4 ∷ 4 ∷ []) (server 0 0 0 1 ∷ server 1 0 0 1 ∷ server 2 4 1 1 ∷ server 3 4 1 0 ∷ []))
  pub all : ShowsFrom 5 7 (put_with_losses three_losses) read_after_three_losses.transcript

-- a loss before the old bytes were fetched, before the new chunk was prepared, after that
pub record LossesInWrites : Type 0 where
  pub old_bytes :
      ShowsFrom 0 2 write_with_loss
      (written_with (0 ∷ 6 ∷ 2 ∷ 2 ∷ []) (4 ∷ 4 ∷ 0 ∷ 0 ∷ []) (server 0 4 1 1 ∷ server 1 10 1 0 ∷ server 2 2 1 0 ∷ server 3 2 1 0 ∷ []))
  pub between :
      ShowsFrom 2 3 write_with_loss
      (written_with (4 ∷ 4 ∷ 0 ∷ 0 ∷ []) (4 ∷ 4 ∷ 0 ∷ 0 ∷ []) (server 0 8 1 1 ∷ server 1 8 1 0 ∷ server 2 0 1 0 ∷ server 3 0 1 0 ∷ []))
  pub new_bytes :
      ShowsFrom 5 9 write_with_loss
      (written_with (4 ∷ 4 ∷ 0 ∷ 0 ∷ []) (0 ∷ 6 ∷ 2 ∷ 2 ∷ []) (server 0 4 0 1 ∷ server 1 10 1 0 ∷ server 2 2 1 0 ∷ server 3 2 1 0 ∷ []))

-- a loss before the part of server 1 was fetched, and after that
pub record LossesInRebuilds : Type 0 where
  pub whole :
      ShowsFrom 0 6 rebuild_with_loss (rebuilt_with (0 ∷ 0 ∷ 4 ∷ 4 ∷ []) (server 0 0 1 1 ∷ server 1 0 0 1 ∷ server 2 4 1 0 ∷ server 3 4 1 0 ∷ []))
  pub repair :
      ShowsFrom 6 6 rebuild_with_loss (rebuilt_with (0 ∷ 2 ∷ 2 ∷ 2 ∷ []) (server 0 0 1 1 ∷ server 1 2 0 1 ∷ server 2 2 1 0 ∷ server 3 2 1 0 ∷ []))

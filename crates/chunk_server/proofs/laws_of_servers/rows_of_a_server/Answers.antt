use Rattle.std.proofs.Common.{refl}
use Rattle.chunk_server.proofs.laws_of_servers.rows_of_a_server.Goals as goal

pub returns : goal.returns
returns c =
    record {
      used = refl;
      prepared_again = refl;
      installed_again = refl;
      settled = refl;
      settled_nothing = refl;
      here = refl;
      not_here = refl;
      given = refl;
      not_given = refl;
      discarded = refl;
      wiped = refl;
      last_epoch = refl;
      last_count = refl;
      away_skips = refl;
      away_has_nothing = refl;
      away_gives_nothing = refl;
      away_takes_nothing = refl;
      away_discards = refl;
      present_again = refl;
      last_down = refl;
    }

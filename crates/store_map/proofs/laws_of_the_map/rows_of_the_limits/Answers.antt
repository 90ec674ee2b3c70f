use Rattle.std.proofs.Common.{refl}
use Rattle.store_map.proofs.LimitLaws.{stripes_met-start}
use Rattle.store_map.proofs.laws_of_the_map.rows_of_the_limits.Goals as goal

pub returns-clause-rows : goal.returns-clause-rows
returns-clause-rows c = record {
  no_bytes = refl;
  one_stripe = refl;
  two_stripes = refl;
  three_stripes = refl;
  stripes = refl;
  bytes = refl;
  tries = refl;
}

pub returns-clause-numbers : goal.returns-clause-numbers
returns-clause-numbers c = record {
  clients = refl;
  repairers = refl;
  calls = refl;
  data_length = refl;
  stripes = refl;
  stripe_bytes = refl;
  read_bytes = refl;
  schedule = refl;
  size = refl;
  size_otherwise = refl;
  tries = refl;
  tries_otherwise = refl;
}

pub returns-clause-puts : goal.returns-clause-puts
returns-clause-puts c = stripes_met-start

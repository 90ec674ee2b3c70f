-- What scripts ask for, as the definitions of the limits compute it.
use Rattle.std.specs.Prelude.{◌≡◌, ℕ, ◌+◌, ◌-◌, ◌/◌, ◌<◌, [], ◌∷◌, None}
use Rattle.store_map.specs.Limits.{stripes_met, stripes_written, sum_over_calls, bytes_asked, size_of, tries_of}
use Rattle.store_map.specs.declared.limits.TheConstants.{MAX_CLIENTS, MAX_REPAIRERS, MAX_CALLS, MAX_DATA, MAX_STRIPES, MAX_STRIPE_BYTES, MAX_READ_BYTES, MAX_SCHEDULE, MAX_SIZE, DEFAULT_SIZE, MAX_TRIES, DEFAULT_TRIES}
use Rattle.store_map.specs.declared.call.Call.TheVariants.{Put, Write, Get, ReadAt}
use Rattle.store_map.specs.declared.content.Content.TheVariants.{Fill}
use Rattle.store_map.specs.declared.script.ClientPart.{ClientPart}
use Rattle.store_map.specs.declared.script.Script.{Script}
use Rattle.store_map.specs.WorkedRows.{name_a}

-- a put of 9 bytes, a write of 2 bytes from offset 7 on, a get and a read of 3 bytes, over stripes of 8 bytes
abbrev pub small_part : ClientPart
small_part = record {
  calls = Put name_a (Fill 0 9) ∷ Write name_a 7 (Fill 0 2) ∷ Get name_a ∷ ReadAt name_a 0 3 ∷ [];
  leave = None;
}

-- two clients that make these calls, with no size and no tries given
abbrev pub small_script : Script
small_script = record {
  form = 1;
  geometry = record { data_count = 2; parity_count = 2; width = 1 };
  size = None;
  tries = None;
  clients = small_part ∷ small_part ∷ [];
  repairers = [];
  schedule = [];
}

-- stripes that ranges meet, and what the script asks for
pub record AreRowsOfTheLimits : Type 0 where
  pub no_bytes : stripes_met 8 8 0 ≡ 0
  pub one_stripe : stripes_met 8 8 8 ≡ 1
  pub two_stripes : stripes_met 8 7 2 ≡ 2
  pub three_stripes : stripes_met 8 15 10 ≡ 3
  pub stripes : stripes_written small_script ≡ 8
  pub bytes : sum_over_calls (bytes_asked (size_of small_script)) small_script ≡ 131078
  pub tries : tries_of small_script ≡ 8

-- a put touches its length in stripes, rounded up
abbrev pub PutsRoundUp : Type 0
PutsRoundUp = (stripe n : ℕ) → 0 < stripe → stripes_met stripe 0 n ≡ (n + stripe - 1) / stripe

-- the code's constants are the numbers that the definitions of the limits have
pub record AreTheNumbers : Type 0 where
  pub clients : MAX_CLIENTS ≡ 64
  pub repairers : MAX_REPAIRERS ≡ 16
  pub calls : MAX_CALLS ≡ 4096
  pub data_length : MAX_DATA ≡ 2097152
  pub stripes : MAX_STRIPES ≡ 262144
  pub stripe_bytes : MAX_STRIPE_BYTES ≡ 67108864
  pub read_bytes : MAX_READ_BYTES ≡ 67108864
  pub schedule : MAX_SCHEDULE ≡ 1000000
  pub size : MAX_SIZE ≡ 1048576
  pub size_otherwise : DEFAULT_SIZE ≡ 65536
  pub tries : MAX_TRIES ≡ 8
  pub tries_otherwise : DEFAULT_TRIES ≡ 8

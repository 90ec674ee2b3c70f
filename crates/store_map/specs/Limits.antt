-- What a script may ask for at most.
use Rattle.std.specs.Prelude.{ℕ, zero, suc, ◌+◌, ◌-◌, ◌*◌, ◌/◌, ◌≤◌, length, All, sum_by, unwrap_or, IfSome}
use Rattle.clay_grid.specs.Shape.{stripe_length}
use Rattle.store_map.specs.Content.{content_length}
use Rattle.store_map.specs.declared.call.Call.{Call}
use Rattle.store_map.specs.declared.call.Call.TheVariants.{Put, Write, Get, ReadAt}
use Rattle.store_map.specs.declared.script.Script.{Script}

-- the greatest length of an object
abbrev pub size_of : Script → ℕ
size_of script = unwrap_or script.size 65536

-- how often a write tries to commit
abbrev pub tries_of : Script → ℕ
tries_of script = unwrap_or script.tries 8

-- the stripes that meet the bytes from an offset on, none where there are no bytes
abbrev pub stripes_met : ℕ → ℕ → ℕ → ℕ
stripes_met stripe offset zero = 0
stripes_met stripe offset (suc n) = (offset + n) / stripe - offset / stripe + 1

-- the stripes that a call writes, by the length of a stripe
abbrev pub stripes_touched : ℕ → Call → ℕ
stripes_touched stripe (Put name content) = stripes_met stripe 0 (content_length content)
stripes_touched stripe (Write name offset content) = stripes_met stripe offset (content_length content)
stripes_touched stripe _ = 0

-- the bytes that a call asks for, by the greatest length of an object
abbrev pub bytes_asked : ℕ → Call → ℕ
bytes_asked size (Get name) = size
bytes_asked size (ReadAt name offset count) = count
bytes_asked size _ = 0

-- the bytes that a call carries
abbrev pub data_length : Call → ℕ
data_length (Put name content) = content_length content
data_length (Write name offset content) = content_length content
data_length _ = 0

-- a number of each call, summed over all calls of all clients
abbrev pub sum_over_calls : (Call → ℕ) → Script → ℕ
sum_over_calls f script = sum_by (λ part. sum_by f part.calls) script.clients

-- the stripes that all calls of the script write
abbrev pub stripes_written : Script → ℕ
stripes_written script = sum_over_calls (stripes_touched (stripe_length script.geometry)) script

-- the script asks for no more than is allowed
pub record IsWithinLimits (script : Script) : Type 0 where
  pub size : IfSome script.size (λ size. (1 ≤ size) × (size ≤ 1048576))
  pub tries : IfSome script.tries (λ tries. (1 ≤ tries) × (tries ≤ 8))
  pub clients : length script.clients ≤ 64
  pub repairers : length script.repairers ≤ 16
  pub client_calls : All (λ part. length part.calls ≤ 4096) script.clients
  pub repairer_calls : All (λ part. length part.calls ≤ 4096) script.repairers
  pub data_lengths : All (λ part. All (λ call. data_length call ≤ 2097152) part.calls) script.clients
  pub stripes : stripes_written script ≤ 262144
  pub stripe_bytes : stripes_written script * stripe_length script.geometry ≤ 67108864
  pub read_bytes : sum_over_calls (bytes_asked (size_of script)) script ≤ 67108864
  pub schedule : length script.schedule ≤ 1000000

use Rattle.std.proofs.Common.{◌≡◌, map, vec_len, vec_capacity}
use Rattle.std.specs.List.{range_with_len}
use Rattle.chunk_server.specs.State.{empty_server}
use Rattle.store_world.proofs.new_world.new_servers.Given as goal

abbrev pub invariant-loop-number : goal.invariant-loop-number
invariant-loop-number l = record {
  items : l.servers.items ≡ map (λ number. empty_server number l.book) (range_with_len 0 l.number);
  len : vec_len l.servers ≡ l.number;
  room : vec_capacity l.servers ≡ l.count;
}

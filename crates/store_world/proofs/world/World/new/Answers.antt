use Rattle.std.proofs.Common.{ℕ, map, ap, ◌∙◌}
use Rattle.std.specs.List.{range_with_len}
use Rattle.chunk_server.specs.State.{empty_server}
use Rattle.store_world.proofs.world.World.new.Goals as goal

pub first_world-requires-clause-servers : goal.first_world-requires-clause-servers
first_world-requires-clause-servers c = c.in_ok-servers.ensures ∙ ap (λ (count : ℕ). map (λ (number : ℕ). empty_server number c.args.book.now) (range_with_len 0 count)) c.n.ensures.value

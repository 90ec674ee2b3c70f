use Rattle.std.proofs.Common.{[]}
use Rattle.store_map.proofs.MapLaws.{apply_all-append, replies_from-append}
use Rattle.store_map.proofs.laws_of_the_map.calls_go_on.Goals as goal

pub returns : goal.returns
returns c = λ max first rest. record { objects = apply_all-append max first rest []; replies = replies_from-append max first rest [] }

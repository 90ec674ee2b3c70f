-- Calls one after another, from the empty map.
use Rattle.std.specs.Prelude.{ℕ, List, [], ◌∷◌}
use Rattle.store_map.specs.PlainMap.{Objects, apply}
use Rattle.store_map.specs.declared.call.Call.{Call}
use Rattle.store_map.specs.declared.reply.Reply.{Reply}

-- the reply to one call
abbrev pub reply_of : ℕ → Call → Objects → Reply
reply_of max call objects = (apply max call objects).1

-- the map that some objects become by the calls in order
abbrev pub apply_all : ℕ → List Call → Objects → Objects
apply_all max [] objects = objects
apply_all max (call ∷ calls) objects = apply_all max calls (apply max call objects).0

-- the reply to each call in order
abbrev pub replies_from : ℕ → List Call → Objects → List Reply
replies_from max [] objects = []
replies_from max (call ∷ calls) objects = reply_of max call objects ∷ replies_from max calls (apply max call objects).0

-- the map that calls lead to from the empty one
abbrev pub map_after : ℕ → List Call → Objects
map_after max calls = apply_all max calls []

-- and the replies on the way
abbrev pub replies_of : ℕ → List Call → List Reply
replies_of max calls = replies_from max calls []

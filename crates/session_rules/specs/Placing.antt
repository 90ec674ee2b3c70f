-- Which stripes a call of the map makes anew, and what they are called.
use Rattle.std.specs.Prelude.{ℕ, ◌/◌, true, List, length, map, replicate, ◌++◌}
use Rattle.std.specs.List.{range_with_len}
use Rattle.clay_grid.specs.Shape.{Shape, stripe_length}
use Rattle.store_map.specs.Content.{overwrite}
use Rattle.store_map.specs.PlainMap.{Objects, put, delete}
use Rattle.store_map.specs.Limits.{stripes_touched}
use Rattle.store_map.specs.declared.call.Call.{Call}
use Rattle.store_map.specs.declared.call.Call.TheVariants as call
use Rattle.session_rules.specs.State.{Stripe, Numbering, State, numbers_of}

-- a new stripe: each server holds its chunk, placed at its present epoch
abbrev pub new_stripe : List ℕ → Stripe
new_stripe epochs = map (λ epoch. record { placed = epoch; held = true }) epochs

-- the objects' numbers after a call whose new stripes have these: a put's are the object's, a write's stand in the places of the stripes that it touches
abbrev pub numbers_after : Shape → Call → List ℕ → Numbering → Numbering
numbers_after g (call.Put name content) new numbers = put name new numbers
numbers_after g (call.Write name offset content) new numbers = put name (overwrite (numbers_of name numbers) (offset / stripe_length g) new) numbers
numbers_after g (call.Delete name) new numbers = delete name numbers
numbers_after g _ new numbers = numbers

-- the state after a call that leaves this map
abbrev pub after_call : Shape → Call → Objects → State → State
after_call g call objects s =
    let count : ℕ = stripes_touched (stripe_length g) call in
    record s {
      objects = objects;
      numbers = numbers_after g call (range_with_len (length s.stripes) count) s.numbers;
      stripes = s.stripes ++ replicate count (new_stripe s.epochs);
    }

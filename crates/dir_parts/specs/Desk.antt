-- The calls in work, by their fields.
use Rattle.std.specs.Prelude.{◌-◌, map, All, vec_len, vec_capacity}
use Rattle.dir_parts.specs.OpenPass.{Desk, HasRoom}
use Rattle.dir_parts.specs.declared.passes.Passes.TheInside.{Inside}

abbrev pub desk_in : Inside → Desk
desk_in a = record { stripe_len = a.stripe_len; listed = map (λ o. o.pass) a.open.items; space = vec_capacity a.open - vec_len a.open }

-- each has the room that it needs
abbrev pub IsDesk : Inside → Type 0
IsDesk a = All (HasRoom a.stripe_len) a.open.items

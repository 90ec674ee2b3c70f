-- An object after a commit, by the length of a stripe.
use Rattle.std.specs.Prelude.{◌≡◌, ℕ, ◌+◌, ◌/◌, List, Option, None, Some, IfSome, unwrap_or, if◌then◌else◌}
use Rattle.store_map.specs.declared.actor.Actor.{Actor}
use Rattle.store_core.specs.Note.{Note, Kind}
use Rattle.store_core.specs.Directory.{Object, Pass, Directory}
use Rattle.store_core.specs.Lookups.{pass_of, last_change}
use Rattle.store_core.specs.Commit.{is_overtaken}
use Rattle.dir_parts.specs.Parts.{written_object, overwritten}

-- a put makes it whole, a write changes the stripes that it drew
abbrev pub installed : Kind → ℕ → Note → List ℕ → Object → Object
installed Kind.Write stripe_len note drawn old = written_object (note.offset + note.length) (note.offset / stripe_len) drawn old
installed _ stripe_len note drawn old = record { name = old.name; length = note.length; versions = drawn }

-- the old versions that no longer stand in it
abbrev pub dropped : Kind → ℕ → Note → List ℕ → List ℕ → List ℕ
dropped Kind.Write stripe_len note drawn old = overwritten (note.offset / stripe_len) drawn old
dropped _ stripe_len note drawn old = old

-- of a write whose object was changed since its look its base, and the last change
abbrev pub changed_by : Pass → Option ℕ → Option (ℕ × ℕ)
changed_by pass last = if is_overtaken pass.note.kind pass.base last then Some (unwrap_or pass.base 0, unwrap_or last 0) else None

-- the same by the last change in a directory
abbrev pub changed_in : Directory → Pass → Option (ℕ × ℕ)
changed_in d pass = changed_by pass (last_change pass.note.name d.points)

-- of the actor's pass, where it has one: that it wasn't reaped, or that it was at a point
abbrev pub IsLiveIn : Directory → Actor → Type 0
IsLiveIn d who = IfSome (pass_of who d) (λ own. own.reaped ≡ None)

abbrev pub IsReapedIn : Directory → Actor → ℕ → Type 0
IsReapedIn d who point = IfSome (pass_of who d) (λ own. own.reaped ≡ Some point)

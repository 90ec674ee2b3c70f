-- That a directory's stamps have zeros behind the end of their objects.
use Rattle.std.specs.Prelude.{◌≡◌, ℕ, ◌-◌, ◌*◌, ◌<◌, length, get_or, take, All, IfSome, List}
use Rattle.std.specs.List.{slice_get}
use Rattle.clay_grid.specs.Shape.{Shape, stripe_length}
use Rattle.clay_model.specs.Code.{padded}
use Rattle.store_core.specs.Calls.{Calls}
use Rattle.store_core.specs.Directory.{Object}
use Rattle.store_core.specs.Sound.{IsSound}
use Rattle.run_laws.specs.Contents.{HasBytes}
use Rattle.stripe_stamps.specs.Sealed.{Sealed}
use Rattle.stripe_stamps.specs.Stamped.{HaveContents}

-- a stripe of an object of some length: it is whole, and behind the object's end there are zeros
pub record IsPadded (g : Shape) (size stripe : ℕ) (content : List ℕ) : Type 0 where
  pub whole : length content ≡ stripe_length g
  pub zeros : padded (stripe_length g) (take (size - stripe * stripe_length g) content) ≡ content

-- of an object the contents of its versions' stamps
abbrev pub ItsArePadded : Sealed → Object → Type 0
ItsArePadded s object =
    (stripe : ℕ) → stripe < length object.versions →
    IfSome (slice_get s.stamps (get_or object.versions stripe 0)) (λ stamp. IsPadded s.core.shape object.length stripe stamp.content)

-- of each object
abbrev pub ArePadded : Sealed → Type 0
ArePadded s = All (ItsArePadded s) s.core.objects

-- so they are where a sound directory has the bytes of the map, and its stamps have the contents, by whatever calls were made
abbrev pub BytesOfTheMapArePadded : Type 0
BytesOfTheMapArePadded = (calls : Calls) (s : Sealed) → IsSound s.core → HasBytes calls s.core → HaveContents calls s → ArePadded s

-- What the open passes hold: how often a version is pinned, and what room they need.
use Rattle.std.specs.Prelude.{ℕ, ◌+◌, ◌-◌, ◌^◌, ◌<◌, ◌&&◌, Bool, true, false, nat_eq, List, length, get_or, sum_by, fold, All, if◌then◌else◌}
use Rattle.store_core.specs.Note.{Kind}
use Rattle.store_core.specs.Directory.{Pin, Pass}
use Rattle.store_core.specs.Lists.{change_at}
use Rattle.store_core.specs.Lookups.{is_live}

-- one or none
abbrev pub one_if : Bool → ℕ
one_if b = if b then 1 else 0

-- how often pins name a version
abbrev pub times : ℕ → List Pin → ℕ
times version pins = sum_by (λ pin. one_if (nat_eq version pin.version)) pins

-- how often a pass that isn't reaped pins it
abbrev pub pins_of : ℕ → Pass → ℕ
pins_of version pass = if is_live pass.reaped then times version pass.pinned else 0

-- how often passes do
abbrev pub pins_by : ℕ → List Pass → ℕ
pins_by version passes = sum_by (pins_of version) passes

-- the points that passes may still append: one for each that isn't reaped
abbrev pub points_due : List Pass → ℕ
points_due passes = sum_by (λ pass. one_if (is_live pass.reaped)) passes

-- a put may append its object, and a write whose object is gone
abbrev pub may_append : Kind → Bool
may_append Kind.Put = true
may_append Kind.Write = true
may_append _ = false

abbrev pub objects_due : List Pass → ℕ
objects_due passes = sum_by (λ pass. one_if (may_append pass.note.kind && is_live pass.reaped)) passes

-- the counts, each less by the pins that name its version
abbrev pub unpinned : List Pin → List ℕ → List ℕ
unpinned pins counts = fold (λ counts pin. change_at pin.version (λ count. count - 1) counts) counts pins

-- each of these pins' versions can be pinned once more for each of the pins
abbrev pub CanTakeAll : List ℕ → List Pin → Type 0
CanTakeAll counts pins = All (λ pin. get_or counts pin.version 0 + length pins < 2 ^ 64) pins

-- the counts, each more by the pins that name its version
abbrev pub pinned_more : List Pin → List ℕ → List ℕ
pinned_more pins counts = fold (λ counts pin. change_at pin.version (λ count. count + 1) counts) counts pins

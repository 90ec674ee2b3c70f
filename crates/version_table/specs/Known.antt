-- Which versions a directory knows.
use Rattle.std.specs.Prelude.{ℕ, Bool, true, false, List, IsTrue}
use Rattle.std.specs.List.{slice_get}
use Rattle.store_core.specs.Directory.{Standing, Version}
use Rattle.store_core.specs.Lookups.{holds_standing}

-- of a version that isn't swept
abbrev pub is_unswept_standing : Standing → Bool
is_unswept_standing Standing.Swept = false
is_unswept_standing _ = true

-- whether the version with this number is there and drawn, current, superseded or taken
abbrev pub is_known : List Version → ℕ → Bool
is_known versions number = holds_standing is_unswept_standing (slice_get versions number)

abbrev pub IsKnown : List Version → ℕ → Type 0
IsKnown versions number = IsTrue (is_known versions number)

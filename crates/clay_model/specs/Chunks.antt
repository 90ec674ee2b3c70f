-- Vectors of bytes as the lists that the code speaks of.
use Rattle.std.specs.Prelude.{ℕ, List, map, Vec}
use Rattle.std.specs.declared.alloc.Global.{Global}

-- the bytes of each vector
abbrev pub contents : List (Vec ℕ Global) → List (List ℕ)
contents vs = map (λ v. v.items) vs

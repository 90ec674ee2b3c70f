-- The words of std for known bytes, after calls that changed none.
use Rattle.std.proofs.Common.{ℕ, Option, None, Some, List, [], ◌++◌, refl, sym, ◌∙◌, ap, append-nil}
use Rattle.std.specs.Io.KnownBytes.{Keeps, Appends, Consumes, IsAtEnd}
use Rattle.clay_bytes.specs.Stream.{Gives, IsSpent, Same}

pub keeps-then : (a b c : Option (List ℕ)) → Keeps a b → Keeps b c → Keeps a c
keeps-then None b c g h = tt
keeps-then (Some xs) None c g h = absurd g
keeps-then (Some xs) (Some ys) None g h = absurd h
keeps-then (Some xs) (Some ys) (Some zs) g h = h ∙ g

pub keeps-self : (a : Option (List ℕ)) → Keeps a a
keeps-self None = tt
keeps-self (Some xs) = refl

pub same-then : (a b c : Option (List ℕ)) → Keeps a b → Keeps b c → Same a c
same-then None b c g h = tt
same-then (Some xs) None c g h = absurd g
same-then (Some xs) (Some ys) None g h = absurd h
same-then (Some xs) (Some ys) (Some zs) g h = h ∙ g

pub gives-then_consumed : (a b c : Option (List ℕ)) (got : List ℕ) → Keeps a b → Consumes b c got → Gives a got c
gives-then_consumed None b c got g h = tt
gives-then_consumed (Some xs) None c got g h = absurd g
gives-then_consumed (Some xs) (Some ys) None got g h = absurd h
gives-then_consumed (Some xs) (Some ys) (Some zs) got g h = sym g ∙ h

pub spent-at_end : (a : Option (List ℕ)) → IsAtEnd a → IsSpent a
spent-at_end None h = tt
spent-at_end (Some xs) h = h

pub appends-then : (a b c : Option (List ℕ)) (bytes : List ℕ) → Keeps a b → Appends b c bytes → Appends a c bytes
appends-then None b c bytes g h = tt
appends-then (Some xs) None c bytes g h = absurd g
appends-then (Some xs) (Some ys) None bytes g h = absurd h
appends-then (Some xs) (Some ys) (Some zs) bytes g h = h ∙ ap (λ ws. ws ++ bytes) g

-- a write of nothing keeps the bytes
pub keeps-nothing_written : (a b c : Option (List ℕ)) → Keeps a b → Appends b c [] → Keeps a c
keeps-nothing_written None b c g h = tt
keeps-nothing_written (Some xs) None c g h = absurd g
keeps-nothing_written (Some xs) (Some ys) None g h = absurd h
keeps-nothing_written (Some xs) (Some ys) (Some zs) g h = h ∙ append-nil ys ∙ g

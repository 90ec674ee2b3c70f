-- Who may seal in a book.
use Rattle.std.specs.Prelude.{ℕ, List}
use Rattle.version_seal.specs.Entry.{BookOf}

-- a book's sealer, by the book's slots, and the version that it seals next
pub record SealerOf : Type 0 where
  pub home : List ℕ
  pub next : ℕ

-- one of this book, at this version
abbrev pub sealer_at : BookOf → ℕ → SealerOf
sealer_at book version = record { home = book.home; next = version }

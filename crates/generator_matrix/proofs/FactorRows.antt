-- The factors of a node, in the list of all.
use Rattle.std.proofs.Common.{◌≡◌, ℕ, ◌+◌, ◌-◌, ◌*◌, ◌<◌, ◌≤◌, List, length, get_or, slice_range, ap, ◌∙◌, arith}
use Rattle.generator_matrix.specs.Generated.{factor_at}
use Rattle.std.proofs.lemmas.List.Edits.{get_or-between, length-between}
use Rattle.code_laws.proofs.Pieces.{piece_fits}

-- the factors of a node
module _ (factors products : List ℕ) (m u node count : ℕ) (units : u ≡ m) (long : length factors ≡ count * m) (inside : node < count)
    (part : products ≡ slice_range factors (node * u) (node * u + u)) where
  fits : node * m + m ≤ length factors
  fits = let end = piece_fits node count m inside in omega arith

  pub factor_count : length products ≡ m
  factor_count =
      let width : node * m + m - node * m ≡ m = omega arith in
      ap length part ∙ ap (λ v. length (slice_range factors (node * v) (node * v + v))) units ∙ length-between factors (node * m) (node * m + m) fits ∙ width

  pub factor_is : (e : ℕ) → e < m → get_or products e 0 ≡ factor_at factors m node e
  factor_is e h =
      ap (λ l. get_or l e 0) part
      ∙ ap (λ v. get_or (slice_range factors (node * v) (node * v + v)) e 0) units
      ∙ get_or-between factors (node * m) (node * m + m) e 0 (omega arith)

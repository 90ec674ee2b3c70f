-- What one more piece adds to the bytes kept.
use Rattle.std.proofs.Common.{◌≡◌, ◌≤◌, ◌+◌, ◌-◌, ◌⊎◌, inl, inr, ℕ, min, List, ◌++◌, length, take, sym, ◌∙◌, ap, arith, length-append}
use Rattle.std.proofs.lemmas.List.{take_all}
use Rattle.std.proofs.Math.Seq.{take-append-add}

-- the first of all bytes are those kept and the first of the piece
kept-by : (room n : ℕ) (kept piece : List ℕ) → ((n ≡ length piece) × (length kept + n ≤ room)) ⊎ (length kept + n ≡ room) → kept ++ take n piece ≡ take room (kept ++ piece)
kept-by room n kept piece (inl (e, within)) =
    let whole : take n piece ≡ piece = take_all n piece (omega arith) in
    let all : take room (kept ++ piece) ≡ kept ++ piece = take_all room (kept ++ piece) (grind (arith, length-append)) in
    ap (λ ws. kept ++ ws) whole ∙ sym all
kept-by room n kept piece (inr e) = sym (ap (λ r. take r (kept ++ piece)) (sym e) ∙ take-append-add kept piece n)

pub kept-append : (room n : ℕ) (kept piece : List ℕ) → length kept ≤ room → n ≡ min (length piece) (room - length kept) → kept ++ take n piece ≡ take room (kept ++ piece)
kept-append room n kept piece within e =
    let cases : ((n ≡ length piece) × (length kept + n ≤ room)) ⊎ (length kept + n ≡ room) = grind arith in
    kept-by room n kept piece cases

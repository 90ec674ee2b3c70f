use Rattle.std.proofs.Common.{◌≡◌, ℕ, List, All, Bor, length, sym, subst}
use Rattle.std.proofs.lemmas.List.Elements.{All-map}
use Rattle.lost_read.proofs.ReadLaws.{all_from_map}
use Rattle.lost_read.proofs.read_places.are_subchunks.Goals as goal

pub returns : goal.returns
returns c =
    let g = c.args.g in
    let pieces : List (Bor (List ℕ)) = c.args.pieces.now in (
      λ yes.
          All-map (λ (bytes : List ℕ). length bytes ≡ g.width) (λ (piece : Bor (List ℕ)). piece.now) pieces
          (subst (λ w. All (λ (piece : Bor (List ℕ)). length piece.now ≡ w) pieces) c.w.ensures.value (c.are_long.ensures.0 yes)),
      λ each.
          c.are_long.ensures.1
          (subst (λ w. All (λ (piece : Bor (List ℕ)). length piece.now ≡ w) pieces) (sym c.w.ensures.value)
          (all_from_map (λ (bytes : List ℕ). length bytes ≡ g.width) (λ (piece : Bor (List ℕ)). piece.now) pieces each)),
    )

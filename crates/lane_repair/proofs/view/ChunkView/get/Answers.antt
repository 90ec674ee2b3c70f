use Rattle.std.proofs.Common.{◌≡◌, ℕ, ◌+◌, ◌<◌, List, [], Bor, map, length, MatchOption, get_or, slice_range, Some, None, refl, sym, subst}
use Rattle.std.specs.Option.{option_map}
use Rattle.std.proofs.lemmas.List.{length-map}
use Rattle.lane_repair.specs.Views.{pieces_of, HasRoom, piece_around}
use Rattle.lane_repair.proofs.ViewLemmas.{items, shown}
use Rattle.lane_repair.proofs.view.ChunkView.get.Goals as goal

pub piece_apart-requires : goal.piece_apart-requires
piece_apart-requires c =
    subst (λ n. c.args.c < n) (length-map c.in-Apart.have.now items) (subst (λ s. c.args.c < length (pieces_of s)) c.in-Apart.is c.requires.number)

pub returns-in-Apart : goal.returns-in-Apart
returns-in-Apart c =
    subst (λ s. MatchOption c.piece_apart.result (get_or (pieces_of s) c.args.c None ≡ None) (λ p. get_or (pieces_of s) c.args.c None ≡ Some p.now)) (sym c.in-Apart.is)
    (shown items c.in-Apart.have.now c.args.c c.piece_apart.result (λ p. p.now) refl c.piece_apart.ensures)

pub piece_laid-requires-clause-number : goal.piece_laid-requires-clause-number
piece_laid-requires-clause-number c =
    let piece : ℕ → List ℕ = λ at. slice_range c.in-Laid.bytes.now at (at + c.in-Laid.len) in
    subst (λ n. c.args.c < n) (length-map c.in-Laid.starts.now (option_map piece)) (subst (λ s. c.args.c < length (pieces_of s)) c.in-Laid.is c.requires.number)

pub piece_laid-requires-clause-room : goal.piece_laid-requires-clause-room
piece_laid-requires-clause-room c = subst HasRoom c.in-Laid.is c.requires.room

pub returns-in-Laid : goal.returns-in-Laid
returns-in-Laid c =
    let piece : ℕ → List ℕ = λ at. slice_range c.in-Laid.bytes.now at (at + c.in-Laid.len) in
    subst (λ s. MatchOption c.piece_laid.result (get_or (pieces_of s) c.args.c None ≡ None) (λ p. get_or (pieces_of s) c.args.c None ≡ Some p.now)) (sym c.in-Laid.is)
    (shown (option_map piece) c.in-Laid.starts.now c.args.c c.piece_laid.result (λ p. p.now) refl c.piece_laid.ensures)

pub piece_laid_around-requires-clause-number : goal.piece_laid_around-requires-clause-number
piece_laid_around-requires-clause-number c =
    let piece : ℕ → List ℕ = piece_around c.in-Around.before.now c.in-Around.after.now c.in-Around.len in
    subst (λ n. c.args.c < n) (length-map c.in-Around.starts.now (option_map piece)) (subst (λ s. c.args.c < length (pieces_of s)) c.in-Around.is c.requires.number)

pub piece_laid_around-requires-clause-room : goal.piece_laid_around-requires-clause-room
piece_laid_around-requires-clause-room c = subst HasRoom c.in-Around.is c.requires.room

pub returns-in-Around : goal.returns-in-Around
returns-in-Around c =
    let piece : ℕ → List ℕ = piece_around c.in-Around.before.now c.in-Around.after.now c.in-Around.len in
    subst (λ s. MatchOption c.piece_laid_around.result (get_or (pieces_of s) c.args.c None ≡ None) (λ p. get_or (pieces_of s) c.args.c None ≡ Some p.now)) (sym c.in-Around.is)
    (shown (option_map piece) c.in-Around.starts.now c.args.c c.piece_laid_around.result (λ p. p.now) refl c.piece_laid_around.ensures)

pub slice_placed-requires-clause-number : goal.slice_placed-requires-clause-number
slice_placed-requires-clause-number c =
    let slice : ℕ → List ℕ = λ at. get_or (map (λ (piece : Bor (List ℕ)). piece.now) c.in-Slices.pieces.now) at [] in
    subst (λ n. c.args.c < n) (length-map c.in-Slices.places.now (option_map slice)) (subst (λ s. c.args.c < length (pieces_of s)) c.in-Slices.is c.requires.number)

pub slice_placed-requires-clause-room : goal.slice_placed-requires-clause-room
slice_placed-requires-clause-room c = subst HasRoom c.in-Slices.is c.requires.room

pub returns-in-Slices : goal.returns-in-Slices
returns-in-Slices c =
    let slice : ℕ → List ℕ = λ at. get_or (map (λ (piece : Bor (List ℕ)). piece.now) c.in-Slices.pieces.now) at [] in
    subst (λ s. MatchOption c.slice_placed.result (get_or (pieces_of s) c.args.c None ≡ None) (λ p. get_or (pieces_of s) c.args.c None ≡ Some p.now)) (sym c.in-Slices.is)
    (shown (option_map slice) c.in-Slices.places.now c.args.c c.slice_placed.result (λ p. p.now) refl c.slice_placed.ensures)

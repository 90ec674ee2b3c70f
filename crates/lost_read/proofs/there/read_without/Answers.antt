use Rattle.std.proofs.Common.{ℕ, List, Bor, map, length, refl, sym, subst}
use Rattle.std.proofs.lemmas.Bool.{true≢false}
use Rattle.lost_layers.specs.Without.{missing_pieces_of}
use Rattle.lost_read.specs.MissingRead.{IsReadFrom, FitRun}
use Rattle.lost_read.specs.declared.missing_read_fault.MissingReadFault.TheVariants.{PieceCount, PieceLength, Room}
use Rattle.lost_read.specs.There.{pieces_with, ReadsWithout}
use Rattle.lost_read.proofs.Marked.{refused_by}
use Rattle.lost_read.proofs.there.read_without.Goals as goal

pub returns-in-Ok-clause-fit : goal.returns-in-Ok-clause-fit
unfolding pieces_with
returns-in-Ok-clause-fit c =
    let pieces : List (List ℕ) = map (λ (piece : Bor (List ℕ)). piece.now) c.args.pieces.now in
    (λ _. subst (λ l. FitRun c.args.g c.args.run (length (missing_pieces_of c.args.g c.args.run l)) pieces (length c.args.subchunks.now)) c.mark_there.ensures c.in-Ok.ensures.readable.fit, λ _. refl)

pub returns-in-Ok-clause-read : goal.returns-in-Ok-clause-read
unfolding ReadsWithout
returns-in-Ok-clause-read c =
    let pieces : List (List ℕ) = map (λ (piece : Bor (List ℕ)). piece.now) c.args.pieces.now in
    λ _. subst (λ l. IsReadFrom c.args.g c.args.run l pieces c.read_missing.new.out) c.mark_there.ensures c.in-Ok.ensures.read

pub returns-in-Err-PieceCount-clause-fit : goal.returns-in-Err-PieceCount-clause-fit
unfolding pieces_with
returns-in-Err-PieceCount-clause-fit c =
    let pieces : List (List ℕ) = map (λ (piece : Bor (List ℕ)). piece.now) c.args.pieces.now in
    let why = c.in-Err-PieceCount in
    let refused = refused_by c.args.g c.args.run c.args.present.now c.mark_there.new.there pieces (length c.args.subchunks.now) why.field-0 PieceCount c.mark_there.ensures why.field-0-is why.ensures.refused in
    (λ wrong. absurd (true≢false (sym wrong)), λ fit. absurd (refused.1 fit.count_is))

pub returns-in-Err-PieceLength-clause-fit : goal.returns-in-Err-PieceLength-clause-fit
unfolding pieces_with
returns-in-Err-PieceLength-clause-fit c =
    let pieces : List (List ℕ) = map (λ (piece : Bor (List ℕ)). piece.now) c.args.pieces.now in
    let why = c.in-Err-PieceLength in
    let refused = refused_by c.args.g c.args.run c.args.present.now c.mark_there.new.there pieces (length c.args.subchunks.now) why.field-0 PieceLength c.mark_there.ensures why.field-0-is why.ensures.refused in
    (λ wrong. absurd (true≢false (sym wrong)), λ fit. absurd (refused.1.1 fit.lengths))

pub returns-in-Err-Room-clause-fit : goal.returns-in-Err-Room-clause-fit
unfolding pieces_with
returns-in-Err-Room-clause-fit c =
    let pieces : List (List ℕ) = map (λ (piece : Bor (List ℕ)). piece.now) c.args.pieces.now in
    let why = c.in-Err-Room in
    let refused = refused_by c.args.g c.args.run c.args.present.now c.mark_there.new.there pieces (length c.args.subchunks.now) why.field-0 Room c.mark_there.ensures why.field-0-is why.ensures.refused in
    (λ wrong. absurd (true≢false (sym wrong)), λ fit. absurd (refused.1.2 fit.room_is))

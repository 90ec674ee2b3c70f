use Rattle.std.proofs.Common.{ℕ, List, Bor, map, length, sym, subst}
use Rattle.std.specs.Prelude.{OnOk}
use Rattle.lost_layers.specs.declared.placed.PlacedRun.{PlacedRun}
use Rattle.lost_read.specs.Read.{IsReadable, IsReadFrom}
use Rattle.lost_read.proofs.pieces_read.read_pieces.Goals as goal

pub read_by-requires-clause-readable : goal.read_by-requires-clause-readable
read_by-requires-clause-readable c =
    let pieces : List (List ℕ) = map (λ (piece : Bor (List ℕ)). piece.now) c.args.pieces.now in
    subst (λ (p : PlacedRun). IsReadable p.g p.run pieces (length c.args.out.now)) (sym c.in_ok-plan.ensures.1) c.requires.readable

pub returns-clause-read : goal.returns-clause-read
returns-clause-read c =
    let pieces : List (List ℕ) = map (λ (piece : Bor (List ℕ)). piece.now) c.args.pieces.now in
    subst (λ (p : PlacedRun). OnOk c.read_by.result (IsReadFrom p.g p.run pieces c.read_by.new.out)) c.in_ok-plan.ensures.1 c.read_by.ensures.read

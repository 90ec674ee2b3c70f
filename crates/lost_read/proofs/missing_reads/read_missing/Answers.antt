use Rattle.std.proofs.Common.{◌≡◌, ℕ, List, Bor, map, length, sym, subst, ap}
use Rattle.std.specs.Prelude.{OnOk}
use Rattle.lost_layers.specs.Without.{without, missing_pieces_of}
use Rattle.lost_layers.proofs.Gone.{no_pieces}
use Rattle.lost_read.specs.MissingRead.{FitRun, IsReadFrom}
use Rattle.lost_read.specs.MissingRefused.{IsReadRefused}
use Rattle.lost_read.proofs.MissingReadLaws.{misfit_refused, handed_on}
use Rattle.lost_read.proofs.missing_reads.read_missing.Goals as goal

pub returns-in_err-checked-clause-refused : goal.returns-in_err-checked-clause-refused
returns-in_err-checked-clause-refused c =
    let g = c.args.g in
    let run = c.args.run in
    let present = c.args.present.now in
    let pieces : List (List ℕ) = map (λ (piece : Bor (List ℕ)). piece.now) c.args.pieces.now in
    let room : ℕ = length c.args.out.now in
    handed_on (IsReadRefused g run present pieces room) c.from_residual-in_err-checked.result c.in_err-checked.field-0.0 c.from_residual-in_err-checked.ensures.1
    (misfit_refused g run present pieces room 0 c.in_err-checked.field-0.0 c.in_ok-placed.ensures.readable (sym (ap length (no_pieces (without g run present) c.if-run.true))) c.in_err-checked.ensures.misfit)

pub returns-then-run-clause-readable : goal.returns-then-run-clause-readable
returns-then-run-clause-readable c =
    let g = c.args.g in
    let run = c.args.run in
    let pieces : List (List ℕ) = map (λ (piece : Bor (List ℕ)). piece.now) c.args.pieces.now in
    let none : 0 ≡ length (missing_pieces_of g run c.args.present.now) = sym (ap length (no_pieces (without g run c.args.present.now) c.if-run.true)) in
    record {
      readable = c.in_ok-placed.ensures.readable;
      fit = subst (λ n. FitRun g run n pieces (length c.args.out.now)) none c.in_ok-checked.ensures.fit;
    }

pub returns-clause-read : goal.returns-clause-read
returns-clause-read c =
    let present = c.args.present.now in
    let pieces : List (List ℕ) = map (λ (piece : Bor (List ℕ)). piece.now) c.args.pieces.now in
    let placed = c.in_ok-placed.ensures.placed in
    subst (λ g. OnOk c.read_some.result (IsReadFrom g c.args.run present pieces c.read_some.new.out)) placed.1
    (subst (λ run. OnOk c.read_some.result (IsReadFrom c.in_ok-placed.placed.g run present pieces c.read_some.new.out)) placed.2 c.read_some.ensures.read)

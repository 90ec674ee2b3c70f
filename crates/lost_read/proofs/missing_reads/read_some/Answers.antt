use Rattle.std.proofs.Common.{◌≡◌, ℕ, List, Bor, map, length, subst, ◌∙◌}
use Rattle.lost_layers.specs.Erased.{Erased}
use Rattle.lost_layers.specs.ErasedRuns.{solved_of}
use Rattle.lost_layers.specs.Without.{without}
use Rattle.lost_read.specs.MissingRead.{FitErased, IsRunFrom}
use Rattle.lost_read.specs.MissingRefused.{IsUnread, IsReadRefused}
use Rattle.lost_read.proofs.MissingReadLaws.{unread_refused, handed_on}
use Rattle.lost_read.proofs.missing_reads.read_some.Goals as goal

pub returns-in_err-read_solved-clause-refused : goal.returns-in_err-read_solved-clause-refused
returns-in_err-read_solved-clause-refused c =
    let g = c.args.placed.now.g in
    let run = c.args.placed.now.run in
    let present = c.args.present.now in
    let pieces : List (List ℕ) = map (λ (piece : Bor (List ℕ)). piece.now) c.args.pieces.now in
    let room : ℕ = length c.args.out.now in
    let same : solved_of c.solved-run.result ≡ without g run present = c.solved-run.ensures.erased ∙ c.in_ok-marked.ensures.without in
    handed_on (IsReadRefused g run present pieces room) c.from_residual-in_err-read_solved.result c.in_err-read_solved.field-0.0 c.from_residual-in_err-read_solved.ensures.1
    (unread_refused g run present pieces room c.in_err-read_solved.field-0.0 c.requires.readable
    (subst (λ (e : Erased). IsUnread e pieces room c.in_err-read_solved.field-0.0) same c.in_err-read_solved.ensures.unread))

pub returns-clause-readable : goal.returns-clause-readable
returns-clause-readable c =
    let pieces : List (List ℕ) = map (λ (piece : Bor (List ℕ)). piece.now) c.args.pieces.now in
    let same : solved_of c.solved-run.result ≡ without c.args.placed.now.g c.args.placed.now.run c.args.present.now = c.solved-run.ensures.erased ∙ c.in_ok-marked.ensures.without in
    record {
      readable = c.requires.readable;
      fit = subst (λ (e : Erased). FitErased e pieces (length c.args.out.now)) same c.in_ok-read_solved.ensures.fit;
    }

pub returns-clause-read : goal.returns-clause-read
returns-clause-read c =
    let pieces : List (List ℕ) = map (λ (piece : Bor (List ℕ)). piece.now) c.args.pieces.now in
    let same : solved_of c.solved-run.result ≡ without c.args.placed.now.g c.args.placed.now.run c.args.present.now = c.solved-run.ensures.erased ∙ c.in_ok-marked.ensures.without in
    subst (λ (e : Erased). IsRunFrom e pieces c.read_solved.new.out) same c.in_ok-read_solved.ensures.read

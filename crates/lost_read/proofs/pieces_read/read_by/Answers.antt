use Rattle.std.proofs.Common.{◌≡◌, ℕ, ◌-◌, ◌*◌, ◌+◌, List, Bor, map, length, subst, ◌∙◌}
use Rattle.code_laws.specs.Columns.{HoldsPieces}
use Rattle.code_laws.specs.Solved.{coupled_byte}
use Rattle.lost_read.proofs.ReadLaws.{read_run}
use Rattle.lost_read.proofs.pieces_read.read_by.Goals as goal

pub returns-clause-read : goal.returns-clause-read
returns-clause-read c =
    let plan = c.args.plan.now in
    let planned = c.requires.plan in
    let pieces : List (List ℕ) = map (λ (piece : Bor (List ℕ)). piece.now) c.args.pieces.now in
    let g = plan.placed.g in
    let run = plan.placed.run in
    let long : length c.write_run.new.out ≡ (run.to - run.from) * g.width = c.write_run.auto.out ∙ c.requires.readable.room_is in
    read_run g run pieces c.write_run.new.out planned.placed_is.geometry planned.placed_is.run long
    (λ word has. subst (λ v. HoldsPieces g.width (run.to - run.from) (λ i b. coupled_byte g word b v (run.from + i)) c.write_run.new.out) planned.placed_is.node (c.write_run.ensures word has))

use Rattle.std.proofs.Common.{◌≡◌, ◌/◌, ◌<◌, subst, sym, ap, ◌∙◌, arith}
use Rattle.std.proofs.lemmas.Nat.{div_below}
use Rattle.clay_grid.specs.Shape.{row_count, chunk_length}
use Rattle.clay_par.specs.Groups.{HoldsRow}
use Rattle.clay_par.proofs.SolvedLemmas.{some_bytes}
use Rattle.clay_par.proofs.parity.write_row_at.Goals as goal

pub write_row-requires-clause-row : goal.write_row-requires-clause-row
write_row-requires-clause-row c =
    let g = c.args.g in
    subst (λ n. c.args.start / n < row_count g) (sym c.chunk_len.ensures.value)
    (div_below c.args.start (chunk_length g) g.parity_count (some_bytes g c.chunk_len.ensures.geometry) c.requires.start)

pub returns : goal.returns
returns c =
    let g = c.args.g in
    subst (λ n. HoldsRow g c.args.groups.now (c.args.start / n) c.write_row.new.chunk) c.chunk_len.ensures.value c.write_row.ensures

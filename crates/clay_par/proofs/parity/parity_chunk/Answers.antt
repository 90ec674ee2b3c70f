use Rattle.std.proofs.Common.{◌≡◌, length, subst, sym, ap, ◌∙◌, arith}
use Rattle.std.proofs.lemmas.List.{length-replicate}
use Rattle.clay_grid.specs.Shape.{chunk_length}
use Rattle.clay_par.specs.Groups.{IsRow}
use Rattle.clay_par.proofs.Makes.{written_all}
use Rattle.clay_par.proofs.parity.parity_chunk.Goals as goal

pub returns : goal.returns
returns c =
    let shape = c.args.g in
    let before = c.in_ok-chunk.chunk in
    let new = c.write_row.new.chunk in
    let size : length new ≡ length before.items = c.write_row.auto.chunk ∙ ap length c.deref_mut.ensures.value in
    let long : length new ≡ chunk_length shape = size ∙ ap length c.in_ok-chunk.ensures ∙ length-replicate c.chunk_len.result 0 ∙ c.chunk_len.ensures.value in
    subst (IsRow shape c.args.groups.now c.args.row) (sym (written_all before.len before.items new (omega (arith, before.ok.0)) size))
    (record { long = long; holds = c.write_row.ensures })

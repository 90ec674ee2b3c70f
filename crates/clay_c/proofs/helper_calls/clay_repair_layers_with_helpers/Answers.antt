use Rattle.std.proofs.Common.{◌≡◌, ◌-◌, ◌^◌, ◌<◌, length, sym, ap, ◌∙◌, arith}
use Rattle.std.proofs.lemmas.Result.{IfOk-at_ok}
use Rattle.clay_grid.specs.Shape.{Shape, row_count, column_count}
use Rattle.clay_aloof.specs.Shape.{all_chunks, rows_of, grid_of}
use Rattle.clay_aloof.specs.Repair.{aloof_layers_of}
use Rattle.clay_aloof.proofs.Put.{length-layers}
use Rattle.clay_c.proofs.helper_calls.clay_repair_layers_with_helpers.Goals as goal

pub copy_from_slice-requires : goal.copy_from_slice-requires
copy_from_slice-requires c =
    let g = c.in-Some.g in
    let within : c.args.lost < all_chunks g = omega (arith, c.if-lost-n.false, c.n.ensures.value) in
    let read : c.in-Ok.read.items ≡ aloof_layers_of g c.args.lost = IfOk-at_ok (λ v. v.items ≡ aloof_layers_of g c.args.lost) c.in-Ok.is c.aloof_layers.ensures in
    let first : column_count (grid_of g) - 1 - 0 ≡ column_count (grid_of g) - 1 = omega arith in
    c.if-layers-stride.false
    ∙ c.stride.ensures.value
    ∙ ap (λ (s : Shape). row_count s ^ (column_count s - 1 - 0)) c.grid.ensures.value
    ∙ ap (λ e. rows_of g ^ e) first
    ∙ sym (length-layers g c.args.lost c.n.ensures.geometry within)
    ∙ sym (ap length (c.deref.ensures.value ∙ read))

use Rattle.std.proofs.Common.{◌<◌, is_some, ap, sym, ◌∙◌, arith, mul-pos}
use Rattle.clay_grid.specs.Shape.{Shape, layer_count, chunk_length, stripe_length}
use Rattle.clay_grid.specs.Limits.{IsGeometry}
use Rattle.dir_parts.specs.OpenPass.{Desk}
use Rattle.stripe_stamps.specs.StampList.{StampList}
use Rattle.stripe_dir.proofs.Opened.{first_kept}
use Rattle.stripe_dir.proofs.directory.Directory.with_history.Goals as goal

some_bytes : (g : Shape) → IsGeometry g → 0 < stripe_length g
some_bytes g geometry =
    let layers : 0 < layer_count g = omega (arith, geometry.some_layers, geometry.limits.parity_chunks) in
    let chunk : 0 < chunk_length g = mul-pos layers (omega (arith, geometry.limits.width)) in
    mul-pos (omega (arith, geometry.limits.data_chunks)) chunk

pub invariant_of-result : goal.invariant_of-result
invariant_of-result c =
    first_kept _
    (record {
      objects = c.new.ensures;
      versions = c.new-2.ensures.listed;
      pins = c.new-2.ensures.pins;
      passes = ap (λ (desk : Desk). desk.listed) c.new-3.ensures;
      points = c.requires.points;
      stamps = ap (λ (l : StampList). l.listed) c.new-4.ensures;
      keeps = c.requires.keeps ∙ sym (ap (λ (l : StampList). is_some l.book.script) c.new-4.ensures);
    })
    (ap (λ (l : StampList). l.book.geometry) c.new-4.ensures ∙ sym c.geometry-geometry.ensures) (some_bytes c.geometry-geometry.result c.stripe_len-stripe_len.ensures.geometry) (ap (λ (desk : Desk). desk.stripe_len) c.new-3.ensures ∙ c.stripe_len-stripe_len.ensures.value)

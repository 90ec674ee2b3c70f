use Rattle.std.proofs.Common.{◌≡◌, ◌+◌, ◌<◌, [], length, get_or, ap, ◌∙◌, sym, subst, arith}
use Rattle.clay_grid.specs.Shape.{layer_count, chunk_length}
use Rattle.clay_model.specs.Chunks.{contents}
use Rattle.code_laws.specs.Columns.{HoldsCoupled, AddsParity}
use Rattle.code_laws.proofs.Assembled.{assembled}
use Rattle.clay_encode.proofs.plain_chunks.encode.Goals as goal

pub returns : goal.returns
returns c =
    let g = c.args.g in
    let column = c.in_ok-column.column.items in
    let front = contents c.in_ok-chunks.chunks.items in
    let all = contents c.add_parity_chunks.new.chunks.items in
    let long : length front ≡ g.data_count = c.in_ok-chunks.ensures.len in
    let adds : AddsParity g column g.parity_count front all =
    subst (λ l. AddsParity g l g.parity_count front all) c.deref.ensures.value c.in_ok-add_parity_chunks.ensures in
    assembled g c.args.stripe.now column all (record {
      geometry = c.in_ok-chunks.ensures.geometry;
      whole = c.requires;
      stripe_bytes = λ i. omega (arith, c.type_inv.stripe i);
      column_bytes = c.in_ok-column.ensures.bytes;
      solved = c.in_ok-column.ensures.value;
      count = adds.count_is ∙ ap (λ n. n + g.parity_count) long;
      pieces = λ i h. adds.before i (subst (λ n. i < n) (sym long) h) ∙ c.in_ok-chunks.ensures.value i h;
      lengths = λ x h. subst (λ n. length (get_or all (n + x) []) ≡ chunk_length g) long (adds.lengths x h);
      coupled = λ x h. subst (λ n. HoldsCoupled g column x (layer_count g) (get_or all (n + x) [])) long (adds.coupled x h);
    })

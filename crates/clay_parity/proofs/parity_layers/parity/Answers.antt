use Rattle.std.proofs.Common.{◌≡◌, ◌*◌, ◌/◌, ◌%◌, [], length, get_or, subst, sym, ap, ◌∙◌, arith}
use Rattle.clay_grid.specs.Shape.{layer_count, row_count}
use Rattle.clay_model.specs.Chunks.{contents}
use Rattle.clay_parity.specs.Solved.{layer_value}
use Rattle.clay_parity.specs.Blocks.{Appends, coupled_of}
use Rattle.clay_parity.specs.Parity.{AreParity}
use Rattle.clay_parity.proofs.ParityLemmas.{parity_codes, written_chunks}
use Rattle.clay_parity.proofs.ChunkLists.{length-contents}
use Rattle.clay_parity.proofs.parity_layers.parity.Goals as goal

pub returns-clause-value : goal.returns-clause-value
returns-clause-value c =
    let g = c.args.g in
    let before = c.in_ok-chunks.chunks in
    let new = c.add_groups.new.chunks in
    let made = c.in_ok-generator.generator in
    let size : length new ≡ length before.items = c.add_groups.auto.chunks ∙ ap length c.deref_mut-4.ensures.value in
    let count : length (contents new) ≡ g.parity_count = length-contents new ∙ size ∙ c.in_ok-chunks.ensures.count ∙ c.q-q.ensures.value in
    subst (λ l. AreParity g c.args.stripe.now (contents l)) (sym (written_chunks before.len before.items new (omega arith) size))
    (parity_codes g c.q-q.ensures.geometry made.each c.args.stripe.now made.unknown c.in_ok-generator.ensures (contents new) c.requires (λ i. omega (arith, c.type_inv.stripe i)) count
    (λ x h. subst (λ l. Appends (layer_count g / row_count g * (g.parity_count * g.width)) (λ o. coupled_of g.parity_count (layer_value g made.each c.args.stripe.now) x (o / g.width) (o % g.width)) l (get_or (contents new) x []))
    (ap (λ l. get_or (contents l) x []) c.deref_mut-4.ensures.value ∙ c.in_ok-chunks.ensures.empty x)
    (c.in_ok-add_groups.ensures x h)))

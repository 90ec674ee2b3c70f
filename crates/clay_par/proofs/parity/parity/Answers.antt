use Rattle.std.proofs.Common.{subst, ◌∙◌, arith}
use Rattle.clay_model.specs.Chunks.{contents}
use Rattle.clay_parity.proofs.ChunkLists.{length-contents}
use Rattle.clay_par.specs.Groups.{AreRows}
use Rattle.clay_par.proofs.Makes.{if_ok_both}
use Rattle.clay_par.proofs.GroupLemmas.{rows_are_parity}
use Rattle.clay_par.proofs.parity.parity.Goals as goal

pub returns : goal.returns
returns g c =
    let shape = c.args.g in
    let groups = c.in_ok-groups.groups.items in
    let solved = c.in_ok-groups.ensures in
    if_ok_both c.parity_chunks.result _ _ _ c.parity_chunks.ensures.count c.parity_chunks.ensures.rows (λ chunks count rows.
    rows_are_parity shape solved.geometry solved.factors c.args.stripe.now solved.unknown solved.generator groups (contents chunks.items) c.requires
    (λ i. omega (arith, c.type_inv.stripe i)) (length-contents chunks.items ∙ count) solved.values
    (subst (λ l. AreRows shape l (contents chunks.items)) c.deref.ensures.value rows))

use Rattle.std.proofs.Common.{sym, subst, ◌∙◌, arith}
use Rattle.clay_parity.specs.Flat.{HoldsGroups}
use Rattle.clay_parity.proofs.FlatLemmas.{flat_codes}
use Rattle.clay_par.specs.Groups.{HoldGroups}
use Rattle.clay_par.proofs.parity.parity_into.Goals as goal
use Rattle.clay_parity.specs.Solved.{layer_value}

pub returns-clause-parity : goal.returns-clause-parity
returns-clause-parity g c =
    let shape = c.args.g in
    let stripe = c.args.stripe.now in
    let solved = c.in_ok-groups.ensures in
    flat_codes shape solved.geometry solved.factors stripe solved.unknown solved.generator c.write_rows.new.chunks c.requires.stripe (λ i. omega (arith, c.type_inv.stripe i))
    (c.write_rows.auto.chunks ∙ c.requires.chunks)
    (c.write_rows.ensures (layer_value shape solved.factors stripe) (subst (HoldGroups shape (layer_value shape solved.factors stripe)) (sym c.deref.ensures.value) solved.values))

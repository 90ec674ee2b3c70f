use Rattle.std.proofs.Common.{◌-◌, ◌*◌, ◌/◌, ◌%◌, ◌+◌, subst, sym}
use Rattle.clay_aloof.specs.Partners.{HoldsDigits}
use Rattle.clay_aloof.proofs.PartnerTables.{digits_more}
use Rattle.clay_aloof.proofs.partner_tables.digits_of.Goals as goal

pub loop-z-preserved : goal.loop-z-preserved
loop-z-preserved c =
    let z = c.loop-z.z in
    subst (HoldsDigits c.args.g c.args.column (z + 1)) (sym c.in_ok-push.ensures.items)
    (digits_more c.args.g c.args.column c.loop-z.digits.items _ z c.loop-z.invariant (record {
      value = λ k. z / c.stride-stride.ensures.value k % c.q-q.ensures.value k;
      rest = λ k. z - z / c.stride-stride.ensures.value k % c.q-q.ensures.value k * c.stride-stride.ensures.value k;
    }))

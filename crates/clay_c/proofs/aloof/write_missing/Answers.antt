use Rattle.std.proofs.Common.{sym, subst}
use Rattle.clay_aloof.specs.Recovered.{AreFew, IsRecovered}
use Rattle.clay_c.proofs.Missing.{are_few, recovers_aloof}
use Rattle.clay_c.proofs.aloof.write_missing.Goals as goal

pub recover_into-requires-clause-missing : goal.recover_into-requires-clause-missing
recover_into-requires-clause-missing c =
    subst (AreFew c.args.g) (sym c.deref.ensures.value)
    (are_few c.args.g c.args.present.now c.in_ok-missing.missing.items c.requires.lengths.0 c.in_ok-missing.ensures.len c.in_ok-missing.ensures.value c.requires.few)

pub returns-clause-written : goal.returns-clause-written
returns-clause-written c =
    let g = c.args.g in
    let missing = c.in_ok-missing.missing.items in
    let new = c.recover_into.new.chunks in
    let is : IsRecovered g missing c.args.chunks.now new = subst (λ l. IsRecovered g l c.args.chunks.now new) c.deref.ensures.value c.in_ok-recover_into.ensures.recovered in
    recovers_aloof g c.args.present.now missing c.args.chunks.now new c.requires.lengths.0 c.in_ok-missing.ensures.value is

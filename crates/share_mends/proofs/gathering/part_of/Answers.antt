use Rattle.std.proofs.Common.{◌≡◌, ℕ, Option, Vec, Global, true, Err, refl, subst, ap, rules}
use Rattle.share_mends.specs.Parts.{piece_in, IsFoundPart}
use Rattle.share_mends.proofs.gathering.part_of.Goals as goal

pub returns-in-Ok-Some-clause-good : goal.returns-in-Ok-Some-clause-good
returns-in-Ok-Some-clause-good g c = λ file shows.
    let P : Option (Vec ℕ Global) → Type 0 =
    λ o. IsFoundPart c.args.plan.now.geometry c.args.plan.now.lost (piece_in c.args.plan.now.geometry c.args.plan.now.lost c.args.stripe file) o in
    subst P c.in-Ok-Some.field-0-is (c.in-Ok-Some.ensures.found file shows)

pub returns-in-Ok-None-clause-rotten : goal.returns-in-Ok-None-clause-rotten
returns-in-Ok-None-clause-rotten g c = λ file shows.
    let P : Option (Vec ℕ Global) → Type 0 =
    λ o. IsFoundPart c.args.plan.now.geometry c.args.plan.now.lost (piece_in c.args.plan.now.geometry c.args.plan.now.lost c.args.stripe file) o in
    let help : c.args.help ≡ true = first_of (search, search rules) in (
      help,
      refl,
      refl,
      subst P c.in-Ok-None.field-0-is (c.in-Ok-None.ensures.found file shows),
    )

pub returns-in-Err-ReadFault-clause-cause : goal.returns-in-Err-ReadFault-clause-cause
returns-in-Err-ReadFault-clause-cause g c = λ e.
    let help : c.args.help ≡ true = first_of (search, search rules) in
    (help, c.in-Err-ReadFault.ensures.cause (ap Err c.in-Err-ReadFault.field-0-is))

use Rattle.std.proofs.Common.{refl}
use Rattle.clay_words.proofs.WordLaws.{not_aloof}
use Rattle.clay_words.proofs.numbers_of_words.aloof_geometry_of.Goals as goal

pub returns-in-Err : goal.returns-in-Err
returns-in-Err c =
    not_aloof c.args.k c.args.m c.args.d c.args.w _ _ _ _ c.in-Err.field-0 c.ranges.k.fits c.ranges.m.fits c.ranges.d.fits c.ranges.w.fits refl refl refl refl c.in-Err.ensures.refused

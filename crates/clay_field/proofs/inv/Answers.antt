use Rattle.clay_field.proofs.Inverses.{product-INVERSES, INVERSES-inverse_of}
use Rattle.clay_field.proofs.inv.Goals as goal

pub returns-clause-inverse : goal.returns-clause-inverse
returns-clause-inverse c = product-INVERSES c.args.a c.ranges.a.fits c.requires

pub returns-clause-value : goal.returns-clause-value
returns-clause-value c = INVERSES-inverse_of c.args.a c.ranges.a.fits c.requires

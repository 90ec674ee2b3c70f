use Rattle.std.proofs.Common.{◌∙◌}
use Rattle.session_store.specs.Inside.{store_of}
use Rattle.session_store.proofs.Scrubbing.{scrub_served, scrub_wanting}
use Rattle.session_store.proofs.scrubs.scrub.Goals as goal

pub returns-in-Ok : goal.returns-in-Ok
returns-in-Ok c = scrub_served (store_of c.args.parts.now) c.requires.0 c.from_vec.result (c.from_vec.ensures ∙ c.in-Ok.ensures)

pub returns-in-Err : goal.returns-in-Err
returns-in-Err c = scrub_wanting (store_of c.args.parts.now) c.requires.0

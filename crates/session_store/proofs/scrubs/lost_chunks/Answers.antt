use Rattle.std.proofs.Common.{sym, subst}
use Rattle.store_scrub.specs.Lost.{ArePresent}
use Rattle.session_store.specs.Inside.{store_of}
use Rattle.session_store.proofs.Scrubbing.{all_present}
use Rattle.session_store.proofs.scrubs.lost_chunks.Goals as goal

pub scrub-requires-clause-present : goal.scrub-requires-clause-present
scrub-requires-clause-present c = subst ArePresent (sym c.deref.ensures.value) (all_present (store_of c.args.parts.now) c.requires)

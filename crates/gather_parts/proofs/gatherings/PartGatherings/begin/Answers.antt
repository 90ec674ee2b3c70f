use Rattle.std.proofs.Common.{List, map, ap, ◌∙◌}
use Rattle.store_core.specs.Read.{part_of}
use Rattle.run_laws.specs.States.{parts_state, open_parts, open_state}
use Rattle.clay_grid.specs.Shape.{Shape}
use Rattle.call_steps.specs.declared.seen.Seen.{Seen}
use Rattle.stripe_stamps.specs.SeenStripes.{seen_in}
use Rattle.gather_parts.specs.Wanted.{wanted_of, parts_of}
use Rattle.gather_parts.specs.Gatherings.{GatheringsOf}
use Rattle.gather_parts.proofs.Moving.{told_opened}
use Rattle.gather_parts.proofs.gatherings.PartGatherings.begin.Goals as goal

pub returns-clause-state : goal.returns-clause-state
returns-clause-state c = λ after.
    let g : Shape = c.self.inside.opening.geometry in
    ap (λ (l : List Seen). open_parts g (parts_of (map (wanted_of g c.args.start c.args.end) l)) after) c.into_iter.ensures.rest
    ∙ told_opened g c.args.start c.args.end c.args.stripes.items after
    ∙ ap (λ (p : GatheringsOf). open_state p.book.geometry (parts_state (map (part_of p.book.geometry c.args.start c.args.end) (map seen_in c.args.stripes.items)) after)) c.self.view_is

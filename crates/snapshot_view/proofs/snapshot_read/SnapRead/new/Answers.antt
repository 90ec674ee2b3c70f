use Rattle.std.proofs.Common.{map, All, sym, ap, subst, ◌∙◌}
use Rattle.store_core.specs.Read.{part_of}
use Rattle.run_laws.specs.States.{parts_state, open_state}
use Rattle.stripe_stamps.specs.SeenStripes.{seen_in}
use Rattle.gather_parts.specs.Wanted.{wanted_of, IsPinned}
use Rattle.gather_parts.specs.Gatherings.{GatheringsOf, begun}
use Rattle.snapshot_view.proofs.snapshot_read.SnapRead.new.Goals as goal

pub begin-requires : goal.begin-requires
begin-requires c = subst (λ (p : GatheringsOf). All (IsPinned p.book) c.args.stripes.items) (sym c.new-gatherings.ensures) c.requires

pub returns-clause-begun : goal.returns-clause-begun
returns-clause-begun c =
    c.begin.ensures.begun ∙ ap (λ (p : GatheringsOf). begun p (map (wanted_of p.book.geometry c.args.start c.args.end) c.args.stripes.items)) c.new-gatherings.ensures

pub returns-clause-state : goal.returns-clause-state
returns-clause-state c = λ after.
    c.begin.ensures.state after
    ∙ ap (λ (p : GatheringsOf). open_state p.book.geometry (parts_state (map (part_of p.book.geometry c.args.start c.args.end) (map seen_in c.args.stripes.items)) after)) c.new-gatherings.ensures

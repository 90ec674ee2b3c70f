use Rattle.std.proofs.Common.{map, ap, ◌∙◌}
use Rattle.gather_parts.specs.Wanted.{wanted_of}
use Rattle.gather_parts.specs.Steps.{given_up}
use Rattle.gather_parts.specs.Inside.{gatherings_in}
use Rattle.gather_parts.proofs.gatherings.PartGatherings.give_up.Goals as goal

pub returns : goal.returns
returns c =
    let a = c.self.inside in
    (λ i. record (given_up (gatherings_in a)) { left = map (wanted_of a.opening.geometry a.start a.end) ((c.into_iter.ensures.rest ∙ c.new.ensures.items) i); bytes = c.new-2.ensures.items i }) ∙ ap given_up c.self.view_is

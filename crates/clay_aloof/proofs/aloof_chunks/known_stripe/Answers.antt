use Rattle.std.proofs.Common.{get_or, refl, sym, ◌∙◌}
use Rattle.clay_aloof.specs.declared.known.Known.{Known}
use Rattle.clay_aloof.specs.declared.known.Source.TheVariants.{Whole}
use Rattle.clay_aloof.proofs.KnownBytes.{spread, stripe_room}
use Rattle.clay_aloof.proofs.aloof_chunks.known_stripe.Goals as goal

pub returns-clause-known : goal.returns-clause-known
returns-clause-known c =
    let tables = c.requires.tables in
    record {
      nodes = tables.nodes;
      layers = tables.layers;
      empty = tables.empty;
      room = λ i n e hi hn entry.
          stripe_room c.args.g c.args.stripe.now i n e (get_or c.args.tables.now.places.items n 0) c.requires.stripe hn (tables.placed_are n hn) (sym (tables.entries i hi) ∙ entry);
    }

pub returns-clause-spread : goal.returns-clause-spread
returns-clause-spread c =
    let tables = c.requires.tables in
    let known : Known = record { source = Whole c.args.stripe; tables = c.args.tables } in
    spread c.args.g c.args.stripe.now known tables.aloof c.requires.stripe tables.entries tables.placed_are (λ e place b. refl)

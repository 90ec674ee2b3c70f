use Rattle.std.proofs.Common.{get_or, refl, subst}
use Rattle.lane_repair.specs.Views.{pieces_of}
use Rattle.clay_aloof.specs.Rebuilt.{IsEntry}
use Rattle.clay_aloof.specs.declared.known.Known.{Known}
use Rattle.clay_aloof.specs.declared.known.Source.TheVariants.{Shown}
use Rattle.clay_aloof.proofs.Put.{layers_some}
use Rattle.clay_aloof.proofs.KnownBytes.{put_parts, parts_room}
use Rattle.clay_aloof.proofs.lost_chunk.known_parts.Goals as goal

pub returns-clause-known : goal.returns-clause-known
returns-clause-known c =
    let g = c.args.g in
    let tables = c.requires.tables in
    record {
      nodes = tables.nodes;
      layers = tables.layers;
      empty = tables.empty;
      room = λ i n e hi hn entry.
          let fits = parts_room g c.args.lost (pieces_of c.args.parts) i e (get_or c.args.tables.now.places.items n 0) tables.aloof c.requires.parts
          (tables.placed_are.within (layers_some g c.args.lost tables.aloof c.requires.parts.chunk) n) (subst (IsEntry g i) entry (tables.entries i hi)) in
          (c.requires.room, fits.0, fits.1);
    }

pub returns-clause-put : goal.returns-clause-put
returns-clause-put c =
    let tables = c.requires.tables in
    let known : Known = record { source = Shown c.args.parts; tables = c.args.tables } in
    put_parts c.args.g c.args.lost (pieces_of c.args.parts) known tables.aloof tables.entries tables.placed_are (λ e place b. refl)

use Rattle.std.proofs.Common.{◌<◌, get_or, refl, sym, subst}
use Rattle.lane_repair.specs.Views.{pieces_of}
use Rattle.clay_aloof.specs.Rebuilt.{IsEntry}
use Rattle.clay_aloof.specs.declared.known.Known.{Known}
use Rattle.clay_aloof.specs.declared.known.Source.TheVariants.{Shown}
use Rattle.clay_aloof.specs.Shape.{all_chunks, grid_of}
use Rattle.aloof_recovery.proofs.Recovering.{chunk_room, shown_nodes}
use Rattle.aloof_recovery.proofs.recovery.known_chunks.Goals as goal

pub returns-clause-known : goal.returns-clause-known
returns-clause-known c =
    let tables = c.requires.tables in
    record {
      nodes = tables.nodes;
      layers = tables.layers;
      empty = tables.empty;
      room = λ i n e hi hn entry.
          let is = subst (IsEntry c.args.g i) entry (tables.entries i hi) in
          let within : e < all_chunks c.args.g = is.0 in (
            c.requires.room,
            subst (λ k. e < k) (sym c.requires.chunks.count) within,
            chunk_room c.args.g (pieces_of c.args.view) e n (get_or c.args.tables.now.places.items n 0) c.requires.chunks within hn (tables.placed_are n hn),
          );
    }

pub returns-clause-bytes : goal.returns-clause-bytes
returns-clause-bytes c =
    let known : Known = record { source = Shown c.args.view; tables = c.args.tables } in
    shown_nodes (grid_of c.args.g) known c.args.view refl

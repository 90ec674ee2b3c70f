use Rattle.std.proofs.Common.{ℕ, ◌+◌, ◌∷◌, [], ◌++◌, List, map, ap, sym, ◌∙◌, arith}
use Rattle.std.proofs.lemmas.List.{map-append, append_assoc}
use Rattle.std.specs.List.{range_with_len}
use Rattle.version_table.specs.Told.{Entry, entry_drawn}
use Rattle.version_table.specs.TableSteps.{base_version}
use Rattle.dir_parts.proofs.Growing.{range-snoc}
use Rattle.version_table.proofs.version_rows.Rows.draw.Goals as goal

pub draw_one-requires : goal.draw_one-requires
draw_one-requires c = omega (arith, c.loop-i.invariant.room, c.requires.room)

pub loop-i-preserved : goal.loop-i-preserved
loop-i-preserved c =
    let i : ℕ = c.loop-i.i in
    let drawn : ℕ → Entry = λ stripe. entry_drawn c.args.actor c.args.number stripe (base_version c.args.pins.now stripe) in
    let before : List Entry = c.args.self.now.entries in
    record {
      entries =
          c.draw_one.ensures.entries ∙ (λ j. c.loop-i.invariant.entries j ++ entry_drawn c.args.actor c.args.number (c.args.first + i) (c.base_of.ensures j) ∷ [])
          ∙ append_assoc before (map drawn (range_with_len c.args.first i)) (drawn (c.args.first + i) ∷ [])
          ∙ ap (λ l. before ++ l) (sym (ap (map drawn) (range-snoc c.args.first i) ∙ map-append drawn (range_with_len c.args.first i) ((c.args.first + i) ∷ [])));
      room = omega (arith, c.loop-i.invariant.room, c.draw_one.ensures.room);
      unswept = omega (arith, c.loop-i.invariant.unswept, c.draw_one.ensures.unswept);
    }

use Rattle.std.proofs.Common.{◌≡◌, map, length, not, is_some, ap, ◌∙◌, arith}
use Rattle.std.proofs.lemmas.List.{length-map}
use Rattle.std.specs.BinaryHeap.{heap_items, heap_len}
use Rattle.version_table.specs.Table.{Table, number_in}
use Rattle.version_table.specs.TableSteps.{first_free}
use Rattle.version_table.proofs.Least.{some_garbage}
use Rattle.version_table.proofs.versions.Versions.has_garbage.Goals as goal

pub returns : goal.returns
returns c =
    let size : heap_len c.self.inside.garbage ≡ length (map number_in (heap_items c.self.inside.garbage)) = omega (arith, c.self.inside.garbage.data.ok.0, length-map (heap_items c.self.inside.garbage) number_in) in
    ap not c.is_empty.ensures ∙ some_garbage c.self.inside.rows.entries (map number_in (heap_items c.self.inside.garbage)) (heap_len c.self.inside.garbage) c.self.invariant.garbage size
    ∙ ap (λ (t : Table). is_some (first_free t)) c.self.view_is

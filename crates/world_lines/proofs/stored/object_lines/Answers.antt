use Rattle.std.proofs.Common.{ℕ, ◌≤◌, List, length, map, Bor, ap, sym, ◌∙◌, arith}
use Rattle.std.proofs.lemmas.List.{take_all}
use Rattle.store_core.specs.Directory.{Object}
use Rattle.store_map.specs.declared.line.LLine.{LLine}
use Rattle.dir_parts.specs.Parts.{Held, object_of}
use Rattle.world_lines.specs.Lists.{object_lines}
use Rattle.world_lines.proofs.Numbered.{map_twice}
use Rattle.world_lines.proofs.stored.object_lines.Goals as goal

pub returns : goal.returns
returns c =
    let seen : Bor (List ℕ) × Bor Held → Object = λ p. object_of p.0.now p.1.now in
    let line : Object → LLine = λ object. record { name = object.name; length = object.length } in
    let items = c.deref-object-items.result.now in
    let all : length items ≤ c.loop-object.object-index = omega (arith, c.loop-object-test.false) in
    c.loop-object.invariant
    ∙ ap (map (λ p. line (seen p))) (take_all c.loop-object.object-index items all ∙ c.deref-object-items.ensures.value)
    ∙ sym (map_twice seen line c.in_ok-objects.objects.items)
    ∙ ap object_lines c.in_ok-objects.ensures

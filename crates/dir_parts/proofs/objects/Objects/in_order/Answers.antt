use Rattle.std.proofs.Common.{◌≡◌, ℕ, List, map, Bor, ap, ◌∙◌, rules}
use Rattle.std.specs.List.Sorted.{IsNonDecreasingBy}
use Rattle.std.specs.Map.Iter.{deref_pair}
use Rattle.std.proofs.lemmas.Iterator.{items_from_drains}
use Rattle.std.proofs.lemmas.Iterator.Consumers.{YieldsList-from_rest}
use Rattle.std.proofs.lemmas.List.Sorted.{IsNonDecreasingBy-from_sort_by_key}
use Rattle.dir_parts.specs.Parts.{Held, Shelf}
use Rattle.dir_parts.specs.Shelf.{birth_of}
use Rattle.dir_parts.proofs.ShelfSteps.{shelf-listed}
use Rattle.dir_parts.proofs.objects.Objects.in_order.Goals as goal

pub returns : goal.returns
returns c =
    let entry_of : Bor (List ℕ) × Bor Held → List ℕ × Held = λ p. deref_pair p in
    let ran = c.in_ok-list.ensures.ran in
    let listed : map entry_of c.in_ok-list.list.items ≡ c.self.inside.listed.entries =
    ap (map entry_of) ran.2.0 ∙ items_from_drains ran.0 ran.1 (YieldsList-from_rest c.self.inside.listed.entries c.iter.ensures.rest) in
    let rises : IsNonDecreasingBy (λ x. birth_of (entry_of x)) c.sort_unstable_by_key.new.self.items =
    IsNonDecreasingBy-from_sort_by_key (λ x. birth_of (entry_of x)) c.sort_unstable_by_key.new.self.items c.sort_unstable_by_key.ensures.sorted (λ a r q k. search rules) in
    shelf-listed entry_of c.self.inside.listed.entries c.in_ok-list.list.items c.sort_unstable_by_key.new.self.items listed c.sort_unstable_by_key.ensures.permutation rises c.self.invariant.births
    ∙ ap (λ (s : Shelf). s.objects) c.self.view_is

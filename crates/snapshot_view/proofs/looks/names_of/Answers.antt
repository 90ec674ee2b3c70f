use Rattle.std.proofs.Common.{ℕ, ◌≤◌, List, [], ◌∷◌, ◌++◌, length, map, take, Bor, ap, sym, ◌∙◌, arith}
use Rattle.std.proofs.lemmas.List.{map-append, take_all}
use Rattle.store_core.specs.Directory.{Object}
use Rattle.run_laws.proofs.KeptDraw.{map_map}
use Rattle.dir_parts.specs.Parts.{Held, object_of}
use Rattle.snapshot_view.proofs.Looking.{read_more}
use Rattle.snapshot_view.proofs.looks.names_of.Goals as goal

pub loop-object-preserved : goal.loop-object-preserved
loop-object-preserved c =
    let name : Bor (List ℕ) × Bor Held → List ℕ = λ p. p.0.now in
    let items = c.deref-object-items.result.now in
    c.in_ok-push.ensures.items
    ∙ (λ i. c.loop-object.invariant i ++ (c.in_ok-copy.ensures i) ∷ [])
    ∙ sym (map-append name (take c.loop-object.object-index items) (c.object-item.result ∷ []))
    ∙ ap (map name) (sym (read_more items c.loop-object.object-index c.object-item.result c.loop-object-test.true c.object-item.is))

pub returns : goal.returns
returns c =
    let name : Bor (List ℕ) × Bor Held → List ℕ = λ p. p.0.now in
    let seen : Bor (List ℕ) × Bor Held → Object = λ p. object_of p.0.now p.1.now in
    let items = c.deref-object-items.result.now in
    let all : length items ≤ c.loop-object.object-index = omega (arith, c.loop-object-test.false) in
    c.loop-object.invariant
    ∙ ap (map name) (take_all c.loop-object.object-index items all ∙ c.deref-object-items.ensures.value)
    ∙ sym (map_map (λ (o : Object). o.name) seen c.in_ok-objects.objects.items)
    ∙ ap (map (λ (o : Object). o.name)) c.in_ok-objects.ensures

use Rattle.std.proofs.Common.{ℕ, ◌≤◌, List, [], ◌++◌, length, map, Bor, ap, sym, ◌∙◌, arith}
use Rattle.std.specs.List.{flat_map}
use Rattle.std.proofs.lemmas.List.{take_all}
use Rattle.std.proofs.lemmas.List.Folds.{flat_map-map}
use Rattle.store_core.specs.Directory.{Object, Directory}
use Rattle.session_rules.specs.declared.session_answer.LostChunk.{LostChunk as Lost}
use Rattle.session_rules.specs.Seen.{versions_under}
use Rattle.session_rules.specs.Scrubs.{lost_of}
use Rattle.dir_parts.specs.Parts.{Held, object_of}
use Rattle.store_scrub.specs.Lost.{lost_in, places_with}
use Rattle.store_scrub.proofs.Loops.{item_more}
use Rattle.store_scrub.proofs.scrubbing.lost_chunks.Goals as goal

pub loop-object-preserved : goal.loop-object-preserved
loop-object-preserved c = λ (d : Directory).
    let lost : Bor (List ℕ) × Bor Held → List Lost = λ p. lost_of (places_with d c.args.servers.now) (p.0.now, p.1.now.versions) in
    item_more lost [] (map lost_in c.loop-object.lost.items) (map lost_in c.add_lost_of.new.lost.items) c.deref-object-items.result.now c.loop-object.object-index c.object-item.result
    c.loop-object-test.true c.object-item.is (c.loop-object.invariant d)
    (c.in_ok-add_lost_of.ensures d
    ∙ ap (λ versions. map lost_in c.loop-object.lost.items ++ lost_of (places_with d c.args.servers.now) (c.object-item.result.0.now, versions))
    (c.deref.ensures.value ∙ ap (λ held. held.versions) c.contents.view_is))

pub returns : goal.returns
returns c =
    let d : Directory = c.args.directory.now.core in
    let seen : Bor (List ℕ) × Bor Held → Object = λ p. object_of p.0.now p.1.now in
    let lost : Object → List Lost = λ object. lost_of (places_with d c.args.servers.now) (versions_under object) in
    let items = c.deref-object-items.result.now in
    let all : length items ≤ c.loop-object.object-index = omega (arith, c.loop-object-test.false) in
    c.loop-object.invariant d
    ∙ ap (flat_map (λ p. lost (seen p))) (take_all c.loop-object.object-index items all ∙ c.deref-object-items.ensures.value)
    ∙ sym (flat_map-map lost seen c.in_ok-objects.objects.items)
    ∙ ap (flat_map lost) c.in_ok-objects.ensures

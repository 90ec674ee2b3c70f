use Rattle.std.proofs.Common.{ℕ, ◌<◌, eqb, List, Bor, All, IfSome, map, length, sym, subst, ap, ◌∙◌}
use Rattle.std.proofs.lemmas.List.{length-map}
use Rattle.clay_grid.specs.Shape.{chunk_count}
use Rattle.clay_model.specs.Code.{AgreesWith}
use Rattle.clay_model.specs.RepairParts.{repair_parts}
use Rattle.lane_repair.specs.Views.{placed_slices, ArePieces}
use Rattle.clay_c.specs.Calls.{place_among_others}
use Rattle.clay_c.proofs.Slices.{slices_shown, places_stand, other_place, are_part_slices}
use Rattle.clay_c.proofs.rebuild_calls.write_rebuilt_apart.Goals as goal

pub rebuild_into-requires-clause-parts : goal.rebuild_into-requires-clause-parts
rebuild_into-requires-clause-parts c =
    let g = c.args.g in
    let lost = c.args.lost in
    let slices : List (List ℕ) = map (λ (part : Bor (List ℕ)). part.now) c.args.parts.now in
    let shown = ap (placed_slices slices) (c.deref.ensures.value ∙ c.in_ok-places.ensures) ∙ slices_shown slices (λ k. eqb k lost) (place_among_others lost) (chunk_count g) in
    subst (ArePieces g lost) (sym shown) (are_part_slices g lost c.requires.chunk slices c.requires.fit.0 c.requires.fit.1)

pub rebuild_into-requires-clause-room : goal.rebuild_into-requires-clause-room
rebuild_into-requires-clause-room c =
    let g = c.args.g in
    let lost = c.args.lost in
    let slices : List (List ℕ) = map (λ (part : Bor (List ℕ)). part.now) c.args.parts.now in
    let count = sym (length-map c.args.parts.now (λ (part : Bor (List ℕ)). part.now)) ∙ c.requires.fit.0 in
    subst (λ s. All (λ o. IfSome o (λ at. at < length c.args.parts.now)) s) (sym (c.deref.ensures.value ∙ c.in_ok-places.ensures))
    (places_stand slices (λ k. eqb k lost) (place_among_others lost) (length c.args.parts.now) (chunk_count g)
    (λ k below other. subst (λ n. place_among_others lost k < n) (sym count) (other_place g lost c.requires.chunk k below other)))

pub returns-clause-written : goal.returns-clause-written
returns-clause-written c = λ word codeword agrees.
    let g = c.args.g in
    let lost = c.args.lost in
    let slices : List (List ℕ) = map (λ (part : Bor (List ℕ)). part.now) c.args.parts.now in
    let shown = ap (placed_slices slices) (c.deref.ensures.value ∙ c.in_ok-places.ensures) ∙ slices_shown slices (λ k. eqb k lost) (place_among_others lost) (chunk_count g) in
    c.in_ok-rebuild_into.ensures.rebuilt.value word (record {
      codeword = codeword;
      agrees = subst (λ p. AgreesWith p (repair_parts g lost word)) (sym shown) agrees;
    })

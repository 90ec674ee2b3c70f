use Rattle.std.proofs.Common.{◌≡◌, ◌≤◌, ◌<◌, ℕ, [], eqb, List, Bor, MutBor, All, IfSome, map, length, get_or, count_by, is_none, sym, subst, ap, ◌∙◌}
use Rattle.std.proofs.lemmas.List.{length-map}
use Rattle.clay_grid.specs.Shape.{chunk_count}
use Rattle.clay_grid.specs.Score.{count_below}
use Rattle.clay_model.specs.Code.{AgreesWith}
use Rattle.lane_repair.specs.Views.{placed_slices}
use Rattle.clay_lanes.specs.Present.{AreChunks}
use Rattle.clay_lanes.specs.Recovered.{missing_of}
use Rattle.clay_c.specs.Helpers.{is_marked, starts_marked}
use Rattle.clay_c.specs.Apart.{left_slices}
use Rattle.clay_c.proofs.Slices.{slices_shown, places_stand, left_few, lost_left, length-lost, left_within, are_left}
use Rattle.clay_c.proofs.recover_calls.write_missing_apart.Goals as goal

pub recover_slices-requires-clause-chunks : goal.recover_slices-requires-clause-chunks
recover_slices-requires-clause-chunks c =
    let g = c.args.g in
    let present = c.args.present.now in
    let chunks : List (List ℕ) = map (λ (chunk : Bor (List ℕ)). chunk.now) c.args.chunks.now in
    let marks = c.requires.fit.0 in
    let places : c.deref.result.now ≡ starts_marked present 1 (chunk_count g) = c.deref.ensures.value ∙ c.in_ok-places.ensures ∙ ap (starts_marked present 1) marks in
    let shown : placed_slices chunks c.deref.result.now ≡ left_slices g present chunks =
    ap (placed_slices chunks) places ∙ slices_shown chunks (λ k. eqb (get_or present k 0) 0) (λ k. count_below k (is_marked present)) (chunk_count g) in
    subst (AreChunks g) (sym shown) (are_left g present chunks marks c.requires.fit.1 c.requires.fit.3)

pub recover_slices-requires-clause-room : goal.recover_slices-requires-clause-room
recover_slices-requires-clause-room c =
    let g = c.args.g in
    let present = c.args.present.now in
    let chunks : List (List ℕ) = map (λ (chunk : Bor (List ℕ)). chunk.now) c.args.chunks.now in
    let marks = c.requires.fit.0 in
    let places : c.deref.result.now ≡ starts_marked present 1 (chunk_count g) = c.deref.ensures.value ∙ c.in_ok-places.ensures ∙ ap (starts_marked present 1) marks in
    let count : length chunks ≡ length c.args.chunks.now = length-map c.args.chunks.now (λ (chunk : Bor (List ℕ)). chunk.now) in
    subst (λ s. All (λ o. IfSome o (λ at. at < length c.args.chunks.now)) s) (sym places)
    (places_stand chunks (λ k. eqb (get_or present k 0) 0) (λ k. count_below k (is_marked present)) (length c.args.chunks.now) (chunk_count g)
    (λ k below there. subst (λ n. count_below k (is_marked present) < n) count (left_within g present chunks marks c.requires.fit.1 k below there)))

pub recover_slices-requires-clause-few : goal.recover_slices-requires-clause-few
recover_slices-requires-clause-few c =
    let g = c.args.g in
    let present = c.args.present.now in
    let chunks : List (List ℕ) = map (λ (chunk : Bor (List ℕ)). chunk.now) c.args.chunks.now in
    let marks = c.requires.fit.0 in
    let places : c.deref.result.now ≡ starts_marked present 1 (chunk_count g) = c.deref.ensures.value ∙ c.in_ok-places.ensures ∙ ap (starts_marked present 1) marks in
    let shown : placed_slices chunks c.deref.result.now ≡ left_slices g present chunks =
    ap (placed_slices chunks) places ∙ slices_shown chunks (λ k. eqb (get_or present k 0) 0) (λ k. count_below k (is_marked present)) (chunk_count g) in
    subst (λ p. count_by is_none p ≤ g.parity_count) (sym shown) (subst (λ n. n ≤ g.parity_count) (sym (left_few g present chunks marks)) c.requires.few)

pub recover_slices-requires-clause-count : goal.recover_slices-requires-clause-count
recover_slices-requires-clause-count c =
    let g = c.args.g in
    let present = c.args.present.now in
    let chunks : List (List ℕ) = map (λ (chunk : Bor (List ℕ)). chunk.now) c.args.chunks.now in
    let marks = c.requires.fit.0 in
    let places : c.deref.result.now ≡ starts_marked present 1 (chunk_count g) = c.deref.ensures.value ∙ c.in_ok-places.ensures ∙ ap (starts_marked present 1) marks in
    let shown : placed_slices chunks c.deref.result.now ≡ left_slices g present chunks =
    ap (placed_slices chunks) places ∙ slices_shown chunks (λ k. eqb (get_or present k 0) 0) (λ k. count_below k (is_marked present)) (chunk_count g) in
    sym (length-map c.args.missing.now (λ (room : MutBor (List ℕ)). room.now))
    ∙ c.requires.fit.2
    ∙ sym (ap (λ p. length (missing_of p)) shown ∙ ap length (lost_left g present chunks marks) ∙ length-lost g present chunks marks)

pub recover_slices-requires-clause-lengths : goal.recover_slices-requires-clause-lengths
recover_slices-requires-clause-lengths c = λ i h.
    c.requires.fit.4 i [] (subst (λ n. i < n) (sym (length-map c.args.missing.now (λ (room : MutBor (List ℕ)). room.now))) h)

pub returns-clause-written : goal.returns-clause-written
returns-clause-written c = λ word codeword agrees.
    let g = c.args.g in
    let present = c.args.present.now in
    let chunks : List (List ℕ) = map (λ (chunk : Bor (List ℕ)). chunk.now) c.args.chunks.now in
    let marks = c.requires.fit.0 in
    let places : c.deref.result.now ≡ starts_marked present 1 (chunk_count g) = c.deref.ensures.value ∙ c.in_ok-places.ensures ∙ ap (starts_marked present 1) marks in
    let shown : placed_slices chunks c.deref.result.now ≡ left_slices g present chunks =
    ap (placed_slices chunks) places ∙ slices_shown chunks (λ k. eqb (get_or present k 0) 0) (λ k. count_below k (is_marked present)) (chunk_count g) in
    c.in_ok-recover_slices.ensures.written word (record { codeword = codeword; agrees = subst (λ p. AgreesWith p word) (sym shown) agrees })
    ∙ ap (map (λ k. get_or word k [])) (ap missing_of shown ∙ lost_left g present chunks marks)

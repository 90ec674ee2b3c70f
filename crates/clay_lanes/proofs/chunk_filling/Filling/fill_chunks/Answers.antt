use Rattle.std.proofs.Common.{◌≡◌, ℕ, ◌+◌, ◌*◌, ◌<◌, List, true, get_or, is_none, Option, None, sym, subst, ap, ◌∙◌, inl, inr, arith}
use Rattle.std.proofs.lemmas.Bool.{cases_eq}
use Rattle.clay_grid.specs.Shape.{chunk_count, layer_count}
use Rattle.code_laws.proofs.Pieces.{place_below}
use Rattle.clay_lanes.specs.Present.{FitsChunks}
use Rattle.clay_lanes.specs.Fillings.{pieces_in, SolvesLayers, FillsPlace, KeepsOthers}
use Rattle.clay_lanes.proofs.PlaceLemmas.{places_stay, places_then}
use Rattle.clay_lanes.proofs.FillLemmas.{pieces_stay, filling_stays}
use Rattle.clay_lanes.proofs.chunk_filling.Filling.fill_chunks.Goals as goal

pub loop-c-init : goal.loop-c-init
loop-c-init c = record {
  written = λ i hi none. absurd (omega (arith, hi));
  kept = places_stay c.args.self.now.g (λ word. FitsChunks c.args.self.now.g (pieces_in c.args.self.now c.args.chunks.now) word)
      (λ k. is_none (get_or (pieces_in c.args.self.now c.args.chunks.now) k None)) c.args.chunks.now;
}

pub fill_chunk-requires-clause-filling : goal.fill_chunk-requires-clause-filling
fill_chunk-requires-clause-filling c = filling_stays c.args.self.now c.args.chunks.now c.loop-c.chunks c.requires.filling c.loop-c.auto.chunks c.loop-c.invariant.kept

pub fill_chunk-requires-clause-holds : goal.fill_chunk-requires-clause-holds
fill_chunk-requires-clause-holds c =
    let f = c.args.self.now in
    subst (λ p. SolvesLayers f p c.args.solved.now) (sym (pieces_stay f c.args.chunks.now c.loop-c.chunks c.requires.filling c.loop-c.auto.chunks c.loop-c.invariant.kept)) c.requires.holds

pub loop-c-preserved : goal.loop-c-preserved
loop-c-preserved c =
    let f = c.args.self.now in
    let g = f.g in
    let old = c.args.chunks.now in
    let pieces : List (Option (List ℕ)) = pieces_in f old in
    let i : ℕ = c.loop-c.c in
    let new = c.fill_chunk.new.chunks in
    let stay : pieces_in f c.loop-c.chunks ≡ pieces = pieces_stay f old c.loop-c.chunks c.requires.filling c.loop-c.auto.chunks c.loop-c.invariant.kept in
    let kept : KeepsOthers f pieces c.loop-c.chunks new = subst (λ p. KeepsOthers f p c.loop-c.chunks new) stay c.fill_chunk.ensures.kept in
    record {
      written = λ k hk none. elim (cases_eq k i) [
        | inl same ↦
            subst (λ n. FillsPlace f pieces n new) (sym same)
            (subst (λ p. is_none (get_or p i None) ≡ true → FillsPlace f p i new) stay c.fill_chunk.ensures.written (ap (λ n. is_none (get_or pieces n None)) (sym same) ∙ none))
        | inr other ↦ λ z b hz hb.
            let here : k < chunk_count g = omega (arith, hk, other, c.loop-c-test.true, c.n-c-end.ensures.value) in
            let place = place_below z (layer_count g) g.width (f.at + b) hz (omega (arith, hb, c.requires.filling.planned.within)) in
            kept.right k (z * g.width + (f.at + b)) here place (c.loop-c.invariant.written k (omega (arith, hk, other)) none z b hz hb)
      ];
      kept = places_then g (λ word. FitsChunks g pieces word) (λ k. is_none (get_or pieces k None)) old c.loop-c.chunks new c.loop-c.invariant.kept kept;
    }

pub returns-clause-written : goal.returns-clause-written
returns-clause-written c = λ i hi none. c.loop-c.invariant.written i (omega (arith, hi, c.loop-c-test.false, c.n-c-end.ensures.value)) none

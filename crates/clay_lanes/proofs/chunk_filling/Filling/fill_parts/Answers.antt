use Rattle.std.proofs.Common.{◌≡◌, ℕ, ◌+◌, ◌-◌, ◌*◌, ◌≤◌, Bool, List, true, min, length, get_or, is_none, Option, None, subst, ◌∙◌, inl, inr, arith}
use Rattle.std.proofs.lemmas.Bool.{cases_lt}
use Rattle.std.proofs.lemmas.Nat.{mul-le}
use Rattle.std.proofs.lemmas.List.{length-take-le}
use Rattle.clay_grid.specs.Shape.{layer_count}
use Rattle.code_laws.proofs.Pieces.{place_below}
use Rattle.clay_lanes.specs.Present.{FitsChunks}
use Rattle.clay_lanes.specs.Places.{HoldsPlace, KeepsPlaces}
use Rattle.clay_lanes.specs.Fillings.{IsFilling, pieces_in}
use Rattle.clay_lanes.proofs.PlaceLemmas.{places_stay, places_then}
use Rattle.clay_lanes.proofs.FillLemmas.{pieces_stay, filling_stays}
use Rattle.clay_lanes.proofs.chunk_filling.Filling.fill_parts.Goals as goal

pub loop-from-init : goal.loop-from-init
loop-from-init c = record {
  within = omega arith;
  written = λ i hi none z b hz hb. absurd (omega (arith, hb));
  kept = places_stay c.args.self.now.g (λ word. FitsChunks c.args.self.now.g (pieces_in c.args.self.now c.args.chunks.now) word)
      (λ k. is_none (get_or (pieces_in c.args.self.now c.args.chunks.now) k None)) c.args.chunks.now;
}

pub fill-requires-clause-filling : goal.fill-requires-clause-filling
fill-requires-clause-filling c =
    let f = c.args.self.now in
    let stays : IsFilling f c.loop-from.chunks = filling_stays f c.args.chunks.now c.loop-from.chunks c.requires.filling c.loop-from.auto.chunks c.loop-from.invariant.kept in
    record {
      planned = record {
        plan = stays.planned.plan;
        chunks = stays.planned.chunks;
        within = omega (arith, c.min-len.ensures, c.loop-from-test.true, stays.planned.within);
      };
      places = stays.places;
      long = stays.long;
    }

pub loop-from-preserved : goal.loop-from-preserved
loop-from-preserved c =
    let f = c.args.self.now in
    let g = f.g in
    let old = c.args.chunks.now in
    let pieces : List (Option (List ℕ)) = pieces_in f old in
    let fits : List (List ℕ) → Type 0 = λ word. FitsChunks g pieces word in
    let gone : ℕ → Bool = λ k. is_none (get_or pieces k None) in
    let from : ℕ = c.loop-from.from in
    let new = c.fill.new.chunks in
    let stay : pieces_in f c.loop-from.chunks ≡ pieces = pieces_stay f old c.loop-from.chunks c.requires.filling c.loop-from.auto.chunks c.loop-from.invariant.kept in
    let kept : KeepsPlaces g fits gone c.loop-from.chunks new =
    subst (λ p. KeepsPlaces g (λ word. FitsChunks g p word) (λ k. is_none (get_or p k None)) c.loop-from.chunks new) stay c.fill.ensures.kept in
    record {
      within = omega (arith, c.min-len.ensures, c.loop-from-test.true);
      written = λ i hi none z b hz hb. elim (cases_lt b from) [
        | inl early ↦
            let place = place_below z (layer_count g) g.width (f.at + b) hz (omega (arith, early, c.loop-from-test.true, c.requires.filling.planned.within)) in
            kept.right i (z * g.width + (f.at + b)) hi place (c.loop-from.invariant.written i hi none z b hz early)
        | inr late ↦
            let back : f.at + from + (b - from) ≡ f.at + b = omega arith in
            subst (λ v. HoldsPlace g fits i new (z * g.width + v)) back
            (subst (λ p. is_none (get_or p i None) ≡ true → HoldsPlace g (λ word. FitsChunks g p word) i new (z * g.width + (f.at + from + (b - from)))) stay
            (λ gone_there. c.fill.ensures.written i hi gone_there z (b - from) hz (omega (arith, hb, late))) none)
      ];
      kept = places_then g fits gone old c.loop-from.chunks new c.loop-from.invariant.kept kept;
    }

pub returns-clause-written : goal.returns-clause-written
returns-clause-written c = λ i hi none z b hz hb. c.loop-from.invariant.written i hi none z b hz (omega (arith, hb, c.loop-from-test.false))

pub fill-requires-clause-solved_len : goal.fill-requires-clause-solved_len
fill-requires-clause-solved_len c =
    let g = c.args.self.now.g in
    let len : ℕ = c.min-len.result in
    let most : ℕ = min c.args.self.now.len 4096 in
    let points : ℕ = length c.args.self.now.plan.now.points.items in
    let count : c.len.result ≡ points = omega (arith, c.len.ensures, c.args.self.now.plan.now.points.ok.0) in
    let layers : c.alpha-layers.result ≡ layer_count g = c.alpha-layers.ensures.value in
    let same : c.alpha-layers.result * (c.len.result * len) ≡ layer_count g * (points * len) = λ i. layers i * (count i * len) in
    let short : len ≤ most = omega (arith, c.min-len.ensures) in
    let row : points * len ≤ points * most = mul-le points len points most (omega arith) short in
    let all : layer_count g * (points * len) ≤ layer_count g * (points * most) = mul-le (layer_count g) (points * len) (layer_count g) (points * most) (omega arith) row in
    length-take-le (c.alpha-layers.result * (c.len.result * len)) c.loop-from.solved (omega (arith, same, all, c.loop-from.auto.solved, c.requires.solved_len)) ∙ same

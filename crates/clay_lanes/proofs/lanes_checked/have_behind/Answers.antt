use Rattle.std.proofs.Common.{◌≡◌, ℕ, ◌+◌, ◌<◌, List, [], length, get_or, Vec, Global, refl, sym, subst, ap, ◌∙◌, inl, inr, arith}
use Rattle.std.proofs.lemmas.Bool.{cases_eq, false≢true}
use Rattle.std.proofs.lemmas.List.{get_or-map}
use Rattle.clay_model.specs.Chunks.{contents}
use Rattle.clay_lanes.proofs.lanes_checked.have_behind.Goals as goal

-- the chunk that is read
chunk_at : (chunks : List (Vec ℕ Global)) (i : ℕ) (v : Vec ℕ Global) → i < length chunks → v ≡ get_or chunks i v → get_or (contents chunks) i [] ≡ v.items
chunk_at chunks i v within is =
    let items : Vec ℕ Global → List ℕ = λ w. w.items in
    get_or-map items chunks i v [] within ∙ ap items (sym is)

pub returns-then-not-same_bytes : goal.returns-then-not-same_bytes
returns-then-not-same_bytes c =
    let i : ℕ = c.loop-i.i in
    let own : get_or (contents c.args.chunks.now) (c.args.first + i) [] ≡ c.deref.result.now =
    chunk_at c.args.chunks.now (c.args.first + i) c.index-chunks-first.result (omega (arith, c.requires, c.loop-i-test.true)) c.index-chunks-first.is ∙ sym c.deref.ensures.value in
    let other : get_or (contents c.args.others.now) i [] ≡ c.deref-in-loop-i.result.now =
    chunk_at c.args.others.now i c.index-others-i.result c.loop-i-test.true c.index-others-i.is ∙ sym c.deref-in-loop-i.ensures.value in (
      (λ h. absurd (false≢true h)),
      (λ same. c.if-not-same_bytes.ensures.1 (sym own ∙ same i c.loop-i-test.true ∙ other)),
    )

pub loop-i-preserved : goal.loop-i-preserved
loop-i-preserved c = λ k h.
    let i : ℕ = c.loop-i.i in
    let own : get_or (contents c.args.chunks.now) (c.args.first + i) [] ≡ c.deref.result.now =
    chunk_at c.args.chunks.now (c.args.first + i) c.index-chunks-first.result (omega (arith, c.requires, c.loop-i-test.true)) c.index-chunks-first.is ∙ sym c.deref.ensures.value in
    let other : get_or (contents c.args.others.now) i [] ≡ c.deref-in-loop-i.result.now =
    chunk_at c.args.others.now i c.index-others-i.result c.loop-i-test.true c.index-others-i.is ∙ sym c.deref-in-loop-i.ensures.value in
    let here : get_or (contents c.args.chunks.now) (c.args.first + i) [] ≡ get_or (contents c.args.others.now) i [] =
    own ∙ c.if-not-same_bytes.ensures.0 refl ∙ sym other in
    elim (cases_eq k i) [
      | inl same ↦ subst (λ j. get_or (contents c.args.chunks.now) (c.args.first + j) [] ≡ get_or (contents c.args.others.now) j []) (sym same) here
      | inr differs ↦ c.loop-i.invariant k (omega (arith, h, differs))
    ]

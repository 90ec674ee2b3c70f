use Rattle.std.proofs.Common.{◌≡◌, ℕ, ◌<◌, List, [], length, get_or, None, Vec, Global, IfSome, refl, sym, subst, ap, ◌∙◌, inl, inr, arith}
use Rattle.std.proofs.lemmas.Bool.{cases_eq, false≢true}
use Rattle.std.proofs.lemmas.List.{get_or_read, get_or-map}
use Rattle.clay_model.specs.Chunks.{contents}
use Rattle.code_laws.proofs.Agreeing.{agrees_of, kept_of}
use Rattle.clay_decode.proofs.plain_checked.agree.Goals as goal

-- the chunk that is read
chunk_at : (chunks : List (Vec ℕ Global)) (i : ℕ) (v : Vec ℕ Global) → i < length chunks → v ≡ get_or chunks i v → get_or (contents chunks) i [] ≡ v.items
chunk_at chunks i v within is =
    let items : Vec ℕ Global → List ℕ = λ w. w.items in
    get_or-map items chunks i v [] within ∙ ap items (sym is)

pub returns-then-not-is_kept : goal.returns-then-not-is_kept
returns-then-not-is_kept c =
    let i : ℕ = c.loop-i.i in
    let have = c.args.have.now in
    let within : i < length have = c.loop-i-test.true in
    let part : get_or have i None ≡ c.index-have-i.result = sym (get_or_read have i c.index-have-i.result within c.index-have-i.is None) in
    let chunk : get_or (contents c.args.chunks.now) i [] ≡ c.deref.result.now =
    chunk_at c.args.chunks.now i c.index-chunks-i.result (omega (arith, c.requires)) c.index-chunks-i.is ∙ sym c.deref.ensures.value in (
      (λ h. absurd (false≢true h)),
      (λ agrees. c.if-not-is_kept.ensures.1
          (subst (λ l. IfSome c.index-have-i.result (λ v. l ≡ v.items)) chunk (kept_of have (contents c.args.chunks.now) agrees i c.index-have-i.result part))),
    )

pub loop-i-preserved : goal.loop-i-preserved
loop-i-preserved c = λ k h.
    let i : ℕ = c.loop-i.i in
    let have = c.args.have.now in
    let within : i < length have = c.loop-i-test.true in
    let part : get_or have i None ≡ c.index-have-i.result = sym (get_or_read have i c.index-have-i.result within c.index-have-i.is None) in
    let chunk : get_or (contents c.args.chunks.now) i [] ≡ c.deref.result.now =
    chunk_at c.args.chunks.now i c.index-chunks-i.result (omega (arith, c.requires)) c.index-chunks-i.is ∙ sym c.deref.ensures.value in
    let here : IfSome (get_or have i None) (λ v. get_or (contents c.args.chunks.now) i [] ≡ v.items) =
    subst (λ o. IfSome o (λ v. get_or (contents c.args.chunks.now) i [] ≡ v.items)) (sym part)
    (subst (λ l. IfSome c.index-have-i.result (λ v. l ≡ v.items)) (sym chunk) (c.if-not-is_kept.ensures.0 refl)) in
    elim (cases_eq k i) [
      | inl same ↦ subst (λ j. IfSome (get_or have j None) (λ v. get_or (contents c.args.chunks.now) j [] ≡ v.items)) (sym same) here
      | inr other ↦ c.loop-i.invariant k (omega (arith, other))
    ]

pub returns : goal.returns
returns c =
    ((λ h. agrees_of c.args.have.now (contents c.args.chunks.now) (λ k l. c.loop-i.invariant k (omega arith))), (λ h. refl))

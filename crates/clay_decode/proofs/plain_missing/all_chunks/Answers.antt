use Rattle.std.proofs.Common.{◌≡◌, ℕ, ◌+◌, ◌<◌, List, [], ◌∷◌, ◌++◌, length, get_or, All, Option, None, Vec, Global, IfSome, sym, subst, ap, ◌∙◌, inl, inr, arith}
use Rattle.std.proofs.lemmas.Bool.{cases_eq}
use Rattle.std.proofs.lemmas.List.{length_push, ext_get_or, get_or_push, get_or_append_left}
use Rattle.std.proofs.lemmas.List.Elements.{All-push}
use Rattle.clay_grid.specs.Shape.{chunk_count, chunk_length}
use Rattle.clay_model.specs.Chunks.{contents}
use Rattle.code_laws.proofs.Lists.{contents_push, more_chunks}
use Rattle.code_laws.proofs.Agreeing.{agrees_of}
use Rattle.clay_decode.proofs.plain_missing.all_chunks.Goals as goal

-- one more chunk, which is kept too
kept_more : (have : List (Option (Vec ℕ Global))) (chunks : List (List ℕ)) (new : List ℕ) (c : ℕ) → length chunks ≡ c
    → ((i : ℕ) → i < c → IfSome (get_or have i None) (λ v. get_or chunks i [] ≡ v.items)) → IfSome (get_or have c None) (λ v. new ≡ v.items)
    → (i : ℕ) → i < c + 1 → IfSome (get_or have i None) (λ v. get_or (chunks ++ new ∷ []) i [] ≡ v.items)
kept_more have chunks new c long each here i h =
    elim (cases_eq i c) [
      | inl same ↦
          subst (λ l. IfSome (get_or have i None) (λ v. l ≡ v.items)) (sym (get_or_push chunks new [] i (long ∙ sym same)))
          (subst (λ j. IfSome (get_or have j None) (λ v. new ≡ v.items)) (sym same) here)
      | inr other ↦
          let below : i < c = omega (arith, other) in
          subst (λ l. IfSome (get_or have i None) (λ v. l ≡ v.items)) (sym (get_or_append_left chunks (new ∷ []) [] i (subst (λ n. i < n) (sym long) below))) (each i below)
    ]

pub loop-c-preserved : goal.loop-c-preserved
loop-c-preserved c =
    let before : List (List ℕ) = contents c.loop-c.chunks.items in
    let new = c.in_ok-chunk.field-0 in
    let IsLong : List ℕ → Type 0 = λ chunk. length chunk ≡ chunk_length c.args.g in
    let now : contents c.push.new.self.items ≡ before ++ new.items ∷ [] =
    ap contents c.in_ok-push.ensures.items ∙ contents_push c.loop-c.chunks.items new in
    record {
      count = ap length now ∙ length_push before new.items ∙ ap (λ n. n + 1) c.loop-c.invariant.count;
      lengths = subst (All IsLong) (sym now) (All-push IsLong before new.items c.loop-c.invariant.lengths c.in_ok-chunk.ensures.len);
      kept = λ i h. subst (λ l. IfSome (get_or c.args.have.now i None) (λ v. get_or l i [] ≡ v.items)) (sym now)
          (kept_more c.args.have.now before new.items c.loop-c.c c.loop-c.invariant.count c.loop-c.invariant.kept c.in_ok-chunk.ensures.kept i h);
      value = λ word fits i h. ap (λ l. get_or l i []) now
          ∙ more_chunks (λ v. get_or word v []) before new.items c.loop-c.c c.loop-c.invariant.count (c.loop-c.invariant.value word fits) (c.in_ok-chunk.ensures.value word fits) i h;
    }

pub returns-clause-kept : goal.returns-clause-kept
returns-clause-kept c =
    let total : c.loop-c.c ≡ chunk_count c.args.g = omega (arith, c.loop-c-test.false, c.loop-c.auto.c-end, c.n-c-end.ensures.value) in
    agrees_of c.args.have.now (contents c.loop-c.chunks.items) (λ i h. c.loop-c.invariant.kept i (omega (arith, total, c.requires.plan.left.count)))

pub returns-clause-recovered : goal.returns-clause-recovered
returns-clause-recovered c =
    let total : c.loop-c.c ≡ chunk_count c.args.g = omega (arith, c.loop-c-test.false, c.loop-c.auto.c-end, c.n-c-end.ensures.value) in
    let chunks : List (List ℕ) = contents c.loop-c.chunks.items in
    record {
      count = c.loop-c.invariant.count ∙ total;
      lengths = c.loop-c.invariant.lengths;
      value = λ word fits. ext_get_or [] chunks word (c.loop-c.invariant.count ∙ total ∙ sym fits.codeword.count)
          (λ i h. c.loop-c.invariant.value word fits i (subst (λ n. i < n) c.loop-c.invariant.count h));
    }

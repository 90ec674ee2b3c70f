use Rattle.std.proofs.Common.{◌≡◌, ℕ, ◌≤◌, List, length, take, refl, sym, subst, ap, ◌∙◌, arith}
use Rattle.std.specs.List.{concat}
use Rattle.std.proofs.lemmas.Bool.{false≢true}
use Rattle.clay_grid.specs.Shape.{chunk_length}
use Rattle.clay_model.specs.Code.{AgreesWith, Codes}
use Rattle.clay_model.proofs.Codewords.{same_of_stripe, distinct_nodes}
use Rattle.clay_model.specs.Chunks.{contents}
use Rattle.clay_model.specs.Left.{parts}
use Rattle.code_laws.proofs.Joined.{length-joined}
use Rattle.clay_decode.proofs.plain_checked.decode_checked.Goals as goal

pub encode-requires : goal.encode-requires
encode-requires c =
    let g = c.args.g in
    let chunks : List (List ℕ) = contents c.in_ok-chunks.chunks.items in
    let enough : g.data_count ≤ length chunks = omega (arith, c.in_ok-chunks.ensures.recovered.count) in
    ap length (c.deref-2.ensures.value ∙ c.in_ok-stripe.ensures ∙ (λ i. concat (take g.data_count (contents (c.deref.ensures.value i)))))
    ∙ length-joined chunks (chunk_length g) g.data_count enough c.in_ok-chunks.ensures.recovered.lengths

pub returns-then-agree-clause-codeword : goal.returns-then-agree-clause-codeword
returns-then-agree-clause-codeword c = record {
  codeword = c.in_ok-word.ensures.codeword;
  agrees = subst (λ l. AgreesWith (parts c.args.have.now) (contents l)) c.deref-3.ensures.value (c.if-agree.ensures.0 refl);
}

pub returns-clause-disagree : goal.returns-clause-disagree
returns-clause-disagree c = λ e word fits.
    let g = c.args.g in
    let found : contents c.in_ok-chunks.chunks.items ≡ word = c.in_ok-chunks.ensures.recovered.value word fits in
    let stripe : c.deref-2.result.now ≡ concat (take g.data_count word) =
    c.deref-2.ensures.value
    ∙ c.in_ok-stripe.ensures
    ∙ (λ i. concat (take g.data_count (contents (c.deref.ensures.value i))))
    ∙ ap (λ l. concat (take g.data_count l)) found in
    let codes : Codes g c.deref-2.result.now word = record { codeword = fits.codeword; joined = sym stripe } in
    let same : word ≡ contents c.in_ok-word.word.items =
    same_of_stripe g c.deref-2.result.now word (contents c.in_ok-word.word.items) (distinct_nodes g c.m.ensures.geometry) codes c.in_ok-word.ensures in
    let agrees : AgreesWith (parts c.args.have.now) (contents c.deref-3.result.now) =
    subst (λ l. AgreesWith (parts c.args.have.now) (contents l)) (sym c.deref-3.ensures.value) (subst (AgreesWith (parts c.args.have.now)) same fits.agrees) in
    false≢true (c.if-agree.ensures.1 agrees)

-- the chunks disagree, so none are handed out
pub returns-clause-codeword : goal.returns-clause-codeword
returns-clause-codeword c = tt

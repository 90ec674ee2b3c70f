use Rattle.std.proofs.Common.{◌≡◌, ℕ, ◌+◌, ◌<◌, ◌≤◌, List, [], ◌++◌, length, get_or, take, refl, sym, subst, ap, ◌∙◌, arith}
use Rattle.std.specs.List.{concat}
use Rattle.std.proofs.lemmas.Bool.{false≢true}
use Rattle.clay_grid.specs.Shape.{chunk_length}
use Rattle.clay_model.specs.Code.{IsCodeword, Codes}
use Rattle.clay_model.proofs.Codewords.{same_of_stripe, distinct_nodes}
use Rattle.clay_model.specs.Chunks.{contents}
use Rattle.code_laws.proofs.Joined.{length-joined}
use Rattle.clay_parity.specs.Parity.{data_pieces}
use Rattle.clay_lanes.proofs.CheckedLemmas.{behind_data, same_word}
use Rattle.clay_lanes.proofs.lanes_checked.decode_checked.Goals as goal

pub parity-requires : goal.parity-requires
parity-requires c =
    let g = c.args.g in
    let chunks : List (List ℕ) = contents c.in_ok-chunks.chunks.items in
    let enough : g.data_count ≤ length chunks = omega (arith, c.in_ok-chunks.ensures.recovered.count) in
    ap length (c.deref-2.ensures.value ∙ c.in_ok-stripe.ensures ∙ (λ i. concat (take g.data_count (contents (c.deref.ensures.value i)))))
    ∙ length-joined chunks (chunk_length g) g.data_count enough c.in_ok-chunks.ensures.recovered.lengths

pub returns-then-have_behind-clause-codeword : goal.returns-then-have_behind-clause-codeword
returns-then-have_behind-clause-codeword c =
    let g = c.args.g in
    let chunks : List (List ℕ) = contents c.in_ok-chunks.chunks.items in
    let parity : List (List ℕ) = contents c.in_ok-parity.parity.items in
    let stripe : List ℕ = c.deref-2.result.now in
    let joined : stripe ≡ concat (take g.data_count chunks) = c.deref-2.ensures.value ∙ c.in_ok-stripe.ensures ∙ (λ i. concat (take g.data_count (contents (c.deref.ensures.value i)))) in
    let behind : (i : ℕ) → i < g.parity_count → get_or chunks (g.data_count + i) [] ≡ get_or (data_pieces g stripe ++ parity) (g.data_count + i) [] =
    λ i h.
    (λ j. get_or (contents (sym c.deref-3.ensures.value j)) (sym c.k.ensures.value j + i) [])
    ∙ c.if-have_behind.ensures.0 refl i (subst (λ n. i < n) (sym (ap length c.deref-4.ensures.value ∙ c.in_ok-parity.ensures.count)) h)
    ∙ (λ j. get_or (contents (c.deref-4.ensures.value j)) i [])
    ∙ sym (behind_data g stripe parity i) in
    let whole : chunks ≡ data_pieces g stripe ++ parity =
    same_word g stripe chunks (data_pieces g stripe ++ parity) c.in_ok-parity.ensures.value
    c.in_ok-chunks.ensures.recovered.count c.in_ok-chunks.ensures.recovered.lengths joined behind in
    record {
      codeword = subst (IsCodeword g) (sym whole) c.in_ok-parity.ensures.value.codeword;
      agrees = c.in_ok-chunks.ensures.kept;
    }

pub returns-else-have_behind-clause-disagree : goal.returns-else-have_behind-clause-disagree
returns-else-have_behind-clause-disagree c = λ e word fits.
    let g = c.args.g in
    let chunks : List (List ℕ) = contents c.in_ok-chunks.chunks.items in
    let parity : List (List ℕ) = contents c.in_ok-parity.parity.items in
    let stripe : List ℕ = c.deref-2.result.now in
    let found : chunks ≡ word = c.in_ok-chunks.ensures.recovered.value word fits in
    let joined : stripe ≡ concat (take g.data_count chunks) = c.deref-2.ensures.value ∙ c.in_ok-stripe.ensures ∙ (λ i. concat (take g.data_count (contents (c.deref.ensures.value i)))) in
    let codes : Codes g stripe word = record { codeword = fits.codeword; joined = sym (joined ∙ ap (λ l. concat (take g.data_count l)) found) } in
    let same : word ≡ data_pieces g stripe ++ parity =
    same_of_stripe g stripe word (data_pieces g stripe ++ parity) (distinct_nodes g c.m.ensures.geometry) codes c.in_ok-parity.ensures.value in
    false≢true (c.if-have_behind.ensures.1 (λ i h.
    (λ j. get_or (contents (c.deref-3.ensures.value j)) (c.k.ensures.value j + i) [])
    ∙ ap (λ l. get_or l (g.data_count + i) []) (found ∙ same)
    ∙ behind_data g stripe parity i
    ∙ (λ j. get_or (contents (sym c.deref-4.ensures.value j)) i [])))

-- the chunks disagree, so none are handed out
pub returns-else-have_behind-clause-codeword : goal.returns-else-have_behind-clause-codeword
returns-else-have_behind-clause-codeword c = tt

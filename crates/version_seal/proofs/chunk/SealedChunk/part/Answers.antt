use Rattle.std.proofs.Common.{◌≡◌, ◌<◌, ◌*◌, ℕ, All, List, length, sym, ap, ◌∙◌, subst}
use Rattle.clay_grid.specs.Shape.{Shape, layer_count}
use Rattle.clay_model.specs.Code.{Codes}
use Rattle.version_seal.specs.Chunk.{subchunks_at}
use Rattle.version_seal.specs.Sealed.{PartOf, IsSealedPartOf}
use Rattle.version_seal.specs.Held.{chunk_in}
use Rattle.version_seal.proofs.Subchunks.{part-long}
use Rattle.version_seal.proofs.chunk.SealedChunk.part.Goals as goal

pub invariant_of-result : goal.invariant_of-result
invariant_of-result c =
    let layers : List ℕ = c.args.layers.now in
    let g = c.self.inside.geometry.value in
    let sealed = c.self.invariant.sealed in
    let within : All (λ layer. layer < layer_count g) layers =
    subst (λ s. All (λ layer. layer < layer_count s.geometry) layers) (sym c.self.view_is) c.requires
    in
    let copied : c.in_ok-bytes.bytes.items ≡ subchunks_at g.width c.self.inside.bytes.items layers =
    c.in_ok-bytes.ensures ∙ (λ i. subchunks_at (c.self.invariant.wide i) (c.deref.ensures.value i) layers)
    in
    let part : Shape → PartOf = λ code.
    record { geometry = code; stamp = c.copy.result; server = c.self.inside.server; layers = c.of-2.result.numbers; bytes = c.in_ok-bytes.bytes.items }
    in
    let kept : IsSealedPartOf (part g) =
    record {
      below = sealed.below;
      word =
          record {
            word = sealed.word.word;
            codes = subst (λ stamp. Codes g stamp.content sealed.word.word) (sym c.copy.ensures) sealed.word.codes;
            here = (λ i. subchunks_at g.width (sealed.word.here i) (c.of-2.ensures i)) ∙ sym copied;
          };
      long = ap length copied ∙ part-long (chunk_in c.self.inside) sealed layers within ∙ sym (ap (λ list. length list * g.width) c.of-2.ensures);
    }
    in
    subst (λ code. IsSealedPartOf (part code)) (ap (λ chunk. chunk.geometry) c.self.view_is ∙ sym (ap (λ chunk. chunk.geometry) c.of.ensures)) kept

pub returns-clause-length : goal.returns-clause-length
returns-clause-length c =
    let layers : List ℕ = c.args.layers.now in
    let g = c.self.inside.geometry.value in
    let within : All (λ layer. layer < layer_count g) layers =
    subst (λ s. All (λ layer. layer < layer_count s.geometry) layers) (sym c.self.view_is) c.requires
    in
    let copied : c.in_ok-bytes.bytes.items ≡ subchunks_at g.width c.self.inside.bytes.items layers =
    c.in_ok-bytes.ensures ∙ (λ i. subchunks_at (c.self.invariant.wide i) (c.deref.ensures.value i) layers)
    in
    ap length copied ∙ part-long (chunk_in c.self.inside) c.self.invariant.sealed layers within ∙ ap (λ s. length layers * s.geometry.width) c.self.view_is

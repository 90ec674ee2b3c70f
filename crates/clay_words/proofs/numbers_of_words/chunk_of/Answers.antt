use Rattle.std.proofs.Common.{◌≡◌, ◌≢◌, ℕ, ◌<◌, ◌^◌, sym, subst, ◌∙◌, arith, decimal, IfNone, Option}
use Rattle.std.proofs.lemmas.Fmt.{decimal_injective}
use Rattle.clay_aloof.specs.Shape.{AloofShape, all_chunks}
use Rattle.clay_aloof.specs.Limits.{IsAloof}
use Rattle.clay_aloof.proofs.Nodes.{chunks_are}
use Rattle.clay_words.proofs.numbers_of_words.chunk_of.Goals as goal

small : (a : AloofShape) (chunk : ℕ) → IsAloof a → chunk < all_chunks a → chunk < 2 ^ 32
small a chunk aloof h = omega (arith, chunks_are a aloof, aloof.grid.chunks, aloof.grid.nodes)

pub returns-in_err-chunk-clause-none : goal.returns-in_err-chunk-clause-none
returns-in_err-chunk-clause-none c =
    let P : Option ℕ → Type 0 = λ answer. IfNone answer ((chunk : ℕ) → chunk < all_chunks c.args.g → c.args.word.now ≢ decimal chunk) in
    subst P (sym c.from_residual.ensures) (λ chunk h e.
    c.in_err-chunk.ensures.none chunk (small c.args.g chunk c.n-count.ensures.geometry h) (c.as_bytes.ensures.value ∙ e))

pub returns-else-chunk-count-clause-none : goal.returns-else-chunk-count-clause-none
returns-else-chunk-count-clause-none c = λ chunk h e.
    let low : chunk < 2 ^ 32 = small c.args.g chunk c.n-count.ensures.geometry h in
    let range = c.in_ok-chunk.ensures.range in
    let is : c.in_ok-chunk.chunk ≡ chunk =
    decimal_injective c.in_ok-chunk.chunk chunk (omega (arith, range)) (omega (arith, low)) (sym c.in_ok-chunk.ensures.found ∙ c.as_bytes.ensures.value ∙ e) in
    omega (arith, is, h, c.n-count.ensures.value, c.if-chunk-count.false)

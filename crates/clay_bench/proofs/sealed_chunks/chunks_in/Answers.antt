use Rattle.std.proofs.Common.{◌≡◌, ℕ, ◌+◌, All, ap, subst, sym, ◌∙◌, arith}
use Rattle.std.proofs.lemmas.List.Elements.{All-push}
use Rattle.std.proofs.lemmas.List.Sorted.{All-permutation}
use Rattle.version_seal.specs.Sealed.{ChunkOf}
use Rattle.version_seal.specs.Sealer.{SealerOf, sealer_at}
use Rattle.chunk_server.specs.Valid.{IsFor}
use Rattle.clay_bench.proofs.sealed_chunks.chunks_in.Goals as goal

pub loop-version-preserved : goal.loop-version-preserved
loop-version-preserved c =
    let P : ChunkOf → Type 0 = IsFor c.args.book.now.home 0 c.args.geometry in
    let before = ap (λ (s : SealerOf). s.next) c.loop-version.invariant.sealer in
    let next : c.loop-version.sealer.next + 1 ≡ c.args.sealer.now.next + (c.loop-version._version + 1) = omega (arith, before) in
    record {
      chunks = subst (All P) (sym c.in_ok-push.ensures.items) (All-push P c.loop-version.chunks.items c.in_ok-chunk_of.field-0 c.loop-version.invariant.chunks c.in_ok-chunk_of.ensures.chunk);
      sealer = c.in_ok-chunk_of.ensures.on ∙ ap (sealer_at c.args.book.now) next;
    }

pub returns : goal.returns
returns c =
    All-permutation (IsFor c.args.book.now.home 0 c.args.geometry) c.loop-version.chunks.items c.reverse.new.self.items c.reverse.ensures.permutation c.loop-version.invariant.chunks

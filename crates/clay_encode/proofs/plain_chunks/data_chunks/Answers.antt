use Rattle.std.proofs.Common.{◌≡◌, ◌+◌, ◌*◌, [], ◌∷◌, ◌++◌, length, get_or, slice_range, ap, ◌∙◌, arith}
use Rattle.std.proofs.lemmas.List.{length_push}
use Rattle.clay_grid.specs.Shape.{chunk_length}
use Rattle.clay_model.specs.Chunks.{contents}
use Rattle.code_laws.proofs.Lists.{contents_push, more_chunks}
use Rattle.clay_encode.proofs.plain_chunks.data_chunks.Goals as goal

pub loop-c-preserved : goal.loop-c-preserved
loop-c-preserved c =
    let before = contents c.loop-c.chunks.items in
    let new = c.in_ok-from_slice.field-0 in
    let now : contents c.push.new.self.items ≡ before ++ new.items ∷ [] =
    ap contents c.in_ok-push.ensures.items ∙ contents_push c.loop-c.chunks.items new in
    record {
      count = ap length now ∙ length_push before new.items ∙ ap (λ n. n + 1) c.loop-c.invariant.count;
      pieces = λ i h. ap (λ l. get_or l i []) now
          ∙ more_chunks (λ k. slice_range c.args.stripe.now (k * (c.alpha.result * c.w.result)) ((k + 1) * (c.alpha.result * c.w.result))) before new.items c.loop-c.c
          c.loop-c.invariant.count c.loop-c.invariant.pieces c.in_ok-from_slice.ensures.items i h;
    }

pub returns-clause-len : goal.returns-clause-len
returns-clause-len c = c.loop-c.invariant.count ∙ omega arith

pub returns-clause-value : goal.returns-clause-value
returns-clause-value c = λ i h.
    let len : c.alpha.result * c.w.result ≡ chunk_length c.args.g = λ k. c.alpha.ensures.value k * c.w.ensures.value k in
    c.loop-c.invariant.pieces i (omega arith) ∙ ap (λ n. slice_range c.args.stripe.now (i * n) ((i + 1) * n)) len

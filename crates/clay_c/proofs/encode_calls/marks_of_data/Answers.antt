use Rattle.std.proofs.Common.{◌+◌, ◌++◌, ◌∷◌, [], nat_lt, cond, sym, ap, ◌∙◌, arith}
use Rattle.std.proofs.lemmas.List.FromFn.{map-range_with_len_more}
use Rattle.clay_c.proofs.Encoded.{bit_cond}
use Rattle.clay_c.proofs.encode_calls.marks_of_data.Goals as goal

pub loop-c-preserved : goal.loop-c-preserved
loop-c-preserved c =
    c.in_ok-push.ensures.items
    ∙ (λ k. c.loop-c.invariant k ++ (c.from.ensures ∙ bit_cond (nat_lt c.loop-c.c c.k-k.result) ∙ ap (λ n. cond (nat_lt c.loop-c.c n) 1 0) c.k-k.ensures.value) k ∷ [])
    ∙ sym (map-range_with_len_more (λ k. cond (nat_lt k c.args.g.data_count) 1 0) 0 c.loop-c.c c.loop-c.c (omega arith))

pub returns-clause-geometry : goal.returns-clause-geometry
returns-clause-geometry c = c.k-k.ensures.geometry

use Rattle.std.proofs.Common.{◌≡◌, ◌++◌, ℕ, ◌<◌, List, [], length, get_or, take, sym, ap, ◌∙◌, arith, Vec, Global}
use Rattle.std.specs.List.{concat}
use Rattle.std.proofs.lemmas.List.{take_more, get_or-map, length-map}
use Rattle.clay_model.specs.Chunks.{contents}
use Rattle.code_laws.proofs.Lists.{concat_push}
use Rattle.clay_decode.proofs.plain_checked.joined.Goals as goal

pub loop-chunk-preserved : goal.loop-chunk-preserved
loop-chunk-preserved c =
    let at : ℕ = c.loop-chunk.chunk in
    let all : List (List ℕ) = contents c.args.chunks.now in
    let v = c.index-chunks-chunk.result in
    let within : at < length c.args.chunks.now = omega arith in
    let items : Vec ℕ Global → List ℕ = λ w. w.items in
    let byte : get_or all at [] ≡ v.items = get_or-map items c.args.chunks.now at v [] within ∙ ap items (sym c.index-chunks-chunk.is) in
    let long : at < length all = omega (arith, length-map c.args.chunks.now items) in
    c.in_ok-extend_from_slice.ensures.items
    ∙ (λ k. c.loop-chunk.invariant k ++ (c.deref.ensures.value ∙ sym byte) k)
    ∙ sym (concat_push (take at all) (get_or all at []))
    ∙ ap concat (sym (take_more all at [] long))

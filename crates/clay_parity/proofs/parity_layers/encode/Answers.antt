use Rattle.std.proofs.Common.{◌++◌, subst, sym, ap, ◌∙◌}
use Rattle.clay_model.specs.Code.{Codes}
use Rattle.clay_model.specs.Chunks.{contents}
use Rattle.clay_parity.proofs.ParityLemmas.{contents_append}
use Rattle.clay_parity.proofs.parity_layers.encode.Goals as goal

pub returns : goal.returns
returns c =
    let front = c.in_ok-chunks.chunks.items in
    let others = c.in_ok-others.others.items in
    subst (Codes c.args.g c.args.stripe.now)
    (sym (ap contents c.in_ok-append.ensures.items ∙ contents_append front others ∙ ap (λ l. l ++ contents others) c.in_ok-chunks.ensures))
    c.in_ok-others.ensures.value

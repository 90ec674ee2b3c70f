use Rattle.std.proofs.Common.{◌≡◌, ◌/◌, ℕ, min, max, ap, subst, ◌∙◌}
use Rattle.std.specs.Int.{div_ceil}
use Rattle.clay_grid.specs.Shape.{layer_count}
use Rattle.clay_aloof.specs.Shape.{grid_of, stripe_bytes}
use Rattle.clay_aloof.specs.Limits.{IsAloof}
use Rattle.share_run.specs.Code.{code_with}
use Rattle.share_run.proofs.CodeLemmas.{is_for_file}
use Rattle.share_run.proofs.code.CodeAsked.width_for.Goals as goal

pub returns : goal.returns
returns c =
    let layers : c.from.result ≡ layer_count (grid_of (code_with c.args.self.now 1)) =
    c.from.ensures ∙ c.alpha.ensures.value ∙ ap layer_count c.grid.ensures.value ∙ ap (λ a. layer_count (grid_of a)) c.requires in
    let stripe : c.from-2.result ≡ stripe_bytes (code_with c.args.self.now 1) = c.from-2.ensures ∙ c.stripe_len.ensures.value ∙ ap stripe_bytes c.requires in
    is_for_file c.args.self.now c.args.size c.min-most.result c.div_ceil-wanted.result c.max.result (subst IsAloof c.requires c.grid.ensures.geometry)
    (c.min-most.ensures ∙ ap (λ (n : ℕ). min 4096 (1048576 / n)) layers) (c.div_ceil-wanted.ensures ∙ ap (λ n. div_ceil c.args.size n) stripe)
    (c.max.ensures ∙ ap (λ n. max n 1) c.min.ensures)

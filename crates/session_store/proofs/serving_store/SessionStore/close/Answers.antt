use Rattle.std.proofs.Common.{rules, ap, ◌∙◌}
use Rattle.session_store.specs.declared.session_parts.Parts.{Parts}
use Rattle.session_store.proofs.Opening.{none_open}
use Rattle.session_store.proofs.serving_store.SessionStore.close.Goals.{then-is_some, else-is_some}
use Rattle.session_store.proofs.serving_store.SessionStore.close.Goals as goal

pub leave-requires : goal.leave-requires
leave-requires c =
    elim c.if-is_some.branch [
      | then-is_some w ↦ ap (λ (p : Parts). p.snapshot) w.parts-is ∙ w.drop_open.ensures.closed
      | else-is_some w ↦ ap (λ (p : Parts). p.snapshot) w.parts-is ∙ none_open c.self.inside.parts.snapshot (search rules)
    ]

use Rattle.std.proofs.Common.{ap, ◌∙◌, is_some}
use Rattle.version_seal.specs.Entry.{BookOf}
use Rattle.session_store.proofs.serving_store.SessionStore.keeps_points.Goals as goal

pub returns : goal.returns
returns c = c.keeps_points.ensures ∙ ap (λ (book : BookOf). is_some book.script) c.self.invariant.book ∙ ap is_some c.self.invariant.free.1

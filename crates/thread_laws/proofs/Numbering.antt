-- A step of a call uses no later number than the call's own.
use Rattle.std.proofs.Common.{◌+◌, List, sym, subst}
use Rattle.store_core.specs.Act.{Act}
use Rattle.store_core.specs.Agreement.{ActorToken}
use Rattle.store_core.specs.Work.{Ended}
use Rattle.thread_laws.specs.MadeSteps.{MadeStep}
use Rattle.thread_laws.specs.Noted.{token_by}
use Rattle.world_laws.specs.Tokens.{IsUsedBelow, IsNext}
use Rattle.world_laws.proofs.Numbered.{token_below}

by_below : (act : Act) (m : MadeStep) (token : ActorToken) → IsUsedBelow (m.number + 1) token → IsUsedBelow (m.number + 1) (token_by act m token)
by_below (Act.AtDirectory step) m token h = token_below token m.number step m.answer h
by_below (Act.AtServer server step) m token h = h
by_below (Act.Finish outcome) m token h = h

-- after the step
pub step_numbered : (ended : List Ended) (m : MadeStep) (token : ActorToken) → IsNext ended m.number token → IsNext ended m.number (token_by m.act m token)
step_numbered ended m token fits =
    record { next = fits.next; used = subst (λ n. IsUsedBelow (n + 1) (token_by m.act m token)) fits.next (by_below m.act m token (subst (λ n. IsUsedBelow (n + 1) token) (sym fits.next) fits.used)) }

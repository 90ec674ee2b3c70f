-- Parts of a run that lead on.
use Rattle.std.proofs.Common.{◌≡◌, List, ◌++◌, sym, ap, subst, append_assoc}
use Rattle.store_map.specs.declared.script.Script.{Script}
use Rattle.store_core.specs.Step.{Shortage}
use Rattle.store_core.specs.Run.{Run}
use Rattle.world_laws.specs.World.{WorldOf}
use Rattle.world_laws.specs.Leads.{IsAt, LeadsWorld, PartsLeadWorlds}

-- a part from where a run has come
pub goes_on : (script : Script) (part : Run → Run) (w after : WorldOf) (shortages more : List Shortage) (run : Run) → LeadsWorld script part w shortages after
    → IsAt script w (shortages ++ more) run → IsAt script after more (part run)
goes_on script part w after shortages more run leads at =
    let same : record { core = run.core; shortages = shortages ++ more } ≡ run = ap (λ (ms : List Shortage). record { core = run.core; shortages = ms }) (sym at.left) in
    subst (λ (r : Run). IsAt script after more (part r)) same (leads run.core more at.stands)

pub parts_lead_worlds : PartsLeadWorlds
parts_lead_worlds script first second w middle after shortages more one other core rest stands =
    goes_on script second middle after more rest (first (record { core = core; shortages = (shortages ++ more) ++ rest })) other
    (subst (λ (ms : List Shortage). IsAt script middle (more ++ rest) (first (record { core = core; shortages = ms }))) (sym (append_assoc shortages more rest)) (one core (more ++ rest) stands))

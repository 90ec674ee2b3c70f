-- Worlds that tokens reach.
use Rattle.std.proofs.Common.{List, [], ◌∷◌, ◌++◌, sym, subst, append_assoc, append-nil}
use Rattle.store_map.specs.declared.actor.Token.{Token}
use Rattle.store_map.specs.declared.script.Script.{Script}
use Rattle.store_core.specs.Schedule.{step_core}
use Rattle.store_core.specs.Step.{Shortage}
use Rattle.world_laws.specs.World.{WorldOf}
use Rattle.world_laws.specs.FirstWorld.{IsFirstWorld}
use Rattle.world_laws.specs.RunLaws.{Reaches}
use Rattle.world_laws.proofs.Runs.{runs_reach}
use Rattle.world_laws.specs.Goes.{IsReachedBy, IsReached, IsReachedAfter, Leads, GoesBy, WorldsGoOn}

module _ (script : Script) where
  first : (w : WorldOf) → IsFirstWorld script w → IsReachedBy script [] w
  first w is = record { shortages = []; reaches = (runs_reach script).first w is }

  step : (t : Token) (w after : WorldOf) → Leads script (step_core script t) w after → GoesBy script (t ∷ []) w after
  step t w after leads tokens shortages reaches =
      record { more = leads.shortages; reaches = (runs_reach script).next tokens t w after shortages leads.shortages reaches leads.leads }

  none : (w : WorldOf) → GoesBy script [] w w
  none w tokens shortages reaches =
      record {
        more = [];
        reaches =
            subst (λ (l : List Token). Reaches script l (shortages ++ []) w) (sym (append-nil tokens))
            (subst (λ (l : List Shortage). Reaches script tokens l w) (sym (append-nil shortages)) reaches);
      }

  then : (tokens more : List Token) (w middle after : WorldOf) → GoesBy script tokens w middle → GoesBy script more middle after → GoesBy script (tokens ++ more) w after
  then tokens more w middle after one two before shortages reaches =
      let now : IsReachedAfter script (before ++ tokens) shortages middle = one before shortages reaches in
      let end : IsReachedAfter script ((before ++ tokens) ++ more) (shortages ++ now.more) after = two (before ++ tokens) (shortages ++ now.more) now.reaches in
      record {
        more = now.more ++ end.more;
        reaches =
            subst (λ (l : List Token). Reaches script l (shortages ++ (now.more ++ end.more)) after) (append_assoc before tokens more)
            (subst (λ (l : List Shortage). Reaches script ((before ++ tokens) ++ more) l after) (append_assoc shortages now.more end.more) end.reaches);
      }

  reached : (tokens : List Token) (w after : WorldOf) → GoesBy script tokens w after → IsReached script w → IsReached script after
  reached tokens w after goes is =
      let now : IsReachedAfter script (is.tokens ++ tokens) is.by.shortages after = goes is.tokens is.by.shortages is.by.reaches in
      record { tokens = is.tokens ++ tokens; by = record { shortages = is.by.shortages ++ now.more; reaches = now.reaches } }

  pub worlds_go_on : WorldsGoOn script
  worlds_go_on = record { first = first; step = step; none = none; then = then; reached = reached }

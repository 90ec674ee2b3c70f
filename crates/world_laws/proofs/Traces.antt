-- Worlds that tokens reach, with their traces.
use Rattle.std.proofs.Common.{◌≡◌, List, [], ◌∷◌, ◌++◌, refl, sym, ap, subst, ◌∙◌, append_assoc, append-nil}
use Rattle.store_map.specs.declared.actor.Token.{Token}
use Rattle.store_map.specs.declared.script.Script.{Script}
use Rattle.store_core.specs.Run.{Run}
use Rattle.store_core.specs.Schedule.{run_tokens}
use Rattle.store_core.specs.Step.{Shortage}
use Rattle.history_laws.specs.Trace.{Made}
use Rattle.history_laws.specs.Steps.{first_run, run_trace}
use Rattle.world_laws.specs.World.{WorldOf}
use Rattle.world_laws.specs.FirstWorld.{IsFirstWorld}
use Rattle.world_laws.specs.Leads.{IsAt}
use Rattle.world_laws.specs.Goes.{IsReached}
use Rattle.world_laws.proofs.Parts.{goes_on}
use Rattle.world_laws.proofs.Runs.{runs_reach}
use Rattle.world_laws.specs.Telling.{tokens_made, LeadsTelling}
use Rattle.world_laws.specs.Traced.{IsTracedBy, IsTraced, IsTracedAfter, GoesTelling, EndsTraced, TracesGoOn}
use Rattle.world_laws.proofs.Lists.{run_append, made_append}
use Rattle.world_laws.proofs.TraceParts.{told_at}

module _ (script : Script) where
  -- the run of some tokens with the shortages of these and of what comes after them, and then the rest
  abbrev pub run_with : List Token → List Shortage → List Shortage → List Shortage → Run
  run_with tokens shortages more rest = run_tokens script tokens (first_run script ((shortages ++ more) ++ rest))

  -- where it has come
  pub reached_at : (before : Run → Run) (w : WorldOf) (shortages more rest : List Shortage) → ((others : List Shortage) → IsAt script w others (before (first_run script (shortages ++ others))))
      → IsAt script w (more ++ rest) (before (first_run script ((shortages ++ more) ++ rest)))
  reached_at before w shortages more rest reaches =
      subst (λ (ms : List Shortage). IsAt script w (more ++ rest) (before (first_run script ms))) (sym (append_assoc shortages more rest)) (reaches (more ++ rest))

  -- a trace doesn't depend on later shortages
  pub traced_with : (tokens : List Token) (w : WorldOf) (shortages more rest : List Shortage) (made : List Made) → IsTracedBy script tokens shortages w made
      → run_trace script ((shortages ++ more) ++ rest) tokens ≡ made
  traced_with tokens w shortages more rest made by = ap (λ (ms : List Shortage). run_trace script ms tokens) (append_assoc shortages more rest) ∙ by.traced (more ++ rest)

  first : (w : WorldOf) → IsFirstWorld script w → IsTracedBy script [] [] w []
  first w is = record { reaches = (runs_reach script).first w is; traced = λ more. refl }

  step : (tokens : List Token) (w after : WorldOf) (made : List Made) → LeadsTelling script tokens w after made → GoesTelling script tokens w after made
  step tokens w after made leads sofar shortages before by =
      let at : (rest : List Shortage) → IsAt script w (leads.shortages ++ rest) (run_with sofar shortages leads.shortages rest) =
      λ rest. reached_at (run_tokens script sofar) w shortages leads.shortages rest by.reaches in
      record {
        more = leads.shortages;
        by =
            record {
              reaches = λ rest.
                  subst (λ (r : Run). IsAt script after rest r) (sym (run_append script sofar tokens (first_run script ((shortages ++ leads.shortages) ++ rest))))
                  (goes_on script (run_tokens script tokens) w after leads.shortages rest (run_with sofar shortages leads.shortages rest) leads.leads (at rest));
              traced = λ rest.
                  let old : run_trace script ((shortages ++ leads.shortages) ++ rest) sofar ≡ before = traced_with sofar w shortages leads.shortages rest before by in
                  let new : tokens_made script tokens (run_with sofar shortages leads.shortages rest) ≡ made =
                  told_at script (tokens_made script tokens) w leads.shortages rest made (run_with sofar shortages leads.shortages rest) leads.tells (at rest) in
                  made_append script sofar tokens (first_run script ((shortages ++ leads.shortages) ++ rest)) ∙ (λ k. old k ++ new k);
            };
      }

  none : (w : WorldOf) → GoesTelling script [] w w []
  none w tokens shortages before by =
      record {
        more = [];
        by =
            subst (λ (l : List Token). IsTracedBy script l (shortages ++ []) w (before ++ [])) (sym (append-nil tokens))
            (subst (λ (l : List Shortage). IsTracedBy script tokens l w (before ++ [])) (sym (append-nil shortages))
            (subst (λ (l : List Made). IsTracedBy script tokens shortages w l) (sym (append-nil before)) by));
      }

  then : (tokens more : List Token) (w middle after : WorldOf) (made later : List Made) → GoesTelling script tokens w middle made → GoesTelling script more middle after later
      → GoesTelling script (tokens ++ more) w after (made ++ later)
  then tokens more w middle after made later one two sofar shortages before by =
      let now : IsTracedAfter script (sofar ++ tokens) shortages middle (before ++ made) = one sofar shortages before by in
      let end : IsTracedAfter script ((sofar ++ tokens) ++ more) (shortages ++ now.more) after ((before ++ made) ++ later) =
      two (sofar ++ tokens) (shortages ++ now.more) (before ++ made) now.by in
      record {
        more = now.more ++ end.more;
        by =
            subst (λ (l : List Token). IsTracedBy script l (shortages ++ (now.more ++ end.more)) after (before ++ (made ++ later))) (append_assoc sofar tokens more)
            (subst (λ (l : List Shortage). IsTracedBy script ((sofar ++ tokens) ++ more) l after (before ++ (made ++ later))) (append_assoc shortages now.more end.more)
            (subst (λ (l : List Made). IsTracedBy script ((sofar ++ tokens) ++ more) ((shortages ++ now.more) ++ end.more) after l) (append_assoc before made later) end.by));
      }

  traced : (tokens : List Token) (w after : WorldOf) (made : List Made) → GoesTelling script tokens w after made → IsTraced script w → IsTraced script after
  traced tokens w after made goes is =
      let now : IsTracedAfter script (is.tokens ++ tokens) is.shortages after (is.made ++ made) = goes is.tokens is.shortages is.made is.by in
      record { tokens = is.tokens ++ tokens; shortages = is.shortages ++ now.more; made = is.made ++ made; by = now.by }

  reached : (w : WorldOf) → IsTraced script w → IsReached script w
  reached w is = record { tokens = is.tokens; by = record { shortages = is.shortages; reaches = is.by.reaches } }

  ends : (tokens : List Token) (shortages : List Shortage) (w : WorldOf) (made : List Made) → IsTracedBy script tokens shortages w made → EndsTraced script tokens shortages w made
  ends tokens shortages w made by =
      record {
        core = (runs_reach script).core tokens w shortages by.reaches;
        trace = ap (λ (ms : List Shortage). run_trace script ms tokens) (sym (append-nil shortages)) ∙ by.traced [];
      }

  pub traces_go_on : TracesGoOn script
  traces_go_on = record { first = first; step = step; none = none; then = then; traced = traced; reached = reached; ends = ends }

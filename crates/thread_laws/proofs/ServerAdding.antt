-- A step more at a server.
use Rattle.std.proofs.Common.{◌≡◌, ℕ, true, List, [], ◌∷◌, ◌++◌, sym, ap, subst, ◌∙◌}
use Rattle.std.proofs.lemmas.List.Elements.{All-push}
use Rattle.std.specs.Prelude.{All}
use Rattle.store_core.specs.ActPlace.{ActPlace}
use Rattle.store_core.specs.Server.{new_server}
use Rattle.thread_laws.specs.MadeSteps.{MadeStep, is_at, MomentsRise}
use Rattle.thread_laws.specs.AtPlaces.{after_all, AllCome, server_next, ServerAnswers}
use Rattle.thread_laws.specs.Numbers.{IsTurnOf}
use Rattle.thread_laws.specs.Entries.{steps_in}
use Rattle.thread_laws.specs.AtServer.{ServersStandOn}
use Rattle.thread_laws.proofs.Adding.{steps_more, after_more, come_more, rises_on}

pub servers_stand_on : ServersStandOn
servers_stand_on of number s log entry h may =
    let steps : List MadeStep = steps_in log in
    let m : MadeStep = entry.1 in
    let more : steps_in (log ++ entry ∷ []) ≡ steps ++ m ∷ [] = steps_more log entry in
    record {
      ends = ap (server_next m) h.ends ∙ (sym (after_more server_next ServerAnswers steps new_server m) ∙ ap (λ l. after_all server_next l new_server) (sym more));
      answers = subst (λ l. AllCome server_next ServerAnswers l new_server) (sym more) (come_more server_next ServerAnswers steps new_server m h.answers (subst (ServerAnswers m) h.ends may.answers));
      here = subst (λ l. All (λ (x : MadeStep). is_at (ActPlace.Server number) x ≡ true) l) (sym more) (All-push (λ (x : MadeStep). is_at (ActPlace.Server number) x ≡ true) steps m h.here may.here);
      rise = subst MomentsRise (sym more) (rises_on steps m h.rise may.above);
      turns = All-push (λ (e : ℕ × MadeStep). IsTurnOf of e.0 e.1.actor) log entry h.turns may.turn;
    }

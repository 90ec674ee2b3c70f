-- A ticket keeps its actor, and the directory's pass is of its call.
use Rattle.std.proofs.Common.{◌≡◌, ℕ, Bool, true, false, cond, Option, IfSome, refl, sym, ap, subst}
use Rattle.store_core.specs.Note.{Note}
use Rattle.store_core.specs.Act.{Act}
use Rattle.store_core.specs.Directory.{Pass, Directory}
use Rattle.store_core.specs.Lookups.{pass_of}
use Rattle.store_core.specs.Agreement.{ActorToken, Agrees}
use Rattle.store_core.specs.Tokens.{actor_of}
use Rattle.store_core.specs.Server.{Server}
use Rattle.call_steps.specs.TokenAfter.{IfInCall}
use Rattle.call_steps.specs.CallOf.{CallOf, act_of}
use Rattle.call_steps.specs.Steps.{at_directory_by, at_server_by, coded}
use Rattle.call_steps.proofs.Tickets.{token_stays}
use Rattle.call_steps.specs.TokenLaws.{TokensStay, PassesAreOfCalls}

-- ---- a ticket keeps its actor, by the act of its call
directory_stays : (c : CallOf) (d : Directory) (short due : Bool) (act : Act) → actor_of (at_directory_by act short due c d).1.token ≡ actor_of c.token
directory_stays c d short due (Act.AtDirectory step) = token_stays c.token c.number step _
directory_stays c d short due (Act.AtServer server step) = refl
directory_stays c d short due (Act.Finish outcome) = refl

server_stays : (c : CallOf) (s : Server) (short due : Bool) (act : Act) → (at_server_by act short due c s).1.token ≡ c.token
server_stays c s short due (Act.AtServer server step) = refl
server_stays c s short due (Act.AtDirectory step) = refl
server_stays c s short due (Act.Finish outcome) = refl

coded_stays : (c : CallOf) (coding due : Bool) → (cond due (coded coding c) c).token ≡ c.token
coded_stays c coding true = refl
coded_stays c coding false = refl

pub tokens_stay : TokensStay
tokens_stay =
    record {
      token = token_stays;
      directory = λ c d short due. directory_stays c d short due (act_of c);
      server = λ c s short due. server_stays c s short due (act_of c);
      coded = λ c coding. coded_stays c coding c.due;
    }

-- ---- the directory's pass is of its call
by_token : (d : Directory) (note : Note) (token : ActorToken) → Agrees d token → IfInCall token (λ held. held.pass.note ≡ note)
    → IfSome (pass_of (actor_of token) d) (λ pass. pass.note.kind ≡ note.kind)
by_token d note (ActorToken.Seated seat) agrees its = subst (λ (found : Option Pass). IfSome found (λ pass. pass.note.kind ≡ note.kind)) (sym agrees.no_pass) tt
by_token d note (ActorToken.InCall held) agrees its =
    subst (λ (found : Option Pass). IfSome found (λ pass. pass.note.kind ≡ note.kind)) (sym agrees.is_pass) (ap (λ (n : Note). n.kind) its)

its_note : (token : ActorToken) (note : Note) (number : ℕ) → IfInCall token (λ held. (held.pass.note ≡ note) × (held.pass.number ≡ number)) → IfInCall token (λ held. held.pass.note ≡ note)
its_note (ActorToken.Seated seat) note number h = tt
its_note (ActorToken.InCall held) note number h = h.0

pub passes_are_of_calls : PassesAreOfCalls
passes_are_of_calls d c agrees holds = by_token d c.job.note c.token agrees (its_note c.token c.job.note c.number holds.its)

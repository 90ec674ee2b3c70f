-- A step more at the directory.
use Rattle.std.proofs.Common.{◌≡◌, ℕ, Bool, true, false, cond, List, [], ◌∷◌, ◌++◌, filter, refl, sym, ap, subst, ◌∙◌, IfSome, append_assoc}
use Rattle.std.proofs.lemmas.List.{append-nil}
use Rattle.std.proofs.lemmas.List.Elements.{All-push, filter-append}
use Rattle.std.specs.Prelude.{All}
use Rattle.store_map.specs.declared.actor.Actor.{Actor}
use Rattle.store_core.specs.Act.{Act}
use Rattle.store_core.specs.ActPlace.{ActPlace}
use Rattle.store_core.specs.Agreement.{ActorToken, Agrees}
use Rattle.store_core.specs.Tokens.{actor_of}
use Rattle.store_core.specs.Directory.{Directory, new_directory}
use Rattle.store_core.specs.Lookups.{same_actor}
use Rattle.store_core.specs.History.{call_of}
use Rattle.run_laws.proofs.Passes.{same_is}
use Rattle.run_laws.proofs.Beside.{other_way}
use Rattle.run_laws.proofs.BesideSteps.{others_agree}
use Rattle.run_laws.specs.Contents.{HasBytes}
use Rattle.thread_laws.specs.MadeSteps.{MadeStep, acts_at, is_at, is_by, MomentsRise}
use Rattle.thread_laws.specs.AtPlaces.{after_all, AllCome, directory_act, directory_next, DirectoryAnswers}
use Rattle.version_seal.specs.Entry.{BookOf, StampOf}
use Rattle.thread_laws.specs.Numbers.{IsTurnOf}
use Rattle.thread_laws.specs.Noted.{Noted, made_in, stamps_in, token_by, tokens_after, token_in, IsCaller}
use Rattle.world_laws.specs.Tokens.{first_token}
use Rattle.thread_laws.specs.AtDirectory.{DirectoriesStandOn}
use Rattle.thread_laws.proofs.Adding.{after_more, come_more, rises_on}
use Rattle.thread_laws.proofs.PlaceOwn.{steps_more}
use Rattle.thread_laws.proofs.Tokens.{token_stays}

pub stamps_more : (log : List (ℕ × Noted)) (e : ℕ × Noted) → stamps_in (log ++ e ∷ []) ≡ stamps_in log ++ e.1.drawn
stamps_more [] e = append-nil e.1.drawn
stamps_more (x ∷ log) e = ap (λ (l : List StampOf). x.1.drawn ++ l) (stamps_more log e) ∙ sym (append_assoc x.1.drawn (stamps_in log) e.1.drawn)

pub tokens_more : (steps : List MadeStep) (m : MadeStep) (token : ActorToken) → tokens_after (steps ++ m ∷ []) token ≡ token_by m.act m (tokens_after steps token)
tokens_more [] m token = refl
tokens_more (x ∷ steps) m token = tokens_more steps m (token_by x.act x token)

token_by_stays : (act : Act) (m : MadeStep) (token : ActorToken) → actor_of (token_by act m token) ≡ actor_of token
token_by_stays (Act.AtDirectory step) m token = token_stays token m.number step m.answer
token_by_stays (Act.AtServer server step) m token = refl
token_by_stays (Act.Finish outcome) m token = refl

-- whatever an actor's steps are, its ticket is its own
pub token_of_actor : (steps : List MadeStep) (token : ActorToken) → actor_of (tokens_after steps token) ≡ actor_of token
token_of_actor [] token = refl
token_of_actor (m ∷ steps) token = token_of_actor steps (token_by m.act m token) ∙ token_by_stays m.act m token

-- a step of its own leads its ticket on, another actor's leaves it
own_token : (who : Actor) (steps : List MadeStep) (m : MadeStep) → is_by who m ≡ true → token_in who (steps ++ m ∷ []) ≡ token_by m.act m (token_in who steps)
own_token who steps m own =
    ap (λ (l : List MadeStep). tokens_after l (first_token who)) (filter-append (is_by who) steps (m ∷ []) ∙ ap (λ b. filter (is_by who) steps ++ cond {A = List MadeStep} b (m ∷ []) []) own)
    ∙ tokens_more (filter (is_by who) steps) m (first_token who)

others_token : (who : Actor) (steps : List MadeStep) (m : MadeStep) → is_by who m ≡ false → token_in who (steps ++ m ∷ []) ≡ token_in who steps
others_token who steps m other =
    ap (λ (l : List MadeStep). tokens_after l (first_token who))
    (filter-append (is_by who) steps (m ∷ []) ∙ (ap (λ b. filter (is_by who) steps ++ cond {A = List MadeStep} b (m ∷ []) []) other ∙ append-nil (filter (is_by who) steps)))

-- agreement with another actor's ticket stays
others_stay : (m : MadeStep) (act : Act) (d : Directory) (token : ActorToken) → acts_at ActPlace.Directory act ≡ true → same_actor m.actor (actor_of token) ≡ false → Agrees d token → Agrees (directory_act m act d).0 token
others_stay m (Act.AtDirectory step) d token here apart agrees = others_agree m.shortage.step m.actor m.number step d token apart agrees
others_stay m (Act.AtServer server step) d token here apart agrees = agrees
others_stay m (Act.Finish outcome) d token here apart agrees = agrees

module _ (steps : List MadeStep) (m : MadeStep) (core after : Directory) (here : is_at ActPlace.Directory m ≡ true) (leads : after ≡ directory_next m core)
    (agree : (who : Actor) → IsCaller who → Agrees core (token_in who steps)) (own : IsCaller m.actor → Agrees after (token_by m.act m (token_in m.actor steps))) where
  by_actor : (who : Actor) → IsCaller who → (b : Bool) → is_by who m ≡ b → Agrees after (token_in who (steps ++ m ∷ []))
  by_actor who caller true mine =
      let one : m.actor ≡ who = sym (same_is who m.actor mine) in
      subst (Agrees after) (sym (own_token who steps m mine))
      (subst (λ a. Agrees after (token_by m.act m (token_in a steps))) one (own (subst IsCaller (sym one) caller)))
  by_actor who caller false other =
      let apart : same_actor m.actor (actor_of (token_in who steps)) ≡ false = ap (same_actor m.actor) (token_of_actor (filter (is_by who) steps) (first_token who)) ∙ other_way who m.actor other in
      subst (Agrees after) (sym (others_token who steps m other)) (subst (λ x. Agrees x (token_in who steps)) (sym leads) (others_stay m m.act core (token_in who steps) here apart (agree who caller)))

  pub all_agree : (who : Actor) → IsCaller who → Agrees after (token_in who (steps ++ m ∷ []))
  all_agree who caller = by_actor who caller (is_by who m) refl

pub directories_stand_on : DirectoriesStandOn
directories_stand_on of max d now log entry h may =
    let steps : List MadeStep = made_in log in
    let m : MadeStep = entry.1.made in
    let more : made_in (log ++ entry ∷ []) ≡ steps ++ m ∷ [] = steps_more (λ (n : Noted). n.made) log entry in
    let first : BookOf → Directory = λ book. new_directory book.geometry max in
    record {
      ends =
          may.leads ∙ (ap (directory_next m) h.ends ∙ (sym (after_more directory_next DirectoryAnswers steps (first d.book) m)
          ∙ (λ i. after_all directory_next (sym more i) (first (sym may.book i)))));
      answers =
          subst (λ (b : BookOf). AllCome directory_next DirectoryAnswers (made_in (log ++ entry ∷ [])) (first b)) (sym may.book)
          (subst (λ l. AllCome directory_next DirectoryAnswers l (first d.book)) (sym more)
          (come_more directory_next DirectoryAnswers steps (first d.book) m h.answers (subst (DirectoryAnswers m) h.ends may.answers)));
      here = subst (λ l. All (λ (x : MadeStep). is_at ActPlace.Directory x ≡ true) l) (sym more) (All-push (λ (x : MadeStep). is_at ActPlace.Directory x ≡ true) steps m h.here may.here);
      rise = subst MomentsRise (sym more) (rises_on steps m h.rise may.above);
      turns = All-push (λ (e : ℕ × Noted). IsTurnOf of e.0 e.1.made.actor) log entry h.turns may.turn;
      stamps = may.stamps ∙ (ap (λ (l : List StampOf). l ++ entry.1.drawn) h.stamps ∙ sym (stamps_more log entry));
      agree = λ who caller. subst (λ l. Agrees now.core (token_in who l)) (sym more) (all_agree steps m d.core now.core may.here may.leads h.agree may.agrees who caller);
      bytes = subst (λ (b : BookOf). IfSome b.script (λ script. HasBytes (call_of script) now.core)) (sym may.book) may.bytes;
    }

-- The directory's agreement with an actor and with all others goes on with the actor's steps.
use Rattle.std.proofs.Common.{◌≡◌, ◌⊎◌, ℕ, Bool, true, false, IsTrue, Some, refl, sym, ap, subst, ◌∙◌, inl, inr}
use Rattle.std.proofs.lemmas.Bool.{false≢true}
use Rattle.store_map.specs.declared.actor.Actor.{Actor}
use Rattle.store_map.specs.declared.actor.Actor.TheVariants as actor
use Rattle.store_map.specs.declared.call.Call.{Call}
use Rattle.store_map.specs.declared.call.Call.TheVariants as call
use Rattle.store_core.specs.Told.{Told}
use Rattle.store_core.specs.Note.{Kind, note_of}
use Rattle.store_core.specs.Act.{DirectoryStep}
use Rattle.store_core.specs.AtDirectory.{at_directory}
use Rattle.store_core.specs.Directory.{Directory}
use Rattle.store_core.specs.Lookups.{same_actor}
use Rattle.store_core.specs.Agreement.{Agrees}
use Rattle.store_core.specs.Tokens.{actor_of}
use Rattle.run_laws.proofs.OwnSteps.{agreement_goes_on}
use Rattle.version_seal.specs.Entry.{BookOf, is_writing}
use Rattle.stripe_stamps.specs.Sealed.{Sealed}
use Rattle.call_steps.specs.TokenAfter.{token_after}
use Rattle.call_steps.proofs.Tokens.{tokens_stay}
use Rattle.dir_walks.specs.Callers.{CallerOf, IsAt, IsRight, OthersAgree, Steps}
use Rattle.dir_walks.specs.After.{writes}
use Rattle.dir_walks.specs.Stores.{StoreOf, IsStore}

-- ---- calls that write
pub to_write : (c : Call) → writes c ≡ true → ((note_of c).kind ≡ Kind.Put) ⊎ ((note_of c).kind ≡ Kind.Write)
to_write (call.Put name content) h = inl refl
to_write (call.Write name offset content) h = inr refl
to_write (call.Get name) h = absurd (false≢true h)
to_write (call.ReadAt name offset count) h = absurd (false≢true h)
to_write (call.Stat name) h = absurd (false≢true h)
to_write (call.Delete name) h = absurd (false≢true h)

pub writing : (c : Call) → writes c ≡ true → IsTrue (is_writing (Some c))
writing (call.Put name content) h = refl
writing (call.Write name offset content) h = refl
writing (call.Get name) h = absurd (false≢true h)
writing (call.ReadAt name offset count) h = absurd (false≢true h)
writing (call.Stat name) h = absurd (false≢true h)
writing (call.Delete name) h = absurd (false≢true h)

-- ---- a step that is made
-- every other actor's ticket
pub others_agree : (short : Bool) (who : Actor) (number : ℕ) (step : DirectoryStep) (d core : Directory) (told : Told) → (core, told) ≡ at_directory short who number step d → OthersAgree who d core
others_agree short who number step d core told made = λ token apart agrees.
    subst (λ (r : Directory × Told). Agrees r.0 token) (sym made) (agreement_goes_on.others short who number step d token apart agrees)

module _ (s after : Sealed) (c now : CallerOf) (short : Bool) (number : ℕ) (step : DirectoryStep) (told : Told) where
  pub steps : IsRight s c → (after.core, told) ≡ at_directory short (actor_of c.token) number step s.core → now.token ≡ token_after c.token number step told → Agrees after.core now.token → after.book ≡ s.book
      → now.who ≡ c.who → IsAt s.book now now.stage now.token → Steps s c after now
  steps right made is agrees book same at =
      record {
        right =
            record {
              agrees = agrees;
              its = ap actor_of is ∙ tokens_stay.token c.token number step told ∙ right.its ∙ sym same;
              at = subst (λ (b : BookOf). IsAt b now now.stage now.token) (sym book) at;
            };
        same = same;
        book = book;
        others =
            subst (λ (who : Actor). OthersAgree who s.core after.core) right.its (others_agree short (actor_of c.token) number step s.core after.core told made);
      }

-- ---- steps of others
pub stays_right : (s after : Sealed) (who : Actor) (c : CallerOf) → OthersAgree who s.core after.core → after.book ≡ s.book → same_actor who c.who ≡ false → IsRight s c → IsRight after c
stays_right s after who c others book apart right =
    record {
      agrees = others c.token (ap (same_actor who) right.its ∙ apart) right.agrees;
      its = right.its;
      at = subst (λ (b : BookOf). IsAt b c c.stage c.token) (sym book) right.at;
    }

-- a step of another actor
pub kept : (store : StoreOf) (after : Sealed) (who : Actor) → same_actor who (actor.Client 0) ≡ false → IsStore store
    → OthersAgree who store.sealed.core after.core → after.book ≡ store.sealed.book → IsStore (record { book = store.book; sealed = after; first = store.first })
kept store after who first is others book =
    record {
      same_book = is.same_book ∙ sym book;
      free = is.free;
      first = stays_right store.sealed after who store.first others book (ap (same_actor who) is.is_first ∙ first) is.first;
      is_first = is.is_first;
    }

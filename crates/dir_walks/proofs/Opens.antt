-- A store as it is opened.
use Rattle.std.proofs.Common.{◌≡◌, ℕ, ◌+◌, List, [], ◌∷◌, ◌++◌, length, get_or, None, refl, sym, ap, subst, ◌∙◌, arith, length-append}
use Rattle.store_map.specs.declared.actor.Actor.TheVariants as actor
use Rattle.store_core.specs.Directory.{Directory}
use Rattle.store_core.specs.Agreement.{Seat, ActorToken, AgreesWithSeat}
use Rattle.run_laws.proofs.OwnSteps.{agreement_goes_on}
use Rattle.version_seal.specs.Entry.{BookOf}
use Rattle.stripe_stamps.specs.Sealed.{Sealed, new_sealed}
use Rattle.stripe_dir.specs.Seats.{client_seat, first_seats}
use Rattle.dir_walks.specs.Callers.{CallerOf}
use Rattle.dir_walks.specs.Opened.{new_caller}
use Rattle.dir_walks.specs.Stores.{IsStore}

last_one : (none : List Seat) (a x : Seat) → a ∷ [] ≡ none ++ x ∷ [] → x ≡ a
last_one [] a x e = sym (ap (λ (l : List Seat). get_or l 0 a) e)
last_one (z ∷ zs) a x e =
    let most : length (zs ++ x ∷ []) ≡ length zs + 1 = length-append zs (x ∷ []) in
    absurd (omega (arith, ap length e, most))

module _ (book its_book : BookOf) (sealed : Sealed) (all none : List Seat) (first : Seat) (caller : CallerOf) (max : ℕ) where
  pub opens : book.script ≡ None → its_book ≡ book → sealed ≡ new_sealed its_book max → all ≡ first_seats 1 0 → all ≡ none ++ first ∷ [] → caller ≡ new_caller (actor.Client 0) (ActorToken.Seated first)
      → IsStore (record { book = book; sealed = sealed; first = caller })
  opens free its is are last made =
      subst (λ (c : CallerOf). IsStore (record { book = book; sealed = sealed; first = c })) (sym made)
      (record {
        same_book = sym (ap (λ (s : Sealed). s.book) is ∙ its);
        free = free;
        first = record { agrees = subst (AgreesWithSeat sealed.core) (sym seat) agrees; its = ap (λ (s : Seat). s.actor) seat; at = omega (arith, ap (λ (s : Seat). s.unused) seat) };
        is_first = refl;
      })
    where
      seat : first ≡ client_seat 0
      seat = last_one none (client_seat 0) first (sym are ∙ last)

      agrees : AgreesWithSeat sealed.core (client_seat 0)
      agrees = subst (λ (d : Directory). AgreesWithSeat d (client_seat 0)) (sym (ap (λ (s : Sealed). s.core) is)) (agreement_goes_on.first its_book.geometry max (actor.Client 0))

-- One element of a list, and what holds of each after it is another.
use Rattle.std.proofs.Common.{◌≡◌, ℕ, zero, suc, ◌<◌, Bool, List, [], ◌∷◌, length, map, get_or, set, slice_get, length-set, Some, sym, ap, subst, ◌∙◌, arith}
use Rattle.std.proofs.lemmas.Option.{same_Some, none-some}
use Rattle.store_core.specs.Act.{Act, ServerStep}
use Rattle.store_core.specs.Directory.{Directory}
use Rattle.store_core.specs.Server.{Server, at_server}
use Rattle.store_core.specs.Step.{at_places, at_server_there}
use Rattle.store_core.specs.Told.{Told}
use Rattle.store_map.specs.declared.actor.Actor.{Actor}
use Rattle.dir_parts.proofs.Entries.{slice_get-map, map-set}
use Rattle.version_seal.specs.Entry.{BookOf}
use Rattle.chunk_server.specs.Core.{core_of}
use Rattle.chunk_server.specs.State.{ServerState}
use Rattle.session_store.specs.Places.{AreServers}

-- what holds of each element with its place holds after a change that keeps it there
pub each_set : {X : Type 0} (P : ℕ → X → Type 0) (xs : List X) (i : ℕ) (x : X) → ((k : ℕ) (t : X) → slice_get xs k ≡ Some t → P k t) → P i x
    → (k : ℕ) (t : X) → slice_get (set xs i x) k ≡ Some t → P k t
each_set P [] i x all here k t e = absurd (none-some t e)
each_set P (y ∷ ys) zero x all here zero t e = subst (P zero) (same_Some x t e) here
each_set P (y ∷ ys) zero x all here (suc k) t e = all (suc k) t e
each_set P (y ∷ ys) (suc i) x all here zero t e = all zero t e
each_set P (y ∷ ys) (suc i) x all here (suc k) t e = each_set (λ (n : ℕ). P (suc n)) ys i x (λ n u f. all (suc n) u f) here k t e

-- the element at a place
pub got : {X : Type 0} (xs : List X) (i : ℕ) (x : X) → i < length xs → x ≡ get_or xs i x → slice_get xs i ≡ Some x
got [] i x less read = absurd (omega arith)
got (y ∷ ys) zero x less read = ap (λ (z : _). Some z) (sym read)
got (y ∷ ys) (suc i) x less read = got ys i x (omega arith) read

-- servers of which one is the same server of the same book
pub servers_set : (book : BookOf) (servers : List ServerState) (i : ℕ) (s : ServerState) → AreServers book servers → s.number ≡ i → s.book ≡ book → AreServers book (set servers i s)
servers_set book servers i s are number its =
    record {
      count = length-set servers i s ∙ are.count;
      each = each_set (λ (k : ℕ) (t : ServerState). (t.number ≡ k) × (t.book ≡ book)) servers i s are.each (number, its);
    }

-- a step at one of them, as the definitions see it
module _ (d : Directory) (servers : List ServerState) (i : ℕ) (s now : ServerState) (less : i < length servers) (read : s ≡ get_or servers i s) where
  pub step_at : (short : Bool) (who : Actor) (number : ℕ) (step : ServerStep) (answer : Told) → (core_of now, answer) ≡ at_server short step (core_of s)
      → at_places short who number (Act.AtServer i step) (record { directory = d; servers = map core_of servers })
      ≡ (record { directory = d; servers = map core_of (set servers i now) }, answer)
  step_at short who number step answer made =
      let there : slice_get (map core_of servers) i ≡ Some (core_of s) = slice_get-map core_of servers i s (got servers i s less read) in
      let first : core_of now ≡ (at_server short step (core_of s)).0 = ap (λ (p : Server × Told). p.0) made in
      let told : answer ≡ (at_server short step (core_of s)).1 = ap (λ (p : Server × Told). p.1) made in
      let changed = map-set core_of (λ _. (at_server short step (core_of s)).0) servers i s now less read first in
      ap (at_server_there short i step (record { directory = d; servers = map core_of servers })) there
      ∙ (λ k. (record { directory = d; servers = sym changed k }, sym told k))

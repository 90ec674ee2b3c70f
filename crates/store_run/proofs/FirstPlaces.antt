-- Places before their first step stand for no history, and the turns at their locks are new.
use Rattle.std.proofs.Common.{◌≡◌, ℕ, [], slice_get, Option, IfSome, Vec, vec_len, Result, Ok, Err, IfOk, sym, ap, subst, ◌∙◌}
use Rattle.std.specs.Global.{Global}
use Rattle.atomic_table.specs.Seated.{TableId}
use Rattle.store_core.specs.ActPlace.{ActPlace}
use Rattle.store_core.specs.Server.{Server}
use Rattle.version_seal.specs.Entry.{BookOf}
use Rattle.chunk_server.specs.Core.{core_of}
use Rattle.chunk_server.specs.State.{ServerState, empty_server}
use Rattle.stripe_stamps.specs.Sealed.{Sealed, new_sealed}
use Rattle.turn_lock.specs.Dealt.{AreTurns}
use Rattle.turn_lock.specs.TurnState.{TurnState, new_turn}
use Rattle.thread_laws.specs.AtDirectory.{StandsAtDirectory}
use Rattle.thread_laws.specs.AtServer.{StandsAtServer}
use Rattle.thread_laws.specs.Numbers.{Counts}
use Rattle.thread_laws.specs.Operated.{IsOperated}
use Rattle.thread_laws.proofs.Operated.{none_operated}
use Rattle.thread_laws.proofs.Others.{all_places_begin}

pub server_begins : (of : Counts) (number : ℕ) (book : BookOf) (s : ServerState) → s ≡ empty_server number book
    → StandsAtServer of s.number (core_of s) [] × IsOperated s.book.script (ActPlace.Server s.number) []
server_begins of number book s new = (
  subst (λ (x : Server). StandsAtServer of s.number x []) (sym (ap core_of new)) ((all_places_begin of).server s.number),
  none_operated s.book.script (ActPlace.Server s.number),
)

pub directory_begins : (of : Counts) (max size : ℕ) (d : Sealed) → d ≡ new_sealed d.book size → max ≡ size → StandsAtDirectory of max d [] × IsOperated d.book.script ActPlace.Directory []
directory_begins of max size d new is = (
  subst (λ (m : ℕ). StandsAtDirectory of m d []) (sym is) (subst (λ (x : Sealed). StandsAtDirectory of size x []) (sym new) ((all_places_begin of).directory d.book size)),
  none_operated d.book.script ActPlace.Directory,
)

-- the turns of a new lock, of which each is told alone
pub turns_dealt : {F E X : Type 0} (made : Result (TableId × Vec (TurnState F E) Global) X) (count n : ℕ) (fixed identity : F) → count ≡ n → fixed ≡ identity → IfOk made (λ r. vec_len r.1 ≡ count)
    → IfOk made (λ r. (k : ℕ) → IfSome (slice_get r.1.items k) (λ t. t ≡ new_turn r.0 fixed k)) → IfOk made (λ r. AreTurns r.0 identity n r.1.items)
turns_dealt {F} {E} (Ok r) count n fixed identity same is long each =
    record {
      count_is = sym r.1.ok.0 ∙ (long ∙ same);
      each = λ k turn there. subst (λ (o : Option (TurnState F E)). IfSome o (λ t. t ≡ new_turn r.0 fixed k)) there (each k) ∙ ap (λ (f : F). new_turn r.0 f k) is;
    }
turns_dealt (Err e) count n fixed identity same is long each = tt

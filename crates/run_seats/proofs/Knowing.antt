-- What is known by the stamps that were seen is known by those of the directory.
use Rattle.std.proofs.Common.{◌≡◌, ℕ, List, [], ◌∷◌, ◌++◌, Option, None, Some, IfSome, refl, sym, ap, subst, ◌∙◌, append_assoc}
use Rattle.std.proofs.lemmas.List.{append-nil}
use mathlib.Core.List.{IsPrefix}
use Rattle.store_map.specs.declared.script.Script.{Script}
use Rattle.store_core.specs.Sound.{IsSound}
use Rattle.store_core.specs.History.{call_of}
use Rattle.run_laws.specs.Contents.{HasBytes}
use Rattle.version_seal.specs.Entry.{BookOf, StampOf}
use Rattle.stripe_stamps.specs.Sealed.{Sealed}
use Rattle.stripe_stamps.specs.Stamped.{HasStamps, HaveContents}
use Rattle.client_patch.specs.Padded.{ArePadded}
use Rattle.client_patch.proofs.Padding.{bytes_are_padded}
use Rattle.call_machine.specs.Calls.{MachineOf, KnowsFor}
use Rattle.call_machine.proofs.Knowing.{more_stamps_are_known}
use Rattle.actors.specs.Callers.{CallerOf, Knows}
use Rattle.thread_laws.specs.Noted.{Noted, stamps_in}
use Rattle.run_seats.specs.Seen.{seen_there}

stamps_append : (log more : List (ℕ × Noted)) → stamps_in (log ++ more) ≡ stamps_in log ++ stamps_in more
stamps_append [] more = refl
stamps_append (x ∷ log) more = ap (λ (l : List StampOf). x.1.drawn ++ l) (stamps_append log more) ∙ sym (append_assoc x.1.drawn (stamps_in log) (stamps_in more))

caller_knows : (work : Option MachineOf) (d now : Sealed) (more : List StampOf) → now.stamps ≡ d.stamps ++ more → IfSome work (λ c. KnowsFor c.asked d c) → IfSome work (λ c. KnowsFor c.asked now c)
caller_knows None d now more stamps h = tt
caller_knows (Some c) d now more stamps h = more_stamps_are_known d now more c stamps h

-- by a part of the history, by a directory that stands for all of it
pub knows_now : (seen log : List (ℕ × Noted)) (book : BookOf) (d : Sealed) (a : CallerOf) → IsPrefix seen log → d.stamps ≡ stamps_in log → Knows (seen_there seen book) a → Knows d a
knows_now seen log book d a prefix stamps =
    caller_knows a.work (seen_there seen book) d (stamps_in prefix.0) (stamps ∙ (ap stamps_in (sym prefix.1) ∙ stamps_append seen prefix.0))

-- and the other way round
pub knows_seen : (log : List (ℕ × Noted)) (book : BookOf) (d : Sealed) (a : CallerOf) → d.stamps ≡ stamps_in log → Knows d a → Knows (seen_there log book) a
knows_seen log book d a stamps = caller_knows a.work d (seen_there log book) [] (sym stamps ∙ sym (append-nil d.stamps))

-- a directory whose book has a script is padded
pub is_padded : (script : Script) (d : Sealed) → d.book.script ≡ Some script → IsSound d.core → IfSome d.book.script (λ s. HasBytes (call_of s) d.core) → HasStamps d → ArePadded d
is_padded script d written sound bytes stamps =
    bytes_are_padded (call_of script) d sound (subst (λ (o : Option Script). IfSome o (λ s. HasBytes (call_of s) d.core)) written bytes)
    (subst (λ (o : Option Script). IfSome o (λ s. HaveContents (call_of s) d)) written stamps.contents)

-- The kinds of calls, and what those keep that draw.
use Rattle.std.proofs.Common.{◌≡◌, ◌⊎◌, ℕ, List, true, inl, inr, refl, ap}
use Rattle.store_map.specs.declared.call.Call.{Call}
use Rattle.store_map.specs.declared.call.Call.TheVariants as call
use Rattle.store_core.specs.Note.{Note, Kind, note_of}
use Rattle.store_core.specs.Agreement.{ActorToken}
use Rattle.store_core.specs.Tokens.{IsToWrite}
use Rattle.write_course.specs.Holding.{IsHolding}
use Rattle.client_patch.specs.Patches.{is_write, is_put, is_drawing}

pub write_kind : (c : Call) → is_write c ≡ true → (note_of c).kind ≡ Kind.Write
write_kind (call.Write name offset content) e = refl
write_kind _ e = absurd (cc)

pub put_kind : (c : Call) → is_put c ≡ true → (note_of c).kind ≡ Kind.Put
put_kind (call.Put name content) e = refl
put_kind _ e = absurd (cc)

pub writes_draw : (c : Call) → is_write c ≡ true → is_drawing c ≡ true
writes_draw (call.Write name offset content) e = refl
writes_draw _ e = absurd (cc)

-- what draws is a put or a write, and not both
pub put_or_write : (c : Call) → is_drawing c ≡ true → (is_put c ≡ true) ⊎ (is_write c ≡ true)
put_or_write (call.Put name content) e = inl refl
put_or_write (call.Write name offset content) e = inr refl
put_or_write _ e = absurd (cc)

pub not_both : (c : Call) → is_put c ≡ true → is_write c ≡ true → ⊥
not_both (call.Put name content) p w = cc
not_both _ p w = cc

-- its pass
pub to_write : {number : ℕ} {drawn : List ℕ} {token : ActorToken} (c : Call) (h : IsHolding number (note_of c) drawn token) → is_drawing c ≡ true → IsToWrite h.held
to_write (call.Put name content) h e = inl (ap (λ (note : Note). note.kind) h.its)
to_write (call.Write name offset content) h e = inr (ap (λ (note : Note). note.kind) h.its)
to_write _ h e = absurd (cc)

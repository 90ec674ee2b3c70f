use Rattle.std.proofs.Common.{◌≡◌, ◌⊎◌, inl, inr, ℕ, zero, suc, ◌<◌, List, [], ◌∷◌, get_or, min, ◌-◌, ◌^◌, Contains, Option, None, Some, codes, refl, sym, subst, arith}
use Rattle.std.proofs.lemmas.List.Elements.{Contains-push_cases}
use Rattle.std.specs.List.{filter_map}
use Rattle.clay_grid.specs.Layers.{digits_of}
use Rattle.store_map.specs.declared.call.Call.TheVariants.{ReadAt}
use Rattle.store_map.specs.declared.placement.Placement.{Placement}
use Rattle.store_map.specs.declared.placement.Placement.TheVariants.{At}
use Rattle.store_map.specs.declared.cause.RepairResult.TheVariants.{Rebuilt}
use Rattle.store_core.specs.Note.{note_of}
use Rattle.store_core.specs.Read.{parts_of}
use Rattle.store_core.specs.Shown.{client_name}
use Rattle.store_core.specs.Told.{Told, Seen}
use Rattle.run_laws.proofs.SoundLists.{contains_at}
use Rattle.store_core.specs.RowLines.{repair}
use Rattle.store_core.specs.RowsCalls.{each_refusal}
use Rattle.store_core.specs.RowsRebuilds.{rebuilt_then_here}
use Rattle.history_laws.specs.LeastTakes.{TookRange}
use Rattle.history_laws.specs.TakesOfCalls.{subchunks_met}
use Rattle.history_laws.specs.Over.{answers_to}
use Rattle.history_laws.specs.Worked.{row_trace}
use Rattle.history_laws.proofs.Picked.{picked}
use Rattle.history_laws.proofs.worked.worked_takes_are_least.Goals as goal

-- each server but the target
others_took : (server : ℕ) → server < 5 → (server ≡ 1 → ⊥) → get_or {A = ℕ} (4 ∷ 0 ∷ 4 ∷ 4 ∷ 4 ∷ []) server 0 ≡ 4
others_took zero low differ = refl
others_took (suc zero) low differ = absurd (differ refl)
others_took (suc (suc zero)) low differ = refl
others_took (suc (suc (suc zero))) low differ = refl
others_took (suc (suc (suc (suc zero)))) low differ = refl
others_took (suc (suc (suc (suc (suc n))))) low differ = absurd (omega (arith, low))

pub returns-clause-rebuild : goal.returns-clause-rebuild
unfolding digits_of
returns-clause-rebuild c =
    record {
      shows = refl;
      rebuilt = contains_at rebuilt_then_here.transcript.repairs 0 (record { call = repair 0 0; result = Rebuilt }) refl;
      alone = refl;
      told = record { none = refl; others = others_took };
      refused = λ h. let whole : 8 ≡ 4 = h.others 0 (omega arith) (λ same. absurd (omega (arith, same))) in omega (arith, whole);
    }

-- ---- what the read's look pinned
abbrev pin_of : Told → Option (ℕ × (ℕ × List Seen))
pin_of (Told.Pinned point size stripes) = Some (point, (size, stripes))
pin_of answer = None

abbrev read_answers : List Told
read_answers = answers_to (client_name 0 7) (row_trace each_refusal)

abbrev row : List Placement
row = At 0 ∷ At 0 ∷ At 0 ∷ At 0 ∷ []

abbrev pinned : ℕ × (ℕ × List Seen)
pinned = (7, (10, record { stripe = 0; version = 0; placed = row } ∷ record { stripe = 1; version = 1; placed = row } ∷ []))

one_pin : filter_map pin_of read_answers ≡ pinned ∷ []
unfolding digits_of
one_pin = refl

only : (pin : ℕ × (ℕ × List Seen)) → Contains (pinned ∷ []) pin → pinned ≡ pin
only pin has = by (Contains-push_cases [] pinned pin has)
  where
    by : Contains [] pin ⊎ (pinned ≡ pin) → pinned ≡ pin
    by (inl none) = let below = none.1 in absurd (omega arith)
    by (inr same) = same

abbrev met_by : ℕ × (ℕ × List Seen) → ℕ → ℕ
met_by pin server = min (subchunks_met each_refusal.script.geometry (parts_of each_refusal.script.geometry (note_of (ReadAt (codes "a") 7 100)) pin.1.0 pin.1.1) server) (2 ^ 64 - 1)

bytes_took : (server : ℕ) → server < 4 → get_or (2 ∷ 1 ∷ 0 ∷ 0 ∷ []) server 0 ≡ met_by pinned server
unfolding digits_of
bytes_took zero low = refl
bytes_took (suc zero) low = refl
bytes_took (suc (suc zero)) low = refl
bytes_took (suc (suc (suc zero))) low = refl
bytes_took (suc (suc (suc (suc n)))) low = absurd (omega (arith, low))

not_whole : TookRange each_refusal.script.geometry (note_of (ReadAt (codes "a") 7 100)) (answers_to (client_name 0 7) (row_trace each_refusal)) (4 ∷ 4 ∷ 0 ∷ 0 ∷ []) → ⊥
unfolding digits_of
not_whole h =
    let same : pinned ≡ (h.point, (h.size, h.stripes)) =
    only (h.point, (h.size, h.stripes))
    (subst (λ l. Contains l (h.point, (h.size, h.stripes))) one_pin (picked pin_of read_answers (Told.Pinned h.point h.size h.stripes) (h.point, (h.size, h.stripes)) h.looked refl)) in
    let whole : 4 ≡ 2 = subst (λ pin. 4 ≡ met_by pin 0) (sym same) (h.met 0 (omega arith)) in
    omega (arith, whole)

pub returns-clause-read : goal.returns-clause-read
unfolding digits_of
returns-clause-read c =
    record {
      shows = refl;
      is_call = refl;
      none = refl;
      told =
          record {
            point = 7;
            size = 10;
            stripes = pinned.1.1;
            looked = contains_at read_answers 0 (Told.Pinned 7 10 pinned.1.1) refl;
            met = bytes_took;
          };
      refused = not_whole;
    }

-- Runs of a lost chunk's layers, by the marks of a caller's.
use Rattle.std.proofs.Common.{◌≡◌, ℕ, ◌<◌, ◌≤◌, ◌↔◌, Bool, true, false, not, List, length, refl, sym, subst, inl, inr, arith}
use Rattle.std.proofs.lemmas.Bool.{true≢false}
use Rattle.clay_grid.specs.Shape.{Shape, chunk_count}
use Rattle.lost_layers.specs.LostLayers.{IsLostRun}
use Rattle.lost_layers.specs.declared.run.LostRun.{LostRun}
use Rattle.lost_layers.specs.Without.{gone_count, IsRefused}
use Rattle.lost_layers.specs.declared.missing_fault.MissingFault.{MissingFault}
use Rattle.lost_layers.specs.declared.missing_fault.MissingFault.TheVariants.{NoSuchChunk, NoSuchLayers, MarkCount, TooFew, OutOfMemory}
use Rattle.lost_read.specs.MissingRefused.{IsReadRefused}
use Rattle.lost_read.specs.declared.missing_read_fault.MissingReadFault.{MissingReadFault}
use Rattle.lost_read.specs.There.{there_of}

module _ (g : Shape) (run : LostRun) (there : List Bool) where
  -- a run that is refused for another reason has few enough
  few_otherwise : (fault : MissingFault) → IsLostRun g run → length there ≡ chunk_count g → IsRefused g run there fault → (fault ≡ TooFew → ⊥) → gone_count g run there ≤ g.parity_count
  few_otherwise NoSuchChunk fits marks h other = let inside : run.lost < chunk_count g = fits.chunk in absurd (omega (arith, inside, h))
  few_otherwise NoSuchLayers fits marks h other = elim h.1 [
    | inl turned ↦ let order : run.from ≤ run.to = fits.order in absurd (omega (arith, order, turned))
    | inr past ↦ absurd (omega (arith, past, fits.layers))
  ]
  few_otherwise MarkCount fits marks h other = absurd (h.1 marks)
  few_otherwise TooFew fits marks h other = absurd (other refl)
  few_otherwise OutOfMemory fits marks h other = h.few

  pub few_by_fault : (fault : MissingFault) (is_many : Bool) → IsLostRun g run → length there ≡ chunk_count g → IsRefused g run there fault → (is_many ≡ true) ↔ (fault ≡ TooFew)
      → (not is_many ≡ true) ↔ (gone_count g run there ≤ g.parity_count)
  few_by_fault fault true fits marks h is =
      let many : g.parity_count < gone_count g run there = (subst (IsRefused g run there) (is.0 refl) h).2 in
      (λ wrong. absurd (true≢false (sym wrong)), λ few. absurd (omega (arith, many, few)))
  few_by_fault fault false fits marks h is = (λ _. few_otherwise fault fits marks h (λ same. true≢false (sym (is.1 same))), λ _. refl)

-- why a run isn't read
pub refused_by : (g : Shape) (run : LostRun) (present : List ℕ) (there : List Bool) (pieces : List (List ℕ)) (room : ℕ) (told fault : MissingReadFault) → there ≡ there_of present → told ≡ fault
    → IsReadRefused g run there pieces room told → IsReadRefused g run (there_of present) pieces room fault
refused_by g run present there pieces room told fault marks is refused =
    subst (IsReadRefused g run (there_of present) pieces room) is (subst (λ l. IsReadRefused g run l pieces room told) marks refused)

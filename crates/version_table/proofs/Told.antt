-- The entries that are kept as numbers.
use Rattle.std.proofs.Common.{◌≡◌, ℕ, List, [], refl, ap, sym, ◌∙◌}
use Rattle.std.proofs.lemmas.List.{append-nil}
use Rattle.store_map.specs.declared.placement.Placement.{Placement}
use Rattle.store_map.specs.declared.placement.Placement.TheVariants as placement
use Rattle.version_table.specs.declared.told_versions.Standing.{Standing}
use Rattle.version_table.specs.declared.told_versions.Standing.TheVariants as standing
use Rattle.dir_parts.specs.Codec.{number, both, many, optional}
use Rattle.version_table.specs.Told.{Entry, placement_to, placement_from, a_placement, standing_to, standing_from, a_standing, entry_to, entry_from, an_entry, numbers_of, entries_of}
use Rattle.dir_parts.specs.ToldActors.{an_actor}
use Rattle.dir_parts.proofs.Codec.{ReadsBack, number_back, both_back, other_back, many_back, optional_back}
use Rattle.dir_parts.proofs.ToldActors.{actor_back}

placement_back : ReadsBack a_placement
placement_back = other_back (both number number) placement_to placement_from same (both_back number number number_back number_back)
  where
    same : (p : Placement) → placement_from (placement_to p) ≡ p
    same (placement.At epoch) = refl
    same (placement.Skipped downs) = refl

standing_back : ReadsBack a_standing
standing_back = other_back number standing_to standing_from same number_back
  where
    same : (s : Standing) → standing_from (standing_to s) ≡ s
    same standing.Drawn = refl
    same standing.Current = refl
    same standing.Superseded = refl
    same standing.Taken = refl
    same standing.Swept = refl

entry_back : ReadsBack an_entry
entry_back =
    other_back (both (both an_actor number) (both (both number optional) (both (many a_placement) (both a_standing number)))) entry_to entry_from (λ e. refl)
    (both_back (both an_actor number) (both (both number optional) (both (many a_placement) (both a_standing number))) (both_back an_actor number actor_back number_back)
    (both_back (both number optional) (both (many a_placement) (both a_standing number)) (both_back number optional number_back optional_back)
    (both_back (many a_placement) (both a_standing number) (many_back a_placement placement_back) (both_back a_standing number standing_back number_back))))

-- the numbers of entries stand for them
pub entries_back : (entries : List Entry) → entries_of (numbers_of entries) ≡ entries
unfolding numbers_of entries_of
entries_back entries = ap (λ (l : List ℕ). ((many an_entry).read l).0) (sym (append-nil ((many an_entry).write entries))) ∙ ap (λ (q : List Entry × List ℕ). q.0) (many_back an_entry entry_back entries [])

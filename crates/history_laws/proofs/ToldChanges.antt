-- The changes that a write keeps of what it was told, after one answer more.
use Rattle.std.proofs.Common.{◌≡◌, ℕ, List, [], ◌∷◌, ◌++◌, filter, refl, sym, ap, ◌∙◌}
use Rattle.std.proofs.lemmas.List.{append-nil}
use Rattle.clay_grid.specs.Shape.{Shape}
use Rattle.store_core.specs.Gathering.{Gathering, Part}
use Rattle.store_core.specs.GatheringParts.{gather_part}
use Rattle.store_core.specs.NextAct.{Job}
use Rattle.store_core.specs.Note.{Kind}
use Rattle.store_core.specs.Tell.{tell, tell_by, cut_by, cut_write, cut_parts, in_one, is_versions, is_changed}
use Rattle.store_core.specs.Told.{Told}
use Rattle.store_core.specs.Write.{old_parts}
use Rattle.run_laws.specs.CauseLaws.{changes_of}
use Rattle.run_laws.proofs.Filters.{KeepsMarks, part_keeps}

changes_append : (some more : List Told) → changes_of (some ++ more) ≡ changes_of some ++ changes_of more
changes_append [] more = refl
changes_append (Told.Changed base newer ∷ some) more = ap (λ pairs. (base, newer) ∷ pairs) (changes_append some more)
changes_append (_ ∷ some) more = changes_append some more

changes_filter : (told : List Told) → changes_of (filter is_changed told) ≡ changes_of told
changes_filter [] = refl
changes_filter (Told.Changed base newer ∷ told) = ap (λ pairs. (base, newer) ∷ pairs) (changes_filter told)
changes_filter (_ ∷ told) = changes_filter told

changes_versions : (told : List Told) → changes_of (filter is_versions told) ≡ []
changes_versions [] = refl
changes_versions (Told.Versions versions ∷ told) = changes_versions told
changes_versions (_ ∷ told) = changes_versions told

changes_same : (told rest : List Told) → filter is_changed told ≡ filter is_changed rest → changes_of told ≡ changes_of rest
changes_same told rest e = sym (changes_filter told) ∙ ap changes_of e ∙ changes_filter rest

module _ (g : Shape) where
  changes_one : (since : List Told → List Told) → ((told : List Told) → changes_of (since told) ≡ changes_of told) → (told : List Told) (result : Gathering)
      → KeepsMarks told result → changes_of (in_one since result told) ≡ changes_of told
  changes_one since same told (Gathering.Asks server step) keeps = refl
  changes_one since same told (Gathering.HasBytes rest) keeps = same rest ∙ sym (changes_same told rest keeps.1)
  changes_one since same told (Gathering.TooMany missing rest) keeps = refl
  changes_one since same told (Gathering.AtTarget rest) keeps = refl
  changes_one since same told (Gathering.TargetAway downs rest) keeps = refl
  changes_one since same told (Gathering.Short rest) keeps = refl

  changes_parts : (parts : List Part) (told : List Told) → changes_of (cut_parts g parts told) ≡ changes_of told
  changes_parts [] told = refl
  changes_parts (part ∷ parts) (Told.Gathered ∷ told) = changes_parts parts told
  changes_parts (part ∷ parts) told = changes_one (cut_parts g parts) (changes_parts parts) told (gather_part g part told) (part_keeps g part told)

  changes_write : (told : List Told) → changes_of (cut_write g told) ≡ changes_of told
  changes_write (Told.Changed base newer ∷ told) = ap (λ pairs. (base, newer) ∷ pairs) (changes_write told)
  changes_write (Told.Ready base length_now stripes ∷ told) = changes_parts (old_parts g length_now stripes) told
  changes_write told = refl

-- the changes after an answer
abbrev pub changes_after : Told → List (ℕ × ℕ) → List (ℕ × ℕ)
changes_after (Told.Changed base newer) pairs = pairs ++ (base, newer) ∷ []
changes_after (Told.Done point) pairs = []
changes_after answer pairs = pairs

plain : (g : Shape) (job : Job) (told : List Told) (answer : Told) → changes_of (answer ∷ []) ≡ [] → changes_of (cut_by Kind.Write g job (told ++ answer ∷ [])) ≡ changes_of told
plain g job told answer none =
    changes_write g (told ++ answer ∷ []) ∙ changes_append told (answer ∷ []) ∙ ap (λ l. changes_of told ++ l) none ∙ append-nil (changes_of told)

told_by : (g : Shape) (job : Job) (told : List Told) (answer : Told) → changes_of (tell_by Kind.Write g job told answer) ≡ changes_after answer (changes_of told)
told_by g job told (Told.Changed base newer) =
    changes_append (filter is_changed told) (Told.Changed base newer ∷ []) ∙ ap (λ l. l ++ (base, newer) ∷ []) (changes_filter told)
told_by g job told (Told.Done point) = changes_append (filter is_versions told) (Told.Done point ∷ []) ∙ ap (λ l. l ++ changes_of (Told.Done point ∷ [])) (changes_versions told)
told_by g job told (Told.Answer point given) = plain g job told (Told.Answer point given) refl
told_by g job told (Told.Pinned point length_now stripes) = plain g job told (Told.Pinned point length_now stripes) refl
told_by g job told (Told.Ready base length_now stripes) = plain g job told (Told.Ready base length_now stripes) refl
told_by g job told Told.NoSuch = plain g job told Told.NoSuch refl
told_by g job told (Told.PinnedStripe seen) = plain g job told (Told.PinnedStripe seen) refl
told_by g job told (Told.Versions versions) = plain g job told (Told.Versions versions) refl
told_by g job told Told.Ended = plain g job told Told.Ended refl
told_by g job told Told.Current = plain g job told Told.Current refl
told_by g job told (Told.Superseded newer) = plain g job told (Told.Superseded newer) refl
told_by g job told (Told.Reaped point) = plain g job told (Told.Reaped point) refl
told_by g job told (Told.Taken version) = plain g job told (Told.Taken version) refl
told_by g job told (Told.GivenUp point) = plain g job told (Told.GivenUp point) refl
told_by g job told (Told.Placed epoch) = plain g job told (Told.Placed epoch) refl
told_by g job told (Told.Prepared row) = plain g job told (Told.Prepared row) refl
told_by g job told (Told.Away downs) = plain g job told (Told.Away downs) refl
told_by g job told Told.NotMade = plain g job told Told.NotMade refl
told_by g job told Told.Settled = plain g job told Told.Settled refl
told_by g job told Told.Here = plain g job told Told.Here refl
told_by g job told (Told.Missing epoch) = plain g job told (Told.Missing epoch) refl
told_by g job told (Told.Given layers) = plain g job told (Told.Given layers) refl
told_by g job told Told.AlreadyThere = plain g job told Told.AlreadyThere refl
told_by g job told Told.Made = plain g job told Told.Made refl
told_by g job told Told.Short = plain g job told Told.Short refl
told_by g job told Told.Gathered = plain g job told Told.Gathered refl

pub changes_told : (g : Shape) (job : Job) → job.note.kind ≡ Kind.Write → (told : List Told) (answer : Told) → changes_of (tell g job told answer) ≡ changes_after answer (changes_of told)
changes_told g job writes told answer = ap (λ kind. changes_of (tell_by kind g job told answer)) writes ∙ told_by g job told answer

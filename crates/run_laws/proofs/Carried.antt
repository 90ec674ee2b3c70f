-- What is known of all that is kept of a call's answers is known of the answers.
use Rattle.std.proofs.Common.{◌≡◌, ℕ, ◌<◌, List, [], ◌∷◌, ◌++◌, filter, fold, inl, inr, sym, subst}
use Rattle.std.proofs.lemmas.List.{append_assoc, append-nil}
use Rattle.clay_grid.specs.Shape.{Shape}
use Rattle.store_core.specs.Told.{Told, Seen}
use Rattle.store_core.specs.Note.{Note, Kind}
use Rattle.store_core.specs.Gathering.{Gathering, Part}
use Rattle.store_core.specs.GatheringParts.{gather_part, gather_chunk}
use Rattle.run_laws.specs.GatherLaws.{Tells, Ends}
use Rattle.store_core.specs.Read.{parts_of}
use Rattle.store_core.specs.Write.{old_parts}
use Rattle.store_core.specs.NextAct.{Job}
use Rattle.store_core.specs.Tell.{in_one, cut_parts, cut_read, cut_write, cut_chunk, cut_rebuild, cut_by, is_versions, is_changed, tell}
use Rattle.run_laws.proofs.Gatherings.{part_ends, chunk_ends}

-- an answer that is kept before a gathering, or beside others where they are dropped
abbrev pub IsMark : Told → Type 0
IsMark (Told.Pinned point length_now stripes) = Unit {0}
IsMark (Told.Ready base length_now stripes) = Unit {0}
IsMark (Told.PinnedStripe seen) = Unit {0}
IsMark (Told.Versions versions) = Unit {0}
IsMark (Told.Changed base newer) = Unit {0}
IsMark (Told.Done point) = Unit {0}
IsMark _ = ⊥

-- facts of a list of answers that don't rest on a gathering's entry, nor are lost where more is told before or behind a mark
pub record AreCarried (I : Type 0) (R : I → List Told → Type 0) : Type 0 where
  pub grows : (i : I) (answer : Told) (told : List Told) → R i told → R i (answer ∷ told)
  pub gathered : (i : I) (told : List Told) → R i (Told.Gathered ∷ told) → R i told
  pub behind : (i : I) (mark : Told) (some others : List Told) → IsMark mark → ((j : I) → R j some → R j others) → R i (mark ∷ some) → R i (mark ∷ others)

-- that some answer is such is carried
abbrev pub AnyTells : (Told → Type 0) → Unit {0} → List Told → Type 0
AnyTells P i told = Tells P told

pub tells_carried : (P : Told → Type 0) → (P Told.Gathered → ⊥) → AreCarried (Unit {0}) (AnyTells P)
tells_carried P never =
    record {
      grows = λ i answer told h. inr h;
      gathered = λ i told h. later told h;
      behind = λ i mark some others is_mark f h. either mark some others (f i) h;
    }
  where
    later : (told : List Told) → Tells P (Told.Gathered ∷ told) → Tells P told
    later told (inl h) = absurd (never h)
    later told (inr h) = h

    either : (mark : Told) (some others : List Told) → (Tells P some → Tells P others) → Tells P (mark ∷ some) → Tells P (mark ∷ others)
    either mark some others f (inl h) = inl h
    either mark some others f (inr h) = inr (f h)

module _ (I : Type 0) (R : I → List Told → Type 0) (carried : AreCarried I R) where
  grows_all : (i : I) (front told : List Told) → R i told → R i (front ++ told)
  grows_all i [] told h = h
  grows_all i (answer ∷ front) told h = carried.grows i answer (front ++ told) (grows_all i front told h)

  -- what holds of one list holds of another
  abbrev Leads : List Told → List Told → Type 0
  Leads some others = (i : I) → R i some → R i others

  -- ---- what is dropped where marks alone are kept
  versions_back : (told more : List Told) → Leads (filter is_versions told ++ more) (told ++ more)
  versions_back [] more i h = h
  versions_back (Told.Versions versions ∷ told) more i h =
      carried.behind i (Told.Versions versions) (filter is_versions told ++ more) (told ++ more) tt (versions_back told more) h
  versions_back (answer ∷ told) more i h = carried.grows i answer (told ++ more) (versions_back told more i h)

  changes_back : (told more : List Told) → Leads (filter is_changed told ++ more) (told ++ more)
  changes_back [] more i h = h
  changes_back (Told.Changed base newer ∷ told) more i h =
      carried.behind i (Told.Changed base newer) (filter is_changed told ++ more) (told ++ more) tt (changes_back told more) h
  changes_back (answer ∷ told) more i h = carried.grows i answer (told ++ more) (changes_back told more i h)

  module _ (g : Shape) (more : List Told) where
    -- ---- what is cut of a gathering
    abbrev CutBack : (List Told → List Told) → Type 0
    CutBack cut = (told : List Told) → Leads (cut told ++ more) (told ++ more)

    rest_back : (told front rest : List Told) → told ≡ front ++ rest → Leads (rest ++ more) (told ++ more)
    rest_back told front rest e i h =
        subst (λ l. R i (l ++ more)) (sym e) (subst (R i) (sym (append_assoc front rest more)) (grows_all i front (rest ++ more) h))

    one_back : (since : List Told → List Told) → CutBack since → (told : List Told) (result : Gathering) → Ends g [] told result
        → Leads (in_one since result told ++ more) (told ++ more)
    one_back since back told (Gathering.Asks server step) ends i h = h
    one_back since back told (Gathering.HasBytes rest) ends i h =
        rest_back told ends.front rest ends.told_is i (back rest i (carried.gathered i (since rest ++ more) h))
    one_back since back told (Gathering.TooMany missing rest) ends i h = h
    one_back since back told (Gathering.AtTarget rest) ends i h = h
    one_back since back told (Gathering.TargetAway downs rest) ends i h = h
    one_back since back told (Gathering.Short rest) ends i h = h

    parts_back : (parts : List Part) → CutBack (cut_parts g parts)
    parts_back [] told i h = h
    parts_back (part ∷ parts) (Told.Gathered ∷ told) i h =
        carried.grows i Told.Gathered (told ++ more) (parts_back parts told i (carried.gathered i (cut_parts g parts told ++ more) h))
    parts_back (part ∷ parts) told i h = one_back (cut_parts g parts) (parts_back parts) told (gather_part g part told) (part_ends g part told) i h

    read_back : (note : Note) → CutBack (cut_read g note)
    read_back note (Told.Pinned point length_now stripes ∷ told) i h =
        carried.behind i (Told.Pinned point length_now stripes) (cut_parts g (parts_of g note length_now stripes) told ++ more) (told ++ more) tt
        (parts_back (parts_of g note length_now stripes) told) h
    read_back note told i h = h

    write_back : CutBack (cut_write g)
    write_back (Told.Changed base newer ∷ told) i h = carried.behind i (Told.Changed base newer) (cut_write g told ++ more) (told ++ more) tt (write_back told) h
    write_back (Told.Ready base length_now stripes ∷ told) i h =
        carried.behind i (Told.Ready base length_now stripes) (cut_parts g (old_parts g length_now stripes) told ++ more) (told ++ more) tt
        (parts_back (old_parts g length_now stripes) told) h
    write_back told i h = h

    module _ (some : 0 < g.parity_count) where
      chunk_back : (seen : Seen) (target : ℕ) → CutBack (cut_chunk g seen target)
      chunk_back seen target (Told.Gathered ∷ told) i h = h
      chunk_back seen target told i h = one_back (λ rest. rest) (λ rest j k. k) told (gather_chunk g seen target told) (chunk_ends g seen target told some) i h

      rebuild_back : (target : ℕ) → CutBack (cut_rebuild g target)
      rebuild_back target (Told.PinnedStripe seen ∷ told) i h =
          carried.behind i (Told.PinnedStripe seen) (cut_chunk g seen target told ++ more) (told ++ more) tt (chunk_back seen target told) h
      rebuild_back target told i h = h

      cut_back : (kind : Kind) (job : Job) → CutBack (cut_by kind g job)
      cut_back Kind.Put job told i h = h
      cut_back Kind.Write job told i h = write_back told i h
      cut_back Kind.Get job told i h = read_back job.note told i h
      cut_back Kind.ReadAt job told i h = read_back job.note told i h
      cut_back Kind.Stat job told i h = h
      cut_back Kind.Delete job told i h = h
      cut_back Kind.Rebuild job told i h = rebuild_back job.target told i h

  -- ---- one answer, and all of them
  module _ (g : Shape) (some : 0 < g.parity_count) (job : Job) where
    tell_back : (told : List Told) (answer : Told) (more : List Told) → Leads (tell g job told answer ++ more) (told ++ answer ∷ more)
    tell_back told (Told.Done point) more i h =
        versions_back told (Told.Done point ∷ more) i (subst (R i) (append_assoc (filter is_versions told) (Told.Done point ∷ []) more) h)
    tell_back told (Told.Changed base newer) more i h =
        changes_back told (Told.Changed base newer ∷ more) i (subst (R i) (append_assoc (filter is_changed told) (Told.Changed base newer ∷ []) more) h)
    tell_back told answer more i h = subst (R i) (append_assoc told (answer ∷ []) more) (cut_back g more some job.note.kind job (told ++ answer ∷ []) i h)

    pub told_back : (told answers : List Told) → Leads (fold (tell g job) told answers) (told ++ answers)
    told_back told [] i h = subst (R i) (sym (append-nil told)) h
    told_back told (answer ∷ more) i h = tell_back told answer more i (told_back (tell g job told answer) more i h)

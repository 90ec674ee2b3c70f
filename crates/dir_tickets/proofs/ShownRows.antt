-- The stripes that looks show have whole rows of placements, and stamps of the directory's book.
use Rattle.std.proofs.Common.{◌≡◌, ◌⊎◌, ℕ, ◌<◌, ◌≤◌, nat_lt, Bool, true, false, List, [], ◌∷◌, length, get_or, map, slice_get, Option, None, Some, Result, Ok, Err, All, IfOk, IfSome, is_err, refl, sym, subst, ◌∙◌, inl, inr, arith}
use Rattle.std.proofs.lemmas.Bool.{cases_Bool, ltb-true, ltb-false}
use Rattle.std.proofs.lemmas.Option.{none-some, slice_get_cases}
use Rattle.std.proofs.lemmas.List.{length-map, get_or-map}
use Rattle.std.proofs.lemmas.List.Elements.{All-nil, All-cons, All-map}
use Rattle.clay_grid.specs.Shape.{Shape, stripe_length}
use Rattle.store_map.specs.declared.actor.Actor.{Actor}
use Rattle.store_map.specs.declared.reply.Reply.{Reply}
use Rattle.store_core.specs.Told.{Told, Seen as CoreSeen}
use Rattle.store_core.specs.Note.{Note, Kind, refusal}
use Rattle.store_core.specs.Act.{DirectoryStep}
use Rattle.store_core.specs.Directory.{Object, Version, Standing, Directory}
use Rattle.store_core.specs.Lookups.{find_object}
use Rattle.store_core.specs.Look.{placed_of, pinned_by, seen_at}
use Rattle.store_core.specs.Looks.{accept, look_by, look_repair}
use Rattle.store_core.specs.Placements.{IsRow}
use Rattle.store_core.specs.AtDirectory.{at_directory}
use Rattle.store_core.specs.Sound.{IsSound, IsPlaced}
use Rattle.store_core.specs.SoundPasses.{Stands}
use Rattle.run_laws.proofs.SoundLists.{at_all}
use Rattle.version_seal.specs.Entry.{StampOf}
use Rattle.dir_parts.specs.Parts.{object_or_new}
use Rattle.stripe_dir.specs.Answers.{told_look, told_repair_look, told_or_short}
use Rattle.stripe_stamps.specs.SeenStripes.{seen_in}
use Rattle.stripe_dir.specs.AnswerStamps.{AreSeenIn, IsSeenByRepair}
use Rattle.stripe_stamps.specs.SeenStripes.{IsSeenIn}
use Rattle.stripe_stamps.specs.Sealed.{Sealed}
use Rattle.stripe_stamps.specs.Stamped.{HasStamps}
use Rattle.call_steps.specs.declared.seen.Seen.{Seen}
use Rattle.stripe_dir.proofs.Commits.{old_current}
use Rattle.stripe_dir.proofs.Lookings.{pins_stand, repair_begins, repair_none}
use Rattle.stripe_dir.specs.declared.directory_answers.Look.{Look}
use Rattle.stripe_dir.specs.declared.directory_answers.Look.TheVariants as look_answer
use Rattle.stripe_dir.specs.declared.directory_answers.RepairLook.{RepairLook}
use Rattle.stripe_dir.specs.declared.directory_answers.RepairLook.TheVariants as repair
use Rattle.stripe_dir.specs.Shown.{repair_note, stripes_seen, stripe_seen, IsShown, AreShown}

-- the stripes that are told
abbrev stripes_told : Told → List CoreSeen
stripes_told (Told.Pinned point length_now stripes) = stripes
stripes_told (Told.Ready base length_now stripes) = stripes
stripes_told (Told.PinnedStripe seen) = seen ∷ []
stripes_told told = []

-- the rows of stripes that are told are whole
abbrev HasRows : Shape → List CoreSeen → Type 0
HasRows g stripes = All (λ (seen : CoreSeen). IsRow g seen.placed) stripes

-- what holds of all that a function gives
from_map : {X Y : Type 0} (P : Y → Type 0) (f : X → Y) (xs : List X) → All P (map f xs) → All (λ x. P (f x)) xs
from_map P f xs all = λ i d less. subst P (get_or-map f xs i d (f d) less) (all i (f d) (subst (λ n. i < n) (sym (length-map xs f)) less))

-- ---- what looks tell
module _ (d : Directory) (some : 0 < stripe_length d.shape) (sound : IsSound d) where
  -- a current version has a row
  row_of : (version : ℕ) → Stands d Standing.Current version → IsRow d.shape (placed_of (slice_get d.versions version))
  row_of version stands = by (slice_get d.versions version) refl stands.0
    where
      by : (found : Option Version) → slice_get d.versions version ≡ found → IfSome found (λ v. v.standing ≡ Standing.Current) → IsRow d.shape (placed_of found)
      by None e s = past (slice_get_cases d.versions version).1
        where
          past : ((x : Version) × (version < length d.versions) × (slice_get d.versions version ≡ Some x) × (get_or d.versions version x ≡ x)) ⊎ ((length d.versions ≤ version) × (slice_get d.versions version ≡ None)) → IsRow d.shape (placed_of None)
          past (inl h) = absurd (none-some h.0 (sym e ∙ h.2))
          past (inr h) = absurd (let out : length d.versions ≤ version = h.0 in omega (arith, out, stands.1))
      by (Some v) e s = (at_all (IsPlaced d) d.versions version v sound.placed e).current s

  module _ (who : Actor) (number : ℕ) (note : Note) where
    rows_pinned : HasRows d.shape (map (seen_at d (object_or_new note.name d.objects)) (pinned_by note.kind d.shape note (object_or_new note.name d.objects).length))
    rows_pinned =
        All-map (λ (seen : CoreSeen). IsRow d.shape seen.placed) (seen_at d (object_or_new note.name d.objects)) (pinned_by note.kind d.shape note (object_or_new note.name d.objects).length)
        (λ i x less. row_of (get_or (object_or_new note.name d.objects).versions (get_or (pinned_by note.kind d.shape note (object_or_new note.name d.objects).length) i x) 0) (pins_stand d some sound note.kind note i x less))

    none : HasRows d.shape []
    none = All-nil (λ (seen : CoreSeen). IsRow d.shape seen.placed)

    rows_accepted : (k : Kind) → HasRows d.shape (stripes_told (accept who number note d k (object_or_new note.name d.objects)).1)
    rows_accepted Kind.Put = none
    rows_accepted Kind.Write = rows_pinned
    rows_accepted Kind.Get = rows_pinned
    rows_accepted Kind.ReadAt = rows_pinned
    rows_accepted Kind.Stat = none
    rows_accepted Kind.Delete = none
    rows_accepted Kind.Rebuild = rows_pinned

    rows_by : (refused : Option Reply) → HasRows d.shape (stripes_told (look_by who number note d (find_object note.name d.objects) refused).1)
    rows_by None = rows_accepted note.kind
    rows_by (Some reply) = none

    pub rows_looked : (short : Bool) → HasRows d.shape (stripes_told (at_directory short who number (DirectoryStep.Look note) d).1)
    rows_looked true = none
    rows_looked false = rows_by (refusal d.max note (ap_length (find_object note.name d.objects)))
      where
        ap_length : Option Object → Option ℕ
        ap_length None = None
        ap_length (Some object) = Some object.length

    pub rows_repair : note.kind ≡ Kind.Rebuild → (short : Bool) → HasRows d.shape (stripes_told (at_directory short who number (DirectoryStep.LookRepair note) d).1)
    rows_repair kind true = none
    rows_repair kind false = by (cases_Bool (nat_lt note.offset (length (object_or_new note.name d.objects).versions)))
      where
        one : note.offset < length (object_or_new note.name d.objects).versions → HasRows d.shape (seen_at d (object_or_new note.name d.objects) note.offset ∷ [])
        one within =
            All-cons (λ (seen : CoreSeen). IsRow d.shape seen.placed) (seen_at d (object_or_new note.name d.objects) note.offset) []
            (row_of (get_or (object_or_new note.name d.objects).versions note.offset 0) (old_current d sound note.name note.offset 0 within)) none

        by : (nat_lt note.offset (length (object_or_new note.name d.objects).versions) ≡ true) ⊎ (nat_lt note.offset (length (object_or_new note.name d.objects).versions) ≡ false) → HasRows d.shape (stripes_told (look_repair who number note d).1)
        by (inl h) =
            let within : note.offset < length (object_or_new note.name d.objects).versions = ltb-true note.offset (length (object_or_new note.name d.objects).versions) h in
            subst (λ (r : Directory × Told). HasRows d.shape (stripes_told r.1)) (sym (repair_begins who number note d kind within)) (one within)
        by (inr h) = subst (λ (r : Directory × Told). HasRows d.shape (stripes_told r.1)) (sym (repair_none who number note d (ltb-false note.offset (length (object_or_new note.name d.objects).versions) h))) none

-- ---- what answers show
module _ (s : Sealed) (some : 0 < stripe_length s.core.shape) (sound : IsSound s.core) (has : HasStamps s) where
  shown : (seen : List Seen) → All (IsSeenIn s.stamps) seen → All (λ (one : Seen). IsRow s.core.shape one.placed.items) seen → All (IsShown s) seen
  shown seen own rows = λ i d less.
      record {
        own = own i d less;
        home =
            at_all (λ (stamp : StampOf). stamp.home ≡ s.book.home) s.stamps (get_or seen i d).stamp.version (get_or seen i d).stamp has.its.at_home (own i d less);
        row = rows i d less;
      }

  rows_in : (stripes : List Seen) → HasRows s.core.shape (map seen_in stripes) → All (λ (one : Seen). IsRow s.core.shape one.placed.items) stripes
  rows_in stripes rows = from_map (λ (seen : CoreSeen). IsRow s.core.shape seen.placed) seen_in stripes rows

  by_look : {S P E : Type 0} (answer : Result (Look S P) E) → IfOk answer (AreSeenIn s.stamps) → HasRows s.core.shape (stripes_told (told_or_short told_look answer)) → AreShown s stripes_seen answer
  by_look (Ok (look_answer.Answer seat point reply)) own rows = All-nil (IsShown s)
  by_look (Ok (look_answer.Pinned pass point count stripes)) own rows = shown stripes.items own (rows_in stripes.items rows)
  by_look (Ok (look_answer.Ready pass base count stripes)) own rows = shown stripes.items own (rows_in stripes.items rows)
  by_look (Err e) own rows = tt

  by_repair : {S P E : Type 0} (answer : Result (RepairLook S P) E) → IfOk answer (IsSeenByRepair s.stamps) → HasRows s.core.shape (stripes_told (told_or_short told_repair_look answer)) → AreShown s stripe_seen answer
  by_repair (Ok (repair.NoSuch seat)) own rows = All-nil (IsShown s)
  by_repair (Ok (repair.Pinned pass seen)) own rows =
      shown (seen ∷ []) (All-cons (IsSeenIn s.stamps) seen [] own (All-nil (IsSeenIn s.stamps))) (rows_in (seen ∷ []) rows)
  by_repair (Err e) own rows = tt

  -- of a client's look, by its step
  pub shown_by_look : {S P E : Type 0} (who : Actor) (number : ℕ) (note : Note) (core : Directory) (answer : Result (Look S P) E)
      → (core, told_or_short told_look answer) ≡ at_directory (is_err answer) who number (DirectoryStep.Look note) s.core
      → IfOk answer (AreSeenIn s.stamps) → AreShown s stripes_seen answer
  shown_by_look who number note core answer made own =
      by_look answer own (subst (λ (r : Directory × Told). HasRows s.core.shape (stripes_told r.1)) (sym made) (rows_looked s.core some sound who number note (is_err answer)))

  -- and of a repairer's
  pub shown_by_repair : {S P E : Type 0} (who : Actor) (number : ℕ) (name : List ℕ) (stripe : ℕ) (core : Directory) (answer : Result (RepairLook S P) E)
      → (core, told_or_short told_repair_look answer) ≡ at_directory (is_err answer) who number (DirectoryStep.LookRepair (repair_note name stripe)) s.core
      → IfOk answer (IsSeenByRepair s.stamps) → AreShown s stripe_seen answer
  shown_by_repair who number name stripe core answer made own =
      by_repair answer own (subst (λ (r : Directory × Told). HasRows s.core.shape (stripes_told r.1)) (sym made) (rows_repair s.core some sound who number (repair_note name stripe) refl (is_err answer)))

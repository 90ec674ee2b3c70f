-- What a client's look comes to.
use Rattle.std.proofs.Common.{◌≡◌, ◌⊎◌, ℕ, ◌<◌, ◌≤◌, nat_lt, Bool, true, false, cond, if◌then◌else◌, bytes_eq, List, [], ◌∷◌, ◌++◌, length, get_or, map, Option, None, Some, option_map, unwrap_or, All, refl, sym, ap, ◌∙◌, inl, inr, arith}
use Rattle.std.proofs.lemmas.Bool.{false≢true, cases_Bool, ltb-true, ltb-false}
use Rattle.clay_grid.specs.Shape.{Shape, stripe_length}
use Rattle.store_map.specs.Limits.{stripes_met}
use Rattle.store_map.specs.declared.actor.Actor.{Actor}
use Rattle.store_map.specs.declared.reply.Reply.{Reply}
use Rattle.store_core.specs.Told.{Told, Seen}
use Rattle.store_core.specs.Note.{Note, Kind, refusal}
use Rattle.store_core.specs.Act.{DirectoryStep}
use Rattle.store_core.specs.Directory.{Object, Standing, Event, Point, Directory}
use Rattle.store_core.specs.Lookups.{find_object, last_change}
use Rattle.store_core.specs.Look.{stripes_between, pinned_by, begin_pass, seen_at}
use Rattle.store_core.specs.Looks.{answer, accept, look, look_by, look_repair, look_repair_by}
use Rattle.store_core.specs.Read.{read_end_by}
use Rattle.store_core.specs.AtDirectory.{at_directory}
use Rattle.store_core.specs.Sound.{HasItsVersions, IsSound}
use Rattle.store_core.specs.SoundPasses.{Stands}
use Rattle.run_laws.proofs.SoundStripes.{pins_within}
use Rattle.dir_parts.specs.Parts.{object_or_new}
use Rattle.dir_parts.specs.Passes.{kind_in}
use Rattle.dir_parts.specs.declared.passes.CallKind.{CallKind}
use Rattle.dir_parts.specs.declared.passes.CallKind.TheVariants as kind
use Rattle.dir_parts.specs.Begun.{begun_in, begins_pass, base_by, seen_in_object, looked, has_point, or_short}
use Rattle.stripe_stamps.specs.Stripes.{pinned_of}
use Rattle.stripe_dir.proofs.Ending.{found_has}
use Rattle.stripe_dir.proofs.Commits.{old_current}

ltb_of : (a b : ℕ) → a < b → nat_lt a b ≡ true
ltb_of a b less = by (cases_Bool (nat_lt a b))
  where
    by : (nat_lt a b ≡ true) ⊎ (nat_lt a b ≡ false) → nat_lt a b ≡ true
    by (inl h) = h
    by (inr h) = absurd (let more : b ≤ a = ltb-false a b h in omega (arith, more, less))

ltb_not : (a b : ℕ) → b ≤ a → nat_lt a b ≡ false
ltb_not a b more = by (cases_Bool (nat_lt a b))
  where
    by : (nat_lt a b ≡ true) ⊎ (nat_lt a b ≡ false) → nat_lt a b ≡ false
    by (inr h) = h
    by (inl h) = absurd (let less : a < b = ltb-true a b h in omega (arith, more, less))

-- want of memory is told in the same way
pub short_is : (b : Bool) (who : Actor) (number : ℕ) (note : Note) (d : Directory) → or_short b d (look who number note d) ≡ at_directory b who number (DirectoryStep.Look note) d
short_is true who number note d = refl
short_is false who number note d = refl

module _ (who : Actor) (number : ℕ) (note : Note) (d : Directory) where
  pub look_refused : (r : Reply) → refusal d.max note (option_map (λ (object : Object). object.length) (find_object note.name d.objects)) ≡ Some r → look who number note d ≡ answer who number note d r d
  look_refused r e = ap (look_by who number note d (find_object note.name d.objects)) e

  pub look_accepted : refusal d.max note (option_map (λ (object : Object). object.length) (find_object note.name d.objects)) ≡ None → look who number note d ≡ accept who number note d note.kind (object_or_new note.name d.objects)
  look_accepted e = ap (look_by who number note d (find_object note.name d.objects)) e

-- the stripes in the words of the definitions
pub pinned_is : (k : Kind) (g : Shape) (note : Note) (length_now : ℕ) → note.kind ≡ k → pinned_of k (stripe_length g) note.offset note.length length_now ≡ pinned_by k g note length_now
pinned_is Kind.Get g note length_now e = ap (λ k. stripes_between g note.offset (read_end_by k note.offset note.length length_now)) (sym e)
pinned_is Kind.ReadAt g note length_now e = ap (λ k. stripes_between g note.offset (read_end_by k note.offset note.length length_now)) (sym e)
pinned_is Kind.Write g note length_now e = refl
pinned_is Kind.Put g note length_now e = refl
pinned_is Kind.Stat g note length_now e = refl
pinned_is Kind.Delete g note length_now e = refl
pinned_is Kind.Rebuild g note length_now e = refl

-- the object that is there, or a new one, has its versions
pub old_count : (d : Directory) → IsSound d → (name : List ℕ) → length (object_or_new name d.objects).versions ≡ stripes_met (stripe_length d.shape) 0 (object_or_new name d.objects).length
old_count d sound name = by (find_object name d.objects) refl
  where
    by : (o : Option Object) → find_object name d.objects ≡ o → length (unwrap_or o (record { name = name; length = 0; versions = [] })).versions ≡ stripes_met (stripe_length d.shape) 0 (unwrap_or o (record { name = name; length = 0; versions = [] })).length
    by None e = refl
    by (Some object) e = (found_has (HasItsVersions d) (λ (o : Object). bytes_eq name o.name) d.objects object sound.objects e).count

-- each pinned stripe has a current version
pub pins_stand : (d : Directory) → 0 < stripe_length d.shape → IsSound d → (k : Kind) (note : Note)
    → All (λ stripe. Stands d Standing.Current (get_or (object_or_new note.name d.objects).versions stripe 0)) (pinned_by k d.shape note (object_or_new note.name d.objects).length)
pins_stand d some sound k note = λ i x less.
    let object : Object = object_or_new note.name d.objects in
    let within : get_or (pinned_by k d.shape note object.length) i x < stripes_met (stripe_length d.shape) 0 object.length = pins_within d.shape some k note object.length i x less in
    old_current d sound note.name (get_or (pinned_by k d.shape note object.length) i x) 0 (omega (arith, within, old_count d sound note.name))

-- a look that goes on, in the words of the definitions
module _ (who : Actor) (number : ℕ) (note : Note) (d : Directory) (object : Object) where
  -- what is told
  abbrev pub told_begun : Kind → Option ℕ → List Seen → Told
  told_begun k base seen = if has_point k then Told.Pinned (length d.points) object.length seen else Told.Ready base object.length seen

append-nil : {X : Type 0} (xs : List X) → xs ++ [] ≡ xs
append-nil [] = refl
append-nil (x ∷ xs) = ap (λ l. x ∷ l) (append-nil xs)

module _ (who : Actor) (number : ℕ) (note : Note) (d : Directory) where
  abbrev held : Object
  held = object_or_new note.name d.objects

  -- the point of the look, if its call has one
  abbrev one : List Point
  one = record { actor = who; number = number; note = note; event = Event.Pinned } ∷ []

  with_point : (k : Kind) → note.kind ≡ k → has_point k ≡ true → d.points ++ record { actor = who; number = number; note = note; event = Event.Pinned } ∷ [] ≡ d.points ++ looked who number note
  with_point k e has = ap (λ b. d.points ++ cond {A = List Point} b (record { actor = who; number = number; note = note; event = Event.Pinned } ∷ []) []) (sym (ap has_point e ∙ has))

  without_point : (k : Kind) → note.kind ≡ k → has_point k ≡ false → d.points ≡ d.points ++ looked who number note
  without_point k e has = sym (append-nil d.points) ∙ ap (λ b. d.points ++ cond {A = List Point} b (record { actor = who; number = number; note = note; event = Event.Pinned } ∷ []) []) (sym (ap has_point e ∙ has))

  pub accept_begins : (k : Kind) → begins_pass k ≡ true → note.kind ≡ k → (base : Option ℕ) → base ≡ base_by k (last_change note.name d.points)
      → accept who number note d k (object_or_new note.name d.objects)
      ≡ (
        begun_in who number note (pinned_by k d.shape note (object_or_new note.name d.objects).length) base d,
        told_begun who number note d (object_or_new note.name d.objects) k base (seen_in_object d note (pinned_by k d.shape note (object_or_new note.name d.objects).length)),
      )
  accept_begins Kind.Put begins e base is =
      λ i. (begin_pass who number note [] (sym is i) (record d { points = without_point Kind.Put e refl i }), Told.Ready (sym is i) (object_or_new note.name d.objects).length [])
  accept_begins Kind.Write begins e base is =
      λ i. (
        begin_pass who number note (map (seen_at d (object_or_new note.name d.objects)) (pinned_by (e i) d.shape note (object_or_new note.name d.objects).length)) (sym is i) (record d { points = without_point Kind.Write e refl i }),
        Told.Ready (sym is i) (object_or_new note.name d.objects).length (map (seen_at d (object_or_new note.name d.objects)) (pinned_by (e i) d.shape note (object_or_new note.name d.objects).length)),
      )
  accept_begins Kind.Get begins e base is =
      λ i. (
        begin_pass who number note (map (seen_at d (object_or_new note.name d.objects)) (pinned_by (e i) d.shape note (object_or_new note.name d.objects).length)) (sym is i) (record d { points = with_point Kind.Get e refl i }),
        Told.Pinned (length d.points) (object_or_new note.name d.objects).length (map (seen_at d (object_or_new note.name d.objects)) (pinned_by (e i) d.shape note (object_or_new note.name d.objects).length)),
      )
  accept_begins Kind.ReadAt begins e base is =
      λ i. (
        begin_pass who number note (map (seen_at d (object_or_new note.name d.objects)) (pinned_by (e i) d.shape note (object_or_new note.name d.objects).length)) (sym is i) (record d { points = with_point Kind.ReadAt e refl i }),
        Told.Pinned (length d.points) (object_or_new note.name d.objects).length (map (seen_at d (object_or_new note.name d.objects)) (pinned_by (e i) d.shape note (object_or_new note.name d.objects).length)),
      )
  accept_begins Kind.Stat begins e base is = absurd (false≢true begins)
  accept_begins Kind.Delete begins e base is = absurd (false≢true begins)
  accept_begins Kind.Rebuild begins e base is = absurd (false≢true begins)

  -- a repairer's look, where the stripe is there
  pub repair_begins : note.kind ≡ Kind.Rebuild → note.offset < length (object_or_new note.name d.objects).versions
      → look_repair who number note d ≡ (begun_in who number note (note.offset ∷ []) None d, Told.PinnedStripe (seen_at d (object_or_new note.name d.objects) note.offset))
  repair_begins e within = by (find_object note.name d.objects) within
    where
      begun : Object → Directory
      begun object = begin_pass who number note (seen_at d object note.offset ∷ []) None d

      by : (o : Option Object) → note.offset < length (unwrap_or o (record { name = note.name; length = 0; versions = [] })).versions
          → look_repair_by who number note d o
          ≡ (
            begin_pass who number note (seen_at d (unwrap_or o (record { name = note.name; length = 0; versions = [] })) note.offset ∷ []) None (record d { points = d.points ++ looked who number note }),
            Told.PinnedStripe (seen_at d (unwrap_or o (record { name = note.name; length = 0; versions = [] })) note.offset),
          )
      by None within = absurd (let no : note.offset < 0 = within in omega (arith, no))
      by (Some object) within =
          ap (λ b. cond {A = Directory × Told} b (begin_pass who number note (seen_at d object note.offset ∷ []) None d, Told.PinnedStripe (seen_at d object note.offset)) (d, Told.NoSuch)) (ltb_of note.offset (length object.versions) within)
          ∙ (λ i. (begin_pass who number note (seen_at d object note.offset ∷ []) None (record d { points = without_point Kind.Rebuild e refl i }), Told.PinnedStripe (seen_at d object note.offset)))

  pub repair_none : length (object_or_new note.name d.objects).versions ≤ note.offset → look_repair who number note d ≡ (d, Told.NoSuch)
  repair_none past = by (find_object note.name d.objects) past
    where
      by : (o : Option Object) → length (unwrap_or o (record { name = note.name; length = 0; versions = [] })).versions ≤ note.offset → look_repair_by who number note d o ≡ (d, Told.NoSuch)
      by None past = refl
      by (Some object) past = ap (λ b. cond {A = Directory × Told} b (begin_pass who number note (seen_at d object note.offset ∷ []) None d, Told.PinnedStripe (seen_at d object note.offset)) (d, Told.NoSuch)) (ltb_not note.offset (length object.versions) past)

-- the length of the object, or none
pub length_is : (name : List ℕ) (objects : List Object) → unwrap_or (option_map (λ (object : Object). object.length) (find_object name objects)) 0 ≡ (object_or_new name objects).length
length_is name objects = by (find_object name objects)
  where
    by : (o : Option Object) → unwrap_or (option_map (λ (object : Object). object.length) o) 0 ≡ (unwrap_or o (record { name = name; length = 0; versions = [] })).length
    by None = refl
    by (Some object) = refl

-- the kinds that are left
pub other_kinds : (k : CallKind) → (k ≡ kind.Stat → ⊥) → (k ≡ kind.Delete → ⊥) → (k ≡ kind.Rebuild → ⊥) → begins_pass (kind_in k) ≡ true
other_kinds kind.Put s d r = refl
other_kinds kind.Write s d r = refl
other_kinds kind.Get s d r = refl
other_kinds kind.ReadAt s d r = refl
other_kinds kind.Stat s d r = absurd (s refl)
other_kinds kind.Delete s d r = absurd (d refl)
other_kinds kind.Rebuild s d r = absurd (r refl)

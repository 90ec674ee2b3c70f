-- The law on writes.
use Rattle.std.proofs.Common.{◌≡◌, ℕ, ◌+◌, ◌<◌, Bool, true, false, List, length, map, filter, None, Some, option_map, IfSome, sym, ap, subst, subst₂, ◌∙◌, if◌then◌else◌, nat_lt, bytes_eq}
use Rattle.std.proofs.lemmas.List.{length-map}
use Rattle.std.proofs.lemmas.List.Elements.{All-contains}
use Rattle.std.proofs.lemmas.Bool.{true≢false}
use Rattle.clay_grid.specs.Shape.{Shape, stripe_length}
use Rattle.store_map.specs.Content.{content_bytes, content_length, overwrite}
use Rattle.store_map.specs.Limits.{stripes_met}
use Rattle.store_map.specs.PlainMap.{Objects, bytes_of, put, write_at, apply}
use Rattle.store_map.specs.declared.actor.Actor.{Actor}
use Rattle.store_map.specs.declared.call.Call.{Call}
use Rattle.store_map.specs.declared.call.Call.TheVariants as call
use Rattle.store_map.specs.declared.content.Content.{Content}
use Rattle.store_map.specs.declared.reply.Reply.{Reply}
use Rattle.store_map.specs.declared.reply.Reply.TheVariants as reply
use Rattle.store_core.specs.Lists.{is_among}
use Rattle.store_core.specs.Note.{Kind, note_of}
use Rattle.store_core.specs.Directory.{Object, Directory}
use Rattle.store_core.specs.Lookups.{find_object}
use Rattle.store_core.specs.Look.{stripes_between, keeps_old}
use Rattle.store_core.specs.Conditions.{MayBegin, IsOfClient}
use Rattle.store_core.specs.Step.{Places}
use Rattle.store_core.specs.Sound.{HasItsVersions}
use Rattle.run_laws.proofs.SoundLists.{is_in}
use Rattle.run_laws.proofs.SoundStripes.{pins_within}
use Rattle.run_laws.proofs.Passes.{found_has}
use Rattle.session_rules.specs.State.{State as Session}
use Rattle.session_rules.specs.Calls.{serve_call, is_refusal}
use Rattle.session_rules.specs.Seen.{version_of, IsSeenAs}
use Rattle.session_rules.specs.Writes.{IsWriteServedAs, WritesAreServed}
use Rattle.session_rules.proofs.Walks.{by_bool}
use Rattle.session_rules.proofs.Names.{under, under_objects, under_map, is_some_by}
use Rattle.session_rules.proofs.Singles.{options, found_name, lengths_under}
use Rattle.session_rules.proofs.WriteAlone.{write_served}

module _ (tries : ℕ) (stands : List ℕ) (p : Places) (s : Session) (who : Actor) (number : ℕ) (name : List ℕ) (offset : ℕ) (content : Content)
    (h : IsSeenAs p.directory.shape p.directory.max stands p s) (begin : MayBegin p.directory who number) (some : 0 < stripe_length p.directory.shape)
    (client : IsOfClient who (note_of (call.Write name offset content))) (tried : 0 < tries) where
  abbrev d : Directory
  d = p.directory

  abbrev c : Call
  c = call.Write name offset content

  abbrev end : ℕ
  end = offset + content_length content

  abbrev Served : Type 0
  Served = IsWriteServedAs d.shape d.max tries who number c stands p s (serve_call d.shape d.max c s)

  versions_of : option_map (λ (object : Object). object.versions) (find_object name d.objects) ≡ option_map (map (version_of stands)) (bytes_of name s.numbers)
  versions_of = sym (under_objects (λ (object : Object). object.versions) name d.objects) ∙ ap (under name) h.versions ∙ under_map (map (version_of stands)) name s.numbers

  -- its stripes are as many as its bytes meet
  counted : (object : Object) → find_object name d.objects ≡ Some object → length object.versions ≡ stripes_met (stripe_length d.shape) 0 object.length
  counted object e =
      let has : IfSome (find_object name d.objects) (HasItsVersions d) = found_has (HasItsVersions d) (λ (object : Object). bytes_eq name object.name) d.objects h.sound.objects in
      let its : HasItsVersions d object = subst (λ f. IfSome f (HasItsVersions d)) e has in
      its.count

  -- the object, as directory and session have it
  there : (bytes : List ℕ) → bytes_of name s.objects ≡ Some bytes → nat_lt (length bytes) offset ≡ false → nat_lt d.max end ≡ false → Served
  there bytes of_bytes within fits =
      let object : (object : Object) × (find_object name d.objects ≡ Some object) × (object.length ≡ length bytes) =
      is_some_by (λ (object : Object). object.length) (find_object name d.objects) (length bytes) (lengths_under tries stands p s who number name h begin some ∙ ap (option_map length) of_bytes) in
      let numbers : (numbers : List ℕ) × (bytes_of name s.numbers ≡ Some numbers) × (map (version_of stands) numbers ≡ object.0.versions) =
      is_some_by (map (version_of stands)) (bytes_of name s.numbers) object.0.versions (sym versions_of ∙ ap (option_map (λ (object : Object). object.versions)) object.1) in
      let many : length numbers.0 ≡ stripes_met (stripe_length d.shape) 0 object.0.length = sym (length-map numbers.0 (version_of stands)) ∙ ap length numbers.2 ∙ counted object.0 object.1 in
      let keeping : List ℕ = filter (keeps_old d.shape object.0.length offset end) (stripes_between d.shape offset end) in
      let all : (i : ℕ) → is_among i (filter (keeps_old d.shape object.0.length offset end) (stripes_between d.shape offset end)) ≡ true → i < length numbers.0 =
      λ i e. subst (λ n. i < n) (sym many) (All-contains (λ i. i < stripes_met (stripe_length d.shape) 0 object.0.length) keeping i (pins_within d.shape some Kind.Write (note_of c) object.0.length) (is_in i keeping e)) in
      write_served tries stands p s who number name offset content h begin some client tried object.0 object.1 (found_name name d.objects object.0 object.1) numbers.0 numbers.1 (sym numbers.2) bytes of_bytes (sym object.2)
      (ap (λ n. nat_lt n offset) object.2 ∙ within) fits all

  write_taken : is_refusal (apply d.max c s.objects).1 ≡ false → Served
  write_taken taken = options (bytes_of name s.objects) missing by
    where
      missing : bytes_of name s.objects ≡ None → Served
      missing none = absurd (true≢false (sym (ap (λ f. is_refusal (write_at d.max name offset content s.objects f).1) none) ∙ taken))

      by : (bytes : List ℕ) → bytes_of name s.objects ≡ Some bytes → Served
      by bytes of_bytes = by_bool (nat_lt (length bytes) offset) past within
        where
          too_large : Bool → Objects × Reply
          too_large b = if b then (s.objects, reply.TooLarge) else (put name (overwrite bytes offset (content_bytes content)) s.objects, reply.Done)

          found_taken : is_refusal (write_at d.max name offset content s.objects (Some bytes)).1 ≡ false
          found_taken = sym (ap (λ f. is_refusal (write_at d.max name offset content s.objects f).1) of_bytes) ∙ taken

          past : nat_lt (length bytes) offset ≡ true → Served
          past e =
              absurd (true≢false (sym (ap (λ b. is_refusal (let r : Objects × Reply = if b then (s.objects, reply.OutRange)
              else (if nat_lt d.max end then (s.objects, reply.TooLarge) else (put name (overwrite bytes offset (content_bytes content)) s.objects, reply.Done)) in r.1)) e) ∙ found_taken))

          within : nat_lt (length bytes) offset ≡ false → Served
          within e = by_bool (nat_lt d.max end) over (there bytes of_bytes e)
            where
              over : nat_lt d.max end ≡ true → Served
              over large =
                  absurd (true≢false (sym (ap (λ b. is_refusal (let r : Objects × Reply = if b then (s.objects, reply.TooLarge) else (put name (overwrite bytes offset (content_bytes content)) s.objects, reply.Done) in r.1)) large)
                  ∙ sym (ap (λ b. is_refusal (let r : Objects × Reply = if b then (s.objects, reply.OutRange)
                  else (if nat_lt d.max end then (s.objects, reply.TooLarge) else (put name (overwrite bytes offset (content_bytes content)) s.objects, reply.Done)) in r.1)) e) ∙ found_taken))

pub writes_are_served : WritesAreServed
writes_are_served g max tries stands p s who number name offset content some tried h begin client taken = by h.shape h.most some h taken
  where
    by : {g : Shape} {max : ℕ} → p.directory.shape ≡ g → p.directory.max ≡ max → 0 < stripe_length g → IsSeenAs g max stands p s → is_refusal (apply max (call.Write name offset content) s.objects).1 ≡ false →
        IsWriteServedAs g max tries who number (call.Write name offset content) stands p s (serve_call g max (call.Write name offset content) s)
    by same most some h taken =
        subst₂ (λ g max. 0 < stripe_length g → IsSeenAs g max stands p s → is_refusal (apply max (call.Write name offset content) s.objects).1 ≡ false →
        IsWriteServedAs g max tries who number (call.Write name offset content) stands p s (serve_call g max (call.Write name offset content) s)) same most
        (λ some h taken. write_taken tries stands p s who number name offset content h begin some client tried taken) some h taken

-- The law on gets and reads.
use Rattle.std.proofs.Common.{◌≡◌, ◌*◌, ◌-◌, ℕ, ◌+◌, ◌<◌, min, Bool, true, false, List, [], ◌++◌, length, map, take, Option, None, Some, option_map, unwrap_or, drop, subst₂, IfSome, refl, sym, ap, subst, ◌∙◌, inl, inr, if◌then◌else◌, nat_lt, bytes_eq}
use Rattle.std.proofs.lemmas.List.{length-map, append-nil}
use Rattle.std.proofs.lemmas.List.Elements.{All-contains}
use Rattle.std.proofs.lemmas.Bool.{true≢false}
use Rattle.clay_grid.specs.Shape.{Shape, stripe_length}
use Rattle.store_map.specs.PlainMap.{bytes_of, get_all, read_at}
use Rattle.store_map.specs.Limits.{stripes_met}
use Rattle.store_map.specs.declared.actor.Actor.{Actor}
use Rattle.store_map.specs.declared.call.Call.{Call}
use Rattle.store_map.specs.declared.call.Call.TheVariants as call
use Rattle.session_rules.specs.State.{numbers_of}
use Rattle.store_map.specs.declared.reply.Reply.{Reply}
use Rattle.store_map.specs.declared.reply.Reply.TheVariants as reply
use Rattle.store_core.specs.Lists.{is_among}
use Rattle.store_core.specs.Told.{Told}
use Rattle.store_core.specs.Note.{Kind, note_of, refusal}
use Rattle.store_core.specs.Act.{Outcome}
use Rattle.store_core.specs.Directory.{Object, Directory}
use Rattle.store_core.specs.Lookups.{find_object}
use Rattle.store_core.specs.Look.{stripes_between}
use Rattle.store_core.specs.Looks.{look_by}
use Rattle.store_core.specs.Conditions.{MayBegin, IsOfClient}
use Rattle.store_core.specs.Step.{Places}
use Rattle.store_core.specs.Sound.{HasItsVersions}
use Rattle.run_laws.proofs.SoundLists.{is_in}
use Rattle.run_laws.proofs.SoundStripes.{pins_within}
use Rattle.run_laws.proofs.Passes.{found_has}
use Rattle.session_rules.specs.State.{State as Session}
use Rattle.session_rules.specs.declared.session_answer.Answer.{Answer}
use Rattle.session_rules.specs.Gathered.{first_unavailable}
use Rattle.session_rules.specs.Calls.{serve_call, serve_by, unless_unavailable, gathered_by, is_refusal}
use Rattle.session_rules.specs.Placing.{after_call}
use Rattle.session_rules.specs.Seen.{version_of, IsSeenAs}
use Rattle.session_rules.specs.ServedLaws.{IsReading, IsServedAs, ReadsAreServed}
use Rattle.session_rules.proofs.ReadAlone.{refused_alone, pinned_alone}
use Rattle.session_rules.proofs.Agrees.{answer_by}
use Rattle.session_rules.proofs.Names.{under, under_objects, under_map, is_some_by, is_none_by}

cases : {P : Type 0} (b : Bool) → (b ≡ true → P) → (b ≡ false → P) → P
cases true t f = t refl
cases false t f = f refl

-- the kinds that read
abbrev reads : Kind → Bool
reads Kind.Get = true
reads Kind.ReadAt = true
reads _ = false

options : {X P : Type 0} (found : Option X) → (found ≡ None → P) → ((x : X) → found ≡ Some x → P) → P
options None none some = none refl
options (Some x) none some = some x refl

not_reading : (kind : Kind) → reads kind ≡ false → IsReading kind → ⊥
not_reading kind lacks (inl e) = true≢false (sym (ap reads e) ∙ lacks)
not_reading kind lacks (inr e) = true≢false (sym (ap reads e) ∙ lacks)

module _ (tries : ℕ) (stands : List ℕ) (p : Places) (s : Session) (who : Actor) (number : ℕ) (h : IsSeenAs p.directory.shape p.directory.max stands p s)
    (begin : MayBegin p.directory who number) (some : 0 < stripe_length p.directory.shape) where
  abbrev g : Shape
  g = p.directory.shape

  abbrev max_bytes : ℕ
  max_bytes = p.directory.max

  -- the object, as the session has it
  lengths_under : (name : List ℕ) → option_map (λ (object : Object). object.length) (find_object name p.directory.objects) ≡ option_map length (bytes_of name s.objects)
  lengths_under name = sym (under_objects (λ (object : Object). object.length) name p.directory.objects) ∙ ap (under name) h.lengths ∙ under_map length name s.objects

  versions_of : (name : List ℕ) → option_map (λ (object : Object). object.versions) (find_object name p.directory.objects) ≡ option_map (map (version_of stands)) (bytes_of name s.numbers)
  versions_of name = sym (under_objects (λ (object : Object). object.versions) name p.directory.objects) ∙ ap (under name) h.versions ∙ under_map (map (version_of stands)) name s.numbers

  -- its stripes are as many as its bytes meet
  counted : (name : List ℕ) (object : Object) → find_object name p.directory.objects ≡ Some object → length object.versions ≡ stripes_met (stripe_length g) 0 object.length
  counted name object e =
      let has : IfSome (find_object name p.directory.objects) (HasItsVersions p.directory) = found_has (HasItsVersions p.directory) (λ (object : Object). bytes_eq name object.name) p.directory.objects h.sound.objects in
      let its : HasItsVersions p.directory object = subst (λ f. IfSome f (HasItsVersions p.directory)) e has in
      its.count

  -- a read whose bytes may be out leaves the state, whichever way its answer is written
  unless_is : (k : Option Answer → Answer) (answer : Answer) → k None ≡ answer → ((lost : Answer) → k (Some lost) ≡ lost) → (out : Option Answer) → unless_unavailable out s (s, answer) ≡ (s, k out)
  unless_is k answer none some None = ap (λ a. let r : Session × Answer = (s, a) in r) (sym none)
  unless_is k answer none some (Some lost) = ap (λ a. let r : Session × Answer = (s, a) in r) (sym (some lost))

  -- a state that a read leaves
  as_it_was : (c : Call) → after_call g c s.objects s ≡ record s { stripes = s.stripes ++ [] } → after_call g c s.objects s ≡ s
  as_it_was c e = e ∙ ap (λ stripes. record s { stripes = stripes }) (append-nil s.stripes)

  abbrev Law : Call → Type 0
  Law c = IsServedAs g max_bytes tries who number c stands p (serve_call g max_bytes c s)

  get_served : (name : List ℕ) → IsOfClient who (note_of (call.Get name)) → Law (call.Get name)
  get_served name client = options (find_object name p.directory.objects) missing there
    where
      missing : find_object name p.directory.objects ≡ None → Law (call.Get name)
      missing e =
          let none : bytes_of name s.objects ≡ None = is_none_by length (bytes_of name s.objects) (sym (lengths_under name) ∙ ap (option_map (λ (object : Object). object.length)) e) in
          let serves : serve_call g max_bytes (call.Get name) s ≡ (s, Answer.Replied reply.NoSuch) =
          ap (λ f. serve_by (is_refusal (get_all f)) g (call.Get name) s (s.objects, get_all f)) none in
          subst (λ served. IsServedAs g max_bytes tries who number (call.Get name) stands p served) (sym serves)
          (refused_alone stands p s h who number tries begin some (call.Get name) client reply.NoSuch refl
          (ap (λ (f : Option Object). look_by who number (note_of (call.Get name)) p.directory f (refusal max_bytes (note_of (call.Get name)) (option_map (λ (object : Object). object.length) f))) e) refl)

      there : (object : Object) → find_object name p.directory.objects ≡ Some object → Law (call.Get name)
      there object e =
          let bytes : (bytes : List ℕ) × (bytes_of name s.objects ≡ Some bytes) × (length bytes ≡ object.length) =
          is_some_by length (bytes_of name s.objects) object.length (sym (lengths_under name) ∙ ap (option_map (λ (object : Object). object.length)) e) in
          let numbers : (numbers : List ℕ) × (bytes_of name s.numbers ≡ Some numbers) × (map (version_of stands) numbers ≡ object.versions) =
          is_some_by (map (version_of stands)) (bytes_of name s.numbers) object.versions (sym (versions_of name) ∙ ap (option_map (λ (object : Object). object.versions)) e) in
          let count : length numbers.0 ≡ stripes_met (stripe_length g) 0 object.length = sym (length-map numbers.0 (version_of stands)) ∙ ap length numbers.2 ∙ counted name object e in
          let within : (i : ℕ) → is_among i (stripes_between g 0 object.length) ≡ true → i < length numbers.0 =
          λ i e. subst (λ n. i < n) (sym count) (All-contains (λ i. i < stripes_met (stripe_length g) 0 object.length) (stripes_between g 0 object.length) i (pins_within g some Kind.Get (note_of (call.Get name)) object.length) (is_in i (stripes_between g 0 object.length) e)) in
          let said : Option Answer → Answer =
          answer_by stands p s h name object numbers.0 numbers.1 (sym numbers.2) (λ i. 0 - i * stripe_length g) (λ i. min (object.length - i * stripe_length g) (stripe_length g)) (length p.directory.points) (Answer.Replied (reply.Bytes bytes.0)) (Outcome.Served (length p.directory.points)) refl in
          let out : ℕ → List ℕ → Option Answer = λ size ns. first_unavailable g s s.stripes ns (gathered_by g (call.Get name) size) in
          let serves : serve_call g max_bytes (call.Get name) s ≡ (s, said (out object.length numbers.0)) =
          ap (λ f. serve_by (is_refusal (get_all f)) g (call.Get name) s (s.objects, get_all f)) bytes.1
          ∙ ap (λ f. unless_unavailable (out (length (unwrap_or f [])) (numbers_of name s.numbers)) s (after_call g (call.Get name) s.objects s, Answer.Replied (reply.Bytes bytes.0))) bytes.1
          ∙ ap (λ n. unless_unavailable (out n (numbers_of name s.numbers)) s (after_call g (call.Get name) s.objects s, Answer.Replied (reply.Bytes bytes.0))) bytes.2
          ∙ ap (λ f. unless_unavailable (out object.length (unwrap_or f [])) s (after_call g (call.Get name) s.objects s, Answer.Replied (reply.Bytes bytes.0))) numbers.1
          ∙ ap (λ after. unless_unavailable (out object.length numbers.0) s (after, Answer.Replied (reply.Bytes bytes.0))) (as_it_was (call.Get name) refl)
          ∙ unless_is said (Answer.Replied (reply.Bytes bytes.0)) refl (λ lost. refl) (out object.length numbers.0) in
          subst (λ served. IsServedAs g max_bytes tries who number (call.Get name) stands p served) (sym serves)
          (pinned_alone stands p s h who number tries begin some (call.Get name) client name object numbers.0 numbers.1 (sym numbers.2) bytes.0 refl
          (ap (λ (f : Option Object). look_by who number (note_of (call.Get name)) p.directory f (refusal max_bytes (note_of (call.Get name)) (option_map (λ (object : Object). object.length) f))) e) within)

  -- a read
  module _ (name : List ℕ) (offset count : ℕ) (client : IsOfClient who (note_of (call.ReadAt name offset count))) where
    abbrev c : Call
    c = call.ReadAt name offset count

    abbrev look_from : Option Object → Directory × Told
    look_from f = look_by who number (note_of c) p.directory f (refusal max_bytes (note_of c) (option_map (λ (object : Object). object.length) f))

    abbrev serve_from : Option (List ℕ) → Session × Answer
    serve_from f = serve_by (is_refusal (read_at offset count f)) g c s (s.objects, read_at offset count f)

    read_served : Law c
    read_served = options (find_object name p.directory.objects) missing there
      where
        missing : find_object name p.directory.objects ≡ None → Law c
        missing e =
            let none : bytes_of name s.objects ≡ None = is_none_by length (bytes_of name s.objects) (sym (lengths_under name) ∙ ap (option_map (λ (object : Object). object.length)) e) in
            let serves : serve_call g max_bytes c s ≡ (s, Answer.Replied reply.NoSuch) = ap serve_from none in
            subst (λ served. IsServedAs g max_bytes tries who number c stands p served) (sym serves)
            (refused_alone stands p s h who number tries begin some c client reply.NoSuch refl (ap look_from e) refl)

        there : (object : Object) → find_object name p.directory.objects ≡ Some object → Law c
        there object e = cases (nat_lt object.length offset) past within_it
          where
            bytes : (bytes : List ℕ) × (bytes_of name s.objects ≡ Some bytes) × (length bytes ≡ object.length)
            bytes = is_some_by length (bytes_of name s.objects) object.length (sym (lengths_under name) ∙ ap (option_map (λ (object : Object). object.length)) e)

            past : nat_lt object.length offset ≡ true → Law c
            past t =
                let serves : serve_call g max_bytes c s ≡ (s, Answer.Replied reply.OutRange) =
                ap serve_from bytes.1
                ∙ ap (λ b. let r : Reply = if b then reply.OutRange else reply.Bytes (take count (drop offset bytes.0)) in serve_by (is_refusal r) g c s (s.objects, r)) (ap (λ n. nat_lt n offset) bytes.2 ∙ t) in
                subst (λ served. IsServedAs g max_bytes tries who number c stands p served) (sym serves)
                (refused_alone stands p s h who number tries begin some c client reply.OutRange refl
                (ap look_from e ∙ ap (λ b. look_by who number (note_of c) p.directory (Some object) (if b then Some reply.OutRange else None)) t) refl)

            within_it : nat_lt object.length offset ≡ false → Law c
            within_it f =
                let numbers : (numbers : List ℕ) × (bytes_of name s.numbers ≡ Some numbers) × (map (version_of stands) numbers ≡ object.versions) =
                is_some_by (map (version_of stands)) (bytes_of name s.numbers) object.versions (sym (versions_of name) ∙ ap (option_map (λ (object : Object). object.versions)) e) in
                let many : length numbers.0 ≡ stripes_met (stripe_length g) 0 object.length = sym (length-map numbers.0 (version_of stands)) ∙ ap length numbers.2 ∙ counted name object e in
                let end : ℕ = min (offset + count) object.length in
                let within : (i : ℕ) → is_among i (stripes_between g offset (min (offset + count) object.length)) ≡ true → i < length numbers.0 =
                λ i e. subst (λ n. i < n) (sym many) (All-contains (λ i. i < stripes_met (stripe_length g) 0 object.length) (stripes_between g offset (min (offset + count) object.length)) i (pins_within g some Kind.ReadAt (note_of c) object.length) (is_in i (stripes_between g offset (min (offset + count) object.length)) e)) in
                let given : List ℕ = take count (drop offset bytes.0) in
                let said : Option Answer → Answer =
                answer_by stands p s h name object numbers.0 numbers.1 (sym numbers.2) (λ i. offset - i * stripe_length g) (λ i. min (min (offset + count) object.length - i * stripe_length g) (stripe_length g)) (length p.directory.points) (Answer.Replied (reply.Bytes given)) (Outcome.Served (length p.directory.points)) refl in
                let out : ℕ → List ℕ → Option Answer = λ size ns. first_unavailable g s s.stripes ns (gathered_by g c size) in
                let serves : serve_call g max_bytes c s ≡ (s, said (out object.length numbers.0)) =
                ap serve_from bytes.1
                ∙ ap (λ b. let r : Reply = if b then reply.OutRange else reply.Bytes given in serve_by (is_refusal r) g c s (s.objects, r)) (ap (λ n. nat_lt n offset) bytes.2 ∙ f)
                ∙ ap (λ f. unless_unavailable (out (length (unwrap_or f [])) (numbers_of name s.numbers)) s (after_call g c s.objects s, Answer.Replied (reply.Bytes given))) bytes.1
                ∙ ap (λ n. unless_unavailable (out n (numbers_of name s.numbers)) s (after_call g c s.objects s, Answer.Replied (reply.Bytes given))) bytes.2
                ∙ ap (λ f. unless_unavailable (out object.length (unwrap_or f [])) s (after_call g c s.objects s, Answer.Replied (reply.Bytes given))) numbers.1
                ∙ ap (λ after. unless_unavailable (out object.length numbers.0) s (after, Answer.Replied (reply.Bytes given))) (as_it_was c refl)
                ∙ unless_is said (Answer.Replied (reply.Bytes given)) refl (λ lost. refl) (out object.length numbers.0) in
                subst (λ served. IsServedAs g max_bytes tries who number c stands p served) (sym serves)
                (pinned_alone stands p s h who number tries begin some c client name object numbers.0 numbers.1 (sym numbers.2) given refl
                (ap look_from e ∙ ap (λ b. look_by who number (note_of c) p.directory (Some object) (if b then Some reply.OutRange else None)) f) within)

  by_call : (c : Call) → IsOfClient who (note_of c) → IsReading (note_of c).kind → Law c
  by_call (call.Get name) client reading = get_served name client
  by_call (call.ReadAt name offset count) client reading = read_served name offset count client
  by_call (call.Put name content) client reading = absurd (not_reading Kind.Put refl reading)
  by_call (call.Write name offset content) client reading = absurd (not_reading Kind.Write refl reading)
  by_call (call.Stat name) client reading = absurd (not_reading Kind.Stat refl reading)
  by_call (call.Delete name) client reading = absurd (not_reading Kind.Delete refl reading)

pub reads_are_served : ReadsAreServed
reads_are_served g max tries stands p s who number call some h begin client reading =
    by h.shape h.most some h
  where
    by : {g : Shape} {max : ℕ} → p.directory.shape ≡ g → p.directory.max ≡ max → 0 < stripe_length g → IsSeenAs g max stands p s →
        IsServedAs g max tries who number call stands p (serve_call g max call s)
    by {g = g} {max = max} same most some h =
        subst₂ (λ g max. 0 < stripe_length g → IsSeenAs g max stands p s → IsServedAs g max tries who number call stands p (serve_call g max call s)) same most
        (λ some h. by_call tries stands p s who number h begin some call client reading) some h

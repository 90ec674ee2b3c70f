-- The bytes that a get or a read is owed stay those of its pins.
use Rattle.std.proofs.Common.{◌≡◌, ℕ, zero, suc, ◌<◌, IfSome, slice_get, List, [], ◌∷◌, ◌++◌, length, get_or, map, take, drop, Bool, Option, None, Some, All, Contains, MatchOption, refl, sym, ap, subst, ◌∙◌, inl, inr, arith, ◌+◌, ◌-◌}
use Rattle.std.proofs.lemmas.List.{append-nil, take-append-le, take_at, length-append, length_push, get_or_append_left}
use Rattle.std.proofs.lemmas.List.Elements.{All-nil, All-weaker, All-contains}
use Rattle.std.specs.List.{concat}
use Rattle.clay_grid.specs.Shape.{Shape, stripe_length}
use Rattle.store_map.specs.declared.actor.Actor.{Actor}
use Rattle.store_map.specs.declared.reply.Reply.TheVariants as reply
use Rattle.store_core.specs.Told.{Told, Seen}
use Rattle.store_core.specs.Note.{Note}
use Rattle.store_core.specs.Act.{DirectoryStep}
use Rattle.store_core.specs.Gathering.{Part}
use Rattle.store_core.specs.Read.{read_start, read_end, part_of, parts_of}
use Rattle.store_core.specs.Directory.{Pin, Pass, Event, Point, Directory}
use Rattle.store_core.specs.Look.{pin_of}
use Rattle.store_core.specs.AtDirectory.{at_directory}
use Rattle.store_core.specs.Conditions.{MayStep}
use Rattle.store_core.specs.History.{applied}
use Rattle.store_core.specs.PlaceLaws.{new_point, KeepsPlaces}
use Rattle.store_core.specs.SoundPasses.{HasVersions}
use Rattle.store_core.specs.Sound.{IsSound}
use Rattle.store_core.proofs.Places.{directory_keeps_places}
use Rattle.store_core.specs.Content.{contents_by}
use Rattle.run_laws.proofs.SoundLists.{all_by}
use Rattle.store_core.specs.Calls.{Calls, IsOfCall}
use Rattle.run_laws.specs.MapAfter.{map_by}
use Rattle.run_laws.specs.Contents.{HasBytes}
use Rattle.run_laws.specs.ReadLaws.{part_bytes, bytes_read}
use Rattle.run_laws.specs.PinLaws.{IsReading, IsServed, AreServed, StepsKeepServed}
use Rattle.run_laws.proofs.ContentGrows.{count_contents}
use Rattle.run_laws.proofs.Maps.{map_same}
use Rattle.run_laws.proofs.KeptDraw.{map_map}
use Rattle.run_laws.proofs.OwedBytes.{looks_owe_their_pins}
use Rattle.run_laws.proofs.PassesMove.{IsFrom, Begins, Whence, PassesMove, passes_move}
use Rattle.run_laws.proofs.Stays.{contents_stay}
use Rattle.run_laws.proofs.VersionsMove.{versions_move}

-- ---- bytes of pins
-- a pin as a look tells it, without epochs
abbrev seen_of : Pin → Seen
seen_of pin = record { stripe = pin.stripe; version = pin.version; placed = [] }

module _ (g : Shape) (note : Note) (length_now : ℕ) where
  -- a stripe's part
  abbrev part : Seen → Part
  part seen = part_of g (read_start note) (read_end note length_now) seen

  -- pins as one list
  bytes_of_pins : (contents : List (List ℕ)) (pins : List Pin) → map (part_bytes contents) (parts_of g note length_now (map seen_of pins)) ≡ map (λ pin. part_bytes contents (part (seen_of pin))) pins
  bytes_of_pins contents pins = ap (map (part_bytes contents)) (map_map part seen_of pins) ∙ map_map (part_bytes contents) (λ pin. part (seen_of pin)) pins

  -- their bytes stay as more is drawn
  bytes_stay : (contents more : List (List ℕ)) (pins : List Pin) → All (λ (pin : Pin). pin.version < length contents) pins
      → bytes_read contents (parts_of g note length_now (map seen_of pins)) ≡ bytes_read (contents ++ more) (parts_of g note length_now (map seen_of pins))
  bytes_stay contents more pins within =
      ap concat
      (bytes_of_pins contents pins
      ∙ map_same (λ pin. part_bytes contents (part (seen_of pin))) (λ pin. part_bytes (contents ++ more) (part (seen_of pin))) pins
      (λ k pin less. ap (λ (c : List ℕ). take ((part (seen_of (get_or pins k pin))).end - (part (seen_of (get_or pins k pin))).start) (drop (part (seen_of (get_or pins k pin))).start c))
      (sym (get_or_append_left contents more [] (get_or pins k pin).version (within k pin less))))
      ∙ sym (bytes_of_pins (contents ++ more) pins))

  -- those of a look are those of its pins
  bytes_pinned : (contents : List (List ℕ)) (seen : List Seen) → bytes_read contents (parts_of g note length_now seen) ≡ bytes_read contents (parts_of g note length_now (map seen_of (map pin_of seen)))
  bytes_pinned contents seen =
      ap concat
      (map_map (part_bytes contents) part seen
      ∙ sym (bytes_of_pins contents (map pin_of seen) ∙ map_map (λ pin. part_bytes contents (part (seen_of pin))) pin_of seen))

-- ---- places in a longer list
-- what stood at a place
kept_at : {X : Type 0} (P : X → Type 0) (xs ys : List X) (i : ℕ) → i < length xs → IfSome (slice_get xs i) P → IfSome (slice_get (xs ++ ys) i) P
kept_at P [] ys i less h = absurd (omega (arith, less))
kept_at P (x ∷ xs) ys zero less h = h
kept_at P (x ∷ xs) ys (suc i) less h = kept_at P xs ys i (omega (arith, less)) h

-- what comes next
next_at : {X : Type 0} (P : X → Type 0) (xs : List X) (x : X) → P x → IfSome (slice_get (xs ++ x ∷ []) (length xs)) P
next_at P [] x h = h
next_at P (y ∷ xs) x h = next_at P xs x h

-- ---- a pass that was there
served_stays : (calls : Calls) (g : Shape) (most : ℕ) (points more : List Point) (contents later : List (List ℕ)) (p q : Pass) → IsFrom p q → All (λ (pin : Pin). pin.version < length contents) p.pinned
    → IsServed calls g most points contents p → IsServed calls g most (points ++ more) (contents ++ later) q
served_stays calls g most points more contents later p q from within served =
    let before : take served.place (points ++ more) ≡ take served.place points = take-append-le served.place points more (let less : served.place < length points = served.within in omega (arith, less)) in
    record {
      place = served.place;
      within = (let less : served.place < length points = served.within in let long : length (points ++ more) ≡ length points + length more = length-append points more in omega (arith, less, long));
      point =
          subst (λ a. IfSome (slice_get (points ++ more) served.place) (λ point. (point.actor ≡ a) × (point.number ≡ q.number) × (point.event ≡ Event.Pinned))) (sym from.actor)
          (subst (λ n. IfSome (slice_get (points ++ more) served.place) (λ point. (point.actor ≡ p.actor) × (point.number ≡ n) × (point.event ≡ Event.Pinned))) (sym from.number)
          (kept_at (λ (point : Point). (point.actor ≡ p.actor) × (point.number ≡ p.number) × (point.event ≡ Event.Pinned)) points more served.place served.within served.point));
      length_now = served.length_now;
      reply =
          (λ i. (applied most (map_by calls most (before i)) Event.Pinned (calls (from.actor i) (from.number i))).1)
          ∙ served.reply
          ∙ ap reply.Bytes
          (bytes_stay g p.note served.length_now contents later p.pinned within
          ∙ (λ i. bytes_read (contents ++ later) (parts_of g (sym from.note i) served.length_now (map seen_of (sym from.pinned i)))));
    }

-- ---- a step
module _ (calls : Calls) (short : Bool) (who : Actor) (number : ℕ) (step : DirectoryStep) (d : Directory) (some : 0 < stripe_length d.shape) (sound : IsSound d) (has : HasBytes calls d) (served : AreServed calls d)
    (may : MayStep d who number step) (called : IsOfCall calls who number step) where
  abbrev after : Directory
  after = (at_directory short who number step d).0

  abbrev answer : Told
  answer = (at_directory short who number step d).1

  abbrev contents : List (List ℕ)
  contents = contents_by d.shape calls d.versions

  -- contents and points grow
  later : (more : List (List ℕ)) × (contents_by d.shape calls after.versions ≡ contents ++ more)
  later = contents_stay calls short who number step d

  places : KeepsPlaces d after answer
  places = directory_keeps_places short who number step d

  grown : (more : List Point) × (after.points ≡ d.points ++ more)
  grown = by (new_point answer) places.points
    where
      by : (o : Option ℕ) → MatchOption o (after.points ≡ d.points) (λ place. (place ≡ length d.points) × (point : Point) × (after.points ≡ d.points ++ point ∷ [])) → (more : List Point) × (after.points ≡ d.points ++ more)
      by None e = ([], e ∙ sym (append-nil d.points))
      by (Some place) h = (h.1 ∷ [], h.2)

  -- what is owed then
  abbrev Served : Pass → Type 0
  Served q = IsServed calls d.shape d.max (d.points ++ grown.0) (contents ++ later.0) q

  -- a pass that was there
  old_served : (p q : Pass) → Contains d.passes p → IsFrom p q → IsReading q.note.kind → Served q
  old_served p q c from reads =
      served_stays calls d.shape d.max d.points grown.0 contents later.0 p q from
      (All-weaker (λ (pin : Pin). pin.version < length d.versions) (λ (pin : Pin). pin.version < length contents) (λ pin less. subst (λ n. pin.version < n) (sym (count_contents calls d.shape d.versions)) less) p.pinned
      (All-contains (HasVersions d) d.passes p sound.versions c).pinned)
      (All-contains (λ (x : Pass). IsReading x.note.kind → IsServed calls d.shape d.max d.points contents x) d.passes p served c (subst (λ (n : Note). IsReading n.kind) from.note reads))

  -- the point of a look that pins
  abbrev point_of : Note → Point
  point_of note = record { actor = who; number = number; note = note; event = Event.Pinned }

  -- one that begins
  new_served : (q : Pass) → Begins who number step d (at_directory short who number step d) q → Served q
  new_served q begun =
      let may_look : MayStep d who number (DirectoryStep.Look begun.note) = subst (MayStep d who number) begun.is_look may in
      let of_call : IsOfCall calls who number (DirectoryStep.Look begun.note) = subst (IsOfCall calls who number) begun.is_look called in
      let told : (at_directory short who number (DirectoryStep.Look begun.note) d).1 ≡ Told.Pinned begun.point begun.length_now begun.seen = subst (λ s. (at_directory short who number s d).1 ≡ Told.Pinned begun.point begun.length_now begun.seen) begun.is_look begun.told in
      let same : d.points ++ grown.0 ≡ d.points ++ point_of begun.note ∷ [] = sym grown.1 ∙ begun.pointed in
      subst Served (sym begun.is)
      (record {
        place = length d.points;
        within = subst (λ ps. length d.points < length ps) (sym same) (let long : length (d.points ++ point_of begun.note ∷ []) ≡ length d.points + 1 = length_push d.points (point_of begun.note) in omega (arith, long));
        point = subst (λ ps. IfSome (slice_get ps (length d.points)) (λ point. (point.actor ≡ who) × (point.number ≡ number) × (point.event ≡ Event.Pinned))) (sym same)
            (next_at (λ (point : Point). (point.actor ≡ who) × (point.number ≡ number) × (point.event ≡ Event.Pinned)) d.points (point_of begun.note) (refl, refl, refl));
        length_now = begun.length_now;
        reply =
            ap (λ ps. (applied d.max (map_by calls d.max ps) Event.Pinned (calls who number)).1) (take_at d.points grown.0 (length d.points) refl)
            ∙ looks_owe_their_pins calls short who number begun.note d begun.point begun.length_now begun.seen later.0 some sound has may_look of_call told
            ∙ ap reply.Bytes (bytes_pinned d.shape begun.note begun.length_now (contents ++ later.0) begun.seen);
      })

  each : (q : Pass) → Whence who number step d (at_directory short who number step d) q → IsReading q.note.kind → Served q
  each q (inl h) reads = old_served h.0 q h.1 h.2 reads
  each q (inr (inl none)) reads = absurd (none reads)
  each q (inr (inr begun)) reads = new_served q begun

  step_served : AreServed calls after
  step_served =
      let moved : PassesMove who number step d (at_directory short who number step d) = passes_move short who number step d may in
      all_by (λ (q : Pass). IsReading q.note.kind → IsServed calls after.shape after.max after.points (contents_by after.shape calls after.versions) q) after.passes
      (λ q c reads.
      subst (λ g. IsServed calls g after.max after.points (contents_by g calls after.versions) q) (sym (versions_move short who number step d).shape)
      (subst (λ n. IsServed calls d.shape n after.points (contents_by d.shape calls after.versions) q) (sym moved.max)
      (subst (λ ps. IsServed calls d.shape d.max ps (contents_by d.shape calls after.versions) q) (sym grown.1)
      (subst (λ cs. IsServed calls d.shape d.max (d.points ++ grown.0) cs q) (sym later.1) (each q (moved.passes q c) reads)))))

-- the law
pub steps_keep_served : (calls : Calls) → StepsKeepServed calls
steps_keep_served calls =
    record {
      first = λ g max. All-nil (λ (pass : Pass). IsReading pass.note.kind → IsServed calls g max [] [] pass);
      step = λ short who number step d some sound has served may called. step_served calls short who number step d some sound has served may called;
    }

-- A step that adds a point keeps a directory sound, also where objects and versions change with it.
use Rattle.std.proofs.Common.{◌≡◌, ◌⊎◌, ℕ, ◌+◌, ◌<◌, false, ◌&&◌, List, [], ◌∷◌, ◌++◌, length, get_or, map, take, slice_get, Option, None, Some, IfSome, All, Contains, IsTrue, refl, sym, subst, ◌∙◌, inl, inr, arith, bytes_eq}
use Rattle.std.proofs.lemmas.Bool.{cond-false, and_right}
use Rattle.std.proofs.lemmas.Option.{same_Some}
use Rattle.std.proofs.lemmas.List.{take-append-le, length_push}
use Rattle.std.proofs.lemmas.List.Quantifiers.{all_pairs_push}
use Rattle.std.proofs.lemmas.List.Elements.{All-weaker, All-push, All-contains, Contains-get_or}
use Rattle.store_map.specs.declared.reply.Reply.TheVariants as reply
use Rattle.store_core.specs.Lists.{is_among}
use Rattle.store_core.specs.Note.{Kind}
use Rattle.store_core.specs.Directory.{Object, Standing, Version, Pin, Pass, Point, Directory}
use Rattle.store_core.specs.Lookups.{find_object, last_change, is_live, is_change}
use Rattle.store_core.specs.Lengths.{apply_length}
use Rattle.store_core.specs.Replay.{Replays, FitsEvent, after_event, lengths_after}
use Rattle.store_core.specs.SoundPasses.{Stands, PinsCurrent, HasBase, IsRight, IsLive, HasVersions, IsOfItsCall}
use Rattle.store_core.specs.Sound.{HasItsVersions, StandsOnce, AreInOrder, IsPlaced, IsSound, lengths_of}
use Rattle.run_laws.proofs.SoundLists.{all_by}
use Rattle.run_laws.proofs.SoundHistory.{put_anywhere, last_more, replays_more}
use Rattle.run_laws.proofs.SoundParts.{MovesTo, LiveThere, RightThere, PinsPlaced, pins_moved, drawn_moved, placed_moved, pins_placed_moved, has_versions_moved}

-- each current version stands in an object
abbrev pub Listed : Directory → Type 0
Listed d = (number : ℕ) → Stands d Standing.Current number → (i : ℕ) × (i < length d.objects) × IfSome (slice_get d.objects i) (λ object. IsTrue (is_among number object.versions))

-- the last change of an object is as it was, and so is the object, or it is the new point
abbrev pub Follows : Directory → List Object → Point → List ℕ → Type 0
Follows d objects point name =
    ((last_change name (d.points ++ point ∷ []) ≡ last_change name d.points) × (find_object name objects ≡ find_object name d.objects))
    ⊎ (last_change name (d.points ++ point ∷ []) ≡ Some (length d.points))

module _ (d : Directory) (objects : List Object) (versions : List Version) (point : Point) where
  -- the directory after such a step
  abbrev pub with_point : Directory
  with_point = record d { objects = objects; versions = versions; points = d.points ++ point ∷ [] }

  -- what such a step owes
  pub record Adds : Type 0 where
    pub moves : MovesTo d versions
    pub history : Replays d.max [] (d.points ++ point ∷ []) (map (λ object. (object.name, object.length)) objects)
    pub objects_right : All (HasItsVersions with_point) objects
    pub once : StandsOnce with_point
    pub order : (earlier : Point) → Contains d.points earlier → AreInOrder earlier point
    pub newest : (pass : Pass) → Contains d.passes pass → IsOfItsCall pass point
    pub listed : Listed with_point
    pub follows : (name : List ℕ) → Follows d objects point name

  -- one point more
  longer : length (d.points ++ point ∷ []) ≡ length d.points + 1
  longer = length_push d.points point

  -- a write's base stays a point of the history, and the write allowed after it
  base_kept : (pass : Pass) → HasBase d pass → HasBase with_point pass
  base_kept pass h =
      record {
        base = h.base;
        is_base = h.is_base;
        within = (let less : h.base < length d.points = h.within in let more : length (d.points ++ point ∷ []) ≡ length d.points + 1 = longer in omega (arith, less, more));
        allowed =
            (let less : h.base < length d.points = h.within in
            let same : take (h.base + 1) (d.points ++ point ∷ []) ≡ take (h.base + 1) d.points = take-append-le (h.base + 1) d.points (point ∷ []) (omega (arith, less)) in
            subst (λ ps. (apply_length d.max pass.note (lengths_after d.max ps)).1 ≡ reply.Done) (sym same) h.allowed);
      }

  -- a write's pins stay current while its base is the last change
  pins_kept : (pass : Pass) → Follows d objects point pass.note.name → PinsCurrent d pass → HasBase d pass → PinsCurrent with_point pass
  pins_kept pass (inl same) h base e =
      subst (λ (o : Option Object). All (λ (pin : Pin). IfSome o (λ object. slice_get object.versions pin.stripe ≡ Some pin.version)) pass.pinned) (sym same.1) (h (e ∙ same.0))
  pins_kept pass (inr new) h base e =
      let less : base.base < length d.points = base.within in
      let same : base.base ≡ length d.points = same_Some base.base (length d.points) (sym base.is_base ∙ e ∙ new) in
      absurd (omega (arith, less, same))

  -- each pass stays right
  right_kept : (pass : Pass) (kind : Kind) → pass.note.kind ≡ kind → IsRight d pass kind → IsRight with_point pass kind
  right_kept pass Kind.Put e h =
      (h.0, λ count within. put_anywhere d.max pass.note (lengths_after d.max (take count (d.points ++ point ∷ []))) (lengths_after d.max (take 0 d.points)) e ∙ h.1 0 (omega arith), h.2)
  right_kept pass Kind.Write e h = base_kept pass h
  right_kept pass _ e h = h

  -- with that the directory stays sound
  pub added : IsSound d → Adds → IsSound with_point
  added sound adds =
      record {
        history = adds.history;
        objects = adds.objects_right;
        once = adds.once;
        points = all_pairs_push AreInOrder d.points point sound.points (λ k p less. adds.order (get_or d.points k p) (Contains-get_or d.points k p less));
        passes = sound.passes;
        live = all_by (LiveThere with_point) d.passes (λ pass has live. live_kept pass has live (All-contains (LiveThere d) d.passes pass sound.live has live));
        calls = All-weaker (RightThere d) (RightThere with_point) (λ pass h. right_kept pass pass.note.kind refl h) d.passes sound.calls;
        newest = all_by (λ (pass : Pass). All (IsOfItsCall pass) (d.points ++ point ∷ [])) d.passes
            (λ pass has. All-push (IsOfItsCall pass) d.points point (All-contains (λ (p : Pass). All (IsOfItsCall p) d.points) d.passes pass sound.newest has) (adds.newest pass has));
        apart = sound.apart;
        listed = adds.listed;
        placed = All-weaker (IsPlaced d) (IsPlaced with_point) (λ version h. record { row_or_none = h.row_or_none; current = h.current; drawn = h.drawn }) versions (placed_moved d versions sound adds.moves);
        pinned_placed = all_by (PinsPlaced with_point) d.passes
            (λ pass has. pins_placed_moved d versions sound adds.moves pass (All-contains (HasVersions d) d.passes pass sound.versions has) (All-contains (PinsPlaced d) d.passes pass sound.pinned_placed has));
        versions = All-weaker (HasVersions d) (HasVersions with_point)
            (λ pass h. record { pinned = (has_versions_moved d versions sound adds.moves pass h).0; drawn = (has_versions_moved d versions sound adds.moves pass h).1 }) d.passes sound.versions;
      }
    where
      live_kept : (pass : Pass) → Contains d.passes pass → IsTrue (is_live pass.reaped) → IsLive d pass → IsLive with_point pass
      live_kept pass has live h =
          record {
            pins = pins_moved d versions sound adds.moves pass has live h;
            drawn = drawn_moved d versions sound adds.moves pass has live h;
            differ = h.differ;
            all_drawn = h.all_drawn;
            current = λ e. pins_kept pass (adds.follows pass.note.name) (h.current e) (subst (IsRight d pass) e (All-contains (RightThere d) d.passes pass sound.calls has));
          }

-- ---- a point alone
-- nothing moves
pub stays : (d : Directory) → MovesTo d d.versions
stays d =
    record {
      count = refl;
      each = λ number before e. record {
        after = before;
        found = e;
        moves = record { pinned = λ _ _ _ _ _ _ h. h; drawn = λ _ _ _ _ h. h; placed = λ h. h; whole = λ h. h };
      };
    }

-- a point that is no change changes no object
pub no_change_follows : (d : Directory) (point : Point) → is_change point.event ≡ false → (name : List ℕ) → Follows d d.objects point name
no_change_follows d point none name =
    inl (
      last_more name 0 None d.points point
          ∙ cond-false (bytes_eq name point.note.name && is_change point.event) (Some (0 + length d.points)) (last_change name d.points) (and_right (bytes_eq name point.note.name) (is_change point.event) none),
      refl,
    )

-- a point alone, of a event that the map gives and that changes nothing
pub point_added : (d : Directory) (point : Point) → IsSound d → is_change point.event ≡ false
    → FitsEvent point.event point.note.kind (apply_length d.max point.note (lengths_of d)).1 → after_event point.event (lengths_of d) (apply_length d.max point.note (lengths_of d)).0 ≡ lengths_of d
    → ((earlier : Point) → Contains d.points earlier → AreInOrder earlier point) → ((pass : Pass) → Contains d.passes pass → IsOfItsCall pass point) → IsSound (record d { points = d.points ++ point ∷ [] })
point_added d point sound none marked same order newest =
    added d d.objects d.versions point sound
    (record {
      moves = stays d;
      history = replays_more d.max [] d.points (lengths_of d) point (lengths_of d) sound.history marked same;
      objects_right = All-weaker (HasItsVersions d) (HasItsVersions (with_point d d.objects d.versions point)) (λ object h. record { count = h.count; current = h.current }) d.objects sound.objects;
      once = sound.once;
      order = order;
      newest = newest;
      listed = sound.listed;
      follows = no_change_follows d point none;
    })

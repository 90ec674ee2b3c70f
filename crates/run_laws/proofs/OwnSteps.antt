-- Each step at the directory that an actor makes with its ticket leaves agreement with the ticket that it gives back.
use Rattle.std.proofs.Common.{◌≡◌, ◌⊎◌, ℕ, ◌+◌, ◌<◌, ◌≤◌, Bool, true, false, cond, not, nat_lt, List, [], ◌∷◌, ◌++◌, length, map, filter, get_or, Option, None, Some, option_map, unwrap_or, MatchOption, IfSome, IsTrue, All, Contains, bytes_eq, refl, sym, ap, subst, subst₂, ◌∙◌, inl, inr, arith}
use Rattle.std.proofs.lemmas.Bool.{true≢false, false≢true, cond_both, cond-true, eq-eqb, ltb-true, and_cases}
use Rattle.std.proofs.lemmas.Option.{same_Some, none-some}
use Rattle.std.proofs.lemmas.List.{length_push}
use Rattle.std.proofs.lemmas.List.Elements.{All-nil, All-cons, All-head, All-tail, All-weaker, All-push, All-contains, Contains-get_or}
use Rattle.std.specs.List.{list_all, range_with_len}
use Rattle.clay_grid.specs.Shape.{stripe_length}
use Rattle.store_map.specs.declared.actor.Actor.{Actor}
use Rattle.store_map.specs.declared.reply.Reply.{Reply}
use Rattle.store_map.specs.declared.reply.Reply.TheVariants as reply
use Rattle.store_map.specs.declared.placement.Placement.{Placement}
use Rattle.store_core.specs.Told.{Told, Seen}
use Rattle.store_core.specs.Note.{Note, Kind, refusal}
use Rattle.store_core.specs.Act.{DirectoryStep, takes_memory}
use Rattle.store_core.specs.Directory.{Object, Standing, Pin, Pass, Event, Point, Directory}
use Rattle.store_core.specs.Lookups.{same_actor, find_object, pass_of, last_change, is_current, is_current_standing, holds_standing}
use Rattle.store_core.specs.Look.{pinned_by, begin_pass, append_point, seen_at, pin_of}
use Rattle.store_core.specs.Looks.{accept, look_by, look_repair_by}
use Rattle.store_core.specs.PassSteps.{close_pass, give_up_drawn, draw, end_pass, confirm, repaired, touched}
use Rattle.store_core.specs.Commit.{same_point, commit, commit_object, is_overtaken}
use Rattle.store_core.specs.AtDirectory.{on_pass, made_at_directory, unless_short, at_directory}
use Rattle.store_core.specs.SoundPasses.{Stands, HasBase, IsRight, IsOfItsCall}
use Rattle.store_core.specs.Sound.{HasItsVersions, IsSound}
use Rattle.store_core.specs.Conditions.{MayBegin, MayStep}
use Rattle.store_core.specs.Agreement.{Seat, HeldPass, ActorToken, IsTold, IsLater, AreBelow, WasChanged, IsBase, IsInObject, KeepsOrder, AgreesWithSeat, AgreesWithPass}
use Rattle.store_core.specs.Tokens.{after_look, after_pass_step, seat_after, MayLook, MayGoOn}
use Rattle.run_laws.specs.AgreementLaws.{GoesOn, StepsMayBeMade, AgreementGoesOn}
use Rattle.run_laws.proofs.Passes.{closed_own}
use Rattle.run_laws.proofs.SoundLists.{among, is_in, found_in}
use Rattle.run_laws.proofs.SoundVersions.{StandsThere, stands_there}
use Rattle.run_laws.proofs.SoundParts.{RightThere}
use Rattle.run_laws.proofs.SoundClose.{held_pass}
use Rattle.run_laws.proofs.SoundLook.{new_pass, look_sound, client_note, no_rebuild, rebuild_note}
use Rattle.run_laws.proofs.Beside.{self_actor, last_below, changed_own}
use Rattle.run_laws.proofs.BesideSteps.{others_agree}

-- ---- what may be done
-- a seat's actor may begin
may_begin : (d : Directory) (seat : Seat) (number : ℕ) → AgreesWithSeat d seat → seat.unused ≤ number → MayBegin d seat.actor number
may_begin d seat number agrees unused =
    record {
      no_pass = agrees.no_pass;
      numbers =
          All-weaker (λ (p : Point). IsTrue (same_actor p.actor seat.actor) → p.number < seat.unused)
          (λ (p : Point). IsTrue (same_actor p.actor seat.actor) → (p.number ≤ number) × (p.number ≡ number → p.event ≡ Event.Reaped))
          (λ p below own. let less : p.number < seat.unused = below own in (omega (arith, less, unused), λ same. absurd (omega (arith, less, unused, same)))) d.points agrees.numbers;
    }

may_look : (seat : Seat) (number : ℕ) (step : DirectoryStep) (d : Directory) → AgreesWithSeat d seat → MayLook seat number step → MayStep d seat.actor number step
may_look seat number (DirectoryStep.Look note) d agrees may = (may_begin d seat number agrees may.0, may.1)
may_look seat number (DirectoryStep.LookRepair note) d agrees may = (may_begin d seat number agrees may.0, may.1)
may_look seat number DirectoryStep.Draw d agrees may = absurd may
may_look seat number (DirectoryStep.Commit placed) d agrees may = absurd may
may_look seat number DirectoryStep.End d agrees may = absurd may
may_look seat number DirectoryStep.Confirm d agrees may = absurd may
may_look seat number (DirectoryStep.Repaired server epoch) d agrees may = absurd may
may_look seat number DirectoryStep.NextGarbage d agrees may = absurd may
may_look seat number (DirectoryStep.Swept version) d agrees may = absurd may
may_look seat number (DirectoryStep.Reap actor) d agrees may = absurd may

may_go_on : (held : HeldPass) (step : DirectoryStep) (d : Directory) → AgreesWithPass d held → MayGoOn d held step → MayStep d held.pass.actor held.pass.number step
may_go_on held DirectoryStep.Draw d agrees may = (record (held.pass) { reaped = agrees.reap }, record { is_pass = agrees.is_pass; kind = may.0 }, may.1)
may_go_on held (DirectoryStep.Commit placed) d agrees may =
    (record (held.pass) { reaped = agrees.reap }, record { is_pass = agrees.is_pass; kind = may.0 }, record { drawn = may.1.drawn; rows = may.1.rows; whole = may.1.whole })
may_go_on held DirectoryStep.End d agrees may = tt
may_go_on held DirectoryStep.Confirm d agrees may = (record (held.pass) { reaped = agrees.reap }, record { is_pass = agrees.is_pass; kind = may })
may_go_on held (DirectoryStep.Repaired server epoch) d agrees may = (record (held.pass) { reaped = agrees.reap }, record { is_pass = agrees.is_pass; kind = may.0 }, may.1)
may_go_on held (DirectoryStep.Look note) d agrees may = absurd may
may_go_on held (DirectoryStep.LookRepair note) d agrees may = absurd may
may_go_on held DirectoryStep.NextGarbage d agrees may = absurd may
may_go_on held (DirectoryStep.Swept version) d agrees may = absurd may
may_go_on held (DirectoryStep.Reap actor) d agrees may = absurd may

-- ---- points that come
-- the history is longer
more_points : (d : Directory) (point : Point) → length d.points < length (d.points ++ point ∷ [])
more_points d point = let f : length (d.points ++ point ∷ []) ≡ length d.points + 1 = length_push d.points point in omega (arith, f)

-- numbers below one are below a later one
below_later : (who : Actor) (n m : ℕ) (points : List Point) → n ≤ m → AreBelow who n points → AreBelow who m points
below_later who n m points more below =
    All-weaker (λ (p : Point). IsTrue (same_actor p.actor who) → p.number < n) (λ (p : Point). IsTrue (same_actor p.actor who) → p.number < m)
    (λ p h same. let less : p.number < n = h same in omega (arith, less, more)) points below

-- with a point of this number, they are below the next one
below_next : (who : Actor) (number : ℕ) (points : List Point) (point : Point) → point.number ≡ number → AreBelow who (number + 1) points → AreBelow who (number + 1) (points ++ point ∷ [])
below_next who number points point same below =
    All-push (λ (p : Point). IsTrue (same_actor p.actor who) → p.number < number + 1) points point below (λ _. omega (arith, same))

-- ---- looks
module _ (seat : Seat) (number : ℕ) (note : Note) (d : Directory) (agrees : AgreesWithSeat d seat) (unused : seat.unused ≤ number) where
  abbrev who : Actor
  who = seat.actor

  abbrev Looked : Directory × Told → Type 0
  Looked result = GoesOn result.0 (ActorToken.Seated seat) (after_look seat number note result.1)

  -- all numbers are below the next one
  below : AreBelow who (number + 1) d.points
  below = below_later who seat.unused (number + 1) d.points (omega (arith, unused)) agrees.numbers

  -- a reply
  answered : (after : Directory) (point : Point) (given : Reply) → after.passes ≡ d.passes → after.points ≡ d.points ++ point ∷ [] → point.number ≡ number → Looked (after, Told.Answer (length d.points) given)
  answered after point given passes points numbered =
      record {
        agrees = record {
          no_pass = ap (λ ps. pass_of who (record d { passes = ps })) passes ∙ agrees.no_pass;
          numbers = subst (AreBelow who (number + 1)) (sym points) (below_next who number d.points point numbered below);
          told = subst (λ (ps : List Point). length d.points < length ps) (sym points) (more_points d point);
        };
        later = inr agrees.told;
      }

  -- the directory has the pass that begins
  has_begun : (pass : Pass) (passes : List Pass) → pass.actor ≡ who → (found : Option Pass) → cond {A = Option Pass} (same_actor who pass.actor) (Some pass) found ≡ Some pass
  has_begun pass passes mine found = cond-true (same_actor who pass.actor) (Some pass) found (ap (same_actor who) mine ∙ self_actor who)

  -- a put or a write begins
  ready : (base : Option ℕ) (length_now : ℕ) (seen : List Seen) → KeepsOrder note.kind (begin_pass who number note seen base d) (new_pass who number note seen base) seat.told
      → Looked (begin_pass who number note seen base d, Told.Ready base length_now seen)
  ready base length_now seen order =
      record {
        agrees = record { reap = None; is_pass = has_begun (new_pass who number note seen base) d.passes refl (pass_of who d); live = refl; told = agrees.told; order = order };
        later = inl refl;
      }

  -- a get or a read begins, at a new point
  pinned : (length_now : ℕ) (seen : List Seen) → KeepsOrder note.kind (begin_pass who number note seen None (append_point who number note Event.Pinned d)) (new_pass who number note seen None) (Some (length d.points))
      → Looked (begin_pass who number note seen None (append_point who number note Event.Pinned d), Told.Pinned (length d.points) length_now seen)
  pinned length_now seen order =
      record {
        agrees = record {
          reap = None;
          is_pass = has_begun (new_pass who number note seen None) d.passes refl (pass_of who d);
          live = refl;
          told = more_points d (record { actor = who; number = number; note = note; event = Event.Pinned });
          order = order;
        };
        later = inr agrees.told;
      }

  -- the orders of the calls that keep none
  free : (kind : Kind) (after : Directory) (pass : Pass) (told : Option ℕ) → note.kind ≡ kind → KeepsOrder kind after pass told → KeepsOrder note.kind after pass told
  free kind after pass told e h = subst (λ k. KeepsOrder k after pass told) (sym e) h

  -- a write's base is the last change of its object
  based : (seen : List Seen) → note.kind ≡ Kind.Write → IsSound (begin_pass who number note seen (last_change note.name d.points) d) → HasBase (begin_pass who number note seen (last_change note.name d.points) d) (new_pass who number note seen (last_change note.name d.points))
  based seen e sound =
      subst (IsRight (begin_pass who number note seen (last_change note.name d.points) d) (new_pass who number note seen (last_change note.name d.points))) e
      (All-head (RightThere (begin_pass who number note seen (last_change note.name d.points) d)) (new_pass who number note seen (last_change note.name d.points)) d.passes sound.calls)

  write_ready : (length_now : ℕ) (seen : List Seen) → note.kind ≡ Kind.Write → IsSound (begin_pass who number note seen (last_change note.name d.points) d)
      → Looked (begin_pass who number note seen (last_change note.name d.points) d, Told.Ready (last_change note.name d.points) length_now seen)
  write_ready length_now seen e sound =
      let base : HasBase (begin_pass who number note seen (last_change note.name d.points) d) (new_pass who number note seen (last_change note.name d.points)) = based seen e sound in
      ready (last_change note.name d.points) length_now seen
      (free Kind.Write (begin_pass who number note seen (last_change note.name d.points) d) (new_pass who number note seen (last_change note.name d.points)) seat.told e
      (below_later who seat.unused number d.points unused agrees.numbers, inl (base.base, base.is_base, base.is_base)))

  accepted : (kind : Kind) (object : Object) → note.kind ≡ kind → (note.kind ≡ Kind.Rebuild → ⊥) → IsSound (accept who number note d kind object).0 → Looked (accept who number note d kind object)
  accepted Kind.Put object e client sound = ready None object.length [] (free Kind.Put (begin_pass who number note [] None d) (new_pass who number note [] None) seat.told e tt)
  accepted Kind.Write object e client sound = write_ready object.length (map (seen_at d object) (pinned_by note.kind d.shape note object.length)) e sound
  accepted Kind.Stat object e client sound = answered _ (record { actor = who; number = number; note = note; event = Event.Answer (reply.Length object.length) }) (reply.Length object.length) refl refl refl
  accepted Kind.Delete object e client sound = answered _ (record { actor = who; number = number; note = note; event = Event.Answer reply.Done }) reply.Done refl refl refl
  accepted Kind.Get object e client sound =
      pinned object.length (map (seen_at d object) (pinned_by note.kind d.shape note object.length)) (free Kind.Get _ _ (Some (length d.points)) e tt)
  accepted Kind.ReadAt object e client sound =
      pinned object.length (map (seen_at d object) (pinned_by note.kind d.shape note object.length)) (free Kind.ReadAt _ _ (Some (length d.points)) e tt)
  accepted Kind.Rebuild object e client sound = absurd (client e)

  looked : (found : Option Object) (refused : Option Reply) → (note.kind ≡ Kind.Rebuild → ⊥) → IsSound (look_by who number note d found refused).0 → Looked (look_by who number note d found refused)
  looked found (Some given) client sound = answered _ (record { actor = who; number = number; note = note; event = Event.Answer given }) given refl refl refl
  looked found None client sound = accepted note.kind _ refl client sound

  -- a rebuild begins where its stripe is there
  stripe_in : (object : Object) → note.kind ≡ Kind.Rebuild → find_object note.name d.objects ≡ Some object → note.offset < length object.versions
      → KeepsOrder note.kind (begin_pass who number note (seen_at d object note.offset ∷ []) None d) (new_pass who number note (seen_at d object note.offset ∷ []) None) seat.told
  stripe_in object e found less =
      free Kind.Rebuild (begin_pass who number note (seen_at d object note.offset ∷ []) None d) (new_pass who number note (seen_at d object note.offset ∷ []) None) seat.told e
      (All-cons (λ (pin : Pin). IsInObject d.objects note.name pin.version ⊎ WasChanged d.points note.name seat.told) (pin_of (seen_at d object note.offset)) []
      (inl (object, found, among (get_or object.versions note.offset 0) object.versions (Contains-get_or object.versions note.offset 0 less)))
      (All-nil (λ (pin : Pin). IsInObject d.objects note.name pin.version ⊎ WasChanged d.points note.name seat.told)))

  looked_repair : (found : Option Object) → find_object note.name d.objects ≡ found → note.kind ≡ Kind.Rebuild → Looked (look_repair_by who number note d found)
  looked_repair None e rebuilds = record { agrees = agrees; later = inl refl }
  looked_repair (Some object) e rebuilds =
      cond_both {A = Directory × Told} (nat_lt note.offset (length object.versions))
      (begin_pass who number note (seen_at d object note.offset ∷ []) None d, Told.PinnedStripe (seen_at d object note.offset)) (d, Told.NoSuch) Looked
      (λ t. record {
        agrees = record {
          reap = None;
          is_pass = has_begun (new_pass who number note (seen_at d object note.offset ∷ []) None) d.passes refl (pass_of who d);
          live = refl;
          told = agrees.told;
          order = stripe_in object rebuilds e (ltb-true note.offset (length object.versions) t);
        };
        later = inl refl;
      })
      (λ _. record { agrees = agrees; later = inl refl })

  -- memory was wanting
  short_looked : Looked (d, Told.Short)
  short_looked = record { agrees = agrees; later = inl refl }

look_agrees : (short : Bool) (seat : Seat) (number : ℕ) (note : Note) (d : Directory) → 0 < stripe_length d.shape → IsSound d → AgreesWithSeat d seat → MayLook seat number (DirectoryStep.Look note)
    → GoesOn (at_directory short seat.actor number (DirectoryStep.Look note) d).0 (ActorToken.Seated seat) (after_look seat number note (at_directory short seat.actor number (DirectoryStep.Look note) d).1)
look_agrees true seat number note d some sound agrees may = short_looked seat number note d agrees may.0
look_agrees false seat number note d some sound agrees may =
    looked seat number note d agrees may.0 (find_object note.name d.objects) (refusal d.max note (option_map (λ object. object.length) (find_object note.name d.objects)))
    (no_rebuild note (client_note seat.actor note may.1))
    (look_sound seat.actor number note d some sound (may_begin d seat number agrees may.0, may.1))

look_repair_agrees : (short : Bool) (seat : Seat) (number : ℕ) (note : Note) (d : Directory) → AgreesWithSeat d seat → MayLook seat number (DirectoryStep.LookRepair note)
    → GoesOn (at_directory short seat.actor number (DirectoryStep.LookRepair note) d).0 (ActorToken.Seated seat) (after_look seat number note (at_directory short seat.actor number (DirectoryStep.LookRepair note) d).1)
look_repair_agrees true seat number note d agrees may = short_looked seat number note d agrees may.0
look_repair_agrees false seat number note d agrees may =
    looked_repair seat number note d agrees may.0 (find_object note.name d.objects) refl (rebuild_note seat.actor note may.1)

-- ---- steps on a pass
module _ (held : HeldPass) (d : Directory) (sound : IsSound d) (agrees : AgreesWithPass d held) where
  abbrev me : Actor
  me = held.pass.actor

  -- the pass that the directory has
  abbrev real : Option ℕ → Pass
  real reap = record (held.pass) { reaped = reap }

  abbrev Stepped : Directory × Told → Type 0
  Stepped result = GoesOn result.0 (ActorToken.InCall held) (after_pass_step held result.1)

  -- all numbers of the actor's points are below the next one
  numbers_next : AreBelow me (held.pass.number + 1) d.points
  numbers_next =
      All-weaker (IsOfItsCall (real agrees.reap)) (λ (p : Point). IsTrue (same_actor p.actor me) → p.number < held.pass.number + 1)
      (λ p h same. let most : p.number ≤ held.pass.number = h.not_later same in omega (arith, most)) d.points
      (All-contains (λ (p : Pass). All (IsOfItsCall p) d.points) d.passes (real agrees.reap) sound.newest (held_pass me d (real agrees.reap) agrees.is_pass).has)

  -- a pass that closes leaves a seat
  seated : (after : Directory) (unused : ℕ) (told : Option ℕ) → after.passes ≡ filter (λ other. not (same_actor me other.actor)) d.passes → AreBelow me unused after.points → IsTold after told
      → AgreesWithSeat after (record { actor = me; unused = unused; told = told })
  seated after unused told gone below there =
      record { no_pass = ap (λ ps. pass_of me (record d { passes = ps })) gone ∙ closed_own me d.passes; numbers = below; told = there }

  -- it ends without a point
  ends : (after : Directory) → after.passes ≡ filter (λ other. not (same_actor me other.actor)) d.passes → after.points ≡ d.points → Stepped (after, Told.Ended)
  ends after gone points =
      record {
        agrees = seated after (held.pass.number + 1) held.told gone (subst (AreBelow me (held.pass.number + 1)) (sym points) numbers_next)
            (subst (λ (ps : List Point). IfSome held.told (λ p. p < length ps)) (sym points) agrees.told);
        later = inl refl;
      }

  -- an earlier point is told
  tells : (after : Directory) (unused point : ℕ) → after.passes ≡ filter (λ other. not (same_actor me other.actor)) d.passes → after.points ≡ d.points → AreBelow me unused d.points → point < length d.points
      → AgreesWithSeat after (record { actor = me; unused = unused; told = Some point })
  tells after unused point gone points below less =
      seated after unused (Some point) gone (subst (AreBelow me unused) (sym points) below) (subst (λ (ps : List Point). point < length ps) (sym points) less)

  -- a reaped pass is closed
  unless : (step : Pass → Directory → Directory × Told) → (KeepsOrder held.pass.note.kind d held.pass held.told → pass_of me d ≡ Some (real None) → Stepped (step (real None) d))
      → (reap : Option ℕ) → pass_of me d ≡ Some (real reap) → MatchOption reap (KeepsOrder held.pass.note.kind d held.pass held.told) (λ point. IsLater held.told point × (point < length d.points))
      → Stepped (on_pass step (Some (real reap)) d)
  unless step goes None is order = goes order is
  unless step goes (Some point) is order =
      record { agrees = tells (close_pass (real (Some point)) d) (held.pass.number + 1) point refl refl numbers_next order.1; later = inr order.0 }

  stepped : (step : Pass → Directory → Directory × Told) → (KeepsOrder held.pass.note.kind d held.pass held.told → pass_of me d ≡ Some (real None) → Stepped (step (real None) d)) → Stepped (on_pass step (pass_of me d) d)
  stepped step goes = subst (λ found. Stepped (on_pass step found d)) (sym agrees.is_pass) (unless step goes agrees.reap agrees.is_pass agrees.order)

  -- ---- draw
  drawn_order : (kind : Kind) (drawn : List ℕ) (after : Directory) → after.points ≡ d.points → after.objects ≡ d.objects → KeepsOrder kind d held.pass held.told → KeepsOrder kind after (record (held.pass) { drawn = drawn }) held.told
  drawn_order Kind.Write drawn after points objects h =
      (subst (AreBelow me held.pass.number) (sym points) h.0, subst (λ ps. IsBase ps held.pass ⊎ WasChanged ps held.pass.note.name held.told) (sym points) h.1)
  drawn_order Kind.Rebuild drawn after points objects h =
      subst (λ os. All (λ pin. IsInObject os held.pass.note.name pin.version ⊎ WasChanged after.points held.pass.note.name held.told) held.pass.pinned) (sym objects)
      (subst (λ ps. All (λ pin. IsInObject d.objects held.pass.note.name pin.version ⊎ WasChanged ps held.pass.note.name held.told) held.pass.pinned) (sym points) h)
  drawn_order Kind.Put drawn after points objects h = tt
  drawn_order Kind.Get drawn after points objects h = tt
  drawn_order Kind.ReadAt drawn after points objects h = tt
  drawn_order Kind.Stat drawn after points objects h = tt
  drawn_order Kind.Delete drawn after points objects h = tt

  drew : KeepsOrder held.pass.note.kind d held.pass held.told → pass_of me d ≡ Some (real None) → Stepped (draw (real None) d)
  drew order is =
      record {
        agrees = record {
          reap = None;
          is_pass = changed_own me (λ other. record other { drawn = range_with_len (length d.versions) (length (touched d held.pass.note)) }) (λ _. refl) d.passes (real None) is;
          live = agrees.live;
          told = agrees.told;
          order = drawn_order held.pass.note.kind (range_with_len (length d.versions) (length (touched d held.pass.note))) (draw (real None) d).0 refl refl order;
        };
        later = inl refl;
      }

  -- ---- commit
  -- where a write was overtaken
  Overtaken : Type 0
  Overtaken = AreBelow me held.pass.number d.points × WasChanged d.points held.pass.note.name held.told

  overtaken : (kind : Kind) → is_overtaken kind held.pass.base (last_change held.pass.note.name d.points) ≡ true → KeepsOrder kind d held.pass held.told → Overtaken
  unfolding Overtaken
  overtaken Kind.Write e order = by order.1
    where
      by : IsBase d.points held.pass ⊎ WasChanged d.points held.pass.note.name held.told → AreBelow me held.pass.number d.points × WasChanged d.points held.pass.note.name held.told
      by (inr was) = (order.0, was)
      by (inl base) =
          let same : same_point (Some base.0) (Some base.0) ≡ true = eq-eqb base.0 base.0 refl in
          let other : not (same_point (Some base.0) (Some base.0)) ≡ true = subst₂ (λ a b. not (same_point a b) ≡ true) base.2 base.1 e in
          absurd (true≢false (sym other ∙ ap not same))
  overtaken Kind.Put e order = absurd (false≢true e)
  overtaken Kind.Get e order = absurd (false≢true e)
  overtaken Kind.ReadAt e order = absurd (false≢true e)
  overtaken Kind.Stat e order = absurd (false≢true e)
  overtaken Kind.Delete e order = absurd (false≢true e)
  overtaken Kind.Rebuild e order = absurd (false≢true e)

  -- a newer change is told
  newer : (after : Directory) (unused : ℕ) → after.passes ≡ filter (λ other. not (same_actor me other.actor)) d.passes → after.points ≡ d.points → AreBelow me unused d.points
      → WasChanged d.points held.pass.note.name held.told → GoesOn after (ActorToken.InCall held) (seat_after held unused (Some (unwrap_or (last_change held.pass.note.name d.points) 0)))
  newer after unused gone points below was =
      subst (λ (o : Option ℕ). GoesOn after (ActorToken.InCall held) (seat_after held unused (Some (unwrap_or o 0)))) (sym was.1)
      (record { agrees = tells after unused was.0 gone points below (last_below held.pass.note.name d.points was.0 was.1); later = inr was.2 })

  committed : (placed : List (List Placement)) → KeepsOrder held.pass.note.kind d held.pass held.told → pass_of me d ≡ Some (real None) → Stepped (commit placed (real None) d)
  unfolding Overtaken
  committed placed order is =
      cond_both {A = Directory × Told} (is_overtaken held.pass.note.kind held.pass.base (last_change held.pass.note.name d.points))
      (close_pass (real None) (give_up_drawn (real None) d), Told.Changed (unwrap_or held.pass.base 0) (unwrap_or (last_change held.pass.note.name d.points) 0))
      (commit_object placed (real None) (unwrap_or (find_object held.pass.note.name d.objects) (record { name = held.pass.note.name; length = 0; versions = [] })) d) Stepped
      (λ e. newer _ held.pass.number refl refl (overtaken held.pass.note.kind e order).0 (overtaken held.pass.note.kind e order).1)
      (λ _. record {
        agrees = seated _ (held.pass.number + 1) (Some (length d.points)) refl (below_next me held.pass.number d.points point refl numbers_next) (more_points d point);
        later = inr agrees.told;
      })
    where
      point : Point
      point = record { actor = me; number = held.pass.number; note = held.pass.note; event = Event.Done }

  -- ---- confirm
  -- a version that stands in the object is current
  in_object : (version : ℕ) → IsInObject d.objects held.pass.note.name version → is_current d version ≡ true
  in_object version h =
      let place : Contains d.objects h.0 × (bytes_eq held.pass.note.name (h.0).name ≡ true) = found_in (λ (o : Object). bytes_eq held.pass.note.name o.name) d.objects h.0 h.1 in
      let its : HasItsVersions d h.0 = All-contains (HasItsVersions d) d.objects h.0 sound.objects place.0 in
      let there : StandsThere d.versions Standing.Current version =
      stands_there d.versions Standing.Current version (All-contains (Stands d Standing.Current) (h.0).versions version its.current (is_in version (h.0).versions h.2)) in
      ap (holds_standing is_current_standing) there.found ∙ ap is_current_standing there.stands

  lost_pin : (pins : List Pin) → All (λ pin. IsInObject d.objects held.pass.note.name pin.version ⊎ WasChanged d.points held.pass.note.name held.told) pins
      → list_all (λ pin. is_current d pin.version) pins ≡ false → WasChanged d.points held.pass.note.name held.told
  lost_pin [] all e = absurd (true≢false e)
  lost_pin (pin ∷ pins) all e =
      by (All-head (λ (pin : Pin). IsInObject d.objects held.pass.note.name pin.version ⊎ WasChanged d.points held.pass.note.name held.told) pin pins all) (and_cases _ _ e)
      (lost_pin pins (All-tail (λ (pin : Pin). IsInObject d.objects held.pass.note.name pin.version ⊎ WasChanged d.points held.pass.note.name held.told) pin pins all))
    where
      by : IsInObject d.objects held.pass.note.name pin.version ⊎ WasChanged d.points held.pass.note.name held.told
          → (is_current d pin.version ≡ false) ⊎ (list_all (λ (pin : Pin). is_current d pin.version) pins ≡ false)
          → (list_all (λ (pin : Pin). is_current d pin.version) pins ≡ false → WasChanged d.points held.pass.note.name held.told) → WasChanged d.points held.pass.note.name held.told
      by (inr was) k rest = was
      by (inl h) (inl out) rest = absurd (true≢false (sym (in_object pin.version h) ∙ out))
      by (inl h) (inr later) rest = rest later

  -- a pass that isn't reaped keeps its order
  in_order : pass_of me d ≡ Some held.pass → KeepsOrder held.pass.note.kind d held.pass held.told
  in_order e = by agrees.reap agrees.is_pass agrees.order
    where
      by : (reap : Option ℕ) → pass_of me d ≡ Some (real reap) → MatchOption reap (KeepsOrder held.pass.note.kind d held.pass held.told) (λ point. IsLater held.told point × (point < length d.points))
          → KeepsOrder held.pass.note.kind d held.pass held.told
      by None is order = order
      by (Some point) is order = absurd (none-some point (sym agrees.live ∙ ap (λ (p : Pass). p.reaped) (same_Some held.pass (real (Some point)) (sym e ∙ is))))

  -- a rebuild's version that is lost was changed later
  lost_later : held.pass.note.kind ≡ Kind.Rebuild → pass_of me d ≡ Some held.pass
      → All (λ pin. is_current d pin.version ≡ false → WasChanged d.points held.pass.note.name held.told) held.pass.pinned
  lost_later rebuilds e =
      All-weaker (λ (pin : Pin). IsInObject d.objects held.pass.note.name pin.version ⊎ WasChanged d.points held.pass.note.name held.told)
      (λ (pin : Pin). is_current d pin.version ≡ false → WasChanged d.points held.pass.note.name held.told) by held.pass.pinned
      (subst (λ k. KeepsOrder k d held.pass held.told) rebuilds (in_order e))
    where
      by : (pin : Pin) → IsInObject d.objects held.pass.note.name pin.version ⊎ WasChanged d.points held.pass.note.name held.told → is_current d pin.version ≡ false
          → WasChanged d.points held.pass.note.name held.told
      by pin (inl h) out = absurd (true≢false (sym (in_object pin.version h) ∙ out))
      by pin (inr was) out = was

  confirmed : held.pass.note.kind ≡ Kind.Rebuild → KeepsOrder held.pass.note.kind d held.pass held.told → pass_of me d ≡ Some (real None) → Stepped (confirm (real None) d)
  confirmed rebuilds order is =
      cond_both {A = Directory × Told} (list_all (λ pin. is_current d pin.version) held.pass.pinned)
      (d, Told.Current) (close_pass (real None) d, Told.Superseded (unwrap_or (last_change held.pass.note.name d.points) 0)) Stepped
      (λ _. record { agrees = agrees; later = inl refl })
      (λ e. newer _ (held.pass.number + 1) refl refl numbers_next (lost_pin held.pass.pinned (subst (λ k. KeepsOrder k d held.pass held.told) rebuilds order) e))

  -- ---- each step
  made : (step : DirectoryStep) → MayGoOn d held step → Stepped (made_at_directory me held.pass.number step d)
  made DirectoryStep.Draw may = stepped draw drew
  made (DirectoryStep.Commit placed) may = stepped (commit placed) (committed placed)
  made DirectoryStep.End may = stepped end_pass (λ order is. ends _ refl refl)
  made DirectoryStep.Confirm may = stepped confirm (confirmed may)
  made (DirectoryStep.Repaired server epoch) may = stepped (repaired server epoch) (λ order is. ends _ refl refl)
  made (DirectoryStep.Look note) may = absurd may
  made (DirectoryStep.LookRepair note) may = absurd may
  made DirectoryStep.NextGarbage may = absurd may
  made (DirectoryStep.Swept version) may = absurd may
  made (DirectoryStep.Reap actor) may = absurd may

  unless_step : (short takes : Bool) (step : DirectoryStep) → MayGoOn d held step → Stepped (unless_short short takes me held.pass.number step d)
  unless_step true true step may = record { agrees = agrees; later = inl refl }
  unless_step true false step may = made step may
  unless_step false true step may = made step may
  unless_step false false step may = made step may

on_pass_agrees : (short : Bool) (held : HeldPass) (step : DirectoryStep) (d : Directory) → IsSound d → AgreesWithPass d held → MayGoOn d held step
    → GoesOn (at_directory short held.pass.actor held.pass.number step d).0 (ActorToken.InCall held) (after_pass_step held (at_directory short held.pass.actor held.pass.number step d).1)
on_pass_agrees short held step d sound agrees may = unless_step held d sound agrees short (takes_memory step) step may

-- ---- the laws
pub steps_may_be_made : StepsMayBeMade
steps_may_be_made = record { look = may_look; on_pass = may_go_on; lost = λ held d sound agrees. lost_later held d sound agrees }

pub agreement_goes_on : AgreementGoesOn
agreement_goes_on =
    record {
      first = λ g max who. record { no_pass = refl; numbers = All-nil (λ (p : Point). IsTrue (same_actor p.actor who) → p.number < 0); told = tt };
      look = look_agrees;
      look_repair = look_repair_agrees;
      on_pass = on_pass_agrees;
      others = others_agree;
    }

-- Each step at the directory leaves every other actor its agreement.
use Rattle.std.proofs.Common.{◌≡◌, ◌⊎◌, ℕ, ◌+◌, ◌<◌, ◌≤◌, Bool, true, false, cond, not, nat_lt, List, [], ◌∷◌, ◌++◌, length, map, filter, Option, None, Some, option_map, unwrap_or, MatchOption, IfSome, bytes_eq, refl, sym, ap, subst, ◌∙◌, inl, inr, arith}
use Rattle.std.proofs.lemmas.Bool.{cases_Bool, cond_both, cond-false}
use Rattle.std.proofs.lemmas.Option.{none-some}
use Rattle.std.proofs.lemmas.List.{length_push}
use Rattle.std.proofs.lemmas.List.Elements.{All-weaker}
use Rattle.std.specs.List.{list_all, range_with_len}
use Rattle.store_map.specs.declared.actor.Actor.{Actor}
use Rattle.store_map.specs.declared.reply.Reply.{Reply}
use Rattle.store_map.specs.declared.reply.Reply.TheVariants as reply
use Rattle.store_map.specs.declared.placement.Placement.{Placement}
use Rattle.store_core.specs.Told.{Told}
use Rattle.store_core.specs.Note.{Note, Kind, refusal}
use Rattle.store_core.specs.Act.{DirectoryStep, takes_memory}
use Rattle.store_core.specs.Directory.{Object, Pin, Pass, Event, Point, Directory}
use Rattle.store_core.specs.Lookups.{same_actor, find_object, pass_of, last_change, first_garbage, is_current}
use Rattle.store_core.specs.Look.{begin_pass, without_object, seen_at}
use Rattle.store_core.specs.Looks.{accept, look_by, look_repair_by}
use Rattle.store_core.specs.PassSteps.{close_pass, give_up_drawn, draw, end_pass, confirm, repaired, touched}
use Rattle.store_core.specs.Commit.{commit, commit_object, changed_object, is_overtaken}
use Rattle.store_core.specs.AtDirectory.{unless_reaped, on_pass, take_garbage, reap_pass, reap, made_at_directory, unless_short, at_directory}
use Rattle.store_core.specs.Agreement.{Seat, HeldPass, ActorToken, IsTold, IsLater, AreBelow, WasChanged, IsBase, IsInObject, KeepsOrder, AgreesWithSeat, AgreesWithPass, Agrees}
use Rattle.store_core.specs.Tokens.{actor_of}
use Rattle.run_laws.proofs.Passes.{same_is, closed_other, pass_is}
use Rattle.run_laws.proofs.SoundHistory.{same_name}
use Rattle.run_laws.proofs.SoundLists.{found_at}
use Rattle.run_laws.proofs.SoundDelete.{change_follows}
use Rattle.run_laws.proofs.SoundObjects.{found_after_put, found_after_removal}
use Rattle.run_laws.proofs.Beside.{other_way, push_follows, changed_other, changed_own, FollowsTo, Beside, quiet, pointed}

-- ---- steps of another
module _ (me who : Actor) (apart : same_actor me who ≡ false) (d : Directory) where
  abbrev Left : Directory × Told → Type 0
  Left result = Beside me d result.0

  -- a pass that begins
  begins : (passes : List Pass) (pass : Pass) → pass.actor ≡ who → (found : Option Pass) → cond {A = Option Pass} (same_actor me pass.actor) (Some pass) found ≡ found
  begins passes pass mine found = cond-false (same_actor me pass.actor) (Some pass) found (ap (same_actor me) mine ∙ apart)

  module _ (number : ℕ) (note : Note) where
    -- the new object's name, or the one that was found
    named : (found : Option Object) → find_object note.name d.objects ≡ found → (unwrap_or found (record { name = note.name; length = 0; versions = [] })).name ≡ note.name
    named None e = refl
    named (Some object) e = sym (same_name note.name object.name (found_at (λ (o : Object). bytes_eq note.name o.name) d.objects object e).2)

    accepted : (kind : Kind) (object : Object) → object.name ≡ note.name → Left (accept who number note d kind object)
    accepted Kind.Put object name = quiet me d _ (begins d.passes _ refl (pass_of me d)) refl refl
    accepted Kind.Write object name = quiet me d _ (begins d.passes _ refl (pass_of me d)) refl refl
    accepted Kind.Stat object name = pointed me d _ _ refl refl (other_way me who apart) (push_follows d _)
    accepted Kind.Delete object name =
        pointed me d _ (record { actor = who; number = number; note = note; event = Event.Answer reply.Done }) refl refl (other_way me who apart)
        (change_follows d (without_object object d).objects (record { actor = who; number = number; note = note; event = Event.Answer reply.Done }) refl
        (λ other far. found_after_removal other object.name d.objects (ap (bytes_eq other) name ∙ far)))
    accepted _ object name = pointed me d _ _ (begins d.passes _ refl (pass_of me d)) refl (other_way me who apart) (push_follows d _)

    looked : (found : Option Object) (refused : Option Reply) → find_object note.name d.objects ≡ found → Left (look_by who number note d found refused)
    looked found (Some given) e = pointed me d _ _ refl refl (other_way me who apart) (push_follows d _)
    looked found None e = accepted note.kind _ (named found e)

    looked_repair : (found : Option Object) → Left (look_repair_by who number note d found)
    looked_repair None = quiet me d d refl refl refl
    looked_repair (Some object) =
        cond_both {A = Directory × Told} (nat_lt note.offset (length object.versions))
        (begin_pass who number note (seen_at d object note.offset ∷ []) None d, Told.PinnedStripe (seen_at d object note.offset)) (d, Told.NoSuch) Left
        (λ _. quiet me d _ (begins d.passes _ refl (pass_of me d)) refl refl) (λ _. quiet me d d refl refl refl)

  -- ---- on its pass
  module _ (pass : Pass) (mine : who ≡ pass.actor) where
    far : same_actor me pass.actor ≡ false
    far = ap (same_actor me) (sym mine) ∙ apart

    closes : (after : Directory) → after.passes ≡ filter (λ other. not (same_actor pass.actor other.actor)) d.passes → after.points ≡ d.points → after.objects ≡ d.objects → Beside me d after
    closes after gone points objects =
        quiet me d after (ap (λ passes. pass_of me (record d { passes = passes })) gone ∙ closed_other pass.actor me d.passes far) points objects

    draws : Left (draw pass d)
    draws =
        quiet me d _ (changed_other pass.actor me (λ other. record other { drawn = range_with_len (length d.versions) (length (touched d pass.note)) }) (λ _. refl) far d.passes) refl refl

    confirms : Left (confirm pass d)
    confirms =
        cond_both {A = Directory × Told} (list_all (λ pin. is_current d pin.version) pass.pinned)
        (d, Told.Current) (close_pass pass d, Told.Superseded (unwrap_or (last_change pass.note.name d.points) 0)) Left
        (λ _. quiet me d d refl refl refl) (λ _. closes _ refl refl refl)

    commits_object : (placed : List (List Placement)) (old : Object) → old.name ≡ pass.note.name → Left (commit_object placed pass old d)
    commits_object placed old name =
        pointed me d _ point (closed_other pass.actor me d.passes far) refl (other_way me pass.actor far)
        (change_follows d (commit_object placed pass old d).0.objects point refl
        (λ other apart. found_after_put other (changed_object pass.note.kind d pass old) d.objects (ap (bytes_eq other) (kept_name pass.note.kind ∙ name) ∙ apart)))
      where
        point : Point
        point = record { actor = pass.actor; number = pass.number; note = pass.note; event = Event.Done }

        kept_name : (kind : Kind) → (changed_object kind d pass old).name ≡ old.name
        kept_name Kind.Write = refl
        kept_name _ = refl

    commits : (placed : List (List Placement)) → Left (commit placed pass d)
    commits placed =
        cond_both {A = Directory × Told} (is_overtaken pass.note.kind pass.base (last_change pass.note.name d.points))
        (close_pass pass (give_up_drawn pass d), Told.Changed (unwrap_or pass.base 0) (unwrap_or (last_change pass.note.name d.points) 0))
        (commit_object placed pass (unwrap_or (find_object pass.note.name d.objects) (record { name = pass.note.name; length = 0; versions = [] })) d) Left
        (λ _. closes _ refl refl refl) (λ _. commits_object placed _ (named 0 pass.note (find_object pass.note.name d.objects) refl))

  -- a step on the pass that the other has, if it has one
  on : (step : Pass → Directory → Directory × Told) → ((pass : Pass) → who ≡ pass.actor → Left (step pass d)) → (found : Option Pass) → pass_of who d ≡ found → Left (on_pass step found d)
  on step leaves None e = quiet me d d refl refl refl
  on step leaves (Some pass) e = by pass.reaped
    where
      by : (reaped : Option ℕ) → Left (unless_reaped step pass reaped d)
      by None = leaves pass (pass_is who d pass e)
      by (Some point) = closes pass (pass_is who d pass e) _ refl refl refl

  -- a reap of the other's pass
  reaps : (found : Option Pass) → pass_of who d ≡ found → Left (reap found d)
  reaps None e = quiet me d d refl refl refl
  reaps (Some pass) e = by pass.reaped
    where
      by : (reaped : Option ℕ) → Left (reap_pass pass reaped d)
      by (Some point) = quiet me d d refl refl refl
      by None =
          pointed me d _ _ (changed_other pass.actor me (λ other. record other { reaped = Some (length d.points) }) (λ _. refl) (far pass (pass_is who d pass e)) d.passes) refl
          (other_way me pass.actor (far pass (pass_is who d pass e))) (push_follows d _)

-- the least garbage is taken
takes : (me : Actor) (d : Directory) (found : Option ℕ) → Beside me d (take_garbage found d).0
takes me d None = quiet me d d refl refl refl
takes me d (Some version) = quiet me d _ refl refl refl

-- ---- what is left is enough for agreement
module _ (me : Actor) (d after : Directory) (beside : Beside me d after) where
  still_told : (told : Option ℕ) → IsTold d told → IsTold after told
  still_told None h = tt
  still_told (Some point) h = let more : length d.points ≤ length after.points = beside.more in omega (arith, h, more)

  still_changed : (name : List ℕ) (told : Option ℕ) → IsTold d told → WasChanged d.points name told → WasChanged after.points name told
  still_changed name told there was = by (beside.follows name)
    where
      by : FollowsTo d after name → WasChanged after.points name told
      by (inl h) = (was.0, h.0 ∙ was.1, was.2)
      by (inr e) = (length d.points, e, there)

  still_base : (pass : Pass) (told : Option ℕ) → IsTold d told → IsBase d.points pass ⊎ WasChanged d.points pass.note.name told → IsBase after.points pass ⊎ WasChanged after.points pass.note.name told
  still_base pass told there (inr was) = inr (still_changed pass.note.name told there was)
  still_base pass told there (inl base) = by (beside.follows pass.note.name)
    where
      by : FollowsTo d after pass.note.name → IsBase after.points pass ⊎ WasChanged after.points pass.note.name told
      by (inl h) = inl (base.0, h.0 ∙ base.1, base.2)
      by (inr e) = inr (length d.points, e, there)

  still_pinned : (name : List ℕ) (told : Option ℕ) → IsTold d told → (version : ℕ) → IsInObject d.objects name version ⊎ WasChanged d.points name told
      → IsInObject after.objects name version ⊎ WasChanged after.points name told
  still_pinned name told there version (inr was) = inr (still_changed name told there was)
  still_pinned name told there version (inl h) = by (beside.follows name)
    where
      by : FollowsTo d after name → IsInObject after.objects name version ⊎ WasChanged after.points name told
      by (inl k) = inl (h.0, k.1 ∙ h.1, h.2)
      by (inr e) = inr (length d.points, e, there)

  still_order : (kind : Kind) (pass : Pass) (told : Option ℕ) → pass.actor ≡ me → IsTold d told → KeepsOrder kind d pass told → KeepsOrder kind after pass told
  still_order Kind.Write pass told mine there h =
      (subst (λ a. AreBelow a pass.number after.points) (sym mine) (beside.points pass.number (subst (λ a. AreBelow a pass.number d.points) mine h.0)), still_base pass told there h.1)
  still_order Kind.Rebuild pass told mine there h =
      All-weaker (λ (pin : Pin). IsInObject d.objects pass.note.name pin.version ⊎ WasChanged d.points pass.note.name told)
      (λ (pin : Pin). IsInObject after.objects pass.note.name pin.version ⊎ WasChanged after.points pass.note.name told) (λ pin. still_pinned pass.note.name told there pin.version) pass.pinned h
  still_order Kind.Put pass told mine there h = tt
  still_order Kind.Get pass told mine there h = tt
  still_order Kind.ReadAt pass told mine there h = tt
  still_order Kind.Stat pass told mine there h = tt
  still_order Kind.Delete pass told mine there h = tt

-- with a seat
seat_beside : (seat : Seat) (d after : Directory) → Beside seat.actor d after → AgreesWithSeat d seat → AgreesWithSeat after seat
seat_beside seat d after beside h =
    record {
      no_pass = beside.pass ∙ h.no_pass;
      numbers = beside.points seat.unused h.numbers;
      told = still_told seat.actor d after beside seat.told h.told;
    }

-- with a pass
pass_beside : (held : HeldPass) (d after : Directory) → Beside held.pass.actor d after → AgreesWithPass d held → AgreesWithPass after held
pass_beside held d after beside h =
    record {
      reap = h.reap;
      is_pass = beside.pass ∙ h.is_pass;
      live = h.live;
      told = still_told held.pass.actor d after beside held.told h.told;
      order = by h.reap h.order;
    }
  where
    by : (reap : Option ℕ) → MatchOption reap (KeepsOrder held.pass.note.kind d held.pass held.told) (λ point. IsLater held.told point × (point < length d.points))
        → MatchOption reap (KeepsOrder held.pass.note.kind after held.pass held.told) (λ point. IsLater held.told point × (point < length after.points))
    by None k = still_order held.pass.actor d after beside held.pass.note.kind held.pass held.told refl h.told k
    by (Some point) k = (k.0, let less : point < length d.points = k.1 in let more : length d.points ≤ length after.points = beside.more in omega (arith, less, more))

pub agrees_beside : (token : ActorToken) (d after : Directory) → Beside (actor_of token) d after → Agrees d token → Agrees after token
agrees_beside (ActorToken.Seated seat) d after beside h = seat_beside seat d after beside h
agrees_beside (ActorToken.InCall held) d after beside h = pass_beside held d after beside h

-- ---- a reap of the actor's own pass
own_reaped : (token : ActorToken) (d : Directory) (found : Option Pass) → pass_of (actor_of token) d ≡ found → Agrees d token → Agrees (reap found d).0 token
own_reaped token d None e h = h
own_reaped (ActorToken.Seated seat) d (Some pass) e h = absurd (none-some pass (sym h.no_pass ∙ e))
own_reaped (ActorToken.InCall held) d (Some pass) e h = by pass.reaped refl
  where
    by : (reaped : Option ℕ) → pass.reaped ≡ reaped → Agrees (reap_pass pass reaped d).0 (ActorToken.InCall held)
    by (Some point) is = h
    by None is =
        record {
          reap = Some (length d.points);
          is_pass = marked;
          live = h.live;
          told = longer held.told h.told;
          order = (h.told, let f : length (d.points ++ point ∷ []) ≡ length d.points + 1 = length_push d.points point in omega (arith, f));
        }
      where
        point : Point
        point = record { actor = pass.actor; number = pass.number; note = pass.note; event = Event.Reaped }

        mine : held.pass.actor ≡ pass.actor
        mine = pass_is held.pass.actor d pass e

        longer : (told : Option ℕ) → IsTold d told → IfSome told (λ p. p < length (d.points ++ point ∷ []))
        longer None k = tt
        longer (Some p) k = let f : length (d.points ++ point ∷ []) ≡ length d.points + 1 = length_push d.points point in omega (arith, k, f)

        marked : pass_of held.pass.actor (reap_pass pass None d).0 ≡ Some (record (held.pass) { reaped = Some (length d.points) })
        marked =
            subst (λ a. pass_of held.pass.actor (record d { passes = map (λ (o : Pass). cond {A = Pass} (same_actor a o.actor) (record o { reaped = Some (length d.points) }) o) d.passes }) ≡ Some (record (held.pass) { reaped = Some (length d.points) })) mine
            (changed_own held.pass.actor (λ other. record other { reaped = Some (length d.points) }) (λ _. refl) d.passes (record (held.pass) { reaped = h.reap }) h.is_pass)

-- ---- each step
module _ (token : ActorToken) (who : Actor) (number : ℕ) (apart : same_actor (actor_of token) who ≡ false) (d : Directory) (agrees : Agrees d token) where
  left : (after : Directory) → Beside (actor_of token) d after → Agrees after token
  left after beside = agrees_beside token d after beside agrees

  -- a reap, of this actor's pass or of another's
  reap_any : (reaped : Actor) → Agrees (reap (pass_of reaped d) d).0 token
  reap_any reaped = by (cases_Bool (same_actor (actor_of token) reaped))
    where
      by : (same_actor (actor_of token) reaped ≡ true) ⊎ (same_actor (actor_of token) reaped ≡ false) → Agrees (reap (pass_of reaped d) d).0 token
      by (inl same) = subst (λ a. Agrees (reap (pass_of a d) d).0 token) (same_is (actor_of token) reaped same) (own_reaped token d (pass_of (actor_of token) d) refl agrees)
      by (inr far) = left _ (reaps (actor_of token) reaped far d (pass_of reaped d) refl)

  made : (step : DirectoryStep) → Agrees (made_at_directory who number step d).0 token
  made (DirectoryStep.Look note) =
      left _ (looked (actor_of token) who apart d number note (find_object note.name d.objects) (refusal d.max note (option_map (λ object. object.length) (find_object note.name d.objects))) refl)
  made (DirectoryStep.LookRepair note) = left _ (looked_repair (actor_of token) who apart d number note (find_object note.name d.objects))
  made DirectoryStep.Draw = left _ (on (actor_of token) who apart d draw (draws (actor_of token) who apart d) (pass_of who d) refl)
  made (DirectoryStep.Commit placed) = left _ (on (actor_of token) who apart d (commit placed) (λ pass mine. commits (actor_of token) who apart d pass mine placed) (pass_of who d) refl)
  made DirectoryStep.End = left _ (on (actor_of token) who apart d end_pass (λ pass mine. closes (actor_of token) who apart d pass mine _ refl refl refl) (pass_of who d) refl)
  made DirectoryStep.Confirm = left _ (on (actor_of token) who apart d confirm (confirms (actor_of token) who apart d) (pass_of who d) refl)
  made (DirectoryStep.Repaired server epoch) =
      left _ (on (actor_of token) who apart d (repaired server epoch) (λ pass mine. closes (actor_of token) who apart d pass mine _ refl refl refl) (pass_of who d) refl)
  made DirectoryStep.NextGarbage = left _ (takes (actor_of token) d (first_garbage d))
  made (DirectoryStep.Swept version) = left _ (quiet (actor_of token) d _ refl refl refl)
  made (DirectoryStep.Reap reaped) = reap_any reaped

  unless : (short takes : Bool) (step : DirectoryStep) → Agrees (unless_short short takes who number step d).0 token
  unless true true step = agrees
  unless true false step = made step
  unless false true step = made step
  unless false false step = made step

-- every other actor's ticket agrees after the step
pub others_agree : (short : Bool) (who : Actor) (number : ℕ) (step : DirectoryStep) (d : Directory) (token : ActorToken) → same_actor who (actor_of token) ≡ false
    → Agrees d token → Agrees (at_directory short who number step d).0 token
others_agree short who number step d token apart agrees = unless token who number (other_way who (actor_of token) apart) d agrees short (takes_memory step) step

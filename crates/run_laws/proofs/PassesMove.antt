-- What a step does to the passes: each was there with its call and its pins, or begins at a look.
use Rattle.std.proofs.Common.{◌≡◌, ◌⊎◌, ℕ, zero, suc, ◌<◌, nat_lt, List, [], ◌∷◌, ◌++◌, length, get_or, map, filter, Bool, true, false, cond, Option, None, Some, option_map, unwrap_or, Contains, refl, sym, subst, ◌∙◌, inl, inr, not, arith}
use Rattle.std.proofs.lemmas.Bool.{cond_both}
use Rattle.std.proofs.lemmas.List.{length-map, get_or-map}
use Rattle.std.proofs.lemmas.List.Elements.{Contains-get_or}
use Rattle.std.specs.List.{list_all}
use Rattle.store_map.specs.declared.actor.Actor.{Actor}
use Rattle.store_map.specs.declared.actor.Actor.TheVariants as actor
use Rattle.store_map.specs.declared.placement.Placement.{Placement}
use Rattle.store_map.specs.declared.reply.Reply.{Reply}
use Rattle.store_core.specs.Told.{Told, Seen}
use Rattle.store_core.specs.Note.{Note, Kind, refusal}
use Rattle.store_core.specs.Act.{DirectoryStep, takes_memory}
use Rattle.store_core.specs.Directory.{Object, Pass, Event, Directory}
use Rattle.store_core.specs.Lookups.{same_actor, find_object, pass_of, last_change, is_current, first_garbage}
use Rattle.store_core.specs.PassSteps.{close_pass, give_up_drawn, draw, end_pass, confirm, repaired}
use Rattle.store_core.specs.Look.{seen_at, begin_pass}
use Rattle.store_core.specs.Looks.{accept, look_by, look_repair_by}
use Rattle.store_core.specs.Commit.{is_overtaken, commit_object, commit}
use Rattle.store_core.specs.Conditions.{IsOfRepairer, MayStep}
use Rattle.store_core.specs.AtDirectory.{unless_reaped, on_pass, take_garbage, reap_pass, reap, made_at_directory, unless_short, at_directory}
use Rattle.run_laws.proofs.SoundLists.{in_filter}
use Rattle.run_laws.proofs.SoundLook.{new_pass}
use Rattle.run_laws.specs.PinLaws.{IsReading}

-- the same call with the same pins
pub record IsFrom (p q : Pass) : Type 0 where
  pub actor : q.actor ≡ p.actor
  pub number : q.number ≡ p.number
  pub note : q.note ≡ p.note
  pub pinned : q.pinned ≡ p.pinned

-- a look that pins begins it
pub record Begins (who : Actor) (number : ℕ) (step : DirectoryStep) (d : Directory) (result : Directory × Told) (q : Pass) : Type 0 where
  pub note : Note
  pub is_look : step ≡ DirectoryStep.Look note
  pub point : ℕ
  pub length_now : ℕ
  pub seen : List Seen
  pub told : result.1 ≡ Told.Pinned point length_now seen
  pub pointed : result.0.points ≡ d.points ++ record { actor = who; number = number; note = note; event = Event.Pinned } ∷ []
  pub is : q ≡ new_pass who number note seen None

-- whence a pass comes
abbrev pub Whence : Actor → ℕ → DirectoryStep → Directory → Directory × Told → Pass → Type 0
Whence who number step d result q = ((p : Pass) × Contains d.passes p × IsFrom p q) ⊎ (IsReading q.note.kind → ⊥) ⊎ Begins who number step d result q

-- after a step
pub record PassesMove (who : Actor) (number : ℕ) (step : DirectoryStep) (d : Directory) (result : Directory × Told) : Type 0 where
  pub max : result.0.max ≡ d.max
  pub passes : (q : Pass) → Contains result.0.passes q → Whence who number step d result q

module _ (who : Actor) (number : ℕ) (of : DirectoryStep) (d : Directory) where
  abbrev Moved : Directory × Told → Type 0
  Moved result = PassesMove who number of d result

  -- a pass that stays
  itself : (q : Pass) → IsFrom q q
  itself q = record { actor = refl; number = refl; note = refl; pinned = refl }

  -- all stay
  still : (after : Directory) (answer : Told) → after.max ≡ d.max → after.passes ≡ d.passes → Moved (after, answer)
  still after answer max same = record { max = max; passes = λ q c. inl (q, subst (λ ps. Contains ps q) same c, itself q) }

  -- some go
  closes : (pass : Pass) (after : Directory) (answer : Told) → after.max ≡ d.max → after.passes ≡ filter (λ other. not (same_actor pass.actor other.actor)) d.passes → Moved (after, answer)
  closes pass after answer max same =
      record { max = max; passes = λ q c. inl (q, (in_filter (λ (other : Pass). not (same_actor pass.actor other.actor)) d.passes q (subst (λ ps. Contains ps q) same c)).0, itself q) }

  -- each is changed in what it drew, or by a reap
  changes : (change : Pass → Pass) → ((p : Pass) → IsFrom p (change p)) → (after : Directory) (answer : Told) → after.max ≡ d.max → after.passes ≡ map change d.passes → Moved (after, answer)
  changes change keeps after answer max same = record { max = max; passes = λ q c. inl (at q (subst (λ ps. Contains ps q) same c)) }
    where
      at : (q : Pass) → Contains (map change d.passes) q → (p : Pass) × Contains d.passes p × IsFrom p q
      at q c =
          let less : c.0 < length d.passes = subst (λ n. c.0 < n) (length-map d.passes change) c.1 in (
            get_or d.passes c.0 q,
            Contains-get_or d.passes c.0 q less,
            subst (IsFrom (get_or d.passes c.0 q)) (sym (get_or-map change d.passes c.0 q q less) ∙ c.2) (keeps (get_or d.passes c.0 q)),
          )

  -- one begins
  begins : (new : Pass) (after : Directory) (answer : Told) → after.max ≡ d.max → after.passes ≡ new ∷ d.passes → Whence who number of d (after, answer) new → Moved (after, answer)
  begins new after answer max same whence = record { max = max; passes = λ q c. by q (subst (λ ps. Contains ps q) same c) }
    where
      at : (q : Pass) (k : ℕ) → k < suc (length d.passes) → get_or (new ∷ d.passes) k q ≡ q → Whence who number of d (after, answer) q
      at q zero less e = subst (Whence who number of d (after, answer)) e whence
      at q (suc k) less e = inl (q, (k, omega (arith, less), e), itself q)

      by : (q : Pass) → Contains (new ∷ d.passes) q → Whence who number of d (after, answer) q
      by q c = at q c.0 c.1 c.2

  -- ---- looks
  module _ (note : Note) (is_look : of ≡ DirectoryStep.Look note) where
    unread_kind : (kind : Kind) → note.kind ≡ kind → (IsReading kind → ⊥) → IsReading note.kind → ⊥
    unread_kind kind e none h = none (subst IsReading e h)

    accept_moved : (kind : Kind) → note.kind ≡ kind → (object : Object) → Moved (accept who number note d kind object)
    accept_moved Kind.Put e object = begins _ _ _ refl refl (inr (inl (unread_kind Kind.Put e (λ h. h))))
    accept_moved Kind.Write e object = begins _ _ _ refl refl (inr (inl (unread_kind Kind.Write e (λ h. h))))
    accept_moved Kind.Stat e object = still _ _ refl refl
    accept_moved Kind.Delete e object = still _ _ refl refl
    accept_moved Kind.Get e object = begins _ _ _ refl refl (inr (inr (record { note = note; is_look = is_look; point = _; length_now = _; seen = _; told = refl; pointed = refl; is = refl })))
    accept_moved Kind.ReadAt e object = begins _ _ _ refl refl (inr (inr (record { note = note; is_look = is_look; point = _; length_now = _; seen = _; told = refl; pointed = refl; is = refl })))
    accept_moved Kind.Rebuild e object = begins _ _ _ refl refl (inr (inr (record { note = note; is_look = is_look; point = _; length_now = _; seen = _; told = refl; pointed = refl; is = refl })))

    look_moved : (found : Option Object) (refused : Option Reply) → Moved (look_by who number note d found refused)
    look_moved found (Some given) = still _ _ refl refl
    look_moved found None = accept_moved note.kind refl (unwrap_or found (record { name = note.name; length = 0; versions = [] }))

  repair_moved : (note : Note) → (IsReading note.kind → ⊥) → (found : Option Object) → Moved (look_repair_by who number note d found)
  repair_moved note none None = still d Told.NoSuch refl refl
  repair_moved note none (Some object) =
      cond_both {A = Directory × Told} (nat_lt note.offset (length object.versions))
      (begin_pass who number note (seen_at d object note.offset ∷ []) None d, Told.PinnedStripe (seen_at d object note.offset)) (d, Told.NoSuch) Moved
      (λ _. begins _ _ _ refl refl (inr (inl none))) (λ _. still d Told.NoSuch refl refl)

  -- ---- steps on a pass
  on_pass_moved : (step : Pass → Directory → Directory × Told) → ((pass : Pass) → Moved (step pass d)) → (found : Option Pass) → Moved (on_pass step found d)
  on_pass_moved step moves None = still d Told.NotMade refl refl
  on_pass_moved step moves (Some pass) = by pass.reaped
    where
      by : (reaped : Option ℕ) → Moved (unless_reaped step pass reaped d)
      by None = moves pass
      by (Some point) = closes pass (close_pass pass d) (Told.Reaped point) refl refl

  -- a change of one actor's pass
  one_changes : (pass : Pass) (change : Pass → Pass) → ((p : Pass) → IsFrom p (change p)) → (p : Pass) → IsFrom p (cond {A = Pass} (same_actor pass.actor p.actor) (change p) p)
  one_changes pass change keeps p = cond_both {A = Pass} (same_actor pass.actor p.actor) (change p) p (IsFrom p) (λ _. keeps p) (λ _. itself p)

  draw_moved : (pass : Pass) → Moved (draw pass d)
  draw_moved pass = changes _ (one_changes pass (λ p. record p { drawn = _ }) (λ p. record { actor = refl; number = refl; note = refl; pinned = refl })) _ _ refl refl

  commit_moved : (placed : List (List Placement)) (pass : Pass) → Moved (commit placed pass d)
  commit_moved placed pass =
      cond_both {A = Directory × Told} (is_overtaken pass.note.kind pass.base (last_change pass.note.name d.points))
      (close_pass pass (give_up_drawn pass d), Told.Changed (unwrap_or pass.base 0) (unwrap_or (last_change pass.note.name d.points) 0))
      (commit_object placed pass (unwrap_or (find_object pass.note.name d.objects) (record { name = pass.note.name; length = 0; versions = [] })) d) Moved
      (λ _. closes pass _ _ refl refl) (λ _. closes pass _ _ refl refl)

  confirm_moved : (pass : Pass) → Moved (confirm pass d)
  confirm_moved pass =
      cond_both {A = Directory × Told} (list_all (λ pin. is_current d pin.version) pass.pinned)
      (d, Told.Current) (close_pass pass d, Told.Superseded (unwrap_or (last_change pass.note.name d.points) 0)) Moved (λ _. still d Told.Current refl refl) (λ _. closes pass _ _ refl refl)

  reap_moved : (found : Option Pass) → Moved (reap found d)
  reap_moved None = still d (Told.GivenUp None) refl refl
  reap_moved (Some pass) = by pass.reaped
    where
      by : (reaped : Option ℕ) → Moved (reap_pass pass reaped d)
      by None = changes _ (one_changes pass (λ p. record p { reaped = Some (length d.points) }) (λ p. record { actor = refl; number = refl; note = refl; pinned = refl })) _ _ refl refl
      by (Some point) = still d (Told.GivenUp None) refl refl

  take_moved : (found : Option ℕ) → Moved (take_garbage found d)
  take_moved None = still d (Told.Taken None) refl refl
  take_moved (Some version) = still _ _ refl refl

-- a repairer's call is a rebuild
rebuild_note : (who : Actor) (note : Note) → IsOfRepairer who note → IsReading note.kind → ⊥
rebuild_note (actor.Repairer i) note h reads = subst IsReading h reads
rebuild_note (actor.Client i) note h reads = absurd h
rebuild_note actor.Sweeper note h reads = absurd h
rebuild_note actor.Operator note h reads = absurd h

made_moved : (who : Actor) (number : ℕ) (step : DirectoryStep) (d : Directory) → MayStep d who number step → PassesMove who number step d (made_at_directory who number step d)
made_moved who number (DirectoryStep.Look note) d may =
    look_moved who number (DirectoryStep.Look note) d note refl (find_object note.name d.objects) (refusal d.max note (option_map (λ (o : Object). o.length) (find_object note.name d.objects)))
made_moved who number (DirectoryStep.LookRepair note) d may = repair_moved who number (DirectoryStep.LookRepair note) d note (rebuild_note who note may.1) (find_object note.name d.objects)
made_moved who number DirectoryStep.Draw d may = on_pass_moved who number DirectoryStep.Draw d draw (draw_moved who number DirectoryStep.Draw d) (pass_of who d)
made_moved who number (DirectoryStep.Commit placed) d may = on_pass_moved who number (DirectoryStep.Commit placed) d (commit placed) (commit_moved who number (DirectoryStep.Commit placed) d placed) (pass_of who d)
made_moved who number DirectoryStep.End d may = on_pass_moved who number DirectoryStep.End d end_pass (λ pass. closes who number DirectoryStep.End d pass _ _ refl refl) (pass_of who d)
made_moved who number DirectoryStep.Confirm d may = on_pass_moved who number DirectoryStep.Confirm d confirm (confirm_moved who number DirectoryStep.Confirm d) (pass_of who d)
made_moved who number (DirectoryStep.Repaired server epoch) d may =
    on_pass_moved who number (DirectoryStep.Repaired server epoch) d (repaired server epoch) (λ pass. closes who number (DirectoryStep.Repaired server epoch) d pass _ _ refl refl) (pass_of who d)
made_moved who number DirectoryStep.NextGarbage d may = take_moved who number DirectoryStep.NextGarbage d (first_garbage d)
made_moved who number (DirectoryStep.Swept version) d may = still who number (DirectoryStep.Swept version) d _ _ refl refl
made_moved who number (DirectoryStep.Reap reaped) d may = reap_moved who number (DirectoryStep.Reap reaped) d (pass_of reaped d)

pub passes_move : (short : Bool) (who : Actor) (number : ℕ) (step : DirectoryStep) (d : Directory) → MayStep d who number step → PassesMove who number step d (at_directory short who number step d)
passes_move short who number step d may = by short (takes_memory step)
  where
    by : (short takes : Bool) → PassesMove who number step d (unless_short short takes who number step d)
    by true true = still who number step d d Told.Short refl refl
    by true false = made_moved who number step d may
    by false true = made_moved who number step d may
    by false false = made_moved who number step d may

-- The laws on which versions are dropped.
-- The k-th drawn version gets the k-th row by a recursion on both lists, with "no number stands twice" as a function on places (IsOnce),
-- not as AllPairs. "A stripe that is written" by a byte in it: the two directions to "from the first one on, as many as the bytes meet"
-- are within and byte_of. A law that ends by the answer tells answers apart by small tests (is_done, reaped_at), abbrevs, since a
-- definition doesn't unfold elsewhere. Lists for contracts alone are lists of numbers: a codec is how a value is written and how it is
-- read back, with what comes behind it (Codec); that what is written is read back is proved once for numbers, pairs and lists, so each
-- step's clause is an equation of lists of values.
use Rattle.std.proofs.Common.{◌≡◌, ℕ, ◌<◌, Bool, true, false, List, [], length, slice_get, Option, None, Some, option_map, unwrap_or, Contains, refl, sym, ap, subst, ◌∙◌}
use Rattle.std.proofs.lemmas.Bool.{true≢false, false≢true, cond_both}
use Rattle.std.proofs.lemmas.Option.{none-some}
use Rattle.std.proofs.lemmas.List.Elements.{All-contains}
use Rattle.clay_grid.specs.Shape.{stripe_length}
use Rattle.store_map.specs.declared.actor.Actor.{Actor}
use Rattle.store_map.specs.declared.placement.Placement.{Placement}
use Rattle.store_map.specs.declared.reply.Reply.{Reply}
use Rattle.store_map.specs.declared.reply.Reply.TheVariants as reply
use Rattle.store_core.specs.Told.{Told}
use Rattle.store_core.specs.Note.{Note, Kind, refusal}
use Rattle.store_core.specs.Act.{DirectoryStep}
use Rattle.store_core.specs.Directory.{Object, Standing, Pass, Directory}
use Rattle.store_core.specs.Lookups.{find_object, pass_of, last_change}
use Rattle.store_core.specs.Look.{set_standing}
use Rattle.store_core.specs.Looks.{accept, look_by}
use Rattle.store_core.specs.PassSteps.{close_pass, give_up_drawn, end_pass}
use Rattle.store_core.specs.Commit.{is_overtaken, commit_object, commit}
use Rattle.store_core.specs.AtDirectory.{unless_reaped, on_pass, reap_pass, reap, at_directory}
use Rattle.store_core.specs.Conditions.{IsWriting, IsPrepared}
use Rattle.store_core.specs.SoundPasses.{HasVersions}
use Rattle.store_core.specs.Sound.{IsSound}
use Rattle.store_core.specs.Lengths.{found_length}
use Rattle.run_laws.proofs.SoundHistory.{reply_unless, reply_to, ok_accepted}
use Rattle.run_laws.proofs.SoundLists.{at_contains, contains_at}
use Rattle.run_laws.proofs.SoundVersions.{StandsThere, stands_there}
use Rattle.run_laws.proofs.SoundParts.{Before, there_is}
use Rattle.run_laws.proofs.SoundClose.{held_pass}
use Rattle.history_laws.specs.CommitDrops.{CommitDrops, DeleteDrops, GivesUp}
use Rattle.history_laws.specs.DropLaws.{IsCommitAnswer, CommitsDrop, AllCommitsDrop, AllDeletesDrop, AllEndsDrop}
use Rattle.history_laws.proofs.Versions.{not_there, set_other, set_becomes}
use Rattle.history_laws.proofs.Commits.{AreOf, are_of, commit_drops}

-- ---- answers, told apart
abbrev is_done : Told → Bool
is_done (Told.Done point) = true
is_done answer = false

abbrev is_changed : Told → Bool
is_changed (Told.Changed base newer) = true
is_changed answer = false

abbrev is_ended : Told → Bool
is_ended Told.Ended = true
is_ended answer = false

abbrev is_told : Option ℕ → Bool
is_told None = false
is_told (Some point) = true

abbrev gave_up : Told → Bool
gave_up (Told.GivenUp point) = is_told point
gave_up answer = false

abbrev reaped_at : Told → Option ℕ
reaped_at (Told.Reaped point) = Some point
reaped_at answer = None

abbrev reply_in : Told → Reply
reply_in (Told.Answer point answer) = answer
reply_in answer = reply.NoSuch

abbrev is_answer : Told → Bool
is_answer (Told.Answer point answer) = true
is_answer answer = false

-- ---- what a pass drew is given up
given_up : (d : Directory) → IsSound d → (who : Actor) (pass : Pass) → pass_of who d ≡ Some pass → GivesUp d (set_standing Standing.Superseded pass.drawn d.versions) pass
given_up d sound who pass e =
    record {
      drawn = λ n c.
          let its : HasVersions d pass = All-contains (HasVersions d) d.passes pass sound.versions (held_pass who d pass e).has in
          let old : Before d.versions n = there_is d.versions n (All-contains (λ v. v < length d.versions) pass.drawn n its.drawn c) in
          record { version = old.version; was = old.found; is = set_becomes pass.drawn d.versions n old.version old.found c };
      others = λ n none. set_other Standing.Superseded pass.drawn d.versions n (not_there n pass.drawn none);
    }

-- ---- a commit
module _ (rows : List (List Placement)) (d : Directory) (pass : Pass) (some : 0 < stripe_length d.shape) (sound : IsSound d) (who : Actor) (writing : IsWriting d who pass) (ready : IsPrepared d pass rows) where
  abbrev nothing : Object
  nothing = record { name = pass.note.name; length = 0; versions = [] }

  -- a commit of a pass that isn't reaped and wasn't overtaken
  made : pass.reaped ≡ None → (found : Option Object) → find_object pass.note.name d.objects ≡ found → CommitDrops pass.note.kind d (commit_object rows pass (unwrap_or found nothing) d).0.versions pass rows
  made live None e = commit_drops d sound some pass (held_pass who d pass writing.is_pass) live rows ready [] (are_of d sound pass.note.name None e) writing.kind
  made live (Some object) e = commit_drops d sound some pass (held_pass who d pass writing.is_pass) live rows ready object.versions (are_of d sound pass.note.name (Some object) e) writing.kind

  -- where memory is wanting or not, since a commit takes none
  abbrev Drops : Directory × Told → Type 0
  Drops after = CommitsDrop rows d pass after

  done_drops : (after : Directory × Told) → IsCommitAnswer after.1 → is_changed after.1 ≡ false → reaped_at after.1 ≡ None → CommitDrops pass.note.kind d after.0.versions pass rows → Drops after
  done_drops after answered no_change no_reap drops =
      record {
        answered = answered;
        done = λ point e. drops;
        changed = λ base newer e. absurd (true≢false (sym (ap is_changed e) ∙ no_change));
        reaped = λ point e. absurd (none-some point (sym no_reap ∙ ap reaped_at e));
      }

  changed_drops : (after : Directory × Told) → IsCommitAnswer after.1 → is_done after.1 ≡ false → reaped_at after.1 ≡ None → GivesUp d after.0.versions pass → Drops after
  changed_drops after answered no_done no_reap gives =
      record {
        answered = answered;
        done = λ point e. absurd (true≢false (sym (ap is_done e) ∙ no_done));
        changed = λ base newer e. gives;
        reaped = λ point e. absurd (none-some point (sym no_reap ∙ ap reaped_at e));
      }

  live_drops : pass.reaped ≡ None → Drops (commit rows pass d)
  live_drops live =
      cond_both {A = Directory × Told} (is_overtaken pass.note.kind pass.base (last_change pass.note.name d.points))
      (close_pass pass (give_up_drawn pass d), Told.Changed (unwrap_or pass.base 0) (unwrap_or (last_change pass.note.name d.points) 0))
      (commit_object rows pass (unwrap_or (find_object pass.note.name d.objects) nothing) d) Drops
      (λ _.
      changed_drops (close_pass pass (give_up_drawn pass d), Told.Changed (unwrap_or pass.base 0) (unwrap_or (last_change pass.note.name d.points) 0)) tt refl refl
      (given_up d sound who pass writing.is_pass))
      (λ _. done_drops (commit_object rows pass (unwrap_or (find_object pass.note.name d.objects) nothing) d) tt refl refl (made live (find_object pass.note.name d.objects) refl))

  pass_drops : (reaped : Option ℕ) → pass.reaped ≡ reaped → Drops (unless_reaped (commit rows) pass reaped d)
  pass_drops None e = live_drops e
  pass_drops (Some at) e =
      record {
        answered = tt;
        done = λ point h. absurd (false≢true (ap is_done h));
        changed = λ base newer h. absurd (false≢true (ap is_changed h));
        reaped = λ point h. (e ∙ ap reaped_at h, refl);
      }

  found_drops : Drops (on_pass (commit rows) (pass_of who d) d)
  found_drops = subst (λ (o : Option Pass). Drops (on_pass (commit rows) o d)) (sym writing.is_pass) (pass_drops pass.reaped refl)

pub commits_drop : AllCommitsDrop
commits_drop short who number rows d pass some sound writing ready = by short
  where
    by : (short : Bool) → CommitsDrop rows d pass (at_directory short who number (DirectoryStep.Commit rows) d)
    by true = found_drops rows d pass some sound who writing ready
    by false = found_drops rows d pass some sound who writing ready

-- ---- a delete
module _ (who : Actor) (number : ℕ) (note : Note) (d : Directory) (sound : IsSound d) (is_delete : note.kind ≡ Kind.Delete) where
  abbrev DropsAll : Directory × Told → Type 0
  DropsAll after = DeleteDrops d after.0.versions note.name

  -- the versions of the object that is found
  all_drop : (old : List ℕ) → AreOf d note.name old → DeleteDrops d (set_standing Standing.Superseded old d.versions) note.name
  all_drop old of =
      record {
        dropped = λ stripe n h.
            let c : Contains old n = contains_at old stripe n (of.there stripe n h) in
            let there : StandsThere d.versions Standing.Current n = stands_there d.versions Standing.Current n (of.current n c) in
            record { version = there.version; was = there.found; is = set_becomes old d.versions n there.version there.found c };
        others = λ n none.
            set_other Standing.Superseded old d.versions n
            (not_there n old
            (λ c.
            let there : (k : ℕ) × (slice_get old k ≡ Some n) = at_contains old n c in
            none there.0 (of.stands there.0 n there.1)));
      }

  abbrev no_object : Object
  no_object = record { name = note.name; length = 0; versions = [] }

  accepted : (found : Option Object) → find_object note.name d.objects ≡ found → DropsAll (accept who number note d note.kind (unwrap_or found no_object))
  accepted None e = subst (λ k. DropsAll (accept who number note d k no_object)) (sym is_delete) (all_drop [] (are_of d sound note.name None e))
  accepted (Some object) e = subst (λ k. DropsAll (accept who number note d k object)) (sym is_delete) (all_drop object.versions (are_of d sound note.name (Some object) e))

  -- a refusal isn't ok
  looked : (point : ℕ) (found : Option Object) → find_object note.name d.objects ≡ found → (refused : Option Reply) → refusal d.max note (option_map (λ (o : Object). o.length) found) ≡ refused
      → (look_by who number note d found refused).1 ≡ Told.Answer point reply.Done → DropsAll (look_by who number note d found refused)
  looked point found e None is_none told = accepted found e
  looked point found e (Some refused) is_refused told =
      let done : refused ≡ reply.Done = ap reply_in told in
      absurd (not_ok (option_map (λ (o : Object). o.length) found) refused is_refused done)
    where
      not_ok : (length_now : Option ℕ) (refused : Reply) → refusal d.max note length_now ≡ Some refused → refused ≡ reply.Done → ⊥
      not_ok length_now refused is done = none-some refused (sym (ok_accepted d.max note length_now (by is done)) ∙ is)
        where
          by : refusal d.max note length_now ≡ Some refused → refused ≡ reply.Done → reply_to d.max note length_now ≡ reply.Done
          by is done = ap (reply_unless note.kind (found_length length_now)) is ∙ done

pub deletes_drop : AllDeletesDrop
deletes_drop true who number point note d sound is_delete told = absurd (false≢true (ap is_answer told))
deletes_drop false who number point note d sound is_delete told =
    looked who number note d sound is_delete point (find_object note.name d.objects) refl (refusal d.max note (option_map (λ (o : Object). o.length) (find_object note.name d.objects))) refl told

-- ---- ends and reaps
module _ (d : Directory) (pass : Pass) (sound : IsSound d) (who : Actor) (is_pass : pass_of who d ≡ Some pass) where
  end_gives : (reaped : Option ℕ) → (unless_reaped end_pass pass reaped d).1 ≡ Told.Ended → GivesUp d (unless_reaped end_pass pass reaped d).0.versions pass
  end_gives None told = given_up d sound who pass is_pass
  end_gives (Some point) told = absurd (false≢true (ap is_ended told))

  ended_gives : (on_pass end_pass (pass_of who d) d).1 ≡ Told.Ended → GivesUp d (on_pass end_pass (pass_of who d) d).0.versions pass
  ended_gives =
      subst (λ (o : Option Pass). (on_pass end_pass o d).1 ≡ Told.Ended → GivesUp d (on_pass end_pass o d).0.versions pass) (sym is_pass) (end_gives pass.reaped)

  reap_gives : (point : ℕ) (reaped : Option ℕ) → (reap_pass pass reaped d).1 ≡ Told.GivenUp (Some point) → GivesUp d (reap_pass pass reaped d).0.versions pass
  reap_gives point None told = given_up d sound who pass is_pass
  reap_gives point (Some at) told = absurd (false≢true (ap gave_up told))

  reaped_gives : (point : ℕ) → (reap (pass_of who d) d).1 ≡ Told.GivenUp (Some point) → GivesUp d (reap (pass_of who d) d).0.versions pass
  reaped_gives point =
      subst (λ (o : Option Pass). (reap o d).1 ≡ Told.GivenUp (Some point) → GivesUp d (reap o d).0.versions pass) (sym is_pass) (reap_gives point pass.reaped)

pub ends_drop : AllEndsDrop
ends_drop = record { ended = of_end; reaped = of_reap }
  where
    of_end : (short : Bool) (who : Actor) (number : ℕ) (d : Directory) (pass : Pass) → IsSound d → pass_of who d ≡ Some pass → (at_directory short who number DirectoryStep.End d).1 ≡ Told.Ended
        → GivesUp d (at_directory short who number DirectoryStep.End d).0.versions pass
    of_end true who number d pass sound e = ended_gives d pass sound who e
    of_end false who number d pass sound e = ended_gives d pass sound who e

    of_reap : (short : Bool) (who reaped : Actor) (number point : ℕ) (d : Directory) (pass : Pass) → IsSound d → pass_of reaped d ≡ Some pass
        → (at_directory short who number (DirectoryStep.Reap reaped) d).1 ≡ Told.GivenUp (Some point) → GivesUp d (at_directory short who number (DirectoryStep.Reap reaped) d).0.versions pass
    of_reap true who other number point d pass sound e = reaped_gives d pass sound other e point
    of_reap false who other number point d pass sound e = reaped_gives d pass sound other e point

-- The ends of the passes of a snapshot's looks, one after another: every reader has its seat again, and nothing else changes.
use Rattle.std.proofs.Common.{◌≡◌, ℕ, ◌+◌, ◌<◌, false, not, List, [], ◌∷◌, length, take, filter, find, Option, None, Some, cond, refl, sym, ap, subst, ◌∙◌, arith, nat_eq}
use Rattle.std.specs.List.{AllByRecursion, IsDistinct}
use Rattle.std.proofs.lemmas.Option.{none-some}
use Rattle.clay_grid.specs.Shape.{Shape, stripe_length}
use Rattle.store_map.specs.declared.actor.Actor.{Actor}
use Rattle.store_map.specs.declared.actor.Actor.TheVariants as actor
use Rattle.store_core.specs.Told.{Told}
use Rattle.store_core.specs.Act.{Act, DirectoryStep}
use Rattle.store_core.specs.Directory.{Pass, Directory}
use Rattle.store_core.specs.Lookups.{same_actor, pass_of}
use Rattle.store_core.specs.PassSteps.{end_pass}
use Rattle.store_core.specs.Agreement.{HeldPass, ActorToken, AgreesWithPass, Agrees}
use Rattle.store_core.specs.Tokens.{actor_of, after_pass_step}
use Rattle.store_core.specs.AtDirectory.{on_pass, at_directory}
use Rattle.store_core.specs.Calls.{Calls}
use Rattle.store_core.specs.Sound.{IsSound}
use Rattle.store_core.specs.Step.{Places, at_places}
use Rattle.run_laws.proofs.Beside.{self_actor, other_way}
use Rattle.run_laws.proofs.BesideSteps.{others_agree}
use Rattle.run_laws.proofs.OwnSteps.{agreement_goes_on}
use Rattle.session_rules.specs.State.{Numbering, State}
use Rattle.session_rules.specs.Seen.{IsSeenAs}
use Rattle.session_rules.proofs.Beside.{steps_are_unseen}
use Rattle.session_rules.proofs.Whole.{Whole, whole_step}
use Rattle.session_rules.specs.Seats.{MayBeginFrom}
use Rattle.session_rules.specs.Readers.{is_reader, look_at, tickets_of}
use Rattle.session_rules.specs.AloneSnapshots.{end_all}
use Rattle.session_rules.proofs.LooksMade.{seat_raised}
use Rattle.session_rules.proofs.Readers.{apart_of, none_among, tickets_kept}

-- what the ends lead to
pub record AreEnded (calls : Calls) (g : Shape) (max : ℕ) (stands : List ℕ) (s : State) (number unused : ℕ) (readers : List ℕ) (p q : Places) : Type 0 where
  pub seen : IsSeenAs g max stands q s
  pub whole : Whole calls g max q.directory
  pub points : q.directory.points ≡ p.directory.points
  pub versions : q.directory.versions ≡ p.directory.versions
  pub servers : q.servers ≡ p.servers
  pub seats : AllByRecursion (Agrees q.directory) (tickets_of stands number unused readers [])
  pub left : (token : ActorToken) → is_reader readers (actor_of token) ≡ false → Agrees p.directory token → Agrees q.directory token

-- ---- one end
module _ (stands : List ℕ) (number unused : ℕ) (used : number < unused) (reader : ℕ) (object : List ℕ × List ℕ) (d : Directory) where
  abbrev held : HeldPass
  held = record { pass = look_at stands number reader object; told = None }

  -- the pass as the directory has it
  abbrev real : Option ℕ → Pass
  real reap = record (look_at stands number reader object) { reaped = reap }

  -- the directory without it
  abbrev pub without : Directory
  without = record d { passes = filter (λ other. not (same_actor (actor.Client reader) other.actor)) d.passes }

  left_by : (reap : Option ℕ) → (on_pass end_pass (Some (real reap)) d).0 ≡ without
  left_by None = refl
  left_by (Some point) = refl

  pub end_made : (n : ℕ) → AgreesWithPass d held → (at_directory false (actor.Client reader) n DirectoryStep.End d).0 ≡ without
  end_made n agrees = ap (λ (f : Option Pass). (on_pass end_pass f d).0) agrees.is_pass ∙ left_by agrees.reap

  -- what it is told
  abbrev told_by : Option ℕ → Told
  told_by None = Told.Ended
  told_by (Some point) = Told.Reaped point

  answer_by : (reap : Option ℕ) → (on_pass end_pass (Some (real reap)) d).1 ≡ told_by reap
  answer_by None = refl
  answer_by (Some point) = refl

  module _ (some : 0 < stripe_length d.shape) (sound : IsSound d) (agrees : AgreesWithPass d held) where
    seat_by : (reap : Option ℕ) → Agrees (at_directory false (actor.Client reader) number DirectoryStep.End d).0 (after_pass_step held (told_by reap)) →
        MayBeginFrom (at_directory false (actor.Client reader) number DirectoryStep.End d).0 (actor.Client reader) unused
    seat_by None its =
        seat_raised (at_directory false (actor.Client reader) number DirectoryStep.End d).0 (actor.Client reader) (number + 1) unused (omega (arith, used))
        (record { no_pass = its.no_pass; numbers = its.numbers; told = tt })
    seat_by (Some point) its =
        seat_raised (at_directory false (actor.Client reader) number DirectoryStep.End d).0 (actor.Client reader) (number + 1) unused (omega (arith, used))
        (record { no_pass = its.no_pass; numbers = its.numbers; told = tt })

    pub seat_again : MayBeginFrom without (actor.Client reader) unused
    seat_again =
        subst (λ after. MayBeginFrom after (actor.Client reader) unused) (end_made number agrees)
        (seat_by agrees.reap
        (subst (λ answer. Agrees (at_directory false (actor.Client reader) number DirectoryStep.End d).0 (after_pass_step held answer))
        (ap (λ (f : Option Pass). (on_pass end_pass f d).1) agrees.is_pass ∙ answer_by agrees.reap)
        (agreement_goes_on.on_pass false held DirectoryStep.End d sound agrees tt).agrees))

-- ---- all of them
module _ (calls : Calls) (g : Shape) (max : ℕ) (stands : List ℕ) (s : State) (some : 0 < stripe_length g) (number unused : ℕ) (used : number < unused) (n : ℕ) where
  abbrev Ended : List ℕ → Places → Places → Type 0
  Ended readers p q = AreEnded calls g max stands s number unused readers p q

  module _ (reader : ℕ) (readers : List ℕ) (object : List ℕ × List ℕ) (p : Places) (seen : IsSeenAs g max stands p s) (whole : Whole calls g max p.directory)
      (agrees : AgreesWithPass p.directory (record { pass = look_at stands number reader object; told = None })) (away : is_reader readers (actor.Client reader) ≡ false) where
    abbrev pub next : Places
    next = record p { directory = without stands number unused used reader object p.directory }

    pub next_is : (at_places false (actor.Client reader) n (Act.AtDirectory DirectoryStep.End) p).0 ≡ next
    next_is = ap (λ d. record p { directory = d }) (end_made stands number unused used reader object p.directory n agrees)

    pub next_seen : IsSeenAs g max stands next s
    next_seen = subst (λ (q : Places). IsSeenAs g max stands q s) next_is (steps_are_unseen.at_directory g max stands p s false (actor.Client reader) n DirectoryStep.End some seen tt tt)

    pub next_whole : Whole calls g max next.directory
    next_whole = subst (λ (q : Places). Whole calls g max q.directory) next_is (whole_step calls g max some false (actor.Client reader) n DirectoryStep.End p.directory whole tt tt)

    pub next_left : (token : ActorToken) → same_actor (actor_of token) (actor.Client reader) ≡ false → Agrees p.directory token → Agrees next.directory token
    next_left token apart its =
        subst (λ (q : Places). Agrees q.directory token) next_is
        (others_agree false (actor.Client reader) n DirectoryStep.End p.directory token (other_way (actor_of token) (actor.Client reader) apart) its)

    seat : MayBeginFrom next.directory (actor.Client reader) unused
    seat = seat_again stands number unused used reader object p.directory (subst (λ shape. 0 < stripe_length shape) (sym seen.shape) some) seen.sound agrees

    pub and_on : (q : Places) → Ended readers next q → Ended (reader ∷ readers) p q
    and_on q rest = record {
      seen = rest.seen;
      whole = rest.whole;
      points = rest.points;
      versions = rest.versions;
      servers = rest.servers;
      seats = (rest.left (ActorToken.Seated (record { actor = actor.Client reader; unused = unused; told = None })) away seat, rest.seats);
      left = λ token apart its.
          rest.left token (apart_of (actor_of token) reader readers apart).1 (next_left token (apart_of (actor_of token) reader readers apart).0 its);
    }

  -- none
  none_ended : (readers : List ℕ) (p : Places) → IsSeenAs g max stands p s → Whole calls g max p.directory → AllByRecursion (Agrees p.directory) (tickets_of stands number unused readers []) → Ended readers p p
  none_ended readers p seen whole seats = record {
    seen = seen;
    whole = whole;
    points = refl;
    versions = refl;
    servers = refl;
    seats = seats;
    left = λ token apart its. its;
  }

  pub all_ended : (readers : List ℕ) (numbers : Numbering) (p : Places) → IsDistinct nat_eq readers → IsSeenAs g max stands p s → Whole calls g max p.directory →
      AllByRecursion (Agrees p.directory) (tickets_of stands number unused readers numbers) → Ended readers p (end_all n (take (length numbers) readers) p)
  unfolding IsDistinct
  all_ended [] [] p once seen whole tickets = none_ended [] p seen whole tickets
  all_ended [] (object ∷ numbers) p once seen whole tickets = none_ended [] p seen whole tt
  all_ended (reader ∷ readers) [] p once seen whole tickets = none_ended (reader ∷ readers) p seen whole tickets
  all_ended (reader ∷ readers) (object ∷ numbers) p once seen whole tickets =
      let away : is_reader readers (actor.Client reader) ≡ false = none_among reader readers once.0 in
      let after : Places = next reader readers object p seen whole tickets.0 away in
      subst (λ (q : Places). Ended (reader ∷ readers) p (end_all n (take (length numbers) readers) q)) (sym (next_is reader readers object p seen whole tickets.0 away))
      (and_on reader readers object p seen whole tickets.0 away (end_all n (take (length numbers) readers) after)
      (all_ended readers numbers after once.1 (next_seen reader readers object p seen whole tickets.0 away) (next_whole reader readers object p seen whole tickets.0 away)
      (tickets_kept stands number unused p.directory after.directory (actor.Client reader)
      (λ token apart its. next_left reader readers object p seen whole tickets.0 away token (other_way (actor.Client reader) (actor_of token) apart) its) readers numbers away tickets.1)))

-- ---- without a reader's pass there is no pass at all
pub none_left : (d : Directory) → ((who : Actor) → pass_of who d ≡ None) → d.passes ≡ []
none_left d none = by d.passes (λ who. none who)
  where
    by : (passes : List Pass) → ((who : Actor) → find (λ (pass : Pass). same_actor who pass.actor) passes ≡ None) → passes ≡ []
    by [] none = refl
    by (pass ∷ passes) none =
        absurd (none-some pass (sym (none pass.actor) ∙ ap (λ b. cond b (Some pass) (find (λ (other : Pass). same_actor pass.actor other.actor) passes)) (self_actor pass.actor)))

-- Requests one after another, in each of which memory may be wanting.
use Rattle.std.proofs.Common.{◌≡◌, ℕ, ◌+◌, ◌<◌, Bool, true, false, List, [], ◌∷◌, length, take, Option, None, Some, refl, sym, ap, subst, ◌∙◌, inl, inr, if◌then◌else◌}
use Rattle.clay_grid.specs.Shape.{Shape, stripe_length}
use Rattle.clay_grid.specs.Limits.{IsGeometry}
use Rattle.store_map.specs.declared.actor.Actor.TheVariants as actor
use Rattle.store_core.specs.Act.{Outcome}
use Rattle.store_core.specs.NextAct.{job_of, rebuild_job}
use Rattle.store_core.specs.Calls.{Calls}
use Rattle.store_core.specs.Step.{Places}
use Rattle.session_rules.specs.State.{Snapshot, State}
use Rattle.session_rules.specs.declared.request.Request.{Request}
use Rattle.session_rules.specs.declared.session_answer.Answer.{Answer}
use Rattle.session_rules.specs.Heals.{to_heal, heal_all, numbers_last}
use Rattle.session_rules.specs.Serve.{serve}
use Rattle.session_rules.specs.Snapshots.{snap, snap_read}
use Rattle.session_rules.specs.Shortages.{IsServed}
use Rattle.session_rules.specs.Outcomes.{outcome_at}
use Rattle.session_rules.specs.AloneRebuilds.{rebuilt_as}
use Rattle.session_rules.specs.Between.{Seats, seats_after, IsBetween}
use Rattle.session_rules.specs.AloneSnapshots.{end_all}
use Rattle.session_rules.specs.Serving.{AreSweptTo, IsHealServed, IsSnapServed, IsSnapDropped, IsServedBy, MayBeAsked, IsServedAlone}
use Rattle.session_rules.specs.Runs.{seats_after_all}
use Rattle.session_rules.specs.AnsweredRuns.{IsCutBy, IsAnsweredBy, AreAnsweredBy, MayBeAnswers, RunsAreAnswered}
use Rattle.session_rules.proofs.Ends.{same_ends, same_swept, same_rebuilt}
use Rattle.session_rules.proofs.CallsAnswered.{wanting_between as call_wanting}
use Rattle.session_rules.proofs.RebuildsAnswered.{wanting_between as rebuild_wanting}
use Rattle.session_rules.proofs.HealsAnswered.{heal_answered}
use Rattle.session_rules.proofs.Repairs.{has_parity}
use Rattle.session_rules.proofs.KeptReadsServed.{same_read, read_cut}
use Rattle.session_rules.proofs.SnapsCut.{snap_cut}
use Rattle.session_rules.proofs.Runs.{requests_are_served}

-- ---- what is done for a request leads to one end
same_heal : (g : Shape) (tries : ℕ) (seats : Seats) (s : State) (before after other : Places) (last : Bool) →
    (let served : State × Answer = if last then (record ((heal_all g (to_heal g s) s).0) { next = s.next + length (to_heal g s) }, Answer.Healed (length (to_heal g s)) (heal_all g (to_heal g s) s).1) else (s, Answer.BadRequest) in
    IsHealServed g tries seats s before served.1 after → IsHealServed g tries seats s before served.1 other → after ≡ other)
same_heal g tries seats s before after other true made also = same_rebuilt g tries (actor.Repairer seats.healer) (to_heal g s) s.next before after other made.0 also.0
same_heal g tries seats s before after other false made also = made ∙ sym also

same_snap : (seats : Seats) (s : State) (before after other : Places) (answer : Answer) → IsSnapServed seats s before answer after → IsSnapServed seats s before answer other → after ≡ other
same_snap seats s before after other (Answer.Replied given) made also = made ∙ sym also
same_snap seats s before after other (Answer.Unavailable stripe missing) made also = made ∙ sym also
same_snap seats s before after other Answer.BadRequest made also = made ∙ sym also
same_snap seats s before after other Answer.NoMemory made also = made ∙ sym also
same_snap seats s before after other Answer.Rebuilt made also = made ∙ sym also
same_snap seats s before after other Answer.Here made also = made ∙ sym also
same_snap seats s before after other Answer.NoSnap made also = made ∙ sym also
same_snap seats s before after other Answer.SnapOpen made also = made ∙ sym also
same_snap seats s before after other (Answer.TooMany objects) made also = made ∙ sym also
same_snap seats s before after other (Answer.Scrubbed lost) made also = made ∙ sym also
same_snap seats s before after other (Answer.Healed rebuilt taken) made also = made ∙ sym also

same_drop : (g : Shape) (seats : Seats) (found : Option Snapshot) (before after other : Places) → IsSnapDropped g seats found before after → IsSnapDropped g seats found before other → after ≡ other
same_drop g seats None before after other made also = made ∙ sym also
same_drop g seats (Some kept) before after other made also = same_swept g (end_all seats.looks (take (length kept.numbers) seats.readers) before) after other made also

module _ (calls : Calls) (g : Shape) (max tries : ℕ) (seats : Seats) (s : State) (before after other : Places) where
  same_served : (request : Request) → MayBeAsked calls g seats s request → IsServedBy calls g max tries seats s request before (serve g max request s).1 after →
      IsServedBy calls g max tries seats s request before (serve g max request s).1 other → after ≡ other
  same_served (Request.OfMap call) may made also =
      let outcome : Outcome = outcome_at (length before.directory.points) (serve g max (Request.OfMap call) s).1 in
      let one : (outcome_at (length before.directory.points) (serve g max (Request.OfMap call) s).1 ≡ outcome_at (length before.directory.points) (serve g max (Request.OfMap call) s).1) × (made.left ≡ also.left) =
      same_ends g tries (actor.Client seats.client) seats.calls (job_of call) before made.left also.left outcome outcome made.ends also.ends in
      same_swept g also.left after other (subst (λ (q : Places). AreSweptTo g q after) one.1 made.swept) also.swept
  same_served (Request.Lose server) may made also = made ∙ sym also
  same_served (Request.Rebuild name stripe server) may made also =
      let outcome : Outcome = rebuilt_as (serve g max (Request.Rebuild name stripe server) s).1 in
      (same_ends g tries (actor.Repairer seats.repairer) seats.rebuilds (rebuild_job (record { name = name; stripe = stripe; server = server })) before after other outcome outcome made also).1
  same_served Request.Scrub may made also = made.1 ∙ sym also.1
  same_served Request.Heal may made also = same_heal g tries seats s before after other (numbers_last g s) made also
  same_served Request.Snap may made also = same_snap seats s before after other (snap s.snapshot s).1 made also
  same_served (Request.SnapRead name offset count) may made also = same_read g calls seats name offset count s.snapshot before after other (snap_read g name offset count s.snapshot s).1 made also
  same_served Request.SnapDrop may made also = same_drop g seats s.snapshot before after other made also

-- ---- one request
module _ (calls : Calls) (g : Shape) (max tries : ℕ) (some : 0 < stripe_length g) (fits : IsGeometry g) (tried : 0 < tries) where
  abbrev Goes : Seats → State → Request → State × Answer → Places → Type 0
  Goes seats s request served after = IsServed g max request s served × ((stood : List ℕ) × IsBetween calls g max (seats_after request seats) stood after served.0)

  module _ (seats : Seats) (stands : List ℕ) (p after : Places) (s : State) (h : IsBetween calls g max seats stands p s) where
    amply : (request : Request) → MayBeAsked calls g seats s request → IsServedBy calls g max tries seats s request p (serve g max request s).1 after → Goes seats s request (serve g max request s) after
    amply request may made =
        let alone : IsServedAlone calls g max tries seats s request p = requests_are_served calls g max tries seats stands p s request some fits tried h may in
        let there : alone.after ≡ after = same_served calls g max tries seats s p alone.after after request may alone.served made in
        (inl refl, (alone.stands, subst (λ (q : Places). IsBetween calls g max (seats_after request seats) alone.stands q (serve g max request s).0) there alone.between))

    cut_off : (request : Request) → MayBeAsked calls g seats s request → (now : State) → IsCutBy g tries seats s request p now after → Goes seats s request (now, Answer.NoMemory) after
    cut_off (Request.OfMap call) may now (same, run) =
        subst (λ (now : State). Goes seats s (Request.OfMap call) (now, Answer.NoMemory) after) (sym same)
        (inr (refl, refl), (stands, call_wanting calls g max tries seats stands p after s call Outcome.NoMemory some tried h may run refl))
    cut_off (Request.Rebuild name stripe server) may now (same, run) =
        subst (λ (now : State). Goes seats s (Request.Rebuild name stripe server) (now, Answer.NoMemory) after) (sym same)
        (inr (refl, refl), (stands, rebuild_wanting calls g max tries seats stands p after s name stripe server Outcome.NoMemory some (has_parity g fits) may h run refl))
    cut_off Request.Heal may now cut =
        let so : IsServed g max Request.Heal s (now, Answer.NoMemory) × IsBetween calls g max seats stands after now =
        heal_answered calls g max tries seats stands p after s now some (has_parity g fits) h cut in
        (so.0, (stands, so.1))
    cut_off Request.Scrub may now (same, there) =
        subst (λ (now : State). Goes seats s Request.Scrub (now, Answer.NoMemory) after) (sym same)
        (inr (refl, refl), (stands, subst (λ (q : Places). IsBetween calls g max seats stands q s) (sym there) h))
    cut_off (Request.Lose server) may now cut = absurd cut
    cut_off Request.Snap may now (same, cut) =
        subst (λ (now : State). Goes seats s Request.Snap (now, Answer.NoMemory) after) (sym same) (inr (refl, refl), (stands, snap_cut calls g max tries seats stands p s some h may after cut))
    cut_off (Request.SnapRead name offset count) may now (same, cut) =
        subst (λ (now : State). Goes seats s (Request.SnapRead name offset count) (now, Answer.NoMemory) after) (sym same)
        (inr (refl, refl), (stands, read_cut calls g max tries seats stands p s some h name offset count after s.snapshot cut))
    cut_off Request.SnapDrop may now cut = absurd cut

    goes : (request : Request) → MayBeAsked calls g seats s request → (served : State × Answer) → IsAnsweredBy calls g max tries seats s request p served after → Goes seats s request served after
    goes request may served (inl (same, made)) =
        subst (λ (served : State × Answer). Goes seats s request served after) (sym same)
        (amply request may (subst (λ (answer : Answer). IsServedBy calls g max tries seats s request p answer after) (ap (λ (served : State × Answer). served.1) same) made))
    goes request may served (inr (want, cut)) =
        subst (λ answer. Goes seats s request (served.0, answer) after) (sym want) (cut_off request may served.0 cut)

  -- ---- one after another
  abbrev AllGo : Seats → State → List Request → List Answer → State → Places → Type 0
  AllGo seats s requests answers now after = MayBeAnswers g max s requests answers now × ((stood : List ℕ) × IsBetween calls g max (seats_after_all seats requests) stood after now)

  all_go : (requests : List Request) (answers : List Answer) (seats : Seats) (stands : List ℕ) (p after : Places) (s now : State) → IsBetween calls g max seats stands p s →
      AreAnsweredBy calls g max tries seats s requests p answers now after → AllGo seats s requests answers now after
  all_go [] answers seats stands p after s now h (none, same, there) =
      ((none, same), (stands, subst (λ (q : Places). IsBetween calls g max seats stands q now) (sym there) (subst (λ state. IsBetween calls g max seats stands p state) (sym same) h)))
  all_go (request ∷ requests) [] seats stands p after s now h run = absurd run
  all_go (request ∷ requests) (answer ∷ answers) seats stands p after s now h (next, between, may, first, rest) =
      let one : Goes seats s request (next, answer) between = goes seats stands p between s h request may (next, answer) first in
      let all : AllGo (seats_after request seats) next requests answers now after = all_go requests answers (seats_after request seats) one.1.0 between after next now one.1.1 rest in
      ((next, one.0, all.0), all.1)

pub runs_are_answered : RunsAreAnswered
runs_are_answered calls g max tries seats stands p after s now requests answers some fits tried h run = all_go calls g max tries some fits tried requests answers seats stands p after s now h run

-- What a heal takes where memory may be wanting.
use Rattle.std.proofs.Common.{◌≡◌, ◌⊎◌, ℕ, zero, suc, ◌+◌, List, [], ◌∷◌, length, take, replicate, refl, sym, ap, subst, ◌∙◌, inl, inr, arith, if◌then◌else◌}
use Rattle.std.proofs.lemmas.List.{take_all}
use Rattle.clay_grid.specs.Shape.{Shape, chunk_count}
use Rattle.store_map.specs.declared.actor.Actor.{Actor}
use Rattle.store_map.specs.declared.actor.Actor.TheVariants as actor
use Rattle.store_core.specs.Act.{Act, Outcome}
use Rattle.store_core.specs.NextAct.{Job, rebuild_job}
use Rattle.store_core.specs.Step.{Shortage, Places}
use Rattle.run_laws.specs.State.{first_state}
use Rattle.run_laws.specs.StateActs.{act_of_state}
use Rattle.session_rules.specs.State.{State}
use Rattle.session_rules.specs.declared.session_answer.LostChunk.{LostChunk}
use Rattle.session_rules.specs.declared.session_answer.Answer.{Answer}
use Rattle.session_rules.specs.Heals.{to_heal, heal_all}
use Rattle.session_rules.specs.Alone.{AtWork, step, step_by, steps}
use Rattle.session_rules.specs.AloneHeals.{rebuild_of}
use Rattle.session_rules.specs.Takes.{taken_by, takes_in, added, AreTaken}
use Rattle.session_rules.proofs.HealTakes.{heals_are_taken}
use Rattle.session_rules.proofs.HealMaps.{same_end}
use Rattle.session_rules.specs.Seats.{MayBeginFrom, ran, HasEnded}
use Rattle.session_rules.specs.Answering.{took, AreTakenAnew, HealsTakeAnew}
use Rattle.session_rules.proofs.CallSeats.{rebuild_seated}
use Rattle.session_rules.proofs.Doomed.{IsWant, rebuild_ends_either}
use Rattle.session_rules.proofs.RunKept.{begins}
use Rattle.session_rules.proofs.TakesWanting.{rebuilt_took}

-- ---- a call that runs alone takes the same, however long one looks on
module _ (g : Shape) (tries : ℕ) (who : Actor) (number : ℕ) (job : Job) where
  taken_stays : (n : ℕ) (w : AtWork) (outcome : Outcome) (takes : List ℕ) → act_of_state g tries job w.call ≡ Act.Finish outcome → takes_in g tries who number job n w takes ≡ takes
  taken_stays zero w outcome takes e = refl
  taken_stays (suc n) w outcome takes e =
      ap (λ act. takes_in g tries who number job n (step_by g tries who number job act w) (taken_by g tries who number job act w takes)) e ∙ taken_stays n w outcome takes e

  one_taking : (n m : ℕ) (w : AtWork) (first second : Outcome) (takes : List ℕ) → act_of_state g tries job (steps g tries who number job n w).call ≡ Act.Finish first →
      act_of_state g tries job (steps g tries who number job m w).call ≡ Act.Finish second → takes_in g tries who number job n w takes ≡ takes_in g tries who number job m w takes
  one_taking zero m w first second takes e also = sym (taken_stays m w first takes e)
  one_taking (suc n) zero w first second takes e also = taken_stays (suc n) w second takes also
  one_taking (suc n) (suc m) w first second takes e also =
      one_taking n m (step g tries who number job w) first second (taken_by g tries who number job (act_of_state g tries job w.call) w takes) e also

-- so do rebuilds one after another
same_taken : (g : Shape) (tries : ℕ) (who : Actor) (chunks : List LostChunk) (number : ℕ) (before : Places) (so_far total other : List ℕ) → AreTaken g tries who number chunks before so_far total →
    AreTaken g tries who number chunks before so_far other → total ≡ other
same_taken g tries who [] number before so_far total other made also = sym made ∙ also
same_taken g tries who (chunk ∷ chunks) number before so_far total other (between, ends, rest) (between_also, ends_also, rest_also) =
    let one : between ≡ between_also = same_end g tries who number (rebuild_job (rebuild_of chunk)) before between between_also Outcome.Rebuilt Outcome.Rebuilt ends ends_also in
    let takes : takes_in g tries who number (rebuild_job (rebuild_of chunk)) ends.made (record { call = first_state; places = before }) (replicate (chunk_count g) 0)
    ≡ takes_in g tries who number (rebuild_job (rebuild_of chunk)) ends_also.made (record { call = first_state; places = before }) (replicate (chunk_count g) 0) =
    one_taking g tries who number (rebuild_job (rebuild_of chunk)) ends.made ends_also.made (record { call = first_state; places = before }) Outcome.Rebuilt Outcome.Rebuilt (replicate (chunk_count g) 0) ends.over ends_also.over in
    same_taken g tries who chunks (number + 1) between_also
    (added so_far (takes_in g tries who number (rebuild_job (rebuild_of chunk)) ends_also.made (record { call = first_state; places = before }) (replicate (chunk_count g) 0))) total other
    (subst (λ (q : Places). AreTaken g tries who (number + 1) chunks q
    (added so_far (takes_in g tries who number (rebuild_job (rebuild_of chunk)) ends_also.made (record { call = first_state; places = before }) (replicate (chunk_count g) 0))) total) one
    (subst (λ so. AreTaken g tries who (number + 1) chunks between so total) (ap (added so_far) takes) rest)) rest_also

-- ---- with memory wanting as without
module _ (g : Shape) (tries : ℕ) (who : Actor) (number : ℕ) (chunk : LostChunk) (chunks : List LostChunk) (before : Places) (so_far total : List ℕ) (shortages : List Shortage)
    (over : HasEnded g tries who number (rebuild_job (rebuild_of chunk)) shortages before Outcome.Rebuilt) (seat : MayBeginFrom before.directory who number) where
  abbrev end : AtWork
  end = ran g tries who number (rebuild_job (rebuild_of chunk)) shortages before

  abbrev start : AtWork
  start = record { call = first_state; places = before }

  one_amply : (Outcome.Rebuilt ≡ Outcome.NoMemory) ⊎ (end ≡ steps g tries who number (rebuild_job (rebuild_of chunk)) (length shortages) start) →
      AreTaken g tries who (number + 1) chunks end.places (added so_far (took g tries who number (rebuild_job (rebuild_of chunk)) shortages start (replicate (chunk_count g) 0))) total →
      AreTaken g tries who number (chunk ∷ chunks) before so_far total
  one_amply (inl want) rest = absurd (subst IsWant (sym want) tt)
  one_amply (inr same) rest = (
    end.places,
    record {
      made = length shortages;
      over = ap (λ (w : AtWork). act_of_state g tries (rebuild_job (rebuild_of chunk)) w.call) (sym same) ∙ over;
      leaves = ap (λ (w : AtWork). w.places) (sym same);
    },
    subst (λ takes. AreTaken g tries who (number + 1) chunks end.places (added so_far takes) total) (rebuilt_took g tries who number (rebuild_of chunk) shortages before (replicate (chunk_count g) 0) seat over) rest,
  )

taken_of : (g : Shape) (tries : ℕ) (who : Actor) (chunks : List LostChunk) (number : ℕ) (before : Places) (so_far total : List ℕ) → MayBeginFrom before.directory who number →
    AreTakenAnew g tries who number chunks before so_far total → AreTaken g tries who number chunks before so_far total
taken_of g tries who [] number before so_far total seat made = made
taken_of g tries who (chunk ∷ chunks) number before so_far total seat (shortages, over, rest) =
    one_amply g tries who number chunk chunks before so_far total shortages over seat (rebuild_ends_either g tries who number (rebuild_of chunk) shortages before Outcome.Rebuilt seat over)
    (taken_of g tries who chunks (number + 1) (ran g tries who number (rebuild_job (rebuild_of chunk)) shortages before).places
    (added so_far (took g tries who number (rebuild_job (rebuild_of chunk)) shortages (record { call = first_state; places = before }) (replicate (chunk_count g) 0))) total
    (rebuild_seated g tries who number (rebuild_of chunk) before shortages Outcome.Rebuilt seat over) rest)

pub heals_take_anew : HealsTakeAnew
heals_take_anew calls g max tries seats stands p s total some fits h lasts made =
    let said : AreTaken g tries (actor.Repairer seats.healer) s.next (take (length (to_heal g s)) (to_heal g s)) p (replicate (chunk_count g) 0) (heal_all g (take (length (to_heal g s)) (to_heal g s)) s).1 =
    heals_are_taken g max tries seats.healer (length (to_heal g s)) stands p s some fits h.seen (begins p.directory (actor.Repairer seats.healer) s.next h.healer) in
    let all : take (length (to_heal g s)) (to_heal g s) ≡ to_heal g s = take_all (length (to_heal g s)) (to_heal g s) (omega arith) in
    let taken : (heal_all g (to_heal g s) s).1 ≡ total =
    same_taken g tries (actor.Repairer seats.healer) (to_heal g s) s.next p (replicate (chunk_count g) 0) (heal_all g (to_heal g s) s).1 total
    (subst (λ chunks. AreTaken g tries (actor.Repairer seats.healer) s.next chunks p (replicate (chunk_count g) 0) (heal_all g chunks s).1) all said)
    (taken_of g tries (actor.Repairer seats.healer) (to_heal g s) s.next p (replicate (chunk_count g) 0) total h.healer made) in
    ap (λ last.
    let r : State × Answer = if last then (record ((heal_all g (to_heal g s) s).0) { next = s.next + length (to_heal g s) }, Answer.Healed (length (to_heal g s)) (heal_all g (to_heal g s) s).1) else (s, Answer.BadRequest) in r.1) lasts
    ∙ ap (λ takes. Answer.Healed (length (to_heal g s)) takes) taken

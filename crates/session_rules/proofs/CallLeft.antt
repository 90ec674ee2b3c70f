-- What calls and rebuilds that run alone leave of the map, by the session's answers.
use Rattle.std.proofs.Common.{◌≡◌, ◌<◌, ℕ, zero, suc, ◌+◌, Bool, true, false, List, [], ◌∷◌, length, replicate, Option, None, Some, option_map, unwrap_or, find, refl, sym, ap, subst, ◌∙◌, nat_lt, get_or, if◌then◌else◌}
use Rattle.std.proofs.lemmas.Bool.{true≢false}
use Rattle.clay_grid.specs.Shape.{Shape, chunk_count, stripe_length}
use Rattle.store_map.specs.Content.{content_bytes, content_length, overwrite}
use Rattle.store_map.specs.PlainMap.{Objects, apply, put, bytes_of, write_at, delete_found}
use Rattle.store_map.specs.declared.actor.Actor.{Actor}
use Rattle.store_map.specs.declared.call.Call.{Call}
use Rattle.store_map.specs.declared.call.Call.TheVariants as call
use Rattle.store_map.specs.declared.call.Rebuild.{Rebuild as RebuildCall}
use Rattle.store_map.specs.declared.reply.Reply.{Reply}
use Rattle.store_map.specs.declared.reply.Reply.TheVariants as reply
use Rattle.store_core.specs.Note.{note_of, note_of_rebuild}
use Rattle.store_core.specs.Act.{Act, Outcome}
use Rattle.store_core.specs.NextAct.{Job, job_of, rebuild_job}
use Rattle.store_core.specs.Calls.{Calls}
use Rattle.store_core.specs.Conditions.{MayBegin, IsOfClient, IsOfRepairer}
use Rattle.store_core.specs.Directory.{Event}
use Rattle.store_core.specs.History.{applied, is_answered}
use Rattle.store_core.specs.Step.{Shortage, Places}
use Rattle.run_laws.specs.State.{first_state}
use Rattle.run_laws.specs.StateActs.{act_of_state}
use Rattle.session_rules.specs.State.{Stripe, State as Session, numbers_of}
use Rattle.session_rules.specs.declared.session_answer.Answer.{Answer}
use Rattle.session_rules.specs.Gathered.{Range, is_unavailable, unavailable, holds, is_beyond_repair, named}
use Rattle.session_rules.specs.Calls.{name_in, gathered_by, is_refusal, unless_unavailable, serve_by, serve_call}
use Rattle.session_rules.specs.Placing.{after_call}
use Rattle.session_rules.specs.Rebuilds.{place_anew, rebuild_one, rebuild}
use Rattle.session_rules.specs.Alone.{AtWork, EndsAs, step_by, steps, step}
use Rattle.session_rules.specs.Outcomes.{replied_at, outcome_at}
use Rattle.session_rules.specs.Seen.{IsSeenAs}
use Rattle.session_rules.specs.Wants.{wanting_by, wanting_step, wanting_steps}
use Rattle.session_rules.specs.Maps.{IsMapOf}
use Rattle.session_rules.specs.Going.{objects_after, CallsLeaveMaps, RebuildsLeaveMaps}
use Rattle.session_rules.proofs.Whole.{whole_of, same_of, map_of}
use Rattle.session_rules.proofs.CallMaps.{EndedBy, Holds, start_short, start_holds, rebuild_holds, all_steps, ended, still_same}

-- ---- steps with ample memory are steps in which none is wanting
abbrev pub none_short : Shortage
none_short = record { coding = false; step = false }

pub ample_by : (g : Shape) (tries : ℕ) (who : Actor) (number : ℕ) (job : Job) (act : Act) (w : AtWork) → step_by g tries who number job act w ≡ wanting_by g tries who number job false act w
ample_by g tries who number job (Act.AtDirectory step) w = refl
ample_by g tries who number job (Act.AtServer server step) w = refl
ample_by g tries who number job (Act.Finish outcome) w = refl

pub ample : (g : Shape) (tries : ℕ) (who : Actor) (number : ℕ) (job : Job) (made : ℕ) (w : AtWork) → steps g tries who number job made w ≡ wanting_steps g tries who number job (replicate made none_short) w
ample g tries who number job zero w = refl
ample g tries who number job (suc made) w =
    ap (steps g tries who number job made) (ample_by g tries who number job (act_of_state g tries job w.call) w)
    ∙ ample g tries who number job made (wanting_step g tries who number job none_short w)

-- ---- the map that a session's answer leaves
refusal_leaves : (max : ℕ) (c : Call) (objects : Objects) → is_refusal (apply max c objects).1 ≡ true → (apply max c objects).0 ≡ objects
refusal_leaves max (call.Put name content) objects refused = by (nat_lt max (content_length content)) refused
  where
    by : (b : Bool) → is_refusal (let r : Objects × Reply = if b then (objects, reply.TooLarge) else (put name (content_bytes content) objects, reply.Done) in r.1) ≡ true →
        (let r : Objects × Reply = if b then (objects, reply.TooLarge) else (put name (content_bytes content) objects, reply.Done) in r.0) ≡ objects
    by true refused = refl
    by false refused = absurd (true≢false (sym refused))
refusal_leaves max (call.Write name offset content) objects refused = by (bytes_of name objects) refused
  where
    sized : (bytes : List ℕ) (b : Bool) → is_refusal (let r : Objects × Reply = if b then (objects, reply.TooLarge) else (put name (overwrite bytes offset (content_bytes content)) objects, reply.Done) in r.1) ≡ true →
        (let r : Objects × Reply = if b then (objects, reply.TooLarge) else (put name (overwrite bytes offset (content_bytes content)) objects, reply.Done) in r.0) ≡ objects
    sized bytes true refused = refl
    sized bytes false refused = absurd (true≢false (sym refused))

    within : (bytes : List ℕ) (b : Bool) →
        is_refusal (let r : Objects × Reply = if b then (objects, reply.OutRange) else (if nat_lt max (offset + content_length content) then (objects, reply.TooLarge) else (put name (overwrite bytes offset (content_bytes content)) objects, reply.Done)) in r.1) ≡ true →
        (let r : Objects × Reply = if b then (objects, reply.OutRange) else (if nat_lt max (offset + content_length content) then (objects, reply.TooLarge) else (put name (overwrite bytes offset (content_bytes content)) objects, reply.Done)) in r.0) ≡ objects
    within bytes true refused = refl
    within bytes false refused = sized bytes (nat_lt max (offset + content_length content)) refused

    by : (found : Option (List ℕ)) → is_refusal (write_at max name offset content objects found).1 ≡ true → (write_at max name offset content objects found).0 ≡ objects
    by None refused = refl
    by (Some bytes) refused = within bytes (nat_lt (length bytes) offset) refused
refusal_leaves max (call.Get name) objects refused = refl
refusal_leaves max (call.ReadAt name offset count) objects refused = refl
refusal_leaves max (call.Stat name) objects refused = refl
refusal_leaves max (call.Delete name) objects refused = by (bytes_of name objects) refused
  where
    by : (found : Option (List ℕ)) → is_refusal (delete_found name objects found).1 ≡ true → (delete_found name objects found).0 ≡ objects
    by None refused = refl
    by (Some bytes) refused = absurd (true≢false (sym refused))

is_reply : (point : ℕ) (answer : Reply) → is_answered (replied_at point answer) ≡ true
is_reply point reply.Done = refl
is_reply point (reply.Bytes bytes) = refl
is_reply point (reply.Length n) = refl
is_reply point reply.NoSuch = refl
is_reply point reply.OutRange = refl
is_reply point reply.TooLarge = refl

served_objects : (g : Shape) (max point : ℕ) (c : Call) (s : Session) → objects_after max c (outcome_at point (serve_call g max c s).1) s.objects ≡ (serve_call g max c s).0.objects
served_objects g max point c s = by (is_refusal (apply max c s.objects).1) refl
  where
    answered : (answer : Reply) → (let objects : Objects = if is_answered (replied_at point answer) then (apply max c s.objects).0 else s.objects in objects) ≡ (apply max c s.objects).0
    answered answer = ap (λ b. let objects : Objects = if b then (apply max c s.objects).0 else s.objects in objects) (is_reply point answer)

    unless : (found : Option Range) →
        (let served : Session × Answer = unless_unavailable (option_map (unavailable g s s.stripes (numbers_of (name_in c) s.numbers)) found) s (after_call g c (apply max c s.objects).0 s, Answer.Replied (apply max c s.objects).1) in
        let objects : Objects = if is_answered (outcome_at point served.1) then (apply max c s.objects).0 else s.objects in objects)
        ≡ (unless_unavailable (option_map (unavailable g s s.stripes (numbers_of (name_in c) s.numbers)) found) s (after_call g c (apply max c s.objects).0 s, Answer.Replied (apply max c s.objects).1)).0.objects
    unless None = answered (apply max c s.objects).1
    unless (Some range) = refl

    by : (b : Bool) → is_refusal (apply max c s.objects).1 ≡ b → (let objects : Objects = if is_answered (outcome_at point (serve_by b g c s (apply max c s.objects)).1) then (apply max c s.objects).0 else s.objects in objects) ≡ (serve_by b g c s (apply max c s.objects)).0.objects
    by true refused = answered (apply max c s.objects).1 ∙ refusal_leaves max c s.objects refused
    by false refused =
        unless (find (is_unavailable g s s.stripes (numbers_of (name_in c) s.numbers)) (gathered_by g c (length (unwrap_or (bytes_of (name_in c) s.objects) []))))

-- ---- a client's call
module _ (calls : Calls) (g : Shape) (max tries : ℕ) (stands : List ℕ) (p : Places) (s : Session) (who : Actor) (number : ℕ) (some : 0 < stripe_length g) (h : IsSeenAs g max stands p s) (m : IsMapOf calls p s)
    (begin : MayBegin p.directory who number) where
  module _ (c : Call) (client : IsOfClient who (note_of c)) (is : calls who number ≡ Some c) where
    abbrev to : Objects
    to = (apply max c s.objects).0

    leads : (applied max s.objects Event.Done (calls who number)).0 ≡ to
    leads = ap (λ found. (applied max s.objects Event.Done found).0) is

    holds_then : (shortages : List Shortage) → Holds calls g max tries some who number s.objects to (wanting_steps g tries who number (job_of c) shortages (record { call = first_state; places = p }))
    holds_then shortages =
        all_steps calls g max tries some who number s.objects to (job_of c) (start_short calls g max tries some who number s.objects to c)
        (λ q w. start_holds calls g max tries some who number s.objects to q w leads c client is) shortages (record { call = first_state; places = p })
        (whole_of calls g max stands p s h m, (same_of calls g max stands p s h m, begin))

    ended_map : (outcome : Outcome) (shortages : List Shortage) → act_of_state g tries (job_of c) (wanting_steps g tries who number (job_of c) shortages (record { call = first_state; places = p })).call ≡ Act.Finish outcome →
        IsMapOf calls (wanting_steps g tries who number (job_of c) shortages (record { call = first_state; places = p })).places (record s { objects = objects_after max c outcome s.objects })
    ended_map outcome shortages over =
        let w : AtWork = wanting_steps g tries who number (job_of c) shortages (record { call = first_state; places = p }) in
        by (is_answered outcome) (ended calls g max tries some who number s.objects to (job_of c) (start_short calls g max tries some who number s.objects to c)
        (λ q w. start_holds calls g max tries some who number s.objects to q w leads c client is) outcome w (holds_then shortages) over)
      where
        by : (b : Bool) → EndedBy calls g max tries some who number s.objects to b (wanting_steps g tries who number (job_of c) shortages (record { call = first_state; places = p })).places.directory →
            IsMapOf calls (wanting_steps g tries who number (job_of c) shortages (record { call = first_state; places = p })).places (record s { objects = (let objects : Objects = if b then to else s.objects in objects) })
        by true new = map_of calls g max (wanting_steps g tries who number (job_of c) shortages (record { call = first_state; places = p })).places (record s { objects = to }) (holds_then shortages).0 new
        by false same = map_of calls g max (wanting_steps g tries who number (job_of c) shortages (record { call = first_state; places = p })).places s (holds_then shortages).0 same

    served_map : (point : ℕ) (after : Places) → EndsAs g tries who number (job_of c) p (outcome_at point (serve_call g max c s).1) after → IsMapOf calls after (serve_call g max c s).0
    served_map point after ends =
        let w : AtWork = record { call = first_state; places = p } in
        let same : steps g tries who number (job_of c) ends.made w ≡ wanting_steps g tries who number (job_of c) (replicate ends.made none_short) w = ample g tries who number (job_of c) ends.made w in
        let at_end : IsMapOf calls (wanting_steps g tries who number (job_of c) (replicate ends.made none_short) w).places (record s { objects = objects_after max c (outcome_at point (serve_call g max c s).1) s.objects }) =
        ended_map (outcome_at point (serve_call g max c s).1) (replicate ends.made none_short) (ap (λ (w : AtWork). act_of_state g tries (job_of c) w.call) (sym same) ∙ ends.over) in
        let there : IsMapOf calls after (record s { objects = objects_after max c (outcome_at point (serve_call g max c s).1) s.objects }) =
        subst (λ places. IsMapOf calls places (record s { objects = objects_after max c (outcome_at point (serve_call g max c s).1) s.objects })) (ap (λ (w : AtWork). w.places) (sym same) ∙ ends.leaves) at_end in
        record { objects = sym (served_objects g max point c s) ∙ there.objects; bytes = there.bytes; drawn = there.drawn }

  -- ---- a rebuild
  module _ (c : RebuildCall) (repairer : IsOfRepairer who (note_of_rebuild c)) (less : c.server < chunk_count g) where
    rebuild_map : (shortages : List Shortage) → IsMapOf calls (wanting_steps g tries who number (rebuild_job c) shortages (record { call = first_state; places = p })).places s
    rebuild_map shortages =
        let w : AtWork = wanting_steps g tries who number (rebuild_job c) shortages (record { call = first_state; places = p }) in
        let ok : Holds calls g max tries some who number s.objects s.objects (wanting_steps g tries who number (rebuild_job c) shortages (record { call = first_state; places = p })) =
        all_steps calls g max tries some who number s.objects s.objects (rebuild_job c) (λ pairs d same. same)
        (λ q w. rebuild_holds calls g max tries some who number s.objects s.objects q w c repairer less) shortages (record { call = first_state; places = p })
        (whole_of calls g max stands p s h m, (same_of calls g max stands p s h m, begin)) in
        map_of calls g max w.places s ok.0 (still_same calls g max tries some who number s.objects s.objects refl w.call.at w.places.directory ok.1)

    rebuilt_map : (outcome : Outcome) (after : Places) → EndsAs g tries who number (rebuild_job c) p outcome after → IsMapOf calls after s
    rebuilt_map outcome after ends =
        let w : AtWork = record { call = first_state; places = p } in
        subst (λ places. IsMapOf calls places s) (ap (λ (w : AtWork). w.places) (sym (ample g tries who number (rebuild_job c) ends.made w)) ∙ ends.leaves) (rebuild_map (replicate ends.made none_short))

-- a rebuild leaves the session's map
rebuild_objects : (g : Shape) (stripe server : ℕ) (s : Session) (numbers : List ℕ) → (rebuild g stripe server s numbers).0.objects ≡ s.objects
rebuild_objects g stripe server s numbers = by (nat_lt stripe (length numbers))
  where
    number : ℕ
    number = get_or numbers stripe 0

    beyond : (chunks : Stripe) (n : ℕ) (b : Bool) → (let r : Session × Answer = if b then (s, Answer.Unavailable stripe (named g s.epochs chunks chunks (server ∷ []))) else (place_anew n server s, Answer.Rebuilt) in r.0).objects ≡ s.objects
    beyond chunks n true = refl
    beyond chunks n false = refl

    one : (chunks : Stripe) (n : ℕ) (b : Bool) → (let r : Session × Answer = if b then (s, Answer.Here) else (if is_beyond_repair g chunks then (s, Answer.Unavailable stripe (named g s.epochs chunks chunks (server ∷ []))) else (place_anew n server s, Answer.Rebuilt)) in r.0).objects ≡ s.objects
    one chunks n true = refl
    one chunks n false = beyond chunks n (is_beyond_repair g chunks)

    by : (b : Bool) → (let r : Session × Answer = if b then rebuild_one g stripe server s (get_or numbers stripe 0) (get_or s.stripes (get_or numbers stripe 0) []) else (s, Answer.Replied reply.NoSuch) in r.0).objects ≡ s.objects
    by true = one (get_or s.stripes (get_or numbers stripe 0) []) (get_or numbers stripe 0) (holds (get_or s.stripes (get_or numbers stripe 0) []) server)
    by false = refl

pub calls_leave_maps : CallsLeaveMaps
calls_leave_maps = record {
  ended = λ calls g max tries stands p s who number c shortages outcome some h m begin client is over. ended_map calls g max tries stands p s who number some h m begin c client is outcome shortages over;
  served = λ calls g max tries stands p after s who number point c some h m begin client is ends. served_map calls g max tries stands p s who number some h m begin c client is point after ends;
}

pub rebuilds_leave_maps : RebuildsLeaveMaps
rebuilds_leave_maps = record {
  any = λ calls g max tries stands p s who number c shortages some h m begin repairer less. rebuild_map calls g max tries stands p s who number some h m begin c repairer less shortages;
  served =
      λ calls g max tries stands p after s who number c outcome some h m begin repairer less ends.
      let there : IsMapOf calls after s = rebuilt_map calls g max tries stands p s who number some h m begin c repairer less outcome after ends in
      record { objects = rebuild_objects g c.stripe c.server s (numbers_of c.name s.numbers) ∙ there.objects; bytes = there.bytes; drawn = there.drawn };
}

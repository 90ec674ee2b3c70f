-- Every line that names a call names one of the script.
use Rattle.std.proofs.Common.{◌≡◌, ℕ, zero, suc, ◌+◌, ◌<◌, ◌≤◌, Bool, true, false, cond, nat_lt, List, [], ◌∷◌, length, map, flat_map, replicate, Option, None, Some, option_and_then, All, refl, sym, ap, subst, ◌∙◌, arith, length-append, true≢false}
use Rattle.std.proofs.lemmas.Bool.{ltb-true}
use Rattle.std.proofs.lemmas.List.{length-map}
use Rattle.std.proofs.lemmas.Option.{same_Some, slice_get_within}
use Rattle.std.proofs.lemmas.List.Elements.{All-nil, All-cons, All-append}
use Rattle.std.specs.List.{slice_get, enumerate_from, list_any}
use Rattle.clay_grid.specs.Shape.{chunk_count}
use Rattle.store_map.specs.Limits.{tries_of}
use Rattle.store_map.specs.declared.actor.Actor.{Actor}
use Rattle.store_map.specs.declared.actor.Actor.TheVariants as actor
use Rattle.store_map.specs.declared.actor.Token.{Token}
use Rattle.store_map.specs.declared.script.ClientPart.{ClientPart}
use Rattle.store_map.specs.declared.script.RepairPart.{RepairPart}
use Rattle.store_map.specs.declared.script.Script.{Script}
use Rattle.store_map.specs.declared.call_name.ClientCall.{ClientCall}
use Rattle.store_map.specs.declared.call_name.RepairCall.{RepairCall}
use Rattle.store_map.specs.declared.call_name.CallName.{CallName}
use Rattle.store_map.specs.declared.call_name.CallName.TheVariants as name
use Rattle.store_map.specs.declared.cause.Cause.{Cause}
use Rattle.store_map.specs.declared.cause.RepairResult.{RepairResult}
use Rattle.store_map.specs.declared.line.XLine.{XLine}
use Rattle.store_map.specs.declared.line.RLine.{RLine}
use Rattle.store_map.specs.declared.line.OLine.{OLine}
use Rattle.store_map.specs.declared.line.GLine.{GLine}
use Rattle.store_core.specs.Act.{Act}
use Rattle.store_core.specs.Core.{Core, first_core}
use Rattle.store_core.specs.NextAct.{Job, job_of, rebuild_job, next_act}
use Rattle.store_core.specs.Outcomes.{cause_of, result_of}
use Rattle.store_core.specs.RowLines.{client, repair}
use Rattle.store_core.specs.Run.{places_in}
use Rattle.store_core.specs.Schedule.{run_core}
use Rattle.store_core.specs.Shown.{shown, refused_line, repair_line, unanswered_line, take_line, take_lines, lines_of_ended, lines_of_actors, client_name, repairer_name}
use Rattle.store_core.specs.Step.{Shortage, Places, take_from, ended_by, actor_step}
use Rattle.store_core.specs.Tell.{tell}
use Rattle.store_core.specs.Told.{Told}
use Rattle.store_core.specs.Work.{Ended, Work, Calling, new_calling, client_work, repairer_work}
use Rattle.run_laws.proofs.Runs.{CanRun}
use Rattle.run_laws.proofs.RunsSound.{RunKeeps}
use Rattle.run_laws.proofs.Scripts.{Mapped, mapped, replicated}
use Rattle.history_laws.proofs.Naming.{IsCall, found_below}
use Rattle.history_laws.proofs.ActorLines.{each_changed}
use Rattle.history_laws.proofs.AtWork.{AtWork, client_at, repairer_at, first, act, after}
use Rattle.history_laws.proofs.Induction.{KeptBySteps, run_has}
use Rattle.history_laws.proofs.PointsOfCalls.{OfScript, job_call}

-- ---- an actor's calls
-- no more have ended than there are; one that was begun is one of them, and before its first step it took nothing
pub record InWork (n : ℕ) (work : Work) (c : Calling) : Type 0 where
  pub below : length c.ended ≤ length work.jobs
  pub begun : 0 < c.steps → length c.ended < length work.jobs
  pub fresh : c.steps ≡ 0 → c.takes ≡ replicate n 0

abbrev pub AllInWork : ℕ → List Work → List Calling → Type 0
AllInWork n works callings = (i : ℕ) (c : Calling) → slice_get callings i ≡ Some c → (work : Work) → slice_get works i ≡ Some work → InWork n work c

module _ (script : Script) (who : Actor) (job : Job) (calling : Calling) (places : Places) (at : AtWork script who job calling places) (shortages : Shortage) (work : Work) (is_job : slice_get work.jobs (length calling.ended) ≡ Some job) where
  abbrev made : Places × Told
  made = after script who job calling places at shortages.coding shortages.step

  abbrev now : List Told
  now = tell script.geometry job (first script who job calling places at shortages.coding shortages.step) made.1

  abbrev middle : Calling
  middle = record { ended = calling.ended; told = now; takes = take_from (act script who job calling places at shortages.coding shortages.step) made.1 calling.takes; steps = calling.steps + 1 }

  there : length calling.ended < length work.jobs
  there = slice_get_within work.jobs (length calling.ended) job is_job

  goes_on : InWork (chunk_count script.geometry) work middle
  goes_on = record { below = omega (arith, there); begun = λ some. there; fresh = λ none. absurd (omega (arith, none)) }

  by_act : (a : Act) → InWork (chunk_count script.geometry) work (ended_by a (chunk_count script.geometry) middle)
  by_act (Act.Finish outcome) =
      record {
        below = (let e : length (ended_by (Act.Finish outcome) (chunk_count script.geometry) middle).ended ≡ length calling.ended + 1 = length-append calling.ended _ in omega (arith, e, there));
        begun = λ some. absurd (omega (arith, some));
        fresh = λ none. refl;
      }
  by_act (Act.AtDirectory step) = goes_on
  by_act (Act.AtServer server step) = goes_on

  stepped : InWork (chunk_count script.geometry) work (actor_step script.geometry (tries_of script) shortages who job calling places).1
  stepped = by_act (next_act script.geometry (tries_of script) job now)

pub record AllCalls (script : Script) (past : List Token) (core : Core) : Type 0 where
  pub clients : AllInWork (chunk_count script.geometry) (client_work script) core.clients
  pub repairers : AllInWork (chunk_count script.geometry) (repairer_work script) core.repairers

module _ (script : Script) (can : CanRun script) where
  abbrev n : ℕ
  n = chunk_count script.geometry

  pub calls_kept : KeptBySteps script can (AllCalls script)
  calls_kept =
      record {
        quiet = λ past next core is_quiet has. record { clients = has.clients; repairers = has.repairers };
        client = λ past core kept has i work calling job is_work is_calling is_job shortages.
            record {
              clients =
                  each_changed (λ j c. (w : Work) → slice_get (client_work script) j ≡ Some w → InWork n w c) i calling _ core.clients is_calling
                  (λ w is. subst (λ (x : Work). InWork n x (actor_step script.geometry (tries_of script) shortages (actor.Client i) job calling (places_in core)).1) (same_Some work w (sym is_work ∙ is))
                  (stepped script (actor.Client i) job calling (places_in core) (client_at script can core kept i work calling job is_work is_calling is_job) shortages work is_job))
                  (λ j differ c e. has.clients j c e);
              repairers = has.repairers;
            };
        repairer = λ past core kept has i work calling job is_work is_calling is_job shortages.
            record {
              clients = has.clients;
              repairers =
                  each_changed (λ j c. (w : Work) → slice_get (repairer_work script) j ≡ Some w → InWork n w c) i calling _ core.repairers is_calling
                  (λ w is. subst (λ (x : Work). InWork n x (actor_step script.geometry (tries_of script) shortages (actor.Repairer i) job calling (places_in core)).1) (same_Some work w (sym is_work ∙ is))
                  (stepped script (actor.Repairer i) job calling (places_in core) (repairer_at script can core kept i work calling job is_work is_calling is_job) shortages work is_job))
                  (λ j differ c e. has.repairers j c e);
            };
        sweeper = λ past core kept has. record { clients = has.clients; repairers = has.repairers };
        wipe = λ past core kept has server. record { clients = has.clients; repairers = has.repairers };
        down = λ past core kept has server. record { clients = has.clients; repairers = has.repairers };
        up = λ past core kept has server. record { clients = has.clients; repairers = has.repairers };
        reap_client = λ past core kept has i. record { clients = has.clients; repairers = has.repairers };
        reap_repairer = λ past core kept has i. record { clients = has.clients; repairers = has.repairers };
      }

  new_work : (works : List Work) (k : ℕ) → AllInWork n works (replicate k (new_calling n))
  new_work works k i c e work is =
      subst (λ (x : Calling). InWork n work x) (replicated k i (new_calling n) c e) (record { below = omega arith; begun = λ some. absurd (omega (arith, some)); fresh = λ none. refl })

  pub first_calls : AllCalls script [] (first_core script)
  first_calls = record { clients = new_work (client_work script) (length script.clients); repairers = new_work (repairer_work script) (length script.repairers) }

-- ---- calls of the script
pub inside : {X : Type 0} (xs : List X) (i : ℕ) → i < length xs → (x : X) × (slice_get xs i ≡ Some x)
inside [] i h = absurd (omega (arith, h))
inside (x ∷ xs) zero h = (x, refl)
inside (x ∷ xs) (suc i) h = inside xs i (omega (arith, h))

module _ (script : Script) where
  client_named : (i number : ℕ) (work : Work) → slice_get (client_work script) i ≡ Some work → number < length work.jobs → IsCall script (client_name i number)
  client_named i number work is_work low =
      let job : (x : Job) × (slice_get work.jobs number ≡ Some x) = inside work.jobs number low in
      let of : OfScript script i number job.0 = job_call script i number work job.0 is_work job.1 in
      found_below (λ (p : ClientPart). p.calls) (slice_get script.clients i) number of.call of.is_call

  repairer_of : RepairPart → Work
  repairer_of part = record { jobs = map rebuild_job part.calls; leave = part.leave }

  repairer_named : (i number : ℕ) (work : Work) → slice_get (repairer_work script) i ≡ Some work → number < length work.jobs → IsCall script (repairer_name i number)
  unfolding repairer_of
  repairer_named i number work is_work low =
      let job : (x : Job) × (slice_get work.jobs number ≡ Some x) = inside work.jobs number low in
      let part : Mapped repairer_of script.repairers i work = mapped repairer_of script.repairers i work is_work in
      let jobs : map rebuild_job part.source.calls ≡ work.jobs = ap (λ (w : Work). w.jobs) part.is_image in
      let one : Mapped rebuild_job part.source.calls number job.0 = mapped rebuild_job part.source.calls number job.0 (ap (λ (js : List Job). slice_get js number) jobs ∙ job.1) in
      found_below (λ (p : RepairPart). p.calls) (slice_get script.repairers i) number one.source (ap (option_and_then (λ (p : RepairPart). slice_get p.calls number)) part.found ∙ one.found)

-- ---- lines
module _ {Line : Type 0} (Q : Line → Type 0) where
  pub ended_lines : (line : ℕ → Ended → List Line) (a : ℕ) (es : List Ended) → ((number : ℕ) (e : Ended) → number < a + length es → All Q (line number e)) → All Q (flat_map (λ entry. line entry.0 entry.1) (enumerate_from a es))
  ended_lines line a [] h = All-nil Q
  ended_lines line a (e ∷ es) h =
      All-append Q (line a e) (flat_map (λ entry. line entry.0 entry.1) (enumerate_from (a + 1) es)) (h a e (omega arith))
      (ended_lines line (a + 1) es (λ number x low. h number x (omega (arith, low))))

  pub actor_lines : (lines : ℕ → Calling → List Line) (a : ℕ) (cs : List Calling) → ((k : ℕ) (c : Calling) → slice_get cs k ≡ Some c → All Q (lines (a + k) c)) → All Q (flat_map (λ entry. lines entry.0 entry.1) (enumerate_from a cs))
  actor_lines lines a [] h = All-nil Q
  actor_lines lines a (c ∷ cs) h =
      All-append Q (lines a c) (flat_map (λ entry. lines entry.0 entry.1) (enumerate_from (a + 1) cs))
      (let none : a + 0 ≡ a = omega arith in subst (λ m. All Q (lines m c)) none (h 0 c refl))
      (actor_lines lines (a + 1) cs (λ k x e. let one : a + suc k ≡ a + 1 + k = omega arith in subst (λ m. All Q (lines m x)) one (h (suc k) x e)))

  pub one_if : (b : Bool) (line : Line) → (b ≡ true → Q line) → All Q (cond {A = List Line} b (line ∷ []) [])
  one_if true line h = All-cons Q line [] (h refl) (All-nil Q)
  one_if false line h = All-nil Q

pub no_zeros : (n : ℕ) → list_any (nat_lt 0) (replicate n 0) ≡ false
no_zeros zero = refl
no_zeros (suc n) = no_zeros n

refused_named : (script : Script) (call : ClientCall) (cause : Option Cause) → IsCall script (name.Client call) → All (λ (line : XLine). IsCall script (name.Client line.call)) (refused_line call cause)
refused_named script call None h = All-nil (λ (line : XLine). IsCall script (name.Client line.call))
refused_named script call (Some cause) h =
    All-cons (λ (line : XLine). IsCall script (name.Client line.call)) (record { call = call; cause = cause }) [] h (All-nil (λ (line : XLine). IsCall script (name.Client line.call)))

repair_named : (script : Script) (call : RepairCall) (result : Option RepairResult) → IsCall script (name.Repairer call) → All (λ (line : RLine). IsCall script (name.Repairer line.call)) (repair_line call result)
repair_named script call None h = All-nil (λ (line : RLine). IsCall script (name.Repairer line.call))
repair_named script call (Some result) h =
    All-cons (λ (line : RLine). IsCall script (name.Repairer line.call)) (record { call = call; result = result }) [] h (All-nil (λ (line : RLine). IsCall script (name.Repairer line.call)))

module _ (script : Script) (n : ℕ) (nm : ℕ → CallName) (work : Work) (named : (number : ℕ) → number < length work.jobs → IsCall script (nm number)) (c : Calling) (in_work : InWork n work c) where
  of_ended : {Line : Type 0} (Q : Line → Type 0) (line : ℕ → Ended → List Line) → ((number : ℕ) (e : Ended) → IsCall script (nm number) → All Q (line number e)) → All Q (lines_of_ended line c)
  of_ended Q line h =
      ended_lines Q line 0 c.ended (λ number e low. h number e (named number (let most : length c.ended ≤ length work.jobs = in_work.below in omega (arith, low, most))))

  unanswered : All (λ (line : OLine). IsCall script line.call) (unanswered_line nm c)
  unanswered = one_if (λ (line : OLine). IsCall script line.call) (nat_lt 0 c.steps) (record { call = nm (length c.ended) }) (λ e. named (length c.ended) (in_work.begun (ltb-true 0 c.steps e)))

  take_named : (number : ℕ) (takes : List ℕ) → (list_any (nat_lt 0) takes ≡ true → IsCall script (nm number)) → All (λ (line : GLine). IsCall script line.call) (take_line (nm number) takes)
  take_named number takes h = one_if (λ (line : GLine). IsCall script line.call) (list_any (nat_lt 0) takes) (record { call = nm number; takes = takes }) h

  some_steps : (steps : ℕ) → c.steps ≡ steps → list_any (nat_lt 0) c.takes ≡ true → 0 < c.steps
  some_steps zero e some = absurd (true≢false (sym some ∙ ap (λ (l : List ℕ). list_any (nat_lt 0) l) (in_work.fresh e) ∙ no_zeros n))
  some_steps (suc k) e some = omega (arith, e)

  all_takes : All (λ (line : GLine). IsCall script line.call) (take_lines nm c)
  all_takes =
      All-append (λ (line : GLine). IsCall script line.call) (lines_of_ended (λ number ended. take_line (nm number) ended.takes) c) (take_line (nm (length c.ended)) c.takes)
      (of_ended (λ (line : GLine). IsCall script line.call) (λ number ended. take_line (nm number) ended.takes) (λ number e h. take_named number e.takes (λ _. h)))
      (take_named (length c.ended) c.takes (λ some. named (length c.ended) (in_work.begun (some_steps c.steps refl some))))

renamed_client : (script : Script) (k number : ℕ) → IsCall script (client_name k number) → IsCall script (client_name (0 + k) number)
renamed_client script k number h = let same : 0 + k ≡ k = omega arith in subst (λ m. IsCall script (client_name m number)) (sym same) h

renamed_repairer : (script : Script) (k number : ℕ) → IsCall script (repairer_name k number) → IsCall script (repairer_name (0 + k) number)
renamed_repairer script k number h = let same : 0 + k ≡ k = omega arith in subst (λ m. IsCall script (repairer_name m number)) (sym same) h

-- the refusals, rebuilds, calls without an answer and takes of a run are of calls of the script
pub record OthersNamed (script : Script) (core : Core) : Type 0 where
  pub refused : All (λ (line : XLine). IsCall script (name.Client line.call)) (shown script core).refused
  pub repairs : All (λ (line : RLine). IsCall script (name.Repairer line.call)) (shown script core).repairs
  pub unanswered : All (λ (line : OLine). IsCall script line.call) (shown script core).unanswered
  pub takes : All (λ (line : GLine). IsCall script line.call) (shown script core).takes

pub others_named : (script : Script) (can : CanRun script) (shortages : List Shortage) (tokens : List Token) → OthersNamed script (run_core script shortages tokens)
others_named script can shortages tokens =
    let core : Core = run_core script shortages tokens in
    let n : ℕ = chunk_count script.geometry in
    let end : RunKeeps script core × AllCalls script tokens core = run_has script can (AllCalls script) (calls_kept script can) shortages (first_calls script can) tokens in
    let client_has : (k : ℕ) (c : Calling) → slice_get core.clients k ≡ Some c → (w : Work) × (slice_get (client_work script) k ≡ Some w) =
    λ k c e.
    inside (client_work script) k
    (let low : k < length core.clients = slice_get_within core.clients k c e in
    let same : length core.clients ≡ length script.clients = end.0.keeps.client_count in
    let size : length (client_work script) ≡ length script.clients = length-map script.clients (λ (part : ClientPart). record { jobs = map job_of part.calls; leave = part.leave }) in
    omega (arith, low, same, size)) in
    let repairer_has : (k : ℕ) (c : Calling) → slice_get core.repairers k ≡ Some c → (w : Work) × (slice_get (repairer_work script) k ≡ Some w) =
    λ k c e.
    inside (repairer_work script) k
    (let low : k < length core.repairers = slice_get_within core.repairers k c e in
    let same : length core.repairers ≡ length script.repairers = end.0.keeps.repairer_count in
    let size : length (repairer_work script) ≡ length script.repairers = length-map script.repairers (λ (part : RepairPart). record { jobs = map rebuild_job part.calls; leave = part.leave }) in
    omega (arith, low, same, size)) in
    record {
      refused =
          actor_lines (λ (line : XLine). IsCall script (name.Client line.call)) (λ i. lines_of_ended (λ number ended. refused_line (client i number) (cause_of ended.outcome))) 0 core.clients
          (λ k c e.
          of_ended script n (client_name (0 + k)) (client_has k c e).0 (λ number low. renamed_client script k number (client_named script k number (client_has k c e).0 (client_has k c e).1 low)) c (end.1.clients k c e (client_has k c e).0 (client_has k c e).1)
          (λ (line : XLine). IsCall script (name.Client line.call)) (λ number ended. refused_line (client (0 + k) number) (cause_of ended.outcome))
          (λ number ended h. refused_named script (client (0 + k) number) (cause_of ended.outcome) h));
      repairs =
          actor_lines (λ (line : RLine). IsCall script (name.Repairer line.call)) (λ i. lines_of_ended (λ number ended. repair_line (repair i number) (result_of ended.outcome))) 0 core.repairers
          (λ k c e.
          of_ended script n (repairer_name (0 + k)) (repairer_has k c e).0 (λ number low. renamed_repairer script k number (repairer_named script k number (repairer_has k c e).0 (repairer_has k c e).1 low)) c (end.1.repairers k c e (repairer_has k c e).0 (repairer_has k c e).1)
          (λ (line : RLine). IsCall script (name.Repairer line.call)) (λ number ended. repair_line (repair (0 + k) number) (result_of ended.outcome))
          (λ number ended h. repair_named script (repair (0 + k) number) (result_of ended.outcome) h));
      unanswered =
          All-append (λ (line : OLine). IsCall script line.call) (lines_of_actors (λ i. unanswered_line (client_name i)) core.clients) (lines_of_actors (λ i. unanswered_line (repairer_name i)) core.repairers)
          (actor_lines (λ (line : OLine). IsCall script line.call) (λ i. unanswered_line (client_name i)) 0 core.clients
          (λ k c e. unanswered script n (client_name (0 + k)) (client_has k c e).0 (λ number low. renamed_client script k number (client_named script k number (client_has k c e).0 (client_has k c e).1 low)) c (end.1.clients k c e (client_has k c e).0 (client_has k c e).1)))
          (actor_lines (λ (line : OLine). IsCall script line.call) (λ i. unanswered_line (repairer_name i)) 0 core.repairers
          (λ k c e. unanswered script n (repairer_name (0 + k)) (repairer_has k c e).0 (λ number low. renamed_repairer script k number (repairer_named script k number (repairer_has k c e).0 (repairer_has k c e).1 low)) c (end.1.repairers k c e (repairer_has k c e).0 (repairer_has k c e).1)));
      takes =
          All-append (λ (line : GLine). IsCall script line.call) (lines_of_actors (λ i. take_lines (client_name i)) core.clients) (lines_of_actors (λ i. take_lines (repairer_name i)) core.repairers)
          (actor_lines (λ (line : GLine). IsCall script line.call) (λ i. take_lines (client_name i)) 0 core.clients
          (λ k c e. all_takes script n (client_name (0 + k)) (client_has k c e).0 (λ number low. renamed_client script k number (client_named script k number (client_has k c e).0 (client_has k c e).1 low)) c (end.1.clients k c e (client_has k c e).0 (client_has k c e).1)))
          (actor_lines (λ (line : GLine). IsCall script line.call) (λ i. take_lines (repairer_name i)) 0 core.repairers
          (λ k c e. all_takes script n (repairer_name (0 + k)) (repairer_has k c e).0 (λ number low. renamed_repairer script k number (repairer_named script k number (repairer_has k c e).0 (repairer_has k c e).1 low)) c (end.1.repairers k c e (repairer_has k c e).0 (repairer_has k c e).1)));
    }

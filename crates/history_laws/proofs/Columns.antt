-- What all calls of a script take from one server is less than 2^64 subchunks.
use Rattle.std.proofs.Common.{◌≡◌, ℕ, zero, suc, ◌+◌, ◌-◌, ◌*◌, ◌/◌, ◌^◌, ◌<◌, ◌≤◌, min, Bool, true, false, List, [], ◌∷◌, ◌++◌, length, map, replicate, sum_by, get_or, option_and_then, Option, None, Some, unwrap_or, IfSome, All, ◌⊎◌, inl, inr, refl, sym, ap, subst, ◌∙◌, arith}
use Rattle.std.proofs.lemmas.Bool.{cond_both}
use Rattle.std.proofs.lemmas.List.Elements.{All-nil, All-push}
use Rattle.std.proofs.lemmas.List.Sums.{sum_by-le}
use Rattle.std.proofs.Math.Nat.{mul-le-mul_right, add-mul-div_left, div-mul-le_self}
use Rattle.std.proofs.lemmas.Nat.{le-div, mul-le}
use Rattle.std.proofs.lemmas.Option.{none-some, slice_get_within}
use Rattle.std.specs.List.{slice_get}
use Rattle.clay_grid.specs.Limits.{IsGeometry}
use Rattle.std.proofs.lemmas.List.{length-map}
use Rattle.clay_grid.specs.Shape.{Shape, chunk_count, layer_count, node_count, stripe_length}
use Rattle.store_map.specs.Content.{content_length}
use Rattle.store_map.specs.Limits.{size_of, tries_of, stripes_met, data_length}
use Rattle.store_map.specs.Naming.{IsValid}
use Rattle.store_map.specs.declared.limits.TheConstants.{MAX_CLIENTS, MAX_REPAIRERS, MAX_CALLS, MAX_DATA, MAX_SIZE, DEFAULT_SIZE, MAX_TRIES, DEFAULT_TRIES}
use Rattle.store_map.specs.declared.actor.Actor.{Actor}
use Rattle.store_map.specs.declared.actor.Actor.TheVariants as actor
use Rattle.store_map.specs.declared.actor.Token.{Token}
use Rattle.store_map.specs.declared.call.Call.{Call}
use Rattle.store_map.specs.declared.call.Call.TheVariants as call
use Rattle.store_map.specs.declared.script.ClientPart.{ClientPart}
use Rattle.store_map.specs.declared.script.RepairPart.{RepairPart}
use Rattle.store_map.specs.declared.script.Script.{Script}
use Rattle.store_core.specs.Act.{Act, DirectoryStep, ServerStep, Outcome, server_takes_memory}
use Rattle.store_core.specs.Bounds.{touched_count, read_count, bound_by, step_bound}
use Rattle.store_core.specs.Core.{Core, first_core}
use Rattle.store_core.specs.Lists.{change_at, is_among}
use Rattle.store_map.specs.declared.placement.Placement.TheVariants as placement
use Rattle.store_core.specs.Tell.{tell}
use Rattle.run_laws.specs.CallLeft.{call_left}
use Rattle.store_core.specs.NextAct.{Job, job_of, rebuild_job, next_act}
use Rattle.store_core.specs.Note.{Note, Kind, note_of}
use Rattle.store_core.specs.Run.{places_in}
use Rattle.store_core.specs.Schedule.{run_core}
use Rattle.store_core.specs.Server.{Server, raised_by, install, gives, found_at, hold, made_at_server, server_unless_short, at_server}
use Rattle.store_core.specs.Step.{Shortage, Places, at_places, at_server_there, take_from, ended_by, actor_step}
use Rattle.store_core.specs.Told.{Told}
use Rattle.store_core.specs.Work.{Ended, Work, Calling, client_work, repairer_work, new_calling}
use Rattle.run_laws.proofs.Runs.{CanRun}
use Rattle.run_laws.proofs.RunsSound.{RunKeeps, fit_repairers}
use Rattle.run_laws.proofs.Scripts.{replicated, Mapped, mapped}
use Rattle.run_laws.proofs.StillToMake.{has_step_left}
use Rattle.history_laws.proofs.ActorLines.{each_changed}
use Rattle.history_laws.proofs.AtWork.{AtWork, client_at, repairer_at, first, act, after}
use Rattle.history_laws.proofs.ColumnAsks.{IsSmall, ActSmall, acts_small}
use Rattle.history_laws.proofs.Induction.{KeptBySteps, run_has}
use Rattle.history_laws.proofs.NamedCalls.{AllCalls, calls_kept, first_calls, inside}
use Rattle.history_laws.proofs.TakesRuns.{of_ended, total, group}
use Rattle.run_laws.proofs.SoundLists.{at_all, all_at}
use Rattle.history_laws.proofs.PointsOfCalls.{OfScript, job_call}

-- ---- how many steps a call makes
div_mono : (a b k : ℕ) → 0 < k → a ≤ b → a / k ≤ b / k
div_mono a b k some h = le-div (a / k) b k some (let back : a / k * k ≤ a = div-mul-le_self a k in omega (arith, back, h))

-- stripes met are no more than bytes
met_by : (stripe : ℕ) → 0 < stripe → (offset k : ℕ) → (offset + k) / stripe ≤ offset / stripe + k
met_by stripe some offset k =
    let more : offset + k ≤ offset + stripe * k = (let one : 1 * k ≤ stripe * k = mul-le-mul_right k some in omega (arith, one)) in
    let whole : (offset + stripe * k) / stripe ≡ offset / stripe + k = add-mul-div_left offset k some in
    let less : (offset + k) / stripe ≤ (offset + stripe * k) / stripe = div_mono (offset + k) (offset + stripe * k) stripe some more in
    omega (arith, whole, less)

met_most : (stripe : ℕ) → 0 < stripe → (offset n : ℕ) → stripes_met stripe offset n ≤ n
met_most stripe some offset zero = omega arith
met_most stripe some offset (suc k) = let most : (offset + k) / stripe ≤ offset / stripe + k = met_by stripe some offset k in omega (arith, most)

-- each kind of call, where there are at most 24 servers, 8 tries, 2^21 stripes to touch and 2^20 to read
twice_most : (n s : ℕ) → n ≤ 24 → s ≤ 2097152 → n * s ≤ 50331648
twice_most n s few small = mul-le n s 24 2097152 few small

put_most : (n s : ℕ) → n ≤ 24 → s ≤ 2097152 → 2 * n * s + 3 ≤ 536870912
put_most n s few small = let product : 2 * n * s ≤ 48 * 2097152 = mul-le (2 * n) s 48 2097152 (omega (arith, few)) small in omega (arith, product)

write_most : (n tries s : ℕ) → n ≤ 24 → tries ≤ 8 → s ≤ 2097152 → tries * (6 * n + n * s + 3) + n * s + 1 ≤ 536870912
write_most n tries s few some small =
    let product : n * s ≤ 50331648 = twice_most n s few small in
    let one : 6 * n + n * s + 3 ≤ 50331795 = omega (arith, product, few) in
    let all : tries * (6 * n + n * s + 3) ≤ 8 * 50331795 = mul-le tries (6 * n + n * s + 3) 8 50331795 some one in
    omega (arith, product, all)

read_most : (n r : ℕ) → n ≤ 24 → r ≤ 1048576 → 3 * n * r + 2 ≤ 536870912
read_most n r few small = let product : 3 * n * r ≤ 72 * 1048576 = mul-le (3 * n) r 72 1048576 (omega (arith, few)) small in omega (arith, product)

min_most : (a b c : ℕ) → b ≤ c → min a (b - 0) ≤ c
min_most a b c h = omega (arith, h)

-- a call of a client
call_most : (g : Shape) (max tries : ℕ) → 0 < stripe_length g → chunk_count g ≤ 24 → max ≤ 1048576 → tries ≤ 8 → (c : Call) → data_length c ≤ 2097152 → step_bound g max tries (note_of c) ≤ 536870912
call_most g max tries some few size less (call.Put name content) long =
    put_most (chunk_count g) (stripes_met (stripe_length g) 0 (content_length content)) few (let met : stripes_met (stripe_length g) 0 (content_length content) ≤ content_length content = met_most (stripe_length g) some 0 (content_length content) in omega (arith, met, long))
call_most g max tries some few size less (call.Write name offset content) long =
    write_most (chunk_count g) tries (stripes_met (stripe_length g) offset (content_length content)) few less
    (let met : stripes_met (stripe_length g) offset (content_length content) ≤ content_length content = met_most (stripe_length g) some offset (content_length content) in omega (arith, met, long))
call_most g max tries some few size less (call.Get name) long =
    read_most (chunk_count g) (stripes_met (stripe_length g) 0 max) few (let met : stripes_met (stripe_length g) 0 max ≤ max = met_most (stripe_length g) some 0 max in omega (arith, met, size))
call_most g max tries some few size less (call.ReadAt name offset count) long =
    read_most (chunk_count g) (stripes_met (stripe_length g) offset (min count (max - offset))) few
    (let met : stripes_met (stripe_length g) offset (min count (max - offset)) ≤ min count (max - offset) = met_most (stripe_length g) some offset (min count (max - offset)) in omega (arith, met, size))
call_most g max tries some few size less (call.Stat name) long = omega arith
call_most g max tries some few size less (call.Delete name) long = omega arith

-- ---- what one step takes
abbrev AtMost : ℕ → Told → Type 0
AtMost most (Told.Given layers) = layers ≤ most
AtMost most answer = Unit {0}

installed_most : (most : ℕ) (away there : Bool) (version : ℕ) (s : Server) → AtMost most (install away there version s).1
installed_most most true there version s = tt
installed_most most false true version s = tt
installed_most most false false version s = tt

made_most : (g : Shape) (step : ServerStep) → IsSmall g step → (s : Server) → AtMost (layer_count g) (made_at_server step s).1
made_most g (ServerStep.Prepare version) small s =
    cond_both {A = Server × Told} s.away (s, Told.Prepared (placement.Skipped s.downs)) (record s { held = hold version s.held }, Told.Prepared (placement.At s.epoch)) (λ r. AtMost (layer_count g) r.1) (λ _. tt) (λ _. tt)
made_most g (ServerStep.Settle version) small s = tt
made_most g (ServerStep.Has version) small s = cond_both {A = Server × Told} (gives version s) (s, Told.Here) (s, Told.Missing (found_at s)) (λ r. AtMost (layer_count g) r.1) (λ _. tt) (λ _. tt)
made_most g (ServerStep.Fetch version layers) small s =
    cond_both {A = Server × Told} (gives version s) (record s { taken = raised_by (length layers) s.taken }, Told.Given (length layers)) (s, Told.Missing (found_at s)) (λ r. AtMost (layer_count g) r.1) (λ _. small) (λ _. tt)
made_most g (ServerStep.Install version) small s = installed_most (layer_count g) s.away (is_among version s.held) version s
made_most g (ServerStep.Discard version) small s = tt
made_most g ServerStep.Wipe small s = tt
made_most g ServerStep.Down small s = tt
made_most g ServerStep.Up small s = tt

short_most : (g : Shape) (short takes : Bool) (step : ServerStep) → IsSmall g step → (s : Server) → AtMost (layer_count g) (server_unless_short short takes step s).1
short_most g true true step small s = tt
short_most g true false step small s = made_most g step small s
short_most g false true step small s = made_most g step small s
short_most g false false step small s = made_most g step small s

-- a count that rises by no more than so many
change_most : (most : ℕ) (f : ℕ → ℕ) → ((n : ℕ) → f n ≤ n + most) → (i j : ℕ) (xs : List ℕ) → get_or (change_at i f xs) j 0 ≤ get_or xs j 0 + most
change_most most f h i j [] = omega arith
change_most most f h zero zero (x ∷ xs) = h x
change_most most f h zero (suc j) (x ∷ xs) = let same : get_or xs j 0 ≤ get_or xs j 0 + most = omega arith in same
change_most most f h (suc i) zero (x ∷ xs) = omega arith
change_most most f h (suc i) (suc j) (x ∷ xs) = change_most most f h i j xs

given_most : (most layers : ℕ) → layers ≤ most → (n : ℕ) → raised_by layers n ≤ n + most
given_most most layers h n = omega (arith, h)

take_most : (most server : ℕ) (step : ServerStep) (answer : Told) → AtMost most answer → (j : ℕ) (takes : List ℕ) → get_or (take_from (Act.AtServer server step) answer takes) j 0 ≤ get_or takes j 0 + most
take_most most server step (Told.Given layers) h j takes = change_most most (raised_by layers) (given_most most layers h) server j takes
take_most most server step answer h j takes = omega arith

act_most : (g : Shape) (short : Bool) (who : Actor) (number : ℕ) (a : Act) → ActSmall g a → (places : Places) (j : ℕ) (takes : List ℕ)
    → get_or (take_from a (at_places short who number a places).1 takes) j 0 ≤ get_or takes j 0 + layer_count g
act_most g short who number (Act.AtDirectory step) small places j takes = omega arith
act_most g short who number (Act.AtServer server step) small places j takes = by (slice_get places.servers server)
  where
    by : (found : Option Server) → get_or (take_from (Act.AtServer server step) (at_server_there short server step places found).1 takes) j 0 ≤ get_or takes j 0 + layer_count g
    by None = omega arith
    by (Some s) = take_most (layer_count g) server step (at_server short step s).1 (short_most g short (server_takes_memory step) step small s) j takes
act_most g short who number (Act.Finish outcome) small places j takes = omega arith

-- ---- an actor's calls
-- a call that has ended took at most 2^10 subchunks in each of its at most 2^29 steps, and so did the call in work
pub record TakesFew (c : Calling) : Type 0 where
  pub ended : (j : ℕ) → All (λ (e : Ended). get_or e.takes j 0 ≤ 549755813888) c.ended
  pub takes : (j : ℕ) → get_or c.takes j 0 ≤ 1024 * c.steps
  pub steps : c.steps ≤ 536870912

no_take : (n j : ℕ) → get_or (replicate {A = ℕ} n 0) j 0 ≡ 0
no_take zero j = refl
no_take (suc n) zero = refl
no_take (suc n) (suc j) = no_take n j

fresh_few : (n : ℕ) (es : List Ended) → ((j : ℕ) → All (λ (e : Ended). get_or e.takes j 0 ≤ 549755813888) es) → TakesFew (record { ended = es; told = []; takes = replicate n 0; steps = 0 })
fresh_few n es h = record { ended = h; takes = λ j. let none : get_or (replicate {A = ℕ} n 0) j 0 ≡ 0 = no_take n j in omega (arith, none); steps = omega arith }

module _ (script : Script) (layers : layer_count script.geometry ≤ 1024) (who : Actor) (job : Job) (bound : step_bound script.geometry (size_of script) (tries_of script) job.note ≤ 536870912)
    (calling : Calling) (places : Places) (at : AtWork script who job calling places) (shortages : Shortage) (few : TakesFew calling) where
  abbrev g : Shape
  g = script.geometry

  abbrev made : Places × Told
  made = after script who job calling places at shortages.coding shortages.step

  abbrev now : List Told
  now = tell g job (first script who job calling places at shortages.coding shortages.step) made.1

  abbrev taken : List ℕ
  taken = take_from (act script who job calling places at shortages.coding shortages.step) made.1 calling.takes

  abbrev middle : Calling
  middle = record { ended = calling.ended; told = now; takes = taken; steps = calling.steps + 1 }

  one_more : (j : ℕ) → get_or taken j 0 ≤ get_or calling.takes j 0 + layer_count g
  one_more j =
      act_most g shortages.step who (length calling.ended) (act script who job calling places at shortages.coding shortages.step)
      (acts_small g (tries_of script) job (first script who job calling places at shortages.coding shortages.step)) places j calling.takes

  low : calling.steps + 1 ≤ 536870912
  low =
      let left : 0 < call_left g (size_of script) (tries_of script) job calling.told = has_step_left g (size_of script) (tries_of script) job at.target calling.told at.in_work.stands.going in
      let all : call_left g (size_of script) (tries_of script) job calling.told + calling.steps ≤ step_bound g (size_of script) (tries_of script) job.note = at.in_work.bound in
      omega (arith, left, all, bound)

  middle_takes : (j : ℕ) → get_or taken j 0 ≤ 1024 * (calling.steps + 1)
  middle_takes j =
      let step : get_or taken j 0 ≤ get_or calling.takes j 0 + layer_count g = one_more j in
      let before : get_or calling.takes j 0 ≤ 1024 * calling.steps = few.takes j in
      omega (arith, step, before, layers)

  goes_on : TakesFew middle
  goes_on = record { ended = few.ended; takes = middle_takes; steps = low }

  by_act : (a : Act) → TakesFew (ended_by a (chunk_count g) middle)
  by_act (Act.Finish outcome) =
      fresh_few (chunk_count g) (calling.ended ++ record { outcome = outcome; takes = taken } ∷ [])
      (λ j.
      All-push (λ (e : Ended). get_or e.takes j 0 ≤ 549755813888) calling.ended (record { outcome = outcome; takes = taken }) (few.ended j)
      (let most : get_or taken j 0 ≤ 1024 * (calling.steps + 1) = middle_takes j in omega (arith, most, low)))
  by_act (Act.AtDirectory step) = goes_on
  by_act (Act.AtServer server step) = goes_on

  pub step_few : TakesFew (actor_step script.geometry (tries_of script) shortages who job calling places).1
  step_few = by_act (next_act g (tries_of script) job now)

-- ---- all calls
pub record AllFew (past : List Token) (core : Core) : Type 0 where
  pub clients : (i : ℕ) (c : Calling) → slice_get core.clients i ≡ Some c → TakesFew c
  pub repairers : (i : ℕ) (c : Calling) → slice_get core.repairers i ≡ Some c → TakesFew c

module _ (script : Script) (geometry : IsGeometry script.geometry) (valid : IsValid script) (can : CanRun script) where
  servers : chunk_count script.geometry ≤ 24
  servers = let one : chunk_count script.geometry ≤ node_count script.geometry = geometry.chunks in let two : node_count script.geometry ≤ 24 = geometry.nodes in omega (arith, one, two)

  size : size_of script ≤ 1048576
  size = by script.size valid.limits.size
    where
      by : (found : Option ℕ) → IfSome found (λ n. (1 ≤ n) × (n ≤ MAX_SIZE)) → unwrap_or found DEFAULT_SIZE ≤ 1048576
      by None h = omega arith
      by (Some n) h = h.1

  tries : tries_of script ≤ 8
  tries = by script.tries valid.limits.tries
    where
      by : (found : Option ℕ) → IfSome found (λ n. (1 ≤ n) × (n ≤ MAX_TRIES)) → unwrap_or found DEFAULT_TRIES ≤ 8
      by None h = omega arith
      by (Some n) h = h.1

  call_long : (i number : ℕ) (c : Call) → (found : Option ClientPart) → slice_get script.clients i ≡ found → option_and_then (λ (p : ClientPart). slice_get p.calls number) found ≡ Some c → data_length c ≤ 2097152
  call_long i number c None is e = absurd (none-some c e)
  call_long i number c (Some part) is e =
      at_all (λ (one : Call). data_length one ≤ MAX_DATA) part.calls number c (at_all (λ (p : ClientPart). All (λ one. data_length one ≤ MAX_DATA) p.calls) script.clients i part valid.limits.data_lengths is) e

  client_bound : (i : ℕ) (work : Work) (number : ℕ) (job : Job) → slice_get (client_work script) i ≡ Some work → slice_get work.jobs number ≡ Some job → step_bound script.geometry (size_of script) (tries_of script) job.note ≤ 536870912
  client_bound i work number job is_work is_job =
      let of : OfScript script i number job = job_call script i number work job is_work is_job in
      subst (λ (j : Job). step_bound script.geometry (size_of script) (tries_of script) j.note ≤ 536870912) of.is_job
      (call_most script.geometry (size_of script) (tries_of script) can.some servers size tries of.call (call_long i number of.call (slice_get script.clients i) refl of.is_call))

  repairer_bound : (i : ℕ) (work : Work) (number : ℕ) (job : Job) → slice_get (repairer_work script) i ≡ Some work → slice_get work.jobs number ≡ Some job → step_bound script.geometry (size_of script) (tries_of script) job.note ≤ 536870912
  repairer_bound i work number job is_work is_job =
      subst (λ k. bound_by k (chunk_count script.geometry) (tries_of script) (touched_count script.geometry job.note) (read_count job.note.kind script.geometry (size_of script) job.note) ≤ 536870912) (sym (fit_repairers script i work is_work number job is_job))
      (let few : chunk_count script.geometry ≤ 24 = servers in omega (arith, few))

  few_kept : KeptBySteps script can AllFew
  few_kept =
      record {
        quiet = λ past next core is_quiet has. record { clients = has.clients; repairers = has.repairers };
        client = λ past core kept has i work calling job is_work is_calling is_job shortages.
            record {
              clients =
                  each_changed (λ j c. TakesFew c) i calling _ core.clients is_calling
                  (step_few script geometry.limits.layers (actor.Client i) job (client_bound i work (length calling.ended) job is_work is_job) calling (places_in core)
                  (client_at script can core kept i work calling job is_work is_calling is_job) shortages (has.clients i calling is_calling))
                  (λ j differ c e. has.clients j c e);
              repairers = has.repairers;
            };
        repairer = λ past core kept has i work calling job is_work is_calling is_job shortages.
            record {
              clients = has.clients;
              repairers =
                  each_changed (λ j c. TakesFew c) i calling _ core.repairers is_calling
                  (step_few script geometry.limits.layers (actor.Repairer i) job (repairer_bound i work (length calling.ended) job is_work is_job) calling (places_in core)
                  (repairer_at script can core kept i work calling job is_work is_calling is_job) shortages (has.repairers i calling is_calling))
                  (λ j differ c e. has.repairers j c e);
            };
        sweeper = λ past core kept has. record { clients = has.clients; repairers = has.repairers };
        wipe = λ past core kept has server. record { clients = has.clients; repairers = has.repairers };
        down = λ past core kept has server. record { clients = has.clients; repairers = has.repairers };
        up = λ past core kept has server. record { clients = has.clients; repairers = has.repairers };
        reap_client = λ past core kept has i. record { clients = has.clients; repairers = has.repairers };
        reap_repairer = λ past core kept has i. record { clients = has.clients; repairers = has.repairers };
      }

  first_few : AllFew [] (first_core script)
  first_few =
      record {
        clients = λ i c e. subst TakesFew (replicated (length script.clients) i (new_calling (chunk_count script.geometry)) c e) (fresh_few (chunk_count script.geometry) [] (λ j. All-nil (λ (e : Ended). get_or e.takes j 0 ≤ 549755813888)));
        repairers = λ i c e. subst TakesFew (replicated (length script.repairers) i (new_calling (chunk_count script.geometry)) c e) (fresh_few (chunk_count script.geometry) [] (λ j. All-nil (λ (e : Ended). get_or e.takes j 0 ≤ 549755813888)));
      }

  -- ---- sums
  -- an actor with at most 2^12 calls
  total_few : (j : ℕ) (c : Calling) → length c.ended ≤ 4096 → TakesFew c → total j c ≤ 2252349569499136
  total_few j c short few =
      let all : sum_by (of_ended j) c.ended ≤ length c.ended * 549755813888 = sum_by-le (of_ended j) 549755813888 c.ended (few.ended j) in
      let last : get_or c.takes j 0 ≤ 1024 * c.steps = few.takes j in
      let steps : c.steps ≤ 536870912 = few.steps in
      omega (arith, all, last, steps, short)

  group_few : (j most : ℕ) (callings : List Calling) → length callings ≤ most → ((i : ℕ) (c : Calling) → slice_get callings i ≡ Some c → total j c ≤ 2252349569499136) → group j callings ≤ most * 2252349569499136
  group_few j most callings short few =
      let all : group j callings ≤ length callings * 2252349569499136 = sum_by-le (total j) 2252349569499136 callings (all_at (λ c. total j c ≤ 2252349569499136) callings few) in
      let more : length callings * 2252349569499136 ≤ most * 2252349569499136 = mul-le-mul_right 2252349569499136 short in
      omega (arith, all, more)

  -- no actor has more calls
  client_calls : (i : ℕ) (work : Work) → slice_get (client_work script) i ≡ Some work → length work.jobs ≤ 4096
  client_calls i work is = by (mapped (λ (part : ClientPart). record { jobs = map job_of part.calls; leave = part.leave }) script.clients i work is)
    where
      by : Mapped (λ (part : ClientPart). record { jobs = map job_of part.calls; leave = part.leave }) script.clients i work → length work.jobs ≤ 4096
      by part =
          let most : length part.source.calls ≤ MAX_CALLS = at_all (λ (p : ClientPart). length p.calls ≤ MAX_CALLS) script.clients i part.source valid.limits.client_calls part.found in
          let same : length work.jobs ≡ length part.source.calls = sym (ap (λ (w : Work). length w.jobs) part.is_image) ∙ length-map part.source.calls job_of in
          omega (arith, most, same)

  repairer_calls : (i : ℕ) (work : Work) → slice_get (repairer_work script) i ≡ Some work → length work.jobs ≤ 4096
  repairer_calls i work is = by (mapped (λ (part : RepairPart). record { jobs = map rebuild_job part.calls; leave = part.leave }) script.repairers i work is)
    where
      by : Mapped (λ (part : RepairPart). record { jobs = map rebuild_job part.calls; leave = part.leave }) script.repairers i work → length work.jobs ≤ 4096
      by part =
          let most : length part.source.calls ≤ MAX_CALLS = at_all (λ (p : RepairPart). length p.calls ≤ MAX_CALLS) script.repairers i part.source valid.limits.repairer_calls part.found in
          let same : length work.jobs ≡ length part.source.calls = sym (ap (λ (w : Work). length w.jobs) part.is_image) ∙ length-map part.source.calls rebuild_job in
          omega (arith, most, same)

  -- what all calls took of a server
  pub columns_fit : (shortages : List Shortage) (tokens : List Token) (j : ℕ) → group j (run_core script shortages tokens).clients + group j (run_core script shortages tokens).repairers < 2 ^ 64
  columns_fit shortages tokens j =
      let core : Core = run_core script shortages tokens in
      let few : RunKeeps script core × AllFew tokens core = run_has script can AllFew few_kept shortages first_few tokens in
      let calls : RunKeeps script core × AllCalls script tokens core = run_has script can (AllCalls script) (calls_kept script can) shortages (first_calls script can) tokens in
      let known_clients : length core.clients ≡ length script.clients = few.0.keeps.client_count in
      let known_repairers : length core.repairers ≡ length script.repairers = few.0.keeps.repairer_count in
      let many_clients : length script.clients ≤ MAX_CLIENTS = valid.limits.clients in
      let many_repairers : length script.repairers ≤ MAX_REPAIRERS = valid.limits.repairers in
      let clients : group j core.clients ≤ 64 * 2252349569499136 =
      group_few j 64 core.clients (omega (arith, known_clients, many_clients))
      (λ i c e.
      let work : (w : Work) × (slice_get (client_work script) i ≡ Some w) =
      inside (client_work script) i
      (let low : i < length core.clients = slice_get_within core.clients i c e in
      let whole : length (client_work script) ≡ length script.clients = length-map script.clients (λ (part : ClientPart). record { jobs = map job_of part.calls; leave = part.leave }) in
      omega (arith, low, known_clients, whole)) in
      total_few j c (let most : length c.ended ≤ length work.0.jobs = (calls.1.clients i c e work.0 work.1).below in let many : length work.0.jobs ≤ 4096 = client_calls i work.0 work.1 in omega (arith, most, many)) (few.1.clients i c e)) in
      let repairers : group j core.repairers ≤ 16 * 2252349569499136 =
      group_few j 16 core.repairers (omega (arith, known_repairers, many_repairers))
      (λ i c e.
      let work : (w : Work) × (slice_get (repairer_work script) i ≡ Some w) =
      inside (repairer_work script) i
      (let low : i < length core.repairers = slice_get_within core.repairers i c e in
      let whole : length (repairer_work script) ≡ length script.repairers = length-map script.repairers (λ (part : RepairPart). record { jobs = map rebuild_job part.calls; leave = part.leave }) in
      omega (arith, low, known_repairers, whole)) in
      total_few j c (let most : length c.ended ≤ length work.0.jobs = (calls.1.repairers i c e work.0 work.1).below in let many : length work.0.jobs ≤ 4096 = repairer_calls i work.0 work.1 in omega (arith, most, many)) (few.1.repairers i c e)) in
      omega (arith, clients, repairers)

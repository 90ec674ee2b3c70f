-- What the values of a script's calls say of its calls' names, of what is kept of them, and of the calls that lines name.
use Rattle.std.proofs.Common.{◌≡◌, ℕ, ◌<◌, ◌≤◌, ◌^◌, List, length, map, Option, None, Some, option_and_then, option_map, IfSome, All, refl, ap, subst, ◌∙◌, arith}
use Rattle.std.proofs.lemmas.Option.{none-some, slice_get-map, slice_get_within}
use Rattle.std.specs.List.{slice_get}
use Rattle.std.specs.Option.{option_map_or}
use Rattle.store_map.specs.Content.{content_length}
use Rattle.store_map.specs.Naming.{IsValid}
use Rattle.store_map.specs.declared.call.Call.{Call}
use Rattle.store_map.specs.declared.call.Call.TheVariants as call
use Rattle.store_map.specs.declared.call.Rebuild.{Rebuild}
use Rattle.store_map.specs.declared.content.Content.{Content}
use Rattle.store_map.specs.declared.content.Content.TheVariants as content
use Rattle.store_map.specs.declared.script.ClientPart.{ClientPart}
use Rattle.store_map.specs.declared.script.RepairPart.{RepairPart}
use Rattle.store_map.specs.declared.script.Script.{Script}
use Rattle.line_grammar.specs.Values.{IsContent, IsCall as IsCallValue, IsRebuild, IsNumber, IsScript}
use Rattle.store_map.specs.declared.call_name.ClientCall.{ClientCall}
use Rattle.store_map.specs.declared.call_name.CallName.{CallName}
use Rattle.store_map.specs.declared.call_name.CallName.TheVariants as name
use Rattle.transcript_read.specs.Values.{IsCallName}
use Rattle.hist_rules.specs.Calls.{call_of}
use Rattle.store_core.specs.NextAct.{Job, job_of, rebuild_job}
use Rattle.store_core.specs.Note.{Note, note_of}
use Rattle.store_core.specs.Work.{Work, client_work, repairer_work}
use Rattle.run_laws.proofs.SoundLists.{at_all}
use Rattle.run_laws.proofs.Scripts.{Mapped, mapped}
use Rattle.history_laws.proofs.NamedCalls.{inside}
use Rattle.history_laws.proofs.Naming.{IsCall}
use Rattle.history_laws.specs.LineCauses.{job_of_call}

-- ---- what is kept of a call has small numbers
pub record IsSmall (note : Note) : Type 0 where
  pub offset : note.offset < 2 ^ 32
  pub length : note.length < 2 ^ 32

content_short : (c : Content) → IsContent c → content_length c < 2 ^ 32
content_short (content.Hex bytes) h = h.1
content_short (content.Fill byte n) h = h.1
content_short (content.Ramp first n) h = h.1

pub call_small : (c : Call) → IsCallValue c → IsSmall (note_of c)
call_small (call.Put name content) h = record { offset = omega arith; length = content_short content h.1 }
call_small (call.Write name offset content) h = record { offset = h.1; length = content_short content h.2 }
call_small (call.Get name) h = record { offset = omega arith; length = omega arith }
call_small (call.ReadAt name offset count) h = record { offset = h.1; length = h.2 }
call_small (call.Stat name) h = record { offset = omega arith; length = omega arith }
call_small (call.Delete name) h = record { offset = omega arith; length = omega arith }

rebuild_small : (c : Rebuild) → IsRebuild c → IsSmall (rebuild_job c).note
rebuild_small c h = record { offset = h.1; length = omega arith }

module _ (script : Script) (values : IsScript script) where
  pub client_job_small : (i number : ℕ) (work : Work) (job : Job) → slice_get (client_work script) i ≡ Some work
      → slice_get work.jobs number ≡ Some job → IsSmall job.note
  client_job_small i number work job is_work is_job =
      let part : Mapped (λ (part : ClientPart). record { jobs = map job_of part.calls; leave = part.leave }) script.clients i work =
      mapped (λ (part : ClientPart). record { jobs = map job_of part.calls; leave = part.leave }) script.clients i work is_work in
      let jobs : map job_of part.source.calls ≡ work.jobs = ap (λ (w : Work). w.jobs) part.is_image in
      let one : Mapped job_of part.source.calls number job =
      mapped job_of part.source.calls number job (ap (λ (js : List Job). slice_get js number) jobs ∙ is_job) in
      let all : All IsCallValue part.source.calls × IfSome part.source.leave IsNumber =
      at_all (λ (p : ClientPart). All IsCallValue p.calls × IfSome p.leave IsNumber) script.clients i part.source values.clients part.found in
      subst (λ (j : Job). IsSmall j.note) one.is_image
      (call_small one.source (at_all IsCallValue part.source.calls number one.source all.0 one.found))

  pub repairer_job_small : (i number : ℕ) (work : Work) (job : Job) → slice_get (repairer_work script) i ≡ Some work
      → slice_get work.jobs number ≡ Some job → IsSmall job.note
  repairer_job_small i number work job is_work is_job =
      let part : Mapped (λ (part : RepairPart). record { jobs = map rebuild_job part.calls; leave = part.leave }) script.repairers i work =
      mapped (λ (part : RepairPart). record { jobs = map rebuild_job part.calls; leave = part.leave }) script.repairers i work is_work in
      let jobs : map rebuild_job part.source.calls ≡ work.jobs = ap (λ (w : Work). w.jobs) part.is_image in
      let one : Mapped rebuild_job part.source.calls number job =
      mapped rebuild_job part.source.calls number job (ap (λ (js : List Job). slice_get js number) jobs ∙ is_job) in
      let all : All IsRebuild part.source.calls × IfSome part.source.leave IsNumber =
      at_all (λ (p : RepairPart). All IsRebuild p.calls × IfSome p.leave IsNumber) script.repairers i part.source values.repairers part.found in
      subst (λ (j : Job). IsSmall j.note) one.is_image
      (rebuild_small one.source (at_all IsRebuild part.source.calls number one.source all.0 one.found))

  job_in : (works : List Work) (small : (i number : ℕ) (work : Work) (job : Job) → slice_get works i ≡ Some work
      → slice_get work.jobs number ≡ Some job → IsSmall job.note) (i number : ℕ) (found : Option Work) → slice_get works i ≡ found
      → (job : Job) → option_and_then (λ (work : Work). slice_get work.jobs number) found ≡ Some job → IsSmall job.note
  job_in works small i number None e job is_job = absurd (none-some job is_job)
  job_in works small i number (Some work) e job is_job = small i number work job e is_job

  -- of the job of a call
  pub job_small : (c : CallName) (job : Job) → job_of_call script c ≡ Some job → IsSmall job.note
  job_small (name.Client own) job e = job_in (client_work script) client_job_small own.client own.number (slice_get (client_work script) own.client) refl job e
  job_small (name.Repairer own) job e = job_in (repairer_work script) repairer_job_small own.repairer own.number (slice_get (repairer_work script) own.repairer) refl job e

  -- ---- the call that a client's line names
  pub record CallThere (own : ClientCall) : Type 0 where
    pub call : Call
    pub is_call : call_of script own ≡ Some call
    pub value : IsCallValue call

  pub call_there : (own : ClientCall) → IsCall script (name.Client own) → CallThere own
  call_there own is = by (slice_get script.clients own.client) refl is
    where
      by : (found : Option ClientPart) → slice_get script.clients own.client ≡ found
          → own.number < option_map_or (λ (part : ClientPart). length part.calls) found 0 → CallThere own
      by None e low = absurd (omega (arith, low))
      by (Some part) e low =
          let one : (c : Call) × (slice_get part.calls own.number ≡ Some c) = inside part.calls own.number low in
          let all : All IsCallValue part.calls × IfSome part.leave IsNumber =
          at_all (λ (p : ClientPart). All IsCallValue p.calls × IfSome p.leave IsNumber) script.clients own.client part values.clients e in
          record {
            call = one.0;
            is_call = ap (option_and_then (λ (p : ClientPart). slice_get p.calls own.number)) e ∙ one.1;
            value = at_all IsCallValue part.calls own.number one.0 all.0 one.1;
          }

  -- ---- the job of a call
  pub job_there : (c : CallName) → IsCall script c → (job : Job) × (job_of_call script c ≡ Some job)
  job_there (name.Client own) is = there (slice_get script.clients own.client) refl is
    where
      there : (found : Option ClientPart) → slice_get script.clients own.client ≡ found
          → own.number < option_map_or (λ (part : ClientPart). length part.calls) found 0
          → (job : Job) × (job_of_call script (name.Client own) ≡ Some job)
      there None e low = absurd (omega (arith, low))
      there (Some part) e low =
          let one : (c : Call) × (slice_get part.calls own.number ≡ Some c) = inside part.calls own.number low in (
            job_of one.0,
            ap (option_and_then (λ (work : Work). slice_get work.jobs own.number))
                (slice_get-map (λ (p : ClientPart). record { jobs = map job_of p.calls; leave = p.leave }) script.clients own.client ∙ ap
                (option_map (λ (p : ClientPart). record { jobs = map job_of p.calls; leave = p.leave })) e)
                ∙ slice_get-map job_of part.calls own.number ∙ ap (option_map job_of) one.1,
          )
  job_there (name.Repairer own) is = there (slice_get script.repairers own.repairer) refl is
    where
      there : (found : Option RepairPart) → slice_get script.repairers own.repairer ≡ found
          → own.number < option_map_or (λ (part : RepairPart). length part.calls) found 0
          → (job : Job) × (job_of_call script (name.Repairer own) ≡ Some job)
      there None e low = absurd (omega (arith, low))
      there (Some part) e low =
          let one : (c : Rebuild) × (slice_get part.calls own.number ≡ Some c) = inside part.calls own.number low in (
            rebuild_job one.0,
            ap (option_and_then (λ (work : Work). slice_get work.jobs own.number))
                (slice_get-map (λ (p : RepairPart). record { jobs = map rebuild_job p.calls; leave = p.leave }) script.repairers own.repairer ∙ ap
                (option_map (λ (p : RepairPart). record { jobs = map rebuild_job p.calls; leave = p.leave })) e)
                ∙ slice_get-map rebuild_job part.calls own.number ∙ ap (option_map rebuild_job) one.1,
          )

-- ---- the numbers of a call that is there
pub named_short : (script : Script) → IsValid script → (c : CallName) → IsCall script c → IsCallName c
named_short script valid (name.Client own) is = by (slice_get script.clients own.client) refl is
  where
    by : (found : Option ClientPart) → slice_get script.clients own.client ≡ found → own.number < option_map_or (λ (part : ClientPart). length part.calls) found 0
        → IsCallName (name.Client own)
    by None e low = absurd (omega (arith, low))
    by (Some part) e low =
        let here : own.client < length script.clients = slice_get_within script.clients own.client part e in
        let most : length script.clients ≤ 64 = valid.limits.clients in
        let few : length part.calls ≤ 4096 = at_all (λ (p : ClientPart). length p.calls ≤ 4096) script.clients own.client part valid.limits.client_calls e in
        (omega (arith, here, most), omega (arith, low, few))
named_short script valid (name.Repairer own) is = by (slice_get script.repairers own.repairer) refl is
  where
    by : (found : Option RepairPart) → slice_get script.repairers own.repairer ≡ found
        → own.number < option_map_or (λ (part : RepairPart). length part.calls) found 0 → IsCallName (name.Repairer own)
    by None e low = absurd (omega (arith, low))
    by (Some part) e low =
        let here : own.repairer < length script.repairers = slice_get_within script.repairers own.repairer part e in
        let most : length script.repairers ≤ 16 = valid.limits.repairers in
        let few : length part.calls ≤ 4096 =
        at_all (λ (p : RepairPart). length p.calls ≤ 4096) script.repairers own.repairer part valid.limits.repairer_calls e in
        (omega (arith, here, most), omega (arith, low, few))

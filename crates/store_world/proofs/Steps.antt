-- A step of a client's call leaves it with what its look has pinned.
use Rattle.std.proofs.Common.{◌≡◌, ◌⊎◌, ℕ, ◌<◌, ◌+◌, List, ◌++◌, length, Option, Some, IfSome, refl, sym, ap, subst, ◌∙◌, inl, inr, arith}
use Rattle.std.proofs.lemmas.List.{take-append-le, length-append}
use Rattle.store_map.specs.Limits.{size_of}
use Rattle.store_map.specs.declared.actor.Actor.TheVariants as actor
use Rattle.store_map.specs.declared.script.Script.{Script}
use Rattle.store_core.specs.Act.{DirectoryStep}
use Rattle.store_core.specs.Conditions.{MayStep}
use Rattle.store_core.specs.Directory.{Event, Point, Directory}
use Rattle.store_core.specs.History.{applied, call_of}
use Rattle.store_core.specs.NextAct.{Job}
use Rattle.store_core.specs.Note.{Kind}
use Rattle.store_core.specs.Told.{Told}
use Rattle.store_core.specs.Tokens.{actor_of}
use Rattle.run_laws.specs.MapAfter.{map_by}
use Rattle.run_laws.specs.State.{State}
use Rattle.run_laws.specs.CallLaws.{next_call_from}
use Rattle.call_steps.specs.CallOf.{CallOf, state_told}
use Rattle.call_machine.specs.Kinds.{Asked, asked_job, Machine, machine_of, IfReads}
use Rattle.call_machine.specs.Calls.{MachineOf}
use Rattle.call_machine.specs.Pinned.{pinned_at}
use Rattle.call_machine.proofs.Moves.{point_before, next_pins}
use Rattle.call_machine.proofs.Acts.{IsLater, before_later}
use Rattle.call_machine.proofs.Owing.{if_some}
use Rattle.store_world.specs.Looked.{HasLooked}
use Rattle.store_world.specs.Serving.{client_asks, IsReplyAt, OwesAt, OwesItsPins}
use Rattle.store_world.specs.ServeLaws.{HasMorePoints}
use Rattle.store_world.proofs.Looked.{IsRead, next_looked, start_looked, kinds_read}

-- a call that is about to look, and may
pub record Opens (script : Script) (d : Directory) (i : ℕ) (c : CallOf) : Type 0 where
  pub start : c.state.at ≡ State.Start
  pub may : MayStep d (actor.Client i) c.number (DirectoryStep.Look c.job.note)
  pub shape : c.book.geometry ≡ script.geometry

-- a client's call that is ready for its step
pub record IsReady (script : Script) (d : Directory) (i number : ℕ) (r : CallOf) (before : MachineOf) : Type 0 where
  pub is : before.call ≡ r
  pub job : r.job ≡ asked_job before.asked
  pub its : client_asks script i number ≡ Some before.asked
  pub count : r.number ≡ number
  pub whose : actor_of r.token ≡ actor.Client i
  pub looked : IfReads (machine_of before.asked) (HasLooked r.state.at ⊎ Opens script d i r)
  pub owes : IfSome (pinned_at r.state.at) (OwesAt script d.points i number before)

-- ---- replies stay
pub reply_stays : (script : Script) (points now : List Point) (i number place : ℕ) (bytes : List ℕ) → HasMorePoints points now → IsReplyAt script points i number place bytes
    → IsReplyAt script now i number place bytes
reply_stays script points now i number place bytes grown of =
    let less : place < length points = of.within in
    let long : length (points ++ grown.more) ≡ length points + length grown.more = length-append points grown.more in
    subst (λ (ps : List Point). IsReplyAt script ps i number place bytes) (sym grown.is)
    (record {
      within = omega (arith, less, long);
      reply =
          ap (λ (ps : List Point). (applied (size_of script) (map_by (call_of script) (size_of script) ps) Event.Pinned (call_of script (actor.Client i) number)).1)
          (take-append-le place points grown.more (omega (arith, less)))
          ∙ of.reply;
    })

pub owes_stay : (script : Script) (points now : List Point) (i number place : ℕ) (c last : MachineOf) → HasMorePoints points now → last.asked ≡ c.asked → last.owed ≡ c.owed
    → OwesAt script points i number c place → OwesAt script now i number last place
owes_stay script points now i number place c last grown asked owed of =
    record {
      reads = ap machine_of asked ∙ of.reads;
      owed = subst (λ (bytes : List ℕ). IsReplyAt script now i number place bytes) (sym owed) (reply_stays script points now i number place c.owed grown of.owed);
    }

pub if_reads : (m : Machine) (P Q : Type 0) → (m ≡ Machine.Reads → P → Q) → IfReads m P → IfReads m Q
if_reads Machine.Reads P Q f h = f refl h
if_reads Machine.Puts P Q f h = tt
if_reads Machine.Patches P Q f h = tt
if_reads Machine.Rebuilds P Q f h = tt

-- ---- after an answer
module _ (script : Script) (d : Directory) (points : List Point) (i number : ℕ) (r : CallOf) (before last : MachineOf) (ready : IsReady script d i number r before) (grown : HasMorePoints d.points points) (next : CallOf) (answer : Told)
    (is_last : last.call ≡ next) (asked : last.asked ≡ before.asked) (job : next.job ≡ r.job) (state : next.state ≡ state_told r answer) where
  abbrev kind : Kind
  kind = r.job.note.kind

  abbrev told : State
  told = (next_call_from r.book.geometry kind r.job r.state.pairs r.state.at answer).at

  kind_is : kind ≡ (asked_job before.asked).note.kind
  kind_is = ap (λ (j : Job). j.note.kind) ready.job

  looked_now : IfReads (machine_of before.asked) (HasLooked told)
  looked_now =
      if_reads (machine_of before.asked) (HasLooked r.state.at ⊎ Opens script d i r) (HasLooked told) by ready.looked
    where
      read_by_machine : machine_of before.asked ≡ Machine.Reads → IsRead (asked_job before.asked).note.kind
      read_by_machine reads = subst (λ (m : Machine). IfReads m (IsRead (asked_job before.asked).note.kind)) reads (kinds_read before.asked)

      by : machine_of before.asked ≡ Machine.Reads → HasLooked r.state.at ⊎ Opens script d i r → HasLooked told
      by reads (inl h) = next_looked r.book.geometry kind r.job r.state.pairs r.state.at answer h
      by reads (inr opens) =
          subst (λ (at : State). HasLooked (next_call_from r.book.geometry kind r.job r.state.pairs at answer).at) (sym opens.start)
          (start_looked r.book.geometry kind r.job r.state.pairs answer (subst IsRead (sym kind_is) (read_by_machine reads)))

  -- where the call owes what it may have pinned
  pub owes_now : ((p : ℕ) → point_before kind r.state.at answer ≡ Some p → OwesAt script points i number last p) → OwesItsPins script points i number last
  owes_now owes =
      let same : last.call.state.at ≡ told = ap (λ (c : CallOf). c.state.at) is_last ∙ ap (λ s. s.at) state in
      record {
        its = ready.its ∙ ap (λ (a : Asked). Some a) (sym asked);
        job = ap (λ (c : CallOf). c.job) is_last ∙ job ∙ ready.job ∙ ap asked_job (sym asked);
        looked =
            subst (λ (a : Asked). IfReads (machine_of a) (HasLooked last.call.state.at)) (sym asked)
            (subst (λ (at : State). IfReads (machine_of before.asked) (HasLooked at)) (sym same) looked_now);
        owes =
            subst (λ (at : State). IfSome (pinned_at at) (OwesAt script points i number last)) (sym same)
            (if_some (λ (p : ℕ). point_before kind r.state.at answer ≡ Some p) (OwesAt script points i number last) (pinned_at told) (λ p h e. owes p h)
            (next_pins r.book.geometry kind r.job r.state.pairs r.state.at answer));
      }

  -- past the look it is what it owed before
  pub owes_later : IsLater r.state.at → last.owed ≡ before.owed → (p : ℕ) → point_before kind r.state.at answer ≡ Some p → OwesAt script points i number last p
  owes_later later owed p is =
      let pinned : pinned_at r.state.at ≡ Some p = sym (before_later kind r.state.at answer later) ∙ is in
      owes_stay script d.points points i number p before last grown asked owed
      (subst (λ (o : Option ℕ). IfSome o (OwesAt script d.points i number before)) pinned ready.owes)

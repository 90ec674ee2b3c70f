-- Each step of a client's call keeps what it owes.
use Rattle.std.proofs.Common.{◌≡◌, ◌⊎◌, ℕ, Bool, true, false, List, Option, None, Some, IfSome, refl, sym, ap, subst, ◌∙◌, inl, inr, true≢false}
use Rattle.store_core.specs.Act.{Act, DirectoryStep, ServerStep, Outcome}
use Rattle.store_core.specs.AtDirectory.{at_directory}
use Rattle.store_core.specs.NextAct.{Job}
use Rattle.store_core.specs.Note.{Kind}
use Rattle.store_core.specs.Read.{parts_of}
use Rattle.store_core.specs.Server.{Server, at_server}
use Rattle.store_core.specs.Told.{Told, Seen}
use Rattle.store_core.specs.Tokens.{actor_of}
use Rattle.run_laws.specs.PinLaws.{IsReading}
use Rattle.run_laws.specs.State.{State}
use Rattle.run_laws.specs.StateActs.{act_at}
use Rattle.stripe_stamps.specs.Sealed.{Sealed}
use Rattle.call_steps.specs.CallOf.{CallOf, act_of, state_told}
use Rattle.call_steps.specs.Steps.{at_directory_by, at_server_by, stepped_at_directory, stepped_at_server, coded, IsDueInPass}
use Rattle.call_steps.proofs.Needs.{needs_tell_acts}
use Rattle.client_read.specs.Owed.{contents_of, owed_after_look, owed_by as read_by}
use Rattle.call_machine.specs.Calls.{MachineOf, owed_in, owed_by}
use Rattle.call_machine.specs.Kinds.{Machine, asked_job, machine_of}
use Rattle.call_machine.specs.Pinned.{pinned_at}
use Rattle.call_machine.specs.Owes.{OwesBy}
use Rattle.call_machine.specs.OwesLaws.{LookIsOwed, KeepsOwing, AreAmong, CallsKeepOwing}
use Rattle.call_machine.proofs.Moves.{point_before, next_pins}
use Rattle.call_machine.proofs.Acts.{IsLater, start_or_later, before_later, none_some, looked_by, reads_are_read, point_ended, asks_server, start_looks, starts, ends_at, acts_stay}
use Rattle.call_machine.proofs.Shorts.{short_next}

pub if_some : {A : Type 0} (P Q : A → Type 0) (o : Option A) → ((x : A) → P x → o ≡ Some x → Q x) → IfSome o P → IfSome o Q
if_some P Q None f h = tt
if_some P Q (Some x) f h = f x h refl

-- the step of an act at the directory
abbrev pub step_in : Act → DirectoryStep
step_in (Act.AtDirectory step) = step
step_in act = DirectoryStep.NextGarbage

module _ (IsOwed : ℕ → List ℕ → Type 0) where
  -- ---- after an answer
  module _ (c after : MachineOf) (was : OwesBy IsOwed c) (answer : Told) (job : after.call.job ≡ c.call.job) (state : after.call.state ≡ state_told c.call answer) (asked : after.asked ≡ c.asked) where
    abbrev at : State
    at = c.call.state.at

    abbrev kind : Kind
    kind = c.call.job.note.kind

    told : ((place : ℕ) → point_before kind at answer ≡ Some place → (machine_of c.asked ≡ Machine.Reads) × IsOwed place after.owed) → OwesBy IsOwed after
    told owes =
        record {
          job = job ∙ was.job ∙ ap asked_job (sym asked);
          owes =
              subst (λ (s : State). IfSome (pinned_at s) (λ place. (machine_of after.asked ≡ Machine.Reads) × IsOwed place after.owed)) (sym (ap (λ s. s.at) state))
              (if_some (λ (p : ℕ). point_before kind at answer ≡ Some p) (λ place. (machine_of after.asked ≡ Machine.Reads) × IsOwed place after.owed) (pinned_at (state_told c.call answer).at)
              (λ place e is. let o : (machine_of c.asked ≡ Machine.Reads) × IsOwed place after.owed = owes place e in (ap machine_of asked ∙ o.0, o.1))
              (next_pins c.call.book.geometry kind c.call.job c.call.state.pairs at answer));
        }

    -- past the look it owes what it owed
    later : IsLater at → (machine_of c.asked ≡ Machine.Reads → after.owed ≡ c.owed) → (place : ℕ) → point_before kind at answer ≡ Some place → (machine_of c.asked ≡ Machine.Reads) × IsOwed place after.owed
    later past same place e =
        let pinned : pinned_at at ≡ Some place = sym (before_later kind at answer past) ∙ e in
        let o : (machine_of c.asked ≡ Machine.Reads) × IsOwed place c.owed = subst (λ (o : Option ℕ). IfSome o (λ p. (machine_of c.asked ≡ Machine.Reads) × IsOwed p c.owed)) pinned was.owes in
        (o.0, subst (IsOwed place) (sym (same o.0)) o.1)

  -- ---- at the directory
  module _ (short due : Bool) (c after : MachineOf) (d : Sealed) (was : OwesBy IsOwed c) (step : DirectoryStep) (act : act_of c.call ≡ Act.AtDirectory step) (is : after.call ≡ (stepped_at_directory short due c.call d.core).1)
      (asked : after.asked ≡ c.asked) (goes : after.owed ≡ owed_by short d c) (looks : LookIsOwed IsOwed short c d) where
    abbrev answer_of : DirectoryStep → Told
    answer_of s = (at_directory short (actor_of c.call.token) c.call.number s d.core).1

    is_next : after.call ≡ (at_directory_by (Act.AtDirectory step) short due c.call d.core).1
    is_next = is ∙ ap (λ (a : Act). (at_directory_by a short due c.call d.core).1) act

    stays : IsLater c.call.state.at → machine_of c.asked ≡ Machine.Reads → after.owed ≡ c.owed
    stays past reads =
        goes ∙ ap (λ (m : Machine). owed_in m short d c) reads ∙ acts_stay c.call.book.geometry c.call.tries c.call.job c.call.state.pairs short c.call d c.owed c.call.state.at past

    look : (place : ℕ) → c.call.state.at ≡ State.Start → IsReading c.call.job.note.kind × (length_now : ℕ) × (seen : List Seen) × (answer_of step ≡ Told.Pinned place length_now seen)
        → (machine_of c.asked ≡ Machine.Reads) × IsOwed place after.owed
    look place start h =
        let reads : machine_of c.asked ≡ Machine.Reads = reads_are_read c.asked (subst IsReading (ap (λ (j : Job). j.note.kind) was.job) h.0) in
        let its_act : act_of c.call ≡ Act.AtDirectory (DirectoryStep.Look c.call.job.note) =
        ap (λ (s : State). act_at c.call.book.geometry c.call.tries c.call.job c.call.state.pairs s) start ∙ start_looks c.call.book.geometry c.call.tries c.call.job c.call.state.pairs c.call.job.note.kind h.0 in
        let same : step ≡ DirectoryStep.Look c.call.job.note = ap step_in (sym act ∙ its_act) in
        let told : answer_of (DirectoryStep.Look c.call.job.note) ≡ Told.Pinned place h.1 h.2 = ap answer_of (sym same) ∙ h.3 in
        let bytes : after.owed ≡ contents_of d.stamps (parts_of c.call.book.geometry c.call.job.note h.1 h.2) =
        goes ∙ ap (λ (m : Machine). owed_in m short d c) reads ∙ ap (λ (a : Act). read_by a short c.call d c.owed) its_act
        ∙ ap (λ (t : Told). owed_after_look c.call.book.geometry c.call.job.note d.stamps t c.owed) told in
        (reads, subst (IsOwed place) (sym bytes) (looks place h.1 h.2 its_act told))

    pub at_directory_owes : OwesBy IsOwed after
    at_directory_owes =
        told c after was (answer_of step) (ap (λ (r : CallOf). r.job) is_next) (ap (λ (r : CallOf). r.state) is_next) asked
        (λ place e. by place e (start_or_later c.call.state.at))
      where
        by : (place : ℕ) → point_before c.call.job.note.kind c.call.state.at (answer_of step) ≡ Some place → (c.call.state.at ≡ State.Start) ⊎ IsLater c.call.state.at
            → (machine_of c.asked ≡ Machine.Reads) × IsOwed place after.owed
        by place e (inr past) = later c after was (answer_of step) (ap (λ (r : CallOf). r.job) is_next) (ap (λ (r : CallOf). r.state) is_next) asked past (stays past) place e
        by place e (inl start) =
            look place start (looked_by c.call.job.note.kind (answer_of step) place (subst (λ (s : State). point_before c.call.job.note.kind s (answer_of step) ≡ Some place) start e))

  -- ---- at a server
  pub at_server_owes : (short due : Bool) (c after : MachineOf) (server : ℕ) (step : ServerStep) (s : Server) → OwesBy IsOwed c → act_of c.call ≡ Act.AtServer server step
      → after.call ≡ (stepped_at_server short due c.call s).1 → after.asked ≡ c.asked → after.owed ≡ c.owed → OwesBy IsOwed after
  at_server_owes short due c after server step s was act is asked same =
      told c after was answer (ap (λ (r : CallOf). r.job) is_next) (ap (λ (r : CallOf). r.state) is_next) asked
      (later c after was answer (ap (λ (r : CallOf). r.job) is_next) (ap (λ (r : CallOf). r.state) is_next) asked (past (start_or_later c.call.state.at)) (λ reads. same))
    where
      answer : Told
      answer = (at_server short step s).1

      is_next : after.call ≡ (at_server_by (Act.AtServer server step) short due c.call s).1
      is_next = is ∙ ap (λ (a : Act). (at_server_by a short due c.call s).1) act

      past : (c.call.state.at ≡ State.Start) ⊎ IsLater c.call.state.at → IsLater c.call.state.at
      past (inr h) = h
      past (inl start) =
          absurd
          (true≢false
          (ap asks_server (sym act ∙ ap (λ (s : State). act_at c.call.book.geometry c.call.tries c.call.job c.call.state.pairs s) start)
          ∙ (starts c.call.book.geometry c.call.tries c.call.job c.call.state.pairs c.call.job.note.kind).server))

  -- ---- at a coding
  pub at_coder_owes : (short : Bool) (c after : MachineOf) → OwesBy IsOwed c → c.call.due ≡ true → IsDueInPass c.call → after.call ≡ coded short c.call → after.asked ≡ c.asked
      → (short ≡ false → after.owed ≡ c.owed) → OwesBy IsOwed after
  at_coder_owes false c after was due in_pass is asked same =
      record {
        job = ap (λ (r : CallOf). r.job) is ∙ was.job ∙ ap asked_job (sym asked);
        owes =
            subst (λ (s : State). IfSome (pinned_at s) (λ place. (machine_of after.asked ≡ Machine.Reads) × IsOwed place after.owed)) (sym (ap (λ (r : CallOf). r.state.at) is))
            (if_some (λ place. (machine_of c.asked ≡ Machine.Reads) × IsOwed place c.owed) (λ place. (machine_of after.asked ≡ Machine.Reads) × IsOwed place after.owed) (pinned_at c.call.state.at)
            (λ place h e. (ap machine_of asked ∙ h.0, subst (IsOwed place) (sym (same refl)) h.1)) was.owes);
      }
  at_coder_owes true c after was due in_pass is asked same =
      record {
        job = ap (λ (r : CallOf). r.job) is ∙ was.job ∙ ap asked_job (sym asked);
        owes =
            subst (λ (s : State). IfSome (pinned_at s) (λ place. (machine_of after.asked ≡ Machine.Reads) × IsOwed place after.owed)) (sym (ap (λ (r : CallOf). r.state.at) is))
            (if_some (λ place. None ≡ Some place) (λ place. (machine_of after.asked ≡ Machine.Reads) × IsOwed place after.owed) (pinned_at (coded true c.call).state.at) (λ place h f. absurd (none_some place h))
            (short_next c.call.book.geometry c.call.tries c.call.job.note.kind c.call.job c.call.state.pairs c.call.state.at (in_pass due)));
      }

  -- ---- at the end
  pub at_end_owes : (c : MachineOf) (place : ℕ) → OwesBy IsOwed c → act_of c.call ≡ Act.Finish (Outcome.Served place) → (machine_of c.asked ≡ Machine.Reads) × IsOwed place c.owed
  at_end_owes c place was over =
      let pinned : pinned_at c.call.state.at ≡ Some place =
      subst (λ (act : Act). IfSome (point_ended act) (λ (p : ℕ). pinned_at c.call.state.at ≡ Some p)) over (ends_at c.call.book.geometry c.call.tries c.call.job c.call.state.pairs c.call.state.at) in
      subst (λ (o : Option ℕ). IfSome o (λ p. (machine_of c.asked ≡ Machine.Reads) × IsOwed p c.owed)) pinned was.owes

pub keeps_owing : (IsOwed : ℕ → List ℕ → Type 0) → KeepsOwing IsOwed
keeps_owing IsOwed =
    record {
      first = λ book tries seat number asked. record { job = refl; owes = tt };
      directory = λ short due c after d was needs is asked goes looks.
          let act : (step : DirectoryStep) × (act_of c.call ≡ Act.AtDirectory step) × (c.call.due ≡ false) = needs_tell_acts.directory c.call needs in
          at_directory_owes IsOwed short due c after d was act.0 act.1 is asked goes looks;
      server = λ short due c after j s was needs is asked same.
          let act : (step : ServerStep) × (act_of c.call ≡ Act.AtServer j step) × (c.call.due ≡ false) = needs_tell_acts.server c.call j needs in
          at_server_owes IsOwed short due c after j act.0 s was act.1 is asked same;
      coder = λ short c after was needs in_pass is asked same. at_coder_owes IsOwed short c after was (needs_tell_acts.coder c.call needs) in_pass is asked same;
      served = λ c place was over. at_end_owes IsOwed c place was over;
    }

-- what is owed stays owed where the meaning grows
pub owing_stays : (IsOwed Later : ℕ → List ℕ → Type 0) → ((place : ℕ) (bytes : List ℕ) → IsOwed place bytes → Later place bytes) → (c : MachineOf) → OwesBy IsOwed c → OwesBy Later c
owing_stays IsOwed Later grows c was =
    record {
      job = was.job;
      owes =
          if_some (λ place. (machine_of c.asked ≡ Machine.Reads) × IsOwed place c.owed) (λ place. (machine_of c.asked ≡ Machine.Reads) × Later place c.owed) (pinned_at c.call.state.at)
          (λ place h e. (h.0, grows place c.owed h.1)) was.owes;
    }

pub calls_keep_owing : CallsKeepOwing
calls_keep_owing owed = keeps_owing (AreAmong owed)

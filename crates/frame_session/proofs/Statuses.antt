-- Which status stands for what.
use Rattle.std.proofs.Common.{◌≡◌, Bool, true, false, refl, sym, ap, ◌∙◌}
use Rattle.std.proofs.lemmas.Bool.{false≢true}
use Rattle.session_rules.specs.declared.session_ending.Ending.{Ending}
use Rattle.frame_bytes.specs.declared.frame_fault.FrameFault.{FrameFault}
use Rattle.frame_session.specs.declared.session_status.SessionStatus.{SessionStatus}
use Rattle.frame_session.specs.Status.{status_of, status_of_fault}

true-false : true ≡ false → ⊥
true-false e = false≢true (sym e)

-- the ending for which a status stands, if for one
abbrev is_ending : SessionStatus → Bool
is_ending SessionStatus.Done = true
is_ending SessionStatus.TornFrame = true
is_ending SessionStatus.FrameTooLong = true
is_ending SessionStatus.InputTooLong = true
is_ending _ = false

abbrev ending_of : SessionStatus → Ending
ending_of SessionStatus.TornFrame = Ending.TornFrame
ending_of SessionStatus.FrameTooLong = Ending.FrameTooLong
ending_of SessionStatus.InputTooLong = Ending.InputTooLong
ending_of _ = Ending.Done

ends : (ending : Ending) → is_ending (status_of ending) ≡ true
ends Ending.Done = refl
ends Ending.TornFrame = refl
ends Ending.FrameTooLong = refl
ends Ending.InputTooLong = refl

stands_for : (ending : Ending) → ending_of (status_of ending) ≡ ending
stands_for Ending.Done = refl
stands_for Ending.TornFrame = refl
stands_for Ending.FrameTooLong = refl
stands_for Ending.InputTooLong = refl

-- a status stands for one ending
pub same_ending : (one other : Ending) → status_of one ≡ status_of other → one ≡ other
same_ending one other same = sym (stands_for one) ∙ ap ending_of same ∙ stands_for other

no_end : (fault : FrameFault) → is_ending (status_of_fault fault) ≡ false
no_end FrameFault.ReadFault = refl
no_end FrameFault.OutOfMemory = refl

-- a fault is no ending
pub no_ending : (fault : FrameFault) (ending : Ending) → status_of_fault fault ≡ status_of ending → ⊥
no_ending fault ending same = true-false (sym (ends ending) ∙ ap is_ending (sym same) ∙ no_end fault)

pub no_ending_by : (status : SessionStatus) (ending : Ending) → is_ending status ≡ false → status ≡ status_of ending → ⊥
no_ending_by status ending is same = true-false (sym (ends ending) ∙ ap is_ending (sym same) ∙ is)

pub memory_fault : (fault : FrameFault) → status_of_fault fault ≡ SessionStatus.OutOfMemory → fault ≡ FrameFault.OutOfMemory
memory_fault FrameFault.OutOfMemory same = refl
memory_fault FrameFault.ReadFault same = absurd (true-false (ap is_read same))
  where
    is_read : SessionStatus → Bool
    is_read SessionStatus.ReadFault = true
    is_read _ = false

pub read_fault : (fault : FrameFault) → status_of_fault fault ≡ SessionStatus.ReadFault → fault ≡ FrameFault.ReadFault
read_fault FrameFault.ReadFault same = refl
read_fault FrameFault.OutOfMemory same = absurd (true-false (ap is_memory same))
  where
    is_memory : SessionStatus → Bool
    is_memory SessionStatus.OutOfMemory = true
    is_memory _ = false

pub of_fault : (fault one : FrameFault) → fault ≡ one → status_of_fault fault ≡ status_of_fault one
of_fault fault one same = ap status_of_fault same

-- whether a status is that of a frame that wasn't had
abbrev is_fault_of_frame : SessionStatus → Bool
is_fault_of_frame SessionStatus.ReadFault = true
is_fault_of_frame SessionStatus.OutOfMemory = true
is_fault_of_frame _ = false

-- it is none of a failed write
pub no_write_fault : (fault : FrameFault) → status_of_fault fault ≡ SessionStatus.WriteFault → ⊥
no_write_fault FrameFault.ReadFault same = true-false (ap is_fault_of_frame same)
no_write_fault FrameFault.OutOfMemory same = true-false (ap is_fault_of_frame same)

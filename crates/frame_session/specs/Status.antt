-- The exit status of a session.
use Rattle.std.specs.Prelude.{ℕ}
use Rattle.session_rules.specs.declared.session_ending.Ending.{Ending}
use Rattle.frame_bytes.specs.declared.frame_fault.FrameFault.{FrameFault}
use Rattle.frame_session.specs.declared.session_status.SessionStatus.{SessionStatus}

-- the program's exit status
abbrev pub status_number : SessionStatus → ℕ
status_number SessionStatus.Done = 0
status_number SessionStatus.Usage = 1
status_number SessionStatus.InputTooLong = 3
status_number SessionStatus.ReadFault = 4
status_number SessionStatus.WriteFault = 5
status_number SessionStatus.OutOfMemory = 6
status_number SessionStatus.FrameTooLong = 10
status_number SessionStatus.TornFrame = 11

-- by the input's ending
abbrev pub status_of : Ending → SessionStatus
status_of Ending.Done = SessionStatus.Done
status_of Ending.TornFrame = SessionStatus.TornFrame
status_of Ending.FrameTooLong = SessionStatus.FrameTooLong
status_of Ending.InputTooLong = SessionStatus.InputTooLong

-- where a frame wasn't had
abbrev pub status_of_fault : FrameFault → SessionStatus
status_of_fault FrameFault.ReadFault = SessionStatus.ReadFault
status_of_fault FrameFault.OutOfMemory = SessionStatus.OutOfMemory

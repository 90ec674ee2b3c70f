-- How a check of all shares of a file ends.
use Rattle.std.specs.Prelude.{◌≡◌, ◌≢◌, ◌⊎◌, ℕ, ◌<◌, ◌≤◌, Bool, true, false, List, get_or, Option, Some, None, is_none}
use Rattle.clay_grid.specs.Score.{count_below}
use Rattle.clay_aloof.specs.Shape.{all_chunks}
use Rattle.file_bytes.specs.Places.{Shows}
use Rattle.share_format.specs.Header.{Header}
use Rattle.share_files.specs.Seen.{Seen, seen_of}
use Rattle.share_files.specs.Whole.{IsWhole, IsFirstFault, OneFails}
use Rattle.share_files.specs.declared.share_fault.ShareFault.{ShareFault}
use Rattle.share_files.specs.declared.share_fault.ShareFault.TheVariants.{ReadFault as FailedRead, OutOfMemory as NoMemory}
use Rattle.share_run.specs.Heads.{numbered}
use Rattle.share_run.specs.declared.share_status.ShareStatus.{ShareStatus}
use Rattle.share_run.specs.declared.share_status.ShareStatus.TheVariants.{Done, Usage, TooFew, BadShare, ReadFault, WriteFault, OutOfMemory}

-- a file is the whole share of a header, or this is its first fault
abbrev pub IsVerdict : Header → List ℕ → Option ShareFault → Type 0
IsVerdict h file None = IsWhole h file
IsVerdict h file (Some fault) = IsFirstFault h file fault

-- a read failed where the fault is that, and none elsewhere: where reads had failed, and where they have then. An allocation failure is no verdict
abbrev pub FailsAs : List ℕ → List ℕ → Option ShareFault → Type 0
FailsAs failed now (Some FailedRead) = OneFails failed now
FailsAs failed now (Some NoMemory) = ⊥
FailsAs failed now verdict = now ≡ failed

-- so it is of whatever file a source shows, by what was known of it before and after
pub record IsVerdictOf (h : Header) (old new : Seen) (verdict : Option ShareFault) : Type 0 where
  pub judged : (file : List ℕ) → Shows file new.given new.ends → IsVerdict h file verdict
  pub fails : FailsAs old.failed new.failed verdict

-- whether a share is found whole
abbrev pub is_whole : List (Option ShareFault) → ℕ → Bool
is_whole verdicts c = is_none (get_or verdicts c None)

-- each of the first so many is judged, as the share of its number of a cut
abbrev pub AreVerdicts : Header → ℕ → List Seen → List Seen → List (Option ShareFault) → Type 0
AreVerdicts h count olds news verdicts = (c : ℕ) → c < count → IsVerdictOf (numbered h c) (seen_of olds c) (seen_of news c) (get_or verdicts c None)

-- all are judged
abbrev pub AreJudged : Header → List Seen → List Seen → List (Option ShareFault) → Type 0
AreJudged h olds news verdicts = AreVerdicts h (all_chunks h.shape) olds news verdicts

-- how many of them are found whole
abbrev pub whole_count : Header → List (Option ShareFault) → ℕ
whole_count h verdicts = count_below (all_chunks h.shape) (is_whole verdicts)

-- what each status says of a check: how many shares were found whole, and whether there are strays, which are files with a share's name and of
-- a number that no share has
abbrev pub CheckEnds : ShareStatus → Header → Bool → List Seen → List Seen → List (Option ShareFault) → Type 0
CheckEnds Done h strays olds news verdicts = AreJudged h olds news verdicts × (whole_count h verdicts ≡ all_chunks h.shape) × (strays ≡ false)
CheckEnds Usage h strays olds news verdicts = ⊥
CheckEnds TooFew h strays olds news verdicts = AreJudged h olds news verdicts × (whole_count h verdicts < h.shape.data_count)
CheckEnds BadShare h strays olds news verdicts = AreJudged h olds news verdicts × (h.shape.data_count ≤ whole_count h verdicts)
    × ((whole_count h verdicts ≢ all_chunks h.shape) ⊎ (strays ≡ true))
CheckEnds ReadFault h strays olds news verdicts = ⊥
CheckEnds WriteFault h strays olds news verdicts = ⊥
CheckEnds OutOfMemory h strays olds news verdicts = Unit {0}

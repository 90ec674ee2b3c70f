-- How a mend of a lost share from whole blocks ends.
use Rattle.std.specs.Prelude.{◌≡◌, ℕ, ◌<◌, List, [], ◌∷◌, ◌++◌}
use Rattle.share_format.specs.Shares.{IsShare}
use Rattle.share_files.specs.Seen.{Show}
use Rattle.share_files.specs.Put.{HasChunks}
use Rattle.share_files.specs.Missed.{LackBlocks}
use Rattle.share_files.specs.Joined.{NoRotPasses}
use Rattle.share_mends.specs.Rebuilt.{IsRebuilt}
use Rattle.share_run.specs.Places.{filled, IsUntouched, IsUnwritten}
use Rattle.share_run.specs.Mend.{MendRun, stripes_of, IsWritten}
use Rattle.share_run.specs.declared.share_status.ShareStatus.{ShareStatus}
use Rattle.share_run.specs.declared.share_status.ShareStatus.TheVariants.{Done, Usage, TooFew, BadShare, ReadFault, WriteFault, OutOfMemory}

-- a file was put into the place: the header, and the blocks of what the shares' blocks recover, or some bytes where no codeword has these.
-- Whatever files the sources show: if they are shares of a file, with rot that its checksums find, it is the lost share of that file
pub record ShareRebuilt (r : MendRun) : Type 0 where
  pub bytes : List ℕ
  pub placed : r.after.files ≡ r.before.files ++ filled 0 bytes ∷ []
  pub made : HasChunks r.header (IsRebuilt r.header.shape r.header.share r.olds r.news) bytes
  pub share : (file : List ℕ) (files : List (List ℕ)) → Show r.news files → NoRotPasses r.header file files →
      IsShare r.header.shape file r.header.share bytes

-- too few shares have a block of some stripe
pub record IsShort (r : MendRun) : Type 0 where
  pub stripe : ℕ
  pub within : stripe < stripes_of r
  pub lack : (files : List (List ℕ)) → Show r.news files → LackBlocks r.header.shape stripe files r.olds r.news

-- what each status says of such a mend
abbrev pub RebuildEnds : ShareStatus → MendRun → Type 0
RebuildEnds Done r = ShareRebuilt r × IsWritten r
RebuildEnds Usage r = ⊥
RebuildEnds TooFew r = IsShort r × IsUntouched r.before r.after × IsWritten r
RebuildEnds BadShare r = ⊥
RebuildEnds ReadFault r = ⊥
RebuildEnds WriteFault r = IsUnwritten r.writes r.written r.before r.after × IsUntouched r.before r.after
RebuildEnds OutOfMemory r = IsUntouched r.before r.after × IsWritten r

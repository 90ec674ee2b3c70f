-- A fault of one kind is none of another.
use Rattle.std.proofs.Common.{◌≡◌, ℕ, Err}
use Rattle.std.specs.Prelude.{IsErrOf}
use Rattle.share_files.specs.declared.joining.JoinFault.{JoinFault}
use Rattle.share_files.specs.declared.joining.JoinFault.TheVariants.{TooFew, Mismatch, WriteFault, OutOfMemory}
use Rattle.share_mends.specs.declared.mend_fault.RottenPart.{RottenPart}
use Rattle.share_mends.specs.declared.mend_fault.MendFault.{MendFault}
use Rattle.share_mends.specs.declared.mend_fault.MendFault.TheVariants.{Rotten, ReadFault as UnreadPart, WriteFault as UnwrittenShare}
use Rattle.share_mends.specs.declared.rebuilding.RebuildFault.{RebuildFault}
use Rattle.share_mends.specs.declared.rebuilding.RebuildFault.TheVariants.{TooFew as FewBlocks, WriteFault as UnwrittenBlock}

pub few_no_write : {A : Type 0} (fault : JoinFault) (stripe : ℕ) → fault ≡ TooFew stripe → IsErrOf {T = A} (Err fault) WriteFault → ⊥
few_no_write fault stripe is e = cc

pub few_no_memory : {A : Type 0} (fault : JoinFault) (stripe : ℕ) → fault ≡ TooFew stripe → IsErrOf {T = A} (Err fault) OutOfMemory → ⊥
few_no_memory fault stripe is e = cc

pub write_no_memory : {A : Type 0} (fault : JoinFault) → fault ≡ WriteFault → IsErrOf {T = A} (Err fault) OutOfMemory → ⊥
write_no_memory fault is e = cc

pub other_no_write : {A : Type 0} (fault : JoinFault) → fault ≡ Mismatch → IsErrOf {T = A} (Err fault) WriteFault → ⊥
other_no_write fault is e = cc

pub other_no_memory : {A : Type 0} (fault : JoinFault) → fault ≡ Mismatch → IsErrOf {T = A} (Err fault) OutOfMemory → ⊥
other_no_memory fault is e = cc

pub rotten_no_read : {A : Type 0} (fault : MendFault) (part : RottenPart) → fault ≡ Rotten part → IsErrOf {T = A} (Err fault) UnreadPart → ⊥
rotten_no_read fault part is e = cc

pub rotten_no_write : {A : Type 0} (fault : MendFault) (part : RottenPart) → fault ≡ Rotten part → IsErrOf {T = A} (Err fault) UnwrittenShare → ⊥
rotten_no_write fault part is e = cc

pub short_no_write : {A : Type 0} (fault : RebuildFault) (stripe : ℕ) → fault ≡ FewBlocks stripe → IsErrOf {T = A} (Err fault) UnwrittenBlock → ⊥
short_no_write fault stripe is e = cc

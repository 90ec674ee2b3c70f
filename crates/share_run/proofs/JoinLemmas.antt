-- A joined file that is put into its place.
use Rattle.std.proofs.Common.{◌≡◌, ℕ, Option, List, [], ◌∷◌, ◌++◌, ◌∙◌, ap, subst, arith}
use Rattle.crc64.specs.Remainder.{checksum_of}
use Rattle.share_files.specs.Seen.{Show}
use Rattle.share_files.specs.Missed.{IsParityUnread}
use Rattle.share_files.specs.Joined.{NoRotPasses, IsOfFile, IsWhyNot}
use Rattle.share_files.specs.Taken.{TakesFile, TakesAnother}
use Rattle.share_format.specs.Cut.{stripe_count}
use Rattle.share_files.proofs.Bytes.{joined_file}
use Rattle.share_files.specs.declared.joining.JoinFault.{JoinFault}
use Rattle.share_files.specs.declared.joining.JoinFault.TheVariants.{TooFew, Mismatch, WriteFault}
use Rattle.share_run.specs.Places.{Filled, filled}
use Rattle.share_run.specs.Join.{JoinRun, FilePlaced, IsNoted, IsNotedSoFar, IsAnother, IsLacking}

-- an empty sink took a file, and that was put into the place
took_placed : (accepted now file : List ℕ) (before after : List Filled) → accepted ≡ [] → now ≡ accepted ++ file →
    after ≡ before ++ filled 0 now ∷ [] → after ≡ before ++ filled 0 file ∷ []
took_placed accepted now file before after empty takes placed =
    placed ∙ ap (λ l. before ++ filled 0 l ∷ []) (takes ∙ ap (λ l. l ++ file) empty)

-- it is what the header tells
pub file_placed : (r : JoinRun) (accepted now : List ℕ) (written new : Option (List ℕ)) → accepted ≡ [] →
    r.after.files ≡ r.before.files ++ filled 0 now ∷ [] → TakesFile r.header r.olds r.news accepted written now new → FilePlaced r
file_placed r accepted now written new empty placed takes = record {
  file = takes.file;
  size = takes.size;
  checksum = takes.checksum;
  from = takes.joined;
  placed = took_placed accepted now takes.file r.before.files r.after.files empty takes.takes.0 placed;
}

-- what was joined where the checksum is another
pub is_another : (r : JoinRun) (accepted now : List ℕ) (written new : Option (List ℕ)) → TakesAnother r.header r.olds r.news accepted written now new → IsAnother r
is_another r accepted now written new takes = record { file = takes.file; size = takes.size; checksum = takes.checksum; from = takes.joined }

-- ---- why it ended

module _ (r : JoinRun) (fault : JoinFault) (why : (files : List (List ℕ)) → Show r.news files → IsWhyNot r.header files r.olds r.news r.missed fault)
    (unread : IsParityUnread r.header.shape r.olds r.news r.missed) where
  so : (other : JoinFault) → fault ≡ other → (files : List (List ℕ)) → Show r.news files → IsWhyNot r.header files r.olds r.news r.missed other
  so other same files shows = let P : JoinFault → Type 0 = λ f. IsWhyNot r.header files r.olds r.news r.missed f in subst P same (why files shows)

  pub lacking : (stripe : ℕ) → fault ≡ TooFew stripe → IsOfFile r.header fault → IsLacking r
  lacking stripe same of = record {
    stripe = stripe;
    within = let P : JoinFault → Type 0 = λ f. IsOfFile r.header f in subst P same of;
    lack = λ files shows. (so (TooFew stripe) same files shows).1;
    noted = record { first = λ files shows. (so (TooFew stripe) same files shows).2; unread = unread };
  }

  pub noted_all : fault ≡ Mismatch → IsNoted r (stripe_count r.header.shape r.header.size)
  noted_all same = record { first = so Mismatch same; unread = unread }

  pub noted_some : fault ≡ WriteFault → IsNotedSoFar r
  noted_some same = record { first = so WriteFault same; unread = unread }

-- where all stripes are
pub noted_end : (r : JoinRun) → IsNoted r (stripe_count r.header.shape r.header.size) → IsNotedSoFar r
noted_end r noted = record {
  first = λ files shows. record { count = stripe_count r.header.shape r.header.size; within = omega arith; first = noted.first files shows };
  unread = noted.unread;
}

-- ---- of shares of a file, whose rot is found

module _ (r : JoinRun) (file : List ℕ) (files : List (List ℕ)) (shows : Show r.news files) (pass : NoRotPasses r.header file files) where
  pub placed_is : (placed : FilePlaced r) → placed.file ≡ file
  placed_is placed = joined_file r.header r.olds r.news placed.file file files placed.size placed.from shows pass

  pub none_other : IsAnother r → ⊥
  none_other other =
      other.checksum (ap checksum_of (joined_file r.header r.olds r.news other.file file files other.size other.from shows pass) ∙ pass.checksum)

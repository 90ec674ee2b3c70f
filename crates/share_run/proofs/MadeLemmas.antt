-- Joins and mends of the shares that a cut made.
use Rattle.std.proofs.Common.{◌≡◌, ℕ, ◌<◌, Bool, true, false, List, [], ◌∷◌, ◌++◌, length, get_or, drop, refl, sym, subst, ◌∙◌, ap, inl, inr, arith}
use Rattle.std.proofs.lemmas.Bool.{cases_lt, true≢false}
use Rattle.std.proofs.lemmas.List.{get_or_past}
use Rattle.crc64.specs.Remainder.{checksum_of}
use Rattle.clay_aloof.specs.Shape.{AloofShape, all_chunks}
use Rattle.clay_aloof.specs.Limits.{IsAloof}
use Rattle.clay_aloof.specs.Repair.{aloof_layers_of}
use Rattle.clay_model.specs.RepairParts.{subchunks_at}
use Rattle.share_format.specs.Cut.{stripe_count, AreCodewords}
use Rattle.share_format.specs.Header.{Header}
use Rattle.share_format.specs.Shares.{IsShare}
use Rattle.share_format.proofs.Rows.{drop_front}
use Rattle.share_format.proofs.Determined.{same_words, same_shares}
use Rattle.share_files.specs.Seen.{Seen, seen_of, failed_since, Show}
use Rattle.share_files.specs.Missed.{LackBlocks}
use Rattle.share_files.specs.Joined.{NoRotPasses, AreSharesBut}
use Rattle.share_files.proofs.AnyShares.{shares_pass, shares_enough}
use Rattle.share_mends.specs.Asked.{helps, AreHelpers, OneReadFails}
use Rattle.share_mends.specs.declared.mend_fault.RottenPart.{RottenPart}
use Rattle.share_mends.specs.Mended.{HasGood, IsFirstRotten, AreOfWords}
use Rattle.share_run.specs.Cut.{CutRun, SharesPlaced}
use Rattle.share_run.specs.Join.{JoinRun, JoinEnds}
use Rattle.share_run.specs.Made.{ShowMade, TellsShare, PlacesOrFails}
use Rattle.share_run.specs.Mend.{MendRun, MendEnds, MendStops, stripes_of}
use Rattle.share_run.specs.Places.{Filled, filled}
use Rattle.share_run.specs.Rebuild.{RebuildEnds}
use Rattle.share_run.specs.declared.mends_of_shares.MendStop.{MendStop}
use Rattle.share_run.specs.declared.mends_of_shares.MendStop.TheVariants.{RottenHelper, UnreadHelper}
use Rattle.share_run.specs.declared.share_status.ShareStatus.{ShareStatus}
use Rattle.share_run.specs.declared.share_status.ShareStatus.TheVariants.{Done, Usage, TooFew, BadShare, ReadFault, WriteFault, OutOfMemory}
use Rattle.share_run.proofs.JoinLemmas.{placed_is, none_other}
use Rattle.share_run.proofs.PieceLemmas.{part_is, piece_good}

module _ (a : AloofShape) (file : List ℕ) (made : List (List ℕ)) (aloof : IsAloof a) (cut : (c : ℕ) → c < all_chunks a → IsShare a file c (get_or made c []))
    (lost : ℕ → Bool) (olds news : List Seen) (shows : ShowMade a made lost olds news) (h : Header) (tells : TellsShare a file h) where
  kept : (c : ℕ) → c < all_chunks a → lost c ≡ false → IsShare a file c (get_or shows.files c [])
  kept c less there =
      let P : List ℕ → Type 0 = λ bytes. IsShare a file c bytes in
      subst P (sym (shows.kept c less there)) (cut c less)

  shares : AreSharesBut h lost file shows.files
  shares =
      let P : Header → Type 0 = λ k. AreSharesBut k lost file shows.files in
      subst P (sym tells.0) (record { size = refl; checksum = refl; few = shows.few; kept = kept; gone = shows.gone })

  whole : IsAloof h.shape
  whole =
      let P : Header → Type 0 = λ k. IsAloof k.shape in
      subst P (sym tells.0) aloof

  pub pass : NoRotPasses h file shows.files
  pass = shares_pass h lost file shows.files whole shares

  pub none_lack : (i : ℕ) → i < stripe_count h.shape h.size → LackBlocks h.shape i shows.files olds news → ⊥
  none_lack i less lack =
      let P : Header → Type 0 = λ k. (c : ℕ) → c < all_chunks k.shape → lost c ≡ false → failed_since (seen_of olds c) (seen_of news c) ≡ [] in
      shares_enough h lost file shows.files whole shares i olds news less (subst P (sym tells.0) shows.read) lack

  -- a share with the header is the one that was cut
  pub as_cut : (bytes : List ℕ) → IsShare h.shape file h.share bytes → bytes ≡ get_or made h.share []
  as_cut bytes is =
      let P : Header → Type 0 = λ k. IsShare k.shape file h.share bytes in
      same_shares a file h.share bytes (get_or made h.share []) aloof (subst P tells.0 is) (cut h.share tells.1)

  abbrev words : List (List (List ℕ))
  words = (cut h.share tells.1).words

  coded : AreCodewords a file words
  coded = (cut h.share tells.1).coded

  module _ (marks : List Bool) (helped : (c : ℕ) → helps marks c ≡ true → lost c ≡ false) where
    parts : AreOfWords a h.share marks shows.files words
    parts i less c within helper good =
        let share : IsShare a file c (get_or shows.files c []) = kept c within (helped c helper) in
        let same : words ≡ share.words = same_words a file words share.words aloof coded share.coded in
        let P : List (List (List ℕ)) → Type 0 = λ w. i < length w in
        part_is a file (get_or shows.files c []) c h.share share i (subst P same less)
        ∙ ap (λ (w : List (List (List ℕ))). subchunks_at a.width (get_or (get_or w i []) c []) (aloof_layers_of a h.share)) (sym same)

    -- a share that is mended from parts is the one that was cut
    pub mended : (bytes : List ℕ) →
        ((whole : List ℕ) (words : List (List (List ℕ))) (files : List (List ℕ)) → Show news files → length whole ≡ h.size → checksum_of whole ≡ h.checksum →
        AreCodewords h.shape whole words → AreOfWords h.shape h.share marks files words → IsShare h.shape whole h.share bytes) →
        bytes ≡ get_or made h.share []
    mended bytes share =
        let P : Header → Type 0 = λ k. length file ≡ k.size in
        let Q : Header → Type 0 = λ k. checksum_of file ≡ k.checksum in
        let R : Header → Type 0 = λ k. AreCodewords k.shape file words in
        let S : Header → Type 0 = λ k. AreOfWords k.shape h.share marks shows.files words in
        as_cut bytes (share file words shows.files shows.shown (subst P (sym tells.0) refl) (subst Q (sym tells.0) refl) (subst R (sym tells.0) coded) (subst S (sym tells.0) parts))

    good : (i c : ℕ) → i < stripe_count a (length file) → c < all_chunks a → helps marks c ≡ true → HasGood a h.share shows.files i c
    good i c less within helper =
        let share : IsShare a file c (get_or shows.files c []) = kept c within (helped c helper) in
        let P : ℕ → Type 0 = λ n. i < n in
        piece_good a file (get_or shows.files c []) c h.share share i (subst P (sym share.coded.count) less) aloof tells.1

    module _ (long : length marks ≡ all_chunks a) where
      numbered : (c : ℕ) → helps marks c ≡ true → c < all_chunks a
      numbered c helper = elim (cases_lt c (all_chunks a)) [
        | inl less ↦ less
        | inr past ↦
            let none : helps marks c ≡ false = get_or_past marks c false (omega (arith, long, past)) in
            absurd (true≢false (sym helper ∙ none))
      ]

      pub none_rotten : (part : RottenPart) → IsFirstRotten h.shape h.share marks shows.files (stripe_count h.shape h.size) part → ⊥
      none_rotten part first =
          let P : Header → Type 0 = λ k. IsFirstRotten k.shape h.share marks shows.files (stripe_count k.shape k.size) part in
          let is : IsFirstRotten a h.share marks shows.files (stripe_count a (length file)) part = subst P tells.0 first in
          is.rotten (good part.stripe part.share is.within (numbered part.share is.helper) is.helper)

      pub none_unread : (count : ℕ) → OneReadFails h.shape marks count olds news → ⊥
      none_unread count one =
          let c : ℕ = one.fails.share in
          let old : List ℕ = (seen_of olds one.fails.share).failed in
          let more : List ℕ = one.fails.fails.place ∷ [] in
          let read : drop (length old) (seen_of news one.fails.share).failed ≡ [] =
          shows.read one.fails.share (numbered one.fails.share one.fails.helper) (helped one.fails.share one.fails.helper) in
          let fails : drop (length old) (seen_of news one.fails.share).failed ≡ more =
          ap (drop (length old)) one.fails.fails.fails ∙ drop_front (length old) 0 old more (omega arith) in
          let none : length (one.fails.fails.place ∷ []) ≡ 0 = ap (λ (l : List ℕ). length l) (sym fails ∙ read) in
          absurd (omega (arith, none))

-- ---- how the commands end

placed_as : (before after : List Filled) (bytes share : List ℕ) → after ≡ before ++ filled 0 bytes ∷ [] → bytes ≡ share → after ≡ before ++ filled 0 share ∷ []
placed_as before after bytes share placed is = placed ∙ ap (λ b. before ++ filled 0 b ∷ []) is

module _ (cut : CutRun) (made : SharesPlaced cut (all_chunks cut.shape)) (lost : ℕ → Bool) where
  pub cut_joined : (join : JoinRun) (status : ShareStatus) → IsAloof cut.shape → TellsShare cut.shape made.cut.file join.header →
      ShowMade cut.shape made.files lost join.olds join.news → JoinEnds status join → PlacesOrFails status join.before join.after made.cut.file
  cut_joined join Done aloof tells shows ends =
      placed_as join.before.files join.after.files ends.0.file made.cut.file ends.0.placed
      (placed_is join made.cut.file shows.files shows.shown
      (pass cut.shape made.cut.file made.files aloof made.cut.shares lost join.olds join.news shows join.header tells) ends.0)
  cut_joined join Usage aloof tells shows ends = ends
  cut_joined join TooFew aloof tells shows ends =
      none_lack cut.shape made.cut.file made.files aloof made.cut.shares lost join.olds join.news shows join.header tells ends.0.stripe ends.0.within
      (ends.0.lack shows.files shows.shown)
  cut_joined join BadShare aloof tells shows ends =
      none_other join made.cut.file shows.files shows.shown
      (pass cut.shape made.cut.file made.files aloof made.cut.shares lost join.olds join.news shows join.header tells) ends.0
  cut_joined join ReadFault aloof tells shows ends = ends
  cut_joined join WriteFault aloof tells shows ends = ends.2
  cut_joined join OutOfMemory aloof tells shows ends = ends.0

  pub cut_rebuilt : (mend : MendRun) (status : ShareStatus) → IsAloof cut.shape → TellsShare cut.shape made.cut.file mend.header →
      ShowMade cut.shape made.files lost mend.olds mend.news → RebuildEnds status mend →
      PlacesOrFails status mend.before mend.after (get_or made.files mend.header.share [])
  cut_rebuilt mend Done aloof tells shows ends =
      placed_as mend.before.files mend.after.files ends.0.bytes (get_or made.files mend.header.share []) ends.0.placed
      (as_cut cut.shape made.cut.file made.files aloof made.cut.shares lost mend.olds mend.news shows mend.header tells ends.0.bytes
      (ends.0.share made.cut.file shows.files shows.shown
      (pass cut.shape made.cut.file made.files aloof made.cut.shares lost mend.olds mend.news shows mend.header tells)))
  cut_rebuilt mend Usage aloof tells shows ends = ends
  cut_rebuilt mend TooFew aloof tells shows ends =
      none_lack cut.shape made.cut.file made.files aloof made.cut.shares lost mend.olds mend.news shows mend.header tells ends.0.stripe ends.0.within
      (ends.0.lack shows.files shows.shown)
  cut_rebuilt mend BadShare aloof tells shows ends = ends
  cut_rebuilt mend ReadFault aloof tells shows ends = ends
  cut_rebuilt mend WriteFault aloof tells shows ends = ends.1
  cut_rebuilt mend OutOfMemory aloof tells shows ends = ends.0

  pub cut_mended : (mend : MendRun) (marks : List Bool) (status : ShareStatus) → IsAloof cut.shape → TellsShare cut.shape made.cut.file mend.header →
      ShowMade cut.shape made.files lost mend.olds mend.news → ((c : ℕ) → helps marks c ≡ true → lost c ≡ false) → MendEnds marks mend status →
      PlacesOrFails status mend.before mend.after (get_or made.files mend.header.share [])
  cut_mended mend marks Done aloof tells shows helped ends =
      placed_as mend.before.files mend.after.files ends.0.bytes (get_or made.files mend.header.share []) ends.0.placed
      (mended cut.shape made.cut.file made.files aloof made.cut.shares lost mend.olds mend.news shows mend.header tells marks helped ends.0.bytes ends.0.share)
  cut_mended mend marks Usage aloof tells shows helped ends = ends
  cut_mended mend marks TooFew aloof tells shows helped ends = ends
  cut_mended mend marks BadShare aloof tells shows helped ends = ends
  cut_mended mend marks ReadFault aloof tells shows helped ends = ends
  cut_mended mend marks WriteFault aloof tells shows helped ends = ends.1
  cut_mended mend marks OutOfMemory aloof tells shows helped ends = ends.0

  pub cut_unstopped : (mend : MendRun) (marks : List Bool) (stop : MendStop) → IsAloof cut.shape → TellsShare cut.shape made.cut.file mend.header →
      ShowMade cut.shape made.files lost mend.olds mend.news → AreHelpers cut.shape mend.header.share marks →
      ((c : ℕ) → helps marks c ≡ true → lost c ≡ false) → MendStops marks mend stop → ⊥
  cut_unstopped mend marks (RottenHelper part) aloof tells shows are helped stops =
      none_rotten cut.shape made.cut.file made.files aloof made.cut.shares lost mend.olds mend.news shows mend.header tells marks helped are.count part
      (stops.0 shows.files shows.shown)
  cut_unstopped mend marks UnreadHelper aloof tells shows are helped stops =
      none_unread cut.shape made.cut.file made.files aloof made.cut.shares lost mend.olds mend.news shows mend.header tells marks helped are.count
      (stripes_of mend) stops.0

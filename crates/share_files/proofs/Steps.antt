-- What one more stripe that was read says of each share.
use Rattle.std.proofs.Common.{◌≡◌, ℕ, ◌+◌, ◌-◌, ◌*◌, ◌<◌, ◌≤◌, ◌⊎◌, Bool, true, false, List, [], ◌∷◌, ◌++◌, length, get_or, drop, Option, None, Some, is_none, Vec, Global, refl, sym, subst, ap, ◌∙◌, inl, inr, arith, length-append, below_more}
use Rattle.std.specs.Prelude.{All}
use Rattle.std.proofs.lemmas.Bool.{true≢false, cases_lt}
use Rattle.std.proofs.lemmas.List.{drop-append-le, drop_all}
use Rattle.std.proofs.lemmas.Nat.{mul-le}
use Rattle.std.proofs.lemmas.List.Elements.{All-nil, All-cons, All-same, All-push}
use Rattle.file_bytes.specs.Places.{FailsIn}
use Rattle.clay_aloof.specs.Shape.{AloofShape, all_chunks}
use Rattle.share_format.specs.Cut.{stripe_count}
use Rattle.share_format.specs.Blocks.{block_length, IsBlock}
use Rattle.share_format.specs.Shares.{block_start}
use Rattle.share_format.specs.Header.{Header}
use Rattle.share_format.specs.Joined.{is_lost, AreTooFew}
use Rattle.share_files.specs.Found.{block_in}
use Rattle.share_files.specs.Seen.{Seen, seen_of, failed_since, Show}
use Rattle.share_files.specs.Missed.{missed_after, HasFailed, IsMissing, CountsAt, IsFirstMissed, IsWanted, LackBlocks, IsParityUnread}
use Rattle.share_files.specs.Asked.{IsIn, IsAskedAt, AreAskedIn}
use Rattle.share_files.specs.Gathered.{Grows, Grow, IsHad, MayFail, AreRead}
use Rattle.share_files.specs.Handed.{HasBlock}
use Rattle.share_files.specs.StripeRead.{IsDataRead, IsAllRead, JoinsStripe, IsStripeFault}
use Rattle.share_files.specs.Joined.{IsOfFile, IsWhyNot}
use Rattle.share_files.specs.SoFar.{AreReadSoFar, IsStop}
use Rattle.share_files.specs.declared.joining.JoinFault.{JoinFault}
use Rattle.share_files.specs.declared.joining.JoinFault.TheVariants.{TooFew, Mismatch, WriteFault, OutOfMemory}
use Rattle.share_files.proofs.FoundLemmas.{place_before}
use Rattle.share_files.proofs.ReadLemmas.{grows_none, grow_then, grow_read}
use Rattle.share_files.proofs.AskedLemmas.{asked_none, asked_then, asked_wider}
use Rattle.share_files.proofs.LateLemmas.{missing_later, missing_earlier, none_early}

-- ---- where reads failed

failed_once : (a : AloofShape) (i : ℕ) (failed now : List ℕ) → FailsIn (block_start a i) (block_length a) failed now → HasFailed a i now
failed_once a i failed now fails =
    record { earlier = failed; place = fails.place; later = []; one = fails.fails; from = fails.from; before = fails.before }

pub had_none : (a : AloofShape) (i : ℕ) (file failed now : List ℕ) (block : Option (Vec ℕ Global)) → is_none block ≡ true → IsHad a i file failed now block →
    IsMissing a i file now
had_none a i file failed now None gone had = elim had [ inl none ↦ inl none | inr fails ↦ inr (failed_once a i failed now fails) ]
had_none a i file failed now (Some block) gone had = absurd (true≢false (sym gone))

-- counted from some moment on
module _ (old mid new : Seen) (so : Grows old mid) where
  longer : length old.failed ≤ length mid.failed
  longer = omega (arith, ap (λ (l : List ℕ). length l) so.failed, length-append old.failed so.more)

  pub since_more : (more : List ℕ) → new.failed ≡ mid.failed ++ more → failed_since old new ≡ failed_since old mid ++ more
  since_more more is = ap (drop (length old.failed)) is ∙ drop-append-le (length old.failed) mid.failed more longer

  since_fails : (at size : ℕ) → FailsIn at size mid.failed new.failed → FailsIn at size (failed_since old mid) (failed_since old new)
  since_fails at size fails = record {
    place = fails.place;
    from = fails.from;
    before = fails.before;
    fails = since_more (fails.place ∷ []) fails.fails;
  }

  since_same : new.failed ≡ mid.failed → failed_since old new ≡ failed_since old mid
  since_same same = ap (drop (length old.failed)) same

  pub since_had : (a : AloofShape) (i : ℕ) (file : List ℕ) (block : Option (Vec ℕ Global)) → IsHad a i file mid.failed new.failed block →
      IsHad a i file (failed_since old mid) (failed_since old new) block
  since_had a i file None had = elim had [ inl none ↦ inl none | inr fails ↦ inr (since_fails (block_start a i) (block_length a) fails) ]
  since_had a i file (Some block) had = (had.0, had.1, since_same had.2)

  since_may : (a : AloofShape) (i : ℕ) → MayFail a i mid.failed new.failed → MayFail a i (failed_since old mid) (failed_since old new)
  since_may a i may = elim may [ inl same ↦ inl (since_same same) | inr fails ↦ inr (since_fails (block_start a i) (block_length a) fails) ]

-- ---- the first that is missed

start_before : (a : AloofShape) (first i : ℕ) → first ≤ i → block_start a first ≤ block_start a i
start_before a first i from =
    let more : first * block_length a ≤ i * block_length a = mul-le first (block_length a) i (block_length a) from (omega arith) in
    omega (arith, more)

module _ (a : AloofShape) (first i : ℕ) (from : first ≤ i) (failed now : List ℕ) where
  abbrev IsBehind : ℕ → Type 0
  IsBehind place = block_start a first ≤ place

  all_behind : MayFail a i failed now → All IsBehind failed → All IsBehind now
  all_behind may so = elim may [
    | inl same ↦ All-same IsBehind now failed same so
    | inr fails ↦
        All-same IsBehind now (failed ++ fails.place ∷ []) fails.fails
        (All-push IsBehind failed fails.place so (omega (arith, start_before a first i from, fails.from)))
  ]

-- ---- which blocks count

-- a read of a later stripe's block that fails is none of this one
missing_before : (a : AloofShape) (j i : ℕ) → j < i → (file failed now : List ℕ) → MayFail a i failed now → IsMissing a j file now → IsMissing a j file failed
missing_before a j i less file failed now may missing = elim may [
  | inl same ↦ let P : List ℕ → Type 0 = λ l. IsMissing a j file l in subst P same missing
  | inr fails ↦
      let P : ℕ → Type 0 = λ place. block_start a i ≤ place in
      missing_earlier a j i less file failed (fails.place ∷ []) now fails.fails (All-cons P fails.place [] fails.from (All-nil P)) missing
]

missing_after : (a : AloofShape) (j i : ℕ) (file failed now : List ℕ) → MayFail a i failed now → IsMissing a j file failed → IsMissing a j file now
missing_after a j i file failed now may missing = elim may [
  | inl same ↦ let P : List ℕ → Type 0 = λ l. IsMissing a j file l in subst P (sym same) missing
  | inr fails ↦ missing_later a j file failed (fails.place ∷ []) now fails.fails missing
]

-- a good block whose reads didn't fail isn't missing
pub not_missing : (a : AloofShape) (i : ℕ) (file failed : List ℕ) → IsBlock a (block_in a i file) → All (λ place. place < block_start a i) failed →
    IsMissing a i file failed → ⊥
not_missing a i file failed good before missing = elim missing [ inl none ↦ none good | inr has ↦ none_early a i failed before has ]

-- reads failed in the blocks of the stripes up to this one
all_before : (a : AloofShape) (i : ℕ) (failed now : List ℕ) → MayFail a i failed now → All (λ place. place < block_start a i) failed →
    All (λ place. place < block_start a (i + 1)) now
all_before a i failed now may so =
    let P : ℕ → Type 0 = λ place. place < block_start a (i + 1) in
    let end : block_start a i + block_length a ≤ block_start a (i + 1) = place_before a i (i + 1) (omega arith) in
    let wide : All P failed = λ k d less. (let low : get_or failed k d < block_start a i = so k d less in omega (arith, low, end)) in
    elim may [
      | inl same ↦ All-same P now failed same wide
      | inr fails ↦ All-same P now (failed ++ fails.place ∷ []) fails.fails (All-push P failed fails.place wide (omega (arith, fails.before, end)))
    ]

-- ---- the first that is read and is missing: before, at which stripes it was read, and after
module _ (a : AloofShape) (i : ℕ) (Read ReadNow : ℕ → Type 0) (forth : (j : ℕ) → Read j → ReadNow j) (back : (j : ℕ) → j < i → ReadNow j → Read j)
    (file failed now : List ℕ) where
  missed_before : (first : ℕ) → MayFail a i failed now → IsFirstMissed a i Read file failed (Some first) → IsFirstMissed a (i + 1) ReadNow file now (Some first)
  missed_before first may noted = (
    omega (arith, noted.0),
    forth first noted.1,
    λ j less read. noted.2 j less (back j (omega (arith, less, noted.0)) read),
    missing_after a first i file failed now may noted.3,
    all_behind a first i (omega (arith, noted.0)) failed now may noted.4,
  )

  missed_here : ReadNow i → MayFail a i failed now → IsHad a i file failed now None → IsFirstMissed a i Read file failed None →
      IsFirstMissed a (i + 1) ReadNow file now (Some i)
  missed_here here may had noted = (
    omega arith,
    here,
    λ j less read. noted.0 j less (back j less read),
    had_none a i file failed now None refl had,
    all_behind a i i (omega arith) failed now may (All-same (λ place. block_start a i ≤ place) failed [] noted.1 (All-nil (λ place. block_start a i ≤ place))),
  )

  -- its block was read
  noted_more : (missed : Option ℕ) (block : Option (Vec ℕ Global)) → ReadNow i → MayFail a i failed now → IsFirstMissed a i Read file failed missed →
      IsHad a i file failed now block → IsFirstMissed a (i + 1) ReadNow file now (missed_after missed i (is_none block))
  noted_more (Some first) block here may noted had = missed_before first may noted
  noted_more None None here may noted had = missed_here here may had noted
  noted_more None (Some block) here may noted had = (
    below_more (λ j. ReadNow j → IsBlock a (block_in a j file)) i (λ j less read. noted.0 j less (back j less read)) (λ read. had.1),
    had.2 ∙ noted.1,
  )

  -- it wasn't
  noted_unread : (missed : Option ℕ) → (ReadNow i → ⊥) → now ≡ failed → IsFirstMissed a i Read file failed missed → IsFirstMissed a (i + 1) ReadNow file now missed
  noted_unread (Some first) unread same noted = missed_before first (inl same) noted
  noted_unread None unread same noted = (
    below_more (λ j. ReadNow j → IsBlock a (block_in a j file)) i (λ j less read. noted.0 j less (back j less read)) (λ read. absurd (unread read)),
    same ∙ noted.1,
  )

-- ---- of a block that is there

had_there : (a : AloofShape) (i : ℕ) (file failed now : List ℕ) (block : Option (Vec ℕ Global)) → HasBlock a block → IsHad a i file failed now block →
    IsBlock a (block_in a i file) × (now ≡ failed)
had_there a i file failed now None there had = absurd there
had_there a i file failed now (Some block) there had = (had.1, had.2)

none_missed : (a : AloofShape) (i : ℕ) (missed : Option ℕ) (block : Option (Vec ℕ Global)) → HasBlock a block → missed_after missed i (is_none block) ≡ missed
none_missed a i missed None there = absurd there
none_missed a i (Some first) (Some block) there = refl
none_missed a i None (Some block) there = refl

some_missed : (missed : Option ℕ) (i : ℕ) (lost : Bool) → lost ≡ true → missed_after missed i lost ≡ None → ⊥
some_missed (Some first) i lost is none = cc
some_missed None i true is none = cc
some_missed None i false is none = absurd (true≢false (sym is))

-- ---- before the first stripe
pub read_nothing : (h : Header) (sources : List Seen) (missed : List (Option ℕ)) → ((c : ℕ) → get_or missed c None ≡ None) →
    AreReadSoFar h 0 sources sources missed
read_nothing h sources missed fresh =
    let none : (c : ℕ) → failed_since (seen_of sources c) (seen_of sources c) ≡ [] =
    λ c. drop_all (length (seen_of sources c).failed) (seen_of sources c).failed (omega arith) in record {
      grow = λ c. grows_none (seen_of sources c) (seen_of sources c) refl;
      within = λ c.
          let P : ℕ → Type 0 = λ place. place < block_start h.shape 0 in
          All-same P (failed_since (seen_of sources c) (seen_of sources c)) [] (none c) (All-nil P);
      noted = λ files shows. record {
        each = λ c less.
            let P : Option ℕ → Type 0 =
            λ m. IsFirstMissed h.shape 0 (CountsAt h.shape files sources sources c) (get_or files c [])
            (failed_since (seen_of sources c) (seen_of sources c)) m in
            subst P (sym (fresh c)) (λ i below read. absurd (omega (arith, below)), none c);
        asked = λ c less. asked_none (IsWanted h.shape 0 (CountsAt h.shape files sources sources c)) (seen_of sources c) (seen_of sources c) refl;
      };
      unread = λ none_missed c parity. refl;
    }

-- ---- one stripe more

module _ (h : Header) (i : ℕ) (olds mids news : List Seen) (before after : List (Option ℕ)) (so : AreReadSoFar h i olds mids before) (asked : AreAskedIn h.shape i mids news)
    (shares : length mids ≡ all_chunks h.shape) (now_shares : length news ≡ all_chunks h.shape) where
  abbrev a : AloofShape
  a = h.shape

  abbrev old_fails : ℕ → List ℕ
  old_fails c = failed_since (seen_of olds c) (seen_of mids c)

  abbrev new_fails : ℕ → List ℕ
  new_fails c = failed_since (seen_of olds c) (seen_of news c)

  -- the first so many shares were read
  module _ (count : ℕ) (early : a.data_count ≤ count) (blocks : List (Option (Vec ℕ Global))) (read : AreRead a i count mids news blocks) where
    grow : Grow mids news
    grow = grow_read a i count mids news blocks read

    may : (c : ℕ) → MayFail a i (old_fails c) (new_fails c)
    may c = since_may (seen_of olds c) (seen_of mids c) (seen_of news c) (so.grow c) a i (elim (cases_lt c count) [
      | inl less ↦ (read.read c less).fails
      | inr more ↦ inl (ap (λ (s : Seen). s.failed) (read.others c more))
    ])

    module _ (files : List (List ℕ)) (shows : Show news files) where
      shown : Show mids files
      shown c less = (grow c).shown (get_or files c []) (shows c (omega (arith, less, shares, now_shares)))

      forth : (c j : ℕ) → CountsAt a files olds mids c j → CountsAt a files olds news c j
      forth c j is = elim is [
        | inl less ↦ inl less
        | inr one ↦ inr (one.0, one.1, missing_after a j i (get_or files one.0 []) (old_fails one.0) (new_fails one.0) (may one.0) one.2)
      ]

      back : (c j : ℕ) → j < i → CountsAt a files olds news c j → CountsAt a files olds mids c j
      back c j less is = elim is [
        | inl early ↦ inl early
        | inr one ↦ inr (one.0, one.1, missing_before a j i less (get_or files one.0 []) (old_fails one.0) (new_fails one.0) (may one.0) one.2)
      ]

      -- what was asked before, and now where nothing was or the block counts
      wanted : (c : ℕ) → c < all_chunks a → (CountsAt a files olds news c i ⊎ (seen_of news c ≡ seen_of mids c)) →
          IsAskedAt (IsWanted a (i + 1) (CountsAt a files olds news c)) (seen_of olds c) (seen_of news c)
      wanted c less now =
          let Was : ℕ → Type 0 = IsWanted a i (CountsAt a files olds mids c) in
          let Is : ℕ → Type 0 = IsWanted a (i + 1) (CountsAt a files olds news c) in
          let one : IsAskedAt Is (seen_of olds c) (seen_of mids c) =
          asked_wider Was Is (λ place w. record { stripe = w.stripe; within = omega (arith, w.within); counts = forth c w.stripe w.counts; at = w.at })
          (seen_of olds c) (seen_of mids c) ((so.noted files shown).asked c less) in
          asked_then Is (seen_of olds c) (seen_of mids c) (seen_of news c) one (elim now [
            | inl counts ↦
                asked_wider (IsIn a i) Is (λ place at. record { stripe = i; within = omega arith; counts = counts; at = at }) (seen_of mids c) (seen_of news c) (asked c)
            | inr same ↦ asked_none Is (seen_of mids c) (seen_of news c) same
          ])

      was : (c : ℕ) → c < all_chunks a → IsFirstMissed a i (CountsAt a files olds mids c) (get_or files c []) (old_fails c) (get_or before c None)
      was c less = (so.noted files shown).each c less

      had : (c : ℕ) → c < count → c < all_chunks a → IsHad a i (get_or files c []) (old_fails c) (new_fails c) (get_or blocks c None)
      had c less within =
          since_had (seen_of olds c) (seen_of mids c) (seen_of news c) (so.grow c) a i (get_or files c []) (get_or blocks c None)
          ((read.read c less).had (get_or files c []) (shows c (omega (arith, within, now_shares))))

      noted_read : (c : ℕ) → c < count → c < all_chunks a → CountsAt a files olds news c i →
          IsFirstMissed a (i + 1) (CountsAt a files olds news c) (get_or files c []) (new_fails c)
          (missed_after (get_or before c None) i (is_none (get_or blocks c None)))
      noted_read c less within here =
          noted_more a i (CountsAt a files olds mids c) (CountsAt a files olds news c) (forth c) (back c) (get_or files c []) (old_fails c) (new_fails c)
          (get_or before c None) (get_or blocks c None) here (may c) (was c within) (had c less within)

  all_within : (c : ℕ) → MayFail a i (old_fails c) (new_fails c) → All (λ place. place < block_start a (i + 1)) (new_fails c)
  all_within c may = all_before a i (old_fails c) (new_fails c) may (so.within c)

  -- no parity share was read
  module _ (blocks : List (Option (Vec ℕ Global))) (is : IsDataRead a i mids news before after blocks) where
    abbrev k : ℕ
    k = a.data_count

    few : k ≤ all_chunks a
    few = let all : all_chunks a ≡ k + a.parity_count = refl in omega (arith, all)

    pub good : (files : List (List ℕ)) → Show news files → (d : ℕ) → d < k → IsBlock a (block_in a i (get_or files d [])) × (new_fails d ≡ old_fails d)
    good files shows d less =
        had_there a i (get_or files d []) (old_fails d) (new_fails d) (get_or blocks d None) (is.there d less)
        (had k (omega arith) blocks is.read files shows d less (omega (arith, less, few)))

    pub unread : (files : List (List ℕ)) → Show news files → (c : ℕ) → k ≤ c → CountsAt a files olds news c i → ⊥
    unread files shows c parity is_read = elim is_read [
      | inl early ↦ omega (arith, early, parity)
      | inr one ↦
          let found = good files shows one.0 one.1 in
          let P : ℕ → Type 0 = λ place. place < block_start a i in
          not_missing a i (get_or files one.0 []) (new_fails one.0) found.0
          (All-same P (new_fails one.0) (old_fails one.0) found.1 (so.within one.0)) one.2
    ]

    kept : (c : ℕ) → get_or after c None ≡ get_or before c None
    kept c = ap (λ (l : List (Option ℕ)). get_or l c None) is.same

    each_share : (files : List (List ℕ)) (shows : Show news files) (c : ℕ) → c < all_chunks a →
        IsFirstMissed a (i + 1) (CountsAt a files olds news c) (get_or files c []) (new_fails c) (get_or after c None)
    each_share files shows c within =
        let P : Option ℕ → Type 0 = λ m. IsFirstMissed a (i + 1) (CountsAt a files olds news c) (get_or files c []) (new_fails c) m in
        elim (cases_lt c k) [
          | inl early ↦
              subst P (none_missed a i (get_or before c None) (get_or blocks c None) (is.there c early) ∙ sym (kept c))
              (noted_read k (omega arith) blocks is.read files shows c early within (inl early))
          | inr parity ↦
              subst P (sym (kept c))
              (noted_unread a i (CountsAt a files olds mids c) (CountsAt a files olds news c) (forth k (omega arith) blocks is.read files shows c)
              (back k (omega arith) blocks is.read files shows c) (get_or files c []) (old_fails c) (new_fails c) (get_or before c None)
              (unread files shows c parity)
              (since_same (seen_of olds c) (seen_of mids c) (seen_of news c) (so.grow c) (ap (λ (s : Seen). s.failed) (is.read.others c parity)))
              (was k (omega arith) blocks is.read files shows c within))
        ]

    read_data : AreReadSoFar h (i + 1) olds news after
    read_data = record {
      grow = grow_then olds mids news so.grow (grow k (omega arith) blocks is.read);
      within = λ c. all_within c (may k (omega arith) blocks is.read c);
      noted = λ files shows. record {
        each = each_share files shows;
        asked = λ c less. wanted k (omega arith) blocks is.read files shows c less (elim (cases_lt c k) [
          | inl early ↦ inl (inl early)
          | inr parity ↦ inr (is.read.others c parity)
        ]);
      };
      unread = λ none c parity. is.read.others c parity ∙ so.unread (λ d less. sym (kept d) ∙ none d less) c parity;
    }

  -- each share was read
  module _ (blocks : List (Option (Vec ℕ Global))) (is : IsAllRead a i mids news before after blocks) where
    abbrev n : ℕ
    n = all_chunks a

    most : a.data_count ≤ n
    most = let all : all_chunks a ≡ a.data_count + a.parity_count = refl in omega (arith, all)

    pub gone : (files : List (List ℕ)) → Show news files → (c : ℕ) → c < n → is_lost blocks c ≡ true → IsMissing a i (get_or files c []) (new_fails c)
    gone files shows c within lost =
        had_none a i (get_or files c []) (old_fails c) (new_fails c) (get_or blocks c None) lost (had n most blocks is.read files shows c within within)

    -- so all blocks count
    pub all_count : (files : List (List ℕ)) → Show news files → (c : ℕ) → CountsAt a files olds news c i
    all_count files shows c =
        let d : ℕ = is.lack.0 in inr (d, is.lack.1, gone files shows d (omega (arith, is.lack.1, most)) is.lack.2)

    read_each : AreReadSoFar h (i + 1) olds news after
    read_each = record {
      grow = grow_then olds mids news so.grow (grow n most blocks is.read);
      within = λ c. all_within c (may n most blocks is.read c);
      noted = λ files shows. record {
        each = λ c within.
            let P : Option ℕ → Type 0 = λ m. IsFirstMissed a (i + 1) (CountsAt a files olds news c) (get_or files c []) (new_fails c) m in
            subst P (sym (is.missed c within)) (noted_read n most blocks is.read files shows c within within (all_count files shows c));
        asked = λ c within. wanted n most blocks is.read files shows c within (inl (all_count files shows c));
      };
      unread = λ none c parity.
          let d : ℕ = is.lack.0 in
          absurd (some_missed (get_or before d None) i (is_lost blocks d) is.lack.2 (sym (is.missed d (omega (arith, is.lack.1, most))) ∙ none d is.lack.1));
    }

    lack : AreTooFew a blocks → (files : List (List ℕ)) → Show news files → LackBlocks a i files olds news
    lack few files shows = record { lost = is_lost blocks; many = few; each = λ c within lost. gone files shows c within lost }

pub read_in : (geometry : AloofShape) (h : Header) (i : ℕ) (olds mids news : List Seen) (before after : List (Option ℕ)) (bytes : List ℕ) →
    geometry ≡ h.shape → AreReadSoFar h i olds mids before → AreAskedIn h.shape i mids news → length mids ≡ all_chunks h.shape →
    length news ≡ all_chunks h.shape → JoinsStripe geometry i mids news before after bytes → AreReadSoFar h (i + 1) olds news after
read_in geometry h i olds mids news before after bytes same so asked shares now_shares joins =
    let P : AloofShape → Type 0 = λ a. JoinsStripe a i mids news before after bytes in
    elim (subst P same joins) [
      | inl early ↦ read_data h i olds mids news before after so asked shares now_shares early.blocks early.is
      | inr all ↦ read_each h i olds mids news before after so asked shares now_shares all.blocks all.is
    ]

-- why a stripe can't be joined is why the file can't
stop_at : (h : Header) (i : ℕ) (olds mids news : List Seen) (before after : List (Option ℕ)) → AreReadSoFar h i olds mids before →
    AreAskedIn h.shape i mids news → i < stripe_count h.shape h.size → length mids ≡ all_chunks h.shape → length news ≡ all_chunks h.shape → (fault : JoinFault) →
    IsStripeFault h.shape i mids news before after fault → IsStop h olds news after fault
stop_at h i olds mids news before after so asked within shares now_shares (TooFew stripe) fault =
    let P : ℕ → Type 0 = λ n. IsStop h olds news after (TooFew n) in
    subst P (sym fault.0) (
      within,
      read_each h i olds mids news before after so asked shares now_shares fault.1.blocks fault.1.is,
      lack h i olds mids news before after so asked shares now_shares fault.1.blocks fault.1.is fault.1.few,
    )
stop_at h i olds mids news before after so asked within shares now_shares Mismatch fault = fault
stop_at h i olds mids news before after so asked within shares now_shares WriteFault fault = absurd fault
stop_at h i olds mids news before after so asked within shares now_shares OutOfMemory fault = tt

pub stop_in : (geometry : AloofShape) (h : Header) (i : ℕ) (olds mids news : List Seen) (before after : List (Option ℕ)) (fault : JoinFault) →
    geometry ≡ h.shape → AreReadSoFar h i olds mids before → AreAskedIn h.shape i mids news → i < stripe_count h.shape h.size →
    length mids ≡ all_chunks h.shape → length news ≡ all_chunks h.shape → IsStripeFault geometry i mids news before after fault → IsStop h olds news after fault
stop_in geometry h i olds mids news before after fault same so asked within shares now_shares is =
    let P : AloofShape → Type 0 = λ a. IsStripeFault a i mids news before after fault in
    stop_at h i olds mids news before after so asked within shares now_shares fault (subst P same is)

pub why_stopped : (h : Header) (olds news : List Seen) (missed : List (Option ℕ)) → (fault : JoinFault) →
    IsStop h olds news missed fault → (files : List (List ℕ)) → Show news files → IsWhyNot h files olds news missed fault
why_stopped h olds news missed (TooFew stripe) stop files shows = (stop.0, stop.2 files shows, stop.1.noted files shows)
why_stopped h olds news missed Mismatch stop files shows = absurd stop
why_stopped h olds news missed WriteFault stop files shows = record { count = stop.count; within = stop.within; first = stop.so.noted files shows }
why_stopped h olds news missed OutOfMemory stop files shows = tt

pub stopped_unread : (h : Header) (olds news : List Seen) (missed : List (Option ℕ)) → (fault : JoinFault) → IsStop h olds news missed fault →
    (fault ≡ OutOfMemory → ⊥) → IsParityUnread h.shape olds news missed
stopped_unread h olds news missed (TooFew stripe) stop memory = stop.1.unread
stopped_unread h olds news missed Mismatch stop memory = absurd stop
stopped_unread h olds news missed WriteFault stop memory = stop.so.unread
stopped_unread h olds news missed OutOfMemory stop memory = absurd (memory refl)

pub stopped_in : (h : Header) (olds news : List Seen) (missed : List (Option ℕ)) → (fault : JoinFault) → IsStop h olds news missed fault → IsOfFile h fault
stopped_in h olds news missed (TooFew stripe) stop = stop.0
stopped_in h olds news missed Mismatch stop = tt
stopped_in h olds news missed WriteFault stop = tt
stopped_in h olds news missed OutOfMemory stop = tt

-- ---- at the end

pub read_all : (h : Header) (n count : ℕ) (olds news : List Seen) (missed : List (Option ℕ)) → n ≡ count → AreReadSoFar h n olds news missed →
    AreReadSoFar h count olds news missed
read_all h n count olds news missed same so = let P : ℕ → Type 0 = λ k. AreReadSoFar h k olds news missed in subst P same so

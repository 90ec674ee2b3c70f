-- One more source of which a stripe's block was read.
use Rattle.std.proofs.Common.{◌≡◌, ◌≢◌, ℕ, ◌+◌, ◌<◌, ◌≤◌, ◌⊎◌, Bool, true, false, is_none, List, [], ◌∷◌, ◌++◌, length, get_or, map, Option, None, Some, IfSome, Vec, Global, refl, sym, subst, ◌∙◌, ap, inl, inr, arith, append-nil, append_assoc, get_or-set_other, get_or-set_same, below_more}
use Rattle.std.proofs.Math.ListN.{set}
use Rattle.std.proofs.lemmas.Bool.{cases_lt, true≢false}
use Rattle.std.proofs.lemmas.List as lists
use Rattle.std.proofs.lemmas.List.{map-set, length-map}
use Rattle.std.proofs.lemmas.List.Elements.{All-from_get_or}
use Rattle.file_bytes.specs.Places.{Shows, FailsIn}
use Rattle.clay_model.specs.Left.{AreLong}
use Rattle.clay_aloof.specs.Shape.{AloofShape}
use Rattle.share_format.specs.Blocks.{block_length, IsBlock}
use Rattle.share_format.specs.Shares.{block_start}
use Rattle.share_files.specs.Found.{block_in, IsTold}
use Rattle.share_files.specs.Seen.{Seen, seen, seen_of}
use Rattle.share_files.specs.Gathered.{Grows, Grow, IsHad, Reads, AreRead, AreReadIn}
use Rattle.share_files.specs.Handed.{HasBlock, HaveBlocks}
use Rattle.share_format.specs.Joined.{is_lost}

-- ---- what a source tells

pub grows_none : (old new : Seen) → new ≡ old → Grows old new
grows_none old new same = record {
  shown = λ file shows. let P : Seen → Type 0 = λ s. Shows file s.given s.ends in subst P same shows;
  more = [];
  failed = ap (λ (s : Seen). s.failed) same ∙ sym (append-nil old.failed);
}

pub grows_then : (old mid new : Seen) → Grows old mid → Grows mid new → Grows old new
grows_then old mid new one two = record {
  shown = λ file shows. one.shown file (two.shown file shows);
  more = one.more ++ two.more;
  failed = two.failed ∙ ap (λ l. l ++ two.more) one.failed ∙ append_assoc old.failed one.more two.more;
}

-- after a read that didn't fail, and one that did
pub grows_same : (old new : Seen) → ((file : List ℕ) → Shows file new.given new.ends → Shows file old.given old.ends) → new.failed ≡ old.failed → Grows old new
grows_same old new shown same = record { shown = shown; more = []; failed = same ∙ sym (append-nil old.failed) }

pub grows_fails : (at size : ℕ) (old new : Seen) → ((file : List ℕ) → Shows file new.given new.ends → Shows file old.given old.ends) →
    FailsIn at size old.failed new.failed → Grows old new
grows_fails at size old new shown fails = record { shown = shown; more = fails.place ∷ []; failed = fails.fails }

pub grows_read : (a : AloofShape) (i : ℕ) (old new : Seen) (block : Option (Vec ℕ Global)) → Reads a i old new block → Grows old new
grows_read a i old new block reads = elim reads.fails [ inl same ↦ grows_same old new reads.shown same | inr fails ↦ grows_fails (block_start a i) (block_length a) old new reads.shown fails ]

pub grow_none : (seens : List Seen) → Grow seens seens
grow_none seens c = grows_none (seen_of seens c) (seen_of seens c) refl

pub grow_then : (olds mids news : List Seen) → Grow olds mids → Grow mids news → Grow olds news
grow_then olds mids news one two c = grows_then (seen_of olds c) (seen_of mids c) (seen_of news c) (one c) (two c)

pub grow_read : (a : AloofShape) (i count : ℕ) (olds news : List Seen) (blocks : List (Option (Vec ℕ Global))) → AreRead a i count olds news blocks → Grow olds news
grow_read a i count olds news blocks so c = elim (cases_lt c count) [
  | inl less ↦ grows_read a i (seen_of olds c) (seen_of news c) (get_or blocks c None) (so.read c less)
  | inr more ↦ grows_none (seen_of olds c) (seen_of news c) (so.others c more)
]

-- ---- a source in a slice

module _ {X : Type 0} (f : X → Seen) (xs : List X) (share : ℕ) (old new : X) (within : share < length xs) (here : old ≡ get_or xs share old) where
  abbrev news : List Seen
  news = map f (set xs share new)

  own : seen_of news share ≡ f new
  own =
      let long : length (map f xs) ≡ length xs = length-map xs f in
      ap (λ l. get_or l share (seen [] [] [])) (map-set f xs share new)
      ∙ get_or-set_same (map f xs) share (f new) (seen [] [] []) (omega (arith, long, within))

  other : (c : ℕ) → c ≢ share → seen_of news c ≡ seen_of (map f xs) c
  other c differs = ap (λ l. get_or l c (seen [] [] [])) (map-set f xs share new) ∙ get_or-set_other (map f xs) share c (f new) (seen [] [] []) differs

  old_one : seen_of (map f xs) share ≡ f old
  old_one = lists.get_or-map f xs share old (seen [] [] []) within ∙ sym (ap f here)

  -- and its block replaced that which stood in its place
  pub read_in_more : (a : AloofShape) (i from : ℕ) (olds : List Seen) (before blocks after : List (Option (Vec ℕ Global))) (block : Option (Vec ℕ Global)) →
      from ≤ share → get_or after share None ≡ block → ((c : ℕ) → c ≢ share → get_or after c None ≡ get_or blocks c None) →
      IfSome block (λ v. IsBlock a v.items) → Reads a i (f old) (f new) block → AreReadIn a i from share olds (map f xs) before blocks →
      AreReadIn a i from (share + 1) olds news before after
  read_in_more a i from olds before blocks after block start put rest good reads so = record {
    read = λ c more less.
        below_more (λ k. from ≤ k → Reads a i (seen_of olds k) (seen_of news k) (get_or after k None)) share
        (λ k below first.
        let differs : k ≢ share = omega (arith, below) in
        let P : Seen → Type 0 = λ s. Reads a i (seen_of olds k) s (get_or blocks k None) in
        let Q : Option (Vec ℕ Global) → Type 0 = λ b. Reads a i (seen_of olds k) (seen_of news k) b in
        subst Q (sym (rest k differs)) (subst P (sym (other k differs)) (so.read k first below)))
        (λ first.
        let P : Seen → Type 0 = λ s. Reads a i s (f new) block in
        let Q : Seen → Type 0 = λ s. Reads a i (seen_of olds share) s block in
        let R : Option (Vec ℕ Global) → Type 0 = λ b. Reads a i (seen_of olds share) (seen_of news share) b in
        subst R (sym put) (subst Q (sym own) (subst P (sym old_one ∙ so.others share (inr (omega arith))) reads)))
        c less more;
    good = λ c more less.
        below_more (λ k. from ≤ k → IfSome (get_or after k None) (λ v. IsBlock a v.items)) share
        (λ k below first.
        let differs : k ≢ share = omega (arith, below) in
        let P : Option (Vec ℕ Global) → Type 0 = λ b. IfSome b (λ v. IsBlock a v.items) in
        subst P (sym (rest k differs)) (so.good k first below))
        (λ first. let P : Option (Vec ℕ Global) → Type 0 = λ b. IfSome b (λ v. IsBlock a v.items) in subst P (sym put) good)
        c less more;
    others = λ c outside.
        let differs : c ≢ share = elim outside [ inl less ↦ omega (arith, less, start) | inr more ↦ omega (arith, more) ] in
        let was : (c < from) ⊎ (share ≤ c) = elim outside [ inl less ↦ inl less | inr more ↦ inr (omega (arith, more)) ] in
        other c differs ∙ so.others c was;
    kept = λ c less.
        let differs : c ≢ share = omega (arith, less, start) in
        rest c differs ∙ so.kept c less;
  }

  pub of_each : (P : Seen → Seen → Type 0) → ((s t : Seen) → t ≡ s → P s t) → P (f old) (f new) → (c : ℕ) → P (seen_of (map f xs) c) (seen_of news c)
  of_each P same changed c = elim (cases_lt c share) [
    | inl less ↦
        let differs : c ≢ share = omega (arith, less) in
        same (seen_of (map f xs) c) (seen_of news c) (other c differs)
    | inr from ↦
        elim (cases_lt share c) [
          | inl more ↦
              let differs : c ≢ share = omega (arith, more) in
              same (seen_of (map f xs) c) (seen_of news c) (other c differs)
          | inr most ↦
              let is : share ≡ c = omega (arith, from, most) in
              let Q : Seen → Type 0 = λ s. P s (f new) in
              let R : Seen → Type 0 = λ s. P (seen_of (map f xs) share) s in
              let S : ℕ → Type 0 = λ k. P (seen_of (map f xs) k) (seen_of news k) in
              subst S is (subst R (sym own) (subst Q (sym old_one) changed))
        ]
  ]

-- ---- shares from one number on, up to another

module _ (a : AloofShape) (i : ℕ) where
  pub read_from : (to : ℕ) (olds news : List Seen) (before after : List (Option (Vec ℕ Global))) → AreReadIn a i 0 to olds news before after → AreRead a i to olds news after
  read_from to olds news before after is = record { read = λ c less. is.read c (omega arith) less; others = λ c more. is.others c (inr more) }

  pub read_whole : (n count : ℕ) (olds news : List Seen) (before blocks items : List (Option (Vec ℕ Global))) → items ≡ blocks → n ≡ count →
      AreReadIn a i 0 count olds news before blocks → AreRead a i n olds news items
  read_whole n count olds news before blocks items is same read =
      let P : ℕ → Type 0 = λ m. AreRead a i m olds news items in
      let Q : List (Option (Vec ℕ Global)) → Type 0 = λ l. AreRead a i count olds news l in
      subst P (sym same) (subst Q (sym is) (read_from count olds news before blocks read))

  -- none yet
  pub read_in_none : (from : ℕ) (sources : List Seen) (blocks : List (Option (Vec ℕ Global))) → AreReadIn a i from from sources sources blocks blocks
  read_in_none from sources blocks = record {
    read = λ c more less. absurd (omega (arith, more, less));
    good = λ c more less. absurd (omega (arith, more, less));
    others = λ c outside. refl;
    kept = λ c less. refl;
  }

  pub read_both : (from to : ℕ) (olds mids news : List Seen) (before mid after : List (Option (Vec ℕ Global))) → from ≤ to → AreReadIn a i 0 from olds mids before mid →
      AreReadIn a i from to mids news mid after → AreRead a i to olds news after
  read_both from to olds mids news before mid after order one two = record {
    read = λ c less. elim (cases_lt c from) [
      | inl first ↦
          let P : Seen → Type 0 = λ s. Reads a i (seen_of olds c) s (get_or after c None) in
          let Q : Option (Vec ℕ Global) → Type 0 = λ b. Reads a i (seen_of olds c) (seen_of mids c) b in
          subst P (sym (two.others c (inl first))) (subst Q (sym (two.kept c first)) (one.read c (omega arith) first))
      | inr later ↦
          let P : Seen → Type 0 = λ s. Reads a i s (seen_of news c) (get_or after c None) in
          subst P (one.others c (inr later)) (two.read c later less)
    ];
    others = λ c more. two.others c (inr more) ∙ one.others c (inr (omega (arith, order, more)));
  }

  there_of : (block : Option (Vec ℕ Global)) → IfSome block (λ v. IsBlock a v.items) → is_none block ≡ false → HasBlock a block
  there_of None good there = absurd (true≢false there)
  there_of (Some v) good there = good

  pub have_blocks : (to : ℕ) (olds news : List Seen) (before after : List (Option (Vec ℕ Global))) → a.data_count ≡ to → AreReadIn a i 0 to olds news before after →
      ((c : ℕ) → c < a.data_count → is_lost after c ≡ false) → HaveBlocks a after
  have_blocks to olds news before after count is there c less = there_of (get_or after c None) (is.good c (omega arith) (omega (arith, less, count))) (there c less)

-- a block has its length
block_size : (a : AloofShape) (block : Option (Vec ℕ Global)) → IfSome block (λ v. IsBlock a v.items) → IfSome block (λ v. length v.items ≡ block_length a)
block_size a None is = tt
block_size a (Some v) is = is.size

pub long_one : (a : AloofShape) (block : Option (Vec ℕ Global)) → IfSome block (λ v. IsBlock a v.items) → IfSome block (λ v. length v.items ≡ block_length a)
long_one a block is = block_size a block is

-- no blocks have any length
pub none_long : (len : ℕ) (blocks : List (Option (Vec ℕ Global))) → ((c : ℕ) → get_or blocks c None ≡ None) → AreLong len blocks
none_long len blocks none =
    let P : Option (Vec ℕ Global) → Type 0 = λ o. IfSome o (λ v. length v.items ≡ len) in
    All-from_get_or P blocks None (λ c less. subst P (sym (none c)) tt)

-- what was told of a room was had
pub told_good : (a : AloofShape) (bytes room items : List ℕ) (good : Bool) → good ≡ true → items ≡ room → IsTold a bytes room good → (items ≡ bytes) × IsBlock a bytes
told_good a bytes room items good true_is is told =
    let P : Bool → Type 0 = λ b. IsTold a bytes room b in
    let so = subst P true_is told in
    (is ∙ so.0, so.1)

pub had_told : (a : AloofShape) (bytes room items failed now : List ℕ) (good : Bool) → good ≡ true → items ≡ room → now ≡ failed → IsTold a bytes room good →
    (items ≡ bytes) × IsBlock a bytes × (now ≡ failed)
had_told a bytes room items failed now good true_is is same told = let so = told_good a bytes room items good true_is is told in (so.0, so.1, same)

pub had_untold : (a : AloofShape) (i : ℕ) (file failed now room : List ℕ) (good : Bool) → good ≡ false → IsTold a (block_in a i file) room good →
    IsHad a i file failed now None
had_untold a i file failed now room good bad told = let P : Bool → Type 0 = λ b. IsTold a (block_in a i file) room b in inl (subst P bad told)

pub told_bad : (a : AloofShape) (bytes room : List ℕ) (good : Bool) → good ≡ false → IsTold a bytes room good → ¬ IsBlock a bytes
told_bad a bytes room good bad told = let P : Bool → Type 0 = λ b. IsTold a bytes room b in subst P bad told

-- A share mended stripe by stripe.
use Rattle.std.proofs.Common.{◌≡◌, ℕ, ◌+◌, ◌<◌, Bool, true, List, [], ◌∷◌, ◌++◌, sym, subst, ◌∙◌, ap, arith, append-nil, below_more}
use Rattle.std.specs.List.{flat_map, range_with_len}
use Rattle.std.proofs.lemmas.List.Concat.{flat_map-append}
use Rattle.clay_grid.proofs.Rising.{range_with_len_more}
use Rattle.clay_aloof.specs.Shape.{AloofShape, all_chunks}
use Rattle.share_format.specs.Mend.{Range, block_ranges}
use Rattle.share_files.specs.Seen.{Seen, Show}
use Rattle.share_mends.specs.Asked.{helps, AreAsked}
use Rattle.share_mends.specs.Mended.{HasGood, HaveGood, NamesFirst, IsMended}
use Rattle.share_mends.specs.Gathered.{NamesFirstOf}
use Rattle.share_mends.specs.declared.mend_fault.MendFault.{MendFault}
use Rattle.share_mends.specs.declared.mend_fault.MendFault.TheVariants.{Rotten, ReadFault, WriteFault, OutOfMemory}
use Rattle.share_mends.proofs.AskedLemmas.{asked_then}

-- ---- what is read

abbrev pub first_ranges : AloofShape → ℕ → ℕ → List Range
first_ranges a lost count = flat_map (block_ranges a lost) (range_with_len 0 count)

ranges_more : (a : AloofShape) (lost count : ℕ) → first_ranges a lost count ++ block_ranges a lost count ≡ first_ranges a lost (count + 1)
ranges_more a lost count =
    let last : 0 + count ≡ count = omega arith in
    ap (λ l. first_ranges a lost count ++ l) (sym (append-nil (block_ranges a lost count)))
    ∙ ap (λ k. first_ranges a lost count ++ (block_ranges a lost k ++ [])) (sym last)
    ∙ sym (flat_map-append (block_ranges a lost) (range_with_len 0 count) ((0 + count) ∷ []))
    ∙ ap (flat_map (block_ranges a lost)) (sym (range_with_len_more 0 count))

pub asked_stripe : (a : AloofShape) (lost count shares : ℕ) (marks : List Bool) (olds mids news : List Seen) → AreAsked marks (first_ranges a lost count) shares olds mids
    → AreAsked marks (block_ranges a lost count) shares mids news → AreAsked marks (first_ranges a lost (count + 1)) shares olds news
asked_stripe a lost count shares marks olds mids news so one =
    let P : List Range → Type 0 = λ l. AreAsked marks l shares olds news in
    subst P (ranges_more a lost count) (asked_then marks (first_ranges a lost count) (block_ranges a lost count) shares olds mids news so one)

-- ---- what is good

pub good_more : (a : AloofShape) (lost : ℕ) (marks : List Bool) (files : List (List ℕ)) (count : ℕ) → HaveGood a lost marks files count
    → ((c : ℕ) → c < all_chunks a → helps marks c ≡ true → HasGood a lost files count c) → HaveGood a lost marks files (count + 1)
good_more a lost marks files count so one i c less within help =
    below_more (λ k. HasGood a lost files k c) count (λ k before. so k c before within help) (one c within help) i less

pub names_stripe : (a : AloofShape) (lost : ℕ) (marks : List Bool) (files : List (List ℕ)) (stripe count : ℕ) (fault : MendFault) → stripe < count
    → HaveGood a lost marks files stripe → NamesFirstOf a lost marks files stripe fault → NamesFirst a lost marks files count fault
names_stripe a lost marks files stripe count (Rotten part) less so names =
    let same : stripe ≡ part.stripe = sym names.0 in record {
      within = subst (λ s. s < count) same less;
      helper = names.1;
      rotten = subst (λ s. ¬ HasGood a lost files s part.share) same names.2;
      stripes = subst (λ s. HaveGood a lost marks files s) same so;
      shares = subst (λ s. (c : ℕ) → c < part.share → helps marks c ≡ true → HasGood a lost files s c) same names.3;
    }
names_stripe a lost marks files stripe count ReadFault less so names = tt
names_stripe a lost marks files stripe count WriteFault less so names = tt
names_stripe a lost marks files stripe count OutOfMemory less so names = tt

-- a chunk that is mended stays so, whatever more is read
pub later : (a : AloofShape) (lost : ℕ) (marks : List Bool) (mids news : List Seen) (i : ℕ) (chunk : List ℕ) → ((files : List (List ℕ)) → Show news files → Show mids files)
    → IsMended a lost marks mids i chunk → IsMended a lost marks news i chunk
later a lost marks mids news i chunk back is = record {
  long = is.long;
  only = λ files word shows codeword of_word. is.only files word (back files shows) codeword of_word;
}

-- what holds of a code, a share and a number holds of equal ones
pub moved : (P : AloofShape → ℕ → ℕ → Type 0) (a b : AloofShape) (lost share n count : ℕ) → a ≡ b → lost ≡ share → n ≡ count → P a lost n → P b share count
moved P a b lost share n count shape same number h = subst (λ k. P b share k) number (subst (λ l. P b l n) same (subst (λ x. P x lost n) shape h))

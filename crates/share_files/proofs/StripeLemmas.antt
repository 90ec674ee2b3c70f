-- The blocks of a stripe, one for each share.
use Rattle.std.proofs.Common.{◌≡◌, ℕ, ◌<◌, List, [], length, get_or, Vec, Global, sym, subst, ◌∙◌, ap, arith}
use Rattle.std.proofs.lemmas.List as lists
use Rattle.std.proofs.lemmas.List.{length-map}
use Rattle.clay_model.specs.Chunks.{contents}
use Rattle.clay_aloof.specs.Shape.{AloofShape, all_chunks}
use Rattle.share_format.specs.Blocks.{block_of, block_length}
use Rattle.share_format.proofs.Lengths.{length_block}
use Rattle.share_format.specs.CutBlocks.{AreBlocks}
use Rattle.share_files.specs.Written.{GainsBlock, AreChanged, GainStripe}

module _ (a : AloofShape) (stripe : List ℕ) (vectors items : List (Vec ℕ Global)) (same : vectors ≡ items) (of_items : AreBlocks a stripe (contents items)) where
  abbrev blocks : List (List ℕ)
  blocks = contents vectors

  are : AreBlocks a stripe blocks
  are = let P : List (Vec ℕ Global) → Type 0 = λ vs. AreBlocks a stripe (contents vs) in subst P (sym same) of_items

  pub blocks_count : length vectors ≡ all_chunks a
  blocks_count =
      let bytes : Vec ℕ Global → List ℕ = λ v. v.items in
      sym (length-map vectors bytes) ∙ ap (λ l. length l) are.value ∙ length-map are.word (block_of a) ∙ are.codes.codeword.count

  block_is : (c : ℕ) → c < all_chunks a → get_or blocks c [] ≡ block_of a (get_or are.word c [])
  block_is c less =
      let count : length are.word ≡ all_chunks a = are.codes.codeword.count in
      ap (λ l. get_or l c []) are.value ∙ lists.get_or-map (block_of a) are.word c [] [] (omega (arith, less, count))

  pub block_size : (c : ℕ) → c < length vectors → length (get_or blocks c []) ≡ block_length a
  block_size c within =
      let count : length vectors ≡ all_chunks a = blocks_count in
      let less : c < all_chunks a = omega (arith, within, count) in
      ap (λ l. length l) (block_is c less) ∙ length_block a (get_or are.word c []) (are.codes.codeword.lengths c less)

  pub stripe_gained : (number : ℕ) (olds news : List (List ℕ)) → AreChanged (λ c. GainsBlock a number (get_or blocks c [])) (length vectors) olds news →
      GainStripe a number stripe olds news
  stripe_gained number olds news so = record {
    word = are.word;
    codes = are.codes;
    gain = λ c less.
        let count : length vectors ≡ all_chunks a = blocks_count in
        let P : List ℕ → Type 0 = λ block. GainsBlock a number block (get_or olds c []) (get_or news c []) in
        subst P (block_is c less) (so.changed c (omega (arith, less, count)));
  }

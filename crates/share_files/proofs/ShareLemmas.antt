-- The blocks of a share.
use Rattle.std.proofs.Common.{◌≡◌, ℕ, ◌<◌, List, [], length, get_or, sym, ap, subst, ◌∙◌}
use Rattle.clay_aloof.specs.Shape.{AloofShape}
use Rattle.share_format.specs.Blocks.{block_of, IsBlock}
use Rattle.share_format.specs.Shares.{chunks_at, IsShare}
use Rattle.share_format.proofs.Blocks.{block_in_share, are_chunks, count_chunks, chunk_of_word}
use Rattle.share_format.proofs.Intact.{block_kept}
use Rattle.share_files.specs.Found.{block_in}

module _ (a : AloofShape) (file bytes : List ℕ) (c : ℕ) (is : IsShare a file c bytes) (i : ℕ) (less : i < length is.words) where
  within : i < length (chunks_at c is.words)
  within = subst (λ n. i < n) (is.coded.count ∙ sym (count_chunks a file c is.words is.coded is.numbered)) less

  pub block_is : block_in a i bytes ≡ block_of a (get_or (get_or is.words i []) c [])
  block_is =
      ap (block_in a i) is.value
      ∙ block_in_share a file c (chunks_at c is.words) (are_chunks a file c is.words is.coded is.numbered) i within
      ∙ ap (block_of a) (chunk_of_word a file c is.words is.coded is.numbered i less)

  pub block_good : IsBlock a (block_in a i bytes)
  block_good =
      let P : List ℕ → Type 0 = λ l. IsBlock a l in
      subst P (sym block_is)
      (block_kept a (get_or (get_or is.words i []) c []) ((is.coded.codes i less).codeword.lengths c is.numbered))

-- What a mend writes is the share.
use Rattle.std.proofs.Common.{◌≡◌, ℕ, ◌<◌, List, [], length, get_or, sym, ap, subst, ◌∙◌}
use Rattle.std.proofs.lemmas.List as lists
use Rattle.std.proofs.lemmas.List.{ext_get_or, length-map}
use Rattle.clay_aloof.specs.Shape.{AloofShape, all_chunks}
use Rattle.share_format.specs.Cut.{AreCodewords}
use Rattle.share_format.specs.Shares.{share_with, chunks_at, IsShare}
use Rattle.share_format.specs.Mend.{AreMendedFrom}

mended_chunks : (a : AloofShape) (lost : ℕ) (words : List (List (List ℕ))) (chunks : List (List ℕ)) → AreMendedFrom a lost words chunks
    → chunks ≡ chunks_at lost words
mended_chunks a lost words chunks mended =
    let count : length (chunks_at lost words) ≡ length words = length-map words (λ word. get_or word lost []) in
    ext_get_or [] chunks (chunks_at lost words) (mended.count ∙ sym count) (λ i less.
    let within : i < length words = subst (λ n. i < n) mended.count less in
    let one = mended.each i within in
    one.rebuilt.only (get_or words i []) one.parts ∙ sym (lists.get_or-map (λ word. get_or word lost []) words i [] [] within))

pub mended_share : (a : AloofShape) (file : List ℕ) (lost : ℕ) (words : List (List (List ℕ))) (chunks : List (List ℕ)) → lost < all_chunks a
    → AreCodewords a file words → AreMendedFrom a lost words chunks → IsShare a file lost (share_with a file lost chunks)
mended_share a file lost words chunks numbered coded mended = record {
  words = words;
  coded = coded;
  numbered = numbered;
  value = ap (share_with a file lost) (mended_chunks a lost words chunks mended);
}

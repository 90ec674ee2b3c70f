-- A file has one share file of each number.
use Rattle.std.proofs.Common.{◌≡◌, ℕ, ◌<◌, List, [], get_or, sym, ap, ◌∙◌, subst}
use Rattle.std.proofs.lemmas.List.{ext_get_or}
use Rattle.clay_aloof.specs.Shape.{AloofShape}
use Rattle.clay_aloof.specs.Limits.{IsAloof}
use Rattle.clay_aloof.proofs.Unique.{same_of_stripe}
use Rattle.share_format.specs.Cut.{file_stripes, AreCodewords}
use Rattle.share_format.specs.Shares.{share_with, chunks_at, IsShare}

pub same_words : (a : AloofShape) (file : List ℕ) (words others : List (List (List ℕ))) → IsAloof a
    → AreCodewords a file words → AreCodewords a file others → words ≡ others
same_words a file words others aloof one two =
    ext_get_or [] words others (one.count ∙ sym two.count)
    (λ i less. same_of_stripe a (get_or (file_stripes a file) i []) (get_or words i []) (get_or others i []) aloof (one.codes i less)
    (two.codes i (subst (λ n. i < n) (one.count ∙ sym two.count) less)))

pub same_shares : (a : AloofShape) (file : List ℕ) (number : ℕ) (bytes others : List ℕ) → IsAloof a
    → IsShare a file number bytes → IsShare a file number others → bytes ≡ others
same_shares a file number bytes others aloof one two =
    one.value ∙ ap (λ words. share_with a file number (chunks_at number words)) (same_words a file one.words two.words aloof one.coded two.coded) ∙ sym two.value

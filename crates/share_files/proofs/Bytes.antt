-- The bytes of a file, a stripe at a time.
use Rattle.std.proofs.Common.{◌≡◌, ℕ, zero, suc, ◌+◌, ◌-◌, ◌*◌, ◌/◌, ◌%◌, ◌^◌, ◌<◌, ◌≤◌, List, [], ◌∷◌, ◌++◌, length, get_or, take, drop, replicate, Option, None, Some, Vec, Global, refl, sym, subst, ◌∙◌, ap, arith, inl, inr, append-nil}
use Rattle.std.specs.Prelude.{min}
use Rattle.std.proofs.lemmas.Bool.{cases_lt}
use Rattle.std.proofs.lemmas.List.{length-take, length-drop, take_all, take-take, take-append-le, take-append-drop, drop-drop, get_or_past}
use Rattle.std.proofs.lemmas.Nat.{mul-le, mod_below, div-add-mod'}
use Rattle.std.proofs.Math.Seq.{take-add}
use Rattle.clay_model.specs.Code.{padded, stripes_below}
use Rattle.clay_aloof.specs.Shape.{AloofShape, all_chunks, stripe_bytes}
use Rattle.share_format.specs.Cut.{stripe_count, file_stripes, AreCodewords}
use Rattle.share_format.specs.Blocks.{block_length}
use Rattle.share_format.specs.Shares.{block_start}
use Rattle.share_format.specs.Header.{Header, IsHeader}
use Rattle.share_format.proofs.HeaderBack.{stripe_some}
use Rattle.share_format.specs.Joined.{HasBlocks}
use Rattle.share_files.specs.Seen.{Seen, seen_of, failed_since, Show}
use Rattle.share_files.specs.Missed.{CountsAt}
use Rattle.share_files.proofs.CutLemmas.{places_fit}
use Rattle.share_files.specs.Joined.{NoRotIn, NoRotPasses}
use Rattle.share_files.specs.Stripes.{IsRead, AreBlocksOf, IsStripeOf, HasStripe, AreJoined}

-- ---- places

-- a stripe begins before the file's end
pub begins_within : (s size i : ℕ) → 1 ≤ s → i < (size + s - 1) / s → i * s < size
begins_within s size i some less =
    let whole : (size + s - 1) / s * s + (size + s - 1) % s ≡ size + s - 1 = div-add-mod' (size + s - 1) s in
    let more : (i + 1) * s ≤ (size + s - 1) / s * s = mul-le (i + 1) s ((size + s - 1) / s) s (omega (arith, less)) (omega arith) in
    let one : (i + 1) * s ≡ i * s + s = omega arith in
    omega (arith, whole, more, one, some)

place_fits : (h : Header) (i : ℕ) → IsHeader h → i < stripe_count h.shape h.size → block_start h.shape i + block_length h.shape < 2 ^ 64
place_fits h i is less =
    let begins : i * stripe_bytes h.shape < h.size = begins_within (stripe_bytes h.shape) h.size i (stripe_some h.shape is.code) less in
    places_fit h.shape i (i * stripe_bytes h.shape) is.code refl (omega (arith, begins, is.bounded))

-- the stripes reach the file's end
ends_within : (h : Header) → IsHeader h → h.size - stripe_count h.shape h.size * stripe_bytes h.shape ≡ 0
ends_within h is =
    let s : ℕ = stripe_bytes h.shape in
    let some : 1 ≤ s = stripe_some h.shape is.code in
    let whole : (h.size + s - 1) / s * s + (h.size + s - 1) % s ≡ h.size + s - 1 = div-add-mod' (h.size + s - 1) s in
    let rest : (h.size + s - 1) % s < s = mod_below (h.size + s - 1) s some in
    omega (arith, whole, rest, some)

pub none_left : (h : Header) (n left : ℕ) → left ≡ h.size - n * stripe_bytes h.shape → n ≡ stripe_count h.shape h.size → IsHeader h → left ≡ 0
none_left h n left is ended header = is ∙ ap (λ k. h.size - k * stripe_bytes h.shape) ended ∙ ends_within h header

-- what is left after one stripe more
pub left_less : (s size i left count : ℕ) → left ≡ size - i * s → count ≡ min left s → left - count ≡ size - (i + 1) * s
left_less s size i left count is most =
    let one : (i + 1) * s ≡ i * s + s = omega arith in
    omega (arith, is, most, one)

-- ---- a stripe of a file

stripe_at : (s n i : ℕ) (bytes : List ℕ) → i < n → get_or (stripes_below s n bytes) i [] ≡ padded s (take s (drop (i * s) bytes))
stripe_at s zero i bytes less = absurd (omega (arith, less))
stripe_at s (suc n) zero bytes less =
    let none : 0 ≡ 0 * s = omega arith in
    ap (λ k. padded s (take s (drop k bytes))) none
stripe_at s (suc n) (suc i) bytes less =
    let next : s + i * s ≡ suc i * s = omega arith in
    stripe_at s n i (drop s bytes) (omega (arith, less))
    ∙ ap (λ l. padded s (take s l)) (drop-drop (i * s) s bytes ∙ ap (λ k. drop k bytes) next)

-- its first bytes are the file's
stripe_front : (s at count : ℕ) (file : List ℕ) → count ≡ min (length file - at) s → take count (padded s (take s (drop at file))) ≡ take count (drop at file)
stripe_front s at count file most =
    let left : length (drop at file) ≡ length file - at = length-drop at file in
    let long : length (take s (drop at file)) ≡ min s (length (drop at file)) = length-take s (drop at file) in
    take-append-le count (take s (drop at file)) (replicate (s - length (take s (drop at file))) 0) (omega (arith, left, long, most))
    ∙ take-take count s (drop at file) (omega (arith, most))

-- as many bytes as there are
take_least : (s : ℕ) (xs : List ℕ) → take (min (length xs) s) xs ≡ take s xs
take_least s xs = elim (cases_lt (length xs) s) [
  | inl short ↦ take_all (min (length xs) s) xs (omega (arith, short)) ∙ sym (take_all s xs (omega (arith, short)))
  | inr long ↦ let most : min (length xs) s ≡ s = omega (arith, long) in ap (λ k. take k xs) most
]

-- ---- a stripe of a file whose rot is found

some_none : (block : Vec ℕ Global) → Some block ≡ None → ⊥
some_none block same = cc

-- the blocks of a stripe are those of a word, where what passes in the files is
pub blocks_have : (a : AloofShape) (i : ℕ) (Counts : ℕ → Type 0) (files word : List (List ℕ)) (olds news : List Seen) (blocks : List (Option (Vec ℕ Global))) →
    AreBlocksOf a i Counts files olds news blocks → NoRotIn a i files word → HasBlocks a blocks word
blocks_have a i Counts files word olds news blocks are no_rot c block there = elim (cases_lt c (all_chunks a)) [
  | inl less ↦
      let P : Option (Vec ℕ Global) → Type 0 = λ b. IsRead a i (Counts c) (get_or files c []) (failed_since (seen_of olds c) (seen_of news c)) b in
      let read = subst P there (are.read c less) in
      read.1 ∙ no_rot c less read.2
  | inr more ↦
      let none : get_or blocks c None ≡ None = get_or_past blocks c None (omega (arith, more, are.count)) in
      let same : Some block ≡ None = sym there ∙ none in absurd (some_none block same)
]

module _ (h : Header) (i : ℕ) (olds news : List Seen) (file : List ℕ) (words : List (List (List ℕ))) (files : List (List ℕ)) (size : length file ≡ h.size)
    (coded : AreCodewords h.shape file words) (within : i < length words) (no_rot : NoRotIn h.shape i files (get_or words i [])) where
  abbrev s : ℕ
  s = stripe_bytes h.shape

  stripe_is : (bytes : List ℕ) → IsStripeOf h.shape i files olds news bytes → bytes ≡ padded s (take s (drop (i * s) file))
  stripe_is bytes is =
      is.joined (get_or (file_stripes h.shape file) i []) (get_or words i []) (coded.codes i within)
      (blocks_have h.shape i (λ c. CountsAt h.shape files olds news c i) files (get_or words i []) olds news is.blocks is.are no_rot)
      ∙ stripe_at s (stripe_count h.shape (length file)) i file (subst (λ n. i < n) coded.count within)

  -- what was joined of it is the file's
  stripe_same : (bytes : List ℕ) → HasStripe h i files olds news bytes → take s (drop (i * s) bytes) ≡ take (min (h.size - i * s) s) (drop (i * s) file)
  stripe_same bytes has =
      let left : min (h.size - i * s) s ≡ min (length file - i * s) s = ap (λ n. min (n - i * s) s) (sym size) in
      has.part
      ∙ ap (take (min (h.size - i * s) s)) (stripe_is has.stripe has.of)
      ∙ stripe_front s (i * s) (min (h.size - i * s) s) file left

  pub stripe_right : (bytes : List ℕ) → HasStripe h i files olds news bytes → take s (drop (i * s) bytes) ≡ take s (drop (i * s) file)
  stripe_right bytes has =
      let left : length (drop (i * s) file) ≡ h.size - i * s = length-drop (i * s) file ∙ ap (λ n. n - i * s) size in
      stripe_same bytes has ∙ ap (λ n. take (min n s) (drop (i * s) file)) (sym left) ∙ take_least s (drop (i * s) file)

-- ---- stripes that agree

both_taken : (s size n total k : ℕ) (ys : List ℕ) → total ≡ min size (suc n * s) → k ≡ total - s → suc n * s ≡ s + n * s →
    take (min size s) ys ++ take k (drop s ys) ≡ take total ys
both_taken s size n total k ys long left next = elim (cases_lt size s) [
  | inl short ↦
      let none : k ≡ 0 = omega (arith, long, left, short) in
      let all : min size s ≡ total = omega (arith, long, next, short) in
      (λ j. take (all j) ys ++ take (none j) (drop s ys)) ∙ append-nil (take total ys)
  | inr wide ↦
      let one : min size s ≡ s = omega (arith, wide) in
      let sum : s + k ≡ total = omega (arith, long, left, next, wide) in
      ap (λ m. take m ys ++ take k (drop s ys)) one ∙ sym (take-add s k ys) ∙ ap (λ m. take m ys) sum
]

same_front : (s size n : ℕ) (xs ys : List ℕ) → length xs ≡ min size (n * s) →
    ((i : ℕ) → i < n → take s (drop (i * s) xs) ≡ take (min (size - i * s) s) (drop (i * s) ys)) → xs ≡ take (length xs) ys
same_front s size zero [] ys long same = refl
same_front s size zero (x ∷ xs) ys long same = let none : 0 * s ≡ 0 = omega arith in absurd (omega (arith, long, none))
same_front s size (suc n) xs ys long same =
    let next : suc n * s ≡ s + n * s = omega arith in
    let none : 0 * s ≡ 0 = omega arith in
    let all : min (size - 0 * s) s ≡ min size s = omega (arith, none) in
    let left : length (drop s xs) ≡ length xs - s = length-drop s xs in
    let first : take s xs ≡ take (min size s) ys =
    ap (λ k. take s (drop k xs)) (sym none) ∙ same 0 (omega arith) ∙ ap (λ k. take (min (size - 0 * s) s) (drop k ys)) none ∙ ap (λ k. take k ys) all in
    let later : drop s xs ≡ take (length (drop s xs)) (drop s ys) =
    same_front s (size - s) n (drop s xs) (drop s ys) (omega (arith, left, long, next)) (λ i less.
    let behind : suc i * s ≡ s + i * s = omega arith in
    let end : size - suc i * s ≡ size - s - i * s = omega (arith, behind) in
    ap (take s) (drop-drop (i * s) s xs ∙ ap (λ k. drop k xs) (sym behind))
    ∙ same (suc i) (omega (arith, less))
    ∙ ap (λ k. take (min k s) (drop (suc i * s) ys)) end
    ∙ ap (take (min (size - s - i * s) s)) (ap (λ k. drop k ys) behind ∙ sym (drop-drop (i * s) s ys))) in
    sym (take-append-drop s xs) ∙ (λ j. first j ++ later j) ∙ both_taken s size n (length xs) (length (drop s xs)) ys long left next

-- the first stripes that were joined are those of the file
pub joined_same : (h : Header) (count : ℕ) (olds news : List Seen) (bytes file : List ℕ) (files : List (List ℕ)) → count ≤ stripe_count h.shape h.size →
    AreJoined h count olds news bytes → Show news files → NoRotPasses h file files → bytes ≡ take (length bytes) file
joined_same h count olds news bytes file files few joined shows pass =
    same_front (stripe_bytes h.shape) h.size count bytes file joined.size (λ i less.
    let all : length pass.words ≡ stripe_count h.shape h.size = pass.coded.count ∙ ap (stripe_count h.shape) pass.size in
    let within : i < length pass.words = omega (arith, less, few, all) in
    stripe_same h i olds news file pass.words files pass.size pass.coded within (pass.blocks i within) bytes (joined.stripes files shows i less))

-- and all of them the file
pub joined_file : (h : Header) (olds news : List Seen) (bytes file : List ℕ) (files : List (List ℕ)) → length bytes ≡ h.size →
    AreJoined h (stripe_count h.shape h.size) olds news bytes → Show news files → NoRotPasses h file files → bytes ≡ file
joined_file h olds news bytes file files long joined shows pass =
    let size : length file ≡ h.size = pass.size in
    joined_same h (stripe_count h.shape h.size) olds news bytes file files (omega arith) joined shows pass ∙ take_all (length bytes) file (omega (arith, long, size))

-- ---- the code is the header's

pub place_of : (geometry : AloofShape) (h : Header) (i : ℕ) → geometry ≡ h.shape → IsHeader h → i < stripe_count h.shape h.size →
    block_start geometry i + block_length geometry < 2 ^ 64
place_of geometry h i same is less =
    let P : AloofShape → Type 0 = λ a. block_start a i + block_length a < 2 ^ 64 in subst P (sym same) (place_fits h i is less)

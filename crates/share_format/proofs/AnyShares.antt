-- As many shares as there are data chunks determine the file.
use Rattle.std.proofs.Common.{◌≡◌, ℕ, zero, suc, ◌+◌, ◌-◌, ◌*◌, ◌/◌, ◌%◌, ◌^◌, ◌<◌, ◌≤◌, Bool, false, cond, List, [], ◌++◌, length, get_or, take, drop, map, replicate, refl, sym, ap, subst, ◌∙◌, inl, inr, arith}
use Rattle.std.proofs.lemmas.Bool.{cases_Bool}
use Rattle.std.proofs.lemmas.List as lists
use Rattle.std.proofs.lemmas.List.{ext_get_or, length-map}
use Rattle.std.proofs.lemmas.Nat.{mod_below, div-add-mod'}
use Rattle.std.specs.List.{concat}
use Rattle.byteorder.specs.Endian.{little_number}
use Rattle.clay_grid.specs.Score.{count_below}
use Rattle.clay_model.proofs.Stripes.{length-stripes_below, concat-stripes_below}
use Rattle.clay_aloof.specs.Shape.{AloofShape, all_chunks, stripe_bytes}
use Rattle.clay_aloof.specs.Limits.{IsAloof}
use Rattle.clay_aloof.proofs.Unique.{same_codewords}
use Rattle.share_format.specs.Cut.{stripe_count, file_stripes, AreCodewords}
use Rattle.share_format.specs.Blocks.{block_length, chunk_start}
use Rattle.share_format.specs.Shares.{block_start, share_with, chunks_at, HaveEqualShare}
use Rattle.share_format.proofs.Rows.{take_front}
use Rattle.share_format.proofs.HeaderBack.{stripe_some}
use Rattle.share_format.proofs.Determined.{same_words}
use Rattle.share_format.proofs.Blocks.{chunk_of_share, size_in_share, chunk_of_word}

-- ---- the file of its codewords

abbrev pub stripe_in : AloofShape → List (List ℕ) → List ℕ
stripe_in a word = concat (take a.data_count word)

enough : (n unit : ℕ) → 1 ≤ unit → n ≤ (n + unit - 1) / unit * unit
enough n unit some =
    let whole : (n + unit - 1) / unit * unit + (n + unit - 1) % unit ≡ n + unit - 1 = div-add-mod' (n + unit - 1) unit in
    let rest : (n + unit - 1) % unit < unit = mod_below (n + unit - 1) unit some in
    omega (arith, whole, rest, some)

pub file_of_words : (a : AloofShape) (file : List ℕ) (words : List (List (List ℕ))) → IsAloof a → AreCodewords a file words
    → take (length file) (concat (map (stripe_in a) words)) ≡ file
file_of_words a file words aloof coded =
    let s : ℕ = stripe_bytes a in
    let n : ℕ = stripe_count a (length file) in
    let stripes : map (stripe_in a) words ≡ file_stripes a file =
    ext_get_or [] (map (stripe_in a) words) (file_stripes a file) (length-map words (stripe_in a) ∙ coded.count ∙ sym (length-stripes_below s n file))
    (λ i less.
    let within : i < length words = subst (λ k. i < k) (length-map words (stripe_in a)) less in
    lists.get_or-map (stripe_in a) words i [] [] within ∙ (coded.codes i within).joined) in
    let whole : concat (map (stripe_in a) words) ≡ file ++ replicate (n * s - length file) 0 =
    ap concat stripes ∙ concat-stripes_below s n file (enough (length file) s (stripe_some a aloof)) in
    ap (take (length file)) whole ∙ take_front (length file) file (replicate (n * s - length file) 0) refl

-- ---- a share that isn't erased

fewer : (count one n : ℕ) → one ≡ 1 → count + one < suc n → count < n
fewer count one n is less = omega (arith, is, less)

pub one_kept : (n : ℕ) (erased : ℕ → Bool) → count_below n erased < n → (c : ℕ) × (c < n) × (erased c ≡ false)
one_kept zero erased less = absurd (omega (arith, less))
one_kept (suc n) erased less = elim (cases_Bool (erased n)) [
  | inl gone ↦
      let rest = one_kept n erased (fewer (count_below n erased) (cond (erased n) 1 0) n (ap (λ b. cond b 1 0) gone) less) in
      (rest.0, omega (arith, rest.1), rest.2)
  | inr kept ↦ (n, omega arith, kept)
]

-- ---- two files with equal shares

module _ (a : AloofShape) (erased : ℕ → Bool) (file other : List ℕ) (aloof : IsAloof a) (few : count_below (all_chunks a) erased ≤ a.parity_count)
    (fits : length file ≤ 2 ^ 56) (other_fits : length other ≤ 2 ^ 56)
    (same : (c : ℕ) → c < all_chunks a → erased c ≡ false → HaveEqualShare a file other c) where
  some : (c : ℕ) × (c < all_chunks a) × (erased c ≡ false)
  some =
      let lost : count_below (a.data_count + a.parity_count) erased ≤ a.parity_count = few in
      let two : 2 ≤ a.data_count = aloof.limits.data_chunks in
      one_kept (a.data_count + a.parity_count) erased (omega (arith, lost, two))

  first : HaveEqualShare a file other some.0
  first = same some.0 some.1 some.2

  sizes : length file ≡ length other
  sizes =
      sym (size_in_share a file some.0 (chunks_at some.0 first.one.words) fits)
      ∙ ap (λ bytes. little_number 8 (drop 32 bytes)) (sym first.one.value ∙ first.two.value)
      ∙ size_in_share a other some.0 (chunks_at some.0 first.two.words) other_fits

  counts : length first.one.words ≡ length first.two.words
  counts = first.one.coded.count ∙ ap (stripe_count a) sizes ∙ sym first.two.coded.count

  same_chunk : (i c : ℕ) → i < length first.one.words → i < length first.two.words → c < all_chunks a → erased c ≡ false
      → get_or (get_or first.one.words i []) c [] ≡ get_or (get_or first.two.words i []) c []
  same_chunk i c less other_less within kept =
      let have : HaveEqualShare a file other c = same c within kept in
      let mine : have.one.words ≡ first.one.words = same_words a file have.one.words first.one.words aloof have.one.coded first.one.coded in
      let its : have.two.words ≡ first.two.words = same_words a other have.two.words first.two.words aloof have.two.coded first.two.coded in
      let value : share_with a file c (chunks_at c first.one.words) ≡ share_with a other c (chunks_at c first.two.words) =
      ap (λ w. share_with a file c (chunks_at c w)) (sym mine) ∙ sym have.one.value ∙ have.two.value ∙ ap (λ w. share_with a other c (chunks_at c w)) its in
      sym (chunk_of_word a file c first.one.words first.one.coded within i less)
      ∙ sym (chunk_of_share a file c first.one.words first.one.coded within i less)
      ∙ ap (λ bytes. drop (chunk_start a) (take (block_length a) (drop (block_start a i) bytes))) value
      ∙ chunk_of_share a other c first.two.words first.two.coded within i other_less
      ∙ chunk_of_word a other c first.two.words first.two.coded within i other_less

  same_all : first.one.words ≡ first.two.words
  same_all =
      ext_get_or [] first.one.words first.two.words counts (λ i less.
      let other_less : i < length first.two.words = subst (λ n. i < n) counts less in
      same_codewords a erased (get_or first.one.words i []) (get_or first.two.words i []) aloof (first.one.coded.codes i less).codeword
      (first.two.coded.codes i other_less).codeword
      (record { few = few; same = λ c within kept. same_chunk i c less other_less within kept }))

  pub same_files : file ≡ other
  same_files =
      sym (file_of_words a file first.one.words aloof first.one.coded)
      ∙ (λ i. take (sizes i) (concat (map (stripe_in a) (same_all i))))
      ∙ file_of_words a other first.two.words aloof first.two.coded

-- A file cut so far, and what one more stripe adds.
use Rattle.std.proofs.Common.{◌≡◌, ◌≢◌, ℕ, zero, suc, ◌+◌, ◌-◌, ◌*◌, ◌/◌, ◌%◌, ◌^◌, ◌<◌, ◌≤◌, Option, Bool, true, false, nat_eq, List, [], ◌∷◌, ◌++◌, length, get_or, take, drop, refl, sym, subst, ◌∙◌, ap, arith, inl, inr, append-nil, length-append}
use Rattle.std.proofs.lemmas.List as lists
use Rattle.std.proofs.lemmas.List.{length-map, get_or_append_left, get_or-append_right, length-take-le, take_all, drop_all}
use Rattle.std.proofs.lemmas.Bool.{cases_lt, eqb-true}
use Rattle.std.specs.Prelude.{if◌then◌else◌}
use Rattle.std.proofs.lemmas.Nat.{mul-le, div-mul-add, div-add-mod'}
use Rattle.crc64.specs.Remainder.{checksum_of}
use Rattle.clay_bytes.specs.Stream.{HandsOut, IsSpent}
use Rattle.clay_bytes.proofs.StreamLemmas.{and-more, gives-then, hands-nothing}
use Rattle.clay_grid.specs.Shape.{layer_count, chunk_length}
use Rattle.clay_model.specs.Code.{padded, stripes_below}
use Rattle.clay_model.proofs.Stripes.{length-stripes_below}
use Rattle.clay_aloof.specs.Shape.{AloofShape, all_chunks, grid_of, stripe_bytes}
use Rattle.clay_aloof.specs.Limits.{IsAloof}
use Rattle.clay_aloof.specs.Code.{Codes}
use Rattle.share_format.specs.Cut.{stripe_count, file_stripes, AreCodewords}
use Rattle.share_format.specs.Blocks.{page_of, rounded, chunk_start, block_length}
use Rattle.share_format.specs.Shares.{chunks_at, block_start}
use Rattle.share_format.proofs.HeaderBack.{stripe_some}
use Rattle.share_files.specs.Written.{HasBlocks, GainsHeader, AreChanged, GainStripe}
use Rattle.share_files.specs.Cut.{AreBegun, GoOn, AreCutSoFar, AreCut, HandsOutTooMuch}

-- ---- stripes

-- a further stripe, behind whole ones
stripes_more : (s n : ℕ) (done piece : List ℕ) → length done ≡ n * s → length piece ≤ s →
    stripes_below s (suc n) (done ++ piece) ≡ stripes_below s n done ++ padded s piece ∷ []
stripes_more s zero done piece whole few =
    let empty : length done ≤ 0 = omega (arith, whole) in
    let none : done ≡ [] = sym (take_all 0 done empty) in
    ap (λ l. padded s (take s (l ++ piece)) ∷ []) none ∙ ap (λ l. padded s l ∷ []) (take_all s piece few)
stripes_more s (suc n) done piece whole few =
    let product : suc n * s ≡ s + n * s = omega arith in
    let first : s ≤ length done = omega (arith, whole, product) in
    let rest : length (drop s done) ≡ n * s = lists.length-drop s done ∙ omega (arith, whole, product) in
    let one : take s (done ++ piece) ≡ take s done = lists.take-append-le s done piece first in
    let others : drop s (done ++ piece) ≡ drop s done ++ piece = lists.drop-append-le s done piece first in
    (λ i. padded s (one i) ∷ stripes_below s (suc n) (others i))
    ∙ ap (λ l. padded s (take s done) ∷ l) (stripes_more s n (drop s done) piece rest few)

count_whole : (s n : ℕ) → 1 ≤ s → (n * s + s - 1) / s ≡ n
count_whole s n some =
    let e : n * s + s - 1 ≡ n * s + (s - 1) = omega (arith, some) in
    ap (λ k. k / s) e ∙ div-mul-add n s (s - 1) (omega (arith, some))

count_more : (s n few : ℕ) → 1 ≤ s → 1 ≤ few → few ≤ s → (n * s + few + s - 1) / s ≡ suc n
count_more s n few some one most =
    let product : (n + 1) * s ≡ n * s + s = omega arith in
    let e : n * s + few + s - 1 ≡ (n + 1) * s + (few - 1) = omega (arith, some, one, product) in
    let next : n + 1 ≡ suc n = omega arith in
    ap (λ k. k / s) e ∙ div-mul-add (n + 1) s (few - 1) (omega (arith, one, most)) ∙ next

-- ---- the places of blocks

-- so many stripes are fewer than the bytes in them
pub few_stripes : (a : AloofShape) (number size : ℕ) → IsAloof a → size ≡ number * stripe_bytes a → number ≤ size
few_stripes a number size aloof is =
    let more : number * 1 ≤ number * stripe_bytes a = mul-le number 1 number (stripe_bytes a) (omega arith) (stripe_some a aloof) in
    omega (arith, more, is)

-- one whole stripe more
pub whole_more : (a : AloofShape) (number size count : ℕ) → size ≡ number * stripe_bytes a → count ≡ stripe_bytes a → size + count ≡ (number + 1) * stripe_bytes a
whole_more a number size count is one =
    let product : (number + 1) * stripe_bytes a ≡ number * stripe_bytes a + stripe_bytes a = omega arith in
    omega (arith, is, one, product)

page_width : (a : AloofShape) → 1 ≤ a.width → page_of a ≤ a.width
page_width a some = either (nat_eq (a.width % 4096) 0) refl
  where
    either : (whole : Bool) → nat_eq (a.width % 4096) 0 ≡ whole → (if whole then 4096 else 1) ≤ a.width
    either true e =
        let none : a.width % 4096 ≡ 0 = eqb-true (a.width % 4096) 0 e in
        let units : a.width / 4096 * 4096 + a.width % 4096 ≡ a.width = div-add-mod' a.width 4096 in
        omega (arith, none, units, some)
    either false e = some

rounded_most : (unit size : ℕ) → 1 ≤ unit → rounded unit size < size + unit
rounded_most unit size some =
    let whole : (size + unit - 1) / unit * unit + (size + unit - 1) % unit ≡ size + unit - 1 = div-add-mod' (size + unit - 1) unit in
    omega (arith, whole, some)

page_few : (a : AloofShape) → (1 ≤ page_of a) × (page_of a ≤ 4096)
page_few a = either (nat_eq (a.width % 4096) 0)
  where
    either : (whole : Bool) → (1 ≤ (if whole then 4096 else 1)) × ((if whole then 4096 else 1) ≤ 4096)
    either true = (omega arith, omega arith)
    either false = (omega arith, omega arith)

-- a block has at most ten times its chunk's bytes
block_few : (a : AloofShape) → IsAloof a → block_length a ≤ 10 * chunk_length (grid_of a)
block_few a aloof =
    let layers : ℕ = layer_count (grid_of a) in
    let wide : 1 ≤ a.width = aloof.limits.width.0 in
    let one : a.data_count < a.helper_count = aloof.limits.helpers.0 in
    let rows : a.helper_count + 1 - a.data_count ≤ layers = aloof.grid.some_layers in
    let some : 1 ≤ layers = omega (arith, rows, one) in
    let long : layers * 1 ≤ layers * a.width = mul-le layers 1 layers a.width (omega arith) wide in
    let high : 1 * a.width ≤ layers * a.width = mul-le 1 a.width layers a.width some (omega arith) in
    let page : page_of a ≤ a.width = page_width a wide in
    let start : chunk_start a < 8 * layers + page_of a = rounded_most (page_of a) (8 * layers) (page_few a).0 in
    omega (arith, long, high, page, start)

pub places_low : (a : AloofShape) (number size : ℕ) → IsAloof a → size ≡ number * stripe_bytes a → size ≤ 2 ^ 56 →
    block_start a number + block_length a < 2 ^ 60
places_low a number size aloof is bounded =
    let chunk : ℕ = chunk_length (grid_of a) in
    let few : block_length a ≤ 10 * chunk = block_few a aloof in
    let small : chunk ≤ 1048576 = aloof.limits.chunk in
    let two : 2 * chunk ≤ a.data_count * chunk = mul-le 2 chunk a.data_count chunk aloof.limits.data_chunks (omega arith) in
    let most : block_length a ≤ 5 * stripe_bytes a = omega (arith, few, two) in
    let blocks : number * block_length a ≤ number * (5 * stripe_bytes a) = mul-le number (block_length a) number (5 * stripe_bytes a) (omega arith) most in
    let five : number * (5 * stripe_bytes a) ≡ 5 * (number * stripe_bytes a) = omega arith in
    let header : rounded (page_of a) 64 < 64 + page_of a = rounded_most (page_of a) 64 (page_few a).0 in
    omega (arith, few, small, blocks, five, header, (page_few a).1, is, bounded)

pub places_fit : (a : AloofShape) (number size : ℕ) → IsAloof a → size ≡ number * stripe_bytes a → size ≤ 2 ^ 56 →
    block_start a number + block_length a < 2 ^ 64
places_fit a number size aloof is bounded =
    let low : block_start a number + block_length a < 2 ^ 60 = places_low a number size aloof is bounded in omega (arith, low)

-- ---- the files

codes_more : (a : AloofShape) (stripes : List (List ℕ)) (words : List (List (List ℕ))) (last : List ℕ) (word : List (List ℕ)) →
    length stripes ≡ length words → ((i : ℕ) → i < length words → Codes a (get_or stripes i []) (get_or words i [])) → Codes a last word →
    (i : ℕ) → i < length words + 1 → Codes a (get_or (stripes ++ last ∷ []) i []) (get_or (words ++ word ∷ []) i [])
codes_more a stripes words last word count codes also i less =
    elim (cases_lt i (length words)) [
      | inl before ↦
          let front : get_or (stripes ++ last ∷ []) i [] ≡ get_or stripes i [] = get_or_append_left stripes (last ∷ []) [] i (omega (arith, before, count)) in
          let first : get_or (words ++ word ∷ []) i [] ≡ get_or words i [] = get_or_append_left words (word ∷ []) [] i before in
          let A : List ℕ → Type 0 = λ l. Codes a l (get_or words i []) in
          let B : List (List ℕ) → Type 0 = λ w. Codes a (get_or (stripes ++ last ∷ []) i []) w in
          subst B (sym first) (subst A (sym front) (codes i before))
      | inr after ↦
          let place : i - length words ≡ 0 = omega (arith, less, after) in
          let back : get_or (stripes ++ last ∷ []) i [] ≡ last =
          get_or-append_right stripes (last ∷ []) (length words) i [] count after ∙ ap (λ k. get_or (last ∷ []) k []) place in
          let second : get_or (words ++ word ∷ []) i [] ≡ word =
          get_or-append_right words (word ∷ []) (length words) i [] refl after ∙ ap (λ k. get_or (word ∷ []) k []) place in
          let A : List ℕ → Type 0 = λ l. Codes a l word in
          let B : List (List ℕ) → Type 0 = λ w. Codes a (get_or (stripes ++ last ∷ []) i []) w in
          subst B (sym second) (subst A (sym back) also)
    ]

module _ (a : AloofShape) (number size : ℕ) (piece stripe : List ℕ) (olds news : List (List ℕ)) (aloof : IsAloof a) (whole : size ≡ number * stripe_bytes a)
    (some : 1 ≤ length piece) (few : length piece ≤ stripe_bytes a) (filled : stripe ≡ padded (stripe_bytes a) piece)
    (gains : GainStripe a number stripe olds news) (done : List ℕ) (counted : length done ≡ size) (begun : AreBegun a done olds) where
  abbrev words : List (List (List ℕ))
  words = begun.words ++ gains.word ∷ []

  number_is : stripe_count a (length done) ≡ number
  number_is = ap (λ n. (n + stripe_bytes a - 1) / stripe_bytes a) (counted ∙ whole) ∙ count_whole (stripe_bytes a) number (stripe_some a aloof)

  before : length begun.words ≡ number
  before = begun.coded.count ∙ number_is

  next_is : stripe_count a (length (done ++ piece)) ≡ suc number
  next_is =
      let sum : length (done ++ piece) ≡ number * stripe_bytes a + length piece = length-append done piece ∙ ap (λ n. n + length piece) (counted ∙ whole) in
      ap (λ n. (n + stripe_bytes a - 1) / stripe_bytes a) sum ∙ count_more (stripe_bytes a) number (length piece) (stripe_some a aloof) some few

  stripes_are : file_stripes a (done ++ piece) ≡ file_stripes a done ++ stripe ∷ []
  stripes_are =
      ap (λ n. stripes_below (stripe_bytes a) n (done ++ piece)) next_is
      ∙ stripes_more (stripe_bytes a) number done piece (counted ∙ whole) few
      ∙ (λ i. stripes_below (stripe_bytes a) (sym number_is i) done ++ sym filled i ∷ [])

  one_more : length words ≡ suc number
  one_more = let next : number + 1 ≡ suc number = omega arith in length-append begun.words (gains.word ∷ []) ∙ ap (λ n. n + 1) before ∙ next

  coded : AreCodewords a (done ++ piece) words
  coded = record {
    count = one_more ∙ sym next_is;
    codes = λ i less.
        let C : List (List ℕ) → Type 0 = λ l. Codes a (get_or l i []) (get_or words i []) in
        subst C (sym stripes_are)
        (codes_more a (file_stripes a done) begun.words stripe gains.word
        (length-stripes_below (stripe_bytes a) (stripe_count a (length done)) done ∙ sym begun.coded.count)
        begun.coded.codes gains.codes i (omega (arith, less, one_more, before)));
  }

  blocks : (c : ℕ) → c < all_chunks a → HasBlocks a (chunks_at c words) (get_or news c [])
  blocks c less =
      let H : List (List ℕ) → Type 0 = λ l. HasBlocks a l (get_or news c []) in
      subst H (sym (lists.map-append (λ word. get_or word c []) begun.words (gains.word ∷ [])))
      ((gains.gain c less).behind (chunks_at c begun.words) (get_or gains.word c []) refl (gains.codes.codeword.lengths c less)
      (length-map begun.words (λ word. get_or word c []) ∙ before) (begun.blocks c less))

  begun_more : AreBegun a (done ++ piece) news
  begun_more = record { words = words; coded = coded; blocks = blocks }

-- the stripe's blocks are there too
pub goes_on : (a : AloofShape) (number size : ℕ) (piece stripe : List ℕ) (olds news : List (List ℕ)) → IsAloof a → size ≡ number * stripe_bytes a →
    1 ≤ length piece → length piece ≤ stripe_bytes a → stripe ≡ padded (stripe_bytes a) piece → GainStripe a number stripe olds news → GoOn a piece size olds news
goes_on a number size piece stripe olds news aloof whole some few filled gains = record {
  on = λ done counted begun. begun_more a number size piece stripe olds news aloof whole some few filled gains done counted begun;
}

-- the same of a stripe's front
pub front_goes_on : (a : AloofShape) (number size n : ℕ) (stripe : List ℕ) (olds news : List (List ℕ)) → IsAloof a → size ≡ number * stripe_bytes a →
    n ≢ 0 → n ≤ length stripe → length stripe ≡ stripe_bytes a → stripe ≡ padded (length stripe) (take n stripe) → GainStripe a number stripe olds news →
    GoOn a (take n stripe) size olds news
front_goes_on a number size n stripe olds news aloof whole some within long filled gains =
    let count : length (take n stripe) ≡ n = length-take-le n stripe within in
    goes_on a number size (take n stripe) stripe olds news aloof whole (omega (arith, count, some)) (omega (arith, count, within, long))
    (filled ∙ ap (λ k. padded k (take n stripe)) long) gains

-- without bytes nothing changes
pub stays : (a : AloofShape) (size n : ℕ) (bytes : List ℕ) (files : List (List ℕ)) → n ≡ 0 → GoOn a (take n bytes) size files files
stays a size n bytes files none = record {
  on = λ done counted begun.
      let P : List ℕ → Type 0 = λ l. AreBegun a l files in
      subst P (sym (ap (λ k. done ++ take k bytes) none ∙ append-nil done)) begun;
}

-- ---- all of it

-- before the first byte
pub cut_none : (a : AloofShape) (given : List ℕ) (left : Option (List ℕ)) (checksum : ℕ) (files : List (List ℕ)) → IsAloof a → checksum ≡ checksum_of [] →
    ((c : ℕ) → get_or files c [] ≡ []) → AreCutSoFar a given left given left 0 checksum files
cut_none a given left checksum files aloof summed empty =
    let one : 1 ≤ stripe_bytes a = stripe_some a aloof in
    let e : 0 + stripe_bytes a - 1 ≡ 0 * stripe_bytes a + (stripe_bytes a - 1) = omega (arith, one) in
    let none : stripe_count a 0 ≡ 0 = ap (λ k. k / stripe_bytes a) e ∙ div-mul-add 0 (stripe_bytes a) (stripe_bytes a - 1) (omega (arith, one)) in
    let nothing : 0 ≡ 0 * block_length a = omega arith in record {
      done = [];
      handed = hands-nothing given left;
      counted = refl;
      summed = summed;
      begun = record {
        words = [];
        coded = record { count = sym none; codes = λ i less. absurd (omega (arith, less)) };
        blocks = λ c less. record {
          size = nothing;
          blocks = ap (λ l. drop (rounded (page_of a) 64) l) (empty c) ∙ drop_all (rounded (page_of a) 64) [] (omega arith);
        };
      };
    }

module _ (a : AloofShape) (given : List ℕ) (left : Option (List ℕ)) (mid : List ℕ) (middle : Option (List ℕ)) (size checksum : ℕ) (olds : List (List ℕ))
    (so : AreCutSoFar a given left mid middle size checksum olds) (now : List ℕ) (rest : Option (List ℕ)) where
  -- one piece more
  pub cut_more : (piece : List ℕ) (n sum : ℕ) (news : List (List ℕ)) → length piece ≡ n → HandsOut mid middle piece now rest → GoOn a piece size olds news →
      ((bytes : List ℕ) → checksum ≡ checksum_of bytes → sum ≡ checksum_of (bytes ++ piece)) → AreCutSoFar a given left now rest (size + n) sum news
  cut_more piece n sum news long handed goes extended = record {
    done = so.done ++ piece;
    handed = (
      and-more given mid now so.done piece (so.done ++ piece) so.handed.0 handed.0 refl,
      gives-then left middle rest so.done piece (so.done ++ piece) so.handed.1 handed.1 refl,
    );
    counted = length-append so.done piece ∙ (λ i. so.counted i + long i);
    summed = extended so.done so.summed;
    begun = goes.on so.done so.counted so.begun;
  }

  -- too much
  pub cut_long : HandsOutTooMuch mid middle size now rest → HandsOutTooMuch given left 0 now rest
  cut_long much = record {
    got = so.done ++ much.got;
    handed = (
      and-more given mid now so.done much.got (so.done ++ much.got) so.handed.0 much.handed.0 refl,
      gives-then left middle rest so.done much.got (so.done ++ much.got) so.handed.1 much.handed.1 refl,
    );
    long = omega (arith, length-append so.done much.got, so.counted, much.long);
  }

-- the headers too
pub cut_whole : (a : AloofShape) (given : List ℕ) (left : Option (List ℕ)) (now : List ℕ) (rest : Option (List ℕ)) (size checksum : ℕ) (ended : Bool)
    (olds news : List (List ℕ)) → AreCutSoFar a given left now rest size checksum olds → size ≤ 2 ^ 56 → ended ≡ true → IsSpent rest →
    AreChanged (λ c. GainsHeader a size checksum c) (all_chunks a) olds news → AreCut a given left now rest ended news
cut_whole a given left now rest size checksum ended olds news so fits end spent headers = record {
  file = so.done;
  bounded = omega (arith, so.counted, fits);
  handed = so.handed;
  end = end;
  spent = spent;
  shares = λ c less. record {
    words = so.begun.words;
    coded = so.begun.coded;
    numbered = less;
    value = (headers.changed c less).whole so.done (chunks_at c so.begun.words) so.counted (sym so.summed) (so.begun.blocks c less);
  };
}

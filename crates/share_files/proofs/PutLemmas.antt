-- What is put into a share's file, block by block and the header at last.
use Rattle.std.proofs.Common.{◌≡◌, ℕ, ◌+◌, ◌-◌, ◌*◌, ◌<◌, List, [], ◌∷◌, ◌++◌, length, get_or, take, replicate, refl, sym, subst, ◌∙◌, ap, inl, inr, arith, append-nil, append_assoc, length-append, below_more}
use Rattle.std.specs.List.{flat_map}
use Rattle.std.proofs.Math.Seq.{take-append-add}
use Rattle.std.proofs.lemmas.List.{ext_get_or, take_all, length_push, get_or_push, get_or_append_left, length-map}
use Rattle.std.proofs.lemmas.List.Concat.{flat_map-append}
use Rattle.crc64.specs.Remainder.{checksum_of}
use Rattle.file_bytes.specs.Places.{Placed, placed_from}
use Rattle.file_bytes.specs.Laid.{PutsFewer}
use Rattle.file_bytes.proofs.PlaceLemmas.{and_more}
use Rattle.file_bytes.proofs.LaidLemmas.{laid_both}
use Rattle.clay_aloof.specs.Shape.{AloofShape, all_chunks}
use Rattle.share_format.specs.Cut.{stripe_count, AreCodewords}
use Rattle.share_format.specs.Blocks.{page_of, rounded, aligned, block_of, block_length}
use Rattle.share_format.specs.Header.{Header, header_with, header_bytes}
use Rattle.share_format.specs.Shares.{block_start, chunks_at, IsShare}
use Rattle.share_format.proofs.Blocks.{chunk_of_word}
use Rattle.share_format.proofs.Lengths.{length_aligned, length_header, length_block}
use Rattle.share_files.specs.Put.{PutsBlock, PutsAtMost, PutsBlocks, PutsSome, PutsPart, HasChunks, PutsFile, PutsShare}

-- ---- blocks

pub puts_none : (a : AloofShape) (Is : ℕ → List ℕ → Type 0) (put : List Placed) → PutsBlocks a Is 0 put put
puts_none a Is put = record {
  chunks = [];
  number = refl;
  are = λ i less. absurd (omega (arith, less));
  size = omega arith;
  puts = sym (append-nil put);
}

module _ (a : AloofShape) (Was Is : ℕ → List ℕ → Type 0) (count : ℕ) (old mid now : List Placed) (later : (i : ℕ) → i < count → (chunk : List ℕ) → Was i chunk → Is i chunk)
    (so : PutsBlocks a Was count old mid) where
  abbrev flat : List ℕ
  flat = flat_map (block_of a) so.chunks

  more_are : (chunk : List ℕ) → Is count chunk → (i : ℕ) → i < length (so.chunks ++ chunk ∷ []) → Is i (get_or (so.chunks ++ chunk ∷ []) i [])
  more_are chunk is i less =
      let size : length (so.chunks ++ chunk ∷ []) ≡ count + 1 = length_push so.chunks chunk ∙ ap (λ n. n + 1) so.number in
      below_more (λ k. Is k (get_or (so.chunks ++ chunk ∷ []) k [])) count
      (λ k before.
      let within : k < length so.chunks = omega (arith, so.number, before) in
      subst (Is k) (sym (get_or_append_left so.chunks (chunk ∷ []) [] k within)) (later k before (get_or so.chunks k []) (so.are k within)))
      (subst (Is count) (sym (get_or_push so.chunks chunk [] count so.number)) is)
      i (omega (arith, less, size))

  both : (chunk : List ℕ) → flat_map (block_of a) (so.chunks ++ chunk ∷ []) ≡ flat ++ block_of a chunk
  both chunk = flat_map-append (block_of a) so.chunks (chunk ∷ []) ∙ ap (λ l. flat ++ l) (append-nil (block_of a chunk))

  -- bytes put in the next block's place stand behind the others
  behind : (bytes : List ℕ) → now ≡ mid ++ placed_from (block_start a count) bytes → now ≡ old ++ placed_from (block_start a 0) (flat ++ bytes)
  behind bytes is =
      let none : 0 * block_length a ≡ 0 = omega arith in
      let here : block_start a count ≡ block_start a 0 + length flat = omega (arith, so.size, none) in
      and_more old mid now (block_start a 0) flat bytes (flat ++ bytes) so.puts (is ∙ ap (λ n. mid ++ placed_from n bytes) here) refl

  pub puts_more : PutsBlock a Is count mid now → PutsBlocks a Is (count + 1) old now
  puts_more one =
      let long : length (block_of a one.chunk) ≡ block_length a = length_block a one.chunk one.size in
      let sum : count * block_length a + block_length a ≡ (count + 1) * block_length a = omega arith in record {
        chunks = so.chunks ++ one.chunk ∷ [];
        number = length_push so.chunks one.chunk ∙ ap (λ n. n + 1) so.number;
        are = more_are one.chunk one.is;
        size = ap (λ l. length l) (both one.chunk) ∙ length-append flat (block_of a one.chunk) ∙ (λ i. so.size i + long i) ∙ sum;
        puts = behind (block_of a one.chunk) one.puts ∙ ap (λ l. old ++ placed_from (block_start a 0) l) (sym (both one.chunk));
      }

  pub puts_some : (stripes : ℕ) → count < stripes → PutsAtMost a Is count mid now → PutsSome a Is stripes old now
  puts_some stripes less may = elim may [
    | inl one ↦
        let size : length (so.chunks ++ one.chunk ∷ []) ≡ count + 1 = length_push so.chunks one.chunk ∙ ap (λ n. n + 1) so.number in
        let front : take (length flat + one.less.count) (flat_map (block_of a) (so.chunks ++ one.chunk ∷ [])) ≡ flat ++ take one.less.count (block_of a one.chunk) =
        ap (take (length flat + one.less.count)) (both one.chunk) ∙ take-append-add flat (block_of a one.chunk) one.less.count in record {
          chunks = so.chunks ++ one.chunk ∷ [];
          number = omega (arith, size, less);
          are = more_are one.chunk one.is;
          bytes = length flat + one.less.count;
          puts = behind (take one.less.count (block_of a one.chunk)) one.less.puts ∙ ap (λ l. old ++ placed_from (block_start a 0) l) (sym front);
        }
    | inr none ↦ record {
      chunks = so.chunks;
      number = omega (arith, so.number, less);
      are = λ i below. later i (omega (arith, so.number, below)) (get_or so.chunks i []) (so.are i below);
      bytes = length flat;
      puts = none ∙ so.puts ∙ ap (λ l. old ++ placed_from (block_start a 0) l) (sym (take_all (length flat) flat (omega arith)));
    }
  ]

-- a block of such a chunk is one of a chunk of another kind, where that is so of each such chunk
module _ (a : AloofShape) (Was Is : ℕ → List ℕ → Type 0) (i : ℕ) (put now : List Placed) (so : (chunk : List ℕ) → Was i chunk → Is i chunk) where
  pub block_as : PutsBlock a Was i put now → PutsBlock a Is i put now
  block_as one = record { chunk = one.chunk; is = so one.chunk one.is; size = one.size; puts = one.puts }

  pub most_as : PutsAtMost a Was i put now → PutsAtMost a Is i put now
  most_as may = elim may [
    | inl one ↦ inl (record { chunk = one.chunk; is = so one.chunk one.is; size = one.size; less = one.less })
    | inr none ↦ inr none
  ]

-- ---- the header

pub puts_nothing : (h : Header) (Is : ℕ → List ℕ → Type 0) (put : List Placed) → PutsPart h Is put put
puts_nothing h Is put = inl (record {
  chunks = [];
  number = omega arith;
  are = λ i less. absurd (omega (arith, less));
  bytes = 0;
  puts = sym (append-nil put);
})

module _ (h : Header) (Is : ℕ → List ℕ → Type 0) (old mid now : List Placed) (so : PutsBlocks h.shape Is (stripe_count h.shape h.size) old mid) where
  abbrev blocks : List ℕ
  blocks = flat_map (block_of h.shape) so.chunks

  abbrev head : List ℕ
  head = aligned h.shape (header_bytes h)

  pub puts_blocks : now ≡ mid → PutsPart h Is old now
  puts_blocks same = inl (record {
    chunks = so.chunks;
    number = omega (arith, so.number);
    are = so.are;
    bytes = length blocks;
    puts = same ∙ so.puts ∙ ap (λ l. old ++ placed_from (block_start h.shape 0) l) (sym (take_all (length blocks) blocks (omega arith)));
  })

  pub puts_head : PutsFewer mid 0 head now → PutsPart h Is old now
  puts_head less = inr (record { middle = mid; blocks = so; less = less })

  head_long : length head ≡ block_start h.shape 0
  head_long =
      let none : 0 * block_length h.shape ≡ 0 = omega arith in
      let first : rounded (page_of h.shape) 64 ≡ block_start h.shape 0 = omega (arith, none) in
      length_aligned h.shape (header_bytes h) ∙ ap (λ n. rounded (page_of h.shape) n) (length_header h) ∙ first

  head_some : 0 < length head
  head_some =
      let zeros : List ℕ = replicate {A = ℕ} (rounded (page_of h.shape) (length (header_bytes h)) - length (header_bytes h)) 0 in
      omega (arith, length-append (header_bytes h) zeros, length_header h)

  puts_file : (IsFile : List ℕ → Type 0) → IsFile (head ++ blocks) → now ≡ mid ++ placed_from 0 head → PutsFile IsFile old now
  puts_file IsFile is put = record {
    bytes = head ++ blocks;
    is = is;
    more = placed_from (block_start h.shape 0) blocks ++ placed_from 0 head;
    puts = put ∙ ap (λ l. l ++ placed_from 0 head) so.puts ∙ append_assoc old (placed_from (block_start h.shape 0) blocks) (placed_from 0 head);
    laid = λ before. laid_both (block_start h.shape 0) blocks head before head_long head_some;
  }

  pub puts_whole : now ≡ mid ++ placed_from 0 head → PutsFile (HasChunks h Is) old now
  puts_whole = puts_file (HasChunks h Is) (record { chunks = so.chunks; number = so.number; are = so.are; value = refl })

  -- of a file, where the chunks are those of its codewords
  pub puts_share : h.share < all_chunks h.shape → now ≡ mid ++ placed_from 0 head → (file : List ℕ) (words : List (List (List ℕ))) → length file ≡ h.size →
      checksum_of file ≡ h.checksum → AreCodewords h.shape file words →
      ((i : ℕ) (chunk : List ℕ) → i < length words → Is i chunk → chunk ≡ get_or (get_or words i []) h.share []) → PutsShare h.shape file h.share old now
  puts_share numbered put file words long sum coded only =
      let count : length words ≡ stripe_count h.shape h.size = coded.count ∙ ap (stripe_count h.shape) long in
      let same : so.chunks ≡ chunks_at h.share words =
      ext_get_or [] so.chunks (chunks_at h.share words) (so.number ∙ sym count ∙ sym (length-map words (λ (word : List (List ℕ)). get_or word h.share []))) (λ i less.
      let within : i < length words = omega (arith, so.number, count, less) in
      only i (get_or so.chunks i []) within (so.are i less)
      ∙ sym (chunk_of_word h.shape file h.share words coded numbered i within)) in
      puts_file (IsShare h.shape file h.share) (record {
        words = words;
        coded = coded;
        numbered = numbered;
        value = λ i. aligned h.shape (header_bytes (header_with h.shape h.share (sym long i) (sym sum i))) ++ flat_map (block_of h.shape) (same i);
      }) put

-- A stripe from its chunks, and these from their blocks.
use Rattle.std.proofs.Common.{◌≡◌, ℕ, zero, suc, ◌+◌, ◌-◌, ◌*◌, ◌<◌, ◌≤◌, Bool, false, List, [], ◌∷◌, ◌++◌, length, get_or, take, drop, slice_range, replicate, Option, Some, None, IfSome, is_none, Vec, Global, refl, sym, ap, subst, ◌∙◌, arith, append-nil}
use Rattle.std.proofs.lemmas.Bool.{true≢false}
use Rattle.std.proofs.lemmas.List.{take_all, take_more, length-take-le, length-drop, length-replicate, get_or-take, get_or_default}
use Rattle.std.proofs.lemmas.Grind.{flat_map-append}
use Rattle.std.proofs.Math.Seq.{take-add}
use Rattle.std.specs.List.{concat, flat_map}
use Rattle.clay_grid.specs.Shape.{chunk_length}
use Rattle.clay_grid.specs.Score.{count_below}
use Rattle.clay_grid.proofs.Counting.{count_below_same}
use Rattle.clay_model.specs.Left.{AreLong}
use Rattle.code_laws.proofs.Lists.{concat_push}
use Rattle.clay_aloof.specs.Shape.{AloofShape, all_chunks, grid_of, stripe_bytes}
use Rattle.clay_aloof.specs.Code.{IsCodeword, Codes}
use Rattle.clay_aloof.specs.Recovered.{is_gone, AreFew, chunk_in, HasOthers, IsRecovered}
use Rattle.share_format.specs.Blocks.{block_of, chunk_start, block_length}
use Rattle.share_format.proofs.Rows.{length_flat, flat_at}
use Rattle.share_format.proofs.Lengths.{chunk_in_block}
use Rattle.share_format.specs.Joined.{is_lost, HasBlocks, IsJoined, AreChunksOf, chunk_or_zeros}

-- ---- a stripe is its data chunks

pieces_joined : (xs : List (List ℕ)) (bytes : List ℕ) (k len : ℕ) → k ≤ length xs → ((c : ℕ) → c < k → slice_range bytes (c * len) (c * len + len) ≡ get_or xs c [])
    → (i : ℕ) → i ≤ k → concat (take i xs) ≡ take (i * len) bytes
pieces_joined xs bytes k len many pieces zero h =
    let none : 0 ≡ 0 * len = omega arith in
    ap (λ n. take n bytes) none
pieces_joined xs bytes k len many pieces (suc i) h =
    let next : suc i ≡ i + 1 = omega arith in
    let width : i * len + len - i * len ≡ len = omega arith in
    let end : i * len + len ≡ suc i * len = omega arith in
    ap (λ n. concat (take n xs)) next
    ∙ ap concat (take_more xs i [] (omega (arith, h, many)))
    ∙ concat_push (take i xs) (get_or xs i [])
    ∙ (λ v. pieces_joined xs bytes k len many pieces i (omega (arith, h)) v ++ (sym (pieces i (omega (arith, h))) ∙ ap (λ n. take n (drop (i * len) bytes)) width) v)
    ∙ sym (take-add (i * len) len bytes)
    ∙ ap (λ n. take n bytes) end

pub stripe_of_chunks : (a : AloofShape) (stripe bytes : List ℕ) (word : List (List ℕ)) → Codes a stripe word
    → ((c : ℕ) → c < a.data_count → chunk_in a bytes c ≡ get_or word c []) → take (stripe_bytes a) bytes ≡ stripe
stripe_of_chunks a stripe bytes word codes each =
    let count : length word ≡ a.data_count + a.parity_count = codes.codeword.count in
    sym (pieces_joined word bytes a.data_count (chunk_length (grid_of a)) (omega (arith, count)) each a.data_count (omega arith))
    ∙ codes.joined

-- ---- the chunks in the blocks

long_chunk : (a : AloofShape) (block : Option (Vec ℕ Global)) → IfSome block (λ v. length v.items ≡ block_length a) → length (chunk_or_zeros a block) ≡ chunk_length (grid_of a)
long_chunk a None long = length-replicate (chunk_length (grid_of a)) 0
long_chunk a (Some v) long =
    let size : length v.items ≡ chunk_start a + chunk_length (grid_of a) = long in
    length-drop (chunk_start a) v.items ∙ omega (arith, size)

module _ (a : AloofShape) (blocks : List (Option (Vec ℕ Global))) (long : AreLong (block_length a) blocks) (count : ℕ) (within : count ≤ length blocks) where
  long_chunks : (i : ℕ) → i < length (take count blocks) → length (chunk_or_zeros a (get_or (take count blocks) i None)) ≡ chunk_length (grid_of a)
  long_chunks i h =
      let below : i < count = subst (λ n. i < n) (length-take-le count blocks within) h in
      ap (λ o. length (chunk_or_zeros a o)) (get_or-take count blocks i None below)
      ∙ long_chunk a (get_or blocks i None) (long i None (omega (arith, below, within)))

  pub gathered_long : length (flat_map (chunk_or_zeros a) (take count blocks)) ≡ count * chunk_length (grid_of a)
  gathered_long =
      length_flat (chunk_or_zeros a) (chunk_length (grid_of a)) None (take count blocks) long_chunks
      ∙ ap (λ n. n * chunk_length (grid_of a)) (length-take-le count blocks within)

  pub gathered_at : (c : ℕ) → c < count → chunk_in a (flat_map (chunk_or_zeros a) (take count blocks)) c ≡ chunk_or_zeros a (get_or blocks c None)
  gathered_at c h =
      let len : ℕ = chunk_length (grid_of a) in
      let width : c * len + len - c * len ≡ len = omega arith in
      ap (λ n. take n (drop (c * len) (flat_map (chunk_or_zeros a) (take count blocks)))) width
      ∙ flat_at (chunk_or_zeros a) len None (take count blocks) c (subst (λ n. c < n) (sym (length-take-le count blocks within)) h) long_chunks
      ∙ ap (chunk_or_zeros a) (get_or-take count blocks c None h)

-- the block at an index
pub at_index : (blocks : List (Option (Vec ℕ Global))) (i : ℕ) (block : Option (Vec ℕ Global)) → i < length blocks → block ≡ get_or blocks i block → block ≡ get_or blocks i None
at_index blocks i block within is = is ∙ get_or_default blocks i block None within

-- one chunk more
pub gathered_more : (a : AloofShape) (blocks : List (Option (Vec ℕ Global))) (c : ℕ) → c < length blocks
    → flat_map (chunk_or_zeros a) (take c blocks) ++ chunk_or_zeros a (get_or blocks c None) ≡ flat_map (chunk_or_zeros a) (take (c + 1) blocks)
gathered_more a blocks c h =
    ap (λ l. flat_map (chunk_or_zeros a) (take c blocks) ++ l) (sym (append-nil (chunk_or_zeros a (get_or blocks c None))))
    ∙ sym (flat_map-append (chunk_or_zeros a) (take c blocks) (get_or blocks c None ∷ []))
    ∙ ap (flat_map (chunk_or_zeros a)) (sym (take_more blocks c None h))

-- zeros pushed where a chunk is missing
pub zeros_pushed : (old : List ℕ) (len total : ℕ) → total ≡ length old + len → take total old ++ replicate (total - length old) 0 ≡ old ++ replicate len 0
zeros_pushed old len total is =
    let room : total - length old ≡ len = omega (arith, is) in
    (λ i. take_all total old (omega (arith, is)) i ++ replicate (room i) 0)

-- the chunk in a block that is there
there_chunk : (a : AloofShape) (block : Option (Vec ℕ Global)) (chunk : List ℕ) → is_none block ≡ false
    → ((v : Vec ℕ Global) → block ≡ Some v → v.items ≡ block_of a chunk) → chunk_or_zeros a block ≡ chunk
there_chunk a None chunk there has = absurd (true≢false there)
there_chunk a (Some v) chunk there has = ap (drop (chunk_start a)) (has v refl) ∙ chunk_in_block a chunk

-- ---- all chunks

pub few_marked : (a : AloofShape) (blocks : List (Option (Vec ℕ Global))) (marks : List Bool) → length blocks ≡ all_chunks a → length marks ≡ length blocks
    → ((c : ℕ) → c < length blocks → get_or marks c false ≡ is_lost blocks c) → count_below (all_chunks a) (is_lost blocks) ≤ a.parity_count → AreFew a marks
few_marked a blocks marks all long marked few = record {
  count = long ∙ all;
  few = subst (λ n. n ≤ a.parity_count)
      (sym (count_below_same (all_chunks a) (is_gone marks) (is_lost blocks) (λ c h. marked c (subst (λ n. c < n) (sym all) h)))) few;
}

module _ (a : AloofShape) (blocks : List (Option (Vec ℕ Global))) (long : AreLong (block_length a) blocks) (all : length blocks ≡ all_chunks a) where
  -- the data chunks, all of which are there
  pub data_joined : (bytes : List ℕ) → bytes ≡ flat_map (chunk_or_zeros a) (take a.data_count blocks)
      → ((c : ℕ) → c < a.data_count → is_lost blocks c ≡ false) → IsJoined a blocks bytes
  data_joined bytes is there stripe word codes has =
      let count : length blocks ≡ a.data_count + a.parity_count = all in
      let within : a.data_count ≤ length blocks = omega (arith, count) in
      let size : length bytes ≡ stripe_bytes a = ap length is ∙ gathered_long a blocks long a.data_count within in
      sym (take_all (stripe_bytes a) bytes (omega (arith, size)))
      ∙ stripe_of_chunks a stripe bytes word codes (λ c h.
      ap (λ l. chunk_in a l c) is
      ∙ gathered_at a blocks long a.data_count within c h
      ∙ there_chunk a (get_or blocks c None) (get_or word c []) (there c h) (has c))

  has_others : (marks : List Bool) (bytes : List ℕ) (word : List (List ℕ)) → ((c : ℕ) → c < length blocks → get_or marks c false ≡ is_lost blocks c)
      → bytes ≡ flat_map (chunk_or_zeros a) (take (all_chunks a) blocks) → IsCodeword a word → HasBlocks a blocks word → HasOthers a marks bytes word
  has_others marks bytes word marked is codeword has = record {
    codeword = codeword;
    agrees = λ c h there.
        let below : c < length blocks = subst (λ n. c < n) (sym all) h in
        let within : all_chunks a ≤ length blocks = subst (λ n. all_chunks a ≤ n) (sym all) (omega arith) in
        sym (ap (λ l. chunk_in a l c) is
        ∙ gathered_at a blocks long (all_chunks a) within c h
        ∙ there_chunk a (get_or blocks c None) (get_or word c []) (sym (marked c below) ∙ there) (has c));
  }

  pub chunks_recovered : (marks : List Bool) (old new : List ℕ) → ((c : ℕ) → c < length blocks → get_or marks c false ≡ is_lost blocks c)
      → old ≡ flat_map (chunk_or_zeros a) (take (all_chunks a) blocks) → IsRecovered a marks old new → AreChunksOf a blocks (all_chunks a) new
  chunks_recovered marks old new marked is recovered word codeword has c h =
      recovered.value word (has_others marks old word marked is codeword has) c h

-- a stripe of all chunks
pub all_joined : (a : AloofShape) (blocks : List (Option (Vec ℕ Global))) (chunks bytes : List ℕ) → AreChunksOf a blocks (all_chunks a) chunks
    → bytes ≡ take (stripe_bytes a) chunks → IsJoined a blocks bytes
all_joined a blocks chunks bytes are is stripe word codes has =
    is ∙ stripe_of_chunks a stripe chunks word codes (λ c h. are word codes.codeword has c (early a.data_count a.parity_count c h))
  where
    early : (k m c : ℕ) → c < k → c < k + m
    early k m c h = omega (arith, h)

-- the first of all chunks are as long as a stripe
pub first_long : (a : AloofShape) (chunks bytes : List ℕ) → length chunks ≡ all_chunks a * chunk_length (grid_of a)
    → bytes ≡ take (stripe_bytes a) chunks → length bytes ≡ stripe_bytes a
first_long a chunks bytes long is =
    let sum : (a.data_count + a.parity_count) * chunk_length (grid_of a) ≡ stripe_bytes a + a.parity_count * chunk_length (grid_of a) = omega arith in
    ap length is ∙ length-take-le (stripe_bytes a) chunks (omega (arith, long, sum))

-- What `chunks`, `recover`, `chunksd` and `repaird` print for an input is one status and one output.
use Rattle.std.proofs.Common.{◌≡◌, ℕ, ◌*◌, ◌<◌, ◌≤◌, List, [], ◌∷◌, length, get_or, take, refl, sym, ap, subst, ◌∙◌, inl, inr, arith, Option, None, is_none, is_some, Vec, Global, map, count_by}
use Rattle.std.specs.Prelude.{◌⊎◌}
use Rattle.std.specs.List.{concat}
use Rattle.std.proofs.lemmas.List.Elements.{All-from_get_or}
use Rattle.clay_grid.specs.Shape.{Shape, chunk_count, chunk_length, stripe_length}
use Rattle.clay_grid.specs.Limits.{IsGeometry}
use Rattle.clay_grid.specs.Score.{count_below}
use Rattle.clay_grid.proofs.Counting.{count_below_same}
use Rattle.clay_model.specs.Code as plain
use Rattle.clay_model.proofs.Codewords as plain_words
use Rattle.clay_model.specs.Left.{Completes}
use Rattle.code_laws.proofs.Joined.{length-joined}
use Rattle.clay_model.specs.RepairParts.{subchunks_at}
use Rattle.clay_aloof.specs.Shape.{AloofShape, all_chunks, grid_of, stripe_bytes}
use Rattle.clay_aloof.specs.Limits.{IsAloof}
use Rattle.clay_aloof.specs.Code as aloof
use Rattle.clay_aloof.specs.Repair.{aloof_layers_of, part_bytes, HelpersFit, HasParts}
use Rattle.clay_aloof.proofs.Unique as aloof_words
use Rattle.line_grammar.specs.StripeLines.{line_of, chunk_lines}
use Rattle.line_grammar.specs.ChunkEntries.{parts_of}
use Rattle.clay_cli.specs.Chunks.{AreChunkLines, IsNoStripe}
use Rattle.clay_cli.specs.Recover.{IsLeft, IsRecovered, IsMissing, IsDisagreeing, IsNotRecovered}
use Rattle.clay_cli.specs.Repaird.{AreGiven, IsRepaired, IsUnfit, IsNotRepaired}
use Rattle.clay_cli.specs.Top.{Answers}
use Rattle.clay_cli.specs.Laws.{HasOneAnswer}
use Rattle.clay_cli.specs.declared.status.Status.{Status}
use Rattle.clay_cli.specs.declared.status.Status.TheVariants.{Done, DataRefused}
use Rattle.clay_words.specs.declared.numbers_of_words.Task.TheVariants.{Chunks, Recover, AloofChunks, AloofRepair}
use Rattle.clay_cli.proofs.SameEntries.{IsReadable, bytes_of, missing, none_back, read_once, refused_further, refused_once, same_at, same_bytes, same_length, same_missing, same_none, same_some}

-- ---- answers of two kinds

-- what is made of the input, or a line that refuses it
abbrev IsEither : (List ℕ → Type 0) → (List ℕ → Type 0) → Status → List ℕ → Type 0
IsEither Made Refused status output = ((status ≡ Done) × Made output) ⊎ ((status ≡ DataRefused) × Refused output)

either_once : (Made Refused : List ℕ → Type 0) → ((one other : List ℕ) → Made one → Made other → one ≡ other)
    → ((one other : List ℕ) → Made one → Refused other → ⊥) → ((one other : List ℕ) → Refused one → Refused other → one ≡ other)
    → (status state : Status) (output other : List ℕ) → IsEither Made Refused status output → IsEither Made Refused state other
    → (status ≡ state) × (output ≡ other)
either_once Made Refused made apart refused status state output other (inl h) (inl k) = (h.0 ∙ sym k.0, made output other h.1 k.1)
either_once Made Refused made apart refused status state output other (inl h) (inr k) = absurd (apart output other h.1 k.1)
either_once Made Refused made apart refused status state output other (inr h) (inl k) = absurd (apart other output k.1 h.1)
either_once Made Refused made apart refused status state output other (inr h) (inr k) = (h.0 ∙ sym k.0, refused output other h.1 k.1)

-- ---- the chunks of a stripe

module _ (Coded : List ℕ → List (List ℕ) → Type 0) (len : ℕ) (long : (stripe : List ℕ) (chunks : List (List ℕ)) → Coded stripe chunks → length stripe ≡ len)
    (alone : (stripe : List ℕ) (one other : List (List ℕ)) → Coded stripe one → Coded stripe other → one ≡ other) (input : List ℕ) where
  lines_once : (one other : List ℕ) → AreChunkLines Coded input one → AreChunkLines Coded input other → one ≡ other
  lines_once one other (stripe, chunks, spelled, coded, is) (stripe', chunks', spelled', coded', is') =
      let same : stripe ≡ stripe' = same_bytes (line_of input) stripe stripe' spelled spelled' in
      let word : chunks ≡ chunks' = alone stripe' chunks chunks' (subst (λ (s : List ℕ). Coded s chunks) same coded) coded' in
      is ∙ ap chunk_lines word ∙ sym is'

  lines_or_none : (one other : List ℕ) → AreChunkLines Coded input one → IsNoStripe len input other → ⊥
  lines_or_none one other (stripe, chunks, spelled, coded, is) (inl none) = none.0 stripe spelled
  lines_or_none one other (stripe, chunks, spelled, coded, is) (inr (bytes, spelled', differs, is')) =
      differs (ap length (same_bytes (line_of input) bytes stripe spelled' spelled) ∙ long stripe chunks coded)

  none_once : (one other : List ℕ) → IsNoStripe len input one → IsNoStripe len input other → one ≡ other
  none_once one other (inl h) (inl k) = h.1 ∙ sym k.1
  none_once one other (inl h) (inr (bytes, spelled, differs, is)) = absurd (h.0 bytes spelled)
  none_once one other (inr (bytes, spelled, differs, is)) (inl k) = absurd (k.0 bytes spelled)
  none_once one other (inr (bytes, spelled, differs, is)) (inr (bytes', spelled', differs', is')) = is ∙ sym is'

  coded_once : (status state : Status) (output other : List ℕ) → IsEither (AreChunkLines Coded input) (IsNoStripe len input) status output
      → IsEither (AreChunkLines Coded input) (IsNoStripe len input) state other → (status ≡ state) × (output ≡ other)
  coded_once = either_once (AreChunkLines Coded input) (IsNoStripe len input) lines_once lines_or_none none_once

-- chunks of a length, of which so many are a stripe
joined_long : (chunks : List (List ℕ)) (len k n : ℕ) → length chunks ≡ n → k ≤ n → ((c : ℕ) → c < n → length (get_or chunks c []) ≡ len)
    → length (concat (take k chunks)) ≡ k * len
joined_long chunks len k n count few each =
    length-joined chunks len k (subst (λ m. k ≤ m) (sym count) few)
    (All-from_get_or (λ chunk. length chunk ≡ len) chunks [] (λ i h. each i (subst (λ m. i < m) count h)))

stripe_long : (g : Shape) (stripe : List ℕ) (chunks : List (List ℕ)) → plain.Codes g stripe chunks → length stripe ≡ stripe_length g
stripe_long g stripe chunks c =
    ap length (sym c.joined) ∙ joined_long chunks (chunk_length g) g.data_count (chunk_count g) c.codeword.count (omega arith) c.codeword.lengths

aloof_long : (a : AloofShape) (stripe : List ℕ) (chunks : List (List ℕ)) → aloof.Codes a stripe chunks → length stripe ≡ stripe_bytes a
aloof_long a stripe chunks c =
    ap length (sym c.joined) ∙ joined_long chunks (chunk_length (grid_of a)) a.data_count (all_chunks a) c.codeword.count (omega arith) c.codeword.lengths

chunks_kind : (g : Shape) (input : List ℕ) (status : Status) (output : List ℕ) → Answers (Chunks g) input status output
    → IsEither (AreChunkLines (plain.Codes g) input) (IsNoStripe (stripe_length g) input) status output
chunks_kind g input Done output h = inl (refl, h)
chunks_kind g input DataRefused output h = inr (refl, h)
chunks_kind g input _ output h = absurd h

aloof_kind : (a : AloofShape) (input : List ℕ) (status : Status) (output : List ℕ) → Answers (AloofChunks a) input status output
    → IsEither (AreChunkLines (aloof.Codes a) input) (IsNoStripe (stripe_bytes a) input) status output
aloof_kind a input Done output h = inl (refl, h)
aloof_kind a input DataRefused output h = inr (refl, h)
aloof_kind a input _ output h = absurd h

pub chunks_once : (g : Shape) → IsGeometry g → HasOneAnswer (Chunks g)
chunks_once g geometry input output other status state h k =
    coded_once (plain.Codes g) (stripe_length g) (stripe_long g) (λ stripe one two. plain_words.same_of_stripe g stripe one two (plain_words.distinct_nodes g geometry)) input
    status state output other (chunks_kind g input status output h) (chunks_kind g input state other k)

pub aloof_once : (a : AloofShape) → IsAloof a → HasOneAnswer (AloofChunks a)
aloof_once a limits input output other status state h k =
    coded_once (aloof.Codes a) (stripe_bytes a) (aloof_long a) (λ stripe one two. aloof_words.same_of_stripe a stripe one two limits) input
    status state output other (aloof_kind a input status output h) (aloof_kind a input state other k)

-- ---- all chunks of those that are left

recover_kind : (g : Shape) (input : List ℕ) (status : Status) (output : List ℕ) → Answers (Recover g) input status output
    → IsEither (IsRecovered g input) (IsNotRecovered g input) status output
recover_kind g input Done output h = inl (refl, h)
recover_kind g input DataRefused output h = inr (refl, h)
recover_kind g input _ output h = absurd h

module _ (g : Shape) (geometry : IsGeometry g) (input : List ℕ) where
  left_once : (one other : List (Option (Vec ℕ Global))) → IsLeft g input one → IsLeft g input other → parts_of one ≡ parts_of other
  left_once = read_once (chunk_count g) (chunk_length g) input

  same_count : (one other : List (Option (Vec ℕ Global))) → IsLeft g input one → IsLeft g input other → count_by is_none one ≡ count_by is_none other
  same_count one other h k = same_missing one other (left_once one other h k)

  completes_too : (one other : List (Option (Vec ℕ Global))) (word : List (List ℕ)) → IsLeft g input one → IsLeft g input other → Completes g one word → Completes g other word
  completes_too one other word h k c = record {
    codeword = c.codeword;
    agrees = subst (λ (p : List (Option (List ℕ))). plain.AgreesWith p word) (left_once one other h k) c.agrees;
  }

  recovered_once : (one other : List ℕ) → IsRecovered g input one → IsRecovered g input other → one ≡ other
  recovered_once one other h k =
      let mine = completes_too h.left k.left h.chunks h.is_left k.is_left h.completes in
      let few : count_below (chunk_count g) (λ c. is_none (get_or (parts_of k.left) c None)) ≤ g.parity_count =
      subst (λ n. n ≤ g.parity_count) (sym (missing k.left) ∙ ap (λ n. count_below n (λ c. is_none (get_or (parts_of k.left) c None))) k.is_left.many) k.few in
      let word : h.chunks ≡ k.chunks =
      plain_words.same_agreeing g (parts_of k.left) h.chunks k.chunks (plain_words.distinct_nodes g geometry) few mine.codeword k.completes.codeword mine.agrees k.completes.agrees in
      h.output_is ∙ ap chunk_lines word ∙ sym k.output_is

  many_or_few : (one other : List (Option (Vec ℕ Global))) → IsLeft g input one → IsLeft g input other → g.parity_count < count_by is_none one → count_by is_none other ≤ g.parity_count → ⊥
  many_or_few one other h k many few = let same = same_count one other h k in omega (arith, same, many, few)

  recovered_or_further : (one other : List ℕ) → IsRecovered g input one → IsMissing g input other ⊎ IsDisagreeing g input other → ⊥
  recovered_or_further one other h (inl k) = many_or_few k.left h.left k.is_left h.is_left k.many h.few
  recovered_or_further one other h (inr k) = k.none_agrees h.chunks (completes_too h.left k.left h.chunks h.is_left k.is_left h.completes)

  further_once : (one other : List ℕ) → IsMissing g input one ⊎ IsDisagreeing g input one → IsMissing g input other ⊎ IsDisagreeing g input other → one ≡ other
  further_once one other (inl h) (inl k) = h.output_is ∙ sym k.output_is
  further_once one other (inl h) (inr k) = absurd (many_or_few h.left k.left h.is_left k.is_left h.many k.few)
  further_once one other (inr h) (inl k) = absurd (many_or_few k.left h.left k.is_left h.is_left k.many h.few)
  further_once one other (inr h) (inr k) = h.output_is ∙ sym k.output_is

  further_read : (output : List ℕ) → IsMissing g input output ⊎ IsDisagreeing g input output → IsReadable (chunk_count g) (chunk_length g) input
  further_read output (inl h) = (h.left, h.is_left)
  further_read output (inr h) = (h.left, h.is_left)

  pub recover_once : (status state : Status) (output other : List ℕ) → IsEither (IsRecovered g input) (IsNotRecovered g input) status output
      → IsEither (IsRecovered g input) (IsNotRecovered g input) state other → (status ≡ state) × (output ≡ other)
  recover_once =
      let Further : List ℕ → Type 0 = λ line. IsMissing g input line ⊎ IsDisagreeing g input line in
      either_once (IsRecovered g input) (IsNotRecovered g input) recovered_once
      (λ one other h k. recovered_or_further one other h (refused_further (chunk_count g) (chunk_length g) input Further h.left other h.is_left k))
      (refused_once (chunk_count g) (chunk_length g) input Further further_read further_once)

pub recovered_answer : (g : Shape) → IsGeometry g → HasOneAnswer (Recover g)
recovered_answer g geometry input output other status state h k =
    recover_once g geometry input status state output other (recover_kind g input status output h) (recover_kind g input state other k)

-- ---- the lost chunk of parts

repair_kind : (a : AloofShape) (lost : ℕ) (input : List ℕ) (status : Status) (output : List ℕ) → Answers (AloofRepair a lost) input status output
    → IsEither (IsRepaired a lost input) (IsNotRepaired a lost input) status output
repair_kind a lost input Done output h = inl (refl, h)
repair_kind a lost input DataRefused output h = inr (refl, h)
repair_kind a lost input _ output h = absurd h

module _ (a : AloofShape) (lost : ℕ) (one other : List (Option (Vec ℕ Global))) (same : parts_of one ≡ parts_of other) where
  fit_too : HelpersFit a lost one → HelpersFit a lost other
  fit_too fit = record {
    count = sym (same_length one other same) ∙ fit.count;
    none = none_back (get_or other lost None) (sym (same_at one other same lost) ∙ ap (λ o. bytes_of o) fit.none);
    helpers = sym (count_below_same (all_chunks a) (λ c. is_some (get_or one c None)) (λ c. is_some (get_or other c None)) (λ c h. same_some one other same c)) ∙ fit.helpers;
    column = λ c h differs column. sym (same_none one other same c) ∙ fit.column c h differs column;
  }

  has_parts_too : (word : List (List ℕ)) → HasParts a lost one word → HasParts a lost other word
  has_parts_too word has = record {
    codeword = has.codeword;
    agrees = subst (λ (p : List (Option (List ℕ))). plain.AgreesWith p (map (λ chunk. subchunks_at a.width chunk (aloof_layers_of a lost)) word)) same has.agrees;
  }

module _ (a : AloofShape) (lost : ℕ) (input : List ℕ) where
  given_once : (one other : List (Option (Vec ℕ Global))) → AreGiven a input one → AreGiven a input other → parts_of one ≡ parts_of other
  given_once = read_once (all_chunks a) (part_bytes a) input

  repaired_once : (one other : List ℕ) → IsRepaired a lost input one → IsRepaired a lost input other → one ≡ other
  repaired_once one other h k =
      let has = has_parts_too a lost h.parts k.parts (given_once h.parts k.parts h.given k.given) h.rebuilt.word h.rebuilt.has_parts in
      let chunk : h.chunk ≡ k.chunk = h.rebuilt.value ∙ sym (k.rebuilt.only h.rebuilt.word has) in
      h.output_is ∙ ap (λ (c : List ℕ). chunk_lines (c ∷ [])) chunk ∙ sym k.output_is

  repaired_or_unfit : (one other : List ℕ) → IsRepaired a lost input one → IsUnfit a lost input other → ⊥
  repaired_or_unfit one other h k = k.unfit (fit_too a lost h.parts k.parts (given_once h.parts k.parts h.given k.given) h.fit)

  pub repair_once : (status state : Status) (output other : List ℕ) → IsEither (IsRepaired a lost input) (IsNotRepaired a lost input) status output
      → IsEither (IsRepaired a lost input) (IsNotRepaired a lost input) state other → (status ≡ state) × (output ≡ other)
  repair_once =
      either_once (IsRepaired a lost input) (IsNotRepaired a lost input) repaired_once
      (λ one other h k. repaired_or_unfit one other h (refused_further (all_chunks a) (part_bytes a) input (IsUnfit a lost input) h.parts other h.given k))
      (refused_once (all_chunks a) (part_bytes a) input (IsUnfit a lost input) (λ output h. (h.parts, h.given)) (λ one other h k. h.output_is ∙ sym k.output_is))

pub repaired_answer : (a : AloofShape) (lost : ℕ) → HasOneAnswer (AloofRepair a lost)
repaired_answer a lost input output other status state h k =
    repair_once a lost input status state output other (repair_kind a lost input status output h) (repair_kind a lost input state other k)

use Rattle.std.proofs.Common.{◌≡◌, ℕ, ◌+◌, ◌-◌, ◌*◌, ◌<◌, List, ◌++◌, length, get_or, take, drop, true, is_none, Option, None, refl, sym, subst, ap, ◌∙◌, arith}
use Rattle.std.proofs.lemmas.Bool.{true≢false}
use borrow.Rule.Slice.PartMut.{put_mid}
use Rattle.clay_grid.specs.Shape.{chunk_count, layer_count, chunk_length}
use Rattle.code_laws.proofs.Pieces.{piece_fits, place_below}
use Rattle.lane_repair.specs.Pieces.{HoldsByte}
use Rattle.clay_lanes.specs.Present.{FitsChunks}
use Rattle.clay_lanes.specs.Places.{HoldsPlace}
use Rattle.clay_lanes.specs.Standing.{pieces_around, is_left_gone, IsRoomAround}
use Rattle.clay_lanes.specs.Fillings.{IsPlanned, IsFilling, pieces_in, around_in, SolvesLayers, FillsPlace, KeepsOthers}
use Rattle.clay_lanes.specs.declared.chunk_filling.Filling.{Filling}
use Rattle.clay_lanes.proofs.MissingChunks.{none_of}
use Rattle.clay_lanes.proofs.PlaceLemmas.{places_stay, place_written, places_kept}
use Rattle.clay_lanes.proofs.FillLemmas.{count_in, gone_left, left_shows, left_room_around, some_bytes}
use Rattle.clay_lanes.proofs.chunk_filling.Filling.fill_chunk.Goals as goal

-- what stands before and after chunk i
record AreApart (f : Filling) (chunks : List ℕ) (i len : ℕ) (before rest chunk after : List ℕ) : Type 0 where
  pub size : len ≡ chunk_length f.g
  pub before_is : before ≡ take (i * len) chunks
  pub rest_is : rest ≡ drop (i * len) chunks
  pub chunk_is : chunk ≡ take len rest
  pub after_is : after ≡ drop len rest

module _ (f : Filling) (chunks : List ℕ) (i len : ℕ) (before rest chunk after : List ℕ) (is : IsFilling f chunks) (below : i < chunk_count f.g) (gone : is_left_gone f.left i ≡ true)
    (apart : AreApart f chunks i len before rest chunk after) where
  front : before ≡ take (i * chunk_length f.g) chunks
  front = apart.before_is ∙ ap (λ n. take (i * n) chunks) apart.size

  back : after ≡ drop (chunk_length f.g) (drop (i * chunk_length f.g) chunks)
  back = apart.after_is ∙ (λ k. drop (apart.size k) (apart.rest_is k)) ∙ ap (λ n. drop (chunk_length f.g) (drop (i * n) chunks)) apart.size

  piece : chunk ≡ take (chunk_length f.g) (drop (i * chunk_length f.g) chunks)
  piece = apart.chunk_is ∙ (λ k. take (apart.size k) (apart.rest_is k)) ∙ ap (λ n. take (chunk_length f.g) (drop (i * n) chunks)) apart.size

  shown : around_in f before after ≡ pieces_in f chunks
  shown = (λ k. pieces_around f.left (front k) (back k) (chunk_length f.g))
      ∙ left_shows f.g f.left chunks i (some_bytes f.g is.planned.plan.geometry) (count_in f chunks is) is.places is.long below gone

  room : IsRoomAround f.left before after (chunk_length f.g)
  room = subst (λ b. IsRoomAround f.left b after (chunk_length f.g)) (sym front)
      (subst (λ a. IsRoomAround f.left (take (i * chunk_length f.g) chunks) a (chunk_length f.g)) (sym back)
      (left_room_around f.g f.left chunks i (some_bytes f.g is.planned.plan.geometry) (count_in f chunks is) is.places is.long below gone))

  missing : is_none (get_or (pieces_in f chunks) i None) ≡ true
  missing = gone_left f.left chunks (chunk_length f.g) i ∙ gone

  whole : (new : List ℕ) → before ++ (new ++ after) ≡ put_mid (i * chunk_length f.g) (chunk_length f.g) chunks new
  whole new = λ k. front k ++ (new ++ back k)

  placed_in : (new : List ℕ) → length new ≡ chunk_length f.g
      → ((z b : ℕ) → z < layer_count f.g → b < f.len → HoldsByte (λ word. FitsChunks f.g (around_in f before after) word) i new (z * f.g.width + (f.at + b)))
      → FillsPlace f (pieces_in f chunks) i (before ++ (new ++ after))
  placed_in new long written = λ z b hz hb.
      subst (λ l. HoldsPlace f.g (λ word. FitsChunks f.g (pieces_in f chunks) word) i l (z * f.g.width + (f.at + b))) (sym (whole new))
      (place_written f.g (λ word. FitsChunks f.g (pieces_in f chunks) word) (λ k. is_none (get_or (pieces_in f chunks) k None)) i (i * chunk_length f.g) (chunk_length f.g) chunks new refl refl below is.long long
      (z * f.g.width + (f.at + b)) (place_below z (layer_count f.g) f.g.width (f.at + b) hz (omega (arith, hb, is.planned.within)))
      (subst (λ p. HoldsByte (λ word. FitsChunks f.g p word) i new (z * f.g.width + (f.at + b))) shown (written z b hz hb)))

  kept_in : (new : List ℕ) → length new ≡ chunk_length f.g
      → ((p : ℕ) → HoldsByte (λ word. FitsChunks f.g (around_in f before after) word) i chunk p → HoldsByte (λ word. FitsChunks f.g (around_in f before after) word) i new p)
      → KeepsOthers f (pieces_in f chunks) chunks (before ++ (new ++ after))
  kept_in new long kept =
      subst (KeepsOthers f (pieces_in f chunks) chunks) (sym (whole new))
      (places_kept f.g (λ word. FitsChunks f.g (pieces_in f chunks) word) (λ k. is_none (get_or (pieces_in f chunks) k None)) i (i * chunk_length f.g) (chunk_length f.g) chunks new refl refl below is.long long missing
      (λ p h. subst (λ q. HoldsByte (λ word. FitsChunks f.g q word) i new p) shown
      (kept p (subst (λ q. HoldsByte (λ word. FitsChunks f.g q word) i chunk p) (sym shown) (subst (λ l. HoldsByte (λ word. FitsChunks f.g (pieces_in f chunks) word) i l p) (sym piece) h)))))

pub returns-then-not-is_gone-clause-written : goal.returns-then-not-is_gone-clause-written
returns-then-not-is_gone-clause-written c = λ gone.
    let f = c.args.self.now in
    absurd (true≢false (sym gone ∙ gone_left f.left c.args.chunks.now (chunk_length f.g) c.args.c ∙ sym c.is_gone.ensures ∙ c.if-not-is_gone.true))

pub returns-then-not-is_gone-clause-kept : goal.returns-then-not-is_gone-clause-kept
returns-then-not-is_gone-clause-kept c =
    let f = c.args.self.now in
    let pieces : List (Option (List ℕ)) = pieces_in f c.args.chunks.now in
    places_stay f.g (λ word. FitsChunks f.g pieces word) (λ k. is_none (get_or pieces k None)) c.args.chunks.now

pub split_at_mut-before-requires : goal.split_at_mut-before-requires
split_at_mut-before-requires c =
    let g = c.args.self.now.g in
    let fits = piece_fits c.args.c (chunk_count g) (chunk_length g) c.requires.chunk in
    let same : c.args.c * c.chunk_len-len.result ≡ c.args.c * chunk_length g = ap (λ n. c.args.c * n) c.chunk_len-len.ensures.value in
    omega (arith, fits, same, c.requires.filling.long)

pub split_at_mut-chunk-requires : goal.split_at_mut-chunk-requires
split_at_mut-chunk-requires c =
    let g = c.args.self.now.g in
    let fits = piece_fits c.args.c (chunk_count g) (chunk_length g) c.requires.chunk in
    let same : c.args.c * c.chunk_len-len.result ≡ c.args.c * chunk_length g = ap (λ n. c.args.c * n) c.chunk_len-len.ensures.value in
    omega (arith, fits, same, c.chunk_len-len.ensures.value, c.split_at_mut-before.ensures.back_len, c.requires.filling.long)

pub couple-requires-clause-planned : goal.couple-requires-clause-planned
couple-requires-clause-planned c =
    let f = c.args.self.now in
    let before = c.split_at_mut-before.result.0.now in
    let rest = c.split_at_mut-before.result.1.now in
    let chunk = c.split_at_mut-chunk.result.0.now in
    let after = c.split_at_mut-chunk.result.1.now in
    let gone : is_left_gone f.left c.args.c ≡ true = sym c.is_gone.ensures ∙ c.if-not-is_gone.false in
    let apart : AreApart f c.args.chunks.now c.args.c c.chunk_len-len.result before rest chunk after = record {
      size = c.chunk_len-len.ensures.value;
      before_is = c.split_at_mut-before.ensures.front;
      rest_is = c.split_at_mut-before.ensures.back;
      chunk_is = c.split_at_mut-chunk.ensures.front;
      after_is = c.split_at_mut-chunk.ensures.back;
    } in
    subst (IsPlanned f) (sym (shown f c.args.chunks.now c.args.c c.chunk_len-len.result before rest chunk after c.requires.filling c.requires.chunk gone apart)) c.requires.filling.planned

pub couple-requires-clause-room : goal.couple-requires-clause-room
couple-requires-clause-room c =
    let f = c.args.self.now in
    let before = c.split_at_mut-before.result.0.now in
    let rest = c.split_at_mut-before.result.1.now in
    let chunk = c.split_at_mut-chunk.result.0.now in
    let after = c.split_at_mut-chunk.result.1.now in
    let gone : is_left_gone f.left c.args.c ≡ true = sym c.is_gone.ensures ∙ c.if-not-is_gone.false in
    room f c.args.chunks.now c.args.c c.chunk_len-len.result before rest chunk after c.requires.filling c.requires.chunk gone (record {
      size = c.chunk_len-len.ensures.value;
      before_is = c.split_at_mut-before.ensures.front;
      rest_is = c.split_at_mut-before.ensures.back;
      chunk_is = c.split_at_mut-chunk.ensures.front;
      after_is = c.split_at_mut-chunk.ensures.back;
    })

pub couple-requires-clause-holds : goal.couple-requires-clause-holds
couple-requires-clause-holds c =
    let f = c.args.self.now in
    let before = c.split_at_mut-before.result.0.now in
    let rest = c.split_at_mut-before.result.1.now in
    let chunk = c.split_at_mut-chunk.result.0.now in
    let after = c.split_at_mut-chunk.result.1.now in
    let gone : is_left_gone f.left c.args.c ≡ true = sym c.is_gone.ensures ∙ c.if-not-is_gone.false in
    let apart : AreApart f c.args.chunks.now c.args.c c.chunk_len-len.result before rest chunk after = record {
      size = c.chunk_len-len.ensures.value;
      before_is = c.split_at_mut-before.ensures.front;
      rest_is = c.split_at_mut-before.ensures.back;
      chunk_is = c.split_at_mut-chunk.ensures.front;
      after_is = c.split_at_mut-chunk.ensures.back;
    } in
    subst (λ p. SolvesLayers f p c.args.solved.now) (sym (shown f c.args.chunks.now c.args.c c.chunk_len-len.result before rest chunk after c.requires.filling c.requires.chunk gone apart)) c.requires.holds

pub couple-requires-clause-missing : goal.couple-requires-clause-missing
couple-requires-clause-missing c =
    let f = c.args.self.now in
    let before = c.split_at_mut-before.result.0.now in
    let rest = c.split_at_mut-before.result.1.now in
    let chunk = c.split_at_mut-chunk.result.0.now in
    let after = c.split_at_mut-chunk.result.1.now in
    let gone : is_left_gone f.left c.args.c ≡ true = sym c.is_gone.ensures ∙ c.if-not-is_gone.false in
    let apart : AreApart f c.args.chunks.now c.args.c c.chunk_len-len.result before rest chunk after = record {
      size = c.chunk_len-len.ensures.value;
      before_is = c.split_at_mut-before.ensures.front;
      rest_is = c.split_at_mut-before.ensures.back;
      chunk_is = c.split_at_mut-chunk.ensures.front;
      after_is = c.split_at_mut-chunk.ensures.back;
    } in
    none_of (get_or (around_in f before after) c.args.c None)
    (ap (λ p. is_none (get_or p c.args.c None)) (shown f c.args.chunks.now c.args.c c.chunk_len-len.result before rest chunk after c.requires.filling c.requires.chunk gone apart)
    ∙ missing f c.args.chunks.now c.args.c c.chunk_len-len.result before rest chunk after c.requires.filling c.requires.chunk gone apart)

pub returns-clause-written : goal.returns-clause-written
returns-clause-written c = λ none.
    let f = c.args.self.now in
    let chunks = c.args.chunks.now in
    let before = c.split_at_mut-before.result.0.now in
    let rest = c.split_at_mut-before.result.1.now in
    let chunk = c.split_at_mut-chunk.result.0.now in
    let after = c.split_at_mut-chunk.result.1.now in
    let new = c.couple.new.chunk in
    let gone : is_left_gone f.left c.args.c ≡ true = sym c.is_gone.ensures ∙ c.if-not-is_gone.false in
    let apart : AreApart f chunks c.args.c c.chunk_len-len.result before rest chunk after = record {
      size = c.chunk_len-len.ensures.value;
      before_is = c.split_at_mut-before.ensures.front;
      rest_is = c.split_at_mut-before.ensures.back;
      chunk_is = c.split_at_mut-chunk.ensures.front;
      after_is = c.split_at_mut-chunk.ensures.back;
    } in
    let long : length new ≡ chunk_length f.g = c.couple.auto.chunk ∙ c.split_at_mut-chunk.ensures.front_len ∙ c.chunk_len-len.ensures.value in
    placed_in f chunks c.args.c c.chunk_len-len.result before rest chunk after c.requires.filling c.requires.chunk gone apart new long c.couple.ensures.written

pub returns-clause-kept : goal.returns-clause-kept
returns-clause-kept c =
    let f = c.args.self.now in
    let chunks = c.args.chunks.now in
    let before = c.split_at_mut-before.result.0.now in
    let rest = c.split_at_mut-before.result.1.now in
    let chunk = c.split_at_mut-chunk.result.0.now in
    let after = c.split_at_mut-chunk.result.1.now in
    let new = c.couple.new.chunk in
    let gone : is_left_gone f.left c.args.c ≡ true = sym c.is_gone.ensures ∙ c.if-not-is_gone.false in
    let apart : AreApart f chunks c.args.c c.chunk_len-len.result before rest chunk after = record {
      size = c.chunk_len-len.ensures.value;
      before_is = c.split_at_mut-before.ensures.front;
      rest_is = c.split_at_mut-before.ensures.back;
      chunk_is = c.split_at_mut-chunk.ensures.front;
      after_is = c.split_at_mut-chunk.ensures.back;
    } in
    let long : length new ≡ chunk_length f.g = c.couple.auto.chunk ∙ c.split_at_mut-chunk.ensures.front_len ∙ c.chunk_len-len.ensures.value in
    kept_in f chunks c.args.c c.chunk_len-len.result before rest chunk after c.requires.filling c.requires.chunk gone apart new long c.couple.ensures.kept

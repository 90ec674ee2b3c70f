use Rattle.std.proofs.Common.{◌≡◌, ℕ, ◌+◌, ◌*◌, ◌<◌, true, List, ◌++◌, map, length, take, drop, All, IfSome, sym, subst, ap, ◌∙◌, arith}
use Rattle.std.specs.Option.{option_map}
use Rattle.clay_grid.specs.Shape.{layer_count, chunk_length}
use Rattle.code_laws.proofs.Pieces.{piece_fits}
use Rattle.lane_repair.specs.Views.{laid_pieces, piece_around, StandsAround}
use Rattle.clay_aloof.specs.Shape.{all_chunks, grid_of, node_of}
use Rattle.clay_aloof.specs.Solved.{HoldsSubchunks}
use Rattle.clay_aloof.specs.Recovered.{is_gone}
use Rattle.aloof_recovery.specs.Recoveries.{AreChunks, AreHeld, IsRecovery, others_in, others_around, StandAround, told_by, AreSolvedBy, IsPut}
use Rattle.aloof_recovery.specs.declared.recovery.Recovery.{Recovery}
use Rattle.aloof_recovery.proofs.Recovering.{others_shown, others_stand, others_chunks, held, some_bytes, is_missing_chunk, is_put, not_put}
use Rattle.aloof_recovery.proofs.recovery.Recovery.put.Goals as goal

-- what stands before and after chunk i
record AreApart (r : Recovery) (chunks : List ℕ) (i len : ℕ) (before rest chunk after : List ℕ) : Type 0 where
  pub size : len ≡ chunk_length (grid_of r.g)
  pub before_is : before ≡ take (i * len) chunks
  pub rest_is : rest ≡ drop (i * len) chunks
  pub after_is : after ≡ drop len rest

module _ (r : Recovery) (chunks : List ℕ) (i len : ℕ) (before rest chunk after : List ℕ) (is : IsRecovery r) (long : length chunks ≡ all_chunks r.g * chunk_length (grid_of r.g)) (below : i < all_chunks r.g)
    (gone : is_gone r.missing.now i ≡ true) (apart : AreApart r chunks i len before rest chunk after) where
  front : before ≡ take (i * chunk_length (grid_of r.g)) chunks
  front = apart.before_is ∙ ap (λ n. take (i * n) chunks) apart.size

  back : after ≡ drop (chunk_length (grid_of r.g)) (drop (i * chunk_length (grid_of r.g)) chunks)
  back = apart.after_is ∙ (λ k. drop (apart.size k) (apart.rest_is k)) ∙ ap (λ n. drop (chunk_length (grid_of r.g)) (drop (i * n) chunks)) apart.size

  shown : others_around r before after ≡ others_in r chunks
  shown =
      (λ k. map (option_map (piece_around (front k) (back k) (chunk_length (grid_of r.g)))) (is.starts k))
      ∙ others_shown r.g r.missing.now chunks i (some_bytes r.g is.plan.aloof) long below gone
      ∙ (λ k. laid_pieces chunks (sym is.starts k) (chunk_length (grid_of r.g)))

  are_chunks : AreChunks r.g (others_around r before after)
  are_chunks =
      subst (AreChunks r.g) (sym shown)
      (subst (λ s. AreChunks r.g (laid_pieces chunks s (chunk_length (grid_of r.g)))) (sym is.starts) (others_chunks r.g r.missing.now chunks long))

  stand : StandAround r before after
  stand =
      subst (λ b. StandAround r b after) (sym front)
      (subst (λ e. StandAround r (take (i * chunk_length (grid_of r.g)) chunks) e) (sym back)
      (subst (λ s. All (λ o. IfSome o (StandsAround (take (i * chunk_length (grid_of r.g)) chunks) (drop (chunk_length (grid_of r.g)) (drop (i * chunk_length (grid_of r.g)) chunks)) (chunk_length (grid_of r.g)))) s)
      (sym is.starts) (others_stand r.g r.missing.now chunks i (some_bytes r.g is.plan.aloof) long below gone)))

  solved_around : (solved : List ℕ) → AreSolvedBy r (others_in r chunks) solved → AreSolvedBy r (others_around r before after) solved
  solved_around solved h = subst (λ p. AreSolvedBy r p solved) (sym shown) h

  held_in : AreHeld r.g r.missing.now chunks (told_by r (others_in r chunks))
  held_in =
      subst (λ s. AreHeld r.g r.missing.now chunks (told_by r (laid_pieces chunks s (chunk_length (grid_of r.g))))) (sym is.starts)
      (held r.g r.missing.now chunks r.tables.now is.tables)

  placed : (new : List ℕ) → length new ≡ chunk_length (grid_of r.g)
      → HoldsSubchunks (grid_of r.g) r.plan.now (told_by r (others_around r before after)) (node_of r.g i) (layer_count (grid_of r.g)) new
      → IsPut r.g r.missing.now i chunks (before ++ (new ++ after))
  placed new size holds =
      subst (IsPut r.g r.missing.now i chunks) (λ k. sym front k ++ (new ++ sym back k))
      (is_put r.g r.missing.now i chunks new below long size gone
      (is_missing_chunk r.g r.missing.now chunks (told_by r (others_in r chunks)) r.plan.now i new is.plan held_in below size
      (subst (λ p. HoldsSubchunks (grid_of r.g) r.plan.now (told_by r p) (node_of r.g i) (layer_count (grid_of r.g)) new) shown holds)))

pub is_gone-requires : goal.is_gone-requires
is_gone-requires c = subst (λ n. c.args.c < n) (sym c.requires.recovery.count) c.requires.number

pub returns-then-not-is_gone : goal.returns-then-not-is_gone
returns-then-not-is_gone c =
    let r = c.args.self.now in
    not_put r.g r.missing.now c.args.c c.args.chunks.now (sym c.is_gone.ensures ∙ c.if-not-is_gone.true)

pub split_at_mut-before-requires : goal.split_at_mut-before-requires
split_at_mut-before-requires c =
    let g = c.args.self.now.g in
    let fits = piece_fits c.args.c (all_chunks g) (chunk_length (grid_of g)) c.requires.number in
    let same : c.args.c * c.chunk_len-len.result ≡ c.args.c * chunk_length (grid_of g) = ap (λ n. c.args.c * n) c.chunk_len-len.ensures.value in
    omega (arith, fits, same, c.requires.chunks_len)

pub split_at_mut-chunk-requires : goal.split_at_mut-chunk-requires
split_at_mut-chunk-requires c =
    let g = c.args.self.now.g in
    let fits = piece_fits c.args.c (all_chunks g) (chunk_length (grid_of g)) c.requires.number in
    let same : c.args.c * c.chunk_len-len.result ≡ c.args.c * chunk_length (grid_of g) = ap (λ n. c.args.c * n) c.chunk_len-len.ensures.value in
    omega (arith, fits, same, c.chunk_len-len.ensures.value, c.split_at_mut-before.ensures.back_len, c.requires.chunks_len)

pub couple-requires-clause-chunks : goal.couple-requires-clause-chunks
couple-requires-clause-chunks c =
    let r = c.args.self.now in
    let chunks = c.args.chunks.now in
    let before = c.split_at_mut-before.result.0.now in
    let rest = c.split_at_mut-before.result.1.now in
    let chunk = c.split_at_mut-chunk.result.0.now in
    let after = c.split_at_mut-chunk.result.1.now in
    let gone : is_gone r.missing.now c.args.c ≡ true = sym c.is_gone.ensures ∙ c.if-not-is_gone.false in
    let apart : AreApart r chunks c.args.c c.chunk_len-len.result before rest chunk after = record {
      size = c.chunk_len-len.ensures.value;
      before_is = c.split_at_mut-before.ensures.front;
      rest_is = c.split_at_mut-before.ensures.back;
      after_is = c.split_at_mut-chunk.ensures.back;
    } in
    are_chunks r chunks c.args.c c.chunk_len-len.result before rest chunk after c.requires.recovery c.requires.chunks_len c.requires.number gone apart

pub couple-requires-clause-room : goal.couple-requires-clause-room
couple-requires-clause-room c =
    let r = c.args.self.now in
    let chunks = c.args.chunks.now in
    let before = c.split_at_mut-before.result.0.now in
    let rest = c.split_at_mut-before.result.1.now in
    let chunk = c.split_at_mut-chunk.result.0.now in
    let after = c.split_at_mut-chunk.result.1.now in
    let gone : is_gone r.missing.now c.args.c ≡ true = sym c.is_gone.ensures ∙ c.if-not-is_gone.false in
    let apart : AreApart r chunks c.args.c c.chunk_len-len.result before rest chunk after = record {
      size = c.chunk_len-len.ensures.value;
      before_is = c.split_at_mut-before.ensures.front;
      rest_is = c.split_at_mut-before.ensures.back;
      after_is = c.split_at_mut-chunk.ensures.back;
    } in
    stand r chunks c.args.c c.chunk_len-len.result before rest chunk after c.requires.recovery c.requires.chunks_len c.requires.number gone apart

pub couple-requires-clause-solved : goal.couple-requires-clause-solved
couple-requires-clause-solved c =
    let r = c.args.self.now in
    let chunks = c.args.chunks.now in
    let before = c.split_at_mut-before.result.0.now in
    let rest = c.split_at_mut-before.result.1.now in
    let chunk = c.split_at_mut-chunk.result.0.now in
    let after = c.split_at_mut-chunk.result.1.now in
    let gone : is_gone r.missing.now c.args.c ≡ true = sym c.is_gone.ensures ∙ c.if-not-is_gone.false in
    let apart : AreApart r chunks c.args.c c.chunk_len-len.result before rest chunk after = record {
      size = c.chunk_len-len.ensures.value;
      before_is = c.split_at_mut-before.ensures.front;
      rest_is = c.split_at_mut-before.ensures.back;
      after_is = c.split_at_mut-chunk.ensures.back;
    } in
    solved_around r chunks c.args.c c.chunk_len-len.result before rest chunk after c.requires.recovery c.requires.chunks_len c.requires.number gone apart c.args.solved.now c.requires.solved

pub couple-requires-clause-missing : goal.couple-requires-clause-missing
couple-requires-clause-missing c = sym c.is_gone.ensures ∙ c.if-not-is_gone.false

pub returns : goal.returns
returns c =
    let r = c.args.self.now in
    let chunks = c.args.chunks.now in
    let before = c.split_at_mut-before.result.0.now in
    let rest = c.split_at_mut-before.result.1.now in
    let chunk = c.split_at_mut-chunk.result.0.now in
    let after = c.split_at_mut-chunk.result.1.now in
    let gone : is_gone r.missing.now c.args.c ≡ true = sym c.is_gone.ensures ∙ c.if-not-is_gone.false in
    let apart : AreApart r chunks c.args.c c.chunk_len-len.result before rest chunk after = record {
      size = c.chunk_len-len.ensures.value;
      before_is = c.split_at_mut-before.ensures.front;
      rest_is = c.split_at_mut-before.ensures.back;
      after_is = c.split_at_mut-chunk.ensures.back;
    } in
    let new = c.couple.new.chunk in
    let long : length new ≡ chunk_length (grid_of r.g) = c.couple.auto.chunk ∙ c.split_at_mut-chunk.ensures.front_len ∙ c.chunk_len-len.ensures.value in
    placed r chunks c.args.c c.chunk_len-len.result before rest chunk after c.requires.recovery c.requires.chunks_len c.requires.number gone apart new long c.couple.ensures

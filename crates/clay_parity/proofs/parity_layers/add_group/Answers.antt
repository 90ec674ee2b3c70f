use Rattle.std.proofs.Common.{◌≡◌, ℕ, subst, ◌*◌, ◌<◌, [], length, get_or, set, inl, inr, sym, ap, ◌∙◌, arith}
use Rattle.std.proofs.lemmas.Bool.{cases_eq}
use Rattle.std.proofs.lemmas.List.{get_or-set_same, get_or-set_other}
use Rattle.clay_model.specs.Chunks.{contents}
use Rattle.clay_parity.specs.Blocks.{Appends, piece_bytes}
use Rattle.clay_parity.proofs.ChunkLists.{contents_set, contents_at, length-contents}
use Rattle.clay_parity.proofs.parity_layers.add_group.Goals as goal

pub loop-x-preserved : goal.loop-x-preserved
loop-x-preserved c =
    let m : ℕ = c.args.g.parity_count in
    let w : ℕ = c.args.g.width in
    let vs = c.loop-x.chunks in
    let x = c.loop-x.x in
    let new = c.add_pieces.new.chunk in
    let first = contents c.args.chunks.now in
    let bytes = piece_bytes m w c.args.group.now in
    let below : x < length vs = omega (arith, c.loop-x.auto.chunks, c.requires.chunk_count, c.q-x-end.ensures.value) in
    let there : x < length (contents vs) = subst (λ n. x < n) (sym (length-contents vs)) below in
    let now = contents_set vs x new in
    let before : (get_or vs x c.index-chunks-x.result).items ≡ get_or first x [] =
    sym (contents_at vs x c.index-chunks-x.result below) ∙ c.loop-x.invariant.left x (omega arith) in
    record {
      done = λ i h. elim (cases_eq i x) [
        | inl same ↦
            subst (λ n. Appends (m * w) (bytes n) (get_or first n []) (get_or (contents (set vs x new)) n [])) (sym same)
            (subst (λ l. Appends (m * w) (bytes x) (get_or first x []) l) (sym (ap (λ l. get_or l x []) now ∙ get_or-set_same (contents vs) x new.items [] there))
            (subst (λ l. Appends (m * w) (bytes x) l new.items) before c.in_ok-add_pieces.ensures))
        | inr other ↦
            subst (λ l. Appends (m * w) (bytes i) (get_or first i []) l) (sym (ap (λ l. get_or l i []) now ∙ get_or-set_other (contents vs) x i new.items [] other))
            (c.loop-x.invariant.done i (omega (arith, other)))
      ];
      left = λ i h. ap (λ l. get_or l i []) now ∙ get_or-set_other (contents vs) x i new.items [] (omega arith) ∙ c.loop-x.invariant.left i (omega arith);
    }

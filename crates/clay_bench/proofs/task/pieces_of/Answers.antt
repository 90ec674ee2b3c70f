use Rattle.std.proofs.Common.{◌≡◌, ℕ, ◌+◌, ◌<◌, Bool, List, [], ◌∷◌, ◌++◌, length, get_or, Option, None, is_none, IfSome, All, Vec, Global, sym, subst, ap, ◌∙◌, inl, inr, arith}
use Rattle.std.proofs.lemmas.Bool.{cases_eq}
use Rattle.std.proofs.lemmas.List.{length_push, get_or_push, get_or_append_left}
use Rattle.std.proofs.lemmas.List.Elements.{All-push}
use Rattle.clay_grid.specs.Shape.{chunk_count}
use Rattle.clay_bench.specs.Tasks.{piece_length, IsGone}
use Rattle.clay_bench.proofs.task.pieces_of.Goals as goal

pub loop-c-preserved : goal.loop-c-preserved
loop-c-preserved c =
    let items = c.loop-c.pieces.items in
    let o = c.in_ok-piece.field-0 in
    let now : c.push.new.self.items ≡ items ++ o ∷ [] = c.in_ok-push.ensures.items in
    let size : ℕ = piece_length c.args.task c.args.g in
    let IsLong : Option (Vec ℕ Global) → Type 0 = λ p. IfSome p (λ v. length v.items ≡ size) in
    let count = c.loop-c.invariant.count in
    let Gone : ℕ → Bool → Type 0 = IsGone c.args.task in
    record {
      count = ap length now ∙ length_push items o ∙ ap (λ k. k + 1) count;
      lengths = subst (All IsLong) (sym now)
          (All-push IsLong items o c.loop-c.invariant.lengths (subst (λ k. IfSome o (λ v. length v.items ≡ k)) c.piece_len-len.ensures c.in_ok-piece.ensures.len));
      gone = λ i h. elim (cases_eq i c.loop-c.c) [
        | inl same ↦
            subst (Gone i) (sym (ap (λ l. is_none (get_or l i None)) now ∙ ap is_none (get_or_push items o None i (count ∙ sym same)) ∙ c.in_ok-piece.ensures.none))
            (subst (λ k. Gone k c.is_gone.result) (sym same) c.is_gone.ensures)
        | inr other ↦
            subst (Gone i) (sym (ap (λ l. is_none (get_or l i None)) now ∙ ap is_none (get_or_append_left items (o ∷ []) None i (omega (arith, h, other, count)))))
            (c.loop-c.invariant.gone i (omega (arith, h, other)))
      ];
    }

pub returns : goal.returns
returns c =
    let all : c.loop-c.c ≡ chunk_count c.args.g = omega (arith, c.loop-c-test.false, c.loop-c.auto.c-end, c.n-c-end.ensures.value) in
    record {
      count = c.loop-c.invariant.count ∙ all;
      gone = λ i h. c.loop-c.invariant.gone i (subst (λ n. i < n) (sym all) h);
      lengths = c.loop-c.invariant.lengths;
    }

-- A turn that has taken the value, and the value still has the same fixed part.
use Rattle.std.proofs.Common.{◌≡◌, ℕ, true, Some, sym, ap, subst, ◌∙◌}
use Rattle.atomic_table.specs.Seated.{TableId}
use Rattle.turn_lock.specs.History.{Among}
use Rattle.turn_lock.specs.TurnState.{TurnState}
use Rattle.run_seats.specs.Turns.{IsFree, IsHolding}

module _ {F E : Type 0} where
  pub holding : (lock : TableId) (number named : ℕ) (identity now : F) (before took : TurnState F E) → IsFree lock number before → took ≡ record before { seen = took.seen; holds = true }
      → Some identity ≡ before.fixed → now ≡ identity → named ≡ number → IsHolding lock named now took
  holding lock number named identity now before took free turn fixed same is =
      record {
        own = ap (λ (t : TurnState F E). t.lock) turn ∙ free.own;
        holds = ap (λ (t : TurnState F E). t.holds) turn;
        number = subst (λ (n : ℕ). Among n took.numbers) (sym is) (subst (Among number) (sym (ap (λ (t : TurnState F E). t.numbers) turn)) free.number);
        fixed = ap (λ (x : F). Some x) same ∙ (fixed ∙ sym (ap (λ (t : TurnState F E). t.fixed) turn));
      }

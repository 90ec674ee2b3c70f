use Rattle.std.proofs.Common.{◌≡◌, ap, sym, subst, false}
use Rattle.turn_lock.specs.History.{Among}
use Rattle.turn_lock.proofs.Lists.{among_left}
use Rattle.turn_lock.proofs.lock.Lock.join.Goals as goal

pub invariant_of-result : goal.invariant_of-result
invariant_of-result g c =
    let me = c.merge.ensures.me in
    let n = c.turn.inside.number in
    let free : c.merge.new.seat.me.0.holds ≡ false = ap (λ m. m.0.holds) me in (
      subst (λ xs. Among n xs) (sym (ap (λ m. m.0.numbers) me)) (among_left n c.turn.inside.seat.me.0.numbers c.other.inside.seat.me.0.numbers c.turn.invariant.0),
      ap (λ m. m.0.joined) me,
      ap (λ m. m.0.joined_seen) me,
      (λ h. absurd (cc)),
      (λ _. ap (λ m. m.1) me),
    )

-- Turns are joined one after the other, from the last one on.
use Rattle.std.proofs.Common.{◌≡◌, ◌⊎◌, ℕ, zero, suc, ◌+◌, ◌<◌, ◌≤◌, Bool, false, ◌||◌, List, [], ◌∷◌, ◌++◌, length, slice_get, Some, refl, sym, ap, subst, ◌∙◌, inl, inr, append_assoc, append-nil, arith, eq-eqb}
use Rattle.std.proofs.lemmas.List.{length_push}
use Rattle.std.proofs.lemmas.Option.{same_Some, slice_get_within}
use mathlib.Core.List.{IsPrefix}
use Rattle.atomic_table.specs.Seated.{TableId}
use Rattle.turn_lock.specs.History.{Among, GoesOn, IsLonger, SameEntries, entries_of}
use Rattle.turn_lock.specs.TurnState.{TurnState}
use Rattle.turn_lock.proofs.Lists.{among_left, among_right}
use Rattle.turn_lock.specs.Joined.{AreAll, IsJoined, IsWhole}
use Rattle.turn_lock.proofs.JoinedLists.{at_end, front}

-- a number from another one on is that one, or a later one
from_or_later : (from n : ℕ) → from ≤ n → (from ≡ n) ⊎ (from + 1 ≤ n)
from_or_later zero zero least = inl refl
from_or_later zero (suc n) least = inr (omega arith)
from_or_later (suc from) zero least = absurd (omega (arith, least))
from_or_later (suc from) (suc n) least = more (from_or_later from n (omega (arith, least)))
  where
    more : (from ≡ n) ⊎ (from + 1 ≤ n) → (suc from ≡ suc n) ⊎ (suc from + 1 ≤ suc n)
    more (inl same) = inl (ap suc same)
    more (inr later) = inr (omega (arith, later))

-- how many are left falls as more are joined
pub count_on : (joined now left all : ℕ) → joined + left ≡ all → left ≡ now + 1 → joined + 1 + now ≡ all
count_on joined now left all whole fewer = omega (arith, whole, fewer)

-- what begins the one begins the other
prefix_on : {X : Type 0} (xs ys zs : List X) → IsPrefix xs ys → IsPrefix ys zs → IsPrefix xs zs
prefix_on {X = X} xs ys zs first then_on =
    (first.0 ++ then_on.0, sym (append_assoc xs first.0 then_on.0) ∙ (ap (λ (l : List X). l ++ then_on.0) first.1 ∙ then_on.1))

among_alone : (n : ℕ) → Among n (n ∷ [])
among_alone n = ap (λ (b : Bool). b || false) (eq-eqb n n refl)

module _ {F E : Type 0} (lock : TableId) (identity : F) (turns : List (TurnState F E)) where
  -- a turn with the numbers from one on, which has seen their entries as their own turns had
  pub record IsJoining (from : ℕ) (all : TurnState F E) : Type 0 where
    pub own : all.lock ≡ lock
    pub free : all.holds ≡ false
    pub fixed : all.fixed ≡ Some identity
    pub numbers : (n : ℕ) → from ≤ n → n < length turns → Among n all.numbers
    pub entries : (n : ℕ) (turn : TurnState F E) → from ≤ n → slice_get turns n ≡ Some turn → entries_of n all.seen ≡ entries_of n turn.seen
    pub begins : (n : ℕ) (turn : TurnState F E) → from ≤ n → slice_get turns n ≡ Some turn → IsPrefix turn.seen all.seen

  -- the last one alone
  pub joining_begins : (left : List (TurnState F E)) (last : TurnState F E) → turns ≡ left ++ last ∷ [] → AreAll lock identity turns → IsJoining (length left) last
  joining_begins left last is all =
      let there : slice_get turns (length left) ≡ Some last = ap (λ (xs : List (TurnState F E)). slice_get xs (length left)) is ∙ at_end left last in
      let at = all.each (length left) last there in
      let long : length turns ≡ length left + 1 = ap length is ∙ length_push left last in
      record {
        own = at.own;
        free = at.free;
        fixed = at.fixed;
        numbers = λ n least less.
            let same : length left ≡ n = omega (arith, long, least, less) in
            subst (λ (numbers : List ℕ). Among n numbers) (sym at.numbers) (subst (λ (m : ℕ). Among n (m ∷ [])) (sym same) (among_alone n));
        entries = λ n turn least e.
            let within : n < length turns = slice_get_within turns n turn e in
            let same : length left ≡ n = omega (arith, long, least, within) in
            ap (λ (t : TurnState F E). entries_of n t.seen)
            (same_Some last turn (sym there ∙ (ap (λ (m : ℕ). slice_get turns m) same ∙ e)));
        begins = λ n turn least e.
            let within : n < length turns = slice_get_within turns n turn e in
            let same : length left ≡ n = omega (arith, long, least, within) in
            subst (λ (t : TurnState F E). IsPrefix t.seen last.seen) (same_Some last turn (sym there ∙ (ap (λ (m : ℕ). slice_get turns m) same ∙ e))) ([], append-nil last.seen);
      }

  -- and with the one before
  pub joining_goes_on : (from : ℕ) (all turn joined : TurnState F E) → AreAll lock identity turns → IsJoining (from + 1) all → slice_get turns from ≡ Some turn
      → joined ≡ record all { numbers = all.numbers ++ turn.numbers; seen = joined.seen } → SameEntries all.numbers all.seen joined.seen → SameEntries turn.numbers turn.seen joined.seen → IsLonger all.seen turn.seen joined.seen → IsJoining from joined
  joining_goes_on from all turn joined are is there made old new longer =
      record {
        own = ap (λ (t : TurnState F E). t.lock) made ∙ is.own;
        free = ap (λ (t : TurnState F E). t.holds) made ∙ is.free;
        fixed = ap (λ (t : TurnState F E). t.fixed) made ∙ is.fixed;
        numbers = λ n least less. subst (λ (numbers : List ℕ). Among n numbers) (sym (ap (λ (t : TurnState F E). t.numbers) made)) (among n less (from_or_later from n least));
        entries = λ n t least e. same n t e (from_or_later from n least);
        begins = λ n t least e. begins n t e (from_or_later from n least);
      }
    where
      its : (n : ℕ) → from ≡ n → Among n turn.numbers
      its n same = subst (λ (m : ℕ). Among m turn.numbers) same (subst (λ (numbers : List ℕ). Among from numbers) (sym (are.each from turn there).numbers) (among_alone from))

      among : (n : ℕ) → n < length turns → (from ≡ n) ⊎ (from + 1 ≤ n) → Among n (all.numbers ++ turn.numbers)
      among n less (inl same) = among_right n all.numbers turn.numbers (its n same)
      among n less (inr later) = among_left n all.numbers turn.numbers (is.numbers n later less)

      same : (n : ℕ) (t : TurnState F E) → slice_get turns n ≡ Some t → (from ≡ n) ⊎ (from + 1 ≤ n) → entries_of n joined.seen ≡ entries_of n t.seen
      same n t e (inl is_from) =
          new n (its n is_from) ∙ ap (λ (u : TurnState F E). entries_of n u.seen) (same_Some turn t (sym there ∙ (ap (λ (m : ℕ). slice_get turns m) is_from ∙ e)))
      same n t e (inr later) = old n (is.numbers n later (slice_get_within turns n t e)) ∙ is.entries n t later e

      begins : (n : ℕ) (t : TurnState F E) → slice_get turns n ≡ Some t → (from ≡ n) ⊎ (from + 1 ≤ n) → IsPrefix t.seen joined.seen
      begins n t e (inl is_from) =
          subst (λ (u : TurnState F E). IsPrefix u.seen joined.seen) (same_Some turn t (sym there ∙ (ap (λ (m : ℕ). slice_get turns m) is_from ∙ e))) longer.from_other
      begins n t e (inr later) = prefix_on t.seen all.seen joined.seen (is.begins n t later e) longer.from_one

  -- all of them
  pub joining_ends : (all : TurnState F E) → IsJoining 0 all → IsJoined lock identity turns all
  joining_ends all is =
      record {
        own = is.own;
        free = is.free;
        fixed = is.fixed;
        numbers = λ n less. let least : 0 ≤ n = omega arith in is.numbers n least less;
        whole = record {
          own = λ n turn e. let least : 0 ≤ n = omega arith in is.entries n turn least e;
          begins = λ n turn e. let least : 0 ≤ n = omega arith in is.begins n turn least e;
        };
      }

  -- what is left of them has its turns at their places, the last one too
  pub last_there : (left now : List (TurnState F E)) (last : TurnState F E) → IsPrefix left turns → left ≡ now ++ last ∷ [] → slice_get turns (length now) ≡ Some last
  last_there left now last first is =
      ap (λ (xs : List (TurnState F E)). slice_get xs (length now)) (sym first.1)
      ∙ front left first.0 (length now) last (ap (λ (xs : List (TurnState F E)). slice_get xs (length now)) is ∙ at_end now last)

  pub shorter_first : (left now : List (TurnState F E)) (last : TurnState F E) → IsPrefix left turns → left ≡ now ++ last ∷ [] → IsPrefix now turns
  shorter_first left now last first is =
      (last ∷ first.0, sym (append_assoc now (last ∷ []) first.0) ∙ (ap (λ (xs : List (TurnState F E)). xs ++ first.0) (sym is) ∙ first.1))

  -- a turn that was taken from what is left
  pub joining_on : (left now : List (TurnState F E)) (all turn joined : TurnState F E) → AreAll lock identity turns → IsPrefix left turns → left ≡ now ++ turn ∷ [] → IsJoining (length left) all
      → joined ≡ record all { numbers = all.numbers ++ turn.numbers; seen = joined.seen } → SameEntries all.numbers all.seen joined.seen → SameEntries turn.numbers turn.seen joined.seen → IsLonger all.seen turn.seen joined.seen
      → IsJoining (length now) joined
  joining_on left now all turn joined are first is joining made old new longer =
      joining_goes_on (length now) all turn joined are (subst (λ (n : ℕ). IsJoining n all) (ap length is ∙ length_push now turn) joining) (last_there left now turn first is) made old new longer

  -- when none is left
  pub joining_over : (left : List (TurnState F E)) (all : TurnState F E) → length left ≡ 0 → IsJoining (length left) all → IsJoined lock identity turns all
  joining_over left all none is = joining_ends all (subst (λ (n : ℕ). IsJoining n all) none is)

-- a history that goes on from what the turn with all numbers has seen is the whole one of the turns
pub whole_seen : {F E : Type 0} (lock : TableId) (identity : F) (turns : List (TurnState F E)) (all : TurnState F E) (log : List (ℕ × E)) → IsJoined lock identity turns all → GoesOn all.numbers all.seen log → IsWhole turns log
whole_seen lock identity turns all log is goes =
    record {
      own = λ n turn e. goes.1 n (is.numbers n (slice_get_within turns n turn e)) ∙ is.whole.own n turn e;
      begins = λ n turn e. prefix_on turn.seen all.seen log (is.whole.begins n turn e) goes.0;
    }

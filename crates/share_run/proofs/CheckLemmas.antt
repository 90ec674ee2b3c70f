-- Shares that are judged one after another.
use Rattle.std.proofs.Common.{◌≡◌, ◌≢◌, ℕ, ◌+◌, ◌<◌, ◌≤◌, List, length, Some, Err, IsErrOf, refl, get_or, map, Option, None, sym, subst, arith, get_or-set_other, get_or-set_same, below_more}
use Rattle.std.proofs.Math.ListN.{set}
use Rattle.share_format.specs.Header.{Header}
use Rattle.share_files.specs.Seen.{Seen, seen_of}
use Rattle.share_files.specs.Whole.{OneFails}
use Rattle.share_files.specs.declared.share_fault.ShareFault.{ShareFault}
use Rattle.share_files.specs.declared.share_fault.ShareFault.TheVariants.{Short, Header as HeaderFault, Foreign, Padding, Block, Longer, ReadFault as FailedRead, OutOfMemory as NoMemory}
use Rattle.share_run.specs.Heads.{numbered}
use Rattle.share_run.specs.Check.{FailsAs, IsVerdictOf, AreVerdicts}
use Rattle.share_run.proofs.SeenLemmas.{own, other, was}

module _ (h : Header) {X : Type 0} (f : X → Seen) (olds xs : List X) (share : ℕ) (old new : X) (within : share < length xs) (here : old ≡ get_or xs share old)
    (others : (c : ℕ) → share ≤ c → seen_of (map f xs) c ≡ seen_of (map f olds) c) where
  -- one more share
  pub verdicts_more : (verdicts : List (Option ShareFault)) (verdict : Option ShareFault) → share < length verdicts → IsVerdictOf (numbered h share) (f old) (f new) verdict →
      AreVerdicts h share (map f olds) (map f xs) verdicts → AreVerdicts h (share + 1) (map f olds) (map f (set xs share new)) (set verdicts share verdict)
  verdicts_more verdicts verdict there is so =
      below_more (λ c. IsVerdictOf (numbered h c) (seen_of (map f olds) c) (seen_of (map f (set xs share new)) c) (get_or (set verdicts share verdict) c None)) share
      (λ c below.
      let differs : c ≢ share = omega (arith, below) in
      let P : Seen → Type 0 = λ s. IsVerdictOf (numbered h c) (seen_of (map f olds) c) s (get_or verdicts c None) in
      let Q : Option ShareFault → Type 0 = λ v. IsVerdictOf (numbered h c) (seen_of (map f olds) c) (seen_of (map f (set xs share new)) c) v in
      subst Q (sym (get_or-set_other verdicts share c verdict None differs)) (subst P (sym (other f xs share new within c differs)) (so c below)))
      (let O : Seen → Type 0 = λ s. IsVerdictOf (numbered h share) s (f new) verdict in
      let P : Seen → Type 0 = λ s. IsVerdictOf (numbered h share) (seen_of (map f olds) share) s verdict in
      let Q : Option ShareFault → Type 0 = λ v. IsVerdictOf (numbered h share) (seen_of (map f olds) share) (seen_of (map f (set xs share new)) share) v in
      subst Q (sym (get_or-set_same verdicts share verdict None there))
      (subst P (sym (own f xs share new within)) (subst O (sym (was f olds xs share old new within here others)) is)))

-- what failed, by a fault
pub fault_fails : (failed now : List ℕ) (fault : ShareFault) → (IsErrOf {T = Unit {0}} (Err fault) FailedRead → OneFails failed now) →
    ((IsErrOf {T = Unit {0}} (Err fault) FailedRead → ⊥) → now ≡ failed) → (fault ≡ NoMemory → ⊥) → FailsAs failed now (Some fault)
fault_fails failed now FailedRead cause steady known = cause refl
fault_fails failed now NoMemory cause steady known = known refl
fault_fails failed now Short cause steady known = steady (λ e. cc)
fault_fails failed now (HeaderFault fault) cause steady known = steady (λ e. cc)
fault_fails failed now Foreign cause steady known = steady (λ e. cc)
fault_fails failed now Padding cause steady known = steady (λ e. cc)
fault_fails failed now (Block stripe) cause steady known = steady (λ e. cc)
fault_fails failed now Longer cause steady known = steady (λ e. cc)

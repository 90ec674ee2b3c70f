-- Headers that are read and judged one after another.
use Rattle.std.proofs.Common.{◌≡◌, ◌≢◌, ℕ, ◌+◌, ◌<◌, List, [], ◌∷◌, ◌++◌, length, get_or, map, Option, None, Some, Ok, Err, refl, sym, subst, ap, inl, inr, arith, take, IfOk, IfErr, IsErrOf, ◌≤◌, below_more}
use Rattle.std.proofs.Math.ListN.{set}
use Rattle.std.proofs.lemmas.List.{length_push, get_or_append_left, get_or_push}
use Rattle.file_bytes.specs.Places.{FailsIn}
use Rattle.share_format.specs.Header.{Header, IsHeader, header_bytes}
use Rattle.share_files.specs.Seen.{Seen, seen_of}
use Rattle.share_files.specs.Refused.{IsRefusal}
use Rattle.share_files.specs.declared.share_reading.HeaderRefusal.TheVariants.{ReadFault, Short, Bad}
use Rattle.share_run.specs.Heads.{Head, IsHead, FailsFor, IsHeadOf, head_of, AreHeads, share_count, HasNone, IsMostShared, Tell}
use Rattle.share_run.proofs.SeenLemmas.{own, other, was}
use Rattle.share_run.specs.Told.{TellsNext}

module _ {X : Type 0} (f : X → Seen) (olds xs : List X) (share : ℕ) (old new : X) (within : share < length xs) (here : old ≡ get_or xs share old)
    (others : (c : ℕ) → share ≤ c → seen_of (map f xs) c ≡ seen_of (map f olds) c) where
  -- one more header
  pub heads_more : (heads : List Head) (head : Head) → length heads ≡ share → IsHeadOf (f old) (f new) head → AreHeads (map f olds) (map f xs) heads →
      AreHeads (map f olds) (map f (set xs share new)) (heads ++ head ∷ [])
  heads_more heads head count is so = λ c less.
      let long : length (heads ++ head ∷ []) ≡ length heads + 1 = length_push heads head in
      below_more (λ i. IsHeadOf (seen_of (map f olds) i) (seen_of (map f (set xs share new)) i) (head_of (heads ++ head ∷ []) i)) share
      (λ i below.
      let differs : i ≢ share = omega (arith, below) in
      let P : Seen → Type 0 = λ s. IsHeadOf (seen_of (map f olds) i) s (head_of heads i) in
      let Q : Head → Type 0 = λ h. IsHeadOf (seen_of (map f olds) i) (seen_of (map f (set xs share new)) i) h in
      subst Q (sym (get_or_append_left heads (head ∷ []) (Err Short) i (omega (arith, below, count))))
      (subst P (sym (other f xs share new within i differs)) (so i (omega (arith, below, count)))))
      (let O : Seen → Type 0 = λ s. IsHeadOf s (f new) head in
      let P : Seen → Type 0 = λ s. IsHeadOf (seen_of (map f olds) share) s head in
      let Q : Head → Type 0 = λ h. IsHeadOf (seen_of (map f olds) share) (seen_of (map f (set xs share new)) share) h in
      subst Q (sym (get_or_push heads head (Err Short) share count))
      (subst P (sym (own f xs share new within)) (subst O (sym (was f olds xs share old new within here others)) is)))
      c (omega (arith, less, long, count))

-- what failed, by a header that was read or not
pub head_fails : (failed now : List ℕ) (head : Head) → (IsErrOf head ReadFault → FailsIn 0 64 failed now) → ((IsErrOf head ReadFault → ⊥) → now ≡ failed) →
    FailsFor failed now head
head_fails failed now (Err ReadFault) cause steady = cause refl
head_fails failed now (Err Short) cause steady = steady (λ e. cc)
head_fails failed now (Err (Bad fault)) cause steady = steady (λ e. cc)
head_fails failed now (Ok header) cause steady = steady (λ e. cc)

-- ---- the cut that most shares are of

more_or_less : (heads : List Head) (n : ℕ) (h : Header) → IsMostShared heads n h →
    ((g : Header) → head_of heads n ≡ Ok g → share_count heads g ≤ share_count heads h) → IsMostShared heads (n + 1) h
more_or_less heads n h so last = record {
  share = so.share;
  within = omega (arith, so.within);
  there = so.there;
  most = λ c g less.
      below_more (λ i. head_of heads i ≡ Ok g → share_count heads g ≤ share_count heads h) n (λ i below. so.most i g below) (last g) c less;
  first = so.first;
}

none_there : (head : Head) (h : Header) → HasNone head → head ≡ Ok h → ⊥
none_there head h none at = subst HasNone at none

none_more : (heads : List Head) (n : ℕ) (told : Option Header) → HasNone (head_of heads n) → Tell heads n told → Tell heads (n + 1) told
none_more heads n None none so = below_more (λ c. HasNone (head_of heads c)) n so none
none_more heads n (Some h) none so = more_or_less heads n h so (λ g at. absurd (none_there _ g none at))

one_there : (heads : List Head) (n : ℕ) (h g : Header) → head_of heads n ≡ Ok h → head_of heads n ≡ Ok g → share_count heads g ≡ share_count heads h
one_there heads n h g at here =
    let same : g ≡ h = cc in
    ap (share_count heads) same

-- a header of which more shares are than of all before it
next_most : (heads : List Head) (n : ℕ) (h : Header) → head_of heads n ≡ Ok h →
    ((c : ℕ) (g : Header) → c < n → head_of heads c ≡ Ok g → share_count heads g < share_count heads h) → IsMostShared heads (n + 1) h
next_most heads n h at fewer = record {
  share = n;
  within = omega arith;
  there = at;
  most = λ c g less.
      below_more (λ i. head_of heads i ≡ Ok g → share_count heads g ≤ share_count heads h) n
      (λ i below here.
      let lower = fewer i g below here in
      omega (arith, lower))
      (λ here.
      let same = one_there heads n h g at here in
      omega (arith, same))
      c less;
  first = fewer;
}

-- what headers tell with one more
pub tell_more : (heads : List Head) (n : ℕ) (told : Option Header) (head : Head) (next : Option Header) → head_of heads n ≡ head →
    Tell heads n told → TellsNext heads told head next → Tell heads (n + 1) next
tell_more heads n told (Err refusal) next at so e =
    let none : HasNone (head_of heads n) = subst HasNone (sym at) tt in
    subst (Tell heads (n + 1)) (sym e) (none_more heads n told none so)
tell_more heads n None (Ok header) next at so e =
    subst (Tell heads (n + 1)) (sym e) (next_most heads n header at (λ c g below here. absurd (none_there _ g (so c below) here)))
tell_more heads n (Some first) (Ok header) next at so (inl e) =
    subst (Tell heads (n + 1)) (sym e.0) (more_or_less heads n first so (λ g here.
    let same = one_there heads n header g at here in
    omega (arith, same, e.1)))
tell_more heads n (Some first) (Ok header) next at so (inr e) =
    subst (Tell heads (n + 1)) (sym e.0) (next_most heads n header at (λ c g below here.
    let lower = so.most c g below here in
    omega (arith, lower, e.1)))

-- what was read is a head
pub head_had : (head : Head) (file : List ℕ) → IfOk head (λ h. take 64 file ≡ header_bytes h) → IfOk head IsHeader → IfErr head (IsRefusal file) → IsHead file head
head_had (Ok header) file is bounded refused = (is, bounded)
head_had (Err refusal) file is bounded refused = refused

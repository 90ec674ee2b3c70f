-- Sources of which one has changed.
use Rattle.std.proofs.Common.{◌≡◌, ◌≢◌, ℕ, ◌+◌, ◌<◌, ◌≤◌, List, [], length, get_or, map, ◌∙◌, ap, sym, arith, get_or-set_other, get_or-set_same}
use Rattle.std.proofs.Math.ListN.{set}
use Rattle.std.proofs.lemmas.List as lists
use Rattle.std.proofs.lemmas.List.{map-set, length-map}
use Rattle.share_files.specs.Seen.{Seen, seen, seen_of}

module _ {X : Type 0} (f : X → Seen) (xs : List X) (share : ℕ) (new : X) (within : share < length xs) where
  -- what is seen of the one that has
  pub own : seen_of (map f (set xs share new)) share ≡ f new
  own =
      let long : length (map f xs) ≡ length xs = length-map xs f in
      ap (λ l. get_or l share (seen [] [] [])) (map-set f xs share new)
      ∙ get_or-set_same (map f xs) share (f new) (seen [] [] []) (omega (arith, long, within))

  -- and of the others
  pub other : (c : ℕ) → c ≢ share → seen_of (map f (set xs share new)) c ≡ seen_of (map f xs) c
  other c differs = ap (λ l. get_or l c (seen [] [] [])) (map-set f xs share new) ∙ get_or-set_other (map f xs) share c (f new) (seen [] [] []) differs

-- sources of which one is read, and those from it on are as they were
module _ {X : Type 0} (f : X → Seen) (olds xs : List X) (share : ℕ) (old new : X) (within : share < length xs) (here : old ≡ get_or xs share old)
    (others : (c : ℕ) → share ≤ c → seen_of (map f xs) c ≡ seen_of (map f olds) c) where
  -- that one too
  pub was : seen_of (map f olds) share ≡ f old
  was = sym (others share (omega arith)) ∙ lists.get_or-map f xs share old (seen [] [] []) within ∙ sym (ap f here)

  -- and those behind it afterwards
  pub others_more : (c : ℕ) → share + 1 ≤ c → seen_of (map f (set xs share new)) c ≡ seen_of (map f olds) c
  others_more c past =
      let differs : c ≢ share = omega (arith, past) in
      other f xs share new within c differs ∙ others c (omega (arith, past))

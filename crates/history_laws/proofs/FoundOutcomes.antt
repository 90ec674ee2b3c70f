-- A call that is unavailable names servers of which each was found missing, or was away when it was to keep a chunk.
use Rattle.std.proofs.Common.{◌≡◌, ℕ, List, [], ◌∷◌, ◌++◌, map, All, refl, sym, subst}
use Rattle.std.proofs.lemmas.List.Elements.{All-nil, All-cons, All-head, All-tail}
use Rattle.clay_grid.specs.Shape.{Shape}
use Rattle.store_map.specs.declared.placement.Found.{Found}
use Rattle.store_core.specs.Gathering.{Gathering, Part}
use Rattle.store_core.specs.GatheringParts.{gather_part}
use Rattle.store_core.specs.Told.{Told, Seen, Lost}
use Rattle.run_laws.specs.GatherLaws.{AreApart}
use Rattle.run_laws.specs.NamedServers.{asked_next, found_missing, NamesTheAsked}
use Rattle.run_laws.proofs.Gatherings.{gatherings_end}
use Rattle.history_laws.proofs.HeardLosses.{PartHeard}

-- the first of some that stand one after another
all_front : {X : Type 0} (P : X → Type 0) (xs ys : List X) → All P (xs ++ ys) → All P xs
all_front P [] ys h = All-nil P
all_front P (x ∷ xs) ys h = All-cons P x xs (All-head P x (xs ++ ys) h) (all_front P xs ys (All-tail P x (xs ++ ys) h))

all_back : {X : Type 0} (P : X → Type 0) (xs ys : List X) → All P (xs ++ ys) → All P ys
all_back P [] ys h = h
all_back P (x ∷ xs) ys h = all_back P xs ys (All-tail P x (xs ++ ys) h)

-- what was found missing by a front of the answers
pub front_found : (P : ℕ × Found → Type 0) (gather : List Told → Gathering) (before told rest : List Told) → All P (found_missing gather before (told ++ rest)) → All P (found_missing gather before told)
front_found P gather before [] rest h = All-nil P
front_found P gather before (Told.Missing reason ∷ told) rest h =
    both (map (λ server. (server, reason)) (asked_next (gather before))) (found_missing gather (before ++ Told.Missing reason ∷ []) told)
    (all_front P (map (λ server. (server, reason)) (asked_next (gather before))) (found_missing gather (before ++ Told.Missing reason ∷ []) (told ++ rest)) h)
    (front_found P gather (before ++ Told.Missing reason ∷ []) told rest (all_back P (map (λ server. (server, reason)) (asked_next (gather before))) (found_missing gather (before ++ Told.Missing reason ∷ []) (told ++ rest)) h))
  where
    both : (xs ys : List (ℕ × Found)) → All P xs → All P ys → All P (xs ++ ys)
    both [] ys one two = two
    both (x ∷ xs) ys one two = All-cons P x (xs ++ ys) (All-head P x xs one) (both xs ys (All-tail P x xs one) two)
front_found P gather before (answer ∷ told) rest h = front_found P gather (before ++ answer ∷ []) told rest h

-- of servers by their answers, of their entries
pub named_all : (P : ℕ → Found → Type 0) (missing : List Lost) → All (λ (found : ℕ × Found). P found.0 found.1) (map (λ (lost : Lost). (lost.server, lost.found)) missing) → All (λ (lost : Lost). P lost.server lost.found) missing
named_all P [] h = All-nil (λ (lost : Lost). P lost.server lost.found)
named_all P (lost ∷ missing) h =
    All-cons (λ (l : Lost). P l.server l.found) lost missing
    (All-head (λ (found : ℕ × Found). P found.0 found.1) (lost.server, lost.found) (map (λ (l : Lost). (l.server, l.found)) missing) h)
    (named_all P missing (All-tail (λ (found : ℕ × Found). P found.0 found.1) (lost.server, lost.found) (map (λ (l : Lost). (l.server, l.found)) missing) h))

module _ (g : Shape) (P : Seen → ℕ → Found → Type 0) (W : Seen → Type 0) where
  -- these servers lost their chunks of a stripe that was looked at
  pub record Lacks (stripe : ℕ) (missing : List Lost) : Type 0 where
    pub seen : Seen
    pub looked : W seen
    pub of_stripe : seen.stripe ≡ stripe
    pub lost : All (λ (one : Lost). P seen one.server one.found) missing
    pub apart : AreApart g seen missing

  -- of a part that has come to its end without its bytes
  pub part_lacks : (R : List Told → Type 0) (part : Part) (told rest : List Told) (missing : List Lost) → W part.seen → PartHeard g P R part told → gather_part g part told ≡ Gathering.TooMany missing rest → Lacks part.seen.stripe missing
  part_lacks R part told rest missing there heard e =
      record {
        seen = part.seen;
        looked = there;
        of_stripe = refl;
        lost =
            named_all (P part.seen) missing
            (subst (All (λ (found : ℕ × Found). P part.seen found.0 found.1)) (sym names.named)
            (front_found (λ (found : ℕ × Found). P part.seen found.0 found.1) (gather_part g part) [] names.front rest
            (subst (λ (l : List Told). All (λ (found : ℕ × Found). P part.seen found.0 found.1) (found_missing (gather_part g part) [] l)) names.told_is heard.lost)));
        apart = gatherings_end.part_apart g part told rest missing e;
      }
    where
      names : NamesTheAsked (gather_part g part) told rest missing
      names = gatherings_end.part_asked g part told rest missing e

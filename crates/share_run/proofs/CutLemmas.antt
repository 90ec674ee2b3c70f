-- Shares that are put into their places.
use Rattle.std.proofs.Common.{◌≡◌, ◌<◌, ◌≤◌, ◌+◌, ℕ, List, [], ◌∷◌, ◌++◌, length, map, take, get_or, sym, ◌∙◌, ap, arith}
use Rattle.std.proofs.lemmas.List.{get_or-map, length-map, take_all}
use Rattle.clay_aloof.specs.Shape.{all_chunks}
use Rattle.share_files.specs.Cut.{AreCut}
use Rattle.share_run.specs.Places.{Filled, filled, filled_from}
use Rattle.share_run.specs.Cut.{CutRun, SharesPlaced}
use Rattle.share_run.proofs.PlaceLemmas.{place_next}

-- one more of the files of some sinks
pub sink_next : {X : Type 0} (file : X → List ℕ) (xs : List X) (i : ℕ) (x : X) (before now after : List Filled) → i < length xs → x ≡ get_or xs i x →
    now ≡ before ++ filled_from 0 (take i (map file xs)) → after ≡ now ++ filled i (file x) ∷ [] →
    after ≡ before ++ filled_from 0 (take (i + 1) (map file xs))
sink_next file xs i x before now after less is was then_ =
    let long : length (map file xs) ≡ length xs = length-map xs file in
    place_next before now after (map file xs) i (file x) (omega (arith, long, less)) (ap file is ∙ sym (get_or-map file xs i x [] less)) was then_

-- all of them
pub sinks_all : {X : Type 0} (file : X → List ℕ) (xs : List X) (n : ℕ) (before after : List Filled) → length xs ≤ n →
    after ≡ before ++ filled_from 0 (take n (map file xs)) → after ≡ before ++ filled_from 0 (map file xs)
sinks_all file xs n before after all so =
    let long : length (map file xs) ≡ length xs = length-map xs file in
    so ∙ ap (λ l. before ++ filled_from 0 l) (take_all n (map file xs) (omega (arith, long, all)))

-- the shares of all sinks
pub placed_all : {X : Type 0} (r : CutRun) (file : X → List ℕ) (xs : List X) → length xs ≡ all_chunks r.shape →
    AreCut r.shape r.old.given r.old.left r.new.given r.new.left r.new.ended (map file xs) →
    r.after.files ≡ r.before.files ++ filled_from 0 (map file xs) → SharesPlaced r (all_chunks r.shape)
placed_all r file xs count are so =
    let long : length (map file xs) ≡ length xs = length-map xs file in
    record {
      files = map file xs;
      size = long ∙ count;
      cut = are;
      placed = so ∙ ap (λ l. r.before.files ++ filled_from 0 l) (sym (take_all (all_chunks r.shape) (map file xs) (omega (arith, long, count))));
    }

-- those of the first so many
pub placed_some : {X : Type 0} (r : CutRun) (file : X → List ℕ) (xs : List X) (n : ℕ) → length xs ≡ all_chunks r.shape →
    AreCut r.shape r.old.given r.old.left r.new.given r.new.left r.new.ended (map file xs) →
    r.after.files ≡ r.before.files ++ filled_from 0 (take n (map file xs)) → SharesPlaced r n
placed_some r file xs n count are so = record { files = map file xs; size = length-map xs file ∙ count; cut = are; placed = so }

-- Values are taken from piles in rising order of their numbers.
use Rattle.std.proofs.Common.{◌≡◌, ℕ, zero, suc, ◌+◌, ◌-◌, ◌<◌, ◌%◌, All, List, [], ◌∷◌, ◌++◌, length, length-set, map, get_or, set, slice_get, option_map, Some, Vec, refl, sym, ap, subst, ◌∙◌, add-one, arith}
use Rattle.std.proofs.lemmas.List.{map-append}
use Rattle.std.proofs.lemmas.List.Elements.{All-nil, All-push}
use Rattle.std.proofs.lemmas.Nat.{mod_below}
use Rattle.std.proofs.lemmas.Option.{slice_get-map}
use Rattle.std.specs.Global.{Global}
use Rattle.std.specs.List.{range_with_len}
use Rattle.turn_lock.proofs.JoinedLists.{at_end, each_changed, front, map_set}
use Rattle.turn_lock.specs.Numbered.{AreAllSpread, AreSpread, IsOn}
use Rattle.turn_lock.specs.Piles.{items_of}
use Rattle.turn_lock.proofs.RowLists.{got}
use Rattle.turn_lock.proofs.Spreading.{some_there, spread_left, taken_number}

range_push : (from count : ℕ) → range_with_len from (count + 1) ≡ range_with_len from count ++ (from + count) ∷ []
range_push from zero = let same : from ≡ from + 0 = omega arith in ap (λ (n : ℕ). n ∷ []) same
range_push from (suc count) =
    let later : from + 1 + count ≡ from + suc count = omega arith in
    ap (range_with_len from) (add-one (suc count))
    ∙ ap (λ l. from ∷ l) (ap (range_with_len (from + 1)) (sym (add-one count)) ∙ range_push (from + 1) count ∙ ap (λ (n : ℕ). range_with_len (from + 1) count ++ n ∷ []) later)

-- those below a number are taken
pub record AreTaken {X : Type 0} (old now : List (List X)) (count next : ℕ) (values : List X) : Type 0 where
  pub wide : length now ≡ length old
  pub spread : (number : X → ℕ) → AreAllSpread number count old → AreSpread number next (count - next) now
  pub numbers : (number : X → ℕ) → AreAllSpread number count old → map number values ≡ range_with_len 0 next
  pub stay : (value : X) → IsOn now value → IsOn old value
  pub from : All (IsOn old) values

pub taken_begins : {X : Type 0} (old : List (List X)) (count : ℕ) (values : List X) → values ≡ [] → AreTaken old old count 0 values
taken_begins {X} old count values none =
    let whole : count ≡ count - 0 = omega arith in
    subst (AreTaken old old count 0) (sym none)
    (record {
      wide = refl;
      spread = λ number are. subst (λ (n : ℕ). AreSpread number 0 n old) whole are.spread;
      numbers = λ number are. refl;
      stay = λ value on. on;
      from = All-nil (IsOn old);
    })

module _ {X : Type 0} (old : List (List X)) (count next : ℕ) (piles : List (Vec X Global)) (values : List X) (are : AreTaken old (items_of piles) count next values) (less : next < count) (some : 0 < length old)
    (before : Vec X Global) (read : before ≡ get_or piles (next % length piles) before) where
  wide_items : (ps : List (Vec X Global)) → length (items_of ps) ≡ length ps
  wide_items [] = refl
  wide_items (p ∷ ps) = ap suc (wide_items ps)

  within : next % length piles < length piles
  within = mod_below next (length piles) (let wide = wide_items piles in omega (arith, some, are.wide, wide))

  there : slice_get (items_of piles) (next % length piles) ≡ Some before.items
  there = slice_get-map (λ (pile : Vec X Global). pile.items) piles (next % length piles) ∙ ap (option_map (λ (pile : Vec X Global). pile.items)) (got piles (next % length piles) before within read)

  there_items : slice_get (items_of piles) (next % length (items_of piles)) ≡ Some before.items
  there_items = subst (λ (n : ℕ). slice_get (items_of piles) (next % n) ≡ Some before.items) (sym (wide_items piles)) there

  spread_more : (number : X → ℕ) → AreAllSpread number count old → AreSpread number next (count - (next + 1) + 1) (items_of piles)
  spread_more number all = let left : count - next ≡ count - (next + 1) + 1 = omega (arith, less) in subst (λ (n : ℕ). AreSpread number next n (items_of piles)) left (are.spread number all)

  pub next_there : (number : X → ℕ) → AreAllSpread number count old → 0 < length before.items
  next_there number all = some_there number next (count - (next + 1)) (items_of piles) (spread_more number all) before.items there_items

  module _ (after : Vec X Global) (value : X) (more : List X) (taken : before.items ≡ after.items ++ value ∷ []) (pushed : more ≡ values ++ value ∷ []) where
    set_items : items_of (set piles (next % length piles) after) ≡ set (items_of piles) (next % length piles) after.items
    set_items = map_set (λ (pile : Vec X Global). pile.items) piles (next % length piles) after

    value_on : IsOn (items_of piles) value
    value_on = record {
      place = next % length piles;
      pile = before.items;
      there = there;
      at = length after.items;
      stands = ap (λ (l : List X). slice_get l (length after.items)) taken ∙ at_end after.items value;
    }

    stay_on : (v : X) → IsOn (set (items_of piles) (next % length piles) after.items) v → IsOn (items_of piles) v
    stay_on v on =
        each_changed (λ (j : ℕ) (p : List X). (k : ℕ) → slice_get p k ≡ Some v → IsOn (items_of piles) v) (items_of piles) (next % length piles) after.items
        (λ j p apart e k f. record { place = j; pile = p; there = e; at = k; stands = f })
        (λ k f. record {
          place = next % length piles;
          pile = before.items;
          there = there;
          at = k;
          stands = ap (λ (l : List X). slice_get l k) taken ∙ front after.items (value ∷ []) k v f;
        })
        on.place on.pile on.there on.at on.stands

    left_now : (number : X → ℕ) → AreAllSpread number count old → AreSpread number (next + 1) (count - (next + 1)) (set (items_of piles) (next % length piles) after.items)
    left_now number all =
        subst (λ (n : ℕ). AreSpread number (next + 1) (count - (next + 1)) (set (items_of piles) (next % n) after.items)) (wide_items piles)
        (spread_left number next (count - (next + 1)) (items_of piles) (spread_more number all) before.items there_items after.items value taken)

    numbers_now : (number : X → ℕ) → AreAllSpread number count old → map number (values ++ value ∷ []) ≡ range_with_len 0 (next + 1)
    numbers_now number all =
        let its : number value ≡ 0 + next = taken_number number next (count - (next + 1)) (items_of piles) (spread_more number all) before.items there_items after.items value taken ∙ at_zero in
        map-append number values (value ∷ []) ∙ ((λ i. are.numbers number all i ++ its i ∷ []) ∙ sym (range_push 0 next))
      where
        at_zero : next ≡ 0 + next
        at_zero = omega arith

    pub taken_goes_on : AreTaken old (items_of (set piles (next % length piles) after)) count (next + 1) more
    taken_goes_on =
        subst (AreTaken old (items_of (set piles (next % length piles) after)) count (next + 1)) (sym pushed)
        (subst (λ (l : List (List X)). AreTaken old l count (next + 1) (values ++ value ∷ [])) (sym set_items)
        (record {
          wide = length-set (items_of piles) (next % length piles) after.items ∙ are.wide;
          spread = left_now;
          numbers = numbers_now;
          stay = λ v on. are.stay v (stay_on v on);
          from = All-push (IsOn old) values value are.from (are.stay value value_on);
        }))

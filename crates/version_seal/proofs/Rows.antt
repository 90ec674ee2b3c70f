-- The rows that hold versions.
use Rattle.std.proofs.Common.{◌≡◌, ℕ, suc, ◌+◌, ◌-◌, ◌*◌, ◌/◌, ◌%◌, ◌^◌, ◌<◌, ◌≤◌, List, [], ◌∷◌, ◌++◌, length, take, drop, get_or, min, sym, ap, ◌∙◌, arith, length-take, length-drop}
use Rattle.std.proofs.lemmas.Nat.{div-add-mod', div_below, le-div, mod_below}
use Rattle.std.proofs.lemmas.List.{get_or-take, get_or-drop, take_more}

-- one row more
pub names-more : (names home : List ℕ) (from at row : ℕ) → from ≤ at → suc at < length home → names ≡ take (at - from) (drop (suc from) home) → row ≡ get_or home (suc at) 0
    → names ++ row ∷ [] ≡ take (at + 1 - from) (drop (suc from) home)
names-more names home from at row order below so_far is =
    let rest : List ℕ = drop (suc from) home in
    let place : ℕ = at - from in
    let same : suc from + place ≡ suc at = omega (arith, order) in
    let within : place < length rest = omega (arith, order, below, length-drop (suc from) home) in
    let next : get_or rest place 0 ≡ row = get_or-drop (suc from) home place 0 ∙ ap (λ n. get_or home n 0) same ∙ sym is in
    let further : place + 1 ≡ at + 1 - from = omega (arith, order) in
    ap (λ list. list ++ row ∷ []) so_far ∙ ap (λ r. take place rest ++ r ∷ []) (sym next) ∙ sym (take_more rest place 0 within) ∙ ap (λ n. take n rest) further

-- a version's row comes before the first that begins past it
before-end : (version end : ℕ) → version < end → version / 4096 < (end + 4095) / 4096
before-end version end below =
    let parts : version / 4096 * 4096 + version % 4096 ≡ version = div-add-mod' version 4096 in
    let fits : (version / 4096 + 1) * 4096 ≤ end + 4095 = omega (arith, parts, below) in
    let there : version / 4096 + 1 ≤ (end + 4095) / 4096 = le-div (version / 4096 + 1) (end + 4095) 4096 (omega arith) fits in
    omega (arith, there)

-- rows rise with versions
pub rows-rise : (first version : ℕ) → first ≤ version → first / 4096 ≤ version / 4096
rows-rise first version order =
    let parts : first / 4096 * 4096 + first % 4096 ≡ first = div-add-mod' first 4096 in
    le-div (first / 4096) version 4096 (omega arith) (omega (arith, parts, order))

-- as many rows as hold the versions below an end that is within the rows
pub rows-enough : (end rows : ℕ) → end ≤ rows * 4096 → (end + 4095) / 4096 ≤ rows
rows-enough end rows within =
    let below : (end + 4095) / 4096 < rows + 1 = div_below (end + 4095) 4096 (rows + 1) (omega arith) (omega (arith, within)) in
    omega (arith, below)

-- the row of a version within the room
pub record IsRowOf (names home : List ℕ) (first version : ℕ) : Type 0 where
  pub in_book : suc (version / 4096) < length home
  pub in_room : version / 4096 - first / 4096 < length names
  pub of_book : get_or names (version / 4096 - first / 4096) 0 ≡ get_or home (suc (version / 4096)) 0

pub row-in-room : (names home : List ℕ) (first count version : ℕ) → (first + count + 4095) / 4096 < length home
    → names ≡ take ((first + count + 4095) / 4096 - first / 4096) (drop (suc (first / 4096)) home) → first ≤ version → version < first + count
    → IsRowOf names home first version
row-in-room names home first count version there are from below =
    let until : ℕ = (first + count + 4095) / 4096 in
    let start : ℕ = first / 4096 in
    let row : ℕ = version / 4096 in
    let rest : List ℕ = drop (suc start) home in
    let rises : start ≤ row = rows-rise first version from in
    let early : row < until = before-end version (first + count) below in
    let place : row - start < until - start = omega (arith, rises, early) in
    let same : suc start + (row - start) ≡ suc row = omega (arith, rises) in
    let long : length names ≡ min (until - start) (length rest) = ap length are ∙ length-take (until - start) rest in
    let left : length rest ≡ length home - suc start = length-drop (suc start) home in
    record {
      in_book = omega (arith, early, there);
      in_room = omega (arith, place, long, left, there, rises, early);
      of_book =
          ap (λ list. get_or list (row - start) 0) are
          ∙ get_or-take (until - start) rest (row - start) 0 place
          ∙ get_or-drop (suc start) home (row - start) 0
          ∙ ap (λ n. get_or home n 0) same;
    }

-- a version whose row is in a book of so few rows
pub low-version : (version rows : ℕ) → suc (version / 4096) < suc rows → rows ≤ 65536 → version < 2 ^ 28
low-version version rows there few =
    let parts : version / 4096 * 4096 + version % 4096 ≡ version = div-add-mod' version 4096 in
    let rest : version % 4096 < 4096 = mod_below version 4096 (omega arith) in
    let row : version / 4096 < 65536 = omega (arith, there, few) in
    omega (arith, parts, rest, row)

-- Chunks of which one is written, and chunks that grow by a group of layers.
use Rattle.std.proofs.Common.{◌≡◌, ℕ, zero, suc, subst, ◌+◌, ◌*◌, ◌/◌, ◌%◌, ◌<◌, List, [], ◌∷◌, length, get_or, set, refl, sym, ap, ◌∙◌, arith, Vec, Global}
use Rattle.std.proofs.lemmas.Nat.{mod_below, div_below}
use Rattle.std.proofs.Math.Nat.{mul_comm, mul-add-div_right, mul-add-mod_self_right}
use Rattle.clay_model.specs.Chunks.{contents}
use Rattle.clay_parity.specs.Blocks.{HoldsGroup, coupled_of, piece_bytes, Appends}
use Rattle.clay_parity.proofs.BlockPlaces.{group_coupled, Appends-then}

pub contents_set : (vs : List (Vec ℕ Global)) (i : ℕ) (v : Vec ℕ Global) → contents (set vs i v) ≡ set (contents vs) i v.items
contents_set [] i v = refl
contents_set (u ∷ vs) zero v = refl
contents_set (u ∷ vs) (suc i) v = ap (λ l. u.items ∷ l) (contents_set vs i v)

pub contents_at : (vs : List (Vec ℕ Global)) (i : ℕ) (d : Vec ℕ Global) → i < length vs → get_or (contents vs) i [] ≡ (get_or vs i d).items
contents_at [] i d h = absurd (omega arith)
contents_at (v ∷ vs) zero d h = refl
contents_at (v ∷ vs) (suc i) d h = contents_at vs i d (omega arith)

pub length-contents : (vs : List (Vec ℕ Global)) → length (contents vs) ≡ length vs
length-contents [] = refl
length-contents (v ∷ vs) = ap suc (length-contents vs)

-- the bytes of a row in a group, by their places in the chunk
pub group_bytes : (m w number : ℕ) (value : ℕ → ℕ → ℕ → ℕ) (group : List ℕ) (x o : ℕ) → 0 < w → x < m → o < m * w → HoldsGroup m w number m value group
    → piece_bytes m w group x o ≡ coupled_of m value x ((number * (m * w) + o) / w) ((number * (m * w) + o) % w)
group_bytes m w number value group x o wide hx h holds =
    let turn : m * w ≡ w * m = mul_comm m w in
    let grouped : number * (m * w) ≡ number * m * w = omega arith in
    group_coupled m w number value group holds x (o / w) (o % w) hx (div_below o w m wide (omega arith)) (mod_below o w wide)
    ∙ (λ i. coupled_of m value x (sym (ap (λ v. (v + o) / w) grouped ∙ mul-add-div_right wide (number * m) o) i) (sym (ap (λ v. (v + o) % w) grouped ∙ mul-add-mod_self_right (number * m) w o) i))

-- one group more of a row
pub Appends-group : (m w number : ℕ) (value : ℕ → ℕ → ℕ → ℕ) (group : List ℕ) (x : ℕ) (old mid new : List ℕ) → 0 < w → x < m
    → HoldsGroup m w number m value group
    → Appends (number * (m * w)) (λ o. coupled_of m value x (o / w) (o % w)) old mid
    → Appends (m * w) (piece_bytes m w group x) mid new
    → Appends ((number + 1) * (m * w)) (λ o. coupled_of m value x (o / w) (o % w)) old new
Appends-group m w number value group x old mid new wide hx holds a n =
    let next : number * (m * w) + m * w ≡ (number + 1) * (m * w) = omega arith in
    subst (λ c. Appends c (λ o. coupled_of m value x (o / w) (o % w)) old new) next
    (Appends-then (number * (m * w)) (m * w) (λ o. coupled_of m value x (o / w) (o % w)) (piece_bytes m w group x) old mid new
    (λ o h. group_bytes m w number value group x o wide hx h holds) a n)

-- What is written is read back.
use Rattle.std.proofs.Common.{◌≡◌, ℕ, List, [], ◌∷◌, ◌++◌, length, None, Some, refl, ap, ◌∙◌}
use Rattle.std.proofs.lemmas.List.{append_assoc}
use Rattle.std.specs.List.{flat_map}
use Rattle.dir_parts.specs.Codec.{Codec, number, both, as_other, read_many, many, optional}

-- a value that is read where it was written, whatever comes after
abbrev pub ReadsBack : {X : Type 0} → Codec X → Type 0
ReadsBack {X} x = (v : X) (rest : List ℕ) → x.read (x.write v ++ rest) ≡ (v, rest)

pub number_back : ReadsBack number
number_back v rest = refl

pub both_back : {X Y : Type 0} (x : Codec X) (y : Codec Y) → ReadsBack x → ReadsBack y → ReadsBack (both x y)
both_back {X} {Y} x y from_x from_y v rest =
    let first : x.read ((x.write v.0 ++ y.write v.1) ++ rest) ≡ (v.0, y.write v.1 ++ rest) = ap x.read (append_assoc (x.write v.0) (y.write v.1) rest) ∙ from_x v.0 (y.write v.1 ++ rest) in
    (λ i. (((first i).0, (y.read (first i).1).0), (y.read (first i).1).1)) ∙ ap (λ (q : Y × List ℕ). ((v.0, q.0), q.1)) (from_y v.1 rest)

pub other_back : {X Y : Type 0} (y : Codec Y) (to : X → Y) (from : Y → X) → ((v : X) → from (to v) ≡ v) → ReadsBack y → ReadsBack (as_other y to from)
other_back {X} {Y} y to from back from_y v rest =
    ap (λ (q : Y × List ℕ). (from q.0, q.1)) (from_y (to v) rest) ∙ ap (λ (w : X). (w, rest)) (back v)

pub many_back : {X : Type 0} (x : Codec X) → ReadsBack x → ReadsBack (many x)
many_back {X} x from_x v rest = each v
  where
    each : (xs : List X) → read_many x (length xs) (flat_map x.write xs ++ rest) ≡ (xs, rest)
    each [] = refl
    each (w ∷ ws) =
        let first : x.read ((x.write w ++ flat_map x.write ws) ++ rest) ≡ (w, flat_map x.write ws ++ rest) = ap x.read (append_assoc (x.write w) (flat_map x.write ws) rest) ∙ from_x w (flat_map x.write ws ++ rest) in
        (λ i. ((first i).0 ∷ (read_many x (length ws) (first i).1).0, (read_many x (length ws) (first i).1).1))
        ∙ ap (λ (q : List X × List ℕ). (w ∷ q.0, q.1)) (each ws)

pub optional_back : ReadsBack optional
optional_back None rest = refl
optional_back (Some n) rest = refl

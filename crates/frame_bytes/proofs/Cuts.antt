-- An input is cut into frames in one way.
use Rattle.std.proofs.Common.{◌≡◌, ℕ, zero, suc, ◌+◌, ◌^◌, ◌<◌, ◌≤◌, nat_le, Bool, true, false, ◌&&◌, List, [], ◌∷◌, ◌++◌, length, take, drop, flat_map, Option, None, Some, All, IsTrue, refl, sym, ap, subst, ◌∙◌, arith, if◌then◌else◌}
use Rattle.std.specs.Int.{w32, from_be_bytes}
use Rattle.std.proofs.lemmas.Bool.{le-leb, leb-true, and_parts}
use Rattle.std.proofs.lemmas.Option.{same_Some, none-some}
use Rattle.std.proofs.lemmas.List.{append_assoc, length-append, take_at, drop_at, take-append-drop, length-take-le}
use Rattle.std.proofs.lemmas.List.Elements.{All-cons}
use Rattle.byteorder.specs.Endian.{big_bytes}
use Rattle.session_rules.specs.Input.{framed, most_frame, is_frame_length, first_frame, frames_after, frames_by}
use Rattle.frame_bytes.specs.Cuts.{IsCut, InputsAreCut, CutsAreTheOnlyOnes}
use Rattle.frame_bytes.proofs.Numbers.{number_at, number_read, number_written}

pub all_tail : {X : Type 0} (P : X → Type 0) (x : X) (xs : List X) → All P (x ∷ xs) → All P xs
all_tail P x xs all = λ k d h. all (suc k) d (omega (arith, h))

pub all_head : {X : Type 0} (P : X → Type 0) (x : X) (xs : List X) → All P (x ∷ xs) → P x
all_head P x xs all = all 0 x (omega arith)

-- what is read after a length
abbrev after_length : ℕ → List ℕ → Option (List ℕ × List ℕ)
after_length count left = if is_frame_length count && nat_le count (length left) then Some (take count left, drop count left) else None

length_fits : (n : ℕ) → is_frame_length n ≡ true → n < 2 ^ 32
length_fits n e = let most : n ≤ 1048700 = leb-true n most_frame (and_parts (nat_le 1 n) (nat_le n most_frame) e).1 in omega (arith, most)

-- a frame that was written stands first
frame_read : (frame rest : List ℕ) → is_frame_length (length frame) ≡ true → first_frame (framed frame ++ rest) ≡ Some (frame, rest)
frame_read frame rest e =
    ap first_frame (append_assoc (big_bytes 4 (length frame)) frame rest)
    ∙ number_read after_length (length frame) (frame ++ rest) (length_fits (length frame) e)
    ∙ ap (λ b. if b && nat_le (length frame) (length (frame ++ rest)) then Some (take (length frame) (frame ++ rest), drop (length frame) (frame ++ rest)) else None) e
    ∙ ap (λ b. if b then Some (take (length frame) (frame ++ rest), drop (length frame) (frame ++ rest)) else None) (le-leb (length frame) (length (frame ++ rest)) enough)
    ∙ ap (λ l. let pair : List ℕ × List ℕ = (l, drop (length frame) (frame ++ rest)) in Some pair) (take_at frame rest (length frame) refl)
    ∙ ap (λ l. let pair : List ℕ × List ℕ = (frame, l) in Some pair) (drop_at frame rest (length frame) refl)
  where
    enough : length frame ≤ length (frame ++ rest)
    enough = let both : length (frame ++ rest) ≡ length frame + length rest = length-append frame rest in omega (arith, both)

-- with fuel enough, frames that were written are read
pub frames_read : (fuel : ℕ) (frames : List (List ℕ)) (left : List ℕ) → length frames ≤ fuel → All (λ frame. IsTrue (is_frame_length (length frame))) frames → first_frame left ≡ None →
    frames_by fuel (flat_map framed frames ++ left) ≡ (frames, left)
frames_read zero [] left enough lengths ends = refl
frames_read (suc fuel) [] left enough lengths ends = ap (frames_after (frames_by fuel) left) ends
frames_read zero (frame ∷ frames) left enough lengths ends = absurd (omega (arith, enough))
frames_read (suc fuel) (frame ∷ frames) left enough lengths ends =
    let rest : List ℕ = flat_map framed frames ++ left in
    let shape : flat_map framed (frame ∷ frames) ++ left ≡ framed frame ++ rest = append_assoc (framed frame) (flat_map framed frames) left in
    let tail : frames_by fuel rest ≡ (frames, left) = frames_read fuel frames left (omega (arith, enough)) (all_tail (λ frame. IsTrue (is_frame_length (length frame))) frame frames lengths) ends in
    ap (frames_by (suc fuel)) shape
    ∙ ap (frames_after (frames_by fuel) (framed frame ++ rest)) (frame_read frame rest (all_head (λ frame. IsTrue (is_frame_length (length frame))) frame frames lengths))
    ∙ ap (λ (cut : List (List ℕ) × List ℕ). let all : List (List ℕ) × List ℕ = (frame ∷ cut.0, cut.1) in all) tail

-- as many bytes at least as there are frames
pub count_less : (frames : List (List ℕ)) (left : List ℕ) → length frames ≤ length (flat_map framed frames ++ left)
count_less [] left = omega arith
count_less (frame ∷ frames) left =
    let rest : length frames ≤ length (flat_map framed frames ++ left) = count_less frames left in
    let shape : length (flat_map framed (frame ∷ frames) ++ left) ≡ length (framed frame ++ (flat_map framed frames ++ left)) = ap length (append_assoc (framed frame) (flat_map framed frames) left) in
    let one : length (framed frame ++ (flat_map framed frames ++ left)) ≡ length (framed frame) + length (flat_map framed frames ++ left) = length-append (framed frame) (flat_map framed frames ++ left) in
    let four : length (framed frame) ≡ 4 + length frame = length-append (big_bytes 4 (length frame)) frame in
    omega (arith, rest, shape, one, four)

pub cuts_are_the_only_ones : CutsAreTheOnlyOnes
cuts_are_the_only_ones bytes frames left cut =
    ap (λ b. frames_by (length b) b) cut.whole
    ∙ frames_read (length (flat_map framed frames ++ left)) frames left (count_less frames left) cut.lengths cut.ends

-- ---- the frame that stands first is there
record IsFirst (bytes : List ℕ) (first : List ℕ × List ℕ) : Type 0 where
  whole : bytes ≡ framed first.0 ++ first.1
  right : is_frame_length (length first.0) ≡ true

first_by : (n : ℕ) (head rest : List ℕ) (first : List ℕ × List ℕ) → big_bytes 4 n ≡ head → after_length n rest ≡ Some first → IsFirst (head ++ rest) first
first_by n head rest first four e = by (is_frame_length n && nat_le n (length rest)) refl
  where
    by : (t : Bool) → (is_frame_length n && nat_le n (length rest)) ≡ t → IsFirst (head ++ rest) first
    by false is = absurd (none-some first (sym (ap (λ t. if t then Some (take n rest, drop n rest) else None) is) ∙ e))
    by true is =
        let parts : (is_frame_length n ≡ true) × (nat_le n (length rest) ≡ true) = and_parts (is_frame_length n) (nat_le n (length rest)) is in
        let count : length (take n rest) ≡ n = length-take-le n rest (leb-true n (length rest) parts.1) in
        let same : (take n rest, drop n rest) ≡ first = same_Some {A = List ℕ × List ℕ} (take n rest, drop n rest) first (sym (ap (λ t. if t then Some (take n rest, drop n rest) else None) is) ∙ e) in
        let here : IsFirst (head ++ rest) (take n rest, drop n rest) =
        record {
          whole =
              ap (λ l. l ++ rest) (sym four) ∙ ap (λ l. big_bytes 4 n ++ l) (sym (take-append-drop n rest)) ∙ ap (λ m. big_bytes 4 m ++ (take n rest ++ drop n rest)) (sym count)
              ∙ sym (append_assoc (big_bytes 4 (length (take n rest))) (take n rest) (drop n rest));
          right = ap is_frame_length count ∙ parts.0;
        } in
        subst (IsFirst (head ++ rest)) same here

first_is : (bytes : List ℕ) (first : List ℕ × List ℕ) → All (λ byte. byte < 256) bytes → first_frame bytes ≡ Some first → IsFirst bytes first
first_is [] first all e = absurd (none-some first e)
first_is (a ∷ []) first all e = absurd (none-some first e)
first_is (a ∷ b ∷ []) first all e = absurd (none-some first e)
first_is (a ∷ b ∷ c ∷ []) first all e = absurd (none-some first e)
first_is (a ∷ b ∷ c ∷ d ∷ rest) first all e =
    first_by (from_be_bytes w32 (a ∷ b ∷ c ∷ d ∷ [])) (a ∷ b ∷ c ∷ d ∷ []) rest first
    (number_written a b c d (all 0 0 (omega arith)) (all 1 0 (omega arith)) (all 2 0 (omega arith)) (all 3 0 (omega arith))) (sym (number_at after_length a b c d rest) ∙ e)

pub all_right : {X : Type 0} (P : X → Type 0) (xs ys : List X) → All P (xs ++ ys) → All P ys
all_right P [] ys all = all
all_right P (x ∷ xs) ys all = all_right P xs ys (all_tail P x (xs ++ ys) all)

abbrev are_cut : ℕ → List ℕ → Type 0
are_cut fuel bytes = length bytes ≤ fuel → All (λ byte. byte < 256) bytes → IsCut bytes (frames_by fuel bytes).0 (frames_by fuel bytes).1

cut_of : (fuel : ℕ) (bytes : List ℕ) → are_cut fuel bytes
cut_of zero [] enough all = record { whole = refl; lengths = λ k d less. absurd (omega (arith, less)); ends = refl }
cut_of zero (byte ∷ bytes) enough all = absurd (omega (arith, enough))
cut_of (suc fuel) bytes enough all = by (first_frame bytes) refl (cut_of fuel)
  where
    by : (found : Option (List ℕ × List ℕ)) → first_frame bytes ≡ found → ((left : List ℕ) → are_cut fuel left) →
        IsCut bytes (frames_after (frames_by fuel) bytes found).0 (frames_after (frames_by fuel) bytes found).1
    by None e on = record { whole = refl; lengths = λ k d less. absurd (omega (arith, less)); ends = e }
    by (Some first) e on = record {
      whole = one.whole ∙ ap (λ l. framed first.0 ++ l) rest.whole ∙ sym (append_assoc (framed first.0) (flat_map framed (frames_by fuel first.1).0) (frames_by fuel first.1).1);
      lengths = All-cons (λ frame. IsTrue (is_frame_length (length frame))) first.0 (frames_by fuel first.1).0 one.right rest.lengths;
      ends = rest.ends;
    }
      where
        one : IsFirst bytes first
        one = first_is bytes first all e

        shorter : length first.1 ≤ fuel
        shorter =
            let a : length bytes ≡ length (framed first.0 ++ first.1) = ap length one.whole in
            let b : length (framed first.0 ++ first.1) ≡ length (framed first.0) + length first.1 = length-append (framed first.0) first.1 in
            let c : length (framed first.0) ≡ 4 + length first.0 = length-append (big_bytes 4 (length first.0)) first.0 in
            omega (arith, a, b, c, enough)

        rest : IsCut first.1 (frames_by fuel first.1).0 (frames_by fuel first.1).1
        rest = on first.1 shorter (all_right (λ byte. byte < 256) (framed first.0) first.1 (subst (All (λ byte. byte < 256)) one.whole all))

pub inputs_are_cut : InputsAreCut
inputs_are_cut bytes all = cut_of (length bytes) bytes (omega arith) all

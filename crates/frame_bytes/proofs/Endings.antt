-- How an input ends, by how it is cut into frames.
use Rattle.std.proofs.Common.{◌≡◌, ℕ, zero, suc, ◌+◌, ◌*◌, ◌^◌, ◌<◌, ◌≤◌, min, nat_lt, not, Bool, true, false, List, [], ◌∷◌, ◌++◌, length, take, flat_map, unwrap_or, Option, Some, All, IsTrue, refl, sym, ap, subst, ◌∙◌, arith, if◌then◌else◌}
use Rattle.std.specs.Int.{w32, from_be_bytes}
use Rattle.std.proofs.lemmas.Bool.{ltb-true, ltb-false, false≢true}
use Rattle.std.proofs.lemmas.List.{length-take}
use Rattle.std.proofs.lemmas.List.Elements.{All-take}
use Rattle.byteorder.specs.Endian.{big_bytes}
use Rattle.session_rules.specs.declared.session_ending.Ending.{Ending}
use Rattle.session_rules.specs.Fields.{Reader}
use Rattle.session_rules.specs.Input.{most_input, framed, is_frame_length, has_wrong_length, frames_by, ending_by, input_of}
use Rattle.frame_bytes.specs.Cuts.{IsCut}
use Rattle.frame_bytes.specs.Endings.{BeginsWrong, EndsAs, IsEnded, InputsEnd}
use Rattle.frame_bytes.proofs.Numbers.{number_at, number_read, number_written}
use Rattle.frame_bytes.proofs.Cuts.{all_right, frames_read, count_less}

abbrev is_wrong : ℕ → Reader Bool
is_wrong count left = Some (not (is_frame_length count))

not_true : (b : Bool) → not b ≡ true → b ≡ false
not_true false e = refl
not_true true e = absurd (false≢true e)

-- such a length is seen
wrong_seen : (left : List ℕ) → BeginsWrong left → has_wrong_length left ≡ true
wrong_seen left wrong =
    ap has_wrong_length wrong.whole
    ∙ ap (λ o. unwrap_or o false) (number_read is_wrong wrong.count wrong.rest wrong.fits)
    ∙ ap not wrong.wrong

-- and what is seen is one
wrong_there : (left : List ℕ) → All (λ byte. byte < 256) left → has_wrong_length left ≡ true → BeginsWrong left
wrong_there [] all e = absurd (false≢true e)
wrong_there (a ∷ []) all e = absurd (false≢true e)
wrong_there (a ∷ b ∷ []) all e = absurd (false≢true e)
wrong_there (a ∷ b ∷ c ∷ []) all e = absurd (false≢true e)
wrong_there (a ∷ b ∷ c ∷ d ∷ rest) all e =
    let first : a < 256 = all 0 0 (omega arith) in
    let second : b < 256 = all 1 0 (omega arith) in
    let third : c < 256 = all 2 0 (omega arith) in
    let fourth : d < 256 = all 3 0 (omega arith) in
    let sum : from_be_bytes w32 (a ∷ b ∷ c ∷ d ∷ []) ≡ a * 16777216 + b * 65536 + c * 256 + d = refl in
    record {
      count = from_be_bytes w32 (a ∷ b ∷ c ∷ d ∷ []);
      rest = rest;
      whole = ap (λ l. l ++ rest) (sym (number_written a b c d first second third fourth));
      fits = omega (arith, first, second, third, fourth, sum);
      wrong =
          not_true (is_frame_length (from_be_bytes w32 (a ∷ b ∷ c ∷ d ∷ [])))
          (sym (ap (λ o. unwrap_or o false) (number_at is_wrong a b c d rest)) ∙ e);
    }

ending_is : (input left : List ℕ) → All (λ byte. byte < 256) left → EndsAs input left (ending_by (nat_lt most_input (length input)) left)
ending_is input left all = by (has_wrong_length left) (nat_lt most_input (length input)) (nat_lt 0 (length left)) refl refl refl
  where
    right : has_wrong_length left ≡ false → BeginsWrong left → ⊥
    right none wrong = false≢true (sym none ∙ wrong_seen left wrong)

    empty : (bytes : List ℕ) → length bytes ≤ 0 → bytes ≡ []
    empty [] few = refl
    empty (byte ∷ bytes) few = absurd (omega (arith, few))

    by : (wrong more some : Bool) → has_wrong_length left ≡ wrong → nat_lt most_input (length input) ≡ more → nat_lt 0 (length left) ≡ some →
        EndsAs input left
        (if wrong then Ending.FrameTooLong else (if more then Ending.InputTooLong else (if some then Ending.TornFrame else Ending.Done)))
    by true more some is_wrong is_more is_some = wrong_there left all is_wrong
    by false true some is_wrong is_more is_some = (right is_wrong, ltb-true most_input (length input) is_more)
    by false false true is_wrong is_more is_some = (right is_wrong, ltb-false most_input (length input) is_more, ltb-true 0 (length left) is_some)
    by false false false is_wrong is_more is_some =
        (ltb-false most_input (length input) is_more, empty left (ltb-false 0 (length left) is_some))

pub inputs_end : InputsEnd
inputs_end input frames left all cut =
    let size : length (take most_input input) ≡ min most_input (length input) = length-take most_input input in
    let same : length (take most_input input) ≡ length (flat_map framed frames ++ left) = ap length cut.whole in
    let enough : length frames ≤ length (flat_map framed frames ++ left) = count_less frames left in
    let found : frames_by (length input) (take most_input input) ≡ (frames, left) =
    ap (frames_by (length input)) cut.whole ∙ frames_read (length input) frames left (omega (arith, size, same, enough)) cut.lengths cut.ends in
    let served : All (λ byte. byte < 256) (take most_input input) = All-take (λ byte. byte < 256) most_input input all in
    record {
      frames_are = ap (λ (c : List (List ℕ) × List ℕ). c.0) found;
      ends =
          subst (EndsAs input left) (sym (ap (λ (c : List (List ℕ) × List ℕ). ending_by (nat_lt most_input (length input)) c.1) found))
          (ending_is input left (all_right (λ byte. byte < 256) (flat_map framed frames) left (subst (All (λ byte. byte < 256)) cut.whole served)));
    }

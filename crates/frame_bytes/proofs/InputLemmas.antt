-- An input is read one frame after another.
use Rattle.std.proofs.Common.{◌≡◌, ◌≤◌, ℕ, zero, suc, ◌+◌, ◌-◌, min, nat_le, nat_lt, ◌&&◌, Bool, true, false, Option, None, Some, List, [], ◌∷◌, ◌++◌, length, take, drop, refl, sym, ap, subst, ◌∙◌, arith, inl, inr, if◌then◌else◌}
use Rattle.std.proofs.lemmas.Bool.{leb-true, le-leb, lt-ltb, le-ltb, cases_lt, and_parts}
use Rattle.std.proofs.lemmas.Option.{none-some, cond_some}
use Rattle.std.proofs.lemmas.List.{length-take, length-drop, length-take-le, length-append, take-take, take_all, take_at, drop-drop, drop-take}
use Rattle.byteorder.specs.Endian.{big_number}
use Rattle.byteorder.specs.Numbers.{big_from-take}
use Rattle.session_rules.specs.declared.session_ending.Ending.{Ending}
use Rattle.session_rules.specs.Input.{is_frame_length, first_frame, frames_after, frames_by, ending_by}
use Rattle.frame_bytes.specs.declared.frame_reading.Next.{Next}
use Rattle.frame_bytes.specs.Next.{next_by, next_of, IsPart}
use Rattle.frame_bytes.specs.Inputs.{rest_of, from_next, part_ending, InputsAreRead}
use Rattle.frame_bytes.proofs.NextLemmas.{number_some, framed_in}

-- of bytes that are there if a test holds
tested : {X : Type 0} (t : Bool) (o : Option X) (x : X) → (if t then o else None) ≡ Some x → (t ≡ true) × (o ≡ Some x)
tested true o x e = (refl, e)
tested false o x e = absurd (none-some x e)

-- a first frame is in the bytes, and the others follow it
abbrev IsSplit : List ℕ → List ℕ × List ℕ → Type 0
IsSplit bytes first = (4 + length first.0 ≤ length bytes) × (first.1 ≡ drop (4 + length first.0) bytes)

split : (bytes : List ℕ) (first : List ℕ × List ℕ) → first_frame bytes ≡ Some first → IsSplit bytes first
split bytes first e = subst (IsSplit bytes) inner.1 here
  where
    outer : (nat_le 4 (length bytes) ≡ true) × ((if is_frame_length (big_number 4 bytes) && nat_le (big_number 4 bytes)
        (length (drop 4 bytes)) then Some
        (take (big_number 4 bytes) (drop 4 bytes), drop (big_number 4 bytes) (drop 4 bytes)) else None) ≡ Some first)
    outer =
        tested (nat_le 4 (length bytes))
        (if is_frame_length (big_number 4 bytes) && nat_le (big_number 4 bytes) (length (drop 4 bytes)) then Some
        (take (big_number 4 bytes) (drop 4 bytes), drop (big_number 4 bytes) (drop 4 bytes)) else None) first e

    inner : ((is_frame_length (big_number 4 bytes) && nat_le (big_number 4 bytes) (length (drop 4 bytes))) ≡ true) × ((
      take (big_number 4 bytes)
          (drop 4 bytes),
      drop (big_number 4 bytes) (drop 4 bytes),
    ) ≡ first)
    inner =
        cond_some (is_frame_length (big_number 4 bytes) && nat_le (big_number 4 bytes) (length (drop 4 bytes)))
        (take (big_number 4 bytes) (drop 4 bytes), drop (big_number 4 bytes) (drop 4 bytes)) first outer.1

    here : IsSplit bytes (take (big_number 4 bytes) (drop 4 bytes), drop (big_number 4 bytes) (drop 4 bytes))
    here =
        let four : 4 ≤ length bytes = leb-true 4 (length bytes) outer.0 in
        let there : big_number 4 bytes ≤ length (drop 4 bytes) =
        leb-true (big_number 4 bytes) (length (drop 4 bytes))
        (and_parts (is_frame_length (big_number 4 bytes)) (nat_le (big_number 4 bytes) (length (drop 4 bytes))) inner.0).1 in
        let size : length (take (big_number 4 bytes) (drop 4 bytes)) ≡ big_number 4 bytes =
        length-take-le (big_number 4 bytes) (drop 4 bytes) there in
        let behind : length (drop 4 bytes) ≡ length bytes - 4 = length-drop 4 bytes in
        let read : 4 + big_number 4 bytes ≡ 4 + length (take (big_number 4 bytes) (drop 4 bytes)) = omega (arith, size) in
        (omega (arith, four, there, size, behind), drop-drop (big_number 4 bytes) 4 bytes ∙ ap (λ m. drop m bytes) read)

-- any fuel is enough that is as great as there are bytes
abbrev are_alike : ℕ → ℕ → Type 0
are_alike m n = (bytes : List ℕ) → length bytes ≤ m → length bytes ≤ n → frames_by m bytes ≡ frames_by n bytes

enough_fuel : (m n : ℕ) → are_alike m n
enough_fuel zero zero bytes a b = refl
enough_fuel zero (suc n) [] a b = refl
enough_fuel zero (suc n) (byte ∷ bytes) a b = absurd (omega (arith, a))
enough_fuel (suc m) zero [] a b = refl
enough_fuel (suc m) zero (byte ∷ bytes) a b = absurd (omega (arith, b))
enough_fuel (suc m) (suc n) bytes a b = by (first_frame bytes) refl (enough_fuel m n)
  where
    by : (found : Option (List ℕ × List ℕ)) → first_frame bytes ≡ found → are_alike m n →
        frames_after (frames_by m) bytes found ≡ frames_after (frames_by n) bytes found
    by None e alike = refl
    by (Some first) e alike =
        let is : IsSplit bytes first = split bytes first e in
        let within : 4 + length first.0 ≤ length bytes = is.0 in
        let left : length first.1 ≡ length bytes - (4 + length first.0) = ap length is.1 ∙ length-drop (4 + length first.0) bytes in
        ap (λ (cut : List (List ℕ) × List ℕ). (first.0 ∷ cut.0, cut.1))
        (alike first.1 (omega (arith, left, within, a)) (omega (arith, left, within, b)))

next_read : (room : ℕ) (bytes : List ℕ) → rest_of room bytes ≡ from_next (next_of room bytes) room bytes
next_read room bytes = by (first_frame (take room bytes)) refl
  where
    served : length (take room bytes) ≡ min room (length bytes)
    served = length-take room bytes

    cut : frames_by (length bytes) (take room bytes) ≡ frames_after (frames_by (length bytes)) (take room bytes) (first_frame (take room bytes))
    cut = enough_fuel (length bytes) (suc (length bytes)) (take room bytes) (omega (arith, served)) (omega (arith, served))

    by : (found : Option (List ℕ × List ℕ)) → first_frame (take room bytes) ≡ found →
        rest_of room bytes ≡ from_next (next_by found (ending_by (nat_lt room (length bytes)) (take room bytes))) room bytes
    by None e =
        ap (λ (c : List (List ℕ) × List ℕ). (c.0, ending_by (nat_lt room (length bytes)) c.1))
        (cut ∙ ap (frames_after (frames_by (length bytes)) (take room bytes)) e)
    by (Some first) e =
        let is : IsSplit (take room bytes) first = split (take room bytes) first e in
        let k : ℕ = 4 + length first.0 in
        let within : 4 + length first.0 ≤ length (take room bytes) = is.0 in
        let whole : room ≡ k + (room - k) = omega (arith, within, served) in
        let seam : first.1 ≡ take (room - k) (drop k bytes) = is.1 ∙ ap (λ m. drop k (take m bytes)) whole ∙ drop-take k (room - k) bytes in
        let left : length (drop k bytes) ≡ length bytes - k = length-drop k bytes in
        let behind : length (take (room - k) (drop k bytes)) ≡ min (room - k) (length (drop k bytes)) = length-take (room - k) (drop k bytes) in
        let same : frames_by (length bytes) first.1 ≡ frames_by (length (drop k bytes)) (take (room - k) (drop k bytes)) =
        ap (frames_by (length bytes)) seam
        ∙ enough_fuel (length bytes) (length (drop k bytes)) (take (room - k) (drop k bytes)) (omega (arith, behind, left)) (omega (arith, behind)) in
        let goes : nat_lt room (length bytes) ≡ nat_lt (room - k) (length (drop k bytes)) =
        elim (cases_lt room (length bytes)) as (λ _. nat_lt room (length bytes) ≡ nat_lt (room - k) (length (drop k bytes))) [
          | inl less ↦ lt-ltb room (length bytes) less ∙ sym (lt-ltb (room - k) (length (drop k bytes)) (omega (arith, less, left, within, served)))
          | inr more ↦ le-ltb room (length bytes) more ∙ sym (le-ltb (room - k) (length (drop k bytes)) (omega (arith, more, left, within, served)))
        ] in
        ap (λ (c : List (List ℕ) × List ℕ). (c.0, ending_by (nat_lt room (length bytes)) c.1))
        (cut ∙ ap (frames_after (frames_by (length bytes)) (take room bytes)) e)
        ∙ ap (λ (c : List (List ℕ) × List ℕ). (first.0 ∷ c.0, ending_by (nat_lt room (length bytes)) c.1)) same
        ∙ ap
        (λ t. (
          first.0 ∷ (frames_by (length (drop k bytes)) (take (room - k) (drop k bytes))).0,
          ending_by t
              (frames_by (length (drop k bytes)) (take (room - k) (drop k bytes))).1,
        ))
        goes

-- a frame stands first
record HasFirst (bytes frame : List ℕ) : Type 0 where
  four : 4 ≤ length bytes
  right : is_frame_length (big_number 4 bytes) ≡ true
  there : big_number 4 bytes ≤ length (drop 4 bytes)
  is : take (big_number 4 bytes) (drop 4 bytes) ≡ frame

first_has : (bytes : List ℕ) (first : List ℕ × List ℕ) → first_frame bytes ≡ Some first → HasFirst bytes first.0
first_has bytes first e =
    let count : ℕ = big_number 4 bytes in
    let left : List ℕ = drop 4 bytes in
    let whole : List ℕ × List ℕ = (take count left, drop count left) in
    let outer : (nat_le 4 (length bytes) ≡ true) × ((if is_frame_length count && nat_le count (length left) then Some whole else None) ≡ Some first) =
    tested (nat_le 4 (length bytes)) (if is_frame_length count && nat_le count (length left) then Some whole else None) first e in
    let inner : ((is_frame_length count && nat_le count (length left)) ≡ true) × (whole ≡ first) =
    cond_some (is_frame_length count && nat_le count (length left)) whole first outer.1 in
    let both : (is_frame_length count ≡ true) × (nat_le count (length left) ≡ true) = and_parts (is_frame_length count) (nat_le count (length left)) inner.0 in
    record {
      four = leb-true 4 (length bytes) outer.0;
      right = both.0;
      there = leb-true count (length left) both.1;
      is = ap (λ (f : List ℕ × List ℕ). f.0) inner.1;
    }

has_first : (bytes frame : List ℕ) → HasFirst bytes frame → first_frame bytes ≡ Some (frame, drop (big_number 4 bytes) (drop 4 bytes))
has_first bytes frame h =
    let count : ℕ = big_number 4 bytes in
    let left : List ℕ = drop 4 bytes in
    number_some framed_in bytes h.four
    ∙ ap (λ t. if t && nat_le count (length left) then Some (take count left, drop count left) else None) h.right
    ∙ ap (λ t. if t then Some (take count left, drop count left) else None) (le-leb count (length left) h.there)
    ∙ ap (λ l. let pair : List ℕ × List ℕ = (l, drop count left) in Some pair) h.is

first_count : (bytes frame : List ℕ) → HasFirst bytes frame → length frame ≡ big_number 4 bytes
first_count bytes frame h = ap length (sym h.is) ∙ length-take-le (big_number 4 bytes) (drop 4 bytes) h.there

-- it stands first in all bytes that begin so
same_first : (k : ℕ) (bytes other frame : List ℕ) → HasFirst bytes frame → k ≡ 4 + length frame → k ≤ length other → take k other ≡ take k bytes →
    HasFirst other frame
same_first k bytes other frame h size there same =
    let count : length frame ≡ big_number 4 bytes = first_count bytes frame h in
    let all : k ≡ 4 + big_number 4 bytes = omega (arith, size, count) in
    let number : big_number 4 other ≡ big_number 4 bytes =
    sym (big_from-take 0 4 k other (omega (arith, size))) ∙ ap (big_number 4) same ∙ big_from-take 0 4 k bytes (omega (arith, size)) in
    let left : length (drop 4 other) ≡ length other - 4 = length-drop 4 other in
    record {
      four = omega (arith, size, there);
      right = ap is_frame_length number ∙ h.right;
      there = omega (arith, number, all, there, left);
      is =
          ap (λ n. take n (drop 4 other)) number
          ∙ sym (drop-take 4 (big_number 4 bytes) other)
          ∙ ap (λ n. drop 4 (take n other)) (sym all)
          ∙ ap (drop 4) same
          ∙ ap (λ n. drop 4 (take n bytes)) all
          ∙ drop-take 4 (big_number 4 bytes) bytes
          ∙ h.is;
    }

-- what stands next is a frame or an ending
abbrev frame_or : List ℕ → Next → List ℕ
frame_or other (Next.Frame frame) = frame
frame_or other (Next.End ending) = other

next_first : (room : ℕ) (bytes frame : List ℕ) → next_of room bytes ≡ Next.Frame frame → HasFirst (take room bytes) frame
next_first room bytes frame e = by (first_frame (take room bytes)) refl
  where
    ending : Ending
    ending = ending_by (nat_lt room (length bytes)) (take room bytes)

    by : (found : Option (List ℕ × List ℕ)) → first_frame (take room bytes) ≡ found → HasFirst (take room bytes) frame
    by None none =
        let is : Next.End ending ≡ Next.Frame frame = sym (ap (λ f. next_by f ending) none) ∙ e in
        let same : 0 ∷ frame ≡ frame = ap (frame_or (0 ∷ frame)) is in
        let size : suc (length frame) ≡ length frame = ap length same in
        absurd (omega (arith, size))
    by (Some first) some =
        let is : Next.Frame first.0 ≡ Next.Frame frame = sym (ap (λ f. next_by f ending) some) ∙ e in
        subst (HasFirst (take room bytes)) (ap (frame_or []) is) (first_has (take room bytes) first some)

frame_within : (room : ℕ) (bytes frame : List ℕ) → next_of room bytes ≡ Next.Frame frame → (4 + length frame ≤ room) × (4 + length frame ≤ length bytes)
frame_within room bytes frame e =
    let h : HasFirst (take room bytes) frame = next_first room bytes frame e in
    let count : length frame ≡ big_number 4 (take room bytes) = first_count (take room bytes) frame h in
    let four : 4 ≤ length (take room bytes) = h.four in
    let there : big_number 4 (take room bytes) ≤ length (drop 4 (take room bytes)) = h.there in
    let left : length (drop 4 (take room bytes)) ≡ length (take room bytes) - 4 = length-drop 4 (take room bytes) in
    let size : length (take room bytes) ≡ min room (length bytes) = length-take room bytes in
    (omega (arith, count, four, there, left, size), omega (arith, count, four, there, left, size))

frame_front : (room : ℕ) (bytes frame more : List ℕ) → next_of room bytes ≡ Next.Frame frame → next_of room (take (4 + length frame) bytes ++ more) ≡ Next.Frame frame
frame_front room bytes frame more e =
    let k : ℕ = 4 + length frame in
    let both : (4 + length frame ≤ room) × (4 + length frame ≤ length bytes) = frame_within room bytes frame e in
    let in_room : 4 + length frame ≤ room = both.0 in
    let front : length (take k bytes) ≡ k = length-take-le k bytes both.1 in
    let other : List ℕ = take k bytes ++ more in
    let all : length other ≡ length (take k bytes) + length more = length-append (take k bytes) more in
    let size : length (take room other) ≡ min room (length other) = length-take room other in
    let same : take k (take room other) ≡ take k (take room bytes) =
    take-take k room other both.0 ∙ take_at (take k bytes) more k front ∙ sym (take-take k room bytes both.0) in
    let h : HasFirst (take room other) frame =
    same_first k (take room bytes) (take room other) frame (next_first room bytes frame e) refl (omega (arith, size, all, front, in_room)) same in
    ap (λ f. next_by f (ending_by (nat_lt room (length other)) (take room other))) (has_first (take room other) frame h)

no_frames : (fuel : ℕ) (bytes : List ℕ) → first_frame bytes ≡ None → frames_by fuel bytes ≡ ([], bytes)
no_frames zero bytes e = refl
no_frames (suc fuel) bytes e = ap (frames_after (frames_by fuel) bytes) e

part_read : (room : ℕ) (got : List ℕ) → IsPart room got → rest_of room got ≡ ([], part_ending got)
part_read room got h =
    ap (λ l. let pair : List (List ℕ) × Ending = ((frames_by (length got) l).0, ending_by (nat_lt room (length got)) (frames_by (length got) l).1) in pair)
    (take_all room got h.served)
    ∙ ap (λ (c : List (List ℕ) × List ℕ). (c.0, ending_by (nat_lt room (length got)) c.1)) (no_frames (length got) got h.no_frame)
    ∙ ap (λ t. let pair : List (List ℕ) × Ending = ([], ending_by t got) in pair) (le-ltb room (length got) h.served)
    ∙ ap (λ w. let pair : List (List ℕ) × Ending = ([], if w then Ending.FrameTooLong else (if nat_lt 0 (length got) then Ending.TornFrame else Ending.Done)) in pair) h.no_fault

pub inputs_are_read : InputsAreRead
inputs_are_read = record { whole = λ input. refl; next = next_read; within = frame_within; front = frame_front; part = part_read }

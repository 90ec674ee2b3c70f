-- What stands next in bytes, by what was read of them.
use Rattle.std.proofs.Common.{◌≡◌, ◌≤◌, ◌<◌, ℕ, ◌+◌, ◌-◌, min, nat_le, nat_lt, not, ◌&&◌, Bool, true, false, unwrap_or, None, Some, List, length, take, drop, sym, ap, ◌∙◌, arith, if◌then◌else◌}
use Rattle.std.proofs.lemmas.Bool.{le-leb, lt-leb, lt-ltb, le-ltb}
use Rattle.std.proofs.lemmas.List.{length-take, length-drop, length-take-le, take-take, drop_all, drop-drop, drop-take}
use Rattle.byteorder.specs.Endian.{big_number}
use Rattle.byteorder.specs.Numbers.{big_from-take}
use Rattle.session_rules.specs.Fields.{Reader, number_then}
use Rattle.session_rules.specs.declared.session_ending.Ending.{Ending}
use Rattle.session_rules.specs.Input.{is_frame_length, first_frame, has_wrong_length, ending_by}
use Rattle.frame_bytes.specs.declared.frame_reading.Next.{Next}
use Rattle.frame_bytes.specs.Next.{next_by, next_of, read_for}
use Rattle.frame_bytes.specs.Body.{IsBodyIn}

-- fewer than four bytes are no number, four are one
pub number_none : {X : Type 0} (next : ℕ → Reader X) (bytes : List ℕ) → length bytes < 4 → number_then next bytes ≡ None
number_none next bytes less = ap (λ t. if t then next (big_number 4 bytes) (drop 4 bytes) else None) (lt-leb 4 (length bytes) less)

pub number_some : {X : Type 0} (next : ℕ → Reader X) (bytes : List ℕ) → 4 ≤ length bytes →
    number_then next bytes ≡ next (big_number 4 bytes) (drop 4 bytes)
number_some next bytes enough = ap (λ t. if t then next (big_number 4 bytes) (drop 4 bytes) else None) (le-leb 4 (length bytes) enough)

-- a frame behind its length, and whether its length is wrong
abbrev pub framed_in : ℕ → Reader (List ℕ × List ℕ)
framed_in count left = if is_frame_length count && nat_le count (length left) then Some (take count left, drop count left) else None

abbrev pub is_wrong : ℕ → Reader Bool
is_wrong count left = Some (not (is_frame_length count))

-- fewer than four bytes are served
abbrev short_ending : Bool → ℕ → Ending
short_ending goes_on served = if goes_on then Ending.InputTooLong else (if nat_lt 0 served then Ending.TornFrame else Ending.Done)

next_short : (room : ℕ) (bytes : List ℕ) → length (take room bytes) < 4 →
    next_of room bytes ≡ Next.End (short_ending (nat_lt room (length bytes)) (length (take room bytes)))
next_short room bytes less =
    ap (λ o. next_by o (ending_by (nat_lt room (length bytes)) (take room bytes))) (number_none framed_in (take room bytes) less)
    ∙ ap (λ o. Next.End (if unwrap_or o false then Ending.FrameTooLong else short_ending (nat_lt room (length bytes)) (length (take room bytes))))
    (number_none is_wrong (take room bytes) less)

-- a buffer for a length, of which some bytes were read
module _ (room read : ℕ) (buf bytes : List ℕ) (size : length buf ≡ min room 3 + 1) (within : read ≤ length buf)
    (filled : take read buf ≡ take (length buf) bytes) where
  pub read_is : read ≡ min (length buf) (length bytes)
  read_is =
      let a : length (take read buf) ≡ min read (length buf) = length-take read buf in
      let b : length (take (length buf) bytes) ≡ min (length buf) (length bytes) = length-take (length buf) bytes in
      let c : length (take read buf) ≡ length (take (length buf) bytes) = ap length filled in
      omega (arith, a, b, c, within)

  pub head_too_long : room < read → (Next.End Ending.InputTooLong ≡ next_of room bytes) × (drop (length buf) bytes ≡ drop (room + 1) bytes)
  head_too_long past =
      let served : length (take room bytes) ≡ min room (length bytes) = length-take room bytes in
      let less : length (take room bytes) < 4 = omega (arith, served, size, within, past) in
      let more : room < length bytes = omega (arith, read_is, past) in
      let all : length buf ≡ room + 1 = omega (arith, size, within, past) in (
        sym (next_short room bytes less ∙ ap (λ t. Next.End (short_ending t (length (take room bytes)))) (lt-ltb room (length bytes) more)),
        ap
            (λ n. drop n bytes) all,
      )

  -- the input ended within a length
  module _ (ends : read ≤ room) (less : read < 4) where
    all_read : length bytes ≡ read
    all_read = omega (arith, read_is, size, ends, less)

    at_end : next_of room bytes ≡ Next.End (if nat_lt 0 read then Ending.TornFrame else Ending.Done)
    at_end =
        let served : length (take room bytes) ≡ min room (length bytes) = length-take room bytes in
        let same : length (take room bytes) ≡ read = omega (arith, served, all_read, ends) in
        let short : length (take room bytes) < 4 = omega (arith, same, less) in
        let within_room : length bytes ≤ room = omega (arith, all_read, ends) in
        next_short room bytes short
        ∙ ap (λ t. Next.End (short_ending t (length (take room bytes)))) (le-ltb room (length bytes) within_room)
        ∙ ap (λ n. Next.End (if nat_lt 0 n then Ending.TornFrame else Ending.Done)) same

    none_left : drop (length buf) bytes ≡ drop (room + 1) bytes
    none_left =
        let a : length bytes ≤ length buf = omega (arith, all_read, within) in
        let b : length bytes ≤ room + 1 = omega (arith, all_read, ends) in
        drop_all (length buf) bytes a ∙ sym (drop_all (room + 1) bytes b)

    pub head_torn : 0 < read → (Next.End Ending.TornFrame ≡ next_of room bytes) × (drop (length buf) bytes ≡ drop (room + 1) bytes)
    head_torn some = (sym (at_end ∙ ap (λ t. Next.End (if t then Ending.TornFrame else Ending.Done)) (lt-ltb 0 read some)), none_left)

    pub head_done : read ≡ 0 → (Next.End Ending.Done ≡ next_of room bytes) × (drop (length buf) bytes ≡ drop (room + 1) bytes)
    head_done nothing =
        let none : read ≤ 0 = omega (arith, nothing) in
        (sym (at_end ∙ ap (λ t. Next.End (if t then Ending.TornFrame else Ending.Done)) (le-ltb 0 read none)), none_left)

-- a length stands first
module _ (room count : ℕ) (bytes : List ℕ) (served : 4 ≤ room) (enough : 4 ≤ length bytes) (number : count ≡ big_number 4 bytes) where
  four : 4 ≤ length (take room bytes)
  four = let a : length (take room bytes) ≡ min room (length bytes) = length-take room bytes in omega (arith, a, served, enough)

  same_number : big_number 4 (take room bytes) ≡ count
  same_number = big_from-take 0 4 room bytes (omega (arith, served)) ∙ sym number

  behind : drop 4 (take room bytes) ≡ take (room - 4) (drop 4 bytes)
  behind = let e : room ≡ 4 + (room - 4) = omega (arith, served) in ap (λ n. drop 4 (take n bytes)) e ∙ drop-take 4 (room - 4) bytes

  first_is : first_frame (take room bytes) ≡ framed_in count (take (room - 4) (drop 4 bytes))
  first_is = number_some framed_in (take room bytes) four ∙ ap (λ n. framed_in n (drop 4 (take room bytes))) same_number ∙ ap (framed_in count) behind

  wrong_is : has_wrong_length (take room bytes) ≡ not (is_frame_length count)
  wrong_is = ap (λ o. unwrap_or o false) (number_some is_wrong (take room bytes) four) ∙ ap (λ n. not (is_frame_length n)) same_number

  abbrev ending_of : Bool → Bool → Ending
  ending_of wrong goes_on = if wrong then Ending.FrameTooLong else short_ending goes_on (length (take room bytes))

  pub wrong_length : is_frame_length count ≡ false → Next.End Ending.FrameTooLong ≡ next_of room bytes
  wrong_length wrong =
      let L : List ℕ = take (room - 4) (drop 4 bytes) in
      sym
      (ap (λ o. next_by o (ending_by (nat_lt room (length bytes)) (take room bytes)))
      (first_is ∙ ap (λ t. if t && nat_le count (length L) then Some (take count L, drop count L) else None) wrong)
      ∙ ap (λ w. Next.End (ending_of w (nat_lt room (length bytes)))) (wrong_is ∙ ap not wrong))

  module _ (right : is_frame_length count ≡ true) where
    first_by : first_frame (take room bytes)
        ≡ (if nat_le count (length (take (room - 4) (drop 4 bytes))) then Some
        (take count (take (room - 4) (drop 4 bytes)), drop count (take (room - 4) (drop 4 bytes))) else None)
    first_by =
        let L : List ℕ = take (room - 4) (drop 4 bytes) in
        first_is ∙ ap (λ t. if t && nat_le count (length L) then Some (take count L, drop count L) else None) right

    frame_next : count ≤ room - 4 → count ≤ length (drop 4 bytes) → Next.Frame (take count (drop 4 bytes)) ≡ next_of room bytes
    frame_next fits there =
        let L : List ℕ = take (room - 4) (drop 4 bytes) in
        let size : length L ≡ min (room - 4) (length (drop 4 bytes)) = length-take (room - 4) (drop 4 bytes) in
        let whole : count ≤ length L = omega (arith, size, fits, there) in
        sym
        (ap (λ o. next_by o (ending_by (nat_lt room (length bytes)) (take room bytes)))
        (first_by ∙ ap (λ t. if t then Some (take count L, drop count L) else None) (le-leb count (length L) whole))
        ∙ ap (λ l. Next.Frame l) (take-take count (room - 4) (drop 4 bytes) fits))

    cut_next : length (take (room - 4) (drop 4 bytes)) < count →
        Next.End (if nat_lt room (length bytes) then Ending.InputTooLong else Ending.TornFrame) ≡ next_of room bytes
    cut_next less =
        let L : List ℕ = take (room - 4) (drop 4 bytes) in
        let some : 0 < length (take room bytes) = omega (arith, four) in
        sym
        (ap (λ o. next_by o (ending_by (nat_lt room (length bytes)) (take room bytes)))
        (first_by ∙ ap (λ t. if t then Some (take count L, drop count L) else None) (lt-leb count (length L) less))
        ∙ ap (λ w. Next.End (ending_of w (nat_lt room (length bytes)))) (wrong_is ∙ ap not right)
        ∙ ap (λ t. Next.End (if nat_lt room (length bytes) then Ending.InputTooLong else (if t then Ending.TornFrame else Ending.Done)))
        (lt-ltb 0 (length (take room bytes)) some))

    pub body_next : (next : Next) (rest : List ℕ) → IsBodyIn count (room - 4) (drop 4 bytes) next rest →
        (next ≡ next_of room bytes) × (rest ≡ drop (read_for room next) bytes)
    body_next (Next.Frame frame) rest (fits, there, is, left) =
        let size : length frame ≡ count = ap length is ∙ length-take-le count (drop 4 bytes) there in
        let read : 4 + count ≡ 4 + length frame = omega (arith, size) in
        (ap (λ l. Next.Frame l) is ∙ frame_next fits there, left ∙ drop-drop count 4 bytes ∙ ap (λ n. drop n bytes) read)
    body_next (Next.End Ending.InputTooLong) rest (past, more, left) =
        let size : length (take (room - 4) (drop 4 bytes)) ≡ min (room - 4) (length (drop 4 bytes)) = length-take (room - 4) (drop 4 bytes) in
        let behind_four : length (drop 4 bytes) ≡ length bytes - 4 = length-drop 4 bytes in
        let less : length (take (room - 4) (drop 4 bytes)) < count = omega (arith, size, past) in
        let goes_on : room < length bytes = omega (arith, behind_four, more, served) in
        let read : 4 + (room - 4 + 1) ≡ room + 1 = omega (arith, served) in (
          sym (ap (λ t. Next.End (if t then Ending.InputTooLong else Ending.TornFrame)) (lt-ltb room (length bytes) goes_on)) ∙ cut_next less,
          left ∙ drop-drop (room - 4 + 1) 4 bytes ∙ ap (λ n. drop n bytes) read,
        )
    body_next (Next.End Ending.TornFrame) rest (short, ends, left) =
        let size : length (take (room - 4) (drop 4 bytes)) ≡ min (room - 4) (length (drop 4 bytes)) = length-take (room - 4) (drop 4 bytes) in
        let behind_four : length (drop 4 bytes) ≡ length bytes - 4 = length-drop 4 bytes in
        let less : length (take (room - 4) (drop 4 bytes)) < count = omega (arith, size, short) in
        let no_more : length bytes ≤ room = omega (arith, behind_four, ends, served, enough) in
        let none : length bytes ≤ room + 1 = omega (arith, no_more) in (
          sym (ap (λ t. Next.End (if t then Ending.InputTooLong else Ending.TornFrame)) (le-ltb room (length bytes) no_more)) ∙ cut_next less,
          left
              ∙ sym (drop_all (room + 1) bytes none),
        )
    body_next (Next.End Ending.Done) rest h = absurd h
    body_next (Next.End Ending.FrameTooLong) rest h = absurd h

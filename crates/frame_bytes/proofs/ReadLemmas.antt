-- What stands next in what a source has left, by what was read of it.
use Rattle.std.proofs.Common.{◌≡◌, ◌≤◌, ◌<◌, ℕ, ◌+◌, ◌-◌, min, nat_le, not, ◌&&◌, true, false, unwrap_or, Option, None, Some, List, [], ◌++◌, length, take, drop, refl, sym, ap, subst, ◌∙◌, arith, length-append, length-take, take-append-drop, if◌then◌else◌}
use Rattle.std.proofs.lemmas.Bool.{lt-leb, leb-true, and_parts}
use Rattle.std.proofs.lemmas.List.{take_all, drop_all, take_at, length-drop}
use Rattle.byteorder.specs.Endian.{big_number}
use Rattle.byteorder.specs.Numbers.{big_from-take}
use Rattle.clay_bytes.specs.Stream.{Gives}
use Rattle.clay_bytes.proofs.StreamLemmas.{gives-then}
use Rattle.session_rules.specs.declared.session_ending.Ending.{Ending}
use Rattle.session_rules.specs.Input.{is_frame_length, most_frame}
use Rattle.frame_bytes.specs.declared.frame_reading.Next.{Next}
use Rattle.frame_bytes.specs.Filling.{Fills, GivesFewer}
use Rattle.frame_bytes.specs.Next.{IsNext, IsPart, StopsWithin, StopsAtLength}
use Rattle.frame_bytes.specs.Body.{IsBody}
use Rattle.frame_bytes.proofs.NextLemmas.{number_none, number_some, framed_in, is_wrong, read_is, head_too_long, head_torn, head_done, wrong_length, body_next}

-- what a buffer for a length was filled with
pub record IsHead (room read : ℕ) (buf : List ℕ) (old new : Option (List ℕ)) : Type 0 where
  pub size : length buf ≡ min room 3 + 1
  pub within : read ≤ length buf
  pub filled : Fills old (length buf) (take read buf) new

pub too_long : (room read : ℕ) (buf : List ℕ) (old new : Option (List ℕ)) → IsHead room read buf old new → room < read →
    IsNext room old (Next.End Ending.InputTooLong) new
too_long room read buf None new h past = tt
too_long room read buf (Some bytes) None h past = absurd h.filled
too_long room read buf (Some bytes) (Some rest) h past =
    let it = head_too_long room read buf bytes h.size h.within h.filled.0 past in (it.0, h.filled.1 ∙ it.1)

pub torn : (room read : ℕ) (buf : List ℕ) (old new : Option (List ℕ)) → IsHead room read buf old new → read ≤ room → read < 4 → 0 < read →
    IsNext room old (Next.End Ending.TornFrame) new
torn room read buf None new h ends less some = tt
torn room read buf (Some bytes) None h ends less some = absurd h.filled
torn room read buf (Some bytes) (Some rest) h ends less some =
    let it = head_torn room read buf bytes h.size h.within h.filled.0 ends less some in (it.0, h.filled.1 ∙ it.1)

pub done : (room read : ℕ) (buf : List ℕ) (old new : Option (List ℕ)) → IsHead room read buf old new → read ≡ 0 →
    IsNext room old (Next.End Ending.Done) new
done room read buf None new h nothing = tt
done room read buf (Some bytes) None h nothing = absurd h.filled
done room read buf (Some bytes) (Some rest) h nothing =
    let ends : read ≤ room = omega (arith, nothing) in
    let less : read < 4 = omega (arith, nothing) in
    let it = head_done room read buf bytes h.size h.within h.filled.0 ends less nothing in (it.0, h.filled.1 ∙ it.1)

-- a length stands first, and was read
pub record HasHead (room count : ℕ) (bytes rest : List ℕ) : Type 0 where
  pub served : 4 ≤ room
  pub enough : 4 ≤ length bytes
  pub number : count ≡ big_number 4 bytes
  pub behind : rest ≡ drop 4 bytes

has_head : (room read count : ℕ) (buf bytes rest : List ℕ) → IsHead room read buf (Some bytes) (Some rest) → read ≤ room → 4 ≤ read →
    count ≡ big_number 4 buf → HasHead room count bytes rest
has_head room read count buf bytes rest h ends four number =
    let size : length buf ≡ min room 3 + 1 = h.size in
    let within : read ≤ length buf = h.within in
    let four_long : length buf ≡ 4 = omega (arith, size, within, four) in
    let full : length buf ≤ read = omega (arith, four_long, four) in
    let there : read ≡ min (length buf) (length bytes) = read_is room read buf bytes size within h.filled.0 in
    let whole : buf ≡ take 4 bytes = sym (take_all read buf full) ∙ h.filled.0 ∙ ap (λ n. take n bytes) four_long in
    record {
      served = omega (arith, ends, four);
      enough = omega (arith, there, four);
      number = number ∙ ap (big_number 4) whole ∙ big_from-take 0 4 4 bytes (omega arith);
      behind = h.filled.1 ∙ ap (λ n. drop n bytes) four_long;
    }

pub wrong : (room read count : ℕ) (buf : List ℕ) (old new : Option (List ℕ)) → IsHead room read buf old new → read ≤ room → 4 ≤ read →
    count ≡ big_number 4 buf → is_frame_length count ≡ false → IsNext room old (Next.End Ending.FrameTooLong) new
wrong room read count buf None new h ends four number is = tt
wrong room read count buf (Some bytes) None h ends four number is = absurd h.filled
wrong room read count buf (Some bytes) (Some rest) h ends four number is =
    let head = has_head room read count buf bytes rest h ends four number in
    (wrong_length room count bytes head.served head.enough head.number is, head.behind)

pub body : (room read count : ℕ) (buf : List ℕ) (old mid new : Option (List ℕ)) (next : Next) → IsHead room read buf old mid → read ≤ room →
    4 ≤ read → count ≡ big_number 4 buf → is_frame_length count ≡ true → IsBody count (room - 4) mid next new → IsNext room old next new
body room read count buf None mid new next h ends four number is b = tt
body room read count buf (Some bytes) None new next h ends four number is b = absurd h.filled
body room read count buf (Some bytes) (Some rest) None next h ends four number is b = absurd b
body room read count buf (Some bytes) (Some rest) (Some left) next h ends four number is b =
    let head = has_head room read count buf bytes rest h ends four number in
    body_next room count bytes head.served head.enough head.number is next left
    (subst (λ l. IsBody count (room - 4) (Some l) next (Some left)) head.behind b)

-- a frame has a byte at least
pub least : (count : ℕ) → is_frame_length count ≡ true → 1 ≤ count
least count right = leb-true 1 count (and_parts (nat_le 1 count) (nat_le count most_frame) right).0

-- fewer bytes than a length has were read
short_part : (room : ℕ) (got : List ℕ) → length got ≤ room → length got < 4 → IsPart room got
short_part room got served less = record {
  served = served;
  no_frame = number_none (λ count left. framed_in count left) got less;
  no_fault = ap (λ o. unwrap_or o false) (number_none is_wrong got less);
}

-- a length was read, and fewer bytes than are in its frame
long_part : (room count : ℕ) (got : List ℕ) → length got ≤ room → 4 ≤ length got → big_number 4 got ≡ count → is_frame_length count ≡ true →
    length got < 4 + count → IsPart room got
long_part room count got served enough number right less =
    let behind : length (drop 4 got) ≡ length got - 4 = length-drop 4 got in
    let short : length (drop 4 got) < count = omega (arith, behind, enough, less) in
    record {
      served = served;
      no_frame =
          number_some framed_in got enough ∙ ap (λ n. framed_in n (drop 4 got)) number
          ∙ ap (λ t. if t && nat_le count (length (drop 4 got)) then Some (take count (drop 4 got), drop count (drop 4 got)) else None) right
          ∙ ap (λ t. if t then Some (take count (drop 4 got), drop count (drop 4 got)) else None) (lt-leb count (length (drop 4 got)) short);
      no_fault =
          ap (λ o. unwrap_or o false) (number_some is_wrong got enough) ∙ ap (λ n. not (is_frame_length n)) number ∙ ap not right;
    }

-- a read of the length failed, or one of the frame
pub stops_in_head : (room n : ℕ) (old new : Option (List ℕ)) → n ≡ min room 3 + 1 → GivesFewer old n new → StopsWithin room old new
stops_in_head room n old new size (got, few, given) = (got, short_part room got (omega (arith, size, few)) (omega (arith, size, few)), given)

gives_none : (old : Option (List ℕ)) → Gives old [] old
gives_none None = tt
gives_none (Some bytes) = refl

nothing_read : (room : ℕ) (new : Option (List ℕ)) → StopsWithin room None new
nothing_read room new = ([], short_part room [] (omega arith) (omega arith), tt)

-- those bytes and some behind them were read
part_read : (room read count : ℕ) (buf : List ℕ) (bytes rest got : List ℕ) → IsHead room read buf (Some bytes) (Some rest) → read ≤ room →
    4 ≤ read → count ≡ big_number 4 buf → is_frame_length count ≡ true → length got < min count (room - 4 + 1) → (new : Option (List ℕ)) →
    Gives (Some rest) got new → IsPart room (take 4 bytes ++ got) × (length (take 4 bytes ++ got) ≡ 4 + length got) × Gives (Some bytes) (take 4 bytes ++ got) new
part_read room read count buf bytes rest got h ends four number right few new given =
    let head = has_head room read count buf bytes rest h ends four number in
    let whole : bytes ≡ take 4 bytes ++ rest = sym (take-append-drop 4 bytes) ∙ ap (λ l. take 4 bytes ++ l) (sym head.behind) in
    let size : length (take 4 bytes ++ got) ≡ length (take 4 bytes) + length got = length-append (take 4 bytes) got in
    let first : length (take 4 bytes) ≡ min 4 (length bytes) = length-take 4 bytes in
    let enough : 4 ≤ length bytes = head.enough in
    let served : 4 ≤ room = head.served in
    let all : length (take 4 bytes ++ got) ≡ 4 + length got = omega (arith, size, first, enough) in
    let taken : take 4 (take 4 bytes ++ got) ≡ take 4 bytes = take_at (take 4 bytes) got 4 (omega (arith, first, enough)) in
    let same : big_number 4 (take 4 bytes ++ got) ≡ count =
    sym (big_from-take 0 4 4 (take 4 bytes ++ got) (omega arith)) ∙ ap (big_number 4) taken ∙ big_from-take 0 4 4 bytes (omega arith) ∙ sym head.number in (
      long_part room count (take 4 bytes ++ got) (omega (arith, all, few, served)) (omega (arith, all)) same right (omega (arith, all, few)),
      all,
      gives-then (Some bytes) (Some rest) new (take 4 bytes) got (take 4 bytes ++ got) whole given refl,
    )

pub stops_in_body : (room read count : ℕ) (buf : List ℕ) (old mid new : Option (List ℕ)) → IsHead room read buf old mid → read ≤ room → 4 ≤ read →
    count ≡ big_number 4 buf → is_frame_length count ≡ true → GivesFewer mid (min count (room - 4 + 1)) new → StopsWithin room old new
stops_in_body room read count buf None mid new h ends four number right g = nothing_read room new
stops_in_body room read count buf (Some bytes) None new h ends four number right g = absurd h.filled
stops_in_body room read count buf (Some bytes) (Some rest) new h ends four number right (got, few, given) =
    let it = part_read room read count buf bytes rest got h ends four number right few new given in (take 4 bytes ++ got, it.0, it.2)

-- memory was wanting for the frame, of which nothing was read
pub stops_at_length : (room read count : ℕ) (buf : List ℕ) (old mid : Option (List ℕ)) → IsHead room read buf old mid → read ≤ room → 4 ≤ read →
    count ≡ big_number 4 buf → is_frame_length count ≡ true → StopsAtLength room old mid
stops_at_length room read count buf None mid h ends four number right =
    let at : length buf ≡ min room 3 + 1 = h.size in
    let within : read ≤ length buf = h.within in
    let four_long : length buf ≡ 4 = omega (arith, at, within, four) in (
      buf,
      four_long,
      long_part room count buf (omega (arith, four_long, ends, four)) (omega (arith, four_long)) (sym number) right
          (let some : 1 ≤ count = least count right in omega (arith, four_long, some)),
      tt,
    )
stops_at_length room read count buf (Some bytes) None h ends four number right = absurd h.filled
stops_at_length room read count buf (Some bytes) (Some rest) h ends four number right =
    let some : 1 ≤ count = least count right in
    let it = part_read room read count buf bytes rest [] h ends four number right (omega (arith, some)) (Some rest) refl in
    (take 4 bytes ++ [], it.1, it.0, it.2)

pub fewer_none : (n : ℕ) (old new : Option (List ℕ)) → old ≡ new → 0 < n → GivesFewer old n new
fewer_none n old new same some = ([], some, subst (λ o. Gives old [] o) same (gives_none old))

-- what stands behind a length, of a buffer of the bytes that are wanted
pub record IsFilledBody (count room read : ℕ) (buf : List ℕ) (old new : Option (List ℕ)) : Type 0 where
  pub size : length buf ≡ min count (room + 1)
  pub within : read ≤ length buf
  pub filled : Fills old (length buf) (take read buf) new

filled_count : (count room read : ℕ) (buf bytes rest : List ℕ) → IsFilledBody count room read buf (Some bytes) (Some rest) →
    read ≡ min (length buf) (length bytes)
filled_count count room read buf bytes rest h =
    let a : length (take read buf) ≡ min read (length buf) = length-take read buf in
    let b : length (take (length buf) bytes) ≡ min (length buf) (length bytes) = length-take (length buf) bytes in
    let c : length (take read buf) ≡ length (take (length buf) bytes) = ap length h.filled.0 in
    let within : read ≤ length buf = h.within in
    omega (arith, a, b, c, within)

pub body_too_long : (count room read : ℕ) (buf : List ℕ) (old new : Option (List ℕ)) → IsFilledBody count room read buf old new → room < read →
    IsBody count room old (Next.End Ending.InputTooLong) new
body_too_long count room read buf None new h past = tt
body_too_long count room read buf (Some bytes) None h past = absurd h.filled
body_too_long count room read buf (Some bytes) (Some rest) h past =
    let there : read ≡ min (length buf) (length bytes) = filled_count count room read buf bytes rest h in
    let size : length buf ≡ min count (room + 1) = h.size in
    let all : length buf ≡ room + 1 = omega (arith, there, size, past) in
    (omega (arith, there, size, past), omega (arith, there, past), h.filled.1 ∙ ap (λ n. drop n bytes) all)

pub body_torn : (count room read : ℕ) (buf : List ℕ) (old new : Option (List ℕ)) → IsFilledBody count room read buf old new → read ≤ room →
    read < length buf → IsBody count room old (Next.End Ending.TornFrame) new
body_torn count room read buf None new h ends less = tt
body_torn count room read buf (Some bytes) None h ends less = absurd h.filled
body_torn count room read buf (Some bytes) (Some rest) h ends less =
    let there : read ≡ min (length buf) (length bytes) = filled_count count room read buf bytes rest h in
    let size : length buf ≡ min count (room + 1) = h.size in
    let all : length bytes ≡ read = omega (arith, there, less) in
    let short : length bytes ≤ length buf = omega (arith, all, less) in
    (omega (arith, all, size, less), omega (arith, all, ends), h.filled.1 ∙ drop_all (length buf) bytes short)

pub body_whole : (count room read : ℕ) (buf : List ℕ) (old new : Option (List ℕ)) → IsFilledBody count room read buf old new → read ≤ room →
    length buf ≤ read → IsBody count room old (Next.Frame buf) new
body_whole count room read buf None new h ends full = tt
body_whole count room read buf (Some bytes) None h ends full = absurd h.filled
body_whole count room read buf (Some bytes) (Some rest) h ends full =
    let there : read ≡ min (length buf) (length bytes) = filled_count count room read buf bytes rest h in
    let size : length buf ≡ min count (room + 1) = h.size in
    let all : length buf ≡ count = omega (arith, size, ends, full) in (
      omega (arith, size, ends, full),
      omega (arith, there, all, full),
      sym (take_all read buf full) ∙ h.filled.0 ∙ ap (λ n. take n bytes)
          all,
      h.filled.1 ∙ ap (λ n. drop n bytes) all,
    )

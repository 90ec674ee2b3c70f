-- What stands next, by the bytes that were handed out. Each law on the bytes that a source has left is used of an input that is those
-- bytes and any behind them.
use Rattle.std.proofs.Common.{◌≡◌, ◌⊎◌, ◌≤◌, ◌<◌, ℕ, ◌+◌, ◌-◌, min, Bool, true, false, Option, Some, List, [], ◌++◌, length, take, drop, refl, sym, ap, subst, ◌∙◌, inl, inr, append_assoc, append-nil, arith}
use Rattle.std.proofs.lemmas.Bool.{cases_lt}
use Rattle.std.proofs.lemmas.List.{take_all, drop_all, take_at, drop_at, length-take-le}
use Rattle.byteorder.specs.Endian.{big_number}
use Rattle.clay_bytes.specs.Stream.{HandsOut}
use Rattle.clay_bytes.proofs.StreamLemmas.{gives-then, and-more, hands-nothing}
use Rattle.session_rules.specs.declared.session_ending.Ending.{Ending}
use Rattle.session_rules.specs.Input.{is_frame_length}
use Rattle.frame_bytes.specs.declared.frame_reading.Next.{Next}
use Rattle.frame_bytes.specs.Filling.{Fills, HandsOutFewer}
use Rattle.frame_bytes.specs.Next.{IsNext, IsPart, StopsWithin, StopsAtLength}
use Rattle.frame_bytes.specs.Heard.{HandsOutNext, HandsOutBody, HandsOutPart, HandsOutLength}
use Rattle.frame_bytes.proofs.ReadLemmas.{IsHead, too_long, torn, done, wrong, body, stops_in_head, stops_in_body, stops_at_length, IsFilledBody, body_too_long, body_torn, body_whole}

-- a buffer was filled from an input that begins with its bytes, and goes on only where it is full
fills : (read : ℕ) (buf more : List ℕ) → read ≤ length buf → (read < length buf → more ≡ []) →
    Fills (Some (take read buf ++ more)) (length buf) (take read buf) (Some more)
fills read buf more within ends = by (cases_lt read (length buf))
  where
    size : length (take read buf) ≡ read
    size = length-take-le read buf within

    short : more ≡ [] → Fills (Some (take read buf ++ more)) (length buf) (take read buf) (Some more)
    short none =
        let all : take read buf ++ more ≡ take read buf = ap (λ l. take read buf ++ l) none ∙ append-nil (take read buf) in
        let few : length (take read buf) ≤ length buf = omega (arith, size, within) in (
          sym (take_all (length buf) (take read buf) few) ∙ ap (take (length buf)) (sym all),
          none ∙ sym (drop_all (length buf) (take read buf) few) ∙ ap (drop (length buf)) (sym all),
        )

    by : (read < length buf) ⊎ (length buf ≤ read) → Fills (Some (take read buf ++ more)) (length buf) (take read buf) (Some more)
    by (inl less) = short (ends less)
    by (inr full) =
        let same : length (take read buf) ≡ length buf = omega (arith, size, full, within) in
        (sym (take_at (take read buf) more (length buf) same), sym (drop_at (take read buf) more (length buf) same))

-- ---- behind a length
module _ (count room read : ℕ) (buf : List ℕ) (size : length buf ≡ min count (room + 1)) (within : read ≤ length buf) where
  filled_body : (more : List ℕ) → (read < length buf → more ≡ []) → IsFilledBody count room read buf (Some (take read buf ++ more)) (Some more)
  filled_body more ends = record { size = size; within = within; filled = fills read buf more within ends }

  pub heard_body_too_long : (a c : List ℕ) (o q : Option (List ℕ)) (ended : Bool) → HandsOut a o (take read buf) c q → room < read →
      HandsOutBody count room a o (Next.End Ending.InputTooLong) c ended q
  heard_body_too_long a c o q ended hands past =
      let full : length buf ≤ read = omega (arith, size, past) in (
        take read buf,
        hands,
        λ more may.
            body_too_long count room read buf (Some (take read buf ++ more)) (Some more) (filled_body more (λ less. absurd (omega (arith, less, full)))) past,
      )

  pub heard_body_torn : (a c : List ℕ) (o q : Option (List ℕ)) (ended : Bool) → HandsOut a o (take read buf) c q → (read < length buf → ended ≡ true) →
      read ≤ room → read < length buf → HandsOutBody count room a o (Next.End Ending.TornFrame) c ended q
  heard_body_torn a c o q ended hands told ends less = (
    take read buf,
    hands,
    λ more may.
        body_torn count room read buf (Some (take read buf ++ more)) (Some more) (filled_body more (λ short. may (told short))) ends less,
  )

  pub heard_body_whole : (a c : List ℕ) (o q : Option (List ℕ)) (ended : Bool) → HandsOut a o (take read buf) c q → read ≤ room → length buf ≤ read →
      HandsOutBody count room a o (Next.Frame buf) c ended q
  heard_body_whole a c o q ended hands ends full = (
    take read buf,
    hands,
    λ more may.
        body_whole count room read buf (Some (take read buf ++ more)) (Some more) (filled_body more (λ less. absurd (omega (arith, less, full)))) ends full,
  )

-- ---- a length
module _ (room read : ℕ) (buf : List ℕ) (size : length buf ≡ min room 3 + 1) (within : read ≤ length buf) where
  head_of : (more : List ℕ) → (read < length buf → more ≡ []) → IsHead room read buf (Some (take read buf ++ more)) (Some more)
  head_of more ends = record { size = size; within = within; filled = fills read buf more within ends }

  pub heard_too_long : (a c : List ℕ) (o q : Option (List ℕ)) (ended : Bool) → HandsOut a o (take read buf) c q → room < read →
      HandsOutNext room a o (Next.End Ending.InputTooLong) c ended q
  heard_too_long a c o q ended hands past =
      let full : length buf ≤ read = omega (arith, size, past) in (
        take read buf,
        hands,
        λ more may. too_long room read buf (Some (take read buf ++ more)) (Some more) (head_of more (λ less. absurd (omega (arith, less, full)))) past,
      )

  pub heard_torn : (a c : List ℕ) (o q : Option (List ℕ)) (ended : Bool) → HandsOut a o (take read buf) c q → (read < length buf → ended ≡ true) →
      read ≤ room → read < 4 → 0 < read → HandsOutNext room a o (Next.End Ending.TornFrame) c ended q
  heard_torn a c o q ended hands told ends less some = (
    take read buf,
    hands,
    λ more may. torn room read buf (Some (take read buf ++ more)) (Some more) (head_of more (λ short. may (told short))) ends less some,
  )

  pub heard_done : (a c : List ℕ) (o q : Option (List ℕ)) (ended : Bool) → HandsOut a o (take read buf) c q → (read < length buf → ended ≡ true) →
      read ≡ 0 → HandsOutNext room a o (Next.End Ending.Done) c ended q
  heard_done a c o q ended hands told nothing = (
    take read buf,
    hands,
    λ more may. done room read buf (Some (take read buf ++ more)) (Some more) (head_of more (λ short. may (told short))) nothing,
  )

  module _ (count : ℕ) (ends : read ≤ room) (four : 4 ≤ read) (number : count ≡ big_number 4 buf) where
    full : length buf ≤ read
    full = omega (arith, size, four)

    whole_head : (more : List ℕ) → IsHead room read buf (Some (take read buf ++ more)) (Some more)
    whole_head more = head_of more (λ less. absurd (omega (arith, less, full)))

    pub heard_wrong : (a c : List ℕ) (o q : Option (List ℕ)) (ended : Bool) → HandsOut a o (take read buf) c q → is_frame_length count ≡ false →
        HandsOutNext room a o (Next.End Ending.FrameTooLong) c ended q
    heard_wrong a c o q ended hands is = (
      take read buf,
      hands,
      λ more may. wrong room read count buf (Some (take read buf ++ more)) (Some more) (whole_head more) ends four number is,
    )

    -- what was handed out for the length, and behind it
    both : (a b c : List ℕ) (o p q : Option (List ℕ)) (got : List ℕ) → HandsOut a o (take read buf) b p → HandsOut b p got c q →
        HandsOut a o (take read buf ++ got) c q
    both a b c o p q got first behind = (
      and-more a b c (take read buf) got (take read buf ++ got) first.0 behind.0 refl,
      gives-then o p q (take read buf) got (take read buf ++ got) first.1 behind.1 refl,
    )

    module _ (right : is_frame_length count ≡ true) where
      pub heard_next : (a b c : List ℕ) (o p q : Option (List ℕ)) (ended : Bool) (next : Next) → HandsOut a o (take read buf) b p →
          HandsOutBody count (room - 4) b p next c ended q → HandsOutNext room a o next c ended q
      heard_next a b c o p q ended next first (got, hands, is) = (
        take read buf ++ got,
        both a b c o p q got first hands,
        λ more may.
            subst (λ l. IsNext room (Some l) next (Some more)) (sym (append_assoc (take read buf) got more))
            (body room read count buf (Some (take read buf ++ (got ++ more))) (Some (got ++ more)) (Some more) next (whole_head (got ++ more)) ends four
            number right (is more may)),
      )

      -- a part of an input that was read whole is that input
      part_of : (got : List ℕ) → StopsWithin room (Some got) (Some []) → IsPart room got
      part_of got (seen, is, given) = subst (IsPart room) (sym (given ∙ append-nil seen)) is

      pub heard_part : (a b c : List ℕ) (o p q : Option (List ℕ)) → HandsOut a o (take read buf) b p →
          HandsOutFewer b p (min count (room - 4 + 1)) c q → HandsOutPart room a o c q
      heard_part a b c o p q first (got, few, hands) = (
        take read buf ++ got,
        part_of (take read buf ++ got)
            (stops_in_body room read count buf (Some (take read buf ++ got)) (Some got) (Some []) (whole_head got) ends four number right
            (got, few, sym (append-nil got))),
        both a b c o p q got first hands,
      )

      part_at : (got : List ℕ) → StopsAtLength room (Some got) (Some []) → (length got ≡ 4) × IsPart room got
      part_at got (seen, long, is, given) =
          let P : List ℕ → Type 0 = λ l. (length l ≡ 4) × IsPart room l in subst P (sym (given ∙ append-nil seen)) (long, is)

      pub heard_length : (a b : List ℕ) (o p : Option (List ℕ)) → HandsOut a o (take read buf) b p → HandsOutLength room a o b p
      heard_length a b o p first =
          let nothing : take read buf ++ [] ≡ take read buf = append-nil (take read buf) in
          let it : (length (take read buf ++ []) ≡ 4) × IsPart room (take read buf ++ []) =
          part_at (take read buf ++ [])
          (stops_at_length room read count buf (Some (take read buf ++ [])) (Some []) (whole_head []) ends four number right) in
          (take read buf, ap length (sym nothing) ∙ it.0, subst (IsPart room) nothing it.1, first)

-- a read of the length failed
pub heard_part_of_length : (room n : ℕ) (a c : List ℕ) (o q : Option (List ℕ)) → n ≡ min room 3 + 1 → HandsOutFewer a o n c q → HandsOutPart room a o c q
heard_part_of_length room n a c o q size (got, few, hands) =
    let it = stops_in_head room n (Some got) (Some []) size (got, few, sym (append-nil got)) in
    (got, subst (IsPart room) (sym (it.2 ∙ append-nil it.0)) it.1, hands)

-- memory was wanting, and nothing was handed out
pub heard_none : (n : ℕ) (a : List ℕ) (o : Option (List ℕ)) → 0 < n → HandsOutFewer a o n a o
heard_none n a o some = ([], some, hands-nothing a o)

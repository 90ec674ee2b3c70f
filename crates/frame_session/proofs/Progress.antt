-- How far a session has come in its input.
use Rattle.std.proofs.Common.{◌≡◌, ℕ, ◌+◌, ◌-◌, ◌≤◌, nat_lt, Bool, true, false, List, [], ◌∷◌, ◌++◌, length, take, drop, flat_map, Option, None, Some, refl, sym, ap, subst, ◌∙◌, append_assoc, append-nil, inl, inr, arith, if◌then◌else◌}
use Rattle.std.proofs.Math.Seq.{drop-append-add}
use Rattle.std.proofs.lemmas.List.{length-append, length-drop, drop_at}
use Rattle.std.proofs.lemmas.Grind.{flat_map-append}
use Rattle.byteorder.specs.Endian.{big_bytes}
use Rattle.clay_bytes.specs.Stream.{Gives}
use Rattle.clay_grid.specs.Shape.{Shape, chunk_count}
use Rattle.session_rules.specs.State.{State, first_state}
use Rattle.session_rules.specs.declared.session_answer.Answer.{Answer}
use Rattle.session_rules.specs.declared.session_ending.Ending.{Ending}
use Rattle.session_rules.specs.Input.{most_input, framed, input_of}
use Rattle.session_rules.specs.Requests.{request_of}
use Rattle.session_rules.specs.Replies.{answer_bytes}
use Rattle.session_rules.specs.Session.{written_as, IsAnswered, AreAnswered}
use Rattle.frame_bytes.specs.declared.frame_reading.Next.{Next}
use Rattle.frame_bytes.specs.Next.{read_to_end, IsNext, IsPart}
use Rattle.frame_bytes.specs.Heard.{IsNextIn}
use Rattle.frame_bytes.specs.Inputs.{rest_of, from_next, part_ending}
use Rattle.frame_bytes.proofs.InputLemmas.{inputs_are_read}
use Rattle.frame_session.specs.Session.{read_to, AreServed, IsSession, IsWithin, IsGivenUp, IsWanting, IsCutShort}

-- whole frames were handed out, and so many bytes more are served: whatever follows, they stand first
pub record HasRead (got : List ℕ) (room : ℕ) (frames : List (List ℕ)) : Type 0 where
  pub size : length got ≡ length (flat_map framed frames)
  pub spent : length got + room ≡ most_input
  pub read : (more : List ℕ) → input_of (got ++ more) ≡ (frames ++ (rest_of room more).0, (rest_of room more).1)

-- they were answered, and led to a state
abbrev pub HasAnswered : Shape → ℕ → List (List ℕ) → List Answer → State → Type 0
HasAnswered g max frames answers s =
    (more : List (List ℕ)) (later : List Answer) → AreAnswered g max s more later → AreAnswered g max (first_state g) (frames ++ more) (answers ++ later)

-- and the answers were taken
pub record HasServed (g : Shape) (max : ℕ) (got : List ℕ) (room : ℕ) (s : State) (taken : List ℕ) : Type 0 where
  pub frames : List (List ℕ)
  pub answers : List Answer
  pub read : HasRead got room frames
  pub answered : HasAnswered g max frames answers s
  pub taken_are : taken ≡ written_as answers

pub nothing_served : (g : Shape) (max : ℕ) → HasServed g max [] most_input (first_state g) []
nothing_served g max = record {
  frames = [];
  answers = [];
  read = record { size = refl; spent = refl; read = λ more. refl };
  answered = λ more later all. all;
  taken_are = refl;
}

-- one more frame was read
module _ (room : ℕ) (frame got step : List ℕ) (ended : Bool) (is : IsNextIn room step ended (Next.Frame frame)) where
  frame_within : (4 + length frame ≤ room) × (4 + length frame ≤ length (step ++ []))
  frame_within = inputs_are_read.within room (step ++ []) frame (sym (is [] tt).0)

  step_long : length step ≡ 4 + length frame
  step_long =
      let nil : length (step ++ []) ≡ length step = ap length (append-nil step) in
      let none : 0 ≡ length (step ++ []) - (4 + length frame) = ap length (is [] tt).1 ∙ length-drop (4 + length frame) (step ++ []) in
      let there : 4 + length frame ≤ length (step ++ []) = frame_within.1 in
      omega (arith, nil, none, there)

  pub next_read : (frames : List (List ℕ)) → HasRead got room frames → HasRead (got ++ step) (room - (length frame + 4)) (frames ++ frame ∷ [])
  next_read frames h =
      let in_room : 4 + length frame ≤ room = frame_within.0 in
      let front : length step ≡ 4 + length frame = step_long in
      let all : length (got ++ step) ≡ length got + length step = length-append got step in
      let size : length got ≡ length (flat_map framed frames) = h.size in
      let spent : length got + room ≡ 167772160 = h.spent in
      let one : length (framed frame) ≡ 4 + length frame = length-append (big_bytes 4 (length frame)) frame in
      let frames_long : length (flat_map framed (frames ++ frame ∷ [])) ≡ length (flat_map framed frames) + length (framed frame) =
      ap length (flat_map-append framed frames (frame ∷ []) ∙ ap (λ l. flat_map framed frames ++ l) (append-nil (framed frame)))
      ∙ length-append (flat_map framed frames) (framed frame) in
      let same_room : room - (4 + length frame) ≡ room - (length frame + 4) = omega arith in
      record {
        size = omega (arith, all, front, size, one, frames_long);
        spent = omega (arith, all, front, spent, in_room);
        read =
            λ more.
            let onward : rest_of room (step ++ more) ≡ (frame ∷ (rest_of (room - (4 + length frame)) more).0, (rest_of (room - (4 + length frame)) more).1) =
            inputs_are_read.next room (step ++ more)
            ∙ ap (λ n. from_next n room (step ++ more)) (sym (is more tt).0)
            ∙ ap (λ l. let pair : List (List ℕ) × Ending = (frame ∷ (rest_of (room - (4 + length frame)) l).0, (rest_of (room - (4 + length frame)) l).1) in pair)
            (sym (is more tt).1) in
            ap input_of (append_assoc got step more)
            ∙ h.read (step ++ more)
            ∙ ap (λ (r : List (List ℕ) × Ending). let pair : List (List ℕ) × Ending = (frames ++ r.0, r.1) in pair) onward
            ∙ ap (λ l. let pair : List (List ℕ) × Ending = (l, (rest_of (room - (4 + length frame)) more).1) in pair)
            (sym (append_assoc frames (frame ∷ []) (rest_of (room - (4 + length frame)) more).0))
            ∙ ap (λ n. let pair : List (List ℕ) × Ending = ((frames ++ frame ∷ []) ++ (rest_of n more).0, (rest_of n more).1) in pair) same_room;
      }

-- and answered
pub next_answered : (g : Shape) (max : ℕ) (frames : List (List ℕ)) (frame : List ℕ) (answers : List Answer) (answer : Answer) (s after : State) →
    HasAnswered g max frames answers s → IsAnswered g max (request_of (chunk_count g) frame) s (after, answer) →
    HasAnswered g max (frames ++ frame ∷ []) (answers ++ answer ∷ []) after
next_answered g max frames frame answers answer s after h one more later all =
    subst (λ l. AreAnswered g max (first_state g) l ((answers ++ answer ∷ []) ++ later)) (sym (append_assoc frames (frame ∷ []) more))
    (subst (AreAnswered g max (first_state g) (frames ++ frame ∷ more)) (sym (append_assoc answers (answer ∷ []) later))
    (h (frame ∷ more) (answer ∷ later) (after, one, all)))

written_more : (answers : List Answer) (answer : Answer) → written_as (answers ++ answer ∷ []) ≡ written_as answers ++ framed (answer_bytes answer)
written_more answers answer =
    flat_map-append (λ answer. framed (answer_bytes answer)) answers (answer ∷ []) ∙ ap (λ l. written_as answers ++ l) (append-nil (framed (answer_bytes answer)))

-- one more frame was served
pub next_served : (g : Shape) (max : ℕ) (got : List ℕ) (room : ℕ) (s after : State) (frame : List ℕ) (answer : Answer) (taken step : List ℕ) (ended : Bool) →
    HasServed g max got room s taken → IsNextIn room step ended (Next.Frame frame) →
    IsAnswered g max (request_of (chunk_count g) frame) s (after, answer) →
    HasServed g max (got ++ step) (room - (length frame + 4)) after (taken ++ framed (answer_bytes answer))
next_served g max got room s after frame answer taken step ended h is one = record {
  frames = h.frames ++ frame ∷ [];
  answers = h.answers ++ answer ∷ [];
  read = next_read room frame got step ended is h.frames h.read;
  answered = next_answered g max h.frames frame h.answers answer s after h.answered one;
  taken_are = ap (λ l. l ++ framed (answer_bytes answer)) h.taken_are ∙ sym (written_more h.answers answer);
}

-- the frames that were served are these
served_all : (g : Shape) (max : ℕ) (frames all : List (List ℕ)) (answers : List Answer) (s : State) (taken : List ℕ) → all ≡ frames ++ [] →
    HasAnswered g max frames answers s → taken ≡ written_as answers → AreServed g max all taken
served_all g max frames all answers s taken same h taken_are = record {
  answers = answers ++ [];
  answered = subst (λ l. AreAnswered g max (first_state g) l (answers ++ [])) (sym same) (h [] [] refl);
  taken_are = taken_are ∙ ap written_as (sym (append-nil answers));
}

past : (got bytes : List ℕ) (room : ℕ) → length got + room ≡ most_input → drop (room + 1) bytes ≡ drop (most_input + 1) (got ++ bytes)
past got bytes room spent =
    let all : length got + (room + 1) ≡ most_input + 1 = omega (arith, spent) in
    sym (drop-append-add got bytes (room + 1)) ∙ ap (λ n. drop n (got ++ bytes)) all

-- what stands behind what was read to the ending
left_behind : (got bytes : List ℕ) (room : ℕ) (frames : List (List ℕ)) (ending : Ending) → length got ≡ length (flat_map framed frames) →
    length got + room ≡ most_input → drop (read_to_end room ending) bytes ≡ drop (read_to frames ending) (got ++ bytes)
left_behind got bytes room frames Ending.FrameTooLong size spent = sym (drop-append-add got bytes 4) ∙ ap (λ n. drop (n + 4) (got ++ bytes)) size
left_behind got bytes room frames Ending.Done size spent = past got bytes room spent
left_behind got bytes room frames Ending.TornFrame size spent = past got bytes room spent
left_behind got bytes room frames Ending.InputTooLong size spent = past got bytes room spent

-- the input came to its ending
pub ended_so : (g : Shape) (max : ℕ) (got : List ℕ) (room : ℕ) (s : State) (ending : Ending) (taken step more : List ℕ) → HasServed g max got room s taken →
    IsNext room (Some (step ++ more)) (Next.End ending) (Some more) → IsSession g max ((got ++ step) ++ more) ending more taken
ended_so g max got room s ending taken step more h is =
    let seam : (got ++ step) ++ more ≡ got ++ (step ++ more) = append_assoc got step more in
    let stops : rest_of room (step ++ more) ≡ ([], ending) = inputs_are_read.next room (step ++ more) ∙ ap (λ n. from_next n room (step ++ more)) (sym is.0) in
    let all : input_of ((got ++ step) ++ more) ≡ (h.frames ++ [], ending) =
    ap input_of seam ∙ h.read.read (step ++ more)
    ∙ ap (λ (r : List (List ℕ) × Ending). let pair : List (List ℕ) × Ending = (h.frames ++ r.0, r.1) in pair) stops in
    let frames : (input_of ((got ++ step) ++ more)).0 ≡ h.frames ++ [] = ap (λ (r : List (List ℕ) × Ending). r.0) all in
    record {
      ends = ap (λ (r : List (List ℕ) × Ending). r.1) all;
      left_is =
          is.1 ∙ left_behind got (step ++ more) room h.frames ending h.read.size h.read.spent
          ∙ ap (λ f. drop (read_to f ending) (got ++ (step ++ more))) (sym (frames ∙ append-nil h.frames))
          ∙ ap (drop (read_to (input_of ((got ++ step) ++ more)).0 ending)) (sym seam);
      served = served_all g max h.frames (input_of ((got ++ step) ++ more)).0 h.answers s taken frames h.answered h.taken_are;
    }

-- what a source told before stands so behind what it handed out
pub told_next : (room : ℕ) (next : Next) (told between left : Option (List ℕ)) (got step more : List ℕ) → Gives told got between → Gives between step left →
    IsNext room between next left → told ≡ Some ((got ++ step) ++ more) → IsNext room (Some (step ++ more)) next (Some more)
told_next room next told between left got step more first second is same =
    let P : Option (List ℕ) → Type 0 = λ o. Gives o got between in by between left (subst P same first) second is
  where
    by : (between left : Option (List ℕ)) → Gives (Some ((got ++ step) ++ more)) got between → Gives between step left → IsNext room between next left →
        IsNext room (Some (step ++ more)) next (Some more)
    by None left f s i = absurd f
    by (Some bytes) None f s i = absurd s
    by (Some bytes) (Some rest) f s i =
        let whole : got ++ bytes ≡ got ++ (step ++ more) = sym f ∙ append_assoc got step more in
        let all : bytes ≡ step ++ more = sym (drop_at got bytes (length got) refl) ∙ ap (drop (length got)) whole ∙ drop_at got (step ++ more) (length got) refl in
        let behind : rest ≡ more = sym (drop_at step rest (length step) refl) ∙ ap (drop (length step)) (sym s ∙ all) ∙ drop_at step more (length step) refl in
        subst (λ r. IsNext room (Some (step ++ more)) next (Some r)) behind (subst (λ l. IsNext room (Some l) next (Some rest)) all i)

-- of the next frame a part was read
part_read : (got : List ℕ) (room : ℕ) (frames : List (List ℕ)) (step : List ℕ) → HasRead got room frames → IsPart room step →
    input_of (got ++ step) ≡ (frames ++ [], part_ending step)
part_read got room frames step h is =
    h.read step ∙ ap (λ (r : List (List ℕ) × Ending). let pair : List (List ℕ) × Ending = (frames ++ r.0, r.1) in pair) (inputs_are_read.part room step is)

within_part : (step : List ℕ) (ending : Ending) → ending ≡ part_ending step → IsWithin ending
within_part step ending is = by (nat_lt 0 (length step)) is
  where
    by : (some : Bool) → ending ≡ (if some then Ending.TornFrame else Ending.Done) → IsWithin ending
    by true e = inr e
    by false e = inl e

module _ (g : Shape) (max : ℕ) (got : List ℕ) (room : ℕ) (s : State) (taken : List ℕ) (h : HasServed g max got room s taken) (step : List ℕ)
    (is : IsPart room step) where
  all_got : input_of (got ++ step) ≡ (h.frames ++ [], part_ending step)
  all_got = part_read got room h.frames step h.read is

  frames_got : (input_of (got ++ step)).0 ≡ h.frames ++ []
  frames_got = ap (λ (r : List (List ℕ) × Ending). r.0) all_got

  pub given_up : IsGivenUp g max (got ++ step) taken
  given_up = (
    within_part step (input_of (got ++ step)).1 (ap (λ (r : List (List ℕ) × Ending). r.1) all_got),
    served_all g max h.frames (input_of (got ++ step)).0 h.answers s taken frames_got h.answered h.taken_are,
  )

  pub wanting : length step ≡ 4 → IsWanting g max (got ++ step) taken
  wanting four =
      let both : length (got ++ step) ≡ length got + length step = length-append got step in
      let size : length got ≡ length (flat_map framed h.frames) = h.read.size in
      let same : length (flat_map framed (input_of (got ++ step)).0) ≡ length (flat_map framed h.frames) =
      ap (λ l. length (flat_map framed l)) (frames_got ∙ append-nil h.frames) in
      (inr (omega (arith, both, four, size, same)), given_up)

-- nothing was read or written
nothing_read : (room : ℕ) → IsPart room []
nothing_read room = record { served = omega arith; no_frame = refl; no_fault = refl }

pub never_begun : (g : Shape) (max : ℕ) → IsWanting g max [] []
never_begun g max = (inl refl, given_up g max [] most_input (first_state g) [] (nothing_served g max) [] (nothing_read most_input))

-- a write failed
pub cut : (g : Shape) (max : ℕ) (got : List ℕ) (room : ℕ) (s after : State) (frame : List ℕ) (answer : Answer) (taken step : List ℕ) (ended : Bool) (part : ℕ) →
    HasServed g max got room s taken → IsNextIn room step ended (Next.Frame frame) →
    IsAnswered g max (request_of (chunk_count g) frame) s (after, answer) → part ≤ length (framed (answer_bytes answer)) →
    IsCutShort g max (got ++ step) (taken ++ take part (framed (answer_bytes answer)))
cut g max got room s after frame answer taken step ended part h is one within =
    let read : HasRead (got ++ step) (room - (length frame + 4)) (h.frames ++ frame ∷ []) = next_read room frame got step ended is h.frames h.read in
    let answered : HasAnswered g max (h.frames ++ frame ∷ []) (h.answers ++ answer ∷ []) after =
    next_answered g max h.frames frame h.answers answer s after h.answered one in
    let all : input_of (got ++ step) ≡ ((h.frames ++ frame ∷ []) ++ [], Ending.Done) =
    ap input_of (sym (append-nil (got ++ step)))
    ∙ part_read (got ++ step) (room - (length frame + 4)) (h.frames ++ frame ∷ []) [] read (nothing_read (room - (length frame + 4))) in
    record {
      whole = ap (λ (r : List (List ℕ) × Ending). r.1) all;
      before = h.frames;
      last = frame;
      frames = ap (λ (r : List (List ℕ) × Ending). r.0) all ∙ append-nil (h.frames ++ frame ∷ []);
      answers = h.answers;
      answer = answer;
      answered =
          subst (λ l. AreAnswered g max (first_state g) l (h.answers ++ answer ∷ [])) (append-nil (h.frames ++ frame ∷ []))
          (subst (AreAnswered g max (first_state g) ((h.frames ++ frame ∷ []) ++ [])) (append-nil (h.answers ++ answer ∷ [])) (answered [] [] refl));
      part = part;
      within = within;
      taken_are = ap (λ l. l ++ take part (framed (answer_bytes answer))) h.taken_are;
    }

-- What sessions write.
use Rattle.std.proofs.Common.{◌≡◌, ◌≢◌, ℕ, List, [], ◌∷◌, ◌++◌, length, map, flat_map, Option, None, Some, IsTrue, refl, sym, ap, ◌∙◌, append-nil, inl, inr}
use Rattle.std.specs.List.{AllByRecursion}
use Rattle.std.proofs.lemmas.List.Elements.{All-from_recursion}
use Rattle.clay_grid.specs.Shape.{Shape, chunk_count}
use Rattle.session_rules.specs.State.{State, first_state}
use Rattle.session_rules.specs.declared.request.Request.{Request}
use Rattle.session_rules.specs.declared.session_answer.Answer.{Answer}
use Rattle.session_rules.specs.declared.session_ending.Ending.{Ending}
use Rattle.session_rules.specs.Input.{framed, is_frame_length, input_of}
use Rattle.session_rules.specs.Requests.{request_of}
use Rattle.session_rules.specs.Replies.{answer_bytes}
use Rattle.session_rules.specs.Session.{serve_if, answers_from, written_as, IsAnswered, AreAnswered}
use Rattle.frame_session.specs.Fits.{IsFitting}
use Rattle.frame_session.specs.Written.{AnswersAreCut, AreAmple, AmpleSessionsAreThose}
use Rattle.frame_session.proofs.Bounded.{answers_fit}

framed_all : (answers : List Answer) → written_as answers ≡ flat_map framed (map answer_bytes answers)
framed_all [] = refl
framed_all (answer ∷ answers) = ap (λ l. framed (answer_bytes answer) ++ l) (framed_all answers)

abbrev IsLong : List ℕ → Type 0
IsLong frame = IsTrue (is_frame_length (length frame))

all_long : (answers : List Answer) → AllByRecursion IsFitting answers → AllByRecursion IsLong (map answer_bytes answers)
all_long [] all = tt
all_long (answer ∷ answers) all = (all.0.frame, all_long answers all.1)

pub answers_are_cut : AnswersAreCut
answers_are_cut g max frames answers geometry most answered = record {
  whole = framed_all answers ∙ sym (append-nil (flat_map framed (map answer_bytes answers)));
  lengths = All-from_recursion IsLong (map answer_bytes answers) (all_long answers (answers_fit g max frames answers geometry most answered));
  ends = refl;
}

-- a frame at which memory was ample
one_ample : (g : Shape) (max : ℕ) (found : Option Request) (s : State) (served : State × Answer) → served.1 ≢ Answer.NoMemory → IsAnswered g max found s served →
    served ≡ serve_if g max found s
one_ample g max None s served ample is = is
one_ample g max (Some request) s served ample (inl is) = is
one_ample g max (Some request) s served ample (inr (none, leaves)) = absurd (ample none)

all_ample : (g : Shape) (max : ℕ) (s : State) (frames : List (List ℕ)) (answers : List Answer) → AreAmple answers → AreAnswered g max s frames answers →
    answers ≡ answers_from g max s frames
all_ample g max s [] answers ample answered = answered
all_ample g max s (frame ∷ frames) [] ample answered = absurd answered
all_ample g max s (frame ∷ frames) (answer ∷ answers) ample (after, one, rest) =
    let first : (after, answer) ≡ serve_if g max (request_of (chunk_count g) frame) s =
    one_ample g max (request_of (chunk_count g) frame) s (after, answer) ample.0 one in
    ap (λ l. answer ∷ l) (all_ample g max after frames answers ample.1 rest)
    ∙ ap (λ (served : State × Answer). served.1 ∷ answers_from g max served.0 frames) first

pub ample_sessions_are_those : AmpleSessionsAreThose
ample_sessions_are_those g max input ending left taken session ample =
    let answers : session.served.answers ≡ answers_from g max (first_state g) (input_of input).0 =
    all_ample g max (first_state g) (input_of input).0 session.served.answers ample session.served.answered in
    ap (λ l. let pair : List ℕ × Ending = (l, ending) in pair) session.served.taken_are
    ∙ ap (λ l. let pair : List ℕ × Ending = (written_as l, ending) in pair) answers
    ∙ ap (λ e. let pair : List ℕ × Ending = (written_as (answers_from g max (first_state g) (input_of input).0), e) in pair) (sym session.ends)

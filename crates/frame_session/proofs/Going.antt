-- A store that serves a session, and how far the session has come.
use Rattle.std.proofs.Common.{◌≡◌, ℕ, ◌+◌, ◌-◌, ◌≤◌, Bool, List, [], ◌++◌, length, take, Option, None, Some, Result, Ok, Err, OnOk, OnErr, refl, sym, ap, subst, ◌∙◌, inr, arith}
use Rattle.clay_bytes.specs.Stream.{HandsOut, Accepts, AcceptsPrefix}
use Rattle.clay_bytes.proofs.StreamLemmas.{gives-then, gains-then, and-more, hands-nothing, accepts-nothing}
use Rattle.clay_grid.specs.Shape.{Shape, chunk_count}
use Rattle.clay_grid.specs.Limits.{IsGeometry}
use Rattle.session_rules.specs.State.{State, first_state}
use Rattle.session_rules.specs.declared.request.Request.{Request}
use Rattle.session_rules.specs.declared.session_answer.Answer.{Answer}
use Rattle.session_rules.specs.declared.session_ending.Ending.{Ending}
use Rattle.session_rules.specs.Input.{most_input, framed}
use Rattle.session_rules.specs.Requests.{request_of}
use Rattle.session_rules.specs.Replies.{answer_bytes}
use Rattle.session_rules.specs.Session.{IsAnswered}
use Rattle.session_rules.specs.Shortages.{Leaves}
use Rattle.frame_bytes.specs.declared.frame_reading.Next.{Next}
use Rattle.frame_bytes.specs.Next.{IsNext}
use Rattle.frame_bytes.specs.Heard.{HandsOutNext, HandsOutPart, HandsOutLength}
use Rattle.frame_bytes.specs.Requests.{HasName, IsNamed}
use Rattle.frame_bytes.specs.Writing.{IsWritable}
use Rattle.session_store.specs.Stored.{StoreOf}
use Rattle.session_store.specs.Standing.{StandsAt}
use Rattle.session_store.specs.Serving.{Serves, ServesAll, served_one}
use Rattle.frame_session.specs.Fits.{IsBounded}
use Rattle.frame_session.specs.Session.{IsSessionOf, IsSessionIn, IsGivenUp, IsWanting, IsCutShort}
use Rattle.frame_session.specs.Serving.{Answers, AnswersAll, IsLater, IsLimited, IsBeginning, IsReady, IsWritten, ServesFrame}
use Rattle.frame_session.proofs.Bounded.{Keeps, answered_keeps, first_bounded}
use Rattle.frame_session.proofs.Progress.{HasServed, nothing_served, next_served, ended_so, told_next, given_up, wanting, never_begun, cut}

-- ---- the answer to a frame
-- where memory was wanting for a request's name nothing changed
leaves_same : (g : Shape) (request : Request) (s : State) → HasName request → Leaves g request s s
leaves_same g (Request.OfMap call) s named = refl
leaves_same g (Request.Rebuild name stripe server) s named = refl
leaves_same g (Request.SnapRead name offset count) s named = refl
leaves_same g request s named = absurd named

answered_as : (g : Shape) (max : ℕ) (found is : Option Request) (s : State) (served : State × Answer) → found ≡ is → IsAnswered g max is s served →
    IsAnswered g max found s served
answered_as g max found is s served same answered = subst (λ r. IsAnswered g max r s served) (sym same) answered

-- the store served a request
pub request_answered : (frame : List ℕ) (request : Request) (old now : StoreOf) (answer : Answer) →
    Some request ≡ request_of (chunk_count old.geometry) frame → ServesAll request old answer now → now ≡ served_one old now → AnswersAll frame old answer now
request_answered frame request old now answer is serves same before stands =
    let served : Serves request before answer now = serves before stands in
    let code : now.geometry ≡ old.geometry = ap (λ (store : StoreOf). store.geometry) same in
    let found : request_of (chunk_count now.geometry) frame ≡ Some request = ap (λ g. request_of (chunk_count g) frame) code ∙ sym is in
    record {
      after = served.after;
      answered =
          answered_as now.geometry now.max (request_of (chunk_count now.geometry) frame) (Some request) before (served.after, answer) found served.served;
      stands = served.stands;
    }

-- the frame is no request
pub none_answered : (frame : List ℕ) (store : StoreOf) → None ≡ request_of (chunk_count store.geometry) frame → AnswersAll frame store Answer.BadRequest store
none_answered frame store is before stands = record {
  after = before;
  answered = answered_as store.geometry store.max (request_of (chunk_count store.geometry) frame) None before (before, Answer.BadRequest) (sym is) refl;
  stands = stands;
}

-- memory was wanting for the request's name
pub wanting_answered : (frame : List ℕ) (request : Request) (store : StoreOf) → request_of (chunk_count store.geometry) frame ≡ Some request → HasName request →
    AnswersAll frame store Answer.NoMemory store
wanting_answered frame request store is named before stands = record {
  after = before;
  answered =
      answered_as store.geometry store.max (request_of (chunk_count store.geometry) frame) (Some request) before (before, Answer.NoMemory) is
      (inr (refl, leaves_same store.geometry request before named));
  stands = stands;
}

pub later_one : (old now : StoreOf) → now ≡ served_one old now → IsLater old now
later_one old now same = record {
  geometry = ap (λ (store : StoreOf). store.geometry) same;
  max = ap (λ (store : StoreOf). store.max) same;
  served = let is : now.served ≡ old.served + 1 = ap (λ (store : StoreOf). store.served) same in omega (arith, is);
}

pub later_same : (store : StoreOf) → IsLater store store
later_same store = record { geometry = refl; max = refl; served = omega arith }

-- ---- a frame that is served
limited_later : (old now : StoreOf) → IsLater old now → IsLimited old → IsLimited now
limited_later old now later limited = record {
  geometry = subst IsGeometry (sym later.geometry) limited.geometry;
  max = subst (λ m. m ≤ 1048576) (sym later.max) limited.max;
}

-- the answer fits a frame, and the store is ready for the next one
pub record GoesOn (frame : List ℕ) (answer : Answer) (now : StoreOf) : Type 0 where
  pub writable : IsWritable answer
  pub ready : IsReady now

pub goes_on : (frame : List ℕ) (old now : StoreOf) (answer : Answer) → IsReady old → IsLater old now → AnswersAll frame old answer now → GoesOn frame answer now
goes_on frame old now answer ready later all =
    let limited : IsLimited now = limited_later old now later ready.limited in
    let one : Answers frame ready.state answer now = all ready.state ready.stands in
    let bounded : IsBounded now.max ready.state = subst (λ m. IsBounded m ready.state) (sym later.max) ready.bounded in
    let keeps : Keeps now.geometry now.max limited.geometry limited.max (one.after, answer) =
    answered_keeps now.geometry now.max limited.geometry limited.max frame ready.state (one.after, answer) bounded one.answered in
    record {
      writable = keeps.1.writable;
      ready = record { limited = limited; state = one.after; stands = one.stands; bounded = keeps.0 };
    }

pub is_written : {X E : Type 0} (result : Result X E) (accepted : List ℕ) (written : Option (List ℕ)) (bytes now : List ℕ) (new : Option (List ℕ)) →
    OnOk result (Accepts accepted written bytes now new) → OnErr result (AcceptsPrefix accepted written bytes now new) →
    IsWritten result accepted written bytes now new
is_written (Ok done) accepted written bytes now new whole part = whole
is_written (Err fault) accepted written bytes now new whole part = part

pub frame_served : {X E : Type 0} (frame : List ℕ) (old store : StoreOf) (answer : Answer) (result : Result X E) (accepted : List ℕ) (written : Option (List ℕ))
    (now : List ℕ) (new : Option (List ℕ)) → AnswersAll frame old answer store → IsWritten result accepted written (framed (answer_bytes answer)) now new →
    (before : State) → StandsAt old before → ServesFrame frame before store result accepted written now new
frame_served frame old store answer result accepted written now new all writes before stands =
    let one : Answers frame before answer store = all before stands in
    record { after = one.after; answer = answer; answered = one.answered; stands = one.stands; writes = writes }

-- ---- a session that goes on: what the source handed out and the sink took so far, from what both had to what they have
pub record Going (begun store : StoreOf) (room : ℕ) (a : List ℕ) (o : Option (List ℕ)) (b : List ℕ) (p : Option (List ℕ)) (w : List ℕ) (n : Option (List ℕ))
    (v : List ℕ) (m : Option (List ℕ)) : Type 0 where
  pub limited : IsLimited store
  pub geometry : store.geometry ≡ begun.geometry
  pub max : store.max ≡ begun.max
  pub spent : store.served + room ≤ 167772160
  pub state : State
  pub stands : StandsAt store state
  pub bounded : IsBounded store.max state
  pub got : List ℕ
  pub taken : List ℕ
  pub hands : HandsOut a o got b p
  pub accepts : Accepts w n taken v m
  pub served : HasServed begun.geometry begun.max got room state taken

-- some bytes were handed out and some taken, of which this is true
abbrev pub Moved : List ℕ → Option (List ℕ) → List ℕ → Option (List ℕ) → List ℕ → Option (List ℕ) → List ℕ → Option (List ℕ) → (List ℕ → List ℕ → Type 0) → Type 0
Moved a o c q w n v m P = (got : List ℕ) × (taken : List ℕ) × HandsOut a o got c q × Accepts w n taken v m × P got taken

pub begins : (store : StoreOf) (a : List ℕ) (o : Option (List ℕ)) (w : List ℕ) (n : Option (List ℕ)) → IsBeginning store →
    Going store store most_input a o a o w n w n
begins store a o w n beginning = record {
  limited = beginning.limited;
  geometry = refl;
  max = refl;
  spent = let none : store.served ≡ 0 = beginning.none in omega (arith, none);
  state = first_state store.geometry;
  stands = beginning.stands;
  bounded = first_bounded store.geometry store.max;
  got = [];
  taken = [];
  hands = hands-nothing a o;
  accepts = accepts-nothing w n;
  served = nothing_served store.geometry store.max;
}

-- some bytes, and more behind them
hands_then : (a b c : List ℕ) (o p q : Option (List ℕ)) (got step : List ℕ) → HandsOut a o got b p → HandsOut b p step c q → HandsOut a o (got ++ step) c q
hands_then a b c o p q got step first second =
    (and-more a b c got step (got ++ step) first.0 second.0 refl, gives-then o p q got step (got ++ step) first.1 second.1 refl)

accepts_then : (w v u : List ℕ) (n m k : Option (List ℕ)) (taken piece : List ℕ) → Accepts w n taken v m → Accepts v m piece u k →
    Accepts w n (taken ++ piece) u k
accepts_then w v u n m k taken piece first second =
    (and-more w v u taken piece (taken ++ piece) first.0 second.0 refl, gains-then n m k taken piece (taken ++ piece) first.1 second.1 refl)

-- what was answered, of the code with which the session began
answered_of : (begun now : StoreOf) (frame : List ℕ) (s : State) (served : State × Answer) → now.geometry ≡ begun.geometry → now.max ≡ begun.max →
    IsAnswered now.geometry now.max (request_of (chunk_count now.geometry) frame) s served →
    IsAnswered begun.geometry begun.max (request_of (chunk_count begun.geometry) frame) s served
answered_of begun now frame s served code most answered =
    subst (λ m. IsAnswered begun.geometry m (request_of (chunk_count begun.geometry) frame) s served) most
    (subst (λ g. IsAnswered g now.max (request_of (chunk_count g) frame) s served) code answered)

module _ (begun store now : StoreOf) (room : ℕ) (frame a b c : List ℕ) (o p q : Option (List ℕ)) (ended : Bool) (w v u : List ℕ) (n m k : Option (List ℕ))
    (going : Going begun store room a o b p w n v m) (next : HandsOutNext room b p (Next.Frame frame) c ended q) (fits : 4 + length frame ≤ room)
    (later : IsLater store now) where
  -- one more frame was served
  pub goes_further : {X E : Type 0} (done : X) → ((before : State) → StandsAt store before → ServesFrame {X = X} {E = E} frame before now (Ok done) v m u k) →
      Going begun now (room - (length frame + 4)) a o c q w n u k
  goes_further done serves =
      let served : ServesFrame frame going.state now (Ok done) v m u k = serves going.state going.stands in
      let limited : IsLimited now = limited_later store now later going.limited in
      let bounded : IsBounded now.max going.state = subst (λ most. IsBounded most going.state) (sym later.max) going.bounded in
      let keeps : Keeps now.geometry now.max limited.geometry limited.max (served.after, served.answer) =
      answered_keeps now.geometry now.max limited.geometry limited.max frame going.state (served.after, served.answer) bounded served.answered in
      let count : now.served ≤ store.served + 1 = later.served in
      let spent : store.served + room ≤ 167772160 = going.spent in
      record {
        limited = limited;
        geometry = later.geometry ∙ going.geometry;
        max = later.max ∙ going.max;
        spent = omega (arith, count, spent, fits);
        state = served.after;
        stands = served.stands;
        bounded = keeps.0;
        got = going.got ++ next.0;
        taken = going.taken ++ framed (answer_bytes served.answer);
        hands = hands_then a b c o p q going.got next.0 going.hands next.1;
        accepts = accepts_then w v u n m k going.taken (framed (answer_bytes served.answer)) going.accepts served.writes;
        served =
            next_served begun.geometry begun.max going.got room going.state served.after frame served.answer going.taken next.0 ended going.served next.2
            (answered_of begun now frame going.state (served.after, served.answer) (later.geometry ∙ going.geometry) (later.max ∙ going.max) served.answered);
      }

  -- its answer couldn't be written
  pub is_cut : {X E : Type 0} (fault : E) → ((before : State) → StandsAt store before → ServesFrame {X = X} {E = E} frame before now (Err fault) v m u k) →
      Moved a o c q w n u k (IsCutShort begun.geometry begun.max)
  is_cut fault serves =
      let served : ServesFrame frame going.state now (Err fault) v m u k = serves going.state going.stands in
      let part : AcceptsPrefix v m (framed (answer_bytes served.answer)) u k = served.writes in (
        going.got ++ next.0,
        going.taken ++ take part.0 (framed (answer_bytes served.answer)),
        hands_then a b c o p q going.got next.0 going.hands next.1,
        accepts_then w v u n m k going.taken (take part.0 (framed (answer_bytes served.answer))) going.accepts part.2,
        cut begun.geometry begun.max going.got room going.state served.after frame served.answer going.taken next.0 ended part.0 going.served next.2
            (answered_of begun now frame going.state (served.after, served.answer) (later.geometry ∙ going.geometry) (later.max ∙ going.max) served.answered)
            part.1,
      )

-- nothing more was served
module _ (begun store : StoreOf) (room : ℕ) (a b c : List ℕ) (o p q : Option (List ℕ)) (w v : List ℕ) (n m : Option (List ℕ))
    (going : Going begun store room a o b p w n v m) where
  pub is_session : (ending : Ending) (ended : Bool) → HandsOutNext room b p (Next.End ending) c ended q → IsNext room p (Next.End ending) q →
      Moved a o c q w n v m (λ got taken. IsSessionOf begun.geometry begun.max got ended ending taken × IsSessionIn begun.geometry begun.max o got ending taken)
  is_session ending ended next told = (
    going.got ++ next.0,
    going.taken,
    hands_then a b c o p q going.got next.0 going.hands next.1,
    going.accepts,
    (
      λ more may. ended_so begun.geometry begun.max going.got room going.state ending going.taken next.0 more going.served (next.2 more may),
      λ more same.
          ended_so begun.geometry begun.max going.got room going.state ending going.taken next.0 more going.served
          (told_next room (Next.End ending) o p q going.got next.0 more going.hands.1 next.1.1 told same),
    ),
  )

  pub is_given_up : HandsOutPart room b p c q → Moved a o c q w n v m (IsGivenUp begun.geometry begun.max)
  is_given_up part = (
    going.got ++ part.0,
    going.taken,
    hands_then a b c o p q going.got part.0 going.hands part.2,
    going.accepts,
    given_up begun.geometry begun.max going.got room going.state going.taken going.served part.0 part.1,
  )

  pub is_wanting : HandsOutLength room b p c q → Moved a o c q w n v m (IsWanting begun.geometry begun.max)
  is_wanting part = (
    going.got ++ part.0,
    going.taken,
    hands_then a b c o p q going.got part.0 going.hands part.3,
    going.accepts,
    wanting begun.geometry begun.max going.got room going.state going.taken going.served part.0 part.2 part.1,
  )

-- nothing was handed out or taken
pub nothing_moved : (g : Shape) (max : ℕ) (a : List ℕ) (o : Option (List ℕ)) (w : List ℕ) (n : Option (List ℕ)) → Moved a o a o w n w n (IsWanting g max)
nothing_moved g max a o w n = ([], [], hands-nothing a o, accepts-nothing w n, never_begun g max)

-- memory was wanting for some request
pub any_wanting : (frame : List ℕ) (servers : ℕ) (store : StoreOf) → IsNamed (request_of servers frame) → servers ≡ chunk_count store.geometry →
    AnswersAll frame store Answer.NoMemory store
any_wanting frame servers store named same = by (request_of servers frame) refl named
  where
    by : (found : Option Request) → request_of servers frame ≡ found → IsNamed found → AnswersAll frame store Answer.NoMemory store
    by None is none = absurd none
    by (Some request) is named = wanting_answered frame request store (ap (λ n. request_of n frame) (sym same) ∙ is) named

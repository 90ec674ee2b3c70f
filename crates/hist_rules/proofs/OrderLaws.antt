-- The rules on the order of calls.
use Rattle.std.proofs.Common.{◌≡◌, ◌<◌, Bool, true, false, cond, not, nat_eq, nat_lt, ◌&&◌, List, [], ◌∷◌, ◌++◌, map, slice_get, Contains, Option, None, Some, find, IfSome, All, refl, sym, ap, ◌∙◌, true≢false}
use Rattle.std.specs.Option.{option_or}
use Rattle.std.proofs.lemmas.Bool.Decides.{Decides-ltb, Decides-and, Decides-not}
use Rattle.std.proofs.lemmas.List.Elements.{All-nil, All-cons, All-head, All-tail}
use Rattle.store_map.specs.declared.script.Script.{Script}
use Rattle.store_map.specs.declared.call_name.CallName.{CallName}
use Rattle.store_map.specs.declared.call_name.CallName.TheVariants.{Client}
use Rattle.store_map.specs.declared.shown.Shown.{Shown}
use Rattle.store_map.specs.declared.shown.Shown.TheVariants.{Reply as Replied, Unfinished}
use Rattle.store_map.specs.declared.line.HLine.{HLine}
use Rattle.store_map.specs.declared.transcript.Transcript.{Transcript}
use Rattle.hist_rules.specs.First.{AllAlong, first_fault, first_fault_along}
use Rattle.hist_rules.specs.Calls.{number_of, same_actor, is_named, calls_of}
use Rattle.hist_rules.specs.Named.{listed_calls, answered_calls, is_reply}
use Rattle.hist_rules.specs.CallsExist.{call_exists, calls_exist}
use Rattle.hist_rules.specs.PointsRise.{point_rises, number_rises, line_rises, points_rise}
use Rattle.hist_rules.specs.CallsInOrder.{follows, follows_answered, is_first_answer, calls_in_order}
use Rattle.hist_rules.specs.OneOpenCall.{unanswered_calls, is_unanswered, is_only_one, is_next_call, one_open_call}
use Rattle.hist_rules.specs.TakesHaveCalls.{has_call, takes_have_calls}
use Rattle.hist_rules.specs.CallOrder.{IsLater, IsInOrder, IsNext}
use Rattle.hist_rules.proofs.Judges.{Judges, is_fault, none_judges, unless_judges, or_judges, like_judges, each_judges, after_judges}
use Rattle.hist_rules.proofs.NameLaws.{is_named_decides, follows_decides}

pub exist_judges : (script : Script) (t : Transcript) → Judges (calls_exist script t) (All (λ call. number_of call < calls_of script call) (listed_calls t ++ map (λ line. line.call) t.takes))
exist_judges script t =
    each_judges (call_exists script) (λ call. number_of call < calls_of script call)
    (λ call. unless_judges (nat_lt (number_of call) (calls_of script call)) _ refl (Decides-ltb (number_of call) (calls_of script call)))
    (listed_calls t ++ map (λ line. line.call) t.takes)

-- ---- points and numbers
point_judges : (found : Option HLine) (line : HLine) → Judges (point_rises found line) (IfSome found (λ other. other.point < line.point))
point_judges None line = none_judges
point_judges (Some other) line = unless_judges (nat_lt other.point line.point) _ refl (Decides-ltb other.point line.point)

number_judges : (found : Option HLine) (line : HLine) → Judges (number_rises found line) (IfSome found (λ other. other.call.number < line.call.number))
number_judges None line = none_judges
number_judges (Some other) line = unless_judges (nat_lt other.call.number line.call.number) _ refl (Decides-ltb other.call.number line.call.number)

later_judges : (before : List HLine) (line : HLine) → Judges (line_rises before line) (IsLater before line)
later_judges before line =
    like_judges (line_rises before line) (λ h. record { point = h.0; number = h.1 }) (λ h. (h.point, h.number))
    (or_judges (point_rises (slice_get before 0) line) (number_rises (find (λ other. nat_eq line.call.client other.call.client) before) line)
    (point_judges (slice_get before 0) line) (number_judges (find (λ other. nat_eq line.call.client other.call.client) before) line))

pub rising_judges : (t : Transcript) → Judges (points_rise t) (AllAlong IsLater t.history)
rising_judges t = after_judges line_rises IsLater later_judges [] t.history

-- ---- answers
in_order_judges : (answered before : List CallName) (call : CallName) → Judges (option_or (follows_answered answered call) (is_first_answer before call)) (IsInOrder answered before call)
in_order_judges answered before call =
    like_judges (option_or (follows_answered answered call) (is_first_answer before call)) (λ h. record { earlier = h.0; once = h.1 }) (λ h. (h.earlier, h.once))
    (or_judges (follows_answered answered call) (is_first_answer before call)
    (unless_judges (follows answered call) _ refl (follows_decides answered call))
    (unless_judges (not (is_named call before)) _ refl (Decides-not (is_named call before) (is_named_decides call before))))

pub answered_judges : (t : Transcript) → Judges (calls_in_order t) (AllAlong (IsInOrder (answered_calls t)) (answered_calls t))
answered_judges t =
    after_judges (λ before call. option_or (follows_answered (answered_calls t) call) (is_first_answer before call)) (IsInOrder (answered_calls t))
    (in_order_judges (answered_calls t)) [] (answered_calls t)

-- ---- calls without a reply
effect_judges : (script : Script) (t : Transcript) (call : CallName) (shown : Shown) → Judges (is_unanswered script t call shown) (shown ≡ Unfinished → Contains (unanswered_calls t) call)
effect_judges script t call (Replied reply) = record { none = λ _ e. absurd (true≢false (ap is_reply e)); clear = λ _. refl; fault = tt }
effect_judges script t call Unfinished =
    like_judges (is_unanswered script t call Unfinished) (λ h _. h) (λ h. h refl)
    (unless_judges (is_named call (unanswered_calls t)) _ refl (is_named_decides call (unanswered_calls t)))

alone_judges : (call : CallName) (before : List CallName) → Judges (is_only_one (find (same_actor call) before) call) (All (λ other. same_actor call other ≡ false) before)
alone_judges call [] = record { none = λ _. All-nil (λ other. same_actor call other ≡ false); clear = λ _. refl; fault = tt }
alone_judges call (other ∷ before) = by (alone_judges call before) (same_actor call other) refl
  where
    by : Judges (is_only_one (find (same_actor call) before) call) (All (λ other. same_actor call other ≡ false) before) → (b : Bool) → same_actor call other ≡ b
        → Judges (is_only_one (cond {A = Option CallName} b (Some other) (find (same_actor call) before)) call) (All (λ other. same_actor call other ≡ false) (other ∷ before))
    by rest true e =
        record { none = λ n. is_fault n; clear = λ h. absurd (true≢false (sym e ∙ All-head (λ other. same_actor call other ≡ false) other before h)); fault = refl }
    by rest false e =
        like_judges (is_only_one (find (same_actor call) before) call) (λ h. All-cons (λ other. same_actor call other ≡ false) other before e h)
        (λ h. All-tail (λ other. same_actor call other ≡ false) other before h) rest

next_judges : (answered before : List CallName) (call : CallName) → Judges (option_or (is_only_one (find (same_actor call) before) call) (is_next_call answered call)) (IsNext answered before call)
next_judges answered before call =
    like_judges (option_or (is_only_one (find (same_actor call) before) call) (is_next_call answered call))
    (λ h. record { alone = h.0; earlier = h.1.0; unanswered = h.1.1 }) (λ h. (h.alone, (h.earlier, h.unanswered)))
    (or_judges (is_only_one (find (same_actor call) before) call) (is_next_call answered call) (alone_judges call before)
    (unless_judges (follows answered call && not (is_named call answered)) _ refl
    (Decides-and (follows answered call) (not (is_named call answered)) (follows_decides answered call) (Decides-not (is_named call answered) (is_named_decides call answered)))))

pub open_judges : (script : Script) (t : Transcript)
    → Judges (one_open_call script t) (All (λ line. line.reply ≡ Unfinished → Contains (unanswered_calls t) (Client line.call)) t.history × AllAlong (IsNext (answered_calls t)) (unanswered_calls t))
open_judges script t =
    or_judges (first_fault (λ line. is_unanswered script t (Client line.call) line.reply) t.history)
    (first_fault_along (λ before call. option_or (is_only_one (find (same_actor call) before) call) (is_next_call (answered_calls t) call)) (unanswered_calls t))
    (each_judges (λ line. is_unanswered script t (Client line.call) line.reply) (λ line. line.reply ≡ Unfinished → Contains (unanswered_calls t) (Client line.call)) (λ line. effect_judges script t (Client line.call) line.reply) t.history)
    (after_judges (λ before call. option_or (is_only_one (find (same_actor call) before) call) (is_next_call (answered_calls t) call)) (IsNext (answered_calls t)) (next_judges (answered_calls t)) [] (unanswered_calls t))

-- ---- takes
pub takes_judges : (t : Transcript) → Judges (takes_have_calls t) (All (λ line. Contains (listed_calls t) line.call) t.takes)
takes_judges t =
    each_judges (λ line. has_call t line.call) (λ line. Contains (listed_calls t) line.call)
    (λ line. unless_judges (is_named line.call (listed_calls t)) _ refl (is_named_decides line.call (listed_calls t))) t.takes

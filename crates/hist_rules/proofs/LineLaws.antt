-- Each line of a history is held against a reply of the map.
use Rattle.std.proofs.Common.{◌≡◌, ℕ, zero, suc, ◌<◌, true, List, [], ◌∷◌, ◌++◌, map, length, slice_get, Option, None, Some, is_some, option_and_then, All, refl, sym, ap, ◌∙◌, true≢false, arith}
use Rattle.std.specs.List.{zip, filter_map, cons_option}
use Rattle.std.specs.Option.{option_map_or}
use Rattle.std.proofs.lemmas.List.Elements.{All-nil, All-cons, All-head, All-tail}
use Rattle.store_map.specs.PlainMap.{Objects, apply}
use Rattle.store_map.specs.History.{replies_from, replies_of}
use Rattle.store_map.specs.Limits.{size_of}
use Rattle.store_map.specs.declared.call.Call.{Call}
use Rattle.store_map.specs.declared.script.ClientPart.{ClientPart}
use Rattle.store_map.specs.declared.script.Script.{Script}
use Rattle.store_map.specs.declared.call_name.CallName.{CallName}
use Rattle.store_map.specs.declared.call_name.CallName.TheVariants.{Client, Repairer}
use Rattle.store_map.specs.declared.line.HLine.{HLine}
use Rattle.store_map.specs.declared.transcript.Transcript.{Transcript}
use Rattle.hist_rules.specs.Calls.{number_of, calls_of, call_of}
use Rattle.hist_rules.specs.Named.{listed_calls}
use Rattle.hist_rules.specs.RepliesMatch.{history_calls}
use Rattle.hist_rules.specs.CallOrder.{KeepsCallOrder}
use Rattle.hist_rules.specs.LineLaws.{HasEachReply}

there_is : {X : Type 0} (xs : List X) (n : ℕ) → n < length xs → is_some (slice_get xs n) ≡ true
there_is [] n h = absurd (omega (arith, h))
there_is (x ∷ xs) zero h = refl
there_is (x ∷ xs) (suc n) h = there_is xs n (omega (arith, h))

part_has : (found : Option ClientPart) (n : ℕ) → n < option_map_or (λ part. length part.calls) found 0 → is_some (option_and_then (λ part. slice_get part.calls n) found) ≡ true
part_has None n h = absurd (omega (arith, h))
part_has (Some part) n h = there_is part.calls n h

kept_all : {X Y : Type 0} (f : X → Option Y) (xs : List X) → All (λ x. is_some (f x) ≡ true) xs → length (filter_map f xs) ≡ length xs
kept_all f [] h = refl
kept_all {Y = Y} f (x ∷ xs) h = by (f x) (All-head (λ x. is_some (f x) ≡ true) x xs h) ∙ ap suc (kept_all f xs (All-tail (λ x. is_some (f x) ≡ true) x xs h))
  where
    by : (found : Option Y) → is_some found ≡ true → length (cons_option found (filter_map f xs)) ≡ suc (length (filter_map f xs))
    by None e = absurd (true≢false (sym e))
    by (Some y) e = refl

replies_length : (max : ℕ) (calls : List Call) (objects : Objects) → length (replies_from max calls objects) ≡ length calls
replies_length max [] objects = refl
replies_length max (call ∷ calls) objects = ap suc (replies_length max calls (apply max call objects).0)

pub zip_length : {X Y : Type 0} (xs : List X) (ys : List Y) → length ys ≡ length xs → length (zip xs ys) ≡ length xs
zip_length [] ys e = refl
zip_length (x ∷ xs) [] e = absurd (omega (arith, e))
zip_length (x ∷ xs) (y ∷ ys) e = ap suc (zip_length xs ys (omega (arith, e)))

front : {X : Type 0} (P : X → Type 0) (xs ys : List X) → All P (xs ++ ys) → All P xs
front P [] ys h = All-nil P
front P (x ∷ xs) ys h = All-cons P x xs (All-head P x (xs ++ ys) h) (front P xs ys (All-tail P x (xs ++ ys) h))

of_map : {X Y : Type 0} (P : Y → Type 0) (f : X → Y) (xs : List X) → All P (map f xs) → All (λ x. P (f x)) xs
of_map P f [] h = All-nil (λ x. P (f x))
of_map P f (x ∷ xs) h = All-cons (λ x. P (f x)) x xs (All-head P (f x) (map f xs) h) (of_map P f xs (All-tail P (f x) (map f xs) h))

all_there : (script : Script) (lines : List HLine) → All (λ line. line.call.number < calls_of script (Client line.call)) lines → All (λ line. is_some (call_of script line.call) ≡ true) lines
all_there script [] h = All-nil (λ line. is_some (call_of script line.call) ≡ true)
all_there script (line ∷ lines) h =
    All-cons (λ line. is_some (call_of script line.call) ≡ true) line lines
    (part_has (slice_get script.clients line.call.client) line.call.number (All-head (λ line. line.call.number < calls_of script (Client line.call)) line lines h))
    (all_there script lines (All-tail (λ line. line.call.number < calls_of script (Client line.call)) line lines h))

-- the calls of the history are those of the script
history_there : (script : Script) (t : Transcript) → KeepsCallOrder script t → All (λ line. line.call.number < calls_of script (Client line.call)) t.history
history_there script t keeps =
    of_map P (λ line. Client line.call) t.history
    (front P (map (λ line. Client line.call) t.history) (map (λ line. Client line.call) t.refused)
    (front P (map (λ line. Client line.call) t.history ++ map (λ line. Client line.call) t.refused) (map (λ line. Repairer line.call) t.repairs)
    (front P (map (λ line. Client line.call) t.history ++ map (λ line. Client line.call) t.refused ++ map (λ line. Repairer line.call) t.repairs) (map (λ line. line.call) t.unanswered)
    (front P (listed_calls t) (map (λ line. line.call) t.takes) keeps.there))))
  where
    P : CallName → Type 0
    P call = number_of call < calls_of script call

-- the map has as many replies as the history has lines
pub replies_there : (script : Script) (t : Transcript) → KeepsCallOrder script t
    → length (replies_of (size_of script) (history_calls script t)) ≡ length t.history
replies_there script t keeps =
    replies_length (size_of script) (history_calls script t) []
    ∙ kept_all (λ line. call_of script line.call) t.history (all_there script t.history (history_there script t keeps))

pub has_each_reply : (script : Script) (t : Transcript) → KeepsCallOrder script t → HasEachReply script t
has_each_reply script t keeps =
    zip_length t.history (replies_of (size_of script) (history_calls script t)) (replies_there script t keeps)

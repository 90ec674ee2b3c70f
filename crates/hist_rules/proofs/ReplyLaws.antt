-- The rules on the plain map's replies and objects.
use Rattle.std.proofs.Common.{◌≡◌, Bool, true, false, cond, nat_eq, List, [], ◌∷◌, Option, Some, All, bytes_eq, refl, sym, ap, subst, ◌∙◌, true≢false}
use Rattle.std.specs.Bool.{Decides}
use Rattle.std.specs.List.{zip}
use Rattle.std.specs.Option.{option_map_or}
use Rattle.std.specs.Cmp.Lexicographic.{bytes_decides}
use Rattle.std.proofs.lemmas.Bool.Decides.{Decides-eqb, Decides-and, Decides-like}
use Rattle.std.proofs.lemmas.Bool.{eq-eqb, eqb-true}
use Rattle.store_map.specs.History.{replies_of}
use Rattle.store_map.specs.Limits.{size_of}
use Rattle.store_map.specs.declared.call.Call.{Call}
use Rattle.store_map.specs.declared.reply.Reply.{Reply}
use Rattle.store_map.specs.declared.reply.Reply.TheVariants.{Done, Bytes, Length, NoSuch, OutRange, TooLarge}
use Rattle.store_map.specs.declared.script.Script.{Script}
use Rattle.store_map.specs.declared.shown.Shown.{Shown}
use Rattle.store_map.specs.declared.shown.Shown.TheVariants.{Reply as Replied, Unfinished}
use Rattle.store_map.specs.declared.line.LLine.{LLine}
use Rattle.store_map.specs.declared.transcript.Transcript.{Transcript}
use Rattle.hist_rules.specs.declared.verdict.Verdict.{Verdict}
use Rattle.hist_rules.specs.declared.verdict.Verdict.TheVariants.{BadObject}
use Rattle.hist_rules.specs.Calls.{call_of}
use Rattle.hist_rules.specs.Named.{is_ok}
use Rattle.hist_rules.specs.RepliesMatch.{same_reply, is_put_or_write, shows_reply, reply_matches, history_calls, replies_match}
use Rattle.hist_rules.specs.ObjectsListed.{map_lines, same_line, first_difference, objects_listed}
use Rattle.hist_rules.specs.MapReplies.{ShowsReply}
use Rattle.hist_rules.proofs.Judges.{Judges, is_fault, unless_judges, like_judges, each_judges}

-- ---- replies
same_self : (reply : Reply) → same_reply reply reply ≡ true
same_self Done = refl
same_self (Bytes bytes) = (bytes_decides bytes bytes).1 refl
same_self (Length n) = eq-eqb n n refl
same_self NoSuch = refl
same_self OutRange = refl
same_self TooLarge = refl

same_is : (one other : Reply) → same_reply one other ≡ true → other ≡ one
same_is Done Done e = refl
same_is (Bytes one) (Bytes other) e = sym (ap Bytes ((bytes_decides one other).0 e))
same_is (Length one) (Length other) e = sym (ap Length (eqb-true one other e))
same_is NoSuch NoSuch e = refl
same_is OutRange OutRange e = refl
same_is TooLarge TooLarge e = refl
same_is one other e = absurd (true≢false (sym e))

same_decides : (one other : Reply) → Decides (same_reply one other) (other ≡ one)
same_decides one other = (same_is one other, λ e. subst (λ reply. same_reply one reply ≡ true) (sym e) (same_self one))

ok_decides : (reply : Reply) → Decides (is_ok reply) (reply ≡ Done)
ok_decides reply = (ok_is reply, λ e. ap is_ok e)
  where
    ok_is : (reply : Reply) → is_ok reply ≡ true → reply ≡ Done
    ok_is Done e = refl
    ok_is reply e = absurd (true≢false (sym e))

shows_decides : (call : Option Call) (reply : Reply) (shown : Shown) → Decides (shows_reply call reply shown) (ShowsReply call reply shown)
shows_decides call reply (Replied printed) = same_decides reply printed
shows_decides call reply Unfinished =
    Decides-and (is_ok reply) (option_map_or is_put_or_write call false) (ok_decides reply) ((λ e. e), (λ e. e))

pub replies_judges : (script : Script) (t : Transcript)
    → Judges (replies_match script t) (All (λ line. ShowsReply (call_of script line.0.call) line.1 line.0.reply) (zip t.history (replies_of (size_of script) (history_calls script t))))
replies_judges script t =
    each_judges (reply_matches script) (λ line. ShowsReply (call_of script line.0.call) line.1 line.0.reply)
    (λ line. unless_judges (shows_reply (call_of script line.0.call) line.1 line.0.reply) _ refl (shows_decides (call_of script line.0.call) line.1 line.0.reply))
    (zip t.history (replies_of (size_of script) (history_calls script t)))

-- ---- objects
same_line_decides : (one other : LLine) → Decides (same_line one other) (other ≡ one)
same_line_decides one other =
    Decides-like (same_line one other) (λ h. λ i. record { name = sym h.0 i; length = sym h.1 i }) (λ e. (sym (ap (λ line. line.name) e), sym (ap (λ line. line.length) e)))
    (Decides-and (bytes_eq one.name other.name) (nat_eq one.length other.length) (bytes_decides one.name other.name) (Decides-eqb one.length other.length))

abbrev is_empty : List LLine → Bool
is_empty [] = true
is_empty (line ∷ lines) = false

abbrev first_or : LLine → List LLine → LLine
first_or other [] = other
first_or other (line ∷ lines) = line

abbrev rest : List LLine → List LLine
rest [] = []
rest (line ∷ lines) = lines

difference_judges : (wanted printed : List LLine) → Judges (first_difference wanted printed) (printed ≡ wanted)
difference_judges [] [] = record { none = λ _. refl; clear = λ _. refl; fault = tt }
difference_judges [] (line ∷ lines) = record { none = λ e. is_fault e; clear = λ e. absurd (true≢false (sym (ap is_empty e))); fault = refl }
difference_judges (line ∷ lines) [] = record { none = λ e. is_fault e; clear = λ e. absurd (true≢false (ap is_empty e)); fault = refl }
difference_judges (want ∷ wants) (line ∷ lines) = by (difference_judges wants lines) (same_line want line) refl
  where
    by : Judges (first_difference wants lines) (lines ≡ wants) → (b : Bool) → same_line want line ≡ b
        → Judges (cond {A = Option Verdict} b (first_difference wants lines) (Some (BadObject (Some want) (Some line)))) (line ∷ lines ≡ want ∷ wants)
    by others true e =
        like_judges (first_difference wants lines) (λ h. λ i. (same_line_decides want line).0 e i ∷ h i) (λ h. ap rest h) others
    by others false e =
        record { none = λ n. is_fault n; clear = λ h. absurd (true≢false (sym ((same_line_decides want line).1 (ap (first_or want) h)) ∙ e)); fault = refl }

pub objects_judges : (script : Script) (t : Transcript) → Judges (objects_listed script t) (t.objects ≡ map_lines script t)
objects_judges script t = difference_judges (map_lines script t) t.objects

-- Each part of a line has a text of its own.
use Rattle.std.proofs.Common.{◌≡◌, ◌≢◌, ℕ, List, [], ◌∷◌, ◌++◌, drop, Ok, refl, sym, ap, ap₂, ◌∙◌, arith, codes}
use Rattle.std.specs.Prelude.{decimal, All}
use Rattle.hex.specs.Hex.{encode_lower, decode_of, IsBytes}
use Rattle.hex.proofs.HexLemmas.{decode_of-encode_lower}
use Rattle.store_map.specs.declared.reply.Reply.TheVariants as reply
use Rattle.store_map.specs.declared.placement.Placement.{Placement}
use Rattle.store_map.specs.declared.placement.Placement.TheVariants.{At, Skipped}
use Rattle.store_map.specs.declared.placement.Found.{Found}
use Rattle.store_map.specs.declared.placement.Found.TheVariants.{Absent, Away}
use Rattle.line_grammar.specs.Digits.{is_lower_digit}
use Rattle.line_grammar.specs.Lines.{Lacks}
use Rattle.line_grammar.proofs.CallLaws.{name_lacks_space, name_lacks_feed}
use Rattle.line_grammar.proofs.DigitLaws.{lower-encode}
use Rattle.line_grammar.proofs.LineLaws.{same_parts, Lacks-append, Lacks-literal, Lacks-from_test}
use Rattle.std.proofs.lemmas.List.Elements.{All-head, All-tail}
use Rattle.std.proofs.lemmas.List.Sums.{list_all-from_AllPass}
use Rattle.store_map.specs.Triples.{placement_text, found_text, triple_text}
use Rattle.store_map.specs.CallNames.{client_text, repair_text, call_text}
use Rattle.transcript_text.specs.Words.{missing_text, shown_text, cause_text, result_text, unavailable_text}
use Rattle.store_map.specs.declared.call_name.ClientCall.{ClientCall}
use Rattle.store_map.specs.declared.call_name.RepairCall.{RepairCall}
use Rattle.store_map.specs.declared.call_name.CallName.{CallName}
use Rattle.store_map.specs.declared.cause.Triple.{Triple}
use Rattle.store_map.specs.declared.cause.Cause.{Cause}
use Rattle.store_map.specs.declared.cause.Cause.TheVariants as cause
use Rattle.store_map.specs.declared.cause.RepairResult.{RepairResult}
use Rattle.store_map.specs.declared.cause.RepairResult.TheVariants as repair
use Rattle.store_map.specs.declared.shown.Shown.{Shown}
use Rattle.store_map.specs.declared.shown.Shown.TheVariants as shown
use Rattle.transcript_read.specs.Bodies.{line_body}
use Rattle.transcript_read.specs.Forms.{IsLine}
use Rattle.transcript_read.specs.Values.{IsLong, IsPlacement, IsFound, IsTriple, IsShown}
use Rattle.transcript_read.specs.Reasons.{IsPair, pair_text, IsLost, lost_text, IsPairs, pairs_text, IsCause, IsResult}
use Rattle.transcript_read.specs.declared.transcript_line.Line.{Line}
use Rattle.transcript_read.specs.declared.transcript_line.Line.TheVariants.{History, Refused, Repair, Unanswered, Object, Takes, Server, End}
use Rattle.transcript_read.proofs.ListLaws.{listed, listed_injective, same_words, Starts-listed}
use Rattle.transcript_read.proofs.PartLaws.{clash, not_letter, long_lacks, short_lacks, client_lacks, repair_lacks, call_lacks, placement_lacks, triple_lacks, pair_lacks, triple_parts, two_parts, tails, same_long, same_longs, same_client, same_repair, same_call}

-- values of equal parts
ap3 : {A B C D : Type 0} (f : A → B → C → D) {a a' : A} {b b' : B} {c c' : C} → a ≡ a' → b ≡ b' → c ≡ c' → f a b c ≡ f a' b' c'
ap3 f p q r = ap₂ (λ g x. g x) (ap₂ f p q) r

ap2 : {A B D : Type 0} (f : A → B → D) {a a' : A} {b b' : B} → a ≡ a' → b ≡ b' → f a b ≡ f a' b'
ap2 f p q = ap₂ f p q

ap4 : {A B C D E : Type 0} (f : A → B → C → D → E) {a a' : A} {b b' : B} {c c' : C} {d d' : D} → a ≡ a' → b ≡ b' → c ≡ c' → d ≡ d' → f a b c d ≡ f a' b' c' d'
ap4 f p q r s = ap₂ (λ g x. g x) (ap3 f p q r) s

abbrev triple_of : ℕ → Placement → Found → Triple
triple_of s p f = record { server = s; placed = p; found = f }

abbrev history_of : ℕ → ClientCall → Shown → Line
history_of p c r = History (record { point = p; call = c; reply = r })

abbrev refused_of : ClientCall → Cause → Line
refused_of c r = Refused (record { call = c; cause = r })

abbrev repair_of : RepairCall → RepairResult → Line
repair_of c r = Repair (record { call = c; result = r })

abbrev unanswered_of : CallName → Line
unanswered_of c = Unanswered (record { call = c })

abbrev object_of : List ℕ → ℕ → Line
object_of n l = Object (record { name = n; length = l })

abbrev takes_of : CallName → List ℕ → Line
takes_of c t = Takes (record { call = c; takes = t })

abbrev server_of : ℕ → ℕ → ℕ → ℕ → Line
server_of j t h e = Server (record { server = j; taken = t; held = h; epoch = e })

same_placement : (p q : Placement) → IsPlacement p → IsPlacement q → placement_text p ≡ placement_text q → p ≡ q
same_placement (At m) (At n) p q e = ap At (same_long m n p q e)
same_placement (At m) (Skipped n) p q e = absurd (not_letter 117 m (decimal n) (omega arith) p e)
same_placement (Skipped m) (At n) p q e = absurd (not_letter 117 n (decimal m) (omega arith) q (sym e))
same_placement (Skipped m) (Skipped n) p q e = ap Skipped (same_long m n p q (tails 117 117 (decimal m) (decimal n) e))

same_found : (p q : Found) → IsFound p → IsFound q → found_text p ≡ found_text q → p ≡ q
same_found (Absent m) (Absent n) p q e = ap Absent (same_long m n p q e)
same_found (Absent m) (Away n) p q e = absurd (not_letter 97 m (decimal n) (omega arith) p e)
same_found (Away m) (Absent n) p q e = absurd (not_letter 97 n (decimal m) (omega arith) q (sym e))
same_found (Away m) (Away n) p q e = ap Away (same_long m n p q (tails 97 97 (decimal m) (decimal n) e))

same_triple : (t u : Triple) → IsTriple t → IsTriple u → triple_text t ≡ triple_text u → t ≡ u
same_triple t u p q e =
    let both = sym (triple_parts t) ∙ e ∙ triple_parts u in
    let one = same_parts 47 (decimal t.server) (placement_text t.placed ++ 47 ∷ found_text t.found) (decimal u.server) (placement_text u.placed ++ 47 ∷ found_text u.found)
    (long_lacks 47 t.server (omega arith) p.0) (long_lacks 47 u.server (omega arith) q.0) both in
    let two = same_parts 47 (placement_text t.placed) (found_text t.found) (placement_text u.placed) (found_text u.found)
    (placement_lacks 47 t.placed (omega arith) p.1) (placement_lacks 47 u.placed (omega arith) q.1) one.1 in
    let server : t.server ≡ u.server = same_long t.server u.server p.0 q.0 one.0 in
    let placed : t.placed ≡ u.placed = same_placement t.placed u.placed p.1 q.1 two.0 in
    let found : t.found ≡ u.found = same_found t.found u.found p.2 q.2 two.1 in
    ap3 triple_of server placed found

same_pair : (t u : ℕ × ℕ) → IsPair t → IsPair u → pair_text t ≡ pair_text u → t ≡ u
same_pair t u p q e =
    let both = sym (two_parts 47 (decimal t.0) (decimal t.1)) ∙ e ∙ two_parts 47 (decimal u.0) (decimal u.1) in
    let one = same_parts 47 (decimal t.0) (decimal t.1) (decimal u.0) (decimal u.1) (long_lacks 47 t.0 (omega arith) p.0) (long_lacks 47 u.0 (omega arith) q.0) both in
    let looked_at : t.0 ≡ u.0 = same_long t.0 u.0 p.0 q.0 one.0 in
    let newer : t.1 ≡ u.1 = same_long t.1 u.1 p.1 q.1 one.1 in
    ap2 (λ (x : ℕ) (y : ℕ). (x, y)) looked_at newer

same_pairs : (t u : List (ℕ × ℕ)) → IsPairs t → IsPairs u → pairs_text t ≡ pairs_text u → t ≡ u
same_pairs t u p q e = listed_injective IsPair pair_text (λ x is. pair_lacks 32 x (omega arith) is) same_pair t u p.0 q.0 e

same_lost : (s r : ℕ) (t u : List Triple) → IsLost (s, t) → IsLost (r, u) → lost_text (s, t) ≡ lost_text (r, u) → (s ≡ r) × (t ≡ u)
same_lost s r t u p q e =
    let both = sym (two_parts 32 (decimal s) (missing_text t)) ∙ e ∙ two_parts 32 (decimal r) (missing_text u) in
    let one = same_parts 32 (decimal s) (missing_text t) (decimal r) (missing_text u) (long_lacks 32 s (omega arith) p.0) (long_lacks 32 r (omega arith) q.0) both in
    (same_long s r p.0 q.0 one.0, listed_injective IsTriple triple_text (λ x is. triple_lacks 32 x (omega arith) is) same_triple t u p.1 q.1 (ap (drop 7) one.1))

same_bytes : (xs ys : List ℕ) → IsBytes xs → IsBytes ys → encode_lower xs ≡ encode_lower ys → xs ≡ ys
same_bytes xs ys p q e = let read : Ok xs ≡ Ok ys = sym (decode_of-encode_lower xs p) ∙ ap decode_of e ∙ decode_of-encode_lower ys q in cc read

pub same_shown : (r s : Shown) → IsShown r → IsShown s → shown_text r ≡ shown_text s → r ≡ s
same_shown (shown.Reply reply.Done) (shown.Reply reply.Done) p q e = refl
same_shown (shown.Reply reply.Done) (shown.Reply (reply.Bytes b2)) p q e = absurd (clash 111 98 _ _ refl e)
same_shown (shown.Reply reply.Done) (shown.Reply (reply.Length n2)) p q e = absurd (clash 111 108 _ _ refl e)
same_shown (shown.Reply reply.Done) (shown.Reply reply.NoSuch) p q e = absurd (clash 111 110 _ _ refl e)
same_shown (shown.Reply reply.Done) (shown.Reply reply.OutRange) p q e = absurd (clash 107 117 _ _ refl (ap (drop 1) e))
same_shown (shown.Reply reply.Done) (shown.Reply reply.TooLarge) p q e = absurd (clash 111 116 _ _ refl e)
same_shown (shown.Reply reply.Done) shown.Unfinished p q e = absurd (clash 107 112 _ _ refl (ap (drop 1) e))
same_shown (shown.Reply (reply.Bytes b1)) (shown.Reply reply.Done) p q e = absurd (clash 98 111 _ _ refl e)
same_shown (shown.Reply (reply.Bytes b1)) (shown.Reply (reply.Bytes b2)) p q e =
    let same : b1 ≡ b2 = same_bytes b1 b2 p q (ap (drop 10) e) in cc same
same_shown (shown.Reply (reply.Bytes b1)) (shown.Reply (reply.Length n2)) p q e = absurd (clash 98 108 _ _ refl e)
same_shown (shown.Reply (reply.Bytes b1)) (shown.Reply reply.NoSuch) p q e = absurd (clash 98 110 _ _ refl e)
same_shown (shown.Reply (reply.Bytes b1)) (shown.Reply reply.OutRange) p q e = absurd (clash 98 111 _ _ refl e)
same_shown (shown.Reply (reply.Bytes b1)) (shown.Reply reply.TooLarge) p q e = absurd (clash 98 116 _ _ refl e)
same_shown (shown.Reply (reply.Bytes b1)) shown.Unfinished p q e = absurd (clash 98 111 _ _ refl e)
same_shown (shown.Reply (reply.Length n1)) (shown.Reply reply.Done) p q e = absurd (clash 108 111 _ _ refl e)
same_shown (shown.Reply (reply.Length n1)) (shown.Reply (reply.Bytes b2)) p q e = absurd (clash 108 98 _ _ refl e)
same_shown (shown.Reply (reply.Length n1)) (shown.Reply (reply.Length n2)) p q e =
    let same : n1 ≡ n2 = same_long n1 n2 p q (ap (drop 7) e) in cc same
same_shown (shown.Reply (reply.Length n1)) (shown.Reply reply.NoSuch) p q e = absurd (clash 108 110 _ _ refl e)
same_shown (shown.Reply (reply.Length n1)) (shown.Reply reply.OutRange) p q e = absurd (clash 108 111 _ _ refl e)
same_shown (shown.Reply (reply.Length n1)) (shown.Reply reply.TooLarge) p q e = absurd (clash 108 116 _ _ refl e)
same_shown (shown.Reply (reply.Length n1)) shown.Unfinished p q e = absurd (clash 108 111 _ _ refl e)
same_shown (shown.Reply reply.NoSuch) (shown.Reply reply.Done) p q e = absurd (clash 110 111 _ _ refl e)
same_shown (shown.Reply reply.NoSuch) (shown.Reply (reply.Bytes b2)) p q e = absurd (clash 110 98 _ _ refl e)
same_shown (shown.Reply reply.NoSuch) (shown.Reply (reply.Length n2)) p q e = absurd (clash 110 108 _ _ refl e)
same_shown (shown.Reply reply.NoSuch) (shown.Reply reply.NoSuch) p q e = refl
same_shown (shown.Reply reply.NoSuch) (shown.Reply reply.OutRange) p q e = absurd (clash 110 111 _ _ refl e)
same_shown (shown.Reply reply.NoSuch) (shown.Reply reply.TooLarge) p q e = absurd (clash 110 116 _ _ refl e)
same_shown (shown.Reply reply.NoSuch) shown.Unfinished p q e = absurd (clash 110 111 _ _ refl e)
same_shown (shown.Reply reply.OutRange) (shown.Reply reply.Done) p q e = absurd (clash 117 107 _ _ refl (ap (drop 1) e))
same_shown (shown.Reply reply.OutRange) (shown.Reply (reply.Bytes b2)) p q e = absurd (clash 111 98 _ _ refl e)
same_shown (shown.Reply reply.OutRange) (shown.Reply (reply.Length n2)) p q e = absurd (clash 111 108 _ _ refl e)
same_shown (shown.Reply reply.OutRange) (shown.Reply reply.NoSuch) p q e = absurd (clash 111 110 _ _ refl e)
same_shown (shown.Reply reply.OutRange) (shown.Reply reply.OutRange) p q e = refl
same_shown (shown.Reply reply.OutRange) (shown.Reply reply.TooLarge) p q e = absurd (clash 111 116 _ _ refl e)
same_shown (shown.Reply reply.OutRange) shown.Unfinished p q e = absurd (clash 117 112 _ _ refl (ap (drop 1) e))
same_shown (shown.Reply reply.TooLarge) (shown.Reply reply.Done) p q e = absurd (clash 116 111 _ _ refl e)
same_shown (shown.Reply reply.TooLarge) (shown.Reply (reply.Bytes b2)) p q e = absurd (clash 116 98 _ _ refl e)
same_shown (shown.Reply reply.TooLarge) (shown.Reply (reply.Length n2)) p q e = absurd (clash 116 108 _ _ refl e)
same_shown (shown.Reply reply.TooLarge) (shown.Reply reply.NoSuch) p q e = absurd (clash 116 110 _ _ refl e)
same_shown (shown.Reply reply.TooLarge) (shown.Reply reply.OutRange) p q e = absurd (clash 116 111 _ _ refl e)
same_shown (shown.Reply reply.TooLarge) (shown.Reply reply.TooLarge) p q e = refl
same_shown (shown.Reply reply.TooLarge) shown.Unfinished p q e = absurd (clash 116 111 _ _ refl e)
same_shown shown.Unfinished (shown.Reply reply.Done) p q e = absurd (clash 112 107 _ _ refl (ap (drop 1) e))
same_shown shown.Unfinished (shown.Reply (reply.Bytes b2)) p q e = absurd (clash 111 98 _ _ refl e)
same_shown shown.Unfinished (shown.Reply (reply.Length n2)) p q e = absurd (clash 111 108 _ _ refl e)
same_shown shown.Unfinished (shown.Reply reply.NoSuch) p q e = absurd (clash 111 110 _ _ refl e)
same_shown shown.Unfinished (shown.Reply reply.OutRange) p q e = absurd (clash 112 117 _ _ refl (ap (drop 1) e))
same_shown shown.Unfinished (shown.Reply reply.TooLarge) p q e = absurd (clash 111 116 _ _ refl e)
same_shown shown.Unfinished shown.Unfinished p q e = refl

pub same_cause : (r s : Cause) → IsCause r → IsCause s → cause_text r ≡ cause_text s → r ≡ s
same_cause (cause.Unavailable s1 m1) (cause.Unavailable s2 m2) p q e =
    let same = same_lost s1 s2 m1 m2 p q (ap (drop 19) e) in cc (same.0, same.1)
same_cause (cause.Unavailable s1 m1) (cause.Contended t2) p q e = absurd (clash 117 99 _ _ refl e)
same_cause (cause.Unavailable s1 m1) (cause.Reaped n2) p q e = absurd (clash 117 114 _ _ refl e)
same_cause (cause.Unavailable s1 m1) cause.NoMemory p q e = absurd (clash 117 110 _ _ refl e)
same_cause (cause.Contended t1) (cause.Unavailable s2 m2) p q e = absurd (clash 99 117 _ _ refl e)
same_cause (cause.Contended t1) (cause.Contended t2) p q e =
    let same : t1 ≡ t2 = same_pairs t1 t2 p q (ap (drop 9) e) in cc same
same_cause (cause.Contended t1) (cause.Reaped n2) p q e = absurd (clash 99 114 _ _ refl e)
same_cause (cause.Contended t1) cause.NoMemory p q e = absurd (clash 99 110 _ _ refl e)
same_cause (cause.Reaped n1) (cause.Unavailable s2 m2) p q e = absurd (clash 114 117 _ _ refl e)
same_cause (cause.Reaped n1) (cause.Contended t2) p q e = absurd (clash 114 99 _ _ refl e)
same_cause (cause.Reaped n1) (cause.Reaped n2) p q e =
    let same : n1 ≡ n2 = same_long n1 n2 p q (ap (drop 7) e) in cc same
same_cause (cause.Reaped n1) cause.NoMemory p q e = absurd (clash 114 110 _ _ refl e)
same_cause cause.NoMemory (cause.Unavailable s2 m2) p q e = absurd (clash 110 117 _ _ refl e)
same_cause cause.NoMemory (cause.Contended t2) p q e = absurd (clash 110 99 _ _ refl e)
same_cause cause.NoMemory (cause.Reaped n2) p q e = absurd (clash 110 114 _ _ refl e)
same_cause cause.NoMemory cause.NoMemory p q e = refl

pub same_result : (r s : RepairResult) → IsResult r → IsResult s → result_text r ≡ result_text s → r ≡ s
same_result repair.Rebuilt repair.Rebuilt p q e = refl
same_result repair.Rebuilt repair.Here p q e = absurd (clash 114 104 _ _ refl e)
same_result repair.Rebuilt (repair.Away n2) p q e = absurd (clash 114 97 _ _ refl e)
same_result repair.Rebuilt repair.NoSuch p q e = absurd (clash 114 110 _ _ refl e)
same_result repair.Rebuilt (repair.Superseded n2) p q e = absurd (clash 114 115 _ _ refl e)
same_result repair.Rebuilt (repair.Unavailable s2 m2) p q e = absurd (clash 114 117 _ _ refl e)
same_result repair.Rebuilt (repair.Reaped n2) p q e = absurd (clash 98 97 _ _ refl (ap (drop 2) e))
same_result repair.Rebuilt repair.NoMemory p q e = absurd (clash 114 110 _ _ refl e)
same_result repair.Here repair.Rebuilt p q e = absurd (clash 104 114 _ _ refl e)
same_result repair.Here repair.Here p q e = refl
same_result repair.Here (repair.Away n2) p q e = absurd (clash 104 97 _ _ refl e)
same_result repair.Here repair.NoSuch p q e = absurd (clash 104 110 _ _ refl e)
same_result repair.Here (repair.Superseded n2) p q e = absurd (clash 104 115 _ _ refl e)
same_result repair.Here (repair.Unavailable s2 m2) p q e = absurd (clash 104 117 _ _ refl e)
same_result repair.Here (repair.Reaped n2) p q e = absurd (clash 104 114 _ _ refl e)
same_result repair.Here repair.NoMemory p q e = absurd (clash 104 110 _ _ refl e)
same_result (repair.Away n1) repair.Rebuilt p q e = absurd (clash 97 114 _ _ refl e)
same_result (repair.Away n1) repair.Here p q e = absurd (clash 97 104 _ _ refl e)
same_result (repair.Away n1) (repair.Away n2) p q e =
    let same : n1 ≡ n2 = same_long n1 n2 p q (ap (drop 5) e) in cc same
same_result (repair.Away n1) repair.NoSuch p q e = absurd (clash 97 110 _ _ refl e)
same_result (repair.Away n1) (repair.Superseded n2) p q e = absurd (clash 97 115 _ _ refl e)
same_result (repair.Away n1) (repair.Unavailable s2 m2) p q e = absurd (clash 97 117 _ _ refl e)
same_result (repair.Away n1) (repair.Reaped n2) p q e = absurd (clash 97 114 _ _ refl e)
same_result (repair.Away n1) repair.NoMemory p q e = absurd (clash 97 110 _ _ refl e)
same_result repair.NoSuch repair.Rebuilt p q e = absurd (clash 110 114 _ _ refl e)
same_result repair.NoSuch repair.Here p q e = absurd (clash 110 104 _ _ refl e)
same_result repair.NoSuch (repair.Away n2) p q e = absurd (clash 110 97 _ _ refl e)
same_result repair.NoSuch repair.NoSuch p q e = refl
same_result repair.NoSuch (repair.Superseded n2) p q e = absurd (clash 110 115 _ _ refl e)
same_result repair.NoSuch (repair.Unavailable s2 m2) p q e = absurd (clash 110 117 _ _ refl e)
same_result repair.NoSuch (repair.Reaped n2) p q e = absurd (clash 110 114 _ _ refl e)
same_result repair.NoSuch repair.NoMemory p q e = absurd (clash 115 109 _ _ refl (ap (drop 2) e))
same_result (repair.Superseded n1) repair.Rebuilt p q e = absurd (clash 115 114 _ _ refl e)
same_result (repair.Superseded n1) repair.Here p q e = absurd (clash 115 104 _ _ refl e)
same_result (repair.Superseded n1) (repair.Away n2) p q e = absurd (clash 115 97 _ _ refl e)
same_result (repair.Superseded n1) repair.NoSuch p q e = absurd (clash 115 110 _ _ refl e)
same_result (repair.Superseded n1) (repair.Superseded n2) p q e =
    let same : n1 ≡ n2 = same_long n1 n2 p q (ap (drop 11) e) in cc same
same_result (repair.Superseded n1) (repair.Unavailable s2 m2) p q e = absurd (clash 115 117 _ _ refl e)
same_result (repair.Superseded n1) (repair.Reaped n2) p q e = absurd (clash 115 114 _ _ refl e)
same_result (repair.Superseded n1) repair.NoMemory p q e = absurd (clash 115 110 _ _ refl e)
same_result (repair.Unavailable s1 m1) repair.Rebuilt p q e = absurd (clash 117 114 _ _ refl e)
same_result (repair.Unavailable s1 m1) repair.Here p q e = absurd (clash 117 104 _ _ refl e)
same_result (repair.Unavailable s1 m1) (repair.Away n2) p q e = absurd (clash 117 97 _ _ refl e)
same_result (repair.Unavailable s1 m1) repair.NoSuch p q e = absurd (clash 117 110 _ _ refl e)
same_result (repair.Unavailable s1 m1) (repair.Superseded n2) p q e = absurd (clash 117 115 _ _ refl e)
same_result (repair.Unavailable s1 m1) (repair.Unavailable s2 m2) p q e =
    let same = same_lost s1 s2 m1 m2 p q (ap (drop 19) e) in cc (same.0, same.1)
same_result (repair.Unavailable s1 m1) (repair.Reaped n2) p q e = absurd (clash 117 114 _ _ refl e)
same_result (repair.Unavailable s1 m1) repair.NoMemory p q e = absurd (clash 117 110 _ _ refl e)
same_result (repair.Reaped n1) repair.Rebuilt p q e = absurd (clash 97 98 _ _ refl (ap (drop 2) e))
same_result (repair.Reaped n1) repair.Here p q e = absurd (clash 114 104 _ _ refl e)
same_result (repair.Reaped n1) (repair.Away n2) p q e = absurd (clash 114 97 _ _ refl e)
same_result (repair.Reaped n1) repair.NoSuch p q e = absurd (clash 114 110 _ _ refl e)
same_result (repair.Reaped n1) (repair.Superseded n2) p q e = absurd (clash 114 115 _ _ refl e)
same_result (repair.Reaped n1) (repair.Unavailable s2 m2) p q e = absurd (clash 114 117 _ _ refl e)
same_result (repair.Reaped n1) (repair.Reaped n2) p q e =
    let same : n1 ≡ n2 = same_long n1 n2 p q (ap (drop 7) e) in cc same
same_result (repair.Reaped n1) repair.NoMemory p q e = absurd (clash 114 110 _ _ refl e)
same_result repair.NoMemory repair.Rebuilt p q e = absurd (clash 110 114 _ _ refl e)
same_result repair.NoMemory repair.Here p q e = absurd (clash 110 104 _ _ refl e)
same_result repair.NoMemory (repair.Away n2) p q e = absurd (clash 110 97 _ _ refl e)
same_result repair.NoMemory repair.NoSuch p q e = absurd (clash 109 115 _ _ refl (ap (drop 2) e))
same_result repair.NoMemory (repair.Superseded n2) p q e = absurd (clash 110 115 _ _ refl e)
same_result repair.NoMemory (repair.Unavailable s2 m2) p q e = absurd (clash 110 117 _ _ refl e)
same_result repair.NoMemory (repair.Reaped n2) p q e = absurd (clash 110 114 _ _ refl e)
same_result repair.NoMemory repair.NoMemory p q e = refl

pub same_line : (n : ℕ) (l m : Line) → IsLine n l → IsLine n m → line_body l ≡ line_body m → l ≡ m
same_line n (History a) (History b) ia ib e =
    let one = same_parts 32 (decimal a.point) (client_text a.call ++ 32 ∷ shown_text a.reply) (decimal b.point) (client_text b.call ++ 32 ∷ shown_text b.reply)
    (long_lacks 32 a.point (omega arith) ia.0) (long_lacks 32 b.point (omega arith) ib.0) (ap (drop 2) e) in
    let two = same_parts 32 (client_text a.call) (shown_text a.reply) (client_text b.call) (shown_text b.reply)
    (client_lacks 32 a.call (omega arith) ia.1) (client_lacks 32 b.call (omega arith) ib.1) one.1 in
    let point : a.point ≡ b.point = same_long a.point b.point ia.0 ib.0 one.0 in
    let call : a.call ≡ b.call = same_client a.call b.call ia.1 ib.1 two.0 in
    let last : a.reply ≡ b.reply = same_shown a.reply b.reply ia.2 ib.2 two.1 in
    ap3 history_of point call last
same_line n (History a) (Refused b) ia ib e = absurd (clash 72 88 _ _ refl e)
same_line n (History a) (Repair b) ia ib e = absurd (clash 72 82 _ _ refl e)
same_line n (History a) (Unanswered b) ia ib e = absurd (clash 72 79 _ _ refl e)
same_line n (History a) (Object b) ia ib e = absurd (clash 72 76 _ _ refl e)
same_line n (History a) (Takes b) ia ib e = absurd (clash 72 71 _ _ refl e)
same_line n (History a) (Server b) ia ib e = absurd (clash 72 84 _ _ refl e)
same_line n (History a) End ia ib e = absurd (clash 72 101 _ _ refl e)
same_line n (Refused a) (History b) ia ib e = absurd (clash 88 72 _ _ refl e)
same_line n (Refused a) (Refused b) ia ib e =
    let parts = same_parts 32 (client_text a.call) (cause_text a.cause) (client_text b.call) (cause_text b.cause)
    (client_lacks 32 a.call (omega arith) ia.0) (client_lacks 32 b.call (omega arith) ib.0) (ap (drop 2) e) in
    let call : a.call ≡ b.call = same_client a.call b.call ia.0 ib.0 parts.0 in
    let last : a.cause ≡ b.cause = same_cause a.cause b.cause ia.1 ib.1 parts.1 in
    ap2 refused_of call last
same_line n (Refused a) (Repair b) ia ib e = absurd (clash 88 82 _ _ refl e)
same_line n (Refused a) (Unanswered b) ia ib e = absurd (clash 88 79 _ _ refl e)
same_line n (Refused a) (Object b) ia ib e = absurd (clash 88 76 _ _ refl e)
same_line n (Refused a) (Takes b) ia ib e = absurd (clash 88 71 _ _ refl e)
same_line n (Refused a) (Server b) ia ib e = absurd (clash 88 84 _ _ refl e)
same_line n (Refused a) End ia ib e = absurd (clash 88 101 _ _ refl e)
same_line n (Repair a) (History b) ia ib e = absurd (clash 82 72 _ _ refl e)
same_line n (Repair a) (Refused b) ia ib e = absurd (clash 82 88 _ _ refl e)
same_line n (Repair a) (Repair b) ia ib e =
    let parts = same_parts 32 (repair_text a.call) (result_text a.result) (repair_text b.call) (result_text b.result)
    (repair_lacks 32 a.call (omega arith) ia.0) (repair_lacks 32 b.call (omega arith) ib.0) (ap (drop 2) e) in
    let call : a.call ≡ b.call = same_repair a.call b.call ia.0 ib.0 parts.0 in
    let last : a.result ≡ b.result = same_result a.result b.result ia.1 ib.1 parts.1 in
    ap2 repair_of call last
same_line n (Repair a) (Unanswered b) ia ib e = absurd (clash 82 79 _ _ refl e)
same_line n (Repair a) (Object b) ia ib e = absurd (clash 82 76 _ _ refl e)
same_line n (Repair a) (Takes b) ia ib e = absurd (clash 82 71 _ _ refl e)
same_line n (Repair a) (Server b) ia ib e = absurd (clash 82 84 _ _ refl e)
same_line n (Repair a) End ia ib e = absurd (clash 82 101 _ _ refl e)
same_line n (Unanswered a) (History b) ia ib e = absurd (clash 79 72 _ _ refl e)
same_line n (Unanswered a) (Refused b) ia ib e = absurd (clash 79 88 _ _ refl e)
same_line n (Unanswered a) (Repair b) ia ib e = absurd (clash 79 82 _ _ refl e)
same_line n (Unanswered a) (Unanswered b) ia ib e =
    let call : a.call ≡ b.call = same_call a.call b.call ia ib (ap (drop 2) e) in ap unanswered_of call
same_line n (Unanswered a) (Object b) ia ib e = absurd (clash 79 76 _ _ refl e)
same_line n (Unanswered a) (Takes b) ia ib e = absurd (clash 79 71 _ _ refl e)
same_line n (Unanswered a) (Server b) ia ib e = absurd (clash 79 84 _ _ refl e)
same_line n (Unanswered a) End ia ib e = absurd (clash 79 101 _ _ refl e)
same_line n (Object a) (History b) ia ib e = absurd (clash 76 72 _ _ refl e)
same_line n (Object a) (Refused b) ia ib e = absurd (clash 76 88 _ _ refl e)
same_line n (Object a) (Repair b) ia ib e = absurd (clash 76 82 _ _ refl e)
same_line n (Object a) (Unanswered b) ia ib e = absurd (clash 76 79 _ _ refl e)
same_line n (Object a) (Object b) ia ib e =
    let parts = same_parts 32 a.name (decimal a.length) b.name (decimal b.length) (name_lacks_space a.name ia.0) (name_lacks_space b.name ib.0) (ap (drop 2) e) in
    let name : a.name ≡ b.name = parts.0 in
    let length : a.length ≡ b.length = same_long a.length b.length ia.1 ib.1 parts.1 in
    ap2 object_of name length
same_line n (Object a) (Takes b) ia ib e = absurd (clash 76 71 _ _ refl e)
same_line n (Object a) (Server b) ia ib e = absurd (clash 76 84 _ _ refl e)
same_line n (Object a) End ia ib e = absurd (clash 76 101 _ _ refl e)
same_line n (Takes a) (History b) ia ib e = absurd (clash 71 72 _ _ refl e)
same_line n (Takes a) (Refused b) ia ib e = absurd (clash 71 88 _ _ refl e)
same_line n (Takes a) (Repair b) ia ib e = absurd (clash 71 82 _ _ refl e)
same_line n (Takes a) (Unanswered b) ia ib e = absurd (clash 71 79 _ _ refl e)
same_line n (Takes a) (Object b) ia ib e = absurd (clash 71 76 _ _ refl e)
same_line n (Takes a) (Takes b) ia ib e =
    let parts = same_words (call_text a.call) (listed decimal a.takes) (call_text b.call) (listed decimal b.takes)
    (call_lacks 32 a.call (omega arith) ia.0) (call_lacks 32 b.call (omega arith) ib.0) (Starts-listed decimal a.takes) (Starts-listed decimal b.takes) (ap (drop 2) e) in
    let call : a.call ≡ b.call = same_call a.call b.call ia.0 ib.0 parts.0 in
    let takes : a.takes ≡ b.takes = same_longs a.takes b.takes ia.1 ib.1 parts.1 in
    ap2 takes_of call takes
same_line n (Takes a) (Server b) ia ib e = absurd (clash 71 84 _ _ refl e)
same_line n (Takes a) End ia ib e = absurd (clash 71 101 _ _ refl e)
same_line n (Server a) (History b) ia ib e = absurd (clash 84 72 _ _ refl e)
same_line n (Server a) (Refused b) ia ib e = absurd (clash 84 88 _ _ refl e)
same_line n (Server a) (Repair b) ia ib e = absurd (clash 84 82 _ _ refl e)
same_line n (Server a) (Unanswered b) ia ib e = absurd (clash 84 79 _ _ refl e)
same_line n (Server a) (Object b) ia ib e = absurd (clash 84 76 _ _ refl e)
same_line n (Server a) (Takes b) ia ib e = absurd (clash 84 71 _ _ refl e)
same_line n (Server a) (Server b) ia ib e =
    let one = same_parts 32 (decimal a.server) (decimal a.taken ++ 32 ∷ (decimal a.held ++ 32 ∷ decimal a.epoch)) (decimal b.server) (decimal b.taken ++ 32 ∷ (decimal b.held ++ 32 ∷ decimal b.epoch))
    (short_lacks 32 a.server (omega arith) ia.0) (short_lacks 32 b.server (omega arith) ib.0) (ap (drop 2) e) in
    let two = same_parts 32 (decimal a.taken) (decimal a.held ++ 32 ∷ decimal a.epoch) (decimal b.taken) (decimal b.held ++ 32 ∷ decimal b.epoch)
    (long_lacks 32 a.taken (omega arith) ia.1) (long_lacks 32 b.taken (omega arith) ib.1) one.1 in
    let three = same_parts 32 (decimal a.held) (decimal a.epoch) (decimal b.held) (decimal b.epoch)
    (long_lacks 32 a.held (omega arith) ia.2) (long_lacks 32 b.held (omega arith) ib.2) two.1 in
    let server : a.server ≡ b.server = same_long a.server b.server (omega (arith, ia.0)) (omega (arith, ib.0)) one.0 in
    let taken : a.taken ≡ b.taken = same_long a.taken b.taken ia.1 ib.1 two.0 in
    let held : a.held ≡ b.held = same_long a.held b.held ia.2 ib.2 three.0 in
    let epoch : a.epoch ≡ b.epoch = same_long a.epoch b.epoch ia.3 ib.3 three.1 in
    ap4 server_of server taken held epoch
same_line n (Server a) End ia ib e = absurd (clash 84 101 _ _ refl e)
same_line n End (History b) ia ib e = absurd (clash 101 72 _ _ refl e)
same_line n End (Refused b) ia ib e = absurd (clash 101 88 _ _ refl e)
same_line n End (Repair b) ia ib e = absurd (clash 101 82 _ _ refl e)
same_line n End (Unanswered b) ia ib e = absurd (clash 101 79 _ _ refl e)
same_line n End (Object b) ia ib e = absurd (clash 101 76 _ _ refl e)
same_line n End (Takes b) ia ib e = absurd (clash 101 71 _ _ refl e)
same_line n End (Server b) ia ib e = absurd (clash 101 84 _ _ refl e)
same_line n End End ia ib e = refl

-- ---- no line has a line feed inside

bytes_feed : (bytes : List ℕ) → IsBytes bytes → Lacks 10 (encode_lower bytes)
bytes_feed bytes h = Lacks-from_test is_lower_digit 10 refl (encode_lower bytes) (list_all-from_AllPass is_lower_digit (encode_lower bytes) (lower-encode bytes h))

listed_feed : {A : Type 0} (IsValue : A → Type 0) (text_of : A → List ℕ) → ((value : A) → IsValue value → Lacks 10 (text_of value)) → (values : List A) → All IsValue values
    → Lacks 10 (listed text_of values)
listed_feed IsValue text_of lacks [] are = tt
listed_feed IsValue text_of lacks (v ∷ vs) are =
    (λ e. omega (arith, e), Lacks-append 10 (text_of v) (listed text_of vs) (lacks v (All-head IsValue v vs are)) (listed_feed IsValue text_of lacks vs (All-tail IsValue v vs are)))

lost_feed : (s : ℕ) (t : List Triple) → IsLost (s, t) → Lacks 10 (lost_text (s, t))
lost_feed s t is =
    let missing : Lacks 10 (missing_text t) =
    Lacks-append 10 (codes "missing") (listed triple_text t) (Lacks-literal 10 (codes "missing") refl) (listed_feed IsTriple triple_text (λ x i. triple_lacks 10 x (omega arith) i) t is.1) in
    let front : Lacks 10 (decimal s ++ 32 ∷ []) = Lacks-append 10 (decimal s) (32 ∷ []) (long_lacks 10 s (omega arith) is.0) (Lacks-literal 10 (32 ∷ []) refl) in
    Lacks-append 10 (decimal s ++ 32 ∷ []) (missing_text t) front missing

literal_long : (first : List ℕ) (n : ℕ) → Lacks 10 first → IsLong n → Lacks 10 (first ++ decimal n)
literal_long first n p long = Lacks-append 10 first (decimal n) p (long_lacks 10 n (omega arith) long)

shown_feed : (r : Shown) → IsShown r → Lacks 10 (shown_text r)
shown_feed (shown.Reply reply.Done) is = Lacks-literal 10 (codes "ok") refl
shown_feed (shown.Reply (reply.Bytes b)) is = Lacks-append 10 (codes "bytes hex:") (encode_lower b) (Lacks-literal 10 (codes "bytes hex:") refl) (bytes_feed b is)
shown_feed (shown.Reply (reply.Length n)) is = literal_long (codes "length ") n (Lacks-literal 10 (codes "length ") refl) is
shown_feed (shown.Reply reply.NoSuch) is = Lacks-literal 10 (codes "nosuch") refl
shown_feed (shown.Reply reply.OutRange) is = Lacks-literal 10 (codes "outrange") refl
shown_feed (shown.Reply reply.TooLarge) is = Lacks-literal 10 (codes "toolarge") refl
shown_feed shown.Unfinished is = Lacks-literal 10 (codes "open") refl

unavailable_feed : (s : ℕ) (t : List Triple) → IsLost (s, t) → Lacks 10 (unavailable_text s t)
unavailable_feed s t is = Lacks-append 10 (codes "unavailable stripe ") (lost_text (s, t)) (Lacks-literal 10 (codes "unavailable stripe ") refl) (lost_feed s t is)

cause_feed : (c : Cause) → IsCause c → Lacks 10 (cause_text c)
cause_feed (cause.Unavailable s m) is = unavailable_feed s m is
cause_feed (cause.Contended t) is =
    Lacks-append 10 (codes "contended") (pairs_text t) (Lacks-literal 10 (codes "contended") refl) (listed_feed IsPair pair_text (λ x i. pair_lacks 10 x (omega arith) i) t is.0)
cause_feed (cause.Reaped n) is = literal_long (codes "reaped ") n (Lacks-literal 10 (codes "reaped ") refl) is
cause_feed cause.NoMemory is = Lacks-literal 10 (codes "nomem") refl

result_feed : (r : RepairResult) → IsResult r → Lacks 10 (result_text r)
result_feed repair.Rebuilt is = Lacks-literal 10 (codes "rebuilt") refl
result_feed repair.Here is = Lacks-literal 10 (codes "here") refl
result_feed (repair.Away n) is = literal_long (codes "away ") n (Lacks-literal 10 (codes "away ") refl) is
result_feed repair.NoSuch is = Lacks-literal 10 (codes "nosuch") refl
result_feed (repair.Superseded n) is = literal_long (codes "superseded ") n (Lacks-literal 10 (codes "superseded ") refl) is
result_feed (repair.Unavailable s m) is = unavailable_feed s m is
result_feed (repair.Reaped n) is = literal_long (codes "reaped ") n (Lacks-literal 10 (codes "reaped ") refl) is
result_feed repair.NoMemory is = Lacks-literal 10 (codes "nomem") refl

-- a space, and what stands behind it
spaced_feed : (first rest : List ℕ) → Lacks 10 first → Lacks 10 rest → Lacks 10 (first ++ 32 ∷ rest)
spaced_feed first rest p q = Lacks-append 10 first (32 ∷ rest) p (λ e. omega (arith, e), q)

letter_feed : (letter : ℕ) (rest : List ℕ) → letter ≢ 10 → Lacks 10 rest → Lacks 10 (letter ∷ 32 ∷ rest)
letter_feed letter rest other p = (other, (λ e. omega (arith, e), p))

pub line_feed : (n : ℕ) (l : Line) → IsLine n l → Lacks 10 (line_body l)
line_feed n (History a) is =
    letter_feed 72 _ (λ e. omega (arith, e)) (spaced_feed (decimal a.point) _ (long_lacks 10 a.point (omega arith) is.0) (spaced_feed (client_text a.call) _ (client_lacks 10 a.call (omega arith) is.1) (shown_feed a.reply is.2)))
line_feed n (Refused a) is = letter_feed 88 (client_text a.call ++ 32 ∷ cause_text a.cause) (λ e. omega (arith, e)) (spaced_feed (client_text a.call) _ (client_lacks 10 a.call (omega arith) is.0) (cause_feed a.cause is.1))
line_feed n (Repair a) is = letter_feed 82 (repair_text a.call ++ 32 ∷ result_text a.result) (λ e. omega (arith, e)) (spaced_feed (repair_text a.call) _ (repair_lacks 10 a.call (omega arith) is.0) (result_feed a.result is.1))
line_feed n (Unanswered a) is = letter_feed 79 _ (λ e. omega (arith, e)) (call_lacks 10 a.call (omega arith) is)
line_feed n (Object a) is = letter_feed 76 _ (λ e. omega (arith, e)) (spaced_feed a.name _ (name_lacks_feed a.name is.0) (long_lacks 10 a.length (omega arith) is.1))
line_feed n (Takes a) is =
    letter_feed 71 _ (λ e. omega (arith, e)) (Lacks-append 10 (call_text a.call) (listed decimal a.takes) (call_lacks 10 a.call (omega arith) is.0)
    (listed_feed IsLong decimal (λ x i. long_lacks 10 x (omega arith) i) a.takes is.1))
line_feed n (Server a) is =
    letter_feed 84 _ (λ e. omega (arith, e)) (spaced_feed (decimal a.server) _ (short_lacks 10 a.server (omega arith) is.0) (spaced_feed (decimal a.taken) _ (long_lacks 10 a.taken (omega arith) is.1)
    (spaced_feed (decimal a.held) _ (long_lacks 10 a.held (omega arith) is.2) (long_lacks 10 a.epoch (omega arith) is.3))))
line_feed n End is = Lacks-literal 10 (codes "end") refl

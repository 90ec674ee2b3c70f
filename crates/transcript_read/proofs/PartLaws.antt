-- Laws on reading the parts of a line.
use Rattle.std.proofs.Common.{◌≡◌, ◌≢◌, ℕ, ◌<◌, List, [], ◌∷◌, ◌++◌, get_or, drop, append_assoc, eq-eqb, true, false, Result, Ok, Err, refl, sym, ap, ◌∙◌, subst, arith}
use Rattle.std.specs.Prelude.{All, codes, decimal, MatchOption, IfErr, ◌==◌}
use Rattle.transcript_read.proofs.ListLaws.{listed, listed_injective}
use Rattle.std.specs.Result.{IsErrAnd, result_ok}
use Rattle.std.specs.Str.Parse.{AllDigits, digits_value, ParsesUnsigned}
use Rattle.std.proofs.lemmas.Str.Parse.{IsNumeralModel, numerals_by_value, tells_digits, parse_plain, digit_at}
use Rattle.store_map.specs.declared.placement.Placement.{Placement}
use Rattle.store_map.specs.declared.placement.Placement.TheVariants.{At, Skipped}
use Rattle.store_map.specs.declared.placement.Found.{Found}
use Rattle.store_map.specs.declared.placement.Found.TheVariants.{Absent, Away}
use Rattle.line_grammar.specs.Lines.{Lacks}
use Rattle.line_grammar.specs.Numbers.{number_word, IsNumberWord}
use Rattle.line_grammar.proofs.LineLaws.{same_parts, never_parted, Lacks-append}
use Rattle.line_grammar.proofs.NumberLaws.{IsDigits, IsDigits-number_word, number_word_is, number_word-value, number_word_injective, number_lacks}
use Rattle.store_map.specs.Triples.{placement_text, found_text, triple_text}
use Rattle.store_map.specs.CallNames.{client_text, repair_text, call_text}
use Rattle.store_map.specs.declared.call_name.ClientCall.{ClientCall}
use Rattle.store_map.specs.declared.call_name.RepairCall.{RepairCall}
use Rattle.store_map.specs.declared.call_name.CallName.{CallName}
use Rattle.store_map.specs.declared.call_name.CallName.TheVariants.{Client, Repairer}
use Rattle.store_map.specs.declared.cause.Triple.{Triple}
use Rattle.transcript_read.specs.Reads.{Reads, Refuses}
use Rattle.transcript_read.specs.Values.{IsLong, IsShort, IsClientCall, IsRepairCall, IsCallName, IsPlacement, IsFound, IsTriple}
use Rattle.transcript_read.specs.Reasons.{IsPair, pair_text}
use Rattle.transcript_read.specs.declared.field.Unread.{Unread}
use Rattle.transcript_read.specs.declared.field.Unread.TheVariants.{Syntax, OutOfMemory}

-- ---- refusals

-- a refusal for one reason is one for what follows from it
pub Refuses-weaker : {P Q : Type 0} (why : Unread) → (P → Q) → Refuses why P → Refuses why Q
Refuses-weaker Syntax f p = f p
Refuses-weaker OutOfMemory f p = tt

-- a refusal that isn't want of memory has its reason
pub refused_for : {P : Type 0} (why : Unread) → why ≡ Syntax → Refuses why P → P
refused_for Syntax is p = p
refused_for OutOfMemory is p = cc is

-- a part's refusal is handed on
pub refused_by :
    {T : Type 0} {P Q : Type 0} (r : Result T Unread) (e : Unread) → IsErrAnd r (λ y. y ≡ e) → Refuses e P → (P → Q)
    → IfErr r (λ why. Refuses why Q)
refused_by (Ok x) e is p f = tt
refused_by (Err y) e is p f = let q = Refuses-weaker e f p in rw is q

-- a part that is no value's makes the whole none's
pub unread_by :
    {A : Type 0} {P : Type 0} (IsValue : A → Type 0) (text_of : A → List ℕ) (text : List ℕ) (r : Result A Unread) (e : Unread)
    → IsErrAnd r (λ y. y ≡ e) → Refuses e P → (P → (value : A) → IsValue value → text ≢ text_of value)
    → Reads IsValue text_of text r
unread_by IsValue text_of text (Ok x) e is p f = absurd is
unread_by IsValue text_of text (Err y) e is p f = let q = Refuses-weaker e f p in rw is q

-- ---- lists of bytes

-- the first bytes of equal texts are equal, and so is what stands behind them
pub heads : (a b : ℕ) (l m : List ℕ) → a ∷ l ≡ b ∷ m → a ≡ b
heads a b l m e = ap (λ (x : List ℕ). get_or x 0 0) e

pub tails : (a b : ℕ) (l m : List ℕ) → a ∷ l ≡ b ∷ m → l ≡ m
tails a b l m e = ap (drop 1) e

-- texts that begin otherwise differ
pub clash : (a b : ℕ) (l m : List ℕ) → (a == b) ≡ false → a ∷ l ≡ b ∷ m → ⊥
clash a b l m other e = let same : (a == b) ≡ true = eq-eqb a b (heads a b l m e) in cc (same, other)

-- parts with a byte between them
pub two_parts : (s : ℕ) (a b : List ℕ) → a ++ (s ∷ []) ++ b ≡ a ++ s ∷ b
two_parts s a b = append_assoc a (s ∷ []) b

pub three_parts : (s : ℕ) (a b c : List ℕ) → a ++ (s ∷ []) ++ b ++ (s ∷ []) ++ c ≡ a ++ s ∷ (b ++ s ∷ c)
three_parts s a b c =
    append_assoc (a ++ (s ∷ []) ++ b) (s ∷ []) c ∙ append_assoc (a ++ (s ∷ [])) b (s ∷ c) ∙ append_assoc a (s ∷ []) (b ++ s ∷ c)

-- ---- numbers

-- a number has no byte below `0`
pub long_lacks : (byte n : ℕ) → byte < 48 → IsLong n → Lacks byte (decimal n)
long_lacks byte n low long = let P : List ℕ → Type 0 = Lacks byte in subst P (number_word_is n long) (number_lacks byte n low)

pub short_lacks : (byte n : ℕ) → byte < 48 → IsShort n → Lacks byte (decimal n)
short_lacks byte n low short = long_lacks byte n low (omega (arith, short))

-- a number begins with a digit
pub not_letter : (c n : ℕ) (rest : List ℕ) → 57 < c → IsLong n → decimal n ≢ c ∷ rest
not_letter c n rest above long e =
    let is : number_word n ≡ c ∷ rest = number_word_is n long ∙ e in
    let d = IsDigits-number_word n in
    let range = digit_at (number_word n) 0 d.digits d.some in
    let first : get_or (number_word n) 0 0 ≡ c = ap (λ (l : List ℕ). get_or l 0 0) is in
    omega (arith, range.1, first, above)

own : IsNumeralModel (AllDigits 10) (digits_value 10)
own = numerals_by_value (AllDigits 10) tells_digits

-- what parsing shows
pub parsed_long : (E : Type 0) (word : List ℕ) (r : Result ℕ E) → IsDigits word → ParsesUnsigned {E = E} 64 10 word r
    → MatchOption (result_ok r) ((n : ℕ) → IsLong n → word ≢ decimal n) (λ n. IsLong n × (word ≡ decimal n))
parsed_long E word (Ok n) h p =
    let range = digit_at word 0 h.digits h.some in
    let plain = parse_plain own {E = E} 64 word (Ok n) p (omega (arith, range.0)) in
    let long : IsLong n = rw plain.1 plain.0.2 in
    (long, sym (ap number_word plain.1 ∙ number_word-value word h) ∙ number_word_is n long)
parsed_long E word (Err e) h p = λ n long is.
    let range = digit_at word 0 h.digits h.some in
    let plain = parse_plain own {E = E} 64 word (Err e) p (omega (arith, range.0)) in
    let same : digits_value 10 word ≡ n = number_word_injective (digits_value 10 word) n (number_word-value word h ∙ is ∙ sym (number_word_is n long)) in
    plain (h.digits, h.some, rw same long)

-- a word that is no number's
pub no_long_word : (word : List ℕ) → ¬ IsNumberWord word → (n : ℕ) → IsLong n → word ≢ decimal n
no_long_word word other n long e = other (n, e ∙ sym (number_word_is n long))

-- ---- the parts of a line lack the bytes that part them

pub placement_lacks : (byte : ℕ) (p : Placement) → byte < 48 → IsPlacement p → Lacks byte (placement_text p)
placement_lacks byte (At n) low is = long_lacks byte n low is
placement_lacks byte (Skipped n) low is = (λ e. omega (arith, e, low), long_lacks byte n low is)

pub found_lacks : (byte : ℕ) (f : Found) → byte < 48 → IsFound f → Lacks byte (found_text f)
found_lacks byte (Absent n) low is = long_lacks byte n low is
found_lacks byte (Away n) low is = (λ e. omega (arith, e, low), long_lacks byte n low is)

pub triple_parts : (t : Triple) → triple_text t ≡ decimal t.server ++ 47 ∷ (placement_text t.placed ++ 47 ∷ found_text t.found)
triple_parts t = three_parts 47 (decimal t.server) (placement_text t.placed) (found_text t.found)

pub triple_lacks : (byte : ℕ) (t : Triple) → byte < 47 → IsTriple t → Lacks byte (triple_text t)
triple_lacks byte t low is =
    let whole : Lacks byte (decimal t.server ++ 47 ∷ (placement_text t.placed ++ 47 ∷ found_text t.found)) =
    Lacks-append byte (decimal t.server) (47 ∷ (placement_text t.placed ++ 47 ∷ found_text t.found))
    (long_lacks byte t.server (omega (arith, low)) is.0) (
      λ e. omega (arith, e, low),
      Lacks-append byte (placement_text t.placed) (47 ∷ found_text t.found) (placement_lacks byte t.placed (omega (arith, low)) is.1)
          (λ e. omega (arith, e, low), found_lacks byte t.found (omega (arith, low)) is.2),
    ) in
    let P : List ℕ → Type 0 = Lacks byte in subst P (sym (triple_parts t)) whole

pub pair_lacks : (byte : ℕ) (p : ℕ × ℕ) → byte < 47 → IsPair p → Lacks byte (pair_text p)
pair_lacks byte p low is =
    let whole : Lacks byte (decimal p.0 ++ 47 ∷ decimal p.1) =
    Lacks-append byte (decimal p.0) (47 ∷ decimal p.1) (long_lacks byte p.0 (omega (arith, low)) is.0)
    (λ e. omega (arith, e, low), long_lacks byte p.1 (omega (arith, low)) is.1) in
    let P : List ℕ → Type 0 = Lacks byte in subst P (sym (two_parts 47 (decimal p.0) (decimal p.1))) whole

numbers_lack : (byte a n : ℕ) → byte < 46 → IsShort a → IsShort n → Lacks byte (decimal a ++ codes "." ++ decimal n)
numbers_lack byte a n low sa sn =
    let whole : Lacks byte (decimal a ++ 46 ∷ decimal n) =
    Lacks-append byte (decimal a) (46 ∷ decimal n) (short_lacks byte a (omega (arith, low)) sa)
    (λ e. omega (arith, e, low), short_lacks byte n (omega (arith, low)) sn) in
    let P : List ℕ → Type 0 = Lacks byte in subst P (sym (two_parts 46 (decimal a) (decimal n))) whole

pub client_lacks : (byte : ℕ) (c : ClientCall) → byte < 46 → IsClientCall c → Lacks byte (client_text c)
client_lacks byte c low is = (λ e. omega (arith, e, low), numbers_lack byte c.client c.number low is.0 is.1)

pub repair_lacks : (byte : ℕ) (c : RepairCall) → byte < 46 → IsRepairCall c → Lacks byte (repair_text c)
repair_lacks byte c low is = (λ e. omega (arith, e, low), numbers_lack byte c.repairer c.number low is.0 is.1)

pub call_lacks : (byte : ℕ) (c : CallName) → byte < 46 → IsCallName c → Lacks byte (call_text c)
call_lacks byte (Client c) low is = client_lacks byte c low is
call_lacks byte (Repairer c) low is = repair_lacks byte c low is

-- ---- fields

-- what stands behind the first field is determined
pub behind_field :
    (sep : ℕ) (first rest : List ℕ) (text other more : List ℕ) → Lacks sep first → Lacks sep other → text ≡ first ++ sep ∷ rest
    → text ≡ other ++ sep ∷ more → rest ≡ more
behind_field sep first rest text other more p q found e = (same_parts sep first rest other more p q (sym found ∙ e)).1

pub same_field :
    (sep : ℕ) (first rest : List ℕ) (text other more : List ℕ) → Lacks sep first → Lacks sep other → text ≡ first ++ sep ∷ rest
    → text ≡ other ++ sep ∷ more → first ≡ other
same_field sep first rest text other more p q found e = (same_parts sep first rest other more p q (sym found ∙ e)).0

-- a text without the byte has no first field
pub no_field : (sep : ℕ) (text other more : List ℕ) → Lacks sep text → text ≢ other ++ sep ∷ more
no_field sep text other more lacks e = let P : List ℕ → Type 0 = Lacks sep in never_parted sep other more (subst P e lacks)

-- ---- texts that begin with a letter

pub skipped_unread :
    (text downs : List ℕ) → text ≡ 117 ∷ downs → ((n : ℕ) → IsLong n → downs ≢ decimal n) → (p : Placement) → IsPlacement p → text ≢ placement_text p
skipped_unread text downs begins none (At n) is e = not_letter 117 n downs (omega arith) is (sym e ∙ begins)
skipped_unread text downs begins none (Skipped n) is e = none n is (tails 117 117 downs (decimal n) (sym begins ∙ e))

pub away_unread :
    (text downs : List ℕ) → text ≡ 97 ∷ downs → ((n : ℕ) → IsLong n → downs ≢ decimal n) → (f : Found) → IsFound f → text ≢ found_text f
away_unread text downs begins none (Absent n) is e = not_letter 97 n downs (omega arith) is (sym e ∙ begins)
away_unread text downs begins none (Away n) is e = none n is (tails 97 97 downs (decimal n) (sym begins ∙ e))

-- no actor and number have this text
abbrev pub NoNumbers : List ℕ → Type 0
NoNumbers text = (a n : ℕ) → IsShort a → IsShort n → text ≢ decimal a ++ codes "." ++ decimal n

pub client_unread : (text numbers : List ℕ) → text ≡ 99 ∷ numbers → NoNumbers numbers → (c : ClientCall) → IsClientCall c → text ≢ client_text c
client_unread text numbers begins none c is e =
    none c.client c.number is.0 is.1 (tails 99 99 numbers (decimal c.client ++ codes "." ++ decimal c.number) (sym begins ∙ e))

pub repairer_unread : (text numbers : List ℕ) → text ≡ 114 ∷ numbers → NoNumbers numbers → (c : RepairCall) → IsRepairCall c → text ≢ repair_text c
repairer_unread text numbers begins none c is e =
    none c.repairer c.number is.0 is.1 (tails 114 114 numbers (decimal c.repairer ++ codes "." ++ decimal c.number) (sym begins ∙ e))

-- the number behind an actor is none
pub no_numbers : (text : List ℕ) (actor : ℕ) (rest : List ℕ) → IsShort actor → text ≡ decimal actor ++ 46 ∷ rest → ((n : ℕ) → IsShort n → rest ≢ decimal n) → NoNumbers text
no_numbers text actor rest short found none a n sa sn e =
    none n sn
    (behind_field 46 (decimal actor) rest text (decimal a) (decimal n) (short_lacks 46 actor (omega arith) short) (short_lacks 46 a (omega arith) sa) found
    (e ∙ two_parts 46 (decimal a) (decimal n)))

-- ---- equal spellings

pub same_long : (m n : ℕ) → IsLong m → IsLong n → decimal m ≡ decimal n → m ≡ n
same_long m n lm ln e = number_word_injective m n (number_word_is m lm ∙ e ∙ sym (number_word_is n ln))

pub same_longs : (ms ns : List ℕ) → All IsLong ms → All IsLong ns → listed decimal ms ≡ listed decimal ns → ms ≡ ns
same_longs ms ns = listed_injective IsLong decimal (λ n long. long_lacks 32 n (omega arith) long) same_long ms ns

same_numbers : (a n b m : ℕ) → IsShort a → IsShort n → IsShort b → IsShort m → decimal a ++ codes "." ++ decimal n ≡ decimal b ++ codes "." ++ decimal m → (a ≡ b) × (n ≡ m)
same_numbers a n b m sa sn sb sm e =
    let both = sym (two_parts 46 (decimal a) (decimal n)) ∙ e ∙ two_parts 46 (decimal b) (decimal m) in
    let parts = same_parts 46 (decimal a) (decimal n) (decimal b) (decimal m) (short_lacks 46 a (omega arith) sa) (short_lacks 46 b (omega arith) sb) both in
    (same_long a b (omega (arith, sa)) (omega (arith, sb)) parts.0, same_long n m (omega (arith, sn)) (omega (arith, sm)) parts.1)

pub same_client : (c d : ClientCall) → IsClientCall c → IsClientCall d → client_text c ≡ client_text d → c ≡ d
same_client c d p q e =
    let same = same_numbers c.client c.number d.client d.number p.0 p.1 q.0 q.1 (tails 99 99 (decimal c.client ++ codes "." ++ decimal c.number) (decimal d.client ++ codes "." ++ decimal d.number) e) in
    λ i. record { client = same.0 i; number = same.1 i }

pub same_repair : (c d : RepairCall) → IsRepairCall c → IsRepairCall d → repair_text c ≡ repair_text d → c ≡ d
same_repair c d p q e =
    let same = same_numbers c.repairer c.number d.repairer d.number p.0 p.1 q.0 q.1 (tails 114 114 (decimal c.repairer ++ codes "." ++ decimal c.number) (decimal d.repairer ++ codes "." ++ decimal d.number) e) in
    λ i. record { repairer = same.0 i; number = same.1 i }

pub same_call : (c d : CallName) → IsCallName c → IsCallName d → call_text c ≡ call_text d → c ≡ d
same_call (Client c) (Client d) p q e = ap Client (same_client c d p q e)
same_call (Repairer c) (Repairer d) p q e = ap Repairer (same_repair c d p q e)
same_call (Client c) (Repairer d) p q e = absurd (clash 99 114 (decimal c.client ++ codes "." ++ decimal c.number) (decimal d.repairer ++ codes "." ++ decimal d.number) refl e)
same_call (Repairer c) (Client d) p q e = absurd (clash 114 99 (decimal c.repairer ++ codes "." ++ decimal c.number) (decimal d.client ++ codes "." ++ decimal d.number) refl e)

-- Laws on the lines of calls.
use Rattle.std.proofs.Common.{◌≡◌, ◌≢◌, ℕ, ◌^◌, ◌≤◌, true, ◌&&◌, List, [], ◌∷◌, ◌++◌, length, get_or, drop, Err, refl, sym, ap, ◌∙◌, arith, subst}
use Rattle.std.specs.Prelude.{codes, nat_le}
use Rattle.std.specs.List.{list_all}
use Rattle.std.proofs.lemmas.Bool.{and_parts, eqb-false}
use Rattle.store_map.specs.Name.{IsName, is_name_byte}
use Rattle.store_map.specs.declared.call.Call.{Call}
use Rattle.store_map.specs.declared.call.Call.TheVariants.{Put, Write, Get, ReadAt, Stat, Delete}
use Rattle.store_map.specs.declared.content.Content.{Content}
use Rattle.line_grammar.specs.Words.{content_word, call_words}
use Rattle.line_grammar.specs.Lines.{Lacks, spaced}
use Rattle.line_grammar.specs.Numbers.{number_word, IsNumberWord}
use Rattle.line_grammar.specs.Reads.{ReadsContent, ReadsCall}
use Rattle.line_grammar.specs.Values.{IsNumber}
use Rattle.line_grammar.specs.Forms.{IsContentForm, IsCallForm}
use Rattle.line_grammar.specs.declared.line_fault.FaultKind.{FaultKind}
use Rattle.line_grammar.specs.declared.line_fault.FaultKind.TheVariants.{Syntax, Geometry, Limit, NoSuchActor, NoSuchServer, MissingEnd, OutOfMemory}
use Rattle.line_grammar.proofs.LineLaws.{same_parts, never_parted, Lacks-from_test}
use Rattle.line_grammar.proofs.NumberLaws.{number_lacks}

-- each byte of a name is a name's
name_bytes : (name : List ℕ) → IsName name → list_all is_name_byte name ≡ true
name_bytes name h = (and_parts (nat_le 1 (length name) && nat_le (length name) 64) (list_all is_name_byte name) h).1

-- a name has no space and no line feed
pub name_lacks_space : (name : List ℕ) → IsName name → Lacks 32 name
name_lacks_space name h = Lacks-from_test is_name_byte 32 refl name (name_bytes name h)

-- and no line feed
pub name_lacks_feed : (name : List ℕ) → IsName name → Lacks 10 name
name_lacks_feed name h = Lacks-from_test is_name_byte 10 refl name (name_bytes name h)

-- equal lists begin alike
pub heads : (xs ys : List ℕ) → xs ≡ ys → get_or xs 0 0 ≡ get_or ys 0 0
heads xs ys e = ap (λ (l : List ℕ). get_or l 0 0) e

-- ---- the calls that begin with a word

-- a call's line, without its line feed
abbrev pub call_text : Call → List ℕ
call_text call = spaced (call_words call)

-- what begins with `put` is a put
pub put_only : (words : List ℕ) (call : Call) → IsCallForm call → codes "put " ++ words ≡ call_text call
    → (name : List ℕ) × (content : Content) × (call ≡ Put name content) × IsName name × IsContentForm content × (words ≡ name ++ 32 ∷ content_word content)
put_only words (Put name content) h e = (name, content, refl, h.0, h.1, ap (drop 4) e)
put_only words _ h e = absurd (eqb-false 112 _ refl (heads _ _ e))

-- what begins with `write` is a write
pub write_only : (words : List ℕ) (call : Call) → IsCallForm call → codes "write " ++ words ≡ call_text call
    → (name : List ℕ) × (offset : ℕ) × (content : Content) × (call ≡ Write name offset content) × IsName name × IsContentForm content
    × (words ≡ name ++ 32 ∷ (number_word offset ++ 32 ∷ content_word content))
write_only words (Write name offset content) h e = (name, offset, content, refl, h.0, h.1, ap (drop 6) e)
write_only words _ h e = absurd (eqb-false 119 _ refl (heads _ _ e))

-- what begins with `get` is the get of the name behind
pub get_only : (word : List ℕ) (call : Call) → IsCallForm call → codes "get " ++ word ≡ call_text call → IsName word × (call ≡ Get word)
get_only word (Get name) h e = let same : word ≡ name = ap (drop 4) e in (rw same h, ap Get (sym same))
get_only word _ h e = absurd (eqb-false 103 _ refl (heads _ _ e))

-- what begins with `stat` is the stat of the name behind
pub stat_only : (word : List ℕ) (call : Call) → IsCallForm call → codes "stat " ++ word ≡ call_text call → IsName word × (call ≡ Stat word)
stat_only word (Stat name) h e = let same : word ≡ name = ap (drop 5) e in (rw same h, ap Stat (sym same))
stat_only word _ h e = absurd (eqb-false 115 _ refl (heads _ _ e))

-- what begins with `delete` is the delete of the name behind
pub delete_only : (word : List ℕ) (call : Call) → IsCallForm call → codes "delete " ++ word ≡ call_text call → IsName word × (call ≡ Delete word)
delete_only word (Delete name) h e = let same : word ≡ name = ap (drop 7) e in (rw same h, ap Delete (sym same))
delete_only word _ h e = absurd (eqb-false 100 _ refl (heads _ _ e))

-- what begins with `read` is a read
pub read_only : (words : List ℕ) (call : Call) → IsCallForm call → codes "read " ++ words ≡ call_text call
    → (name : List ℕ) × (offset : ℕ) × (count : ℕ) × (call ≡ ReadAt name offset count) × IsName name
    × (words ≡ name ++ 32 ∷ (number_word offset ++ 32 ∷ number_word count))
read_only words (ReadAt name offset count) h e = (name, offset, count, refl, h, ap (drop 5) e)
read_only words _ h e = absurd (eqb-false 114 _ refl (heads _ _ e))

-- ---- parts

-- words without a space are not two
pub one_word : (words rest tail : List ℕ) (name : List ℕ) → words ≡ name ++ 32 ∷ tail → Lacks 32 words → ⊥
one_word words rest tail name e lacks = let P : List ℕ → Type 0 = Lacks 32 in never_parted 32 name tail (subst P e lacks)

-- a put has a space behind its name
pub put_no_space : (words : List ℕ) → Lacks 32 words → (call : Call) → IsCallForm call → codes "put " ++ words ≢ call_text call
put_no_space words lacks call h e = let only = put_only words call h e in one_word words [] (content_word only.1) only.0 only.5 lacks

-- the first space ends a put's name
pub put_parts : (words first rest : List ℕ) → words ≡ first ++ 32 ∷ rest → Lacks 32 first → (call : Call) → IsCallForm call → codes "put " ++ words ≡ call_text call
    → IsName first × ((content : Content) × (call ≡ Put first content) × IsContentForm content × (rest ≡ content_word content))
put_parts words first rest is lacks call h e =
    let only = put_only words call h e in
    let same = same_parts 32 first rest only.0 (content_word only.1) lacks (name_lacks_space only.0 only.3) (sym is ∙ only.5) in
    (rw same.0 only.3, (only.1, only.2 ∙ ap (λ (n : List ℕ). Put n only.1) (sym same.0), only.4, same.1))

-- a name and data make a put
pub put_made : (words first rest : List ℕ) (content : Content) → words ≡ first ++ 32 ∷ rest → rest ≡ content_word content → codes "put " ++ words ≡ call_text (Put first content)
put_made words first rest content is word = ap (λ (l : List ℕ). codes "put " ++ l) (is ∙ ap (λ (l : List ℕ). first ++ 32 ∷ l) word)

-- what is wrong with the data is wrong with the put
pub put_err : (words first rest : List ℕ) (kind : FaultKind) → words ≡ first ++ 32 ∷ rest → Lacks 32 first → IsName first → ReadsContent rest (Err kind)
    → ReadsCall (codes "put " ++ words) (Err kind)
put_err words first rest Syntax is lacks name h = λ call form e. let parts = put_parts words first rest is lacks call form e in h parts.1.0 parts.1.2 parts.1.3
put_err words first rest Limit is lacks name h =
    (Put first h.0, (name, h.1), λ fits. h.2 fits.1, put_made words first rest h.0 is h.3)
put_err words first rest OutOfMemory is lacks name h = tt
put_err words first rest Geometry is lacks name h = h
put_err words first rest NoSuchActor is lacks name h = h
put_err words first rest NoSuchServer is lacks name h = h
put_err words first rest MissingEnd is lacks name h = h

-- ---- a write

-- a write has a space behind its name
pub write_no_space : (words : List ℕ) → Lacks 32 words → (call : Call) → IsCallForm call → codes "write " ++ words ≢ call_text call
write_no_space words lacks call h e =
    let only = write_only words call h e in one_word words [] (number_word only.1 ++ 32 ∷ content_word only.2) only.0 only.6 lacks

-- the first space ends a write's name
write_first : (words first rest : List ℕ) → words ≡ first ++ 32 ∷ rest → Lacks 32 first → (call : Call) → IsCallForm call → codes "write " ++ words ≡ call_text call
    → IsName first × ((offset : ℕ) × (content : Content) × (call ≡ Write first offset content) × IsContentForm content × (rest ≡ number_word offset ++ 32 ∷ content_word content))
write_first words first rest is lacks call h e =
    let only = write_only words call h e in
    let same = same_parts 32 first rest only.0 (number_word only.1 ++ 32 ∷ content_word only.2) lacks (name_lacks_space only.0 only.4) (sym is ∙ only.6) in
    (rw same.0 only.4, (only.1, only.2, only.3 ∙ ap (λ (n : List ℕ). Write n only.1 only.2) (sym same.0), only.5, same.1))

-- and a space behind its offset
pub write_no_second : (words first rest : List ℕ) → words ≡ first ++ 32 ∷ rest → Lacks 32 first → Lacks 32 rest → (call : Call) → IsCallForm call → codes "write " ++ words ≢ call_text call
write_no_second words first rest is lacks none call h e =
    let parts = write_first words first rest is lacks call h e in one_word rest [] (content_word parts.1.1) (number_word parts.1.0) parts.1.4 none

-- a write's name, offset and data
pub write_parts : (words first rest second third : List ℕ) → words ≡ first ++ 32 ∷ rest → Lacks 32 first → rest ≡ second ++ 32 ∷ third → Lacks 32 second
    → (call : Call) → IsCallForm call → codes "write " ++ words ≡ call_text call
    → IsName first × ((offset : ℕ) × (content : Content) × (call ≡ Write first offset content) × IsContentForm content × (second ≡ number_word offset) × (third ≡ content_word content))
write_parts words first rest second third is lacks is' lacks' call h e =
    let parts = write_first words first rest is lacks call h e in
    let same = same_parts 32 second third (number_word parts.1.0) (content_word parts.1.1) lacks' (number_lacks 32 parts.1.0 (omega arith)) (sym is' ∙ parts.1.4) in
    (parts.0, (parts.1.0, parts.1.1, parts.1.2, parts.1.3, same.0, same.1))

-- a name, an offset and data make a write
pub write_made : (words first rest second third : List ℕ) (offset : ℕ) (content : Content) → words ≡ first ++ 32 ∷ rest → rest ≡ second ++ 32 ∷ third
    → second ≡ number_word offset → third ≡ content_word content → codes "write " ++ words ≡ call_text (Write first offset content)
write_made words first rest second third offset content is is' number word =
    ap (λ (l : List ℕ). codes "write " ++ l)
    (is ∙ ap (λ (l : List ℕ). first ++ 32 ∷ l) (is' ∙ ap (λ (l : List ℕ). l ++ 32 ∷ third) number ∙ ap (λ (l : List ℕ). number_word offset ++ 32 ∷ l) word))

-- what is wrong with the data is wrong with the write
pub write_err : (words first rest second third : List ℕ) (kind : FaultKind) → words ≡ first ++ 32 ∷ rest → Lacks 32 first → rest ≡ second ++ 32 ∷ third → Lacks 32 second
    → IsName first → IsNumberWord second → ReadsContent third (Err kind) → ReadsCall (codes "write " ++ words) (Err kind)
write_err words first rest second third Syntax is lacks is' lacks' name number h = λ call form e.
    let parts = write_parts words first rest second third is lacks is' lacks' call form e in h parts.1.1 parts.1.3 parts.1.5
write_err words first rest second third Limit is lacks is' lacks' name number h =
    (Write first number.0 h.0, (name, h.1), λ fits. h.2 fits.1, write_made words first rest second third number.0 h.0 is is' number.1 h.3)
write_err words first rest second third OutOfMemory is lacks is' lacks' name number h = tt
write_err words first rest second third Geometry is lacks is' lacks' name number h = h
write_err words first rest second third NoSuchActor is lacks is' lacks' name number h = h
write_err words first rest second third NoSuchServer is lacks is' lacks' name number h = h
write_err words first rest second third MissingEnd is lacks is' lacks' name number h = h

-- ---- a read

-- a read has a space behind its name
pub read_no_space : (words : List ℕ) → Lacks 32 words → (call : Call) → IsCallForm call → codes "read " ++ words ≢ call_text call
read_no_space words lacks call h e =
    let only = read_only words call h e in one_word words [] (number_word only.1 ++ 32 ∷ number_word only.2) only.0 only.5 lacks

-- the first space ends a read's name
read_first : (words first rest : List ℕ) → words ≡ first ++ 32 ∷ rest → Lacks 32 first → (call : Call) → IsCallForm call → codes "read " ++ words ≡ call_text call
    → IsName first × ((offset : ℕ) × (count : ℕ) × (call ≡ ReadAt first offset count) × (rest ≡ number_word offset ++ 32 ∷ number_word count))
read_first words first rest is lacks call h e =
    let only = read_only words call h e in
    let same = same_parts 32 first rest only.0 (number_word only.1 ++ 32 ∷ number_word only.2) lacks (name_lacks_space only.0 only.4) (sym is ∙ only.5) in
    (rw same.0 only.4, (only.1, only.2, only.3 ∙ ap (λ (n : List ℕ). ReadAt n only.1 only.2) (sym same.0), same.1))

-- and a space behind its offset
pub read_no_second : (words first rest : List ℕ) → words ≡ first ++ 32 ∷ rest → Lacks 32 first → Lacks 32 rest → (call : Call) → IsCallForm call → codes "read " ++ words ≢ call_text call
read_no_second words first rest is lacks none call h e =
    let parts = read_first words first rest is lacks call h e in one_word rest [] (number_word parts.1.1) (number_word parts.1.0) parts.1.3 none

-- a read's name, offset and length
pub read_parts : (words first rest second third : List ℕ) → words ≡ first ++ 32 ∷ rest → Lacks 32 first → rest ≡ second ++ 32 ∷ third → Lacks 32 second
    → (call : Call) → IsCallForm call → codes "read " ++ words ≡ call_text call
    → IsName first × ((offset : ℕ) × (count : ℕ) × (call ≡ ReadAt first offset count) × (second ≡ number_word offset) × (third ≡ number_word count))
read_parts words first rest second third is lacks is' lacks' call h e =
    let parts = read_first words first rest is lacks call h e in
    let same = same_parts 32 second third (number_word parts.1.0) (number_word parts.1.1) lacks' (number_lacks 32 parts.1.0 (omega arith)) (sym is' ∙ parts.1.3) in
    (parts.0, (parts.1.0, parts.1.1, parts.1.2, same.0, same.1))

-- a name, an offset and a length make a read
pub read_made : (words first rest second third : List ℕ) (offset count : ℕ) → words ≡ first ++ 32 ∷ rest → rest ≡ second ++ 32 ∷ third
    → second ≡ number_word offset → third ≡ number_word count → codes "read " ++ words ≡ call_text (ReadAt first offset count)
read_made words first rest second third offset count is is' number word =
    ap (λ (l : List ℕ). codes "read " ++ l)
    (is ∙ ap (λ (l : List ℕ). first ++ 32 ∷ l) (is' ∙ ap (λ (l : List ℕ). l ++ 32 ∷ third) number ∙ ap (λ (l : List ℕ). number_word offset ++ 32 ∷ l) word))

-- a number of 2^32 and more is not below it
pub not_small : (n : ℕ) → 2 ^ 32 ≤ n → IsNumber n → ⊥
not_small n large small = omega (arith, large, small)

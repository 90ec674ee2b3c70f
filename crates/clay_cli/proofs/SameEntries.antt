-- Lines spell one list of entries, so what an input of entries is refused for is one thing.
use Rattle.std.proofs.Common.{◌≡◌, ℕ, zero, suc, ◌+◌, ◌<◌, ◌≤◌, cond, List, [], length, get_or, take, refl, sym, ap, subst, ◌∙◌, inl, inr, arith, Option, None, Some, is_none, is_some, IfSome, Ok, Vec, Global, count_by}
use Rattle.std.specs.Option.{option_map}
use Rattle.std.proofs.lemmas.Bool.{cases_Bool}
use Rattle.std.proofs.lemmas.List.{ext_get_or, length-map, take_all}
use Rattle.std.proofs.lemmas.List.Elements.{All-from_get_or}
use Rattle.std.proofs.lemmas.List.Sums.{count_by_more_yes, count_by_more_no}
use Rattle.std.proofs.Math.ListN.{get_or-map}
use Rattle.hex.specs.Hex.{decode_of}
use Rattle.clay_grid.specs.Score.{count_below}
use Rattle.clay_grid.proofs.Counting.{count_below_same}
use Rattle.line_grammar.specs.ChunkEntries.{lines_of, IsEntry, IsNoEntry, AreEntries, HasNoEntry, AreLong, parts_of}
use Rattle.clay_cli.specs.Entries.{AreRead, HasOtherCount, HasOtherLine, AreRefused}

pub same_bytes : (line one other : List ℕ) → decode_of line ≡ Ok one → decode_of line ≡ Ok other → one ≡ other
same_bytes line one other a b = cc

same_entry : (line : List ℕ) (one other : Option (List ℕ)) → IsEntry line one → IsEntry line other → one ≡ other
same_entry line None None h k = refl
same_entry line None (Some y) h k = absurd (k.0 h)
same_entry line (Some x) None h k = absurd (h.0 k)
same_entry line (Some x) (Some y) h k = ap Some (same_bytes line x y h.1 k.1)

no_entry : (line : List ℕ) (one : Option (List ℕ)) → IsEntry line one → IsNoEntry line → ⊥
no_entry line None h none = none.0 h
no_entry line (Some x) h none = none.1 x h.1

same_entries : (lines : List (List ℕ)) (one other : List (Option (List ℕ))) → AreEntries lines one → AreEntries lines other → one ≡ other
same_entries lines one other h k =
    ext_get_or None one other (h.count ∙ sym k.count) (λ i l.
    let within : i < length lines = subst (λ n. i < n) h.count l in
    same_entry (get_or lines i []) (get_or one i None) (get_or other i None) (h.each i within) (k.each i within))

-- ---- facts that speak of the entries' bytes alone

abbrev pub bytes_of : Option (Vec ℕ Global) → Option (List ℕ)
bytes_of o = option_map (λ (v : Vec ℕ Global). v.items) o

none_of : (o : Option (Vec ℕ Global)) → is_none o ≡ is_none (bytes_of o)
none_of None = refl
none_of (Some v) = refl

some_of : (o : Option (Vec ℕ Global)) → is_some o ≡ is_some (bytes_of o)
some_of None = refl
some_of (Some v) = refl

pub none_back : (o : Option (Vec ℕ Global)) → bytes_of o ≡ None → o ≡ None
none_back None e = refl
none_back (Some v) e = absurd (let bad : Some v.items ≡ None = e in cc)

abbrev long_part : ℕ → Option (List ℕ) → Type 0
long_part n o = IfSome o (λ bytes. length bytes ≡ n)

to_bytes : (n : ℕ) (o : Option (Vec ℕ Global)) → IfSome o (λ v. length v.items ≡ n) → long_part n (bytes_of o)
to_bytes n None h = tt
to_bytes n (Some v) h = h

from_bytes : (n : ℕ) (o : Option (Vec ℕ Global)) → long_part n (bytes_of o) → IfSome o (λ v. length v.items ≡ n)
from_bytes n None h = tt
from_bytes n (Some v) h = h

-- as many entries pass as places
counted : (entries : List (Option (Vec ℕ Global))) (n : ℕ) → n ≤ length entries → count_below n (λ c. is_none (get_or entries c None)) ≡ count_by is_none (take n entries)
counted entries zero h = refl
counted entries (suc n) h =
    let rest = counted entries n (omega arith) in
    let within : n < length entries = omega arith in
    let next : n + 1 ≡ suc n = omega arith in
    elim (cases_Bool (is_none (get_or entries n None))) [
      | inl gone ↦
          let one : cond (is_none (get_or entries n None)) 1 0 ≡ 1 = ap (λ v. cond v 1 0) gone in
          let more = count_by_more_yes is_none entries n None within gone in
          (λ k. rest k + one k) ∙ sym more ∙ ap (λ v. count_by is_none (take v entries)) next
      | inr here ↦
          let none : cond (is_none (get_or entries n None)) 1 0 ≡ 0 = ap (λ v. cond v 1 0) here in
          let same : count_by is_none (take n entries) + 0 ≡ count_by is_none (take n entries) = omega arith in
          let more = count_by_more_no is_none entries n None within here in
          (λ k. rest k + none k) ∙ same ∙ sym more ∙ ap (λ v. count_by is_none (take v entries)) next
    ]

-- so many entries of a list are missing
pub missing : (entries : List (Option (Vec ℕ Global))) → count_below (length entries) (λ c. is_none (get_or (parts_of entries) c None)) ≡ count_by is_none entries
missing entries =
    count_below_same (length entries) (λ c. is_none (get_or (parts_of entries) c None)) (λ c. is_none (get_or entries c None))
    (λ c h. ap is_none (get_or-map bytes_of entries c None) ∙ sym (none_of (get_or entries c None)))
    ∙ counted entries (length entries) (omega arith) ∙ ap (count_by is_none) (take_all (length entries) entries (omega arith))

module _ (one other : List (Option (Vec ℕ Global))) (same : parts_of one ≡ parts_of other) where
  pub same_length : length one ≡ length other
  same_length = sym (length-map one bytes_of) ∙ ap length same ∙ length-map other bytes_of

  pub same_at : (c : ℕ) → bytes_of (get_or one c None) ≡ bytes_of (get_or other c None)
  same_at c = sym (get_or-map bytes_of one c None) ∙ ap (λ l. get_or l c None) same ∙ get_or-map bytes_of other c None

  pub same_none : (c : ℕ) → is_none (get_or one c None) ≡ is_none (get_or other c None)
  same_none c = none_of (get_or one c None) ∙ ap is_none (same_at c) ∙ sym (none_of (get_or other c None))

  pub same_some : (c : ℕ) → is_some (get_or one c None) ≡ is_some (get_or other c None)
  same_some c = some_of (get_or one c None) ∙ ap is_some (same_at c) ∙ sym (some_of (get_or other c None))

  pub same_missing : count_by is_none one ≡ count_by is_none other
  same_missing =
      sym (missing one)
      ∙ (λ i. count_below (same_length i) (λ c. is_none (get_or (same i) c None)))
      ∙ missing other

  same_long : (n : ℕ) → AreLong n one → AreLong n other
  same_long n long =
      All-from_get_or (λ o. IfSome o (λ v. length v.items ≡ n)) other None (λ i h.
      from_bytes n (get_or other i None)
      (subst (long_part n) (same_at i) (to_bytes n (get_or one i None) (long i None (subst (λ l. i < l) (sym same_length) h)))))

-- ---- an input of entries

abbrev pub IsReadable : ℕ → ℕ → List ℕ → Type 0
IsReadable count len input = (entries : List (Option (Vec ℕ Global))) × AreRead count len input entries

module _ (count len : ℕ) (input : List ℕ) where
  pub read_once : (one other : List (Option (Vec ℕ Global))) → AreRead count len input one → AreRead count len input other → parts_of one ≡ parts_of other
  read_once one other h k = same_entries (lines_of input) (parts_of one) (parts_of other) h.spelled k.spelled

  line_count : (entries : List (Option (Vec ℕ Global))) → AreRead count len input entries → length (lines_of input) ≡ count
  line_count entries read = sym read.spelled.count ∙ length-map entries bytes_of ∙ read.many

  -- what can be read is refused for no length
  not_other_count : (entries : List (Option (Vec ℕ Global))) → AreRead count len input entries → HasOtherCount count len input → ⊥
  not_other_count entries read (inl other) = other (line_count entries read)
  not_other_count entries read (inr other) =
      let same : parts_of entries ≡ parts_of other.entries = same_entries (lines_of input) (parts_of entries) (parts_of other.entries) read.spelled other.are in
      other.other (same_long entries other.entries same len read.long)

  spelled_or_not : (entries : List (Option (List ℕ))) → AreEntries (lines_of input) entries → HasNoEntry (lines_of input) → ⊥
  spelled_or_not entries are none = no_entry (get_or (lines_of input) none.place []) (get_or entries none.place None) (are.each none.place none.within) none.nothing

  not_other_line : (entries : List (Option (Vec ℕ Global))) → AreRead count len input entries → HasOtherLine count input → ⊥
  not_other_line entries read other = spelled_or_not (parts_of entries) read.spelled other.1

  length_or_line : HasOtherCount count len input → HasOtherLine count input → ⊥
  length_or_line (inl other) line = other line.0
  length_or_line (inr other) line = spelled_or_not (parts_of other.entries) other.are line.1

  -- what can be read is refused for a further cause alone
  pub refused_further : (Further : List ℕ → Type 0) (entries : List (Option (Vec ℕ Global))) (output : List ℕ)
      → AreRead count len input entries → AreRefused count len Further input output → Further output
  refused_further Further entries output read (inl other) = absurd (not_other_count entries read other.0)
  refused_further Further entries output read (inr (inl other)) = absurd (not_other_line entries read other.0)
  refused_further Further entries output read (inr (inr further)) = further

  pub refused_once : (Further : List ℕ → Type 0) → ((output : List ℕ) → Further output → IsReadable count len input) → ((one other : List ℕ) → Further one → Further other → one ≡ other)
      → (one other : List ℕ) → AreRefused count len Further input one → AreRefused count len Further input other → one ≡ other
  refused_once Further readable once one other (inl h) (inl k) = h.1 ∙ sym k.1
  refused_once Further readable once one other (inl h) (inr (inl k)) = absurd (length_or_line h.0 k.0)
  refused_once Further readable once one other (inl h) (inr (inr k)) = let read = readable other k in absurd (not_other_count read.0 read.1 h.0)
  refused_once Further readable once one other (inr (inl h)) (inl k) = absurd (length_or_line k.0 h.0)
  refused_once Further readable once one other (inr (inl h)) (inr (inl k)) = h.1 ∙ sym k.1
  refused_once Further readable once one other (inr (inl h)) (inr (inr k)) = let read = readable other k in absurd (not_other_line read.0 read.1 h.0)
  refused_once Further readable once one other (inr (inr h)) (inl k) = let read = readable one h in absurd (not_other_count read.0 read.1 k.0)
  refused_once Further readable once one other (inr (inr h)) (inr (inl k)) = let read = readable one h in absurd (not_other_line read.0 read.1 k.0)
  refused_once Further readable once one other (inr (inr h)) (inr (inr k)) = once one other h k

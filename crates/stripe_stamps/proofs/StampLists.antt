-- Stamps stay those of the versions where versions keep what they are laid over, and where versions are drawn with theirs.
use Rattle.std.proofs.Common.{◌≡◌, ◌⊎◌, ℕ, zero, suc, ◌+◌, ◌<◌, ◌≤◌, nat_eq, Bool, true, false, cond, List, [], ◌∷◌, ◌++◌, length, get_or, slice_get, map, find, Option, None, Some, option_map, IfSome, All, refl, sym, ap, subst, ◌∙◌, inl, inr, arith, length-append}
use Rattle.std.proofs.lemmas.Option.{slice_get_cases, same_Some, none-some}
use Rattle.std.proofs.lemmas.Bool.{eqb-true}
use Rattle.std.proofs.lemmas.List.{length-map, get_or-map, map-append}
use Rattle.std.proofs.lemmas.List.FromFn.{length-range_with_len, get_or-range_with_len}
use Rattle.std.proofs.lemmas.List.Elements.{All-append, All-map}
use Rattle.std.specs.List.{range_with_len}
use Rattle.std.specs.Option.{option_and_then}
use Rattle.clay_grid.specs.Shape.{Shape}
use Rattle.store_map.specs.declared.actor.Actor.{Actor}
use Rattle.store_map.specs.declared.script.Script.{Script}
use Rattle.store_core.specs.Calls.{Calls}
use Rattle.store_core.specs.Content.{written_by, lay_over, old_content, content_after, contents_by}
use Rattle.store_core.specs.Directory.{Version, Pin, Pass, Directory}
use Rattle.store_core.specs.History.{call_of}
use Rattle.store_core.specs.Lookups.{same_actor, pass_of}
use Rattle.store_core.specs.SoundPasses.{HasVersions}
use Rattle.run_laws.proofs.ContentGrows.{origins, same_contents, IsBased, count_contents, contents_drawn}
use Rattle.run_laws.proofs.Passes.{found_has}
use Rattle.version_table.specs.TableSteps.{base_version, drawn_version}
use Rattle.version_seal.specs.Entry.{BookOf, StampOf, RequestOf, call_written, old_bytes, content_over, IsBaseIn}
use Rattle.stripe_stamps.specs.Sealed.{Sealed, base_stamp, drawn_stamp, drawn_stamps}
use Rattle.stripe_stamps.specs.ItsStripes.{IsOfStripe, IsOfItsStripes, stripes_in, IsWhole}
use Rattle.stripe_stamps.specs.Stamped.{AreOf, AreBases, told_by_stamp, told_by_version, HaveContents, HasStamps}

-- ---- lists
-- numbers from a first one on
shifted : (a b n : ℕ) → map (λ k. a + k) (range_with_len b n) ≡ range_with_len (a + b) n
shifted a b zero = refl
shifted a b (suc n) = ap (λ l. (a + b) ∷ l) (shifted a (b + 1) n ∙ ap (λ k. range_with_len k n) next)
  where
    next : a + (b + 1) ≡ a + b + 1
    next = omega arith

from_zero : (a n : ℕ) → map (λ k. a + k) (range_with_len 0 n) ≡ range_with_len a n
from_zero a n = shifted a 0 n ∙ ap (λ k. range_with_len k n) (let same : a + 0 ≡ a = omega arith in same)

-- numbers that go on
range-both : (a m n : ℕ) → range_with_len a (m + n) ≡ range_with_len a m ++ range_with_len (a + m) n
range-both a zero n = (λ i. range_with_len (first i) (none i))
  where
    first : a ≡ a + 0
    first = omega arith

    none : 0 + n ≡ n
    none = omega arith
range-both a (suc m) n = ap (range_with_len a) next ∙ ap (λ l. a ∷ l) (range-both (a + 1) m n ∙ ap (λ k. range_with_len (a + 1) m ++ range_with_len k n) later)
  where
    next : suc m + n ≡ suc (m + n)
    next = omega arith

    later : a + 1 + m ≡ a + suc m
    later = omega arith

map-both : {X Y Z : Type 0} (f : Y → Z) (g : X → Y) (xs : List X) → map f (map g xs) ≡ map (λ x. f (g x)) xs
map-both f g [] = refl
map-both f g (x ∷ xs) = ap (λ l. f (g x) ∷ l) (map-both f g xs)

-- what one function reads is what another reads of that
map-through : {X Y Z : Type 0} (f : X → Y) (g : Y → Z) (h : X → Z) → ((x : X) → g (f x) ≡ h x) → (xs : List X) → map g (map f xs) ≡ map h xs
map-through f g h same [] = refl
map-through f g h same (x ∷ xs) = λ i. same x i ∷ map-through f g h same xs i

map-same : {X Y : Type 0} (f g : X → Y) → ((x : X) → f x ≡ g x) → (xs : List X) → map f xs ≡ map g xs
map-same f g same [] = refl
map-same f g same (x ∷ xs) = λ i. same x i ∷ map-same f g same xs i

-- what is read of an element that may be there
pub some_read : {X Y : Type 0} (f : X → Y) (P : Y → Type 0) (o : Option X) → IfSome (option_map f o) P → IfSome o (λ x. P (f x))
some_read f P None h = tt
some_read f P (Some x) h = h

-- ---- versions
-- what is told of a version isn't changed by where it stands
told_origins : (versions : List Version) → map told_by_version versions ≡ map told_by_version (origins versions)
told_origins [] = refl
told_origins (v ∷ vs) = ap (λ l. told_by_version v ∷ l) (told_origins vs)

pub same_told : (before after : List Version) → origins after ≡ origins before → map told_by_version after ≡ map told_by_version before
same_told before after e = told_origins after ∙ ap (map told_by_version) e ∙ sym (told_origins before)

pub same_count : (before after : List Version) → origins after ≡ origins before → length after ≡ length before
same_count before after e = sym (length-map after told_by_version) ∙ ap length (same_told before after e) ∙ length-map before told_by_version

-- as many stamps as versions
pub stamps_count : (s : Sealed) → HasStamps s → length s.stamps ≡ length s.core.versions
stamps_count s has = sym (length-map s.stamps told_by_stamp) ∙ ap length has.told ∙ length-map s.core.versions told_by_version

-- of the same stripes
pub stripes_are : (s : Sealed) → HasStamps s → map (λ (stamp : StampOf). stamp.stripe) s.stamps ≡ stripes_in s.core.versions
stripes_are s has =
    sym (map-both (λ (t : Actor × ℕ × ℕ × Option ℕ). t.2) told_by_stamp s.stamps) ∙ ap (map (λ (t : Actor × ℕ × ℕ × Option ℕ). t.2)) has.told
    ∙ map-both (λ (t : Actor × ℕ × ℕ × Option ℕ). t.2) told_by_version s.core.versions

-- what a pass pins are versions of its pins' stripes, by the stamps
pub bases_in : (s : Sealed) → IsWhole s.core → HasStamps s → (who : Actor) (p : Pass) → pass_of who s.core ≡ Some p → AreBases s.stamps p.pinned
bases_in s whole has who p found = λ k x less.
    let within : (get_or p.pinned k x).version < length s.core.versions = its.pinned k x less in
    let same : IsOfStripe (map (λ (stamp : StampOf). stamp.stripe) s.stamps) (get_or p.pinned k x).version (get_or p.pinned k x).stripe =
    subst (λ (ss : List ℕ). IsOfStripe ss (get_or p.pinned k x).version (get_or p.pinned k x).stripe) (sym (stripes_are s has)) (own.pinned k x less)
    in
    (omega (arith, within, stamps_count s has), same)
  where
    its : HasVersions s.core p
    its = subst (λ (o : Option Pass). IfSome o (HasVersions s.core)) found (found_has (HasVersions s.core) (λ (pass : Pass). same_actor who pass.actor) s.core.passes whole.sound.versions)

    own : IsOfItsStripes (stripes_in s.core.versions) s.core.shape p
    own =
        subst (λ (o : Option Pass). IfSome o (IsOfItsStripes (stripes_in s.core.versions) s.core.shape)) found
        (found_has (IsOfItsStripes (stripes_in s.core.versions) s.core.shape) (λ (pass : Pass). same_actor who pass.actor) s.core.passes whole.own.passes)

-- ---- stamps that stay
pub stamps_stay : (s : Sealed) → HasStamps s → (after : Directory) → after.shape ≡ s.core.shape → origins after.versions ≡ origins s.core.versions → HasStamps (record s { core = after })
stamps_stay s has after shape same =
    record {
      code = has.code ∙ sym shape;
      its = has.its;
      told = has.told ∙ sym (same_told s.core.versions after.versions same);
      contents = by s.book.script has.contents;
    }
  where
    by : (script : Option Script) → IfSome script (λ script. HaveContents (call_of script) s) → IfSome script (λ script. HaveContents (call_of script) (record s { core = after }))
    by None h = tt
    by (Some script) h =
        h ∙ sym (same_contents (call_of script) s.core.shape s.core.versions after.versions same) ∙ ap (λ g. contents_by g (call_of script) after.versions) (sym shape)

-- ---- stamps at their numbers
pub number_at : (stamps : List StampOf) → map (λ (stamp : StampOf). stamp.version) stamps ≡ range_with_len 0 (length stamps) → (v : ℕ) (x : StampOf) → slice_get stamps v ≡ Some x → x.version ≡ v
number_at stamps numbered v x e = by (slice_get_cases stamps v).1
  where
    by : ((y : StampOf) × (v < length stamps) × (slice_get stamps v ≡ Some y) × (get_or stamps v y ≡ y)) ⊎ ((length stamps ≤ v) × (slice_get stamps v ≡ None)) → x.version ≡ v
    by (inl k) =
        let same : k.0 ≡ x = same_Some k.0 x (sym k.2 ∙ e) in
        ap (λ (y : StampOf). y.version) (sym same ∙ sym k.3)
        ∙ sym (get_or-map (λ (y : StampOf). y.version) stamps v k.0 0 k.1)
        ∙ ap (λ l. get_or l v 0) numbered ∙ get_or-range_with_len 0 (length stamps) v 0 k.1 ∙ (let none : 0 + v ≡ v = omega arith in none)
    by (inr k) = absurd (none-some x (sym k.1 ∙ e))

pub number_in : (stamps : List StampOf) → map (λ (stamp : StampOf). stamp.version) stamps ≡ range_with_len 0 (length stamps) → (v : ℕ) (d : StampOf) → v < length stamps → (get_or stamps v d).version ≡ v
number_in stamps numbered v d less =
    sym (get_or-map (λ (stamp : StampOf). stamp.version) stamps v d 0 less) ∙ ap (λ l. get_or l v 0) numbered ∙ get_or-range_with_len 0 (length stamps) v 0 less ∙ (let none : 0 + v ≡ v = omega arith in none)

module _ (book : BookOf) (stamps : List StampOf) (of : AreOf book stamps) where
  version_at : (v : ℕ) (x : StampOf) → slice_get stamps v ≡ Some x → x.version ≡ v
  version_at = number_at stamps of.numbered

  -- what a function reads of it
  read_at : {X : Type 0} (f : StampOf → X) (v : ℕ) (x : StampOf) (d : X) → slice_get stamps v ≡ Some x → get_or (map f stamps) v d ≡ f x
  read_at {X} f v x d e = by (slice_get_cases stamps v).1
    where
      by : ((y : StampOf) × (v < length stamps) × (slice_get stamps v ≡ Some y) × (get_or stamps v y ≡ y)) ⊎ ((length stamps ≤ v) × (slice_get stamps v ≡ None)) → get_or (map f stamps) v d ≡ f x
      by (inl k) = get_or-map f stamps v k.0 d k.1 ∙ ap f (k.3 ∙ same_Some k.0 x (sym k.2 ∙ e))
      by (inr k) = absurd (none-some x (sym k.1 ∙ e))

  -- a version is there
  there : (v : ℕ) → v < length stamps → (x : StampOf) × (slice_get stamps v ≡ Some x)
  there v less = by (slice_get_cases stamps v).1
    where
      by : ((y : StampOf) × (v < length stamps) × (slice_get stamps v ≡ Some y) × (get_or stamps v y ≡ y)) ⊎ ((length stamps ≤ v) × (slice_get stamps v ≡ None)) → (x : StampOf) × (slice_get stamps v ≡ Some x)
      by (inl k) = (k.0, k.2)
      by (inr k) = absurd (let past : length stamps ≤ v = k.0 in omega (arith, past, less))

  home_at : (v : ℕ) (x : StampOf) → slice_get stamps v ≡ Some x → x.home ≡ book.home
  home_at v x e = by (slice_get_cases stamps v).1
    where
      by : ((y : StampOf) × (v < length stamps) × (slice_get stamps v ≡ Some y) × (get_or stamps v y ≡ y)) ⊎ ((length stamps ≤ v) × (slice_get stamps v ≡ None)) → x.home ≡ book.home
      by (inl k) = ap (λ (y : StampOf). y.home) (sym (same_Some k.0 x (sym k.2 ∙ e)) ∙ sym k.3) ∙ of.at_home v k.0 k.1
      by (inr k) = absurd (none-some x (sym k.1 ∙ e))

  module _ (pins : List Pin) (bases : AreBases stamps pins) where
    -- the pin that is found for a stripe is of it, and is a base
    abbrev IsFor : ℕ → Pin → Type 0
    IsFor stripe pin = (pin.stripe ≡ stripe) × (pin.version < length stamps) × IsOfStripe (map (λ (stamp : StampOf). stamp.stripe) stamps) pin.version pin.stripe

    found_for : (stripe : ℕ) (some_pins : List Pin) → All (λ (pin : Pin). (pin.version < length stamps) × IsOfStripe (map (λ (stamp : StampOf). stamp.stripe) stamps) pin.version pin.stripe) some_pins
        → IfSome (find (λ (pin : Pin). nat_eq stripe pin.stripe) some_pins) (IsFor stripe)
    found_for stripe some_pins all = by (find (λ (pin : Pin). nat_eq stripe pin.stripe) some_pins) (found_has (λ (pin : Pin). (pin.version < length stamps) × IsOfStripe (map (λ (stamp : StampOf). stamp.stripe) stamps) pin.version pin.stripe) (λ (pin : Pin). nat_eq stripe pin.stripe) some_pins all) (found_test (λ (pin : Pin). nat_eq stripe pin.stripe) some_pins)
      where
        found_test : {X : Type 0} (test : X → Bool) (xs : List X) → IfSome (find test xs) (λ x. test x ≡ true)
        found_test test [] = tt
        found_test test (x ∷ xs) = one (test x) refl (found_test test xs)
          where
            one : (b : Bool) → test x ≡ b → IfSome (find test xs) (λ x. test x ≡ true) → IfSome (cond {A = Option _} b (Some x) (find test xs)) (λ x. test x ≡ true)
            one true e rest = e
            one false e rest = rest

        by : (found : Option Pin) → IfSome found (λ (pin : Pin). (pin.version < length stamps) × IsOfStripe (map (λ (stamp : StampOf). stamp.stripe) stamps) pin.version pin.stripe) → IfSome found (λ (pin : Pin). nat_eq stripe pin.stripe ≡ true) → IfSome found (IsFor stripe)
        by None h t = tt
        by (Some pin) h t = (sym (eqb-true stripe pin.stripe t), h.0, h.1)

    -- the base of a version is an older one of its stripe
    pub base_is : (stripe version : ℕ) → length stamps ≤ version → IfSome (base_stamp stamps pins stripe) (IsBaseIn book version stripe)
    base_is stripe version late = by (find (λ (pin : Pin). nat_eq stripe pin.stripe) pins) (found_for stripe pins bases)
      where
        by : (found : Option Pin) → IfSome found (IsFor stripe) → IfSome (option_and_then (λ v. slice_get stamps v) (option_map (λ (pin : Pin). pin.version) found)) (IsBaseIn book version stripe)
        by None h = tt
        by (Some pin) h =
            let x = there pin.version h.1 in
            subst (λ (o : Option StampOf). IfSome o (IsBaseIn book version stripe)) (sym x.1)
            (record {
              same_home = home_at pin.version x.0 x.1;
              same_stripe = sym (read_at (λ (stamp : StampOf). stamp.stripe) pin.version x.0 pin.stripe x.1) ∙ h.2 ∙ h.0;
              older = (let is : x.0.version ≡ pin.version = version_at pin.version x.0 x.1 in let less : pin.version < length stamps = h.1 in omega (arith, is, less, late));
            })

    -- its number is the one that the directory keeps
    base_number : (stripe : ℕ) → option_map (λ (stamp : StampOf). stamp.version) (base_stamp stamps pins stripe) ≡ base_version pins stripe
    base_number stripe = by (find (λ (pin : Pin). nat_eq stripe pin.stripe) pins) (found_for stripe pins bases)
      where
        by : (found : Option Pin) → IfSome found (IsFor stripe)
            → option_map (λ (stamp : StampOf). stamp.version) (option_and_then (λ v. slice_get stamps v) (option_map (λ (pin : Pin). pin.version) found)) ≡ option_map (λ (pin : Pin). pin.version) found
        by None h = refl
        by (Some pin) h =
            let x = there pin.version h.1 in
            ap (option_map (λ (stamp : StampOf). stamp.version)) x.1 ∙ ap Some (version_at pin.version x.0 x.1)

    -- and its content the one that the version is laid over
    base_content : (g : Shape) (contents : List (List ℕ)) → map (λ (stamp : StampOf). stamp.content) stamps ≡ contents → (stripe : ℕ) → old_bytes g (base_stamp stamps pins stripe) ≡ old_content g contents (base_version pins stripe)
    base_content g contents are stripe = by (find (λ (pin : Pin). nat_eq stripe pin.stripe) pins) (found_for stripe pins bases)
      where
        by : (found : Option Pin) → IfSome found (IsFor stripe)
            → old_bytes g (option_and_then (λ v. slice_get stamps v) (option_map (λ (pin : Pin). pin.version) found)) ≡ old_content g contents (option_map (λ (pin : Pin). pin.version) found)
        by None h = refl
        by (Some pin) h =
            let x = there pin.version h.1 in
            ap (old_bytes g) x.1 ∙ sym (read_at (λ (stamp : StampOf). stamp.content) pin.version x.0 [] x.1) ∙ ap (λ l. get_or l pin.version []) are

-- ---- stamps that are drawn
module _ (s : Sealed) (has : HasStamps s) (pass : Pass) (bases : AreBases s.stamps pass.pinned) (first count : ℕ) (request : Option RequestOf) where
  abbrev pub fresh : List StampOf
  fresh = drawn_stamps s.book s.stamps pass first count request

  abbrev one : ℕ → StampOf
  one = drawn_stamp s.book s.stamps pass first request

  pub fresh_count : length (drawn_stamps s.book s.stamps pass first count request) ≡ count
  fresh_count = length-map (range_with_len 0 count) (drawn_stamp s.book s.stamps pass first request) ∙ length-range_with_len 0 count

  -- their numbers
  pub fresh_versions : map (λ (stamp : StampOf). stamp.version) (drawn_stamps s.book s.stamps pass first count request) ≡ range_with_len (length s.stamps) count
  fresh_versions = map-both (λ (stamp : StampOf). stamp.version) (drawn_stamp s.book s.stamps pass first request) (range_with_len 0 count) ∙ from_zero (length s.stamps) count

  its_drawn : AreOf s.book (s.stamps ++ drawn_stamps s.book s.stamps pass first count request)
  its_drawn =
      record {
        numbered =
            map-append (λ (stamp : StampOf). stamp.version) s.stamps (drawn_stamps s.book s.stamps pass first count request)
            ∙ (λ i. has.its.numbered i ++ fresh_versions i)
            ∙ sym (range-both 0 (length s.stamps) count ∙ ap (λ k. range_with_len 0 (length s.stamps) ++ range_with_len k count) (let none : 0 + length s.stamps ≡ length s.stamps = omega arith in none))
            ∙ ap (range_with_len 0) (sym (length-append s.stamps (drawn_stamps s.book s.stamps pass first count request) ∙ ap (λ n. length s.stamps + n) fresh_count));
        at_home =
            All-append (λ (stamp : StampOf). stamp.home ≡ s.book.home) s.stamps (drawn_stamps s.book s.stamps pass first count request) has.its.at_home
            (All-map (λ (stamp : StampOf). stamp.home ≡ s.book.home) (drawn_stamp s.book s.stamps pass first request) (range_with_len 0 count) (λ k x less. refl));
      }

  abbrev news : List Version
  news = map (drawn_version pass.actor pass.number pass.pinned) (range_with_len first count)

  told_fresh : map told_by_stamp (drawn_stamps s.book s.stamps pass first count request) ≡ map told_by_version (map (drawn_version pass.actor pass.number pass.pinned) (range_with_len first count))
  told_fresh =
      map-both told_by_stamp (drawn_stamp s.book s.stamps pass first request) (range_with_len 0 count)
      ∙ map-same (λ place. told_by_stamp (drawn_stamp s.book s.stamps pass first request place)) (λ place. told_by_version (drawn_version pass.actor pass.number pass.pinned (first + place)))
      (λ place i. (pass.actor, pass.number, first + place, base_number s.book s.stamps has.its pass.pinned bases (first + place) i)) (range_with_len 0 count)
      ∙ sym (map-both (λ stripe. told_by_version (drawn_version pass.actor pass.number pass.pinned stripe)) (λ place. first + place) (range_with_len 0 count))
      ∙ ap (map (λ stripe. told_by_version (drawn_version pass.actor pass.number pass.pinned stripe))) (from_zero first count)
      ∙ sym (map-both told_by_version (drawn_version pass.actor pass.number pass.pinned) (range_with_len first count))

  -- by calls of which the pass's is one, their contents are those of the versions
  pub contents_fresh : (calls : Calls) → HaveContents calls s → call_written s.book.script pass.actor pass.number request ≡ calls pass.actor pass.number
      → map (λ (stamp : StampOf). stamp.content) (s.stamps ++ drawn_stamps s.book s.stamps pass first count request)
      ≡ contents_by s.core.shape calls (s.core.versions ++ map (drawn_version pass.actor pass.number pass.pinned) (range_with_len first count))
  contents_fresh calls are written =
      map-append (λ (stamp : StampOf). stamp.content) s.stamps (drawn_stamps s.book s.stamps pass first count request)
      ∙ (λ i. are i ++ news_are i)
      ∙ sym (contents_drawn calls s.core.shape s.core.versions (map (drawn_version pass.actor pass.number pass.pinned) (range_with_len first count)) based)
    where
      contents : List (List ℕ)
      contents = contents_by s.core.shape calls s.core.versions

      each : (place : ℕ) → (drawn_stamp s.book s.stamps pass first request place).content ≡ content_after s.core.shape calls (contents_by s.core.shape calls s.core.versions) (drawn_version pass.actor pass.number pass.pinned (first + place))
      each place =
          ap (λ g. content_over g (first + place) (call_written s.book.script pass.actor pass.number request) (base_stamp s.stamps pass.pinned (first + place))) has.code
          ∙ ap (λ w. content_over s.core.shape (first + place) w (base_stamp s.stamps pass.pinned (first + place))) written
          ∙ ap (λ old. lay_over s.core.shape (first + place) old (written_by (calls pass.actor pass.number)).0 (written_by (calls pass.actor pass.number)).1)
          (base_content s.book s.stamps has.its pass.pinned bases s.core.shape (contents_by s.core.shape calls s.core.versions) are (first + place))

      news_are : map (λ (stamp : StampOf). stamp.content) (drawn_stamps s.book s.stamps pass first count request)
          ≡ map (content_after s.core.shape calls (contents_by s.core.shape calls s.core.versions)) (map (drawn_version pass.actor pass.number pass.pinned) (range_with_len first count))
      news_are =
          map-both (λ (stamp : StampOf). stamp.content) (drawn_stamp s.book s.stamps pass first request) (range_with_len 0 count)
          ∙ map-same (λ place. (drawn_stamp s.book s.stamps pass first request place).content)
          (λ place. content_after s.core.shape calls (contents_by s.core.shape calls s.core.versions) (drawn_version pass.actor pass.number pass.pinned (first + place))) each (range_with_len 0 count)
          ∙ sym (map-both (λ stripe. content_after s.core.shape calls (contents_by s.core.shape calls s.core.versions) (drawn_version pass.actor pass.number pass.pinned stripe)) (λ place. first + place) (range_with_len 0 count))
          ∙ ap (map (λ stripe. content_after s.core.shape calls (contents_by s.core.shape calls s.core.versions) (drawn_version pass.actor pass.number pass.pinned stripe))) (from_zero first count)
          ∙ sym (map-both (content_after s.core.shape calls (contents_by s.core.shape calls s.core.versions)) (drawn_version pass.actor pass.number pass.pinned) (range_with_len first count))

      below : (v : ℕ) → v < length s.stamps → v < length (contents_by s.core.shape calls s.core.versions)
      below v less = omega (arith, less, stamps_count s has, count_contents calls s.core.shape s.core.versions)

      one_based : (stripe : ℕ) → IsBased calls s.core.shape (contents_by s.core.shape calls s.core.versions) (drawn_version pass.actor pass.number pass.pinned stripe)
      one_based stripe =
          by (find (λ (pin : Pin). nat_eq stripe pin.stripe) pass.pinned)
          (found_has (λ (pin : Pin). (pin.version < length s.stamps) × IsOfStripe (map (λ (stamp : StampOf). stamp.stripe) s.stamps) pin.version pin.stripe) (λ (pin : Pin). nat_eq stripe pin.stripe) pass.pinned bases)
        where
          by : (found : Option Pin) → IfSome found (λ (pin : Pin). (pin.version < length s.stamps) × IsOfStripe (map (λ (stamp : StampOf). stamp.stripe) s.stamps) pin.version pin.stripe)
              → IfSome (option_map (λ (pin : Pin). pin.version) found) (λ base. base < length (contents_by s.core.shape calls s.core.versions))
          by None h = tt
          by (Some pin) h = below pin.version h.0

      based : All (IsBased calls s.core.shape (contents_by s.core.shape calls s.core.versions)) (map (drawn_version pass.actor pass.number pass.pinned) (range_with_len first count))
      based = All-map (IsBased calls s.core.shape (contents_by s.core.shape calls s.core.versions)) (drawn_version pass.actor pass.number pass.pinned) (range_with_len first count) (λ k x less. one_based (get_or (range_with_len first count) k x))

  -- so they are stamps of the versions
  pub stamps_drawn : (after : Directory) → after.shape ≡ s.core.shape → after.versions ≡ s.core.versions ++ map (drawn_version pass.actor pass.number pass.pinned) (range_with_len first count)
      → HasStamps (record { core = after; book = s.book; stamps = s.stamps ++ drawn_stamps s.book s.stamps pass first count request })
  stamps_drawn after shape versions =
      record {
        code = has.code ∙ sym shape;
        its = its_drawn;
        told =
            map-append told_by_stamp s.stamps (drawn_stamps s.book s.stamps pass first count request) ∙ (λ i. has.told i ++ told_fresh i)
            ∙ sym (ap (map told_by_version) versions ∙ map-append told_by_version s.core.versions (map (drawn_version pass.actor pass.number pass.pinned) (range_with_len first count)));
        contents = by s.book.script refl has.contents;
      }
    where
      by : (script : Option Script) → s.book.script ≡ script → IfSome script (λ script. HaveContents (call_of script) s)
          → IfSome script (λ script. HaveContents (call_of script) (record { core = after; book = s.book; stamps = s.stamps ++ drawn_stamps s.book s.stamps pass first count request }))
      by None e h = tt
      by (Some script) e h =
          contents_fresh (call_of script) h (ap (λ o. call_written o pass.actor pass.number request) e)
          ∙ (λ i. contents_by (sym shape i) (call_of script) (sym versions i))

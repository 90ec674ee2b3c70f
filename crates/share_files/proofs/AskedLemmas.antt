-- At which places a source was asked.
use Rattle.std.proofs.Common.{◌≡◌, ℕ, ◌+◌, ◌<◌, ◌≤◌, List, [], ◌∷◌, ◌++◌, length, get_or, map, refl, sym, subst, ap, ◌∙◌, arith, append-nil, append_assoc}
use Rattle.std.specs.Prelude.{All}
use Rattle.std.proofs.Math.ListN.{set}
use Rattle.std.proofs.lemmas.List.Elements.{All-nil, All-cons, All-append}
use Rattle.file_bytes.specs.Places.{Placed, placed, placed_from, EndsBefore, FailsBefore}
use Rattle.clay_aloof.specs.Shape.{AloofShape}
use Rattle.share_format.specs.Blocks.{block_length}
use Rattle.share_format.specs.Shares.{block_start}
use Rattle.share_files.specs.Seen.{Seen, seen_of}
use Rattle.share_files.specs.Asked.{IsIn, IsAskedAt, AreAskedIn}
use Rattle.share_files.specs.Gathered.{Grows, Grow}
use Rattle.share_files.proofs.FoundLemmas.{shown_before}
use Rattle.share_files.proofs.ReadLemmas.{of_each}

module _ (Is : ℕ → Type 0) where
  pub asked_none : (old new : Seen) → new ≡ old → IsAskedAt Is old new
  asked_none old new same = record {
    bytes = [];
    ends = [];
    fails = [];
    given = ap (λ (s : Seen). s.given) same ∙ sym (append-nil old.given);
    told = ap (λ (s : Seen). s.ends) same ∙ sym (append-nil old.ends);
    failed = ap (λ (s : Seen). s.failed) same ∙ sym (append-nil old.failed);
    places = (All-nil (λ (p : Placed). Is p.at), All-nil Is, All-nil Is);
  }

  pub asked_then : (old mid new : Seen) → IsAskedAt Is old mid → IsAskedAt Is mid new → IsAskedAt Is old new
  asked_then old mid new one two = record {
    bytes = one.bytes ++ two.bytes;
    ends = one.ends ++ two.ends;
    fails = one.fails ++ two.fails;
    given = two.given ∙ ap (λ l. l ++ two.bytes) one.given ∙ append_assoc old.given one.bytes two.bytes;
    told = two.told ∙ ap (λ l. l ++ two.ends) one.told ∙ append_assoc old.ends one.ends two.ends;
    failed = two.failed ∙ ap (λ l. l ++ two.fails) one.failed ∙ append_assoc old.failed one.fails two.fails;
    places = (
      All-append (λ (p : Placed). Is p.at) one.bytes two.bytes one.places.0 two.places.0,
      All-append Is one.ends two.ends one.places.1 two.places.1,
      All-append Is one.fails two.fails one.places.2 two.places.2,
    );
  }

  asked_grows : (old new : Seen) → IsAskedAt Is old new → Grows old new
  asked_grows old new asked = record {
    shown = λ file shows. shown_before file old.given new.given asked.bytes old.ends new.ends asked.ends asked.given asked.told shows;
    more = asked.fails;
    failed = asked.failed;
  }

-- at places of one kind, which are of another too
pub asked_wider : (Was Is : ℕ → Type 0) → ((place : ℕ) → Was place → Is place) → (old new : Seen) → IsAskedAt Was old new → IsAskedAt Is old new
asked_wider Was Is wide old new asked = record {
  bytes = asked.bytes;
  ends = asked.ends;
  fails = asked.fails;
  given = asked.given;
  told = asked.told;
  failed = asked.failed;
  places = (
    λ k p less. wide (get_or asked.bytes k p).at (asked.places.0 k p less),
    λ k d less. wide (get_or asked.ends k d) (asked.places.1 k d less),
    λ k d less. wide (get_or asked.fails k d) (asked.places.2 k d less),
  );
}

-- ---- one read of a block

placed_in : (low high at : ℕ) (bytes : List ℕ) → low ≤ at → at + length bytes ≤ high → All (λ (p : Placed). (low ≤ p.at) × (p.at < high)) (placed_from at bytes)
placed_in low high at [] from end = All-nil (λ (p : Placed). (low ≤ p.at) × (p.at < high))
placed_in low high at (byte ∷ bytes) from end =
    All-cons (λ (p : Placed). (low ≤ p.at) × (p.at < high)) (placed at byte) (placed_from (at + 1) bytes) (from, omega (arith, end))
    (placed_in low high (at + 1) bytes (omega (arith, from)) (omega (arith, end)))

module _ (a : AloofShape) (i : ℕ) (old new : Seen) where
  abbrev at : ℕ
  at = block_start a i

  abbrev size : ℕ
  size = block_length a

  asked_in : (got ends fails : List ℕ) → length got ≤ size → new.given ≡ old.given ++ placed_from at got → new.ends ≡ old.ends ++ ends →
      new.failed ≡ old.failed ++ fails → All (IsIn a i) ends → All (IsIn a i) fails → IsAskedAt (IsIn a i) old new
  asked_in got ends fails few given told failed in_ends in_fails = record {
    bytes = placed_from at got;
    ends = ends;
    fails = fails;
    given = given;
    told = told;
    failed = failed;
    places = (placed_in at (at + size) at got (omega arith) (omega (arith, few)), in_ends, in_fails);
  }

  abbrev none : All (IsIn a i) []
  none = All-nil (IsIn a i)

  one_in : (got : List ℕ) → length got < size → All (IsIn a i) ((at + length got) ∷ [])
  one_in got fewer = All-cons (IsIn a i) (at + length got) [] (omega arith, omega (arith, fewer)) none

  pub asked_given : (bytes : List ℕ) → length bytes ≡ size → new.given ≡ old.given ++ placed_from at bytes → new.ends ≡ old.ends → new.failed ≡ old.failed →
      IsAskedAt (IsIn a i) old new
  asked_given bytes long given told failed =
      asked_in bytes [] [] (omega (arith, long)) given (told ∙ sym (append-nil old.ends)) (failed ∙ sym (append-nil old.failed)) none none

  pub asked_failed : FailsBefore old.given old.failed at size new.given new.failed → new.ends ≡ old.ends → IsAskedAt (IsIn a i) old new
  asked_failed fails told =
      asked_in fails.got [] ((at + length fails.got) ∷ []) (omega (arith, fails.fewer)) fails.gives (told ∙ sym (append-nil old.ends)) fails.fails none
      (one_in fails.got fails.fewer)

  pub asked_ended : EndsBefore old.given old.ends at size new.given new.ends → new.failed ≡ old.failed → IsAskedAt (IsIn a i) old new
  asked_ended before failed =
      asked_in before.got ((at + length before.got) ∷ []) [] (omega (arith, before.fewer)) before.gives before.ended (failed ∙ sym (append-nil old.failed))
      (one_in before.got before.fewer) none

-- ---- of all shares

module _ (a : AloofShape) (i : ℕ) where
  pub asked_nothing : (seens : List Seen) → AreAskedIn a i seens seens
  asked_nothing seens c = asked_none (IsIn a i) (seen_of seens c) (seen_of seens c) refl

  pub asked_both : (olds mids news : List Seen) → AreAskedIn a i olds mids → AreAskedIn a i mids news → AreAskedIn a i olds news
  asked_both olds mids news one two c = asked_then (IsIn a i) (seen_of olds c) (seen_of mids c) (seen_of news c) (one c) (two c)

  pub grow_asked : (olds news : List Seen) → AreAskedIn a i olds news → Grow olds news
  grow_asked olds news asked c = asked_grows (IsIn a i) (seen_of olds c) (seen_of news c) (asked c)

  pub asked_one : {X : Type 0} (f : X → Seen) (xs : List X) (share : ℕ) (old new : X) → share < length xs → old ≡ get_or xs share old →
      IsAskedAt (IsIn a i) (f old) (f new) → AreAskedIn a i (map f xs) (map f (set xs share new))
  asked_one f xs share old new within here asked = of_each f xs share old new within here (IsAskedAt (IsIn a i)) (asked_none (IsIn a i)) asked

-- the code is the header's
pub asked_of : (geometry a : AloofShape) (i : ℕ) (olds news : List Seen) → geometry ≡ a → AreAskedIn geometry i olds news → AreAskedIn a i olds news
asked_of geometry a i olds news same asked = let P : AloofShape → Type 0 = λ b. AreAskedIn b i olds news in subst P same asked

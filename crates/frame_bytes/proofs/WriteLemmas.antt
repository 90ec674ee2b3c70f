-- Pieces that are put one behind another.
use Rattle.std.proofs.Common.{◌≡◌, ◌≤◌, ◌<◌, ℕ, ◌+◌, Option, List, [], ◌∷◌, ◌++◌, length, take, drop, get_or, Result, Ok, Err, refl, sym, ap, subst, ◌∙◌, arith, append_assoc, append-nil, length-append}
use Rattle.std.specs.Prelude.{flat_map, IsErrAnd, OnOk, OnErr}
use Rattle.std.proofs.Math.Seq.{take-append-add}
use Rattle.std.proofs.lemmas.List.{take-append-le, take-append-drop, take_more}
use Rattle.std.proofs.lemmas.List.Concat.{flat_map-append}
use Rattle.clay_bytes.specs.Stream.{Rises, Gains, IsPrefixWritten, Accepts, AcceptsPrefix}
use Rattle.clay_bytes.proofs.StreamLemmas.{gains-then, and-more, accepts-nothing}
use Rattle.byteorder.specs.Endian.{big_bytes}
use Rattle.session_rules.specs.Input.{framed}
use Rattle.frame_bytes.specs.Writing.{Passes, Puts}

accepts-then : (a b c : List ℕ) (o p q : Option (List ℕ)) (xs ys zs : List ℕ) → Accepts a o xs b p → Accepts b p ys c q → zs ≡ xs ++ ys → Accepts a o zs c q
accepts-then a b c o p q xs ys zs g h e = (and-more a b c xs ys zs g.0 h.0 e, gains-then o p q xs ys zs g.1 h.1 e)

passes-then : (a b c : List ℕ) (o p q : Option (List ℕ)) (first more waited waiting : List ℕ) → Passes a o first b p waited →
    Passes b p (waited ++ more) c q waiting → Passes a o (first ++ more) c q waiting
passes-then a b c o p q first more waited waiting (gone, took, is) (later, taken, rest) = (
  gone ++ later,
  accepts-then a b c o p q gone later (gone ++ later) took taken refl,
  ap (λ l. l ++ more) is ∙ append_assoc gone waited more ∙ ap (λ l. gone ++ l) rest ∙ sym (append_assoc gone later waiting),
)

-- a prefix of some bytes is one of more
prefix-more : (a c : List ℕ) (o q : Option (List ℕ)) (bytes more : List ℕ) → AcceptsPrefix a o bytes c q → AcceptsPrefix a o (bytes ++ more) c q
prefix-more a c o q bytes more (n, fits, took) =
    let size : length (bytes ++ more) ≡ length bytes + length more = length-append bytes more in
    (n, omega (arith, size, fits), subst (λ l. Accepts a o l c q) (sym (take-append-le n bytes more fits)) took)

-- a prefix of what waits is one of all, with what was accepted before
prefix-waiting : (a b c : List ℕ) (o p q : Option (List ℕ)) (bytes waiting : List ℕ) → Passes a o bytes b p waiting → AcceptsPrefix b p waiting c q →
    AcceptsPrefix a o bytes c q
prefix-waiting a b c o p q bytes waiting (gone, took, is) (n, fits, taken) =
    let front : take (length gone + n) bytes ≡ gone ++ take n waiting = ap (take (length gone + n)) is ∙ take-append-add gone waiting n in
    let size : length bytes ≡ length gone + length waiting = ap length is ∙ length-append gone waiting in
    (length gone + n, omega (arith, size, fits), accepts-then a b c o p q gone (take n waiting) (take (length gone + n) bytes) took taken front)

passes-more : (a b : List ℕ) (o p : Option (List ℕ)) (bytes more waiting : List ℕ) → Passes a o bytes b p waiting →
    Passes a o (bytes ++ more) b p (waiting ++ more)
passes-more a b o p bytes more waiting (gone, took, is) = (gone, took, ap (λ l. l ++ more) is ∙ append_assoc gone waiting more)

-- nothing was accepted, and the piece waits too
pub put_behind : {K X E : Type 0} (accepted : K → List ℕ) (written : K → Option (List ℕ)) (faults : K → ℕ) (a : K) (x p z : List ℕ) (v : X) → z ≡ x ++ p →
    Puts {E = E} accepted written faults a a x z p (Ok v)
put_behind accepted written faults a x p z v is =
    record { bytes = ([], accepts-nothing (accepted a) (written a), sym is); cause = tt; steady = refl; count = omega arith }

-- what waited is accepted, and then a piece or a prefix of it
pub put_through : {K X E : Type 0} (accepted : K → List ℕ) (written : K → Option (List ℕ)) (faults : K → ℕ) (a b c : K) (x p cleared : List ℕ) (r : Result X E) →
    Accepts (accepted a) (written a) x (accepted b) (written b) → faults b ≡ faults a → cleared ≡ [] →
    OnOk r (Accepts (accepted b) (written b) p (accepted c) (written c)) → OnErr r (AcceptsPrefix (accepted b) (written b) p (accepted c) (written c)) →
    OnErr r (Rises (faults b) (faults c)) → OnOk r (faults c ≡ faults b) → faults b ≤ faults c →
    Puts accepted written faults a c x cleared p r
put_through accepted written faults a b c x p cleared (Ok v) took same nothing whole prefix cause steady count = record {
  bytes = (
    x ++ p,
    accepts-then (accepted a) (accepted b) (accepted c) (written a) (written b) (written c) x p (x ++ p) took whole refl,
    sym (ap (λ l. (x ++ p) ++ l) nothing ∙ append-nil (x ++ p)),
  );
  cause = tt;
  steady = steady ∙ same;
  count = omega (arith, same, count);
}
put_through accepted written faults a b c x p cleared (Err e) took same nothing whole prefix cause steady count = record {
  bytes = prefix-waiting (accepted a) (accepted b) (accepted c) (written a) (written b) (written c) (x ++ p) p (x, took, refl) prefix;
  cause = subst (λ n. Rises n (faults c)) same cause;
  steady = tt;
  count = omega (arith, same, count);
}

-- a call that put what it was to put
abbrev pub put_done : Result (Unit {0}) (Unit {0})
put_done = Ok tt

-- a piece behind a piece
pub and_then : {K X Y E F : Type 0} {accepted : K → List ℕ} {written : K → Option (List ℕ)} {faults : K → ℕ} {a b c : K} {x y z p q : List ℕ} {u : X} (r : Result Y F) →
    Puts {E = E} accepted written faults a b x y p (Ok u) → Puts accepted written faults b c y z q r → Puts accepted written faults a c x z (p ++ q) r
and_then {accepted = accepted} {written = written} {faults} {a} {b} {c} {x} {y} {z} {p} {q} (Ok v) h k =
    let low : faults a ≤ faults b = h.count in
    let high : faults b ≤ faults c = k.count in
    record {
      bytes =
          subst (λ l. Passes (accepted a) (written a) l (accepted c) (written c) z) (append_assoc x p q)
          (passes-then (accepted a) (accepted b) (accepted c) (written a) (written b) (written c) (x ++ p) q y z h.bytes k.bytes);
      cause = tt;
      steady = k.steady ∙ h.steady;
      count = omega (arith, low, high);
    }
and_then {accepted = accepted} {written = written} {faults} {a} {b} {c} {x} {y} {z} {p} {q} (Err e) h k =
    let low : faults a ≤ faults b = h.count in
    let high : faults b ≤ faults c = k.count in
    record {
      bytes =
          subst (λ l. AcceptsPrefix (accepted a) (written a) l (accepted c) (written c)) (append_assoc x p q)
          (prefix-waiting (accepted a) (accepted b) (accepted c) (written a) (written b) (written c) ((x ++ p) ++ q) (y ++ q)
          (passes-more (accepted a) (accepted b) (written a) (written b) (x ++ p) q y h.bytes) k.bytes);
      cause = subst (λ n. Rises n (faults c)) h.steady k.cause;
      steady = tt;
      count = omega (arith, low, high);
    }

-- pieces that would have come behind one that failed
pub and_stop : {K X Y E F : Type 0} {accepted : K → List ℕ} {written : K → Option (List ℕ)} {faults : K → ℕ} {a c : K} {x z p : List ℕ} {e : E} (Q : F → Type 0)
    (rest total : List ℕ) → p ++ rest ≡ total →
    (r : Result Y F) → IsErrAnd r Q → Puts {X = X} accepted written faults a c x z p (Err e) → Puts accepted written faults a c x z total r
and_stop Q rest total is (Ok v) bad h = absurd bad
and_stop {accepted = accepted} {written = written} {a = a} {c} {x} {z} {p} Q rest total is (Err d) bad h = record {
  bytes =
      subst (λ l. AcceptsPrefix (accepted a) (written a) l (accepted c) (written c)) (append_assoc x p rest ∙ ap (λ l. x ++ l) is)
      (prefix-more (accepted a) (accepted c) (written a) (written c) (x ++ p) rest h.bytes);
  cause = h.cause;
  steady = tt;
  count = h.count;
}

-- the bytes of the elements up to one, and its own
pub each_more : {A : Type 0} (f : A → List ℕ) (xs : List A) (i : ℕ) (d : A) → i < length xs →
    flat_map f (take i xs) ++ f (get_or xs i d) ≡ flat_map f (take (i + 1) xs)
each_more f xs i d within =
    ap (λ l. flat_map f (take i xs) ++ l) (sym (append-nil (f (get_or xs i d))))
    ∙ sym (flat_map-append f (take i xs) (get_or xs i d ∷ []))
    ∙ ap (flat_map f) (sym (take_more xs i d within))

-- and those behind it
pub each_whole : {A : Type 0} (f : A → List ℕ) (xs : List A) (i : ℕ) (d : A) → i < length xs →
    (flat_map f (take i xs) ++ f (get_or xs i d)) ++ flat_map f (drop (i + 1) xs) ≡ flat_map f xs
each_whole f xs i d within =
    ap (λ l. l ++ flat_map f (drop (i + 1) xs)) (each_more f xs i d within)
    ∙ sym (flat_map-append f (take (i + 1) xs) (drop (i + 1) xs))
    ∙ ap (flat_map f) (take-append-drop (i + 1) xs)

as_done : {K X E : Type 0} {accepted : K → List ℕ} {written : K → Option (List ℕ)} {faults : K → ℕ} {a c : K} {x z p : List ℕ} {v : X} →
    Puts {E = E} accepted written faults a c x z p (Ok v) → Puts accepted written faults a c x z p put_done
as_done h = record { bytes = h.bytes; cause = tt; steady = h.steady; count = h.count }

-- one element more was put
pub each_next : {A K Y F : Type 0} {accepted : K → List ℕ} {written : K → Option (List ℕ)} {faults : K → ℕ} {a b c : K} {x y z : List ℕ} {v : Y} (f : A → List ℕ)
    (xs : List A) (i : ℕ) (d : A) → i < length xs →
    Puts accepted written faults a b x y (flat_map f (take i xs)) put_done → Puts {E = F} accepted written faults b c y z (f (get_or xs i d)) (Ok v) →
    Puts accepted written faults a c x z (flat_map f (take (i + 1) xs)) put_done
each_next {accepted = accepted} {written = written} {faults} {a} {b} {c} {x} {y} {z} {v} f xs i d within h k =
    subst (λ l. Puts accepted written faults a c x z l put_done) (each_more f xs i d within) (as_done (and_then (Ok v) h k))

-- one element more failed
pub each_stop : {A K X E Y F : Type 0} {accepted : K → List ℕ} {written : K → Option (List ℕ)} {faults : K → ℕ} {a b c : K} {x y z : List ℕ} {e : E} (Q : F → Type 0)
    (f : A → List ℕ) (xs : List A) (i : ℕ) (d : A) → i < length xs →
    (r : Result Y F) → IsErrAnd r Q →
    Puts accepted written faults a b x y (flat_map f (take i xs)) put_done → Puts {X = X} accepted written faults b c y z (f (get_or xs i d)) (Err e) →
    Puts accepted written faults a c x z (flat_map f xs) r
each_stop {e = e} Q f xs i d within r bad h k =
    and_stop Q (flat_map f (drop (i + 1) xs)) (flat_map f xs) (each_whole f xs i d within) r bad (and_then (Err e) h k)

-- the same of an element that was read
pub read_next : {A K Y F : Type 0} {accepted : K → List ℕ} {written : K → Option (List ℕ)} {faults : K → ℕ} {a b c : K} {x y z : List ℕ} {v : Y} (f : A → List ℕ)
    (xs : List A) (i : ℕ) (it : A) → i < length xs → it ≡ get_or xs i it →
    Puts accepted written faults a b x y (flat_map f (take i xs)) put_done → Puts {E = F} accepted written faults b c y z (f it) (Ok v) →
    Puts accepted written faults a c x z (flat_map f (take (i + 1) xs)) put_done
read_next {F = F} {accepted = accepted} {written = written} {faults} {a} {b} {c} {x} {y} {z} {v} f xs i it within is h k =
    each_next f xs i it within h (subst (λ e. Puts {E = F} accepted written faults b c y z (f e) (Ok v)) is k)

pub read_stop : {A K X E Y F : Type 0} {accepted : K → List ℕ} {written : K → Option (List ℕ)} {faults : K → ℕ} {a b c : K} {x y z : List ℕ} {e : E} (Q : F → Type 0)
    (f : A → List ℕ) (xs : List A) (i : ℕ) (it : A) → i < length xs → it ≡ get_or xs i it →
    (r : Result Y F) → IsErrAnd r Q →
    Puts accepted written faults a b x y (flat_map f (take i xs)) put_done → Puts {X = X} accepted written faults b c y z (f it) (Err e) →
    Puts accepted written faults a c x z (flat_map f xs) r
read_stop {X = X} {accepted = accepted} {written = written} {faults} {a} {b} {c} {x} {y} {z} {e} Q f xs i it within is r bad h k =
    each_stop Q f xs i it within r bad h (subst (λ l. Puts {X = X} accepted written faults b c y z (f l) (Err e)) is k)

-- a frame of which the length was put into an empty block, and then the rest
module _ (a b c : List ℕ) (o p q : Option (List ℕ)) (cleared bytes : List ℕ) (n : ℕ) (empty : cleared ≡ []) (count : n ≡ length bytes) where
  whole_frame : cleared ++ (big_bytes 4 n ++ bytes) ≡ framed bytes
  whole_frame = ap (λ l. l ++ (big_bytes 4 n ++ bytes)) empty ∙ ap (λ m. big_bytes 4 m ++ bytes) count

  pub length_cut : AcceptsPrefix a o (cleared ++ big_bytes 4 n) c q → AcceptsPrefix a o (framed bytes) c q
  length_cut prefix =
      prefix-more a c o q (big_bytes 4 (length bytes)) bytes
      (subst (λ l. AcceptsPrefix a o l c q) (ap (λ l. l ++ big_bytes 4 n) empty ∙ ap (big_bytes 4) count) prefix)

  pub bytes_cut : AcceptsPrefix a o (cleared ++ (big_bytes 4 n ++ bytes)) c q → AcceptsPrefix a o (framed bytes) c q
  bytes_cut prefix = subst (λ l. AcceptsPrefix a o l c q) whole_frame prefix

  pub rest_cut : (waiting : List ℕ) → Passes a o (cleared ++ (big_bytes 4 n ++ bytes)) b p waiting → AcceptsPrefix b p waiting c q →
      AcceptsPrefix a o (framed bytes) c q
  rest_cut waiting passes prefix =
      prefix-waiting a b c o p q (framed bytes) waiting (subst (λ l. Passes a o l b p waiting) whole_frame passes) prefix

  pub rest_taken : (waiting : List ℕ) → Passes a o (cleared ++ (big_bytes 4 n ++ bytes)) b p waiting → Accepts b p waiting c q →
      Accepts a o (framed bytes) c q
  rest_taken waiting (gone, took, is) taken = accepts-then a b c o p q gone waiting (framed bytes) took taken (sym whole_frame ∙ is)

-- what holds holds after an error
pub on_err : {X E : Type 0} (r : Result X E) (P : Type 0) → P → OnErr r P
on_err (Ok v) P p = tt
on_err (Err e) P p = p

pub on_ok_weaker : {X E : Type 0} {P Q : Type 0} (r : Result X E) → (P → Q) → OnOk r P → OnOk r Q
on_ok_weaker (Ok v) f h = f h
on_ok_weaker (Err e) f h = tt

-- what was accepted is written, at a sink that tells what is
pub whole_written : {X E : Type 0} (r : Result X E) (accepted bytes now : List ℕ) (written new : Option (List ℕ)) →
    OnOk r (Accepts accepted written bytes now new) → OnOk r (Gains written bytes new)
whole_written (Ok v) accepted bytes now written new h = h.1
whole_written (Err e) accepted bytes now written new h = tt

pub part_written : {X E : Type 0} (r : Result X E) (accepted bytes now : List ℕ) (written new : Option (List ℕ)) →
    OnErr r (AcceptsPrefix accepted written bytes now new) → OnErr r (IsPrefixWritten written bytes new)
part_written (Ok v) accepted bytes now written new h = tt
part_written (Err e) accepted bytes now written new h = (h.0, h.1, h.2.1)

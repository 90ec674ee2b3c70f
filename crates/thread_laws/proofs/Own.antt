-- An actor's list of steps.
use Rattle.std.proofs.Common.{◌≡◌, ℕ, zero, suc, ◌+◌, ◌≤◌, ◌<◌, Bool, true, false, cond, nat_lt, nat_eq, List, [], ◌∷◌, ◌++◌, filter, refl, sym, ap, subst, ◌∙◌, arith, eq-eqb, eqb-true, ne_eqb, ltb-true, ltb-false, true≢false}
use Rattle.std.proofs.lemmas.List.{append-nil}
use Rattle.std.proofs.lemmas.List.Elements.{All-filter, All-head, All-tail, All-cons, All-nil, All-append, All-push, All-weaker, filter-append, filter_passes}
use Rattle.std.specs.Prelude.{All}
use Rattle.std.specs.List.{range_with_len, flat_map}
use Rattle.store_core.specs.Act.{Act}
use Rattle.store_core.specs.ActPlace.{ActPlace}
use Rattle.thread_laws.specs.MadeSteps.{MadeStep, acts_at, is_at, MomentsRise, MomentsDontFall}
use Rattle.thread_laws.specs.InOrder.{by_moment}
use Rattle.thread_laws.specs.OwnSteps.{own_steps, AreOwn, ActorsKeepLists}
use Rattle.thread_laws.proofs.Orders.{uncons}
use Rattle.thread_laws.proofs.Sorting.{all_put, by_moment_falls, filter_by_moment, by_moment_same}

-- ---- places
abbrev place_of : Act → ActPlace
place_of (Act.AtDirectory step) = ActPlace.Directory
place_of (Act.AtServer server step) = ActPlace.Server server
place_of (Act.Finish outcome) = ActPlace.Directory

at_only : (place : ActPlace) (act : Act) → acts_at place act ≡ true → place ≡ place_of act
at_only ActPlace.Directory (Act.AtDirectory step) e = refl
at_only ActPlace.Directory (Act.AtServer server step) e = absurd (true≢false (sym e))
at_only ActPlace.Directory (Act.Finish outcome) e = absurd (true≢false (sym e))
at_only (ActPlace.Server j) (Act.AtDirectory step) e = absurd (true≢false (sym e))
at_only (ActPlace.Server j) (Act.AtServer server step) e = ap ActPlace.Server (eqb-true j server e)
at_only (ActPlace.Server j) (Act.Finish outcome) e = absurd (true≢false (sym e))

abbrev IsPlaced : MadeStep → Type 0
IsPlaced m = is_at (place_of m.act) m ≡ true

placed : (place : ActPlace) (m : MadeStep) → is_at place m ≡ true → IsPlaced m
placed place m e = subst (λ (p : ActPlace). is_at p m ≡ true) (at_only place m.act e) e

first_here : (m : MadeStep) (ms : List MadeStep) → IsPlaced m → filter (is_at (place_of m.act)) (m ∷ ms) ≡ m ∷ filter (is_at (place_of m.act)) ms
first_here m ms e = ap (λ b. cond {A = List MadeStep} b (m ∷ filter (is_at (place_of m.act)) ms) (filter (is_at (place_of m.act)) ms)) e

first_at : (place : ActPlace) (b : Bool) (m : MadeStep) (ms : List MadeStep) → is_at place m ≡ b → filter (is_at place) (m ∷ ms) ≡ cond {A = List MadeStep} b (m ∷ filter (is_at place) ms) (filter (is_at place) ms)
first_at place b m ms e = ap (λ c. cond {A = List MadeStep} c (m ∷ filter (is_at place) ms) (filter (is_at place) ms)) e

-- of two lists in order, the one strictly, which have the same steps at each place, the one is the other
same_steps : (xs ys : List MadeStep) → MomentsDontFall xs → MomentsRise ys → All IsPlaced xs → All IsPlaced ys → ((place : ActPlace) → filter (is_at place) xs ≡ filter (is_at place) ys) → xs ≡ ys
same_steps [] [] falls rises p q same = refl
same_steps [] (y ∷ ys) falls rises p q same = let e : [] ≡ y ∷ filter (is_at (place_of y.act)) ys = same (place_of y.act) ∙ first_here y ys (All-head IsPlaced y ys q) in absurd (cc (e))
same_steps (x ∷ xs) [] falls rises p q same = let e : x ∷ filter (is_at (place_of x.act)) xs ≡ [] = sym (first_here x xs (All-head IsPlaced x xs p)) ∙ same (place_of x.act) in absurd (cc (e))
same_steps (x ∷ xs) (y ∷ ys) falls rises p q same =
    by (λ h. same_steps xs ys falls.1 rises.1 (All-tail IsPlaced x xs p) (All-tail IsPlaced y ys q) h) (All-head IsPlaced x xs p) (All-head IsPlaced y ys q)
    (is_at (place_of x.act) y) refl (is_at (place_of y.act) x) refl
  where
    by : (((place : ActPlace) → filter (is_at place) xs ≡ filter (is_at place) ys) → xs ≡ ys) → IsPlaced x → IsPlaced y
        → (b : Bool) → is_at (place_of x.act) y ≡ b → (c : Bool) → is_at (place_of y.act) x ≡ c → x ∷ xs ≡ y ∷ ys
    by more px py true e c f =
        let both : x ∷ filter (is_at (place_of x.act)) xs ≡ y ∷ filter (is_at (place_of x.act)) ys = sym (first_here x xs px) ∙ same (place_of x.act) ∙ first_at (place_of x.act) true y ys e in
        let heads : x ≡ y = cc (both) in
        let tails : (place : ActPlace) → filter (is_at place) xs ≡ filter (is_at place) ys =
        λ place. uncons (is_at place x) x (filter (is_at place) xs) (filter (is_at place) ys)
        (subst (λ (z : MadeStep). filter (is_at place) (x ∷ xs) ≡ filter (is_at place) (z ∷ ys)) (sym heads) (same place)) in
        let rest : xs ≡ ys = more tails in
        λ i. heads i ∷ rest i
    by more px py false e true f =
        let same_place : place_of y.act ≡ place_of x.act = at_only (place_of y.act) x.act f in
        absurd (true≢false (sym py ∙ ap (λ (k : ActPlace). is_at k y) same_place ∙ e))
    by more px py false e false f =
        let mine : filter (is_at (place_of x.act)) ys ≡ x ∷ filter (is_at (place_of x.act)) xs = sym (sym (first_here x xs px) ∙ same (place_of x.act) ∙ first_at (place_of x.act) false y ys e) in
        let yours : filter (is_at (place_of y.act)) xs ≡ y ∷ filter (is_at (place_of y.act)) ys = sym (first_at (place_of y.act) false x xs f) ∙ same (place_of y.act) ∙ first_here y ys py in
        let above : All (λ (later : MadeStep). y.moment < later.moment) (x ∷ filter (is_at (place_of x.act)) xs) =
        subst (All (λ (later : MadeStep). y.moment < later.moment)) mine (All-filter (is_at (place_of x.act)) (λ (later : MadeStep). y.moment < later.moment) ys rises.0) in
        let under : All (λ (later : MadeStep). x.moment ≤ later.moment) (y ∷ filter (is_at (place_of y.act)) ys) =
        subst (All (λ (later : MadeStep). x.moment ≤ later.moment)) yours (All-filter (is_at (place_of y.act)) (λ (later : MadeStep). x.moment ≤ later.moment) xs falls.0) in
        let lt : y.moment < x.moment = All-head (λ (later : MadeStep). y.moment < later.moment) x (filter (is_at (place_of x.act)) xs) above in
        let le : x.moment ≤ y.moment = All-head (λ (later : MadeStep). x.moment ≤ later.moment) y (filter (is_at (place_of y.act)) ys) under in
        absurd (omega (arith, lt, le))

-- ---- a group of lists
module _ (test : MadeStep → Bool) (of : ℕ → List MadeStep) where
  none_in : ((i : ℕ) → filter test (of i) ≡ []) → (start count : ℕ) → filter test (flat_map of (range_with_len start count)) ≡ []
  none_in none start zero = refl
  none_in none start (suc count) =
      filter-append test (of start) (flat_map of (range_with_len (start + 1) count))
      ∙ ap (λ (l : List MadeStep). l ++ filter test (flat_map of (range_with_len (start + 1) count))) (none start) ∙ none_in none (start + 1) count

  module _ (n : ℕ) (others : (i : ℕ) → nat_eq n i ≡ false → filter test (of i) ≡ []) (own : filter test (of n) ≡ of n) where
    ahead : (start count : ℕ) → n < start → filter test (flat_map of (range_with_len start count)) ≡ []
    ahead start zero lt = refl
    ahead start (suc count) lt =
        filter-append test (of start) (flat_map of (range_with_len (start + 1) count))
        ∙ ap (λ (l : List MadeStep). l ++ filter test (flat_map of (range_with_len (start + 1) count))) (others start (ne_eqb n start (λ e. absurd (omega (arith, lt, e)))))
        ∙ ahead (start + 1) count (omega (arith, lt))

    one_in : (start count : ℕ) → start ≤ n → n < start + count → filter test (flat_map of (range_with_len start count)) ≡ of n
    one_in start zero le lt = absurd (omega (arith, le, lt))
    one_in start (suc count) le lt =
        filter-append test (of start) (flat_map of (range_with_len (start + 1) count)) ∙ by (λ above. one_in (start + 1) count above (omega (arith, lt))) (nat_lt start n) refl
      where
        later : List MadeStep
        later = flat_map of (range_with_len (start + 1) count)

        by : (start + 1 ≤ n → filter test later ≡ of n) → (b : Bool) → nat_lt start n ≡ b → filter test (of start) ++ filter test later ≡ of n
        by rest true e =
            let above : start < n = ltb-true start n e in
            ap (λ (l : List MadeStep). l ++ filter test later) (others start (ne_eqb n start (λ q. absurd (omega (arith, above, q))))) ∙ rest (omega (arith, above))
        by rest false e =
            let same : n ≡ start = omega (arith, le, ltb-false start n e) in
            ap (λ (l : List MadeStep). filter test (of start) ++ l) (ahead (start + 1) count (omega (arith, same)))
            ∙ append-nil (filter test (of start)) ∙ ap (λ (k : ℕ). filter test (of k)) (sym same) ∙ own

all_in : (P : MadeStep → Type 0) (of : ℕ → List MadeStep) → ((i : ℕ) → All P (of i)) → (start count : ℕ) → All P (flat_map of (range_with_len start count))
all_in P of each start zero = All-nil P
all_in P of each start (suc count) = All-append P (of start) (flat_map of (range_with_len (start + 1) count)) (each start) (all_in P of each (start + 1) count)

all_by_moment : (P : MadeStep → Type 0) (ms : List MadeStep) → All P ms → All P (by_moment ms)
all_by_moment P [] h = h
all_by_moment P (m ∷ ms) h = all_put P m (by_moment ms) (All-head P m ms h) (all_by_moment P ms (All-tail P m ms h))

rise_snoc : (steps : List MadeStep) (m : MadeStep) → MomentsRise steps → All (λ (x : MadeStep). x.moment < m.moment) steps → MomentsRise (steps ++ m ∷ [])
rise_snoc [] m h under = (All-nil (λ (later : MadeStep). m.moment < later.moment), tt)
rise_snoc (x ∷ steps) m h under = (
  All-push (λ (later : MadeStep). x.moment < later.moment) steps m h.0 (All-head (λ (y : MadeStep). y.moment < m.moment) x steps under),
  rise_snoc steps m h.1 (All-tail (λ (y : MadeStep). y.moment < m.moment) x steps under),
)

-- ---- the law
module _ (servers : ℕ) (at : ActPlace → List MadeStep) (own : AreOwn servers at) where
  all_placed : (place : ActPlace) → All IsPlaced (at place)
  all_placed place =
      All-weaker (λ (x : MadeStep). is_at place x ≡ true) IsPlaced (λ x e. placed place x e) (at place)
      (subst (All (λ (x : MadeStep). is_at place x ≡ true)) (own.here place) (filter_passes (is_at place) (at place)))

  steps_placed : All IsPlaced (own_steps servers at)
  steps_placed =
      all_by_moment IsPlaced (at ActPlace.Directory ++ flat_map (λ j. at (ActPlace.Server j)) (range_with_len 0 servers))
      (All-append IsPlaced (at ActPlace.Directory) (flat_map (λ j. at (ActPlace.Server j)) (range_with_len 0 servers)) (all_placed ActPlace.Directory)
      (all_in IsPlaced (λ j. at (ActPlace.Server j)) (λ j. all_placed (ActPlace.Server j)) 0 servers))

  -- nothing of a list is at another place
  elsewhere : (place other : ActPlace) → ((m : MadeStep) → is_at other m ≡ true → is_at place m ≡ false) → filter (is_at place) (at other) ≡ []
  elsewhere place other apart = ap (filter (is_at place)) (sym (own.here other)) ∙ none (at other)
    where
      none : (xs : List MadeStep) → filter (is_at place) (filter (is_at other) xs) ≡ []
      none [] = refl
      none (x ∷ xs) = by (is_at other x) refl (none xs)
        where
          by : (c : Bool) → is_at other x ≡ c → filter (is_at place) (filter (is_at other) xs) ≡ []
              → filter (is_at place) (cond {A = List MadeStep} c (x ∷ filter (is_at other) xs) (filter (is_at other) xs)) ≡ []
          by true e rest = first_at place false x (filter (is_at other) xs) (apart x e) ∙ rest
          by false e rest = rest

  server_apart : (j i : ℕ) → nat_eq j i ≡ false → (m : MadeStep) → is_at (ActPlace.Server i) m ≡ true → is_at (ActPlace.Server j) m ≡ false
  server_apart j i e m h = by (is_at (ActPlace.Server j) m) refl
    where
      by : (b : Bool) → is_at (ActPlace.Server j) m ≡ b → is_at (ActPlace.Server j) m ≡ false
      by false q = q
      by true q =
          let same : ActPlace.Server j ≡ ActPlace.Server i = at_only (ActPlace.Server j) m.act q ∙ sym (at_only (ActPlace.Server i) m.act h) in
          let numbers : j ≡ i = cc (same) in absurd (true≢false (sym (eq-eqb j i numbers) ∙ e))

  directory_apart : (j : ℕ) (m : MadeStep) → is_at (ActPlace.Server j) m ≡ true → is_at ActPlace.Directory m ≡ false
  directory_apart j m h = by (is_at ActPlace.Directory m) refl
    where
      by : (b : Bool) → is_at ActPlace.Directory m ≡ b → is_at ActPlace.Directory m ≡ false
      by false q = q
      by true q = let same : ActPlace.Directory ≡ ActPlace.Server j = at_only ActPlace.Directory m.act q ∙ sym (at_only (ActPlace.Server j) m.act h) in absurd (cc (same))

  away : (j : ℕ) (m : MadeStep) → is_at ActPlace.Directory m ≡ true → is_at (ActPlace.Server j) m ≡ false
  away j m h = by (is_at (ActPlace.Server j) m) refl
    where
      by : (b : Bool) → is_at (ActPlace.Server j) m ≡ b → is_at (ActPlace.Server j) m ≡ false
      by false q = q
      by true q = let same : ActPlace.Directory ≡ ActPlace.Server j = at_only ActPlace.Directory m.act h ∙ sym (at_only (ActPlace.Server j) m.act q) in absurd (cc (same))

  parts : (place : ActPlace) (a b : List MadeStep) → filter (is_at place) (at ActPlace.Directory) ≡ a → filter (is_at place) (flat_map (λ j. at (ActPlace.Server j)) (range_with_len 0 servers)) ≡ b
      → filter (is_at place) (own_steps servers at) ≡ by_moment (a ++ b)
  parts place a b e f =
      filter_by_moment (is_at place) (at ActPlace.Directory ++ flat_map (λ j. at (ActPlace.Server j)) (range_with_len 0 servers))
      ∙ ap by_moment (filter-append (is_at place) (at ActPlace.Directory) (flat_map (λ j. at (ActPlace.Server j)) (range_with_len 0 servers)) ∙ (λ i. e i ++ f i))

  pub at_place : (place : ActPlace) → filter (is_at place) (own_steps servers at) ≡ at place
  at_place ActPlace.Directory =
      parts ActPlace.Directory (at ActPlace.Directory) [] (own.here ActPlace.Directory)
      (none_in (is_at ActPlace.Directory) (λ j. at (ActPlace.Server j)) (λ j. elsewhere ActPlace.Directory (ActPlace.Server j) (directory_apart j)) 0 servers)
      ∙ ap by_moment (append-nil (at ActPlace.Directory)) ∙ by_moment_same (at ActPlace.Directory) (own.order ActPlace.Directory)
  at_place (ActPlace.Server j) =
      parts (ActPlace.Server j) [] (at (ActPlace.Server j)) (elsewhere (ActPlace.Server j) ActPlace.Directory (away j)) (by (nat_lt j servers) refl)
      ∙ by_moment_same (at (ActPlace.Server j)) (own.order (ActPlace.Server j))
    where
      other : (i : ℕ) → nat_eq j i ≡ false → filter (is_at (ActPlace.Server j)) (at (ActPlace.Server i)) ≡ []
      other i e = elsewhere (ActPlace.Server j) (ActPlace.Server i) (server_apart j i e)

      by : (b : Bool) → nat_lt j servers ≡ b → filter (is_at (ActPlace.Server j)) (flat_map (λ i. at (ActPlace.Server i)) (range_with_len 0 servers)) ≡ at (ActPlace.Server j)
      by true e = let lt : j < servers = ltb-true j servers e in one_in (is_at (ActPlace.Server j)) (λ i. at (ActPlace.Server i)) j other (own.here (ActPlace.Server j)) 0 servers (omega arith) (omega (arith, lt))
      by false e =
          let empty : at (ActPlace.Server j) ≡ [] = own.past j (ltb-false j servers e) in
          none_in (is_at (ActPlace.Server j)) (λ i. at (ActPlace.Server i)) (λ i. each i empty (nat_eq j i) refl) 0 servers ∙ sym empty
        where
          each : (i : ℕ) → at (ActPlace.Server j) ≡ [] → (b : Bool) → nat_eq j i ≡ b → filter (is_at (ActPlace.Server j)) (at (ActPlace.Server i)) ≡ []
          each i empty true q = ap (λ (k : ℕ). filter (is_at (ActPlace.Server j)) (at (ActPlace.Server k))) (sym (eqb-true j i q)) ∙ own.here (ActPlace.Server j) ∙ empty
          each i empty false q = other i q

pub keep_lists : ActorsKeepLists
keep_lists servers at own =
    record {
      places = at_place servers at own;
      more = λ m after is_more own_after rises under.
          same_steps (own_steps servers after) (own_steps servers at ++ m ∷ []) (by_moment_falls (after ActPlace.Directory ++ flat_map (λ j. after (ActPlace.Server j)) (range_with_len 0 servers)))
          (rise_snoc (own_steps servers at) m rises under) (steps_placed servers after own_after)
          (All-append IsPlaced (own_steps servers at) (m ∷ []) (steps_placed servers at own) (All-cons IsPlaced m [] (placed is_more.there m is_more.at) (All-nil IsPlaced)))
          (λ place.
          at_place servers after own_after place ∙ is_more.lists place
          ∙ ap (λ (l : List MadeStep). l ++ filter (is_at place) (m ∷ [])) (sym (at_place servers at own place)) ∙ sym (filter-append (is_at place) (own_steps servers at) (m ∷ [])));
    }

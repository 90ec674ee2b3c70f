-- The servers that a gathering names as missing differ, and are marked as the look told.
use Rattle.std.proofs.Common.{◌≡◌, ◌≢◌, ℕ, zero, suc, ◌+◌, ◌<◌, ◌≤◌, Bool, true, false, not, ◌||◌, nat_lt, nat_eq, List, [], ◌∷◌, ◌++◌, length, get_or, map, filter, refl, sym, ap, subst, ◌∙◌, arith, true≢false}
use Rattle.std.specs.Prelude.{All}
use Rattle.std.specs.List.{range_with_len}
use Rattle.std.proofs.lemmas.Bool.{cond_both, eq-eqb}
use Rattle.std.proofs.lemmas.List.Elements.{All-nil, All-cons, All-head, All-tail, All-push, All-weaker}
use Rattle.std.proofs.lemmas.List.Quantifiers.{all_pairs_push}
use Rattle.clay_grid.specs.Shape.{Shape, chunk_count}
use Rattle.store_map.specs.declared.placement.Placement.TheVariants as placement
use Rattle.store_map.specs.declared.placement.Found.{Found}
use Rattle.store_map.specs.declared.placement.Found.TheVariants as found
use Rattle.store_core.specs.Lists.{is_among}
use Rattle.store_core.specs.Told.{Seen, Lost, Told}
use Rattle.store_core.specs.Gathering.{Gathering, Part, servers_but, lost_at, unless_too_many, fetching_whole, recovering, fetching_repair, making, looking}
use Rattle.store_core.specs.GatheringParts.{chunks_in_range, after_data, fetching_data, gather_part, gather_chunk}
use Rattle.run_laws.specs.GatherLaws.{AreApart}
use Rattle.run_laws.proofs.Asks.{among_filter}

-- ---- filters of a range
all_filter : (P : ℕ → Type 0) (p : ℕ → Bool) (a k : ℕ) → ((i : ℕ) → a ≤ i → i < a + k → p i ≡ true → P i) → All P (filter p (range_with_len a k))
all_filter P p a zero each = All-nil P
all_filter P p a (suc k) each =
    let rest : All P (filter p (range_with_len (a + 1) k)) = all_filter P p (a + 1) k (λ i low high e. each i (omega (arith, low)) (omega (arith, high)) e) in
    cond_both {A = List ℕ} (p a) (a ∷ filter p (range_with_len (a + 1) k)) (filter p (range_with_len (a + 1) k)) (All P)
    (λ e. All-cons P a (filter p (range_with_len (a + 1) k)) (each a (omega arith) (omega arith) e) rest) (λ _. rest)

among_itself : (n : ℕ) (ns : List ℕ) → is_among n (n ∷ ns) ≡ true
among_itself n ns = ap (λ b. b || is_among n ns) (eq-eqb n n refl)

among_more : (n first : ℕ) (ns : List ℕ) → is_among n ns ≡ true → is_among n (first ∷ ns) ≡ true
among_more n first ns e = ap (λ b. nat_eq n first || b) e ∙ or_true (nat_eq n first)
  where
    or_true : (b : Bool) → (b || true) ≡ true
    or_true true = refl
    or_true false = refl

not_among : (n : ℕ) (ns : List ℕ) → not (is_among n ns) ≡ true → is_among n ns ≡ true → ⊥
not_among n ns out inside = true≢false (sym out ∙ ap not inside)

module _ (g : Shape) (seen : Seen) where
  -- a server that wasn't asked: there is such a one, and it wasn't marked
  record IsFresh (missing : List Lost) (server : ℕ) : Type 0 where
    below : server < chunk_count g
    unmarked : All (λ (lost : Lost). lost.server ≢ server) missing

  -- each of the servers is such a one, and none stands twice among them
  Unasked : List Lost → List ℕ → Type 0
  Unasked missing [] = Unit {0}
  Unasked missing (server ∷ more) = IsFresh missing server × All (λ other. server ≢ other) more × Unasked missing more

  -- where a gathering names servers, they are apart
  abbrev Names : Gathering → Type 0
  Names (Gathering.TooMany missing told) = AreApart g seen missing
  Names _ = Unit {0}

  unasked_filter : (missing : List Lost) (p : ℕ → Bool) (a k : ℕ) → ((i : ℕ) → a ≤ i → i < a + k → p i ≡ true → IsFresh missing i)
      → Unasked missing (filter p (range_with_len a k))
  unfolding Unasked
  unasked_filter missing p a zero each = tt
  unasked_filter missing p a (suc k) each =
      let rest : Unasked missing (filter p (range_with_len (a + 1) k)) = unasked_filter missing p (a + 1) k (λ i low high e. each i (omega (arith, low)) (omega (arith, high)) e) in
      cond_both {A = List ℕ} (p a) (a ∷ filter p (range_with_len (a + 1) k)) (filter p (range_with_len (a + 1) k)) (Unasked missing)
      (λ e. (each a (omega arith) (omega arith) e, all_filter (λ other. a ≢ other) p (a + 1) k (λ i low high _ same. omega (arith, low, same)), rest)) (λ _. rest)

  -- one more is marked, and the others are still unasked
  marked_more : (missing : List Lost) (server : ℕ) (reason : Found) (more : List ℕ) → All (λ other. server ≢ other) more → Unasked missing more
      → Unasked (missing ++ lost_at g seen server reason ∷ []) more
  unfolding Unasked
  marked_more missing server reason [] differ unasked = tt
  marked_more missing server reason (other ∷ more) differ unasked = (
    record {
      below = unasked.0.below;
      unmarked = All-push (λ (lost : Lost). lost.server ≢ other) missing (lost_at g seen server reason) unasked.0.unmarked (All-head (λ next. server ≢ next) other more differ);
    },
    unasked.1,
    marked_more missing server reason more (All-tail (λ next. server ≢ next) other more differ) unasked.2,
  )

  marked_apart : (missing : List Lost) (server : ℕ) (reason : Found) → AreApart g seen missing → IsFresh missing server → AreApart g seen (missing ++ lost_at g seen server reason ∷ [])
  marked_apart missing server reason apart fresh =
      record {
        there = All-push (λ (lost : Lost). lost.server < chunk_count g) missing (lost_at g seen server reason) apart.there fresh.below;
        differ = all_pairs_push (λ (lost other : Lost). lost.server ≢ other.server) missing (lost_at g seen server reason) apart.differ fresh.unmarked;
        placed = All-push (λ (lost : Lost). lost.placed ≡ get_or seen.placed lost.server (placement.At 0)) missing (lost_at g seen server reason) apart.placed refl;
      }

  none_apart : AreApart g seen []
  none_apart = record { there = All-nil _; differ = λ i j d first last. absurd (omega (arith, last)); placed = All-nil _ }

  -- where each marked server was asked, those that weren't are unasked
  but_asked : (missing : List Lost) (asked : List ℕ) → All (λ (lost : Lost). is_among lost.server asked ≡ true) missing → Unasked missing (servers_but g seen asked)
  but_asked missing asked all =
      unasked_filter missing (λ server. not (is_among server asked)) 0 (chunk_count g)
      (λ i low high e. record {
        below = omega (arith, high);
        unmarked = All-weaker (λ (lost : Lost). is_among lost.server asked ≡ true) (λ (lost : Lost). lost.server ≢ i)
            (λ lost inside same. not_among i asked e (subst (λ n. is_among n asked ≡ true) same inside)) missing all;
      })

  among_servers : (missing : List Lost) → All (λ (lost : Lost). is_among lost.server (map (λ (other : Lost). other.server) missing) ≡ true) missing
  among_servers [] = All-nil _
  among_servers (lost ∷ missing) =
      let servers : List ℕ = map (λ (other : Lost). other.server) missing in
      All-cons (λ (other : Lost). is_among other.server (lost.server ∷ servers) ≡ true) lost missing (among_itself lost.server servers)
      (All-weaker (λ (other : Lost). is_among other.server servers ≡ true) (λ (other : Lost). is_among other.server (lost.server ∷ servers) ≡ true)
      (λ other e. among_more other.server lost.server servers e) missing (among_servers missing))

  unless_names : (missing : List Lost) (told : List Told) (otherwise : Gathering) → AreApart g seen missing → Names otherwise → Names (unless_too_many g seen missing told otherwise)
  unless_names missing told otherwise apart h =
      cond_both {A = Gathering} (nat_lt g.parity_count (length missing)) (Gathering.TooMany missing told) otherwise Names (λ _. apart) (λ _. h)

  -- ---- the stages
  whole_names : (servers : List ℕ) (wanted : ℕ) (missing : List Lost) (told : List Told) → AreApart g seen missing → Unasked missing servers
      → Names (fetching_whole g seen servers wanted missing told)
  unfolding Unasked
  whole_names servers zero missing told apart unasked = tt
  whole_names [] (suc wanted) missing told apart unasked = apart
  whole_names (server ∷ more) (suc wanted) missing [] apart unasked = tt
  whole_names (server ∷ more) (suc wanted) missing (Told.Given layers ∷ told) apart unasked = whole_names more wanted missing told apart unasked.2
  whole_names (server ∷ more) (suc wanted) missing (Told.Missing epoch ∷ told) apart unasked =
      let marked : List Lost = missing ++ lost_at g seen server epoch ∷ [] in
      let now : AreApart g seen marked = marked_apart missing server epoch apart unasked.0 in
      unless_names marked told (fetching_whole g seen more (suc wanted) marked told) now
      (whole_names more (suc wanted) marked told now (marked_more missing server epoch more unasked.1 unasked.2))
  whole_names (server ∷ more) (suc wanted) missing (_ ∷ told) apart unasked = tt

  recovering_names : (missing : List Lost) (told : List Told) → AreApart g seen missing → Names (recovering g seen missing told)
  recovering_names missing told apart =
      whole_names (servers_but g seen (map (λ (lost : Lost). lost.server) missing)) g.data_count missing told apart
      (but_asked missing (map (λ (lost : Lost). lost.server) missing) (among_servers missing))

  repair_names : (servers : List ℕ) (lost : Lost) (told : List Told) → AreApart g seen (lost ∷ []) → Unasked (lost ∷ []) servers → Names (fetching_repair g seen servers lost told)
  unfolding Unasked
  repair_names [] lost told apart unasked = tt
  repair_names (server ∷ more) lost [] apart unasked = tt
  repair_names (server ∷ more) lost (Told.Given layers ∷ told) apart unasked = repair_names more lost told apart unasked.2
  repair_names (server ∷ more) lost (Told.Missing epoch ∷ told) apart unasked =
      let marked : List Lost = lost ∷ lost_at g seen server epoch ∷ [] in
      let now : AreApart g seen marked = marked_apart (lost ∷ []) server epoch apart unasked.0 in
      unless_names marked told (recovering g seen marked told) now (recovering_names marked told now)
  repair_names (server ∷ more) lost (_ ∷ told) apart unasked = tt

  making_names : (missing : List Lost) (told : List Told) → AreApart g seen missing → Names (making g seen missing told)
  making_names [] told apart = tt
  making_names (lost ∷ []) told apart =
      repair_names (servers_but g seen (lost.server ∷ [])) lost told apart (but_asked (lost ∷ []) (lost.server ∷ []) (among_servers (lost ∷ [])))
  making_names (lost ∷ other ∷ more) told apart = recovering_names (lost ∷ other ∷ more) told apart

  looking_names : (servers : List ℕ) (missing : List Lost) (told : List Told) → AreApart g seen missing → Unasked missing servers → Names (looking g seen servers missing told)
  unfolding Unasked
  looking_names [] missing told apart unasked = making_names missing told apart
  looking_names (server ∷ more) missing [] apart unasked = tt
  looking_names (server ∷ more) missing (Told.Here ∷ told) apart unasked = looking_names more missing told apart unasked.2
  looking_names (server ∷ more) missing (Told.Missing epoch ∷ told) apart unasked =
      let marked : List Lost = missing ++ lost_at g seen server epoch ∷ [] in
      let now : AreApart g seen marked = marked_apart missing server epoch apart unasked.0 in
      unless_names marked told (looking g seen more marked told) now (looking_names more marked told now (marked_more missing server epoch more unasked.1 unasked.2))
  looking_names (server ∷ more) missing (_ ∷ told) apart unasked = tt

module _ (g : Shape) (part : Part) where
  abbrev chunks : List ℕ
  chunks = chunks_in_range g part.start part.end

  after_names : (missing : List Lost) (told : List Told) → AreApart g part.seen missing → All (λ (lost : Lost). is_among lost.server chunks ≡ true) missing
      → Names g part.seen (after_data g part missing told)
  after_names [] told apart among = tt
  after_names (lost ∷ more) told apart among =
      looking_names g part.seen (servers_but g part.seen chunks) (lost ∷ more) told apart (but_asked g part.seen (lost ∷ more) chunks among)

  data_names : (servers : List ℕ) (missing : List Lost) (told : List Told) → AreApart g part.seen missing → Unasked g part.seen missing servers
      → All (λ server. is_among server chunks ≡ true) servers → All (λ (lost : Lost). is_among lost.server chunks ≡ true) missing
      → Names g part.seen (fetching_data g part servers missing told)
  unfolding Unasked
  data_names [] missing told apart unasked within among = after_names missing told apart among
  data_names (server ∷ more) missing [] apart unasked within among = tt
  data_names (server ∷ more) missing (Told.Given layers ∷ told) apart unasked within among =
      data_names more missing told apart unasked.2 (All-tail (λ other. is_among other chunks ≡ true) server more within) among
  data_names (server ∷ more) missing (Told.Missing epoch ∷ told) apart unasked within among =
      let marked : List Lost = missing ++ lost_at g part.seen server epoch ∷ [] in
      let now : AreApart g part.seen marked = marked_apart g part.seen missing server epoch apart unasked.0 in
      unless_names g part.seen marked told (fetching_data g part more marked told) now
      (data_names more marked told now (marked_more g part.seen missing server epoch more unasked.1 unasked.2)
      (All-tail (λ other. is_among other chunks ≡ true) server more within)
      (All-push (λ (lost : Lost). is_among lost.server chunks ≡ true) missing (lost_at g part.seen server epoch) among
      (All-head (λ other. is_among other chunks ≡ true) server more within)))
  data_names (server ∷ more) missing (_ ∷ told) apart unasked within among = tt

part_names : (g : Shape) (part : Part) (told : List Told) → Names g part.seen (gather_part g part told)
part_names g part told =
    data_names g part (chunks g part) [] told (none_apart g part.seen)
    (unasked_filter g part.seen [] _ 0 g.data_count (λ i low high _. record { below = omega (arith, high); unmarked = All-nil _ }))
    (all_filter (λ server. is_among server (chunks g part) ≡ true) _ 0 g.data_count (λ i low high e. among_filter _ 0 g.data_count i low high e))
    (All-nil _)

chunk_names : (g : Shape) (seen : Seen) (target : ℕ) (told : List Told) → target < chunk_count g → Names g seen (gather_chunk g seen target told)
chunk_names g seen target [] below = tt
chunk_names g seen target (Told.Here ∷ told) below = tt
chunk_names g seen target (Told.Missing (found.Absent epoch) ∷ told) below =
    let lost : Lost = lost_at g seen target (found.Absent epoch) in
    looking_names g seen (servers_but g seen (target ∷ [])) (lost ∷ []) told
    (marked_apart g seen [] target (found.Absent epoch) (none_apart g seen) (record { below = below; unmarked = All-nil _ }))
    (but_asked g seen (lost ∷ []) (target ∷ []) (among_servers g seen (lost ∷ [])))
chunk_names g seen target (Told.Missing (found.Away downs) ∷ told) below = tt
chunk_names g seen target (_ ∷ told) below = tt

pub part_apart : (g : Shape) (part : Part) (told rest : List Told) (missing : List Lost) → gather_part g part told ≡ Gathering.TooMany missing rest → AreApart g part.seen missing
part_apart g part told rest missing e = subst (Names g part.seen) e (part_names g part told)

pub chunk_apart : (g : Shape) (seen : Seen) (target : ℕ) (told rest : List Told) (missing : List Lost) → target < chunk_count g
    → gather_chunk g seen target told ≡ Gathering.TooMany missing rest → AreApart g seen missing
chunk_apart g seen target told rest missing below e = subst (Names g seen) e (chunk_names g seen target told below)

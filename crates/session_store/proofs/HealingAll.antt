-- The healer makes chunks anew one after another.
use Rattle.std.proofs.Common.{◌≡◌, ℕ, zero, suc, ◌+◌, ◌<◌, ◌≤◌, ◌^◌, Bool, true, false, List, [], ◌∷◌, ◌++◌, length, take, get_or, replicate, slice_get, None, Some, All, refl, sym, ap, subst, ◌∙◌, inr, arith, nat_lt, if◌then◌else◌, true≢false}
use Rattle.std.specs.List.{list_any}
use Rattle.std.proofs.Math.Numerals.{add-one}
use Rattle.std.proofs.lemmas.List.{length-append, length-replicate, length-take-le, take_all}
use Rattle.std.proofs.lemmas.List.Elements.{All-head, All-tail}
use Rattle.std.proofs.lemmas.Option.{none-some, same_Some}
use Rattle.clay_grid.specs.Shape.{Shape, chunk_count}
use Rattle.store_map.specs.declared.actor.Actor.{Actor}
use Rattle.store_map.specs.declared.actor.Actor.TheVariants as actor
use Rattle.store_map.specs.declared.call.Rebuild.{Rebuild as RebuildCall}
use Rattle.store_core.specs.Act.{Outcome}
use Rattle.store_core.specs.NextAct.{rebuild_job}
use Rattle.store_core.specs.Step.{Shortage, Places as CorePlaces}
use Rattle.version_seal.specs.Entry.{BookOf}
use Rattle.session_rules.specs.declared.session_answer.Answer.{Answer}
use Rattle.session_store.specs.declared.places.SessionPlaces.{SessionPlaces}
use Rattle.session_rules.specs.Seats.{ran, HasEnded}
use Rattle.session_rules.specs.Answering.{took}
use Rattle.call_steps.specs.CallOf.{tries_by, taken_of}
use Rattle.session_store.specs.AtWork.{first_at}
use Rattle.session_store.specs.declared.session_parts.Parts.{Parts}
use Rattle.session_store.specs.Places.{seen_in}
use Rattle.session_store.specs.Healing.{MayHeal, KeepsOthers, is_rebuilt, added_low, added_if, HasHealedOne, AreMade, HasMade, IsCutOffAt, HasHealed, AreOfServers, HealsWith}
use Rattle.session_store.specs.Sweeping.{HasSwept}
use Rattle.session_store.proofs.Lists.{got}
use Rattle.session_store.proofs.HealingOne.{took_length}

-- ---- lists by their places
pub take_next : {X : Type 0} (xs : List X) (i : ℕ) (x : X) → slice_get xs i ≡ Some x → take (suc i) xs ≡ take i xs ++ x ∷ []
take_next [] i x is = absurd (none-some x is)
take_next (y ∷ ys) zero x is = ap (λ z. z ∷ []) (same_Some y x is)
take_next (y ∷ ys) (suc i) x is = ap (λ l. y ∷ l) (take_next ys i x is)

all_at : {X : Type 0} (P : X → Type 0) (xs : List X) (i : ℕ) (x : X) → All P xs → slice_get xs i ≡ Some x → P x
all_at P [] i x all is = absurd (none-some x is)
all_at P (y ∷ ys) zero x all is = subst P (same_Some y x is) (All-head P y ys all)
all_at P (y ∷ ys) (suc i) x all is = all_at P ys i x (All-tail P y ys all) is

-- ---- counts
added_length : (a b : List ℕ) → length b ≡ length a → length (added_low a b) ≡ length a
added_length [] b same = refl
added_length (x ∷ a) [] same = absurd (cc (same))
added_length (x ∷ a) (y ∷ b) same = ap suc (added_length a b (let e : suc (length b) ≡ suc (length a) = same in omega (arith, e)))

if_length : (takes so_far : List ℕ) → length takes ≡ length so_far → length (added_if (taken_of takes) so_far) ≡ length so_far
if_length takes so_far same = by (list_any (nat_lt 0) takes)
  where
    by : (b : Bool) → length (added_if (if b then Some takes else None) so_far) ≡ length so_far
    by true = added_length so_far takes same
    by false = refl

-- ---- what rebuilds keep
pub keeps_none : (old : Parts) → MayHeal old → KeepsOthers old old
keeps_none old may = record { may = may; same = record { places = may.places; book = refl }; most = refl; others = λ token apart agrees. agrees; holds = λ calls holds. holds; rest = refl }

pub keeps_more : (old mid now : Parts) → KeepsOthers old mid → KeepsOthers mid now → KeepsOthers old now
keeps_more old mid now first second = record {
  may = second.may;
  same = record { places = second.same.places; book = second.same.book ∙ first.same.book };
  most = second.most ∙ first.most;
  others = λ token apart agrees. second.others token apart (first.others token apart agrees);
  holds = λ calls holds. second.holds calls (first.holds calls holds);
  rest = second.rest ∙ ap (λ (parts : Parts). record parts { places = now.places; healer = now.healer; next = now.next }) first.rest;
}

rebuilt_is : (outcome : Outcome) → is_rebuilt outcome ≡ true → outcome ≡ Outcome.Rebuilt
rebuilt_is Outcome.Rebuilt e = refl
rebuilt_is outcome e = absurd (true≢false (sym e))

-- ---- one more
module _ (g : Shape) (tries : ℕ) (who : Actor) (chunk : RebuildCall) (shortages : List Shortage) (after : CorePlaces) (total : List ℕ) where
  abbrev EndsSo : ℕ → CorePlaces → List ℕ → Type 0
  EndsSo number before so_far =
      HasEnded g tries who number (rebuild_job chunk) shortages before Outcome.Rebuilt
      × ((ran g tries who number (rebuild_job chunk) shortages before).places ≡ after)
      × (added_if (taken_of (took g tries who number (rebuild_job chunk) shortages (first_at before) (replicate (chunk_count g) 0))) so_far ≡ total)

  are_made_more : (chunks : List RebuildCall) (number at : ℕ) (before mid : CorePlaces) (taken so_far : List ℕ) → at ≡ number + length chunks → AreMade g tries who number chunks before taken mid so_far → EndsSo at mid so_far →
      AreMade g tries who number (chunks ++ chunk ∷ []) before taken after total
  are_made_more [] number at before mid taken so_far here (same, also) ends =
      let e : EndsSo number before taken =
      subst (λ (l : List ℕ). EndsSo number before l) (sym also) (subst (λ (q : CorePlaces). EndsSo number q so_far) (sym same) (subst (λ n. EndsSo n mid so_far) (let n : at ≡ number = omega (arith, here) in n) ends)) in
      (shortages, e.0, (e.1, e.2))
  are_made_more (x ∷ xs) number at before mid taken so_far here (short, over, rest) ends =
      (short, over, are_made_more xs (number + 1) at _ mid _ so_far (let n : at ≡ number + suc (length xs) = here in omega (arith, n)) rest ends)

-- ---- the loop
pub made_none : (old : Parts) (taken : List ℕ) → MayHeal old → HasMade old [] taken old taken
made_none old taken may = record { keeps = keeps_none old may; next = omega arith; count = refl; made = (refl, refl) }

module _ (old mid now : Parts) (chunks : List RebuildCall) (chunk : RebuildCall) (taken so_far total : List ℕ) (counted : length taken ≡ chunk_count old.places.book.geometry) (m : HasMade old chunks taken mid so_far) (one : HasHealedOne mid chunk so_far true now total) where
  is_so : one.outcome ≡ Outcome.Rebuilt
  is_so = rebuilt_is one.outcome (sym one.told)

  abbrev Ended : BookOf → Outcome → ℕ → Type 0
  Ended book outcome number =
      HasEnded book.geometry (tries_by book.script) (actor.Repairer 1) number (rebuild_job chunk) one.shortages (seen_in mid.places) outcome
      × ((ran book.geometry (tries_by book.script) (actor.Repairer 1) number (rebuild_job chunk) one.shortages (seen_in mid.places)).places ≡ seen_in now.places)
      × (added_if (taken_of (took book.geometry (tries_by book.script) (actor.Repairer 1) number (rebuild_job chunk) one.shortages (first_at (seen_in mid.places)) (replicate (chunk_count book.geometry) 0))) so_far ≡ total)

  ended : Ended old.places.book Outcome.Rebuilt mid.next
  ended = subst (λ (o : Outcome). Ended old.places.book o mid.next) is_so (subst (λ (b : BookOf). Ended b one.outcome mid.next) m.keeps.same.book (one.over, one.leaves, sym one.takes))

  pub made_more : HasMade old (chunks ++ chunk ∷ []) taken now total
  made_more = record {
    keeps = keeps_more old mid now m.keeps one.keeps;
    next = (let first = m.next in let second = one.next in let all : length (chunks ++ chunk ∷ []) ≡ length chunks + 1 = length-append chunks (chunk ∷ []) in omega (arith, first, second, all));
    count =
        ap length one.takes
        ∙ if_length (took mid.places.book.geometry (tries_by mid.places.book.script) (actor.Repairer 1) mid.next (rebuild_job chunk) one.shortages (first_at (seen_in mid.places)) (replicate (chunk_count mid.places.book.geometry) 0)) so_far
        (took_length mid.places.book.geometry (tries_by mid.places.book.script) (actor.Repairer 1) mid.next (rebuild_job chunk) one.shortages (first_at (seen_in mid.places)) (replicate (chunk_count mid.places.book.geometry) 0)
        ∙ length-replicate (chunk_count mid.places.book.geometry) 0 ∙ ap (λ (b : BookOf). chunk_count b.geometry) m.keeps.same.book ∙ sym counted ∙ sym m.count)
        ∙ m.count;
    made = are_made_more old.places.book.geometry (tries_by old.places.book.script) (actor.Repairer 1) chunk one.shortages (seen_in now.places) total chunks old.next mid.next (seen_in old.places) (seen_in mid.places) taken so_far m.next m.made ended;
  }

module _ (old mid : Parts) (chunks : List RebuildCall) (i : ℕ) (chunk : RebuildCall) (taken so_far : List ℕ) (less : i < length chunks) (read : chunk ≡ get_or chunks i chunk)
    (m : HasMade old (take i chunks) taken mid so_far) where
  there : slice_get chunks i ≡ Some chunk
  there = got chunks i chunk less read

  pub next_below : AreOfServers old chunks → chunk.server < chunk_count mid.places.book.geometry
  next_below all =
      subst (λ (b : BookOf). chunk.server < chunk_count b.geometry) (sym m.keeps.same.book) (all_at (λ (x : RebuildCall). x.server < chunk_count old.places.book.geometry) chunks i chunk all there)

  pub next_few : old.next + length chunks < 2 ^ 32 → mid.next + 1 < 2 ^ 32
  next_few few = let first = m.next in let all : length (take i chunks) ≡ i = length-take-le i chunks (omega (arith, less)) in omega (arith, few, first, all, less)

  pub next_count : length taken ≡ chunk_count old.places.book.geometry → length so_far ≡ chunk_count mid.places.book.geometry
  next_count count = m.count ∙ count ∙ sym (ap (λ (b : BookOf). chunk_count b.geometry) m.keeps.same.book)

  module _ (now : Parts) (total : List ℕ) (told : Bool) (one : HasHealedOne mid chunk so_far told now total) where
    pub next_made : length taken ≡ chunk_count old.places.book.geometry → told ≡ true → HasMade old (take (i + 1) chunks) taken now total
    next_made counted is =
        subst (λ (l : List RebuildCall). HasMade old l taken now total) (sym (ap (λ n. take n chunks) (add-one i) ∙ take_next chunks i chunk there))
        (made_more old mid now (take i chunks) chunk taken so_far total counted m (subst (λ (b : Bool). HasHealedOne mid chunk so_far b now total) is one))

    pub next_cut : told ≡ false → IsCutOffAt old chunks taken now
    next_cut is = record {
      made = i;
      left = mid;
      so_far = so_far;
      chunk = chunk;
      there = there;
      before = m;
      total = total;
      last = subst (λ (b : Bool). HasHealedOne mid chunk so_far b now total) is one;
      keeps = keeps_more old mid now m.keeps one.keeps;
    }

-- all of them
pub made_all : (old now : Parts) (chunks : List RebuildCall) (i : ℕ) (taken total : List ℕ) → length chunks ≤ i → HasMade old (take i chunks) taken now total → HasMade old chunks taken now total
made_all old now chunks i taken total all m = subst (λ (l : List RebuildCall). HasMade old l taken now total) (take_all i chunks all) m

-- the sweeper after a rebuild that ended otherwise
pub cut_answered : (old left : Parts) (chunks items : List RebuildCall) (taken counts total : List ℕ) (told : Bool) (places : SessionPlaces) → chunks ≡ items → taken ≡ counts → told ≡ false →
    HasHealed old chunks taken told left total → HasSwept left.places places → HealsWith old items counts Answer.NoMemory (record left { places = places })
cut_answered old left chunks items taken counts total told places same also is healed swept =
    inr (record {
      left = left;
      cut =
          subst (λ (l : List ℕ). IsCutOffAt old items l left) also
          (subst (λ (l : List RebuildCall). IsCutOffAt old l taken left) same (subst (λ (b : Bool). HasHealed old chunks taken b left total) is healed));
      swept = swept;
      rest = refl;
      wanting = refl;
    })

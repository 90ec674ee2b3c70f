-- What an actor must have in the directory so that the next step of its call may be made.
use Rattle.std.proofs.Common.{◌≡◌, ℕ, suc, ◌+◌, ◌<◌, ◌≤◌, nat_eq, nat_le, true, false, List, [], ◌∷◌, ◌++◌, length, Option, None, Some, IfSome, All, IsTrue, refl, sym, ap, subst, ◌∙◌, arith, true≢false, length-append}
use Rattle.std.proofs.lemmas.Bool.{and_parts, eqb-true, leb-true}
use Rattle.std.proofs.lemmas.List.Elements.{All-push, All-weaker}
use Rattle.clay_grid.specs.Shape.{Shape}
use Rattle.store_map.specs.declared.actor.Actor.{Actor}
use Rattle.store_core.specs.Told.{Told}
use Rattle.store_core.specs.Note.{Note}
use Rattle.store_core.specs.Directory.{Pass, Event, Point, Directory}
use Rattle.store_core.specs.Lookups.{same_actor, pass_of}
use Rattle.store_core.specs.Look.{stripes_between}
use Rattle.store_core.specs.PassSteps.{touched}
use Rattle.run_laws.proofs.Phases.{rank_moves}
use Rattle.run_laws.proofs.Passes.{same_is, pass_is}
use Rattle.run_laws.proofs.ToldVersions.{VersionsMove}
use Rattle.run_laws.proofs.OwnPasses.{OnePoint, StepMoves, HasDrawn, PassesStand}

-- how many versions a call with this note draws
abbrev pub drawn_count : Shape → Note → ℕ
drawn_count g note = length (stripes_between g note.offset (note.offset + note.length))

-- a point is of no later call of an actor than this one
abbrev pub NotLater : Actor → ℕ → Point → Type 0
NotLater who number point = IsTrue (same_actor point.actor who) → point.number ≤ number

-- and if it is of this one it is a reap
abbrev pub OnlyReaped : Actor → ℕ → Point → Type 0
OnlyReaped who number point = IsTrue (same_actor point.actor who) → point.number ≡ number → point.event ≡ Event.Reaped

-- a pass of this call, which has drawn nothing before its draw, and then what it was told
pub record PassReady (most number rank : ℕ) (versions : List Told) (pass_number : ℕ) (pass_drawn : List ℕ) : Type 0 where
  pub of_call : pass_number ≡ number
  pub none_drawn : 2 ≤ rank → pass_drawn ≡ []
  pub all_drawn : (drawn : List ℕ) → versions ≡ Told.Versions drawn ∷ [] → (pass_drawn ≡ drawn) × (length drawn ≡ most)

-- an actor in its call with this number, by the rank of its next act and the versions that it was told
pub record Ready (most : ℕ) (who : Actor) (number rank : ℕ) (versions : List Told) (d : Directory) : Type 0 where
  pub numbers : All (NotLater who number) d.points
  pub reaps : 3 ≤ rank → All (OnlyReaped who number) d.points
  pub none_told : 3 ≤ rank → versions ≡ []
  pub pass : IfSome (pass_of who d) (λ pass. PassReady most number rank versions pass.number pass.drawn)

-- an actor that is not the other
not_same : (who other : Actor) → same_actor other who ≡ false → same_actor who other ≡ true → ⊥
not_same who other apart e =
    let both : same_actor other other ≡ true = subst (λ a. same_actor a other ≡ true) (same_is who other e) e in
    let back : same_actor other who ≡ true = subst (λ a. same_actor other a ≡ true) (sym (same_is who other e)) both in
    true≢false (sym back ∙ apart)

-- ---- what was told of a draw
-- nothing is no draw
none_or_drawn : (drawn : List ℕ) → [] ≡ Told.Versions drawn ∷ [] → ⊥
none_or_drawn drawn e = let sizes : 0 ≡ 1 = ap (λ (l : List Told). length l) e in omega (arith, sizes)

-- the versions of the first draw
abbrev first_drawn : List Told → List ℕ
first_drawn (Told.Versions drawn ∷ told) = drawn
first_drawn _ = []

-- where one draw was told it is the last one
last_drawn : (told : List Told) (last drawn : List ℕ) → told ++ Told.Versions last ∷ [] ≡ Told.Versions drawn ∷ [] → last ≡ drawn
last_drawn [] last drawn e = ap first_drawn e
last_drawn (answer ∷ told) last drawn e =
    let sizes : suc (length (told ++ Told.Versions last ∷ [])) ≡ 1 = ap (λ (l : List Told). length l) e in
    let more : length (told ++ Told.Versions last ∷ []) ≡ length told + 1 = length-append told (Told.Versions last ∷ []) in
    absurd (omega (arith, sizes, more))

module _ (most : ℕ) (who : Actor) (number : ℕ) where
  -- the same answers leave a pass ready while the rank doesn't rise
  pass_falls : (rank rank_now : ℕ) (versions now : List Told) → rank_now ≤ rank → now ≡ versions → (n : ℕ) (drawn : List ℕ) → PassReady most number rank versions n drawn → PassReady most number rank_now now n drawn
  pass_falls rank rank_now versions now low same n drawn ready =
      record {
        of_call = ready.of_call;
        none_drawn = λ h. ready.none_drawn (omega (arith, low, h));
        all_drawn = λ told e. ready.all_drawn told (sym same ∙ e);
      }

  -- so does the pass that was found
  passes_fall : (found : Option Pass) (rank rank_now : ℕ) (versions now : List Told) → rank_now ≤ rank → now ≡ versions
      → IfSome found (λ pass. PassReady most number rank versions pass.number pass.drawn) → IfSome found (λ pass. PassReady most number rank_now now pass.number pass.drawn)
  passes_fall None rank rank_now versions now low same ready = tt
  passes_fall (Some pass) rank rank_now versions now low same ready = pass_falls rank rank_now versions now low same pass.number pass.drawn ready

  -- what is told without a step leaves the actor ready
  pub ready_falls : (d : Directory) (rank rank_now : ℕ) (versions now : List Told) → rank_now ≤ rank → now ≡ versions → Ready most who number rank versions d → Ready most who number rank_now now d
  ready_falls d rank rank_now versions now low same ready =
      record {
        numbers = ready.numbers;
        reaps = λ h. ready.reaps (omega (arith, low, h));
        none_told = λ h. same ∙ ready.none_told (omega (arith, low, h));
        pass = passes_fall (pass_of who d) rank rank_now versions now low same ready.pass;
      }

  -- ---- steps of others
  -- a step of another actor's call
  pub ready_apart : (other : Actor) (other_number rank : ℕ) (versions : List Told) (before after : Directory) (answer : Told) → same_actor who other ≡ false
      → StepMoves other other_number before after answer → Ready most who number rank versions before → Ready most who number rank versions after
  ready_apart other other_number rank versions before after answer apart moves ready =
      record {
        numbers = kept (NotLater who number) (λ point mine h. absurd (foreign point mine h)) ready.numbers;
        reaps = λ h. kept (OnlyReaped who number) (λ point mine same. absurd (foreign point mine same)) (ready.reaps h);
        none_told = ready.none_told;
        pass = subst (λ (o : Option Pass). IfSome o (λ pass. PassReady most number rank versions pass.number pass.drawn)) (sym (moves.others who apart)) ready.pass;
      }
    where
      foreign : (point : Point) → point.actor ≡ other → IsTrue (same_actor point.actor who) → ⊥
      foreign point mine h = not_same other who apart (subst (λ a. same_actor a who ≡ true) mine h)

      by : (P : Point → Type 0) → ((point : Point) → point.actor ≡ other → P point) → (all : All P before.points) → (told : Told) → StepMoves other other_number before after told → All P after.points
      by P new all (Told.Answer point reply) step = subst (All P) (sym step.points.added) (All-push P before.points step.points.point all (new step.points.point step.points.mine))
      by P new all (Told.Pinned point length_now stripes) step = subst (All P) (sym step.points.added) (All-push P before.points step.points.point all (new step.points.point step.points.mine))
      by P new all (Told.Done point) step = subst (All P) (sym step.points.added) (All-push P before.points step.points.point all (new step.points.point step.points.mine))
      by P new all told step = subst (All P) (sym step.points) all

      kept : (P : Point → Type 0) → ((point : Point) → point.actor ≡ other → P point) → All P before.points → All P after.points
      kept P new all = by P new all answer moves

  -- a step of the sweeper or the operator
  pub ready_stands : (rank : ℕ) (versions : List Told) (before after : Directory) → PassesStand before after → Ready most who number rank versions before → Ready most who number rank versions after
  ready_stands rank versions before after stand ready =
      record {
        numbers = stand.points (NotLater who number) (λ other pass e same. let low : pass.number ≡ number = of_call other pass e same in omega (arith, low)) ready.numbers;
        reaps = λ h. stand.points (OnlyReaped who number) (λ other pass e same mine. refl) (ready.reaps h);
        none_told = ready.none_told;
        pass = stand.passes who (PassReady most number rank versions) ready.pass;
      }
    where
      of_call : (other : Actor) (pass : Pass) → pass_of other before ≡ Some pass → IsTrue (same_actor pass.actor who) → pass.number ≡ number
      of_call other pass e same =
          let mine : other ≡ who = pass_is other before pass e ∙ same_is pass.actor who same in
          let found : pass_of who before ≡ Some pass = subst (λ a. pass_of a before ≡ Some pass) mine e in
          let right : PassReady most number rank versions pass.number pass.drawn = subst (λ (o : Option Pass). IfSome o (λ p. PassReady most number rank versions p.number p.drawn)) found ready.pass in
          right.of_call

-- ---- the next call
-- after a call has ended its actor may begin the next one
pub ready_next : (most next_most : ℕ) (who : Actor) (number rank rank_now : ℕ) (versions : List Told) (d : Directory) → Ready most who number rank versions d → pass_of who d ≡ None
    → Ready next_most who (number + 1) rank_now [] d
ready_next most next_most who number rank rank_now versions d ready free =
    record {
      numbers = All-weaker (NotLater who number) (NotLater who (number + 1)) (λ point h same. let low : point.number ≤ number = h same in omega (arith, low)) d.points ready.numbers;
      reaps = λ _. All-weaker (NotLater who number) (OnlyReaped who (number + 1))
          (λ point h same e. let low : point.number ≤ number = h same in let is_next : point.number ≡ number + 1 = e in absurd (omega (arith, low, is_next))) d.points ready.numbers;
      none_told = λ _. refl;
      pass = subst (λ (o : Option Pass). IfSome o (λ pass. PassReady next_most (number + 1) rank_now [] pass.number pass.drawn)) (sym free) tt;
    }

-- ---- a step of its own
-- a look that begins a pass
abbrev pub Begins : Told → Type 0
Begins (Told.Pinned point length_now stripes) = Unit {0}
Begins (Told.Ready base length_now stripes) = Unit {0}
Begins (Told.PinnedStripe seen) = Unit {0}
Begins _ = ⊥

-- a look that has its point
abbrev pub HasPoint : Told → Type 0
HasPoint (Told.Answer point reply) = Unit {0}
HasPoint (Told.Pinned point length_now stripes) = Unit {0}
HasPoint _ = ⊥

-- a commit that is told of a change
abbrev pub IsChange : Told → Type 0
IsChange (Told.Changed base newer) = Unit {0}
IsChange _ = ⊥

-- what must be known of the answer
pub record Fitting (most : ℕ) (who : Actor) (number rank rank_now : ℕ) (before : Directory) (answer : Told) : Type 0 where
  pub ranks : IsTrue (rank_moves answer rank rank_now)
  pub begins : Begins answer → 3 ≤ rank
  pub ends : HasPoint answer → rank_now < 3
  pub changed : IsChange answer → All (OnlyReaped who number) before.points
  pub count : (pass : Pass) → pass_of who before ≡ Some pass → length (touched before pass.note) ≡ most

module _ (most : ℕ) (who : Actor) (number rank rank_now : ℕ) (versions now : List Told) (before after : Directory) (ready : Ready most who number rank versions before) where
  -- ready after the step
  abbrev After : Type 0
  After = Ready most who number rank_now now after

  -- the actor's pass then
  abbrev PassAfter : Option Pass → Type 0
  PassAfter found = IfSome found (λ pass. PassReady most number rank_now now pass.number pass.drawn)

  -- no pass is left
  closed_after : pass_of who after ≡ None → PassAfter (pass_of who after)
  closed_after none = subst PassAfter (sym none) tt

  -- the point of this call is of no later one
  one_more : OnePoint who number before after → All (NotLater who number) after.points
  one_more more =
      subst (All (NotLater who number)) (sym more.added)
      (All-push (NotLater who number) before.points more.point ready.numbers (λ same. let e : more.point.number ≡ number = more.of_call in omega (arith, e)))

  -- where no point came
  same_numbers : after.points ≡ before.points → All (NotLater who number) after.points
  same_numbers same = subst (All (NotLater who number)) (sym same) ready.numbers

  -- the pass has begun
  begun_pass : (found : Option Pass) → now ≡ [] → IfSome found (λ pass. (pass.number ≡ number) × (pass.drawn ≡ [])) → PassAfter found
  begun_pass None none h = tt
  begun_pass (Some pass) none h = record { of_call = h.0; none_drawn = λ _. h.1; all_drawn = λ drawn e. absurd (none_or_drawn drawn (sym none ∙ e)) }

  -- the answer leaves pass and points
  quiet : after.points ≡ before.points → pass_of who after ≡ pass_of who before → rank_now ≤ rank → now ≡ versions → After
  quiet points same low told =
      record {
        numbers = same_numbers points;
        reaps = λ h. subst (All (OnlyReaped who number)) (sym points) (ready.reaps (omega (arith, low, h)));
        none_told = λ h. told ∙ ready.none_told (omega (arith, low, h));
        pass = subst PassAfter (sym same) (passes_fall most who number (pass_of who before) rank rank_now versions now low told ready.pass);
      }

  -- the pass is closed, and there is no new point
  closes : after.points ≡ before.points → pass_of who after ≡ None → rank_now ≤ rank → now ≡ versions → After
  closes points none low told =
      record {
        numbers = same_numbers points;
        reaps = λ h. subst (All (OnlyReaped who number)) (sym points) (ready.reaps (omega (arith, low, h)));
        none_told = λ h. told ∙ ready.none_told (omega (arith, low, h));
        pass = closed_after none;
      }

  -- a pass begins, and there is no new point
  begins_here : after.points ≡ before.points → IfSome (pass_of who after) (λ pass. (pass.number ≡ number) × (pass.drawn ≡ [])) → rank_now ≤ rank → 3 ≤ rank → now ≡ versions → After
  begins_here points begun low at_look told =
      record {
        numbers = same_numbers points;
        reaps = λ h. subst (All (OnlyReaped who number)) (sym points) (ready.reaps at_look);
        none_told = λ h. told ∙ ready.none_told at_look;
        pass = begun_pass (pass_of who after) (told ∙ ready.none_told at_look) begun;
      }

  -- versions are drawn
  draws : (drawn : List ℕ) → after.points ≡ before.points → HasDrawn who before after drawn → (rank ≡ 2) × (rank_now ≤ 1) → now ≡ versions ++ Told.Versions drawn ∷ []
      → ((pass : Pass) → pass_of who before ≡ Some pass → length (touched before pass.note) ≡ most) → After
  draws drawn points has ranks told count =
      record {
        numbers = same_numbers points;
        reaps = λ h. absurd (let low : rank_now ≤ 1 = ranks.1 in omega (arith, low, h));
        none_told = λ h. absurd (let low : rank_now ≤ 1 = ranks.1 in omega (arith, low, h));
        pass = subst PassAfter (sym has.is) right;
      }
    where
      old : PassReady most number rank versions has.pass.number has.pass.drawn
      old = subst (λ (o : Option Pass). IfSome o (λ p. PassReady most number rank versions p.number p.drawn)) has.was ready.pass

      right : PassReady most number rank_now now has.pass.number drawn
      right =
          record {
            of_call = old.of_call;
            none_drawn = λ h. absurd (let low : rank_now ≤ 1 = ranks.1 in omega (arith, low, h));
            all_drawn = λ all e.
                let same : drawn ≡ all = last_drawn versions drawn all (sym told ∙ e) in
                (same, sym (ap (λ (l : List ℕ). length l) same) ∙ has.count ∙ count has.pass has.was);
          }

  -- a call's own step leaves its actor ready
  pub ready_own : (answer : Told) → StepMoves who number before after answer → Fitting most who number rank rank_now before answer → VersionsMove answer versions now → After
  ready_own (Told.Answer point reply) moves fits told =
      record {
        numbers = one_more moves.points;
        reaps = λ h. absurd (let low : rank_now < 3 = fits.ends tt in omega (arith, low, h));
        none_told = λ h. absurd (let low : rank_now < 3 = fits.ends tt in omega (arith, low, h));
        pass = subst PassAfter (sym moves.own) (passes_fall most who number (pass_of who before) rank rank_now versions now (leb-true rank_now rank fits.ranks) told ready.pass);
      }
  ready_own (Told.Pinned point length_now stripes) moves fits told =
      record {
        numbers = one_more moves.points;
        reaps = λ h. absurd (let low : rank_now < 3 = fits.ends tt in omega (arith, low, h));
        none_told = λ h. absurd (let low : rank_now < 3 = fits.ends tt in omega (arith, low, h));
        pass = begun_pass (pass_of who after) (told ∙ ready.none_told (fits.begins tt)) moves.own;
      }
  ready_own (Told.Ready base length_now stripes) moves fits told = begins_here moves.points moves.own (leb-true rank_now rank fits.ranks) (fits.begins tt) told
  ready_own (Told.PinnedStripe seen) moves fits told = begins_here moves.points moves.own (leb-true rank_now rank fits.ranks) (fits.begins tt) told
  ready_own (Told.Versions drawn) moves fits told =
      let parts : (nat_eq rank 2 ≡ true) × (nat_le rank_now 1 ≡ true) = and_parts (nat_eq rank 2) (nat_le rank_now 1) fits.ranks in
      draws drawn moves.points moves.own (eqb-true rank 2 parts.0, leb-true rank_now 1 parts.1) told fits.count
  ready_own (Told.Done point) moves fits told =
      let none : rank_now ≡ 0 = eqb-true rank_now 0 fits.ranks in
      record {
        numbers = one_more moves.points;
        reaps = λ h. absurd (omega (arith, none, h));
        none_told = λ h. absurd (omega (arith, none, h));
        pass = closed_after moves.own;
      }
  ready_own (Told.Changed base newer) moves fits told =
      record {
        numbers = same_numbers moves.points;
        reaps = λ h. subst (All (OnlyReaped who number)) (sym moves.points) (fits.changed tt);
        none_told = λ h. told;
        pass = closed_after moves.own;
      }
  ready_own Told.Ended moves fits told = closes moves.points moves.own (leb-true rank_now rank fits.ranks) told
  ready_own (Told.Superseded newer) moves fits told = closes moves.points moves.own (leb-true rank_now rank fits.ranks) told
  ready_own (Told.Reaped point) moves fits told = closes moves.points moves.own (leb-true rank_now rank fits.ranks) told
  ready_own answer moves fits told = quiet moves.points moves.own (leb-true rank_now rank fits.ranks) told

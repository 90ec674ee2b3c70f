-- A call that commits has drawn, and prepared what it drew.
use Rattle.std.proofs.Common.{◌≡◌, ℕ, suc, ◌+◌, ◌/◌, ◌≤◌, All, arith, Bool, true, false, cond, nat_lt, List, [], ◌∷◌, ◌++◌, length, map, filter, zip, refl, sym, ap, subst, ◌∙◌}
use Rattle.std.proofs.lemmas.Bool.{ltb-false}
use Rattle.std.proofs.lemmas.List.{append_assoc, append-nil}
use Rattle.std.proofs.lemmas.List.Elements.{All-nil, All-cons}
use Rattle.std.proofs.lemmas.List.FromFn.{length-range_with_len}
use Rattle.std.specs.List.{range_with_len}
use Rattle.clay_grid.specs.Shape.{Shape, chunk_count, stripe_length}
use Rattle.store_map.specs.declared.placement.Placement.{Placement}
use Rattle.store_core.specs.Told.{Told}
use Rattle.store_core.specs.Placements.{IsRow, skipped_from, skipped_count}
use Rattle.store_core.specs.Note.{Note}
use Rattle.store_core.specs.Act.{Act, DirectoryStep, ServerStep, Outcome}
use Rattle.store_core.specs.Gathering.{Part}
use Rattle.store_core.specs.GatheringParts.{ending, gathering}
use Rattle.store_core.specs.Put.{preparing, preparing_all, drawing, next_put}
use Rattle.store_core.specs.Write.{old_parts, trying}
use Rattle.store_core.specs.Tell.{is_versions}
use Rattle.run_laws.specs.WriteOrders.{prepares_of, prepares}
use Rattle.run_laws.proofs.Falls.{AtCommit, ending_no_commit, committed_no_commit}
use Rattle.run_laws.proofs.Histories.{AreCalm, steps_by, IsPast, Parted, parted}

-- the rows of a commit
placed_in : Act → List (List Placement)
placed_in (Act.AtDirectory (DirectoryStep.Commit placed)) = placed
placed_in _ = []

abbrev commit_of : List (List Placement) → Act
commit_of placed = Act.AtDirectory (DirectoryStep.Commit placed)

at_commit : (act : Act) (placed : List (List Placement)) → act ≡ commit_of placed → AtCommit act
at_commit act placed e = subst AtCommit (sym e) tt

module _ (g : Shape) where
  -- ---- the prepares of one version, and what follows
  record RowFrom (version : ℕ) (next : List Placement → List Told → Act) (act : Act) (f : List Told → Act) (servers : List ℕ) (row : List Placement) (told : List Told) : Type 0 where
    new : List Placement
    rest : List Told
    count : length new ≡ length servers
    few : skipped_count (row ++ new) ≤ g.parity_count
    is : act ≡ next (row ++ new) rest
    steps : steps_by f told ≡ map (λ (both : ℕ × Placement). (Act.AtServer both.0 (ServerStep.Prepare version), Told.Prepared both.1)) (zip servers new) ++ steps_by (next (row ++ new)) rest
    marks : filter is_versions told ≡ filter is_versions rest

  row_from : (stripe version : ℕ) (next : List Placement → List Told → Act) (servers : List ℕ) (row : List Placement) → skipped_count row ≤ g.parity_count → (told : List Told)
      → AtCommit (preparing g stripe version next servers row told)
      → RowFrom version next (preparing g stripe version next servers row told) (preparing g stripe version next servers row) servers row told
  row_from stripe version next [] row few told h =
      record {
        new = [];
        rest = told;
        count = refl;
        few = subst (λ r. skipped_count r ≤ g.parity_count) (sym (append-nil row)) few;
        is = ap (λ r. next r told) (sym (append-nil row));
        steps = ap (λ r. steps_by (next r) told) (sym (append-nil row));
        marks = refl;
      }
  row_from stripe version next (server ∷ servers) row few [] h = absurd h
  row_from stripe version next (server ∷ servers) row few (Told.Prepared last ∷ told) h =
      by (λ fewer k. row_from stripe version next servers (row ++ last ∷ []) fewer told k) (nat_lt g.parity_count (skipped_count now)) refl h
    where
      now : List Placement
      now = row ++ last ∷ []

      outcome : Outcome
      outcome = Outcome.Unavailable stripe (skipped_from 0 now)

      both : Bool → List Told → Act
      both b later = cond b (ending outcome later) (preparing g stripe version next servers now later)

      asked : Act × Told
      asked = (Act.AtServer server (ServerStep.Prepare version), Told.Prepared last)

      by : (skipped_count now ≤ g.parity_count → AtCommit (preparing g stripe version next servers now told)
          → RowFrom version next (preparing g stripe version next servers now told) (preparing g stripe version next servers now) servers now told)
          → (b : Bool) → nat_lt g.parity_count (skipped_count now) ≡ b → AtCommit (both b told)
          → RowFrom version next (both (nat_lt g.parity_count (skipped_count now)) told) (preparing g stripe version next (server ∷ servers) row) (server ∷ servers) row (Told.Prepared last ∷ told)
      by later true e h = absurd (ending_no_commit outcome told h)
      by later false e h =
          let fewer : skipped_count now ≤ g.parity_count = ltb-false g.parity_count (skipped_count now) e in
          let r : RowFrom version next (preparing g stripe version next servers now told) (preparing g stripe version next servers now) servers now told =
          later fewer h in
          let same : now ++ r.new ≡ row ++ last ∷ r.new = append_assoc row (last ∷ []) r.new in
          record {
            new = last ∷ r.new;
            rest = r.rest;
            count = ap suc r.count;
            few = subst (λ l. skipped_count l ≤ g.parity_count) same r.few;
            is = ap (λ b. both b told) e ∙ r.is ∙ ap (λ l. next l r.rest) same;
            steps =
                ap (λ b. asked ∷ steps_by (both b) told) e ∙ ap (λ s. asked ∷ s) r.steps
                ∙ ap (λ l. asked ∷ (map (λ (pair : ℕ × Placement). (Act.AtServer pair.0 (ServerStep.Prepare version), Told.Prepared pair.1)) (zip servers r.new) ++ steps_by (next l) r.rest)) same;
            marks = r.marks;
          }
  row_from stripe version next (server ∷ servers) row few (_ ∷ told) h = absurd (ending_no_commit Outcome.NoMemory told h)

  -- ---- those of all versions, up to the commit
  record PlacedFrom (versions : List ℕ) (done placed : List (List Placement)) (f : List Told → Act) (told : List Told) : Type 0 where
    new : List (List Placement)
    count : length new ≡ length versions
    is : placed ≡ done ++ new
    rows : All (IsRow g) new
    steps : steps_by f told ≡ prepares g versions new
    marks : filter is_versions told ≡ []

  placed_from : (stripe : ℕ) (versions : List ℕ) (done placed : List (List Placement)) (told : List Told) → preparing_all g stripe versions done told ≡ commit_of placed
      → PlacedFrom versions done placed (preparing_all g stripe versions done) told
  unfolding placed_in
  placed_from stripe [] done placed [] e =
      record { new = []; count = refl; is = sym (ap placed_in e) ∙ sym (append-nil done); rows = All-nil (IsRow g); steps = refl; marks = refl }
  placed_from stripe [] done placed (Told.Reaped point ∷ told) e = absurd (subst AtCommit (sym e) tt)
  placed_from stripe [] done placed (_ ∷ told) e = absurd (ending_no_commit Outcome.NoMemory told (subst AtCommit (sym e) tt))
  placed_from stripe (version ∷ versions) done placed told e =
      let n : ℕ = chunk_count g in
      let next : List Placement → List Told → Act = λ row. preparing_all g (stripe + 1) versions (done ++ row ∷ []) in
      let one : RowFrom version next (preparing g stripe version next (range_with_len 0 n) [] told) (preparing g stripe version next (range_with_len 0 n) []) (range_with_len 0 n) [] told =
      row_from stripe version next (range_with_len 0 n) [] (omega arith) told (subst AtCommit (sym e) tt) in
      let r : PlacedFrom versions (done ++ one.new ∷ []) placed (next one.new) one.rest = placed_from (stripe + 1) versions (done ++ one.new ∷ []) placed one.rest (sym one.is ∙ e) in
      record {
        new = one.new ∷ r.new;
        count = ap suc r.count;
        is = r.is ∙ append_assoc done (one.new ∷ []) r.new;
        rows = All-cons (IsRow g) one.new r.new (record { whole = one.count ∙ length-range_with_len 0 n; enough = one.few }) r.rows;
        steps = one.steps ∙ ap (λ s. prepares_of g version one.new ++ s) r.steps;
        marks = one.marks ∙ r.marks;
      }

  -- a draw, and the prepares for what was drawn
  pub record Drawn (next : List Told → Act) (placed : List (List Placement)) (told : List Told) : Type 0 where
    pub front : List (Act × Told)
    pub versions : List ℕ
    pub count : length placed ≡ length versions
    pub rows : All (IsRow g) placed
    pub steps : steps_by next told ≡ front ++ (Act.AtDirectory DirectoryStep.Draw, Told.Versions versions) ∷ prepares g versions placed
    pub marks : filter is_versions told ≡ Told.Versions versions ∷ []

  drawing_drawn : (note : Note) (placed : List (List Placement)) (told : List Told) → drawing g note told ≡ commit_of placed → Drawn (drawing g note) placed told
  drawing_drawn note placed [] e = absurd (subst AtCommit (sym e) tt)
  drawing_drawn note placed (Told.Versions versions ∷ told) e =
      let stripe : ℕ = note.offset / stripe_length g in
      let r : PlacedFrom versions [] placed (preparing_all g stripe versions []) told = placed_from stripe versions [] placed told e in
      record {
        front = [];
        versions = versions;
        count = ap length r.is ∙ r.count;
        rows = subst (All (IsRow g)) (sym r.is) r.rows;
        steps = ap (λ s. (Act.AtDirectory DirectoryStep.Draw, Told.Versions versions) ∷ s) (r.steps ∙ ap (prepares g versions) (sym r.is));
        marks = ap (λ l. Told.Versions versions ∷ l) r.marks;
      }
  drawing_drawn note placed (Told.Reaped point ∷ told) e = absurd (subst AtCommit (sym e) tt)
  drawing_drawn note placed (_ ∷ told) e = absurd (ending_no_commit Outcome.NoMemory told (subst AtCommit (sym e) tt))

  -- after one answer more
  drawn_after : (next : List Told → Act) (answer : Told) (placed : List (List Placement)) (told : List Told) → filter is_versions (answer ∷ told) ≡ filter is_versions told
      → Drawn (λ later. next (answer ∷ later)) placed told → Drawn next placed (answer ∷ told)
  drawn_after next answer placed told same d =
      record {
        front = (next [], answer) ∷ d.front;
        versions = d.versions;
        count = d.count;
        rows = d.rows;
        steps = ap (λ s. (next [], answer) ∷ s) d.steps;
        marks = same ∙ d.marks;
      }

  gathering_drawn : (note : Note) (parts : List Part) (placed : List (List Placement)) (told : List Told) → AreCalm told → gathering g parts (drawing g note) told ≡ commit_of placed
      → Drawn (gathering g parts (drawing g note)) placed told
  gathering_drawn note parts placed told calm e =
      let p : Parted g (drawing g note) parts told = parted g (drawing g note) parts told calm (subst IsPast (sym e) tt) in
      let d : Drawn (drawing g note) placed p.rest = drawing_drawn note placed p.rest (sym p.act ∙ e) in
      record {
        front = p.front ++ d.front;
        versions = d.versions;
        count = d.count;
        rows = d.rows;
        steps =
            p.steps ∙ ap (λ s. p.front ++ s) d.steps
            ∙ sym (append_assoc p.front d.front ((Act.AtDirectory DirectoryStep.Draw, Told.Versions d.versions) ∷ prepares g d.versions placed));
        marks = p.marks ∙ d.marks;
      }

  pub put_drawn : (note : Note) (placed : List (List Placement)) (told : List Told) → next_put g note told ≡ commit_of placed → Drawn (next_put g note) placed told
  put_drawn note placed [] e = absurd (subst AtCommit (sym e) tt)
  put_drawn note placed (Told.Answer point given ∷ told) e = absurd (subst AtCommit (sym e) tt)
  put_drawn note placed (Told.Ready base length_now stripes ∷ told) e =
      drawn_after (next_put g note) (Told.Ready base length_now stripes) placed told refl (drawing_drawn note placed told e)
  put_drawn note placed (Told.Versions versions ∷ told) e = absurd (committed_no_commit g versions told (subst AtCommit (sym e) tt))
  put_drawn note placed (_ ∷ told) e = absurd (subst AtCommit (sym e) tt)

  pub trying_drawn : (tries : ℕ) (note : Note) (pairs : List (ℕ × ℕ)) (placed : List (List Placement)) (told : List Told) → AreCalm told → trying g tries note pairs told ≡ commit_of placed
      → Drawn (trying g tries note pairs) placed told
  trying_drawn tries note pairs placed [] calm e = absurd (by (nat_lt (length pairs) tries) (subst AtCommit (sym e) tt))
    where
      by : (b : Bool) → AtCommit (cond b (Act.AtDirectory (DirectoryStep.Look note)) (Act.Finish (Outcome.Contended pairs))) → ⊥
      by true h = h
      by false h = h
  trying_drawn tries note pairs placed (Told.Changed base newer ∷ told) calm e = absurd calm.0
  trying_drawn tries note pairs placed (Told.Answer point given ∷ told) calm e = absurd (subst AtCommit (sym e) tt)
  trying_drawn tries note pairs placed (Told.Ready base length_now stripes ∷ told) calm e =
      drawn_after (trying g tries note pairs) (Told.Ready base length_now stripes) placed told refl (gathering_drawn note (old_parts g length_now stripes) placed told calm.1 e)
  trying_drawn tries note pairs placed (Told.Versions versions ∷ told) calm e = absurd (committed_no_commit g versions told (subst AtCommit (sym e) tt))
  trying_drawn tries note pairs placed (_ ∷ told) calm e = absurd (subst AtCommit (sym e) tt)

-- What a writing keeps.
use Rattle.std.proofs.Common.{◌≡◌, ℕ, zero, ◌+◌, ◌<◌, ◌≤◌, suc, Bool, true, false, cond, ltb, List, [], ◌∷◌, ◌++◌, length, get_or, drop, Option, None, Some, vec_capacity, refl, ap, subst, sym, ◌∙◌, arith}
use Rattle.std.specs.List.{All}
use Rattle.std.proofs.lemmas.List.{length_push, drop-drop}
use Rattle.std.proofs.lemmas.List.Elements.{All-push}
use Rattle.std.proofs.lemmas.Bool.{ltb-true, ltb-false}
use Rattle.clay_grid.specs.Shape.{Shape, chunk_count}
use Rattle.store_map.specs.declared.placement.Placement.{Placement}
use Rattle.store_core.specs.Placements.{IsRow, skipped_count}
use Rattle.run_laws.specs.State.{State}
use Rattle.version_seal.specs.Entry.{BookOf, StampOf}
use Rattle.write_course.specs.Chunks.{PlacingOf, with_placement, AreChunksFrom}
use Rattle.write_course.specs.States.{Prepared, Settled, prepares_or_commits, settles_or_is_done, state_by, placed_on}
use Rattle.write_course.specs.Writings.{WritingOf, versions_of, is_preparing, is_settling}
use Rattle.write_course.specs.WritingSteps.{IsDoing}
use Rattle.write_course.specs.Inside.{IsAtWork, Keeps, due_by, prepared_in, settled_in, writing_in, IsWriting}
use Rattle.write_course.specs.declared.writing.Writing.TheInside.{Inside}
use Rattle.write_course.specs.Holding.{AreWholeAt, HasWholeRows}
use Rattle.write_course.specs.declared.writing_stage.WritingStage.{WritingStage}
use Rattle.write_course.specs.declared.writing_stage.WritingStage.TheVariants as doing

-- the version that is read
pub version_read : (stamps : List StampOf) (at : ℕ) (stamp : StampOf) → at < length stamps → stamp ≡ get_or stamps at stamp → stamp.version ≡ get_or (versions_of stamps) at 0
version_read [] at stamp h e = absurd (omega arith)
version_read (first ∷ stamps) zero stamp h e = ap (λ (s : StampOf). s.version) e
version_read (first ∷ stamps) (suc at) stamp h e = version_read stamps at stamp (omega arith) e

module _ (g : Shape) (first : ℕ) (versions : List ℕ) (p : Prepared) (s : Settled) where
  -- a state tells what is done
  pub prepares : (d : WritingStage) → is_preparing (state_by d g first versions p s) ≡ true → d ≡ doing.Preparing
  prepares doing.Preparing e = refl
  prepares _ e = absurd (cc)

  pub is_settled : (d : WritingStage) → is_settling (state_by d g first versions p s) ≡ true → d ≡ doing.Settling
  is_settled doing.Settling e = refl
  is_settled _ e = absurd (cc)

  -- the directory's answer is awaited with nothing due
  pub nothing_due : (d : WritingStage) (work : Option PlacingOf) → state_by d g first versions p s ≡ State.Committed versions → due_by d work ≡ false
  nothing_due doing.Preparing work e = absurd (cc)
  nothing_due _ work e = refl

-- what is due is prepared
pub due_prepares : (d : WritingStage) (work : Option PlacingOf) → due_by d work ≡ true → d ≡ doing.Preparing
due_prepares doing.Preparing work e = refl
due_prepares _ work e = absurd (cc)

-- what is done tells the state
pub is_doing : (d : WritingStage) (book : BookOf) (first : ℕ) (stamps : List StampOf) (p : Prepared) (s : Settled) (due : Bool)
    → IsDoing d (record { book = book; first = first; stamps = stamps; state = state_by d book.geometry first (versions_of stamps) p s; due = due })
is_doing doing.Preparing book first stamps p s due = refl
is_doing doing.Committing book first stamps p s due = (p.rows, refl)
is_doing doing.Committed book first stamps p s due = refl
is_doing doing.Settling book first stamps p s due = refl
is_doing doing.Done book first stamps p s due = (s.point, refl)
is_doing doing.TooManyAway book first stamps p s due = (_, _, refl)
is_doing doing.Short book first stamps p s due = refl

-- a settle is never due
pub settles_undue : (at versions : ℕ) (work : Option PlacingOf) → due_by (settles_or_is_done at versions) work ≡ false
settles_undue at versions work = by (ltb at versions)
  where
    by : (b : Bool) → due_by (cond b doing.Settling doing.Done) work ≡ false
    by true = refl
    by false = refl

module _ (g : Shape) (stamps : List StampOf) (room : ℕ) (s : Settled) where
  -- a version that is begun, or the commit after the last one
  pub begins_kept : (rows : List (List Placement)) (prepared versions : ℕ) → prepared ≡ length rows → versions ≡ length stamps → prepared ≤ versions
      → Keeps (prepares_or_commits prepared versions) g stamps room (record { rows = rows; work = None }) s
  begins_kept rows prepared versions p v within = by (ltb prepared versions) refl
    where
      by : (b : Bool) → ltb prepared versions ≡ b → Keeps (cond b doing.Preparing doing.Committing) g stamps room (record { rows = rows; work = None }) s
      by true e = let more : prepared < versions = ltb-true prepared versions e in record { more = omega arith; working = tt }
      by false e = let past : versions ≤ prepared = ltb-false prepared versions e in omega arith

  -- a server more has answered
  pub placed_kept : (rows : List (List Placement)) (stripe : PlacingOf) (next : Placement) (versions : ℕ) → versions ≡ length stamps → length rows < length stamps
      → IsAtWork g stamps rows room stripe
      → Keeps (placed_on g versions rows (with_placement stripe next)).0 g stamps room (placed_on g versions rows (with_placement stripe next)).1 s
  placed_kept rows stripe next versions v more kept = many (ltb g.parity_count (skipped_count (stripe.row ++ next ∷ []))) refl
    where
      now : PlacingOf
      now = with_placement stripe next

      fits : (c : Bool) → ltb (length (stripe.row ++ next ∷ [])) (chunk_count g) ≡ c → skipped_count (stripe.row ++ next ∷ []) ≤ g.parity_count
          → Keeps
          (cond {A = WritingStage × Prepared} c (doing.Preparing, record { rows = rows; work = Some (with_placement stripe next) }) (prepares_or_commits (length rows + 1) versions, record { rows = rows ++ (stripe.row ++ next ∷ []) ∷ []; work = None })).0
          g stamps room
          (cond {A = WritingStage × Prepared} c (doing.Preparing, record { rows = rows; work = Some (with_placement stripe next) }) (prepares_or_commits (length rows + 1) versions, record { rows = rows ++ (stripe.row ++ next ∷ []) ∷ []; work = None })).1 s
      fits true e few =
          record {
            more = more;
            working = record { code = kept.code; own = kept.own; left = ltb-true _ _ e; few = few; room_left = kept.room_left };
          }
      fits false e few = begins_kept (rows ++ (stripe.row ++ next ∷ []) ∷ []) (length rows + 1) versions (sym (length_push rows (stripe.row ++ next ∷ []))) v (omega arith)

      many : (b : Bool) → ltb g.parity_count (skipped_count (stripe.row ++ next ∷ [])) ≡ b
          → Keeps
          (cond {A = WritingStage × Prepared} b (doing.TooManyAway, record { rows = rows; work = Some (with_placement stripe next) }) (cond (ltb (length (stripe.row ++ next ∷ [])) (chunk_count g)) (doing.Preparing, record { rows = rows; work = Some (with_placement stripe next) }) (prepares_or_commits (length rows + 1) versions, record { rows = rows ++ (stripe.row ++ next ∷ []) ∷ []; work = None }))).0
          g stamps room
          (cond {A = WritingStage × Prepared} b (doing.TooManyAway, record { rows = rows; work = Some (with_placement stripe next) }) (cond (ltb (length (stripe.row ++ next ∷ [])) (chunk_count g)) (doing.Preparing, record { rows = rows; work = Some (with_placement stripe next) }) (prepares_or_commits (length rows + 1) versions, record { rows = rows ++ (stripe.row ++ next ∷ []) ∷ []; work = None }))).1 s
      many true e = record { more = more; there = refl }
      many false e = fits (ltb (length (stripe.row ++ next ∷ [])) (chunk_count g)) refl (ltb-false _ _ e)

  -- its row is whole once it goes to the others
  pub placed_whole : (rows : List (List Placement)) (stripe : PlacingOf) (next : Placement) (versions : ℕ) → length stripe.row < chunk_count g → All (IsRow g) rows
      → All (IsRow g) (placed_on g versions rows (with_placement stripe next)).1.rows
  placed_whole rows stripe next versions left all = many (ltb g.parity_count (skipped_count (stripe.row ++ next ∷ []))) refl
    where
      fits : (c : Bool) → ltb (length (stripe.row ++ next ∷ [])) (chunk_count g) ≡ c → skipped_count (stripe.row ++ next ∷ []) ≤ g.parity_count
          → All (IsRow g) (cond {A = WritingStage × Prepared} c (doing.Preparing, record { rows = rows; work = Some (with_placement stripe next) }) (prepares_or_commits (length rows + 1) versions, record { rows = rows ++ (stripe.row ++ next ∷ []) ∷ []; work = None })).1.rows
      fits true e few = all
      fits false e few =
          let one : length (stripe.row ++ next ∷ []) ≡ length stripe.row + 1 = length_push stripe.row next in
          let past : chunk_count g ≤ length (stripe.row ++ next ∷ []) = ltb-false _ _ e in
          All-push (IsRow g) rows (stripe.row ++ next ∷ []) all (record { whole = omega arith; enough = few })

      many : (b : Bool) → ltb g.parity_count (skipped_count (stripe.row ++ next ∷ [])) ≡ b
          → All (IsRow g) (cond {A = WritingStage × Prepared} b (doing.TooManyAway, record { rows = rows; work = Some (with_placement stripe next) }) (cond (ltb (length (stripe.row ++ next ∷ [])) (chunk_count g)) (doing.Preparing, record { rows = rows; work = Some (with_placement stripe next) }) (prepares_or_commits (length rows + 1) versions, record { rows = rows ++ (stripe.row ++ next ∷ []) ∷ []; work = None }))).1.rows
      many true e = all
      many false e = fits (ltb (length (stripe.row ++ next ∷ [])) (chunk_count g)) refl (ltb-false _ _ e)

module _ (g : Shape) (stamps : List StampOf) (room : ℕ) (p : Prepared) where
  -- a version whose chunks are settled next, or the end after the last one
  pub settles_kept : (point at versions : ℕ) → versions ≡ length stamps → 0 < chunk_count g
      → Keeps (settles_or_is_done at versions) g stamps room p (record { point = point; at = at; server = 0 })
  settles_kept point at versions v some = by (ltb at versions) refl
    where
      by : (b : Bool) → ltb at versions ≡ b → Keeps (cond b doing.Settling doing.Done) g stamps room p (record { point = point; at = at; server = 0 })
      by true e = let more : at < versions = ltb-true at versions e in record { more = omega arith; there = some }
      by false e = tt

-- the chunks after one that goes to its server
pub chunks_next : (g : Shape) (content : List ℕ) (server next : ℕ) (chunks rest : List (List ℕ)) (bytes : List ℕ)
    → AreChunksFrom g content server chunks → chunks ≡ bytes ∷ rest → next ≡ server + 1 → AreChunksFrom g content next rest
chunks_next g content server next chunks rest bytes from is more =
    record {
      word = from.word;
      codes = from.codes;
      here = ap (drop 1) (sym is ∙ from.here) ∙ drop-drop 1 server from.word ∙ ap (λ n. drop n from.word) (sym more);
    }

-- at the commit the rows are whole, one for each version
whole_by : (a : Inside) → IsWriting a → (d : WritingStage) → a.doing ≡ d
    → AreWholeAt a.opening.geometry (length a.stamps.items) (state_by d a.opening.geometry a.first (versions_of a.stamps.items) (prepared_in a) (settled_in a))
whole_by a kept doing.Preparing is = tt
whole_by a kept doing.Committing is = (subst (λ d. Keeps d a.opening.geometry a.stamps.items (vec_capacity a.rows) (prepared_in a) (settled_in a)) is kept.kept, kept.whole)
whole_by a kept doing.Committed is = tt
whole_by a kept doing.Settling is = tt
whole_by a kept doing.Done is = tt
whole_by a kept doing.TooManyAway is = tt
whole_by a kept doing.Short is = tt

pub whole_rows : (a : Inside) (w : WritingOf) → IsWriting a → writing_in a ≡ w → HasWholeRows w
whole_rows a w kept view = subst HasWholeRows view (whole_by a kept a.doing refl)

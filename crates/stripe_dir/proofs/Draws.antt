-- What a draw leaves.
use Rattle.std.proofs.Common.{◌≡◌, ℕ, ◌+◌, ◌-◌, ◌/◌, Bool, true, false, cond, ◌&&◌, List, [], ◌++◌, length, get_or, map, replicate, find, sum_by, if◌then◌else◌, Option, None, Some, All, Contains, refl, sym, ap, subst, ◌∙◌, arith, length-append, is_some}
use Rattle.std.proofs.lemmas.List.{length-map, length-replicate}
use Rattle.std.proofs.lemmas.List.FromFn.{length-range_with_len}
use Rattle.std.specs.List.{range_with_len}
use Rattle.clay_grid.specs.Shape.{stripe_length}
use Rattle.store_map.specs.Limits.{stripes_met}
use Rattle.store_map.specs.declared.actor.Actor.{Actor}
use Rattle.store_core.specs.Told.{Told}
use Rattle.store_core.specs.Act.{DirectoryStep}
use Rattle.store_core.specs.Directory.{Version, Pass}
use Rattle.store_core.specs.Lookups.{same_actor, is_live}
use Rattle.store_core.specs.PassSteps.{touched, draw, new_version}
use Rattle.store_core.specs.Conditions.{IsWriting}
use Rattle.stripe_stamps.specs.ItsStripes.{IsWhole}
use Rattle.store_core.specs.AtDirectory.{unless_reaped, on_pass, at_directory}
use Rattle.version_table.specs.Counts.{one_if, pins_of, may_append}
use Rattle.dir_parts.specs.OpenPass.{Desk}
use Rattle.version_table.specs.Table.{Table}
use Rattle.version_table.specs.TableSteps.{drawn_version}
use Rattle.dir_parts.proofs.Actors.{same_is, find_passes}
use Rattle.dir_parts.proofs.Growing.{get_or-zeros, sum_by-changed, all_changed}
use Rattle.version_seal.specs.Entry.{BookOf, RequestOf}
use Rattle.stripe_stamps.specs.Sealed.{stamps_touched}
use Rattle.stripe_stamps.specs.Stamped.{AreBases, HasStamps}
use Rattle.stripe_stamps.specs.StampList.{StampList}
use Rattle.stripe_dir.specs.Kept.{directory_in, sealed_in, IsKept}
use Rattle.stripe_stamps.proofs.StampLists.{bases_in, stamps_drawn}
use Rattle.stripe_dir.specs.declared.directory.Directory.TheInside.{Inside}
use Rattle.stripe_dir.proofs.Sound.{keeps_whole}
use Rattle.stripe_dir.proofs.Garbage.{kept_versions}
use Rattle.run_laws.proofs.ContentGrows.{origins}

-- what a pass keeps that may get what was drawn
still : {X : Type 0} (f : Pass → X) (dr : List ℕ) → ((q : Pass) → f (record q { drawn = dr }) ≡ f q) → (b : Bool) (q : Pass) → f (cond {A = Pass} b (record q { drawn = dr }) q) ≡ f q
still f dr same true q = same q
still f dr same false q = refl

stays : (P : Pass → Type 0) (dr : List ℕ) → ((q : Pass) → P q → P (record q { drawn = dr })) → (b : Bool) (q : Pass) → P q → P (cond {A = Pass} b (record q { drawn = dr }) q)
stays P dr keeps true q h = keeps q h
stays P dr keeps false q h = h

-- what a pass pins are versions of its pins' stripes, by the stamps
pub bases_of : (a : Inside) → IsKept a → (who : Actor) (p : Pass) → find (λ pass. same_actor who pass.actor) a.passes.listed ≡ Some p → AreBases a.stamps.listed p.pinned
bases_of a kept who p found = bases_in (sealed_in a) kept.whole kept.stamps who p found

-- the stamps with those that a pass draws
abbrev pub with_drawn : StampList → BookOf → ℕ → Pass → Option RequestOf → StampList
with_drawn stamps book stripe p request = record { book = stamps.book; listed = stamps.listed ++ stamps_touched book stamps.listed stripe p request }

-- where nothing is drawn, only room may have changed
pub kept_undrawn : (a : Inside) → IsKept a → (table : Table) (stamps : StampList) → table.listed ≡ a.versions.listed → table.pins ≡ a.versions.pins → stamps ≡ a.stamps → IsKept (record a { versions = table; stamps = stamps })
kept_undrawn a kept table stamps listed pins same =
    let rest : IsKept (record a { versions = table }) =
    kept_versions a kept table (subst (λ (vs : List Version). IsWhole (record (directory_in a) { versions = vs })) (sym listed) kept.whole) pins (ap origins listed)
    in
    record {
      stripes = rest.stripes;
      desk = rest.desk;
      whole = rest.whole;
      stamps = subst (λ (l : StampList). HasStamps (record { core = directory_in (record a { versions = table }); book = l.book; stamps = l.listed })) (sym same) rest.stamps;
      counted = rest.counted;
      pins = rest.pins;
      named = rest.named;
      points_room = rest.points_room;
      objects_room = rest.objects_room;
      keeps = kept.keeps ∙ sym (ap (λ (l : StampList). is_some l.book.script) same);
    }

module _ (a : Inside) (kept : IsKept a) (who : Actor) (p : Pass) (found : find (λ pass. same_actor who pass.actor) a.passes.listed ≡ Some p) (live : p.reaped ≡ None) (stripe : ℕ) (stripe_is : stripe ≡ stripe_length a.geometry) where
  -- the stripes that the call touches, and how many
  abbrev pub stripes : List ℕ
  stripes = range_with_len (p.note.offset / stripe) (stripes_met stripe p.note.offset p.note.length)

  abbrev pub count : ℕ
  count = stripes_met stripe p.note.offset p.note.length

  own : who ≡ p.actor
  own = same_is who p.actor (find_passes (λ (q : Pass). same_actor who q.actor) a.passes.listed p found)

  touched_are : touched (directory_in a) p.note ≡ range_with_len (p.note.offset / stripe) (stripes_met stripe p.note.offset p.note.length)
  touched_are = (λ i. range_with_len (p.note.offset / sym stripe_is i) (stripes_met (sym stripe_is i) p.note.offset (rest i)))
    where
      rest : p.note.offset + p.note.length - p.note.offset ≡ p.note.length
      rest = omega arith

  size : length (touched (directory_in a) p.note) ≡ stripes_met stripe p.note.offset p.note.length
  size = ap length touched_are ∙ length-range_with_len (p.note.offset / stripe) (stripes_met stripe p.note.offset p.note.length)

  module _ (desk : Desk) (table : Table) (dr : List ℕ) (listed : table.listed ≡ a.versions.listed ++ map (drawn_version p.actor p.number p.pinned) (range_with_len (p.note.offset / stripe) (stripes_met stripe p.note.offset p.note.length)))
      (drawn : dr ≡ range_with_len (length a.versions.listed) (stripes_met stripe p.note.offset p.note.length))
      (passes : desk.listed ≡ map (λ (other : Pass). if same_actor who other.actor then record other { drawn = dr } else other) a.passes.listed) where
    pub draw_step : (number : ℕ) → (directory_in (record a { versions = table; passes = desk }), Told.Versions dr) ≡ at_directory false who number DirectoryStep.Draw (directory_in a)
    draw_step number =
        sym (
        ap (λ (o : Option Pass). on_pass draw o (directory_in a)) found ∙ ap (λ (r : Option ℕ). unless_reaped draw p r (directory_in a)) live
        ∙ (λ i. (
          record (directory_in a) {
            versions = (ap (λ (ss : List ℕ). a.versions.listed ++ map (new_version p) ss) touched_are ∙ sym listed) i;
            passes = (
                (λ j. map (λ (other : Pass). if same_actor (sym own j) other.actor then record other { drawn = (ap (range_with_len (length a.versions.listed)) size ∙ sym drawn) j } else other) a.passes.listed) ∙ sym passes
                ) i;
          },
          Told.Versions ((ap (range_with_len (length a.versions.listed)) size ∙ sym drawn) i),
        ))
        )

    counted_by : (f : Pass → ℕ) → ((q : Pass) → f (record q { drawn = dr }) ≡ f q) → sum_by f desk.listed ≡ sum_by f a.passes.listed
    counted_by f same = ap (sum_by f) passes ∙ sum_by-changed f (λ (other : Pass). if same_actor who other.actor then record other { drawn = dr } else other) (λ q. still f dr same (same_actor who q.actor) q) a.passes.listed

    pub kept_drawn : (stamps : StampList) (request : Option RequestOf) → stamps ≡ with_drawn a.stamps a.stamps.book stripe p request → desk.stripe_len ≡ a.passes.stripe_len → table.pins ≡ a.versions.pins ++ replicate (stripes_met stripe p.note.offset p.note.length) 0 → ((pass : Pass) × IsWriting (directory_in a) who pass × (pass.drawn ≡ []))
        → IsKept (record a { versions = table; passes = desk; stamps = stamps })
    kept_drawn stamps request added same_stripe pins may =
        record {
          stripes = kept.stripes;
          keeps = kept.keeps ∙ sym (ap (λ (l : StampList). is_some l.book.script) added);
          desk = same_stripe ∙ kept.desk;
          whole = subst IsWhole (sym (ap (λ r. r.0) (draw_step 0))) (keeps_whole who 0 DirectoryStep.Draw (directory_in a) kept.stripes kept.whole may);
          counted = omega (
            arith,
            ap length pins,
            ap length listed,
            kept.counted,
            length-append a.versions.pins (replicate (stripes_met stripe p.note.offset p.note.length) 0),
            length-replicate {A = ℕ} (stripes_met stripe p.note.offset p.note.length) 0,
            length-append a.versions.listed (map (drawn_version p.actor p.number p.pinned) (range_with_len (p.note.offset / stripe) (stripes_met stripe p.note.offset p.note.length))),
            length-map (range_with_len (p.note.offset / stripe) (stripes_met stripe p.note.offset p.note.length)) (drawn_version p.actor p.number p.pinned),
            length-range_with_len (p.note.offset / stripe) (stripes_met stripe p.note.offset p.note.length),
          );
          pins = λ v. ap (λ cs. get_or cs v 0) pins ∙ get_or-zeros a.versions.pins (stripes_met stripe p.note.offset p.note.length) v ∙ kept.pins v ∙ sym (counted_by (pins_of v) (λ q. refl));
          named =
              subst (λ (ps : List Pass). All (λ pass. Contains a.history.names pass.note.name) ps) (sym passes)
              (all_changed (λ (q : Pass). Contains a.history.names q.note.name) (λ (other : Pass). if same_actor who other.actor then record other { drawn = dr } else other)
              (λ q h. stays (λ (q : Pass). Contains a.history.names q.note.name) dr (λ q h. h) (same_actor who q.actor) q h) a.passes.listed kept.named);
          stamps =
              subst (λ (l : StampList). HasStamps (record { core = directory_in (record a { versions = table; passes = desk }); book = l.book; stamps = l.listed })) (sym added)
              (stamps_drawn (sealed_in a) kept.stamps p (bases_of a kept who p found) (p.note.offset / stripe) (stripes_met stripe p.note.offset p.note.length) request
              (directory_in (record a { versions = table; passes = desk })) refl listed);
          points_room = omega (arith, counted_by (λ (q : Pass). one_if (is_live q.reaped)) (λ q. refl), kept.points_room);
          objects_room = omega (arith, counted_by (λ (q : Pass). one_if (may_append q.note.kind && is_live q.reaped)) (λ q. refl), kept.objects_room);
        }

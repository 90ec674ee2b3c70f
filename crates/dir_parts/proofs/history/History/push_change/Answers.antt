use Rattle.std.proofs.Common.{◌≡◌, ℕ, ◌<◌, ◌∷◌, [], ◌++◌, List, length, map, Some, All, Option, refl, sym, ap, subst, ◌∙◌, ◌+◌, ◌-◌, ◌^◌, min, is_some, length-append, arith}
use Rattle.std.proofs.lemmas.List.{map-append, length-map}
use Rattle.std.proofs.lemmas.List.Elements.{All-push}
use Rattle.std.specs.Map.{keys_of}
use Rattle.indexmap.specs.IndexMap.{keys, set_value_at}
use Rattle.indexmap.proofs.CallerLemmas.{keys-with_value_at}
use Rattle.store_core.specs.Directory.{Point}
use Rattle.store_core.specs.Lookups.{last_change}
use Rattle.dir_parts.specs.PointLog.{point_in, spare_in}
use Rattle.dir_parts.specs.Parts.{PointLog}
use Rattle.dir_parts.specs.declared.history.PointRow.{PointRow}
use Rattle.dir_parts.proofs.Keeping.{there_still, kept_more, room_less}
use Rattle.dir_parts.proofs.LogSteps.{last_kept}
use Rattle.dir_parts.proofs.history.History.push_change.Goals as goal

pub returns-clause-names : goal.returns-clause-names
returns-clause-names c =
    ap keys_of c.set_last.ensures.entries ∙ keys-with_value_at c.self.inside.names c.args.entry.name (Some c.self.inside.count)
    ∙ ap (λ b. b.names) c.self.view_is

pub returns-clause-points : goal.returns-clause-points
returns-clause-points c =
    let names : List (List ℕ) = keys c.self.inside.names in
    let same : keys c.set_last.new.names ≡ names = ap keys_of c.set_last.ensures.entries ∙ keys-with_value_at c.self.inside.names c.args.entry.name (Some c.self.inside.count) in
    let entry : PointRow = c.args.entry in
    (λ i. map (point_in (same i)) (c.push.ensures i)) ∙ map-append (point_in names) c.self.inside.told (entry ∷ [])
    ∙ ap (λ b. b.points ++ point_in b.names c.args.entry ∷ []) c.self.view_is

pub push_kept-requires : goal.push_kept-requires
push_kept-requires c =
    let some : 0 < min (2 ^ 64 - 1 - c.self.inside.count) (spare_in c.self.inside.kept) = subst (λ (b : PointLog). 0 < b.room) (sym c.self.view_is) c.requires.room in
    omega (arith, some)

pub returns-clause-keeps : goal.returns-clause-keeps
returns-clause-keeps c = sym (there_still (λ rows. rows.items) c.push_kept.new.kept) ∙ ap is_some c.push_kept.ensures.rows ∙ there_still (λ rows. rows.items ++ c.args.entry ∷ []) c.self.inside.kept ∙ ap (λ (b : PointLog). b.keeps) c.self.view_is

pub returns-clause-room : goal.returns-clause-room
returns-clause-room c =
    room_less c.self.inside.count c.self.inside.kept c.push_kept.new.kept c.push_kept.ensures.room (subst (λ (b : PointLog). 0 < b.room) (sym c.self.view_is) c.requires.room)
    ∙ ap (λ (b : PointLog). b.room) c.self.view_is

pub invariant_of-self : goal.invariant_of-self
invariant_of-self c =
    let names : List (List ℕ) = keys c.self.inside.names in
    let within : c.args.entry.name < length names = subst (λ b. c.args.entry.name < length b.names) (sym c.self.view_is) c.requires.named in
    let same : keys c.set_last.new.names ≡ names = ap keys_of c.set_last.ensures.entries ∙ keys-with_value_at c.self.inside.names c.args.entry.name (Some c.self.inside.count) in
    let old : List Point = map (point_in names) c.self.inside.told in
    let entry : PointRow = c.args.entry in
    let points : map (point_in (keys c.set_last.new.names)) c.push.new.self ≡ old ++ point_in names entry ∷ [] =
    (λ i. map (point_in (same i)) (c.push.ensures i)) ∙ map-append (point_in names) c.self.inside.told (entry ∷ [])
    in
    let count : c.self.inside.count ≡ length old = c.self.invariant.count ∙ sym (length-map c.self.inside.told (point_in names)) in
    let kept : All (λ known. known.1 ≡ last_change known.0 (old ++ point_in names entry ∷ [])) (set_value_at c.self.inside.names.entries c.args.entry.name (Some (length old))) =
    last_kept old (point_in names entry) c.requires.changes c.self.inside.names.entries c.args.entry.name within refl c.self.invariant.unique c.self.invariant.last
    in
    let named : All (λ (e : PointRow). e.name < length names) (c.self.inside.told ++ entry ∷ []) =
    All-push (λ (e : PointRow). e.name < length names) c.self.inside.told entry c.self.invariant.named within
    in
    record {
      count = (let more : length c.push.new.self ≡ length c.self.inside.told + 1 = ap length c.push.ensures ∙ length-append c.self.inside.told (entry ∷ []) in omega (arith, more, c.self.invariant.count));
      kept = kept_more c.self.inside.kept c.push_kept.new.kept entry c.self.inside.told c.push.new.self c.push_kept.ensures.rows c.self.invariant.kept c.push.ensures;
      unique = c.set_last.ensures.unique c.self.invariant.unique;
      named = subst (λ (l : List (List ℕ) × List PointRow). All (λ (e : PointRow). e.name < length l.0) l.1) (λ i. (sym same i, sym c.push.ensures i)) named;
      last =
          subst (λ (l : List Point × List (List ℕ × Option ℕ)). All (λ known. known.1 ≡ last_change known.0 l.0) l.1)
          (λ i. (sym points i, (ap (λ n. set_value_at c.self.inside.names.entries c.args.entry.name (Some n)) (sym count) ∙ sym c.set_last.ensures.entries) i)) kept;
    }

use Rattle.std.proofs.Common.{◌≡◌, ℕ, ◌+◌, ◌∷◌, [], ◌++◌, List, length, map, bytes_eq, Option, None, All, Contains, sym, ap, subst, ◌∙◌, arith, length-append}
use Rattle.std.proofs.lemmas.List.Elements.{All-push}
use Rattle.std.specs.Map.{lookup, keys_of}
use Rattle.store_core.specs.Directory.{Point}
use Rattle.store_core.specs.Lookups.{last_change}
use Rattle.dir_parts.specs.PointLog.{point_in}
use Rattle.dir_parts.proofs.Naming.{keys-push, points-named, none_changed, contains-push, contains-last, there_in, none_is}
use Rattle.dir_parts.proofs.history.History.keep_name.Goals as goal

pub returns-then-contains_key-clause-named : goal.returns-then-contains_key-clause-named
returns-then-contains_key-clause-named c =
    subst (λ b. Contains b.names c.args.name.now) c.self.view_is (there_in c.args.name.now c.self.inside.names.entries (sym c.contains_key.ensures ∙ c.if-contains_key.true))

pub returns-clause-named : goal.returns-clause-named
returns-clause-named c =
    let known : List (List ℕ × Option ℕ) = c.self.inside.names.entries in
    let name : List ℕ = c.args.name.now in
    let entries : c.insert_name.new.names.entries ≡ known ++ (name, None) ∷ [] = c.in_ok-insert_name.ensures.entries ∙ ap (λ n. known ++ (n, None) ∷ []) c.in_ok-copy.ensures in
    let keys_are : keys_of c.insert_name.new.names.entries ≡ keys_of known ++ name ∷ [] = ap keys_of entries ∙ keys-push known name None in
    subst (λ ks. Contains ks name) (sym keys_are) (contains-last (keys_of known) name)

pub returns-clause-others : goal.returns-clause-others
returns-clause-others c =
    let known : List (List ℕ × Option ℕ) = c.self.inside.names.entries in
    let name : List ℕ = c.args.name.now in
    let entries : c.insert_name.new.names.entries ≡ known ++ (name, None) ∷ [] = c.in_ok-insert_name.ensures.entries ∙ ap (λ n. known ++ (n, None) ∷ []) c.in_ok-copy.ensures in
    let keys_are : keys_of c.insert_name.new.names.entries ≡ keys_of known ++ name ∷ [] = ap keys_of entries ∙ keys-push known name None in
    λ other there. subst (λ ks. Contains ks other) (sym keys_are) (contains-push (keys_of known) name other (subst (λ b. Contains b.names other) (sym c.self.view_is) there))

pub returns-clause-points : goal.returns-clause-points
returns-clause-points c =
    let known : List (List ℕ × Option ℕ) = c.self.inside.names.entries in
    let name : List ℕ = c.args.name.now in
    let entries : c.insert_name.new.names.entries ≡ known ++ (name, None) ∷ [] = c.in_ok-insert_name.ensures.entries ∙ ap (λ n. known ++ (n, None) ∷ []) c.in_ok-copy.ensures in
    let keys_are : keys_of c.insert_name.new.names.entries ≡ keys_of known ++ name ∷ [] = ap keys_of entries ∙ keys-push known name None in
    ap (λ ks. map (point_in ks) c.self.inside.told) keys_are ∙ points-named (keys_of known) name c.self.inside.told c.self.invariant.named
    ∙ ap (λ b. b.points) c.self.view_is

pub invariant_of-self-2 : goal.invariant_of-self-2
invariant_of-self-2 c =
    let known : List (List ℕ × Option ℕ) = c.self.inside.names.entries in
    let name : List ℕ = c.args.name.now in
    let entries : c.insert_name.new.names.entries ≡ known ++ (name, None) ∷ [] = c.in_ok-insert_name.ensures.entries ∙ ap (λ n. known ++ (n, None) ∷ []) c.in_ok-copy.ensures in
    let keys_are : keys_of c.insert_name.new.names.entries ≡ keys_of known ++ name ∷ [] = ap keys_of entries ∙ keys-push known name None in
    let none : lookup (bytes_eq name) known ≡ None = none_is (lookup (bytes_eq name) known) (sym c.contains_key.ensures ∙ c.if-contains_key.false) in
    let points : map (point_in (keys_of c.insert_name.new.names.entries)) c.self.inside.told ≡ map (point_in (keys_of known)) c.self.inside.told =
    ap (λ ks. map (point_in ks) c.self.inside.told) keys_are ∙ points-named (keys_of known) name c.self.inside.told c.self.invariant.named
    in
    let old : List Point = map (point_in (keys_of known)) c.self.inside.told in
    let more : length (keys_of c.insert_name.new.names.entries) ≡ length (keys_of known) + 1 = ap length keys_are ∙ length-append (keys_of known) (name ∷ []) in
    let last : All (λ (e : List ℕ × Option ℕ). e.1 ≡ last_change e.0 old) (known ++ (name, None) ∷ []) =
    All-push (λ (e : List ℕ × Option ℕ). e.1 ≡ last_change e.0 old) known (name, None) c.self.invariant.last (sym (none_changed name known none 0 c.self.inside.told c.self.invariant.named))
    in
    record {
      count = c.self.invariant.count;
      kept = c.self.invariant.kept;
      unique = c.insert_name.ensures.unique;
      named = λ k d less. omega (arith, more, c.self.invariant.named k d less);
      last = subst (λ (l : List Point × List (List ℕ × Option ℕ)). All (λ e. e.1 ≡ last_change e.0 l.0) l.1) (λ i. (sym points i, sym entries i)) last;
    }

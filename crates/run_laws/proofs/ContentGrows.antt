-- Contents stay where versions keep what they are laid over, and grow where versions are drawn.
use Rattle.std.proofs.Common.{◌≡◌, ℕ, zero, suc, ◌+◌, ◌<◌, List, [], ◌∷◌, ◌++◌, length, get_or, map, fold, Option, None, Some, IfSome, All, refl, sym, ap, subst, ◌∙◌, arith, append_assoc}
use Rattle.std.proofs.lemmas.List.{append-nil, length-map, length_push, get_or_append_left, get_or-append_right, ext_get_or}
use Rattle.std.proofs.lemmas.List.Sums.{fold-append}
use Rattle.std.proofs.lemmas.List.FromFn.{length-map-range_with_len, get_or-map-range_with_len}
use Rattle.std.specs.List.{range_with_len}
use Rattle.clay_grid.specs.Shape.{Shape}
use Rattle.store_map.specs.declared.placement.Placement.{Placement}
use Rattle.store_core.specs.Lists.{change_at}
use Rattle.store_core.specs.Directory.{Standing, Version, Pin}
use Rattle.store_core.specs.Look.{set_standing}
use Rattle.store_core.specs.Commit.{place_all}
use Rattle.store_core.specs.AtDirectory.{swept_standing}
use Rattle.store_core.specs.Content.{old_content, content_after, contents_by}
use Rattle.run_laws.proofs.SoundVersions.{raise}
use Rattle.store_core.specs.Calls.{Calls}

-- ---- what a version's content depends on
-- a version without what changes
abbrev pub origin_of : Version → Version
origin_of version = record version { placed = []; standing = Standing.Drawn }

-- all versions so
abbrev pub origins : List Version → List Version
origins versions = map origin_of versions

-- a change of versions that leaves that
abbrev pub KeepsOrigins : (List Version → List Version) → Type 0
KeepsOrigins change = (versions : List Version) → origins (change versions) ≡ origins versions

-- of one version
change_keeps : (i : ℕ) (f : Version → Version) → ((v : Version) → origin_of (f v) ≡ origin_of v) → KeepsOrigins (change_at i f)
change_keeps i f keeps [] = refl
change_keeps zero f keeps (v ∷ vs) = ap (λ w. w ∷ origins vs) (keeps v)
change_keeps (suc i) f keeps (v ∷ vs) = ap (λ l. origin_of v ∷ l) (change_keeps i f keeps vs)

-- of one after another
all_keep : {X : Type 0} (change : X → List Version → List Version) → ((x : X) → KeepsOrigins (change x)) → (xs : List X) → KeepsOrigins (λ versions. fold (λ vs x. change x vs) versions xs)
all_keep change keeps [] versions = refl
all_keep change keeps (x ∷ xs) versions = all_keep change keeps xs (change x versions) ∙ keeps x versions

-- of standings
pub set_keeps : (standing : Standing) (numbers : List ℕ) → KeepsOrigins (set_standing standing numbers)
set_keeps standing numbers = all_keep (λ number. change_at number (λ version. record version { standing = standing })) (λ number. change_keeps number (λ version. record version { standing = standing }) (λ v. refl)) numbers

-- of those that are placed
pub place_keeps : (drawn : List (ℕ × List Placement)) → KeepsOrigins (place_all drawn)
place_keeps drawn =
    all_keep (λ (entry : ℕ × List Placement). change_at entry.0 (λ version. record version { placed = entry.1; standing = Standing.Current }))
    (λ entry. change_keeps entry.0 (λ version. record version { placed = entry.1; standing = Standing.Current }) (λ v. refl)) drawn

-- of those that are placed anew
pub raise_keeps : (server epoch : ℕ) (pins : List Pin) → KeepsOrigins (λ versions. fold (λ vs pin. change_at pin.version (raise server epoch) vs) versions pins)
raise_keeps server epoch pins = all_keep (λ (pin : Pin). change_at pin.version (raise server epoch)) (λ pin. change_keeps pin.version (raise server epoch) (λ v. refl)) pins

-- of one that is swept
pub swept_keeps : (number : ℕ) → KeepsOrigins (change_at number (λ entry. record entry { standing = swept_standing entry.standing }))
swept_keeps number = change_keeps number (λ entry. record entry { standing = swept_standing entry.standing }) (λ v. refl)

module _ (calls : Calls) (g : Shape) where
  -- one version more
  abbrev more_by : List (List ℕ) → Version → List (List ℕ)
  more_by contents version = contents ++ content_after g calls contents version ∷ []

  -- contents depend on that alone
  by_origins : (versions : List Version) (before : List (List ℕ)) → fold more_by before versions ≡ fold more_by before (origins versions)
  by_origins [] before = refl
  by_origins (v ∷ vs) before = by_origins vs (more_by before v)

  -- so they stay
  pub same_contents : (before after : List Version) → origins after ≡ origins before → contents_by g calls after ≡ contents_by g calls before
  same_contents before after same = by_origins after [] ∙ ap (fold more_by []) same ∙ sym (by_origins before [])

  -- ---- more versions
  -- earlier contents stay
  grows_from : (versions : List Version) (before : List (List ℕ)) → (more : List (List ℕ)) × (fold more_by before versions ≡ before ++ more)
  grows_from [] before = ([], sym (append-nil before))
  grows_from (v ∷ vs) before =
      let rest : (more : List (List ℕ)) × (fold more_by (more_by before v) vs ≡ more_by before v ++ more) = grows_from vs (more_by before v) in
      (content_after g calls before v ∷ rest.0, rest.1 ∙ append_assoc before (content_after g calls before v ∷ []) rest.0)

  -- whatever is drawn
  pub contents_grow : (versions news : List Version) → (more : List (List ℕ)) × (contents_by g calls (versions ++ news) ≡ contents_by g calls versions ++ more)
  contents_grow versions news =
      let rest : (more : List (List ℕ)) × (fold more_by (contents_by g calls versions) news ≡ contents_by g calls versions ++ more) = grows_from news (contents_by g calls versions) in
      (rest.0, fold-append more_by [] versions news ∙ rest.1)

  -- as many contents as versions
  count_from : (versions : List Version) (before : List (List ℕ)) → length (fold more_by before versions) ≡ length before + length versions
  count_from [] before = omega arith
  count_from (v ∷ vs) before =
      let rest : length (fold more_by (more_by before v) vs) ≡ length (more_by before v) + length vs = count_from vs (more_by before v) in
      let one : length (more_by before v) ≡ length before + 1 = length_push before (content_after g calls before v) in
      rest ∙ counts (length (more_by before v)) (length before) (length vs) one
    where
      counts : (a b c : ℕ) → a ≡ b + 1 → a + c ≡ b + suc c
      counts a b c e = omega (arith, e)

  pub count_contents : (versions : List Version) → length (contents_by g calls versions) ≡ length versions
  count_contents versions = count_from versions [] ∙ (let e : 0 + length versions ≡ length versions = omega arith in e)

  -- the base is one of the earlier versions
  abbrev pub IsBased : List (List ℕ) → Version → Type 0
  IsBased contents version = IfSome version.base (λ base. base < length contents)

  -- then its content is the same whatever comes after those
  pub based_content : (contents more : List (List ℕ)) (version : Version) → IsBased contents version → content_after g calls (contents ++ more) version ≡ content_after g calls contents version
  based_content contents more version based =
      ap (λ old. content_by_old old) (by version.base based)
    where
      content_by_old : List ℕ → List ℕ
      content_by_old old = content_after g calls (old ∷ []) (record version { base = Some 0 })

      by : (base : Option ℕ) → IfSome base (λ b. b < length contents) → old_content g (contents ++ more) base ≡ old_content g contents base
      by None h = refl
      by (Some b) h = get_or_append_left contents more [] b h

  -- versions that are laid over earlier ones
  drawn_from : (contents more : List (List ℕ)) (news : List Version) → All (IsBased contents) news → fold more_by (contents ++ more) news ≡ (contents ++ more) ++ map (content_after g calls contents) news
  drawn_from contents more [] based = sym (append-nil (contents ++ more))
  drawn_from contents more (v ∷ vs) based =
      let same : content_after g calls (contents ++ more) v ≡ content_after g calls contents v = based_content contents more v (based 0 v (omega arith)) in
      ap (λ x. fold more_by ((contents ++ more) ++ x ∷ []) vs) same
      ∙ ap (λ l. fold more_by l vs) (append_assoc contents more (content_after g calls contents v ∷ []))
      ∙ drawn_from contents (more ++ content_after g calls contents v ∷ []) vs (λ k d less. based (suc k) d (omega (arith, less)))
      ∙ ap (λ l. l ++ map (content_after g calls contents) vs) (sym (append_assoc contents more (content_after g calls contents v ∷ [])))
      ∙ append_assoc (contents ++ more) (content_after g calls contents v ∷ []) (map (content_after g calls contents) vs)

  pub contents_drawn : (versions news : List Version) → All (IsBased (contents_by g calls versions)) news
      → contents_by g calls (versions ++ news) ≡ contents_by g calls versions ++ map (content_after g calls (contents_by g calls versions)) news
  contents_drawn versions news based =
      fold-append more_by [] versions news
      ∙ ap (λ l. fold more_by l news) (sym (append-nil (contents_by g calls versions)))
      ∙ drawn_from (contents_by g calls versions) [] news based
      ∙ ap (λ l. l ++ map (content_after g calls (contents_by g calls versions)) news) (append-nil (contents_by g calls versions))

  -- the numbers that are drawn stand for them
  pub drawn_contents : (versions news : List Version) → All (IsBased (contents_by g calls versions)) news
      → map (λ version. get_or (contents_by g calls (versions ++ news)) version []) (range_with_len (length versions) (length news))
      ≡ map (content_after g calls (contents_by g calls versions)) news
  drawn_contents versions news based =
      ext_get_or [] (map at (range_with_len (length versions) (length news))) (map (content_after g calls old) news)
      (length-map-range_with_len at (length versions) (length news) ∙ sym (length-map news (content_after g calls old)))
      (λ i less.
      let within : i < length news = subst (λ n. i < n) (length-map-range_with_len at (length versions) (length news)) less in
      get_or-map-range_with_len at (length versions) (length news) i (length versions + i) [] within refl
      ∙ ap (λ l. get_or l (length versions + i) []) (contents_drawn versions news based)
      ∙ get_or-append_right old (map (content_after g calls old) news) (length versions) (length versions + i) [] (count_contents versions) (omega arith)
      ∙ ap (λ k. get_or (map (content_after g calls old) news) k []) (omega arith))
    where
      old : List (List ℕ)
      old = contents_by g calls versions

      at : ℕ → List ℕ
      at version = get_or (contents_by g calls (versions ++ news)) version []

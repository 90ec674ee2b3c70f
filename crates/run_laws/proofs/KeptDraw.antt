-- A draw keeps the directory's bytes those of the map: what it draws stands for the call's bytes laid over its pins.
use Rattle.std.proofs.Common.{◌≡◌, ◌⊎◌, ℕ, ◌+◌, ◌<◌, nat_eq, cond, List, [], ◌∷◌, ◌++◌, length, get_or, map, find, Option, None, Some, option_map, IfSome, All, Contains, refl, sym, ap, subst, ◌∙◌, inl, inr}
use Rattle.std.proofs.lemmas.Bool.{cond_both}
use Rattle.std.proofs.lemmas.List.{length-map}
use Rattle.std.proofs.lemmas.List.Elements.{All-weaker, All-map, All-contains, Contains-get_or}
use Rattle.std.specs.List.{range_with_len}
use Rattle.store_core.specs.Directory.{Object, Standing, Version, Pin, Pass, Directory}
use Rattle.store_core.specs.Lookups.{same_actor}
use Rattle.store_core.specs.PassSteps.{touched, new_version, draw}
use Rattle.store_core.specs.Look.{stripes_between}
use Rattle.store_core.specs.SoundPasses.{Stands, HasVersions}
use Rattle.store_core.specs.Sound.{HasItsVersions, IsSound}
use Rattle.store_core.specs.Content.{content_after, contents_by}
use Rattle.run_laws.proofs.Passes.{found_has}
use Rattle.run_laws.proofs.SoundClose.{IsHeld, one_pass}
use Rattle.store_core.specs.Calls.{Calls}
use Rattle.run_laws.specs.Contents.{stored_in, KeepsBytes, HasBytes}
use Rattle.run_laws.proofs.ContentGrows.{IsBased, based_content, count_contents, contents_drawn, drawn_contents}
use Rattle.run_laws.proofs.Maps.{at, map_same, map_grown, stored_grown}
use Rattle.run_laws.proofs.ContentKept.{KeptThere}

-- one function after another
pub map_map : {X Y Z : Type 0} (f : Y → Z) (h : X → Y) (xs : List X) → map f (map h xs) ≡ map (λ x. f (h x)) xs
map_map f h [] = refl
map_map f h (x ∷ xs) = ap (λ l. f (h x) ∷ l) (map_map f h xs)

module _ (calls : Calls) (d : Directory) (sound : IsSound d) (has : HasBytes calls d) (pass : Pass) (held : IsHeld d pass) where
  abbrev contents : List (List ℕ)
  contents = contents_by d.shape calls d.versions

  abbrev news : List Version
  news = map (new_version pass) (touched d pass.note)

  abbrev grown : List Version
  grown = d.versions ++ news

  -- what is new among the contents
  abbrev more : List (List ℕ)
  more = map (content_after d.shape calls contents) news

  -- a number of a version is one of a content
  below : (n : ℕ) → n < length d.versions → n < length contents
  below n h = subst (λ m. n < m) (sym (count_contents calls d.shape d.versions)) h

  -- new versions are laid over earlier ones
  based : (other : Pass) → Contains d.passes other → (stripe : ℕ) → IsBased calls d.shape contents (new_version other stripe)
  based other c stripe =
      by (find (λ (pin : Pin). nat_eq stripe pin.stripe) other.pinned)
      (found_has (λ (pin : Pin). pin.version < length d.versions) (λ (pin : Pin). nat_eq stripe pin.stripe) other.pinned (All-contains (HasVersions d) d.passes other sound.versions c).pinned)
    where
      by : (found : Option Pin) → IfSome found (λ pin. pin.version < length d.versions) → IfSome (option_map (λ (pin : Pin). pin.version) found) (λ base. base < length contents)
      by None h = tt
      by (Some pin) h = below pin.version h

  pub all_based : All (IsBased calls d.shape contents) news
  all_based = All-map (IsBased calls d.shape contents) (new_version pass) (touched d pass.note) (λ k n less. based pass held.has (get_or (touched d pass.note) k n))

  contents_are : contents_by d.shape calls grown ≡ contents ++ more
  contents_are = contents_drawn calls d.shape d.versions news all_based

  -- the contents of what a pass draws stay as more are drawn
  same_laid : (other : Pass) → Contains d.passes other → (stripes : List ℕ)
      → map (λ stripe. content_after d.shape calls contents (new_version other stripe)) stripes ≡ map (λ stripe. content_after d.shape calls (contents ++ more) (new_version other stripe)) stripes
  same_laid other c stripes =
      map_same (λ stripe. content_after d.shape calls contents (new_version other stripe)) (λ stripe. content_after d.shape calls (contents ++ more) (new_version other stripe)) stripes
      (λ k n less. sym (based_content calls d.shape contents more (new_version other (get_or stripes k n)) (based other c (get_or stripes k n))))

  -- each pass keeps its bytes
  grown_there : (other : Pass) → Contains d.passes other → KeptThere calls d other → KeepsBytes calls d.shape d.objects (contents ++ more) d.points other
  grown_there other c kept = record { call = kept.call; pins = kept.pins; drawn = by kept.drawn }
    where
      stripes : List ℕ
      stripes = stripes_between d.shape other.note.offset (other.note.offset + other.note.length)

      within : All (λ n. n < length contents) other.drawn
      within = All-weaker (λ n. n < length d.versions) (λ n. n < length contents) below other.drawn (All-contains (HasVersions d) d.passes other sound.versions c).drawn

      by : (other.drawn ≡ [])
          ⊎ (map (at contents) other.drawn ≡ map (λ stripe. content_after d.shape calls contents (new_version other stripe)) (stripes_between d.shape other.note.offset (other.note.offset + other.note.length)))
          → (other.drawn ≡ [])
          ⊎ (map (at (contents ++ more)) other.drawn ≡ map (λ stripe. content_after d.shape calls (contents ++ more) (new_version other stripe)) (stripes_between d.shape other.note.offset (other.note.offset + other.note.length)))
      by (inl e) = inl e
      by (inr e) = inr (map_grown contents more other.drawn within ∙ e ∙ same_laid other c (stripes_between d.shape other.note.offset (other.note.offset + other.note.length)))

  -- the numbers that are drawn
  abbrev drawn : List ℕ
  drawn = range_with_len (length d.versions) (length (touched d pass.note))

  -- the pass that draws
  drew : KeepsBytes calls d.shape d.objects (contents ++ more) d.points (record pass { drawn = drawn })
  drew =
      let kept : KeptThere calls d pass = All-contains (KeptThere calls d) d.passes pass has.passes held.has in
      record {
        call = kept.call;
        pins = kept.pins;
        drawn = inr (
            ap (λ cs. map (at cs) drawn) (sym contents_are)
            ∙ ap (λ n. map (at (contents_by d.shape calls grown)) (range_with_len (length d.versions) n)) (sym (length-map (touched d pass.note) (new_version pass)))
            ∙ drawn_contents calls d.shape d.versions news all_based
            ∙ map_map (content_after d.shape calls contents) (new_version pass) (touched d pass.note)
            ∙ same_laid pass held.has (touched d pass.note)
            );
      }

  abbrev draws : Pass → Pass
  draws other = cond (same_actor pass.actor other.actor) (record other { drawn = drawn }) other

  -- so all passes do
  drew_there : (other : Pass) → Contains d.passes other → KeepsBytes calls d.shape d.objects (contents ++ more) d.points (draws other)
  drew_there other c =
      cond_both {A = Pass} (same_actor pass.actor other.actor) (record other { drawn = drawn }) other (KeepsBytes calls d.shape d.objects (contents ++ more) d.points)
      (λ same. subst (λ (p : Pass). KeepsBytes calls d.shape d.objects (contents ++ more) d.points (record p { drawn = drawn })) (one_pass d sound pass other held c same) drew)
      (λ _. grown_there other c (All-contains (KeptThere calls d) d.passes other has.passes c))

  -- objects' versions are there
  objects_within : All (λ (object : Object). All (λ n. n < length contents) object.versions) d.objects
  objects_within =
      All-weaker (HasItsVersions d) (λ (object : Object). All (λ n. n < length contents) object.versions)
      (λ object its. All-weaker (Stands d Standing.Current) (λ n. n < length contents) (λ n h. below n h.1) object.versions its.current) d.objects sound.objects

  -- the draw keeps the bytes
  pub draw_kept : HasBytes calls (draw pass d).0
  draw_kept =
      record {
        contents = ap (λ cs. stored_in cs d.objects) contents_are ∙ stored_grown contents more d.objects objects_within ∙ has.contents;
        points = has.points;
        passes = subst (λ cs. All (KeepsBytes calls d.shape d.objects cs d.points) (map draws d.passes)) (sym contents_are)
            (All-map (KeepsBytes calls d.shape d.objects (contents ++ more) d.points) draws d.passes (λ k p less. drew_there (get_or d.passes k p) (Contains-get_or d.passes k p less)));
      }

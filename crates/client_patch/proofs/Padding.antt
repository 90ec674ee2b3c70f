-- The contents of a sound directory's stamps are zeros behind the ends of their objects.
use Rattle.std.proofs.Common.{◌≡◌, ◌⊎◌, ℕ, ◌+◌, ◌-◌, ◌*◌, ◌/◌, ◌<◌, ◌≤◌, min, List, [], ◌++◌, length, get_or, take, drop, map, replicate, slice_get, Option, None, Some, option_map, IfSome, refl, sym, ap, subst, ◌∙◌, inl, inr, arith, length-drop}
use Rattle.std.proofs.lemmas.Bool.{cases_lt}
use Rattle.std.proofs.lemmas.List.{length-map, take_all, append-nil, take-append-le, length-take, get_or-map}
use Rattle.std.proofs.lemmas.Option.{get_or_from_slice_get, slice_get-map}
use Rattle.clay_grid.specs.Shape.{Shape, stripe_length}
use Rattle.clay_model.specs.Code.{padded, stripes_of}
use Rattle.clay_model.proofs.Stripes.{length-stripes_below}
use Rattle.store_map.specs.PlainMap.{Objects}
use Rattle.store_core.specs.Calls.{Calls}
use Rattle.store_core.specs.Directory.{Object}
use Rattle.store_core.specs.Sound.{IsSound}
use Rattle.run_laws.specs.MapAfter.{map_by}
use Rattle.run_laws.proofs.Replayed.{replayed}
use Rattle.run_laws.specs.Contents.{HasBytes, stored_in, stripes_in}
use Rattle.run_laws.proofs.Bytes.{stripe_at, stripe_count, stripes_below_at}
use Rattle.run_laws.proofs.Maps.{at}
use Rattle.version_seal.specs.Entry.{StampOf}
use Rattle.stripe_stamps.specs.Sealed.{Sealed}
use Rattle.stripe_stamps.specs.Stamped.{HaveContents}
use Rattle.stripe_stamps.proofs.StampSteps.{stamps_hold_the_bytes_of_the_map}
use Rattle.client_patch.specs.Padded.{IsPadded, ItsArePadded, ArePadded, BytesOfTheMapArePadded}

-- a stripe of some bytes is zeros behind their end
module _ (g : Shape) (i : ℕ) (bytes : List ℕ) where
  abbrev s : ℕ
  s = stripe_length g

  abbrev left : ℕ
  left = length bytes - i * stripe_length g

  abbrev there : List ℕ
  there = take (stripe_length g) (drop (i * stripe_length g) bytes)

  abbrev content : List ℕ
  content = stripe_at (stripe_length g) bytes i

  some : length there ≡ min s left
  some = length-take s (drop (i * s) bytes) ∙ ap (λ n. min s n) (length-drop (i * s) bytes)

  zeros_behind : (s < left) ⊎ (left ≤ s) → padded s (take left content) ≡ content
  zeros_behind (inl more) =
      let within : length content ≤ left = subst (λ n. n ≤ left) (sym (stripe_count s i bytes)) (omega (arith, more)) in
      let none : s - length content ≡ 0 = ap (λ n. s - n) (stripe_count s i bytes) ∙ omega arith in
      (λ k. padded s (take_all left content within k)) ∙ ap (λ n. content ++ replicate {A = ℕ} n 0) none ∙ append-nil content
  zeros_behind (inr less) =
      let is : length there ≡ left = some ∙ omega (arith, less) in
      let fits : left ≤ length there = subst (λ n. left ≤ n) (sym is) (omega arith) in
      let all : length there ≤ left = subst (λ n. n ≤ left) (sym is) (omega arith) in
      ap (padded s) (take-append-le left there (replicate {A = ℕ} (s - length there) 0) fits ∙ take_all left there all)

  padded_at : IsPadded g (length bytes) i (stripe_at (stripe_length g) bytes i)
  padded_at = record { whole = stripe_count (stripe_length g) i bytes; zeros = zeros_behind (cases_lt s left) }

module _ (calls : Calls) (s : Sealed) (sound : IsSound s.core) (has : HasBytes calls s.core) (holds : HaveContents calls s) where
  abbrev g : Shape
  g = s.core.shape

  abbrev contents : List (List ℕ)
  contents = map (λ stamp. stamp.content) s.stamps

  abbrev objects : Objects
  objects = map_by calls s.core.max s.core.points

  -- an object's versions are the stripes of the map's bytes of it
  stored : (k : ℕ) (x : Object) → k < length s.core.objects
      → (bytes : List ℕ) × (map (at contents) (get_or s.core.objects k x).versions ≡ stripes_of g bytes) × ((get_or s.core.objects k x).length ≡ length bytes)
  stored k x less = (other.1, ap (λ (e : List ℕ × List (List ℕ)). e.1) entries, ap (λ (e : List ℕ × ℕ). e.1) sizes)
    where
      other : List ℕ × List ℕ
      other = get_or objects k ([], [])

      same : stored_in contents s.core.objects ≡ stripes_in g objects
      same = stamps_hold_the_bytes_of_the_map calls s has holds

      there : k < length objects
      there = subst (λ n. k < n) (sym (length-map s.core.objects (λ (object : Object). (object.name, map (at contents) object.versions))) ∙ ap length same
          ∙ length-map objects (λ (object : List ℕ × List ℕ). (object.0, stripes_of g object.1))) less

      entries : ◌≡◌ {A = List ℕ × List (List ℕ)} ((get_or s.core.objects k x).name, map (at contents) (get_or s.core.objects k x).versions) (other.0, stripes_of g other.1)
      entries =
          sym (get_or-map (λ (object : Object). (object.name, map (at contents) object.versions)) s.core.objects k x ([], []) less)
          ∙ ap (λ l. get_or l k ([], [])) same
          ∙ get_or-map (λ (object : List ℕ × List ℕ). (object.0, stripes_of g object.1)) objects k ([], []) ([], []) there

      sizes : ◌≡◌ {A = List ℕ × ℕ} ((get_or s.core.objects k x).name, (get_or s.core.objects k x).length) (other.0, length other.1)
      sizes =
          sym (get_or-map (λ (object : Object). (object.name, object.length)) s.core.objects k x ([], 0) less)
          ∙ ap (λ l. get_or l k ([], 0)) (sym (replayed calls s.core sound has.points))
          ∙ get_or-map (λ (object : List ℕ × List ℕ). (object.0, length object.1)) objects k ([], []) ([], 0) there

  -- so each of them is padded
  its : (object : Object) (bytes : List ℕ) → map (at contents) object.versions ≡ stripes_of g bytes → object.length ≡ length bytes → ItsArePadded s object
  its object bytes are long stripe less = by (slice_get s.stamps (get_or object.versions stripe 0)) refl
    where
      version : ℕ
      version = get_or object.versions stripe 0

      count : length object.versions ≡ (length bytes + stripe_length g - 1) / stripe_length g
      count = sym (length-map object.versions (at contents)) ∙ ap length are ∙ length-stripes_below (stripe_length g) ((length bytes + stripe_length g - 1) / stripe_length g) bytes

      content_is : get_or contents version [] ≡ stripe_at (stripe_length g) bytes stripe
      content_is =
          sym (get_or-map (at contents) object.versions stripe 0 [] less) ∙ ap (λ l. get_or l stripe []) are
          ∙ stripes_below_at (stripe_length g) ((length bytes + stripe_length g - 1) / stripe_length g) stripe bytes (subst (λ n. stripe < n) count less)

      by : (found : Option StampOf) → slice_get s.stamps version ≡ found → IfSome found (λ stamp. IsPadded g object.length stripe stamp.content)
      by None is = tt
      by (Some stamp) is =
          subst (λ n. IsPadded g n stripe stamp.content) (sym long)
          (subst (IsPadded g (length bytes) stripe) (sym content_is ∙ get_or_from_slice_get contents version stamp.content [] (slice_get-map (λ (x : StampOf). x.content) s.stamps version ∙ ap (option_map (λ (x : StampOf). x.content)) is)) (padded_at g stripe bytes))

  pub bytes_are_padded_in : ArePadded s
  bytes_are_padded_in k x less =
      let those : (bytes : List ℕ) × (map (at contents) (get_or s.core.objects k x).versions ≡ stripes_of g bytes) × ((get_or s.core.objects k x).length ≡ length bytes) = stored k x less in
      its (get_or s.core.objects k x) those.0 those.1 those.2

pub bytes_are_padded : BytesOfTheMapArePadded
bytes_are_padded calls s sound has holds = bytes_are_padded_in calls s sound has holds

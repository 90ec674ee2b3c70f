-- What a gathering with all its parts hands over.
use Rattle.std.proofs.Common.{◌≡◌, ℕ, ◌+◌, ◌-◌, ◌*◌, ◌%◌, ◌<◌, ◌≤◌, min, max, nat_lt, true, false, ◌||◌, List, [], ◌∷◌, ◌++◌, length, take, drop, get_or, set, map, replicate, count_by, Option, None, Some, Result, Ok, Err, OnOk, IfOk, is_some, Vec, ◌⊎◌, inl, inr, refl, sym, ap, subst, ◌∙◌, arith}
use Rattle.std.specs.declared.alloc.Global.{Global}
use Rattle.std.proofs.lemmas.Bool.{true≢false, lt-ltb, eq-eqb, cases_Bool}
use Rattle.std.proofs.lemmas.List.{get_or-take, length-take-le, append-nil, append_assoc, get_or_default}
use Rattle.std.specs.List.{range_with_len}
use Rattle.std.proofs.lemmas.Option.{same_Some}
use Rattle.clay_grid.specs.Shape.{Shape, chunk_count, chunk_length}
use Rattle.clay_grid.specs.Limits.{IsGeometry}
use Rattle.clay_grid.specs.Repair.{all_layers, repair_layers_of}
use Rattle.clay_model.specs.Chunks.{contents}
use Rattle.clay_model.specs.Left.{AreLeft, AreRecovered}
use Rattle.clay_model.specs.RepairParts.{AreParts, IsRebuilt}
use Rattle.store_core.specs.Lists.{is_among}
use Rattle.store_core.specs.GatheringParts.{layers_for}
use Rattle.run_laws.specs.Stage.{Aim, Stage}
use Rattle.run_laws.specs.StageAfter.{wanted_layers}
use Rattle.version_seal.specs.Entry.{StampOf}
use Rattle.version_seal.specs.Chunk.{IsChunkOf, subchunks_at}
use Rattle.gathering.specs.Aims.{target_of, IfRange}
use Rattle.gathering.specs.Courses.{CourseOf, has_bytes}
use Rattle.gathering.specs.Parts.{Shelf, ArePartsOf, HaveCome, AllHaveCome, is_there, helping_layers}
use Rattle.gathering.specs.Servers.{wanted_servers, TargetIsGone}
use Rattle.gathering.specs.Kept.{CanMake, HasParts, Keeps}
use Rattle.gathering.specs.Made.{AreMade, Appends, AppendsChunk, Gives, IsPieceOf, IsWithin, bytes_between}
use Rattle.gathering.specs.Inside.{IsGather}
use Rattle.gathering.proofs.Among.{kept_in, in_range}
use Rattle.gathering.proofs.Gathered.{all_of_many}
use Rattle.gathering.proofs.Making.{are_parts_of, one_made, are_left, all_made}
use Rattle.gathering.proofs.Pieces.{AreThere, layer_bytes, chunk_at, within_chunk, range_step}
use Rattle.gathering.proofs.Shelves.{none_made, count_made}

-- all parts have come
has_parts : (g : Shape) (aim : Aim) (gone : List ℕ) (parts helpers : Shelf) (stage : Stage) → has_bytes stage ≡ true → Keeps g aim gone parts helpers stage → HasParts g aim gone parts helpers
has_parts g aim gone parts helpers Stage.HasBytes h k = k
has_parts g aim gone parts helpers stage h k = absurd (true≢false (sym h))

module _ (stamp : StampOf) (c : CourseOf) (parts helpers : Shelf) (i : IsGather stamp c parts helpers) (done : has_bytes c.stage ≡ true) (geometry : IsGeometry c.geometry) where
  pub all_parts : HasParts c.geometry c.aim c.gone parts helpers
  all_parts = has_parts c.geometry c.aim c.gone parts helpers c.stage done i.kept

  -- ---- one missing server
  module _ (lost : ℕ) (only : c.gone ≡ lost ∷ []) (below : lost < chunk_count c.geometry) where
    can : AllHaveCome c.geometry [] (lost ∷ []) helpers × (get_or helpers lost None ≡ None)
    can = subst (λ l. CanMake c.geometry l helpers) only all_parts.helping

    are : ArePartsOf c.geometry stamp.content (λ server. repair_layers_of c.geometry lost) helpers
    are = subst (λ (l : List ℕ). ArePartsOf c.geometry stamp.content (λ server. helping_layers c.geometry l) helpers) only i.helper_parts

    pub parts_of_one : AreParts c.geometry lost helpers
    parts_of_one = are_parts_of c.geometry stamp.content lost helpers geometry below are can.0 can.1

    pub made_of_one : (servers : ℕ) (chunk : Vec ℕ Global) (made : Shelf) → IsRebuilt c.geometry lost helpers chunk.items → made ≡ replicate servers None → servers ≡ chunk_count c.geometry
        → AreMade c.geometry stamp.content c.gone (set made lost (Some chunk))
    made_of_one servers chunk made is empty count =
        subst (λ l. AreMade c.geometry stamp.content l (set made lost (Some chunk))) (sym only)
        (one_made c.geometry stamp.content lost helpers geometry below are can.0 can.1 chunk made is (count_made servers made empty ∙ count) (none_made servers made empty))

  -- ---- more of them
  module _ (many : 2 ≤ length c.gone) where
    enough : (gone : List ℕ) → 2 ≤ length gone → CanMake c.geometry gone helpers → c.geometry.data_count ≤ count_by is_some helpers
    enough [] h can = absurd (omega (arith, h))
    enough (lost ∷ []) h can = absurd (omega (arith, h))
    enough (lost ∷ other ∷ more) h can = can

    whole : ArePartsOf c.geometry stamp.content (λ server. all_layers c.geometry) helpers
    whole = subst (λ (l : List ℕ). ArePartsOf c.geometry stamp.content (λ server. l) helpers) (sym (all_of_many c.geometry c.gone many)) i.helper_parts

    pub left_of_many : AreLeft c.geometry helpers
    left_of_many = are_left c.geometry stamp.content c.gone helpers geometry whole (enough c.gone many all_parts.helping)

    pub made_of_many : (chunks : List (Vec ℕ Global)) (made : Shelf) → AreRecovered c.geometry helpers (contents chunks) → made ≡ map Some chunks
        → AreMade c.geometry stamp.content c.gone made
    made_of_many = all_made c.geometry stamp.content c.gone helpers geometry whole (enough c.gone many all_parts.helping)

  -- ---- none
  pub made_of_none : (servers : ℕ) (made : Shelf) → length c.gone ≡ 0 → made ≡ replicate servers None → servers ≡ chunk_count c.geometry → AreMade c.geometry stamp.content c.gone made
  made_of_none servers made nobody empty count = by c.gone nobody
    where
      by : (gone : List ℕ) → length gone ≡ 0 → AreMade c.geometry stamp.content gone made
      by [] h =
          record {
            chunks = record {
              count = count_made servers made empty ∙ count;
              each = λ server bytes e. absurd (true≢false (sym (ap is_some (sym (none_made servers made empty server) ∙ e))));
            };
            all = λ server below among. absurd (true≢false (sym among));
          }
      by (server ∷ gone) h = absurd (omega (arith, h))

  -- ---- a chunk that is made anew
  pub target_there : (target : ℕ) (made : Shelf) → target_of c.aim ≡ Some target → AreMade c.geometry stamp.content c.gone made → is_there target made ≡ true
  target_there target made is all = by c.aim all_parts.target i.within is
    where
      by : (aim : Aim) → TargetIsGone aim c.gone → IsWithin c.geometry aim → target_of aim ≡ Some target → is_there target made ≡ true
      by (Aim.Range part) gone within is = absurd (true≢false (sym (ap is_some is)))
      by (Aim.Chunk seen first) gone within is =
          let same : first ≡ target = same_Some first target is in
          all.all target (subst (λ n. n < chunk_count c.geometry) same within)
          (ap (is_among target) gone.1 ∙ ap (λ b. b || is_among target gone.0) (eq-eqb target first (sym same)))

pub gives_chunk : (g : Shape) (content : List ℕ) (aim : Aim) (target : ℕ) (before after : List ℕ) → target_of aim ≡ Some target → IsChunkOf g content target after
    → Gives g content aim before after
gives_chunk g content (Aim.Range part) target before after is chunk = absurd (true≢false (sym (ap is_some is)))
gives_chunk g content (Aim.Chunk seen first) target before after is chunk = subst (λ n. IsChunkOf g content n after) (sym (same_Some first target is)) chunk

-- a place of a shelf that was read
pub read_some : (shelf : Shelf) (at : ℕ) (place : Option (Vec ℕ Global)) (v : Vec ℕ Global) → at < length shelf → place ≡ get_or shelf at place → place ≡ Some v → get_or shelf at None ≡ Some v
read_some shelf at place v h read is = get_or_default shelf at None place h ∙ sym read ∙ is

pub read_none : (shelf : Shelf) (at : ℕ) (place : Option (Vec ℕ Global)) → at < length shelf → place ≡ get_or shelf at place → place ≡ None → get_or shelf at None ≡ None
read_none shelf at place h read is = get_or_default shelf at None place h ∙ sym read ∙ is

-- ---- pieces of a data chunk
module _ (g : Shape) (content gone : List ℕ) (aim : Aim) (geometry : IsGeometry g) (made parts : Shelf) (chunk from to : ℕ) (piece : IsPieceOf g aim chunk from to) where
  inside : (aim : Aim) → IsPieceOf g aim chunk from to → (chunk < g.data_count) × (from < to) × (to ≤ chunk_length g)
  inside (Aim.Range part) p =
      let row : (chunk + 1) * chunk_length g ≡ chunk * chunk_length g + chunk_length g = omega arith in
      (p.there, p.some, omega (arith, p.ends, row))
  inside (Aim.Chunk seen target) p = absurd p

  pub is_server : chunk < chunk_count g
  is_server = omega (arith, (inside aim piece).0)

  -- of the chunk that was made anew
  module _ (all : AreMade g content gone made) (v : Vec ℕ Global) (there : get_or made chunk None ≡ Some v) where
    pub whole_fits : (from ≤ to) × (to ≤ length v.items)
    whole_fits =
        let own : IsChunkOf g content chunk v.items = all.chunks.each chunk v there in
        let long : length v.items ≡ chunk_length g = sym (ap length own.here) ∙ own.codes.codeword.lengths chunk is_server in
        let p = inside aim piece in
        (omega (arith, p.1), omega (arith, p.2, long))

    pub whole_appends : (before after : List ℕ) → after ≡ before ++ bytes_between from to v.items → Appends g content chunk from to before after
    whole_appends before after e =
        let own : IsChunkOf g content chunk v.items = all.chunks.each chunk v there in
        record { word = own.word; codes = own.codes; here = e ∙ ap (λ l. before ++ bytes_between from to l) (sym own.here) }

  -- of the layers that came
  module _ (are : ArePartsOf g content (wanted_layers g aim) parts) (v : Vec ℕ Global) (there : get_or parts chunk None ≡ Some v) where
    layered : (aim : Aim) → IsPieceOf g aim chunk from to → (bytes : List ℕ) → length bytes ≡ chunk_length g
        → AreThere from to (from % g.width) bytes (subchunks_at g.width bytes (wanted_layers g aim chunk))
    layered (Aim.Range part) p bytes long =
        let row : (chunk + 1) * chunk_length g ≡ chunk * chunk_length g + chunk_length g = omega arith in
        let first : from ≡ part.start - chunk * chunk_length g = omega (arith, p.begins) in
        let last : to ≤ part.end - chunk * chunk_length g = omega (arith, p.ends, row) in
        subst (λ n. AreThere n to (n % g.width) bytes (subchunks_at g.width bytes (layers_for g part.start part.end chunk))) (sym first)
        (layer_bytes g (part.start - chunk * chunk_length g) (part.end - chunk * chunk_length g) to bytes (omega (arith, geometry.limits.width.0)) long
        (subst (λ n. n < to) first p.some) last (inside (Aim.Range part) p).2)
    layered (Aim.Chunk seen target) p bytes long = absurd p

    pub own_layers : AreThere from to (from % g.width) (get_or (are.each chunk v there).word.word chunk []) v.items
    own_layers =
        let own = (are.each chunk v there).word in
        subst (AreThere from to (from % g.width) (get_or own.word chunk [])) own.here
        (layered aim piece (get_or own.word chunk []) (own.codes.codeword.lengths chunk is_server))

    pub part_appends : (before after : List ℕ) → after ≡ before ++ bytes_between (from % g.width) (from % g.width + (to - from)) v.items → Appends g content chunk from to before after
    part_appends before after e =
        let own = (are.each chunk v there).word in
        record {
          word = own.word;
          codes = own.codes;
          here =
              e
              ∙ ap (λ n. before ++ take n (drop (from % g.width) v.items)) (back (from % g.width) (to - from))
              ∙ ap (λ l. before ++ l) own_layers.same;
        }
      where
        back : (a b : ℕ) → a + b - a ≡ b
        back a b = omega arith

  -- one of them is there
  asked : (aim : Aim) → IsPieceOf g aim chunk from to → is_among chunk (wanted_servers g aim) ≡ true
  asked (Aim.Range part) p =
      kept_in (λ k. nat_lt (max part.start (k * chunk_length g)) (min part.end ((k + 1) * chunk_length g))) chunk
      (lt-ltb (max part.start (chunk * chunk_length g)) (min part.end ((chunk + 1) * chunk_length g)) (omega (arith, p.some, p.begins, p.ends)))
      (range_with_len 0 g.data_count) (in_range chunk 0 g.data_count (omega arith) (omega (arith, p.there)))
  asked (Aim.Chunk seen target) p = absurd p

  pub not_nowhere : AreMade g content gone made → HaveCome (wanted_servers g aim) [] gone parts → get_or made chunk None ≡ None → get_or parts chunk None ≡ None → ⊥
  not_nowhere all have no_chunk no_part = by (cases_Bool (is_among chunk gone))
    where
      by : (is_among chunk gone ≡ true) ⊎ (is_among chunk gone ≡ false) → ⊥
      by (inl lost) = true≢false (sym (all.all chunk is_server lost) ∙ ap is_some no_chunk)
      by (inr kept) = true≢false (sym (have chunk (asked aim piece) refl kept) ∙ ap is_some no_part)

-- ---- a part of the stripe
module _ (g : Shape) (content : List ℕ) where
  -- a piece of a data chunk is one of the stripe
  pub chunk_appends : (aim : Aim) (chunk from to : ℕ) (before after : List ℕ) → IsPieceOf g aim chunk from to → Appends g content chunk from to before after → AppendsChunk g content aim chunk before after
  chunk_appends (Aim.Range part) chunk from to before after p app =
      let long : ℕ = chunk_length g in
      let row : (chunk + 1) * long ≡ chunk * long + long = omega arith in
      let data_chunks : List (List ℕ) = take g.data_count app.word in
      let count : length data_chunks ≡ g.data_count = length-take-le g.data_count app.word (omega (arith, app.codes.codeword.count)) in
      let here : get_or app.word chunk [] ≡ take long (drop (chunk * long) content) =
      sym (get_or-take g.data_count app.word chunk [] p.there)
      ∙ chunk_at long data_chunks chunk (omega (arith, count, p.there))
      (λ c below. ap length (get_or-take g.data_count app.word c [] (omega (arith, below, count))) ∙ app.codes.codeword.lengths c (omega (arith, below, count)))
      ∙ ap (λ l. take long (drop (chunk * long) l)) app.codes.joined
      in
      let first : chunk * long + from ≡ max part.start (chunk * long) = omega (arith, p.begins) in
      let count' : to - from ≡ min part.end ((chunk + 1) * long) - max part.start (chunk * long) = omega (arith, p.begins, p.ends, p.some) in
      app.here
      ∙ ap (λ l. before ++ bytes_between from to l) here
      ∙ ap (λ l. before ++ l) (within_chunk long from to (chunk * long) content (omega (arith, p.some)) (omega (arith, p.ends, row)))
      ∙ (λ i. before ++ take (count' i) (drop (first i) content))
  chunk_appends (Aim.Chunk seen target) chunk from to before after p app = tt

  -- a data chunk without wanted bytes
  pub nothing_appends : (aim : Aim) (chunk from to long : ℕ) (bounds : ℕ × ℕ) (before : List ℕ) → IfRange aim (λ part. bounds ≡ (part.start, part.end)) → long ≡ chunk_length g
      → from ≡ max bounds.0 (chunk * long) → to ≡ min bounds.1 (chunk * long + long) → to ≤ from → AppendsChunk g content aim chunk before before
  nothing_appends (Aim.Range part) chunk from to long bounds before is e f t none =
      let row : chunk * long + long ≡ (chunk + 1) * long = omega arith in
      let first : from ≡ max part.start (chunk * chunk_length g) = f ∙ (λ i. max (is i).0 (chunk * e i)) in
      let last : to ≡ min part.end ((chunk + 1) * chunk_length g) = t ∙ ap (λ n. min bounds.1 n) row ∙ (λ i. min (is i).1 ((chunk + 1) * e i)) in
      let empty : min part.end ((chunk + 1) * chunk_length g) - max part.start (chunk * chunk_length g) ≡ 0 = omega (arith, first, last, none) in
      sym (append-nil before) ∙ sym (ap (λ n. before ++ take n (drop (max part.start (chunk * chunk_length g)) content)) empty)
  nothing_appends (Aim.Chunk seen target) chunk from to long bounds before is e f t none = tt

  -- a piece as the program reckons it
  pub piece_is : (aim : Aim) (chunk from to long : ℕ) (bounds : ℕ × ℕ) → target_of aim ≡ None → chunk < g.data_count → IfRange aim (λ part. bounds ≡ (part.start, part.end)) → long ≡ chunk_length g
      → from ≡ max bounds.0 (chunk * long) → to ≡ min bounds.1 (chunk * long + long) → from < to
      → IsPieceOf g aim chunk (from - chunk * long) (to - chunk * long)
  piece_is (Aim.Range part) chunk from to long bounds range there is e f t some =
      let row : chunk * long + long ≡ (chunk + 1) * long = omega arith in
      let low : chunk * long ≤ from = omega (arith, f) in
      record {
        there = there;
        some = omega (arith, some, low);
        begins = (λ i. f i - chunk * long) ∙ (λ i. max (is i).0 (chunk * e i) - chunk * e i);
        ends = (λ i. t i - chunk * long) ∙ ap (λ n. min bounds.1 n - chunk * long) row ∙ (λ i. min (is i).1 ((chunk + 1) * e i) - chunk * e i);
      }
  piece_is (Aim.Chunk seen target) chunk from to long bounds range there is e f t some = absurd (true≢false (ap is_some range))

  -- the wanted bytes of the data chunks before one
  abbrev pub IsUpTo : Aim → ℕ → List ℕ → List ℕ → Type 0
  IsUpTo (Aim.Range part) chunk before after = after ≡ before ++ bytes_between part.start (max part.start (min part.end (chunk * chunk_length g))) content
  IsUpTo (Aim.Chunk seen target) chunk before after = Unit {0}

  pub up_begins : (aim : Aim) (before : List ℕ) → IsUpTo aim 0 before before
  up_begins (Aim.Range part) before =
      let none : max part.start (min part.end (0 * chunk_length g)) - part.start ≡ 0 = omega arith in
      sym (append-nil before) ∙ sym (ap (λ n. before ++ take n (drop part.start content)) none)
  up_begins (Aim.Chunk seen target) before = tt

  pub up_more : (aim : Aim) (chunk : ℕ) (before middle after : List ℕ) → IsWithin g aim → IsUpTo aim chunk before middle → AppendsChunk g content aim chunk middle after
      → IsUpTo aim (chunk + 1) before after
  up_more (Aim.Range part) chunk before middle after within up app =
      let row : (chunk + 1) * chunk_length g ≡ chunk * chunk_length g + chunk_length g = omega arith in
      let first : List ℕ = bytes_between part.start (max part.start (min part.end (chunk * chunk_length g))) content in
      let next : List ℕ = bytes_between (max part.start (chunk * chunk_length g)) (min part.end ((chunk + 1) * chunk_length g)) content in
      app
      ∙ ap (λ l. l ++ next) up
      ∙ append_assoc before first next
      ∙ ap (λ l. before ++ l) (range_step part.start part.end (chunk * chunk_length g) ((chunk + 1) * chunk_length g) content within.0 (omega (arith, row)))
  up_more (Aim.Chunk seen target) chunk before middle after within up app = tt

  pub up_ends : (aim : Aim) (before after : List ℕ) → target_of aim ≡ None → IsWithin g aim → IsUpTo aim g.data_count before after → Gives g content aim before after
  up_ends (Aim.Range part) before after range within up =
      let last : max part.start (min part.end (g.data_count * chunk_length g)) ≡ part.end = omega (arith, within.0, within.1) in
      up ∙ ap (λ n. before ++ take (n - part.start) (drop part.start content)) last
  up_ends (Aim.Chunk seen target) before after range within up = absurd (true≢false (ap is_some range))

-- ---- results
pub on_ok : {T E P Q : Type 0} (r : Result T E) → OnOk r P → (P → Q) → OnOk r Q
on_ok (Ok x) p f = f p
on_ok (Err e) p f = p

pub if_ok : {T E : Type 0} {P Q : T → Type 0} (r : Result T E) → IfOk r P → ((x : T) → P x → Q x) → IfOk r Q
if_ok (Ok x) p f = f x p
if_ok (Err e) p f = p

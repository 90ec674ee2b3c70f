-- A gathering keeps what it keeps, whatever it is answered.
use Rattle.std.proofs.Common.{◌≡◌, ℕ, ◌<◌, ◌≤◌, true, false, List, [], ◌∷◌, length, set, Some, is_some, Vec, refl, sym, ap, subst, ◌∙◌, ◌⊎◌, inl, inr, arith}
use Rattle.std.specs.declared.alloc.Global.{Global}
use Rattle.std.proofs.lemmas.Bool.{true≢false, cases_lt}
use Rattle.std.proofs.lemmas.Option.{same_Some}
use Rattle.clay_grid.specs.Shape.{Shape, chunk_count}
use Rattle.clay_grid.specs.Repair.{all_layers}
use Rattle.store_map.specs.declared.placement.Found.{Found}
use Rattle.store_core.specs.Told.{Seen, Told}
use Rattle.store_core.specs.Gathering.{Part}
use Rattle.store_core.specs.GatheringParts.{chunks_in_range}
use Rattle.run_laws.specs.Stage.{Aim, Asking, Stage}
use Rattle.run_laws.specs.StageAfter.{next_stage, wanted_layers}
use Rattle.version_seal.specs.Entry.{StampOf}
use Rattle.gathering.specs.Courses.{CourseOf, new_course, IsAskingStage, server_at, server_of, gone_after, after_answer, is_look, is_fetch, layers_at, layers_asked}
use Rattle.gathering.specs.Parts.{Shelf, IsPart, ArePartsOf, AreNone, helping_layers}
use Rattle.gathering.specs.Kept.{Keeps}
use Rattle.gathering.specs.Made.{IsWithin}
use Rattle.gathering.specs.Inside.{IsGather}
use Rattle.gathering.proofs.Answers.{Stay, told_missing, told_here, told_wanted, told_repair, told_whole}
use Rattle.gathering.proofs.Shelves.{with_part, no_parts, same_layers}
use Rattle.gathering.proofs.Stages.{keeps_fetch}

-- ---- a stage that asks
short_keeps : (g : Shape) (aim : Aim) (gone : List ℕ) (parts helpers : Shelf) (stage : Stage) → IsAskingStage stage → Keeps g aim gone parts helpers (next_stage g aim stage Told.Short)
short_keeps g aim gone parts helpers (Stage.Asks (Asking.Fetch server more missing)) h = tt
short_keeps g aim gone parts helpers (Stage.Asks (Asking.Look server more missing)) h = tt
short_keeps g aim gone parts helpers (Stage.Asks (Asking.Repair server more lost)) h = tt
short_keeps g aim gone parts helpers (Stage.Asks (Asking.Whole server more wanted missing)) h = tt
short_keeps g aim gone parts helpers (Stage.Asks (Asking.Target server)) h = tt
short_keeps g aim gone parts helpers stage h = absurd h

here_keeps : (g : Shape) (aim : Aim) (gone : List ℕ) (parts helpers : Shelf) (stage : Stage) → IsAskingStage stage → Keeps g aim gone parts helpers stage
    → Keeps g aim gone parts helpers (next_stage g aim stage Told.Here)
here_keeps g aim gone parts helpers (Stage.Asks asking) h k = told_here g aim gone parts helpers asking k
here_keeps g aim gone parts helpers stage h k = absurd h

missing_keeps : (g : Shape) (aim : Aim) (gone : List ℕ) (parts before after : Shelf) (found : Found) (stage : Stage) → IsAskingStage stage → Keeps g aim gone parts before stage
    → Stay gone before after → Keeps g aim (gone_after (Told.Missing found) (server_at g aim stage) gone) parts after (next_stage g aim stage (Told.Missing found))
missing_keeps g aim gone parts before after found (Stage.Asks asking) h k stay = told_missing g aim gone parts before after asking found k stay
missing_keeps g aim gone parts before after found stage h k stay = absurd h

wanted_keeps : (g : Shape) (aim : Aim) (gone : List ℕ) (parts helpers : Shelf) (server layers : ℕ) (bytes : Vec ℕ Global) (stage : Stage) → is_fetch stage ≡ true
    → server_at g aim stage ≡ Some server → server < length parts → Keeps g aim gone parts helpers stage
    → Keeps g aim gone (set parts server (Some bytes)) helpers (next_stage g aim stage (Told.Given layers))
wanted_keeps g aim gone parts helpers server layers bytes (Stage.Asks (Asking.Fetch other more missing)) is at below k =
    let same : other ≡ server = same_Some other server at in
    subst (λ n. Keeps g aim gone (set parts n (Some bytes)) helpers (next_stage g aim (Stage.Asks (Asking.Fetch other more missing)) (Told.Given layers))) same
    (told_wanted g aim gone parts helpers other more missing layers bytes (subst (λ n. n < length parts) (sym same) below) k)
wanted_keeps g aim gone parts helpers server layers bytes stage is at below k = absurd (true≢false (sym is))

helper_keeps : (g : Shape) (aim : Aim) (gone : List ℕ) (parts helpers : Shelf) (server layers : ℕ) (bytes : Vec ℕ Global) (stage : Stage) → is_look stage ≡ false → is_fetch stage ≡ false
    → server_at g aim stage ≡ Some server → server < length helpers → Keeps g aim gone parts helpers stage
    → Keeps g aim gone parts (set helpers server (Some bytes)) (next_stage g aim stage (Told.Given layers))
helper_keeps g aim gone parts helpers server layers bytes (Stage.Asks (Asking.Fetch other more missing)) look fetch at below k = absurd (true≢false fetch)
helper_keeps g aim gone parts helpers server layers bytes (Stage.Asks (Asking.Look other more missing)) look fetch at below k = absurd (true≢false look)
helper_keeps g aim gone parts helpers server layers bytes (Stage.Asks (Asking.Target other)) look fetch at below k = absurd (true≢false look)
helper_keeps g aim gone parts helpers server layers bytes (Stage.Asks (Asking.Repair other more lost)) look fetch at below k =
    let same : other ≡ server = same_Some other server at in
    subst (λ n. Keeps g aim gone parts (set helpers n (Some bytes)) (next_stage g aim (Stage.Asks (Asking.Repair other more lost)) (Told.Given layers))) same
    (told_repair g aim gone parts helpers other more lost layers bytes (subst (λ n. n < length helpers) (sym same) below) k)
helper_keeps g aim gone parts helpers server layers bytes (Stage.Asks (Asking.Whole other more wanted missing)) look fetch at below k =
    let same : other ≡ server = same_Some other server at in
    subst (λ n. Keeps g aim gone parts (set helpers n (Some bytes)) (next_stage g aim (Stage.Asks (Asking.Whole other more wanted missing)) (Told.Given layers))) same
    (told_whole g aim gone parts helpers other more wanted missing layers bytes (subst (λ n. n < length helpers) (sym same) below) k)
helper_keeps g aim gone parts helpers server layers bytes stage look fetch at below k = absurd (true≢false (sym (ap is_some at)))

-- the layers that are asked for are wanted ones, or those that missing chunks are made of
wanted_asked : (g : Shape) (aim : Aim) (server : ℕ) (stage : Stage) → is_fetch stage ≡ true → server_at g aim stage ≡ Some server → layers_at g aim stage ≡ wanted_layers g aim server
wanted_asked g aim server (Stage.Asks (Asking.Fetch other more missing)) is at = ap (wanted_layers g aim) (same_Some other server at)
wanted_asked g aim server stage is at = absurd (true≢false (sym is))

pub all_of_many : (g : Shape) (gone : List ℕ) → 2 ≤ length gone → all_layers g ≡ helping_layers g gone
all_of_many g [] many = absurd (omega (arith, many))
all_of_many g (lost ∷ []) many = absurd (omega (arith, many))
all_of_many g (lost ∷ other ∷ more) many = refl

helping_asked : (g : Shape) (aim : Aim) (gone : List ℕ) (parts helpers : Shelf) (server : ℕ) (stage : Stage) → is_look stage ≡ false → is_fetch stage ≡ false
    → server_at g aim stage ≡ Some server → Keeps g aim gone parts helpers stage → layers_at g aim stage ≡ helping_layers g gone
helping_asked g aim gone parts helpers server (Stage.Asks (Asking.Fetch other more missing)) look fetch at k = absurd (true≢false fetch)
helping_asked g aim gone parts helpers server (Stage.Asks (Asking.Look other more missing)) look fetch at k = absurd (true≢false look)
helping_asked g aim gone parts helpers server (Stage.Asks (Asking.Target other)) look fetch at k = absurd (true≢false look)
helping_asked g aim gone parts helpers server (Stage.Asks (Asking.Repair other more lost)) look fetch at k = ap (helping_layers g) (sym k.only)
helping_asked g aim gone parts helpers server (Stage.Asks (Asking.Whole other more wanted missing)) look fetch at k = all_of_many g gone k.many
helping_asked g aim gone parts helpers server stage look fetch at k = absurd (true≢false (sym (ap is_some at)))

-- ---- the gathering
module _ (stamp : StampOf) (c new : CourseOf) (parts helpers : Shelf) (i : IsGather stamp c parts helpers) where
  pub after_short : IsAskingStage c.stage → new ≡ after_answer c Told.Short → IsGather stamp new parts helpers
  after_short asking e =
      subst (λ w. IsGather stamp w parts helpers) (sym e)
      (record {
        same_version = i.same_version;
        within = i.within;
        own_parts = i.own_parts;
        helper_parts = i.helper_parts;
        kept = short_keeps c.geometry c.aim c.gone parts helpers c.stage asking;
      })

  pub after_here : IsAskingStage c.stage → new ≡ after_answer c Told.Here → IsGather stamp new parts helpers
  after_here asking e =
      subst (λ w. IsGather stamp w parts helpers) (sym e)
      (record {
        same_version = i.same_version;
        within = i.within;
        own_parts = i.own_parts;
        helper_parts = i.helper_parts;
        kept = here_keeps c.geometry c.aim c.gone parts helpers c.stage asking i.kept;
      })

  pub after_missing : (found : Found) (later : Shelf) → IsAskingStage c.stage → new ≡ after_answer c (Told.Missing found) → length later ≡ length helpers
      → (length c.gone < 2 → AreNone later) → (2 ≤ length c.gone → later ≡ helpers) → IsGather stamp new parts later
  after_missing found later asking e same few many =
      let gone : List ℕ = gone_after (Told.Missing found) (server_of c) c.gone in
      subst (λ w. IsGather stamp w parts later) (sym e)
      (record {
        same_version = i.same_version;
        within = i.within;
        own_parts = i.own_parts;
        helper_parts = by (cases_lt (length c.gone) 2);
        kept = missing_keeps c.geometry c.aim c.gone parts helpers later found c.stage asking i.kept (record { few = few; many = many });
      })
    where
      more_layers : (stage : Stage) → IsAskingStage stage → 2 ≤ length c.gone
          → helping_layers c.geometry c.gone ≡ helping_layers c.geometry (gone_after (Told.Missing found) (server_at c.geometry c.aim stage) c.gone)
      more_layers (Stage.Asks asking) h enough = same_layers c.geometry c.gone _ enough
      more_layers stage h enough = absurd h

      by : (length c.gone < 2) ⊎ (2 ≤ length c.gone)
          → ArePartsOf c.geometry stamp.content (λ server. helping_layers c.geometry (gone_after (Told.Missing found) (server_of c) c.gone)) later
      by (inl less) = no_parts c.geometry stamp.content (λ server. helping_layers c.geometry (gone_after (Told.Missing found) (server_of c) c.gone)) later (same ∙ i.helper_parts.count) (few less)
      by (inr enough) =
          subst (λ shelf. ArePartsOf c.geometry stamp.content (λ server. helping_layers c.geometry (gone_after (Told.Missing found) (server_of c) c.gone)) shelf) (sym (many enough))
          (subst (λ (layers : List ℕ). ArePartsOf c.geometry stamp.content (λ server. layers) helpers) (more_layers c.stage asking enough) i.helper_parts)

  pub after_wanted : (server layers : ℕ) (bytes : Vec ℕ Global) → is_fetch c.stage ≡ true → server_of c ≡ Some server → server < chunk_count c.geometry
      → IsPart c.geometry stamp.content server (layers_asked c) bytes.items → new ≡ after_answer c (Told.Given layers) → IsGather stamp new (set parts server (Some bytes)) helpers
  after_wanted server layers bytes fetch at below is e =
      let inside : server < length parts = subst (λ n. server < n) (sym i.own_parts.count) below in
      subst (λ w. IsGather stamp w (set parts server (Some bytes)) helpers) (sym e)
      (record {
        same_version = i.same_version;
        within = i.within;
        own_parts = with_part c.geometry stamp.content (wanted_layers c.geometry c.aim) server bytes parts i.own_parts inside
            (subst (λ l. IsPart c.geometry stamp.content server l bytes.items) (wanted_asked c.geometry c.aim server c.stage fetch at) is);
        helper_parts = i.helper_parts;
        kept = wanted_keeps c.geometry c.aim c.gone parts helpers server layers bytes c.stage fetch at inside i.kept;
      })

  pub after_helper : (server layers : ℕ) (bytes : Vec ℕ Global) → is_look c.stage ≡ false → is_fetch c.stage ≡ false → server_of c ≡ Some server → server < chunk_count c.geometry
      → IsPart c.geometry stamp.content server (layers_asked c) bytes.items → new ≡ after_answer c (Told.Given layers) → IsGather stamp new parts (set helpers server (Some bytes))
  after_helper server layers bytes look fetch at below is e =
      let inside : server < length helpers = subst (λ n. server < n) (sym i.helper_parts.count) below in
      subst (λ w. IsGather stamp w parts (set helpers server (Some bytes))) (sym e)
      (record {
        same_version = i.same_version;
        within = i.within;
        own_parts = i.own_parts;
        helper_parts = with_part c.geometry stamp.content (λ other. helping_layers c.geometry c.gone) server bytes helpers i.helper_parts inside
            (subst (λ l. IsPart c.geometry stamp.content server l bytes.items) (helping_asked c.geometry c.aim c.gone parts helpers server c.stage look fetch at i.kept) is);
        kept = helper_keeps c.geometry c.aim c.gone parts helpers server layers bytes c.stage look fetch at inside i.kept;
      })

-- one that begins
pub range_begins : (stamp : StampOf) (g : Shape) (part : Part) (parts helpers : Shelf) → stamp.version ≡ part.seen.version
    → IsWithin g (Aim.Range part) → length parts ≡ chunk_count g → AreNone parts → length helpers ≡ chunk_count g → AreNone helpers
    → IsGather stamp (new_course g (Aim.Range part)) parts helpers
range_begins stamp g part parts helpers version within count none count' none' =
    record {
      same_version = version;
      within = within;
      own_parts = no_parts g stamp.content (wanted_layers g (Aim.Range part)) parts count none;
      helper_parts = no_parts g stamp.content (λ server. helping_layers g []) helpers count' none';
      kept = keeps_fetch g (Aim.Range part) [] parts helpers part (chunks_in_range g part.start part.end) [] (λ server there out. absurd (true≢false (sym there ∙ out))) tt refl none';
    }

pub chunk_begins : (stamp : StampOf) (g : Shape) (seen : Seen) (target : ℕ) (parts helpers : Shelf) → stamp.version ≡ seen.version
    → target < chunk_count g → length parts ≡ chunk_count g → AreNone parts → length helpers ≡ chunk_count g → AreNone helpers
    → IsGather stamp (new_course g (Aim.Chunk seen target)) parts helpers
chunk_begins stamp g seen target parts helpers version below count none count' none' =
    record {
      same_version = version;
      within = below;
      own_parts = no_parts g stamp.content (wanted_layers g (Aim.Chunk seen target)) parts count none;
      helper_parts = no_parts g stamp.content (λ server. helping_layers g []) helpers count' none';
      kept = record { target = refl; nobody = refl; none = none' };
    }

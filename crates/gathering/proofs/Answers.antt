-- What has come after an answer.
use Rattle.std.proofs.Common.{◌≡◌, ℕ, suc, ◌+◌, ◌<◌, ◌≤◌, nat_eq, true, ◌||◌, List, [], ◌∷◌, ◌++◌, length, set, get_or, count_by, None, Some, is_some, Vec, refl, sym, ap, subst, ◌∙◌, ◌⊎◌, inl, inr, arith}
use Rattle.std.specs.declared.alloc.Global.{Global}
use Rattle.std.proofs.lemmas.Bool.{true≢false, cases_lt, cases_eq, ne_eqb, eq-eqb, or_parts, or_from, or_right}
use Rattle.std.proofs.lemmas.List.{map_push, length_push}
use Rattle.clay_grid.specs.Shape.{Shape}
use Rattle.store_map.specs.declared.placement.Found.{Found}
use Rattle.store_map.specs.declared.placement.Found.TheVariants as why
use Rattle.store_core.specs.Lists.{is_among}
use Rattle.store_core.specs.Told.{Lost, Told}
use Rattle.store_core.specs.Gathering.{servers_but, lost_at}
use Rattle.run_laws.specs.Stage.{Aim, Asking, Stage, seen_of}
use Rattle.run_laws.specs.Stages.{recover_stage, whole_stage, look_stage, fetch_stage_of}
use Rattle.run_laws.specs.StageAfter.{with_lost, stage_after, server_asked}
use Rattle.gathering.specs.Servers.{wanted_servers, TargetIs, TargetIsGone, AreServers}
use Rattle.gathering.specs.Parts.{Shelf, AreNone, HaveCome, AllHaveCome, is_there}
use Rattle.gathering.specs.Kept.{Keeps}
use Rattle.gathering.proofs.Among.{not_before, not_last}
use Rattle.gathering.proofs.Shelves.{there_now, there_still, empty_still, one_more}
use Rattle.gathering.proofs.Stages.{keeps_whole, keeps_repair, keeps_recover, keeps_look, keeps_fetch_of, keeps_unless}

-- a part is there still once another server is missing, and of one that is missing none is wanted
have_lost : (servers left gone : List ℕ) (server : ℕ) (shelf : Shelf) → HaveCome servers (server ∷ left) gone shelf → HaveCome servers left (gone ++ server ∷ []) shelf
have_lost servers left gone server shelf have other in_servers not_left not_gone =
    have other in_servers (or_from (nat_eq other server) (is_among other left) (not_last other server gone not_gone) not_left) (not_before other server gone not_gone)

have_more : (servers left gone : List ℕ) (server : ℕ) (shelf : Shelf) → HaveCome servers left gone shelf → HaveCome servers left (gone ++ server ∷ []) shelf
have_more servers left gone server shelf have other in_servers not_left not_gone = have other in_servers not_left (not_before other server gone not_gone)

gone_still : (aim : Aim) (gone : List ℕ) (server : ℕ) → TargetIsGone aim gone → TargetIsGone aim (gone ++ server ∷ [])
gone_still (Aim.Range part) gone server h = tt
gone_still (Aim.Chunk seen target) gone server h = (h.0 ++ server ∷ [], ap (λ l. l ++ server ∷ []) h.1)

target_gone : (aim : Aim) (gone : List ℕ) (server : ℕ) → TargetIs aim server → gone ≡ [] → TargetIsGone aim (gone ++ server ∷ [])
target_gone (Aim.Range part) gone server is nobody = tt
target_gone (Aim.Chunk seen target) gone server is nobody = ([], ap (λ l. l ++ server ∷ []) nobody ∙ ap (λ n. n ∷ []) is)

no_wanted : (g : Shape) (aim : Aim) (server : ℕ) (left gone : List ℕ) (parts : Shelf) → TargetIs aim server → HaveCome (wanted_servers g aim) left gone parts
no_wanted g (Aim.Range part) server left gone parts is = absurd is
no_wanted g (Aim.Chunk seen target) server left gone parts is = λ other h. absurd (true≢false (sym h))

servers_more : (g : Shape) (aim : Aim) (missing : List Lost) (gone : List ℕ) (server : ℕ) (found : Found) → AreServers missing gone
    → AreServers (with_lost g aim missing server found) (gone ++ server ∷ [])
servers_more g aim missing gone server found is =
    map_push (λ (lost : Lost). lost.server) missing (lost_at g (seen_of aim) server found) ∙ ap (λ l. l ++ server ∷ []) is

-- the helpers that stay where a server is found missing: none before two are missing, and then those that were there
pub record Stay (gone : List ℕ) (before after : Shelf) : Type 0 where
  pub few : length gone < 2 → AreNone after
  pub many : 2 ≤ length gone → after ≡ before

still_none : (gone : List ℕ) (before after : Shelf) → Stay gone before after → AreNone before → AreNone after
still_none gone before after stay none = by (cases_lt (length gone) 2)
  where
    by : (length gone < 2) ⊎ (2 ≤ length gone) → AreNone after
    by (inl few) = stay.few few
    by (inr many) = subst AreNone (sym (stay.many many)) none

long_now : (gone : List ℕ) (server n : ℕ) → n ≤ length gone → n + 1 ≤ length (gone ++ server ∷ [])
long_now gone server n h = omega (arith, h, length_push gone server)

module _ (g : Shape) (aim : Aim) (gone : List ℕ) (parts before after : Shelf) where
  -- a server is found missing
  pub told_missing : (asking : Asking) (found : Found) → Keeps g aim gone parts before (Stage.Asks asking) → Stay gone before after
      → Keeps g aim (gone ++ server_asked g aim asking ∷ []) parts after (stage_after g aim asking (Told.Missing found))
  told_missing (Asking.Fetch server more missing) found k stay =
      keeps_unless g aim (gone ++ server ∷ []) parts after (with_lost g aim missing server found) (fetch_stage_of g aim more (with_lost g aim missing server found))
      (keeps_fetch_of g aim (gone ++ server ∷ []) parts after more (with_lost g aim missing server found)
      (have_lost (wanted_servers g aim) more gone server parts k.wanted) (gone_still aim gone server k.target)
      (servers_more g aim missing gone server found k.servers) (still_none gone before after stay k.none))
  told_missing (Asking.Look server more missing) found k stay =
      keeps_unless g aim (gone ++ server ∷ []) parts after (with_lost g aim missing server found) (look_stage g (seen_of aim) more (with_lost g aim missing server found))
      (keeps_look g aim (gone ++ server ∷ []) parts after (seen_of aim) more (with_lost g aim missing server found)
      (have_more (wanted_servers g aim) [] gone server parts k.wanted) (gone_still aim gone server k.target)
      (servers_more g aim missing gone server found k.servers) (still_none gone before after stay k.none))
  told_missing (Asking.Repair server more lost) found k stay =
      let one : length gone ≡ 1 = ap length k.only in
      keeps_unless g aim (gone ++ server ∷ []) parts after (with_lost g aim (lost ∷ []) server found) (recover_stage g (seen_of aim) (with_lost g aim (lost ∷ []) server found))
      (keeps_recover g aim (gone ++ server ∷ []) parts after (seen_of aim) (with_lost g aim (lost ∷ []) server found)
      (have_more (wanted_servers g aim) [] gone server parts k.wanted) (gone_still aim gone server k.target)
      (servers_more g aim (lost ∷ []) gone server found (sym k.only)) (long_now gone server 1 (omega (arith, one))) (stay.few (omega (arith, one))))
  told_missing (Asking.Whole server more wanted missing) found k stay =
      let same : after ≡ before = stay.many k.many in
      keeps_unless g aim (gone ++ server ∷ []) parts after (with_lost g aim missing server found) (whole_stage g more (suc wanted) (with_lost g aim missing server found))
      (keeps_whole g aim (gone ++ server ∷ []) parts after more (suc wanted) (with_lost g aim missing server found)
      (have_more (wanted_servers g aim) [] gone server parts k.wanted) (gone_still aim gone server k.target)
      (omega (arith, k.many, length_push gone server)) k.apart.1
      (λ other h. ap (λ shelf. get_or shelf other None) same ∙ k.empty other (or_right (nat_eq other server) (is_among other more) h))
      (ap (λ shelf. count_by is_some shelf + suc wanted) same ∙ k.enough))
  told_missing (Asking.Target server) (why.Absent epoch) k stay =
      keeps_look g aim (gone ++ server ∷ []) parts after (seen_of aim) (servers_but g (seen_of aim) (server ∷ [])) (with_lost g aim [] server (why.Absent epoch))
      (no_wanted g aim server [] (gone ++ server ∷ []) parts k.target) (target_gone aim gone server k.target k.nobody)
      (servers_more g aim [] gone server (why.Absent epoch) (sym k.nobody)) (still_none gone before after stay k.none)
  told_missing (Asking.Target server) (why.Away downs) k stay = tt

module _ (g : Shape) (aim : Aim) (gone : List ℕ) (parts helpers : Shelf) where
  -- a server says that it has its chunk
  pub told_here : (asking : Asking) → Keeps g aim gone parts helpers (Stage.Asks asking) → Keeps g aim gone parts helpers (stage_after g aim asking Told.Here)
  told_here (Asking.Fetch server more missing) k = tt
  told_here (Asking.Look server more missing) k = keeps_look g aim gone parts helpers (seen_of aim) more missing k.wanted k.target k.servers k.none
  told_here (Asking.Repair server more lost) k = tt
  told_here (Asking.Whole server more wanted missing) k = tt
  told_here (Asking.Target server) k = tt

  -- wanted layers come
  pub told_wanted : (server : ℕ) (more : List ℕ) (missing : List Lost) (layers : ℕ) (bytes : Vec ℕ Global) → server < length parts
      → Keeps g aim gone parts helpers (Stage.Asks (Asking.Fetch server more missing))
      → Keeps g aim gone (set parts server (Some bytes)) helpers (stage_after g aim (Asking.Fetch server more missing) (Told.Given layers))
  told_wanted server more missing layers bytes below k =
      keeps_fetch_of g aim gone (set parts server (Some bytes)) helpers more missing have k.target k.servers k.none
    where
      have : HaveCome (wanted_servers g aim) more gone (set parts server (Some bytes))
      have other in_servers not_left not_gone = by (cases_eq other server)
        where
          by : (other ≡ server) ⊎ (other ≡ server → ⊥) → is_there other (set parts server (Some bytes)) ≡ true
          by (inl same) = ap (λ n. is_there n (set parts server (Some bytes))) same ∙ there_now server bytes parts below
          by (inr apart) =
              there_still server other bytes parts
              (k.wanted other in_servers (or_from (nat_eq other server) (is_among other more) (ne_eqb other server apart) not_left) not_gone) below

  -- repair layers come
  pub told_repair : (server : ℕ) (more : List ℕ) (lost : Lost) (layers : ℕ) (bytes : Vec ℕ Global) → server < length helpers
      → Keeps g aim gone parts helpers (Stage.Asks (Asking.Repair server more lost))
      → Keeps g aim gone parts (set helpers server (Some bytes)) (stage_after g aim (Asking.Repair server more lost) (Told.Given layers))
  told_repair server more lost layers bytes below k =
      let apart = or_parts (nat_eq lost.server server) (is_among lost.server more) k.not_asked in
      keeps_repair g aim gone parts (set helpers server (Some bytes)) more lost k.wanted k.target k.only others apart.1
      (empty_still server lost.server bytes helpers apart.0 k.empty)
    where
      others : AllHaveCome g more gone (set helpers server (Some bytes))
      others other there not_left not_gone = by (cases_eq other server)
        where
          by : (other ≡ server) ⊎ (other ≡ server → ⊥) → is_there other (set helpers server (Some bytes)) ≡ true
          by (inl same) = ap (λ n. is_there n (set helpers server (Some bytes))) same ∙ there_now server bytes helpers below
          by (inr apart) =
              there_still server other bytes helpers
              (k.others other there (or_from (nat_eq other server) (is_among other more) (ne_eqb other server apart) not_left) not_gone) below

  -- a whole chunk comes
  pub told_whole : (server : ℕ) (more : List ℕ) (wanted : ℕ) (missing : List Lost) (layers : ℕ) (bytes : Vec ℕ Global) → server < length helpers
      → Keeps g aim gone parts helpers (Stage.Asks (Asking.Whole server more wanted missing))
      → Keeps g aim gone parts (set helpers server (Some bytes)) (stage_after g aim (Asking.Whole server more wanted missing) (Told.Given layers))
  told_whole server more wanted missing layers bytes below k =
      let first : get_or helpers server None ≡ None = k.empty server (ap (λ b. b || is_among server more) (eq-eqb server server refl)) in
      let count : count_by is_some (set helpers server (Some bytes)) ≡ count_by is_some helpers + 1 = one_more server bytes helpers below first in
      keeps_whole g aim gone parts (set helpers server (Some bytes)) more wanted missing k.wanted k.target k.many k.apart.1
      (λ other h. empty_still server other bytes helpers (ne_eqb other server (λ same. true≢false (sym h ∙ ap (λ n. is_among n more) same ∙ k.apart.0)))
      (k.empty other (or_right (nat_eq other server) (is_among other more) h)))
      (omega (arith, count, k.enough))

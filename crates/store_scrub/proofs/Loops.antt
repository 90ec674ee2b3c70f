-- What loops have listed, and one step more of each.
use Rattle.std.proofs.Common.{◌≡◌, ℕ, ◌+◌, ◌<◌, Bool, true, false, not, List, [], ◌∷◌, ◌++◌, length, map, get_or, take, filter, sym, ap, ◌∙◌}
use Rattle.std.specs.List.{range_with_len, flat_map, enumerate_from}
use Rattle.std.proofs.lemmas.List.{flat_map_more, get_or-map}
use Rattle.store_core.specs.Lists.{is_among}
use Rattle.store_core.specs.Server.{Server, new_server}
use Rattle.chunk_server.specs.State.{ServerState}
use Rattle.chunk_server.specs.Core.{core_of}
use Rattle.store_scrub.proofs.Lists.{numbers_more, read_more, pairs_more, kept_more, left_more}

-- numbers that a test keeps
module _ {Y : Type 0} (f : ℕ → Y) (p : ℕ → Bool) (before now next : List Y) (n : ℕ) where
  pub number_kept : now ≡ before ++ map f (filter p (range_with_len 0 n)) → p n ≡ true → next ≡ now ++ f n ∷ []
      → next ≡ before ++ map f (filter p (range_with_len 0 (n + 1)))
  number_kept so_far passes one =
      one ∙ ap (λ l. l ++ f n ∷ []) so_far ∙ kept_more f p before (range_with_len 0 n) n passes
      ∙ ap (λ l. before ++ map f (filter p l)) (sym (numbers_more n))

  pub number_left : now ≡ before ++ map f (filter p (range_with_len 0 n)) → p n ≡ false → next ≡ now
      → next ≡ before ++ map f (filter p (range_with_len 0 (n + 1)))
  number_left so_far fails same =
      same ∙ so_far ∙ left_more f p before (range_with_len 0 n) n fails ∙ ap (λ l. before ++ map f (filter p l)) (sym (numbers_more n))

-- items that a test keeps
module _ {X Y : Type 0} (f : X → Y) (p : X → Bool) (before now next : List Y) (xs : List X) (i : ℕ) (x : X) (below : i < length xs) (is : x ≡ get_or xs i x) where
  pub item_kept : now ≡ before ++ map f (filter p (take i xs)) → p x ≡ true → next ≡ now ++ f x ∷ []
      → next ≡ before ++ map f (filter p (take (i + 1) xs))
  item_kept so_far passes one =
      one ∙ ap (λ l. l ++ f x ∷ []) so_far ∙ kept_more f p before (take i xs) x passes
      ∙ ap (λ l. before ++ map f (filter p l)) (sym (read_more xs i x below is))

  pub item_left : now ≡ before ++ map f (filter p (take i xs)) → p x ≡ false → next ≡ now
      → next ≡ before ++ map f (filter p (take (i + 1) xs))
  item_left so_far fails same =
      same ∙ so_far ∙ left_more f p before (take i xs) x fails ∙ ap (λ l. before ++ map f (filter p l)) (sym (read_more xs i x below is))

-- a list for each item
module _ {X Y : Type 0} (f : X → List Y) (before now next : List Y) (xs : List X) (i : ℕ) (x : X) (below : i < length xs) (is : x ≡ get_or xs i x) where
  pub item_more : now ≡ before ++ flat_map f (take i xs) → next ≡ now ++ f x → next ≡ before ++ flat_map f (take (i + 1) xs)
  item_more so_far one =
      one ∙ ap (λ l. l ++ f x) so_far ∙ flat_map_more f before (take i xs) x ∙ ap (λ l. before ++ flat_map f l) (sym (read_more xs i x below is))

-- a list for each item with its number
module _ {X Y : Type 0} (f : ℕ × X → List Y) (before now next : List Y) (xs : List X) (i : ℕ) (x : X) (below : i < length xs) (is : x ≡ get_or xs i x) where
  pub pair_more : now ≡ before ++ flat_map f (take i (enumerate_from 0 xs)) → next ≡ now ++ f (i, x) → next ≡ before ++ flat_map f (take (i + 1) (enumerate_from 0 xs))
  pair_more so_far one =
      one ∙ ap (λ l. l ++ f (i, x)) so_far ∙ flat_map_more f before (take i (enumerate_from 0 xs)) (i, x)
      ∙ ap (λ l. before ++ flat_map f l) (sym (pairs_more xs i x below is))

-- whether a server lacks a version, by the definitions' list of servers
pub lacks_at : (servers : List ServerState) (i : ℕ) (s : ServerState) (version : ℕ) (lacks : Bool) → i < length servers → s ≡ get_or servers i s
    → lacks ≡ not (is_among version (core_of s).held) → not (is_among version (get_or (map core_of servers) i new_server).held) ≡ lacks
lacks_at servers i s version lacks below is e =
    ap (λ (one : Server). not (is_among version one.held)) (get_or-map core_of servers i s new_server below ∙ ap core_of (sym is)) ∙ sym e

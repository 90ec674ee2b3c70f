-- Snapshots that are taken, and those that aren't for want of memory.
use Rattle.std.proofs.Common.{◌≡◌, ℕ, min, ◌≤◌, ◌<◌, List, ◌++◌, length, map, take, drop, All, Result, Ok, Err, OnOk, is_err, false, inl, inr, refl, sym, ap, subst, ◌∙◌, arith}
use Rattle.std.proofs.lemmas.Bool.{true≢false}
use Rattle.std.proofs.lemmas.List.{length-map, length-take, take_all, take-append-drop, get_or-take}
use Rattle.clay_grid.specs.Shape.{stripe_length}
use Rattle.store_core.specs.Sound.{IsSound}
use Rattle.version_seal.specs.Entry.{BookOf}
use Rattle.store_core.specs.Directory.{Object}
use Rattle.store_core.specs.Agreement.{ActorToken}
use Rattle.store_core.specs.Tokens.{actor_of}
use Rattle.stripe_stamps.specs.Sealed.{Sealed}
use Rattle.snapshot_view.specs.Snapshots.{KeptOf}
use Rattle.snapshot_view.specs.Tickets.{AgreesWithAll, MayGet, AreOfSame}
use Rattle.snapshot_view.specs.LookSteps.{no_look, AreLooked}
use Rattle.snapshot_view.specs.Taking.{MayTake, IsTaken}
use Rattle.snapshot_view.specs.Releasing.{Released, no_end, end_all}
use Rattle.snapshot_view.specs.Refused.{IsSameButPoints, IsRefused}
use Rattle.snapshot_view.specs.declared.snapshot_fault.SnapFault.TheVariants as fault
use Rattle.snapshot_view.specs.declared.snapshot_fault.SnapRefused.{SnapRefused}
use Rattle.snapshot_view.proofs.Standing.{stands}
use Rattle.snapshot_view.proofs.Restoring.{looks_restored}

-- before any look
pub short_at_once : (number : ℕ) (tokens : List ActorToken) (before : Sealed) (refused : SnapRefused) → length before.core.objects ≤ length tokens → refused.why ≡ fault.OutOfMemory
    → refused.tickets.items ≡ tokens → AgreesWithAll before.core tokens → IsRefused number tokens before before refused
short_at_once number tokens before refused enough why same agrees = record {
  case = inr (record {
    enough = enough;
    why = why;
    made = 0;
    some = omega arith;
    looked = no_look before.core;
    looks = refl;
    ended = no_end before.core;
    ends = refl;
    directory = refl;
    same = refl;
    tickets = same;
  });
  actors = ap (map actor_of) same;
  agrees = subst (AgreesWithAll before.core) (sym same) agrees;
}

-- after some
pub given_up : (number : ℕ) (before mid after : Sealed) (tokens looked now : List ActorToken) (kept : List KeptOf) (reaps : List ℕ) (refused : SnapRefused)
    → length before.core.objects ≤ length tokens → length kept ≤ length before.core.objects → AreLooked number before mid tokens looked kept
    → record { directory = after.core; tokens = take (length kept) now; reaps = reaps } ≡ end_all number (no_end mid.core) (take (length kept) looked)
    → drop (length kept) now ≡ drop (length kept) looked → after.book ≡ mid.book → after.stamps ≡ mid.stamps → MayTake before.core number tokens → refused.why ≡ fault.OutOfMemory → refused.tickets.items ≡ now → AreOfSame looked now → AgreesWithAll after.core now
    → IsRefused number tokens before after refused
given_up number before mid after tokens looked now kept reaps refused enough some looks ends rest book stamps may why same actors agrees = record {
  case = inr (record {
    enough = enough;
    why = why;
    made = length kept;
    some = some;
    looked = record { directory = mid.core; tokens = take (length kept) looked };
    looks = looks.looks;
    ended = record { directory = after.core; tokens = take (length kept) now; reaps = reaps };
    ends = ends;
    directory = refl;
    same = but_points;
    tickets = same ∙ sym (take-append-drop (length kept) now) ∙ ap (λ l. take (length kept) now ++ l) (rest ∙ looks.rest);
  });
  actors = ap (map actor_of) same ∙ actors ∙ looks.actors;
  agrees = subst (AgreesWithAll after.core) (sym same) agrees;
}
  where
    n : ℕ
    n = length kept

    first_may : All (MayGet number) (take n tokens)
    first_may k token within =
        let all : length (take n tokens) ≡ min n (length tokens) = length-take n tokens in
        let every : length (take (length before.core.objects) tokens) ≡ min (length before.core.objects) (length tokens) = length-take (length before.core.objects) tokens in
        let first : k < n = omega (arith, within, all) in
        let among : k < length before.core.objects = omega (arith, first, some) in
        subst (MayGet number) (get_or-take (length before.core.objects) tokens k token among ∙ sym (get_or-take n tokens k token first)) (may.may k token (omega (arith, among, every, enough)))

    restored : after.core ≡ record (mid.core) { passes = before.core.passes }
    restored =
        ap (λ (r : Released). r.directory) ends
        ∙ looks_restored number before.core mid.core tokens looked n (omega (arith, enough, some)) looks.begun looks.calls looks.agrees.apart looks.actors may.agrees.each first_may

    but_points : IsSameButPoints before after
    but_points =
        (λ i. record { core = restored i; book = book i; stamps = stamps i })
        ∙ (λ i. record (looks.same i) { core = record ((looks.same i).core) { passes = before.core.passes } })
        ∙ (λ i. record before { core = record (before.core) { points = (sym restored i).points } })

-- with fewer tickets than objects
pub too_many : (number : ℕ) (tokens : List ActorToken) (before : Sealed) (refused : SnapRefused) → length tokens < length before.core.objects → refused.why ≡ fault.TooMany (length before.core.objects)
    → refused.tickets.items ≡ tokens → AgreesWithAll before.core tokens → IsRefused number tokens before before refused
too_many number tokens before refused more why same agrees = record {
  case = inl (record { more = more; why = why; directory = refl; tickets = same });
  actors = ap (map actor_of) same;
  agrees = subst (AgreesWithAll before.core) (sym same) agrees;
}

-- after all
pub is_taken : (number : ℕ) (before after : Sealed) (tokens now : List ActorToken) (kept : List KeptOf) (book : BookOf) → 0 < stripe_length before.core.shape → IsSound before.core
    → before.book.geometry ≡ before.core.shape → book ≡ before.book → AreLooked number before after tokens now kept → length kept ≡ length (map (λ (o : Object). o.name) before.core.objects)
    → IsTaken number tokens before after (record { book = book; number = number; objects = kept; tokens = now })
is_taken number before after tokens now kept book some sound code same looked all = record {
  book = same;
  its_number = refl;
  all = all ∙ length-map before.core.objects (λ (o : Object). o.name);
  looked = looked;
  stands = λ calls has have name. stands before sound some kept looked.found names book.geometry (ap (λ (b : BookOf). b.geometry) same ∙ code) calls has have name;
}
  where
    names : map (λ (k : KeptOf). k.name) kept ≡ map (λ (o : Object). o.name) before.core.objects
    names =
        looked.names
        ∙ take_all (length kept) (map (λ (o : Object). o.name) before.core.objects) (omega (arith, all))

-- what holds where a result is ok, of one that is
pub where_ok : {A E : Type 0} (holds : Type 0) (result : Result A E) → is_err result ≡ false → OnOk result holds → holds
where_ok holds (Ok x) ok h = h
where_ok holds (Err error) ok h = absurd (true≢false ok)

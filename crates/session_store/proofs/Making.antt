-- A call's step at a server as its machine makes it.
use Rattle.std.proofs.Common.{◌≡◌, ℕ, ◌<◌, length, get_or, set, sym, ap, subst, ◌∙◌, inr}
use Rattle.clay_grid.specs.Shape.{chunk_count, stripe_length}
use Rattle.store_core.specs.Act.{Act}
use Rattle.store_core.specs.Agreement.{Agrees}
use Rattle.store_core.specs.Server.{Server}
use Rattle.version_seal.specs.Entry.{BookOf}
use Rattle.chunk_server.specs.Core.{core_of}
use Rattle.chunk_server.specs.State.{ServerState, IsSame}
use Rattle.stripe_stamps.specs.ItsStripes.{IsWhole}
use Rattle.stripe_stamps.specs.Sealed.{Sealed}
use Rattle.stripe_stamps.specs.Stamped.{HasStamps}
use Rattle.call_steps.specs.declared.need.Need.TheVariants as need
use Rattle.call_steps.specs.CallOf.{CallOf, act_of}
use Rattle.call_steps.specs.Steps.{need_of, at_server_by, LeadsToAtServer, HoldsItsPass, MayMakeNext}
use Rattle.call_machine.specs.Calls.{MachineOf, KnowsOldOf}
use Rattle.session_store.specs.declared.places.SessionPlaces.{SessionPlaces}
use Rattle.session_store.specs.Places.{AreServers}
use Rattle.session_store.specs.Stepping.{MayStep, HasStepped}
use Rattle.session_store.proofs.Lists.{got, servers_set}

-- ---- the step at a server
module _ (c after : MachineOf) (p : SessionPlaces) (may_step : MayStep c p) (i : ℕ) (x one : ServerState) (below : i < chunk_count c.call.book.geometry) (read : x ≡ get_or p.servers.items i x) where
  pub there : i < length p.servers.items
  there = subst (λ n. i < n) (ap (λ (b : BookOf). chunk_count b.geometry) may_step.book ∙ sym may_step.places.servers.count) below

  pub its_number : x.number ≡ i
  its_number = (may_step.places.servers.each i x (got p.servers.items i x there read)).0

  pub its_book : x.book ≡ c.call.book
  its_book = (may_step.places.servers.each i x (got p.servers.items i x there read)).1 ∙ sym may_step.book

  pub stepped_here : (now : SessionPlaces) → 0 < stripe_length p.directory.core.shape → IsWhole p.directory.core → HasStamps p.directory → need_of c.call ≡ need.Server i → HoldsItsPass c.call → MayMakeNext c.call →
      LeadsToAtServer c.call (core_of x) after.call (core_of one) → ((d : Sealed) → KnowsOldOf d c → KnowsOldOf d after) → after.asked ≡ c.asked → after.owed ≡ c.owed → IsSame x one →
      now.servers.items ≡ set p.servers.items i one → now.directory ≡ p.directory → now.book ≡ p.book → HasStepped c p after now
  stepped_here now wide whole stamped needs holds may leads knows asked owed same items directory book = record {
    wide = wide;
    whole = whole;
    stamped = stamped;
    holds = holds;
    may = may;
    same = record {
      places = record {
        free = ap (λ (b : BookOf). b.script) book ∙ may_step.places.free;
        book = ap (λ (d : Sealed). d.book) directory ∙ may_step.places.book ∙ sym book;
        servers =
            subst (λ l. AreServers now.book l) (sym items)
            (subst (λ (b : BookOf). AreServers b (set p.servers.items i one)) (sym book)
            (servers_set p.book p.servers.items i one may_step.places.servers (same.number ∙ its_number) (same.book ∙ its_book ∙ may_step.book)));
      };
      book = book;
    };
    asked = asked;
    agrees = subst (λ (d : Sealed). Agrees d.core after.call.token) (sym directory) (subst (Agrees p.directory.core) (sym (token_by (act_of c.call) leads)) may_step.agrees);
    knows = subst (λ d. KnowsOldOf d after) (sym directory) (knows p.directory may_step.knows);
    step = inr (record {
      server = i;
      before = x;
      left = one;
      needs = needs;
      less = there;
      read = read;
      leads = leads;
      items = items;
      directory = directory;
      owed = owed;
    });
  }
    where
      token_by : (act : Act) → (core_of one, after.call) ≡ at_server_by act after.call.step after.call.due c.call (core_of x) → after.call.token ≡ c.call.token
      token_by (Act.AtServer server step) e = ap (λ (r : Server × CallOf). r.1.token) e
      token_by (Act.AtDirectory step) e = ap (λ (r : Server × CallOf). r.1.token) e
      token_by (Act.Finish outcome) e = ap (λ (r : Server × CallOf). r.1.token) e

use Rattle.std.proofs.Common.{rules, vec_len, ◌≡◌, ◌∷◌, [], List, length, None, Some, get_or, refl, ap, ◌∙◌}
use Rattle.std.specs.List.{remove}
use Rattle.store_core.specs.Agreement.{Seat, ActorToken}
use Rattle.stripe_dir.specs.Seats.{client_seat, repairer_seat}
use Rattle.session_store.specs.declared.session_parts.Parts.{Parts}
use Rattle.session_store.proofs.First.{first_store}
use Rattle.session_store.proofs.new_store.with_seats.Goals as goal

pub destroy_empty-requires : goal.destroy_empty-requires
destroy_empty-requires c =
    let count : vec_len c.remove-healer.new.self ≡ length c.remove-healer.new.self.items = search rules in
    count
    ∙ ap length
    (c.remove-healer.ensures.items
    ∙ ap (λ (l : List Seat). remove l 0) (c.remove-repairer.ensures.items ∙ ap (λ (l : List Seat). remove l 0) c.add_tickets.ensures.seats))

pub returns : goal.returns
returns c =
    let client : c.remove-client.result ≡ client_seat 0 = c.remove-client.ensures.value ∙ ap (λ (l : List Seat). get_or l 0 c.remove-client.result) c.requires.seats in
    let repairer : c.remove-repairer.result ≡ repairer_seat 0 =
    c.remove-repairer.ensures.value ∙ ap (λ (l : List Seat). get_or l 0 c.remove-repairer.result) c.add_tickets.ensures.seats in
    let rest : c.remove-repairer.new.self.items ≡ repairer_seat 1 ∷ [] =
    c.remove-repairer.ensures.items ∙ ap (λ (l : List Seat). remove l 0) c.add_tickets.ensures.seats in
    let healer : c.remove-healer.result ≡ repairer_seat 1 = c.remove-healer.ensures.value ∙ ap (λ (l : List Seat). get_or l 0 c.remove-healer.result) rest in
    let parts : Parts = record {
      alloc = c.args.alloc;
      places = c.args.places;
      served = 0;
      client = Some c.remove-client.result;
      repairer = Some c.remove-repairer.result;
      healer = Some c.remove-healer.result;
      next = 0;
      snapshot = None;
      tickets = Some c.add_tickets.new.tickets;
    } in
    first_store parts c.requires.places (ap (λ (s : Seat). Some s) client) (ap (λ (s : Seat). Some s) repairer) (ap (λ (s : Seat). Some s) healer) refl refl refl
    (ap (λ (l : List ActorToken). Some l) c.add_tickets.ensures.tickets)

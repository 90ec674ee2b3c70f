use Rattle.std.proofs.Common.{refl}
use Rattle.run_seats.specs.declared.seat_turns.Turns.{Turns}
use Rattle.store_run.specs.declared.deck.Deck.{Deck}
use Rattle.store_run.proofs.Dealing.{deal_of, deck_left, turns_new}
use Rattle.store_run.proofs.deck.Deck.deal.Goals as goal

pub deal_row-requires : goal.deal_row-requires
deal_row-requires c = (deal_of c.args.store.now c.args.number, c.requires.deck.servers)

pub returns-clause-turns : goal.returns-clause-turns
returns-clause-turns c =
    let made = c.in_ok-servers.ensures (deal_of c.args.store.now c.args.number) c.requires.deck.servers in
    let now : Deck = record { directory = c.take_last-directory.new.items; servers = c.deal_row.new.piles } in
    let turns : Turns = record { number = c.args.number; directory = c.take_last-directory.result; servers = c.in_ok-servers.servers } in
    turns_new c.args.store.now c.requires.store c.args.number c.args.self.now now turns c.requires.deck c.take_last-directory.ensures made.0 refl

pub returns-clause-deck : goal.returns-clause-deck
returns-clause-deck c =
    let made = c.in_ok-servers.ensures (deal_of c.args.store.now c.args.number) c.requires.deck.servers in
    let now : Deck = record { directory = c.take_last-directory.new.items; servers = c.deal_row.new.piles } in
    let turns : Turns = record { number = c.args.number; directory = c.take_last-directory.result; servers = c.in_ok-servers.servers } in
    deck_left c.args.store.now c.requires.store c.args.number c.args.self.now now turns c.requires.deck c.take_last-directory.ensures made.0 refl made.1

-- `Publisher::publish` (src/publisher.rt): `self` meets the invariant of its type, and its return meets the clauses `served`, `number`,
-- `rest`, `gains` and `loans`.
use Rattle.std.proofs.Common.{◌≡◌, sym, subst, ◌∙◌}
use Rattle.zero_copy_bus.specs.Books.{ChangesAt}
use Rattle.zero_copy_bus.specs.Ends.{next_of, room_of}
use Rattle.zero_copy_bus.specs.Outlets.{AreShown, HaveTheirPlaces}
use Rattle.zero_copy_bus.specs.Pools.{table_of}
use Rattle.zero_copy_bus.proofs.OutletLemmas.{gains_of_all, loans_of_all, number_of_all, rest_after, served_of}
use Rattle.zero_copy_slots.specs.Slots.{lying_number, lying_slot}
use Rattle.zero_copy_bus.proofs.publisher.Publisher.publish.Goals as goal

-- the sends change no holder of a lane, and not which lanes take part
pub invariant_of-self-2 : goal.invariant_of-self-2
invariant_of-self-2 g c =
    let mine = c.args.self.now in
    let sent = c.send_to_all-gained.ensures in
    record {
      sized = mine.sized ∙ sym (c.put_back.ensures.same.slots ∙ sent.pool.slots);
      fits = mine.fits;
      placed = subst HaveTheirPlaces (sym sent.holders) mine.placed;
      shown = subst (AreShown mine.roll) (sym sent.taking) mine.shown;
    }

-- all lanes were served, and then the publisher gave the slot up, which changes nothing for subscribers
pub returns-clause-served : goal.returns-clause-served
returns-clause-served g c has =
    let lying = c.put-lying.result.0 in
    let slot = c.slot-slot.result in
    let at : lying_slot lying ≡ slot = c.put-lying.ensures.laid.0 ∙ (c.into_parts-value.ensures.at ∙ sym c.slot-slot.ensures) in
    let changes =
    subst (λ h. ChangesAt slot h (table_of c.send_to_all-gained.new.pool) (table_of c.put_back.new.self)) c.publisher.ensures
    c.put_back.ensures.changes in
    served_of (lying_slot lying) slot c.args.loan.slot (table_of c.args.self.now.pool) (table_of c.send_to_all-gained.new.pool)
    (table_of c.put_back.new.self) c.args.self.now.outlets.items c.send_to_all-gained.new.outlets.items at c.slot-slot.ensures changes
    (room_of c.args.self.now) (lying_number lying) (next_of c.args.self.now) c.put-lying.ensures.laid.1 c.send_to_all-gained.ensures.served

-- how many subscribers gained the slot was counted while the lanes were served
pub returns-clause-number : goal.returns-clause-number
returns-clause-number g c has =
    let lying = c.put-lying.result.0 in
    let slot = c.slot-slot.result in
    let at : lying_slot lying ≡ slot = c.put-lying.ensures.laid.0 ∙ (c.into_parts-value.ensures.at ∙ sym c.slot-slot.ensures) in
    let changes =
    subst (λ h. ChangesAt slot h (table_of c.send_to_all-gained.new.pool) (table_of c.put_back.new.self)) c.publisher.ensures
    c.put_back.ensures.changes in
    number_of_all (lying_slot lying) slot c.args.loan.slot (table_of c.args.self.now.pool) (table_of c.send_to_all-gained.new.pool)
    (table_of c.put_back.new.self) c.args.self.now.outlets.items c.send_to_all-gained.new.outlets.items at c.slot-slot.ensures changes
    c.send_to_all-gained.result c.send_to_all-gained.ensures.number

-- bits without a lane are unchanged by the sends and by the publisher's own change
pub returns-clause-rest : goal.returns-clause-rest
returns-clause-rest g c =
    let slot = c.slot-slot.result in
    let changes =
    subst (λ h. ChangesAt slot h (table_of c.send_to_all-gained.new.pool) (table_of c.put_back.new.self)) c.publisher.ensures
    c.put_back.ensures.changes in
    rest_after 0 0 slot (table_of c.args.self.now.pool) (table_of c.send_to_all-gained.new.pool) (table_of c.put_back.new.self)
    c.args.self.now.outlets.items c.send_to_all-gained.new.outlets.items changes c.send_to_all-gained.ensures.rest

-- nobody gains another slot by the sends, nor by the publisher's own change, and no other slot comes on loan or leaves it
pub returns-clause-gains : goal.returns-clause-gains
returns-clause-gains g c =
    let lying = c.put-lying.result.0 in
    let slot = c.slot-slot.result in
    let at : lying_slot lying ≡ slot = c.put-lying.ensures.laid.0 ∙ (c.into_parts-value.ensures.at ∙ sym c.slot-slot.ensures) in
    let changes =
    subst (λ h. ChangesAt slot h (table_of c.send_to_all-gained.new.pool) (table_of c.put_back.new.self)) c.publisher.ensures
    c.put_back.ensures.changes in
    gains_of_all (lying_slot lying) slot c.args.loan.slot (table_of c.args.self.now.pool) (table_of c.send_to_all-gained.new.pool)
    (table_of c.put_back.new.self) c.args.self.now.outlets.items c.send_to_all-gained.new.outlets.items at c.slot-slot.ensures changes
    c.put_back.ensures.gains c.send_to_all-gained.ensures.gains

pub returns-clause-loans : goal.returns-clause-loans
returns-clause-loans g c =
    let lying = c.put-lying.result.0 in
    let slot = c.slot-slot.result in
    let at : lying_slot lying ≡ slot = c.put-lying.ensures.laid.0 ∙ (c.into_parts-value.ensures.at ∙ sym c.slot-slot.ensures) in
    let changes =
    subst (λ h. ChangesAt slot h (table_of c.send_to_all-gained.new.pool) (table_of c.put_back.new.self)) c.publisher.ensures
    c.put_back.ensures.changes in
    loans_of_all (lying_slot lying) slot c.args.loan.slot (table_of c.args.self.now.pool) (table_of c.send_to_all-gained.new.pool)
    (table_of c.put_back.new.self) c.args.self.now.outlets.items c.send_to_all-gained.new.outlets.items at c.slot-slot.ensures changes
    c.send_to_all-gained.ensures.loans

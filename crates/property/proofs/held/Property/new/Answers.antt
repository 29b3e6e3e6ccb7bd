use Rattle.std.proofs.Common.{vec_items, arith}
use Rattle.property.proofs.Filled.{always_held}
use Rattle.property.proofs.held.Property.new.Goals as goal

pub invariant_of-result : goal.invariant_of-result
invariant_of-result c =
    let made = c.in_ok-lines.ensures in
    record {
      room = omega (arith, made.capacity, c.push_reserved.ensures.capacity);
      fits = always_held (vec_items c.in_ok-lines.lines) (vec_items c.push_reserved.new.self) made.items c.push_reserved.ensures.items;
    }

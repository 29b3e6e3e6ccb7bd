use Rattle.std.proofs.Common.{vec_items, arith}
use Rattle.property.proofs.Filled.{readable, filled_fits}
use Rattle.property.proofs.held.Property.fill.Goals as goal

pub fill_lines-requires : goal.fill_lines-requires
fill_lines-requires c =
    let told = c.sections-sections in
    let r = readable c.args.reader.now.sheet.now c.requires told.result.records.now told.result.conditions.now told.ensures.records told.ensures.conditions in
    record { room = omega (arith, r.few, c.args.self.now.room); each = r.each }

pub invariant_of-self : goal.invariant_of-self
invariant_of-self c =
    let told = c.sections-sections in
    record {
      room = omega (arith, c.fill_lines.ensures.room, c.args.self.now.room);
      fits = filled_fits c.args.reader.now.sheet.now c.requires told.result.records.now told.result.conditions.now told.ensures.records told.ensures.conditions (vec_items c.fill_lines.new.lines) c.byte-self.result c.byte-self-2.result c.fill_lines.ensures.items c.byte-self.ensures c.byte-self-2.ensures;
    }

use Rattle.std.proofs.Common.{arith}
use Rattle.property_sheet.proofs.Contents.{content_lawful}
use Rattle.property.specs.Contents.{content_of}
use Rattle.property.proofs.held.Property.line_count.Goals as goal

pub overflow_cast-result : goal.overflow_cast-result
overflow_cast-result c =
    let held = c.args.self.now in
    let lawful = content_lawful (content_of held) held.fits in
    record { fits = omega (arith, lawful.lines_high, held.lines.ok, c.len.ensures) }

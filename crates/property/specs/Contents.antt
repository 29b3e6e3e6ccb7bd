-- What a property in memory holds.
use Rattle.std.specs.Prelude.{vec_items}
use Rattle.property_sheet.specs.Contents.{Content}
use Rattle.property.specs.declared.held.Property.{Property}
use Rattle.property.specs.Parts.{content_with}

abbrev pub content_of : Property → Content
content_of p = content_with (vec_items p.lines) p.clocks p.constant

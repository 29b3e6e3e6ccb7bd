use Rattle.property_sheet.proofs.Contents.{content_lawful}
use Rattle.property.specs.Contents.{content_of}
use Rattle.property.proofs.held.Property.keeps_limits.Goals as goal

pub returns : goal.returns
returns c = content_lawful (content_of c.args.self.now) c.args.self.now.fits

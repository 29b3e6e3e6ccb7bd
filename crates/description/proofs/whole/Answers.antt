use Rattle.std.proofs.Common.{◌≡◌, ℕ, List, ◌++◌, length, IfOk, string_bytes, subst}
use Rattle.table.specs.Meanings.{meaning_of}
use Rattle.device.specs.Meaning.{Meaning}
use Rattle.property.specs.Contents.{content_of}
use Rattle.property_sheet.specs.Contents.{Content}
use Rattle.wording.specs.Devices.{device_text}
use Rattle.wording.specs.Lines.{property_text}
use Rattle.description.specs.Descriptions.{guard_lengths, closing_text, whole_text}
use Rattle.description.proofs.whole.Goals as goal

joined : (m : Meaning) (s : Content) (x y : List ℕ) (e c n : ℕ) → x ≡ device_text m → y ≡ property_text s → e ≡ m.edges → c ≡ guard_lengths m 0 e → n ≡ length s.lines → x ++ (y ++ closing_text e c n) ≡ whole_text m s
joined m s x y e c n p q r t u = cc

pub returns : goal.returns
returns c =
    let whole = joined (meaning_of c.args.device.now) (content_of c.args.property.now) _ _ _ _ _ c.in_ok-device_part.ensures c.in_ok-property_part.ensures c.number-edges.ensures c.guard_lengths-conditions.ensures c.line_count-lines.ensures in
    subst (λ z. IfOk c.format.result (λ t. string_bytes t ≡ z)) whole c.format.ensures.ok

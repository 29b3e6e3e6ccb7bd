use Rattle.std.proofs.Common.{◌/◌, length, ◌∙◌, arith}
use Rattle.property_sheet.proofs.Contents.{lines_from_more}
use Rattle.property.proofs.Cut.{line_of_bytes, readable_bytes}
use Rattle.property.proofs.lines.fill_lines.Goals as goal

pub read_line-requires : goal.read_line-requires
read_line-requires c =
    let rs = c.line_records-bytes-items in
    let k = c.loop-bytes.bytes-index in
    readable_bytes c.args.section.now rs.result.now rs.ensures.value k (omega arith) (length c.args.conditions.now / 4) (c.requires.each k (omega arith))

pub loop-bytes-preserved : goal.loop-bytes-preserved
loop-bytes-preserved c =
    let ls = c.args.section.now in
    let cs = c.args.conditions.now in
    let rs = c.line_records-bytes-items in
    let k = c.loop-bytes.bytes-index in
    let more = lines_from_more ls cs k in
    let read = c.read_line.ensures ∙ line_of_bytes ls rs.result.now rs.ensures.value k (omega arith) cs in
    ((cc), omega arith, omega arith)

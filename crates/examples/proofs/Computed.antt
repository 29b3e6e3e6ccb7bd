-- The table, computed.
use Rattle.std.proofs.Common.{refl}
use Rattle.std.specs.Fmt.{digits}
use Rattle.region.specs.Regions.{region_of, class_of, successor, rises, resting}
use Rattle.region.specs.Conditions.{holds_in}
use Rattle.region.specs.Limits.{within_limits, clock_within}
use Rattle.region_laws.proofs.Examples.{worked_examples}
use Rattle.semantics.specs.Places.{present}
use Rattle.naming.specs.Named.{named, asks_every}
use Rattle.chart.specs.Rows.{same_claim}
use Rattle.chart.specs.Steps.{expand, examine, fails}
use Rattle.chart.specs.Calls.{numbers_of, same_numbers, grow, thin, ask}
use Rattle.judge.specs.Reports.{judged, report_of}
use Rattle.examples.specs.Table.{WorkedTable}

pub worked_table : WorkedTable
unfolding report_of judged grow thin ask numbers_of same_numbers expand examine fails same_claim named asks_every present within_limits clock_within region_of class_of successor rises resting holds_in digits
worked_table = record {
  false_line = refl;
  self_delay = refl;
  delay_false = refl;
  window = refl;
  too_many_nodes = refl;
  sixty_four_nodes = (refl, refl);
  regions = worked_examples;
}

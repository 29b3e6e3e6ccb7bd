-- A device sheet's check passes exactly if its named limits hold.
use Rattle.std.proofs.Common.{ℕ, ◌/◌, List, length, arith}
use Rattle.std.proofs.lemmas.Bool.Decides.{nat_tests}
use Rattle.sheet.specs.declared.kinds.SheetKind.TheVariants.{Device}
use Rattle.sheet.specs.declared.kinds.RecordKind.TheVariants.{Edges}
use Rattle.sheet.specs.Layout.{byte_at, offset_of, section_of}
use Rattle.sheet.proofs.Passed.{Passed, kept_from, passed_from, passed_each, passed_all}
use Rattle.sheet.proofs.Layers.{layers_from, layers_passed}
use Rattle.sheet.proofs.Fitting.{Shared, shared_from, header_passed, directory_passed, conditions_passed}
use Rattle.device_sheet.specs.Edges.{edge_limits}
use Rattle.device_sheet.specs.Sheets.{edges_limits, device_limits}
use Rattle.device_sheet.specs.Fits.{EdgeFits, DeviceFits}

-- one edge
module _ (n c m : ℕ) (es : List ℕ) (at e : ℕ) where
  pub edge_fits_from : Passed (edge_limits n c m es at e) → EdgeFits n c m es e
  edge_fits_from p =
      let k = kept_from (edge_limits n c m es at e) p in
      record {
        source = grind (arith, nat_tests, k.0);
        target = grind (arith, nat_tests, k.1.0);
        action_low = grind (arith, nat_tests, k.1.1.0);
        action_high = grind (arith, nat_tests, k.1.1.0);
        resets = grind (arith, nat_tests, k.1.1.1.0);
        first = grind (arith, nat_tests, k.1.1.1.1.0);
        count = grind (arith, nat_tests, k.1.1.1.1.1.0);
        last = grind (arith, nat_tests, k.1.1.1.1.1.0);
        reserved = grind (arith, nat_tests, k.1.1.1.1.1.1.0);
      }

  pub edge_passed : EdgeFits n c m es e → Passed (edge_limits n c m es at e)
  edge_passed f =
      passed_from (edge_limits n c m es at e) (
        grind (arith, nat_tests, f.source),
        (
          grind (arith, nat_tests, f.target),
          (
            grind (arith, nat_tests, f.action_low, f.action_high),
            (
              grind (arith, nat_tests, f.resets),
              (
                grind (arith, nat_tests, f.first),
                (
                  grind (arith, nat_tests, f.count, f.last),
                  (grind (arith, nat_tests, f.reserved), tt),
                ),
              ),
            ),
          ),
        ),
      )

-- the whole sheet
module _ (b : List ℕ) where
  abbrev limits_at : ℕ → List (Rattle.sheet.specs.Limits.Limit Rattle.sheet.specs.declared.faults.RecordFault.RecordFault)
  limits_at = edge_limits (byte_at b 1) (byte_at b 2) (length (section_of b 1) / 4) (section_of b 0) (offset_of b 0)

  pub device_fits_from : Passed (device_limits b) → DeviceFits b
  device_fits_from p =
      let l = layers_from Device edges_limits b p in
      let s = shared_from Device Edges b l.header l.directory l.conditions in
      record {
        letter = s.letter;
        nodes_low = grind (arith, nat_tests, s.counts.0);
        nodes_high = grind (arith, nat_tests, s.counts.0);
        clocks = grind (arith, nat_tests, s.counts.1.0);
        constant = grind (arith, nat_tests, s.counts.1.1.0);
        start = grind (arith, nat_tests, s.counts.1.1.1.0);
        sheet = s.sheet;
        edges_whole = s.whole;
        edges_most = s.most;
        edges = λ e lt. edge_fits_from (byte_at b 1) (byte_at b 2) (length (section_of b 1) / 4) (section_of b 0) (offset_of b 0) e (passed_each limits_at (length (section_of b 0) / 8) l.records_pass e lt);
      }

  shared : DeviceFits b → Shared Device Edges b
  shared f = record {
    sheet = f.sheet;
    letter = f.letter;
    counts = (
      grind (arith, nat_tests, f.nodes_low, f.nodes_high),
      (grind (arith, nat_tests, f.clocks), (grind (arith, nat_tests, f.constant), (grind (arith, nat_tests, f.start), tt))),
    );
    whole = f.edges_whole;
    least = omega arith;
    most = f.edges_most;
  }

  pub device_passed : DeviceFits b → Passed (device_limits b)
  device_passed f =
      let s = shared f in
      layers_passed Device edges_limits b (record {
        header = header_passed Device Edges b s;
        directory = directory_passed Device Edges b s;
        conditions = conditions_passed Device Edges b s;
        records_pass =
            passed_all limits_at (length (section_of b 0) / 8) 0
            (λ e lo hi. edge_passed (byte_at b 1) (byte_at b 2) (length (section_of b 1) / 4) (section_of b 0) (offset_of b 0) e (f.edges e (omega arith)));
      })

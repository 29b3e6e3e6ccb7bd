-- A property sheet's check passes exactly if its named limits hold.
use Rattle.std.proofs.Common.{◌≡◌, ℕ, ◌/◌, ◌<◌, ◌≤◌, true, List, length, arith}
use Rattle.std.proofs.lemmas.Bool.Decides.{nat_tests}
use Rattle.sheet.specs.declared.kinds.SheetKind.TheVariants.{Property}
use Rattle.sheet.specs.declared.kinds.RecordKind.TheVariants.{Lines}
use Rattle.sheet.specs.declared.faults.RecordFault.{RecordFault}
use Rattle.sheet.specs.Layout.{byte_at, offset_of, section_of}
use Rattle.sheet.specs.Limits.{Limit}
use Rattle.sheet.proofs.Passed.{Passed, kept_from, passed_from, passed_each, passed_all}
use Rattle.sheet.proofs.Layers.{layers_from, layers_passed}
use Rattle.sheet.proofs.Fitting.{Shared, shared_from, header_passed, directory_passed, conditions_passed}
use Rattle.property_sheet.specs.Records.{kind_at, first_at, second_at, number_at, first_fits, second_fits, line_limits}
use Rattle.property_sheet.specs.Sheets.{lines_limits, property_limits}
use Rattle.property_sheet.specs.Fits.{LineFits, PropertyFits}

-- the first operand of a line
module _ (n c m kind p number : ℕ) (e : first_fits n c m kind p number ≡ true) where
  first_unused : kind < 2 → p ≡ 0
  first_unused h = grind (arith, nat_tests)

  first_line : 2 ≤ kind → kind < 6 → p < n
  first_line low high = grind (arith, nat_tests)

  action_low : 6 ≤ kind → kind < 8 → 1 ≤ p
  action_low low high = grind (arith, nat_tests)

  action_high : 6 ≤ kind → kind < 8 → p ≤ 16
  action_high low high = grind (arith, nat_tests)

  clock : kind ≡ 8 → p < c
  clock h = grind (arith, nat_tests)

  condition : kind ≡ 9 → number < m
  condition h = grind (arith, nat_tests)

-- the second operand of a line
module _ (n kind q : ℕ) (e : second_fits n kind q ≡ true) where
  second_unused : kind < 2 → q ≡ 0
  second_unused h = grind (arith, nat_tests)

  second_line : 2 ≤ kind → kind < 4 → q < n
  second_line low high = grind (arith, nat_tests)

  delay_unused : 4 ≤ kind → kind < 6 → q ≡ 0
  delay_unused low high = grind (arith, nat_tests)

  then_line : 6 ≤ kind → kind < 9 → q < n
  then_line low high = grind (arith, nat_tests)

-- one line
module _ (n c m : ℕ) (ls : List ℕ) (at k : ℕ) where
  pub line_fits_from : Passed (line_limits n c m ls at k) → LineFits n c m ls k
  line_fits_from e =
      let kept = kept_from (line_limits n c m ls at k) e in
      let kind = kind_at ls k in
      let p = first_at ls k in
      let q = second_at ls k in
      let number = number_at ls k in
      record {
        kind = grind (arith, nat_tests, kept.0);
        first_unused = first_unused n c m kind p number kept.1.0;
        first_line = first_line n c m kind p number kept.1.0;
        action_low = action_low n c m kind p number kept.1.0;
        action_high = action_high n c m kind p number kept.1.0;
        clock = clock n c m kind p number kept.1.0;
        condition = condition n c m kind p number kept.1.0;
        second_unused = second_unused n kind q kept.1.1.0;
        second_line = second_line n kind q kept.1.1.0;
        delay_unused = delay_unused n kind q kept.1.1.0;
        then_line = then_line n kind q kept.1.1.0;
        reserved = grind (arith, nat_tests, kept.1.1.1.0);
      }

  first_true : LineFits n c m ls k → first_fits n c m (kind_at ls k) (first_at ls k) (number_at ls k) ≡ true
  first_true f =
      grind (arith, nat_tests, f.first_unused, f.first_line, f.action_low, f.action_high, f.clock, f.condition)

  second_true : LineFits n c m ls k → second_fits n (kind_at ls k) (second_at ls k) ≡ true
  second_true f = grind (arith, nat_tests, f.second_unused, f.second_line, f.delay_unused, f.then_line)

  pub line_passed : LineFits n c m ls k → Passed (line_limits n c m ls at k)
  line_passed f =
      passed_from (line_limits n c m ls at k)
      (grind (arith, nat_tests, f.kind), (first_true f, (second_true f, (grind (arith, nat_tests, f.reserved), tt))))

-- the whole sheet
module _ (b : List ℕ) where
  abbrev limits_at : ℕ → List (Limit RecordFault)
  limits_at =
      line_limits (length (section_of b 0) / 4) (byte_at b 2) (length (section_of b 1) / 4) (section_of b 0) (offset_of b 0)

  pub property_fits_from : Passed (property_limits b) → PropertyFits b
  property_fits_from p =
      let l = layers_from Property lines_limits b p in
      let s = shared_from Property Lines b l.header l.directory l.conditions in
      record {
        letter = s.letter;
        reserved_1 = grind (arith, nat_tests, s.counts.0);
        clocks = grind (arith, nat_tests, s.counts.1.0);
        constant = grind (arith, nat_tests, s.counts.1.1.0);
        reserved_4 = grind (arith, nat_tests, s.counts.1.1.1.0);
        sheet = s.sheet;
        lines_whole = s.whole;
        lines_least = s.least;
        lines_most = s.most;
        lines = λ k lt. line_fits_from (length (section_of b 0) / 4) (byte_at b 2) (length (section_of b 1) / 4) (section_of b 0) (offset_of b 0) k (passed_each limits_at (length (section_of b 0) / 4) l.records_pass k lt);
      }

  shared : PropertyFits b → Shared Property Lines b
  shared f = record {
    sheet = f.sheet;
    letter = f.letter;
    counts = (
      grind (arith, nat_tests, f.reserved_1),
      (grind (arith, nat_tests, f.clocks), (grind (arith, nat_tests, f.constant), (grind (arith, nat_tests, f.reserved_4), tt))),
    );
    whole = f.lines_whole;
    least = f.lines_least;
    most = f.lines_most;
  }

  pub property_passed : PropertyFits b → Passed (property_limits b)
  property_passed f =
      let s = shared f in
      layers_passed Property lines_limits b (record {
        header = header_passed Property Lines b s;
        directory = directory_passed Property Lines b s;
        conditions = conditions_passed Property Lines b s;
        records_pass =
            passed_all limits_at (length (section_of b 0) / 4) 0
            (λ k lo hi. line_passed (length (section_of b 0) / 4) (byte_at b 2) (length (section_of b 1) / 4) (section_of b 0) (offset_of b 0) k (f.lines k (omega arith)));
      })

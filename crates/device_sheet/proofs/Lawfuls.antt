-- A table within its limits means a lawful device, and a sheet that is read gives such a table.
use Rattle.std.proofs.Common.{◌≡◌, ℕ, ◌+◌, ◌/◌, ◌<◌, ◌≤◌, Bool, true, false, cond, ltb, List, length, drop, is_ok, Some, None, Ok, Err, Result, refl, ap, ◌∙◌, subst, arith, length-take}
use Rattle.std.proofs.lemmas.Bool.{ltb-true, le-ltb}
use Rattle.device.specs.Meaning.{Meaning, Transition, Lawful, TransitionLawful}
use Rattle.sheet.specs.declared.faults.RecordFault.{RecordFault}
use Rattle.sheet.specs.Layout.{byte_at, offset_of, extent_of, section_of}
use Rattle.sheet.specs.Limits.{of_each, checked}
use Rattle.sheet.specs.Conditions.{condition_limits, conditions_from}
use Rattle.sheet.specs.Fits.{ConditionFits}
use Rattle.sheet.proofs.Passed.{Passed, passed_both, passed_append, passed_each, passed_all}
use Rattle.sheet.proofs.Fitting.{condition_fits_from, condition_passed}
use Rattle.sheet.proofs.Records.{conditions_lawful, conditions_length}
use Rattle.device_sheet.specs.Edges.{transition_at, edge_limits, first_at, count_at}
use Rattle.device_sheet.specs.Sheets.{table_meaning}
use Rattle.device_sheet.specs.Fits.{EdgeFits, DeviceFits}
use Rattle.device_sheet.specs.Tables.{NumbersFit, records_limits, records_fit}
use Rattle.device_sheet.proofs.Fitting.{edge_fits_from, edge_passed}

ok_from : (r : Result (Unit {0}) RecordFault) → is_ok r ≡ true → r ≡ Ok tt
ok_from (Ok u) e = refl
ok_from (Err f) e = absurd (cc)

module _ (n s c k : ℕ) (es cs : List ℕ) (numbers : NumbersFit n s c k) (few : length es / 8 ≤ 256) (fit : records_fit n c k es cs ≡ true) where
  abbrev me : Meaning
  me = table_meaning n s c k es cs

  both : Passed (of_each (condition_limits c k cs 0) 0 (length cs / 4)) × Passed (of_each (edge_limits n c (length cs / 4) es 0) 0 (length es / 8))
  both =
      passed_both (of_each (condition_limits c k cs 0) 0 (length cs / 4)) (of_each (edge_limits n c (length cs / 4) es 0) 0 (length es / 8)) (ok_from (checked (records_limits n c k es cs)) fit)

  condition_at_fits : (j : ℕ) → j < length cs / 4 → ConditionFits c k cs j
  condition_at_fits j h =
      condition_fits_from c k cs 0 j (passed_each (condition_limits c k cs 0) (length cs / 4) both.0 j h)

  pub edge_at_fits : (e : ℕ) → e < length es / 8 → EdgeFits n c (length cs / 4) es e
  edge_at_fits e h =
      edge_fits_from n c (length cs / 4) es 0 e (passed_each (edge_limits n c (length cs / 4) es 0) (length es / 8) both.1 e h)

  transition_lawful : (e : ℕ) → e < length es / 8 → TransitionLawful me (transition_at es cs e)
  transition_lawful e h =
      let f = edge_at_fits e h in
      let len : length (conditions_from cs (first_at es e) (count_at es e)) ≡ count_at es e = conditions_length cs (first_at es e) (count_at es e) in
      let count : count_at es e ≤ 8 = f.count in
      let last : first_at es e + count_at es e ≤ length cs / 4 = f.last in
      record {
        source = f.source;
        target = f.target;
        action_low = f.action_low;
        action_high = f.action_high;
        resets = f.resets;
        guard_length = omega (arith, len, count);
        guard = λ i x eq. conditions_lawful c k cs (first_at es e) (count_at es e) i x (λ j lt. condition_at_fits j (omega (arith, last))) eq;
      }

  past : (e : ℕ) → length es / 8 ≤ e → me.edge_at e ≡ None
  past e h = ap (λ t. cond t (Some (transition_at es cs e)) None) (le-ltb e (length es / 8) h)

  transitions : (e : ℕ) (x : Transition) (t : Bool) → ltb e (length es / 8) ≡ t → cond t (Some (transition_at es cs e)) None ≡ Some x → TransitionLawful me x
  transitions e x true test eq =
      let same : transition_at es cs e ≡ x = cc in subst (TransitionLawful me) same (transition_lawful e (ltb-true e (length es / 8) test))
  transitions e x false test eq = absurd (cc)

  pub table_lawful : Lawful (table_meaning n s c k es cs)
  table_lawful = record {
    nodes_low = numbers.0;
    nodes_high = omega arith;
    start = numbers.2;
    clocks = numbers.3;
    constant = numbers.4;
    most = omega arith;
    edges = omega arith;
    past = past;
    transitions = λ e x eq. transitions e x (ltb e (length es / 8)) refl eq;
  }

-- the numbers and sections of a sheet that fits
module _ (b : List ℕ) (f : DeviceFits b) where
  pub sheet_numbers : NumbersFit (byte_at b 1) (byte_at b 4) (byte_at b 2) (byte_at b 3)
  sheet_numbers = (f.nodes_low, f.nodes_high, f.start, f.clocks, f.constant)

  pub sheet_few : length (section_of b 0) / 8 ≤ 256
  sheet_few =
      let len = length-take (extent_of b 0) (drop (offset_of b 0) b) in
      omega (arith, len, f.edges_most)

  pub sheet_records : records_fit (byte_at b 1) (byte_at b 2) (byte_at b 3) (section_of b 0) (section_of b 1) ≡ true
  sheet_records =
      let n = byte_at b 1 in
      let c = byte_at b 2 in
      let k = byte_at b 3 in
      let es = section_of b 0 in
      let cs = section_of b 1 in
      ap is_ok
      (passed_append (of_each (condition_limits c k cs 0) 0 (length cs / 4)) (of_each (edge_limits n c (length cs / 4) es 0) 0 (length es / 8))
      (passed_all (condition_limits c k cs 0) (length cs / 4) 0 (λ j lo hi. condition_passed c k cs 0 j (f.sheet.conditions j (omega arith))))
      (passed_all (edge_limits n c (length cs / 4) es 0) (length es / 8) 0 (λ e lo hi. edge_passed n c (length cs / 4) es 0 e (f.edges e (omega arith)))))

-- the same of numbers and sections that calls told
module _ (b : List ℕ) (f : DeviceFits b) (n s c k : ℕ) (es cs : List ℕ) (n-is : n ≡ byte_at b 1) (s-is : s ≡ byte_at b 4) (c-is : c ≡ byte_at b 2) (k-is : k ≡ byte_at b 3) (es-is : es ≡ section_of b 0) (cs-is : cs ≡ section_of b 1) where
  pub told_numbers : NumbersFit n s c k
  told_numbers =
      let g = sheet_numbers b f in
      (omega (arith, g.0), omega (arith, g.1), omega (arith, g.2), omega (arith, g.3), omega (arith, g.4))

  pub told_few : length es / 8 ≤ 256
  told_few = let len = ap length es-is in omega (arith, len, sheet_few b f)

  pub told_records : records_fit n c k es cs ≡ true
  told_records =
      ap (λ x. records_fit x c k es cs) n-is ∙ (ap (λ x. records_fit (byte_at b 1) x k es cs) c-is ∙ (ap (λ x. records_fit (byte_at b 1) (byte_at b 2) x es cs) k-is ∙ (ap (λ x. records_fit (byte_at b 1) (byte_at b 2) (byte_at b 3) x cs) es-is ∙ (ap (λ x. records_fit (byte_at b 1) (byte_at b 2) (byte_at b 3) (section_of b 0) x) cs-is ∙ sheet_records b f))))

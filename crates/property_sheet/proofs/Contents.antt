-- The test of a property's limits passes only if they hold, and passes what a sheet holds that was not refused.
use Rattle.std.proofs.Common.{◌≡◌, ℕ, zero, suc, ◌+◌, ◌*◌, ◌/◌, ◌<◌, ◌≤◌, true, cond, not, ◌&&◌, eqb, ltb, leb, List, [], ◌∷◌, ◌++◌, length, pos, Some, sym, refl, ap, ◌∙◌, add-zero, zero-add, add-one, arith, length-drop, length-take}
use lib.Signed.{le_z}
use Rattle.std.specs.List.{slice_get}
use Rattle.std.proofs.lemmas.Bool.{and_parts, and_from, not-true, eqb-true, eqb-false, leb-true, ltb-true, lt-ltb, cond_both}
use Rattle.std.proofs.lemmas.Bool.Decides.{nat_tests}
use Rattle.std.proofs.lemmas.Option.{none-some}
use Rattle.device.specs.declared.Term.{Term}
use Rattle.device.specs.declared.Term.TheVariants.{Clock, Difference}
use Rattle.device.specs.declared.Condition.{Condition}
use Rattle.device.specs.Terms.{TermExists, ConditionLawful, lowest}
use Rattle.sheet.specs.Layout.{byte_at, offset_of, extent_of, section_of}
use Rattle.sheet.specs.Conditions.{term_at, constant_at, condition_at, constant_fits}
use Rattle.sheet.specs.Fits.{ConditionFits}
use Rattle.sheet.proofs.Passed.{Passed}
use Rattle.sheet.proofs.Fitting.{leZ_true, true_leZ}
use Rattle.property_sheet.specs.Contents.{Content, ContentLawful, Line, True, False, Both, Either, SomeDelay, EveryDelay, SomeAction, EveryAction, Reset, Holds, LineLawful, always, term_fits_test, condition_fits_test, line_fits_test, lines_fit_test, content_fits}
use Rattle.property_sheet.specs.Records.{kind_at, first_at, second_at, number_at, line_at, lines_from}
use Rattle.property_sheet.specs.Sheets.{property_limits, sheet_content}
use Rattle.property_sheet.specs.Fits.{LineFits, PropertyFits}
use Rattle.property_sheet.proofs.Fitting.{property_fits_from}

-- a line that passes is lawful
module _ (n c k : ℕ) where
  term_lawful : (t : Term) → term_fits_test c t ≡ true → TermExists c t
  term_lawful (Clock a) e = ltb-true a c e
  term_lawful (Difference a b) e =
      let p = and_parts (ltb a c) (ltb b c && not (eqb a b)) e in
      let q = and_parts (ltb b c) (not (eqb a b)) p.1 in
      (ltb-true a c p.0, ltb-true b c q.0, eqb-false a b (not-true (eqb a b) q.1))

  condition_lawful : (t : Condition) → condition_fits_test c k t ≡ true → ConditionLawful c k t
  condition_lawful t e =
      let p = and_parts (term_fits_test c t.term) (constant_fits k t.term t.constant) e in
      let m = and_parts (le_z (lowest k t.term) t.constant) (le_z t.constant (pos k)) p.1 in
      record {
        term = term_lawful t.term p.0;
        low = leZ_true (lowest k t.term) t.constant m.0;
        high = leZ_true t.constant (pos k) m.1;
      }

  two_lines : (p q : ℕ) → (ltb p n && ltb q n) ≡ true → (p < n) × (q < n)
  two_lines p q e = grind (arith, nat_tests)

  action_then : (a p : ℕ) → (leb 1 a && (leb a 16 && ltb p n)) ≡ true → (1 ≤ a) × (a ≤ 16) × (p < n)
  action_then a p e = grind (arith, nat_tests)

  reset_then : (x p : ℕ) → (ltb x c && ltb p n) ≡ true → (x < c) × (p < n)
  reset_then x p e = grind (arith, nat_tests)

  line_lawful : (l : Line) → line_fits_test n c k l ≡ true → LineLawful n c k l
  line_lawful True e = tt
  line_lawful False e = tt
  line_lawful (Both p q) e = two_lines p q e
  line_lawful (Either p q) e = two_lines p q e
  line_lawful (SomeDelay p) e = ltb-true p n e
  line_lawful (EveryDelay p) e = ltb-true p n e
  line_lawful (SomeAction a p) e = action_then a p e
  line_lawful (EveryAction a p) e = action_then a p e
  line_lawful (Reset x p) e = reset_then x p e
  line_lawful (Holds t) e = condition_lawful t e

  line_passes : (ls : List Line) (p : ℕ) (l : Line) → lines_fit_test n c k ls ≡ true → slice_get ls p ≡ Some l → line_fits_test n c k l ≡ true
  line_passes [] p l e at = absurd (none-some l at)
  line_passes (x ∷ xs) zero l e at =
      let same : x ≡ l = cc in
      ap (line_fits_test n c k) (sym same) ∙ (and_parts (line_fits_test n c k x) (lines_fit_test n c k xs) e).0
  line_passes (x ∷ xs) (suc p) l e at =
      line_passes xs p l (and_parts (line_fits_test n c k x) (lines_fit_test n c k xs) e).1 at

-- a property that passes keeps every limit
pub content_lawful : (s : Content) → content_fits s ≡ true → ContentLawful s
unfolding content_fits
content_lawful s e =
    let n = length s.lines in
    let each = lines_fit_test n s.clocks s.constant s.lines in
    let p = and_parts (leb 1 n) (leb n 200 && (leb s.clocks 2 && (leb s.constant 15 && each))) e in
    let q = and_parts (leb n 200) (leb s.clocks 2 && (leb s.constant 15 && each)) p.1 in
    let r = and_parts (leb s.clocks 2) (leb s.constant 15 && each) q.1 in
    let t = and_parts (leb s.constant 15) each r.1 in
    record {
      lines_low = leb-true 1 n p.0;
      lines_high = leb-true n 200 q.0;
      clocks = leb-true s.clocks 2 r.0;
      constant = leb-true s.constant 15 t.0;
      lines = λ i l at. line_lawful n s.clocks s.constant l (line_passes n s.clocks s.constant s.lines i l t.1 at);
    }

pub always_fits : content_fits always ≡ true
unfolding content_fits
always_fits = refl

-- a condition record within its limits passes
module _ (n c : ℕ) (cs : List ℕ) (k : ℕ) (f : ConditionFits n c cs k) where
  term_passes : term_fits_test n (term_at cs k) ≡ true
  term_passes =
      let a = byte_at cs (4 * k) in
      let b = byte_at cs (4 * k + 1) in
      cond_both (eqb b 255) (Clock a) (Difference a b) (λ t. term_fits_test n t ≡ true)
      (λ _. lt-ltb a n f.clock)
      (λ e. grind (arith, nat_tests, f.clock, f.second))

  condition_passes : condition_fits_test n c (condition_at cs k) ≡ true
  condition_passes =
      let t = term_at cs k in
      let m = constant_at cs k in
      and_from (term_fits_test n t) (constant_fits c t m) term_passes
      (and_from (le_z (lowest c t) m) (le_z m (pos c)) (true_leZ (lowest c t) m f.constant_low) (true_leZ m (pos c) f.constant_high))

-- a line within its limits passes: n lines, c clocks, constants up to k, m conditions
module _ (n c k : ℕ) where
  by_kind : (kind j : ℕ) (x y : Line) → (kind ≡ j → line_fits_test n c k x ≡ true) → ((kind ≡ j → ⊥) → line_fits_test n c k y ≡ true) → line_fits_test n c k (cond (eqb kind j) x y) ≡ true
  by_kind kind j x y this other =
      cond_both (eqb kind j) x y (λ l. line_fits_test n c k l ≡ true) (λ e. this (eqb-true kind j e)) (λ e. other (eqb-false kind j e))

  module _ (m : ℕ) (ls cs : List ℕ) (i : ℕ) (f : LineFits n c m ls i) (each : (j : ℕ) → j < m → ConditionFits c k cs j) where
    line_at_passes : line_fits_test n c k (line_at ls cs i) ≡ true
    line_at_passes =
        let kind = kind_at ls i in
        let p = first_at ls i in
        let q = second_at ls i in
        by_kind kind 0 _ _ (λ e. refl)
        (λ not-0. by_kind kind 1 _ _ (λ e. refl)
        (λ not-1. by_kind kind 2 _ _ (λ e. grind (arith, nat_tests, f.first_line, f.second_line))
        (λ not-2. by_kind kind 3 _ _ (λ e. grind (arith, nat_tests, f.first_line, f.second_line))
        (λ not-3. by_kind kind 4 _ _ (λ e. lt-ltb p n (f.first_line (omega arith) (omega arith)))
        (λ not-4. by_kind kind 5 _ _ (λ e. lt-ltb p n (f.first_line (omega arith) (omega arith)))
        (λ not-5. by_kind kind 6 _ _ (λ e. grind (arith, nat_tests, f.action_low, f.action_high, f.then_line))
        (λ not-6. by_kind kind 7 _ _ (λ e. grind (arith, nat_tests, f.action_low, f.action_high, f.then_line))
        (λ not-7. by_kind kind 8 _ _ (λ e. grind (arith, nat_tests, f.clock, f.then_line))
        (λ not-8. condition_passes c k cs (number_at ls i) (each (number_at ls i) (f.condition (omega (arith, f.kind)))))))))))))

-- as many lines are read as are asked for, and all pass if each does
pub length_lines_from : (ls cs : List ℕ) (k n : ℕ) → length (lines_from ls cs k n) ≡ n
length_lines_from ls cs k zero = refl
length_lines_from ls cs k (suc n) = ap suc (length_lines_from ls cs (k + 1) n)

lines_from_push : (ls cs : List ℕ) (k n : ℕ) → lines_from ls cs k (suc n) ≡ lines_from ls cs k n ++ line_at ls cs (k + n) ∷ []
lines_from_push ls cs k zero = ap (λ j. line_at ls cs j ∷ []) (sym (add-zero k))
lines_from_push ls cs k (suc n) =
    let same : k + 1 + n ≡ k + suc n = omega arith in
    ap (λ xs. line_at ls cs k ∷ xs) (lines_from_push ls cs (k + 1) n ∙ ap (λ j. lines_from ls cs (k + 1) n ++ line_at ls cs j ∷ []) same)

-- one line more
pub lines_from_more : (ls cs : List ℕ) (n : ℕ) → lines_from ls cs 0 (n + 1) ≡ lines_from ls cs 0 n ++ line_at ls cs n ∷ []
lines_from_more ls cs n =
    ap (lines_from ls cs 0) (add-one n) ∙ (lines_from_push ls cs 0 n ∙ ap (λ j. lines_from ls cs 0 n ++ line_at ls cs j ∷ []) (zero-add n))

lines_from_pass : (n c k : ℕ) (ls cs : List ℕ) (j m : ℕ) → ((i : ℕ) → j ≤ i → i < j + m → line_fits_test n c k (line_at ls cs i) ≡ true) → lines_fit_test n c k (lines_from ls cs j m) ≡ true
lines_from_pass n c k ls cs j zero each = refl
lines_from_pass n c k ls cs j (suc m) each =
    and_from (line_fits_test n c k (line_at ls cs j)) (lines_fit_test n c k (lines_from ls cs (j + 1) m)) (each j (omega arith) (omega arith))
    (lines_from_pass n c k ls cs (j + 1) m (λ i low high. each i (omega arith) (omega arith)))

-- a section that lies in its sheet is as long as the directory says
pub length_section : (b : List ℕ) (i : ℕ) → offset_of b i + extent_of b i ≤ length b → length (section_of b i) ≡ extent_of b i
length_section b i h = simp (length-take, length-drop) (omega arith)

module _ (b : List ℕ) where
  fits : PropertyFits b → content_fits (sheet_content b) ≡ true
  unfolding content_fits
  fits f =
      let ls = section_of b 0 in
      let cs = section_of b 1 in
      let n = length ls / 4 in
      let c = byte_at b 2 in
      let k = byte_at b 3 in
      let read = lines_from ls cs 0 n in
      let count : length read ≡ n = length_lines_from ls cs 0 n in
      let whole : length ls ≡ extent_of b 0 = length_section b 0 f.sheet.records_end in
      let pass : lines_fit_test n c k read ≡ true = lines_from_pass n c k ls cs 0 n (λ i low high. line_at_passes n c k (length cs / 4) ls cs i (f.lines i (omega arith)) f.sheet.conditions) in
      let pass-read : lines_fit_test (length read) c k read ≡ true = ap (λ m. lines_fit_test m c k read) count ∙ pass in
      grind (arith, nat_tests, f.lines_least, f.lines_most, f.clocks, f.constant)

  -- what a sheet holds that was not refused passes
  pub sheet_content_fits : Passed (property_limits b) → content_fits (sheet_content b) ≡ true
  sheet_content_fits p = fits (property_fits_from b p)

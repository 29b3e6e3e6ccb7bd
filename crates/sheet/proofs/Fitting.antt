-- A check of what both kinds of sheet share passes exactly if the named limits hold.
use Rattle.std.proofs.Common.{◌≡◌, ℕ, ◌/◌, ◌%◌, ◌≤◌, Bool, true, false, T, List, [], ◌∷◌, ◌++◌, length, ℤ, pos, ◌≤ℤ◌, refl, arith}
use lib.Signed.{le_z, le_z_yes}
use Rattle.std.proofs.lemmas.Bool.{and_parts, and_from}
use Rattle.std.proofs.lemmas.Bool.Decides.{nat_tests}
use Rattle.std.proofs.lemmas.Float.{T_from_true}
use Rattle.device.specs.Terms.{lowest}
use Rattle.sheet.specs.Kinds.{SheetKind, RecordKind, Conditions, letter_of, size_of, least_of, most_of}
use Rattle.sheet.specs.Faults.{DirectoryFault}
use Rattle.sheet.specs.Limits.{Limit}
use Rattle.sheet.specs.Layout.{byte_at, offset_of, extent_of, section_of, size_limit, letter_limit, counts_limits, edition_limits, header_limits, bounds_limits, count_limits}
use Rattle.sheet.specs.Conditions.{term_at, constant_at, condition_limits, conditions_limits}
use Rattle.sheet.specs.Fits.{ConditionFits, SheetFits}
use Rattle.sheet.proofs.Passed.{Passed, AllKept, kept_from, passed_from, passed_both, passed_append, passed_each, passed_all}

-- a test that came out true, and the order of signed numbers
true_from : (b : Bool) → T b → b ≡ true
true_from true t = refl
true_from false t = absurd t

pub leZ_true : (a b : ℤ) → le_z a b ≡ true → a ≤ℤ b
leZ_true a b e = le_z_yes (T_from_true (le_z a b) e)

pub true_leZ : (a b : ℤ) → a ≤ℤ b → le_z a b ≡ true
true_leZ a b h = true_from (le_z a b) h.le

-- one condition
module _ (n c : ℕ) (cs : List ℕ) (at k : ℕ) where
  pub condition_fits_from : Passed (condition_limits n c cs at k) → ConditionFits n c cs k
  condition_fits_from e =
      let p = kept_from (condition_limits n c cs at k) e in
      let m = and_parts (le_z (lowest c (term_at cs k)) (constant_at cs k)) (le_z (constant_at cs k) (pos c)) p.1.1.1.0 in
      record {
        clock = grind (arith, nat_tests, p.0);
        second = grind (arith, nat_tests, p.1.0);
        relation = grind (arith, nat_tests, p.1.1.0);
        constant_low = leZ_true (lowest c (term_at cs k)) (constant_at cs k) m.0;
        constant_high = leZ_true (constant_at cs k) (pos c) m.1;
      }

  pub condition_passed : ConditionFits n c cs k → Passed (condition_limits n c cs at k)
  condition_passed f =
      let term = term_at cs k in
      let m = constant_at cs k in
      passed_from (condition_limits n c cs at k) (
        grind (arith, nat_tests, f.clock),
        (
          grind (arith, nat_tests, f.second),
          (
            grind (arith, nat_tests, f.relation),
            (and_from (le_z (lowest c term) m) (le_z m (pos c)) (true_leZ (lowest c term) m f.constant_low) (true_leZ m (pos c) f.constant_high), tt),
          ),
        ),
      )

-- what a sheet of kind s with records r keeps besides the limits of its records
pub record Shared (s : SheetKind) (r : RecordKind) (b : List ℕ) : Type 0 where
  pub sheet : SheetFits b
  pub letter : byte_at b 0 ≡ letter_of s
  pub counts : AllKept (counts_limits s b)
  pub whole : extent_of b 0 % size_of r ≡ 0
  pub least : least_of r ≤ extent_of b 0 / size_of r
  pub most : extent_of b 0 / size_of r ≤ most_of r

-- the directory of a sheet with records r
abbrev pub two_limits : RecordKind → List ℕ → List (Limit DirectoryFault)
two_limits r b = bounds_limits b 0 16 (r ∷ Conditions ∷ []) ++ count_limits b 0 (r ∷ Conditions ∷ [])

module _ (s : SheetKind) (r : RecordKind) (b : List ℕ) where
  pub shared_from : Passed (header_limits s b) → Passed (two_limits r b) → Passed (conditions_limits b) → Shared s r b
  shared_from h d c =
      let first = size_limit b ∷ letter_limit s b ∷ [] in
      let both = passed_both first (counts_limits s b ++ edition_limits b) h in
      let rest = passed_both (counts_limits s b) (edition_limits b) both.1 in
      let hk = kept_from first both.0 in
      let ek = kept_from (edition_limits b) rest.1 in
      let dk = kept_from (two_limits r b) d in
      record {
        sheet = record {
          size_low = grind (arith, nat_tests, hk.0);
          size_high = grind (arith, nat_tests, hk.0);
          edition = grind (arith, nat_tests, ek.0);
          reserved_6 = grind (arith, nat_tests, ek.1.0);
          reserved_7 = grind (arith, nat_tests, ek.1.1.0);
          records_start = grind (arith, nat_tests, dk.0);
          records_end = grind (arith, nat_tests, dk.0);
          conditions_start = grind (arith, nat_tests, dk.1.0);
          conditions_end = grind (arith, nat_tests, dk.1.0);
          conditions_whole = grind (arith, nat_tests, dk.1.1.1.0);
          conditions_most = grind (arith, nat_tests, dk.1.1.1.0);
          conditions = λ k lt. condition_fits_from (byte_at b 2) (byte_at b 3) (section_of b 1) (offset_of b 1) k (passed_each (condition_limits (byte_at b 2) (byte_at b 3) (section_of b 1) (offset_of b 1)) (length (section_of b 1) / 4) c k lt);
        };
        letter = grind (arith, nat_tests, hk.1.0);
        counts = kept_from (counts_limits s b) rest.0;
        whole = grind (arith, nat_tests, dk.1.1.0);
        least = grind (arith, nat_tests, dk.1.1.0);
        most = grind (arith, nat_tests, dk.1.1.0);
      }

  pub header_passed : Shared s r b → Passed (header_limits s b)
  header_passed f =
      let first = size_limit b ∷ letter_limit s b ∷ [] in
      passed_append first (counts_limits s b ++ edition_limits b)
      (passed_from first (grind (arith, nat_tests, f.sheet.size_low, f.sheet.size_high), (grind (arith, nat_tests, f.letter), tt)))
      (passed_append (counts_limits s b) (edition_limits b) (passed_from (counts_limits s b) f.counts)
      (passed_from (edition_limits b) (
        grind (arith, nat_tests, f.sheet.edition),
        (grind (arith, nat_tests, f.sheet.reserved_6), (grind (arith, nat_tests, f.sheet.reserved_7), tt)),
      )))

  pub directory_passed : Shared s r b → Passed (two_limits r b)
  directory_passed f =
      passed_from (two_limits r b) (
        grind (arith, nat_tests, f.sheet.records_start, f.sheet.records_end),
        (
          grind (arith, nat_tests, f.sheet.conditions_start, f.sheet.conditions_end),
          (
            grind (arith, nat_tests, f.whole, f.least, f.most),
            (grind (arith, nat_tests, f.sheet.conditions_whole, f.sheet.conditions_most), tt),
          ),
        ),
      )

  pub conditions_passed : Shared s r b → Passed (conditions_limits b)
  conditions_passed f =
      passed_all (condition_limits (byte_at b 2) (byte_at b 3) (section_of b 1) (offset_of b 1)) (length (section_of b 1) / 4) 0
      (λ k lo hi. condition_passed (byte_at b 2) (byte_at b 3) (section_of b 1) (offset_of b 1) k (f.sheet.conditions k (omega arith)))

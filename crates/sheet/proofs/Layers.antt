-- The check of a whole sheet from the checks of its parts: the header, the directory, the conditions, then the other records.
use Rattle.std.proofs.Common.{◌≡◌, ℕ, List, ◌++◌, Ok, Err, sym, ◌∙◌}
use Rattle.sheet.specs.Kinds.{SheetKind}
use Rattle.sheet.specs.Faults.{RecordFault, DirectoryFault, InRecord, InDirectory}
use Rattle.sheet.specs.Limits.{Limit, held_in, checked}
use Rattle.sheet.specs.Layout.{header_limits, directory_limits}
use Rattle.sheet.specs.Conditions.{conditions_limits}
use Rattle.sheet.specs.Sheets.{sections_limits, sheet_limits}
use Rattle.sheet.proofs.Checks.{after_ok, after_err, held_ok, held_err}
use Rattle.sheet.proofs.Passed.{Passed, passed_both, passed_append, passed_below, passed_above}

-- each fact as a call tells it, the result on the left
module _ (k : SheetKind) (records : List ℕ → List (Limit RecordFault)) (b : List ℕ) where
  module _ (directory : Ok tt ≡ checked (directory_limits k b)) where
    below : checked (sections_limits k records b) ≡ checked (held_in InRecord (conditions_limits b ++ records b))
    below = after_ok (directory_limits k b) (held_in InRecord (conditions_limits b ++ records b)) (sym directory)

    pub conditions_broken : (f : RecordFault) → Err f ≡ checked (conditions_limits b) → Err (InRecord f) ≡ checked (sections_limits k records b)
    conditions_broken f e =
        sym (below ∙ held_err InRecord (conditions_limits b ++ records b) f (after_err (conditions_limits b) (records b) f (sym e)))

    pub records_broken : Ok tt ≡ checked (conditions_limits b) → (f : RecordFault) → Err f ≡ checked (records b) → Err (InRecord f) ≡ checked (sections_limits k records b)
    records_broken c f e =
        sym (below ∙ held_err InRecord (conditions_limits b ++ records b) f (after_ok (conditions_limits b) (records b) (sym c) ∙ sym e))

    pub sections_kept : Ok tt ≡ checked (conditions_limits b) → Ok tt ≡ checked (records b) → Ok tt ≡ checked (sections_limits k records b)
    sections_kept c e =
        sym (below ∙ held_ok InRecord (conditions_limits b ++ records b) (after_ok (conditions_limits b) (records b) (sym c) ∙ sym e))

  module _ (header : Ok tt ≡ checked (header_limits k b)) where
    beyond : checked (sheet_limits k records b) ≡ checked (held_in InDirectory (sections_limits k records b))
    beyond = after_ok (header_limits k b) (held_in InDirectory (sections_limits k records b)) (sym header)

    pub sections_broken : (f : DirectoryFault) → Err f ≡ checked (sections_limits k records b) → Err (InDirectory f) ≡ checked (sheet_limits k records b)
    sections_broken f e = sym (beyond ∙ held_err InDirectory (sections_limits k records b) f (sym e))

    pub sheet_kept : Ok tt ≡ checked (sections_limits k records b) → Ok tt ≡ checked (sheet_limits k records b)
    sheet_kept e = sym (beyond ∙ held_ok InDirectory (sections_limits k records b) (sym e))

-- a whole sheet passes exactly if each of its layers does
pub record LayersPass (k : SheetKind) (records : List ℕ → List (Limit RecordFault)) (b : List ℕ) : Type 0 where
  pub header : Passed (header_limits k b)
  pub directory : Passed (directory_limits k b)
  pub conditions : Passed (conditions_limits b)
  pub records_pass : Passed (records b)

module _ (k : SheetKind) (records : List ℕ → List (Limit RecordFault)) (b : List ℕ) where
  pub layers_from : Passed (sheet_limits k records b) → LayersPass k records b
  layers_from p =
      let whole = passed_both (header_limits k b) (held_in InDirectory (sections_limits k records b)) p in
      let sections = passed_both (directory_limits k b) (held_in InRecord (conditions_limits b ++ records b)) (passed_below InDirectory (sections_limits k records b) whole.1) in
      let both = passed_both (conditions_limits b) (records b) (passed_below InRecord (conditions_limits b ++ records b) sections.1) in
      record { header = whole.0; directory = sections.0; conditions = both.0; records_pass = both.1 }

  pub layers_passed : LayersPass k records b → Passed (sheet_limits k records b)
  layers_passed l =
      passed_append (header_limits k b) (held_in InDirectory (sections_limits k records b)) l.header
      (passed_above InDirectory (sections_limits k records b)
      (passed_append (directory_limits k b) (held_in InRecord (conditions_limits b ++ records b)) l.directory
      (passed_above InRecord (conditions_limits b ++ records b) (passed_append (conditions_limits b) (records b) l.conditions l.records_pass))))

-- A fault is told by its number and its place.
use Rattle.std.proofs.Common.{◌≡◌, ℕ, cond, eqb, sym, refl, ◌∙◌, ap₂}
use Rattle.sheet.specs.declared.kinds.RecordKind.{RecordKind}
use Rattle.sheet.specs.declared.kinds.RecordKind.TheVariants.{Edges, Lines, Conditions}
use Rattle.sheet.specs.declared.faults.DirectoryFault.TheVariants.{Bounds, Count, InRecord}
use Rattle.sheet.specs.declared.faults.SheetFault.{SheetFault}
use Rattle.sheet.specs.declared.faults.SheetFault.TheVariants.{Size, Letter, Header, InDirectory}
use Rattle.sheet.specs.Faults.{number_of, record_refusal, place_of}
use Rattle.sheet.specs.Order.{fault_number}
use Rattle.sheet_laws.proofs.Rising.{Key, at}

abbrev pub key_of : SheetFault → Key
key_of f = at (fault_number f) (place_of f)

abbrev in_record : RecordKind → ℕ → SheetFault
in_record r p = InDirectory (InRecord (record { kind = r; place = p }))

-- the fault of a number at a place
abbrev fault_at : ℕ → ℕ → SheetFault
fault_at n p =
    cond (eqb n 1) Size
    (cond (eqb n 2) Letter
    (cond (eqb n 3) (Header p)
    (cond (eqb n 4) (InDirectory (Bounds p))
    (cond (eqb n 5) (InDirectory (Count p))
    (cond (eqb n 6) (in_record Conditions p)
    (cond (eqb n 7) (in_record Edges p) (in_record Lines p)))))))

record_is : (r : RecordKind) (p : ℕ) → fault_at (number_of (record_refusal r)) p ≡ in_record r p
record_is Conditions p = refl
record_is Edges p = refl
record_is Lines p = refl

fault_is : (f : SheetFault) → fault_at (fault_number f) (place_of f) ≡ f
fault_is Size = refl
fault_is Letter = refl
fault_is (Header p) = refl
fault_is (InDirectory (Bounds p)) = refl
fault_is (InDirectory (Count p)) = refl
fault_is (InDirectory (InRecord r)) = record_is r.kind r.place

pub same_fault : (f g : SheetFault) → fault_number f ≡ fault_number g → place_of f ≡ place_of g → f ≡ g
same_fault f g n p = sym (fault_is f) ∙ (ap₂ fault_at n p ∙ fault_is g)

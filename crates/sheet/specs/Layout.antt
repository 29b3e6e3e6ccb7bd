-- Where things stand in a sheet, and the limits of its size, letter, header and directory.
use Rattle.std.specs.Prelude.{ℕ, Bool, ◌+◌, ◌*◌, ◌/◌, ◌%◌, ◌&&◌, List, [], ◌∷◌, ◌++◌, length, take, drop, ◌==◌, nat_le, nat_lt, slice_index}
use Rattle.sheet.specs.Kinds.{SheetKind, Device, Property, RecordKind, letter_of, sections_of, size_of, least_of, most_of}
use Rattle.sheet.specs.Faults.{SheetFault, Size, Letter, Header, DirectoryFault, Bounds, Count}
use Rattle.sheet.specs.Limits.{Limit, limit}

-- a byte, and a two-byte number, big end first; 0 past the sheet's end
abbrev pub byte_at : List ℕ → ℕ → ℕ
byte_at b i = slice_index b i

abbrev pub word_at : List ℕ → ℕ → ℕ
word_at b i = byte_at b i * 256 + byte_at b (i + 1)

-- the directory's pair i: offset and length of section i, and that part of the sheet
abbrev pub offset_of : List ℕ → ℕ → ℕ
offset_of b i = word_at b (8 + 4 * i)

abbrev pub extent_of : List ℕ → ℕ → ℕ
extent_of b i = word_at b (10 + 4 * i)

abbrev pub section_of : List ℕ → ℕ → List ℕ
section_of b i = take (extent_of b i) (drop (offset_of b i) b)

-- 1 to 3
abbrev pub size_limit : List ℕ → Limit SheetFault
size_limit b = limit (nat_le 16 (length b) && nat_le (length b) 65535) Size

abbrev pub letter_limit : SheetKind → List ℕ → Limit SheetFault
letter_limit s b = limit (byte_at b 0 == letter_of s) Letter

-- nodes, clocks, largest constant and start of a device; clocks and largest constant of a property
abbrev pub counts_limits : SheetKind → List ℕ → List (Limit SheetFault)
counts_limits Device b =
    limit (nat_le 1 (byte_at b 1) && nat_le (byte_at b 1) 64) (Header 1) ∷
    limit (nat_le (byte_at b 2) 4) (Header 2) ∷
    limit (nat_le (byte_at b 3) 15) (Header 3) ∷
    limit (nat_lt (byte_at b 4) (byte_at b 1)) (Header 4) ∷ []
counts_limits Property b =
    limit (byte_at b 1 == 0) (Header 1) ∷
    limit (nat_le (byte_at b 2) 2) (Header 2) ∷
    limit (nat_le (byte_at b 3) 15) (Header 3) ∷
    limit (byte_at b 4 == 0) (Header 4) ∷ []

-- the edition of the format, and two bytes that are 0
abbrev pub edition_limits : List ℕ → List (Limit SheetFault)
edition_limits b =
    limit (byte_at b 5 == 2) (Header 5) ∷
    limit (byte_at b 6 == 0) (Header 6) ∷
    limit (byte_at b 7 == 0) (Header 7) ∷ []

abbrev pub header_limits : SheetKind → List ℕ → List (Limit SheetFault)
header_limits s b = size_limit b ∷ letter_limit s b ∷ (counts_limits s b ++ edition_limits b)

-- 4: section i and those after it lie in the sheet, none before the end of the one before it
abbrev pub bounds_limits : List ℕ → ℕ → ℕ → List RecordKind → List (Limit DirectoryFault)
bounds_limits b i floor [] = []
bounds_limits b i floor (r ∷ rs) =
    limit (nat_le floor (offset_of b i) && nat_le (offset_of b i + extent_of b i) (length b)) (Bounds (8 + 4 * i)) ∷
    bounds_limits b (i + 1) (offset_of b i + extent_of b i) rs

-- n bytes are a whole number of records, as many as there may be
abbrev pub count_fits : RecordKind → ℕ → Bool
count_fits r n = n % size_of r == 0 && (nat_le (least_of r) (n / size_of r) && nat_le (n / size_of r) (most_of r))

-- 5: section i and those after it are whole numbers of records, as many as they may be
abbrev pub count_limit : List ℕ → ℕ → RecordKind → Limit DirectoryFault
count_limit b i r = limit (count_fits r (extent_of b i)) (Count (10 + 4 * i))

abbrev pub count_limits : List ℕ → ℕ → List RecordKind → List (Limit DirectoryFault)
count_limits b i [] = []
count_limits b i (r ∷ rs) = count_limit b i r ∷ count_limits b (i + 1) rs

-- the first section starts after the header and the directory, at 16 where there are two sections
abbrev pub directory_limits : SheetKind → List ℕ → List (Limit DirectoryFault)
directory_limits s b =
    bounds_limits b 0 (8 + 4 * length (sections_of s)) (sections_of s) ++ count_limits b 0 (sections_of s)

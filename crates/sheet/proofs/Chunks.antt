-- A section cut into records of n bytes: where the bytes of a record stand in the section.
use Rattle.std.proofs.Common.{◌≡◌, ℕ, zero, suc, ◌+◌, ◌*◌, ◌/◌, ◌<◌, List, [], length, drop, get_or, ap, ◌∙◌, arith, add-zero}
use Rattle.std.proofs.Math.Nat.{mul-suc}
use Rattle.std.proofs.lemmas.List.{get_or-take, get_or-drop}
use Rattle.std.specs.Simd.{first_chunks}
use Rattle.sheet.specs.Layout.{byte_at}
use Rattle.sheet.specs.Conditions.{condition_at, condition_limits}

-- byte i of record k is byte n * k + i of the section
pub chunk_byte : (n count k i : ℕ) (xs d : List ℕ) → k < count → i < n → byte_at (get_or (first_chunks n count xs) k d) i ≡ byte_at xs (n * k + i)
chunk_byte n zero k i xs d h g = absurd (omega arith)
chunk_byte n (suc count) zero i xs d h g =
    let here : i ≡ n * 0 + i = omega arith in get_or-take n xs i 0 g ∙ ap (byte_at xs) here
chunk_byte n (suc count) (suc k) i xs d h g =
    let there : n + (n * k + i) ≡ n * suc k + i = omega (arith, mul-suc n k) in
    chunk_byte n count k i (drop n xs) d (omega arith) g ∙ (get_or-drop n xs (n * k + i) 0 ∙ ap (byte_at xs) there)

-- the records of a section, as `as_chunks` tells them
module _ (n : ℕ) (xs : List ℕ) (records : List (List ℕ)) (cut : records ≡ first_chunks n (length xs / n) xs) (k : ℕ) (h : k < length xs / n) where
  pub record_byte : (i : ℕ) → i < n → byte_at (get_or records k []) i ≡ byte_at xs (n * k + i)
  record_byte i g = ap (λ rs. byte_at (get_or rs k []) i) cut ∙ chunk_byte n (length xs / n) k i xs [] h g

  pub record_start : 0 < n → byte_at (get_or records k []) 0 ≡ byte_at xs (n * k)
  record_start g = record_byte 0 g ∙ ap (byte_at xs) (add-zero (n * k))

-- a condition by its record alone
module _ (cs : List ℕ) (records : List (List ℕ)) (cut : records ≡ first_chunks 4 (length cs / 4) cs) (k : ℕ) (h : k < length cs / 4) where
  pub condition_alone : condition_at (get_or records k []) 0 ≡ condition_at cs k
  condition_alone =
      let a = record_start 4 cs records cut k h (omega arith) in
      let b = record_byte 4 cs records cut k h 1 (omega arith) in
      let r = record_byte 4 cs records cut k h 2 (omega arith) in
      let m = record_byte 4 cs records cut k h 3 (omega arith) in
      cc (a, b, r, m)

  pub condition_limits_alone : (n c at place : ℕ) → place ≡ at + 4 * k → condition_limits n c (get_or records k []) place 0 ≡ condition_limits n c cs at k
  condition_limits_alone n c at place e =
      let a = record_start 4 cs records cut k h (omega arith) in
      let b = record_byte 4 cs records cut k h 1 (omega arith) in
      let r = record_byte 4 cs records cut k h 2 (omega arith) in
      let m = record_byte 4 cs records cut k h 3 (omega arith) in
      cc (a, b, r, m, add-zero place)

-- Packed rows: their bits are those that they were packed of, bytes are those that their bits make, and what setting one
-- bit changes.
use Rattle.std.proofs.Common.{◌≡◌, ℕ, ◌+◌, ◌-◌, ◌*◌, ◌/◌, ◌%◌, ◌^◌, ◌<◌, ◌≤◌, Bool, true, false, ◌&&◌, ◌||◌, eqb, ltb, List, length, get_or, set, replicate, sym, refl, ap, ◌∙◌, ap₂, inl, inr, arith}
use Rattle.std.specs.Int.Bits.{bit_or}
use Rattle.std.proofs.Math.Bool.{or-false}
use Rattle.std.proofs.Math.Pow.{pow-lt}
use Rattle.std.proofs.lemmas.Nat.{or_lt}
use Rattle.std.proofs.lemmas.List.FromFn.{get_or-map-range_with_len, length-map-range_with_len}
use Rattle.std.proofs.lemmas.List.{ext_get_or, get_or_past, get_or-set_same, get_or-set_other, get_or-replicate, length-replicate}
use Rattle.std.proofs.lemmas.Bool.{cases_eq, cases_lt, eq-eqb, ne_eqb, lt-ltb, or_left, or_right}
use Rattle.schemes.specs.Bits.{bit}
use Rattle.schemes.specs.PackedRows.{bit_at, byte_of, packed, Bytes}
use Rattle.schemes.specs.BitFacts.{bit_of_0, bit-or, bit_pow, bit_same, bit_number_of, number_of_below}

-- ---- bits of a row

-- bit p of byte q
pub bit_at_byte : (row : List ℕ) (q p : ℕ) → p < 8 → bit_at row (8 * q + p) ≡ bit (get_or row q 0) (7 - p)
unfolding bit_at
bit_at_byte row q p l = ap₂ (λ (i j : ℕ). bit (get_or row i 0) (7 - j)) (omega arith) (omega arith)

-- as the code reads it
pub bit_at_is : (row : List ℕ) (k b : ℕ) → b ≡ get_or row (k / 8) 0 → bit b (7 - k % 8) ≡ bit_at row k
unfolding bit_at
bit_at_is row k b e = ap (λ (x : ℕ). bit x (7 - k % 8)) e

pub bit_at_past : (row : List ℕ) (k : ℕ) → length row ≤ k / 8 → bit_at row k ≡ false
unfolding bit_at
bit_at_past row k l = ap (λ (x : ℕ). bit x (7 - k % 8)) (get_or_past row (k / 8) 0 l) ∙ bit_of_0 (7 - k % 8)

-- a row of zeros has no bit
pub byte_of_zeros : (n i : ℕ) → get_or {A = ℕ} (replicate n 0) i 0 ≡ 0
byte_of_zeros n i = elim (cases_lt i n) [
  | inl l ↦ get_or-replicate n i 0 0 l
  | inr l ↦ get_or_past (replicate n 0) i 0 (let e : length {A = ℕ} (replicate n 0) ≡ n = length-replicate n 0 in omega arith)
]

pub bit_at_zeros : (n k : ℕ) → bit_at (replicate n 0) k ≡ false
unfolding bit_at
bit_at_zeros n k = ap (λ (x : ℕ). bit x (7 - k % 8)) (byte_of_zeros n (k / 8)) ∙ bit_of_0 (7 - k % 8)

-- ---- packing

pub byte_of_bit : (bits : ℕ → Bool) (j : ℕ) → j < 8 → bit (byte_of bits) (7 - j) ≡ bits j
byte_of_bit bits j l = bit_number_of 8 (λ k. bits (7 - k)) (7 - j) (omega arith) ∙ ap bits (omega arith)

module _ (size : ℕ) (bits : ℕ → Bool) where
  abbrev byte_at : ℕ → ℕ
  byte_at b = byte_of (λ k. bits (8 * b + k))

  pub packed_length : length (packed size bits) ≡ size
  packed_length = length-map-range_with_len byte_at 0 size

  packed_byte : (b : ℕ) → b < size → get_or (packed size bits) b 0 ≡ byte_at b
  packed_byte b l = get_or-map-range_with_len byte_at 0 size b b 0 l (omega arith)

  pub packed_bytes : Bytes size (packed size bits)
  packed_bytes = record {
    long = packed_length;
    below = λ i. elim (cases_lt i size) [
      | inl l ↦ let e = packed_byte i l in let b = number_of_below 8 (λ k. bits (8 * i + (7 - k))) in omega arith
      | inr l ↦ let e = packed_length in let z = get_or_past (packed size bits) i 0 (omega arith) in omega arith
    ];
  }

  -- the bits of a packed row are those that it was packed of
  pub bit_at_packed : (k : ℕ) → k < 8 * size → bit_at (packed size bits) k ≡ bits k
  bit_at_packed k l =
      sym (bit_at_is (packed size bits) k (byte_at (k / 8)) (sym (packed_byte (k / 8) (omega arith))))
      ∙ byte_of_bit (λ j. bits (8 * (k / 8) + j)) (k % 8) (omega arith)
      ∙ ap bits (omega arith)

  -- bytes with these bits are the packed row
  pub packed_from_bits : (row : List ℕ) → Bytes size row → ((k : ℕ) → k < 8 * size → bit_at row k ≡ bits k) → row ≡ packed size bits
  packed_from_bits row bytes same =
      let e = bytes.long in
      ext_get_or 0 row (packed size bits) (e ∙ sym packed_length)
      (λ i l.
      bit_same 8 (get_or row i 0) (byte_at i) (bytes.below i) (number_of_below 8 (λ k. bits (8 * i + (7 - k))))
      (λ k lk.
      let back : 7 - (7 - k) ≡ k = omega arith in
      ap (bit (get_or row i 0)) (sym back)
      ∙ sym (bit_at_byte row i (7 - k) (omega arith))
      ∙ same (8 * i + (7 - k)) (omega arith)
      ∙ sym (byte_of_bit (λ j. bits (8 * i + j)) (7 - k) (omega arith))
      ∙ ap (bit (byte_at i)) back)
      ∙ sym (packed_byte i (omega arith)))

pub same_from_bits : (size : ℕ) (row row' : List ℕ) → Bytes size row → Bytes size row' → ((k : ℕ) → k < 8 * size → bit_at row k ≡ bit_at row' k) → row ≡ row'
same_from_bits size row row' b b' same =
    packed_from_bits size (bit_at row') row b same ∙ sym (packed_from_bits size (bit_at row') row' b' (λ k l. refl))

-- ---- one bit is set

module _ (row : List ℕ) (k : ℕ) (within : k / 8 < length row) where
  abbrev pub marked : List ℕ
  marked = set row (k / 8) (bit_or (get_or row (k / 8) 0) (2 ^ (7 - k % 8)))

  in_byte : (j : ℕ) → j / 8 ≡ k / 8 → bit_at marked j ≡ (bit_at row j || eqb (7 - j % 8) (7 - k % 8))
  unfolding bit_at
  in_byte j e =
      ap (λ (i : ℕ). bit (get_or marked i 0) (7 - j % 8)) e
      ∙ ap (λ (x : ℕ). bit x (7 - j % 8)) (get_or-set_same row (k / 8) (bit_or (get_or row (k / 8) 0) (2 ^ (7 - k % 8))) 0 within)
      ∙ bit-or (get_or row (k / 8) 0) (2 ^ (7 - k % 8)) (7 - j % 8)
      ∙ ap₂ (λ (x y : Bool). x || y) (ap (λ (i : ℕ). bit (get_or row i 0) (7 - j % 8)) (sym e)) (bit_pow (7 - k % 8) (7 - j % 8))

  off_byte : (j : ℕ) → (j / 8 ≡ k / 8 → ⊥) → bit_at marked j ≡ bit_at row j
  unfolding bit_at
  off_byte j ne = ap (λ (x : ℕ). bit x (7 - j % 8)) (get_or-set_other row (k / 8) (j / 8) (bit_or (get_or row (k / 8) 0) (2 ^ (7 - k % 8))) 0 ne)

  marked_bit : (j : ℕ) → bit_at marked j ≡ (eqb j k || bit_at row j)
  marked_bit j =
      elim (cases_eq j k) [
        | inl e ↦
            let f : j / 8 ≡ k / 8 = ap (λ (n : ℕ). n / 8) e in
            in_byte j f
            ∙ or_right (bit_at row j) (eqb (7 - j % 8) (7 - k % 8)) (eq-eqb (7 - j % 8) (7 - k % 8) (ap (λ (n : ℕ). 7 - n % 8) e))
            ∙ sym (or_left (eqb j k) (bit_at row j) (eq-eqb j k e))
        | inr ne ↦
            let none : (eqb j k || bit_at row j) ≡ bit_at row j = ap (λ (b : Bool). b || bit_at row j) (ne_eqb j k ne) in
            elim (cases_eq (j / 8) (k / 8)) [
              | inl f ↦ in_byte j f ∙ ap (λ (b : Bool). bit_at row j || b) (ne_eqb (7 - j % 8) (7 - k % 8) (λ q. ne (omega arith))) ∙ or-false (bit_at row j) ∙ sym none
              | inr far ↦ off_byte j far ∙ sym none
            ]
      ]

  pub bit_set : (j : ℕ) → bit_at marked j ≡ ((eqb j k && ltb k (8 * length row)) || bit_at row j)
  bit_set j = marked_bit j ∙ ap (λ (b : Bool). b || bit_at row j) (at_k (eqb j k))
    where
      at_k : (b : Bool) → b ≡ (b && ltb k (8 * length row))
      at_k true = sym (lt-ltb k (8 * length row) (omega arith))
      at_k false = refl

  pub bytes_set : ((i : ℕ) → get_or row i 0 < 256) → (i : ℕ) → get_or marked i 0 < 256
  bytes_set h i = elim (cases_eq i (k / 8)) [
    | inl e ↦
        let x = bit_or (get_or row (k / 8) 0) (2 ^ (7 - k % 8)) in
        let b : x < 256 = or_lt 8 (get_or row (k / 8) 0) (2 ^ (7 - k % 8)) (h (k / 8)) (pow-lt {i = 7 - k % 8} {j = 8} (omega arith)) in
        let s : get_or marked i 0 ≡ x = ap (λ (n : ℕ). get_or marked n 0) e ∙ get_or-set_same row (k / 8) x 0 within in
        omega arith
    | inr ne ↦
        let s = get_or-set_other row (k / 8) i (bit_or (get_or row (k / 8) 0) (2 ^ (7 - k % 8))) 0 ne in
        let b = h i in
        omega arith
  ]

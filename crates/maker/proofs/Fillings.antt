-- A row is filled pixel by pixel: how far the orders are drawn, and which bits of the strips are set. For `fill_pixels`.
use Rattle.std.proofs.Common.{◌≡◌, ℕ, zero, suc, ◌+◌, ◌-◌, ◌*◌, ◌/◌, ◌%◌, ◌<◌, ◌≤◌, Bool, true, false, cond, ◌&&◌, ◌||◌, ltb, leb, ◌⊎◌, List, [], ◌∷◌, ◌++◌, length, get_or, take, drop, replicate, sym, refl, ap, ◌∙◌, ap₂, inl, inr, mul-le-mul_right, arith}
use Rattle.std.specs.List.{range_with_len, flat_map, All}
use Rattle.std.proofs.lemmas.List.{append_assoc, append-nil, get_or_append_left, get_or_push, get_or_past, get_or-take, get_or-drop, length_push, take-append-drop, length-take, length-take-le, length-drop, drop-drop, nil_from_length}
use Rattle.std.proofs.lemmas.Bool.{cases_lt, lt-ltb, le-ltb, le-leb, lt-leb, and_left, and_right}
use Rattle.std.proofs.lemmas.Nat.{div-mul-add, mod-mul-add, div_below}
use Rattle.schemes.specs.Bits.{bit}
use Rattle.schemes.specs.Meaning.{Meaning}
use Rattle.schemes.specs.PackedRows.{bit_at, packed}
use Rattle.schemes.specs.Strips.{strip_squares, pixel_at, square_at, strip_size, colour_of, pixel}
use Rattle.schemes.specs.BitFacts.{bit_of_0, bit_number_of}
use Rattle.schemes.proofs.PackedFacts.{packed_from_bits}
use Rattle.schemes.proofs.StripFacts.{strip_squares_are}
use Rattle.tapes.specs.Drawing.{Drawn, short, drawn, onward}
use Rattle.tapes.specs.Orders.{order, orders}
use Rattle.maker.specs.Films.{film_square}
use Rattle.maker.specs.Filling.{film_bit, AllBytes, Blackened, block, Table, Tabled, Filled}
use Rattle.maker.proofs.Squares.{or_none, film_bit_is}

-- ---- the orders that are drawn

onward_drawn : (d : Drawn (List (List ℕ))) → d ≡ onward d (λ more left. drawn more left)
onward_drawn short = refl
onward_drawn (drawn os rest) = refl

onward_more : (os : List (List ℕ)) (o : List ℕ) (d : Drawn (List (List ℕ))) →
    onward (onward d (λ more left. drawn (o ∷ more) left)) (λ more left. drawn (os ++ more) left) ≡ onward d (λ more left. drawn ((os ++ o ∷ []) ++ more) left)
onward_more os o short = refl
onward_more os o (drawn more left) = ap (λ l. drawn l left) (sym (append_assoc os (o ∷ []) more))

module _ (m w : ℕ) (tape : List ℕ) where
  -- so many orders are drawn, and so many bytes are left
  abbrev pub Draws : ℕ → List (List ℕ) → List ℕ → Type 0
  Draws x os rest = orders m w tape ≡ onward (orders m (w - x) rest) (λ more left. drawn (os ++ more) left)

  draws_none : Draws 0 [] tape
  draws_none = let whole : w - 0 ≡ w = omega arith in rw whole (onward_drawn (orders m w tape))

  draws_more : (x : ℕ) (os : List (List ℕ)) (rest o rest' : List ℕ) → x < w → Draws x os rest → order m rest ≡ drawn o rest' → Draws (x + 1) (os ++ o ∷ []) rest'
  draws_more x os rest o rest' l h e =
      let more : w - x ≡ suc (w - (x + 1)) = omega arith in
      h ∙ ap (λ k. onward (orders m k rest) (λ more left. drawn (os ++ more) left)) more
      ∙ ap (λ d. onward (onward d (λ o rest. onward (orders m (w - (x + 1)) rest) (λ os left. drawn (o ∷ os) left))) (λ more left. drawn (os ++ more) left)) e
      ∙ onward_more os o (orders m (w - (x + 1)) rest')

  draws_short : (x : ℕ) (os : List (List ℕ)) (rest : List ℕ) → x < w → Draws x os rest → order m rest ≡ short → orders m w tape ≡ short
  draws_short x os rest l h e =
      let more : w - x ≡ suc (w - (x + 1)) = omega arith in
      h ∙ ap (λ k. onward (orders m k rest) (λ more left. drawn (os ++ more) left)) more
      ∙ ap (λ d. onward (onward d (λ o rest. onward (orders m (w - (x + 1)) rest) (λ os left. drawn (o ∷ os) left))) (λ more left. drawn (os ++ more) left)) e

  draws_all : (x : ℕ) (os : List (List ℕ)) (rest : List ℕ) → w ≤ x → Draws x os rest → orders m w tape ≡ drawn os rest
  draws_all x os rest l h =
      let none : w - x ≡ 0 = omega arith in
      h ∙ ap (λ k. onward (orders m k rest) (λ more left. drawn (os ++ more) left)) none ∙ ap (λ l'. drawn l' rest) (append-nil os)

-- ---- strips from bits

module _ (out : List ℕ) (size k : ℕ) (all : AllBytes out) where
  abbrev strip : List ℕ
  strip = take size (drop (k * size) out)

  strip_below : (i : ℕ) → get_or strip i 0 < 256
  strip_below i = elim (cases_lt i size) [
    | inl l ↦ let e : get_or strip i 0 ≡ get_or out (k * size + i) 0 = get_or-take size (drop (k * size) out) i 0 l ∙ get_or-drop (k * size) out i 0 in omega (arith, all (k * size + i))
    | inr l ↦ let e : get_or strip i 0 ≡ 0 = get_or_past strip i 0 (omega (arith, length-take size (drop (k * size) out))) in omega arith
  ]

  strip_bit : (b : ℕ) → b < 8 * size → bit_at strip b ≡ film_bit size out k b
  unfolding bit_at
  strip_bit b l = ap (λ (x : ℕ). bit x (7 - b % 8)) (get_or-take size (drop (k * size) out) (b / 8) 0 (omega arith))

  -- bytes below 256 whose bits are right are the packed bits
  strip_is : (bits : ℕ → Bool) → k * size + size ≤ length out → ((b : ℕ) → b < 8 * size → film_bit size out k b ≡ bits b) → strip ≡ packed size bits
  strip_is bits within h =
      packed_from_bits size bits strip
      (record { long = length-take-le size (drop (k * size) out) (omega (arith, length-drop (k * size) out)); below = strip_below })
      (λ b l. strip_bit b l ∙ h b l)

-- parts of one size, one after another, are the whole
joined_is : (f : ℕ → List ℕ) (size n a : ℕ) (out : List ℕ) → length out ≡ n * size → ((i : ℕ) → i < n → take size (drop (i * size) out) ≡ f (a + i)) → out ≡ flat_map f (range_with_len a n)
joined_is f size zero a out long h = nil_from_length out (omega (arith, long))
joined_is f size (suc n) a out long h =
    let none : zero * size ≡ 0 = omega arith in
    let here : a + zero ≡ a = omega arith in
    let part : take size out ≡ f a = ap (λ j. take size (drop j out)) (sym none) ∙ h zero (omega arith) ∙ ap f here in
    let rest : drop size out ≡ flat_map f (range_with_len (a + 1) n) = joined_is f size n (a + 1) (drop size out) (omega (arith, long, length-drop size out)) (λ i l.
    let more : size + i * size ≡ suc i * size = omega arith in
    let there : a + suc i ≡ a + 1 + i = omega arith in
    ap (take size) (drop-drop (i * size) size out ∙ ap (λ j. drop j out) more) ∙ h (suc i) (omega arith) ∙ ap f there) in
    sym (take-append-drop size out) ∙ ap₂ (λ p q. p ++ q) part rest

get_or_zeros : (n i : ℕ) → ◌≡◌ {A = ℕ} (get_or (replicate n 0) i 0) 0
get_or_zeros zero i = refl
get_or_zeros (suc n) zero = refl
get_or_zeros (suc n) (suc i) = get_or_zeros n i

pub table_of : (s : Meaning) (is_black : Bool) (white black : List ℕ) → Tabled s white black → Table s (colour_of is_black) (cond is_black black white)
table_of s true white black tables = tables.black_cells
table_of s false white black tables = tables.white_cells

and_yes : {x y z : Bool} → x ≡ true → y ≡ z → y ≡ (x && z)
and_yes {x} {y} {z} e d = d ∙ sym (ap (λ t. t && z) e)

-- ---- a row

module _ (s : Meaning) (w size : ℕ) (secret tape : List ℕ) where
  abbrev square : List (List ℕ) → (k b : ℕ) → Bool
  square os k b = film_square s (pixel secret) os (suc k) (pixel_at s.m b) (square_at s.m b)

  -- so many pixels are done
  pub record Filling (x : ℕ) (rest out : List ℕ) : Type 0 where
    pub os : List (List ℕ)
    pub count : length os ≡ x
    pub draws : Draws s.m w tape x os rest
    pub bytes : AllBytes out
    pub bits : (k b : ℕ) → k < s.n → b < 8 * size → film_bit size out k b ≡ (ltb b (x * s.m) && square os k b)

  pub filling_none : (n : ℕ) → Filling 0 tape (replicate n 0)
  filling_none n = record {
    os = [];
    count = refl;
    draws = draws_none s.m w tape;
    bytes = λ j. omega (arith, get_or_zeros n j);
    bits = λ k b lk lb.
        film_bit_is size (replicate n 0) k b
        ∙ ap (λ (x : ℕ). bit x (7 - b % 8)) (get_or_zeros n (k * size + b / 8)) ∙ bit_of_0 (7 - b % 8)
        ∙ sym (and_left (ltb b (0 * s.m)) _ (le-ltb b (0 * s.m) (omega arith)));
  }

  module _ (x : ℕ) (table o : List ℕ) (known : Table s (pixel secret x) table) (long : length o ≡ s.m) (within : All (λ j. j < s.m) o)
      (os : List (List ℕ)) (count : length os ≡ x) (pos : 0 < s.m) where
    more_bits : (old : Bool) (k b : ℕ) → k < s.n → old ≡ (ltb b (x * s.m) && square os k b) →
        (old || block table o (x * s.m) s.m k b) ≡ (ltb b ((x + 1) * s.m) && square (os ++ o ∷ []) k b)
    unfolding pixel_at square_at
    more_bits old k b lk e = go (cases_lt b (x * s.m)) (cases_lt b ((x + 1) * s.m))
      where
        go : (b < x * s.m) ⊎ (x * s.m ≤ b) → (b < (x + 1) * s.m) ⊎ ((x + 1) * s.m ≤ b) →
            (old || block table o (x * s.m) s.m k b) ≡ (ltb b ((x + 1) * s.m) && square (os ++ o ∷ []) k b)
        go (inl early) _ =
            let done : b / s.m < length os = omega (arith, div_below b s.m x pos early) in
            or_none old (and_left (leb (x * s.m) b && ltb b (x * s.m + s.m)) _ (and_left (leb (x * s.m) b) _ (lt-leb (x * s.m) b early)))
            ∙ e ∙ ap (λ t. t && square os k b) (lt-ltb b (x * s.m) early)
            ∙ and_yes (lt-ltb b ((x + 1) * s.m) (omega arith))
            (ap (λ row. s.cell (pixel secret (b / s.m)) (suc k) (get_or row (b % s.m) 0)) (sym (get_or_append_left os (o ∷ []) [] (b / s.m) done)))
        go (inr now) (inl l) =
            let p = b - x * s.m in
            let lp : p < s.m = omega arith in
            let whole : b ≡ x * s.m + p = omega arith in
            let pix : b / s.m ≡ x = ap (λ y. y / s.m) whole ∙ div-mul-add x s.m p lp in
            let sq : b % s.m ≡ p = ap (λ y. y % s.m) whole ∙ mod-mul-add x s.m p lp in
            let j = get_or o p 0 in
            let lj : j < s.m = within p 0 (omega arith) in
            let nothing : old ≡ false = e ∙ and_left (ltb b (x * s.m)) _ (le-ltb b (x * s.m) now) in
            let inside : (leb (x * s.m) b && ltb b (x * s.m + s.m)) ≡ true = ap₂ (λ t u. t && u) (le-leb (x * s.m) b now) (lt-ltb b (x * s.m + s.m) (omega arith)) in
            let cell : bit (get_or table j 0) k ≡ s.cell (pixel secret x) (suc k) j = ap (λ y. bit y k) (known.cells j lj) ∙ bit_number_of s.n (λ i. s.cell (pixel secret x) (suc i) j) k lk in
            ap₂ (λ t u. t || (u && bit (get_or table j 0) k)) nothing inside
            ∙ cell
            ∙ and_yes (lt-ltb b ((x + 1) * s.m) l)
            (sym (ap₂ (λ c q. s.cell (pixel secret c) (suc k) (get_or (get_or (os ++ o ∷ []) c []) q 0)) pix sq
            ∙ ap (λ row. s.cell (pixel secret x) (suc k) (get_or row p 0)) (get_or_push os o [] x count)))
        go (inr now) (inr past) =
            or_none old (and_left (leb (x * s.m) b && ltb b (x * s.m + s.m)) _ (and_right (leb (x * s.m) b) _ (le-ltb b (x * s.m + s.m) (omega arith))))
            ∙ e ∙ and_left (ltb b (x * s.m)) _ (le-ltb b (x * s.m) now)
            ∙ sym (and_left (ltb b ((x + 1) * s.m)) _ (le-ltb b ((x + 1) * s.m) past))

  filling_more : (x : ℕ) (rest out o rest' out' table : List ℕ) → Filling x rest out → x < w → 0 < s.m →
      order s.m rest ≡ drawn o rest' → All (λ j. j < s.m) o → length o ≡ s.m → Table s (pixel secret x) table →
      Blackened s.n size out out' (block table o (x * s.m) s.m) → Filling (x + 1) rest' out'
  filling_more x rest out o rest' out' table h l pos e within long known put = record {
    os = h.os ++ o ∷ [];
    count = length_push h.os o ∙ ap (λ k. k + 1) h.count;
    draws = draws_more s.m w tape x h.os rest o rest' l h.draws e;
    bytes = put.bytes h.bytes;
    bits = λ k b lk lb.
        put.bits k b lk lb
        ∙ more_bits x table o known long within h.os h.count pos (film_bit size out k b) k b lk (h.bits k b lk lb);
  }

  pub filling_short : (x : ℕ) (rest out : List ℕ) → Filling x rest out → x < w → order s.m rest ≡ short → orders s.m w tape ≡ short
  filling_short x rest out h l e = draws_short s.m w tape x h.os rest l h.draws e

  pub filling_all : (x : ℕ) (rest out : List ℕ) → Filling x rest out → x ≡ w → size ≡ strip_size s.m w → length out ≡ s.n * size → Filled s w secret tape rest out
  filling_all x rest out h e fits long =
      let bits : ℕ → ℕ → Bool = λ i b. ltb b (strip_squares s.m w) && film_square s (pixel secret) h.os i (pixel_at s.m b) (square_at s.m b) in
      let whole : x * s.m ≡ strip_squares s.m w = ap (λ y. y * s.m) e ∙ sym (strip_squares_are s.m w) in
      record {
        os = h.os;
        draws = draws_all s.m w tape x h.os rest (omega arith) h.draws;
        films =
            joined_is (λ i. packed size (bits i)) size s.n 1 out long (λ k l.
            let more : suc k * size ≤ s.n * size = mul-le-mul_right size l in
            let here : suc k ≡ 1 + k = omega arith in
            strip_is out size k h.bytes (bits (suc k)) (omega arith) (λ b lb. h.bits k b l lb ∙ ap (λ y. ltb b y && square h.os k b) whole)
            ∙ ap (λ i. packed size (bits i)) here)
            ∙ ap (λ z. flat_map (λ i. packed z (bits i)) (range_with_len 1 s.n)) fits;
      }

  -- one more pixel, as the code has it: the length of the order for the number of columns, and the table that the pixel selects
  pub filling_on : (x len n : ℕ) (rest out o rest' out' white black table : List ℕ) (is_black : Bool) →
      len ≡ s.m → n ≡ s.n → is_black ≡ bit_at secret x → Tabled s white black → table ≡ cond is_black black white →
      Filling x rest out → x < w → 0 < s.m → order len rest ≡ drawn o rest' → All (λ j. j < len) o → length o ≡ len →
      Blackened n size out out' (block table o (x * length o) (length o)) → Filling (x + 1) rest' out'
  filling_on x len n rest out o rest' out' white black table is_black el en ef tables et h l pos drew within long put =
      let known : Table s (pixel secret x) table = rw (et, ← ef) (table_of s is_black white black tables) in
      filling_more x rest out o rest' out' table h l pos (rw el at drew) (rw el at within) (long ∙ el) known (rw (long ∙ el, en) at put)

pub block_within : (m w size x : ℕ) → x < w → size ≡ strip_size m w → x * m + m ≤ 8 * size
block_within m w size x l f =
    let more : suc x * m ≤ w * m = mul-le-mul_right m l in
    omega (arith, strip_squares_are m w)

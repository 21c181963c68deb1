-- What a set that is not qualified sees of a pixel does not depend on its colour, once the order of its block is renumbered.
-- For the law's `Conceals`.
use Rattle.std.proofs.Common.{◌≡◌, ℕ, ◌<◌, ◌≤◌, true, List, [], length, get_or, sym, refl, ap, ◌∙◌, arith}
use Rattle.std.proofs.lemmas.List.FromFn.{length-range_with_len}
use Rattle.std.proofs.lemmas.List.Elements.{All-get_or}
use Rattle.std.proofs.lemmas.List.{get_or-map}
use Rattle.schemes.specs.Keyholders.{member}
use Rattle.schemes.specs.Laws.{Renumbering, Whitens}
use Rattle.schemes.specs.Meaning.{Meaning}
use Rattle.schemes.specs.declared.colour.Colour.{Colour}
use Rattle.schemes.specs.declared.colour.Colour.TheVariants.{White, Black}
use Rattle.tapes.specs.Orders.{columns}
use Rattle.tapes.proofs.Arrangements.{Arranged}
use Rattle.tapes.proofs.Permutations.{columns_below}
use Rattle.maker.specs.Films.{film_square, strip_of}
use Rattle.maker.proofs.Renumberings.{unchanged, reversed}
use Rattle.maker.proofs.OrderCouplings.{Block, Blocks}
use Rattle.maker.proofs.FilmFacts.{same_strip}

-- An arrangement of the columns has as many, and no other.
module _ (m : ℕ) (o : List ℕ) (h : Arranged (columns m) o) where
  pub order_long : length o ≡ m
  order_long = h.size ∙ length-range_with_len 0 m

  pub order_below : (p : ℕ) → p < m → get_or o p 0 < m
  order_below p l = All-get_or (λ j. j < m) o p 0 (omega (arith, order_long)) (h.below m (columns_below m))

module _ (s : Meaning) (set : ℕ) (hidden : (ρ : Renumbering s.m) × Whitens s set ρ) where
  -- the renumbering that hides that a pixel is of the one colour and not of the other
  abbrev pub cover : Colour → Colour → Renumbering s.m
  cover White White = unchanged s.m
  cover White Black = reversed hidden.0
  cover Black White = hidden.0
  cover Black Black = unchanged s.m

  cell_hidden : (c c' : Colour) (i j : ℕ) → i ≤ s.n → member set i ≡ true → j < s.m → s.cell c i j ≡ s.cell c' i ((cover c c').to j)
  cell_hidden White White i j high inside l = refl
  cell_hidden White Black i j high inside l =
      ap (s.cell White i) (sym (hidden.0.back_there j l))
      ∙ sym (hidden.1 i (hidden.0.from j) high inside (hidden.0.from_below j l))
  cell_hidden Black White i j high inside l = hidden.1 i j high inside l
  cell_hidden Black Black i j high inside l = refl

  square_hidden : (c c' : Colour) (o o' : List ℕ) → Block (cover c c') o o' → (i p : ℕ) → i ≤ s.n → member set i ≡ true → p < s.m →
      s.cell c i (get_or o p 0) ≡ s.cell c' i (get_or o' p 0)
  square_hidden c c' o o' b i p high inside l =
      cell_hidden c c' i (get_or o p 0) high inside (order_below s.m o b.arranged p l)
      ∙ ap (s.cell c' i) (sym (get_or-map (cover c c').to o p 0 0 (omega (arith, order_long s.m o b.arranged))))
      ∙ ap (λ x. s.cell c' i (get_or x p 0)) (sym b.moved)

  pub strip_hidden : (w : ℕ) → 0 < s.m → (colours colours' : ℕ → Colour) (os os' : List (List ℕ)) → Blocks w (λ c. cover (colours c) (colours' c)) os os' →
      (i : ℕ) → i ≤ s.n → member set i ≡ true → strip_of s.m w (film_square s colours os i) ≡ strip_of s.m w (film_square s colours' os' i)
  strip_hidden w pos colours colours' os os' b i high inside =
      same_strip s.m w pos (film_square s colours os i) (film_square s colours' os' i) (λ c p lc lp.
      square_hidden (colours c) (colours' c) (get_or os c []) (get_or os' c []) (b c lc) i p high inside lp)

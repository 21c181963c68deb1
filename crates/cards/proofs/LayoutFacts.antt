-- The bytes of a card, field after field, as the code pushes them.
use Rattle.std.proofs.Common.{◌≡◌, ℕ, List, [], ◌∷◌, ◌++◌, length, sym, ap, ◌∙◌, append_assoc, append-nil}
use Rattle.cards.specs.Format.{field_bytes, sets_field}
use Rattle.cards.specs.declared.card.CardKind.{CardKind}
use Rattle.cards.specs.declared.card.CardKind.TheVariants.{Sets}

-- the field of sets: the count, and then the sets
pub sets_pushed : (kind : CardKind) (sets before counted after : List ℕ) (count : ℕ) → kind ≡ Sets → counted ≡ before ++ count ∷ []
    → count ≡ length sets → after ≡ counted ++ sets → after ≡ before ++ field_bytes (sets_field kind sets ∷ [])
sets_pushed kind sets before counted after count is p q r =
    r ∙ ap (λ l. l ++ sets) p ∙ append_assoc before (count ∷ []) sets
    ∙ (λ i. before ++ q i ∷ sym (append-nil sets) i)
    ∙ ap (λ k. before ++ field_bytes (sets_field k sets ∷ [])) (sym is)

-- What a `CardScheme` of the code means: what the scheme in it means.
use Rattle.std.specs.Prelude.{vec_items}
use Rattle.schemes.specs.AllOf.{all_of}
use Rattle.schemes.specs.Meaning.{Meaning}
use Rattle.schemes.specs.TwoOf.{two_of}
use Rattle.cumulative.specs.Access.{numbers}
use Rattle.cumulative.specs.Cumulative.{cumulative}
use Rattle.cards.specs.Contents.{contents}
use Rattle.cards.specs.Format.{Contents}
use Rattle.cards.specs.declared.card.Card.{Card}
use Rattle.cards.specs.declared.card_scheme.CardScheme.{CardScheme}
use Rattle.cards.specs.declared.card_scheme.CardScheme.TheVariants.{All, Two, Sets}

abbrev pub scheme_meaning : CardScheme → Meaning
scheme_meaning (All scheme) = all_of scheme.n
scheme_meaning (Two scheme) = two_of scheme.n
scheme_meaning (Sets scheme) = cumulative scheme.n (numbers (vec_items scheme.minimal))

-- A card with its scheme.
abbrev pub opened_meaning : (Card × CardScheme) → (Contents × Meaning)
opened_meaning opened = (contents opened.0, scheme_meaning opened.1)

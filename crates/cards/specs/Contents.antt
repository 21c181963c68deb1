-- What a `Card` of the code says, as the format has it: its sets as numbers.
use Rattle.std.specs.Prelude.{vec_items}
use Rattle.cumulative.specs.Access.{numbers}
use Rattle.cards.specs.Format.{Contents, says}
use Rattle.cards.specs.declared.card.Card.{Card}

abbrev pub contents : Card → Contents
contents card = says card.kind card.n (numbers (vec_items card.sets))

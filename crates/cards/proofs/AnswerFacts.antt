-- From the answer that is defined to what it says of the bytes: that they are a card or none.
use Rattle.std.proofs.Common.{ℕ, Bool, List, Ok, Err, Result, inl, inr, MatchResult}
use Rattle.cards.specs.Answers.{NoMemory, Answers}
use Rattle.cards.specs.Format.{Contents, IsCard, NoCard}
use Rattle.cards.specs.Reading.{reading}
use Rattle.cards.specs.declared.faults.CardFault.{CardFault}
use Rattle.cards.proofs.FormatFacts.{read_is_card, refused_is_no_card}

pub exactly_cards : {A : Type 0} (meaning : A → Contents) (bytes : List ℕ) (needed : Bool) (r : Result A CardFault)
    → Answers meaning (reading bytes) needed r
    → MatchResult r (λ card. IsCard bytes (meaning card)) (λ e. (NoMemory e → ⊥) → NoCard bytes)
exactly_cards meaning bytes needed (Ok card) e = read_is_card bytes (meaning card) e
exactly_cards meaning bytes needed (Err why) (inl e) = λ _. refused_is_no_card bytes why e
exactly_cards meaning bytes needed (Err why) (inr p) = λ never. absurd (never p.0)

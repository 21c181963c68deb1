-- A maker of the code as the definition of a run has it.
use Rattle.std.specs.Prelude.{◌≡◌, ℕ, List, None, Ok, Err, Result}
use Rattle.schemes.specs.Meaning.{Meaning}
use Rattle.maker.specs.declared.maker.Maker.{Maker}
use Rattle.maker.specs.declared.runs.Closed.{Closed}
use Rattle.maker.specs.declared.runs.Tally.{Tally}
use Rattle.maker.specs.Runs.{State, Answer, tallied, closed, number, refused, Call, Outcome, outcome, row_outcome}

-- Of a scheme its meaning counts, and of a tape the bytes that wait.
module _ {S T : Type 0} (means : S → Meaning) (bytes : T → List ℕ) where
  abbrev pub state_of : Maker S T → State
  state_of k = record { made = k.made; spoiled = k.spoiled; supply = k.supply; tape = bytes k.tape }

  -- what comes of a call of this maker
  abbrev pub outcome_of : Maker S T → Call → Outcome
  outcome_of k call = outcome (means k.scheme) k.width k.height (state_of k) call

  -- and of a row that is not refused before a byte is taken
  abbrev pub row_written : Maker S T → (secret out work : List ℕ) → Outcome
  row_written k secret out work = row_outcome None (means k.scheme) k.width (state_of k) secret out work

  -- a call takes the maker to the state that the outcome says, with its scheme and its page
  pub record Leaves (k k' : Maker S T) (o : Outcome) : Type 0 where
    pub left : state_of k' ≡ o.left
    pub scheme : k'.scheme ≡ k.scheme
    pub width : k'.width ≡ k.width
    pub height : k'.height ≡ k.height

-- A result is an answer: a number, or a refusal by its number.
abbrev pub Answers : {E : Type 0} → (E → ℕ) → Result ℕ E → Answer → Type 0
Answers number_of (Ok n) a = a ≡ number n
Answers number_of (Err why) a = a ≡ refused (number_of why)

abbrev pub tally_answer : Tally → Answer
tally_answer t = tallied t.made t.spoiled t.taken

abbrev pub answer_of : Closed → Answer
answer_of c = closed c.tally.made c.tally.spoiled c.tally.taken c.is_full

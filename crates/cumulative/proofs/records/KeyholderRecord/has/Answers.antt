use Rattle.std.proofs.Common.{suc, sym, ◌∙◌, arith}
use Rattle.std.proofs.lemmas.Bool.{le-ltb}
use Rattle.schemes.specs.Keyholders.{most_keyholders}
use Rattle.schemes.proofs.KeyholderFacts.{member_above}
use Rattle.cumulative.proofs.records.KeyholderRecord.has.Goals as goal

pub returns-else-q-lt-MOST-KEYHOLDERS : goal.returns-else-q-lt-MOST-KEYHOLDERS
returns-else-q-lt-MOST-KEYHOLDERS c =
    le-ltb c.args.q most_keyholders (omega arith)
    ∙ sym (member_above c.args.self.rows.bits (suc c.args.q) (omega arith) (omega arith))

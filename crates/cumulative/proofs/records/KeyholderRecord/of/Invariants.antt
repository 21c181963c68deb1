use Rattle.cumulative.specs.Access.{numbers}
use Rattle.cumulative.proofs.RecordFacts.{NotedBelow}
use Rattle.cumulative.proofs.records.KeyholderRecord.of.Given as goal

abbrev pub invariant-loop-q : goal.invariant-loop-q
invariant-loop-q l = NotedBelow (numbers l.forbidden) l.keyholder l.q l.record.rows.bits

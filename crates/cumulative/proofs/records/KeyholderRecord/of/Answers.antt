use Rattle.std.proofs.Common.{rules}
use Rattle.cumulative.specs.Access.{numbers}
use Rattle.cumulative.proofs.RecordFacts.{noted_none}
use Rattle.cumulative.proofs.records.KeyholderRecord.of.Goals as goal

pub loop-q-init : goal.loop-q-init
loop-q-init c = noted_none (numbers c.args.forbidden.now) c.args.keyholder c.default-record.result.rows.bits (search rules)

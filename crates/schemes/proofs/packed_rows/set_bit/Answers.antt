use Rattle.schemes.proofs.PackedFacts.{bit_set, bytes_set}
use Rattle.schemes.proofs.packed_rows.set_bit.Goals as goal

pub returns-then-k-row : goal.returns-then-k-row
returns-then-k-row c =
    rw c.with_bit.ensures
    (record {
      bits = bit_set c.args.row.now c.args.k c.if-k-row.true;
      bytes = bytes_set c.args.row.now c.args.k c.if-k-row.true;
    })

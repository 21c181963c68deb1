use Rattle.std.proofs.Common.{◌≡◌, ◌+◌, ◌-◌, ◌*◌, min, get_or, ◌∙◌, arith}
use Rattle.std.proofs.lemmas.List.{take_rest}
use Rattle.pictures.specs.Reading.{digits}
use Rattle.pictures.proofs.Steps.{digits_more}
use Rattle.pictures.proofs.parts.read_number.Goals as goal

pub loop-rest-preserved : goal.loop-rest-preserved
loop-rest-preserved c =
    let bytes = c.args.bytes.now in
    let rest = c.loop-rest.rest.now in
    let n = c.loop-rest.n in
    let more : c.min-n.result ≡ min (n * 10 + (get_or rest 0 0 - 48)) 4097 = omega arith in (
      omega arith,
      (λ i. digits bytes (more i) (take_rest rest 1 i)) ∙ digits_more bytes rest n (omega arith) (omega arith) (omega arith) ∙ c.loop-rest.invariant.1,
    )

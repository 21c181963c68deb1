use Rattle.std.proofs.Common.{◌≡◌, ◌∷◌, length, Some, None, Err, rules, sym, ap, ◌∙◌}
use Rattle.std.proofs.lemmas.Result.{err_from_is_err_and, MatchResult-weaker}
use Rattle.cards.specs.Fields.{written, split_written}
use Rattle.cards.specs.Reading.{reading}
use Rattle.cards.specs.declared.faults.CardRefusal.TheVariants.{EndsEarly}
use Rattle.cards.specs.declared.faults.CardFault.TheVariants.{Format}
use Rattle.cards.proofs.FieldFacts.{read_by_fields, said_or_ends}
use Rattle.cards.proofs.reading.split_fields.Goals as goal

pub returns-in_err-written : goal.returns-in_err-written
returns-in_err-written c =
    let map = c.in_ok-map.map.now in
    let rest = c.in_ok-map.rest.now in
    let bytes : c.args.bytes.now ≡ map ∷ rest = search rules in
    let none : split_written map rest ≡ None = search rules in
    let p = err_from_is_err_and c.from_residual-in_err-written.result c.from_residual-in_err-written.ensures.1 in
    let ends : p.0 ≡ Format EndsEarly (length c.args.bytes.now) = search rules in
    let read = ap reading bytes ∙ read_by_fields map rest c.if-map-gt-ALL_BITS.false ∙ ap (said_or_ends (length (map ∷ rest))) none in
    rw p.1 (read ∙ ap (λ l. Err (Format EndsEarly (length l))) (sym bytes) ∙ ap Err (sym ends))

pub returns : goal.returns
returns c =
    let map = c.in_ok-map.map.now in
    let rest = c.in_ok-map.rest.now in
    let bytes : c.args.bytes.now ≡ map ∷ rest = search rules in
    let fields : split_written map rest ≡ Some (written c.in_ok-written.written) = search rules in
    let read = ap reading bytes ∙ read_by_fields map rest c.if-map-gt-ALL_BITS.false ∙ ap (said_or_ends (length (map ∷ rest))) fields in
    MatchResult-weaker c.fields.result c.fields.ensures (λ f e. read ∙ e) (λ why e. read ∙ e)

use Rattle.std.proofs.Common.{rules, ◌≡◌, Some, option_map, ap, ◌∙◌}
use Rattle.std.proofs.lemmas.Result.{err_from_is_err_and}
use Rattle.cards.specs.Fields.{written, listed, sets_said}
use Rattle.cards.specs.Rising.{wrong_at}
use Rattle.cards.specs.declared.card.CardKind.TheVariants.{Sets}
use Rattle.cards.proofs.RisingFacts.{fall_of_bytes, in_order, out_of_order}
use Rattle.cards.proofs.reading.Written.sets.Goals as goal

pub returns-in_err-check_rising-in-Sets-Some : goal.returns-in_err-check_rising-in-Sets-Some
returns-in_err-check_rising-in-Sets-Some c =
    let sets = c.in-Sets-Some.sets.now in
    let at = c.sets_at.result in
    let said : sets_said (written c.args.self.now) c.args.kind ≡ listed at Sets (Some sets) = search rules in
    let p = err_from_is_err_and c.from_residual.result c.from_residual.ensures.1 in
    rw p.1 (said ∙ out_of_order at sets p.0
    (ap Some p.2 ∙ c.in_err-check_rising-in-Sets-Some.ensures ∙ ap (option_map (wrong_at at)) (fall_of_bytes sets)))

pub returns-in_ok-check_rising-in-Sets-Some : goal.returns-in_ok-check_rising-in-Sets-Some
returns-in_ok-check_rising-in-Sets-Some c =
    let sets = c.in-Sets-Some.sets.now in
    let at = c.sets_at.result in
    let said : sets_said (written c.args.self.now) c.args.kind ≡ listed at Sets (Some sets) = search rules in
    said ∙ in_order at sets (c.in_ok-check_rising-in-Sets-Some.ensures ∙ ap (option_map (wrong_at at)) (fall_of_bytes sets))

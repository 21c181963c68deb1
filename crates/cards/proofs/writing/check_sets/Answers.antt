use Rattle.std.proofs.Common.{cond, ltb, length, Some, None, option_map, ap, sym, ◌∙◌}
use Rattle.cumulative.specs.Access.{numbers}
use Rattle.cards.specs.Reading.{rising_front}
use Rattle.cards.specs.Rising.{wrong_at}
use Rattle.cards.specs.Writing.{sets_fault}
use Rattle.cards.proofs.RisingFacts.{fall_of_sets, refused_at_fall}
use Rattle.cards.proofs.writing.check_sets.Goals as goal

pub returns-in-Sets : goal.returns-in-Sets
returns-in-Sets c =
    let sets = numbers c.args.sets.now in
    c.check_rising.ensures ∙ ap (option_map (wrong_at c.first_set_at.result)) (fall_of_sets c.args.sets.now)
    ∙ refused_at_fall c.first_set_at.result sets
    ∙ (λ i. cond (ltb (rising_front sets) (length sets)) (Some (wrong_at (c.first_set_at.ensures i) (rising_front sets))) None)
    ∙ ap (λ kind. sets_fault kind c.args.n sets) (sym c.in-Sets.is)

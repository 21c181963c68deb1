use Rattle.std.proofs.Common.{◌≤◌, ◌^◌, length, sym, ◌∙◌, arith}
use Rattle.cumulative.specs.Access.{numbers, maximal}
use Rattle.cumulative.specs.ListedFacts.{list_counted}
use Rattle.cumulative.specs.Making.{most_sets}
use Rattle.cumulative.proofs.ListFacts.{numbers_length, improper_first, redundant_first}
use Rattle.cumulative.proofs.MakingFacts.{keyholders_passed, refused_members, refused_redundant, passed_all, sets_proper, refused_forbidden, passed_forbidden}
use Rattle.cumulative.proofs.access.Access.new.Goals as goal

pub returns-in-Some-clause-refusal : goal.returns-in-Some-clause-refusal
returns-in-Some-clause-refusal c =
    let sets = c.args.minimal.now in
    let few = keyholders_passed c.args.n c.in_ok-check_keyholders.ensures in
    let some : 1 ≤ length (numbers sets) = grind (arith, numbers_length) in
    let bound : length (numbers sets) ≤ most_sets = grind (arith, numbers_length) in
    sym (refused_members c.args.n (numbers sets) few.0 few.1 some bound c.in-Some.place (c.in-Some.ensures ∙ improper_first c.args.n sets))

pub returns-in-Some-first_redundant-clause-refusal : goal.returns-in-Some-first_redundant-clause-refusal
returns-in-Some-first_redundant-clause-refusal c =
    let sets = c.args.minimal.now in
    let few = keyholders_passed c.args.n c.in_ok-check_keyholders.ensures in
    let some : 1 ≤ length (numbers sets) = grind (arith, numbers_length) in
    let bound : length (numbers sets) ≤ most_sets = grind (arith, numbers_length) in
    sym (refused_redundant c.args.n (numbers sets) few.0 few.1 some bound (c.in_default.ensures ∙ improper_first c.args.n sets)
    c.in-Some-first_redundant.place (c.in-Some-first_redundant.ensures ∙ redundant_first sets))

pub returns-then-count_forbidden-gt-MOST_FORBIDDEN-clause-refusal : goal.returns-then-count_forbidden-gt-MOST_FORBIDDEN-clause-refusal
returns-then-count_forbidden-gt-MOST_FORBIDDEN-clause-refusal c =
    let sets = c.args.minimal.now in
    let few = keyholders_passed c.args.n c.in_ok-check_keyholders.ensures in
    let some : 1 ≤ length (numbers sets) = grind (arith, numbers_length) in
    let bound : length (numbers sets) ≤ most_sets = grind (arith, numbers_length) in
    let counted = list_counted (maximal c.args.n (numbers sets)) (2 ^ c.args.n) in
    sym (passed_all c.args.n (numbers sets) few.0 few.1 some bound (c.in_default.ensures ∙ improper_first c.args.n sets) (c.in_default-first_redundant.ensures ∙ redundant_first sets)
    ∙ refused_forbidden c.args.n (numbers sets) (omega (arith, counted, c.count_forbidden.ensures)))

pub returns-clause-refusal : goal.returns-clause-refusal
returns-clause-refusal c =
    let sets = c.args.minimal.now in
    let few = keyholders_passed c.args.n c.in_ok-check_keyholders.ensures in
    let some : 1 ≤ length (numbers sets) = grind (arith, numbers_length) in
    let bound : length (numbers sets) ≤ most_sets = grind (arith, numbers_length) in
    let counted = list_counted (maximal c.args.n (numbers sets)) (2 ^ c.args.n) in
    sym (passed_all c.args.n (numbers sets) few.0 few.1 some bound (c.in_default.ensures ∙ improper_first c.args.n sets) (c.in_default-first_redundant.ensures ∙ redundant_first sets)
    ∙ passed_forbidden c.args.n (numbers sets) (omega (arith, counted, c.count_forbidden.ensures)))

pub returns-clause-proper : goal.returns-clause-proper
returns-clause-proper c =
    let sets = c.args.minimal.now in
    let few = keyholders_passed c.args.n c.in_ok-check_keyholders.ensures in
    let some : 1 ≤ length (numbers sets) = grind (arith, numbers_length) in
    let bound : length (numbers sets) ≤ most_sets = grind (arith, numbers_length) in
    sets_proper c.args.n (numbers sets) few.0 few.1 some bound (c.in_default.ensures ∙ improper_first c.args.n sets)

pub returns-clause-few : goal.returns-clause-few
returns-clause-few c =
    let counted = list_counted (maximal c.args.n (numbers c.args.minimal.now)) (2 ^ c.args.n) in
    omega (arith, counted, c.count_forbidden.ensures)

use Rattle.std.proofs.Common.{◌^◌, sym, ap, ◌∙◌, subst}
use Rattle.std.proofs.lemmas.Result.{IfOk-weaker}
use Rattle.schemes.specs.Keyholders.{most_keyholders}
use Rattle.cumulative.specs.Access.{numbers}
use Rattle.cumulative.specs.ListedFacts.{list_filtered}
use Rattle.films.specs.Minimal.{is_minimal, IsMinimalList}
use Rattle.films.proofs.MinimalFacts.{minimal_list}
use Rattle.films.proofs.minimal.minimal_sets.Goals as goal

pub returns-clause-sets : goal.returns-clause-sets
returns-clause-sets g c =
    let s = g.S.Scheme.means c.args.scheme.now in
    IfOk-weaker c.listed_sets.result _ _ (λ v e. ap numbers e ∙ list_filtered (is_minimal s) (2 ^ most_keyholders)) c.listed_sets.ensures

pub returns-clause-exactly : goal.returns-clause-exactly
returns-clause-exactly g c =
    let s = g.S.Scheme.means c.args.scheme.now in
    IfOk-weaker c.listed_sets.result _ _
    (λ v e. subst (IsMinimalList s) (sym (ap numbers e ∙ list_filtered (is_minimal s) (2 ^ most_keyholders))) (minimal_list s (g.met.S.Scheme.in_range c.args.scheme.now))) c.listed_sets.ensures

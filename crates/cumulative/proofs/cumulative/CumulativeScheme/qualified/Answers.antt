use Rattle.std.proofs.Common.{◌≡◌, Bool, ◌&&◌, List, sym, ap, ◌∙◌}
use Rattle.std.specs.List.{list_any}
use Rattle.schemes.specs.declared.keyholders.KeyholderSet.{KeyholderSet}
use Rattle.cumulative.specs.Access.{numbers, subset, qualifies}
use Rattle.cumulative.proofs.ListFacts.{any_within}
use Rattle.cumulative.proofs.cumulative.CumulativeScheme.qualified.Goals as goal

pub returns-then-is_among : goal.returns-then-is_among
returns-then-is_among c =
    let sets = c.args.self.now.minimal.items in
    let set = c.args.set.bits in
    let asked : c.is_qualified.result ≡ list_any (λ (least : KeyholderSet). subset least.bits set) c.deref.result.now = c.is_qualified.ensures in
    asked ∙ any_within c.deref.result.now set
    ∙ ap (λ (list : List KeyholderSet). qualifies (numbers list) set) c.deref.ensures.value
    ∙ sym (ap (λ (b : Bool). b && qualifies (numbers sets) set) (sym c.is_among.ensures ∙ c.if-is_among.true))
